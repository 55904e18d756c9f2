-- `check_states` meets its contract: the first of its parts that refuses decides.
use Rattle.std.proofs.Common.{◌∙◌}
use Rattle.network.specs.AnswerLaws.{refused_on, accepted_then}
use Rattle.operations.proofs.operations.check_states.Goals as goal

pub returns-in_err-check_network : goal.returns-in_err-check_network
returns-in_err-check_network c = refused_on _ _ c.from_residual.ensures.1 c.in_err-check_network.was c.check_network.ensures

pub returns-in_err-check_state : goal.returns-in_err-check_state
returns-in_err-check_state c =
    refused_on _ _ c.from_residual-in_err-check_state.ensures.1 c.in_err-check_state.was c.check_state.ensures
    ∙ accepted_then _ c.in_ok-check_network.was c.check_network.ensures

pub returns : goal.returns
returns c = c.check_state-2.ensures ∙ accepted_then _ c.in_ok-check_state.was c.check_state.ensures ∙ accepted_then _ c.in_ok-check_network.was c.check_network.ensures
