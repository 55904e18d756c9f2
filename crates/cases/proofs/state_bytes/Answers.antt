-- `state_bytes` meets its contract: each of its bytes is what `state_byte` answers.
use Rattle.std.proofs.Common.{rules, get_or}
use Rattle.cases.specs.Cases.{digit_of, state_bytes}
use Rattle.cases.proofs.Laws.{made_table}
use Rattle.cases.proofs.state_bytes.Goals as goal

pub returns : goal.returns
unfolding state_bytes
returns c = made_table _ (λ i. digit_of (get_or c.args.digits.now i 48)) (λ i y q called. search rules) _ _ c.from_fn.ensures.items
