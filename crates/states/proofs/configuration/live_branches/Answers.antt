-- `live_branches` meets its contract: the flags of the branches with an open switch say which are live.
use Rattle.std.proofs.Common.{◌∙◌, arith}
use Rattle.states.specs.LiveLaws.{live_read}
use Rattle.network.proofs.ArrayLengths.{switches_512}
use Rattle.states.proofs.ArrayLengths.{bytes_512}
use Rattle.states.proofs.configuration.live_branches.Goals as goal

pub returns : goal.returns
returns c =
    c.live_list.ensures
    ∙ live_read c.args.network c.args.configuration.switches _ _ (switches_512 c.args.network c.well_formed.0) (bytes_512 c.args.configuration c.well_formed.1.0) (omega arith) (omega arith) c.open_branches-opened.ensures
