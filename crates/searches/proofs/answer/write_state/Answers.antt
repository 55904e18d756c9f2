-- `write_state` meets its contract: a configuration has no more bytes than those of 512 switches.
use mathlib.Core.Path.{◌≡◌}
use lib.ListN.{length}
use borrow.Author.Rules.{rules}
use Rattle.searches.specs.SearchLaws.{front_written}
use Rattle.searches.proofs.answer.write_state.Goals as goal

pub returns : goal.returns
returns c =
    let long : length c.args.best.switches ≡ 512 = search rules in
    front_written c.args.best.switches _ long c.min-count.ensures c.from.ensures c.write_bytes.ensures
