-- `live_list` meets its contract: the first k flags say which branches are live, the others are still false.
use Rattle.std.proofs.Common.{◌≡◌, false}
use Rattle.numbers.specs.TableLaws.{filled}
use Rattle.states.specs.LiveLaws.{live_by}
use Rattle.states.proofs.configuration.live_list.Given as goal

abbrev pub invariant-loop-k : goal.invariant-loop-k
invariant-loop-k l = l.flags ≡ filled (live_by l.branches l.opened) false 512 l.k
