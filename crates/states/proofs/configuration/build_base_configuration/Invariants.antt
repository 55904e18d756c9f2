-- `build_base_configuration` meets its contract: the first i entries are the base's, the others still 00.
use Rattle.std.proofs.Common.{◌≡◌, get_or}
use Rattle.numbers.specs.TableLaws.{filled}
use Rattle.states.specs.Live.{base_state}
use Rattle.network.specs.Records.{records_of}
use Rattle.states.proofs.configuration.build_base_configuration.Given as goal

abbrev pub invariant-loop-i : goal.invariant-loop-i
invariant-loop-i l = l.configuration.switches ≡ filled (λ j. get_or (base_state (records_of l.fn.network)) j 0) 0 512 l.i
