-- The values by which the code holds the ties, the live branches of a mask, and where the exhaustive search stands.
use Rattle.std.specs.Prelude.{Bool, true, false, cond, List, ℕ, Float, get_or, set}
use Rattle.std.specs.Prelude.{Option, None, Some}
use Rattle.std.specs.Option.{option_map}
use Rattle.std.specs.Float.Ieee.{lt}
use Rattle.numbers.specs.Choose.{those}
use Rattle.numbers.specs.TableLaws.{filled}
use Rattle.numbers.specs.UpTo.{up_to}
use Rattle.network.specs.declared.switch.ReconfigAlgorithm.TheVariants as method
use Rattle.network.specs.declared.topology.PowerNetwork.{PowerNetwork}
use Rattle.states.specs.Configuration.{configuration_of}
use Rattle.network.specs.Records.{Network}
use Rattle.states.specs.Switches.{branch_of, size, is_tie}
use Rattle.exhaustive.specs.declared.exhaustive.ExhaustiveSearch.{ExhaustiveSearch}
use Rattle.exhaustive.specs.declared.exhaustive.LeastState.{LeastState}
use Rattle.exhaustive.specs.declared.exhaustive.Ties.{Ties}
use Rattle.exhaustive.specs.Exhaustive.{bit, Least, Exhaustive}

-- ---- ties
-- the position of the t-th tie among the switches
abbrev pub tie_at : Network → ℕ → ℕ
tie_at N t = get_or (those (is_tie N) (size N)) t 0

-- the branches of the first t ties
unfoldable pub ties_of : Network → ℕ → Ties
ties_of N t = record { count = t; on = filled (λ j. branch_of N (tie_at N j)) 0 10 t }

-- flags of live branches, with the t-th tie opened if its bit of the mask is 0
abbrev pub opening : Ties → ℕ → List Bool → ℕ → List Bool
opening ties mask flags t = cond (bit mask t) flags (set flags (get_or ties.on t 0) false)

unfoldable pub opened_by : Ties → ℕ → List Bool → List Bool
opened_by ties mask live = up_to (opening ties mask) live ties.count

-- ---- where the search stands

-- a state with its loss
abbrev pub least_of : Least → LeastState
least_of b = record { configuration = configuration_of b.state; loss = b.loss }

-- the least so far, and how many radial states there were. Where none was found, `least_or_base` takes the base with its loss
unfoldable pub exhaustive_of : Exhaustive → ExhaustiveSearch
exhaustive_of x = record { least = option_map least_of x.least; radial_count = x.radial_count }

-- is a radial state with this loss the least so far
abbrev pub is_least : Option LeastState → Float → Bool
is_least None loss = true
is_least (Some b) loss = lt loss b.loss

-- the feeder with method 02 in its head, as the code has it
abbrev pub exhaustive_head : PowerNetwork → PowerNetwork
exhaustive_head n =
    record {
      buses = n.buses;
      branches = n.branches;
      switches = n.switches;
      bus_count = n.bus_count;
      branch_count = n.branch_count;
      switch_count = n.switch_count;
      base_mva = n.base_mva;
      algorithm = method.Exhaustive;
      max_iterations = n.max_iterations;
      supply = n.supply;
    }
