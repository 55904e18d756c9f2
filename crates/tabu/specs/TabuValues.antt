-- The values by which the code holds where the tabu search stands and what it finds.
use Rattle.std.specs.Prelude.{◌≡◌, Bool, cond, not, ◌||◌, ℕ, ◌≤◌, length}
use Rattle.std.specs.Prelude.{Option, None, Some}
use Rattle.std.specs.Float.Ieee.{lt}
use Rattle.numbers.specs.Choose.{among}
use Rattle.states.specs.declared.configuration.NetworkConfiguration.{NetworkConfiguration}
use Rattle.network.specs.declared.topology.PowerNetwork.{PowerNetwork}
use Rattle.states.specs.Configuration.{configuration_of}
use Rattle.network.specs.Records.{Network, records_of}
use Rattle.feeders.specs.Feeder.{radial_in}
use Rattle.losses.specs.Loss.{loss_in}
use Rattle.tabu.specs.declared.tabu.Candidate.{Candidate}
use Rattle.tabu.specs.declared.tabu.TabuSearch.{TabuSearch}
use Rattle.states.specs.Switches.{toggled}
use Rattle.tabu.specs.Tabu.{Move, Tabu}
use Rattle.searches.specs.FromBase.{FromBase}
use Rattle.searches.specs.Rounds.{lesser_by}

-- ---- moves
-- a move that can be made
abbrev pub as_candidate : Move → Candidate
as_candidate m = record { configuration = configuration_of m.state; loss = m.loss; moved = m.moved }

unfoldable pub candidate_of : Option Move → Option Candidate
candidate_of None = None
candidate_of (Some m) = Some (as_candidate m)

-- the least loss wins, the earlier on a tie
abbrev pub lesser_candidate : Option Candidate → Candidate → Option Candidate
lesser_candidate = lesser_by (λ m. m.loss)

-- switch i toggled
abbrev pub toggled_in : NetworkConfiguration → ℕ → NetworkConfiguration
toggled_in c i = record { switches = toggled c.switches i }

-- ---- where the search stands
unfoldable pub tabu_of : Network → Tabu → TabuSearch
tabu_of N x =
    record {
      configuration = configuration_of x.state;
      radial = radial_in N x.state;
      loss = loss_in N x.state;
      best = configuration_of x.best;
      best_loss = x.best_loss;
      barred = x.barred;
      ended = x.ended;
    }

-- a barred id may move where the loss is below the best ever
abbrev pub allows : TabuSearch → Candidate → Bool
allows y m = not (among m.moved y.barred) || lt m.loss y.best_loss

-- the best of a round after one candidate more
abbrev pub seen : TabuSearch → Option Candidate → Candidate → Option Candidate
seen y best m = cond (allows y m) (lesser_candidate best m) best

-- the code's y is where the search stands
pub record Stands (n : PowerNetwork) (y : TabuSearch) (x : Tabu) : Type 0 where
  pub held_by : y ≡ tabu_of (records_of n) x
  pub from_base : FromBase (records_of n) x.state
  pub short : length x.barred ≤ 7
