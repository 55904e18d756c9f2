-- The values by which the code holds what the exchange finds.
use Rattle.std.specs.Prelude.{Bool, false, cond, ◌&&◌, List, ℕ, eqb, get_or, set}
use Rattle.std.specs.Prelude.{Option, None, Some}
use Rattle.numbers.specs.Choose.{first_some}
use Rattle.numbers.specs.UpTo.{table}
use Rattle.states.specs.Configuration.{configuration_of}
use Rattle.network.specs.Records.{Network}
use Rattle.graph.specs.declared.rows.Graph.{Graph}
use Rattle.graph.specs.Rows.{row_ends_path, row_radial}
use Rattle.losses.specs.Loss.{loss_in}
use Rattle.states.specs.Switches.{State, swapped}
use Rattle.exchange.specs.declared.exchange.Trial.{Trial}
use Rattle.exchange.specs.declared.exchange.BranchExchange.{BranchExchange}
use Rattle.exchange.specs.Exchange.{section_of, Exchange}

-- the first operable section switch of each branch
unfoldable pub sections_of : Network → List (Option ℕ)
sections_of N = table (section_of N) 512

-- ---- a trial by the rows of the feeder and the arrays that the code has
-- a section of branch k, where it is closed and the swap with it radial: with the tie closed these branches are live
unfoldable pub row_swap_with : Graph → List ℕ → List Bool → ℕ → Option ℕ → Option ℕ
row_swap_with g state live k None = None
row_swap_with g state live k (Some section) = cond (eqb (get_or state section 1) 0 && row_radial g (set live k false)) (Some section) None

-- the section that is listed for it
unfoldable pub row_swap : Graph → List (Option ℕ) → List ℕ → List Bool → ℕ → Option ℕ
row_swap g sections state live k = row_swap_with g state live k (get_or sections k None)

-- the first along the loop of a tie on branch k, which is live then or not
unfoldable pub row_trial : Graph → List (Option ℕ) → List ℕ → List Bool → ℕ → Bool → Option ℕ
row_trial g sections state live k made-live = first_some (row_swap g sections state (set live k made-live)) (row_ends_path g live k)

-- the state after it
unfoldable pub swap_at : State → ℕ → Option ℕ → Option State
swap_at s tie None = None
swap_at s tie (Some section) = Some (swapped s tie section)

-- ---- where the exchange stands
-- a state that was found, with its loss
unfoldable pub trial_of : Network → Option State → Option Trial
trial_of N None = None
trial_of N (Some t) = Some (record { configuration = configuration_of t; loss = loss_in N t })

-- the state with which the next round begins, with its loss
abbrev pub current_of : Exchange → Trial
current_of x = record { configuration = configuration_of x.state; loss = x.loss }

unfoldable pub exchange_of : Exchange → BranchExchange
exchange_of x = record { current = current_of x; rounds = x.rounds }
