-- Document 01's tabu search, step by step.
use Rattle.std.specs.Prelude.{Bool, true, false, cond, not, ◌&&◌, ◌||◌, List, [], ◌∷◌, ◌++◌, ℕ, ◌-◌, Float, length, drop}
use Rattle.std.specs.Prelude.{Option, None, Some}
use Rattle.std.specs.Float.Ieee.{lt}
use Rattle.numbers.specs.UpTo.{up_to}
use Rattle.network.specs.Records.{Network}
use Rattle.numbers.specs.Choose.{among}
use Rattle.states.specs.Live.{base_state}
use Rattle.states.specs.Switches.{State, operable, size, switch, toggled}
use Rattle.feeders.specs.Feeder.{radial_in}
use Rattle.losses.specs.Loss.{loss_in}
use Rattle.searches.specs.Results.{Best}
use Rattle.searches.specs.Rounds.{until_ended, lesser_by}

-- a move that can be made: the state after it, its loss, and the id of the switch that it moves
pub record Move : Type 0 where
  pub state : State
  pub loss : Float
  pub moved : ℕ

-- where the search stands after some rounds: the state, the best ever and its loss, and the ids that are barred
pub record Tabu : Type 0 where
  pub state : State
  pub best : State
  pub best_loss : Float
  pub barred : List ℕ
  pub ended : Bool

-- switch i toggled alone
abbrev pub move_of : Network → Tabu → ℕ → Move
move_of N x i = record { state = toggled x.state i; loss = loss_in N (toggled x.state i); moved = (switch N i).id }

-- it is of an operable switch, its result is radial, and it is not barred or "the loss is below the best ever"
unfoldable pub allowed : Network → Tabu → ℕ → Bool
allowed N x i =
    operable N i
    && (radial_in N (toggled x.state i)
    && (not (among (switch N i).id x.barred) || lt (loss_in N (toggled x.state i)) x.best_loss))

-- "the least loss wins, the earlier on a tie"
abbrev pub lesser : Option Move → Move → Option Move
lesser = lesser_by (λ m. m.loss)

-- a switch more in a round
abbrev pub seeing : Network → Tabu → Option Move → ℕ → Option Move
seeing N x best i = cond (allowed N x i) (lesser best (move_of N x i)) best

-- "each toggles every operable switch alone, in list order, and keeps radial results"
unfoldable pub best_move : Network → Tabu → Option Move
best_move N x = up_to (seeing N x) None (size N)

-- "The last 7 moved ids"
unfoldable pub last_seven : List ℕ → List ℕ
last_seven l = drop (length l - 7) l

-- the winner "is the next round's state"; it is the answer where its "loss is strictly below the best ever". "No candidate ends it"
unfoldable pub after_move : Tabu → Option Move → Tabu
after_move x None = record { state = x.state; best = x.best; best_loss = x.best_loss; barred = x.barred; ended = true }
after_move x (Some m) =
    record {
      state = m.state;
      best = cond (lt m.loss x.best_loss) m.state x.best;
      best_loss = cond (lt m.loss x.best_loss) m.loss x.best_loss;
      barred = last_seven (x.barred ++ (m.moved ∷ []));
      ended = false;
    }

-- where it stands after a round more
abbrev pub next : Network → Tabu → Tabu
next N x = after_move x (best_move N x)

-- "The answer is the base until a move's loss is strictly below the best ever"
abbrev pub tabu_start : Network → Tabu
tabu_start N = record { state = base_state N; best = base_state N; best_loss = loss_in N (base_state N); barred = []; ended = false }

-- "up to max_iterations rounds"
unfoldable pub tabu : Network → Tabu
tabu N = until_ended (λ x. x.ended) (next N) N.iterations (tabu_start N)

-- "It reports max_iterations and converged"
unfoldable pub tabu_best : Network → Best
tabu_best N =
    let x = tabu N in
    record { state = x.best; iterations = N.iterations; converged = true }
