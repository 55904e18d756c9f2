-- Document 01's branch exchange, step by step. Its background is Merlin and Back 1975.
use Rattle.std.specs.Prelude.{Bool, true, false, cond, not, ◌&&◌, List, ℕ, suc, eqb, ltb, Float}
use Rattle.std.specs.Prelude.{Option, None, Some}
use Rattle.std.specs.Float.{binary64}
use Rattle.std.specs.Float.Ieee.{sub, lt}
use Rattle.numbers.specs.Constants.{billionth}
use Rattle.numbers.specs.Choose.{least, first_some, last_some}
use Rattle.network.specs.Records.{Network}
use Rattle.states.specs.Live.{live, base_state}
use Rattle.states.specs.Switches.{State, byte, branch_of, operable, size, is_tie, swapped}
use Rattle.feeders.specs.Feeder.{ends_path, radial_in}
use Rattle.losses.specs.Loss.{loss_in}
use Rattle.searches.specs.Results.{Best}
use Rattle.searches.specs.Rounds.{until_ended}

-- "the normally open, operable, still open switches"
abbrev pub seen : Network → State → ℕ → Bool
seen N s i = is_tie N i && (operable N i && eqb (byte s i) 1)

-- "The loop is the breadth-first path from the tie's from bus to its to bus"
unfoldable pub loop_of : Network → State → ℕ → List ℕ
loop_of N s tie = ends_path N (live N s) (branch_of N tie)

-- the "first operable section switch" of branch k
unfoldable pub section_of : Network → ℕ → Option ℕ
section_of N k = least (λ i. eqb (branch_of N i) k && (not (is_tie N i) && operable N i)) (size N)

-- the swap of a tie with a section, where the section "is closed" and the "swap is radial"
unfoldable pub swap_with : Network → State → ℕ → Option ℕ → Option State
swap_with N s tie None = None
swap_with N s tie (Some section) = cond (eqb (byte s section) 0 && radial_in N (swapped s tie section)) (Some (swapped s tie section)) None

-- "so the rank is path order. The first branch whose first operable section switch is closed and whose swap is radial is tried, then the tie is done, better or not"
unfoldable pub trial : Network → State → ℕ → Option State
trial N s tie = first_some (λ k. swap_with N s tie (section_of N k)) (loop_of N s tie)

-- "A trial improves when its loss is below current − 1e-9"
unfoldable pub improves : Network → Float → State → Bool
improves N current t = lt (loss_in N t) (sub binary64 current billionth)

-- a trial, if it improves
unfoldable pub improved : Network → Float → Option State → Option State
improved N current None = None
improved N current (Some t) = cond (improves N current t) (Some t) None

-- what a round finds at switch i, in the state with which it began: the trial of a tie that it sees, if it improves
abbrev pub improving : Network → State → Float → ℕ → Option State
improving N s current i = cond (seen N s i) (improved N current (trial N s i)) None

-- a round "sees the normally open, operable, still open switches in list order"; "The last improving tie wins the round"
unfoldable pub round_of : Network → State → Float → Option State
round_of N s current = last_some (improving N s current) (size N)

-- where the exchange stands after some rounds
pub record Exchange : Type 0 where
  pub state : State
  pub loss : Float
  pub rounds : ℕ
  pub ended : Bool

-- "Every round counts"; "A round without one ends the search"
unfoldable pub after_round : Network → Exchange → Option State → Exchange
after_round N x None = record { state = x.state; loss = x.loss; rounds = suc x.rounds; ended = true }
after_round N x (Some t) = record { state = t; loss = loss_in N t; rounds = suc x.rounds; ended = false }

-- where it stands after a round more
abbrev pub next : Network → Exchange → Exchange
next N x = after_round N x (round_of N x.state x.loss)

-- the base, before the first round
abbrev pub exchange_start : Network → Exchange
exchange_start N = record { state = base_state N; loss = loss_in N (base_state N); rounds = 0; ended = false }

-- "up to max_iterations rounds"
unfoldable pub exchange : Network → Exchange
exchange N = until_ended (λ x. x.ended) (next N) N.iterations (exchange_start N)

-- "Every round counts; converged means rounds < max_iterations"
unfoldable pub exchange_best : Network → Best
exchange_best N =
    let x = exchange N in
    record { state = x.state; iterations = x.rounds; converged = ltb x.rounds N.iterations }
