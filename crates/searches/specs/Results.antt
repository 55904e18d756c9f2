-- What a search answers, given what it found.
use Rattle.std.specs.Prelude.{◌≡◌, Bool, true, cond, List, ℕ, Float}
use Rattle.std.specs.Float.{binary64}
use Rattle.std.specs.Float.Ieee.{sub, mul, div, lt}
use Rattle.numbers.specs.Constants.{zero64, trillionth, hundred}
use Rattle.network.specs.Records.{Network}
use Rattle.states.specs.Live.{base_state}
use Rattle.states.specs.Switches.{State, GoodState}
use Rattle.printing.specs.Calls.{Call, called}
use Rattle.graph.specs.declared.form.Form.{Form}
use Rattle.feeders.specs.Feeder.{form_in, radial_in}
use Rattle.feeders.specs.Supply.{check_network}
use Rattle.losses.specs.Loss.{loss_in}
use Rattle.searches.specs.declared.answer.ReconfigResult.{ReconfigResult}

-- what a search found
pub record Best : Type 0 where
  pub state : State
  pub iterations : ℕ
  pub converged : Bool

-- what holds of it, whichever the search (`AnswersHavePlans.search_sound`): one byte 00 or 01 for each switch, and radial from a radial base
pub record SoundBest (N : Network) (b : Best) : Type 0 where
  pub good : GoodState N b.state
  pub radial : radial_in N (base_state N) ≡ true → radial_in N b.state ≡ true

-- "(base − best) ÷ base × 100 when base > 1e-12, else 0"
unfoldable pub reduction : Float → Float → Float
reduction base best = cond (lt trillionth base) (mul binary64 (div binary64 (sub binary64 base best) base) hundred) zero64

-- what is answered beside the best state: first what its live branches are
pub record Result : Type 0 where
  pub form : Form
  pub base_loss : Float
  pub best_loss : Float
  pub reduction : Float
  pub iterations : ℕ
  pub converged : Bool

-- with what this search finds
unfoldable pub result_by : (Network → Best) → Network → Result
result_by search N =
    let b = search N in
    record {
      form = form_in N b.state;
      base_loss = loss_in N (base_state N);
      best_loss = loss_in N b.state;
      reduction = reduction (loss_in N (base_state N)) (loss_in N b.state);
      iterations = b.iterations;
      converged = b.converged;
    }

-- the best state's bytes are written to the front of the slice
unfoldable pub solved_by : (Network → Best) → Network → List ℕ → Call Result
solved_by search N out = called (check_network N) (result_by search N) (search N).state out

-- document 01's values of the code's answer
abbrev pub result_of : ReconfigResult → Result
result_of r =
    record {
      form = r.form;
      base_loss = r.base_losses_mw;
      best_loss = r.optimized_losses_mw;
      reduction = r.loss_reduction_pct;
      iterations = r.n_iterations;
      converged = r.converged;
    }
