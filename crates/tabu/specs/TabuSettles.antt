-- From a radial base the tabu search answers the base: a move leaves the live branches and so the loss, and that is not below the best ever.
-- `tabu_of_radial` is a fact for the reader: no proof uses it.
use Rattle.std.specs.Prelude.{◌≡◌, ◌⊎◌, Bool, cond, ℕ}
use Rattle.std.proofs.Math.Path.{refl}
use Rattle.std.proofs.Common.{sym, ap, ◌∙◌}
use Rattle.std.proofs.Math.Logic.{inl, inr}
use Rattle.std.proofs.Math.Bool.{true, false}
use Rattle.std.specs.Prelude.{Option, None, Some}
use Rattle.std.specs.Float.Ieee.{lt}
use Rattle.numbers.specs.Tests.{clash}
use Rattle.network.specs.Records.{Network}
use Rattle.network.specs.Inside.{Inside}
use Rattle.states.specs.Live.{base_state}
use Rattle.states.specs.Switches.{toggled}
use Rattle.feeders.specs.Feeder.{radial_in}
use Rattle.losses.specs.Loss.{loss_in}
use Rattle.tabu.specs.Tabu.{Move, Tabu, best_move, after_move, next, tabu_start, tabu}
use Rattle.numbers.specs.IfSome.{IfSome}
use Rattle.searches.specs.Floats.{lt_self}
use Rattle.searches.specs.LiveBranches.{same_loss}
use Rattle.searches.specs.Rounds.{until_ended}
use Rattle.searches.specs.RoundLaws.{until_keeps}
use Rattle.tabu.specs.Toggles.{toggled_same}
use Rattle.tabu.specs.TabuLaws.{Toggle, MoveFrom, best_move_moves}

-- the same answer so far
abbrev SameBest : Tabu → Tabu → Type 0
SameBest x y = (x.best ≡ y.best) × (x.best_loss ≡ y.best_loss)

module _ (N : Network) where
  -- the search is at its end, or its state is radial with a loss that is not below the best ever
  abbrev Settled : Tabu → Type 0
  Settled x = (x.ended ≡ true) ⊎ ((radial_in N x.state ≡ true) × (lt (loss_in N x.state) x.best_loss ≡ false))

  -- after any round
  settles : (x : Tabu) (found : Option Move) → IfSome (MoveFrom N x.state) found → Settled (after_move x found)
  unfolding after_move
  settles x None w = inl refl
  settles x (Some m) w = inr (w.toggle.radial, rw (← w.loses) (go (lt m.loss x.best_loss) refl))
    where
      go : (b : Bool) → lt m.loss x.best_loss ≡ b → lt m.loss (cond b m.loss x.best_loss) ≡ false
      go true e = lt_self m.loss
      go false e = e

  module _ (inside : Inside N) where
    same_after : (x : Tabu) → radial_in N x.state ≡ true → lt (loss_in N x.state) x.best_loss ≡ false
        → (found : Option Move) → IfSome (MoveFrom N x.state) found → SameBest (after_move x found) x
    unfolding after_move
    same_after x r n None w = (refl, refl)
    same_after x r n (Some m) w = (rw worse, rw worse)
      where
        t : Toggle N x.state m.state
        t = w.toggle

        worse : lt m.loss x.best_loss ≡ false
        worse =
            let e : loss_in N x.state ≡ m.loss = same_loss N x.state (toggled x.state t.moved) (toggled_same N inside x.state r t.moved (rw t.result at t.radial)) ∙ sym (w.loses ∙ ap (loss_in N) t.result) in
            rw e at n

    stays_settled : (n : ℕ) (x : Tabu) → Settled x → SameBest (until_ended (λ y. y.ended) (next N) n x) x
    stays_settled n x h = (until_keeps (λ (y : Tabu). y.ended) (next N) (λ y. SameBest y x × Settled y) (λ y e q. one y e q.0 q.1) n x ((refl, refl), h)).0
      where
        one : (y : Tabu) → y.ended ≡ false → SameBest y x → Settled y → SameBest (next N y) x × Settled (next N y)
        one y e b (inl t) = clash t e
        one y e b (inr (r, n)) =
            let q = same_after y r n (best_move N y) (best_move_moves N y) in
            ((q.0 ∙ b.0, q.1 ∙ b.1), settles y (best_move N y) (best_move_moves N y))

    -- from a radial base every round leaves the answer as it is
    pub tabu_of_radial : radial_in N (base_state N) ≡ true → SameBest (tabu N) (tabu_start N)
    unfolding tabu
    tabu_of_radial r = stays_settled N.iterations (tabu_start N) (inr (r, lt_self (loss_in N (base_state N))))
