-- What the tabu search keeps. A round with a candidate moves one operable switch, to a radial state; so what holds of the base and is kept by such moves holds of
-- the answer.
use Rattle.std.specs.Prelude.{◌≡◌, Bool, ℕ}
use Rattle.std.proofs.Math.Path.{refl}
use Rattle.std.proofs.Math.Bool.{true, false, cond}
use Rattle.std.specs.Prelude.{Option, None, Some}
use Rattle.std.specs.Float.Ieee.{lt}
use Rattle.numbers.specs.Tests.{both}
use Rattle.numbers.specs.UpTo.{up_to_keeps}
use Rattle.network.specs.Records.{Network}
use Rattle.states.specs.Live.{base_state}
use Rattle.states.specs.Switches.{State, operable, size, toggled}
use Rattle.feeders.specs.Feeder.{radial_in}
use Rattle.losses.specs.Loss.{loss_in}
use Rattle.tabu.specs.Tabu.{Move, Tabu, move_of, allowed, best_move, after_move, next, tabu_start, tabu, tabu_best}
use Rattle.numbers.specs.IfSome.{IfSome, cond_holds}
use Rattle.searches.specs.FromBase.{FromBase, from_base, toggled_from_base}
use Rattle.searches.specs.LesserLaws.{lesser_holds}
use Rattle.searches.specs.RoundLaws.{until_keeps}
use Rattle.searches.specs.Results.{SoundBest}

-- t is s with one operable switch moved, and it is radial
pub record Toggle (N : Network) (s t : State) : Type 0 where
  pub moved : ℕ
  pub operates : operable N moved ≡ true
  pub result : t ≡ toggled s moved
  pub radial : radial_in N t ≡ true

-- a move to such a state, with its loss
pub record MoveFrom (N : Network) (s : State) (m : Move) : Type 0 where
  pub toggle : Toggle N s m.state
  pub loses : m.loss ≡ loss_in N m.state

module _ (N : Network) where
  pub best_move_moves : (x : Tabu) → IfSome (MoveFrom N x.state) (best_move N x)
  unfolding best_move allowed
  best_move_moves x = up_to_keeps (λ n. IfSome P) _ None (size N) tt (λ i best l h. cond_holds P (allowed N x i) _ best (λ e. lesser_holds P _ best (move_of N x i) h (move i e)) h)
    where
      P : Move → Type 0
      P = MoveFrom N x.state

      move : (i : ℕ) → allowed N x i ≡ true → P (move_of N x i)
      move i e =
          let p = both (operable N i) _ e in
          record { toggle = record { moved = i; operates = p.0; result = refl; radial = (both (radial_in N (toggled x.state i)) _ p.1).0 }; loses = refl }

  -- what holds of the base and is kept by each round holds at the end
  rounds_keep : (Q : Tabu → Type 0) → ((x : Tabu) → x.ended ≡ false → Q x → Q (next N x)) → Q (tabu_start N) → Q (tabu N)
  unfolding tabu
  rounds_keep Q step = until_keeps (λ (x : Tabu). x.ended) (next N) Q step N.iterations (tabu_start N)

  module _ (P : State → Type 0) (toggles : (s t : State) → P s → Toggle N s t → P t) where
    -- the state and the best ever
    abbrev Both : Tabu → Type 0
    Both x = P x.state × P x.best

    both_kept : (x : Tabu) → Both x → (found : Option Move) → IfSome (MoveFrom N x.state) found → Both (after_move x found)
    unfolding after_move
    both_kept x h None w = h
    both_kept x h (Some m) w = (new, go (lt m.loss x.best_loss))
      where
        new : P m.state
        new = toggles x.state m.state h.0 w.toggle

        go : (b : Bool) → P (cond b m.state x.best)
        go true = new
        go false = h.1

    tabu_keeps : P (base_state N) → P (tabu N).best
    tabu_keeps h = (rounds_keep Both (λ x e h. both_kept x h (best_move N x) (best_move_moves x)) (h, h)).1

  -- the best loss is that of the best state
  pub tabu_loss : (tabu N).best_loss ≡ loss_in N (tabu N).best
  unfolding after_move
  tabu_loss = rounds_keep (λ x. x.best_loss ≡ loss_in N x.best) (λ x e h. one x h (best_move N x) (best_move_moves x)) refl
    where
      one : (x : Tabu) → x.best_loss ≡ loss_in N x.best → (found : Option Move) → IfSome (MoveFrom N x.state) found → (after_move x found).best_loss ≡ loss_in N (after_move x found).best
      one x h None w = h
      one x h (Some m) w = go (lt m.loss x.best_loss)
        where
          go : (b : Bool) → cond b m.loss x.best_loss ≡ loss_in N (cond b m.state x.best)
          go true = w.loses
          go false = h

  -- ---- of the answer
  pub tabu_from_base : FromBase N (tabu N).best
  tabu_from_base = tabu_keeps (FromBase N) (λ s t h w. rw w.result (toggled_from_base N s h w.moved w.operates)) (from_base N)

  pub tabu_sound : SoundBest N (tabu_best N)
  unfolding tabu_best
  tabu_sound = record {
    good = tabu_from_base.good;
    radial = tabu_keeps (λ s. radial_in N s ≡ true) (λ s t h w. w.radial);
  }
