-- The loss looks at listed buses and live branches only: nets, flags, loads and resistances that agree there have the same loss.
use Rattle.std.specs.Prelude.{◌≡◌, refl, Bool, true, false, List, ℕ, ◌<◌, eqb, Float, length, get_or}
use Rattle.std.proofs.Math.Path.{ap, ap₂}
use Rattle.std.proofs.Common.{◌∙◌}
use Rattle.std.proofs.Math.Bool.{cond}
use Rattle.std.specs.Float.{binary64}
use Rattle.std.specs.Float.Ieee.{add}
use Rattle.numbers.specs.Constants.{zero64}
use Rattle.numbers.specs.UpTo.{up_to_cong}
use Rattle.graph.specs.Graph.{Net, Sound}
use Rattle.graph.specs.SameEnds.{walk_same}
use Rattle.graph.specs.Visits.{reached_at}
use Rattle.graph.specs.Walk.{Visit, start_at, walk}
use Rattle.graph.specs.WalkLaws.{walk_below}
use Rattle.losses.specs.Loss.{walk_load, downstream, term_of, total_of, loss}

walk_load_same : (pd qd : ℕ → Float) (o : List Visit) → ((i : ℕ) → i < length o → pd (get_or o i (start_at 0)).bus ≡ qd (get_or o i (start_at 0)).bus) → walk_load pd o ≡ walk_load qd o
unfolding walk_load
walk_load_same pd qd o h = up_to_cong _ _ _ (length o) (λ t i l. rw (h i l))

-- the load of a dead branch does not count
pub total_same : (E F : ℕ → Bool) (r s load other : ℕ → Float) (base : Float) (n : ℕ) → ((k : ℕ) → k < n → E k ≡ F k) → ((k : ℕ) → k < n → r k ≡ s k)
    → ((k : ℕ) → k < n → F k ≡ true → load k ≡ other k) → total_of E r load base n ≡ total_of F s other base n
unfolding total_of
total_same E F r s load other base n e h k = up_to_cong _ _ _ n (λ t i l. rw (e i l, h i l) (go t i (F i) (k i l)))
  where
    go : (t : Float) (i : ℕ) (b : Bool) → (b ≡ true → load i ≡ other i) → cond b (add binary64 t (term_of (s i) (load i) base)) t ≡ cond b (add binary64 t (term_of (s i) (other i) base)) t
    go t i true w = rw (w refl)
    go t i false w = refl

module _
    (N M : Net) (E F : ℕ → Bool) (buses : N.buses ≡ M.buses) (branches : N.branches ≡ M.branches) (live : (k : ℕ) → k < N.branches → E k ≡ F k)
    (ends : (k : ℕ) → k < N.branches → (N.from k ≡ M.from k) × (N.to k ≡ M.to k))
  where
    pub loss_same : (pd qd r s : ℕ → Float) (base : Float) → Sound N → ((i : ℕ) → i < N.buses → pd i ≡ qd i) → ((k : ℕ) → k < N.branches → r k ≡ s k)
        → loss N E pd r base ≡ loss M F qd s base
    unfolding loss downstream
    loss_same pd qd r s base sound p h =
        ap₂ (λ n t. cond (eqb n 0) zero64 t) buses (total_same E F r s _ _ base N.branches live h (λ k l _. loads k l) ∙ ap (total_of F s _ base) branches)
      where
        loads : (k : ℕ) → k < N.branches → walk_load pd (walk N E (N.to k) (N.from k)) ≡ walk_load qd (walk M F (M.to k) (M.from k))
        loads k l =
            rw (← (ends k l).0, ← (ends k l).1, ← walk_same N M E F buses branches live ends (N.to k) (N.from k))
            (walk_load_same pd qd _ (λ i m. p _ (walk_below N E (N.to k) (N.from k) sound (sound k l).1 _ (reached_at _ i (start_at 0) m))))
