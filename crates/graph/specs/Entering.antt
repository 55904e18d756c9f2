-- What entering the neighbours of a bus does to the visits: those before stay where they are, each neighbour is reached then
-- unless it is barred, and the list is still one to which buses were put as a walk does.
use Rattle.std.specs.Prelude.{◌≡◌, ◌⊎◌, ◌≢◌, Bool, cond, ◌||◌, ℕ, eqb}
use Rattle.std.proofs.Math.Path.{refl, sym, ap}
use Rattle.std.proofs.Common.{◌∙◌, inl, inr, eq-eqb, ne_eqb}
use Rattle.std.proofs.Math.Bool.{true, false}
use mathlib.Core.List.Memᴰ
use mathlib.Core.List.{List, [], ◌∷◌, ◌++◌, append-nil, append_assoc, Memᴰ}
use Rattle.std.proofs.Math.Decide.{ℕ_discrete}
use Rattle.graph.specs.Graph.{Net, Branches, Ends}
use Rattle.graph.specs.Walk.{Visit, reached, enter, enter_all}
use Rattle.graph.specs.Visits.{reached_still, reached_last}
use Rattle.graph.specs.Walked.{Walked, entered}

-- a neighbour stays out, because it is barred or among those reached, or is put behind them
data Entering (barred : ℕ) (o : List Visit) (v : Visit) : List Visit → Type 0 where
  left_out : (v.bus ≡ barred) ⊎ (reached v.bus o ≡ true) → Entering barred o v o
  put_behind : v.bus ≢ barred → reached v.bus o ≡ false → Entering barred o v (o ++ (v ∷ []))

module _ (barred : ℕ) where
  entering : (o : List Visit) (v : Visit) → Entering barred o v (enter barred o v)
  unfolding enter
  entering o v = go (ℕ_discrete v.bus barred) (reached v.bus o) refl
    where
      go : Dec (v.bus ≡ barred) → (b : Bool) → reached v.bus o ≡ b
          → Entering barred o v (cond (eqb v.bus barred || reached v.bus o) o (o ++ (v ∷ [])))
      go (yes e) b r = rw (eq-eqb _ _ e) (left_out (inl e))
      go (no n) true r = rw (ne_eqb _ _ n, r) (left_out (inr r))
      go (no n) false r = rw (ne_eqb _ _ n, r) (put_behind n r)

  enter_reached : (o : List Visit) (v : Visit) → v.bus ≢ barred → reached v.bus (enter barred o v) ≡ true
  enter_reached o v n = go (entering o v)
    where
      go : {p : List Visit} → Entering barred o v p → reached v.bus p ≡ true
      go (left_out (inl e)) = absurd (n e)
      go (left_out (inr r)) = r
      go (put_behind n r) = reached_last v.bus o v refl

  -- those reached stay where they are
  enter_behind : (o : List Visit) (v : Visit) → (r : List Visit) × (enter barred o v ≡ o ++ r)
  enter_behind o v = go (entering o v)
    where
      go : {p : List Visit} → Entering barred o v p → (r : List Visit) × (p ≡ o ++ r)
      go (left_out h) = ([], sym (append-nil o))
      go (put_behind n h) = (v ∷ [], refl)

  pub all_behind : (o vs : List Visit) → (r : List Visit) × (enter_all barred o vs ≡ o ++ r)
  unfolding enter_all
  all_behind o [] = ([], sym (append-nil o))
  all_behind o (v ∷ vs) =
      let p = enter_behind o v in
      let q = all_behind (enter barred o v) vs in
      (p.0 ++ q.0, q.1 ∙ ap (λ z. z ++ q.0) p.1 ∙ append_assoc o p.0 q.0)

  pub all_still : (b : ℕ) (o vs : List Visit) → reached b o ≡ true → reached b (enter_all barred o vs) ≡ true
  all_still b o vs h = let p = all_behind o vs in rw p.1 (reached_still b o p.0 h)

  pub all_reached : (o vs : List Visit) (v : Visit) → Memᴰ v vs → v.bus ≢ barred → reached v.bus (enter_all barred o vs) ≡ true
  unfolding enter_all
  all_reached o [] v m n = absurd (Memᴰ.not-nil m)
  all_reached o (w ∷ vs) v (Memᴰ.head p) n = all_still v.bus (enter barred o w) vs (rw p (enter_reached o w (rw p at n)))
  all_reached o (w ∷ vs) v (Memᴰ.tail m) n = all_reached (enter barred o w) vs v m n

  module _ {N : Net} {S : Branches} {start : ℕ} (u : ℕ) where
    pub all_walked : (o vs : List Visit) → ((v : Visit) → Memᴰ v vs → v.bus ≢ barred → S v.by × Ends N v.by u v.bus)
        → Walked N S start o → reached u o ≡ true → Walked N S start (enter_all barred o vs)
    unfolding enter_all
    all_walked o [] h w r = w
    all_walked o (v ∷ vs) h w r =
        all_walked (enter barred o v) vs (λ x m. h x (Memᴰ.tail m)) (go (entering o v)) (rw p.1 (reached_still u o p.0 r))
      where
        p : (q : List Visit) × (enter barred o v ≡ o ++ q)
        p = enter_behind o v

        go : {q : List Visit} → Entering barred o v q → Walked N S start q
        go (left_out k) = w
        go (put_behind n f) = let k = h v (Memᴰ.head refl) n in entered u w k.0 k.1 r f
