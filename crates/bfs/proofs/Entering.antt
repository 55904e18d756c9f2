-- One bus more of a walk, in the arrays of the code: from the flags and the entries to the definition's list of visits.
use mathlib.Core.Path.{◌≡◌, refl, sym, ap, ◌∙◌}
use mathlib.Core.Bool.{Bool, true, false, cond, ◌||◌, or-true}
use mathlib.Core.List.{List, [], ◌∷◌, ◌++◌, map, map-append}
use Prim.Native.Nat.{ℕ, suc, ◌+◌, ◌<◌, ◌≤◌}
use native.Mathlib.Decide.{ℕ_discrete}
use native.Mathlib.Omega.{arith}
use lib.Dec.{eqb}
use lib.ListN.{length, get_or, set, length-append, length-set, length-map, get_or-map}
use lib.Seq.{get_or-set_same, get_or-set_other}
use Rattle.numbers.specs.Counts.{count, count_le, count_drop}
use Rattle.numbers.specs.Arrays.{padded_more, get_or_padded}
use Rattle.graph.specs.Walk.{Visit, start_at, reached, enter}
use Rattle.graph.specs.Visits.{reached_last, reached_before}
use Rattle.graph.specs.Rows.{flag, filled}
use Rattle.graph.specs.Walking.{Walking, enter_live}

-- a visit's entry in an array
pub filled_read : (f : Visit → ℕ) (o : List Visit) (i : ℕ) → f (start_at 0) ≡ 0 → get_or (filled (map f o)) i 0 ≡ f (get_or o i (start_at 0))
filled_read f o i z = get_or_padded 256 0 (map f o) i ∙ ap (λ (d : ℕ). get_or (map f o) i d) (sym z) ∙ get_or-map f o i (start_at 0)

-- a walk in the arrays
module _ {barred : ℕ} {o : List Visit} {seen : List Bool} {bus by : List ℕ} {n : ℕ} (w : Walking barred o seen bus by n) where
  pub few : n ≤ 256
  few = omega (arith, w.counted, w.room, count_le (flag seen) 256)

  module _ (x : ℕ) (small : x < 256) (fresh : get_or seen x false ≡ false) where
    more_flags : count (flag (set seen x true)) 256 ≡ suc (count (flag seen) 256)
    more_flags =
        let h : x < length seen = omega (arith, w.flags) in
        count_drop (flag (set seen x true)) (flag seen) 256 x small (get_or-set_same seen x true false h) fresh
        (λ y l ne. get_or-set_other seen x y true false ne)

    pub one_fits : n < 256
    one_fits = omega (arith, w.counted, w.room, more_flags, count_le (flag (set seen x true)) 256)

    pub one_more : (k : ℕ) → Walking barred (o ++ (record { bus = x; by = k } ∷ [])) (set seen x true) (set bus n x) (set by n k) (n + 1)
    one_more k =
        let v : Visit = record { bus = x; by = k } in
        record {
          counted = rw length-append (omega (arith, w.counted));
          buses = rw (map-append, w.buses) (column (λ (v : Visit). v.bus) v);
          branches = rw (map-append, w.branches) (column (λ (v : Visit). v.by) v);
          flags = simp length-set w.flags;
          marks = λ y h. mark y h v refl (ℕ_discrete y x);
          room = rw (length-append, more_flags) (omega (arith, w.room));
        }
      where
        column : (f : Visit → ℕ) (v : Visit) → set (filled (map f o)) n (f v) ≡ filled (map f o ++ (f v ∷ []))
        column f v = padded_more 256 0 (map f o) (f v) n (w.counted ∙ sym (length-map o f)) one_fits

        mark : (y : ℕ) → y < 256 → (v : Visit) → v.bus ≡ x → Dec (y ≡ x) → get_or (set seen x true) y false ≡ (eqb y barred || reached y (o ++ (v ∷ [])))
        mark y h v e (yes q) =
            let l : x < length seen = omega (arith, w.flags) in
            rw (reached_last y o v (q ∙ sym e), or-true (eqb y barred), q) (get_or-set_same seen x true false l)
        mark y h v e (no n) = rw (reached_before y o v (λ q. n (q ∙ e)), get_or-set_other seen x y true false n) (w.marks y h)

-- what becomes of a bus that a half-branch leads to
module _ (live : Bool) (x k : ℕ) {seen : List Bool} {bus by : List ℕ} {n : ℕ} where
  pub dead_stays : live ≡ false → (barred : ℕ) (o : List Visit) → Walking barred o seen bus by n
      → Walking barred (enter_live live barred o (record { bus = x; by = k })) seen bus by n
  unfolding enter_live
  dead_stays e barred o w = rw e w

  module _ (at : ℕ) (same : at ≡ x) (small : at < 256) where
    pub marked_stays : get_or seen at false ≡ true
        → (barred : ℕ) (o : List Visit) → Walking barred o seen bus by n → Walking barred (enter_live live barred o (record { bus = x; by = k })) seen bus by n
    unfolding enter_live enter
    marked_stays t barred o w =
        let r : (eqb x barred || reached x o) ≡ true = sym (w.marks x (omega arith)) ∙ rw same at t in
        rw r (either live)
      where
        either : (b : Bool) → Walking barred (cond b o o) seen bus by n
        either true = w
        either false = w

    pub enters : (end : ℕ) → end ≡ n → live ≡ true → get_or seen at false ≡ false
        → (barred : ℕ) (o : List Visit) → Walking barred o seen bus by n
        → Walking barred (enter_live live barred o (record { bus = x; by = k })) (set seen at true) (set bus end x) (set by end k) (n + 1)
    unfolding enter_live enter
    enters end e l f barred o w =
        let g : get_or seen x false ≡ false = rw same at f in
        let r : (eqb x barred || reached x o) ≡ false = sym (w.marks x (omega arith)) ∙ g in
        rw (l, r, e, same) (one_more w x (omega arith) g k)
