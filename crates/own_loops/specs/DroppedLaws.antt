-- The lines of those of a kind that are dropped: how many, that they are theirs and no other, and that they rise.
use Rattle.std.specs.Prelude.{◌≡◌, Bool, true, false, cond, not, length, get_or}
use Rattle.std.proofs.Math.Path.{refl}
use Rattle.std.proofs.Common.{ap}
use mathlib.Core.List.Memᴰ
use mathlib.Core.List.{List, [], ◌∷◌, ◌++◌, Memᴰ}
use Prim.Native.Nat.{ℕ, zero, suc, ◌+◌, ◌≤◌, ◌<◌}
use native.Mathlib.Omega.{arith}
use Rattle.numbers.specs.Keep.{keep}
use Rattle.network.specs.Inside.{Each}
use Rattle.network.specs.EachLaws.{each_at, each_map, each_append}
use Rattle.own_loops.specs.OwnLoops.{Dropped, dropped_from}

module _ {A : Type 0} (isDropped : A → Bool) (reason : ℕ) where
  -- ---- how many
  pub from_none : (line : ℕ) (l : List A) → Each (λ a. isDropped a ≡ false) l → dropped_from isDropped reason line l ≡ []
  unfolding dropped_from
  from_none line [] h = refl
  from_none line (a ∷ l) h = rw h.0 (from_none (suc line) l h.1)

  pub from_many : (p : A → Bool) → ((a : A) → p a ≡ not (isDropped a)) → (line : ℕ) (l : List A) → length (dropped_from isDropped reason line l) + length (keep p l) ≡ length l
  unfolding dropped_from keep
  from_many p e line [] = refl
  from_many p e line (a ∷ l) = rw (e a) (go (isDropped a) (from_many p e (suc line) l))
    where
      later : List Dropped
      later = dropped_from isDropped reason (suc line) l

      go : (b : Bool) → length later + length (keep p l) ≡ length l
          → length (cond b (record { line = line; reason = reason } ∷ later) later) + length (cond (not b) (a ∷ keep p l) (keep p l)) ≡ suc (length l)
      go true ih = omega arith
      go false ih = omega arith

  -- ---- which
  -- the line of the record at position k
  abbrev Told : A → ℕ → List A → Dropped → Type 0
  Told a₀ line l d = (d.reason ≡ reason) × ((k : ℕ) × (k < length l) × (d.line ≡ line + k) × (isDropped (get_or l k a₀) ≡ true))

  later_told : (a₀ a : A) (line : ℕ) (l : List A) (d : Dropped) → Told a₀ (suc line) l d → Told a₀ line (a ∷ l) d
  later_told a₀ a line l d (r, (k, h, e, t)) = (r, (suc k, omega arith, omega arith, t))

  pub from_told : (a₀ : A) (line : ℕ) (l : List A) (d : Dropped) → Memᴰ d (dropped_from isDropped reason line l) → Told a₀ line l d
  unfolding dropped_from
  from_told a₀ line [] d m = absurd (Memᴰ.not-nil m)
  from_told a₀ line (a ∷ l) d m = go (isDropped a) refl m (λ k. later_told a₀ a line l d (from_told a₀ (suc line) l d k))
    where
      later : List Dropped
      later = dropped_from isDropped reason (suc line) l

      go : (b : Bool) → isDropped a ≡ b → Memᴰ d (cond b (record { line = line; reason = reason } ∷ later) later) → (Memᴰ d later → Told a₀ line (a ∷ l) d) → Told a₀ line (a ∷ l) d
      go true t (Memᴰ.head e) rest = (ap (λ x. x.reason) e, (0, omega arith, omega (arith, ap (λ x. x.line) e), t))
      go true t (Memᴰ.tail k) rest = rest k
      go false t k rest = rest k

  pub told_from : (a₀ : A) (line : ℕ) (l : List A) (k : ℕ) → k < length l → isDropped (get_or l k a₀) ≡ true
      → Memᴰ (record { line = line + k; reason = reason }) (dropped_from isDropped reason line l)
  unfolding dropped_from
  told_from a₀ line [] k h t = absurd (omega arith)
  told_from a₀ line (a ∷ l) zero h t = let same : line + 0 ≡ line = omega arith in rw (t, same) (Memᴰ.head refl)
  told_from a₀ line (a ∷ l) (suc k) h t = go (isDropped a) (told_from a₀ (suc line) l k (omega arith) t)
    where
      later : List Dropped
      later = dropped_from isDropped reason (suc line) l

      same : suc line + k ≡ line + suc k
      same = omega arith

      go : (b : Bool) → Memᴰ (record { line = suc line + k; reason = reason }) later
          → Memᴰ (record { line = line + suc k; reason = reason }) (cond b (record { line = line; reason = reason } ∷ later) later)
      go true m = Memᴰ.tail (rw same at m)
      go false m = rw same at m

-- ---- rising
abbrev pub Rising : List Dropped → Type 0
Rising [] = Unit {0}
Rising (d ∷ l) = Each (λ e. d.line < e.line) l × Rising l

pub rising_at : (l : List Dropped) → Rising l → (i j : ℕ) (d : Dropped) → i < j → j < length l → (get_or l i d).line < (get_or l j d).line
rising_at [] r i j d h k = absurd (omega arith)
rising_at (a ∷ l) r i zero d h k = absurd (omega arith)
rising_at (a ∷ l) r zero (suc j) d h k = each_at _ l r.0 j d (omega arith)
rising_at (a ∷ l) r (suc i) (suc j) d h k = rising_at l r.1 i j d (omega arith) (omega arith)

pub rising_append : (m : ℕ) (xs ys : List Dropped) → Rising xs → Rising ys → Each (λ d. d.line < m) xs → Each (λ d. m ≤ d.line) ys → Rising (xs ++ ys)
rising_append m [] ys r s below from = s
rising_append m (x ∷ xs) ys r s below from = (
  each_append _ xs ys r.0 (each_map _ _ ys (λ y h. omega (arith, below.0)) from),
  rising_append m xs ys r.1 s below.1 from,
)

module _ {A : Type 0} (isDropped : A → Bool) (reason : ℕ) where
  pub from_on : (line : ℕ) (l : List A) → Each (λ d. line ≤ d.line) (dropped_from isDropped reason line l)
  unfolding dropped_from
  from_on line [] = tt
  from_on line (a ∷ l) = go (isDropped a) (each_map (λ (d : Dropped). suc line ≤ d.line) (λ d. line ≤ d.line) (dropped_from isDropped reason (suc line) l) (λ d h. omega arith) (from_on (suc line) l))
    where
      later : List Dropped
      later = dropped_from isDropped reason (suc line) l

      go : (b : Bool) → Each (λ d. line ≤ d.line) later → Each (λ d. line ≤ d.line) (cond b (record { line = line; reason = reason } ∷ later) later)
      go true e = (omega arith, e)
      go false e = e

  pub from_below : (line m : ℕ) (l : List A) → line + length l ≤ m → Each (λ d. d.line < m) (dropped_from isDropped reason line l)
  unfolding dropped_from
  from_below line m [] h = tt
  from_below line m (a ∷ l) h = go (isDropped a) (from_below (suc line) m l (omega arith))
    where
      later : List Dropped
      later = dropped_from isDropped reason (suc line) l

      go : (b : Bool) → Each (λ d. d.line < m) later → Each (λ d. d.line < m) (cond b (record { line = line; reason = reason } ∷ later) later)
      go true e = (omega arith, e)
      go false e = e

  pub from_rising : (line : ℕ) (l : List A) → Rising (dropped_from isDropped reason line l)
  unfolding dropped_from
  from_rising line [] = tt
  from_rising line (a ∷ l) = go (isDropped a) (from_rising (suc line) l)
    where
      later : List Dropped
      later = dropped_from isDropped reason (suc line) l

      go : (b : Bool) → Rising later → Rising (cond b (record { line = line; reason = reason } ∷ later) later)
      go true r = (from_on (suc line) l, r)
      go false r = r
