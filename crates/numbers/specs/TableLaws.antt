-- Laws of tables f 0, f 1, .., f (n - 1): length, entries, parts, an entry stored, and how an array is filled with one by rising position.
use Rattle.std.specs.Prelude.{◌≡◌, ◌≢◌, Bool, length, take, drop, set, replicate}
use Rattle.std.proofs.Math.Path.{refl, sym, ap}
use Rattle.std.proofs.Common.{◌∙◌, add-one, arith, length-append, length-take, length-drop, length-set, drop-cons, ext_get_or, get_or-take, get_or-drop, get_or-set_same, get_or-set_other}
use Rattle.std.proofs.Math.Bool.{true, false, cond}
use mathlib.Core.List.{List, [], ◌∷◌, ◌++◌, map, reverse, reverse-append}
use Prim.Native.Nat.{ℕ, zero, suc, ◌+◌, ◌-◌, ◌≤◌, ◌<◌, min}
use Rattle.std.proofs.Math.Decide.{ℕ_discrete}
use Rattle.std.proofs.Math.Dec.{ltb}
use Rattle.std.proofs.Math.ListN.{get_or, get_or-append}
use Rattle.std.proofs.lemmas.List.{length-replicate, get_or-replicate, get_or_at}
use borrow.Author.Tests.{lt-ltb, le-ltb, ltb-true, ltb-false}
use Rattle.numbers.specs.UpTo.{table}

module _ {ℓ} {A : Type ℓ} (f : ℕ → A) where
  pub length_table : (n : ℕ) → length (table f n) ≡ n
  unfolding table
  length_table zero = refl
  length_table (suc n) = simp (length-append, length_table n) (omega arith)

  -- one entry more, with the code's `n + 1`
  pub table_more : (n : ℕ) → table f (n + 1) ≡ table f n ++ (f n ∷ [])
  unfolding table
  table_more n = rw (add-one n)

  pub get_or_table : (n i : ℕ) (d : A) → i < n → get_or (table f n) i d ≡ f i
  unfolding table
  get_or_table zero i d h = absurd (omega arith)
  get_or_table (suc n) i d h = go (ℕ_discrete i n) (λ l. get_or_table n i d l)
    where
      go : Dec (i ≡ n) → (i < n → get_or (table f n) i d ≡ f i) → get_or (table f n ++ (f n ∷ [])) i d ≡ f i
      go (yes e) ih = rw e (get_or_at (table f n) (f n) [] d n (length_table n))
      go (no k) ih = get_or-append (table f n) (f n ∷ []) d i (rw (length_table n) (omega arith)) ∙ ih (omega arith)

  pub drop_table : (n i : ℕ) → i < n → drop i (table f n) ≡ f i ∷ drop (i + 1) (table f n)
  drop_table n i h = rw (add-one, drop-cons (table f n) i (f i) (rw (length_table n) h), get_or_table n i (f i) h)

-- inside a list the default plays no part
pub any_default {ℓ} : {A : Type ℓ} (l : List A) (i : ℕ) (d e : A) → i < length l → get_or l i d ≡ get_or l i e
any_default [] i d e h = absurd (omega arith)
any_default (a ∷ l) zero d e h = refl
any_default (a ∷ l) (suc i) d e h = any_default l i d e (omega arith)

-- a list is a table if it has its length and its entries
pub as_table {ℓ} : {A : Type ℓ} (f : ℕ → A) (n : ℕ) (d : A) (l : List A) → length l ≡ n → ((i : ℕ) → i < n → get_or l i d ≡ f i) → l ≡ table f n
as_table f n d l e h =
    ext_get_or d l (table f n) (e ∙ sym (length_table f n))
    (λ i k. let j : i < n = omega (arith, e) in h i j ∙ sym (get_or_table f n i d j))

pub take_table {ℓ} : {A : Type ℓ} (f : ℕ → A) (n i : ℕ) → i ≤ n → take i (table f n) ≡ table f i
take_table f n i h =
    as_table f i (f 0) (take i (table f n)) (simp (length-take, length_table) (omega arith))
    (λ j k. get_or-take i (table f n) j (f 0) k ∙ get_or_table f n j (f 0) (omega arith))

-- the entries from i on
pub table_rest {ℓ} : {A : Type ℓ} (f : ℕ → A) (n i : ℕ) → drop i (table f n) ≡ table (λ j. f (i + j)) (n - i)
table_rest f n i =
    as_table (λ j. f (i + j)) (n - i) (f 0) (drop i (table f n)) (simp (length-drop, length_table) (omega arith))
    (λ j k. get_or-drop i (table f n) j (f 0) ∙ get_or_table f n (i + j) (f 0) (omega arith))

pub reverse_table : {A : Type 0} (f : ℕ → A) (n : ℕ) → reverse (table f n) ≡ table (λ j. f (n - 1 - j)) n
unfolding table
reverse_table f zero = refl
reverse_table {A} f (suc n) =
    reverse-append (table f n) (f n ∷ []) ∙ ap (λ (l : List A). f n ∷ l) (reverse_table f n)
    ∙ as_table (λ j. f (suc n - 1 - j)) (suc n) (f n) (f n ∷ table (λ j. f (n - 1 - j)) n) (ap suc (length_table _ n)) go
  where
    go : (i : ℕ) → i < suc n → get_or (f n ∷ table (λ j. f (n - 1 - j)) n) i (f n) ≡ f (suc n - 1 - i)
    go zero h = ap f (omega arith)
    go (suc i) h = get_or_table (λ j. f (n - 1 - j)) n i (f n) (omega arith) ∙ ap f (omega arith)

pub replicate_table {ℓ} : {A : Type ℓ} (a : A) (n : ℕ) → replicate n a ≡ table (λ i. a) n
replicate_table a n = as_table (λ i. a) n a (replicate n a) (length-replicate n a) (λ i h. get_or-replicate n i a a h)

pub table_cong {ℓ} : {A : Type ℓ} (f g : ℕ → A) (n : ℕ) → ((i : ℕ) → i < n → f i ≡ g i) → table f n ≡ table g n
unfolding table
table_cong f g zero h = refl
table_cong f g (suc n) h = rw (h n (omega arith), table_cong f g n (λ i l. h i (omega arith)))

-- one entry stored anew: the table of a function that differs there only
pub table_set : {A : Type 0} (f g : ℕ → A) (n x : ℕ) (v : A) → x < n → g x ≡ v → ((k : ℕ) → k < n → k ≢ x → f k ≡ g k) → set (table f n) x v ≡ table g n
table_set f g n x v l e h = as_table g n v (set (table f n) x v) (length-set (table f n) x v ∙ length_table f n) (λ k m. go k m (ℕ_discrete k x))
  where
    go : (k : ℕ) → k < n → Dec (k ≡ x) → get_or (set (table f n) x v) k v ≡ g k
    go k m (yes q) = rw (q, e) (get_or-set_same (table f n) x v v (rw (length_table f n) l))
    go k m (no q) = get_or-set_other (table f n) x k v v q ∙ get_or_table f n k v m ∙ h k m q

-- entries made of two arrays, into each of which one more is stored
pub table_stored : {A B C : Type 0} (f : A → B → C) (d : A) (e : B) (xs : List A) (ys : List B) (n at : ℕ) (a : A) (b : B) → at ≡ n → n < length xs → n < length ys
    → table (λ i. f (get_or (set xs at a) i d) (get_or (set ys at b) i e)) (n + 1) ≡ table (λ i. f (get_or xs i d) (get_or ys i e)) n ++ (f a b ∷ [])
table_stored {C = C} f d e xs ys n at a b here l m =
    rw here (table_more _ n
    ∙ ap (λ (c : C). table (λ i. f (get_or (set xs n a) i d) (get_or (set ys n b) i e)) n ++ (c ∷ [])) (rw (get_or-set_same xs n a d l, get_or-set_same ys n b e m))
    ∙ ap (λ (r : List C). r ++ (f a b ∷ [])) (table_cong _ _ n (λ i k. rw (get_or-set_other xs n i a d (omega arith), get_or-set_other ys n i b e (omega arith)))))

module _ {A B : Type 0} (g : A → B) where
  pub map_snoc : (l : List A) (a : A) → map g (l ++ (a ∷ [])) ≡ map g l ++ (g a ∷ [])
  map_snoc [] a = refl
  map_snoc (b ∷ l) a = rw (map_snoc l a)

  pub map_table : (f : ℕ → A) (n : ℕ) → map g (table f n) ≡ table (λ i. g (f i)) n
  unfolding table
  map_table f zero = refl
  map_table f (suc n) = rw (map_snoc (table f n) (f n), map_table f n)

-- ---- an array that is written anew by rising position
-- for every other entry it is one of the first i exactly where it is one of the first i + 1
next_same : (i j : ℕ) → j ≢ i → ltb j i ≡ ltb j (i + 1)
next_same i j m = go (ltb j i) refl
  where
    go : (b : Bool) → ltb j i ≡ b → ltb j i ≡ ltb j (i + 1)
    go true e = e ∙ sym (lt-ltb j (i + 1) (let l = ltb-true j i e in omega arith))
    go false e = e ∙ sym (le-ltb j (i + 1) (let l = ltb-false j i e in omega arith))

module _ {A : Type 0} (f g : ℕ → A) where
  -- the first i of n entries are those of f, the others still those of g
  unfoldable pub renewed : ℕ → ℕ → List A
  renewed n i = table (λ j. cond (ltb j i) (f j) (g j)) n

  pub renewed_none : (n : ℕ) → table g n ≡ renewed n 0
  unfolding renewed
  renewed_none n = table_cong _ _ n (λ j h. rw (le-ltb j 0 (omega arith)))

  -- the next entry is still that of g
  pub renewed_next : (n i : ℕ) (d : A) → i < n → get_or (renewed n i) i d ≡ g i
  unfolding renewed
  renewed_next n i d h = get_or_table _ n i d h ∙ rw (le-ltb i i (omega arith))

  pub renewed_more : (n i : ℕ) → i < n → set (renewed n i) i (f i) ≡ renewed n (i + 1)
  unfolding renewed
  renewed_more n i h = table_set _ _ n i (f i) h (rw (lt-ltb i (i + 1) (omega arith))) (λ j k m. ap (λ b. cond b (f j) (g j)) (next_same i j m))

  -- the next entry is the same in both
  renewed_kept : (n i : ℕ) → f i ≡ g i → renewed n i ≡ renewed n (i + 1)
  unfolding renewed
  renewed_kept n i e = table_cong _ _ n (λ j h. go j (ℕ_discrete j i))
    where
      go : (j : ℕ) → Dec (j ≡ i) → cond (ltb j i) (f j) (g j) ≡ cond (ltb j (i + 1)) (f j) (g j)
      go j (yes q) = rw (q, le-ltb i i (omega arith), lt-ltb i (i + 1) (omega arith)) (sym e)
      go j (no m) = ap (λ b. cond b (f j) (g j)) (next_same i j m)

  -- where the others are those of f too
  pub renewed_all : (n i : ℕ) → ((j : ℕ) → j < n → i ≤ j → f j ≡ g j) → renewed n i ≡ table f n
  unfolding renewed
  renewed_all n i h = table_cong _ _ n (λ j k. go j k (ltb j i) refl)
    where
      go : (j : ℕ) → j < n → (b : Bool) → ltb j i ≡ b → cond (ltb j i) (f j) (g j) ≡ f j
      go j k true e = rw e
      go j k false e = rw e (sym (h j k (ltb-false j i e)))

-- ---- an array that is filled by rising position
module _ {A : Type 0} (f : ℕ → A) (d : A) where
  -- the first i of n entries are those of the table, the others still d
  unfoldable pub filled : ℕ → ℕ → List A
  filled n i = table (λ j. cond (ltb j i) (f j) d) n

  pub filled_none : (n : ℕ) → table (λ j. d) n ≡ filled n 0
  unfolding filled renewed
  filled_none n = renewed_none f (λ j. d) n

  pub filled_more : (n i : ℕ) → i < n → set (filled n i) i (f i) ≡ filled n (i + 1)
  unfolding filled renewed
  filled_more n i h = renewed_more f (λ j. d) n i h

  -- the next entry is d in the table too
  pub filled_kept : (n i : ℕ) → f i ≡ d → filled n i ≡ filled n (i + 1)
  unfolding filled renewed
  filled_kept n i e = renewed_kept f (λ j. d) n i e

  -- no more than n are filled
  pub filled_within : (n i : ℕ) → filled n (min i n) ≡ filled n i
  unfolding filled
  filled_within n i = table_cong _ _ n (λ j h. ap (λ b. cond b (f j) d) (same j h (ltb j i) refl))
    where
      same : (j : ℕ) → j < n → (b : Bool) → ltb j i ≡ b → ltb j (min i n) ≡ ltb j i
      same j h true e = lt-ltb j (min i n) (let l = ltb-true j i e in omega arith) ∙ sym e
      same j h false e = le-ltb j (min i n) (let l = ltb-false j i e in omega arith) ∙ sym e

  -- the others are d in the table too
  pub filled_all : (n i : ℕ) → ((j : ℕ) → j < n → i ≤ j → f j ≡ d) → filled n i ≡ table f n
  unfolding filled renewed
  filled_all n i h = renewed_all f (λ j. d) n i h
