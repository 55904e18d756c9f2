-- A record's conditions where rows of ids and counts stand for the lists that they look at.
use Rattle.std.specs.Prelude.{◌≡◌, refl, Bool, true, false, cond, ◌||◌, List, [], ◌∷◌, map, ℕ, zero, suc, ◌+◌, ◌≤◌, ◌<◌, eqb, ltb, length, get_or, take, set}
use Rattle.std.proofs.Common.{sym, ap, ◌∙◌, arith, lt-ltb, le-ltb, le-leb, leb-false, ltb-true, ltb-false, length-take}
use Rattle.std.proofs.lemmas.List.{take_more}
use Rattle.std.proofs.Math.Dec.{leb-suc-suc}
use mir.Val.{bool_byte}
use Rattle.std.proofs.Math.Seq.{take-length}
use Rattle.numbers.specs.TableLaws.{map_snoc}
use Rattle.numbers.specs.Choose.{index_of, among}
use Rattle.numbers.specs.Times.{times, counted_last, counted_short}
use Rattle.network.specs.declared.bus.Bus.{Bus}
use Rattle.network.specs.declared.branch.Branch.{Branch}
use Rattle.network.specs.declared.switch.Switch.{Switch}
use Rattle.network.specs.declared.switch.ReconfigAlgorithm.{ReconfigAlgorithm}
use Rattle.network.specs.Answers.{accepted, Fault, judge, Judgement}
use Rattle.network.specs.AnswerLaws.{judge_iff}
use Rattle.network.specs.TieLaws.{ties_counting}
use Rattle.ids.specs.declared.rows.IdRows.{IdRows}
use Rattle.ids.specs.Ids.{put_at, position_of}
use Rattle.ids.specs.PutIds.{Holding, put_held, put_before}
use Rattle.network.specs.Limits.{Head, bus_id, switch_id, on, ties}
use Rattle.network.specs.Faults.{bus_row, branch_row, switch_row, bus_faults, branch_faults, switch_faults}
use Rattle.checks.specs.Counts.{counts, count_at, set_count}

-- an id stands before position i where its first position is below i
among_front : (x : ℕ) (l : List ℕ) (i : ℕ) → i ≤ length l → ltb (index_of x l) i ≡ among x (take i l)
unfolding index_of among
among_front x l zero h = le-ltb (index_of x l) 0 (omega arith)
among_front x [] (suc i) h = absurd (omega arith)
among_front x (y ∷ l) (suc i) h = go (eqb x y) (among_front x l i (omega arith))
  where
    go : (b : Bool) → ltb (index_of x l) i ≡ among x (take i l) → ltb (cond b zero (suc (index_of x l))) (suc i) ≡ (b || among x (take i l))
    go true ih = lt-ltb 0 (suc i) (omega arith)
    go false ih = leb-suc-suc (suc (index_of x l)) i ∙ ih

-- it stands in the list where its first position is one of the list's
pub among_index : (x : ℕ) (l : List ℕ) → ltb (index_of x l) (length l) ≡ among x l
among_index x l = among_front x l (length l) (omega arith) ∙ ap (among x) (take-length l)

-- the keys of the first i records in rows, and one more
pub put_more : {A : Type 0} (key : A → ℕ) (l : List A) (d : A) {i : ℕ} {r : IdRows} → Holding i (map key (take i l)) r.ids r.first r.next → i < length l → i < 512
    → (more : IdRows) → more ≡ put_at i (key (get_or l i d)) r → Holding (i + 1) (map key (take (i + 1) l)) more.ids more.first more.next
put_more key l d {i} held within room more e = rw (take_more l i d within, map_snoc key (take i l) (get_or l i d)) (put_held held room (key (get_or l i d)) more e)

-- ---- a record judged by what rows and counts say of the records that are looked at
module _ (before : List Bus) {n : ℕ} {ids first next : List ℕ} (held : Holding n (map bus_id before) ids first next) {a : Judgement} (place : ℕ) where
  -- a bus, with those before it
  pub bus_judged : (b : Bus) (count p : ℕ) → n ≤ count → p ≡ position_of ids first next count b.id → a ≡ judge (bus_row b (ltb p n)) place → a ≡ judge (bus_faults before b) place
  unfolding bus_faults
  bus_judged b count p h e j = rw (← put_before held count b.id p h e) j

  -- a branch, with all of them
  pub branch_judged : (stored : Bool) (b : Branch) (p q : ℕ) → p ≡ position_of ids first next n b.from_bus → q ≡ position_of ids first next n b.to_bus
      → a ≡ judge (branch_row stored b (ltb p n) (ltb q n)) place → a ≡ judge (branch_faults stored before b) place
  unfolding branch_faults
  branch_judged stored b p q e f j =
      let within : n ≤ n = omega arith in
      rw (← put_before held n b.from_bus p within e, ← put_before held n b.to_bus q within f) j

-- a switch, with those before it. Where its branch position has no count it is refused by row 6 already
pub switch_judged : (h : Head) (before : List Switch) (s : Switch) (branches : ℕ) (algorithm : ReconfigAlgorithm) (twice : Bool) (onBranch : ℕ) (counted : List ℕ) (y t place : ℕ)
    → h.branches ≡ branches → h.algorithm ≡ algorithm → branches ≤ 512
    → twice ≡ among s.id (map switch_id before) → onBranch ≡ cond (ltb y 512) (get_or counted y 0) 0 → counted ≡ counts 512 (map on before) → y ≡ s.branch_idx → t ≡ ties before
    → judge (switch_row s branches algorithm twice onBranch t) place ≡ judge (switch_faults h before s) place
unfolding switch_faults judge
switch_judged h before s branches algorithm twice onBranch counted y t place b m small e d f i q =
    rw (b, m, e, d, f, i, q) (go (ltb s.branch_idx 512) refl)
  where
    row : ℕ → List Fault
    row n = switch_row s branches algorithm (among s.id (map switch_id before)) n (ties before)

    go : (k : Bool) → ltb s.branch_idx 512 ≡ k
        → judge (row (cond (ltb s.branch_idx 512) (get_or (counts 512 (map on before)) s.branch_idx 0) 0)) place ≡ judge (row (times s.branch_idx (map on before))) place
    go true k = rw (k, count_at 512 s.branch_idx (map on before) (ltb-true s.branch_idx 512 k))
    go false k = rw (le-leb branches s.branch_idx (let l = ltb-false s.branch_idx 512 k in omega arith))

-- the same by rows of the ids before it
pub switch_judged_by_rows : (h : Head) (before : List Switch) {i : ℕ} {ids first next : List ℕ} → Holding i (map switch_id before) ids first next
    → (s : Switch) (count p on_branch : ℕ) (counted : List ℕ) (t : ℕ) {a : Judgement} (place : ℕ)
    → h.branches ≤ 512 → i ≤ count → p ≡ position_of ids first next count s.id → on_branch ≡ get_or counted s.branch_idx 0 → counted ≡ counts 512 (map on before) → t ≡ ties before
    → a ≡ judge (switch_row s h.branches h.algorithm (ltb p i) on_branch t) place → a ≡ judge (switch_faults h before s) place
unfolding switch_faults judge
switch_judged_by_rows h before {i} held s count p on_branch counted t place small within e f g k j =
    rw (put_before held count s.id p within e, f, g, k) at j ∙ go (ltb s.branch_idx 512) refl
  where
    row : ℕ → List Fault
    row n = switch_row s h.branches h.algorithm (among s.id (map switch_id before)) n (ties before)

    go : (b : Bool) → ltb s.branch_idx 512 ≡ b → judge (row (get_or (counts 512 (map on before)) s.branch_idx 0)) place ≡ judge (row (times s.branch_idx (map on before))) place
    go true b = rw (count_at 512 s.branch_idx (map on before) (ltb-true s.branch_idx 512 b)) refl
    go false b = rw (le-leb h.branches s.branch_idx (let l = ltb-false s.branch_idx 512 b in omega arith)) refl

-- ---- a switch that passed
-- it is on a branch, and at most one before it is
pub passed_so : (s : Switch) (branches : ℕ) (algorithm : ReconfigAlgorithm) (twice : Bool) (on_branch t place : ℕ) {u : Unit {0}}
    → accepted u ≡ judge (switch_row s branches algorithm twice on_branch t) place → (s.branch_idx < branches) × (on_branch < 2)
passed_so s branches algorithm twice on_branch t place e =
    let p = (judge_iff (switch_row s branches algorithm twice on_branch t) place).0 (sym e) in
    (leb-false branches s.branch_idx p.0, leb-false 2 on_branch p.1.1.0)

-- one switch more on its branch
pub count_more : (l : List Switch) (d : Switch) (i y n : ℕ) (counted : List ℕ) → i < length l → counted ≡ counts 512 (map on (take i l)) → y ≡ on (get_or l i d) → y < 512
    → n ≡ get_or counted y 0 → set counted y (n + 1) ≡ counts 512 (map on (take (i + 1) l))
count_more l d i y n counted within e r h q =
    let before = map on (take i l) in
    let now : n ≡ times y before = q ∙ rw (e, count_at 512 y before h) refl in
    rw (take_more l i d within, map_snoc on (take i l) (get_or l i d), e, ← r) (set_count 512 y n before h now)

-- and one tie more, if it is one
pub ties_more : (l : List Switch) (d : Switch) (i t : ℕ) → i < length l → t ≡ ties (take i l) → (n : ℕ) → n ≡ bool_byte (get_or l i d).normally_open → t + n ≡ ties (take (i + 1) l)
ties_more l d i t within e n f = rw (f, take_more l i d within, counted_last _ ties ties_counting (take i l) (get_or l i d), ← e) (go (get_or l i d).normally_open)
  where
    go : (b : Bool) → t + bool_byte b ≡ cond b (suc t) t
    go true = omega arith
    go false = omega arith

pub ties_before : (l : List Switch) (i t : ℕ) → t ≡ ties (take i l) → t ≤ i
ties_before l i t e = rw e (omega (arith, counted_short _ ties ties_counting (take i l), length-take i l))
