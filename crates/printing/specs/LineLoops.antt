-- Lines, one for each entry of a table, as a loop writes them into a slice that has room for all: of any lengths, and of one length.
use Rattle.std.specs.Prelude.{◌≡◌, refl, ℕ, zero, suc, ◌+◌, ◌*◌, ◌-◌, ◌≤◌, ◌<◌, length, take, drop}
use Rattle.std.proofs.Math.Path.{sym}
use Rattle.std.proofs.Common.{ap, ◌∙◌, arith, mul-suc, mul-zero, zero-add, add-one, length-append}
use mathlib.Core.List.{List, [], ◌++◌, flat_map}
use borrow.Rule.Slice.PartMut.{put_mid}
use Rattle.numbers.specs.UpTo.{table}
use Rattle.numbers.specs.TableLaws.{length_table, table_more}
use Rattle.slices.specs.Written.{written}
use Rattle.slices.specs.WrittenLaws.{length_written, written_append, written_room}
use Rattle.printing.specs.LineTexts.{lines_more, length_lines}

-- ---- lines of any lengths
module _ {A : Type 0} (line : A → List ℕ) (entry : ℕ → A) (n : ℕ) (out : List ℕ) where
  -- the lines of the first i entries
  abbrev lines : ℕ → List ℕ
  lines i = flat_map line (table entry i)

  -- they stand at the front, and the next one begins at `at`
  pub record LinesAt (now : List ℕ) (at i : ℕ) : Type 0 where
    pub below : i ≤ n
    pub begins : at ≡ length (lines i)
    now_so : now ≡ written (lines i) out

  one_more : (i : ℕ) → lines (i + 1) ≡ lines i ++ line (entry i)
  one_more i = rw (table_more entry i, lines_more line (table entry i) (entry i))

  pub length_more : (i : ℕ) → length (lines (i + 1)) ≡ length (lines i) + length (line (entry i))
  length_more i = ap length (one_more i) ∙ length-append (lines i) (line (entry i))

  -- no shorter than those of fewer entries
  length_rises : (k i : ℕ) → length (lines i) ≤ length (lines (k + i))
  length_rises zero i = rw zero-add (omega arith)
  length_rises (suc k) i = let e : suc k + i ≡ (k + i) + 1 = omega arith in rw e (omega (arith, length_more (k + i), length_rises k i))

  pub at_none : LinesAt out 0 0
  unfolding table flat_map
  at_none = record { below = omega arith; begins = refl; now_so = sym (written_room [] out (omega arith)) }

  module _ (now : List ℕ) (at i : ℕ) (l : LinesAt now at i) where
    pub at_length : length now ≡ length out
    at_length = ap length l.now_so ∙ length_written (lines i) out

    pub at_all : n ≤ i → now ≡ written (lines n) out
    at_all h = let all : i ≡ n = omega (arith, l.below) in l.now_so ∙ rw all

    module _ (room : length (lines n) ≤ length out) (h : i < n) where
      -- the next line has room
      pub at_room : at + length (line (entry i)) ≤ length now
      at_room =
          let all : (n - (i + 1)) + (i + 1) ≡ n = omega arith in
          omega (arith, at_length, l.begins, length_more i, rw all at (length_rises (n - (i + 1)) (i + 1)))

      pub at_next : {x : A} → x ≡ entry i → {next : ℕ} → next ≡ at + length (line (entry i)) → {part : List ℕ} → part ≡ written (line x) (take (length now - at) (drop at now))
          → LinesAt (put_mid at (length now - at) now part) next (i + 1)
      at_next e behind w = record {
        below = omega arith;
        begins = behind ∙ omega (arith, l.begins, length_more i);
        now_so = written_append (lines i) (line (entry i)) out at (sym l.begins) (omega (arith, at_room, at_length)) l.now_so (w ∙ rw e) ∙ rw (one_more i);
      }

-- ---- lines of one length
module _ {A : Type 0} (line : A → List ℕ) (width : ℕ) (long : (a : A) → length (line a) ≡ width) (entry : ℕ → A) (n : ℕ) (out : List ℕ) where
  pub record Lines (now : List ℕ) (at i : ℕ) : Type 0 where
    pub here : at ≡ width * i
    so_far : LinesAt line entry n out now at i

  pub lines_none : Lines out 0 0
  lines_none = record { here = omega arith; so_far = at_none line entry n out }

  module _ (now : List ℕ) (at i : ℕ) (l : Lines now at i) where
    pub lines_length : length now ≡ length out
    lines_length = at_length line entry n out now at i l.so_far

    pub lines_all : n ≤ i → now ≡ written (flat_map line (table entry n)) out
    lines_all = at_all line entry n out now at i l.so_far

    module _ (room : length (flat_map line (table entry n)) ≤ length out) (h : i < n) where
      pub lines_room : at + width ≤ length now
      lines_room = rw (← long (entry i)) (at_room line entry n out now at i l.so_far room h)

      pub lines_next : {x : A} → x ≡ entry i → {next : ℕ} → next ≡ at + width → {part : List ℕ} → part ≡ written (line x) (take (length now - at) (drop at now))
          → Lines (put_mid at (length now - at) now part) next (i + 1)
      lines_next e behind w = record {
        here = omega (arith, l.here, behind);
        so_far = at_next line entry n out now at i l.so_far room h e (behind ∙ rw (long (entry i))) w;
      }

  -- ---- where a loop reckons the place of the next line from i, and room is tested by the width
  pub record LinesTo (now : List ℕ) (i : ℕ) : Type 0 where
    lines_so_far : Lines now (width * i) i

  pub no_lines : LinesTo out 0
  no_lines = record { lines_so_far = rw mul-zero lines_none }

  module _ {now : List ℕ} {i : ℕ} (l : LinesTo now i) where
    pub same_room : length now ≡ length out
    same_room = lines_length now (width * i) i l.lines_so_far

    pub lines_end : n ≤ i → now ≡ written (flat_map line (table entry n)) out
    lines_end = lines_all now (width * i) i l.lines_so_far

    pub lines_further : width * n ≤ length out → i < n → {x : A} → x ≡ entry i → {part : List ℕ} → part ≡ written (line x) (take (length now - width * i) (drop (width * i) now))
        → LinesTo (put_mid (width * i) (length now - width * i) now part) (i + 1)
    lines_further room h e w = record { lines_so_far = lines_next now (width * i) i l.lines_so_far (rw (length_lines line width long (table entry n), length_table entry n) room) h e (rw (add-one i, mul-suc) (omega arith)) w }
