-- The lines of the first records of a list, as a loop writes them behind the bytes that end at a place.
use Rattle.std.proofs.Common.{◌≡◌, ap, arith, append-nil, List, ◌++◌, ℕ, ◌+◌, ◌-◌, ◌≤◌, ◌<◌, length, take, drop, get_or, add-one, take-append-drop, length-append}
use mathlib.Core.List.{flat_map, append_assoc}
use lib.Seq.{take-suc, take_all}
use borrow.Rule.Slice.PartMut.{put_mid}
use Rattle.slices.specs.Written.{written}
use Rattle.printing.specs.LineTexts.{lines_append, lines_more}
use Rattle.texts.specs.PartLaws.{Begun, same_length, both_begun}

module _ {A : Type 0} (line : A → List ℕ) (l : List A) (out : List ℕ) (at : ℕ) where
  -- the lines of the first i
  abbrev lines : ℕ → List ℕ
  lines i = flat_map line (take i l)

  pub record Lines (now : List ℕ) (end i : ℕ) : Type 0 where
    pub below : i ≤ length l
    pub here : end ≡ at + length (lines i)
    pub behind : (bytes first : List ℕ) → Begun bytes first out at → Begun (bytes ++ lines i) first now end

  pub no_lines : Lines out at 0
  unfolding flat_map
  no_lines = record { below = omega arith; here = omega arith; behind = λ bytes first b. rw append-nil b }

  module _ {now : List ℕ} {end i : ℕ} (s : Lines now end i) where
    pub all_lines : length l ≤ i → (bytes first : List ℕ) → Begun bytes first out at → Begun (bytes ++ flat_map line l) first now end
    all_lines h bytes first b = rw (take_all i l h) at (s.behind bytes first b)

    module _ (h : i < length l) (x : A) (e : x ≡ get_or l i x) (room : at + length (flat_map line l) ≤ length out) (long : length now ≡ length out) where
      one_more : lines (i + 1) ≡ lines i ++ line x
      one_more = rw (add-one, take-suc l i x h, ← e) (lines_more line (take i l) x)

      fits : length (lines i ++ line x) ≤ length (flat_map line l)
      fits =
          let whole = ap (λ m. length (flat_map line m)) (take-append-drop (i + 1) l) in
          omega (arith, ap length one_more, rw (lines_append line (take (i + 1) l) (drop (i + 1) l), length-append) at whole)

      pub line_room : end + length (line x) ≤ length now
      line_room = omega (arith, s.here, fits, length-append (lines i) (line x))

      pub line_more : {part : List ℕ} {n : ℕ} → n ≡ length (line x) → part ≡ written (line x) (take (length now - end) (drop end now)) → Lines (put_mid end (length now - end) now part) (end + n) (i + 1)
      line_more {part} {n} q w = record {
        below = omega arith;
        here = omega (arith, s.here, ap length one_more, length-append (lines i) (line x));
        behind = λ bytes first b.
            let so_far = s.behind bytes first b in
            let more = both_begun so_far (line x) (omega (arith, same_length so_far, line_room, so_far.here, length-append (bytes ++ lines i) (line x))) w q in
            rw (one_more, ← append_assoc) more;
      }
