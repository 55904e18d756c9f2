-- The frames 87 of records of a kind, as a loop writes them behind the bytes that end at a place: those that are written, and those of the records that are left.
use Rattle.std.proofs.Common.{◌≡◌, Bool, true, false, List, [], ◌∷◌, ◌++◌, ℕ, ◌+◌, ◌-◌, ◌≤◌, length, take, drop, refl, sym, ap, ◌∙◌, arith, add-one, append-nil, append_assoc, length-append}
use mathlib.Core.List.{flat_map}
use borrow.Rule.Slice.PartMut.{put_mid}
use Rattle.own_loops.specs.OwnLoops.{dropped_from}
use Rattle.slices.specs.Written.{written}
use Rattle.printing.specs.Printed.{dropped_text}
use Rattle.printing.specs.Lengths.{dropped_length}
use Rattle.printing.specs.LineTexts.{length_dropped}
use Rattle.texts.specs.PartLaws.{Begun, same_length, both_begun}
use Rattle.repairs.specs.Repairs.{dropped_lines_text}

module _ {A : Type 0} (drops : A → Bool) (reason : ℕ) where
  abbrev pub lines_from : ℕ → List A → List ℕ
  lines_from line l = dropped_lines_text (dropped_from drops reason line l)

  -- one record's line, and those of the records behind it
  its_line : (line : ℕ) (x : A) (l : List A) → drops x ≡ true → lines_from line (x ∷ l) ≡ dropped_text line reason ++ lines_from (line + 1) l
  unfolding dropped_from flat_map
  its_line line x l t = rw (t, add-one) refl

  no_line : (line : ℕ) (x : A) (l : List A) → drops x ≡ false → lines_from line (x ∷ l) ≡ lines_from (line + 1) l
  unfolding dropped_from
  no_line line x l t = rw (t, add-one) refl

  module _ (line : ℕ) (records : List A) (out : List ℕ) (at : ℕ) where
    pub record Dropping (now : List ℕ) (end next : ℕ) (rest : List A) : Type 0 where
      pub done : List ℕ
      pub whole : done ++ lines_from next rest ≡ lines_from line records
      pub here : end ≡ at + length done
      pub behind : (bytes first : List ℕ) → Begun bytes first out at → Begun (bytes ++ done) first now end

    pub none_dropped : Dropping out at line records
    none_dropped = record { done = []; whole = refl; here = omega arith; behind = λ bytes first b. rw append-nil b }

    module _ {now : List ℕ} {end next : ℕ} where
      pub all_dropped : (rest : List A) → Dropping now end next rest → length rest ≡ 0 → (bytes first : List ℕ) → Begun bytes first out at → Begun (bytes ++ lines_from line records) first now end
      unfolding dropped_from flat_map
      all_dropped [] d h bytes first b = rw (← d.whole, append-nil) (d.behind bytes first b)
      all_dropped (x ∷ rest) d h bytes first b = absurd (omega (arith, h))

      module _ {rest : List A} {x : A} {left : List A} (d : Dropping now end next rest) (e : rest ≡ x ∷ left) where
        pub one_left : drops x ≡ false → Dropping now end (next + 1) left
        one_left t = record { done = d.done; whole = ap (λ b. d.done ++ b) (sym (ap (lines_from next) e ∙ no_line next x left t)) ∙ d.whole; here = d.here; behind = d.behind }

        module _ (t : drops x ≡ true) where
          whole_more : (d.done ++ dropped_text next reason) ++ lines_from (next + 1) left ≡ lines_from line records
          whole_more = append_assoc d.done (dropped_text next reason) (lines_from (next + 1) left) ∙ ap (λ b. d.done ++ b) (sym (ap (lines_from next) e ∙ its_line next x left t)) ∙ d.whole

          pub line_room : at + length (lines_from line records) ≤ length out → length now ≡ length out → end + dropped_length ≤ length now
          line_room room long =
              let whole = ap length whole_more in
              omega (arith, room, long, d.here, whole, length-append (d.done ++ dropped_text next reason) (lines_from (next + 1) left), length-append d.done (dropped_text next reason), length_dropped next reason)

          pub one_dropped : end + dropped_length ≤ length now → {part : List ℕ} → part ≡ written (dropped_text next reason) (take (length now - end) (drop end now))
              → Dropping (put_mid end (length now - end) now part) (end + dropped_length) (next + 1) left
          one_dropped room w = record {
            done = d.done ++ dropped_text next reason;
            whole = whole_more;
            here = omega (arith, d.here, length-append d.done (dropped_text next reason), length_dropped next reason);
            behind = λ bytes first b.
                let so_far = d.behind bytes first b in
                let fits : length ((bytes ++ d.done) ++ dropped_text next reason) ≤ length first =
                omega (arith, same_length so_far, room, so_far.here, length-append (bytes ++ d.done) (dropped_text next reason), length_dropped next reason) in
                rw (← append_assoc bytes d.done (dropped_text next reason)) (both_begun so_far (dropped_text next reason) fits w (sym (length_dropped next reason)));
          }
