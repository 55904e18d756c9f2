-- The lines of a plan as a loop writes them, and as one adds up their lengths: those of the first i pairs stand at the front of the slice, and behind them is what stood there.
use Rattle.std.specs.Prelude.{◌≡◌, refl, List, [], ◌∷◌, ℕ, ◌+◌, ◌-◌, ◌≤◌, ◌<◌, length, get_or, take, drop, sum_by}
use Rattle.std.proofs.Common.{sym, ap, ◌∙◌, length-append}
use mathlib.Core.List.{flat_map}
use Rattle.std.proofs.Math.ListN.{get_or-map}
use Rattle.std.proofs.lemmas.List.{length-map}
use Rattle.std.proofs.lemmas.List.Sums.{sum_by-cons}
use borrow.Rule.Slice.PartMut.{put_mid}
use Rattle.numbers.specs.TableLaws.{as_table}
use Rattle.numbers.specs.UpTo.{table}
use Rattle.slices.specs.Written.{written}
use Rattle.printing.specs.Printed.{pair_text}
use Rattle.printing.specs.Stored.{no_entry}
use Rattle.printing.specs.LineLoops.{LinesAt, at_none, at_length, at_room, at_next, at_all}
use Rattle.plan.specs.declared.pairs.Pair.{Pair}
use Rattle.plan.specs.Plan.{Moves, plan_text}
use Rattle.plan.specs.Stored.{switches_in, moves_in, line_length}

abbrev line : Moves → List ℕ
line m = pair_text m.closes m.opens

abbrev no_pair : Pair
no_pair = record { closes = no_entry; opens = no_entry }

module _ (pairs : List Pair) where
  abbrev pair_at : ℕ → Moves
  pair_at i = switches_in (get_or pairs i no_pair)

  in_table : moves_in pairs ≡ table pair_at (length pairs)
  in_table = as_table pair_at (length pairs) (switches_in no_pair) (moves_in pairs) (length-map pairs switches_in) (λ i h. get_or-map switches_in pairs i no_pair)

  -- ---- written
  abbrev pub Lines : List ℕ → List ℕ → ℕ → ℕ → Type 0
  Lines out now at i = LinesAt line pair_at (length pairs) out now at i

  pub no_lines : (out : List ℕ) → Lines out out 0 0
  no_lines out = at_none line pair_at (length pairs) out

  module _ {out now : List ℕ} {at i : ℕ} (l : Lines out now at i) where
    pub same_room : length now ≡ length out
    same_room = at_length line pair_at (length pairs) out now at i l

    module _ (room : length (plan_text (moves_in pairs)) ≤ length out) (h : i < length pairs) where
      room_for : length (flat_map line (table pair_at (length pairs))) ≤ length out
      unfolding plan_text
      room_for = rw (← in_table) room

      pub line_room : at + length (line (pair_at i)) ≤ length now
      line_room = at_room line pair_at (length pairs) out now at i l room_for h

      pub line_written : {next : ℕ} → next ≡ at + length (line (pair_at i)) → {part : List ℕ} → part ≡ written (line (pair_at i)) (take (length now - at) (drop at now))
          → Lines out (put_mid at (length now - at) now part) next (i + 1)
      line_written e w = at_next line pair_at (length pairs) out now at i l room_for h refl e w

    pub lines_all : length pairs ≤ i → now ≡ written (plan_text (moves_in pairs)) out
    unfolding plan_text
    lines_all h = at_all line pair_at (length pairs) out now at i l h ∙ rw in_table refl

-- ---- their lengths
pub summed : (pairs : List Pair) → sum_by line_length pairs ≡ length (plan_text (moves_in pairs))
unfolding plan_text flat_map
summed [] = refl
summed (p ∷ pairs) = sum_by-cons line_length p pairs ∙ ap (λ (n : ℕ). line_length p + n) (summed pairs) ∙ sym (length-append (line (switches_in p)) (plan_text (moves_in pairs)))
