-- The single moves as loops list them, and their lines as one writes them: one id more, one pair more, one move more.
use Rattle.std.specs.Prelude.{◌≡◌, refl, ℕ, ◌+◌, ◌-◌, ◌≤◌, ◌<◌, min, length, get_or, take, drop}
use Rattle.std.proofs.Common.{sym, ap, ◌∙◌, arith, append_assoc, length-append, length-take}
use mathlib.Core.List.{List, [], ◌∷◌, ◌++◌, map, flat_map}
use Rattle.std.proofs.Math.ListN.{get_or-map}
use Rattle.std.proofs.lemmas.List.{take_more, take_all, length-map}
use Rattle.numbers.specs.UpTo.{table}
use Rattle.numbers.specs.TableLaws.{map_snoc, as_table, take_table, table_rest, reverse_table, map_table}
use Rattle.slices.specs.Written.{written}
use Rattle.printing.specs.declared.writer.SwitchAction.TheVariants.{Open, Close}
use Rattle.printing.specs.declared.writer.SwitchIds.{SwitchIds}
use Rattle.printing.specs.declared.writer.SwitchOperation.{SwitchOperation}
use Rattle.printing.specs.Printed.{operation_text}
use Rattle.printing.specs.Lengths.{operation_length}
use Rattle.printing.specs.LineLoops.{LinesTo, lines_end}
use Rattle.printing.specs.LineTexts.{length_operation}
use Rattle.printing.specs.Stored.{ids_in, no_entry}
use Rattle.operations.specs.Operations.{operations_text}
use Rattle.plan.specs.declared.pairs.Pair.{Pair}
use Rattle.plan.specs.Plan.{Moves}
use Rattle.plan.specs.Stored.{switches_in, moves_in}
use Rattle.resumption.specs.SingleMoves.{to, closing_moves, opening_moves, moves_of_pair, single_moves, inverse, going_back}
use Rattle.resumption.specs.MoveLaws.{singles_more, singles_fewer}

-- ---- one move more
pub one_more : {A : Type 0} (f : A → SwitchOperation) (before : List SwitchOperation) (l : List A) (i : ℕ) (d : A) → i < length l
    → (before ++ map f (take i l)) ++ (f (get_or l i d) ∷ []) ≡ before ++ map f (take (i + 1) l)
one_more f before l i d h =
    append_assoc before (map f (take i l)) (f (get_or l i d) ∷ [])
    ∙ ap (λ (r : List SwitchOperation). before ++ r) (sym (ap (map f) (take_more l i d h) ∙ map_snoc f (take i l) (get_or l i d)))

-- so many of two ids as the code counts them
pub ids_counted : (switches : SwitchIds) → length switches.ids ≡ 2 → {wide n : ℕ} → wide ≡ switches.count → n ≡ min wide 2 → n ≡ length (ids_in switches)
ids_counted switches two e f = omega (arith, length-take switches.count switches.ids)

-- ---- the moves of the first i pairs
-- a move for each switch that a pair closes, and for each that it opens
pub both_counted : (q : Moves) → length (moves_of_pair q) ≡ length q.closes + length q.opens
unfolding closing_moves opening_moves
both_counted q = omega (arith, length-append (closing_moves q) (opening_moves q), length-map q.closes (to Close), length-map q.opens (to Open))

module _ (pairs : List Pair) where
  abbrev no_pair : Pair
  no_pair = record { closes = no_entry; opens = no_entry }

  abbrev pub Made : List SwitchOperation → ℕ → Type 0
  Made made i = made ≡ single_moves (take i (moves_in pairs))

  pub none_made : Made [] 0
  unfolding single_moves flat_map
  none_made = refl

  module _ {made : List SwitchOperation} {i : ℕ} (m : Made made i) where
    pub all_made : length pairs ≤ i → made ≡ single_moves (moves_in pairs)
    all_made h = m ∙ ap single_moves (take_all i (moves_in pairs) (omega (arith, length-map pairs switches_in)))

    -- the next pair
    module _ (h : i < length pairs) where
      abbrev closes : List ℕ
      closes = ids_in (get_or pairs i no_pair).closes

      abbrev opens : List ℕ
      opens = ids_in (get_or pairs i no_pair).opens

      next : single_moves (take (i + 1) (moves_in pairs)) ≡ made ++ (map (to Close) closes ++ map (to Open) opens)
      unfolding closing_moves opening_moves
      next =
          let q = switches_in (get_or pairs i no_pair) in
          let more : take (i + 1) (moves_in pairs) ≡ take i (moves_in pairs) ++ (q ∷ []) =
          take_more (moves_in pairs) i (switches_in no_pair) (omega (arith, length-map pairs switches_in)) ∙ ap (λ p. take i (moves_in pairs) ++ (p ∷ [])) (get_or-map switches_in pairs i no_pair) in
          ap single_moves more ∙ singles_more (take i (moves_in pairs)) q ∙ ap (λ (l : List SwitchOperation). l ++ (map (to Close) closes ++ map (to Open) opens)) (sym m)

      -- there is room for its moves
      room : length made + (length closes + length opens) ≤ length (single_moves (moves_in pairs))
      room =
          omega (
            arith,
            ap length next,
            length-append made (map (to Close) closes ++ map (to Open) opens),
            length-append (map (to Close) closes) (map (to Open) opens),
            length-map closes (to Close),
            length-map opens (to Open),
            singles_fewer (i + 1) (moves_in pairs),
          )

      pub closing_room : length made + length closes ≤ length (single_moves (moves_in pairs))
      closing_room = omega (arith, room)

      module _ {closed : List SwitchOperation} (c : closed ≡ made ++ map (to Close) closes) where
        pub opening_room : length closed + length opens ≤ length (single_moves (moves_in pairs))
        opening_room = omega (arith, room, ap length c, length-append made (map (to Close) closes), length-map closes (to Close))

        pub pair_made : {both : List SwitchOperation} → both ≡ closed ++ map (to Open) opens → Made both (i + 1)
        pair_made o = o ∙ ap (λ (l : List SwitchOperation). l ++ map (to Open) opens) c ∙ append_assoc made (map (to Close) closes) (map (to Open) opens) ∙ sym next

-- ---- the moves from a position on, and back from it: the entries of the list, d where it has none
module _ (l : List SwitchOperation) (d : SwitchOperation) where
  abbrev entry : ℕ → SwitchOperation
  entry i = get_or l i d

  entries : l ≡ table entry (length l)
  entries = as_table entry (length l) d l refl (λ i h. refl)

  pub listed_rest : (done : ℕ) → drop done l ≡ table (λ j. entry (done + j)) (length l - done)
  listed_rest done = ap (drop done) entries ∙ table_rest entry (length l) done

  pub back_entry : ℕ → ℕ → SwitchOperation
  back_entry done j = inverse (entry (done - 1 - j))

  pub listed_back : (done : ℕ) → done ≤ length l → going_back (take done l) ≡ table (back_entry done) done
  unfolding going_back back_entry
  listed_back done h =
      ap going_back (ap (take done) entries ∙ take_table entry (length l) done h)
      ∙ ap (map inverse) (reverse_table entry done)
      ∙ map_table inverse (λ j. entry (done - 1 - j)) done

-- ---- lines
abbrev no_move : SwitchOperation
no_move = record { switch_id = 0; action = Open }

module _ (moves : List SwitchOperation) where
  abbrev move_at : ℕ → SwitchOperation
  move_at i = get_or moves i no_move

  abbrev pub Lines : List ℕ → List ℕ → ℕ → Type 0
  Lines out now i = LinesTo operation_text operation_length length_operation move_at (length moves) out now i

  pub lines_written : (out : List ℕ) {now : List ℕ} {i : ℕ} → Lines out now i → length moves ≤ i → now ≡ written (operations_text moves) out
  unfolding operations_text
  lines_written out l h =
      lines_end operation_text operation_length length_operation move_at (length moves) out l h
      ∙ ap (λ k. written (flat_map operation_text k) out) (sym (as_table move_at (length moves) no_move moves refl (λ i h. refl)))
