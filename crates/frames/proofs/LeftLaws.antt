-- The supply line, if a line is left: a line is left exactly where a character is left; then it is read, and its id stored, or the pass stops at it.
use mathlib.Core.Path.{◌≡◌, refl, ap, ◌∙◌}
use mathlib.Core.List.{List, [], ◌∷◌, ◌++◌}
use Prim.Native.Nat.{ℕ, ◌+◌, ◌≤◌, ◌<◌}
use native.Mathlib.Omega.{arith}
use lib.ListN.{length, drop, length-drop}
use Rattle.std.proofs.Common.{Result, Ok, Err, Some}
use Rattle.network.specs.declared.error.Refusal.{Refusal}
use Rattle.network.specs.declared.topology.PowerNetwork.{PowerNetwork}
use Rattle.network.specs.Answers.{accepted, refused, answer_of, valued, ◌and_then◌, Fault, judge, Judgement}
use Rattle.lines.specs.Hex.{Fields}
use Rattle.lines.specs.Frames.{Frame}
use Rattle.lines.specs.Lines.{Line, cut, line_faults}
use Rattle.lines.specs.CutLaws.{joined, joined_cut}
use Rattle.record_lines.specs.declared.supply.Supply.{Supply}
use Rattle.record_lines.specs.Kinds.{supply, supply_from, supply_bytes, is_frame, fields_of, read_one, without}
use Rattle.record_lines.specs.LineAnswers.{supply_made}
use Rattle.frames.specs.Text.{at_most_one, as_option}
use Rattle.frames.specs.Passes.{pass_supply}
use Rattle.frames.specs.FrameReads.{with_supply, IsNext}
use Rattle.frames.proofs.LoopLaws.{Reached, none_reached, line_reached, line_stops, all_reached}

none_left : (t : List ℕ) → length t ≡ 0 → 0 ≡ at_most_one (cut t)
unfolding at_most_one cut
none_left [] h = refl
none_left (c ∷ t) h = absurd (omega arith)

one_left : (t : List ℕ) → 0 < length t → 1 ≡ at_most_one (cut t)
unfolding at_most_one joined
one_left t h = go (cut t) (joined_cut t)
  where
    go : (ls : List Line) → joined ls ≡ t → 1 ≡ at_most_one ls
    go [] e = absurd (omega (arith, ap length e))
    go (l ∷ ls) e = refl

supply_stored : (n : PowerNetwork) (l : List ℕ) (id : ℕ) → length l ≡ 0 → record n { supply = Some id } ≡ with_supply n (l ++ (id ∷ []))
unfolding with_supply as_option
supply_stored n [] id e = refl
supply_stored n (x ∷ l) id e = absurd (omega arith)

-- a record that is another value to the definitions
one_valued : {A B : Type 0} (F : Frame) (make : Fields F.widths → A) (bytes : Fields F.widths → List Fault) (f : A → B) (p : ℕ) (ls : List Line)
    → valued f (without (read_one F make bytes p ls)) ≡ without (read_one F (λ x. f (make x)) bytes p ls)
unfolding read_one without ◌and_then◌
one_valued F make bytes f p [] = refl
one_valued F make bytes f p (l ∷ ls) = go (judge (line_faults (is_frame F l) l ++ bytes (fields_of F l)) p)
  where
    go : (v : Judgement) → valued f (without (v and_then accepted (make (fields_of F l), ls))) ≡ without (v and_then accepted (f (make (fields_of F l)), ls))
    go (accepted u) = refl
    go (refused m q) = refl

abbrev supply_id : Supply → ℕ
supply_id s = s.0

module _ (n : PowerNetwork) (text : List ℕ) (start place : ℕ) (h : start ≤ length text) (e : n ≡ with_supply n []) where
  abbrev left : List Line
  left = cut (drop start text)

  abbrev passed : PowerNetwork → Result ℕ Refusal → Type 0
  passed = IsNext (with_supply n) text (pass_supply place left)

  at_start : Reached supply supply_from supply_bytes place start text (with_supply n) n start 0
  at_start = none_reached supply supply_from supply_bytes place start text (with_supply n) h e

  pub no_line : start ≡ length text → passed n (Ok start)
  no_line q = all_reached supply supply_from supply_bytes place start text (with_supply n) at_start (none_left (drop start text) (omega (arith, length-drop start text)))

  module _ (more : start ≡ length text → ⊥) (v : Result Supply Refusal) (q : answer_of v ≡ without (read_one supply supply_made supply_bytes place left)) where
    a_line : 1 ≡ at_most_one left
    a_line = one_left (drop start text) (omega (arith, more, length-drop start text))

    -- the line is the first of its run, and its id is the record
    first_line : valued supply_id (answer_of v) ≡ without (read_one supply supply_from supply_bytes (place + 0) left)
    first_line =
        let z : place ≡ place + 0 = omega arith in
        ap (valued supply_id) q ∙ one_valued supply supply_made supply_bytes supply_id place left ∙ ap (λ (p : ℕ). without (read_one supply supply_from supply_bytes p left)) z

    pub supply_made_lem : {s : Supply} → v ≡ Ok s → passed (record n { supply = Some (supply_id s) }) (Ok (start + 7))
    supply_made_lem o =
        all_reached supply supply_from supply_bytes place start text (with_supply n)
        (line_reached supply supply_from supply_bytes place start text (with_supply n) at_start _ first_line (ap (λ x. valued supply_id (answer_of x)) o) 6 refl (supply_stored n at_start.records _ at_start.many)) a_line

    pub supply_refused : {x : Refusal} → v ≡ Err x → passed n (Err x)
    supply_refused o =
        (line_stops supply supply_from supply_bytes place start text (with_supply n) at_start _ first_line _ (omega (arith, a_line)) (ap (λ x. valued supply_id (answer_of x)) o)).0
