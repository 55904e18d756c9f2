-- A loop over the lines of a kind: nothing read yet, one line more, the line at which it stops, all read.
use mathlib.Core.Path.{◌≡◌, refl, sym, ap, ◌∙◌}
use mathlib.Core.List.{List, [], ◌∷◌, ◌++◌}
use Prim.Native.Nat.{ℕ, suc, ◌+◌, ◌≤◌, ◌<◌}
use native.Mathlib.Omega.{arith}
use native.Mathlib.Numerals.{add-one}
use lib.ListN.{length, drop, length-append, length-drop}
use lib.Seq.{drop-drop}
use Rattle.std.proofs.Common.{Ok, Err}
use Rattle.network.specs.declared.error.Refusal.{Refusal}
use Rattle.network.specs.Answers.{Answer, accepted, refused, number_of, place_of, Fault}
use Rattle.lines.specs.Hex.{Fields}
use Rattle.lines.specs.Lines.{cut}
use Rattle.lines.specs.Frames.{Frame}
use Rattle.record_lines.specs.Kinds.{read_one, without}
use Rattle.frames.specs.Passes.{pass_run, going}
use Rattle.frames.specs.Steps.{pass_start, pass_more, pass_stops}
use Rattle.record_lines.specs.FramedLaws.{size, one_made, without_refused}
use Rattle.frames.specs.FrameReads.{IsNext}

module _ {A B : Type 0} (F : Frame) (make : Fields F.widths → A) (bytes : Fields F.widths → List Fault) (place start : ℕ) (text : List ℕ)
    (store : List A → B) where
  -- i lines are read, the next begins at `at`, and the records are stored
  pub record Reached (value : B) (at i : ℕ) : Type 0 where
    pub records : List A
    pub many : length records ≡ i
    pub within : at ≤ length text
    pub passed : pass_run F make bytes i place (cut (drop start text)) ≡ going records (cut (drop at text))
    pub stored : value ≡ store records

  pub none_reached : {value : B} → start ≤ length text → value ≡ store [] → Reached value start 0
  none_reached h e = record { records = []; many = refl; within = h; passed = pass_start F make bytes place (cut (drop start text)); stored = e }

  module _ {value : B} {at i : ℕ} (r : Reached value at i) where
    -- what the next line is read as
    module _ (v : Answer A) (e : v ≡ without (read_one F make bytes (place + i) (cut (drop at text)))) where
      -- a line more, with its line feed
      module _ {a : A} (q : v ≡ accepted a) (n : ℕ) (s : n ≡ size F) where
        pub line_room : at + (n + 1) ≤ length text
        line_room = omega (arith, (one_made F make bytes (place + i) (drop at text) (sym e ∙ q)).1, r.within, length-drop at text)

        pub line_reached : {value' : B} → value' ≡ store (r.records ++ (a ∷ [])) → Reached value' (at + (n + 1)) (i + 1)
        line_reached {value'} stored =
            let o = one_made F make bytes (place + i) (drop at text) (sym e ∙ q) in
            let rest : drop (suc (size F)) (drop at text) ≡ drop (at + (n + 1)) text = rw (s, add-one) (drop-drop (suc (size F)) at text) in
            record {
              records = r.records ++ (a ∷ []);
              many = omega (arith, length-append r.records (a ∷ []), r.many);
              within = line_room;
              passed = pass_more F make bytes place (cut (drop start text)) i r.records (cut (drop at text)) (cut (drop (at + (n + 1)) text)) a r.passed (o.0 ∙ ap (λ (x : List ℕ). accepted (a, cut x)) rest);
              stored = stored;
            }

      -- the line at which it stops, of n lines
      pub line_stops : {n : ℕ} (x : Refusal) → i < n → v ≡ refused (number_of x) (place_of x) → let pass = pass_run F make bytes n place (cut (drop start text)) in
          IsNext store text pass value (Err x) × (i ≡ length pass.records)
      line_stops {n} x h q =
          let stopped = pass_stops F make bytes place (cut (drop start text)) i n r.records (cut (drop at text)) (number_of x) (place_of x) r.passed (without_refused _ (sym e ∙ q)) h in
          rw stopped (record { records = r.stored; next = refl }, sym r.many)

    pub all_reached : {n : ℕ} → i ≡ n → IsNext store text (pass_run F make bytes n place (cut (drop start text))) value (Ok at)
    all_reached e = rw (← e, r.passed) (record { records = r.stored; next = (r.within, refl, refl) })
