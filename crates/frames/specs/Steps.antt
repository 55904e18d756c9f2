-- What a loop over the lines of a kind needs of the reading pass: nothing read yet, one line more, and the line at which it stops.
use Rattle.std.specs.Prelude.{◌≡◌, List, [], ◌∷◌, ◌++◌}
use Rattle.std.proofs.Math.Path.{refl, ap}
use Rattle.std.proofs.Common.{◌∙◌, arith, zero-add, suc-add}
use Prim.Native.Nat.{ℕ, zero, suc, ◌+◌, ◌-◌, ◌<◌}
use Rattle.numbers.specs.UpTo.{up_to, up_to_more}
use Rattle.network.specs.Answers.{accepted, refused, Fault}
use Rattle.lines.specs.Hex.{Fields}
use Rattle.lines.specs.Lines.{Line}
use Rattle.lines.specs.Frames.{Frame}
use Rattle.record_lines.specs.Kinds.{read_one}
use Rattle.frames.specs.Passes.{going, halted, pass_one, pass_on, pass_step, pass_run}

module _ {A : Type 0} (F : Frame) (make : Fields F.widths → A) (bytes : Fields F.widths → List Fault) (place : ℕ) (ls : List Line) where
  pub pass_start : pass_run F make bytes 0 place ls ≡ going [] ls
  unfolding pass_run up_to
  pass_start = refl

  pass_step_lem : (n : ℕ) → pass_run F make bytes (n + 1) place ls ≡ pass_step F make bytes (place + n) (pass_run F make bytes n place ls)
  unfolding pass_run
  pass_step_lem n = up_to_more _ _ n

  pub pass_more : (n : ℕ) (records : List A) (left rest : List Line) (a : A) → pass_run F make bytes n place ls ≡ going records left
      → read_one F make bytes (place + n) left ≡ accepted (a, rest) → pass_run F make bytes (n + 1) place ls ≡ going (records ++ (a ∷ [])) rest
  unfolding pass_step pass_on pass_one
  pass_more n records left rest a e o = pass_step_lem n ∙ ap (pass_step F make bytes (place + n)) e ∙ ap (pass_one records left) o

  -- the line at which it stops
  pass_halts : (n : ℕ) (records : List A) (left : List Line) (number at : ℕ) → pass_run F make bytes n place ls ≡ going records left
      → read_one F make bytes (place + n) left ≡ refused number at → pass_run F make bytes (n + 1) place ls ≡ halted records left number at
  unfolding pass_step pass_on pass_one
  pass_halts n records left number at e o = pass_step_lem n ∙ ap (pass_step F make bytes (place + n)) e ∙ ap (pass_one records left) o

  pass_stays : (n k : ℕ) (records : List A) (left : List Line) (number at : ℕ) → pass_run F make bytes n place ls ≡ halted records left number at
      → pass_run F make bytes (k + n) place ls ≡ halted records left number at
  unfolding pass_run up_to pass_step pass_on
  pass_stays n zero records left number at e = rw (zero-add n) e
  pass_stays n (suc k) records left number at e = rw (suc-add k n) (ap (pass_step F make bytes (place + (k + n))) (pass_stays n k records left number at e))

  -- and so for any number of lines with that one among them
  pub pass_stops : (n m : ℕ) (records : List A) (left : List Line) (number at : ℕ) → pass_run F make bytes n place ls ≡ going records left
      → read_one F make bytes (place + n) left ≡ refused number at → n < m → pass_run F make bytes m place ls ≡ halted records left number at
  pass_stops n m records left number at e o l = go (m - (n + 1)) (omega arith)
    where
      go : (k : ℕ) → m ≡ k + (n + 1) → pass_run F make bytes m place ls ≡ halted records left number at
      go k q = ap (λ (x : ℕ). pass_run F make bytes x place ls) q ∙ pass_stays (n + 1) k records left number at (pass_halts n records left number at e o)
