-- A frame: "one frame a line", a kind byte and the fields after it, in upper-case hexadecimal.
use Rattle.std.specs.Prelude.{List, [], ◌∷◌, ◌++◌, ℕ}
use Rattle.lines.specs.Hex.{Fields, write_fields}

-- the kind byte, and the digits of each field after it
pub record Frame : Type 0 where
  pub kind : ℕ
  pub widths : List ℕ

-- the digits of a frame's line: of its kind byte, then of its fields
abbrev pub layout : Frame → List ℕ
layout F = 2 ∷ F.widths

-- "Upper-case hexadecimal, one frame a line, ended by a line feed": the kind byte, the fields, and 10
unfoldable pub frame_text : (F : Frame) → Fields F.widths → List ℕ
frame_text F f = write_fields (layout F) (F.kind, f) ++ (10 ∷ [])
