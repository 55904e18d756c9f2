-- Words of the contracts that are not public: the line of each record in `text_of`, and the floats that have bits.
use Rattle.std.specs.Prelude.{not, ℕ, T, Float}
use mathlib.Core.List.{List}
use Rattle.std.specs.Float.Ieee.{is_nan}
use Rattle.network.specs.declared.bus.Bus.{Bus}
use Rattle.network.specs.declared.branch.Branch.{Branch}
use Rattle.network.specs.declared.switch.Switch.{Switch}
use Rattle.network.specs.Limits.{Head}
use Rattle.lines.specs.Frames.{frame_text}
use Rattle.record_lines.specs.Kinds.{head, bus, branch, switch, supply}
use Rattle.frames.specs.Acceptable.{head_fields, bus_fields, branch_fields, switch_fields, supply_fields}

abbrev pub head_text : Head → List ℕ
head_text h = frame_text head (head_fields h)

abbrev pub bus_text : Bus → List ℕ
bus_text b = frame_text bus (bus_fields b)

abbrev pub branch_text : Branch → List ℕ
branch_text b = frame_text branch (branch_fields b)

abbrev pub switch_text : Switch → List ℕ
switch_text s = frame_text switch (switch_fields s)

abbrev pub supply_text : ℕ → List ℕ
supply_text id = frame_text supply (supply_fields id)

-- only a NaN has no bits of its own
abbrev pub IsNumber : Float → Type 0
IsNumber x = T (not (is_nan x))
