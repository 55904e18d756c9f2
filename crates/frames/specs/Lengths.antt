-- How long an acceptable text can be, and how many of a text's bytes decide.
use Rattle.std.specs.Prelude.{ℕ, ◌+◌, ◌*◌}
use Rattle.lines.specs.Hex.{total}
use Rattle.lines.specs.Frames.{Frame, layout}
use Rattle.record_lines.specs.Kinds.{head, bus, branch, switch, supply}

-- the bytes of a frame's line, its line feed included
abbrev pub line_length : Frame → ℕ
line_length F = total (layout F) + 1

-- "At most 256 buses, 512 branches, 512 switches", and one supply: 27,436
abbrev pub longest_text : ℕ
longest_text = line_length head + 256 * line_length bus + 512 * line_length branch + 512 * line_length switch + line_length supply

-- "a line over 36 characters is 2 whatever they are": so many of its characters show it
abbrev pub deciding_line : ℕ
deciding_line = 37

-- the line behind the longest text is one too many, and its first characters show its fault: 27,473
abbrev pub deciding_length : ℕ
deciding_length = longest_text + deciding_line
