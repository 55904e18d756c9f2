-- How many bytes a line of each printed frame has, its line feed included, and how many bytes are room for all of them. `LineTexts` joins each line's to its frame.
use Rattle.std.specs.Prelude.{ℕ, ◌+◌, ◌*◌}

-- a line 81: a search's answer
abbrev pub answer_length : ℕ
answer_length = 59

-- a line 84: what the live branches of a state are
abbrev pub form_length : ℕ
form_length = 11

-- a line 82: an operation
abbrev pub operation_length : ℕ
operation_length = 9

-- a line 86 without its ids: a pair of a plan
abbrev pub pair_head_length : ℕ
pair_head_length = 7

-- each id of a line 86
abbrev pub id_length : ℕ
id_length = 4

-- the longest line 86, with two ids closed and two opened (each time `PowerNetwork::MAX_SWITCHES_ON_BRANCH`): 23
abbrev pub longest_pair : ℕ
longest_pair = pair_head_length + id_length * 4

-- a line 87: a line that a repair dropped
abbrev pub dropped_length : ℕ
dropped_length = 9

-- a line 8F: a refusal
abbrev pub refusal_length : ℕ
refusal_length = 9

-- the two lines on the best state
abbrev pub result_length : ℕ
result_length = answer_length + form_length

-- an operation for each of "512 switches"
abbrev pub operations_length : ℕ
operations_length = 512 * operation_length

-- a pair for each of "256 buses" but one, and each of "512 switches" in one pair: 3,833
abbrev pub plan_length : ℕ
plan_length = 255 * pair_head_length + 512 * id_length

-- the single moves of the longest plan, one for each switch (`resumption.specs.ResumeLaws.moves_fit`): 4,608
abbrev pub moves_length : ℕ
moves_length = 512 * operation_length

-- all that is printed for a text: 8,511
abbrev pub printed_length : ℕ
printed_length = result_length + operations_length + plan_length
