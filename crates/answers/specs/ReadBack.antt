-- Printed lines read back, from the bytes alone: line by line, by the kind byte, a number for each field. Nothing here knows how a line is written.
-- A line with more characters, or without its line feed, is read all the same: `FromTextToPlan.whole` says that there is none.
use Rattle.std.specs.Prelude.{cond, List, [], ◌∷◌, ℕ, zero, suc, ◌+◌, ◌*◌, eqb}
use Rattle.lines.specs.Hex.{number_at}
use Rattle.lines.specs.Lines.{Line, cut}
use Rattle.graph.specs.declared.form.FormFields.{FormFields}
use Rattle.printing.specs.declared.writer.SwitchAction.{SwitchAction}
use Rattle.printing.specs.declared.writer.SwitchAction.TheVariants.{Open, Close}
use Rattle.printing.specs.declared.writer.SwitchOperation.{SwitchOperation}
use Rattle.plan.specs.Plan.{Moves}

-- the kind byte of a line: what its first two digits write
abbrev pub kind_of : Line → ℕ
kind_of l = number_at 0 2 l.chars

-- the lines of a kind, each read, in their order; lines of other kinds are passed over
unfoldable pub of_kind : {A : Type 0} → ℕ → (List ℕ → A) → List Line → List A
of_kind kind read [] = []
of_kind kind read (l ∷ ls) = cond (eqb (kind_of l) kind) (read l.chars ∷ of_kind kind read ls) (of_kind kind read ls)

-- ---- 84: "islands u16, then branch u16 or FFFF", four digits each behind the kind byte
unfoldable pub read_form : List ℕ → FormFields
read_form chars = record { islands = number_at 2 4 chars; branch = number_at 6 4 chars }

-- what the 84 lines say
unfoldable pub forms_in : List ℕ → List FormFields
forms_in bytes = of_kind 0x84 read_form (cut bytes)

-- ---- 82: "switch id, 00 open or 01 close", four digits and two behind the kind byte
unfoldable pub read_action : ℕ → SwitchAction
read_action byte = cond (eqb byte 0) Open Close

unfoldable pub read_operation : List ℕ → SwitchOperation
read_operation chars = record { switch_id = number_at 2 4 chars; action = read_action (number_at 6 2 chars) }

-- what the 82 lines say
unfoldable pub operations_in : List ℕ → List SwitchOperation
operations_in bytes = of_kind 0x82 read_operation (cut bytes)

-- ---- 86: "a count byte, the closed ids, a count byte, the opened ids, each id u16, in list order": two digits, four for each closed id, two, four for each opened id
-- so many ids from `at` on
unfoldable pub ids_at : ℕ → ℕ → List ℕ → List ℕ
ids_at at zero chars = []
ids_at at (suc count) chars = number_at at 4 chars ∷ ids_at (at + 4) count chars

unfoldable pub read_pair : List ℕ → Moves
read_pair chars =
    let closed = number_at 2 2 chars in
    let behind = 4 + 4 * closed in
    let opened = number_at behind 2 chars in
    record { closes = ids_at 4 closed chars; opens = ids_at (behind + 2) opened chars }

-- what the 86 lines say
unfoldable pub pairs_in : List ℕ → List Moves
pairs_in bytes = of_kind 0x86 read_pair (cut bytes)
