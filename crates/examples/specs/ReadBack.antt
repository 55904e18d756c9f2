-- The main statement of the triangle, and its printed lines read back: "82000A00", "82000B01" and "8601000B01000A".
use Rattle.std.specs.Prelude.{[], ◌∷◌, ◌≡◌}
use Rattle.lines.specs.Hex.{is_digit, value, digit, number, digits}
use Rattle.lines.specs.Lines.{put, cut}
use Rattle.printing.specs.declared.writer.SwitchAction.TheVariants.{Open, Close}
use Rattle.answers.specs.Printing.{printed}
use Rattle.answers.specs.ReadBack.{of_kind, read_action, read_operation, operations_in, ids_at, read_pair, pairs_in}
use Rattle.answers.specs.FromTextToPlan.{FromTextToPlan}
use Rattle.answers.specs.FromTextToPlanProof.{from_text_to_plan}
use Rattle.examples.specs.Feeders.{triangle}
use Rattle.examples.specs.Texts.{triangle_text, triangle_read}
use Rattle.examples.specs.Answers.{triangle_printed}

triangle_main : FromTextToPlan triangle (printed triangle_text)
triangle_main = from_text_to_plan.program triangle_text triangle triangle_read

-- switch 10 is opened, switch 11 closed
triangle_operations : operations_in (printed triangle_text) ≡ record { switch_id = 10; action = Open } ∷ record { switch_id = 11; action = Close } ∷ []
unfolding operations_in of_kind read_operation read_action cut put number value is_digit digits digit
triangle_operations = rw triangle_printed

-- in one pair: 11 is closed, then 10 opened
triangle_pairs : pairs_in (printed triangle_text) ≡ record { closes = 11 ∷ []; opens = 10 ∷ [] } ∷ []
unfolding pairs_in of_kind read_pair ids_at cut put number value is_digit digits digit
triangle_pairs = rw triangle_printed
