-- Document 02, Point 4: the single moves of a plan, what a move does to a state, and the moves that go back.
use mathlib.Core.List.{List, [], ◌∷◌, ◌++◌, map, reverse, flat_map}
use Rattle.std.specs.Prelude.{ℕ, set}
use Rattle.network.specs.Records.{Network}
use Rattle.states.specs.Switches.{State}
use Rattle.printing.specs.declared.writer.SwitchAction.{SwitchAction}
use Rattle.printing.specs.declared.writer.SwitchOperation.{SwitchOperation}
use Rattle.printing.specs.declared.writer.SwitchAction.TheVariants.{Open, Close}
use Rattle.plan.specs.Plan.{Moves}
use Rattle.plan.specs.Claim.{switch_at}

-- ---- the moves of a plan
-- a switch by its id, and what is done to it
abbrev pub to : SwitchAction → ℕ → SwitchOperation
to a id = record { switch_id = id; action = a }

-- what a pair closes, and what it opens: one move for each switch, in list order. Only these two know how many switches a pair moves
unfoldable pub closing_moves : Moves → List SwitchOperation
closing_moves q = map (to Close) q.closes

unfoldable pub opening_moves : Moves → List SwitchOperation
opening_moves q = map (to Open) q.opens

abbrev pub moves_of_pair : Moves → List SwitchOperation
moves_of_pair q = closing_moves q ++ opening_moves q

-- one pair behind the other
unfoldable pub single_moves : List Moves → List SwitchOperation
single_moves P = flat_map moves_of_pair P

-- ---- carrying them out
-- the byte that a move leaves: "00 (closed) or 01 (open)". An 82 line has the opposite for the action (`Printed.action_byte`)
abbrev pub byte_after : SwitchAction → ℕ
byte_after Open = 1
byte_after Close = 0

unfoldable pub moved : Network → SwitchOperation → State → State
moved N o s = set s (switch_at N o.switch_id) (byte_after o.action)

unfoldable pub moved_all : Network → List SwitchOperation → State → State
moved_all N [] s = s
moved_all N (o ∷ l) s = moved_all N l (moved N o s)

-- ---- going back
abbrev pub inverse_action : SwitchAction → SwitchAction
inverse_action Open = Close
inverse_action Close = Open

abbrev pub inverse : SwitchOperation → SwitchOperation
inverse o = record { switch_id = o.switch_id; action = inverse_action o.action }

-- "those that go back (the done ones inverted, last first)"
unfoldable pub going_back : List SwitchOperation → List SwitchOperation
going_back done = map inverse (reverse done)
