-- What the live branches of a feeder are: radial, or what instead (document 02, point 5). Live branches are added by rising position: one whose ends the ones
-- before it have joined closes a loop, any other makes one piece of two.
use Rattle.std.specs.Prelude.{Bool, true, false, cond, not, ◌&&◌, List, ℕ, zero, suc, ◌+◌, ◌-◌, ◌*◌, eqb}
use Rattle.std.specs.Prelude.{Option, None, Some}
use Rattle.numbers.specs.Choose.{least}
use Rattle.numbers.specs.Counts.{count}
use Rattle.graph.specs.declared.form.Form.{Form}
use Rattle.graph.specs.declared.form.Form.TheVariants as forms
use Rattle.graph.specs.declared.form.FormFields.{FormFields}
use Rattle.graph.specs.Graph.{Net}
use Rattle.graph.specs.Radial.{radial}
use Rattle.graph.specs.declared.rows.Graph.{Graph}
use Rattle.graph.specs.Rows.{flag, row_net, row_radial}

-- label q becomes p, every other stays
unfoldable pub relabel : ℕ → ℕ → ℕ → ℕ
relabel p q z = cond (eqb z q) p z

-- the label of bus x after the first k branches: at first its own, and a live branch makes those of its ends one. Buses that these branches join have one label
unfoldable pub label : Net → (ℕ → Bool) → ℕ → ℕ → ℕ
label N E zero x = x
label N E (suc k) x = cond (E k) (relabel (label N E k (N.from k)) (label N E k (N.to k)) (label N E k x)) (label N E k x)

-- branch k is live and "closes one when the live branches are added by rising position"
unfoldable pub closes : Net → (ℕ → Bool) → ℕ → Bool
closes N E k = E k && eqb (label N E k (N.from k)) (label N E k (N.to k))

-- branch k is live and joins two pieces
unfoldable pub links : Net → (ℕ → Bool) → ℕ → Bool
links N E k = E k && not (eqb (label N E k (N.from k)) (label N E k (N.to k)))

-- "connected pieces minus one, 0 for no buses": each bus is a piece at first
unfoldable pub islands : Net → (ℕ → Bool) → ℕ
islands N E = (N.buses - 1) - count (links N E) N.branches

-- "A loop goes before islands, and then the count comes with it"
abbrev pub instead : Option ℕ → ℕ → Form
instead (Some k) i = forms.Loop k i
instead None i = forms.Islands i

-- what branches are that are no tree: "the first branch that closes one", if any does
abbrev pub other_form : Net → (ℕ → Bool) → Form
other_form N E = instead (least (closes N E) N.branches) (islands N E)

-- "a tree; a loop, with the first branch that closes one ..; or islands with their count and no loop"
unfoldable pub form : Net → (ℕ → Bool) → Form
form N E = cond (radial N E) forms.Tree (other_form N E)

-- the same by the rows
unfoldable pub row_form : Graph → List Bool → Form
row_form g live = cond (row_radial g live) forms.Tree (other_form (row_net g) (flag live))

-- the reading that the searches and the planner's refusal 11 go by
abbrev pub is_tree : Form → Bool
is_tree forms.Tree = true
is_tree (forms.Loop k i) = false
is_tree (forms.Islands i) = false

-- the fields of frame 84: "islands u16, then branch u16 or FFFF"
abbrev pub islands_field : Form → ℕ
islands_field forms.Tree = 0
islands_field (forms.Loop k i) = i
islands_field (forms.Islands i) = i

abbrev pub branch_field : Form → ℕ
branch_field forms.Tree = 0xFFFF
branch_field (forms.Loop k i) = k
branch_field (forms.Islands i) = 0xFFFF

abbrev pub fields_of : Form → FormFields
fields_of f = record { islands = islands_field f; branch = branch_field f }

-- both as one number, the islands before the branch
unfoldable pub form_number : Form → ℕ
form_number f = islands_field f * 0x10000 + branch_field f
