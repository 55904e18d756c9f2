-- Document 02's radiality answer of small feeders, by computation: what `verify_radiality` promises, its tests of the records and of the state included. The branch of a loop
-- is a position from 0.
use Rattle.std.specs.Prelude.{List, [], ◌∷◌, ◌≡◌, refl}
use Rattle.std.specs.Float.Ieee.{le, neg, of_bits}
use Rattle.numbers.specs.Choose.{◌or_else◌, among, first_of, index_of, least, those}
use Rattle.numbers.specs.Counts.{count}
use Rattle.numbers.specs.Every.{every}
use Rattle.numbers.specs.Times.{times}
use Rattle.numbers.specs.UpTo.{up_to}
use Rattle.network.specs.declared.bus.Bus.{Bus}
use Rattle.network.specs.Answers.{◌and_then◌, accepted, judge, refused}
use Rattle.network.specs.Check.{check_lines, check_run, head_of}
use Rattle.network.specs.Faults.{branch_faults, bus_faults, head_faults, switch_faults}
use Rattle.network.specs.Limits.{ok_base, ok_load, ok_r, ties}
use Rattle.network.specs.Records.{Network}
use Rattle.states.specs.Live.{check_state, live, open_on}
use Rattle.states.specs.Switches.{State}
use Rattle.graph.specs.declared.form.Form.{Form}
use Rattle.graph.specs.declared.form.Form.TheVariants as forms
use Rattle.graph.specs.Form.{closes, form, form_number, islands, label, links, relabel}
use Rattle.graph.specs.Radial.{radial}
use Rattle.graph.specs.Walk.{enter, enter_all, far, neighbours, reached, turn, walk, walk_by}
use Rattle.feeders.specs.Feeder.{feeder, form_in, position}
use Rattle.feeders.specs.StateCalls.{on_state}
use Rattle.feeders.specs.Supply.{check_network, check_supply_line, check_as}
use Rattle.examples.specs.Feeders.{branch, branches, bus, records, section}
use Rattle.examples.specs.Searches.{plain}

abbrev two : List Bus
two = bus 1 0 ∷ bus 2 0 ∷ []

abbrev three : List Bus
three = bus 1 0 ∷ bus 2 0 ∷ bus 3 0 ∷ []

abbrev four : List Bus
four = bus 1 0 ∷ bus 2 0 ∷ bus 3 0 ∷ bus 4 0 ∷ []

-- the triangle and a bus apart
abbrev and_one : Network
and_one = records four branches (section 10 1 ∷ section 11 2 ∷ [])

abbrev Is : Network → State → Form → Type 0
Is N s f = on_state N s (form_in N s) ≡ accepted f

pub form-cases :
    Is (plain [] []) [] forms.Tree
    × Is (plain (bus 1 0 ∷ []) []) [] forms.Tree
    × Is (plain two []) [] (forms.Islands 1)
    -- three pieces: the source says one island
    × Is (plain three []) [] (forms.Islands 2)
    -- of parallels the second closes
    × Is (plain two (branch 1 2 0 ∷ branch 2 1 0 ∷ branch 1 2 0 ∷ [])) [] (forms.Loop 1 0)
    -- a ring and a bus apart: as many live branches as a tree has, and yet a loop and an island
    × Is and_one (0 ∷ 0 ∷ []) (forms.Loop 2 1)
    -- with one branch of the ring open two pieces, with two open three
    × Is and_one (0 ∷ 1 ∷ []) (forms.Islands 1)
    × Is and_one (1 ∷ 1 ∷ []) (forms.Islands 2)
unfolding check_network check_as check_lines check_supply_line head_of check_run head_faults bus_faults branch_faults switch_faults times ok_base ok_load ok_r ties judge ◌and_then◌ neg le of_bits among first_of those every check_state form_in form islands closes links label relabel feeder position live open_on radial walk walk_by turn enter_all enter reached neighbours far least ◌or_else◌ index_of count up_to
form-cases = (refl, refl, refl, refl, refl, refl, refl, refl)

-- the call refuses a branch with equal ends; by the definition it closes at once, with a bus apart and before the branches of a ring
abbrev own_and_one : Network
own_and_one = plain two (branch 2 2 0 ∷ [])

abbrev own_and_ring : Network
own_and_ring = plain three (branch 2 2 0 ∷ branch 1 2 0 ∷ branch 2 3 0 ∷ branch 3 1 0 ∷ [])

pub own-loop-forms :
    (on_state own_and_one [] (form_in own_and_one []) ≡ refused 17 4)
    × (form_in own_and_one [] ≡ forms.Loop 0 1)
    × (on_state own_and_ring [] (form_in own_and_ring []) ≡ refused 17 5)
    × (form_in own_and_ring [] ≡ forms.Loop 0 0)
unfolding check_network check_as check_lines check_supply_line head_of check_run head_faults bus_faults branch_faults switch_faults times ok_base ok_load ok_r ties judge ◌and_then◌ neg le of_bits among first_of those every check_state form_in form islands closes links label relabel feeder position live open_on radial walk walk_by turn enter_all enter reached neighbours far least ◌or_else◌ index_of count up_to
own-loop-forms = (refl, refl, refl, refl)

-- as one number: `FEEDER_TREE`, and islands × 65,536 + branch
pub form_numbers : (form_number forms.Tree ≡ 65535) × (form_number (forms.Loop 2 1) ≡ 65538) × (form_number (forms.Islands 1) ≡ 131071)
unfolding form_number
form_numbers = (refl, refl, refl)
