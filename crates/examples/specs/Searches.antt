-- Document 01's marked cases under one theorem, and a feeder of five buses that shows which tie wins a round and which sections are tried.
use Rattle.std.specs.Prelude.{Bool, true, false, List, [], ◌∷◌, ◌++◌, map, ◌≡◌, refl, ℕ, ◌+◌, Float, length, replicate}
use Rattle.std.specs.Float.Ieee.{of_bits, add, sub, mul, div, lt, le, neg}
use Rattle.network.specs.declared.bus.Bus.{Bus}
use Rattle.network.specs.declared.branch.Branch.{Branch}
use Rattle.network.specs.declared.switch.ReconfigAlgorithm.TheVariants.{BranchExchange, TabuSearch, Exhaustive}
use Rattle.numbers.specs.UpTo.{up_to, table}
use Rattle.numbers.specs.Counts.{count}
use Rattle.numbers.specs.Choose.{those, least, first_some, first_of, index_of, ◌or_else◌, among, last_some}
use Rattle.numbers.specs.Every.{every}
use Rattle.numbers.specs.Times.{times}
use Rattle.network.specs.Records.{Network}
use Rattle.network.specs.Answers.{Answer, accepted, refused, ◌and_then◌, judge}
use Rattle.network.specs.Limits.{ok_base, ok_load, ok_r, ties}
use Rattle.network.specs.Faults.{head_faults, bus_faults, branch_faults, switch_faults}
use Rattle.network.specs.Check.{head_of, check_run, check_lines}
use Rattle.states.specs.Live.{live, open_on, check_state, base_state}
use Rattle.states.specs.Switches.{State, swapped, toggled}
use Rattle.graph.specs.Walk.{far, neighbours, reached, enter, enter_all, turn, walk_by, walk, by_of, across, back, bfs_path}
use Rattle.graph.specs.Radial.{radial}
use Rattle.graph.specs.declared.form.Form.{Form}
use Rattle.graph.specs.declared.form.Form.TheVariants as forms
use Rattle.graph.specs.Form.{relabel, label, closes, links, islands, form}
use Rattle.feeders.specs.Feeder.{feeder, position, ends_path, form_in, radial_in}
use Rattle.feeders.specs.StateCalls.{on_state}
use Rattle.feeders.specs.Supply.{check_supply_line, check_as, check_network}
use Rattle.losses.specs.Loss.{walk_load, downstream, term_of, total_of, loss, drawn, loss_in}
use Rattle.losses.specs.LossCall.{loss_call}
use Rattle.printing.specs.Calls.{Call, check_room, called}
use Rattle.searches.specs.Results.{Result, reduction, result_by, solved_by}
use Rattle.searches.specs.Rounds.{until_ended, lesser_by}
use Rattle.exchange.specs.Exchange.{loop_of, section_of, swap_with, trial, improves, improved, round_of, after_round, exchange, exchange_best}
use Rattle.tabu.specs.Tabu.{allowed, best_move, last_seven, after_move, tabu, tabu_best}
use Rattle.exhaustive.specs.Exhaustive.{masked, try_mask, exhaustive, least_or_base, exhaustive_best}
use Rattle.reconfiguration.specs.Solve.{best_by, best, solved}
use Rattle.examples.specs.Feeders.{float, bus, branch, section, tie, network, records, buses, branches_with, switches, triangle_with, triangle}

-- without switches the one state has no byte
abbrev pub plain : List Bus → List Branch → Network
plain buses branches = records buses branches []

-- the triangle with branch 0 from 2 to 1
abbrev pub turned : Network
turned = records buses (branches_with (branch 2 1 0x3FD0000000000000)) switches

-- a state of a feeder's switches, or a search
pub data Case : Type 0 where
  in_state : Network → State → Case
  searched : Network → Case

-- what the calls answer: radial or not, what the live branches are (`verify_radiality`) and the loss (`evaluate_config`) of a state; or `solve`, and the slice then
pub data Value : Type 0 where
  of_state : Answer Bool → Answer Form → Answer Float → Value
  of_search : Call Result → Value

-- a byte more than there are switches
abbrev pub slice : Network → List ℕ
slice N = replicate (length N.switches + 1) 0xFF

-- by the definitions that these calls promise, their tests of the records and of the state included
abbrev pub value_of : Case → Value
value_of (in_state N s) = of_state (on_state N s (radial_in N s)) (on_state N s (form_in N s)) (loss_call N s)
value_of (searched N) = of_search (solved N (slice N))

-- no refusal: radial or not, what the live branches are, and the loss
abbrev pub stands : Bool → Form → Float → Value
stands isRadial is loss = of_state (accepted isRadial) (accepted is) (accepted loss)

-- each of the calls on a state is refused
abbrev pub refuses : ℕ → ℕ → Value
refuses number place = of_state (refused number place) (refused number place) (refused number place)

-- no refusal: a radial state, its bytes at the front of the slice; the base's loss, its own, the reduction in percent, iterations and converged
abbrev pub finds : State → Float → Float → Float → ℕ → Bool → Value
finds state base found percent iterations converged =
    of_search (record {
      answer = accepted (record { form = forms.Tree; base_loss = base; best_loss = found; reduction = percent; iterations = iterations; converged = converged });
      out = state ++ (0xFF ∷ []);
    })

infix 68 ◌gives◌
pub data Row : Type 0 where
  ◌gives◌ : Case → Value → Row

abbrev pub reckoned : Row → Value
reckoned (c gives v) = value_of c

abbrev pub said : Row → Value
said (c gives v) = v

-- of the triangle: its base, of loss 4, or the exchanged state, of loss 1 and so 75 percent less
abbrev keeps_base : ℕ → Bool → Value
keeps_base = finds (0 ∷ 1 ∷ []) (float 0x4010000000000000) (float 0x4010000000000000) (float 0)

abbrev exchanges : ℕ → Bool → Value
exchanges = finds (1 ∷ 0 ∷ []) (float 0x4010000000000000) (float 0x3FF0000000000000) (float 0x4052C00000000000)

abbrev pub marked : List Row
marked =
    -- "no buses: radial, loss 0"
    in_state (plain [] []) [] gives stands true forms.Tree (float 0)
    -- "one bus: radial", "one bus, own loop: not"; of the second document 02, Point 7: it "becomes a refusal", at its branch's line
    ∷ in_state (plain (bus 1 0 ∷ []) []) [] gives stands true forms.Tree (float 0)
    ∷ in_state (plain (bus 1 0 ∷ []) (branch 1 1 0 ∷ [])) [] gives refuses 17 3
    -- "two buses, one branch: radial", "two parallel: not"
    ∷ in_state (plain (bus 1 0 ∷ bus 2 0 ∷ []) (branch 1 2 0 ∷ [])) [] gives stands true forms.Tree (float 0)
    ∷ in_state (plain (bus 1 0 ∷ bus 2 0 ∷ []) (branch 1 2 0 ∷ branch 1 2 0 ∷ [])) [] gives stands false (forms.Loop 1 0) (float 0)
    -- "triangle base loss 4", "exchanged 1", "all closed: not radial, loss 5.6875"
    ∷ in_state triangle (base_state triangle) gives stands true forms.Tree (float 0x4010000000000000)
    ∷ in_state triangle (1 ∷ 0 ∷ []) gives stands true forms.Tree (float 0x3FF0000000000000)
    ∷ in_state triangle (0 ∷ 0 ∷ []) gives stands false (forms.Loop 2 0) (float 0x4016C00000000000)
    -- "branch 0 turned (2 to 1): base loss 1.75"
    ∷ in_state turned (base_state turned) gives stands true forms.Tree (float 0x3FFC000000000000)
    -- "exchange with 0 rounds: base, 0, not converged", "1: loss 1, 1, not", "2: 2, not", "3: 2, converged"
    ∷ searched (triangle_with BranchExchange 0) gives keeps_base 0 false
    ∷ searched (triangle_with BranchExchange 1) gives exchanges 1 false
    ∷ searched (triangle_with BranchExchange 2) gives exchanges 2 false
    ∷ searched (triangle_with BranchExchange 3) gives exchanges 2 true
    -- "exhaustive: base, count 1"
    ∷ searched (triangle_with Exhaustive 100) gives keeps_base 1 true
    -- "tabu with 100: base, 100, converged"
    ∷ searched (triangle_with TabuSearch 100) gives keeps_base 100 true
    ∷ []

-- document 01: "One proved table holds the marked (*) cases under one theorem"
pub marked_cases : map reckoned marked ≡ map said marked
unfolding solved solved_by result_by reduction called check_room check_state every loss_call check_network check_as check_lines check_supply_line head_of check_run head_faults bus_faults branch_faults switch_faults times ok_base ok_load ok_r ties judge ◌and_then◌ neg best best_by exchange_best tabu_best exhaustive_best exchange until_ended last_some after_round round_of improved improves trial swap_with section_of loop_of swapped tabu best_move after_move last_seven lesser_by allowed among toggled exhaustive try_mask least_or_base masked loss_in drawn loss total_of term_of downstream walk_load radial_in form_in form islands closes links label relabel ends_path feeder position radial bfs_path back across by_of walk walk_by turn enter_all enter reached neighbours far base_state live open_on those least first_some first_of index_of ◌or_else◌ count up_to table of_bits add sub mul div lt le
marked_cases = refl

-- Five buses in a row, 1 MW at each but the first, and three ties. In the first round, with 9.75 at its start, tie 5 improves to 8.75 and tie 6 to 9.5; tie 7's first
-- section does not improve, its next one would to 5. The last improving tie wins, and tie 7's next section is not tried
abbrev five_buses : ℕ → Network
five_buses iterations =
    network BranchExchange iterations
    (bus 1 0 ∷ bus 2 0x3FF0000000000000 ∷ bus 3 0x3FF0000000000000 ∷ bus 4 0x3FF0000000000000 ∷ bus 5 0x3FF0000000000000 ∷ [])
    (branch 1 2 0x3FD0000000000000 ∷ branch 2 3 0x3FE0000000000000 ∷ branch 3 4 0x3FD0000000000000 ∷ branch 4 5 0x3FD0000000000000
    ∷ branch 2 4 0x3FD0000000000000 ∷ branch 2 5 0x3FD0000000000000 ∷ branch 1 4 0x3FD0000000000000 ∷ [])
    (section 1 0 ∷ section 2 1 ∷ section 3 2 ∷ section 4 3 ∷ tie 5 4 ∷ tie 6 5 ∷ tie 7 6 ∷ [])

abbrev rounds : List Row
rounds =
    in_state (five_buses 1) (0 ∷ 0 ∷ 0 ∷ 0 ∷ 1 ∷ 1 ∷ 1 ∷ []) gives stands true forms.Tree (float 0x4023800000000000)
    ∷ searched (five_buses 1) gives finds (0 ∷ 1 ∷ 0 ∷ 0 ∷ 1 ∷ 0 ∷ 1 ∷ []) (float 0x4023800000000000) (float 0x4023000000000000) (float 0x4004834834834834) 1 false
    -- the better one of tie 5, and the one that tie 7's next section would give
    ∷ in_state (five_buses 1) (0 ∷ 1 ∷ 0 ∷ 0 ∷ 0 ∷ 1 ∷ 1 ∷ []) gives stands true forms.Tree (float 0x4021800000000000)
    ∷ in_state (five_buses 1) (0 ∷ 1 ∷ 0 ∷ 0 ∷ 1 ∷ 1 ∷ 0 ∷ []) gives stands true forms.Tree (float 0x4014000000000000)
    ∷ searched (five_buses 100) gives finds (0 ∷ 1 ∷ 0 ∷ 1 ∷ 0 ∷ 0 ∷ 1 ∷ []) (float 0x4023800000000000) (float 0x401E000000000000) (float 0x403713B13B13B13B) 3 true
    ∷ []

round_cases : map reckoned rounds ≡ map said rounds
unfolding solved solved_by result_by reduction called check_room check_state every loss_call check_network check_as check_lines check_supply_line head_of check_run head_faults bus_faults branch_faults switch_faults times ok_base ok_load ok_r ties judge ◌and_then◌ neg best best_by exchange_best tabu_best exhaustive_best exchange until_ended last_some after_round round_of improved improves trial swap_with section_of loop_of swapped tabu best_move after_move last_seven lesser_by allowed among toggled exhaustive try_mask least_or_base masked loss_in drawn loss total_of term_of downstream walk_load radial_in form_in form islands closes links label relabel ends_path feeder position radial bfs_path back across by_of walk walk_by turn enter_all enter reached neighbours far base_state live open_on those least first_some first_of index_of ◌or_else◌ count up_to table of_bits add sub mul div lt le
round_cases = refl
