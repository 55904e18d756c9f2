-- The main statement: from the bytes that come in to the pairs that are printed. Its words are defined in ReadBack (printed lines read back), Printing (`answered_text`, what
-- `answer_text` promises), and in crate frames in Text (`read_text`), states in Live (`base_state`), reconfiguration in Solve (`best`), plan in Plan and Claim (`plan`,
-- `SwitchingPlan`), graph in Graph and FormClaim (`Tree`, `FormMeaning`). `FromTextToPlanProof.from_text_to_plan` proves it.
use Rattle.std.specs.Prelude.{◌≡◌, ◌↔◌, true, false, ℕ, ◌≤◌, ◌<◌, length, take, drop, Ok}
use mathlib.Core.List.{List, [], ◌∷◌, ◌++◌, map, Memᴰ}
use Rattle.numbers.specs.Choose.{those}
use Rattle.network.specs.Records.{Network}
use Rattle.network.specs.Answers.{accepted, answer_of}
use Rattle.states.specs.Live.{base_state, live}
use Rattle.states.specs.Switches.{State, byte, size, switch}
use Rattle.frames.specs.Text.{read_text}
use Rattle.printing.specs.declared.writer.SwitchAction.{SwitchAction}
use Rattle.printing.specs.declared.writer.SwitchAction.TheVariants.{Open, Close}
use Rattle.printing.specs.declared.writer.SwitchOperation.{SwitchOperation}
use Rattle.printing.specs.Lengths.{printed_length}
use Rattle.graph.specs.Graph.{Tree}
use Rattle.graph.specs.Form.{fields_of}
use Rattle.graph.specs.FormClaim.{FormMeaning}
use Rattle.feeders.specs.Feeder.{feeder, LiveIn, form_in, radial_in}
use Rattle.plan.specs.Plan.{plan, plan_text}
use Rattle.plan.specs.Claim.{SwitchingPlan}
use Rattle.reconfiguration.specs.Solve.{best, result}
use Rattle.operations.specs.Operations.{operation_of, operations, operations_text}
use Rattle.operations.specs.OperationValues.{differs}
use Rattle.answers.specs.Printing.{result_lines, printed, answered_text}
use Rattle.answers.specs.ReadBack.{forms_in, operations_in, pairs_in}

-- what is done to a switch by its bytes before and after, "00 (closed) or 01 (open)"
abbrev pub Done : SwitchAction → ℕ → ℕ → Type 0
Done Open before after = (before ≡ 0) × (after ≡ 1)
Done Close before after = (before ≡ 1) × (after ≡ 0)

module _ (N : Network) where
  abbrev pub base : State
  base = base_state N

  -- the best state of the search that the head asks for
  abbrev pub wanted : State
  wanted = (best N).state

  -- what the bytes say that are printed for the feeder N
  pub record FromTextToPlan (bytes : List ℕ) : Type 0 where
    -- from a radial base the 86 lines, in their order, are exactly the planner's pairs from the base to the best state
    pub pairs : radial_in N base ≡ true → pairs_in bytes ≡ plan N base wanted
    -- and all of demand 3 holds of these: radial after every list of steps, no locked switch moved, and the rest of `SwitchingPlan`
    pub safe : radial_in N base ≡ true → SwitchingPlan N base wanted
    -- from a base that is not radial there is no 86 line
    pub no_pairs : radial_in N base ≡ false → pairs_in bytes ≡ []
    -- radial means that the live branches connect all buses without a loop
    pub radial : (radial_in N base ≡ true) ↔ Tree (feeder N) (LiveIn N base)
    -- the one 84 line says what the live branches of the best state are
    pub form : forms_in bytes ≡ fields_of (form_in N wanted) ∷ []
    -- which says what document 02 wants: a tree, or a loop with the first branch that closes one, or islands, the connected pieces minus one
    pub meaning : FormMeaning (feeder N) (live N wanted) (form_in N wanted)
    -- the 82 lines are the operations from the base to the best state
    pub moves : operations_in bytes ≡ operations N base wanted
    -- that is, one for each position at which the two states differ, rising, with the id of the switch there and what is done
    pub in_order : operations_in bytes ≡ map (operation_of N wanted) (those (differs base wanted) (size N))
    -- so that a switch is named, and opened, exactly where it is closed in the base and open in the best state; and closed the other way round
    pub moved : (o : SwitchOperation) → Memᴰ o (operations_in bytes)
        ↔ ((i : ℕ) × (i < size N) × (o.switch_id ≡ (switch N i).id) × Done o.action (byte base i) (byte wanted i))
    -- and nothing else stands there: the search's 81 line, its 84 line, then these 82 lines, then these 86 lines, each as the documents write it
    pub whole : bytes ≡ result_lines (result N) ++ (operations_text (operations_in bytes) ++ plan_text (pairs_in bytes))

pub record MainStatement : Type 0 where
  -- for every text and every lent slice: where `answer_text` answers that n bytes are written, and `after` is the slice then, the text has records, the first n bytes
  -- of the slice say all this of them, and the bytes behind are as they were
  pub call : (text out after : List ℕ) (n : ℕ) → record { answer = answer_of (Ok n); out = after } ≡ answered_text text out
      → (N : Network) × (read_text text ≡ accepted N) × FromTextToPlan N (take n after) × (drop n after ≡ drop n out)
  -- and it answers so for every text that has records, wherever `printed_length` bytes are lent
  pub answers : (text out : List ℕ) (N : Network) → read_text text ≡ accepted N → printed_length ≤ length out
      → (n : ℕ) × (after : List ℕ) × (record { answer = answer_of (Ok n); out = after } ≡ answered_text text out)
  -- the bytes of `printed`, which `feeder`'s print_text promises, say it too
  pub program : (text : List ℕ) (N : Network) → read_text text ≡ accepted N → FromTextToPlan N (printed text)
