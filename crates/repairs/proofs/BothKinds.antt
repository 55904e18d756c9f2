-- The frames 87 of both kinds, as the code writes them of a value: those of the branches, and behind them those of the switches.
use Rattle.std.proofs.Common.{◌≡◌, Bool, not, List, ◌++◌, ℕ, ◌+◌, ◌≤◌, length, take, sym, ap, ◌∙◌, arith, length-append, take-append-drop, append_assoc}
use Rattle.std.proofs.lemmas.List.{length-take-le}
use Rattle.network.specs.declared.branch.Branch.{Branch}
use Rattle.network.specs.declared.switch.Switch.{Switch}
use Rattle.network.specs.declared.topology.PowerNetwork.{PowerNetwork}
use Rattle.network.specs.Answers.{accepted}
use Rattle.network.specs.Check.{check_records}
use Rattle.network.specs.Limits.{is_own_loop}
use Rattle.network.specs.Records.{records_of}
use Rattle.own_loops.specs.OwnLoops.{branch_reason, switch_reason, proper_at, dropped_lines}
use Rattle.printing.specs.LineTexts.{lines_append}
use Rattle.slices.specs.Written.{written}
use Rattle.slices.specs.WrittenLaws.{written_room}
use Rattle.states.specs.Listed.{buses_listed, branches_listed, switches_listed, few_buses, few_branches, few_switches}
use Rattle.texts.specs.PartLaws.{Begun, same_length}
use Rattle.texts.specs.ValueLaws.{branches_lent, switches_lent}
use Rattle.repairs.specs.Repairs.{dropped_lines_text}
use Rattle.repairs.proofs.Dropping.{lines_from}

-- what a slice holds in front of a place
front_begun : (out : List ℕ) (at : ℕ) → at ≤ length out → Begun (take at out) out out at
front_begun out at h =
    let long : length (take at out) ≡ at = length-take-le at out h in
    record { so_far = sym (written_room (take at out) out (omega (arith, long, h)) ∙ rw long (take-append-drop at out)); here = sym long }

-- what `write_lines` does: these lines behind the bytes that end at `at`
abbrev Puts : List ℕ → List ℕ → ℕ → List ℕ → ℕ → Type 0
Puts lines now at next end = (bytes first : List ℕ) → Begun bytes first now at → Begun (bytes ++ lines) first next end

-- a switch on a branch that is dropped
abbrev pub goes : List Branch → Switch → Bool
goes branches s = not (proper_at branches s.branch_idx)

module _ (n : PowerNetwork) (ok : check_records (records_of n) ≡ accepted tt) (m w : ℕ) (e : m ≡ n.branch_count) (f : w ≡ n.switch_count)
    (long : length n.branches ≡ 512) (wide : length n.switches ≡ 512) where
  abbrev branches : List ℕ
  branches = lines_from is_own_loop branch_reason (2 + n.bus_count) (take m n.branches)

  abbrev switches : List ℕ
  switches = lines_from (goes (take m n.branches)) switch_reason (2 + n.bus_count + n.branch_count) (take w n.switches)

  both : branches ++ switches ≡ dropped_lines_text (dropped_lines (records_of n))
  unfolding dropped_lines
  both = rw (branches_lent n ok m e long, switches_lent n ok w f wide, buses_listed n, branches_listed n) (sym (lines_append _ _ _))

  pub branches_few : 2 + n.bus_count + length (take m n.branches) ≤ 65535
  branches_few = rw (branches_lent n ok m e long) (omega (arith, branches_listed n, few_buses n ok, few_branches n ok))

  pub switches_few : 2 + n.bus_count + n.branch_count + length (take w n.switches) ≤ 65535
  switches_few = rw (switches_lent n ok w f wide) (omega (arith, switches_listed n, few_buses n ok, few_branches n ok, few_switches n ok))

  module _ (out : List ℕ) (at : ℕ) (room : at + length (dropped_lines_text (dropped_lines (records_of n))) ≤ length out) where
    pub branches_room : at + length branches ≤ length out
    branches_room = omega (arith, room, ap length both, length-append branches switches)

    module _ {next : List ℕ} {end : ℕ} (puts : Puts branches out at next end) where
      pub switches_room : end + length switches ≤ length next
      switches_room =
          let b = puts (take at out) out (front_begun out at (omega (arith, room))) in
          omega (arith, room, b.here, same_length b, ap length both, length-append branches switches, length-append (take at out) branches, length-take-le at out (omega (arith, room)))

      pub both_put : {after : List ℕ} {last : ℕ} → Puts switches next end after last → (bytes first : List ℕ) → Begun bytes first out at → after ≡ written (bytes ++ dropped_lines_text (dropped_lines (records_of n))) first
      both_put more bytes first b = (more (bytes ++ branches) first (puts bytes first b)).so_far ∙ ap (λ l. written l first) (append_assoc bytes branches switches ∙ ap (λ l. bytes ++ l) both)
