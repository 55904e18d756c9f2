-- Refusal 12 as a loop finds it: none of the first i switches is locked where it must move.
use Rattle.std.specs.Prelude.{◌≡◌, refl, Bool, true, false, not, ◌&&◌, ◌||◌, List, ℕ, ◌+◌, ◌≤◌, ◌<◌, eqb, length, get_or, take}
use Rattle.std.proofs.Common.{sym, ap, ◌∙◌, arith, length-take, get_or-take}
use Rattle.network.specs.declared.switch.Switch.{Switch}
use Rattle.network.specs.declared.topology.PowerNetwork.{PowerNetwork}
use Rattle.network.specs.Records.{no_switch, records_of}
use Rattle.network.specs.Answers.{accepted, refused}
use Rattle.states.specs.Listed.{switches_listed, switch_at_lem}
use Rattle.states.specs.Switches.{State, byte}
use Rattle.graph.specs.Rows.{flag}
use Rattle.changes.specs.declared.change.Change.{Change}
use Rattle.changes.specs.Change.{differing, locked_difference, locked_differences, refuse_locked, check_locked}
use Rattle.changes.specs.Onward.{onward, onward_all, onward_none, onward_yes, onward_no}
use Rattle.changes.specs.Passing.{Checked, Made, checked_counts, flag_live, made_flags}

module _ (n : PowerNetwork) (present wanted : State) where
  -- refusal 12's condition on the switch at position i
  abbrev locked_at : ℕ → Bool
  locked_at = locked_difference (records_of n) present wanted

  pub record NoneLocked (i : ℕ) : Type 0 where
    rest : locked_differences (records_of n) present wanted ≡ onward locked_at n.switch_count i

  pub start_unlocked : NoneLocked 0
  unfolding locked_differences
  start_unlocked = record { rest = rw (switches_listed n) (onward_all locked_at n.switch_count) }

  -- the switches as the code reads them
  module _ (given : Checked n present wanted) (sized : length n.switches ≡ 512) {count : ℕ} (c : count ≡ n.switch_count) where
    abbrev listed : List Switch
    listed = take count n.switches

    pub listed_long : length listed ≡ n.switch_count
    listed_long = length-take count n.switches ∙ omega (arith, (checked_counts n given).2)

    -- both states have a byte for each
    pub bytes_long : (length listed ≡ length present) × (length listed ≡ length wanted)
    bytes_long = let k = checked_counts n given in (listed_long ∙ sym k.0, listed_long ∙ sym k.1)

    module _ {i : ℕ} (u : NoneLocked i) where
      pub all_unlocked : length listed ≤ i → accepted tt ≡ check_locked (records_of n) present wanted
      unfolding check_locked
      all_unlocked h = sym (ap (refuse_locked (records_of n)) (u.rest ∙ onward_none locked_at n.switch_count i (omega (arith, listed_long))))

      module _ {change : Change} (made : Made n present wanted change) (h : i < length listed) where
        abbrev s : Switch
        s = get_or listed i no_switch

        within : i < n.switch_count
        within = omega (arith, listed_long)

        module _ {a b d : Bool} (f : a ≡ flag change.present_live s.branch_idx) (g : b ≡ flag change.wanted_live s.branch_idx)
            (e : d ≡ (not (eqb (get_or present i 0) (get_or wanted i 0)) && (((a && not b) || (b && not a)) && not s.can_operate))) where
          same : get_or (records_of n).switches i no_switch ≡ s
          same = switch_at_lem n i within ∙ sym (get_or-take count n.switches i no_switch (rw c within))

          locked : locked_at i ≡ d
          unfolding locked_difference differing
          locked =
              let flags = made_flags n given made in
              ap (λ (x : Switch). not (eqb (byte present i) (byte wanted i)) && (differing (records_of n) present wanted x.branch_idx && not x.can_operate)) same
              ∙ rw (e, f, g, flags.0, flags.1, flag_live n given.network present, flag_live n given.network wanted) refl

          pub one_unlocked : d ≡ false → NoneLocked (i + 1)
          one_unlocked t = record { rest = u.rest ∙ onward_no locked_at n.switch_count i within (locked ∙ t) }

          pub one_locked : d ≡ true → refused 12 s.id ≡ check_locked (records_of n) present wanted
          unfolding check_locked
          one_locked t =
              sym (ap (refuse_locked (records_of n)) (u.rest ∙ onward_yes locked_at n.switch_count i within (locked ∙ t))
              ∙ ap (λ (x : Switch). refused 12 x.id) same)
