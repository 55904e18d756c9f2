-- The claim about the repair: from what is proved of both readers and of the dropping, and the cases of a call that is lent a slice.
use Rattle.std.specs.Prelude.{◌≡◌, refl, ℕ, ◌≤◌, take}
use Rattle.std.proofs.Common.{sym, ap, ◌∙◌, arith}
use Rattle.std.proofs.Math.Bool.{Bool}
use mathlib.Core.List.{List, [], flat_map, append-nil}
use Rattle.numbers.specs.Counts.{count_le}
use Rattle.numbers.specs.Keep.{keep}
use Rattle.network.specs.declared.switch.Switch.{Switch}
use Rattle.network.specs.Answers.{accepted}
use Rattle.network.specs.Check.{head_of}
use Rattle.network.specs.EachLaws.{each_map, each_mapped, each_kept}
use Rattle.network.specs.Inside.{Each}
use Rattle.network.specs.Records.{Network}
use Rattle.own_loops.specs.OwnLoops.{is_proper, proper_at, renumbered, without_own, dropped_lines}
use Rattle.own_loops.specs.OwnLoopLaws.{left_inside, proper_same, dropped_none}
use Rattle.frames.specs.Text.{read_text, read_stored}
use Rattle.frames.specs.Acceptable.{SwitchRoom, Writable, text_of}
use Rattle.frames.specs.Lengths.{deciding_length}
use Rattle.frames.specs.Proof as frames
use Rattle.frames.specs.StoredProof.{stored_claim}
use Rattle.slices.specs.WrittenLaws.{written_room}
use Rattle.repairs.specs.Repairs.{repaired, repaired_of, printed_repair}
use Rattle.repairs.specs.RepairLaws.{fewer_branches, fewer_switches, repaired_shorter, repaired_short, is_repairable, printed_so, text_refused, repair_no_room, repair_done}
use Rattle.repairs.specs.Claim.{Claim}

-- ---- what is left has room in its digits
module _ (N : Network) (room : Writable N) where
  -- a branch moves to the front, never to the back
  moved : (s : Switch) → SwitchRoom s → SwitchRoom (renumbered N.branches s)
  moved s r = (r.0, omega (arith, r.1, count_le (proper_at N.branches) s.branch_idx))

  switches_left_lem : Each SwitchRoom (without_own N).switches
  unfolding without_own
  switches_left_lem =
      let stays : Switch → Bool = λ s. proper_at N.branches s.branch_idx in
      let kept = keep stays N.switches in
      each_mapped SwitchRoom (renumbered N.branches) kept
      (each_map SwitchRoom (λ s. SwitchRoom (renumbered N.branches s)) kept moved (each_kept SwitchRoom stays N.switches room.switch_room))

  left_writable : Writable (without_own N)
  unfolding without_own head_of
  left_writable =
      let head = room.head_room in
      record {
        head_room = (head.0, omega (arith, head.1, fewer_branches N), omega (arith, head.2, fewer_switches N), head.3, head.4);
        bus_room = room.bus_room;
        branch_room = each_kept _ is_proper N.branches room.branch_room;
        switch_room = switches_left_lem;
        supply_room = room.supply_room;
      }

-- ---- the text that is left
module _ (t : List ℕ) (N : Network) (e : read_stored t ≡ accepted N) where
  left_read : read_text (text_of (without_own N)) ≡ accepted (without_own N)
  left_read =
      let r = is_repairable t N e in
      let left = left_inside N r.inside in
      ((frames.claim).accepted_texts (text_of (without_own N)) (without_own N)).1
      (record { text = refl; inside = left.0; proper = left.1; supplied = r.supplied; writable = left_writable N r.writable })

-- ---- a text without own loops
none_dropped : (t : List ℕ) (M : Network) → read_text t ≡ accepted M → dropped_lines M ≡ []
none_dropped t M e = let a = ((frames.claim).accepted_texts t M).0 e in dropped_none M a.inside a.proper

clean : (t : List ℕ) (M : Network) → read_text t ≡ accepted M → repaired M ≡ t
unfolding repaired flat_map
clean t M e =
    let a = ((frames.claim).accepted_texts t M).0 e in
    rw (proper_same M a.inside a.proper, none_dropped t M e) (append-nil (text_of M) ∙ sym a.text)

again : (t : List ℕ) (N : Network) → read_stored t ≡ accepted N → printed_repair (text_of (without_own N)) ≡ text_of (without_own N)
again t N e =
    let new = left_read t N e in
    printed_so (text_of (without_own N)) (without_own N) (stored_claim.new_read (text_of (without_own N)) (without_own N) new) ∙ clean (text_of (without_own N)) (without_own N) new

early : (n : ℕ) (t : List ℕ) → deciding_length ≤ n → printed_repair (take n t) ≡ printed_repair t
unfolding printed_repair
early n t h = ap repaired_of (stored_claim.early n t h)

pub claim : Claim
claim = record {
  repair_accepted = left_read;
  repair_clean = λ t M e. (stored_claim.new_read t M e, clean t M e, none_dropped t M e);
  repair_again = again;
  repair_shorter = λ t N e. rw (is_repairable t N e).text (repaired_shorter N);
  repair_short = λ t N e. repaired_short N (is_repairable t N e).inside;
  repair_early = early;
  refused_first = λ t out number place e. sym (text_refused t out e);
  written_in_full = λ t N out e room. sym (repair_done t out N e refl room (sym (written_room (repaired N) out room)));
  too_short = λ t N out e short. sym (repair_no_room t out N e refl short);
}
