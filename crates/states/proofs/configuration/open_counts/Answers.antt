-- `open_counts` meets its contract: the counts are those among the switches so far.
use Rattle.std.proofs.Common.{arith, rules, ◌≡◌, ℕ, ◌+◌, ◌<◌, ◌≤◌, ◌∙◌, [], ◌∷◌, ◌++◌, sym, ap, take, length, length-append, length-take, get_or, get_or-take}
use Rattle.std.proofs.lemmas.Slice.Zip.{zip_turn, zip_end}
use Rattle.numbers.specs.TableLaws.{replicate_table, table_cong}
use Rattle.network.specs.declared.switch.Switch.{Switch}
use Rattle.network.specs.declared.topology.PowerNetwork.{PowerNetwork}
use Rattle.network.specs.Records.{no_switch, records_of}
use Rattle.states.specs.Switches.{branch_of}
use Rattle.states.specs.Listed.{switches_listed, switch_at_lem}
use Rattle.states.specs.OpenCounts.{among_none, among_closed, among_beyond, among_few, among_counted, among_all}
use Rattle.states.proofs.ArrayLengths.{bytes_512}
use Rattle.states.proofs.configuration.open_counts.Goals as goal
use Rattle.states.proofs.configuration.open_counts.Goals.{else-byte-eq-OPEN-via-then-byte-eq-OPEN+else-on-lt-MAX_BRANCHES, else-byte-eq-OPEN-via-else-byte-eq-OPEN}

pub loop-switch-init : goal.loop-switch-init
loop-switch-init c = replicate_table 0 512 ∙ table_cong _ _ 512 (λ k h. sym (among_none (records_of c.args.network) c.args.configuration.switches k))

pub overflow_add-counts : goal.overflow_add-counts
overflow_add-counts c =
    let s = c.args.configuration.switches in
    let ws = take c.min-n.result c.args.network.switches in
    let so_far = c.loop-switch.yielded in
    let t = zip_turn ws s so_far c.into_iter-switch-iterator.result c.loop-switch.switch-iterator c.next.new.self c.next.result (search rules) (search rules) c.loop-switch.yielded_by _ c.in-Some.is c.next.ensures.steps in
    let few = among_few (records_of c.args.network) s 512 (length so_far) c.from-on.result c.if-on-lt-MAX_BRANCHES.true in
    let bytes : length s ≡ 512 = bytes_512 c.args.configuration c.well_formed.1.0 in
    rw c.loop-switch.invariant (omega (arith, few, t.1))

-- the switch that is read is the listed one
on_branch : (n : PowerNetwork) (m i on : ℕ) {w : Switch} → i < length (take m n.switches) → m ≤ n.switch_count → w ≡ get_or (take m n.switches) i no_switch → on ≡ w.branch_idx → on ≡ branch_of (records_of n) i
on_branch n m i on h k e f =
    let l : i < m = omega (arith, length-take m n.switches) in
    f ∙ ap (λ (w : Switch). w.branch_idx) (e ∙ get_or-take m n.switches i no_switch l ∙ sym (switch_at_lem n i (omega arith)))

pub loop-switch-preserved-then-on-lt-MAX_BRANCHES : goal.loop-switch-preserved-then-on-lt-MAX_BRANCHES
loop-switch-preserved-then-on-lt-MAX_BRANCHES c =
    let n = c.args.network in
    let s = c.args.configuration.switches in
    let ws = take c.min-n.result n.switches in
    let so_far = c.loop-switch.yielded in
    let t = zip_turn ws s so_far c.into_iter-switch-iterator.result c.loop-switch.switch-iterator c.next.new.self c.next.result (search rules) (search rules) c.loop-switch.yielded_by _ c.in-Some.is c.next.ensures.steps in
    let more : length (so_far ++ ((c.in-Some.switch, c.in-Some.byte) ∷ [])) ≡ length so_far + 1 = length-append so_far _ in
    let on : c.from-on.result ≡ branch_of (records_of n) (length so_far) = on_branch n c.min-n.result (length so_far) c.from-on.result t.0 (omega arith) (t.2 no_switch) c.from-on.ensures in
    rw (more, c.loop-switch.invariant) (among_counted _ s 512 (length so_far) c.from-on.result on c.if-on-lt-MAX_BRANCHES.true (rw (← t.3 0) c.if-byte-eq-OPEN.true))

pub loop-switch-preserved : goal.loop-switch-preserved
loop-switch-preserved c =
    let n = c.args.network in
    let s = c.args.configuration.switches in
    let ws = take c.min-n.result n.switches in
    let so_far = c.loop-switch.yielded in
    let t = zip_turn ws s so_far c.into_iter-switch-iterator.result c.loop-switch.switch-iterator c.next.new.self c.next.result (search rules) (search rules) c.loop-switch.yielded_by _ c.in-Some.is c.next.ensures.steps in
    let more : length (so_far ++ ((c.in-Some.switch, c.in-Some.byte) ∷ [])) ≡ length so_far + 1 = length-append so_far _ in
    let on : c.from-on.result ≡ branch_of (records_of n) (length so_far) = on_branch n c.min-n.result (length so_far) c.from-on.result t.0 (omega arith) (t.2 no_switch) c.from-on.ensures in
    rw (more, c.loop-switch.invariant)
    (elim c.else-byte-eq-OPEN.branch [
      | else-byte-eq-OPEN-via-then-byte-eq-OPEN+else-on-lt-MAX_BRANCHES w ↦ among_beyond _ s 512 (length so_far) (rw (← on) w.if-on-lt-MAX_BRANCHES.false)
      | else-byte-eq-OPEN-via-else-byte-eq-OPEN w ↦ among_closed _ s 512 (length so_far) (rw (← t.3 0) w.if-byte-eq-OPEN.false)
    ])

pub returns : goal.returns
returns c =
    let n = c.args.network in
    let s = c.args.configuration.switches in
    let ws = take c.min-n.result n.switches in
    let so_far = c.loop-switch.yielded in
    let t = zip_end ws s so_far c.into_iter-switch-iterator.result c.loop-switch.switch-iterator c.next.new.self c.next.result (search rules) (search rules) c.loop-switch.yielded_by c.in-None.is c.next.ensures.steps in
    let bytes : length s ≡ 512 = bytes_512 c.args.configuration c.well_formed.1.0 in
    c.loop-switch.invariant ∙ table_cong _ _ 512 (λ k h. among_all (records_of n) s (length so_far) k (omega (arith, switches_listed n, t, length-take c.min-n.result n.switches)))
