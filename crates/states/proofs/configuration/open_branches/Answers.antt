-- `open_branches` meets its contract: the flags are those of the switches so far.
use Rattle.std.proofs.Common.{rules, ◌≡◌, ◌+◌, ◌∙◌, [], ◌∷◌, ◌++◌, length, length-append}
use Rattle.std.proofs.lemmas.Slice.Zip.{zip_turn, zip_end}
use Rattle.network.specs.Records.{no_switch}
use Rattle.states.specs.LiveLaws.{none_flagged, open_closed, open_beyond, open_set, open_all}
use Rattle.states.proofs.configuration.open_branches.Goals as goal
use Rattle.states.proofs.configuration.open_branches.Goals.{else-byte-eq-OPEN-via-then-byte-eq-OPEN+else-k-lt-MAX_BRANCHES, else-byte-eq-OPEN-via-else-byte-eq-OPEN}

pub loop-switch-init : goal.loop-switch-init
loop-switch-init c = none_flagged c.args.switches.now c.args.state.now

pub loop-switch-preserved-then-k-lt-MAX_BRANCHES : goal.loop-switch-preserved-then-k-lt-MAX_BRANCHES
loop-switch-preserved-then-k-lt-MAX_BRANCHES c =
    let ws = c.args.switches.now in
    let s = c.args.state.now in
    let so_far = c.loop-switch.yielded in
    let t = zip_turn ws s so_far c.into_iter-switch-iterator.result c.loop-switch.switch-iterator c.next.new.self c.next.result (search rules) (search rules) c.loop-switch.yielded_by _ c.in-Some.is c.next.ensures.steps in
    let more : length (so_far ++ ((c.in-Some.switch, c.in-Some.byte) ∷ [])) ≡ length so_far + 1 = length-append so_far _ in
    rw (more, c.loop-switch.invariant) (open_set ws s (length so_far) t.0 t.1 512 c.from-k.result (rw (← t.2 no_switch) c.from-k.ensures) c.if-k-lt-MAX_BRANCHES.true (rw (← t.3 0) c.if-byte-eq-OPEN.true))

pub loop-switch-preserved : goal.loop-switch-preserved
loop-switch-preserved c =
    let ws = c.args.switches.now in
    let s = c.args.state.now in
    let so_far = c.loop-switch.yielded in
    let t = zip_turn ws s so_far c.into_iter-switch-iterator.result c.loop-switch.switch-iterator c.next.new.self c.next.result (search rules) (search rules) c.loop-switch.yielded_by _ c.in-Some.is c.next.ensures.steps in
    let more : length (so_far ++ ((c.in-Some.switch, c.in-Some.byte) ∷ [])) ≡ length so_far + 1 = length-append so_far _ in
    rw (more, c.loop-switch.invariant)
    (elim c.else-byte-eq-OPEN.branch [
      | else-byte-eq-OPEN-via-then-byte-eq-OPEN+else-k-lt-MAX_BRANCHES w ↦ open_beyond ws s (length so_far) t.0 t.1 512 (rw (← t.2 no_switch, ← c.from-k.ensures) w.if-k-lt-MAX_BRANCHES.false)
      | else-byte-eq-OPEN-via-else-byte-eq-OPEN w ↦ open_closed ws s (length so_far) t.0 t.1 512 (rw (← t.3 0) w.if-byte-eq-OPEN.false)
    ])

pub returns : goal.returns
returns c =
    let ws = c.args.switches.now in
    let s = c.args.state.now in
    let so_far = c.loop-switch.yielded in
    let t = zip_end ws s so_far c.into_iter-switch-iterator.result c.loop-switch.switch-iterator c.next.new.self c.next.result (search rules) (search rules) c.loop-switch.yielded_by c.in-None.is c.next.ensures.steps in
    c.loop-switch.invariant ∙ open_all ws s 512 (length so_far) t
