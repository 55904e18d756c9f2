-- `write_operations` meets its contract. The invariant: the lines of the first i switches have been written; the step is `lines_more`.
use Rattle.std.proofs.Common.{◌≡◌, ◌<◌, get_or, take, refl, sym, ◌∙◌, arith, length-take, get_or-take}
use Rattle.network.specs.Records.{no_switch, records_of}
use Rattle.states.specs.Switches.{switch}
use Rattle.states.specs.Listed.{switches_listed, switch_at_lem}
use Rattle.operations.specs.OperationLines.{lines_none, lines_room, lines_more, lines_all}
use Rattle.operations.proofs.operations.write_operations.Goals as goal

pub loop-i-init : goal.loop-i-init
loop-i-init c = lines_none _ _ _ _

pub write_change-at-requires : goal.write_change-at-requires
write_change-at-requires c =
    let n = c.args.network in
    let i = c.loop-i.i in
    let h : i < n.switch_count = omega (arith, length-take c.from-count.result n.switches) in
    let same : get_or (take c.from-count.result n.switches) i no_switch ≡ switch (records_of n) i = get_or-take c.from-count.result n.switches i no_switch (omega arith) ∙ sym (switch_at_lem n i h) in
    lines_room _ _ _ _ _ _ _ c.loop-i.invariant _ _ _ same refl refl (omega (arith, switches_listed n)) c.requires.1

pub loop-i-preserved : goal.loop-i-preserved
loop-i-preserved c =
    let n = c.args.network in
    let i = c.loop-i.i in
    let h : i < n.switch_count = omega (arith, length-take c.from-count.result n.switches) in
    let same : get_or (take c.from-count.result n.switches) i no_switch ≡ switch (records_of n) i = get_or-take c.from-count.result n.switches i no_switch (omega arith) ∙ sym (switch_at_lem n i h) in
    lines_more _ _ _ _ _ _ _ c.loop-i.invariant _ _ _ same refl refl (omega (arith, switches_listed n)) _ _ c.write_change-at.ensures.0 c.write_change-at.ensures.1

pub returns : goal.returns
returns c = lines_all _ _ _ _ _ _ _ c.loop-i.invariant (omega (arith, switches_listed c.args.network, length-take c.from-count.result c.args.network.switches)) c.requires.1
