-- `build_base_configuration` meets its contract: the first i entries are the base's, the others still 00.
use Rattle.std.proofs.Common.{◌≡◌, sym, ap, ◌∙◌, get_or, get_or-take, length-take, arith}
use Rattle.numbers.specs.TableLaws.{filled_none, filled_more, filled_all}
use Rattle.network.specs.declared.switch.Switch.{Switch}
use Rattle.network.specs.Records.{no_switch, records_of}
use Rattle.states.specs.Live.{state_byte, base_state}
use Rattle.states.specs.LiveLaws.{byte_from, base_at, base_beyond}
use Rattle.states.proofs.configuration.build_base_configuration.Goals as goal

pub loop-i-init : goal.loop-i-init
loop-i-init c = ap (λ n. n.switches) c.new-configuration.ensures ∙ filled_none _ _ _

pub loop-i-preserved : goal.loop-i-preserved
loop-i-preserved c =
    let n = c.args.network in
    let i = c.loop-i.i in
    let e : c.from-in-loop-i.result ≡ get_or (base_state (records_of n)) i 0 =
    c.from-in-loop-i.ensures ∙ byte_from _ ∙ ap (λ (w : Switch). state_byte w.normally_open) (get_or-take c.min-count.result n.switches i no_switch (omega (arith, length-take {A = Switch}))) ∙ sym (base_at n i (omega (arith, length-take {A = Switch}))) in
    rw (c.loop-i.invariant, e) (filled_more _ 0 512 i (omega (arith, length-take {A = Switch})))

pub returns : goal.returns
returns c =
    let loop = c.loop-i in
    let n = c.args.network in
    ap (λ l. record { switches = l }) (loop.invariant ∙ filled_all _ 0 512 loop.i (λ j h k. base_beyond n j (omega (arith, length-take c.min-count.result n.switches))))
