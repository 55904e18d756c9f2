-- `masked` meets its contract: the first i bytes are the mask's, the others still 00, and the bits of the first i ties are taken.
use Rattle.std.proofs.Common.{◌≡◌, sym, ap, ◌∙◌, arith, ◌<◌, ◌/◌, ◌%◌, eqb, not, true, get_or, length-take}
use Rattle.numbers.specs.TableLaws.{filled_none, filled_more, filled_kept, filled_all}
use Rattle.network.specs.declared.switch.Switch.{Switch}
use Rattle.network.specs.Records.{records_of}
use Rattle.states.specs.Live.{state_byte}
use Rattle.states.specs.LiveLaws.{byte_from}
use Rattle.states.specs.Switches.{is_tie}
use Rattle.exhaustive.specs.Exhaustive.{masked}
use Rattle.exhaustive.specs.ExhaustiveMasks.{tie_read, low_bit_free, bits_all, bits_taken, bits_kept, tie_byte, section_byte, masked_beyond}
use Rattle.exhaustive.proofs.exhaustive.masked.Goals as goal
use Rattle.exhaustive.proofs.exhaustive.masked.Goals.{then-is_tie, else-is_tie}

pub loop-i-init : goal.loop-i-init
loop-i-init c = record { bytes = ap (λ n. n.switches) c.new-configuration.ensures ∙ filled_none _ _ _; bits = bits_all _ _ }

pub loop-i-preserved : goal.loop-i-preserved
loop-i-preserved c =
    let n = c.args.network.now in
    let i = c.loop-i.i in
    let mask = c.args.mask in
    let below : i < c.from-count.result = omega (arith, length-take {A = Switch}) in
    let read : is_tie (records_of n) i ≡ c.is_tie.result = tie_read n c.from-count.ensures i below c.is_tie.ensures in
    elim c.if-is_tie.branch [
      | then-is_tie w ↦
          let tie : is_tie (records_of n) i ≡ true = read ∙ w.if-is_tie.true in
          let byte : w.from.result ≡ get_or (masked (records_of n) mask) i 0 =
          w.from.ensures ∙ byte_from _ ∙ ap state_byte (low_bit_free c.loop-i.rest ∙ ap (λ b. not (eqb (b % 2) 1)) c.loop-i.invariant.bits) ∙ sym (tie_byte n mask i (omega arith) tie) in
          record {
            bytes = ap (λ d. d.switches) w.configuration-is ∙ rw (c.loop-i.invariant.bytes, byte) (filled_more _ 0 512 i (omega arith));
            bits = w.rest-is ∙ ap (λ b. b / 2) c.loop-i.invariant.bits ∙ bits_taken n mask i tie;
          }
      | else-is_tie w ↦
          record {
            bytes = ap (λ d. d.switches) w.configuration-is ∙ c.loop-i.invariant.bytes ∙ filled_kept _ 0 512 i (section_byte n mask i (omega arith) (read ∙ w.if-is_tie.false));
            bits = w.rest-is ∙ c.loop-i.invariant.bits ∙ bits_kept n mask i (read ∙ w.if-is_tie.false);
          }
    ]

pub returns : goal.returns
returns c = ap (λ l. record { switches = l }) (c.loop-i.invariant.bytes ∙ filled_all _ 0 512 c.loop-i.i (λ j h k. masked_beyond c.args.network.now c.args.mask j (omega (arith, length-take c.from-count.result c.args.network.now.switches))))
