-- `sections_of` meets its contract: the sections among the first i switches are listed; the step is `section_listed` or `other_skipped`.
use Rattle.std.proofs.Common.{◌≡◌, ℕ, ◌<◌, sym, ap, ◌∙◌, arith, rules, get_or, not, ◌&&◌}
use Rattle.numbers.specs.TableLaws.{replicate_table}
use Rattle.network.specs.declared.topology.PowerNetwork.{PowerNetwork}
use Rattle.network.specs.Answers.{accepted}
use Rattle.network.specs.Check.{check_records}
use Rattle.network.specs.InsideLaws.{check_inside}
use Rattle.network.specs.Records.{no_switch, records_of}
use Rattle.states.specs.Switches.{branch_of, operable, switch, is_tie}
use Rattle.states.specs.Listed.{few_switches, switches_listed}
use Rattle.searches.specs.SwitchReads.{on_branch, switch_is}
use Rattle.exchange.specs.ExchangeSwaps.{sections_none, sections_all, other_skipped, section_listed}
use Rattle.exchange.proofs.exchange.sections_of.Goals as goal
use Rattle.exchange.proofs.exchange.sections_of.Goals.{then-is_section, else-is_section}

-- the branch of a switch has a place in the array
flagged : (n : PowerNetwork) → check_records (records_of n) ≡ accepted tt → {i at on : ℕ} → i < n.switch_count → at ≡ i → on ≡ (get_or n.switches at no_switch).branch_idx → on < 512
flagged n ok {i} l e o = rw o (on_branch n ok i l _ (ap (λ k. get_or n.switches k no_switch) e))

pub loop-i-init : goal.loop-i-init
loop-i-init c = replicate_table _ 512 ∙ sections_none _

pub bounds-network-from : goal.bounds-network-from
bounds-network-from c = omega (arith, few_switches c.args.network.now c.requires)

pub offset_bounds-sections-on : goal.offset_bounds-sections-on
offset_bounds-sections-on c =
    let within = flagged c.args.network.now c.requires c.loop-i-test.true c.from.ensures c.from-on.ensures in
    search rules

pub bounds-sections-on : goal.bounds-sections-on
bounds-sections-on c = flagged c.args.network.now c.requires c.loop-i-test.true c.from.ensures c.from-on.ensures

pub offset_bounds-sections-on-then-is_section : goal.offset_bounds-sections-on-then-is_section
offset_bounds-sections-on-then-is_section c =
    let within = flagged c.args.network.now c.requires c.loop-i-test.true c.from.ensures c.from-on.ensures in
    search rules

pub bounds-sections-on-then-is_section : goal.bounds-sections-on-then-is_section
bounds-sections-on-then-is_section c = flagged c.args.network.now c.requires c.loop-i-test.true c.from.ensures c.from-on.ensures

pub loop-i-preserved : goal.loop-i-preserved
loop-i-preserved c =
    let n = c.args.network.now in
    let N = records_of n in
    let i = c.loop-i.i in
    -- the switch that is read
    let here : switch N i ≡ get_or n.switches c.from.result no_switch =
    switch_is n c.requires i c.loop-i-test.true _ (ap (λ k. get_or n.switches k no_switch) c.from.ensures) in
    let section : (not (is_tie N i) && operable N i) ≡ c.is_section.result =
    ap (λ w. not w.normally_open && w.can_operate) here ∙ sym c.is_section.ensures in
    let on : c.from-on.result ≡ branch_of N i = c.from-on.ensures ∙ sym (ap (λ w. w.branch_idx) here) in
    elim c.if-is_section.branch [
      | then-is_section w ↦
          w.sections-is ∙ rw (w.or.ensures, c.loop-i.invariant, on)
          (section_listed N ((check_inside N).0 c.requires) i (omega (arith, switches_listed n)) (section ∙ w.if-is_section.true))
      | else-is_section w ↦ w.sections-is ∙ c.loop-i.invariant ∙ other_skipped N i (section ∙ w.if-is_section.false)
    ]

pub returns : goal.returns
returns c =
    let n = c.args.network.now in
    c.loop-i.invariant ∙ sections_all (records_of n) c.loop-i.i (omega (arith, switches_listed n))
