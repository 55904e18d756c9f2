-- `write_lines` meets its contract: the lines of each kind are written behind those before them.
use Rattle.std.proofs.Common.{arith, ap, sym, subst}
use Rattle.network.proofs.ArrayLengths.{buses_256, branches_512, switches_512}
use Rattle.network.specs.Limits.{Head}
use Rattle.network.specs.Records.{records_of}
use Rattle.states.specs.Listed.{few_buses, few_branches, few_switches}
use Rattle.texts.specs.Lines.{IsNumber}
use Rattle.texts.specs.ValueLaws.{base_bits, loads_bits, rs_bits, buses_lent, branches_lent, switches_lent, each_switch}
use Rattle.texts.proofs.TextLines.{one_line, head_room, buses_room, branches_room, switches_room, head_on, buses_on, branches_on, switches_on, named_room, supply_on, no_supply_on}
use Rattle.texts.proofs.writer.write_lines.Goals as goal

pub write_all-buses-requires : goal.write_all-buses-requires
write_all-buses-requires c =
    let n = c.args.network in
    let bits = subst IsNumber (ap (λ (h : Head). h.base) (sym c.head_of.ensures)) (base_bits n c.requires.0) in
    ((bits, tt), omega (arith, head_room (records_of n) c.args.out.now c.requires.1 _ c.head_of.ensures))

pub shared_ref_as_front-write_all : goal.shared_ref_as_front-write_all
shared_ref_as_front-write_all c = omega (arith, few_buses c.args.network c.requires.0, c.from.ensures)

pub write_all-branches-requires : goal.write_all-branches-requires
write_all-branches-requires c =
    let n = c.args.network in
    let b = head_on n c.args.out.now _ c.head_of.ensures c.write_all-buses.ensures in
    rw (buses_lent n c.requires.0 _ c.from.ensures (buses_256 n c.well_formed.1.0)) (loads_bits n c.requires.0, buses_room (records_of n) c.args.out.now c.requires.1 b)

pub shared_ref_as_front-write_all-2 : goal.shared_ref_as_front-write_all-2
shared_ref_as_front-write_all-2 c = omega (arith, few_branches c.args.network c.requires.0, c.from-2.ensures)

pub write_all-switches-requires : goal.write_all-switches-requires
write_all-switches-requires c =
    let n = c.args.network in
    let b = head_on n c.args.out.now _ c.head_of.ensures c.write_all-buses.ensures in
    let r = buses_on n c.args.out.now c.requires.0 _ b c.from.ensures (buses_256 n c.well_formed.1.0) c.write_all-branches.ensures in
    rw (branches_lent n c.requires.0 _ c.from-2.ensures (branches_512 n c.well_formed.1.0)) (rs_bits n c.requires.0, branches_room (records_of n) c.args.out.now c.requires.1 r)

pub shared_ref_as_front-write_all-3 : goal.shared_ref_as_front-write_all-3
shared_ref_as_front-write_all-3 c = omega (arith, few_switches c.args.network c.requires.0, c.from-3.ensures)

pub write_all-supply-requires : goal.write_all-supply-requires
write_all-supply-requires c =
    let n = c.args.network in
    let b = head_on n c.args.out.now _ c.head_of.ensures c.write_all-buses.ensures in
    let r = buses_on n c.args.out.now c.requires.0 _ b c.from.ensures (buses_256 n c.well_formed.1.0) c.write_all-branches.ensures in
    let s = branches_on n c.args.out.now c.requires.0 _ r c.from-2.ensures (branches_512 n c.well_formed.1.0) c.write_all-switches.ensures in
    rw (switches_lent n c.requires.0 _ c.from-3.ensures (switches_512 n c.well_formed.1.0)) (each_switch _, switches_room (records_of n) c.args.out.now c.requires.1 s)

pub write_all-requires : goal.write_all-requires
write_all-requires c =
    let n = c.args.network in
    let b = head_on n c.args.out.now _ c.head_of.ensures c.write_all-buses.ensures in
    let r = buses_on n c.args.out.now c.requires.0 _ b c.from.ensures (buses_256 n c.well_formed.1.0) c.write_all-branches.ensures in
    let s = branches_on n c.args.out.now c.requires.0 _ r c.from-2.ensures (branches_512 n c.well_formed.1.0) c.write_all-switches.ensures in
    let z = switches_on n c.args.out.now c.requires.0 _ s c.from-3.ensures (switches_512 n c.well_formed.1.0) c.write_all-supply.ensures in
    ((tt, tt), rw one_line (rw one_line at (named_room n c.args.out.now z c.in-Some.is c.requires.1)))

pub returns-in-Some : goal.returns-in-Some
returns-in-Some c =
    let n = c.args.network in
    let b = head_on n c.args.out.now _ c.head_of.ensures c.write_all-buses.ensures in
    let r = buses_on n c.args.out.now c.requires.0 _ b c.from.ensures (buses_256 n c.well_formed.1.0) c.write_all-branches.ensures in
    let s = branches_on n c.args.out.now c.requires.0 _ r c.from-2.ensures (branches_512 n c.well_formed.1.0) c.write_all-switches.ensures in
    let z = switches_on n c.args.out.now c.requires.0 _ s c.from-3.ensures (switches_512 n c.well_formed.1.0) c.write_all-supply.ensures in
    supply_on n c.args.out.now z c.in-Some.is c.write_all.ensures

pub returns-in_default : goal.returns-in_default
returns-in_default c =
    let n = c.args.network in
    let b = head_on n c.args.out.now _ c.head_of.ensures c.write_all-buses.ensures in
    let r = buses_on n c.args.out.now c.requires.0 _ b c.from.ensures (buses_256 n c.well_formed.1.0) c.write_all-branches.ensures in
    let s = branches_on n c.args.out.now c.requires.0 _ r c.from-2.ensures (branches_512 n c.well_formed.1.0) c.write_all-switches.ensures in
    let z = switches_on n c.args.out.now c.requires.0 _ s c.from-3.ensures (switches_512 n c.well_formed.1.0) c.write_all-supply.ensures in
    no_supply_on n c.args.out.now z c.in_default.is
