-- `write_dropped_lines` meets its contract: the lines of the switches are written behind those of the branches.
use Rattle.std.proofs.Common.{arith, rules, take}
use Rattle.network.proofs.ArrayLengths.{branches_512, switches_512}
use Rattle.network.specs.Limits.{is_own_loop}
use Rattle.states.specs.Listed.{few_buses, few_branches, few_switches}
use Rattle.repairs.proofs.BothKinds.{goes, branches_few, switches_few, branches_room, switches_room, both_put}
use Rattle.repairs.proofs.repair.write_dropped_lines.Goals as goal

pub shared_ref_as_front-branches : goal.shared_ref_as_front-branches
shared_ref_as_front-branches c = omega (arith, few_branches c.args.network c.requires.0, c.from.ensures)

pub shared_ref_as_front-switches : goal.shared_ref_as_front-switches
shared_ref_as_front-switches c = omega (arith, few_switches c.args.network c.requires.0, c.from-2.ensures)

pub overflow_add-line : goal.overflow_add-line
overflow_add-line c = omega (arith, few_buses c.args.network c.requires.0)

pub write_lines-end-requires-clause-few : goal.write_lines-end-requires-clause-few
write_lines-end-requires-clause-few c =
    let n = c.args.network in
    branches_few n c.requires.0 _ _ c.from.ensures c.from-2.ensures (branches_512 n c.well_formed.1.1.0) (switches_512 n c.well_formed.1.1.0)

pub write_lines-end-requires-clause-room : goal.write_lines-end-requires-clause-room
write_lines-end-requires-clause-room c =
    let n = c.args.network in
    (is_own_loop, λ b r e. e, branches_room n c.requires.0 _ _ c.from.ensures c.from-2.ensures (branches_512 n c.well_formed.1.1.0) (switches_512 n c.well_formed.1.1.0) _ _ c.requires.1)

pub overflow_add-line-2 : goal.overflow_add-line-2
overflow_add-line-2 c = omega (arith, few_buses c.args.network c.requires.0, few_branches c.args.network c.requires.0)

pub write_lines-requires-clause-few : goal.write_lines-requires-clause-few
write_lines-requires-clause-few c =
    let n = c.args.network in
    switches_few n c.requires.0 _ _ c.from.ensures c.from-2.ensures (branches_512 n c.well_formed.1.1.0) (switches_512 n c.well_formed.1.1.0)

pub write_lines-requires-clause-room : goal.write_lines-requires-clause-room
write_lines-requires-clause-room c =
    let n = c.args.network in
    let room = switches_room n c.requires.0 _ _ c.from.ensures c.from-2.ensures (branches_512 n c.well_formed.1.1.0) (switches_512 n c.well_formed.1.1.0) _ _ c.requires.1 (c.write_lines-end.ensures is_own_loop (λ b r e. e)) in
    (goes (take c.from.result n.branches), λ s r e. search rules, room)

pub returns : goal.returns
returns c =
    let n = c.args.network in
    let long = branches_512 n c.well_formed.1.1.0 in
    let wide = switches_512 n c.well_formed.1.1.0 in
    both_put n c.requires.0 _ _ c.from.ensures c.from-2.ensures long wide _ _ c.requires.1 (c.write_lines-end.ensures is_own_loop (λ b r e. e))
    (c.write_lines.ensures (goes (take c.from.result n.branches)) (λ s r e. search rules))
