-- `without_own_loops` meets its contract: its value is made of the branches and switches that are kept.
use Rattle.std.proofs.Common.{◌≡◌, rules, arith, min}
use Rattle.network.specs.Records.{network_of}
use Rattle.network.proofs.ArrayLengths.{branches_512, switches_512}
use Rattle.own_loops.specs.OwnLoops.{value_without}
use Rattle.own_loops.specs.NewPositions.{placed}
use Rattle.own_loops.proofs.Placing.{kept_branch, branches_left, switches_placed}
use Rattle.own_loops.proofs.dropping.without_own_loops.Goals as goal

pub returns : goal.returns
unfolding value_without network_of
returns c =
    let n = c.args.network in
    let long = branches_512 n c.well_formed.0 in
    let wide = switches_512 n c.well_formed.0 in
    let e : c.min-branch_count.result ≡ min n.branch_count 512 = omega arith in
    let f : c.min-switch_count.result ≡ min n.switch_count 512 = omega arith in
    let b = branches_left n long wide e f (rw c.new-empty.ensures at (c.keep-branches_left.ensures.made kept_branch (λ x r p. search rules))) in
    let s = switches_placed n long wide e f c.new_positions-positions.ensures (rw c.new-empty.ensures at (c.keep-switches_left.ensures.made (placed c.new_positions-positions.result) (λ x r p. search rules))) in
    rw (b.0, b.1, s.0, s.1)
