-- `write_base` meets its contract: the slice is too short, or the base, of which a configuration has the bytes, is written.
use Rattle.std.proofs.Common.{◌≡◌, length, arith, rules}
use Rattle.std.proofs.Math.ListN.{length-take}
use Rattle.states.specs.Listed.{few_switches}
use Rattle.controller.proofs.BaseLaws.{base_short, base_done}
use Rattle.controller.proofs.calls.write_base.Goals as goal

pub returns-then-out-n : goal.returns-then-out-n
returns-then-out-n c = base_short _ c.requires _ (rw c.from-n.ensures at c.if-out-n.true)

pub slice_bounds-base-end : goal.slice_bounds-base-end
slice_bounds-base-end c =
    let long : length c.build_base_configuration.result.switches ≡ 512 = search rules in
    omega (arith, few_switches _ c.requires, c.from-n.ensures)

pub slice_bounds-write_bytes-end : goal.slice_bounds-write_bytes-end
slice_bounds-write_bytes-end c =
    let long : length c.build_base_configuration.result.switches ≡ 512 = search rules in
    omega (arith, few_switches _ c.requires, c.from-n.ensures, length-take c.from-n.result c.build_base_configuration.result.switches)

pub returns : goal.returns
returns c = base_done _ c.requires _ (rw c.from-n.ensures at c.if-out-n.false) c.build_base_configuration.ensures (rw c.from-n.ensures at c.write_bytes.ensures)
