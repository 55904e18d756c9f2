-- `print_network` meets its contract: a checked network's search is not refused, and its lines stand one behind the other.
use Rattle.std.proofs.Common.{◌≡◌, length, ap, ◌∙◌, arith, rules}
use Rattle.std.proofs.Math.ListN.{length-take}
use Rattle.network.specs.Records.{records_of}
use Rattle.slices.specs.WrittenLaws.{length_written}
use Rattle.states.specs.Listed.{few_switches}
use Rattle.reconfiguration.specs.Solve.{result}
use Rattle.searches.specs.StateLaws.{base_held}
use Rattle.feeders.specs.SupplyLaws.{network_records}
use Rattle.answers.specs.Printing.{move_lines, network_text}
use Rattle.answers.specs.PrintingLaws.{network_short}
use Rattle.answers.proofs.PrinterLaws.{solved_result, solved_state, not_refused, result_bits, network_long, lines_stored}
use Rattle.answers.proofs.printer.print_network.Goals as goal

pub returns-in_default : goal.returns-in_default
returns-in_default c = not_refused _ c.requires.0 _ (search rules) c.in_default.ensures

pub write_result-requires : goal.write_result-requires
write_result-requires c = (result_bits _ (network_records _ c.requires.0) (solved_result _ c.requires.0 _ (search rules) c.in-Ok.ensures), omega (arith, c.requires.1))

pub slice_bounds-base-end : goal.slice_bounds-base-end
slice_bounds-base-end c =
    let long : length c.build_base_configuration.result.switches ≡ 512 = search rules in
    omega (arith, few_switches _ (network_records _ c.requires.0), c.from-n.ensures)

pub slice_bounds-write_moves-end : goal.slice_bounds-write_moves-end
slice_bounds-write_moves-end c =
    let long : length c.build_base_configuration.result.switches ≡ 512 = search rules in
    omega (arith, few_switches _ (network_records _ c.requires.0), c.from-n.ensures, length-take c.from-n.result c.build_base_configuration.result.switches)

pub slice_bounds-best-end : goal.slice_bounds-best-end
slice_bounds-best-end c =
    let long : length c.solve.new.out ≡ 512 = search rules in
    omega (arith, few_switches _ (network_records _ c.requires.0), c.from-n.ensures)

pub slice_bounds-write_moves-end-2 : goal.slice_bounds-write_moves-end-2
slice_bounds-write_moves-end-2 c =
    let long : length c.solve.new.out ≡ 512 = search rules in
    omega (arith, few_switches _ (network_records _ c.requires.0), c.from-n.ensures, length-take c.from-n.result c.solve.new.out)

pub write_moves-requires : goal.write_moves-requires
write_moves-requires c =
    ((c.requires.0, rw c.from-n.ensures (base_held _ (network_records _ c.requires.0) c.build_base_configuration.ensures), rw c.from-n.ensures (solved_state _ c.requires.0 _ (search rules) c.solve.ensures)), omega (arith, c.requires.1, ap length c.write_result.ensures ∙ length_written _ _))

pub returns : goal.returns
returns c =
    let N = records_of c.args.network in
    let same = solved_result _ c.requires.0 _ (search rules) c.in-Ok.ensures in
    let moves = c.write_moves.ensures in (
      moves.0 ∙ network_long N,
      unfold network_text in lines_stored c.args.out.now (result N) (move_lines N) (omega (arith, network_short N c.requires.0, c.requires.1)) (rw same at c.write_result.ensures) moves.1,
    )
