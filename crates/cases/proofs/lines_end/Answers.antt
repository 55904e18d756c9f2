-- `lines_end` meets its contract: so many lines are passed.
use Rattle.std.proofs.Common.{ap, ◌∙◌}
use Rattle.cases.specs.declared.Part.{Part}
use Rattle.cases.proofs.Steps.{none_passed, line_more}
use Rattle.cases.proofs.lines_end.Goals as goal

pub lines-init : goal.lines-init
lines-init c = record { value = none_passed _ _; within = λ h. h }

pub lines-preserved : goal.lines-preserved
lines-preserved c =
    let behind = c.line_behind-end.ensures in
    record {
      value = ap (λ (p : Part). p.to) behind.0 ∙ rw c.lines.invariant.value (line_more c.args.input.now c.args.at c.lines.counter);
      within = λ h. behind.1.ends;
    }
