-- `line_bytes` meets its contract: a frame begins, or a line goes on.
use mathlib.Core.Path.{◌∙◌}
use Rattle.record_bytes.specs.RecordSteps.{line_begins, line_goes_on}
use Rattle.record_bytes.proofs.records.line_bytes.Goals as goal

pub returns-then-left-eq0 : goal.returns-then-left-eq0
returns-then-left-eq0 c = c.frame_bytes.ensures ∙ line_begins _ _ _ c.if-left-eq0.true

pub returns : goal.returns
returns c = line_goes_on _ _ _ c.if-left-eq0.false
