-- `read_lines` meets its contract: the invariant is `Reached`, the pass over the first `i` lines with their records in front.
use Rattle.frames.specs.FrameReads.{in_front}
use Rattle.frames.proofs.LoopLaws.{Reached}
use Rattle.frames.proofs.pass.read_lines.Given as goal

abbrev pub invariant-loop-i : goal.invariant-loop-i
invariant-loop-i g l = let R = g.R.Record in Reached R.frame R.made R.faults l.place l.start l.text (in_front l.initial.out) l.out l.at l.i
