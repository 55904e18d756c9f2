-- `judge_characters` meets its contract: one law for each way that the characters up to the line's end can be.
use Rattle.std.proofs.Common.{sym, ◌∙◌, arith}
use Rattle.lines.specs.FirstLineLaws.{long_refused, unended_refused, odd_refused, other_refused, digits_accepted}
use Rattle.lines.proofs.line.judge_characters.Goals.{then-n-rest-via-then-n-rest, then-n-rest-via-else-n-rest+then-n-eq1, then-n-rest-via-else-n-rest+else-n-eq1+then-not-all_digits}
use Rattle.lines.proofs.line.judge_characters.Goals as goal

pub returns-then-n-gt-LONGEST : goal.returns-then-n-gt-LONGEST
returns-then-n-gt-LONGEST c = long_refused _ _ c.requires.1 _ c.if-n-gt-LONGEST.true

pub returns-then-n-rest : goal.returns-then-n-rest
returns-then-n-rest c =
    elim c.then-n-rest.branch [
      | then-n-rest-via-then-n-rest w ↦ unended_refused _ _ c.requires.1 _ (omega arith) c.requires.0 w.if-n-rest.true
      | then-n-rest-via-else-n-rest+then-n-eq1 w ↦ odd_refused _ _ c.requires.1 c.if-n-gt-LONGEST.false w.if-n-rest.false _ w.if-n-eq1.true
      | then-n-rest-via-else-n-rest+else-n-eq1+then-not-all_digits w ↦ other_refused _ _ c.requires.1 c.if-n-gt-LONGEST.false w.if-n-rest.false _ (sym w.all_digits.ensures ∙ w.if-not-all_digits.true)
    ]

pub returns : goal.returns
returns c = digits_accepted _ _ c.requires.1 c.if-n-gt-LONGEST.false c.if-n-rest.false _ c.if-n-eq1.false (sym c.all_digits.ensures ∙ c.if-not-all_digits.false)
