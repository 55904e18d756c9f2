-- `read_body` meets its contract: the records, behind them the supply, behind it the end; each refusal ends it.
use Rattle.network.specs.AnswerLaws.{handed_on}
use Rattle.record_lines.specs.LineAnswers.{head_of_code}
use Rattle.frames.proofs.BodyLaws.{no_supply, records_stop, supply_stops, all_read}
use Rattle.frames.proofs.reader.read_body.Goals as goal

pub returns-in_err-at : goal.returns-in_err-at
returns-in_err-at c = records_stop (head_of_code c.args.head) c.args.text.now _ _ c.read_records.ensures c.in_err-at.was (handed_on _ _ c.from_residual.ensures.1)

pub read_supply-requires : goal.read_supply-requires
read_supply-requires c = (
  (rw c.in_ok-at.was at c.read_records.ensures.next).0,
  no_supply (head_of_code c.args.head) c.args.text.now _ _ c.read_records.ensures,
)

pub returns-in_err-at-2 : goal.returns-in_err-at-2
returns-in_err-at-2 c =
    supply_stops (head_of_code c.args.head) c.args.text.now _ _ c.read_records.ensures c.in_ok-at.was _ _ c.read_supply.ensures c.in_err-at-2.was (handed_on _ _ c.from_residual-in_err-at-2.ensures.1)

pub returns : goal.returns
returns c = all_read (head_of_code c.args.head) c.args.text.now _ _ c.read_records.ensures c.in_ok-at.was _ _ c.read_supply.ensures c.in_ok-at-2.was c.judge_end.ensures
