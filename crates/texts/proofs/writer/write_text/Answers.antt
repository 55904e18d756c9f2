-- `write_text` meets its contract: the records are refused, the slice is too short, or the text is written.
use Rattle.std.proofs.Common.{sym, arith}
use Rattle.network.specs.AnswerLaws.{handed_on, accepted_so, refused_so}
use Rattle.network.specs.Records.{records_of}
use Rattle.feeders.specs.SupplyLaws.{network_inside, network_records}
use Rattle.frames.specs.Acceptable.{text_of}
use Rattle.printing.specs.CallLaws.{call_refused, call_short}
use Rattle.texts.specs.Texts.{written_text}
use Rattle.texts.specs.TextLaws.{text_short, text_written}
use Rattle.texts.proofs.writer.write_text.Goals as goal

pub returns-in_err-check_network : goal.returns-in_err-check_network
unfolding written_text
returns-in_err-check_network c = rw (handed_on _ _ c.from_residual.ensures.1) (call_refused _ _ _ (refused_so c.in_err-check_network.was c.check_network.ensures))

pub returns-then-out-length : goal.returns-then-out-length
unfolding written_text
returns-then-out-length c =
    call_short _ (text_of (records_of c.args.network)) _ (accepted_so c.in_ok-check_network.was c.check_network.ensures) (sym c.text_length-length.ensures) c.if-out-length.true

pub write_lines-requires : goal.write_lines-requires
write_lines-requires c = (network_records _ (accepted_so c.in_ok-check_network.was c.check_network.ensures), omega (arith, c.text_length-length.ensures, c.if-out-length.false))

pub overflow_cast-result : goal.overflow_cast-result
overflow_cast-result c = omega (arith, c.text_length-length.ensures, text_short _ ((network_inside _).0 (accepted_so c.in_ok-check_network.was c.check_network.ensures)).0)

pub returns : goal.returns
returns c = text_written _ _ (accepted_so c.in_ok-check_network.was c.check_network.ensures) c.text_length-length.ensures c.if-out-length.false c.write_lines.ensures
