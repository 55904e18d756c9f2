-- `read_records` meets its contract: kind after kind, and each refusal ends it.
use Rattle.std.proofs.lemmas.Result.{err_from_is_err_and}
use Rattle.record_lines.specs.LineAnswers.{head_of_code}
use Rattle.frames.proofs.BodyLaws.{buses_held, branches_held, switches_held, buses_stop, branches_stop, switches_read_lem}
use Rattle.frames.proofs.reader.read_records.Goals as goal

pub returns-in_err-at : goal.returns-in_err-at
returns-in_err-at c =
    let h = head_of_code c.args.head in
    let p = err_from_is_err_and c.from_residual.result c.from_residual.ensures.1 in
    let b = buses_held _ h c.requires.4 c.args.text.now _ 37 _ c.from.ensures c.requires.1 _ c.read_lines-buses.auto.out c.read_lines-buses.ensures in
    rw (p.1, p.2) (buses_stop h c.args.text.now _ c.requires.4 _ _ b c.in_err-at.was)

pub returns-in_err-at-2 : goal.returns-in_err-at-2
returns-in_err-at-2 c =
    let h = head_of_code c.args.head in
    let p = err_from_is_err_and c.from_residual-in_err-at-2.result c.from_residual-in_err-at-2.ensures.1 in
    let b = buses_held _ h c.requires.4 c.args.text.now _ 37 _ c.from.ensures c.requires.1 _ c.read_lines-buses.auto.out c.read_lines-buses.ensures in
    let r = branches_held _ h c.requires.4 c.args.text.now _ c.in_ok-at.at _ c.from-2.ensures c.requires.2 _ c.read_lines-branches.auto.out c.read_lines-branches.ensures in
    rw (p.1, p.2) (branches_stop h c.args.text.now _ c.requires.4 _ _ b c.in_ok-at.was _ _ r c.in_err-at-2.was)

pub returns : goal.returns
returns c =
    let h = head_of_code c.args.head in
    let b = buses_held _ h c.requires.4 c.args.text.now _ 37 _ c.from.ensures c.requires.1 _ c.read_lines-buses.auto.out c.read_lines-buses.ensures in
    let r = branches_held _ h c.requires.4 c.args.text.now _ c.in_ok-at.at _ c.from-2.ensures c.requires.2 _ c.read_lines-branches.auto.out c.read_lines-branches.ensures in
    let s = switches_held _ h c.requires.4 c.args.text.now _ c.in_ok-at-2.at _ c.from-3.ensures c.requires.3 _ c.read_lines-switches.auto.out c.read_lines-switches.ensures in
    switches_read_lem h c.args.text.now _ c.requires.4 _ _ b c.in_ok-at.was _ _ r c.in_ok-at-2.was _ _ s
