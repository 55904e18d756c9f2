-- `read_supply` meets its contract: where the text ends no line is left; else the line is read, or stops the pass.
use Rattle.std.proofs.lemmas.Result.{err_from_is_err_and}
use Rattle.frames.proofs.LeftLaws.{no_line, supply_made_lem, supply_refused}
use Rattle.frames.proofs.supply.read_supply.Goals as goal

pub returns-then-at-text : goal.returns-then-at-text
returns-then-at-text c = no_line c.args.network.now c.args.text.now c.args.at _ c.requires.0 c.requires.1 c.if-at-text.true

pub returns-in_err-id : goal.returns-in_err-id
returns-in_err-id c =
    let p = err_from_is_err_and c.from_residual.result c.from_residual.ensures.1 in
    rw (p.1, p.2) (supply_refused c.args.network.now c.args.text.now c.args.at _ c.requires.0 c.requires.1 c.if-at-text.false c.read_line.result c.read_line.ensures c.in_err-id.was)

pub returns : goal.returns
returns c = supply_made_lem c.args.network.now c.args.text.now c.args.at _ c.requires.0 c.requires.1 c.if-at-text.false c.read_line.result c.read_line.ensures c.in_ok-id.was
