-- `frame_bytes` meets its contract, kind by kind.
use Rattle.std.proofs.Common.{◌∙◌, arith}
use borrow.Author.Tests.{ne_eqb}
use Rattle.record_bytes.specs.RecordBytes.{frame_bytes}
use Rattle.record_bytes.proofs.records.frame_bytes.Goals as goal

pub returns-in-1 : goal.returns-in-1
unfolding frame_bytes
returns-in-1 c = c.min.ensures ∙ rw c.in-1.is

pub returns-in-2 : goal.returns-in-2
unfolding frame_bytes
returns-in-2 c = c.min-in-2.ensures ∙ rw c.in-2.is

pub returns-in-3 : goal.returns-in-3
unfolding frame_bytes
returns-in-3 c = c.min-in-3.ensures ∙ rw c.in-3.is

pub returns-in-4 : goal.returns-in-4
unfolding frame_bytes
returns-in-4 c = c.min-in-4.ensures ∙ rw c.in-4.is

pub returns-in-5 : goal.returns-in-5
unfolding frame_bytes
returns-in-5 c = c.min-in-5.ensures ∙ rw c.in-5.is

pub returns-in_default : goal.returns-in_default
unfolding frame_bytes
returns-in_default c =
    let d = c.in_default in
    rw (ne_eqb c.args.kind 1 (λ e. omega (arith, d)), ne_eqb c.args.kind 2 (λ e. omega (arith, d)), ne_eqb c.args.kind 3 (λ e. omega (arith, d)), ne_eqb c.args.kind 4 (λ e. omega (arith, d)), ne_eqb c.args.kind 5 (λ e. omega (arith, d)))
