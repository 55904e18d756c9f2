-- `ends_of` meets its contract: the ends of the branches before k are resolved.
use Rattle.std.proofs.Common.{◌≡◌, ◌∙◌, ap, length, arith}
use Rattle.feeders.proofs.Resolving.{ends_start, end_resolved}
use Rattle.feeders.specs.FeederRows.{end_at, ends_of}
use Rattle.feeders.proofs.feeder.ends_of.Goals as goal

pub loop-k-init : goal.loop-k-init
loop-k-init g c id gives buses long e = ends_start id buses c.args.branches.now

pub loop-k-preserved : goal.loop-k-preserved
loop-k-preserved g c id gives buses long e =
    let named = gives _ _ c.end.ensures in
    end_resolved id buses c.args.branches.now _ _ c.loop-k-test.true c.requires.few.0 (c.loop-k.invariant id gives buses long e) (c.end_at.ensures buses long e ∙ ap (end_at buses) named)

pub returns : goal.returns
returns g c id gives buses long e =
    let all : c.loop-k.k ≡ length c.args.branches.now = omega arith in
    c.loop-k.invariant id gives buses long e ∙ ap (ends_of id buses c.args.branches.now) all
