-- The claim of a feeder without its own loops, law by law.
use Rattle.own_loops.specs.OwnLoopLaws as laws
use Rattle.own_loops.specs.Claim.{Claim}

pub claim : Claim
claim = record {
  left_inside = laws.left_inside;
  same_exactly = λ N i. (laws.same_proper N, laws.proper_same N i);
  same_branch = laws.same_branch;
  kept_branches = laws.kept_branches;
  kept_switches = laws.kept_switches;
  dropped_exactly = laws.dropped_exactly;
  dropped_rising = laws.dropped_rising;
  dropped_none = laws.dropped_none;
}
