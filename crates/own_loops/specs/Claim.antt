-- What is claimed of a feeder without its branches from a bus to itself (document 02, Point 7): "it drops such branches and their switches, renumbers branch positions, corrects the head".
-- Its words are defined in `OwnLoops`. `Proof.claim` proves it.
use Rattle.std.specs.Prelude.{◌≡◌, ◌⊎◌, ◌≢◌, ◌↔◌, ℕ, ◌<◌, length, get_or}
use mathlib.Core.List.{[], Memᴰ}
use Rattle.network.specs.declared.branch.Branch.{Branch}
use Rattle.network.specs.declared.switch.Switch.{Switch}
use Rattle.network.specs.Records.{Network}
use Rattle.network.specs.Inside.{Inside, Proper}
use Rattle.own_loops.specs.OwnLoops.{renumbered, without_own, branch_under, branch_reason, switch_reason, Dropped, dropped_lines, DroppedBranch, DroppedSwitch}

pub record Claim : Type 0 where
  -- "it drops such branches": none is left, and what is left is inside the limits
  pub left_inside : (N : Network) → Inside N → Inside (without_own N) × Proper (without_own N)
  -- "A text without any comes out byte for byte": the records of such a text stay, and of no other
  pub same_exactly : (N : Network) → Inside N → ((without_own N ≡ N) ↔ Proper N)
  -- "renumbers branch positions": a switch that is kept is on the branch that it was on
  pub same_branch : (N : Network) (s : Switch) → (branch_under N s).from_bus ≢ (branch_under N s).to_bus → branch_under (without_own N) (renumbered N.branches s) ≡ branch_under N s
  -- "it drops such branches and their switches", and no other; their order, and how often each is listed, are `keep`'s
  pub kept_branches : (N : Network) (b : Branch) → Memᴰ b (without_own N).branches ↔ (Memᴰ b N.branches × (b.from_bus ≢ b.to_bus))
  pub kept_switches : (N : Network) (s' : Switch)
      → Memᴰ s' (without_own N).switches
      ↔ ((s : Switch) × Memᴰ s N.switches × ((branch_under N s).from_bus ≢ (branch_under N s).to_bus) × (s' ≡ renumbered N.branches s))
  -- "a frame 87 (old line number u16, reason byte 01 branch or 02 switch) for each dropped line": for these and for no other
  pub dropped_exactly : (N : Network) (d : Dropped)
      → Memᴰ d (dropped_lines N) ↔ (((d.reason ≡ branch_reason) × DroppedBranch N d.line) ⊎ ((d.reason ≡ switch_reason) × DroppedSwitch N d.line))
  -- "in line order", hence each line once
  pub dropped_rising : (N : Network) (i j : ℕ) (d : Dropped) → i < j → j < length (dropped_lines N) → (get_or (dropped_lines N) i d).line < (get_or (dropped_lines N) j d).line
  -- "A text without any comes out byte for byte": no line follows it
  pub dropped_none : (N : Network) → Inside N → Proper N → dropped_lines N ≡ []
