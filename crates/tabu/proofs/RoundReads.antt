-- What a round reads of a listed switch: the loop goes over the front of the array of switches.
use Rattle.std.specs.Prelude.{◌≡◌, ℕ, ◌<◌, length, get_or, take}
use Rattle.std.proofs.Common.{arith, length-take, get_or-take}
use Rattle.network.specs.declared.topology.PowerNetwork.{PowerNetwork}
use Rattle.network.specs.Records.{no_switch, records_of}
use Rattle.network.specs.Answers.{accepted}
use Rattle.network.specs.Check.{check_records}
use Rattle.searches.specs.SwitchReads.{on_branch}

module _ (n : PowerNetwork) (m i : ℕ) (e : m ≡ n.switch_count) (h : i < length (take m n.switches)) where
  pub read_below : i < n.switch_count
  read_below = omega (arith, length-take m n.switches)

  pub read_here : get_or (take m n.switches) i no_switch ≡ get_or n.switches i no_switch
  read_here = get_or-take m n.switches i no_switch (omega (arith, length-take m n.switches))

  -- its branch has a place in an array of 512
  pub read_on : check_records (records_of n) ≡ accepted tt → (on : ℕ) → on ≡ (get_or (take m n.switches) i no_switch).branch_idx → on < 512
  read_on ok on p = omega (arith, on_branch n ok i read_below _ read_here)
