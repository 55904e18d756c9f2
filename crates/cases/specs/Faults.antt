-- Records with a fault that several test programs try.
use Rattle.std.specs.Prelude.{ℕ, true, cond, eqb, set}
use Rattle.network.specs.declared.switch.Switch.{Switch}
use Rattle.network.specs.declared.topology.PowerNetwork.{PowerNetwork}

-- a switch that is open and may be moved
abbrev pub tie : ℕ → ℕ → Switch
tie id branch = record { id = id; branch_idx = branch; normally_open = true; can_operate = true }

-- by its letter: A for 1,001 iterations, F for a tie in place of the eleventh switch
abbrev pub with_fault : ℕ → ℕ → PowerNetwork → PowerNetwork
with_fault letter id network =
    cond (eqb letter 65)
    (record network { max_iterations = 1001 })
    (cond (eqb letter 70) (record network { switches = set network.switches 10 (tie id 10) }) network)

-- three switches on the second branch
abbrev pub three_on_a_branch : PowerNetwork → PowerNetwork
three_on_a_branch network = record network { switches = set (set network.switches 1 (tie 11 1)) 2 (tie 12 1); switch_count = 3 }
