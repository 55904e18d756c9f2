-- The records as lists, as long as their counts say.
use Rattle.std.specs.Prelude.{false, List, [], ℕ, length, get_or, Float}
use Rattle.std.specs.Prelude.{Option, None}
use Rattle.std.specs.Float.{binary64}
use Rattle.std.specs.Float.Ieee.{of_bits}
use Rattle.numbers.specs.Arrays.{padded}
use Rattle.numbers.specs.UpTo.{table}
use Rattle.network.specs.declared.bus.Bus.{Bus}
use Rattle.network.specs.declared.branch.Branch.{Branch}
use Rattle.network.specs.declared.switch.Switch.{Switch}
use Rattle.network.specs.declared.switch.ReconfigAlgorithm.{ReconfigAlgorithm}
use Rattle.network.specs.declared.topology.PowerNetwork.{PowerNetwork}

-- what stands where nothing is listed
abbrev pub no_bus : Bus
no_bus = record { id = 0; pd = record { 0 = of_bits binary64 0 } }

abbrev pub no_branch : Branch
no_branch = record { from_bus = 0; to_bus = 0; r = of_bits binary64 0; status = false }

abbrev pub no_switch : Switch
no_switch = record { id = 0; branch_idx = 0; normally_open = false; can_operate = false }

-- a feeder as document 01 lists it
pub record Network : Type 0 where
  -- base_mva, and not the base, document 01's state
  pub base : Float
  pub algorithm : ReconfigAlgorithm
  pub iterations : ℕ
  pub buses : List Bus
  pub branches : List Branch
  pub switches : List Switch
  -- document 02: the id of the supply bus, where one is named
  pub supply : Option ℕ

-- the first n of an array, also where it has fewer
abbrev pub listed : {A : Type 0} → A → List A → ℕ → List A
listed empty l n = table (λ i. get_or l i empty) n

-- the listed records of a value handed over: as many of each kind as its count says, also where that is over the limit
unfoldable pub records_of : PowerNetwork → Network
records_of n =
    record {
      base = n.base_mva;
      algorithm = n.algorithm;
      iterations = n.max_iterations;
      buses = listed no_bus n.buses n.bus_count;
      branches = listed no_branch n.branches n.branch_count;
      switches = listed no_switch n.switches n.switch_count;
      supply = n.supply;
    }

-- the value that holds a feeder inside the limits: the first entries of each array are listed, the others empty
unfoldable pub network_of : Network → PowerNetwork
network_of N =
    record {
      buses = padded 256 no_bus N.buses;
      branches = padded 512 no_branch N.branches;
      switches = padded 512 no_switch N.switches;
      bus_count = length N.buses;
      branch_count = length N.branches;
      switch_count = length N.switches;
      base_mva = N.base;
      algorithm = N.algorithm;
      max_iterations = N.iterations;
      supply = N.supply;
    }

abbrev pub empty_network : Float → ReconfigAlgorithm → ℕ → PowerNetwork
empty_network base algorithm iterations = network_of (record { base = base; algorithm = algorithm; iterations = iterations; buses = []; branches = []; switches = []; supply = None })
