-- The records of the examples, and document 01's triangle.
use Rattle.std.specs.Prelude.{true, false, List, [], ◌∷◌, ℕ, Float}
use Rattle.std.specs.Prelude.{None, Some}
use Rattle.std.specs.Float.{binary64}
use Rattle.std.specs.Float.Ieee.{of_bits}
use Rattle.network.specs.declared.bus.Bus.{Bus}
use Rattle.network.specs.declared.branch.Branch.{Branch}
use Rattle.network.specs.declared.switch.Switch.{Switch}
use Rattle.network.specs.declared.switch.ReconfigAlgorithm.{ReconfigAlgorithm}
use Rattle.network.specs.declared.switch.ReconfigAlgorithm.TheVariants.{BranchExchange}
use Rattle.network.specs.Records.{Network}

-- floats by their bits, loads in MW and r in per unit
abbrev pub float : ℕ → Float
float bits = of_bits binary64 bits

abbrev pub bus : ℕ → ℕ → Bus
bus id pd = record { id = id; pd = record { 0 = float pd } }

abbrev pub branch : ℕ → ℕ → ℕ → Branch
branch from to r = record { from_bus = from; to_bus = to; r = float r; status = true }

abbrev pub section : ℕ → ℕ → Switch
section id k = record { id = id; branch_idx = k; normally_open = false; can_operate = true }

abbrev pub tie : ℕ → ℕ → Switch
tie id k = record { id = id; branch_idx = k; normally_open = true; can_operate = true }

-- base_mva is 1
abbrev pub network : ReconfigAlgorithm → ℕ → List Bus → List Branch → List Switch → Network
network algorithm iterations buses branches switches =
    record { base = float 0x3FF0000000000000; algorithm = algorithm; iterations = iterations; buses = buses; branches = branches; switches = switches; supply = None }

-- with the triangle's head
abbrev pub records : List Bus → List Branch → List Switch → Network
records = network BranchExchange 100

-- ---- document 01's triangle
abbrev pub buses : List Bus
buses = bus 1 0 ∷ bus 2 0x3FF0000000000000 ∷ bus 3 0x4000000000000000 ∷ []

abbrev pub branches_with : Branch → List Branch
branches_with first = first ∷ branch 2 3 0x3FDC000000000000 ∷ branch 1 3 0x3FC8000000000000 ∷ []

abbrev pub branches : List Branch
branches = branches_with (branch 1 2 0x3FD0000000000000)

abbrev pub switches : List Switch
switches = section 10 1 ∷ tie 11 2 ∷ []

-- with another method and other iterations
abbrev pub triangle_with : ReconfigAlgorithm → ℕ → Network
triangle_with algorithm iterations = network algorithm iterations buses branches switches

abbrev pub triangle : Network
triangle = triangle_with BranchExchange 100

-- ---- document 02: fed from the bus with this id
abbrev pub fed_from : ℕ → Network → Network
fed_from id N =
    record { base = N.base; algorithm = N.algorithm; iterations = N.iterations; buses = N.buses; branches = N.branches; switches = N.switches; supply = Some id }
