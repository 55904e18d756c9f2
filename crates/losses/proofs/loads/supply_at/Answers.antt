-- `supply_at` meets its contract: the position that the id is found at, and 0 where it is not.
use Rattle.std.proofs.Common.{Some, sym, ap, ◌∙◌, arith}
use Rattle.std.proofs.Math.ListN.{length-take}
use Rattle.network.proofs.ArrayLengths.{buses_256}
use Rattle.feeders.specs.BusFound.{found_at, index_end, index_small}
use Rattle.losses.proofs.loads.supply_at.Goals as goal

pub overflow_cast-result : goal.overflow_cast-result
overflow_cast-result c =
    let n = c.args.network in
    omega (arith, index_small _ _ _ (sym c.bus_index.ensures ∙ c.in-Some-bus_index.is), length-take n.bus_count n.buses, buses_256 n c.well_formed.0)

pub returns-in-Some-bus_index : goal.returns-in-Some-bus_index
returns-in-Some-bus_index c = rw c.in-Some.is (ap Some (ap found_at (sym c.in-Some-bus_index.is ∙ c.bus_index.ensures) ∙ index_end _ _))

pub returns-in-None : goal.returns-in-None
returns-in-None c = rw c.in-Some.is (ap Some (ap found_at (sym c.in-None.is ∙ c.bus_index.ensures) ∙ index_end _ _))
