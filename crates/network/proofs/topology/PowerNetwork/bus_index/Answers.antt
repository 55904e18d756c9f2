-- `bus_index` meets its contract: the library's search finds the first position, and the listed buses are the front of the array.
use Rattle.std.proofs.Common.{◌≡◌, rules, take, length}
use Rattle.numbers.specs.Parts.{take_within}
use Rattle.network.specs.LookupLaws.{id_found}
use Rattle.network.proofs.topology.PowerNetwork.bus_index.Goals as goal

pub returns : goal.returns
returns c =
    let n = c.args.self in
    let size : length n.buses ≡ 256 = search rules in
    rw (← id_found (take n.bus_count n.buses) c.args.bus_id, ← take_within n.bus_count n.buses, size, ← c.at_most-count.ensures) c.position_of_bus.ensures
