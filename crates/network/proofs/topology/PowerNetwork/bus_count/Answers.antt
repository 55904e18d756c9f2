-- `bus_count` meets its contract: as many records are listed as the count says.
use mathlib.Core.Path.{sym}
use Rattle.numbers.specs.TableLaws.{length_table}
use Rattle.network.specs.Lookups.{bus_count}
use Rattle.network.specs.Records.{records_of}
use Rattle.network.proofs.topology.PowerNetwork.bus_count.Goals as goal

pub returns : goal.returns
unfolding bus_count records_of
returns c = sym (length_table _ _)
