-- `NetworkConfiguration::new` meets its contract: an array of 00 is what a state of no bytes gives.
use mathlib.Core.Path.{ap}
use Rattle.numbers.specs.TableLaws.{replicate_table}
use Rattle.states.proofs.configuration.NetworkConfiguration.new.Goals as goal

pub returns : goal.returns
returns c = ap (λ l. record { switches = l }) (replicate_table 0 512)
