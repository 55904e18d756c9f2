-- The values by which the code holds where a search starts and what it found, and what it answers with them.
use Rattle.std.specs.Prelude.{List, ℕ}
use Rattle.network.specs.declared.topology.PowerNetwork.{PowerNetwork}
use Rattle.network.specs.Answers.{accepted}
use Rattle.states.specs.Configuration.{configuration_of}
use Rattle.states.specs.Live.{base_state}
use Rattle.network.specs.Records.{Network, records_of}
use Rattle.graph.specs.Rows.{row_radial}
use Rattle.graph.specs.Form.{row_form}
use Rattle.printing.specs.Calls.{Call}
use Rattle.slices.specs.Written.{written}
use Rattle.feeders.specs.FeederRows.{feeder_graph, live_flags}
use Rattle.losses.specs.Loss.{loss_in}
use Rattle.losses.specs.LiveLoss.{loads_of, live_loss}
use Rattle.searches.specs.declared.answer.Found.{Found}
use Rattle.searches.specs.declared.start.Start.{Start}
use Rattle.searches.specs.Results.{Best, Result, reduction}
use Rattle.searches.specs.States.{state_of}

-- where every search starts, by the feeder's rows: of a network that has passed its test it is the base with its radiality and its loss (StartLaws)
unfoldable pub start_of : PowerNetwork → Start
start_of n =
    let base = configuration_of (base_state (records_of n)) in
    let flags = live_flags (records_of n) base.switches in
    record {
      graph = feeder_graph n;
      loads = loads_of n;
      base = base;
      radial = row_radial (feeder_graph n) flags;
      loss = live_loss (feeder_graph n) (loads_of n) n.branches n.base_mva flags;
    }

-- what a search found, with its loss
unfoldable pub found_of : Network → Best → Found
found_of N b = record { configuration = configuration_of b.state; loss = loss_in N b.state; iterations = b.iterations; converged = b.converged }

-- what the start's rows say that the live branches of the found state are. With a checked network's start and what a search found it is that search's call
-- (SearchLaws.search_answered)
unfoldable pub answer_with : PowerNetwork → Start → Found → List ℕ → Call Result
answer_with n start found out =
    record {
      answer = accepted
          (record {
            form = row_form start.graph (live_flags (records_of n) found.configuration.switches);
            base_loss = start.loss;
            best_loss = found.loss;
            reduction = reduction start.loss found.loss;
            iterations = found.iterations;
            converged = found.converged;
          });
      out = written (state_of n found.configuration) out;
    }
