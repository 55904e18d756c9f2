-- A switch, the status of its branch and how many open switches are on that, as the code reads them: what is read is what the feeder lists, and the branch has a place in an array of 512.
use Rattle.std.specs.Prelude.{◌≡◌, List, ℕ, ◌<◌, length, get_or}
use Rattle.std.proofs.Common.{sym, ap, ◌∙◌}
use Rattle.numbers.specs.UpTo.{table}
use Rattle.numbers.specs.TableLaws.{get_or_table}
use Rattle.network.specs.declared.switch.Switch.{Switch}
use Rattle.network.specs.declared.topology.PowerNetwork.{PowerNetwork}
use Rattle.network.specs.Records.{no_switch, records_of}
use Rattle.network.specs.Answers.{accepted}
use Rattle.network.specs.Check.{check_records}
use Rattle.network.specs.ReadLaws.{past_branch, branch_read}
use Rattle.states.specs.declared.configuration.NetworkConfiguration.{NetworkConfiguration}
use Rattle.states.specs.Switches.{branch_of, switch, in_service}
use Rattle.states.specs.OpenCounts.{open_count}
use Rattle.states.specs.Listed.{branch_at, switch_at_lem, switch_listed, switch_small}
use Rattle.searches.specs.States.{state_of}
use Rattle.searches.specs.StateLaws.{counts_listed}

module _ (n : PowerNetwork) (ok : check_records (records_of n) ≡ accepted tt) (i : ℕ) (l : i < n.switch_count) (sw : Switch) (is : sw ≡ get_or n.switches i no_switch) where
  pub switch_is : switch (records_of n) i ≡ sw
  switch_is = switch_at_lem n i l ∙ sym is

  pub on_branch : sw.branch_idx < 512
  on_branch = rw is (switch_small n ok i l)

  pub status_read : length n.branches ≡ 512 → (on : ℕ) → on ≡ sw.branch_idx → in_service (records_of n) (branch_of (records_of n) i) ≡ (get_or n.branches on past_branch).status
  status_read sized on e =
      let listed : sw.branch_idx < n.branch_count = rw is (switch_listed n ok i l) in
      ap (λ v. in_service (records_of n) v.branch_idx) switch_is
      ∙ ap (λ b. b.status) (branch_at n sw.branch_idx listed ∙ sym (branch_read n.branches sw.branch_idx sized on_branch))
      ∙ ap (λ k. (get_or n.branches k past_branch).status) (sym e)

  -- from what `open_counts` answers
  pub count_read : (c : NetworkConfiguration) (counts : List ℕ) → counts ≡ table (open_count (records_of n) c.switches) 512 → (on : ℕ) → on ≡ sw.branch_idx
      → open_count (records_of n) (state_of n c) (branch_of (records_of n) i) ≡ get_or counts on 0
  count_read c counts q on e =
      ap (λ v. open_count (records_of n) (state_of n c) v.branch_idx) switch_is
      ∙ sym (get_or_table (open_count (records_of n) (state_of n c)) 512 sw.branch_idx 0 on_branch)
      ∙ ap (λ (t : List ℕ). get_or t sw.branch_idx 0) (sym (q ∙ counts_listed n c))
      ∙ ap (λ k. get_or counts k 0) (sym e)
