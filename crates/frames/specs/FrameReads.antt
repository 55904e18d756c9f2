-- What the readers of the lines of a kind store, and where they stop.
use Rattle.std.specs.Prelude.{◌≡◌, List, [], ◌++◌, ℕ, ◌≤◌, length, drop, Result, MatchResult}
use Rattle.network.specs.declared.error.Refusal.{Refusal}
use Rattle.network.specs.declared.switch.Switch.{Switch}
use Rattle.network.specs.declared.topology.PowerNetwork.{PowerNetwork}
use Rattle.network.specs.Answers.{accepted, refused, answer_of, number_of, place_of}
use Rattle.network.specs.Records.{network_of}
use Rattle.network.specs.Limits.{Head}
use Rattle.frames.specs.declared.pass.Pass as Code
use Rattle.lines.specs.Lines.{Line, cut}
use Rattle.frames.specs.Text.{as_option}
use Rattle.frames.specs.ReaderLaws.{network}
use Rattle.frames.specs.Passes.{Pass, pass_buses, branches_read, switches_read, Collected}

-- ---- the supply in a network
unfoldable pub with_supply : PowerNetwork → List ℕ → PowerNetwork
with_supply n l =
    record {
      buses = n.buses;
      branches = n.branches;
      switches = n.switches;
      bus_count = n.bus_count;
      branch_count = n.branch_count;
      switch_count = n.switch_count;
      base_mva = n.base_mva;
      algorithm = n.algorithm;
      max_iterations = n.max_iterations;
      supply = as_option l;
    }

-- ---- a list's records in front of what an array held
abbrev pub in_front : {A : Type 0} → List A → List A → List A
in_front old l = l ++ drop (length l) old

-- ---- the lines of a kind: the records of a pass are stored, and where it stopped nowhere the next line begins at a position of the text
pub record IsNext {A B : Type 0} (store : List A → B) (text : List ℕ) (pass : Pass A) (stored : B) (r : Result ℕ Refusal) : Type 0 where
  pub records : stored ≡ store pass.records
  pub next : MatchResult r (λ at. (at ≤ length text) × (cut (drop at text) ≡ pass.left) × (pass.stopped ≡ accepted tt)) (λ e. refused (number_of e) (place_of e) ≡ pass.stopped)

-- the same as the code has it, in a slice
pub record IsRead {A : Type 0} (text : List ℕ) (pass : Pass A) (old new : List A) (r : Code.Pass) : Type 0 where
  pub lines : IsNext (in_front old) text pass new r.next
  pub count : r.read ≡ length pass.records

-- ---- these switches behind the buses and branches that were read
abbrev pub switches_behind : Head → List Line → List Switch → PowerNetwork
switches_behind h ls switches = network_of (network h (pass_buses h ls).records (branches_read h ls).records switches [])

-- the buses, branches and switches of the lines behind the head line
abbrev pub AreRecords : Head → List ℕ → PowerNetwork → Result ℕ Refusal → Type 0
AreRecords h text n r = let ls = cut (drop 37 text) in IsNext (switches_behind h ls) text (switches_read h ls) n r

-- the records of all lines behind the head line, in the value that holds them
pub record IsCollected (c : Collected) (n : PowerNetwork) (r : Result (Unit {0}) Refusal) : Type 0 where
  pub network : n ≡ network_of c.network
  pub stopped : answer_of r ≡ c.stopped
