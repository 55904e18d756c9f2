-- What code reads out of an array at a position inside it is the record that stands there. A read's own default has NaN where no_bus and no_branch have 0.0.
use Rattle.std.specs.Prelude.{◌≡◌, false, List, ℕ, ◌<◌, length, get_or}
use Rattle.std.proofs.Common.{arith}
use Rattle.std.specs.Float.{nan}
use Rattle.numbers.specs.TableLaws.{any_default}
use Rattle.network.specs.declared.bus.Bus.{Bus}
use Rattle.network.specs.declared.branch.Branch.{Branch}
use Rattle.network.specs.Records.{no_bus, no_branch}

abbrev pub past_bus : Bus
past_bus = record { id = 0; pd = record { 0 = nan } }

abbrev pub past_branch : Branch
past_branch = record { from_bus = 0; to_bus = 0; r = nan; status = false }

pub bus_read : (l : List Bus) (i : ℕ) → length l ≡ 256 → i < 256 → get_or l i past_bus ≡ get_or l i no_bus
bus_read l i e h = any_default l i past_bus no_bus (omega arith)

pub branch_read : (l : List Branch) (i : ℕ) → length l ≡ 512 → i < 512 → get_or l i past_branch ≡ get_or l i no_branch
branch_read l i e h = any_default l i past_branch no_branch (omega arith)
