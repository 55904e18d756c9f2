-- A network's value holds its records: read back, they are the same.
use Rattle.std.specs.Prelude.{◌≡◌, refl, List, ℕ, length}
use Rattle.std.proofs.Common.{sym}
use Rattle.numbers.specs.TableLaws.{as_table}
use Rattle.numbers.specs.Arrays.{padded, get_or_padded}
use Rattle.network.specs.Records.{Network, no_bus, no_branch, no_switch, listed, records_of, network_of}

pub read_back : {A : Type 0} (size : ℕ) (empty : A) (l : List A) → listed empty (padded size empty l) (length l) ≡ l
read_back size empty l = sym (as_table _ (length l) empty l refl (λ i h. sym (get_or_padded size empty l i)))

-- also where a count is over its limit
pub records_of_network : (N : Network) → records_of (network_of N) ≡ N
unfolding records_of network_of
records_of_network N = rw (read_back 256 no_bus N.buses, read_back 512 no_branch N.branches, read_back 512 no_switch N.switches)
