-- Lookups by rising position: what is left to look at from position i on, where `bus_index` stops, and that the first records of an array are the listed ones.
use Rattle.std.specs.Prelude.{◌≡◌, refl, Bool, true, false, not, cond, eqb, ◌==◌, List, [], ◌∷◌, map, ℕ, suc, ◌+◌, ◌≤◌, length, take}
use Rattle.std.specs.List.{position, position_or_len}
use Rattle.std.proofs.Common.{sym, ◌∙◌, arith, length-take, get_or-take}
use Rattle.std.proofs.Math.Decide.{ℕ_discrete}
use borrow.Author.Tests.{ne_eqb}
use Rattle.numbers.specs.Choose.{index_of}
use Rattle.numbers.specs.TableLaws.{as_table}
use Rattle.network.specs.declared.bus.Bus.{Bus}
use Rattle.network.specs.declared.topology.PowerNetwork.{PowerNetwork}
use Rattle.network.specs.Limits.{bus_id}
use Rattle.network.specs.Lookups.{bus_index}
use Rattle.network.specs.Records.{no_bus, listed, records_of}

eqb_swapped : (a b : ℕ) → eqb a b ≡ eqb b a
eqb_swapped a b = go (ℕ_discrete a b)
  where
    go : Dec (a ≡ b) → eqb a b ≡ eqb b a
    go (yes e) = rw e
    go (no d) = ne_eqb a b d ∙ sym (ne_eqb b a (λ e. d (sym e)))

-- the library's search finds the same position
id_behind : (id : ℕ) (buses : List Bus) → position_or_len (λ (b : Bus). b.id == id) buses ≡ index_of id (map bus_id buses)
unfolding index_of
id_behind id [] = refl
id_behind id (b ∷ buses) = rw (eqb_swapped b.id id) (go (eqb id b.id) (id_behind id buses))
  where
    go : (same : Bool) → {m n : ℕ} → m ≡ n → cond (not same) (1 + m) 0 ≡ cond same 0 (suc n)
    go true e = refl
    go false e = omega (arith, e)

pub id_found : (buses : List Bus) (id : ℕ) → position (λ (b : Bus). b.id == id) buses ≡ bus_index buses id
unfolding bus_index
id_found buses id = rw (id_behind id buses)

-- inside the limit these are the listed records
pub listed_first : {A : Type 0} (d : A) (l : List A) (n : ℕ) → n ≤ length l → take n l ≡ listed d l n
listed_first d l n h = as_table _ n d (take n l) (length-take n l ∙ omega arith) (λ i k. get_or-take n l i d k)

pub listed_buses : (n : PowerNetwork) → n.bus_count ≤ length n.buses → take n.bus_count n.buses ≡ (records_of n).buses
unfolding records_of
listed_buses n h = listed_first no_bus n.buses n.bus_count h
