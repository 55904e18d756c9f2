-- The text of a network, and which texts are acceptable, in the words of documents 01 and 02. No refusal number occurs here.
use Rattle.std.specs.Prelude.{◌≡◌, Bool, cond, ℕ, ◌+◌, ◌<◌, T, Float}
use mathlib.Core.List.{List, ◌++◌, flat_map}
use Rattle.std.specs.Float.{binary64}
use Rattle.std.specs.Float.Ieee.{fits, to_bits}
use Rattle.network.specs.declared.bus.Bus.{Bus}
use Rattle.network.specs.declared.branch.Branch.{Branch}
use Rattle.network.specs.declared.switch.Switch.{Switch}
use Rattle.network.specs.Records.{Network}
use Rattle.network.specs.Limits.{Head, method_byte}
use Rattle.network.specs.Check as check
use Rattle.network.specs.Inside.{Each, Inside, Proper}
use Rattle.own_loops.specs.OwnLoops.{without_own}
use Rattle.feeders.specs.Supply.{supplies}
use Rattle.feeders.specs.Supplied.{Supplied}
use Rattle.lines.specs.Hex.{Fields}
use Rattle.lines.specs.Frames.{frame_text}
use Rattle.record_lines.specs.Kinds.{head, bus, branch, switch, supply}

-- ---- the fields of a record
-- "f64 bits"
abbrev pub bits_of : Float → ℕ
bits_of x = to_bits binary64 x

-- "status byte 00 or 01"
abbrev pub status_byte : Bool → ℕ
status_byte status = cond status 1 0

-- "flags byte: bit 0 normally_open, bit 1 can_operate, others 0"
abbrev pub flags_byte : Bool → Bool → ℕ
flags_byte tie operable = cond tie 1 0 + cond operable 2 0

-- "buses, branches, switches (u16), base_mva (f64), method byte, max_iterations (u16)"
abbrev pub head_fields : Head → Fields head.widths
head_fields h = (h.buses, (h.branches, (h.switches, (bits_of h.base, (method_byte h.algorithm, (h.iterations, tt))))))

-- "id (u16), pd in MW (f64)"
abbrev pub bus_fields : Bus → Fields bus.widths
bus_fields b = (b.id, (bits_of b.pd.0, tt))

-- "from, to (u16), r (f64, per unit), status byte"
abbrev pub branch_fields : Branch → Fields branch.widths
branch_fields b = (b.from_bus, (b.to_bus, (bits_of b.r, (status_byte b.status, tt))))

-- "id (u16), branch position from 0 (u16), flags byte"
abbrev pub switch_fields : Switch → Fields switch.widths
switch_fields s = (s.id, (s.branch_idx, (flags_byte s.normally_open s.can_operate, tt)))

-- document 02: "a bus id (u16)"
abbrev pub supply_fields : ℕ → Fields supply.widths
supply_fields id = (id, tt)

-- ---- the text of a network
-- "Lines come in this order, as many as the head says", and last the supply's line, if there is a supply
unfoldable pub text_of : Network → List ℕ
text_of N =
    frame_text head (head_fields (check.head_of N))
    ++ (flat_map (λ b. frame_text bus (bus_fields b)) N.buses
    ++ (flat_map (λ b. frame_text branch (branch_fields b)) N.branches
    ++ (flat_map (λ s. frame_text switch (switch_fields s)) N.switches
    ++ flat_map (λ id. frame_text supply (supply_fields id)) (supplies N.supply))))

-- ---- records that have room in their digits: "u16 of 4 digits, f64 bits of 16, bytes of 2"
-- a u16
abbrev pub Short : ℕ → Type 0
Short n = n < 65536

-- a float that a pattern of 64 bits stands for
abbrev pub Held : Float → Type 0
Held x = T (fits binary64 x)

abbrev pub HeadRoom : Head → Type 0
HeadRoom h = Short h.buses × Short h.branches × Short h.switches × Held h.base × Short h.iterations

abbrev pub BusRoom : Bus → Type 0
BusRoom b = Short b.id × Held b.pd.0

abbrev pub BranchRoom : Branch → Type 0
BranchRoom b = Short b.from_bus × Short b.to_bus × Held b.r

abbrev pub SwitchRoom : Switch → Type 0
SwitchRoom s = Short s.id × Short s.branch_idx

-- the fields are u16 and f64, as in every value handed over (`HandedOver.typed_writable`, `TypedValues.value_typed`)
pub record Writable (N : Network) : Type 0 where
  pub head_room : HeadRoom (check.head_of N)
  pub bus_room : Each BusRoom N.buses
  pub branch_room : Each BranchRoom N.branches
  pub switch_room : Each SwitchRoom N.switches
  pub supply_room : Each Short (supplies N.supply)

-- ---- a text that is acceptable with these records
pub record Acceptable (t : List ℕ) (N : Network) : Type 0 where
  pub text : t ≡ text_of N
  -- counts, ranges, ids, ends and positions as document 01 allows them
  pub inside : Inside N
  -- no branch from a bus to itself
  pub proper : Proper N
  -- a supply and its base as document 02 allows them
  pub supplied : Supplied N
  pub writable : Writable N

-- ---- a stored text that can be repaired, with these records
pub record Repairable (t : List ℕ) (N : Network) : Type 0 where
  pub text : t ≡ text_of N
  pub inside : Inside N
  -- what the dropping leaves has a supply and a base as document 02 allows them
  pub supplied : Supplied (without_own N)
  pub writable : Writable N
