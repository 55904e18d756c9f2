-- The lines of a network's text, kind after kind: those that are written so far, and that the next ones have room.
use Rattle.std.proofs.Common.{◌≡◌, sym, ap, ◌∙◌, subst, arith, append-nil, List, [], ◌∷◌, ◌++◌, ℕ, ◌+◌, ◌≤◌, length, take, length-append, Option, Some, None}
use mathlib.Core.List.{flat_map, append_assoc}
use Rattle.network.specs.declared.topology.PowerNetwork.{PowerNetwork}
use Rattle.network.specs.Answers.{accepted}
use Rattle.network.specs.Check.{check_records, head_of}
use Rattle.network.specs.Records.{Network, records_of}
use Rattle.record_lines.specs.declared.head.Head as Heads
use Rattle.record_lines.specs.declared.supply.Supply as Supplies
use Rattle.record_lines.specs.LineAnswers.{head_of_code}
use Rattle.slices.specs.Written.{written}
use Rattle.feeders.specs.Supply.{supplies}
use Rattle.frames.specs.Acceptable.{text_of}
use Rattle.texts.specs.Lines.{head_text, bus_text, branch_text, switch_text, supply_text}
use Rattle.texts.specs.PartLaws.{Begun, nothing_begun, same_length}
use Rattle.texts.specs.ValueLaws.{buses_lent, branches_lent, switches_lent}

-- what `write_all` does: these lines behind the bytes that end at `at`
abbrev Puts : {A : Type 0} → (A → List ℕ) → List A → List ℕ → ℕ → List ℕ → ℕ → Type 0
Puts line l now at next end = (bytes first : List ℕ) → Begun bytes first now at → Begun (bytes ++ flat_map line l) first next end

put_on : {A : Type 0} (line : A → List ℕ) {l m : List A} {bytes first now next : List ℕ} {at end : ℕ} → Begun bytes first now at → Puts line l now at next end → l ≡ m → Begun (bytes ++ flat_map line m) first next end
put_on line {bytes = bytes} {first = first} {next = next} {end = end} b puts e = subst (λ x. Begun (bytes ++ flat_map line x) first next end) e (puts bytes first b)

pub one_line : {A : Type 0} (line : A → List ℕ) (x : A) → flat_map line (x ∷ []) ≡ line x
unfolding flat_map
one_line line x = append-nil (line x)

module _ (N : Network) where
  -- the lines up to a kind's
  abbrev pub to_head : List ℕ
  to_head = head_text (head_of N)

  abbrev pub to_buses : List ℕ
  to_buses = to_head ++ flat_map bus_text N.buses

  abbrev pub to_branches : List ℕ
  to_branches = to_buses ++ flat_map branch_text N.branches

  abbrev pub to_switches : List ℕ
  to_switches = to_branches ++ flat_map switch_text N.switches

  pub whole : to_switches ++ flat_map supply_text (supplies N.supply) ≡ text_of N
  unfolding text_of
  whole = rw (append_assoc, append_assoc, append_assoc)

  long : length (text_of N) ≡ length to_switches + length (flat_map supply_text (supplies N.supply))
  long = sym (ap length whole) ∙ length-append to_switches _

  module _ (out : List ℕ) (room : length (text_of N) ≤ length out) where
    pub buses_room : {now : List ℕ} {end : ℕ} → Begun to_head out now end → end + length (flat_map bus_text N.buses) ≤ length now
    buses_room b =
        omega (arith, b.here, same_length b, long, length-append to_head (flat_map bus_text N.buses), length-append to_buses (flat_map branch_text N.branches), length-append to_branches (flat_map switch_text N.switches))

    pub branches_room : {now : List ℕ} {end : ℕ} → Begun to_buses out now end → end + length (flat_map branch_text N.branches) ≤ length now
    branches_room b = omega (arith, b.here, same_length b, long, length-append to_buses (flat_map branch_text N.branches), length-append to_branches (flat_map switch_text N.switches))

    pub switches_room : {now : List ℕ} {end : ℕ} → Begun to_branches out now end → end + length (flat_map switch_text N.switches) ≤ length now
    switches_room b = omega (arith, b.here, same_length b, long, length-append to_branches (flat_map switch_text N.switches))

    pub supply_room : {now : List ℕ} {end : ℕ} → Begun to_switches out now end → end + length (flat_map supply_text (supplies N.supply)) ≤ length now
    supply_room b = omega (arith, b.here, same_length b, long)

    pub head_room : (h : Heads.Head) → head_of_code h ≡ head_of N → length (flat_map (λ x. head_text (head_of_code x)) (h ∷ [])) ≤ length out
    head_room h e =
        rw (one_line, e) (omega (arith, long, length-append to_head (flat_map bus_text N.buses), length-append to_buses (flat_map branch_text N.branches), length-append to_branches (flat_map switch_text N.switches)))

-- ---- the lines of a supply
named : (z : Option ℕ) {id : ℕ} → z ≡ Some id → flat_map supply_text (supplies z) ≡ supply_text id
named z e = rw e (one_line supply_text _)

unnamed : (z : Option ℕ) → z ≡ None → flat_map supply_text (supplies z) ≡ []
unfolding flat_map
unnamed z e = rw e

-- ---- kind after kind, of a value that is accepted
module _ (n : PowerNetwork) (out : List ℕ) {next : List ℕ} {end : ℕ} where
  pub head_on : (h : Heads.Head) → head_of_code h ≡ head_of (records_of n) → Puts (λ x. head_text (head_of_code x)) (h ∷ []) out 0 next end → Begun (to_head (records_of n)) out next end
  head_on h e puts = rw (one_line, e) at (puts [] out (nothing_begun out))

  module _ (ok : check_records (records_of n) ≡ accepted tt) (k : ℕ) {now : List ℕ} {at : ℕ} where
    pub buses_on : Begun (to_head (records_of n)) out now at → k ≡ n.bus_count → length n.buses ≡ 256 → Puts bus_text (take k n.buses) now at next end → Begun (to_buses (records_of n)) out next end
    buses_on b e l puts = put_on bus_text b puts (buses_lent n ok k e l)

    pub branches_on : Begun (to_buses (records_of n)) out now at → k ≡ n.branch_count → length n.branches ≡ 512 → Puts branch_text (take k n.branches) now at next end → Begun (to_branches (records_of n)) out next end
    branches_on b e l puts = put_on branch_text b puts (branches_lent n ok k e l)

    pub switches_on : Begun (to_branches (records_of n)) out now at → k ≡ n.switch_count → length n.switches ≡ 512 → Puts switch_text (take k n.switches) now at next end → Begun (to_switches (records_of n)) out next end
    switches_on b e l puts = put_on switch_text b puts (switches_lent n ok k e l)

module _ (n : PowerNetwork) (out : List ℕ) {now : List ℕ} {at : ℕ} (b : Begun (to_switches (records_of n)) out now at) where
  -- the supply's line, if it is named
  module _ {id : ℕ} (e : n.supply ≡ Some id) where
    pub named_room : length (text_of (records_of n)) ≤ length out → at + length (flat_map supply_text (id ∷ [])) ≤ length now
    unfolding records_of
    named_room room = rw e at (supply_room (records_of n) out room b)

    pub supply_on : {next : List ℕ} {end : ℕ} → Puts (λ (s : Supplies.Supply). supply_text s.0) (record { 0 = id } ∷ []) now at next end → next ≡ written (text_of (records_of n)) out
    unfolding records_of
    supply_on puts =
        let all = rw one_line at (puts (to_switches (records_of n)) out b) in
        all.so_far ∙ ap (λ x. written x out) (ap (λ x. to_switches (records_of n) ++ x) (sym (named n.supply e)) ∙ whole (records_of n))

  pub no_supply_on : n.supply ≡ None → now ≡ written (text_of (records_of n)) out
  unfolding records_of
  no_supply_on e = b.so_far ∙ ap (λ x. written x out) (sym (append-nil _) ∙ ap (λ x. to_switches (records_of n) ++ x) (sym (unnamed n.supply e)) ∙ whole (records_of n))
