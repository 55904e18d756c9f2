-- What `bus_index` finds, in the definitions' words: whether an id is listed, and at which position.
use Rattle.std.specs.Prelude.{◌≡◌, Bool, List, map, ℕ, ◌<◌, Option, Some, None}
use Rattle.std.specs.Option.{is_some}
use Rattle.std.proofs.Math.Path.{refl, ap}
use Rattle.std.proofs.Common.{sym, ◌∙◌, ltb-true}
use Rattle.std.proofs.Math.Bool.{true, false, cond}
use Rattle.std.proofs.lemmas.Bool.{false≢true}
use Rattle.std.proofs.Math.Dec.{ltb}
use Rattle.std.proofs.Math.ListN.{length}
use Rattle.std.proofs.lemmas.List.{length-map}
use Rattle.numbers.specs.Choose.{index_of, among}
use Rattle.network.specs.declared.bus.Bus.{Bus}
use Rattle.network.specs.Limits.{bus_id}
use Rattle.network.specs.Lookups.{bus_index}
use Rattle.checks.specs.FaultLaws.{among_index}
use Rattle.feeders.specs.FeederRows.{end_at}

-- 0 where no bus has the id
abbrev pub found_at : Option ℕ → ℕ
found_at (Some i) = i
found_at None = 0

module _ (buses : List Bus) (id : ℕ) where
  abbrev first : ℕ
  first = index_of id (map bus_id buses)

  within : ltb first (length buses) ≡ among id (map bus_id buses)
  within = ap (ltb first) (sym (length-map buses bus_id)) ∙ among_index id (map bus_id buses)

  pub index_among : is_some (bus_index buses id) ≡ among id (map bus_id buses)
  unfolding bus_index
  index_among = go (ltb first (length buses)) ∙ within
    where
      go : (b : Bool) → is_some (cond b (Some first) None) ≡ b
      go true = refl
      go false = refl

  pub index_end : found_at (bus_index buses id) ≡ end_at (map bus_id buses) id
  unfolding bus_index end_at
  index_end = go (ltb first (length buses)) ∙ ap (λ b. cond b first 0) within
    where
      go : (b : Bool) → found_at (cond b (Some first) None) ≡ cond b first 0
      go true = refl
      go false = refl

  pub index_small : (i : ℕ) → bus_index buses id ≡ Some i → i < length buses
  unfolding bus_index
  index_small i = go (ltb first (length buses)) refl
    where
      go : (b : Bool) → ltb first (length buses) ≡ b → cond b (Some first) None ≡ Some i → i < length buses
      go true l e = rw (← ap found_at e) (ltb-true first (length buses) l)
      go false l e = absurd (false≢true (ap is_some e))
