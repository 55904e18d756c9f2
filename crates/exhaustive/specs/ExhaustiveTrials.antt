-- The exhaustive search as the code holds it: a radial state more, a mask more, and where it stands after the first masks.
use Rattle.std.specs.Prelude.{◌≡◌, Bool, cond, Float}
use Rattle.std.proofs.Math.Path.{refl, ap}
use Rattle.std.proofs.Common.{sym, ◌∙◌, arith}
use Rattle.std.proofs.Math.Bool.{true, false}
use Rattle.std.specs.Prelude.{Option, None, Some}
use Rattle.std.specs.Option.{option_map, unwrap_or}
use Prim.Native.Nat.{ℕ, suc, ◌+◌, ◌≤◌}
use Rattle.std.proofs.Math.Numerals.{add-one}
use Rattle.std.specs.Float.Ieee.{lt}
use Rattle.numbers.specs.UpTo.{up_to, up_to_keeps}
use Rattle.states.specs.declared.configuration.NetworkConfiguration.{NetworkConfiguration}
use Rattle.network.specs.declared.topology.PowerNetwork.{PowerNetwork}
use Rattle.network.specs.Records.{Network, records_of}
use Rattle.states.specs.Live.{base_state}
use Rattle.feeders.specs.Feeder.{radial_in}
use Rattle.exhaustive.specs.declared.exhaustive.ExhaustiveSearch.{ExhaustiveSearch}
use Rattle.exhaustive.specs.declared.exhaustive.LeastState.{LeastState}
use Rattle.searches.specs.Given.{Base}
use Rattle.searches.specs.Rounds.{lesser_by}
use Rattle.exhaustive.specs.Exhaustive.{masked, Least, with_loss, Exhaustive, no_mask, with_radial, try_mask, least_or_base}
use Rattle.exhaustive.specs.ExhaustiveSettles.{masked_none}
use Rattle.exhaustive.specs.ExhaustiveValues.{is_least, least_of, exhaustive_of}

-- ---- a radial state more
-- it takes the place of the least before it, or does not
kept : (o : Option Least) (b : Least) → cond (is_least (option_map least_of o) b.loss) (Some (least_of b)) (option_map least_of o) ≡ option_map least_of (lesser_by (λ c. c.loss) o b)
unfolding lesser_by
kept None b = refl
kept (Some a) b = go (lt b.loss a.loss)
  where
    go : (less : Bool) → cond less (Some (least_of b)) (Some (least_of a)) ≡ option_map least_of (cond less (Some b) (Some a))
    go true = refl
    go false = refl

pub radial_more : {y : ExhaustiveSearch} (x : Exhaustive) → y ≡ exhaustive_of x → {s : LeastState} (b : Least) → s ≡ least_of b
    → record { least = cond (is_least y.least s.loss) (Some s) y.least; radial_count = y.radial_count + 1 } ≡ exhaustive_of (with_radial x b)
unfolding exhaustive_of
radial_more x e b q = rw (e, q, add-one x.radial_count, kept x.least b)

-- ---- a mask more
module _ (N : Network) (x : Exhaustive) (mask : ℕ) where
  pub mask_passed : radial_in N (masked N mask) ≡ false → x ≡ try_mask N x mask
  unfolding try_mask
  mask_passed f = rw f

  pub mask_radial : radial_in N (masked N mask) ≡ true → with_radial x (with_loss N (masked N mask)) ≡ try_mask N x mask
  unfolding try_mask
  mask_radial t = rw t

-- ---- after the first masks
-- the base is the state of mask 0
module _ (N : Network) where
  pub base_passed : radial_in N (base_state N) ≡ false → no_mask ≡ try_mask N no_mask 0
  base_passed f = mask_passed N no_mask 0 (rw (masked_none N) f)

  pub base_radial_lem : radial_in N (base_state N) ≡ true → with_radial no_mask (with_loss N (base_state N)) ≡ try_mask N no_mask 0
  base_radial_lem t = ap (λ s. with_radial no_mask (with_loss N s)) (sym (masked_none N)) ∙ mask_radial N no_mask 0 (ap (radial_in N) (masked_none N) ∙ t)

radial_few : (N : Network) (m : ℕ) → (up_to (try_mask N) no_mask m).radial_count ≤ m
unfolding try_mask
radial_few N m = up_to_keeps (λ i x. x.radial_count ≤ i) (try_mask N) no_mask m (omega arith) (λ i x l h. go i x (radial_in N (masked N i)) h)
  where
    go : (i : ℕ) (x : Exhaustive) (b : Bool) → x.radial_count ≤ i → (cond b (with_radial x (with_loss N (masked N i))) x).radial_count ≤ suc i
    go i x true h = omega arith
    go i x false h = omega arith

-- at most as many radial states as masks
pub radial_room : (N : Network) (m : ℕ) (y : ExhaustiveSearch) → y ≡ exhaustive_of (up_to (try_mask N) no_mask m) → y.radial_count ≤ m
unfolding exhaustive_of
radial_room N m y e = rw (ap (λ z. z.radial_count) e) (radial_few N m)

-- where none was found, the base with its loss
pub best_held : (n : PowerNetwork) {base : NetworkConfiguration} {loss : Float} → Base n base loss → (o : Option Least)
    → unwrap_or (option_map least_of o) (record { configuration = base; loss = loss }) ≡ least_of (least_or_base (records_of n) o)
unfolding least_or_base
best_held n b None = rw (b.0, b.1)
best_held n b (Some x) = refl
