-- Radiality as it is computed is radiality in its meaning: connected without a loop. From the count of a tree's branches
-- and from what the walk reaches.
use Rattle.std.specs.Prelude.{◌≡◌, ◌↔◌, true, ◌&&◌, ◌||◌, length}
use Rattle.std.proofs.Common.{sym, ◌∙◌, arith, eq-eqb, ne_eqb, eqb-true}
use Rattle.std.proofs.Math.Bool.{Bool}
use Prim.Native.Nat.{ℕ, suc, ◌≤◌, ◌<◌}
use Rattle.std.proofs.Math.Decide.{ℕ_discrete}
use Rattle.std.proofs.Math.Dec.{eqb}
use Rattle.numbers.specs.Tests.{both}
use Rattle.numbers.specs.Counts.{count, count_all, count_full}
use Rattle.graph.specs.Graph.{Net, Sound, Live, Joined, Connected, Tree}
use Rattle.graph.specs.Walk.{reached, walk}
use Rattle.graph.specs.Radial.{radial}
use Rattle.graph.specs.Chains.{joined_trans, joined_sym}
use Rattle.graph.specs.Pieces.{tree_count, tree_branches}
use Rattle.graph.specs.WalkLaws.{walk_count, walk_joined}

module _ (N : Net) (E : ℕ → Bool) (sound : Sound N) (m : N.buses ≤ 256) where
  -- without buses there are no branches
  pub no_buses_lem : N.buses ≡ 0 → Tree N (Live N E)
  unfolding Connected
  no_buses_lem z = record {
    connected = λ a b l. absurd (omega arith);
    no_loop = λ o. let h = sound o.branch o.own.0 in absurd (omega (arith, h.0));
  }

  module _ (some : 0 < N.buses) where
    -- the walk reaches as many buses as there are exactly where all are joined
    full_walk : (length (walk N E 0 0) ≡ N.buses) ↔ Connected N (Live N E)
    unfolding Connected
    full_walk = (fore, back)
      where
        met : ℕ → Bool
        met b = reached b (walk N E 0 0)

        all : length (walk N E 0 0) ≡ N.buses → (b : ℕ) → b < N.buses → Joined N (Live N E) 0 b
        all e b l = (walk_joined N E sound m 0 some b).0 (count_full met N.buses (walk_count N E 0 0 sound some ∙ e) b l)

        fore : length (walk N E 0 0) ≡ N.buses → Connected N (Live N E)
        fore e a b l r = joined_trans (joined_sym (all e a l)) (all e b r)

        back : Connected N (Live N E) → length (walk N E 0 0) ≡ N.buses
        back h = sym (walk_count N E 0 0 sound some) ∙ count_all met N.buses (λ b l. (walk_joined N E sound m 0 some b).1 (h 0 b some l))

  pub radial_tree : (radial N E ≡ true) ↔ Tree N (Live N E)
  unfolding radial walk
  radial_tree = go (ℕ_discrete N.buses 0)
    where
      counted : Bool
      counted = eqb (suc (count E N.branches)) N.buses && eqb (length (walk N E 0 0)) N.buses

      go : Dec (N.buses ≡ 0) → ((eqb N.buses 0 || counted) ≡ true) ↔ Tree N (Live N E)
      go (yes z) = (λ h. no_buses_lem z, λ t. rw (eq-eqb _ _ z))
      go (no n) = rw (ne_eqb _ _ n) (fore, back)
        where
          some : 0 < N.buses
          some = omega arith

          fore : counted ≡ true → Tree N (Live N E)
          fore h =
              let p = both _ _ h in
              let c = (full_walk some).0 (eqb-true _ _ p.1) in
              record { connected = c; no_loop = (tree_count N E sound some c).0 (eqb-true _ _ p.0) }

          back : Tree N (Live N E) → counted ≡ true
          back t = rw (eq-eqb _ _ (tree_branches N E sound some t), eq-eqb _ _ ((full_walk some).1 t.connected))
