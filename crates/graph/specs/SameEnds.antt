-- The walk, radiality, the labels and the path look at the listed branches only: nets whose listed branches have the same ends, and flags that agree on
-- them, have the same.
use Rattle.std.specs.Prelude.{◌≡◌, Bool}
use Rattle.std.proofs.Math.Path.{refl, ap, fun_ext}
use Rattle.std.proofs.Common.{◌∙◌, arith}
use Rattle.std.proofs.Math.Bool.{true, false, cond}
use mathlib.Core.List.{[], reverse}
use Rattle.std.specs.Prelude.{None, Some}
use Prim.Native.Nat.{ℕ, zero, suc, ◌≤◌, ◌<◌}
use Rattle.numbers.specs.Choose.{least, ◌or_else◌}
use Rattle.numbers.specs.UpTo.{up_to_cong}
use Rattle.numbers.specs.Counts.{count_cong}
use Rattle.graph.specs.Graph.{Net}
use Rattle.graph.specs.Walk.{far, neighbours, reached, walk_by, walk, back, bfs_path}
use Rattle.graph.specs.Radial.{radial}
use Rattle.graph.specs.Form.{label, closes, links, islands}
use Rattle.graph.specs.Sides.{towards, away}
use Rattle.graph.specs.WalkLaws.{walk_walked}
use Rattle.graph.specs.WayBack.{back_same}

module _ (N M : Net) (E F : ℕ → Bool) (buses : N.buses ≡ M.buses) (branches : N.branches ≡ M.branches) (live : (k : ℕ) → k < N.branches → E k ≡ F k)
    (ends : (k : ℕ) → k < N.branches → (N.from k ≡ M.from k) × (N.to k ≡ M.to k)) where
  neighbours_same : (u : ℕ) → neighbours N E u ≡ neighbours M F u
  unfolding neighbours far
  neighbours_same u = rw (← branches) (up_to_cong _ _ [] N.branches (λ l k h. rw (live k h, (ends k h).0, (ends k h).1)))

  pub walk_same : (start barred : ℕ) → walk N E start barred ≡ walk M F start barred
  unfolding walk
  walk_same start barred = ap (λ next. walk_by next start barred) (fun_ext neighbours_same)

  pub radial_same : radial N E ≡ radial M F
  unfolding radial
  radial_same = rw (fun_ext neighbours_same, count_cong E F N.branches live, branches, buses)

  label_same : (k x : ℕ) → k ≤ N.branches → label N E k x ≡ label M F k x
  unfolding label
  label_same zero x h = refl
  label_same (suc k) x h = rw (live k (omega arith), (ends k (omega arith)).0, (ends k (omega arith)).1, label_same k x (omega arith), label_same k (M.from k) (omega arith), label_same k (M.to k) (omega arith))

  closes_same : (k : ℕ) → k < N.branches → closes N E k ≡ closes M F k
  unfolding closes
  closes_same k h = rw (live k h, (ends k h).0, (ends k h).1, label_same k (M.from k) (omega arith), label_same k (M.to k) (omega arith))

  links_same : (k : ℕ) → k < N.branches → links N E k ≡ links M F k
  unfolding links
  links_same k h = rw (live k h, (ends k h).0, (ends k h).1, label_same k (M.from k) (omega arith), label_same k (M.to k) (omega arith))

  pub first_same : least (closes N E) N.branches ≡ least (closes M F) M.branches
  unfolding least
  first_same =
      ap (least (closes N E)) branches
      ∙ up_to_cong (λ found k. found or_else cond (closes N E k) (Some k) None) (λ found k. found or_else cond (closes M F k) (Some k) None) None M.branches
      (λ o k h. rw (closes_same k (rw branches h)))

  pub islands_same : islands N E ≡ islands M F
  unfolding islands
  islands_same = rw (count_cong (links N E) (links M F) N.branches links_same, branches, buses)

  -- so too where they are drawn away from a bus
  pub away_same : (z k : ℕ) → k < N.branches → ((away N E z).from k ≡ (away M F z).from k) × ((away N E z).to k ≡ (away M F z).to k)
  unfolding away towards
  away_same z k h = rw (live k h, (ends k h).0, (ends k h).1, walk_same (M.to k) (M.from k)) (refl, refl)

  pub path_same : (a b : ℕ) → bfs_path N E a b ≡ bfs_path M F a b
  unfolding bfs_path walk
  path_same a b = rw (← walk_same a a) (go (reached b (walk N E a a)) refl)
    where
      go : (t : Bool) → reached b (walk N E a a) ≡ t
          → cond t (reverse (back N (walk N E a a) a 256 b)) [] ≡ cond t (reverse (back M (walk N E a a) a 256 b)) []
      go true r = ap reverse (back_same M (λ k s. ends k s.0.0) (walk_walked N E a a) 256 b r)
      go false r = refl
