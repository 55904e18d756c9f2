-- The other end of a branch, the way back from a bus to the start of a walk, and a list turned round.
use mathlib.Core.Path.{◌≡◌, refl, sym, ◌∙◌}
use mathlib.Core.Bool.{Bool, true, false, cond}
use mathlib.Core.List.{List, [], ◌∷◌, ◌++◌, reverse, append-nil}
use Prim.Native.Nat.{ℕ, suc, ◌+◌, ◌*◌, ◌-◌, ◌<◌, ◌≤◌}
use native.Mathlib.Omega.{arith}
use lib.ListN.{length, get_or, set, drop, take, replicate, length-append, length-reverse, get_or-eq_default}
use lib.Dec.{eqb}
use lib.Seq.{append_snoc, take_at, drop_at}
use borrow.Author.Tests.{eq-eqb, ne_eqb}
use Rattle.numbers.specs.Arrays.{padded, padded_more}
use Rattle.graph.specs.declared.walks.PathBranches.{PathBranches}
use Rattle.graph.specs.Graph.{Net}
use Rattle.std.specs.Prelude.{Option, None, is_some}
use Rattle.graph.specs.declared.rows.Graph.{Graph}
use Rattle.graph.specs.Walk.{Visit, reached, walk_by, by_of, across, back}
use Rattle.graph.specs.Rows.{filled, row_neighbours, row_net, across_far, row_path, path_of}
use Rattle.paths.specs.Ways.{ways_by}
use Rattle.paths.proofs.Noting.{reached_read}

-- the other end
module _ (far : List ℕ) (k u : ℕ) where
  pub across_none : length far ≡ 1024 → 512 ≤ k → 0 ≡ across_far far k u
  unfolding across_far across
  across_none l h =
      let a : get_or far (2 * k) 0 ≡ 0 = get_or-eq_default far 0 (omega arith) in
      let b : get_or far (2 * k + 1) 0 ≡ 0 = get_or-eq_default far 0 (omega arith) in
      rw (a, b) (either (eqb 0 u))
    where
      either : (b : Bool) → ◌≡◌ {A = ℕ} 0 (cond b 0 0)
      either true = refl
      either false = refl

  module _ (at after : ℕ) (e₀ : at ≡ 2 * k) (e₁ : after ≡ 2 * k + 1) where
    pub across_from : get_or far after 0 ≡ u → get_or far at 0 ≡ across_far far k u
    unfolding across_far across
    across_from e = rw (eq-eqb (get_or far (2 * k + 1) 0) u (rw e₁ at e), e₀)

    pub across_to : (get_or far after 0 ≡ u → ⊥) → get_or far after 0 ≡ across_far far k u
    unfolding across_far across
    across_to n = rw (ne_eqb (get_or far (2 * k + 1) 0) u (λ e. n (rw e₁ e)), e₁)

-- the way back
module _ (N : Net) (o : List Visit) (start b : ℕ) where
  -- the branches so far, and those that are left from bus at on after i
  pub record Led (branch : List ℕ) (at i : ℕ) : Type 0 where
    pub so_far : List ℕ
    pub stored : branch ≡ filled so_far
    pub counted : i ≡ length so_far
    pub rest : so_far ++ back N o start (256 - i) at ≡ back N o start 256 b

  pub none_led : Led (replicate 256 0) b 0
  unfolding padded
  none_led = record { so_far = []; stored = refl; counted = refl; rest = refl }

  module _ {branch : List ℕ} {at i : ℕ} (l : Led branch at i) where
    pub one_led : {next k : ℕ} → i < 256 → (at ≡ start → ⊥) → k ≡ by_of at o → next ≡ across N k at → Led (set branch i k) next (i + 1)
    unfolding back
    one_led {next} {k} h ne e q =
        let s : 256 - i ≡ suc (256 - (i + 1)) = omega arith in
        let r = rw (s, ne_eqb at start ne) at l.rest in
        let c = l.counted in
        record {
          so_far = l.so_far ++ (by_of at o ∷ []);
          stored = rw (l.stored, e) (padded_more 256 0 l.so_far (by_of at o) i c h);
          counted = rw length-append (omega arith);
          rest = append_snoc l.so_far (by_of at o) _ ∙ rw (q, e) r;
        }

    all_led : back N o start (256 - i) at ≡ [] → ◌≡◌ {A = PathBranches} (record { count = i; branch = branch }) (path_of (back N o start 256 b))
    unfolding path_of
    all_led z =
        let r = rw (z, append-nil) at l.rest in
        rw (← r, l.stored, l.counted)

    pub back_at_start : i < 256 → at ≡ start → ◌≡◌ {A = PathBranches} (record { count = i; branch = branch }) (path_of (back N o start 256 b))
    unfolding back
    back_at_start h e = let s : 256 - i ≡ suc (256 - (i + 1)) = omega arith in all_led (rw (s, eq-eqb at start e))

    pub led_enough : i ≡ 256 → ◌≡◌ {A = PathBranches} (record { count = 256; branch = branch }) (path_of (back N o start 256 b))
    unfolding back
    led_enough h = let s : 256 - i ≡ 0 = omega arith in rw (← h) (all_led (rw s))

-- a list turned round
pub turned : (list : PathBranches) (l front : List ℕ) (n : ℕ) → list ≡ path_of l → n ≡ list.count → front ≡ reverse (take n list.branch)
    → ◌≡◌ {A = PathBranches} (record { count = list.count; branch = front ++ drop n list.branch }) (path_of (reverse l))
unfolding path_of padded
turned list l front n e q f = rw (f, q, e, take_at l _ (length l) refl, drop_at l _ (length l) refl, length-reverse)

-- the path by the ways
module _ (g : Graph) (live : List Bool) (a b : ℕ) where
  abbrev order : List Visit
  order = walk_by (row_neighbours g live) a a

  module _ {ways : List (Option ℕ)} {at : ℕ} {t : Bool} (w : ways ≡ ways_by order) (p : at ≡ b) (small : b < 256) (e : t ≡ is_some (get_or ways at None)) where
    is_reached : t ≡ reached b order
    is_reached = e ∙ rw (p, w) (reached_read order b small)

    pub path_found : t ≡ true → {r : PathBranches} → r ≡ path_of (reverse (back (row_net g) order a 256 b)) → r ≡ path_of (row_path g live a b)
    unfolding row_path
    path_found h q = rw (sym is_reached ∙ h) q

    pub path_none : t ≡ false → ◌≡◌ {A = PathBranches} (record { count = 0; branch = replicate 256 0 }) (path_of (row_path g live a b))
    unfolding row_path path_of padded
    path_none h = rw (sym is_reached ∙ h)
