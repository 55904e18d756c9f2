-- The radiality answer is a tree where document 01's test says so; and of nets whose branches end at buses it says what `FormClaim` has it say.
use Rattle.std.specs.Prelude.{◌≡◌, ◌↔◌, Bool, cond, eqb, length}
use Rattle.std.proofs.Math.Path.{refl, sym, ap, subst}
use Rattle.std.proofs.Common.{◌∙◌, inl, inr, arith}
use Rattle.std.proofs.Math.Bool.{true, false, true≢false}
use mathlib.Core.List.Memᴰ
use mathlib.Core.List.{List, [], ◌∷◌, Memᴰ}
use Rattle.std.specs.Prelude.{Option, None, Some}
use Prim.Native.Nat.{ℕ, suc, ◌-◌, ◌≤◌, ◌<◌}
use Rattle.std.proofs.Math.Decide.{ℕ_discrete}
use borrow.Author.Tests.{eq-eqb, eqb-true}
use Rattle.numbers.specs.Choose.{least, those}
use Rattle.numbers.specs.ChooseLaws.{those_long, in_those, of_those}
use Rattle.numbers.specs.FirstLaws.{LeastCases, least_below, least_cases}
use Rattle.numbers.specs.IfSome.{IfSome}
use Rattle.numbers.specs.Counts.{count, count_zero}
use Rattle.numbers.specs.Distinct.{distinct_those}
use Rattle.numbers.specs.Matching.{matched_short}
use Rattle.graph.specs.declared.form.Form.{Form}
use Rattle.graph.specs.declared.form.Form.TheVariants as forms
use Rattle.graph.specs.declared.form.FormFields.{FormFields}
use Rattle.graph.specs.Graph.{Net, Sound, Branches, Live, First, Joined, Connected, Loop, Tree}
use Rattle.graph.specs.Radial.{radial}
use Rattle.graph.specs.Chains.{joined_trans, joined_sym}
use Rattle.graph.specs.Forests.{forest_no_loop}
use Rattle.graph.specs.declared.rows.Graph.{Graph}
use Rattle.graph.specs.Rows.{flag, row_net, row_radial}
use Rattle.graph.specs.Form.{label, closes, links, islands, instead, other_form, form, row_form, is_tree, islands_field, branch_field, fields_of, form_number}
use Rattle.graph.specs.FormClaim.{FirstClosing, InPieces, FormMeaning}
use Rattle.graph.specs.Pieces.{pieces, one_piece, label_joined, same_label, closes_joined, none_closes, closing_loop, label_idem, label_bus, pieces_links}
use Rattle.graph.specs.RadialLaws.{no_buses_lem, radial_tree}

-- ---- the reading
no_tree : (first : Option ℕ) (i : ℕ) → is_tree (instead first i) ≡ false
no_tree None i = refl
no_tree (Some k) i = refl

tree_or_not : (N : Net) (E : ℕ → Bool) (b : Bool) → is_tree (cond b forms.Tree (other_form N E)) ≡ b
tree_or_not N E true = refl
tree_or_not N E false = no_tree (least (closes N E) N.branches) (islands N E)

-- of every net and flags: a tree is what document 01's test says
pub tree_reading : (N : Net) (E : ℕ → Bool) → is_tree (form N E) ≡ radial N E
unfolding form
tree_reading N E = tree_or_not N E (radial N E)

-- and of the rows of every graph
pub row_tree_reading : (g : Graph) (live : List Bool) → is_tree (row_form g live) ≡ row_radial g live
unfolding row_form
row_tree_reading g live = tree_or_not (row_net g) (flag live) (row_radial g live)

-- ---- the fields of the frame 84 have four digits
instead_small : (first : Option ℕ) {n : ℕ} → IfSome (λ k. k < n) first → n ≤ 512 → (i : ℕ) → i < 0x10000
    → (islands_field (instead first i) < 0x10000) × (branch_field (instead first i) < 0x10000)
instead_small None h l i small = (small, omega arith)
instead_small (Some k) h l i small = (small, omega arith)

pub fields_small : (N : Net) (E : ℕ → Bool) → N.buses ≤ 256 → N.branches ≤ 512 → (islands_field (form N E) < 0x10000) × (branch_field (form N E) < 0x10000)
unfolding form islands
fields_small N E few less = go (radial N E)
  where
    go : (b : Bool) → (islands_field (cond b forms.Tree (other_form N E)) < 0x10000) × (branch_field (cond b forms.Tree (other_form N E)) < 0x10000)
    go true = (omega arith, omega arith)
    go false = instead_small (least (closes N E) N.branches) (least_below (closes N E) N.branches) less (islands N E) (omega arith)

-- ---- pieces
only_one : (l : List ℕ) → length l ≡ 1 → {x y : ℕ} → Memᴰ x l → Memᴰ y l → x ≡ y
only_one [] e m n = absurd (Memᴰ.not-nil m)
only_one (z ∷ []) e m n = Memᴰ.eq_of_singleton m ∙ sym (Memᴰ.eq_of_singleton n)
only_one (z ∷ (w ∷ l)) e m n = absurd (omega arith)

-- each bus of the one list is joined with one of the other, and no two with the same
pieces_fewer : {N : Net} {S : Branches} {p q : ℕ} → InPieces N S p → InPieces N S q → p ≤ q
pieces_fewer {N} {S} a b =
    let short = matched_short (Joined N S) a.buses b.buses a.distinct (λ x i. b.all x (a.listed x i)) (λ x z y i j s t. a.apart x z i j (joined_trans s (joined_sym t))) in
    omega (arith, a.many, b.many)

one_connected : {N : Net} {S : Branches} → InPieces N S 1 → Connected N S
unfolding Connected
one_connected p a b l r =
    let x = p.all a l in
    let y = p.all b r in
    let same : x.0 ≡ y.0 = only_one p.buses p.many x.1 y.1 in
    joined_trans x.2 (rw same (joined_sym y.2))

module _ (N : Net) (E : ℕ → Bool) (sound : Sound N) where
  abbrev m : ℕ
  m = N.branches

  own : ℕ → Bool
  own x = eqb (label N E m x) x

  own_label : (x : ℕ) → own (label N E m x) ≡ true
  unfolding own
  own_label x = eq-eqb _ _ (label_idem N E m x)

  in_pieces : InPieces N (Live N E) (pieces N E m)
  unfolding pieces own
  in_pieces = record {
    buses = those own N.buses;
    many = those_long own N.buses;
    distinct = distinct_those own N.buses;
    listed = λ x i. (of_those own N.buses x i).0;
    apart = λ x y i j w. sym (eqb-true _ _ (of_those own N.buses x i).1) ∙ (same_label N E m x y).1 w ∙ eqb-true _ _ (of_those own N.buses y j).1;
    all = λ x l. (label N E m x, in_those own N.buses _ (label_bus N E sound m x (omega arith) l) (own_label x), label_joined N E m x);
  }

  module _ (some-bus : 0 < N.buses) where
    some_piece : pieces N E m ≡ 0 → ⊥
    unfolding pieces own
    some_piece z = true≢false (sym (own_label 0) ∙ count_zero own N.buses z (label N E m 0) (label_bus N E sound m 0 (omega arith) some-bus))

    islands_pieces : pieces N E m ≡ suc (islands N E)
    unfolding islands
    islands_pieces = go (ℕ_discrete (pieces N E m) 0)
      where
        go : Dec (pieces N E m ≡ 0) → pieces N E m ≡ suc ((N.buses - 1) - count (links N E) m)
        go (yes z) = absurd (some_piece z)
        go (no n) = omega (arith, pieces_links N E sound m (omega arith))

  -- ---- what each answer says
  abbrev Means : Form → Type 0
  Means forms.Tree = Tree N (Live N E)
  Means (forms.Loop k i) = FirstClosing N E k × InPieces N (Live N E) (suc i)
  Means (forms.Islands i) = (¬ Loop N (Live N E)) × (0 < i) × InPieces N (Live N E) (suc i)

  -- the first branch that closes is the first with which the branches added so far have a loop
  first_loop : (k : ℕ) → FirstClosing N E k → Loop N (First E (suc k)) × ((j : ℕ) → j ≤ k → ¬ Loop N (First E j))
  first_loop k c = (
    (closing_loop N E (suc k)).0 (k, omega arith, (closes_joined N E k).1 (c.live, c.joined)),
    λ i l o. let z = (closing_loop N E i).1 o in let j = (closes_joined N E z.0).0 z.2 in c.first z.0 (omega arith) j.0 j.1,
  )

  module _ (small : N.buses ≤ 256) where
    form_means : Means (form N E)
    unfolding form
    form_means = go (radial N E) refl
      where
        rest : radial N E ≡ false → 0 < N.buses
            → LeastCases (closes N E) m
            → Means (other_form N E)
        rest f some-bus (inl (k, e, l, t, h)) = rw e (first, rw (← islands_pieces some-bus) in_pieces)
          where
            first : FirstClosing N E k
            first = record {
              listed = l;
              live = ((closes_joined N E k).0 t).0;
              joined = ((closes_joined N E k).0 t).1;
              first = λ i b r j. true≢false (sym ((closes_joined N E i).1 (r, j)) ∙ h i b);
            }
        rest f some-bus (inr (e, h)) = rw e (none_loops, some_islands (ℕ_discrete (islands N E) 0), rw (← islands_pieces some-bus) in_pieces)
          where
            none_loops : ¬ Loop N (Live N E)
            none_loops = forest_no_loop.0 (none_closes N E m h)

            some_islands : Dec (islands N E ≡ 0) → 0 < islands N E
            some_islands (no n) = omega arith
            some_islands (yes z) =
                let one : InPieces N (Live N E) 1 = rw (islands_pieces some-bus, z) at in_pieces in
                absurd (true≢false (sym ((radial_tree N E sound small).1 (record { connected = one_connected one; no_loop = none_loops })) ∙ f))

        go : (b : Bool) → radial N E ≡ b → Means (cond b forms.Tree (other_form N E))
        go true e = (radial_tree N E sound small).0 e
        go false e = rest e (Some (ℕ_discrete N.buses 0)) (least_cases (closes N E) m)
          where
            Some : Dec (N.buses ≡ 0) → 0 < N.buses
            Some (no n) = omega arith
            Some (yes z) = absurd (true≢false (sym ((radial_tree N E sound small).1 (no_buses_lem N E sound small z)) ∙ e))

    -- a loop is answered where there is one
    loop_answered : Loop N (Live N E) → (f : Form) → Means f → (k : ℕ) × (i : ℕ) × (f ≡ forms.Loop k i)
    loop_answered o forms.Tree t = absurd (t.no_loop o)
    loop_answered o (forms.Loop k i) t = (k, i, refl)
    loop_answered o (forms.Islands i) t = absurd (t.0 o)

    -- a tree is one piece, or none where there are no buses
    tree_piece : Tree N (Live N E) → Dec (N.buses ≡ 0) → (p : ℕ) × InPieces N (Live N E) p × (0 ≡ p - 1)
    tree_piece t (yes z) = (pieces N E m, in_pieces, omega (arith, pieces_links N E sound m (omega arith)))
    tree_piece t (no n) = (1, rw (one_piece N E sound (omega arith) t.connected) at in_pieces, refl)

    pieces_said : (f : Form) → Means f → (p : ℕ) × InPieces N (Live N E) p × (islands_field f ≡ p - 1)
    pieces_said forms.Tree t = tree_piece t (ℕ_discrete N.buses 0)
    pieces_said (forms.Loop k i) t = (suc i, t.1, omega arith)
    pieces_said (forms.Islands i) t = (suc i, t.2, omega arith)

    pub form_says : FormMeaning N E (form N E)
    form_says = record {
      tree = (λ e. subst Means e form_means, λ t. unfold form in rw ((radial_tree N E sound small).1 t));
      loop = λ k i e. subst Means e form_means;
      islands = λ i e. subst Means e form_means;
      loops = (
        λ (k, i, e). (closing_loop N E m).0 (k, (subst Means e form_means).0.listed, (closes_joined N E k).1 ((subst Means e form_means).0.live, (subst Means e form_means).0.joined)),
        λ o. loop_answered o (form N E) form_means,
      );
      earliest = λ k i e. first_loop k (subst Means e form_means).0;
      pieces = pieces_said (form N E) form_means;
      one_number = λ p q a b. omega (arith, pieces_fewer a b, pieces_fewer b a);
    }

-- ---- the fields tell the answers apart: FFFF is no branch, and no other answer has a tree's fields
module _ {N : Net} {E : ℕ → Bool} (few : N.branches ≤ 0xFFFF) where
  branch_small : {k i : ℕ} → FormMeaning N E (forms.Loop k i) → k < 0xFFFF
  branch_small {k} {i} w = omega (arith, (w.loop k i refl).0.listed)

  pub no_branch_lem : (f : Form) → FormMeaning N E f → (branch_field f ≡ 0xFFFF) ↔ (¬ Loop N (Live N E))
  no_branch_lem forms.Tree w = (λ e. (w.tree.0 refl).no_loop, λ h. refl)
  no_branch_lem (forms.Loop k i) w = (λ e. absurd (omega (arith, branch_small w)), λ h. absurd (h (w.loops.0 (k, i, refl))))
  no_branch_lem (forms.Islands i) w = (λ e. (w.islands i refl).0, λ h. refl)

  pub tree_number : (f : Form) → FormMeaning N E f → (form_number f ≡ 0xFFFF) ↔ (is_tree f ≡ true)
  unfolding form_number
  tree_number forms.Tree w = (λ e. refl, λ h. refl)
  tree_number (forms.Loop k i) w = (λ e. absurd (omega (arith, branch_small w)), λ h. absurd (true≢false (sym h)))
  tree_number (forms.Islands i) w = (λ e. absurd (omega (arith, (w.islands i refl).1)), λ h. absurd (true≢false (sym h)))

  pub tree_fields : (f : Form) → FormMeaning N E f → (fields_of f ≡ record { islands = 0; branch = 0xFFFF }) ↔ (is_tree f ≡ true)
  unfolding form_number
  tree_fields f w = (λ e. (tree_number f w).0 (omega (arith, ap (λ (x : FormFields). x.islands) e, ap (λ (x : FormFields). x.branch) e)), λ h. back f h)
    where
      back : (f : Form) → is_tree f ≡ true → fields_of f ≡ record { islands = 0; branch = 0xFFFF }
      back forms.Tree h = refl
      back (forms.Loop k i) h = absurd (true≢false (sym h))
      back (forms.Islands i) h = absurd (true≢false (sym h))
