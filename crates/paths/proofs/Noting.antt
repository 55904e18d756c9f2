-- For each bus the way by which a walk reached it, noted from the first visit to the last.
use Rattle.std.proofs.Common.{◌≡◌, refl, sym, ap, ◌∙◌, Bool, true, false, cond, ◌||◌, eqb, List, [], ◌∷◌, ◌++◌, Option, Some, None, is_some, unwrap_or, ℕ, ◌+◌, ◌<◌, length, get_or, take, set, replicate, min, ◌≤◌, arith, length-take}
use Rattle.std.proofs.lemmas.List.{get_or-take}
use Rattle.std.proofs.Math.Seq.{take-length}
use Rattle.std.specs.Option.{option_or}
use Rattle.std.proofs.lemmas.List.{take_more}
use borrow.Author.Tests.{eq-eqb, ne_eqb}
use Rattle.numbers.specs.TableLaws.{get_or_table, replicate_table, table_set}
use Rattle.graph.specs.declared.walks.Walk.{Walk}
use Rattle.graph.specs.Walk.{Visit, start_at, reached, by_of}
use Rattle.graph.specs.Rows.{walked}
use Rattle.bfs.proofs.Entering.{filled_read}
use Rattle.paths.specs.Ways.{way_to, ways_by}

-- a way is there where the bus was reached, and it is the branch
way_reached : (o : List Visit) (b : ℕ) → is_some (way_to o b) ≡ reached b o
unfolding way_to reached
way_reached [] b = refl
way_reached (v ∷ o) b = go (eqb b v.bus) (way_reached o b)
  where
    go : (t : Bool) → is_some (way_to o b) ≡ reached b o → is_some (cond t (Some v.by) (way_to o b)) ≡ (t || reached b o)
    go true ih = refl
    go false ih = ih

way_is : (o : List Visit) (b : ℕ) → unwrap_or (way_to o b) 0 ≡ by_of b o
unfolding way_to by_of
way_is [] b = refl
way_is (v ∷ o) b = go (eqb b v.bus) (way_is o b)
  where
    go : (t : Bool) → unwrap_or (way_to o b) 0 ≡ by_of b o → unwrap_or (cond t (Some v.by) (way_to o b)) 0 ≡ cond t v.by (by_of b o)
    go true ih = refl
    go false ih = ih

-- one visit more
way_more : (o : List Visit) (v : Visit) (b : ℕ) → way_to (o ++ (v ∷ [])) b ≡ option_or (way_to o b) (cond (eqb b v.bus) (Some v.by) None)
unfolding way_to
way_more [] v b = refl
way_more (w ∷ o) v b = go (eqb b w.bus) (way_more o v b)
  where
    go : (t : Bool) → way_to (o ++ (v ∷ [])) b ≡ option_or (way_to o b) (cond (eqb b v.bus) (Some v.by) None)
        → cond t (Some w.by) (way_to (o ++ (v ∷ [])) b) ≡ option_or (cond t (Some w.by) (way_to o b)) (cond (eqb b v.bus) (Some v.by) None)
    go true ih = refl
    go false ih = ih

or_none : (w : Option ℕ) → option_or w None ≡ w
or_none None = refl
or_none (Some k) = refl

-- in the array
pub none_noted : replicate 256 None ≡ ways_by []
unfolding way_to
none_noted = replicate_table None 256

module _ (o : List Visit) where
  pub reached_read : (x : ℕ) → x < 256 → is_some (get_or (ways_by o) x None) ≡ reached x o
  reached_read x h = ap is_some (get_or_table (way_to o) 256 x None h) ∙ way_reached o x

  pub way_read : (x : ℕ) → x < 256 → unwrap_or (get_or (ways_by o) x None) 0 ≡ by_of x o
  way_read x h = ap (λ w. unwrap_or w 0) (get_or_table (way_to o) 256 x None h) ∙ way_is o x

  module _ (walk : Walk) (e : walk ≡ walked o) (n : ℕ) (q : n ≡ walk.count) where
    counted : n ≡ length o
    unfolding walked
    counted = q ∙ ap (λ (w : Walk). w.count) e

    pub one_noted : (i : ℕ) {x k : ℕ} → i < length (take n walk.bus) → x < 256 → x ≡ get_or (take n walk.bus) i 0 → k ≡ get_or (take n walk.by) i 0
        → set (ways_by (take i o)) x (option_or (get_or (ways_by (take i o)) x None) (Some k)) ≡ ways_by (take (i + 1) o)
    unfolding walked
    one_noted i {x} {k} l small p r =
        let short : i < n = omega (arith, length-take n walk.bus) in
        let inside : i < length o = omega (arith, counted) in
        let v = get_or o i (start_at 0) in
        let before = take i o in
        let bus : x ≡ v.bus = p ∙ get_or-take n walk.bus i 0 short ∙ ap (λ (w : Walk). get_or w.bus i 0) e ∙ filled_read (λ v. v.bus) o i refl in
        let by : k ≡ v.by = r ∙ get_or-take n walk.by i 0 short ∙ ap (λ (w : Walk). get_or w.by i 0) e ∙ filled_read (λ v. v.by) o i refl in
        rw (take_more o i (start_at 0) inside, get_or_table (way_to before) 256 x None small, by)
        (table_set (way_to before) (way_to (before ++ (v ∷ []))) 256 x _ small
        (rw (way_more before v x, eq-eqb x v.bus bus))
        (λ b m ne. rw (way_more before v b, ne_eqb b v.bus (λ s. ne (s ∙ sym bus))) (sym (or_none _))))

    pub all_noted : (i : ℕ) → i ≡ min (length (take n walk.bus)) (length (take n walk.by)) → length walk.bus ≡ 256 → length walk.by ≡ 256 → n ≤ 256 → ways_by (take i o) ≡ ways_by o
    all_noted i l a b h =
        let all : i ≡ length o = omega (arith, length-take n walk.bus, length-take n walk.by, counted) in
        rw (all, take-length o)
