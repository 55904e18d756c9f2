-- Labels in an array: each bus its own, one label made another by rising position. And a branch added, by rising position: what then holds of the labels, of the first branch that closed a loop and of the links.
use Rattle.std.proofs.Common.{◌≡◌, ◌≢◌, refl, sym, ap, ◌∙◌, Bool, true, false, Option, Some, None, List, map, ℕ, ◌+◌, ◌-◌, ◌≤◌, ◌<◌, min, length, get_or, set, replicate, add-one, arith}
use Rattle.std.specs.Option.{option_or}
use Rattle.std.proofs.Math.ListN.{get_or-eq_default}
use Rattle.numbers.specs.UpTo.{up_to, table}
use Rattle.numbers.specs.TableLaws.{get_or_table, as_table, table_cong, map_table, replicate_table, renewed, renewed_none, renewed_next, renewed_more, renewed_all, filled, filled_none, filled_all}
use Rattle.numbers.specs.Choose.{least}
use Rattle.numbers.specs.FirstLaws.{least_same, least_kept, least_idle, least_found}
use Rattle.numbers.specs.Counts.{count, count_yes, count_no, count_le, count_idle}
use Rattle.graph.specs.Graph.{Net}
use Rattle.graph.specs.Form.{relabel, label, closes, links, islands, instead, row_form}
use Rattle.graph.specs.Pieces.{relabel_same, label_dead, label_live, closes_dead, closes_closing, closes_linking, links_dead, links_closing, links_linking}
use Rattle.graph.specs.declared.form.Form.{Form}
use Rattle.graph.specs.declared.form.Form.TheVariants as forms
use Rattle.graph.specs.declared.rows.Graph.{Graph}
use Rattle.graph.specs.Rows.{flag, row_net, row_radial}
use Rattle.forms.specs.declared.form.Added.{Added}
use Rattle.forms.specs.Adding.{Adding, AllAdded}

-- ---- own labels
pub none_own : replicate 256 0 ≡ filled (λ (x : ℕ). x) 0 256 0
none_own = replicate_table 0 256 ∙ filled_none (λ x. x) 0 256

pub all_own : (x : ℕ) {l : List ℕ} → l ≡ filled (λ (x : ℕ). x) 0 256 x → 256 ≤ x → l ≡ table (λ x. x) 256
all_own x e h = e ∙ filled_all (λ x. x) 0 256 x (λ j k m. absurd (omega arith))

-- ---- one label made another
module _ (f : ℕ → ℕ) (l : List ℕ) where
  -- in the first x entries
  unfoldable pub changed_to : ℕ → List ℕ
  changed_to x = renewed (λ j. f (get_or l j 0)) (λ j. get_or l j 0) 256 x

  module _ (long : length l ≡ 256) where
    as_read : l ≡ table (λ j. get_or l j 0) 256
    as_read = as_table _ 256 0 l long (λ i k. refl)

    pub none_changed : l ≡ changed_to 0
    unfolding changed_to
    none_changed = as_read ∙ renewed_none _ _ 256

    pub all_changed : (x : ℕ) {m : List ℕ} → m ≡ changed_to x → 256 ≤ x → m ≡ map f l
    unfolding changed_to
    all_changed x e h = e ∙ renewed_all _ _ 256 x (λ j k m. absurd (omega arith)) ∙ sym (ap (map f) as_read ∙ map_table f (λ j. get_or l j 0) 256)

  pub one_changed : (x : ℕ) {m : List ℕ} → m ≡ changed_to x → x < 256 → (v : ℕ) → v ≡ f (get_or m x 0) → set m x v ≡ changed_to (x + 1)
  unfolding changed_to
  one_changed x e h v q = rw (q, e, renewed_next (λ j. f (get_or l j 0)) (λ j. get_or l j 0) 256 x 0 h) (renewed_more (λ j. f (get_or l j 0)) (λ j. get_or l j 0) 256 x h)

-- ---- a branch added
module _ {N : Net} {E : ℕ → Bool} {k : ℕ} {added : Added} (w : Adding N E k added) where
  pub few_links : added.links ≤ k
  few_links = omega (arith, w.linked, count_le (links N E) k)

  -- that is not live
  pub dead_added : E k ≡ false → Adding N E (k + 1) added
  dead_added e = record {
    labelled = w.labelled ∙ table_cong _ _ 256 (λ x h. sym (ap (λ j. label N E j x) (add-one k) ∙ label_dead N E k x e));
    first = w.first ∙ sym (least_same (closes N E) k (closes_dead N E k e));
    linked = w.linked ∙ sym (ap (count (links N E)) (add-one k) ∙ count_no (links N E) k (links_dead N E k e));
  }

  module _ (live : E k ≡ true) {from to : ℕ} (at_from : N.from k ≡ from) (at_to : N.to k ≡ to) {a b : ℕ} (p : a ≡ from) (q : b ≡ to) (small : a < 256) (less : b < 256) where
    read : (x y : ℕ) → x < 256 → x ≡ y → get_or added.label x 0 ≡ label N E k y
    read x y h e = ap (λ (m : List ℕ). get_or m x 0) w.labelled ∙ get_or_table _ 256 x 0 h ∙ ap (label N E k) e

    kept : get_or added.label a 0 ≡ label N E k (N.from k)
    kept = read a (N.from k) small (p ∙ sym at_from)

    gone : get_or added.label b 0 ≡ label N E k (N.to k)
    gone = read b (N.to k) less (q ∙ sym at_to)

    pub link_added : get_or added.label a 0 ≢ get_or added.label b 0 → {labels : List ℕ} → labels ≡ map (relabel (get_or added.label a 0) (get_or added.label b 0)) added.label
        → Adding N E (k + 1) (record { label = labels; closing = added.closing; links = added.links + 1 })
    link_added d e =
        let differ : label N E k (N.from k) ≢ label N E k (N.to k) = λ h. d (kept ∙ h ∙ sym gone) in
        record {
          labelled =
              e ∙ rw (kept, gone, w.labelled)
              (map_table _ (label N E k) 256 ∙ table_cong _ _ 256 (λ x h. sym (ap (λ j. label N E j x) (add-one k) ∙ label_live N E k x live)));
          first = w.first ∙ sym (least_same (closes N E) k (closes_linking N E k differ));
          linked = rw (w.linked, add-one k, count_yes (links N E) k (links_linking N E k live differ)) (omega arith);
        }

    module _ (same : get_or added.label a 0 ≡ get_or added.label b 0) where
      alike : label N E k (N.from k) ≡ label N E k (N.to k)
      alike = sym kept ∙ same ∙ gone

      labels_stay : added.label ≡ table (label N E (k + 1)) 256
      labels_stay = w.labelled ∙ table_cong _ _ 256 (λ x h. sym (ap (λ j. label N E j x) (add-one k) ∙ label_live N E k x live ∙ relabel_same _ _ _ alike))

      links_stay : added.links ≡ count (links N E) (k + 1)
      links_stay = w.linked ∙ sym (ap (count (links N E)) (add-one k) ∙ count_no (links N E) k (links_closing N E k alike))

      -- one that was found stays
      pub closing_added : {closing : Option ℕ} → closing ≡ option_or added.closing (Some k) → Adding N E (k + 1) (record { label = added.label; closing = closing; links = added.links })
      closing_added {closing} h = record { labelled = labels_stay; first = h ∙ go added.closing refl; linked = links_stay }
        where
          go : (o : Option ℕ) → added.closing ≡ o → option_or o (Some k) ≡ least (closes N E) (k + 1)
          go None e = sym (least_found (closes N E) k (closes_closing N E k live alike) (sym w.first ∙ e))
          go (Some j) e = sym (least_kept (closes N E) k j (sym w.first ∙ e))

pub none_added : (N : Net) (E : ℕ → Bool) → {labels : List ℕ} → labels ≡ table (λ x. x) 256 → Adding N E 0 (record { label = labels; closing = None; links = 0 })
unfolding label least count up_to
none_added N E e = record { labelled = e; first = refl; linked = refl }

-- ---- all branches added: behind the flags none is live
pub all_added : (N : Net) (live : List Bool) → length live ≡ 512 → {k : ℕ} {added : Added} → k ≡ min N.branches 512 → Adding N (flag live) k added → AllAdded N (flag live) added
all_added N live long e w =
    let dead : (k : ℕ) → 512 ≤ k → flag live k ≡ false = λ k h. get_or-eq_default live false (omega arith) in
    record {
      first =
          w.first ∙ ap (least (closes N (flag live))) e
          ∙ sym (least_idle (closes N (flag live)) (min N.branches 512) N.branches (omega arith) (λ i a b. closes_dead N (flag live) i (dead i (omega arith))));
      linked =
          w.linked ∙ ap (count (links N (flag live))) e
          ∙ sym (count_idle (links N (flag live)) (min N.branches 512) N.branches (omega arith) (λ x a b. links_dead N (flag live) x (dead x (omega arith))));
    }

-- ---- the answer
module _ (g : Graph) (live : List Bool) where
  pub radial_form : row_radial g live ≡ true → forms.Tree ≡ row_form g live
  unfolding row_form
  radial_form e = rw e

  pub other_form_lem : row_radial g live ≡ false → {added : Added} {i : ℕ} {f : Form} → AllAdded (row_net g) (flag live) added
      → i ≡ ((row_net g).buses - 1) - added.links → f ≡ instead added.closing i → f ≡ row_form g live
  unfolding row_form islands
  other_form_lem e w q r = rw (e, r, q, w.first, w.linked)
