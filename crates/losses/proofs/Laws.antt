-- The code's arrays and the definitions' lists: loads as plain numbers, and a turn of the loop over the branches.
use mathlib.Core.Path.{◌≡◌, refl, sym, ap, ◌∙◌}
use mathlib.Core.Bool.{Bool, true, false}
use mathlib.Core.List.{List, map}
use Prim.Native.Nat.{ℕ, ◌+◌, ◌*◌, ◌≤◌, ◌<◌, min}
use native.Mathlib.Omega.{arith}
use lib.ListN.{length, get_or, get_or-eq_default}
use borrow.Author.Tests.{eq-eqb, ne_eqb}
use lib.Ieee.{Float, binary64, add}
use Rattle.numbers.specs.UpTo.{up_to, up_to_more, up_to_idle, table}
use Rattle.numbers.specs.TableLaws.{any_default, as_table, map_table}
use Rattle.numbers.specs.Constants.{zero64}
use Rattle.network.specs.declared.branch.Branch.{Branch}
use Rattle.network.specs.declared.bus.Power.{Power}
use Rattle.network.specs.Records.{no_branch}
use Rattle.graph.specs.declared.rows.Graph.{Graph}
use Rattle.graph.specs.Walk.{walk_by}
use Rattle.lists.specs.declared.lists.LiveLists.{LiveLists}
use Rattle.lists.specs.Lists.{live_lists, listed, bus_load}
use Rattle.losses.specs.Loss.{term_of, total_of}
use Rattle.losses.specs.ListLoss.{no_power, megawatts_of, load_behind, list_total, list_loss}

-- ---- loads
pub load_inside : (loads : List Power) (i : ℕ) (d : Power) → i < length loads → (get_or loads i d).0 ≡ (get_or loads i no_power).0
load_inside loads i d h = ap (λ (p : Power). p.0) (any_default loads i d no_power h)

pub all_megawatts : (loads : List Power) → length loads ≡ 256 → table (λ i. (get_or loads i no_power).0) 256 ≡ megawatts_of loads
unfolding megawatts_of
all_megawatts loads long =
    sym (ap (map (λ (p : Power). p.0)) (as_table (λ i. get_or loads i no_power) 256 no_power loads long (λ i l. refl)) ∙ map_table (λ (p : Power). p.0) (λ i. get_or loads i no_power) 256)

-- ---- totals
module _ (lists : LiveLists) (far : List ℕ) (mw : List Float) (live : List Bool) (branches : List Branch) (base : Float) where
  pub total_none : zero64 ≡ list_total lists far mw live branches base 0
  unfolding list_total total_of up_to
  total_none = refl

  pub total_live : (k : ℕ) (d : Branch) (t x t' : Float) (p : Power) → k < length branches → t ≡ list_total lists far mw live branches base k → get_or live k false ≡ true
      → p ≡ record { 0 = bus_load mw (walk_by (listed lists.at lists.near) (get_or far (2 * k) 0) (get_or far (2 * k + 1) 0)) }
      → x ≡ term_of (get_or branches k d).r p.0 base → t' ≡ add binary64 t x → t' ≡ list_total lists far mw live branches base (k + 1)
  unfolding list_total total_of load_behind
  total_live k d t x t' p l e h load term q = rw (q, term, load, e, any_default branches k d no_branch l, up_to_more, h)

  pub total_dead : (k : ℕ) (t t' : Float) → t ≡ list_total lists far mw live branches base k → get_or live k false ≡ false → t' ≡ t → t' ≡ list_total lists far mw live branches base (k + 1)
  unfolding list_total total_of
  total_dead k t t' e h q = rw (q, e, up_to_more, h)

module _ (g : Graph) (loads : List Power) (branches : List Branch) (base : Float) (live : List Bool) where
  pub loss_none : g.bus_count ≡ 0 → zero64 ≡ list_loss g loads branches base live
  unfolding list_loss
  loss_none e = rw (eq-eqb g.bus_count 0 e)

  pub loss_all : (k : ℕ) (t : Float) (lists : LiveLists) (mw : List Float) → (g.bus_count ≡ 0 → ⊥) → k ≡ min g.branch_count (length live)
      → lists ≡ live_lists g live → mw ≡ megawatts_of loads
      → t ≡ list_total lists g.far mw live branches base k → t ≡ list_loss g loads branches base live
  unfolding list_loss list_total total_of
  loss_all k t lists mw n e l same p =
      rw (ne_eqb g.bus_count 0 n, ← same, ← l)
      (p ∙ sym (up_to_idle _ zero64 k g.branch_count (omega arith) (λ i a b. rw (get_or-eq_default live false (past i a b)))))
    where
      -- behind the last flag nothing is added
      past : (i : ℕ) → k ≤ i → i < g.branch_count → length live ≤ i
      past i a b = omega arith
