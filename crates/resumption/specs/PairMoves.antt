-- The single moves of pairs that lead to the wanted branches: carried out they are the pairs carried out, each can be made when it comes to it, and after a number of
-- moves the live branches are a tree, unless it ends between a closing and its opening.
use Rattle.std.specs.Prelude.{◌≡◌, refl, ◌⊎◌, Bool, ℕ, zero, suc, ◌+◌, ◌-◌, ◌≤◌, ◌<◌, take, drop}
use Rattle.std.proofs.Common.{sym, ◌∙◌, inl}
use Rattle.std.proofs.Math.Path.{ap}
use Rattle.std.proofs.Math.Logic.{inr}
use mathlib.Core.List.Memᴰ
use mathlib.Core.List.{List, [], ◌∷◌, ◌++◌, map, flat_map}
use Rattle.std.proofs.Math.Option.{some}
use Rattle.std.proofs.Math.Decide.{ℕ_discrete, dec_lt}
use native.Mathlib.Omega.{arith}
use Rattle.std.proofs.Math.ListN.{length, get_elem?, length-append}
use Rattle.std.proofs.lemmas.List.{length-map}
use Rattle.std.proofs.Math.Seq.{take-append-le, take-append_seam, take-append-add}
use Rattle.numbers.specs.Distinct.{Distinct}
use Rattle.numbers.specs.Members.{taken_in, some_taken, distinct_left}
use Rattle.numbers.specs.Parts.{drop_some}
use Rattle.network.specs.Records.{Network}
use Rattle.states.specs.Live.{live}
use Rattle.states.specs.Switches.{State}
use Rattle.printing.specs.declared.writer.SwitchAction.TheVariants.{Open, Close}
use Rattle.printing.specs.declared.writer.SwitchOperation.{SwitchOperation}
use Rattle.graph.specs.Graph.{Tree}
use Rattle.feeders.specs.Feeder.{feeder, LiveIn}
use Rattle.plan.specs.Plan.{Pair, Moves, moves_of, exchanged}
use Rattle.plan.specs.Claim.{switch_at, closes_at, opens_at, switches_moved, after_closing, carried_out}
use Rattle.plan.specs.Plannable.{Plannable}
use Rattle.plan.specs.Sets.{all_out}
use Rattle.plan.specs.Exchanges.{exchanged_tree}
use Rattle.plan.specs.Moved.{Shows, closed_some, opened_some, was_closed, apart_lists}
use Rattle.plan.specs.Due.{Due, shows_tree}
use Rattle.plan.specs.Stages.{Leads, there, next, stage, Holds, due, holds_next, closes_apart, opens_apart}
use Rattle.resumption.specs.SingleMoves.{to, closing_moves, opening_moves, moves_of_pair, single_moves, moved_all}
use Rattle.resumption.specs.Claim.{moves_before, Between}
use Rattle.resumption.specs.MoveLaws.{singles_parts, singles_first, singles_order, moved_append, all_good, AllMovable, movable_append, moved_some, moved_each, movable_each}

-- ---- one pair. These laws look into the moves of a pair, and so do those of the code's list on its next pair (`MoveLists`); no other does
pub closing_moved : (N : Network) (m : Moves) (s : State) → moved_all N (closing_moves m) s ≡ after_closing N m s
unfolding closing_moves after_closing
closing_moved N m s = moved_each N Close m.closes s

pub pair_moved : (N : Network) (m : Moves) (s : State) → moved_all N (moves_of_pair m) s ≡ carried_out N m s
unfolding opening_moves carried_out
pair_moved N m s = moved_append N (closing_moves m) (opening_moves m) s ∙ rw (closing_moved N m s) (moved_each N Open m.opens (after_closing N m s))

-- a move for each switch that is moved
closings_counted : (N : Network) (m : Moves) → length (closing_moves m) ≡ length (closes_at N m)
unfolding closing_moves
closings_counted N m = length-map m.closes (to Close) ∙ sym (length-map m.closes (switch_at N))

openings_counted : (N : Network) (m : Moves) → length (opening_moves m) ≡ length (opens_at N m)
unfolding opening_moves
openings_counted N m = length-map m.opens (to Open) ∙ sym (length-map m.opens (switch_at N))

pub moves_counted : (N : Network) (P : List Moves) → length (single_moves P) ≡ length (switches_moved N P)
unfolding single_moves switches_moved flat_map
moves_counted N [] = refl
moves_counted N (m ∷ P) =
    length-append (moves_of_pair m) (single_moves P)
    ∙ omega (arith, length-append (closing_moves m) (opening_moves m), closings_counted N m, openings_counted N m, length-append (closes_at N m) (opens_at N m), moves_counted N P)
    ∙ sym (length-append (closes_at N m ++ opens_at N m) (switches_moved N P))

-- a pair that is due, with some of its moves made
module _ {N : Network} {s : State} {m : Moves} (d : Due N s m) where
  -- a closing is still to come: no branch has become live or dead
  closing_tree : Distinct (closes_at N m) → (j : ℕ) → j < length (closing_moves m) → Tree (feeder N) (LiveIn N (moved_all N (take j (closing_moves m)) s))
  unfolding closing_moves
  closing_tree apart j b =
      let (x, z, n) = distinct_left j (closes_at N m) apart (omega (arith, closings_counted N m)) in
      let made : Shows N (moved_all N (take j (closing_moves m)) s) d.flags = record {
        good = all_good N (take j (closing_moves m)) s d.shows.good;
        flags = λ k. ap (λ (t : State). live N t k) (moved_some N Close j m.closes s)
            ∙ closed_some d.shows d.fits d.movable (take j (closes_at N m)) (taken_in j (closes_at N m)) x z n k ∙ d.shows.flags k;
      } in
      shows_tree made d.tree

  -- from the first opening on exactly the pair's exchange has happened
  opening_tree : (j : ℕ) → j < length (opening_moves m) → Tree (feeder N) (LiveIn N (moved_all N (take (suc j) (opening_moves m)) (after_closing N m s)))
  unfolding opening_moves
  opening_tree j b =
      let (x, z) = some_taken j (opens_at N m) (omega (arith, openings_counted N m)) in
      let made : Shows N (moved_all N (take (suc j) (opening_moves m)) (after_closing N m s)) (exchanged d.flags d.pair) = record {
        good = all_good N (take (suc j) (opening_moves m)) _ (rw (← closing_moved N m s) (all_good N (closing_moves m) s d.shows.good));
        flags = λ k. ap (λ (t : State). live N t k) (moved_some N Open (suc j) m.opens (after_closing N m s))
            ∙ unfold after_closing in opened_some d.shows d.fits d.movable (take (suc j) (opens_at N m)) (taken_in (suc j) (opens_at N m)) x z k;
      } in
      shows_tree made (exchanged_tree d.fits d.tree)

  -- each of its moves can be made
  pair_movable : Distinct (closes_at N m) → Distinct (opens_at N m) → AllMovable N (moves_of_pair m) s
  unfolding closing_moves opening_moves
  pair_movable closes-once opens-once =
      movable_append N (closing_moves m) (opening_moves m) s
      (movable_each N Close m.closes s closes-once (λ i z.
      let (on, stands) = (d.movable.closes i).0 z in
      (on.listed, d.free i (Memᴰ.append_left (opens_at N m) z), stands)))
      (rw (closing_moved N m s) (movable_each N Open m.opens (after_closing N m s) opens-once (λ i z. (
        (d.movable.opens i z).listed,
        d.free i (Memᴰ.append_right (closes_at N m) z),
        unfold after_closing in all_out s (closes_at N m) 0 i (λ y. apart_lists d.shows d.fits d.movable i y z) ∙ was_closed d.shows d.fits d.movable i z,
      ))))

-- a number of moves: a closing of the pair is still to come, all of them are made, an opening too, or all of the pair and some more
data Within (m : Moves) (j : ℕ) : Type 0 where
  closing : j < length (closing_moves m) → Within m j
  closed : j ≡ length (closing_moves m) → Within m j
  opening : (i : ℕ) → i < length (opening_moves m) → j ≡ length (closing_moves m) + suc i → Within m j
  past : (i : ℕ) → j ≡ length (moves_of_pair m) + i → Within m j

within : (m : Moves) (j : ℕ) → Within m j
within m j = go (dec_lt j (length (closing_moves m))) (ℕ_discrete j (length (closing_moves m))) (dec_lt j (length (moves_of_pair m)))
  where
    go : Dec (j < length (closing_moves m)) → Dec (j ≡ length (closing_moves m)) → Dec (j < length (moves_of_pair m)) → Within m j
    go (yes b) y z = closing b
    go (no n) (yes e) z = closed e
    go (no n) (no e) (yes b) =
        let long = length-append (closing_moves m) (opening_moves m) in
        opening (j - length (closing_moves m) - 1) (omega arith) (omega arith)
    go (no n) (no e) (no b) = past (j - length (moves_of_pair m)) (omega arith)

-- ---- the first pairs
pub stage_moved : (N : Network) (P : List Moves) (n : ℕ) (s : State) → moved_all N (single_moves (take n P)) s ≡ stage N s P n
unfolding stage single_moves flat_map moved_all
stage_moved N P zero s = refl
stage_moved N [] (suc n) s = refl
stage_moved N (m ∷ P) (suc n) s =
    moved_append N (moves_of_pair m) (single_moves (take n P)) s ∙ rw (pair_moved N m s) (stage_moved N P n (carried_out N m s))

module _ (N : Network) (P : List Moves) (n : ℕ) (s : State) where
  pub before_moved : moved_all N (take (moves_before P n) (single_moves P)) s ≡ stage N s P n
  before_moved = rw (singles_parts n P, take-append_seam (single_moves (take n P)) (single_moves (drop n P))) (stage_moved N P n s)

  -- and then what the next pair closes
  pub between_moved : (q : Moves) → get_elem? P n ≡ some q → moved_all N (take (moves_before P n + length (closing_moves q)) (single_moves P)) s ≡ after_closing N q (stage N s P n)
  between_moved q e =
      let B = single_moves (take n P) in
      let rest = opening_moves q ++ single_moves (drop (suc n) P) in
      let parts : single_moves P ≡ B ++ (closing_moves q ++ rest) =
      singles_parts n P ∙ ap (λ (l : List SwitchOperation). B ++ l) (ap single_moves (drop_some P n q e) ∙ singles_order q (drop (suc n) P)) in
      rw (parts, take-append-add B (closing_moves q ++ rest) (length (closing_moves q)), take-append_seam (closing_moves q) rest, moved_append N B (closing_moves q) s, stage_moved N P n s) (closing_moved N q (stage N s P n))

-- ---- pairs that lead to the wanted branches
module _ (N : Network) where
  -- a tree, or between a closing and its opening
  abbrev Told : List Moves → State → ℕ → Type 0
  Told P s j = Between P j ⊎ Tree (feeder N) (LiveIn N (moved_all N (take j (single_moves P)) s))

  told_later : (m : Moves) (P : List Moves) (s : State) (i : ℕ) → Told P (carried_out N m s) i → Told (m ∷ P) s (length (moves_of_pair m) + i)
  told_later m P s i (inl x) = inl (record { before = suc x.before; pair = x.pair; next = x.next; count = omega (arith, x.count, ap length (singles_first m (take x.before P)), length-append (moves_of_pair m) (single_moves (take x.before P))) })
  told_later m P s i (inr t) = inr (rw (singles_first m P, take-append-add (moves_of_pair m) (single_moves P) i, moved_append N (moves_of_pair m) (take i (single_moves P)) s, pair_moved N m s) t)

  told_pair : (m : Moves) (P : List Moves) (s : State) → Due N s m → Distinct (closes_at N m) → ((i : ℕ) → i ≤ length (single_moves P) → Told P (carried_out N m s) i)
      → (j : ℕ) → Within m j → j ≤ length (single_moves (m ∷ P)) → Told (m ∷ P) s j
  told_pair m P s d apart ih j (closing h) b =
      inr (rw (singles_order m P, take-append-le j (closing_moves m) (opening_moves m ++ single_moves P) (omega arith)) (closing_tree d apart j h))
  told_pair m P s d apart ih j (closed e) b = inl (record { before = 0; pair = m; next = refl; count = unfold single_moves flat_map in omega arith })
  told_pair m P s d apart ih j (opening i h e) b =
      let rest = opening_moves m ++ single_moves P in
      inr (rw (
        e,
        singles_order m P,
        take-append-add (closing_moves m) rest (suc i),
        take-append-le (suc i) (opening_moves m) (single_moves P) h,
        moved_append N (closing_moves m) (take (suc i) (opening_moves m)) s,
        closing_moved N m s,
      ) (opening_tree d i h))
  told_pair m P s d apart ih j (past i e) b =
      rw e (told_later m P s i (ih i (omega (arith, ap length (singles_first m P), length-append (moves_of_pair m) (single_moves P)))))

module _ {N : Network} {present wanted : State} (given : Plannable N present wanted) where
  abbrev own : Pair → Moves
  own = moves_of N present wanted

  abbrev Lead : (ℕ → Bool) → List Pair → Type 0
  Lead E Q = Leads N (live N present) (live N wanted) E Q

  pub leads_movable : {E : ℕ → Bool} {Q : List Pair} {s : State} → Lead E Q → Holds N present wanted given s E → AllMovable N (single_moves (map own Q)) s
  unfolding single_moves flat_map
  leads_movable (there t e) h = tt
  leads_movable {s = s} (next {q = q} {Q = Q} r l) h =
      movable_append N (moves_of_pair (own q)) (single_moves (map own Q)) s
      (pair_movable (due N present wanted given h r) (closes_apart N present wanted given q) (opens_apart N present wanted given q))
      (rw (pair_moved N (own q) s) (leads_movable l (holds_next N present wanted given h r)))

  -- every number of moves is told
  pub leads_told : {E : ℕ → Bool} {Q : List Pair} {s : State} → Lead E Q → Holds N present wanted given s E → (j : ℕ) → j ≤ length (single_moves (map own Q)) → Told N (map own Q) s j
  leads_told (there t e) h zero b = inr (unfold single_moves flat_map moved_all in shows_tree h.shows t)
  leads_told (there t e) h (suc j) b = absurd (unfold single_moves flat_map in omega arith)
  leads_told {s = s} (next {q = q} {Q = Q} r l) h j b =
      told_pair N (own q) (map own Q) s (due N present wanted given h r) (closes_apart N present wanted given q) (leads_told l (holds_next N present wanted given h r)) j (within (own q) j) b
