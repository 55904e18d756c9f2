-- Lists of single moves: carried out one behind the other, cut in two, the same done to several switches, and undone move by move.
use Rattle.std.specs.Prelude.{◌≡◌, ◌≢◌, true, set, take, drop}
use Rattle.std.proofs.Math.Path.{refl, ap}
use Rattle.std.proofs.Common.{sym, ◌∙◌, arith, take-append-drop, length-append, take_all}
use mathlib.Core.List.Memᴰ
use mathlib.Core.List.{List, [], ◌∷◌, ◌++◌, map, reverse, reverse-cons, reverse-append, flat_map, map-append, append_assoc, append-nil, Memᴰ}
use Rattle.std.proofs.Math.Option.{some, none-ne-some}
use Prim.Native.Nat.{ℕ, zero, suc, ◌≤◌, ◌<◌}
use Rattle.std.proofs.Math.Decide.{ℕ_discrete}
use Rattle.std.proofs.Math.ListN.{length, get_elem?, length-set}
use Rattle.std.proofs.lemmas.List.{length-map, length-reverse}
use Rattle.std.proofs.Math.Seq.{set-set, set-get_or, get_or-set_same, get_or-set_other}
use Rattle.numbers.specs.Distinct.{Distinct}
use Rattle.numbers.specs.Parts.{take_some}
use Rattle.numbers.specs.TableLaws.{map_snoc}
use Rattle.network.specs.Records.{Network}
use Rattle.states.specs.Switches.{State, byte, operable, GoodState}
use Rattle.printing.specs.declared.writer.SwitchAction.{SwitchAction}
use Rattle.printing.specs.declared.writer.SwitchAction.TheVariants.{Open, Close}
use Rattle.printing.specs.declared.writer.SwitchOperation.{SwitchOperation}
use Rattle.plan.specs.Plan.{Moves}
use Rattle.plan.specs.Claim.{switch_at, set_all}
use Rattle.resumption.specs.SingleMoves.{to, closing_moves, opening_moves, moves_of_pair, single_moves, byte_after, moved, moved_all, inverse_action, inverse, going_back}
use Rattle.resumption.specs.Claim.{Movable}

-- ---- the moves of pairs
pub singles_append : (P Q : List Moves) → single_moves (P ++ Q) ≡ single_moves P ++ single_moves Q
unfolding single_moves flat_map
singles_append [] Q = refl
singles_append (q ∷ P) Q = rw (singles_append P Q) (sym (append_assoc (moves_of_pair q) (single_moves P) (single_moves Q)))

-- those of the first n pairs come first
pub singles_parts : (n : ℕ) (P : List Moves) → single_moves P ≡ single_moves (take n P) ++ single_moves (drop n P)
singles_parts n P = ap single_moves (sym (take-append-drop n P)) ∙ singles_append (take n P) (drop n P)

pub singles_fewer : (n : ℕ) (P : List Moves) → length (single_moves (take n P)) ≤ length (single_moves P)
singles_fewer n P = omega (arith, ap length (singles_parts n P), length-append (single_moves (take n P)) (single_moves (drop n P)))

pub singles_first : (q : Moves) (P : List Moves) → single_moves (q ∷ P) ≡ moves_of_pair q ++ single_moves P
unfolding single_moves flat_map
singles_first q P = refl

-- one pair more
pub singles_more : (P : List Moves) (q : Moves) → single_moves (P ++ (q ∷ [])) ≡ single_moves P ++ moves_of_pair q
unfolding single_moves flat_map
singles_more P q = singles_append P (q ∷ []) ∙ ap (λ (l : List SwitchOperation). single_moves P ++ l) (append-nil (moves_of_pair q))

-- what the first pair closes, what it opens, and the others
pub singles_order : (q : Moves) (P : List Moves) → single_moves (q ∷ P) ≡ closing_moves q ++ (opening_moves q ++ single_moves P)
singles_order q P = singles_first q P ∙ append_assoc (closing_moves q) (opening_moves q) (single_moves P)

-- ---- going back
pub back_append : (l m : List SwitchOperation) → going_back (l ++ m) ≡ going_back m ++ going_back l
unfolding going_back
back_append l m = ap (map inverse) (reverse-append l m) ∙ map-append inverse (reverse m) (reverse l)

back_first : (o : SwitchOperation) (l : List SwitchOperation) → going_back (o ∷ l) ≡ going_back l ++ (inverse o ∷ [])
unfolding going_back
back_first o l = ap (map inverse) (reverse-cons o l) ∙ map_snoc inverse (reverse l) o

pub length_back : (l : List SwitchOperation) → length (going_back l) ≡ length l
unfolding going_back
length_back l = length-map (reverse l) inverse ∙ length-reverse l

-- ---- carrying them out
byte_small : (a : SwitchAction) → byte_after a ≤ 1
byte_small Open = omega arith
byte_small Close = omega arith

module _ (N : Network) where
  pub moved_append : (l m : List SwitchOperation) (s : State) → moved_all N (l ++ m) s ≡ moved_all N m (moved_all N l s)
  unfolding moved_all
  moved_append [] m s = refl
  moved_append (o ∷ l) m s = moved_append l m (moved N o s)

  -- the next move
  pub moved_next : (l : List SwitchOperation) (n : ℕ) (o : SwitchOperation) → get_elem? l n ≡ some o → (s : State)
      → moved_all N (take (suc n) l) s ≡ moved N o (moved_all N (take n l) s)
  unfolding moved_all
  moved_next l n o e s = ap (λ (m : List SwitchOperation). moved_all N m s) (take_some l n o e) ∙ moved_append (take n l) (o ∷ []) s

  moved_good : (o : SwitchOperation) (s : State) → GoodState N s → GoodState N (moved N o s)
  unfolding moved
  moved_good o s g = record { long = length-set s _ _ ∙ g.long; bytes = λ i l. go (switch_at N o.switch_id) i l (ℕ_discrete i (switch_at N o.switch_id)) }
    where
      go : (p i : ℕ) → i < length N.switches → Dec (i ≡ p) → byte (set s p (byte_after o.action)) i ≤ 1
      go p i l (yes e) = rw (← e, get_or-set_same s i (byte_after o.action) 0 (omega (arith, g.long))) (byte_small o.action)
      go p i l (no n) = rw (get_or-set_other s p i (byte_after o.action) 0 n) (g.bytes i l)

  pub all_good : (l : List SwitchOperation) (s : State) → GoodState N s → GoodState N (moved_all N l s)
  unfolding moved_all
  all_good [] s g = g
  all_good (o ∷ l) s g = all_good l (moved N o s) (moved_good o s g)

  pub moved_byte : (o : SwitchOperation) (s : State) → GoodState N s → switch_at N o.switch_id < length N.switches
      → byte (moved N o s) (switch_at N o.switch_id) ≡ byte_after o.action
  unfolding moved
  moved_byte o s g l = get_or-set_same s (switch_at N o.switch_id) (byte_after o.action) 0 (omega (arith, g.long))

  pub moved_other : (o : SwitchOperation) (s : State) (i : ℕ) → i ≢ switch_at N o.switch_id → byte (moved N o s) i ≡ byte s i
  unfolding moved
  moved_other o s i n = get_or-set_other s (switch_at N o.switch_id) i (byte_after o.action) 0 n

  -- ---- moves that each can be made when it comes to them
  abbrev pub AllMovable : List SwitchOperation → State → Type 0
  AllMovable [] s = Unit {0}
  AllMovable (o ∷ l) s = Movable N o s × AllMovable l (moved N o s)

  pub movable_append : (l m : List SwitchOperation) (s : State) → AllMovable l s → AllMovable m (moved_all N l s) → AllMovable (l ++ m) s
  unfolding moved_all
  movable_append [] m s h k = k
  movable_append (o ∷ l) m s h k = (h.0, movable_append l m (moved N o s) h.1 k)

  pub movable_split : (l m : List SwitchOperation) (s : State) → AllMovable (l ++ m) s → AllMovable l s × AllMovable m (moved_all N l s)
  unfolding moved_all
  movable_split [] m s h = (tt, h)
  movable_split (o ∷ l) m s h = let r = movable_split l m (moved N o s) h.1 in ((h.0, r.0), r.1)

  pub movable_at : (l : List SwitchOperation) (s : State) → AllMovable l s → (n : ℕ) (o : SwitchOperation) → get_elem? l n ≡ some o → Movable N o (moved_all N (take n l) s)
  unfolding moved_all
  movable_at [] s h n o e = absurd (none-ne-some o e)
  movable_at (x ∷ l) s h zero o e = let p : x ≡ o = cc in rw (← p) h.0
  movable_at (x ∷ l) s h (suc n) o e = movable_at l (moved N x s) h.1 n o e

  -- ---- the same done to several switches, by their ids
  -- to the first n of them
  pub moved_some : (a : SwitchAction) (n : ℕ) (l : List ℕ) (s : State) → moved_all N (take n (map (to a) l)) s ≡ set_all s (take n (map (switch_at N) l)) (byte_after a)
  unfolding moved_all moved set_all
  moved_some a zero l s = refl
  moved_some a (suc n) [] s = refl
  moved_some a (suc n) (x ∷ l) s = moved_some a n l (set s (switch_at N x) (byte_after a))

  -- to all of them
  pub moved_each : (a : SwitchAction) (l : List ℕ) (s : State) → moved_all N (map (to a) l) s ≡ set_all s (map (switch_at N) l) (byte_after a)
  moved_each a l s =
      ap (λ (m : List SwitchOperation). moved_all N m s) (sym (take_all (length l) (map (to a) l) (omega (arith, length-map l (to a)))))
      ∙ moved_some a (length l) l s
      ∙ ap (λ (m : List ℕ). set_all s m (byte_after a)) (take_all (length l) (map (switch_at N) l) (omega (arith, length-map l (switch_at N))))

  -- each is listed and operable, stands the other way before, and none is named twice
  pub movable_each : (a : SwitchAction) (l : List ℕ) (s : State) → Distinct (map (switch_at N) l)
      → ((i : ℕ) → Memᴰ i (map (switch_at N) l) → (i < length N.switches) × (operable N i ≡ true) × (byte s i ≡ byte_after (inverse_action a)))
      → AllMovable (map (to a) l) s
  unfolding moved
  movable_each a [] s d h = tt
  movable_each a (x ∷ l) s d h =
      let (listed, free, stands) = h (switch_at N x) (Memᴰ.head refl) in (
        record { listed = listed; free = free; stands = stands },
        movable_each a l (set s (switch_at N x) (byte_after a)) d.1 (λ i z.
            let (b, f, t) = h i (Memᴰ.tail z) in
            (b, f, get_or-set_other s (switch_at N x) i (byte_after a) 0 (λ e. d.0 (Memᴰ.cast (sym e) z)) ∙ t)),
      )

  -- a move that changed its byte, and its inverse
  undone_one : (o : SwitchOperation) (s : State) → Movable N o s → moved N (inverse o) (moved N o s) ≡ s
  unfolding moved
  undone_one o s h =
      set-set s (switch_at N o.switch_id) _ _ ∙ ap (set s (switch_at N o.switch_id)) (sym h.stands) ∙ set-get_or s (switch_at N o.switch_id) 0

  pub undone_all : (l : List SwitchOperation) (s : State) → AllMovable l s → moved_all N (going_back l) (moved_all N l s) ≡ s
  unfolding moved_all going_back
  undone_all [] s h = refl
  undone_all (o ∷ l) s h =
      ap (λ (r : List SwitchOperation). moved_all N r (moved_all N l (moved N o s))) (back_first o l)
      ∙ moved_append (going_back l) (inverse o ∷ []) (moved_all N l (moved N o s))
      ∙ ap (moved N (inverse o)) (undone_all l (moved N o s) h.1)
      ∙ undone_one o s h.0
