-- The check of records finds nothing exactly where the network is inside document 01's limits and, in a new text, no branch goes from a bus to itself.
use Rattle.std.specs.Prelude.{◌≡◌, refl, ◌⊎◌, ◌↔◌, ◌≢◌, Bool, true, false, cond, not, ◌&&◌, ◌||◌, ℕ, suc, ◌+◌, ◌≤◌, ◌<◌, leb, ltb, eqb}
use Rattle.std.proofs.Common.{sym, ap, ◌∙◌, inl, inr, arith, ltb-false, le-ltb, leb-false, eqb-true, eq-eqb, ne_eqb}
use Rattle.std.proofs.Math.Bool.{true≢false}
use mathlib.Core.List.Memᴰ
use mathlib.Core.List.{List, [], ◌∷◌, ◌++◌, map, Memᴰ}
use Rattle.std.proofs.lemmas.Bool.{lt-leb, eqb-false, not-false}
use Rattle.numbers.specs.Choose.{among}
use Rattle.numbers.specs.ChooseLaws.{among_mem, mem_among, not_among}
use Rattle.numbers.specs.TableLaws.{map_snoc}
use Rattle.numbers.specs.Tests.{neither, or_none}
use Rattle.numbers.specs.Distinct.{Distinct}
use Rattle.numbers.specs.Members.{distinct_once}
use Rattle.numbers.specs.Times.{Counting, times, counted_last, times_counting}
use Rattle.network.specs.declared.bus.Bus.{Bus}
use Rattle.network.specs.declared.branch.Branch.{Branch}
use Rattle.network.specs.declared.switch.Switch.{Switch}
use Rattle.network.specs.Records.{Network}
use Rattle.network.specs.Answers.{accepted, Fault, judge}
use Rattle.network.specs.AnswerLaws.{Passes, judge_iff, then_iff}
use Rattle.network.specs.Limits.{Head, ok_base, ok_load, ok_r, bus_id, switch_id, is_own_loop, on, ties, method_byte}
use Rattle.network.specs.Faults.{head_faults, bus_faults, branch_faults, switch_faults}
use Rattle.network.specs.TieLaws.{ties_counting}
use Rattle.network.specs.Check.{head_of, check_run, check_lines, check_records}
use Rattle.network.specs.Inside.{Each, HasBus, Inside, Proper}
use Rattle.network.specs.EachLaws.{each_map}

-- ---- Q holds of each of the list, with those before it
abbrev Through : {A : Type 0} → (List A → A → Type 0) → List A → List A → Type 0
Through Q before [] = Unit {0}
Through Q before (a ∷ rest) = Q before a × Through Q (before ++ (a ∷ [])) rest

run_iff : {A : Type 0} (faults : List A → A → List Fault) (before : List A) (p : ℕ) (l : List A)
    → (check_run faults before p l ≡ accepted tt) ↔ Through (λ b a. Passes (faults b a)) before l
unfolding check_run
run_iff faults before p [] = (λ e. tt, λ h. refl)
run_iff faults before p (a ∷ rest) =
    let j = judge_iff (faults before a) p in
    let r = run_iff faults (before ++ (a ∷ [])) (suc p) rest in
    let t = then_iff (judge (faults before a) p) (check_run faults (before ++ (a ∷ [])) (suc p) rest) in
    (λ e. (j.0 (t.0 e).0, r.0 (t.0 e).1), λ h. t.1 (j.1 h.0, r.1 h.1))

module _ {A : Type 0} where
  weaken : (Q R : List A → A → Type 0) (before l : List A) → ((b : List A) (a : A) → Q b a → R b a) → Through Q before l → Through R before l
  weaken Q R before [] f h = tt
  weaken Q R before (a ∷ rest) f h = (f before a h.0, weaken Q R (before ++ (a ∷ [])) rest f h.1)

  zip : (Q R : List A → A → Type 0) (before l : List A) → Through Q before l → Through R before l → Through (λ b a. Q b a × R b a) before l
  zip Q R before [] h k = tt
  zip Q R before (a ∷ rest) h k = ((h.0, k.0), zip Q R (before ++ (a ∷ [])) rest h.1 k.1)

  -- what holds throughout for every k holds for every k throughout
  for_all : {K : Type 0} (Q : K → List A → A → Type 0) (before l : List A) → ((k : K) → Through (Q k) before l) → Through (λ b a. (k : K) → Q k b a) before l
  for_all Q before [] h = tt
  for_all Q before (a ∷ rest) h = (λ k. (h k).0, for_all Q (before ++ (a ∷ [])) rest (λ k. (h k).1))

  -- where those before play no part
  through_each : (P : A → Type 0) (before l : List A) → Through (λ b a. P a) before l → Each P l
  through_each P before [] h = tt
  through_each P before (a ∷ rest) h = (h.0, through_each P (before ++ (a ∷ [])) rest h.1)

  each_through : (P : A → Type 0) (before l : List A) → Each P l → Through (λ b a. P a) before l
  each_through P before [] h = tt
  each_through P before (a ∷ rest) h = (h.0, each_through P (before ++ (a ∷ [])) rest h.1)

-- ---- none twice: each is new to those before it
module _ {A : Type 0} (f : A → ℕ) where
  abbrev New : List A → A → Type 0
  New before a = among (f a) (map f before) ≡ false

  -- no key of the list is a key of those before
  Apart : List A → List A → Type 0
  Apart before l = (x : ℕ) → Memᴰ x (map f l) → Memᴰ x (map f before) → ⊥

  new_distinct : (before l : List A) → Through New before l → Distinct (map f l) × Apart before l
  unfolding Apart
  new_distinct before [] h = (tt, λ x m k. Memᴰ.not-nil m)
  new_distinct before (a ∷ rest) h =
      let ih = new_distinct (before ++ (a ∷ [])) rest h.1 in
      let apart : (x : ℕ) → Memᴰ x (map f rest) → Memᴰ x (map f before ++ (f a ∷ [])) → ⊥ = rw (map_snoc f before a) at ih.1 in (
        (λ m. apart (f a) m (Memᴰ.append_right (map f before) (Memᴰ.head refl)), ih.0),
        λ x m k. go x k (Memᴰ.cases_cons m) (λ n. apart x n (Memᴰ.append_left (f a ∷ []) k)),
      )
    where
      go : (x : ℕ) → Memᴰ x (map f before) → (x ≡ f a) ⊎ Memᴰ x (map f rest) → (Memᴰ x (map f rest) → ⊥) → ⊥
      go x k (inl q) n = true≢false (sym (mem_among (f a) (map f before) (Memᴰ.cast (sym q) k)) ∙ h.0)
      go x k (inr m) n = n m

  distinct_new : (before l : List A) → Distinct (map f l) → Apart before l → Through New before l
  unfolding Apart
  distinct_new before [] d h = tt
  distinct_new before (a ∷ rest) d h = (
    not_among (f a) (map f before) (h (f a) (Memᴰ.head refl)),
    distinct_new (before ++ (a ∷ [])) rest d.1 (rw (map_snoc f before a) (λ x m k. go x m (Memᴰ.append_cases (map f before) k))),
  )
    where
      go : (x : ℕ) → Memᴰ x (map f rest) → Memᴰ x (map f before) ⊎ Memᴰ x (f a ∷ []) → ⊥
      go x m (inl k) = h x (Memᴰ.tail m) k
      go x m (inr k) = d.0 (Memᴰ.cast (sym (Memᴰ.eq_of_singleton k)) m)

  first_apart : (l : List A) → Apart [] l
  unfolding Apart
  first_apart l x m k = Memᴰ.not-nil k

-- ---- at most so many pass a test: none that passes has as many before it
module _ {A : Type 0} (p : A → Bool) (many : List A → ℕ) (c : Counting p many) (limit : ℕ) where
  abbrev Room : List A → A → Type 0
  Room before a = (p a && leb limit (many before)) ≡ false

  few : (before l : List A) → Through Room before l → many before ≤ limit → many before + many l ≤ limit
  few before [] t b = omega (arith, c.nothing)
  few before (a ∷ rest) t b = rw (c.one_more a rest) (go (p a) refl (few (before ++ (a ∷ [])) rest t.1))
    where
      go : (k : Bool) → p a ≡ k → (many (before ++ (a ∷ [])) ≤ limit → many (before ++ (a ∷ [])) + many rest ≤ limit) → many before + cond k (suc (many rest)) (many rest) ≤ limit
      go true e ih =
          let l : many before < limit = leb-false limit (many before) (rw e at t.0) in
          let i : suc (many before) ≤ limit → suc (many before) + many rest ≤ limit = rw (counted_last p many c before a, e) at ih in
          let j = i l in omega arith
      go false e ih = let i : many before ≤ limit → many before + many rest ≤ limit = rw (counted_last p many c before a, e) at ih in i b

  room : (before l : List A) → many before + many l ≤ limit → Through Room before l
  room before [] t = tt
  room before (a ∷ rest) t = (one (p a) refl, room (before ++ (a ∷ [])) rest (rw (counted_last p many c before a) (more (p a) refl)))
    where
      one : (k : Bool) → p a ≡ k → (k && leb limit (many before)) ≡ false
      one true e = let j : many before + suc (many rest) ≤ limit = rw (c.one_more a rest, e) at t in lt-leb limit (many before) (omega arith)
      one false e = refl

      more : (k : Bool) → p a ≡ k → cond k (suc (many before)) (many before) + many rest ≤ limit
      more true e = let j : many before + suc (many rest) ≤ limit = rw (c.one_more a rest, e) at t in omega arith
      more false e = rw (c.one_more a rest, e) at t

  few_iff : (l : List A) → Through Room [] l ↔ (many l ≤ limit)
  few_iff l = (
    λ t. let z = few [] l t (omega (arith, c.nothing)) in omega (arith, c.nothing),
    λ h. room [] l (omega (arith, c.nothing)),
  )

-- ---- at most ten ties
abbrev FewTies : Head → List Switch → Switch → Type 0
FewTies h before s = (eqb (method_byte h.algorithm) 2 && (s.normally_open && leb 10 (ties before))) ≡ false

ties_iff : (h : Head) (l : List Switch) → Through (FewTies h) [] l ↔ (method_byte h.algorithm ≡ 2 → ties l ≤ 10)
ties_iff h l = (
  λ t m. (few_iff _ ties ties_counting 10 l).0 (weaken (FewTies h) RoomForTie [] l (λ b s f. rw (eq-eqb (method_byte h.algorithm) 2 m) at f) t),
  λ i. weaken _ (FewTies h) [] l asked (for_all (λ m. RoomForTie) [] l (λ m. (few_iff _ ties ties_counting 10 l).1 (i m))),
)
  where
    RoomForTie : List Switch → Switch → Type 0
    RoomForTie = Room (λ s. s.normally_open) ties ties_counting 10

    asked : (before : List Switch) (s : Switch) → (method_byte h.algorithm ≡ 2 → RoomForTie before s) → FewTies h before s
    asked before s r = go (eqb (method_byte h.algorithm) 2) refl
      where
        go : (b : Bool) → eqb (method_byte h.algorithm) 2 ≡ b → (b && (s.normally_open && leb 10 (ties before))) ≡ false
        go true e = r (eqb-true (method_byte h.algorithm) 2 e)
        go false e = refl

-- ---- no third: none has two of its own key before it exactly where no key stands three times
module _ {A : Type 0} (key : A → ℕ) where
  abbrev NoThird : List A → A → Type 0
  NoThird before a = leb 2 (times (key a) (map key before)) ≡ false

  abbrev RoomFor : ℕ → List A → A → Type 0
  RoomFor k = Room (λ a. eqb k (key a)) (λ l. times k (map key l)) (times_counting key k) 2

  third_iff : (l : List A) → Through NoThird [] l ↔ ((k : ℕ) → times k (map key l) ≤ 2)
  third_iff l = (
    λ t k. (few_iff _ _ (times_counting key k) 2 l).0 (weaken NoThird (RoomFor k) [] l (λ b a. of_key k b a) t),
    λ h. weaken _ NoThird [] l (λ b a r. rw (eq-eqb (key a) (key a) refl) at (r (key a))) (for_all RoomFor [] l (λ k. (few_iff _ _ (times_counting key k) 2 l).1 (h k))),
  )
    where
      of_key : (k : ℕ) (before : List A) (a : A) → NoThird before a → RoomFor k before a
      of_key k before a n = go (eqb k (key a)) refl
        where
          go : (b : Bool) → eqb k (key a) ≡ b → (b && leb 2 (times k (map key before))) ≡ false
          go true e = rw (eqb-true k (key a) e) n
          go false e = refl

-- ---- the four kinds
-- what the head's conditions leave
pub record HeadInside (h : Head) : Type 0 where
  pub iterations : h.iterations ≤ 1000
  pub counts : (h.buses ≤ 256) × (h.branches ≤ 512) × (h.switches ≤ 512)
  pub base : ok_base h.base ≡ true

pub head_iff : (h : Head) → Passes (head_faults h) ↔ HeadInside h
unfolding head_faults
head_iff h = (left, right)
  where
    left : Passes (head_faults h) → HeadInside h
    left p =
        let c = neither (ltb 256 h.buses || ltb 512 h.branches) (ltb 512 h.switches) p.1.0 in
        let d = neither (ltb 256 h.buses) (ltb 512 h.branches) c.0 in
        record {
          iterations = ltb-false 1000 h.iterations p.0;
          counts = (ltb-false 256 h.buses d.0, ltb-false 512 h.branches d.1, ltb-false 512 h.switches c.1);
          base = not-false (ok_base h.base) p.1.1.0;
        }

    right : HeadInside h → Passes (head_faults h)
    right i = (
      le-ltb 1000 h.iterations i.iterations,
      (
        or_none _ _ (or_none _ _ (le-ltb 256 h.buses i.counts.0) (le-ltb 512 h.branches i.counts.1)) (le-ltb 512 h.switches i.counts.2),
        (ap not i.base, tt),
      ),
    )

buses_iff : (l : List Bus) → Through (λ b a. Passes (bus_faults b a)) [] l ↔ (Each (λ b. ok_load b.pd.0 ≡ true) l × Distinct (map bus_id l))
unfolding bus_faults
buses_iff l = (left, right)
  where
    left : Through (λ b a. Passes (bus_faults b a)) [] l → Each (λ b. ok_load b.pd.0 ≡ true) l × Distinct (map bus_id l)
    left t = (
      through_each (λ b. ok_load b.pd.0 ≡ true) [] l (weaken _ _ [] l (λ e a p. not-false (ok_load a.pd.0) p.0) t),
      (new_distinct bus_id [] l (weaken _ (New bus_id) [] l (λ e a p. p.1.0) t)).0,
    )

    right : Each (λ b. ok_load b.pd.0 ≡ true) l × Distinct (map bus_id l) → Through (λ b a. Passes (bus_faults b a)) [] l
    right i =
        weaken _ _ [] l (λ e a p. (ap not p.0, (p.1, tt)))
        (zip (λ e a. ok_load a.pd.0 ≡ true) (New bus_id) [] l (each_through (λ b. ok_load b.pd.0 ≡ true) [] l i.0) (distinct_new bus_id [] l i.1 (first_apart bus_id l)))

-- what a branch's conditions leave
record BranchInside (stored : Bool) (ids : List ℕ) (b : Branch) : Type 0 where
  resistance : ok_r b.r ≡ true
  from_listed : Memᴰ b.from_bus ids
  to_listed : Memᴰ b.to_bus ids
  proper : stored ≡ false → b.from_bus ≢ b.to_bus

-- 17's condition
own_iff : (stored : Bool) (b : Branch) → ((not stored && is_own_loop b) ≡ false) ↔ (stored ≡ false → b.from_bus ≢ b.to_bus)
own_iff true b = (λ e s. absurd (true≢false s), λ h. refl)
own_iff false b = (λ e s. eqb-false b.from_bus b.to_bus e, λ h. ne_eqb b.from_bus b.to_bus (h refl))

branch_iff : (stored : Bool) (buses : List Bus) (b : Branch) → Passes (branch_faults stored buses b) ↔ BranchInside stored (map bus_id buses) b
unfolding branch_faults
branch_iff stored buses b = (left, right)
  where
    left : Passes (branch_faults stored buses b) → BranchInside stored (map bus_id buses) b
    left p =
        let n = neither (not (among b.from_bus (map bus_id buses))) (not (among b.to_bus (map bus_id buses))) p.1.0 in
        record {
          resistance = not-false (ok_r b.r) p.0;
          from_listed = among_mem b.from_bus (map bus_id buses) (not-false _ n.0);
          to_listed = among_mem b.to_bus (map bus_id buses) (not-false _ n.1);
          proper = (own_iff stored b).0 p.1.1.0;
        }

    right : BranchInside stored (map bus_id buses) b → Passes (branch_faults stored buses b)
    right i = (
      ap not i.resistance,
      (
        or_none _ _ (ap not (mem_among b.from_bus (map bus_id buses) i.from_listed)) (ap not (mem_among b.to_bus (map bus_id buses) i.to_listed)),
        ((own_iff stored b).1 i.proper, tt),
      ),
    )

branches_iff : (stored : Bool) (buses : List Bus) (l : List Branch) → Through (λ b a. Passes (branch_faults stored buses a)) [] l ↔ Each (BranchInside stored (map bus_id buses)) l
branches_iff stored buses l = (
  λ t. through_each Fits [] l (weaken Judged (λ e a. Fits a) [] l (λ e a p. (branch_iff stored buses a).0 p) t),
  λ i. weaken (λ e a. Fits a) Judged [] l (λ e a p. (branch_iff stored buses a).1 p) (each_through Fits [] l i),
)
  where
    Judged : List Branch → Branch → Type 0
    Judged before a = Passes (branch_faults stored buses a)

    Fits : Branch → Type 0
    Fits = BranchInside stored (map bus_id buses)

record SwitchesInside (h : Head) (l : List Switch) : Type 0 where
  positions : Each (λ s. s.branch_idx < h.branches) l
  ids : Distinct (map switch_id l)
  at_most_two : (k : ℕ) → times k (map on l) ≤ 2
  few_ties : method_byte h.algorithm ≡ 2 → ties l ≤ 10

switches_iff : (h : Head) (l : List Switch) → Through (λ b a. Passes (switch_faults h b a)) [] l ↔ SwitchesInside h l
unfolding switch_faults
switches_iff h l = (left, right)
  where
    left : Through (λ b a. Passes (switch_faults h b a)) [] l → SwitchesInside h l
    left t = record {
      positions = through_each (λ s. s.branch_idx < h.branches) [] l (weaken _ _ [] l (λ e a p. leb-false h.branches a.branch_idx p.0) t);
      ids = (new_distinct switch_id [] l (weaken _ (New switch_id) [] l (λ e a p. p.1.0) t)).0;
      at_most_two = (third_iff on l).0 (weaken _ (NoThird on) [] l (λ e a p. p.1.1.0) t);
      few_ties = (ties_iff h l).0 (weaken _ (FewTies h) [] l (λ e a p. p.1.1.1.0) t);
    }

    right : SwitchesInside h l → Through (λ b a. Passes (switch_faults h b a)) [] l
    right i =
        let t₁ = each_through (λ (s : Switch). s.branch_idx < h.branches) [] l i.positions in
        let t₂ = distinct_new switch_id [] l i.ids (first_apart switch_id l) in
        let t₃ = (third_iff on l).1 i.at_most_two in
        let t₄ = (ties_iff h l).1 i.few_ties in
        weaken _ _ [] l
        (λ e a p. (lt-leb h.branches a.branch_idx p.0, (p.1.0, (p.1.1.0, (p.1.1.1, tt)))))
        (zip _ _ [] l t₁ (zip (New switch_id) _ [] l t₂ (zip (NoThird on) (FewTies h) [] l t₃ t₄)))

-- ---- the whole network
pub lines_inside : (stored : Bool) (N : Network) → (check_lines stored N ≡ accepted tt) ↔ (Inside N × (stored ≡ false → Proper N))
unfolding check_lines head_of
lines_inside stored N = (left, right)
  where
    h : Head
    h = head_of N

    left : check_lines stored N ≡ accepted tt → Inside N × (stored ≡ false → Proper N)
    left e =
        let t₀ = (then_iff (judge (head_faults h) 1) _).0 e in
        let t₁ = (then_iff (check_run bus_faults [] 2 N.buses) _).0 t₀.1 in
        let t₂ = (then_iff (check_run (λ before. branch_faults stored N.buses) [] (2 + h.buses) N.branches) _).0 t₁.1 in
        let i = (head_iff h).0 ((judge_iff (head_faults h) 1).0 t₀.0) in
        let b = (buses_iff N.buses).0 ((run_iff bus_faults [] 2 N.buses).0 t₁.0) in
        let r = (branches_iff stored N.buses N.branches).0 ((run_iff (λ before. branch_faults stored N.buses) [] (2 + h.buses) N.branches).0 t₂.0) in
        let s = (switches_iff h N.switches).0 ((run_iff (switch_faults h) [] (2 + h.buses + h.branches) N.switches).0 t₂.1) in (
          record {
            iterations = i.iterations;
            counts = i.counts;
            base = i.base;
            loads = b.0;
            bus_ids = b.1;
            resistances = each_map _ _ N.branches (λ a p. p.resistance) r;
            ends = each_map _ _ N.branches (λ a p. (p.from_listed, p.to_listed)) r;
            positions = s.positions;
            switch_ids = s.ids;
            at_most_two = s.at_most_two;
            few_ties = s.few_ties;
          },
          λ new. each_map _ _ N.branches (λ a p. p.proper new) r,
        )

    right : Inside N × (stored ≡ false → Proper N) → check_lines stored N ≡ accepted tt
    right (i, proper) =
        let v₀ = (judge_iff (head_faults h) 1).1 ((head_iff h).1 (record { iterations = i.iterations; counts = i.counts; base = i.base })) in
        let v₁ = (run_iff bus_faults [] 2 N.buses).1 ((buses_iff N.buses).1 (i.loads, i.bus_ids)) in
        let ends : Each (BranchInside stored (map bus_id N.buses)) N.branches = each-zip N.branches i.resistances i.ends proper in
        let v₂ = (run_iff (λ before. branch_faults stored N.buses) [] (2 + h.buses) N.branches).1 ((branches_iff stored N.buses N.branches).1 ends) in
        let v₃ = (run_iff (switch_faults h) [] (2 + h.buses + h.branches) N.switches).1 ((switches_iff h N.switches).1 (record { positions = i.positions; ids = i.switch_ids; at_most_two = i.at_most_two; few_ties = i.few_ties })) in
        (then_iff (judge (head_faults h) 1) _).1 (v₀, (then_iff (check_run bus_faults [] 2 N.buses) _).1 (v₁, (then_iff (check_run (λ before. branch_faults stored N.buses) [] (2 + h.buses) N.branches) _).1 (v₂, v₃)))
      where
        each-zip :
            (l : List Branch)
            → Each (λ b. ok_r b.r ≡ true) l
            → Each (λ b. HasBus N b.from_bus × HasBus N b.to_bus) l
            → (stored ≡ false → Each (λ b. b.from_bus ≢ b.to_bus) l)
            → Each (BranchInside stored (map bus_id N.buses)) l
        each-zip [] q r o = tt
        each-zip (b ∷ rest) q r o = (
          record { resistance = q.0; from_listed = r.0.0; to_listed = r.0.1; proper = λ new. (o new).0 },
          each-zip rest q.1 r.1 (λ new. (o new).1),
        )

-- document 01's rows alone
pub check_inside : (N : Network) → (check_records N ≡ accepted tt) ↔ Inside N
unfolding check_records
check_inside N = (λ e. ((lines_inside true N).0 e).0, λ i. (lines_inside true N).1 (i, λ new. absurd (true≢false new)))

-- lines that pass are records that do
pub lines_records : (stored : Bool) (N : Network) → check_lines stored N ≡ accepted tt → check_records N ≡ accepted tt
lines_records stored N e = (check_inside N).1 ((lines_inside stored N).0 e).0

-- "A switch that was accepted before is accepted": no switch is a third where no branch has two
pub once_few : (N : Network) → Distinct (map on N.switches) → (k : ℕ) → times k (map on N.switches) ≤ 2
once_few N once k = omega (arith, distinct_once (map on N.switches) once k)
