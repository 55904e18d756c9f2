-- Several bytes of a state set, one after the other: those in the list, and those outside.
use Rattle.std.specs.Prelude.{◌≡◌, refl, ◌⊎◌, ℕ, ◌<◌, length, set}
use Rattle.std.proofs.Common.{◌∙◌, inl, inr, length-set, get_or-set_same, get_or-set_other}
use mathlib.Core.List.Memᴰ
use mathlib.Core.List.{List, [], ◌∷◌, Memᴰ}
use Rattle.std.proofs.Math.Decide.{ℕ_discrete}
use Rattle.states.specs.Switches.{State, byte}
use Rattle.plan.specs.Claim.{set_all}

pub length_all : (s : State) (l : List ℕ) (b : ℕ) → length (set_all s l b) ≡ length s
unfolding set_all
length_all s [] b = refl
length_all s (x ∷ l) b = length_all (set s x b) l b ∙ length-set s x b

pub all_out : (s : State) (l : List ℕ) (b i : ℕ) → ¬ Memᴰ i l → byte (set_all s l b) i ≡ byte s i
unfolding set_all
all_out s [] b i n = refl
all_out s (x ∷ l) b i n = all_out (set s x b) l b i (λ m. n (Memᴰ.tail m)) ∙ get_or-set_other s x i b 0 (λ e. n (Memᴰ.head e))

all_stays : (s : State) (l : List ℕ) (b i : ℕ) → i < length s → byte s i ≡ b → byte (set_all s l b) i ≡ b
unfolding set_all
all_stays s [] b i h e = e
all_stays s (x ∷ l) b i h e = all_stays (set s x b) l b i (rw length-set h) (go (ℕ_discrete i x))
  where
    go : Dec (i ≡ x) → byte (set s x b) i ≡ b
    go (yes p) = rw (← p) (get_or-set_same s i b 0 h)
    go (no n) = get_or-set_other s x i b 0 n ∙ e

pub all_in : (s : State) (l : List ℕ) (b i : ℕ) → i < length s → Memᴰ i l → byte (set_all s l b) i ≡ b
unfolding set_all
all_in s [] b i h m = absurd (Memᴰ.not-nil m)
all_in s (x ∷ l) b i h m = go (Memᴰ.cases_cons m) (all_in (set s x b) l b i (rw length-set h))
  where
    go : (i ≡ x) ⊎ Memᴰ i l → (Memᴰ i l → byte (set_all (set s x b) l b) i ≡ b) → byte (set_all (set s x b) l b) i ≡ b
    go (inl e) ih = all_stays (set s x b) l b i (rw length-set h) (rw (← e) (get_or-set_same s i b 0 h))
    go (inr k) ih = ih k
