-- Feeders as graphs: what chain, path, loop, connected and radial mean. Buses and branches go by their positions, from 0.
-- A branch with equal ends, and two branches between the same buses, are allowed.
use Rattle.std.specs.Prelude.{◌≡◌, ◌⊎◌, ◌≢◌, List, [], ◌∷◌, Bool, true, ℕ, ◌<◌}
use Rattle.numbers.specs.Distinct.{Distinct}

pub record Net : Type 0 where
  pub buses : ℕ
  pub branches : ℕ
  pub from : ℕ → ℕ
  pub to : ℕ → ℕ

-- the ends of every branch are buses
abbrev pub Sound : Net → Type 0
Sound N = (k : ℕ) → k < N.branches → (N.from k < N.buses) × (N.to k < N.buses)

-- a set of branches, by a type for each position
abbrev pub Branches : Type 1
Branches = ℕ → Type 0

-- the set that has a flag for each position
abbrev pub Live : Net → (ℕ → Bool) → Branches
Live N E k = (k < N.branches) × (E k ≡ true)

-- the live branches among the first k
abbrev pub First : (ℕ → Bool) → ℕ → Branches
First E k i = (i < k) × (E i ≡ true)

-- a set with branch e, and a set without branch f
abbrev pub Plus : Branches → ℕ → Branches
Plus S e k = S k ⊎ (k ≡ e)

abbrev pub Minus : Branches → ℕ → Branches
Minus S f k = S k × (k ≢ f)

-- branch k lies between buses a and b: from a to b, or from b to a
pub data Ends (N : Net) (k a b : ℕ) : Type 0 where
  along : N.from k ≡ a → N.to k ≡ b → Ends N k a b
  against : N.from k ≡ b → N.to k ≡ a → Ends N k a b

-- document 01's chain: branches of S, each starting at the bus where the last one ended; the list says which, in order
pub data Chain (N : Net) (S : Branches) : ℕ → ℕ → List ℕ → Type 0 where
  stay : {a b : ℕ} → a ≡ b → Chain N S a b []
  step : {a b c k : ℕ} {l : List ℕ} → S k → Ends N k a c → Chain N S c b l → Chain N S a b (k ∷ l)

-- the buses that a chain visits
unfoldable pub visited : {N : Net} {S : Branches} {a b : ℕ} {l : List ℕ} → Chain N S a b l → List ℕ
visited (stay {a = a} e) = a ∷ []
visited (step {a = a} s e c) = a ∷ visited c

-- document 01's path: a chain with no bus twice
abbrev pub Path : (N : Net) (S : Branches) → ℕ → ℕ → List ℕ → Type 0
Path N S a b l = (c : Chain N S a b l) × Distinct (visited c)

abbrev pub Joined : (N : Net) (S : Branches) → ℕ → ℕ → Type 0
Joined N S a b = (l : List ℕ) × Chain N S a b l

-- every two buses are joined
unfoldable pub Connected : (N : Net) (S : Branches) → Type 0
Connected N S = (a b : ℕ) → a < N.buses → b < N.buses → Joined N S a b

-- a loop: a branch of S and a path between its ends that does without it. Its branches are `branch` and `rest`.
-- With equal ends the path is empty; of two parallel branches the other one is the path
pub record Loop (N : Net) (S : Branches) : Type 0 where
  pub branch : ℕ
  pub rest : List ℕ
  pub own : S branch
  pub around : Path N (Minus S branch) (N.from branch) (N.to branch) rest

-- document 01's radial, in its meaning: the branches connect all buses without a loop
pub record Tree (N : Net) (S : Branches) : Type 0 where
  pub connected : Connected N S
  pub no_loop : ¬ Loop N S
