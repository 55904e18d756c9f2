-- The flags of a state's live branches after a switch has moved: no flag but that of its branch changes.
use Rattle.std.specs.Prelude.{◌≡◌, refl, Bool, false, ◌&&◌, ℕ, ◌<◌, eqb, length, set}
use Rattle.std.proofs.Common.{sym, arith}
use Rattle.std.proofs.Math.Decide.{dec_lt}
use Rattle.std.proofs.Math.ListN.{get_or-eq_default}
use Rattle.numbers.specs.TableLaws.{table_set}
use Rattle.network.specs.Records.{Network, no_switch}
use Rattle.network.specs.Inside.{Inside}
use Rattle.network.specs.Positions.{on_a_branch}
use Rattle.states.specs.Live.{live}
use Rattle.feeders.specs.FeederRows.{live_flags}
use Rattle.states.specs.Switches.{State, byte, branch_of, size, toggled}
use Rattle.states.specs.LiveBytes.{On, moved_other, opened_dead}
use Rattle.states.specs.OpenCounts.{one_open, live_closed, live_toggled}

module _ (N : Network) (inside : Inside N) where
  -- also where no switch is listed
  pub on_flagged : (i : ℕ) → branch_of N i < 512
  on_flagged i = go (dec_lt i (size N))
    where
      go : Dec (i < size N) → branch_of N i < 512
      go (yes l) = omega (arith, on_a_branch N inside i l, inside.counts.1)
      go (no n) = rw (get_or-eq_default N.switches no_switch {n = i} (omega arith), branch_of) (omega arith)

  module _ (s : State) (long : length s ≡ size N) (i : ℕ) (l : i < size N) where
    own : On N (branch_of N i) i
    own = record { listed = l; here = refl }

    moved_flag : (b : ℕ) (v : Bool) → live N (set s i b) (branch_of N i) ≡ v → set (live_flags N s) (branch_of N i) v ≡ live_flags N (set s i b)
    moved_flag b v e = table_set (live N s) (live N (set s i b)) 512 (branch_of N i) v (on_flagged i) e (λ k m n. sym (moved_other N s (branch_of N i) i own b k n))

    pub flags_opened : set (live_flags N s) (branch_of N i) false ≡ live_flags N (set s i 1)
    flags_opened = moved_flag 1 false (opened_dead N s (branch_of N i) i own long)

    -- an open switch closed: its branch is live then where it is in service and that was its only open one
    pub flags_closed : byte s i ≡ 1 → set (live_flags N s) (branch_of N i) (one_open N s (branch_of N i)) ≡ live_flags N (set s i 0)
    flags_closed b = moved_flag 0 _ (live_closed N s long i l b)

    -- a switch moved: only where it is closed can its branch become live
    pub flags_toggled : set (live_flags N s) (branch_of N i) (eqb (byte s i) 1 && one_open N s (branch_of N i)) ≡ live_flags N (toggled s i)
    unfolding toggled
    flags_toggled = moved_flag _ _ (live_toggled N s long i l)
