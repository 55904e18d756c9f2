-- What the exchange keeps. A round that improves takes the swap of a tie with a section; so what holds of the base and is kept by such swaps holds of the answer.
use Rattle.std.specs.Prelude.{◌≡◌, false, not, ◌&&◌, ℕ, ◌<◌, eqb, Float}
use Rattle.std.proofs.Math.Path.{refl}
use Rattle.std.proofs.Math.Bool.{true}
use Rattle.std.specs.Prelude.{Option, None, Some}
use borrow.Author.Tests.{not-true}
use Rattle.numbers.specs.Tests.{both}
use Rattle.network.specs.Records.{Network}
use Rattle.states.specs.Live.{base_state}
use Rattle.states.specs.Switches.{State, byte, branch_of, operable, size, is_tie, swapped}
use Rattle.feeders.specs.Feeder.{radial_in}
use Rattle.losses.specs.Loss.{loss_in}
use Rattle.exchange.specs.Exchange.{seen, loop_of, section_of, swap_with, trial, improves, improved, improving, round_of, Exchange, after_round, next, exchange_start, exchange, exchange_best}
use Rattle.numbers.specs.IfSome.{IfSome, cond_holds, first_some_holds, least_passes}
use Rattle.searches.specs.FromBase.{FromBase, from_base, swapped_from_base}
use Rattle.numbers.specs.LastLaws.{last_holds}
use Rattle.searches.specs.RoundLaws.{until_keeps}
use Rattle.searches.specs.Results.{SoundBest}

-- t is s with a tie that the round sees closed and a section opened, both operable; and t is radial
pub record Swap (N : Network) (s t : State) : Type 0 where
  pub tie : ℕ
  pub section : ℕ
  pub tie_listed : tie < size N
  pub tie_seen : seen N s tie ≡ true
  pub no_tie : is_tie N section ≡ false
  pub section_operable : operable N section ≡ true
  pub result : t ≡ swapped s tie section
  pub radial : radial_in N t ≡ true

module _ (N : Network) where
  tie_operable : {s t : State} (w : Swap N s t) → operable N w.tie ≡ true
  tie_operable {s} w = (both (operable N w.tie) _ (both (is_tie N w.tie) _ w.tie_seen).1).0

  module _ (s : State) where
    module _ (tie : ℕ) (l : tie < size N) (e : seen N s tie ≡ true) where
      swap_with_swaps : (k : ℕ) (section : Option ℕ) → IfSome (λ i. (eqb (branch_of N i) k && (not (is_tie N i) && operable N i)) ≡ true) section → IfSome (Swap N s) (swap_with N s tie section)
      unfolding swap_with
      swap_with_swaps k None h = tt
      swap_with_swaps k (Some i) h = cond_holds (Swap N s) _ (Some (swapped s tie i)) None go tt
        where
          go : (eqb (byte s i) 0 && radial_in N (swapped s tie i)) ≡ true → Swap N s (swapped s tie i)
          go r =
              let p = both (eqb (branch_of N i) k) _ h in
              let q = both (not (is_tie N i)) _ p.1 in
              record {
                tie = tie;
                section = i;
                tie_listed = l;
                tie_seen = e;
                no_tie = not-true _ q.0;
                section_operable = q.1;
                result = refl;
                radial = (both (eqb (byte s i) 0) _ r).1;
              }

      pub trial_swaps : IfSome (Swap N s) (trial N s tie)
      unfolding trial section_of
      trial_swaps = first_some_holds (Swap N s) _ (λ k. swap_with_swaps k (section_of N k) (least_passes _ (size N))) (loop_of N s tie)

    -- what a round finds is a swap
    pub round_swaps : (current : Float) → IfSome (Swap N s) (round_of N s current)
    unfolding round_of improved
    round_swaps current = last_holds (improving N s current) (Swap N s) (size N) (λ i l. cond_holds (Swap N s) (seen N s i) _ None (λ e. one (trial N s i) (trial_swaps i l e)) tt)
      where
        one : (found : Option State) → IfSome (Swap N s) found → IfSome (Swap N s) (improved N current found)
        one None w = tt
        one (Some t) w = cond_holds (Swap N s) (improves N current t) (Some t) None (λ e. w) tt

  -- what holds of the base and is kept by each round holds at the end
  pub rounds_keep : (Q : Exchange → Type 0) → ((x : Exchange) → x.ended ≡ false → Q x → Q (next N x)) → Q (exchange_start N) → Q (exchange N)
  unfolding exchange
  rounds_keep Q step = until_keeps (λ (x : Exchange). x.ended) (next N) Q step N.iterations (exchange_start N)

  exchange_keeps : (P : State → Type 0) → ((s t : State) → P s → Swap N s t → P t) → P (base_state N) → P (exchange N).state
  unfolding after_round
  exchange_keeps P swaps = rounds_keep (λ x. P x.state) (λ x e h. one x h (round_of N x.state x.loss) (round_swaps x.state x.loss))
    where
      one : (x : Exchange) → P x.state → (found : Option State) → IfSome (Swap N x.state) found → P (after_round N x found).state
      one x h None w = h
      one x h (Some t) w = swaps x.state t h w

  -- the loss that it carries is that of its state
  pub exchange_loss : (exchange N).loss ≡ loss_in N (exchange N).state
  unfolding after_round
  exchange_loss = rounds_keep (λ x. x.loss ≡ loss_in N x.state) (λ x e h. one x h (round_of N x.state x.loss)) refl
    where
      one : (x : Exchange) → x.loss ≡ loss_in N x.state → (found : Option State) → (after_round N x found).loss ≡ loss_in N (after_round N x found).state
      one x h None = h
      one x h (Some t) = refl

  -- ---- of the answer
  pub exchange_from_base : FromBase N (exchange N).state
  exchange_from_base = exchange_keeps (FromBase N) (λ s t h w. rw w.result (swapped_from_base N s h w.tie w.section (tie_operable w) w.section_operable)) (from_base N)

  pub exchange_sound : SoundBest N (exchange_best N)
  unfolding exchange_best
  exchange_sound = record {
    good = exchange_from_base.good;
    radial = exchange_keeps (λ s. radial_in N s ≡ true) (λ s t h w. w.radial);
  }
