-- The rounds of writing a text, one by one.
use Rattle.std.specs.Prelude.{◌≡◌, ℕ, ◌+◌, ◌%◌, ◌^◌, List, refl}
use Rattle.std.proofs.Common.{sym, ap, ◌∙◌}
use Rattle.numbers.specs.UpTo.{up_to, up_to_more}
use Rattle.network.specs.Answers.{accepted, refused}
use Rattle.network.specs.Records.{Network}
use Rattle.frames.specs.Text.{read_text}
use Rattle.texts.specs.Texts.{written_text}
use Rattle.text_timing.specs.TextRounds.{Added, counted, one_more_round, text_rounds, rounds_on}

-- ---- the rounds
pub rounds_none : (N : Network) (out : List ℕ) → record { sum = 0; out = out } ≡ text_rounds N out 0
unfolding text_rounds up_to
rounds_none N out = refl

pub rounds_more : (N : Network) (out₀ out after : List ℕ) (i sum value sum' : ℕ) → ◌≡◌ {A = Added} (record { sum = sum; out = out }) (text_rounds N out₀ i)
    → record { sum = value; out = after } ≡ counted (written_text N out) → sum' ≡ (sum + value) % 2 ^ 64 → record { sum = sum'; out = after } ≡ text_rounds N out₀ (i + 1)
unfolding text_rounds
rounds_more N out₀ out after i sum value sum' h w s =
    rw s (ap (λ (a : Added). record { sum = (sum + a.sum) % 2 ^ 64; out = a.out }) w)
    ∙ ap (one_more_round N) h ∙ sym (up_to_more (λ a k. one_more_round N a) (record { sum = 0; out = out₀ }) i)

-- ---- the rounds of a text
module _ (text out : List ℕ) (times : ℕ) where
  pub text_refused : (number place : ℕ) → read_text text ≡ refused number place → record { sum = 0; out = out } ≡ rounds_on (read_text text) out times
  text_refused number place so = ap (λ x. rounds_on x out times) (sym so)

  pub text_accepted : (N : Network) (done : Added) → read_text text ≡ accepted N → done ≡ text_rounds N out times → done ≡ rounds_on (read_text text) out times
  text_accepted N done so e = e ∙ ap (λ x. rounds_on x out times) (sym so)
