-- Refusal 11 of the loss call, by the supply and radiality.
use Rattle.std.specs.Prelude.{◌≡◌, refl, Bool, true, false, ℕ, Option, Some, None, is_some}
use Rattle.network.specs.Answers.{accepted, refused, judge}
use Rattle.losses.specs.LossCall.{judge_fed}

module _ (z : Option ℕ) (isRadial : Bool) where
  pub fed_unfit : is_some z ≡ true → isRadial ≡ false → refused 11 0 ≡ judge_fed z isRadial
  unfolding judge
  fed_unfit s r = go z s
    where
      go : (z : Option ℕ) → is_some z ≡ true → refused 11 0 ≡ judge_fed z isRadial
      go None e = cc
      go (Some id) e = rw r refl

  pub fed_fit : isRadial ≡ true → accepted tt ≡ judge_fed z isRadial
  unfolding judge
  fed_fit r = go z
    where
      go : (z : Option ℕ) → accepted tt ≡ judge_fed z isRadial
      go None = refl
      go (Some id) = rw r refl

  pub unfed_fit : is_some z ≡ false → accepted tt ≡ judge_fed z isRadial
  unfed_fit s = go z s
    where
      go : (z : Option ℕ) → is_some z ≡ false → accepted tt ≡ judge_fed z isRadial
      go None e = refl
      go (Some id) e = cc
