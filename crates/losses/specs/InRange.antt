-- What document 01's ranges say of a float.
use Rattle.std.specs.Prelude.{◌≡◌, true, false, T, Float}
use Rattle.std.proofs.Common.{lit≤}
use Rattle.std.specs.Float.Ieee.{of_bits, neg, le}
use Rattle.std.specs.Float.Ieee.Fits.{and_l, and_r}
use Rattle.numbers.specs.Bounds.{Within, within, AtLeast, at_least, within_more, within_finite}
use Rattle.numbers.specs.Constants.{zero64, thousandth, thousand, million, minus_million}
use Rattle.numbers.specs.RangeLaws.{range_within, above_low, above_zero}
use Rattle.numbers.specs.Signs.{HasSign, sign, NonNeg}
use Rattle.numbers.specs.Sums.{zero_within}
use Rattle.network.specs.Limits.{in_range, ok_base, ok_load, ok_r}

million_within : Within 1000000 million
unfolding of_bits
million_within = within (lit≤ tt)

minus_within : Within 1000000 minus_million
unfolding of_bits neg
minus_within = within (lit≤ tt)

thousandth_within : Within 1000000 thousandth
unfolding of_bits
thousandth_within = within (lit≤ tt)

thousandth_sign : HasSign false thousandth
unfolding of_bits
thousandth_sign = sign

thousandth_far : AtLeast 1000 thousandth
unfolding of_bits
thousandth_far = at_least (lit≤ tt)

thousand_within : Within 1000 thousand
unfolding of_bits
thousand_within = within (lit≤ tt)

-- ---- the two ends of a range
low_end : (low high x : Float) → in_range low high x ≡ true → T (le low x)
low_end low high x e = and_l (le low x) (le x high) (rw e tt)

high_end : (low high x : Float) → in_range low high x ≡ true → T (le x high)
high_end low high x e = and_r (le low x) (le x high) (rw e tt)

pub base_within : {x : Float} → ok_base x ≡ true → Within 1000000 x
unfolding ok_base
base_within {x} e = range_within x thousandth_within million_within (low_end thousandth million x e) (high_end thousandth million x e)

pub base_far : {x : Float} → ok_base x ≡ true → HasSign false x × AtLeast 1000 x
unfolding ok_base
base_far {x} e = above_low x thousandth_sign thousandth_far (within_finite (base_within e)) (low_end thousandth million x e)

pub load_within : {x : Float} → ok_load x ≡ true → Within 1000000 x
unfolding ok_load
load_within {x} e = range_within x minus_within million_within (low_end minus_million million x e) (high_end minus_million million x e)

pub r_within : {x : Float} → ok_r x ≡ true → Within 1000 x
unfolding ok_r
r_within {x} e = range_within x (within_more (lit≤ tt) zero_within) thousand_within (low_end zero64 thousand x e) (high_end zero64 thousand x e)

pub r_nonneg : {x : Float} → ok_r x ≡ true → NonNeg x
unfolding ok_r
r_nonneg {x} e = above_zero x (within_finite (r_within e)) (low_end zero64 thousand x e)
