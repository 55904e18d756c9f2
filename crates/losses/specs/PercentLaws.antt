-- The reduction of a loss in per cent is finite: a base above 1e-12 is at least 2 ^ -40.
use Rattle.std.specs.Prelude.{false, ◌^◌, T, Float}
use Rattle.std.proofs.Common.{lit<, lit≤}
use Rattle.std.specs.Float.{binary64}
use Rattle.std.specs.Float.Ieee.{of_bits, sub, mul, div, lt}
use Rattle.numbers.specs.Bounds.{Within, within, AtLeast, at_least, within_finite, holds64, sub_within, mul_within, div_within}
use Rattle.numbers.specs.Constants.{trillionth, hundred}
use Rattle.numbers.specs.RangeLaws.{above_low, lt_le}
use Rattle.numbers.specs.Signs.{HasSign, sign}

trillionth_sign : HasSign false trillionth
unfolding of_bits
trillionth_sign = sign

trillionth_far : AtLeast (2 ^ 40) trillionth
unfolding of_bits
trillionth_far = at_least (lit≤ tt)

hundred_within : Within 100 hundred
unfolding of_bits
hundred_within = within (lit≤ tt)

pub percent_within : {base best : Float} → Within (2 ^ 115) base → Within (2 ^ 115) best → T (lt trillionth base) → Within (2 ^ 163) (mul binary64 (div binary64 (sub binary64 base best) base) hundred)
percent_within {base} {best} u v h =
    let far = above_low base trillionth_sign trillionth_far (within_finite u) (lt_le trillionth base h) in
    mul_within binary64 1 163 (holds64 1 163 (lit< tt) (lit≤ tt)) (lit≤ tt)
    (div_within binary64 1 156 (holds64 1 156 (lit< tt) (lit≤ tt)) (lit≤ tt) (sub_within binary64 1 116 (holds64 1 116 (lit< tt) (lit≤ tt)) (lit≤ tt) u v) far.1) hundred_within
