-- Document 01: "0.001, 1e-9 and 1e-12 in this paper mean the nearest f64". Each pattern, those of the other floats too, is `round` of its fraction, and `round` gives the nearest.
use Rattle.std.specs.Prelude.{◌≡◌, refl, true, false, ◌^◌}
use Rattle.std.specs.Float.{binary64}
use Rattle.std.specs.Float.Ieee.{of_bits, neg, round}
use Rattle.numbers.specs.Constants.{zero64, thousandth, thousand, million, minus_million, billionth, trillionth, hundred}

pub nearest :
    (round binary64 false 0 1 ≡ zero64)
    × (round binary64 false 1 1000 ≡ thousandth)
    × (round binary64 false 1000 1 ≡ thousand)
    × (round binary64 false 1000000 1 ≡ million)
    × (round binary64 true 1000000 1 ≡ minus_million)
    × (round binary64 false 1 (10 ^ 9) ≡ billionth)
    × (round binary64 false 1 (10 ^ 12) ≡ trillionth)
    × (round binary64 false 100 1 ≡ hundred)
unfolding round of_bits neg
nearest = (refl, refl, refl, refl, refl, refl, refl, refl)
