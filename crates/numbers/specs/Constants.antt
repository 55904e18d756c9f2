-- The floats that document 01 names, each by its bit pattern: "0.001, 1e-9 and 1e-12 in this paper mean the nearest f64" (`ConstantLaws.nearest`).
use Rattle.std.specs.Prelude.{Float}
use Rattle.std.specs.Float.{binary64}
use Rattle.std.specs.Float.Ieee.{of_bits, neg}

-- 0.0, where loads and totals start
abbrev pub zero64 : Float
zero64 = of_bits binary64 0

-- 0.001, the least base_mva
abbrev pub thousandth : Float
thousandth = of_bits binary64 0x3f50_624d_d2f1_a9fc

-- 1,000, the largest r
abbrev pub thousand : Float
thousand = of_bits binary64 0x408f_4000_0000_0000

-- 1,000,000, the largest base_mva and pd
abbrev pub million : Float
million = of_bits binary64 0x412e_8480_0000_0000

-- -1,000,000, the least pd
abbrev pub minus_million : Float
minus_million = neg million

-- 1e-9: a trial improves when its loss is below current - 1e-9
abbrev pub billionth : Float
billionth = of_bits binary64 0x3e11_2e0b_e826_d695

-- 1e-12: a reduction is reckoned for a base loss above it
abbrev pub trillionth : Float
trillionth = of_bits binary64 0x3d71_9799_812d_ea11

-- 100, for per cent
abbrev pub hundred : Float
hundred = of_bits binary64 0x4059_0000_0000_0000
