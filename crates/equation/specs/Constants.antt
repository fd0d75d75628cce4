-- The constants of document 01, a term's coefficient and its factor, as exact values. Assumes nothing.
use Rattle.std.specs.Prelude.{ℕ, ◌^◌, false}
use Rattle.exact.specs.Fraction.{Fraction, parts}
use Rattle.term.specs.declared.Term.{Term}

-- 647.14 K
abbrev pub critical_temperature : Fraction
critical_temperature = parts false 64714 100

-- 322 kg/m3
abbrev pub critical_density : ℕ
critical_density = 322

-- 461.51805 J/(kg K)
abbrev pub gas_constant : Fraction
gas_constant = parts false 46151805 100000

-- the factor of a term's exponent counts hundredths (document 02, h)
abbrev pub hundredths : ℕ → Fraction
hundredths factor = parts false factor 100

-- the magnitude counts units of ten to the minus 16
abbrev pub exact_coefficient : Term → Fraction
exact_coefficient term = parts term.negative term.magnitude (10 ^ 16)
