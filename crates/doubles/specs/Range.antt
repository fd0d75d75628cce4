-- Which f64 each input of document 01 accepts ("Inputs", and refusal 7 for the two sides of the critical density), by exact value and by
-- the kind of table, and which temperature the pair check accepts (document 02, b). Assumes nothing.
use Rattle.std.specs.Prelude.{ℕ, ◌≡◌, ◌⊎◌, Bool, false, ◌&&◌, Float}
use Rattle.std.specs.Float.Ieee.Scale.{finite}
use Rattle.exact.specs.Fraction.{Fraction, nat, parts, negate, leq, ◌≺◌}
use Rattle.kind.specs.Kind.{coldest, densest, highest}
use Rattle.doubles.specs.Double.{exact_of}

-- finite, and from low to high, ends included
unfoldable pub within : Fraction → Fraction → Float → Bool
within low high x = finite x && (leq low (exact_of x) && leq (exact_of x) high)

-- no finite number, or below low, or above high
abbrev pub Outside : Fraction → Fraction → Float → Type 0
Outside low high x = (finite x ≡ false) ⊎ ((exact_of x ≺ low) ⊎ (high ≺ exact_of x))

-- the state sheet's and the density check's
abbrev pub accepted_temperature : ℕ → Float → Bool
accepted_temperature kind = within (nat (coldest kind)) (nat 1273)

-- the pair check's, of both kinds: from the triple point, 273.16 K, which is a fraction here and no f64
abbrev pub accepted_pair_temperature : Float → Bool
accepted_pair_temperature = within (parts false 27316 100) (nat 1273)

abbrev pub accepted_density : ℕ → Float → Bool
accepted_density kind = within (parts false 1 1024) (nat (densest kind))

abbrev pub accepted_target : ℕ → Float → Bool
accepted_target kind = within (nat 0) (nat (highest kind))

abbrev pub accepted_tolerance : Float → Bool
accepted_tolerance = within (nat 0) (nat 1000000)

-- a gap passes: from minus the tolerance to the tolerance, ends included ("Verdicts")
unfoldable pub within_tolerance : Fraction → Fraction → Fraction → Bool
within_tolerance lower upper tolerance = leq (negate tolerance) lower && leq upper tolerance
