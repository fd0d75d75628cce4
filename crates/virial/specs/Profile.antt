-- The profile of document 02, i: which f64 the card takes as its temperature and as its density, by exact value. Assumes nothing.
use Rattle.std.specs.Prelude.{Bool, false, Float}
use Rattle.exact.specs.Fraction.{nat, parts}
use Rattle.doubles.specs.Range.{within}

-- T from 273 to 1123 K
abbrev pub profile_temperature : Float → Bool
profile_temperature = within (nat 273) (nat 1123)

-- density from 1/1024, as everywhere, to 55 kg/m3
abbrev pub profile_density : Float → Bool
profile_density = within (parts false 1 1024) (nat 55)
