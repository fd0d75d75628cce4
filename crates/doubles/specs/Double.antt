-- The exact value of an f64 (document 01, "Inputs": an f64 means its exact value, and minus zero means zero). Assumes nothing.
use Rattle.std.specs.Prelude.{◌*◌, Float}
use Rattle.std.specs.Float.{nan, inf, fin}
use Rattle.std.specs.Float.Ieee.{up, down}
use Rattle.exact.specs.Fraction.{Fraction, nat, parts}

-- A finite f64 is m * 2 ^ e with its sign, and 2 ^ e is up e / down e; both zeros are zero. NaN and the infinities have no exact value:
-- they are given zero here, and every test asks first whether its f64 is finite.
unfoldable pub exact_of : Float → Fraction
exact_of nan = nat 0
exact_of (inf s) = nat 0
exact_of (fin s m e) = parts s (m * up e) (down e)
