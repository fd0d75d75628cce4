-- `given_lines::bits_of` is safe: an f64 that is handed out is finite. Assumes nothing.
use mathlib.Core.Path.{sym, subst}
use mathlib.Core.Bool.{not}
use lib.Dec.{T}
use lib.Ieee.{Float, is_nan}
use Rattle.doubles.proofs.Handed.{double_of-finite}
use Rattle.doubles.proofs.Pattern.{no_nan}
use Rattle.doubles.proofs.Write.{sheet_double}
use Rattle.given_lines.proofs.bits_of.Goals as goal

pub float_to_bits-result : goal.float_to_bits-result
float_to_bits-result c =
    let f = c.fits.ensures c.if-not-fits.false in
    subst (λ (x : Float). T (not (is_nan x))) (sym c.double_of.ensures) (no_nan _ (double_of-finite _ (sheet_double _ f.0 f.1)))
