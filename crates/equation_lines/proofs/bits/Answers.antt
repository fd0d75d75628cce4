-- `equation_lines::bits` is safe: an end that is exactly an f64 is no NaN. Assumes nothing.
use mathlib.Core.Path.{◌≡◌, sym, subst}
use mathlib.Core.Bool.{not}
use lib.Dec.{T}
use lib.Ieee.{Float, is_nan}
use Rattle.sheet.specs.declared.Sheet.{Sheet}
use Rattle.sheet.specs.Number.{value}
use Rattle.doubles.specs.Handed.{double_of}
use Rattle.doubles.proofs.Handed.{double_of-finite}
use Rattle.doubles.proofs.Pattern.{no_nan}
use Rattle.doubles.proofs.Write.{sheet_double}
use Rattle.equation_lines.proofs.Given.{Written}
use Rattle.equation_lines.proofs.bits.Goals as goal

number : {s : Sheet} {x : Float} → Written s → x ≡ double_of (value s) → T (not (is_nan x))
number {s} p e =
    subst (λ (y : Float). T (not (is_nan y))) (sym e) (no_nan (double_of (value s)) (double_of-finite (value s) (sheet_double s p.0 p.1)))

pub float_to_bits-result : goal.float_to_bits-result
float_to_bits-result c = number c.requires.lo c.double_of-lo.ensures

pub float_to_bits-result-2 : goal.float_to_bits-result-2
float_to_bits-result-2 c = number c.requires.hi c.double_of-hi.ensures
