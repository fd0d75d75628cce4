-- `given_lines::double` is safe: it gives only what is finite. Assumes nothing.
use mathlib.Core.Path.{◌≡◌, sym, ◌∙◌}
use mathlib.Core.Bool.{true, false≢true}
use lib.Dec.{T}
use lib.Ieee.{Float, nan, inf, fin}
use lib.Ieee.Scale.{finite}
use Rattle.std.specs.Float.{float_is_finite}
use Rattle.given_lines.proofs.double.Goals as goal

tested : (x : Float) → float_is_finite x ≡ true → T (finite x)
unfolding float_is_finite
tested nan h = absurd (false≢true h)
tested (inf s) h = absurd (false≢true h)
tested (fin s m e) h = tt

pub given-requires : goal.given-requires
given-requires c = (c.in_ok-v.ensures, tested _ (sym c.is_finite.ensures.value ∙ c.if-not-is_finite.false))
