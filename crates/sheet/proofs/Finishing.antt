-- The last step of a rounding: digits of a spelling stay or go one further, and whatever kept their place is rounded by that. Assumes
-- nothing.
use mathlib.Core.Path.{◌≡◌, refl, sym, ap, ◌∙◌}
use mathlib.Core.Bool.{Bool, true, false}
use Prim.Native.Nat.{ℕ, suc}
use Rattle.sheet.specs.declared.Sheet.{Sheet}
use Rattle.sheet.specs.declared.place.Found.{Found}
use Rattle.sheet.specs.Magnitude.{Magnitude, Fit, finish}
use Rattle.sheet.specs.Number.{signed}
use Rattle.sheet.specs.Round.{away}
use Rattle.sheet.specs.Steps.{Keeps, Rounds}
use Rattle.sheet.proofs.Places.{round_place}

module _ (v : ℕ) (neg : Bool) (x : Magnitude) where
  -- toward zero
  pub stays : (a s : Bool) → a ≡ false → signed neg x ≡ signed neg (finish a s (suc v) x)
  unfolding finish
  stays a s h = rw h

  -- nothing was cut
  pub whole : (a s : Bool) → s ≡ false → signed neg x ≡ signed neg (finish a s (suc v) x)
  unfolding finish
  whole true s h = rw h
  whole false s h = ap (signed neg) refl

  -- away from zero, and something was cut
  pub steps : (a s : Bool) → a ≡ true → s ≡ true → signed neg (finish true true (suc v) x) ≡ signed neg (finish a s (suc v) x)
  steps a s h k = rw (h, k)

pub rounds-kept : (up neg : Bool) (v : ℕ) (x y : Found) (r : Sheet) → Keeps x y → Fit v y.m y.e
    → r ≡ signed neg (finish (away up neg) y.sticky (suc v) (record { m = y.m; e = y.e })) → Rounds up neg x.m x.sticky x.e (suc v) r
rounds-kept up neg v x y r k f e num den p = e ∙ ap (signed neg) (sym (round_place (away up neg) v y.sticky f (k num den p)))
