-- The logarithm's argument: for r from 1 to 2, z = (r - 1) / (r + 1) lies from 0 to 1/3, where the tail law holds. Assumes nothing.
use mathlib.Core.Path.{refl}
use mathlib.Core.Bool.{false}
use mathlib.Core.List.{[], ◌∷◌}
use native.Mathlib.Nat.{zero-lt-suc}
use Rattle.exact.specs.Fraction.{Fraction, nat, parts, ◌⊕◌, ◌⊖◌, ◌⊗◌, ◌⊘◌, ◌≼◌, ◌≺◌}
use Rattle.exact.proofs.Fraction.Order.{≼_refl, ≈-≼-trans, ≼-≈-trans}
use Rattle.exact.proofs.Fraction.Sum.{⊕-mono, ⊖-mono, ⊖-nonneg, ⊕-pos}
use Rattle.exact.proofs.Fraction.Quotient.{⊘-nonneg, ⊘-≼-⊘}
use Rattle.exact.proofs.Fraction.Parts.{nat-nonneg, nat-pos, nat-⊘}
use Rattle.exact.proofs.Fraction.Order.{≺-≼-trans}
use Rattle.exact.specs.Ends.{Within}
use Rattle.exact.proofs.Ring.{ring, var, num, ◌:+◌, ◌:-◌, ◌:*◌}

-- the divisor is above zero
pub ratio_bottom : {r : Fraction} → nat 1 ≼ r → nat 0 ≺ r ⊕ nat 1
ratio_bottom h = ⊕-pos (≺-≼-trans (nat-pos (zero-lt-suc 0)) h) (nat-nonneg 1)

three-times : (r : Fraction) → r ≼ nat 2 → (r ⊖ nat 1) ⊗ nat 3 ≼ nat 1 ⊗ (r ⊕ nat 1)
three-times r h =
    ≈-≼-trans (ring ((var 0 :- num 1) :* num 3) (var 0 :+ (var 0 :+ var 0) :- num 3) (r ∷ []) refl)
    (≼-≈-trans (⊖-mono (⊕-mono (≼_refl r) (⊕-mono h h)) (≼_refl (nat 3)))
    (ring (var 0 :+ (num 2 :+ num 2) :- num 3) (num 1 :* (var 0 :+ num 1)) (r ∷ []) refl))

pub ratio_within : {r : Fraction} → nat 1 ≼ r → r ≼ nat 2 → Within (nat 0) (parts false 1 3) ((r ⊖ nat 1) ⊘ (r ⊕ nat 1))
ratio_within {r} h k =
    record {
      above = ⊘-nonneg (r ⊕ nat 1) (⊖-nonneg h);
      under = ≼-≈-trans (⊘-≼-⊘ (r ⊖ nat 1) (nat 1) (ratio_bottom h) (nat-pos (zero-lt-suc 2)) (three-times r k)) (nat-⊘ 1 3 (zero-lt-suc 2));
    }
