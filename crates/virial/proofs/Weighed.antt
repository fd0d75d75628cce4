-- The exponential of minus g at a level from 2, for g from 0 to 1, to second order in g, and E times w by it. Assumes nothing.
use Prim.Native.Nat.{ℕ, ◌≤◌}
use native.Mathlib.Omega.{arith}
use mathlib.Core.Path.{refl}
use mathlib.Core.List.{[], ◌∷◌}
use Rattle.exact.specs.Fraction.{Fraction, nat, ◌⊕◌, ◌⊖◌, ◌⊗◌, ◌⊘◌, ◌≼◌, ◌≈◌}
use Rattle.exact.proofs.Fraction.Order.{≼_refl, ≼_trans, ≈-refl, ≈-sym, ≈-trans, ≈-≼-trans, ≼-≈-trans}
use Rattle.exact.proofs.Fraction.Sum.{⊕-cong, ⊕-pos, ⊖-mono, ≼-⊕-right}
use Rattle.exact.proofs.Fraction.Product.{⊗-cong, ⊗-mono-right, ⊗-nonneg}
use Rattle.exact.proofs.Fraction.Quotient.{⊘-⊗, ⊘-one, ≼-⊘, ⊘-≼}
use Rattle.exact.proofs.Fraction.Parts.{nat-pos, nat-nonneg}
use Rattle.exact.specs.Series.{partial, exp_term, expneg_at}
use Rattle.exact.proofs.Ring.{ring, var, num, ◌:+◌, ◌:-◌, ◌:*◌}
use Rattle.exact.proofs.Series.{exp_term-nonneg, exp_sum-pos, expneg_at-under}
use Rattle.exact.proofs.Tail.{expneg_at-within}

-- ---- the exponential of minus g, for g from 0 to 1

module _ {g : Fraction} (some : nat 0 ≼ g) (most : g ≼ nat 1) where
  first_term : exp_term g 1 ≈ g
  unfolding exp_term
  first_term = ≈-trans (⊘-one (nat 1 ⊗ g)) (ring (num 1 :* var 0) (var 0) (g ∷ []) refl)

  -- the third term twice is g squared
  halves : exp_term g 2 ⊕ exp_term g 2 ≈ g ⊗ g
  unfolding exp_term
  halves =
      let h = exp_term g 1 ⊗ g in
      ≈-trans (ring (var 0 :+ var 0) (var 0 :* num 2) (h ⊘ nat 2 ∷ []) refl) (≈-trans (⊘-⊗ h (nat-pos (omega arith))) (⊗-cong first_term (≈-refl g)))

  two-terms : partial (exp_term g) 1 ≈ nat 1 ⊕ g
  unfolding partial exp_term
  two-terms = ⊕-cong (≈-refl (nat 1)) first_term

  three-terms : partial (exp_term g) 2 ⊕ exp_term g 2 ≈ nat 1 ⊕ g ⊕ g ⊗ g
  unfolding partial
  three-terms =
      let t = exp_term g 2 in
      let p = partial (exp_term g) 1 in
      ≈-trans (ring (var 0 :+ var 1 :+ var 1) (var 0 :+ (var 1 :+ var 1)) (p ∷ t ∷ []) refl) (⊕-cong two-terms halves)

  module _ (N : ℕ) (level : 2 ≤ N) where
    pub exp_low : nat 1 ⊖ g ≼ expneg_at N g
    exp_low =
        ≼_trans
        (≼-⊘ (⊕-pos (exp_sum-pos some 2) (exp_term-nonneg some 2))
        (≈-≼-trans (⊗-cong (≈-refl (nat 1 ⊖ g)) three-terms)
        (≈-≼-trans (ring ((num 1 :- var 0) :* (num 1 :+ var 0 :+ var 0 :* var 0)) (num 1 :- var 0 :* var 0 :* var 0) (g ∷ []) refl)
        (≼-≈-trans (⊖-mono (≼_refl (nat 1)) (⊗-nonneg (⊗-nonneg some some) some)) (ring (num 1 :- num 0) (num 1) [] refl)))))
        (expneg_at-within 1 2 N some most (omega arith) level).above

    pub exp_high : expneg_at N g ≼ nat 1 ⊖ g ⊕ g ⊗ g
    exp_high =
        ≼_trans (expneg_at-within 1 1 N some most (omega arith) (omega arith)).under
        (⊘-≼ (exp_sum-pos some 1)
        (≼-≈-trans
        (≼-≈-trans (≼-⊕-right (⊗-nonneg (⊗-nonneg some some) some)) (ring (num 1 :+ var 0 :* var 0 :* var 0) ((num 1 :- var 0 :+ var 0 :* var 0) :* (num 1 :+ var 0)) (g ∷ []) refl))
        (⊗-cong (≈-refl (nat 1 ⊖ g ⊕ g ⊗ g)) (≈-sym two-terms))))

    -- ---- E times w, for c of 1 or more, by q = d + c

    module _ (d c : ℕ) where
      abbrev E : Fraction
      E = expneg_at N g

      abbrev w : Fraction
      w = nat d ⊖ nat c ⊗ g

      spread : E ⊗ w ≈ nat d ⊗ E ⊖ nat c ⊗ g ⊗ E
      spread = ring (var 0 :* (var 1 :- var 2 :* var 3)) (var 1 :* var 0 :- var 2 :* var 3 :* var 0) (E ∷ nat d ∷ nat c ∷ g ∷ []) refl

      pub weighed_low : nat d ⊖ (nat d ⊕ nat c) ⊗ g ≼ E ⊗ w
      weighed_low =
          ≼-≈-trans
          (≈-≼-trans (ring (var 0 :- (var 0 :+ var 1) :* var 2) (var 0 :* (num 1 :- var 2) :- var 1 :* var 2 :* num 1) (nat d ∷ nat c ∷ g ∷ []) refl)
          (⊖-mono (⊗-mono-right (nat-nonneg d) exp_low) (⊗-mono-right (⊗-nonneg (nat-nonneg c) some) (expneg_at-under N some))))
          (≈-sym spread)

      pub weighed_high : E ⊗ w ≼ nat d ⊖ (nat d ⊕ nat c) ⊗ g ⊕ (nat d ⊕ nat c) ⊗ (g ⊗ g)
      weighed_high =
          ≈-≼-trans spread
          (≼-≈-trans (⊖-mono (⊗-mono-right (nat-nonneg d) exp_high) (⊗-mono-right (⊗-nonneg (nat-nonneg c) some) exp_low))
          (ring (var 0 :* (num 1 :- var 2 :+ var 2 :* var 2) :- var 1 :* var 2 :* (num 1 :- var 2))
          (var 0 :- (var 0 :+ var 1) :* var 2 :+ (var 0 :+ var 1) :* (var 2 :* var 2)) (nat d ∷ nat c ∷ g ∷ []) refl))
