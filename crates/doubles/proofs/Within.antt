-- The range test of an f64, any f64, is the range test of its exact value. Assumes nothing.
use mathlib.Core.Path.{◌≡◌, refl, ap, ap₂, ◌∙◌}
use mathlib.Core.Logic.{◌↔◌, ◌⊎◌, inl, inr, ⊎_map}
use mathlib.Core.Bool.{Bool, true, false, ◌&&◌, true≢false}
use lib.Dec.{T}
use lib.Ieee.{Float, nan, inf, fin, le, neg}
use lib.Ieee.Fits.{and_i, and_l, and_r}
use lib.Ieee.Scale
use lib.Ieee.Scale.{finite}
use Rattle.exact.specs.Fraction.{Fraction, leq, ◌≼◌}
use Rattle.exact.proofs.Fraction.Order.{≼-by, ≼_trans, ≼-leq, ≺-leq, leq-false}
use Rattle.doubles.specs.Double.{exact_of}
use Rattle.doubles.specs.Range.{within, Outside, within_tolerance}
use Rattle.doubles.proofs.Compare.{le_exact, neg_finite, neg_exact}

pub le_within : (low high x : Float) → T (finite low) → T (finite high) → (le low x && le x high) ≡ within (exact_of low) (exact_of high) x
unfolding within le
le_within nan high x h k = absurd h
le_within (inf s) high x h k = absurd h
le_within (fin s m e) nan x h k = absurd k
le_within (fin s m e) (inf t) x h k = absurd k
le_within (fin s m e) (fin t n d) nan h k = refl
le_within (fin s m e) (fin t n d) (inf true) h k = refl
le_within (fin s m e) (fin t n d) (inf false) h k = refl
le_within (fin s m e) (fin t n d) (fin u i c) h k = ap₂ ◌&&◌ (le_exact (fin s m e) (fin u i c) h tt) (le_exact (fin u i c) (fin t n d) tt k)

-- a gap's ends against minus the tolerance and the tolerance
pub le_tolerance : (lower upper tolerance : Float) → T (finite lower) → T (finite upper) → T (finite tolerance)
    → (le (neg tolerance) lower && le upper tolerance) ≡ within_tolerance (exact_of lower) (exact_of upper) (exact_of tolerance)
unfolding within_tolerance
le_tolerance lower upper tolerance h k l =
    ap₂ ◌&&◌
    (le_exact (neg tolerance) lower (neg_finite tolerance l) h ∙ ap (λ (x : Fraction). leq x (exact_of lower)) (neg_exact tolerance))
    (le_exact upper tolerance k l)

-- what an accepted f64 is
pub record Inside (low high : Fraction) (x : Float) : Type 0 where
  pub finite : T (Scale.finite x)
  pub above : low ≼ exact_of x
  pub below : exact_of x ≼ high

pub inside : (low high : Fraction) (x : Float) → T (within low high x) → Inside low high x
unfolding within
inside low high x t =
    let a = leq low (exact_of x) in
    let b = leq (exact_of x) high in
    let both = and_r (Scale.finite x) (a && b) t in
    record {
      finite = and_l (Scale.finite x) (a && b) t;
      above = ≼-by low (exact_of x) (and_l a b both);
      below = ≼-by (exact_of x) high (and_r a b both);
    }

-- a wider range accepts it too
pub from_wider : (low lower high higher : Fraction) → lower ≼ low → high ≼ higher → (x : Float) → T (within low high x) → T (within lower higher x)
unfolding within
from_wider low lower high higher l h x t =
    let i = inside low high x t in
    rw (≼-leq (≼_trans l i.above), ≼-leq (≼_trans i.below h)) (and_i (Scale.finite x) true i.finite tt)

-- a range that starts lower accepts it too
pub from_lower : (low lower high : Fraction) → lower ≼ low → (x : Float) → T (within low high x) → T (within lower high x)
unfolding within
from_lower low lower high h x t =
    let i = inside low high x t in
    rw (≼-leq (≼_trans h i.above), ≼-leq i.below) (and_i (Scale.finite x) true i.finite tt)

-- ---- what is not accepted
one-false : (a b c : Bool) → (a && (b && c)) ≡ false ↔ ((a ≡ false) ⊎ ((b ≡ false) ⊎ (c ≡ false)))
one-false a b c = (one a b c, none a b c)
  where
    one : (a b c : Bool) → (a && (b && c)) ≡ false → (a ≡ false) ⊎ ((b ≡ false) ⊎ (c ≡ false))
    one false b c h = inl refl
    one true false c h = inr (inl refl)
    one true true c h = inr (inr h)

    none : (a b c : Bool) → (a ≡ false) ⊎ ((b ≡ false) ⊎ (c ≡ false)) → (a && (b && c)) ≡ false
    none false b c h = refl
    none true false c h = refl
    none true true c (inl e) = absurd (true≢false e)
    none true true c (inr (inl e)) = absurd (true≢false e)
    none true true c (inr (inr e)) = e

pub outside : (low high : Fraction) (x : Float) → within low high x ≡ false ↔ Outside low high x
unfolding within
outside low high x =
    let test = one-false (Scale.finite x) (leq low (exact_of x)) (leq (exact_of x) high) in (
      λ f. ⊎_map (λ e. e) (⊎_map (leq-false low (exact_of x)) (leq-false (exact_of x) high)) (test.0 f),
      λ o. test.1 (⊎_map (λ e. e) (⊎_map ≺-leq ≺-leq) o),
    )
