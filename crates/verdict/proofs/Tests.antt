-- What the tests of a verdict say of the exact values, and which facts of the values they follow from. Assumes nothing.
use Prim.Native.Nat.{ℕ}
use mathlib.Core.Path.{◌≡◌, sym, ◌∙◌, subst}
use mathlib.Core.Bool.{Bool, true, false, not, ◌&&◌, and-eq-true_iff}
use mathlib.Core.Logic.{◌↔◌}
use lib.Dec.{T}
use lib.Ieee.{Float}
use lib.Ieee.Scale.{finite}
use borrow.Author.Tests.{not-true, not-false}
use Rattle.exact.specs.Fraction.{Fraction, nat, parts, negate, ◌⊕◌, ◌≼◌, ◌≺◌, leq}
use Rattle.exact.proofs.Fraction.Order.{≼-by, ≼-leq, ≺-leq, leq-true, leq-false, ≺-≼-trans, ≼_trans}
use Rattle.exact.proofs.Fraction.Parts.{nat-≼}
use Rattle.exact.specs.Ends.{Within, absolute}
use Rattle.exact.proofs.Width.{passes_within, passes_upper, passes_lower, above-width}
use Rattle.kind.specs.Kind.{coldest, highest}
use Rattle.kind.proofs.Either.{cold-most}
use Rattle.sheet.specs.Number.{value}
use Rattle.doubles.specs.Double.{exact_of}
use Rattle.doubles.specs.Range.{accepted_temperature, accepted_pair_temperature, accepted_density, accepted_target, accepted_tolerance, within_tolerance}
use Rattle.doubles.proofs.Within.{inside, from_lower}
use Rattle.doubles.proofs.Limits.{density_inside, target_inside}
use Rattle.bracket.specs.declared.Bracket.{Bracket}
use Rattle.bracket.specs.Span.{◌∈◌}
use Rattle.bracket.specs.Rules.{ends}
use Rattle.equation.specs.Accepted.{Temperature, Density, Target}
use Rattle.equation.proofs.Taken.{temperature_taken, density_taken, target_taken}
use Rattle.verdict.specs.Rules.{gap_passes, pushes_back, on_sides, under_ceiling}
use Rattle.verdict.specs.Balance.{bracket_width}

-- ---- a test of two parts
pub both : (a b : Bool) → (a && b) ≡ true → (a ≡ true) × (b ≡ true)
both a b = (and-eq-true_iff a b).0

pub together : (a b : Bool) → a ≡ true → b ≡ true → (a && b) ≡ true
together a b p q = (and-eq-true_iff a b).1 (p, q)

-- ---- a test in the code, `if !result { return .. }`, whose result is b
pub passed : {b r : Bool} → r ≡ b → r ≡ true → b ≡ true
passed e left = sym e ∙ left

pub failed : {b r : Bool} → r ≡ b → r ≡ false → b ≡ false
failed e taken = sym e ∙ taken

-- ---- accepted inputs
pub holds : {b : Bool} → b ≡ true → T b
holds p = subst T (sym p) tt

module _ (kind : ℕ) where
  pub temperature_in : (t : Float) → T (accepted_temperature kind t) → Temperature (exact_of t)
  temperature_in = temperature_taken kind

  -- from 273.16 is from the start of either kind
  pub above-triple_point : (t : Float) → accepted_pair_temperature t ≡ true → T (accepted_temperature kind t)
  unfolding nat parts leq
  above-triple_point t h =
      from_lower (parts false 27316 100) (nat (coldest kind)) (nat 1273) (≼_trans (nat-≼ (cold-most kind)) (≼-by (nat 273) (parts false 27316 100) tt)) t (holds h)

  pub density_in : (rho : Float) → T (accepted_density kind rho) → Density (exact_of rho)
  density_in = density_taken kind

  pub target_in : (p : Float) → T (accepted_target kind p) → Target (exact_of p)
  target_in = target_taken kind

  pub density_finite : (rho : Float) → T (accepted_density kind rho) → T (finite rho)
  density_finite rho h = (density_inside kind rho h).finite

  pub target_finite : (p : Float) → T (accepted_target kind p) → T (finite p)
  target_finite p h = (target_inside kind p h).finite

pub tolerance_finite : (x : Float) → T (accepted_tolerance x) → T (finite x)
tolerance_finite x h = (inside (nat 0) (nat 1000000) x h).finite

-- ---- the two sides of the critical density
pub sides : (liquid vapour : Float) → on_sides liquid vapour ≡ true → (nat 322 ≺ exact_of liquid) × (exact_of vapour ≺ nat 322)
unfolding on_sides
sides liquid vapour p =
    let b = both (not (leq (exact_of liquid) (nat 322))) (not (leq (nat 322) (exact_of vapour))) p in
    (leq-false _ _ (not-true _ b.0), leq-false _ _ (not-true _ b.1))

pub on_sides_lem : (liquid vapour : Float) → nat 322 ≺ exact_of liquid → exact_of vapour ≺ nat 322 → on_sides liquid vapour ≡ true
unfolding on_sides
on_sides_lem liquid vapour l v = rw (≺-leq l, ≺-leq v)

-- ---- an end and a limit
pub under-ceiling : (kind : ℕ) (b : Bracket) → under_ceiling kind b ≡ true ↔ (value b.hi ≼ nat (highest kind))
unfolding under_ceiling
under-ceiling kind b = (leq-true _ _, ≼-leq)

pub pushes : (b : Bracket) → pushes_back b ≡ true ↔ (nat 0 ≺ value b.lo)
unfolding pushes_back
pushes b = (λ p. leq-false _ _ (not-true _ p), λ h. rw (≺-leq h))

pub pushes-not : (b : Bracket) → pushes_back b ≡ false ↔ (value b.lo ≼ nat 0)
unfolding pushes_back
pushes-not b = (λ p. leq-true _ _ (not-false _ p), λ h. rw (≼-leq h))

-- ---- brackets that hold the number x
within_of : {x : Fraction} (b : Bracket) → x ∈ ends b → Within (value b.lo) (value b.hi) x
within_of b h = record { above = h.above; under = h.under }

-- a gap that passes is within its tolerance
pub gap_within : {x : Fraction} (b : Bracket) (tolerance : Float) → x ∈ ends b → gap_passes b tolerance ≡ true → absolute x ≼ exact_of tolerance
unfolding gap_passes within_tolerance
gap_within b tolerance h p =
    let t = both (leq (negate (exact_of tolerance)) (value b.lo)) (leq (value b.hi) (exact_of tolerance)) p in
    passes_within (leq-true _ _ t.0) (leq-true _ _ t.1) (within_of b h)

-- a gap within its tolerance by the width of its bracket passes
pub gap-beyond : {x : Fraction} (b : Bracket) (tolerance : Float) → x ∈ ends b → absolute x ⊕ bracket_width b ≼ exact_of tolerance → gap_passes b tolerance ≡ true
unfolding gap_passes within_tolerance bracket_width
gap-beyond b tolerance h k =
    together (leq (negate (exact_of tolerance)) (value b.lo)) (leq (value b.hi) (exact_of tolerance))
    (≼-leq (passes_lower (within_of b h) k)) (≼-leq (passes_upper (within_of b h) k))

-- a stiffness, or a vapour's pressure, that passes is above zero
pub pushes-above : {x : Fraction} (b : Bracket) → x ∈ ends b → pushes_back b ≡ true → nat 0 ≺ x
pushes-above b h p = ≺-≼-trans ((pushes b).0 p) h.above

-- one above the width of its bracket passes
pub pushes-beyond : {x : Fraction} (b : Bracket) → x ∈ ends b → bracket_width b ≺ x → pushes_back b ≡ true
unfolding bracket_width
pushes-beyond b h k = (pushes b).1 (above-width (within_of b h) k)
