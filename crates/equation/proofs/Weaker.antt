-- Weaker bounds, and from one measure to another, for both ends of a span. Assumes nothing.
use mathlib.Core.Bool.{Bool, true, false}
use Prim.Native.Nat.{ℕ, ◌+◌, ◌*◌, ◌^◌, ◌≤◌}
use native.Mathlib.Nat.{le_refl}
use native.Mathlib.Omega.{arith}
use lib.Pow.{pow-add, pow_pos}
use Rattle.exact.specs.Fraction.{Fraction, nat, parts, ◌≼◌, ◌≈◌}
use Rattle.exact.proofs.Fraction.Order.{≼-not-≺, ≈-≼-trans, ≼-≈-trans, ≈-sym}
use Rattle.exact.proofs.Fraction.Parts.{≼-parts, parts-nat, parts-nonpos}
use Rattle.sheet.specs.Number.{bias}
use Rattle.bracket.specs.Span.{Span, Each}
use Rattle.measure.specs.Measure.{Fine, Digited}
use Rattle.measure.proofs.Lift.{each_map}
use Rattle.measure.proofs.Measure.{digited_fine, digited_in, fine_in}
use Rattle.measure.proofs.Sizes.{Summed, Plus}

pub plus-in : {v l h l' h' : ℕ} {A : Span} → l' ≤ l → h ≤ h' → Each (Plus v l h) A → Each (Plus v l' h') A
plus-in p q = each_map (λ x s. record { above = s.above; digits = digited_in p q s.digits })

pub digits_in : {v l h l' h' : ℕ} {A : Span} → l' ≤ l → h ≤ h' → Each (Digited v l h) A → Each (Digited v l' h') A
digits_in p q = each_map (λ x s. digited_in p q s)

pub digits-fine : {v g l h h' : ℕ} {A : Span} → v + g ≤ l → h ≤ h' → Each (Digited v l h) A → Each (Fine g h') A
digits-fine p q = each_map (λ x s. fine_in (le_refl _) q (digited_fine p s))

pub summed_fine : {v g h h' : ℕ} {A : Span} → h ≤ h' → Each (Summed v g h) A → Each (Fine g h') A
summed_fine q = each_map (λ x s. fine_in (le_refl _) q s.fine)

pub summed_digits : {v g h : ℕ} {A : Span} → Each (Summed v g h) A → Each (Digited v g h) A
summed_digits = each_map (λ x s. s.digits)

pub summed_in : {v g h h' : ℕ} {A : Span} → h ≤ h' → Each (Summed v g h) A → Each (Summed v g h') A
summed_in q = each_map (λ x s. record { fine = fine_in (le_refl _) q s.fine; digits = digited_in (le_refl _) q s.digits })

pub plus-digits : {v l h : ℕ} {A : Span} → Each (Plus v l h) A → Each (Digited v l h) A
plus-digits = each_map (λ x s. s.digits)

-- a number above zero that is at most 2^k
pub most-plus : {v l h : ℕ} {A : Span} (k : ℕ) → Each (λ (x : Fraction). x ≼ nat (2 ^ k)) A → Each (Plus v l h) A → Each (Plus v l (bias + k)) A
most-plus {v} {l} k m p = record { low = less m.low p.low; high = less m.high p.high }
  where
    less : {h : ℕ} {x : Fraction} → x ≼ nat (2 ^ k) → Plus v l h x → Plus v l (bias + k) x
    less {h} {x} m p = record { above = p.above; digits = record { neg = s.neg; m = s.m; e = s.e; is = s.is; few = s.few; least = s.least; most = go s.neg s.is } }
      where
        s : Digited v l h x
        s = p.digits

        go : (n : Bool) → x ≈ parts n (s.m * 2 ^ s.e) (2 ^ bias) → s.m * 2 ^ s.e ≤ 2 ^ (bias + k)
        go true e = absurd (≼-not-≺ (≈-≼-trans e (parts-nonpos (s.m * 2 ^ s.e) (2 ^ bias))) p.above)
        go false e =
            rw (pow-add 2 bias k)
            (let q = ≼-parts (s.m * 2 ^ s.e) (2 ^ bias) (2 ^ k) 1 (pow_pos bias) (omega arith) (≈-≼-trans (≈-sym e) (≼-≈-trans m (≈-sym (parts-nat (2 ^ k))))) in
            omega arith)
