-- Brackets look at the numbers and not at how they are written: rules of spans with the same ends are equal. Over the count of bits, suc v.
-- Assumes nothing.
use mathlib.Core.Path.{◌≡◌, ◌∙◌}
use mathlib.Core.Bool.{Bool, true, false}
use Prim.Native.Nat.{ℕ, suc}
use Rattle.exact.specs.Fraction.{Fraction, nat, ◌⊕◌, ◌⊖◌, ◌⊗◌, ◌⊘◌, ◌≺◌, ◌≈◌}
use Rattle.exact.proofs.Fraction.Order.{≈-refl, ≈-sym, ≈-trans, ≺-≼-trans}
use Rattle.exact.proofs.Fraction.Sum.{⊕-cong, ⊖-cong}
use Rattle.exact.proofs.Fraction.Product.{⊗-cong}
use Rattle.exact.proofs.Fraction.Quotient.{⊘-cong}
use Rattle.sheet.specs.declared.Sheet.{Sheet}
use Rattle.sheet.specs.Number.{Spelled}
use Rattle.sheet.specs.Round.{down, up}
use Rattle.sheet.proofs.Laws.{round_resp, round_value}
use Rattle.bracket.specs.declared.Bracket.{Bracket}
use Rattle.bracket.specs.Span.{Span, Ordered, side, point, ◌≃◌}
use Rattle.bracket.specs.Rules.{ends, rounded, plus, minus, times, divided}
use Rattle.bracket.proofs.Corners.{over-cong}
use Rattle.bracket.proofs.Within.{in_side}

pub ≃-refl : (A : Span) → A ≃ A
≃-refl A = record { low = ≈-refl A.low; high = ≈-refl A.high }

pub ≃-sym : {A B : Span} → A ≃ B → B ≃ A
≃-sym e = record { low = ≈-sym e.low; high = ≈-sym e.high }

pub ≃-trans : {A B C : Span} → A ≃ B → B ≃ C → A ≃ C
≃-trans e f = record { low = ≈-trans e.low f.low; high = ≈-trans e.high f.high }

pub point-≃ : {x y : Fraction} → x ≈ y → point x ≃ point y
point-≃ e = record { low = e; high = e }

pub side-≃ : (s : Bool) {A B : Span} → A ≃ B → side s A ≈ side s B
side-≃ true e = e.high
side-≃ false e = e.low

-- the two sheet numbers that round the ends are the bracket
pub rounded-is : (v : ℕ) {A : Span} {l h : Fraction} {lo hi : Sheet} → A ≃ record { low = l; high = h } → lo ≡ down (suc v) l → hi ≡ up (suc v) h
    → record { lo = lo; hi = hi } ≡ rounded (suc v) A
unfolding rounded
rounded-is v e p q = λ i. record { lo = (p ∙ round_resp false v (≈-sym e.low)) i; hi = (q ∙ round_resp true v (≈-sym e.high)) i }

pub rounded-≃ : (v : ℕ) {A B : Span} → A ≃ B → rounded (suc v) A ≡ rounded (suc v) B
unfolding rounded
rounded-≃ v e = λ i. record { lo = round_resp false v e.low i; hi = round_resp true v e.high i }

-- a bracket of sheet numbers is its own rounding
pub rounded-ends : (v : ℕ) (b : Bracket) → Spelled v b.lo → Spelled v b.hi → rounded (suc v) (ends b) ≡ b
unfolding rounded
rounded-ends v b p q = λ i. record { lo = round_value false v b.lo p i; hi = round_value true v b.hi q i }

module _ (v : ℕ) {A B C D : Span} (e : A ≃ C) (f : B ≃ D) where
  pub plus-≃ : plus (suc v) A B ≡ plus (suc v) C D
  plus-≃ = rounded-≃ v (over-cong ◌⊕◌ (λ s t. ⊕-cong (side-≃ s e) (side-≃ t f)))

  pub minus-≃ : minus (suc v) A B ≡ minus (suc v) C D
  minus-≃ = rounded-≃ v (over-cong ◌⊖◌ (λ s t. ⊖-cong (side-≃ s e) (side-≃ t f)))

  pub times-≃ : times (suc v) A B ≡ times (suc v) C D
  times-≃ = rounded-≃ v (over-cong ◌⊗◌ (λ s t. ⊗-cong (side-≃ s e) (side-≃ t f)))

  pub divided-≃ : Ordered B → nat 0 ≺ B.low → divided (suc v) A B ≡ divided (suc v) C D
  divided-≃ b pos = rounded-≃ v (over-cong ◌⊘◌ (λ s t. ⊘-cong (≺-≼-trans pos (in_side t b).above) (side-≃ s e) (side-≃ t f)))
