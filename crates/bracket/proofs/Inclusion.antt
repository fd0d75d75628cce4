-- Inclusion of brackets over the count of bits, suc v: what lies in the operands lies, through the operation, in the rule's bracket; and every
-- rule's lower end is not above its upper. Assumes nothing.
use Prim.Native.Nat.{ℕ, zero, suc}
use Rattle.exact.specs.Fraction.{Fraction, nat, ◌⊕◌, ◌⊖◌, ◌⊗◌, ◌⊘◌, ◌≼◌, ◌≺◌}
use Rattle.exact.proofs.Fraction.Order.{≼_trans}
use Rattle.exact.proofs.Fraction.Sum.{≼-⊕-right}
use Rattle.exact.specs.Series.{power as raised}
use Rattle.sheet.specs.Number.{value}
use Rattle.sheet.proofs.Laws.{down_le, up_ge}
use Rattle.bracket.specs.declared.Bracket.{Bracket}
use Rattle.bracket.specs.Span.{Span, Ordered, ◌∈◌}
use Rattle.bracket.specs.Rules.{ends, rounded, given, combined, plus, minus, times, divided, power, addlast}
use Rattle.bracket.proofs.Corners.{over-ordered}
use Rattle.bracket.proofs.Within.{in_point, in_plus, in_minus, in_times, in_divided, in_ordered, point-ordered}

module _ (v : ℕ) where
  pub rounded-in : {x : Fraction} {A : Span} → x ∈ A → x ∈ ends (rounded (suc v) A)
  unfolding rounded
  rounded-in {A = A} p = record { above = ≼_trans (down_le v A.low) p.above; under = ≼_trans p.under (up_ge v A.high) }

  pub given_in : (x : Fraction) → x ∈ ends (given (suc v) x)
  given_in x = rounded-in (in_point x)

  pub plus-in : {x y : Fraction} {A B : Span} → x ∈ A → y ∈ B → x ⊕ y ∈ ends (plus (suc v) A B)
  plus-in p q = rounded-in (in_plus p q)

  pub minus-in : {x y : Fraction} {A B : Span} → x ∈ A → y ∈ B → x ⊖ y ∈ ends (minus (suc v) A B)
  minus-in p q = rounded-in (in_minus p q)

  pub times-in : {x y : Fraction} {A B : Span} → x ∈ A → y ∈ B → x ⊗ y ∈ ends (times (suc v) A B)
  times-in p q = rounded-in (in_times p q)

  pub divided-in : {x y : Fraction} {A B : Span} → nat 0 ≺ B.low → x ∈ A → y ∈ B → x ⊘ y ∈ ends (divided (suc v) A B)
  divided-in pos p q = rounded-in (in_divided pos p q)

  pub power_in : {x : Fraction} (b : Bracket) → x ∈ ends b → (n : ℕ) → raised x n ∈ ends (power (suc v) b n)
  unfolding power raised
  power_in b p zero = given_in (nat 1)
  power_in b p (suc n) = times-in (power_in b p n) p

  -- the sum with the upper end of its last addend once more holds what lies between
  pub addlast-in : {x : Fraction} (s t : Bracket) → value s.lo ≼ x → x ≼ value s.hi ⊕ value t.hi → x ∈ ends (addlast (suc v) s t)
  unfolding addlast
  addlast-in s t p q = record { above = p; under = ≼_trans q (up_ge v (value s.hi ⊕ value t.hi)) }

  pub rounded-ordered : {A : Span} → Ordered A → Ordered (ends (rounded (suc v) A))
  unfolding rounded
  rounded-ordered {A} h = record { order = ≼_trans (down_le v A.low) (≼_trans h.order (up_ge v A.high)) }

  pub given_ordered : (x : Fraction) → Ordered (ends (given (suc v) x))
  given_ordered x = rounded-ordered (point-ordered x)

  pub combined-ordered : (f : Fraction → Fraction → Fraction) (A B : Span) → Ordered (ends (combined (suc v) f A B))
  combined-ordered f A B = rounded-ordered (over-ordered f A B)

  pub power-ordered : (b : Bracket) (n : ℕ) → Ordered (ends (power (suc v) b n))
  unfolding power
  power-ordered b zero = given_ordered (nat 1)
  power-ordered b (suc n) = combined-ordered ◌⊗◌ (ends (power (suc v) b n)) (ends b)

  pub addlast-ordered : (s t : Bracket) → Ordered (ends s) → nat 0 ≼ value t.hi → Ordered (ends (addlast (suc v) s t))
  addlast-ordered s t h k = in_ordered (addlast-in s t h.order (≼-⊕-right k))
