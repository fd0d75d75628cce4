-- Inclusion over exact ends: x in A and y in B give x ∘ y between the least and the greatest result over the ends, for the sum, the difference
-- and the product, and for the quotient where the divisor's lower end is above zero. Assumes nothing.
use mathlib.Core.Bool.{Bool, true, false}
use Rattle.exact.specs.Fraction.{Fraction, nat, ◌⊕◌, ◌⊖◌, ◌⊗◌, ◌⊘◌, ◌≺◌, ◌≈◌}
use Rattle.exact.proofs.Fraction.Order.{≼_refl, ≼_trans, ≼-≈-trans, ≈-≼-trans, ≈-sym}
use Rattle.exact.specs.Ends.{Within}
use Rattle.exact.proofs.Bounds.{⊕-within, ⊖-within, ⊗-within, ⊘-within}
use Rattle.bracket.specs.Span.{Span, point, side, Ordered, over, ◌∈◌, ◌≃◌}

pub within : {x : Fraction} {A : Span} → x ∈ A → Within A.low A.high x
within p = record { above = p.above; under = p.under }

pub in_span : {l h x : Fraction} → Within l h x → x ∈ record { low = l; high = h }
in_span p = record { above = p.above; under = p.under }

pub in_point : (x : Fraction) → x ∈ point x
in_point x = record { above = ≼_refl x; under = ≼_refl x }

pub in_≈ : {x y : Fraction} {A : Span} → x ≈ y → x ∈ A → y ∈ A
in_≈ e p = record { above = ≼-≈-trans p.above e; under = ≈-≼-trans (≈-sym e) p.under }

pub in_≃ : {x : Fraction} {A B : Span} → A ≃ B → x ∈ A → x ∈ B
in_≃ e p = record { above = ≈-≼-trans (≈-sym e.low) p.above; under = ≼-≈-trans p.under e.high }

pub in_ordered : {x : Fraction} {A : Span} → x ∈ A → Ordered A
in_ordered p = record { order = ≼_trans p.above p.under }

pub point-ordered : (x : Fraction) → Ordered (point x)
point-ordered x = record { order = ≼_refl x }

pub in_side : (s : Bool) {A : Span} → Ordered A → side s A ∈ A
in_side true h = record { above = h.order; under = ≼_refl _ }
in_side false h = record { above = ≼_refl _; under = h.order }

pub in_plus : {x y : Fraction} {A B : Span} → x ∈ A → y ∈ B → x ⊕ y ∈ over ◌⊕◌ A B
unfolding over
in_plus p q = in_span (⊕-within (within p) (within q))

pub in_minus : {x y : Fraction} {A B : Span} → x ∈ A → y ∈ B → x ⊖ y ∈ over ◌⊖◌ A B
unfolding over
in_minus p q = in_span (⊖-within (within p) (within q))

pub in_times : {x y : Fraction} {A B : Span} → x ∈ A → y ∈ B → x ⊗ y ∈ over ◌⊗◌ A B
unfolding over
in_times p q = in_span (⊗-within (within p) (within q))

pub in_divided : {x y : Fraction} {A B : Span} → nat 0 ≺ B.low → x ∈ A → y ∈ B → x ⊘ y ∈ over ◌⊘◌ A B
unfolding over
in_divided pos p q = in_span (⊘-within pos (within p) (within q))
