-- The four results of an operation over the ends of two spans: what holds of all four holds of both ends of `over`, which bound all four and
-- look at the numbers and not at how they are written. Assumes nothing.
use mathlib.Core.Bool.{Bool, true, false}
use Rattle.exact.specs.Fraction.{Fraction, ◌≼◌, ◌≈◌}
use Rattle.exact.proofs.Fraction.Order.{≼_trans}
use Rattle.exact.proofs.Fraction.Least.{least-cong, greatest-cong}
use Rattle.exact.specs.Ends.{least_over, greatest_over}
use Rattle.exact.proofs.Bounds.{least_over-elim, least_over-ac, least_over-ae, least_over-bc, least_over-be, least_over-is}
use Rattle.exact.proofs.Bounds.{greatest_over-elim, greatest_over-ac, greatest_over-ae, greatest_over-bc, greatest_over-be, greatest_over-is}
use Rattle.bracket.specs.Span.{Span, Each, Ordered, side, over, ◌∈◌, ◌≃◌}

-- what holds of the four results holds of both ends
pub over-each : {R : Fraction → Type 0} (f : Fraction → Fraction → Fraction) (A B : Span) → ((s t : Bool) → R (f (side s A) (side t B)))
    → Each R (over f A B)
unfolding over
over-each {R} f A B h =
    record {
      low = least_over-elim R f _ _ _ _ (h false false) (h false true) (h true false) (h true true);
      high = greatest_over-elim R f _ _ _ _ (h false false) (h false true) (h true false) (h true true);
    }

-- the result at any two ends lies between the ends
pub corner : (s t : Bool) (f : Fraction → Fraction → Fraction) (A B : Span) → f (side s A) (side t B) ∈ over f A B
unfolding over
corner true true f A B = record { above = least_over-be f _ _ _ _; under = greatest_over-be f _ _ _ _ }
corner true false f A B = record { above = least_over-bc f _ _ _ _; under = greatest_over-bc f _ _ _ _ }
corner false true f A B = record { above = least_over-ae f _ _ _ _; under = greatest_over-ae f _ _ _ _ }
corner false false f A B = record { above = least_over-ac f _ _ _ _; under = greatest_over-ac f _ _ _ _ }

pub over-ordered : (f : Fraction → Fraction → Fraction) (A B : Span) → Ordered (over f A B)
over-ordered f A B = let c = corner false false f A B in record { order = ≼_trans c.above c.under }

-- bounds of the four that lie between the ends are the ends
pub over-is : {l h : Fraction} (f : Fraction → Fraction → Fraction) (A B : Span) → l ∈ over f A B → h ∈ over f A B
    → ((s t : Bool) → l ≼ f (side s A) (side t B)) → ((s t : Bool) → f (side s A) (side t B) ≼ h) → over f A B ≃ record { low = l; high = h }
unfolding over
over-is f A B p q d u =
    record {
      low = least_over-is f _ _ _ _ p.above (d false false) (d false true) (d true false) (d true true);
      high = greatest_over-is f _ _ _ _ q.under (u false false) (u false true) (u true false) (u true true);
    }

pub over-cong : {A C B D : Span} (f : Fraction → Fraction → Fraction) → ((s t : Bool) → f (side s A) (side t B) ≈ f (side s C) (side t D))
    → over f A B ≃ over f C D
unfolding over least_over greatest_over
over-cong f h =
    record {
      low = least-cong (least-cong (h false false) (h false true)) (least-cong (h true false) (h true true));
      high = greatest-cong (greatest-cong (h false false) (h false true)) (greatest-cong (h true false) (h true true));
    }
