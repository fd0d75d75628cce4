-- Which of the four results are the least and the greatest, by the signs of the ends: the sum, the difference, and the product and the
-- quotient with an operand of one sign need two of them, the product of two spans around zero all four. Assumes nothing.
use mathlib.Core.Bool.{Bool, true, false, not}
use Rattle.exact.specs.Fraction.{Fraction, nat, least, greatest, ◌⊕◌, ◌⊖◌, ◌⊗◌, ◌⊘◌, ◌≼◌, ◌≺◌}
use Rattle.exact.proofs.Fraction.Order.{≼_trans, ≼-antisym, ≺-≼-trans, ≼-resp, ≈-sym}
use Rattle.exact.proofs.Fraction.Sum.{⊕-mono, ⊖-mono}
use Rattle.exact.proofs.Fraction.Product.{⊗-comm, ⊗-mono-left, ⊗-mono-right, ⊗-anti-left, ⊗-anti-right}
use Rattle.exact.proofs.Fraction.Quotient.{⊘-is, inv-anti, ⊘-mono-left, ⊘-anti-right}
use Rattle.exact.proofs.Fraction.Least.{least-elim, greatest-elim, least-left, least-right, greatest-left, greatest-right}
use Rattle.bracket.specs.Span.{Span, Ordered, Each, Sign, side, over, ◌∈◌, ◌≃◌}
use Rattle.bracket.proofs.Corners.{corner, over-each, over-is}
use Rattle.bracket.proofs.Within.{in_≈, in_side}

-- numbers between the ends that bound the results of everything between the ends are the ends
bounded : {l h : Fraction} (f : Fraction → Fraction → Fraction) (A B : Span) → Ordered A → Ordered B → l ∈ over f A B → h ∈ over f A B
    → ((x y : Fraction) → x ∈ A → y ∈ B → l ≼ f x y) → ((x y : Fraction) → x ∈ A → y ∈ B → f x y ≼ h) → over f A B ≃ record { low = l; high = h }
bounded f A B a b p q d u =
    over-is f A B p q (λ s t. d _ _ (in_side s a) (in_side t b)) (λ s t. u _ _ (in_side s a) (in_side t b))

pub over-plus : {A B : Span} → Ordered A → Ordered B → over ◌⊕◌ A B ≃ record { low = A.low ⊕ B.low; high = A.high ⊕ B.high }
over-plus {A} {B} a b =
    bounded ◌⊕◌ A B a b (corner false false ◌⊕◌ A B) (corner true true ◌⊕◌ A B) (λ x y p q. ⊕-mono p.above q.above)
    (λ x y p q. ⊕-mono p.under q.under)

pub over-minus : {A B : Span} → Ordered A → Ordered B → over ◌⊖◌ A B ≃ record { low = A.low ⊖ B.high; high = A.high ⊖ B.low }
over-minus {A} {B} a b =
    bounded ◌⊖◌ A B a b (corner false true ◌⊖◌ A B) (corner true false ◌⊖◌ A B) (λ x y p q. ⊖-mono p.above q.under)
    (λ x y p q. ⊖-mono p.under q.above)

-- the product with a fixed factor a is least at the end of B that the sign of a says, and greatest at the other
least_by : (s : Bool) (a y : Fraction) {B : Span} → Sign s a → y ∈ B → a ⊗ side s B ≼ a ⊗ y
least_by true a y k q = ⊗-anti-right k q.under
least_by false a y k q = ⊗-mono-right k q.above

greatest-by : (s : Bool) (a y : Fraction) {B : Span} → Sign s a → y ∈ B → a ⊗ y ≼ a ⊗ side (not s) B
greatest-by true a y k q = ⊗-anti-right k q.above
greatest-by false a y k q = ⊗-mono-right k q.under

-- with a fixed factor y the product is least at the end of A that the sign of y says, and greatest at the other
falls : (r : Bool) (x y : Fraction) {A : Span} → Sign r y → x ∈ A → side r A ⊗ y ≼ x ⊗ y
falls true x y k p = ⊗-anti-left k p.under
falls false x y k p = ⊗-mono-left k p.above

rises : (r : Bool) (x y : Fraction) {A : Span} → Sign r y → x ∈ A → x ⊗ y ≼ side (not r) A ⊗ y
rises true x y k p = ⊗-anti-left k p.above
rises false x y k p = ⊗-mono-left k p.under

-- where the end of B nearest to the other sign has a sign, all of B has it
sign_in : (r : Bool) (y : Fraction) {B : Span} → Sign r (side r B) → y ∈ B → Sign r y
sign_in true y k q = ≼_trans q.under k
sign_in false y k q = ≼_trans k q.above

-- the table of signs: r is the sign of all of B, s and t the signs of the ends of A that give the least and the greatest product
pub over-times : (r s t : Bool) (A B : Span) → Ordered A → Ordered B → Sign r (side r B) → Sign s (side r A) → Sign t (side (not r) A)
    → over ◌⊗◌ A B ≃ record { low = side r A ⊗ side s B; high = side (not r) A ⊗ side (not t) B }
over-times r s t A B a b k i j =
    bounded ◌⊗◌ A B a b (corner r s ◌⊗◌ A B) (corner (not r) (not t) ◌⊗◌ A B)
    (λ x y p q. ≼_trans (least_by s (side r A) y i q) (falls r x y (sign_in r y k q) p))
    (λ x y p q. ≼_trans (rises r x y (sign_in r y k q) p) (greatest-by t (side (not r) A) y j q))

-- the product does not look at the order of its factors
half : (A B : Span) → Each (λ (x : Fraction). x ∈ over ◌⊗◌ B A) (over ◌⊗◌ A B)
half A B = over-each ◌⊗◌ A B (λ s t. in_≈ (⊗-comm (side t B) (side s A)) (corner t s ◌⊗◌ B A))

pub over-comm : (A B : Span) → over ◌⊗◌ A B ≃ over ◌⊗◌ B A
over-comm A B =
    let h = half A B in
    let k = half B A in
    record { low = ≼-antisym k.low.above h.low.above; high = ≼-antisym h.high.under k.high.under }

-- both spans reach across zero: the least product is one of the two of unlike ends, the greatest one of the two of like ends
pub over-across : {A B : Span} → A.low ≼ nat 0 → nat 0 ≼ A.high → B.low ≼ nat 0 → nat 0 ≼ B.high
    → over ◌⊗◌ A B ≃ record { low = least (A.low ⊗ B.high) (A.high ⊗ B.low); high = greatest (A.low ⊗ B.low) (A.high ⊗ B.high) }
over-across {A} {B} a c b d =
    over-is ◌⊗◌ A B (least-elim (λ (x : Fraction). x ∈ over ◌⊗◌ A B) (corner false true ◌⊗◌ A B) (corner true false ◌⊗◌ A B))
    (greatest-elim (λ (x : Fraction). x ∈ over ◌⊗◌ A B) (corner false false ◌⊗◌ A B) (corner true true ◌⊗◌ A B)) lower upper
  where
    wide : B.low ≼ B.high
    wide = ≼_trans b d

    lower : (s t : Bool) → least (A.low ⊗ B.high) (A.high ⊗ B.low) ≼ side s A ⊗ side t B
    lower true true = ≼_trans (least-right _ _) (⊗-mono-right c wide)
    lower true false = least-right _ _
    lower false true = least-left _ _
    lower false false = ≼_trans (least-left _ _) (⊗-anti-right a wide)

    upper : (s t : Bool) → side s A ⊗ side t B ≼ greatest (A.low ⊗ B.low) (A.high ⊗ B.high)
    upper true true = greatest-right _ _
    upper true false = ≼_trans (⊗-mono-right c wide) (greatest-right _ _)
    upper false true = ≼_trans (⊗-anti-right a wide) (greatest-left _ _)
    upper false false = greatest-left _ _

-- the quotient with a numerator at or below zero rises with its divisor
⊘-rises : {x y v : Fraction} → x ≼ nat 0 → nat 0 ≺ y → y ≼ v → x ⊘ y ≼ x ⊘ v
⊘-rises {x} {y} {v} k pos h = ≼-resp (≈-sym (⊘-is x y)) (≈-sym (⊘-is x v)) (⊗-anti-right k (inv-anti pos h))

least-share : (s : Bool) (a y : Fraction) {B : Span} → nat 0 ≺ B.low → Sign s a → y ∈ B → a ⊘ side (not s) B ≼ a ⊘ y
least-share true a y pos k q = ⊘-rises k pos q.above
least-share false a y pos k q = ⊘-anti-right k (≺-≼-trans pos q.above) q.under

greatest-share : (s : Bool) (a y : Fraction) {B : Span} → nat 0 ≺ B.low → Sign s a → y ∈ B → a ⊘ y ≼ a ⊘ side s B
greatest-share true a y pos k q = ⊘-rises k (≺-≼-trans pos q.above) q.under
greatest-share false a y pos k q = ⊘-anti-right k pos q.above

-- the quotient by a divisor above zero, by the signs s and t of the numerator's ends
pub over-divided : (s t : Bool) (A B : Span) → Ordered A → Ordered B → nat 0 ≺ B.low → Sign s A.low → Sign t A.high
    → over ◌⊘◌ A B ≃ record { low = A.low ⊘ side (not s) B; high = A.high ⊘ side t B }
over-divided s t A B a b pos i j =
    bounded ◌⊘◌ A B a b (corner false (not s) ◌⊘◌ A B) (corner true t ◌⊘◌ A B)
    (λ x y p q. ≼_trans (least-share s A.low y pos i q) (⊘-mono-left y p.above))
    (λ x y p q. ≼_trans (⊘-mono-left y p.under) (greatest-share t A.high y pos j q))
