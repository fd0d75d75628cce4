-- Which two sheet numbers a rule's bracket is: by the order of the ends for the sum and the difference, by their signs for the product and
-- the quotient; and that the least of two roundings is the rounding of the least. Over the count of bits, suc v. Assumes nothing.
use mathlib.Core.Path.{◌≡◌, refl, sym, ap, subst, ◌∙◌}
use mathlib.Core.Bool.{Bool, true, false, not, cond}
use Prim.Native.Nat.{ℕ, suc, ◌*◌, ◌^◌, ◌<◌}
use Rattle.exact.specs.Fraction.{Fraction, nat, leq, parts, least, greatest, ◌⊕◌, ◌⊖◌, ◌⊗◌, ◌⊘◌, ◌≼◌, ◌≺◌, ◌≈◌}
use Rattle.exact.proofs.Fraction.Order.{≼_trans, ≼-antisym, ≺→≼, ≈-sym, ≼-leq, leq-true, leq-false}
use Rattle.exact.proofs.Fraction.Parts.{parts-nonneg, parts-nonpos, nat-pos}
use Rattle.sheet.specs.declared.Sheet.{Sheet}
use Rattle.sheet.specs.Number.{value, bias, Spelled}
use Rattle.sheet.specs.Round.{round, down, up}
use Rattle.sheet.proofs.Laws.{round_mono, round_spelled, round_value}
use Rattle.sheet.proofs.Spelling.{one-spelling}
use Rattle.bracket.specs.declared.Bracket.{Bracket}
use Rattle.bracket.specs.Span.{Span, Ordered, Sign, side, whole}
use Rattle.bracket.specs.Rules.{ends, given, plus, minus, times, divided}
use Rattle.bracket.specs.Held.{Held}
use Rattle.bracket.proofs.Signs.{over-plus, over-minus, over-times, over-divided, over-comm}
use Rattle.bracket.proofs.Same.{rounded-is, rounded-≃, point-≃}
use Rattle.bracket.proofs.Within.{point-ordered}

pub held-ordered : {v : ℕ} {b : Bracket} → Held v b → Ordered (ends b)
held-ordered h = record { order = h.order }

-- ---- signs

pub sign_value : (s : Sheet) → Sign s.neg (value s)
unfolding value
sign_value s = go s.neg
  where
    go : (n : Bool) → Sign n (parts n (s.m * 2 ^ s.e) (2 ^ bias))
    go true = parts-nonpos _ _
    go false = parts-nonneg _ _

pub sign-of : (s : Sheet) {n : Bool} → s.neg ≡ n → Sign n (value s)
sign-of s e = subst (λ (n : Bool). Sign n (value s)) e (sign_value s)

-- ---- the rounding of the least is the least of the roundings

module _ (up : Bool) (v : ℕ) (x y : Fraction) where
  same : value (round up (suc v) x) ≼ value (round up (suc v) y) → y ≺ x → round up (suc v) x ≡ round up (suc v) y
  same h k =
      one-spelling v _ _ (round_spelled up v x) (round_spelled up v y) (≼-antisym h (round_mono up v (≺→≼ k)))

  pub round_least : round up (suc v) (least x y) ≡ cond (leq (value (round up (suc v) x)) (value (round up (suc v) y))) (round up (suc v) x) (round up (suc v) y)
  unfolding least
  round_least = go (leq x y) refl
    where
      under : (b : Bool) → leq (value (round up (suc v) x)) (value (round up (suc v) y)) ≡ b → y ≺ x → round up (suc v) y ≡ cond b (round up (suc v) x) (round up (suc v) y)
      under true t k = sym (same (leq-true _ _ t) k)
      under false t k = refl

      go : (b : Bool) → leq x y ≡ b → round up (suc v) (cond b x y) ≡ cond (leq (value (round up (suc v) x)) (value (round up (suc v) y))) (round up (suc v) x) (round up (suc v) y)
      go true t = rw (≼-leq (round_mono up v (leq-true x y t)))
      go false t = under (leq (value (round up (suc v) x)) (value (round up (suc v) y))) refl (leq-false x y t)

  pub round_greatest : round up (suc v) (greatest x y) ≡ cond (leq (value (round up (suc v) x)) (value (round up (suc v) y))) (round up (suc v) y) (round up (suc v) x)
  unfolding greatest
  round_greatest = go (leq x y) refl
    where
      over : (b : Bool) → leq (value (round up (suc v) x)) (value (round up (suc v) y)) ≡ b → y ≺ x → round up (suc v) x ≡ cond b (round up (suc v) y) (round up (suc v) x)
      over true t k = same (leq-true _ _ t) k
      over false t k = refl

      go : (b : Bool) → leq x y ≡ b → round up (suc v) (cond b y x) ≡ cond (leq (value (round up (suc v) x)) (value (round up (suc v) y))) (round up (suc v) y) (round up (suc v) x)
      go true t = rw (≼-leq (round_mono up v (leq-true x y t)))
      go false t = over (leq (value (round up (suc v) x)) (value (round up (suc v) y))) refl (leq-false x y t)

-- the same as the code has it: s and t are roundings, r the one that the test picks
pub rounding_spelled : (up : Bool) (v : ℕ) (x : Fraction) {s : Sheet} → s ≡ round up (suc v) x → Spelled v s
rounding_spelled up v x e = subst (λ (s : Sheet). Spelled v s) (sym e) (round_spelled up v x)

module _ (up : Bool) (v : ℕ) (x y : Fraction) {r s t : Sheet} (p : s ≡ round up (suc v) x) (q : t ≡ round up (suc v) y) where
  pub lesser_is : r ≡ cond (leq (value s) (value t)) s t → r ≡ round up (suc v) (least x y)
  lesser_is e = e ∙ (λ i. cond (leq (value (p i)) (value (q i))) (p i) (q i)) ∙ sym (round_least up v x y)

  pub greater_is : r ≡ cond (leq (value s) (value t)) t s → r ≡ round up (suc v) (greatest x y)
  greater_is e = e ∙ (λ i. cond (leq (value (p i)) (value (q i))) (q i) (p i)) ∙ sym (round_greatest up v x y)

-- ---- two roundings

-- an exact end is both ends
pub given_exact : (v : ℕ) {x : Fraction} (s : Sheet) → Spelled v s → value s ≈ x → record { lo = s; hi = s } ≡ given (suc v) x
given_exact v s p e =
    rounded-is v (point-≃ (≈-sym e)) (sym (round_value false v s p)) (sym (round_value true v s p))

module _ (v : ℕ) {A B : Span} (p : Ordered A) (q : Ordered B) where
  pub plus-is : record { lo = down (suc v) (A.low ⊕ B.low); hi = up (suc v) (A.high ⊕ B.high) } ≡ plus (suc v) A B
  plus-is = rounded-is v (over-plus p q) refl refl

  pub minus_is : record { lo = down (suc v) (A.low ⊖ B.high); hi = up (suc v) (A.high ⊖ B.low) } ≡ minus (suc v) A B
  minus_is = rounded-is v (over-minus p q) refl refl

  -- operands at or above zero
  pub times-is : nat 0 ≼ A.low → nat 0 ≼ B.low → record { lo = down (suc v) (A.low ⊗ B.low); hi = up (suc v) (A.high ⊗ B.high) } ≡ times (suc v) A B
  times-is j k = rounded-is v (over-times false false false A B p q k j (≼_trans j p.order)) refl refl

  pub divided-is : nat 0 ≼ A.low → nat 0 ≺ B.low → record { lo = down (suc v) (A.low ⊘ B.high); hi = up (suc v) (A.high ⊘ B.low) } ≡ divided (suc v) A B
  divided-is j k = rounded-is v (over-divided false false A B p q k j (≼_trans j p.order)) refl refl

-- by the signs that the code reads off the ends
module _ (v : ℕ) (a b : Bracket) (p : Ordered (ends a)) (q : Ordered (ends b)) where
  pub divided-by : nat 0 ≺ value b.lo
      → record { lo = down (suc v) (value a.lo ⊘ side (not a.lo.neg) (ends b)); hi = up (suc v) (value a.hi ⊘ side a.hi.neg (ends b)) } ≡ divided (suc v) (ends a) (ends b)
  divided-by k =
      rounded-is v (over-divided a.lo.neg a.hi.neg (ends a) (ends b) p q k (sign_value a.lo) (sign_value a.hi)) refl refl

-- by one number above zero, whatever the signs
pub divided-share : (v : ℕ) (a : Bracket) (n : ℕ) → Ordered (ends a) → 0 < n
    → record { lo = down (suc v) (value a.lo ⊘ nat n); hi = up (suc v) (value a.hi ⊘ nat n) } ≡ divided (suc v) (ends a) (whole n)
divided-share v a n o p =
    rounded-is v (over-divided a.lo.neg a.hi.neg (ends a) (whole n) o (point-ordered (nat n)) (nat-pos p) (sign_value a.lo) (sign_value a.hi))
    (ap (λ (x : Fraction). down (suc v) (value a.lo ⊘ x)) (sym (one_end (not a.lo.neg))))
    (ap (λ (x : Fraction). up (suc v) (value a.hi ⊘ x)) (sym (one_end a.hi.neg)))
  where
    one_end : (t : Bool) → side t (whole n) ≡ nat n
    one_end true = refl
    one_end false = refl

pub times-comm : (v : ℕ) (A B : Span) → times (suc v) A B ≡ times (suc v) B A
times-comm v A B = rounded-≃ v (over-comm A B)
