-- The table of signs as the product reads it: the ends that meet, by the sign of all of one factor and those of the other's ends. Assumes
-- nothing.
use mathlib.Core.Path.{◌≡◌, refl, sym, ap, ◌∙◌}
use mathlib.Core.Bool.{Bool, true, false, not, ◌&&◌, false≢true}
use Prim.Native.Nat.{ℕ, suc}
use Rattle.exact.specs.Fraction.{Fraction, ◌⊗◌}
use Rattle.sheet.specs.declared.Sheet.{Sheet}
use Rattle.sheet.specs.Number.{value}
use Rattle.sheet.specs.Round.{down, up}
use Rattle.sheet.specs.Range.{InRange}
use Rattle.bracket.specs.declared.Bracket.{Bracket}
use Rattle.bracket.specs.declared.products.Meeting.{Meeting}
use Rattle.bracket.specs.Span.{Sign, side}
use Rattle.bracket.specs.Rules.{ends}
use Rattle.bracket.specs.Held.{Held}
use Rattle.bracket.specs.Meets.{Meets}
use Rattle.bracket.proofs.Signs.{over-times}
use Rattle.bracket.proofs.Same.{rounded-is}
use Rattle.bracket.proofs.Ends.{held-ordered, times-comm}

-- the upper end for `true`, the lower for `false`
abbrev pub end_of : Bool → Bracket → Sheet
end_of true b = b.hi
end_of false b = b.lo

end-value : (t : Bool) (b : Bracket) → value (end_of t b) ≡ side t (ends b)
end-value true b = refl
end-value false b = refl

end-range : {v : ℕ} (t : Bool) (b : Bracket) → Held v b → InRange v (end_of t b)
end-range true b h = h.hi
end-range false b h = h.lo

-- the rounded product of x with the end that its sign picks, where the sign is known
pub met_by_sign : (rounding : Fraction → Sheet) (pick : Bool → Bool) (x : Sheet) (b : Bracket) {t : Bool} → x.neg ≡ t → rounding (value x ⊗ side (pick t) (ends b)) ≡ rounding (value x ⊗ side (pick x.neg) (ends b))
met_by_sign rounding pick x b e = ap (λ (t : Bool). rounding (value x ⊗ side (pick t) (ends b))) (sym e)

-- x is the sign of all of b, s and t the signs of the ends of a that give the least and the greatest product
pub meets : {v : ℕ} {a b : Bracket} (x s t : Bool) → Held v a → Held v b → Sign x (side x (ends b)) → Sign s (side x (ends a)) → Sign t (side (not x) (ends a))
    → Meets v a b (record { p = end_of x a; q = end_of s b; r = end_of (not x) a; s = end_of (not t) b })
meets {v} {a} {b} x s t g h k i j =
    record {
      p = end-range x a g;
      q = end-range s b h;
      r = end-range (not x) a g;
      s = end-range (not t) b h;
      product =
          (λ n. record { lo = down (suc v) (end-value x a n ⊗ end-value s b n); hi = up (suc v) (end-value (not x) a n ⊗ end-value (not t) b n) })
          ∙ rounded-is v (over-times x s t (ends a) (ends b) (held-ordered g) (held-ordered h) k i j) refl refl;
    }

-- the factors change places
pub meets-comm : {v : ℕ} {a b : Bracket} {m : Meeting} → Meets v b a m → Meets v a b m
meets-comm {v} {a} {b} h =
    record { p = h.p; q = h.q; r = h.r; s = h.s; product = h.product ∙ times-comm v (ends b) (ends a) }

-- the four signs of factors that both reach across zero, and the last of them where not both do
pub signs_across : (p q r s : Bool) → not p && (not q && (r && s)) ≡ true → (p ≡ false) × (q ≡ false) × (r ≡ true) × (s ≡ true)
signs_across true q r s h = absurd (false≢true h)
signs_across false true r s h = absurd (false≢true h)
signs_across false false false s h = absurd (false≢true h)
signs_across false false true false h = absurd (false≢true h)
signs_across false false true true h = (refl, refl, refl, refl)

pub signs_apart : {p q r : Bool} (s : Bool) → p ≡ false → q ≡ false → r ≡ true → not p && (not q && (r && s)) ≡ false → s ≡ false
signs_apart s x y z h = rw (x, y, z) at h

-- a bracket that is nowhere below zero starts there; one that is somewhere below it and ends at or above it starts below
pub signs_above : (p q : Bool) → not p && not q ≡ true → p ≡ false
signs_above true q h = absurd (false≢true h)
signs_above false q h = refl

pub signs_below : (p q : Bool) → q ≡ false → not p && not q ≡ false → p ≡ true
signs_below true q x h = refl
signs_below false true x h = absurd (false≢true (sym x))
signs_below false false x h = absurd (false≢true (sym h))
