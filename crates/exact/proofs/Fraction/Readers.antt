-- What `negative`, `top` and `bottom` read: of quotients, of a negated fraction, and of two fractions with one value. Assumes nothing.
use Rattle.std.specs.Prelude.{ℕ, ◌*◌, ◌<◌, ◌≡◌, Bool, true, false}
use Rattle.std.proofs.Common.{sym, subst, ◌∙◌, inl, inr, arith}
use Rattle.std.proofs.Math.Nat.{max-eq_right}
use Rattle.exact.specs.Fraction.{Fraction, nat, parts, negative, top, bottom, negate, ◌≺◌, ◌≈◌}
use Rattle.exact.proofs.Fraction.Order.{≼-or-≺, ≈-sym, ≈-trans, ≈→≼, ≈→≽, ≼_trans, ≼-≺-trans}
use Rattle.exact.proofs.Fraction.Parts.{as_parts, ≈-parts, bottom-pos, ≺-negative, ≼-negative, parts-nonneg, parts-neg}

pub top_parts : (s : Bool) (a b : ℕ) → top (parts s a b) ≡ a
unfolding top parts
top_parts false a b = omega arith
top_parts true a b = omega arith

pub bottom-parts : (s : Bool) (a b : ℕ) → 0 < b → bottom (parts s a b) ≡ b
unfolding bottom parts
bottom-parts false a b h = max-eq_right h
bottom-parts true a b h = max-eq_right h

pub negative-plus : (a b : ℕ) → negative (parts false a b) ≡ false
negative-plus a b = ≼-negative (parts-nonneg a b)

pub negative-minus : (a b : ℕ) → 0 < a → negative (parts true a b) ≡ true
negative-minus a b h = ≺-negative (parts-neg a b h)

pub top_nat : (a : ℕ) → top (nat a) ≡ a
unfolding top nat
top_nat a = omega arith

pub bottom-nat : (a : ℕ) → bottom (nat a) ≡ 1
unfolding bottom nat
bottom-nat a = omega arith

pub negative-nat : (a : ℕ) → negative (nat a) ≡ false
unfolding nat
negative-nat a = ≼-negative (omega arith)

pub top_negate : (x : Fraction) → top (negate x) ≡ top x
unfolding top negate
top_negate x = omega arith

pub bottom-negate : (x : Fraction) → bottom (negate x) ≡ bottom x
unfolding bottom negate
bottom-negate x = omega arith

-- zero is what has nothing on top
pub top_zero : (x : Fraction) → top x ≡ 0 → x ≈ nat 0
unfolding top nat
top_zero x h = omega arith

pub zero_top : {x : Fraction} → x ≈ nat 0 → top x ≡ 0
unfolding top nat
zero_top {x} h = omega arith

pub top_pos : {x : Fraction} → nat 0 ≺ x → 0 < top x
unfolding top nat
top_pos {x} h = omega arith

-- one value, one reading
pub negative-resp : {x y : Fraction} → x ≈ y → negative x ≡ negative y
negative-resp {x} {y} e =
    elim (≼-or-≺ (nat 0) x) [
      | inl h ↦ ≼-negative h ∙ sym (≼-negative (≼_trans h (≈→≼ e)))
      | inr h ↦ ≺-negative h ∙ sym (≺-negative (≼-≺-trans (≈→≽ e) h))
    ]

pub top_resp : {x y : Fraction} → x ≈ y → top x * bottom y ≡ top y * bottom x
top_resp {x} {y} e =
    ≈-parts (negative y) (top x) (bottom x) (top y) (bottom y) (bottom-pos x) (bottom-pos y)
    (≈-trans (≈-sym (subst (λ (s : Bool). x ≈ parts s (top x) (bottom x)) (negative-resp e) (as_parts x))) (≈-trans e (as_parts y)))
