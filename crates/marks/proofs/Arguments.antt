-- Numbers in range and above zero; an end of the exponential's argument is in range, and from 2^-57 to 64. Assumes nothing.
use Rattle.std.proofs.Common.{◌≡◌, ℕ, suc, ◌+◌, ◌-◌, ◌*◌, ◌%◌, ◌^◌, ◌≤◌, false, refl, inl, inr, le_of_lt, mul-le-mul_right, arith, lit≤, pow_pos, pow_mono, pow-add}
use Rattle.std.specs.Prelude.{Option, None, Some, IfSome}
use Rattle.std.specs.Option.{unwrap_or}
use Rattle.exact.specs.Fraction.{nat, parts, ◌≼◌, ◌≺◌}
use Rattle.exact.proofs.Fraction.Order.{≼_refl, ≼-≈-trans}
use Rattle.exact.proofs.Fraction.Parts.{parts-≼, parts-nat}
use Rattle.sheet.specs.declared.Sheet.{Sheet}
use Rattle.sheet.specs.Number.{bias, value, plain_zero, Digits}
use Rattle.sheet.specs.Range.{InRange, Width}
use Rattle.sheet.proofs.Live.{bias-is, one_shl}
use Rattle.sheet.proofs.Operations.{digits-pos}
use Rattle.bracket.specs.Rules.{ends}
use Rattle.bracket.specs.Held.{Held}
use Rattle.series.specs.Terms.{Factor}
use Rattle.marks.specs.Argument.{Argument}

-- what holds of a number that was found, and of the one in its place
pub found_or : {P Q : Sheet → Type 0} {r : Sheet} (o : Option Sheet) (d : Sheet) → r ≡ unwrap_or o d → IfSome o P → ((s : Sheet) → P s → Q s) → Q d → Q r
found_or None d e h f q = rw e q
found_or (Some s) d e h f q = rw e (f s h)

-- digits at a place in range
pub spaced : {v : ℕ} (s : Sheet) → Width v → Digits v s.m → 182144 ≤ s.e → s.e ≤ 342144 → InRange v s
spaced s w d a b =
    let z = bias-is in
    record { width = w; within = record { normal = inr d; exponent = inr (omega arith, omega arith) } }

pub nothing : {v : ℕ} → Width v → InRange v plain_zero
nothing w = record { width = w; within = record { normal = inl refl; exponent = inl refl } }

pub positive : (v : ℕ) (s : Sheet) → s.neg ≡ false → Digits v s.m → nat 0 ≺ value s
positive v s n d = digits-pos s n (let p = pow_pos v in omega (arith, d.low))

-- the digits of one
pub one-digits : {v : ℕ} → Width v → Digits v (1 * 2 ^ v % 2 ^ 64)
one-digits {v} w = rw (one_shl w) (record { low = omega arith; high = let p = pow_pos v in omega arith })

pub one : {v : ℕ} → Width v → Argument v (record { neg = false; m = 1 * 2 ^ v % 2 ^ 64; e = 262144 - v })
one {v} w =
    let z = bias-is in
    let h = w.high in
    record { plain = refl; width = w; digits = one-digits w; least = omega arith; most = omega arith }

pub in_range : (v : ℕ) (s : Sheet) → Argument v s → InRange v s
in_range v s h = record {
  width = h.width;
  within =
      let a : 31 ≤ v = h.width.low in
      let b : v ≤ 52 = h.width.high in
      record { normal = inr h.digits; exponent = inr (omega (arith, h.least), omega (arith, h.most)) };
}

least : (v : ℕ) (s : Sheet) → Argument v s → parts false 1 (2 ^ 57) ≼ value s
unfolding value
least v s h =
    let a : 2 ^ bias ≤ 2 ^ (v + s.e) * 2 ^ 57 =
    rw (pow-add 2 (v + s.e) 57) at (pow_mono (let t : bias ≤ v + s.e + 57 = omega (arith, h.least) in t))
    in
    let b : 2 ^ (v + s.e) ≤ s.m * 2 ^ s.e = rw (pow-add 2 v s.e) (mul-le-mul_right (2 ^ s.e) h.digits.low) in
    rw h.plain (parts-≼ 1 (2 ^ 57) (s.m * 2 ^ s.e) (2 ^ bias) (pow_pos 57) (pow_pos bias) (omega (arith, a, b)))

most : (v : ℕ) (s : Sheet) → Argument v s → value s ≼ nat 64
unfolding value
most v s h =
    let a : 2 ^ (suc v + s.e) ≤ 2 ^ bias * 2 ^ 6 =
    rw (pow-add 2 bias 6) at (pow_mono (let t : suc v + s.e ≤ bias + 6 = omega (arith, h.most) in t))
    in
    let b : s.m * 2 ^ s.e ≤ 2 ^ (suc v + s.e) =
    rw (pow-add 2 (suc v) s.e) (mul-le-mul_right (2 ^ s.e) (le_of_lt h.digits.high))
    in
    rw h.plain
    (≼-≈-trans (parts-≼ (s.m * 2 ^ s.e) (2 ^ bias) 64 1 (pow_pos bias) (lit≤ tt) (omega (arith, a, b))) (parts-nat 64))

-- two such ends in order
pub between : (v : ℕ) (x y : Sheet) → Argument v x → Argument v y → value x ≼ value y
    → Held v (record { lo = x; hi = y }) × Factor (ends (record { lo = x; hi = y }))
between v x y h k o =
    (record { lo = in_range v x h; hi = in_range v y k; order = o }, record { least = least v x h; order = o; most = most v y k })

pub alone : (v : ℕ) (x : Sheet) → Argument v x → Held v (record { lo = x; hi = x }) × Factor (ends (record { lo = x; hi = x }))
alone v x h = between v x x h h (≼_refl (value x))
