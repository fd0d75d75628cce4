-- `encode::encode` meets its contract. Assumes nothing.
use Prim.Native.Nat.{ℕ, ◌*◌, ◌^◌}
use mathlib.Core.Path.{◌≡◌, sym, ap, subst, ◌∙◌}
use mathlib.Core.Bool.{Bool, true, false}
use native.Mathlib.Omega.{arith}
use native.Mathlib.Nat.{zero-mul}
use lib.Ieee.{of_bits}
use Rattle.exact.specs.Fraction.{nat, parts, ◌≈◌}
use Rattle.exact.proofs.Fraction.Parts.{parts-zero}
use Rattle.sheet.specs.Number.{bias}
use Rattle.doubles.proofs.Handed.{double_of-zero}
use Rattle.doubles.proofs.Write.{place_in, written-no_nan, written}
use Rattle.doubles.proofs.encode.encode.Goals as goal

-- a size of zero
no-digits : (s : Bool) (m e : ℕ) → m ≡ 0 → parts s (m * 2 ^ e) (2 ^ bias) ≈ nat 0
no-digits s m e z = subst (λ (n : ℕ). parts s n (2 ^ bias) ≈ nat 0) (sym (ap (λ (n : ℕ). n * 2 ^ e) z ∙ zero-mul (2 ^ e))) (parts-zero s (2 ^ bias))

pub returns-then-m-eq0 : goal.returns-then-m-eq0
unfolding of_bits
returns-then-m-eq0 c = sym (double_of-zero (no-digits c.args.neg c.args.m c.args.e c.if-m-eq0.true))

pub overflow_mul-bits : goal.overflow_mul-bits
overflow_mul-bits c = omega (arith, place_in c.args.m c.args.e c.settled-p.result c.requires c.settled-p.ensures)

pub overflow_add-bits : goal.overflow_add-bits
overflow_add-bits c = omega (arith, place_in c.args.m c.args.e c.settled-p.result c.requires c.settled-p.ensures, c.settled-p.ensures)

pub overflow_add-result : goal.overflow_add-result
overflow_add-result c = omega (arith, place_in c.args.m c.args.e c.settled-p.result c.requires c.settled-p.ensures, c.settled-p.ensures)

pub float_from_bits-result : goal.float_from_bits-result
float_from_bits-result c = written-no_nan c.args.m c.args.e c.settled-p.result c.requires c.settled-p.ensures true

pub float_from_bits-result-else-neg : goal.float_from_bits-result-else-neg
float_from_bits-result-else-neg c = written-no_nan c.args.m c.args.e c.settled-p.result c.requires c.settled-p.ensures false

pub returns-then-neg : goal.returns-then-neg
returns-then-neg c = rw c.if-neg.true (written c.args.m c.args.e c.settled-p.result c.requires c.settled-p.ensures true (omega arith))

pub returns-else-neg : goal.returns-else-neg
returns-else-neg c = rw c.if-neg.false (written c.args.m c.args.e c.settled-p.result c.requires c.settled-p.ensures false (omega arith))
