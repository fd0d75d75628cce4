-- For densities to 1288, those of kind 38, delta is at most 4, since 1288 is 4 times 322, so that delta to the power c is at most 64 for every
-- c below 4. Assumes nothing.
use Prim.Native.Nat.{ℕ, zero, suc, ◌+◌, ◌*◌, ◌^◌, ◌≤◌, ◌<◌}
use native.Mathlib.Nat.{le_of_eq}
use native.Mathlib.Omega.{arith}
use mathlib.Core.Path.{◌≡◌, refl}
use lib.Pow.{pow-add, pow_mono, pow_pos}
use Rattle.exact.specs.Fraction.{Fraction, nat, ◌⊗◌, ◌⊘◌}
use Rattle.exact.proofs.Fraction.Order.{≼_trans, ≼-≈-trans, ≈-≼-trans, ≈-sym}
use Rattle.exact.proofs.Fraction.Parts.{nat-≼, nat-pos, nat-⊗, nat-nonneg}
use Rattle.exact.proofs.Fraction.Product.{⊗-nonneg, ⊗-mono}
use Rattle.exact.proofs.Fraction.Quotient.{⊘-nonneg, ⊘-≼}
use Rattle.sheet.proofs.Laws.{down_le, up_ge}
use Rattle.bracket.specs.declared.Bracket.{Bracket}
use Rattle.bracket.specs.Span.{Span, Each}
use Rattle.bracket.specs.Rules.{ends, rounded, power}
use Rattle.measure.proofs.Lift.{over-both, each_map}
use Rattle.measure.proofs.Measure.{one-few}
use Rattle.equation.specs.Ranged.{UpTo}
use Rattle.equation.specs.Rules.{delta}
use Rattle.equation.proofs.Short.{short-up, short-down}

-- rounding keeps what lies from 0 to m times 2^k, where m has few enough digits
up_to : (v m k : ℕ) → m < 2 ^ suc v → {A : Span} → Each (UpTo (m * 2 ^ k)) A
    → Each (UpTo (m * 2 ^ k)) (ends (rounded (suc v) A))
unfolding rounded
up_to v m k few a =
    record {
      low = record { low = short-down v 0 0 (pow_pos (suc v)) a.low.low; high = ≼_trans (down_le v _) a.low.high };
      high = record { low = ≼_trans a.high.low (up_ge v _); high = short-up v m k few a.high.high };
    }

four : (n : ℕ) → 1 * 2 ^ (2 * n) * 4 ≡ 1 * 2 ^ (2 * suc n)
four n = rw (arith_two n, pow-add 2 (2 * n) 2) (omega arith)
  where
    arith_two : (n : ℕ) → 2 * suc n ≡ 2 * n + 2
    arith_two n = omega arith

pub power-up_to : (v : ℕ) (b : Bracket) → Each (UpTo 4) (ends b) → (n : ℕ) → Each (UpTo (1 * 2 ^ (2 * n))) (ends (power (suc v) b n))
unfolding power
power-up_to v b h zero = up_to v 1 0 (one-few v) (record { low = one; high = one })
  where
    one : UpTo 1 (nat 1)
    one = record { low = nat-nonneg 1; high = nat-≼ (omega arith) }
power-up_to v b h (suc n) = up_to v 1 (2 * suc n) (one-few v) (over-both ◌⊗◌ step (power-up_to v b h n) h)
  where
    step : (x y : Fraction) → UpTo (1 * 2 ^ (2 * n)) x → UpTo 4 y → UpTo (1 * 2 ^ (2 * suc n)) (x ⊗ y)
    step x y p q =
        record {
          low = ⊗-nonneg p.low q.low;
          high =
              ≼_trans (⊗-mono p.low q.low p.high q.high)
              (≈-≼-trans (≈-sym (nat-⊗ (1 * 2 ^ (2 * n)) 4)) (nat-≼ (le_of_eq (four n))));
        }

-- 1288 is 4 times 322 and has 8 digits
pub delta-up_to : (v : ℕ) → 7 ≤ v → {rho : Fraction} → UpTo 1288 rho → Each (UpTo 4) (ends (delta (suc v) rho))
unfolding delta
delta-up_to v digits {rho} d = up_to v 1 2 (one-few v) (over-both ◌⊘◌ step (up_to v 161 3 few (record { low = d; high = d })) (record { low = refl; high = refl }))
  where
    few : 161 < 2 ^ suc v
    few = omega (arith, pow_mono {i = 8} {j = suc v} (omega arith))

    step : (x y : Fraction) → UpTo 1288 x → y ≡ nat 322 → UpTo 4 (x ⊘ y)
    step x y p e = rw e (record { low = ⊘-nonneg (nat 322) p.low; high = ⊘-≼ (nat-pos (omega arith)) (≼-≈-trans p.high (nat-⊗ 4 322)) })

-- delta to the power c
pub g-most : (v : ℕ) (b : Bracket) → Each (UpTo 4) (ends b) → (c : ℕ) → c < 4 → Each (UpTo 64) (ends (power (suc v) b c))
g-most v b h c few = each_map wider (power-up_to v b h c)
  where
    wider : (x : Fraction) → UpTo (1 * 2 ^ (2 * c)) x → UpTo 64 x
    wider x p = record { low = p.low; high = ≼_trans p.high (nat-≼ (omega (arith, pow_mono {i = 2 * c} {j = 6} (omega arith)))) }
