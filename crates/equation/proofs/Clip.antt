-- How the code of the clip follows its rule: the point may be taken as a sheet number. Over the count of bits suc v. Assumes nothing.
use Prim.Native.Nat.{ℕ, zero, suc, ◌≤◌, ◌<◌, ◌^◌}
use mathlib.Core.Path.{◌≡◌, refl, sym, ap, subst, ◌∙◌}
use mathlib.Core.Bool.{Bool, true, false, cond}
use native.Mathlib.Omega.{arith}
use lib.Pow.{pow_mono}
use Rattle.exact.specs.Fraction.{nat, leq, least, ◌≈◌}
use Rattle.exact.proofs.Fraction.Order.{≈-refl, ≈-sym, leq-resp, leq-true, leq-false}
use Rattle.exact.proofs.Fraction.Least.{least_first, least-second}
use Rattle.sheet.specs.declared.Sheet.{Sheet}
use Rattle.sheet.specs.Number.{value, plain_zero, Spelled}
use Rattle.sheet.specs.Round.{down, round}
use Rattle.sheet.proofs.Laws.{round_spelled, round_whole}
use Rattle.bracket.specs.declared.Bracket.{Bracket}
use Rattle.bracket.specs.Span.{point}
use Rattle.bracket.specs.Rules.{ends, given}
use Rattle.bracket.proofs.Same.{point-≃}
use Rattle.series.specs.Exponential.{expneg}
use Rattle.series.proofs.ExponentialSame.{expneg-≃}
use Rattle.equation.specs.Rules.{clipped, factor_e}
use Rattle.equation.specs.Clip.{clip_at, exponent_of, started_at}

few : {v : ℕ} → 8 ≤ v → 128 < 2 ^ suc v
few {v} h = omega (arith, pow_mono {i = 8} {j = suc v} (omega arith))

-- ---- the tests against 128

module _ {v : ℕ} (digits : 8 ≤ v) {s : Sheet} (e : s ≡ round false (suc v) (nat 128)) where
  pub most-spelled : Spelled v s
  most-spelled = subst (Spelled v) (sym e) (round_spelled false v (nat 128))

  most-is : value s ≈ nat 128
  most-is = subst (λ (t : Sheet). value t ≈ nat 128) (sym e) (round_whole false v 128 (few digits))

  pub at-lower : (g : Bracket) → leq (value s) (value g.lo) ≡ leq (nat 128) (value g.lo)
  at-lower g = leq-resp most-is (≈-refl (value g.lo))

  pub at-upper : (g : Bracket) → leq (value g.hi) (value s) ≡ leq (value g.hi) (nat 128)
  at-upper g = leq-resp (≈-refl (value g.hi)) most-is

-- ---- the rules by their cases

module _ (w : ℕ) (g : Bracket) where
  pub clip_most : leq (nat 128) (value g.lo) ≡ true → clip_at w g ≡ down w (nat 128)
  unfolding clip_at
  clip_most e = rw e

  pub clip_lower : leq (nat 128) (value g.lo) ≡ false → clip_at w g ≡ g.lo
  unfolding clip_at
  clip_lower e = rw e

pub e_none : (w c : ℕ) (g : Bracket) → c ≡ 0 → factor_e w c g ≡ given w (nat 1)
unfolding factor_e
e_none w zero g z = refl
e_none w (suc c) g z = absurd (omega arith)

pub e_whole : (w c : ℕ) (g : Bracket) → 0 < c → leq (value g.hi) (nat 128) ≡ true → factor_e w c g ≡ expneg w (ends g)
unfolding factor_e
e_whole w zero g p e = absurd (omega arith)
e_whole w (suc c) g p e = rw e

pub e_clipped : (w c : ℕ) (g : Bracket) → 0 < c → leq (value g.hi) (nat 128) ≡ false → factor_e w c g ≡ clipped w g
unfolding factor_e
e_clipped w zero g p e = absurd (omega arith)
e_clipped w (suc c) g p e = rw e

-- ---- the point

-- from zero to a bracket's upper end, and a bracket of one number
abbrev pub from_zero : Bracket → Bracket
from_zero b = record { lo = plain_zero; hi = b.hi }

abbrev pub only : Sheet → Bracket
only s = record { lo = s; hi = s }

pub clipped-is : (v : ℕ) → 8 ≤ v → (g : Bracket) → clipped (suc v) g ≡ from_zero (expneg (suc v) (ends (only (clip_at (suc v) g))))
unfolding clipped clip_at
clipped-is v digits g = go (leq (nat 128) (value g.lo)) refl
  where
    go : (b : Bool) → leq (nat 128) (value g.lo) ≡ b
        → from_zero (expneg (suc v) (point (least (nat 128) (value g.lo)))) ≡ from_zero (expneg (suc v) (ends (only (cond b (down (suc v) (nat 128)) g.lo))))
    go true e =
        rw (least_first (leq-true (nat 128) (value g.lo) e))
        (ap from_zero (expneg-≃ v (point-≃ (≈-sym (round_whole false v 128 (few digits))))))
    go false e = rw (least-second (leq-false (nat 128) (value g.lo) e))

-- E as the code takes it, by whether g is within 128
pub e_taken : (v c : ℕ) → 8 ≤ v → (g : Bracket) → 0 < c → (b : Bool) → leq (value g.hi) (nat 128) ≡ b
    → started_at b (expneg (suc v) (ends (exponent_of (suc v) b g))) ≡ factor_e (suc v) c g
unfolding started_at exponent_of
e_taken v c digits g p true e = sym (e_whole (suc v) c g p e)
e_taken v c digits g p false e = sym (e_clipped (suc v) c g p e ∙ clipped-is v digits g)
