-- The range of E: zero or at least 2^-256, at most 1; and at least 2^-9 where g is at most 1, which is never clipped. Over the count of bits
-- suc v. Assumes nothing.
use mathlib.Core.Path.{◌≡◌, refl}
use mathlib.Core.Logic.{inl}
use mathlib.Core.Bool.{Bool, true, false, cond}
use Prim.Native.Nat.{ℕ, zero, suc, ◌+◌, ◌-◌, ◌≤◌}
use native.Mathlib.Nat.{le_refl, zero-mul}
use native.Mathlib.Omega.{arith}
use lib.Pow.{pow-add, pow_mono}
use Rattle.exact.specs.Fraction.{Fraction, nat, leq, least, ◌≼◌, ◌≺◌, ◌≈◌}
use Rattle.exact.proofs.Fraction.Order.{≼_trans, ≺→≼, ≼-≈-trans, ≈-sym, ≈-trans, ≼-leq, leq-true}
use Rattle.exact.proofs.Fraction.Sum.{negate-nonpos}
use Rattle.exact.proofs.Fraction.Least.{least-elim, least-left, ≺-least}
use Rattle.exact.proofs.Fraction.Parts.{nat-pos, nat-≼, parts-zero}
use Rattle.sheet.specs.Number.{bias, value, plain_zero}
use Rattle.sheet.proofs.Operations.{zero_value}
use Rattle.bracket.specs.declared.Bracket.{Bracket}
use Rattle.bracket.specs.Span.{Each, Ordered, point}
use Rattle.bracket.specs.Rules.{ends}
use Rattle.bracket.proofs.Within.{point-ordered}
use Rattle.series.specs.Exponential.{expneg}
use Rattle.series.proofs.Short.{unit-one}
use Rattle.series.proofs.Units.{unit-nat, unit-pos}
use Rattle.series.proofs.Tight.{sized_tight, sized_under}
use Rattle.series.proofs.ExponentialRange.{expneg-plus, expneg-small}
use Rattle.measure.specs.Measure.{Sized}
use Rattle.measure.proofs.Lift.{each_map}
use Rattle.measure.proofs.Measure.{nat-sized, sized_in, digited_sized}
use Rattle.measure.proofs.Sizes.{Positive, Plus, plus-positive, plus-sized, given_sized}
use Rattle.equation.specs.Rules.{clipped, factor_e}
use Rattle.equation.proofs.Room.{room}

-- zero has every size
zero_sized : (l h : ℕ) {x : Fraction} → x ≈ nat 0 → Sized l h x
zero_sized l h e =
    record { neg = false; num = 0; den = 1; is = ≈-trans e (≈-sym (parts-zero false 1)); some = omega arith; least = inl refl; most = rw zero-mul (omega arith) }

-- above zero and at most 128
pub up_to-128 : {l h : ℕ} {x : Fraction} → nat 0 ≺ x → x ≼ nat 128 → Sized l h x → Positive l (bias + 7) x
up_to-128 above most s =
    record { above = above; sized = sized_tight (bias + 7) (≼_trans (negate-nonpos (≺→≼ (unit-pos (bias + 7)))) (≺→≼ above)) (≼-≈-trans most (≈-sym (unit-nat 7))) s }

-- 128 itself
pub most-positive : Positive (bias - 292) (bias + 7) (nat 128)
most-positive =
    let r = room in
    record { above = nat-pos (omega arith); sized = nat-sized (bias - 292) (bias + 7) 128 (omega (arith, pow_mono {i = bias - 292} {j = bias} (omega arith))) (rw (pow-add 2 bias 7) (omega arith)) }

module _ (v : ℕ) where
  -- no exponential
  pub plain-e : (g : Bracket) → Each (Sized (bias - 9) bias) (ends (factor_e (suc v) zero g))
  unfolding factor_e
  plain-e g =
      let r = room in
      each_map (λ _ d. sized_in (omega arith) (le_refl bias) (digited_sized d)) (given_sized v (nat-sized bias bias 1 (omega arith) (omega arith)))

module _ (v : ℕ) (digits : 8 ≤ v) where
  clipped-sized : {h : ℕ} (g : Bracket) → Each (Plus v (bias - 292) h) (ends g) → Each (Sized (bias - 256) bias) (ends (clipped (suc v) g))
  unfolding clipped
  clipped-sized {h} g p =
      let y = least (nat 128) (value g.lo) in
      let b : Sized (bias - 292) (bias + 7 + h) y =
      least-elim (Sized (bias - 292) (bias + 7 + h)) (sized_in (le_refl _) (omega arith) most-positive.sized) (sized_in (le_refl _) (omega arith) (digited_sized p.low.digits)) in
      let k = up_to-128 (≺-least most-positive.above p.low.above) (least-left (nat 128) (value g.lo)) b in
      let e = expneg-plus v {X = point y} (point-ordered y) (record { low = k; high = k }) digits in
      record { low = zero_sized (bias - 256) bias (zero_value plain_zero refl); high = digited_sized e.high.digits }

  pub factor_e-sized : {h : ℕ} (c : ℕ) (g : Bracket) → Each (Plus v (bias - 292) h) (ends g) → Ordered (ends g)
      → Each (Sized (bias - 256) bias) (ends (factor_e (suc v) c g))
  factor_e-sized zero g p o = let r = room in each_map (λ _ d. sized_in (omega arith) (le_refl bias) d) (plain-e v g)
  factor_e-sized {h} (suc c) g p o = some
    where
      go : (b : Bool) → leq (value g.hi) (nat 128) ≡ b → Each (Sized (bias - 256) bias) (ends (cond b (expneg (suc v) (ends g)) (clipped (suc v) g)))
      go true e =
          let m = leq-true (value g.hi) (nat 128) e in
          plus-sized
          (expneg-plus v o
          (record {
            low = up_to-128 p.low.above (≼_trans o.order m) (digited_sized p.low.digits);
            high = up_to-128 p.high.above m (digited_sized p.high.digits);
          }) digits)
      go false e = clipped-sized g p

      some : Each (Sized (bias - 256) bias) (ends (factor_e (suc v) (suc c) g))
      some = unfold factor_e in go (leq (value g.hi) (nat 128)) refl

  -- for g to 1
  pub factor_e-small : (c : ℕ) (g : Bracket) → Each (Plus v (bias - 292) bias) (ends g) → Ordered (ends g)
      → Each (Sized (bias - 9) bias) (ends (factor_e (suc v) c g))
  unfolding factor_e
  factor_e-small zero g p o = plain-e v g
  factor_e-small (suc c) g p o =
      rw (≼-leq (≼_trans under (nat-≼ {a = 1} {b = 128} (omega arith)))) (plus-sized (expneg-small v o (plus-positive p) digits))
    where
      under : value g.hi ≼ nat 1
      under = ≼-≈-trans (sized_under (digited_sized p.high.digits)) unit-one
