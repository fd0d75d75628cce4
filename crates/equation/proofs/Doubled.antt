-- Every end that can be handed out is exactly an f64: a multiple of 2^-1074 below 2^1024 in size, for every sound table and every accepted
-- input of either kind, at every count of bits from 9 to 63; and at either width each of these brackets is held. Assumes nothing.
use mathlib.Core.Path.{◌≡◌}
use mathlib.Core.Bool.{Bool, true, false}
use mathlib.Core.List.{List}
use Prim.Native.Nat.{ℕ, suc, ◌+◌, ◌-◌, ◌*◌, ◌^◌, ◌≤◌}
use native.Mathlib.Nat.{le_refl, mul-le-mul_right, zero-mul}
use native.Mathlib.Omega.{arith}
use lib.Pow.{pow-add, pow_pos}
use Rattle.exact.specs.Fraction.{Fraction, parts, ◌⊖◌, ◌⊗◌, ◌≼◌, ◌≈◌}
use Rattle.exact.proofs.Fraction.Order.{≈-≼-trans, ≼-≈-trans, ≈-sym, ≈-trans}
use Rattle.exact.proofs.Fraction.Parts.{parts-≈, ≼-parts, ≼-parts-zero, parts-nat}
use Rattle.sheet.specs.Number.{bias}
use Rattle.sheet.specs.Range.{Width, Doubled}
use Rattle.doubles.specs.Handed.{DoubleValue}
use Rattle.term.specs.Sound.{sound_table}
use Rattle.bracket.specs.declared.Bracket.{Bracket}
use Rattle.bracket.specs.Span.{Each}
use Rattle.bracket.specs.Rules.{ends}
use Rattle.bracket.specs.Held.{Ends, Held}
use Rattle.measure.specs.Measure.{Fine, Digited}
use Rattle.measure.proofs.Sizes.{doubled_both, given_summed}
use Rattle.equation.specs.Accepted.{Temperature, Density, Target}
use Rattle.equation.specs.Ranged.{PressureIn}
use Rattle.equation.specs.Rules.{stiffness_of, gibbs_gap_of, pressure, stiffness, gibbs_gap, target_gap, pressure_gap}
use Rattle.equation.proofs.Weaker.{digits-fine, summed_fine, summed_digits}
use Rattle.equation.proofs.Room.{room, fall}
use Rattle.equation.proofs.SumsRange.{sums-ranged}
use Rattle.equation.proofs.StatesRange.{pressure_of-digits, stiffness_of-digits, gibbs_gap_of-digits, pressures_apart, target_apart}
use Rattle.equation.proofs.Holds.{combined-held}
use Rattle.equation.proofs.HoldsSums.{sums-in}
use Rattle.equation.proofs.HoldsStates.{pressure-in}

-- in numbers: s of k in a unit are s times q of B, where q times k is B
carried : (s q k B : ℕ) → q * k ≡ B → s * B ≡ s * q * k
carried s q k B e = rw (← e) (omega arith)

bounded : (s q k B : ℕ) → q * k ≡ B → s * 1 ≤ 25000000000 * k → s * q ≤ B * 2 ^ 35
bounded s q k B e h = rw (← e) (omega (arith, mul-le-mul_right q h))

-- a target is an f64, so a multiple of its last place
target_fine : (p : Fraction) → DoubleValue p → Target p → Fine (bias - 1074) (bias + 35) p
target_fine p d t =
    let r = room in
    let f = fall 1074 (omega arith) in
    record {
      neg = d.sign;
      times = size;
      is = ≈-trans d.value (parts-≈ d.sign size (2 ^ 1074) (size * 2 ^ (bias - 1074)) (2 ^ bias) (pow_pos 1074) (pow_pos bias) (carried size (2 ^ (bias - 1074)) (2 ^ 1074) (2 ^ bias) f));
      most = most d.sign d.value f;
    }
  where
    size : ℕ
    size = d.digits * 2 ^ d.place

    most : (s : Bool) → p ≈ parts s size (2 ^ 1074) → 2 ^ (bias - 1074) * 2 ^ 1074 ≡ 2 ^ bias → size * 2 ^ (bias - 1074) ≤ 2 ^ (bias + 35)
    most true e f =
        let z = ≼-parts-zero 0 1 size (2 ^ 1074) (omega arith) (pow_pos 1074) (≈-≼-trans (parts-nat 0) (≼-≈-trans t.none e)) in
        rw (z.1, zero-mul) (omega arith)
    most false e f =
        rw (pow-add 2 bias 35)
        (bounded size (2 ^ (bias - 1074)) (2 ^ 1074) (2 ^ bias) f
        (≼-parts size (2 ^ 1074) 25000000000 1 (pow_pos 1074) (omega arith) (≈-≼-trans (≈-sym e) (≼-≈-trans t.most (≈-sym (parts-nat 25000000000))))))

module _ (v : ℕ) (digits : 8 ≤ v) (bits : v ≤ 62) where
  -- digits down to 2^-(764 + 4 v) leave room for v more
  small-doubled : (b : Bracket) → Each (Digited v (bias - (764 + 4 * v)) (bias + 544)) (ends b) → Ends Doubled b
  small-doubled b e =
      let r = room in
      doubled_both b (digits-fine {g = bias - 1074} (omega arith) (le_refl (bias + 544)) e) (omega arith) (omega arith)

  pressure-each : (kind : ℕ) (table : List ℕ) → sound_table kind table ≡ true → {T rho : Fraction} → Temperature T → Density rho
      → Each (Digited v (bias - suc v) (bias + 554)) (ends (pressure (suc v) kind table T rho))
  unfolding pressure
  pressure-each kind table sound t d = pressure_of-digits v bits t d (sums-ranged v digits bits kind table sound t d)

  module _ (kind : ℕ) (table : List ℕ) (sound : sound_table kind table ≡ true) {T : Fraction} (t : Temperature T) where
    pub pressure-doubled : {rho : Fraction} → Density rho → Ends Doubled (pressure (suc v) kind table T rho)
    pressure-doubled d =
        let r = room in
        doubled_both _ (digits-fine {g = bias - 1074} (omega arith) (le_refl (bias + 554)) (pressure-each kind table sound t d)) (omega arith) (omega arith)

    pub stiffness-doubled : {rho : Fraction} → Density rho → Ends Doubled (stiffness (suc v) kind table T rho)
    unfolding stiffness
    stiffness-doubled d = small-doubled _ (stiffness_of-digits v bits t (sums-ranged v digits bits kind table sound t d))

    pub gibbs_gap-doubled : {liquid vapour : Fraction} → Density liquid → Density vapour → vapour ≼ liquid
        → Ends Doubled (gibbs_gap (suc v) kind table T liquid vapour)
    unfolding gibbs_gap
    gibbs_gap-doubled l g above =
        small-doubled _ (gibbs_gap_of-digits v bits t digits (sums-ranged v digits bits kind table sound t l) (sums-ranged v digits bits kind table sound t g) l g above)

    pub pressure_gap-doubled : {liquid vapour : Fraction} → Density liquid → Density vapour → Ends Doubled (pressure_gap (suc v) kind table T liquid vapour)
    unfolding pressure_gap
    pressure_gap-doubled l g =
        let r = room in
        doubled_both _ (summed_fine (le_refl (bias + 555)) (pressures_apart v bits (pressure-each kind table sound t l) (pressure-each kind table sound t g))) (omega arith) (omega arith)

    pub target_gap-doubled : {rho target : Fraction} → Density rho → DoubleValue target → Target target → Ends Doubled (target_gap (suc v) kind table T rho target)
    unfolding target_gap
    target_gap-doubled {target = target} d f a =
        let r = room in
        doubled_both _
        (summed_fine (le_refl (bias + 555)) (target_apart v bits (pressure-each kind table sound t d) (given_summed v (target_fine target f a)))) (omega arith) (omega arith)

-- ---- at either width their exponents lie between -80,000 and 80,000

module _ {v : ℕ} (w : Width v) (kind : ℕ) (table : List ℕ) (sound : sound_table kind table ≡ true) {T : Fraction} (t : Temperature T) where
  pub pressure-held : {rho : Fraction} → Density rho → PressureIn v (pressure (suc v) kind table T rho)
  unfolding pressure
  pressure-held d = pressure-in w t d (sums-in w kind table sound t d)

  pub stiffness-held : {rho : Fraction} → Density rho → Held v (stiffness (suc v) kind table T rho)
  unfolding stiffness stiffness_of
  stiffness-held d =
      let r = room in
      combined-held w ◌⊗◌ _ _ (omega arith) (omega arith) (stiffness_of-digits v (omega arith) t (sums-in w kind table sound t d).ranged)

  pub gibbs_gap-held : {liquid vapour : Fraction} → Density liquid → Density vapour → vapour ≼ liquid → Held v (gibbs_gap (suc v) kind table T liquid vapour)
  unfolding gibbs_gap gibbs_gap_of
  gibbs_gap-held l g above =
      let r = room in
      combined-held w ◌⊗◌ _ _ (omega arith) (omega arith)
      (gibbs_gap_of-digits v (omega arith) t (omega arith) (sums-in w kind table sound t l).ranged (sums-in w kind table sound t g).ranged l g above)

  pub pressure_gap-held : {liquid vapour : Fraction} → Density liquid → Density vapour → Held v (pressure_gap (suc v) kind table T liquid vapour)
  unfolding pressure_gap
  pressure_gap-held l g =
      let r = room in
      combined-held w ◌⊖◌ _ _ (omega arith) (omega arith)
      (summed_digits (pressures_apart v (omega arith) (pressure-each v (omega arith) (omega arith) kind table sound t l) (pressure-each v (omega arith) (omega arith) kind table sound t g)))

  pub target_gap-held : {rho target : Fraction} → Density rho → DoubleValue target → Target target → Held v (target_gap (suc v) kind table T rho target)
  unfolding target_gap
  target_gap-held {target = target} d f a =
      let r = room in
      combined-held w ◌⊖◌ _ _ (omega arith) (omega arith)
      (summed_digits (target_apart v (omega arith) (pressure-each v (omega arith) (omega arith) kind table sound t d) (given_summed v (target_fine target f a))))
