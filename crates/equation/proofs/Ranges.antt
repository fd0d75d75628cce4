-- The range of what a term's brackets are made of, for every sound table and every accepted input of either kind, over the count of bits
-- suc v: the inputs, the constants, the coefficient, powers, g and V. The numbers are the exponents n of 2^n between which the ends lie, zero
-- aside. Below 4 kg/m3 delta is thin, above it dense. Assumes nothing.
use mathlib.Core.Logic.{◌⊎◌, inl, inr, ⊎_elim}
use mathlib.Core.Bool.{false}
use Prim.Native.Nat.{ℕ, zero, suc, ◌+◌, ◌-◌, ◌*◌, ◌^◌, ◌≤◌, ◌<◌}
use native.Mathlib.Nat.{le_refl, mul-le-mul_right}
use native.Mathlib.Omega.{arith}
use lib.Pow.{pow-add, pow_mono}
use Rattle.exact.specs.Fraction.{Fraction, nat, parts, ◌≼◌}
use Rattle.exact.proofs.Fraction.Order.{≼_refl, ≼-total, ≺-≼-trans, ≼-≈-trans, ≈-≼-trans, ≈-sym, ≈-refl}
use Rattle.exact.proofs.Fraction.Parts.{nat-pos, parts-nat, parts-pos}
use Rattle.sheet.specs.Number.{bias}
use Rattle.term.specs.declared.Term.{Term}
use Rattle.term.specs.Bounds.{Bounds}
use Rattle.bracket.specs.declared.Bracket.{Bracket}
use Rattle.bracket.specs.Span.{whole, Each}
use Rattle.bracket.specs.Rules.{ends, given, times, power}
use Rattle.equation.specs.Constants.{critical_temperature, gas_constant, hundredths}
use Rattle.equation.specs.Ranged.{Thin, Dense}
use Rattle.equation.specs.Accepted.{Temperature, Density}
use Rattle.measure.specs.Measure.{Sized, Digited}
use Rattle.equation.specs.Rules.{delta, tau, coefficient, scaled, g_of, term_v}
use Rattle.measure.proofs.Measure.{nat-sized, between-sized}
use Rattle.measure.proofs.Sizes.{Positive, Plus, plus-positive, digits-sized, plus-sized, whole_positive, given_plus, times-plus, divided-plus, power-plus, given_sized, times-sized}
use Rattle.equation.proofs.Room.{room, fall}
use Rattle.equation.proofs.Weaker.{plus-in}

module _ (v : ℕ) where
  -- ---- a density, thin or dense

  density_thin : {rho : Fraction} → parts false 1 1024 ≼ rho → rho ≼ nat 4 → Each (Plus v (bias - 10) (bias + 2)) (ends (given (suc v) rho))
  density_thin l h =
      given_plus v
      (record {
        above = ≺-≼-trans (parts-pos 1 1024 (omega arith)) l;
        sized =
            between-sized 1 1024 4 1 (omega arith) (omega arith) (omega arith) l (≼-≈-trans h (≈-sym (parts-nat 4)))
            (let r = room in let f = fall 10 (omega arith) in omega arith)
            (rw (pow-add 2 bias 2) (omega arith));
      })

  density_dense : {rho : Fraction} → nat 4 ≼ rho → rho ≼ nat 2576 → Each (Plus v (bias + 2) (bias + 12)) (ends (given (suc v) rho))
  density_dense l h =
      given_plus v
      (record {
        above = ≺-≼-trans (nat-pos (omega arith)) l;
        sized =
            between-sized 4 1 2576 1 (omega arith) (omega arith) (omega arith) (≈-≼-trans (parts-nat 4) l) (≼-≈-trans h (≈-sym (parts-nat 2576)))
            (rw (pow-add 2 bias 2) (omega arith)) (rw (pow-add 2 bias 12) (omega arith));
      })

  pub density_plus : {rho : Fraction} → Density rho → Each (Plus v (bias - 10) (bias + 12)) (ends (given (suc v) rho))
  density_plus {rho} d =
      let r = room in
      ⊎_elim (λ h. plus-in (le_refl _) (omega arith) (density_thin d.thin h)) (λ h. plus-in (omega arith) (le_refl _) (density_dense h d.dense)) (≼-total rho (nat 4))

  divisor : Each (Positive (bias + 8) (bias + 9)) (whole 322)
  divisor = whole_positive (bias + 8) (bias + 9) 322 (omega arith) (rw (pow-add 2 bias 8) (omega arith)) (rw (pow-add 2 bias 9) (omega arith))

  delta-thin : {rho : Fraction} → parts false 1 1024 ≼ rho → rho ≼ nat 4 → Thin v (delta (suc v) rho)
  unfolding delta
  delta-thin l h = let r = room in divided-plus v (omega arith) (omega arith) (plus-positive (density_thin l h)) divisor

  delta-dense : {rho : Fraction} → nat 4 ≼ rho → rho ≼ nat 2576 → Dense v (delta (suc v) rho)
  unfolding delta
  delta-dense l h = let r = room in divided-plus v (omega arith) (omega arith) (plus-positive (density_dense l h)) divisor

  pub delta-either : {rho : Fraction} → Density rho → Thin v (delta (suc v) rho) ⊎ Dense v (delta (suc v) rho)
  delta-either {rho} d = ⊎_elim (λ h. inl (delta-thin d.thin h)) (λ h. inr (delta-dense h d.dense)) (≼-total rho (nat 4))

  -- either way
  pub delta-each : (a : Bracket) → Thin v a ⊎ Dense v a → Each (Plus v (bias - 19) (bias + 4)) (ends a)
  delta-each a (inl p) = let r = room in plus-in (le_refl _) (omega arith) p
  delta-each a (inr p) = let r = room in plus-in (omega arith) (le_refl _) p

  -- ---- temperature and the constants

  pub temperature_plus : {T : Fraction} → Temperature T → Each (Plus v (bias + 7) (bias + 11)) (ends (given (suc v) T))
  temperature_plus t =
      given_plus v
      (record {
        above = ≺-≼-trans (nat-pos (omega arith)) t.cold;
        sized =
            between-sized 252 1 1273 1 (omega arith) (omega arith) (omega arith) (≈-≼-trans (parts-nat 252) t.cold) (≼-≈-trans t.hot (≈-sym (parts-nat 1273)))
            (rw (pow-add 2 bias 7) (omega arith)) (rw (pow-add 2 bias 11) (omega arith));
      })

  -- a quotient of two numbers
  pub ratio_positive : {l h : ℕ} (a b : ℕ) → 0 < a → 0 < b → 2 ^ l * b ≤ a * 2 ^ bias → a * 2 ^ bias ≤ 2 ^ h * b → Positive l h (parts false a b)
  ratio_positive a b some pos p q =
      record { above = parts-pos a b some; sized = between-sized a b a b some pos pos (≼_refl _) (≼_refl _) p q }

  pub critical-plus : Each (Plus v (bias + 9) (bias + 10)) (ends (given (suc v) critical_temperature))
  critical-plus =
      given_plus v (ratio_positive 64714 100 (omega arith) (omega arith) (rw (pow-add 2 bias 9) (omega arith)) (rw (pow-add 2 bias 10) (omega arith)))

  pub gas_plus : Each (Plus v (bias + 8) (bias + 9)) (ends (given (suc v) gas_constant))
  gas_plus =
      given_plus v (ratio_positive 46151805 100000 (omega arith) (omega arith) (rw (pow-add 2 bias 8) (omega arith)) (rw (pow-add 2 bias 9) (omega arith)))

  pub tau-plus : {T : Fraction} → Temperature T → Each (Plus v (bias - 2) (bias + 3)) (ends (tau (suc v) T))
  unfolding tau
  tau-plus t = let r = room in divided-plus v (omega arith) (omega arith) (plus-positive critical-plus) (plus-positive (temperature_plus t))

  -- a whole number from 1 to 2^h
  pub small-whole : (h n : ℕ) → 0 < n → n ≤ 2 ^ h → Each (Positive bias (bias + h)) (whole n)
  small-whole h n some few =
      whole_positive bias (bias + h) n some (omega (arith, mul-le-mul_right (2 ^ bias) some)) (rw (pow-add 2 bias h) (omega (arith, mul-le-mul_right (2 ^ bias) few)))

  -- ---- powers

  -- a power of what is thin falls with every factor
  pub power-thin : (a : Bracket) → Thin v a → (n : ℕ) → n ≤ 31 → Each (Plus v (bias - 19 * n) (bias - 6 * n)) (ends (power (suc v) a n))
  unfolding power
  power-thin a p zero few =
      let r = room in
      given_plus v (record { above = nat-pos (omega arith); sized = nat-sized (bias - 19 * 0) (bias - 6 * 0) 1 (omega (arith, pow_mono {i = bias - 19 * 0} {j = bias} (omega arith))) (omega (arith, pow_mono {i = bias} {j = bias - 6 * 0} (omega arith))) })
  power-thin a p (suc n) few =
      let r = room in
      times-plus v (omega arith) (omega arith) (plus-positive (power-thin a p n (omega arith))) (plus-positive p)

  pub power-dense : (a : Bracket) → Dense v a → (n : ℕ) → n ≤ 31 → Each (Plus v (bias - 217) (bias + 124)) (ends (power (suc v) a n))
  power-dense a p n few = let r = room in power-plus v 7 4 a (omega arith) (omega arith) (plus-positive p) n (bias - 217) (bias + 124) (omega arith) (omega arith)

  pub delta-powers_plus : (a : Bracket) → Each (Plus v (bias - 19) (bias + 4)) (ends a) → (n : ℕ) → n ≤ 31
      → Each (Plus v (bias - 589) (bias + 124)) (ends (power (suc v) a n))
  delta-powers_plus a p n few = let r = room in power-plus v 19 4 a (omega arith) (omega arith) (plus-positive p) n (bias - 589) (bias + 124) (omega arith) (omega arith)

  pub tau-powers_plus : (b : Bracket) → Each (Plus v (bias - 2) (bias + 3)) (ends b) → (n : ℕ) → n ≤ 63
      → Each (Plus v (bias - 126) (bias + 189)) (ends (power (suc v) b n))
  tau-powers_plus b q n few =
      let r = room in
      power-plus v 2 3 b (omega arith) (omega arith) (plus-positive q) n (bias - 126) (bias + 189) (omega arith) (omega arith)

  -- ---- V, by the least power of delta and the least E

  pub coefficient-sized : (term : Term) → Bounds term → Each (Digited v (bias - 54) (bias + 4)) (ends (coefficient (suc v) term))
  unfolding coefficient
  coefficient-sized term s =
      given_sized v
      (record {
        neg = term.negative;
        num = term.magnitude;
        den = 10 ^ 16;
        is = ≈-refl _;
        some = omega arith;
        least =
            inr
            (let r = room in
            let f = fall 54 (omega arith) in
            let m = mul-le-mul_right (2 ^ bias) s.magnitude_above in
            omega arith);
        most = rw (pow-add 2 bias 4) (let m = mul-le-mul_right (2 ^ bias) s.magnitude_most in omega arith);
      })

  module _ (k : ℕ) (few : k ≤ 1000) (term : Term) (sound : Bounds term) (a : Bracket) (p : Each (Plus v (bias - k) (bias + 124)) (ends (power (suc v) a term.d))) where
    pub coefficient-delta : Each (Digited v (bias - (54 + k)) (bias + 128)) (ends (times (suc v) (ends (coefficient (suc v) term)) (ends (power (suc v) a term.d))))
    coefficient-delta = let r = room in times-sized v (omega arith) (omega arith) (digits-sized (coefficient-sized term sound)) (plus-sized p)

    module _ (b : Bracket) (q : Each (Plus v (bias - 2) (bias + 3)) (ends b)) where
      pub coefficient-delta-tau :
          Each (Digited v (bias - (180 + k)) (bias + 317))
          (ends (times (suc v) (ends (times (suc v) (ends (coefficient (suc v) term)) (ends (power (suc v) a term.d)))) (ends (power (suc v) b term.t))))
      coefficient-delta-tau =
          let r = room in
          times-sized v (omega arith) (omega arith) (digits-sized coefficient-delta) (plus-sized (tau-powers_plus b q term.t sound.t_most))

      pub term_v-sized : (f : ℕ) → f ≤ 300 → (e : Bracket) → Each (Sized (bias - f) bias) (ends e)
          → Each (Digited v (bias - (180 + k + f)) (bias + 317)) (ends (term_v (suc v) term a b e))
      unfolding term_v
      term_v-sized f small e s = let r = room in times-sized v (omega arith) (omega arith) (digits-sized coefficient-delta-tau) s

  -- ---- g

  pub factor_plus : (n : ℕ) → 0 < n → n ≤ 1023 → Each (Plus v (bias - 7) (bias + 4)) (ends (given (suc v) (hundredths n)))
  factor_plus n some few =
      given_plus v
      (ratio_positive n 100 some (omega arith)
      (let r = room in let f = fall 7 (omega arith) in let m = mul-le-mul_right (2 ^ bias) some in omega arith)
      (rw (pow-add 2 bias 4) (let m = mul-le-mul_right (2 ^ bias) few in omega arith)))

  module _ (c n : ℕ) (most : suc c ≤ 15) (some : 0 < n) (few : n ≤ 1023) (a : Bracket) where
    pub g-plus : Each (Plus v (bias - 19) (bias + 4)) (ends a) → Each (Plus v (bias - 292) (bias + 64)) (ends (g_of (suc v) (suc c) n a))
    unfolding scaled
    g-plus p =
        let r = room in
        times-plus v (omega arith) (omega arith) (plus-positive (factor_plus n some few))
        (plus-positive (power-plus v 19 4 a (omega arith) (omega arith) (plus-positive p) (suc c) (bias - 285) (bias + 60) (omega arith) (omega arith)))

    pub g-dense : Dense v a → Each (Plus v (bias - 112) (bias + 64)) (ends (g_of (suc v) (suc c) n a))
    unfolding scaled
    g-dense p =
        let r = room in
        times-plus v (omega arith) (omega arith) (plus-positive (factor_plus n some few))
        (plus-positive (power-plus v 7 4 a (omega arith) (omega arith) (plus-positive p) (suc c) (bias - 105) (bias + 60) (omega arith) (omega arith)))

    pub g-thin : Thin v a → Each (Plus v (bias - 292) (bias - (2 + 6 * c))) (ends (g_of (suc v) (suc c) n a))
    unfolding scaled
    g-thin p =
        let r = room in
        times-plus v (omega arith) (omega arith) (plus-positive (factor_plus n some few)) (plus-positive (power-thin a p (suc c) (omega arith)))
