-- Every bracket that the code meets is held at either width, its exponents between -80,000 and 80,000. Assumes nothing.
use mathlib.Core.Path.{◌≡◌, refl, sym, subst}
use mathlib.Core.Logic.{inl}
use mathlib.Core.Bool.{Bool, true, false, cond}
use Prim.Native.Nat.{ℕ, zero, suc, ◌+◌, ◌-◌, ◌*◌, ◌^◌, ◌≤◌, ◌<◌}
use native.Mathlib.Omega.{arith}
use Rattle.exact.specs.Fraction.{Fraction, nat, leq, ◌⊖◌, ◌⊗◌, ◌⊘◌, ◌≼◌, ◌≺◌}
use Rattle.exact.proofs.Fraction.Order.{≼_refl, ≼_trans, ≺→≼, ≈-≼-trans, leq-true, leq-false}
use Rattle.sheet.specs.Number.{bias, value, plain_zero}
use Rattle.sheet.specs.Round.{down}
use Rattle.sheet.specs.Range.{Width}
use Rattle.sheet.proofs.Operations.{zero_value}
use Rattle.term.specs.declared.Term.{Term}
use Rattle.term.specs.Bounds.{Bounds}
use Rattle.bracket.specs.declared.Bracket.{Bracket}
use Rattle.bracket.specs.Span.{Span, whole, Each, Ordered, over}
use Rattle.bracket.specs.Rules.{ends, rounded, given, minus, times, power}
use Rattle.bracket.specs.Held.{Held, Powers}
use Rattle.bracket.proofs.Corners.{over-ordered}
use Rattle.bracket.proofs.Within.{point-ordered}
use Rattle.bracket.proofs.Operands.{whole_held}
use Rattle.series.specs.Exponential.{expneg}
use Rattle.series.specs.Terms.{Taken}
use Rattle.series.proofs.ExponentialRange.{expneg-plus}
use Rattle.series.proofs.ExponentialHeld.{expneg-held}
use Rattle.measure.specs.Measure.{Digited}
use Rattle.measure.proofs.Lift.{each_map}
use Rattle.measure.proofs.Measure.{digited_sized}
use Rattle.measure.proofs.Sizes.{Positive, Plus, plus-positive, digits-sized, held_of, given_plus, power-plus, times-sized}
use Rattle.equation.specs.Ranged.{HeldAs, DeltaIn, TauIn, GIn, EIn, VIn, WIn}
use Rattle.equation.specs.Value.{Valued}
use Rattle.equation.specs.Constants.{critical_temperature, gas_constant, hundredths, exact_coefficient}
use Rattle.equation.specs.Accepted.{Temperature, Density}
use Rattle.equation.specs.Rules.{delta, tau, coefficient, scaled, g_of, clipped, factor_e, term_v, term_w, factor_w, factor_s2}
use Rattle.equation.specs.Clip.{clip_at, exponent_of}
use Rattle.equation.proofs.Room.{room}
use Rattle.equation.proofs.Weaker.{plus-digits}
use Rattle.equation.proofs.Clip.{only, from_zero, clipped-is}
use Rattle.equation.proofs.Ranges.{delta-either, delta-each, delta-powers_plus, tau-powers_plus, factor_plus, g-plus, coefficient-sized, coefficient-delta, coefficient-delta-tau, term_v-sized, density_plus, temperature_plus, critical-plus, gas_plus, small-whole, tau-plus}
use Rattle.equation.proofs.Exponents.{up_to-128, most-positive, factor_e-sized}
use Rattle.equation.proofs.Weights.{whole_g, term_w-sized, less_one, factor_w-sized, factor_s2-sized}

-- the width of a bracket that is held
wide : {v : ℕ} {P : Fraction → Type 0} {b : Bracket} → HeldAs v P b → Width v
wide p = p.held.lo.width

-- a rule's bracket whose ends are zero or from 2^-79900 to 2^79900
pub given_held : {v : ℕ} → Width v → {l h : ℕ} (x : Fraction) → bias ≤ l + 79900 → h ≤ bias + 79900 → Each (Digited v l h) (ends (given (suc v) x)) → Held v (given (suc v) x)
given_held {v} w x low high e = let r = room in held_of w (omega arith) (omega arith) (omega arith) (point-ordered x) (digits-sized e)

pub combined-held : {v : ℕ} → Width v → {l h : ℕ} (f : Fraction → Fraction → Fraction) (A B : Span) → bias ≤ l + 79900 → h ≤ bias + 79900
    → Each (Digited v l h) (ends (rounded (suc v) (over f A B))) → Held v (rounded (suc v) (over f A B))
combined-held {v} w f A B low high e = let r = room in held_of w (omega arith) (omega arith) (omega arith) (over-ordered f A B) (digits-sized e)

power_held : {v : ℕ} → Width v → {l h : ℕ} (b : Bracket) (n : ℕ) → bias ≤ l + 79900 → h ≤ bias + 79900 → Each (Plus v l h) (ends (power (suc v) b n)) → Held v (power (suc v) b n)
unfolding power
power_held w b zero low high e = given_held w (nat 1) low high (plus-digits e)
power_held {v} w b (suc n) low high e = combined-held w ◌⊗◌ (ends (power (suc v) b n)) (ends b) low high (plus-digits e)

-- ---- delta, tau and their powers

pub factor_held : {v : ℕ} → Width v → (n : ℕ) → 0 < n → n ≤ 1023 → Held v (given (suc v) (hundredths n))
factor_held {v} w n some few = let r = room in given_held w (hundredths n) (omega arith) (omega arith) (plus-digits (factor_plus v n some few))

module _ {v : ℕ} (a : Bracket) (p : DeltaIn v a) where
  delta-width : Width v
  delta-width = p.held.lo.width

  pub delta-power_held : (n : ℕ) → n ≤ 31 → Held v (power (suc v) a n)
  delta-power_held n few = let r = room in power_held delta-width a n (omega arith) (omega arith) (delta-powers_plus v a (delta-each v a p.each) n few)

  pub delta-powers : (n : ℕ) → n ≤ 31 → Powers v a n
  delta-powers n few = record { base = p.held; each = λ k l. delta-power_held k (omega arith) }

  -- g of a term
  pub g_in : (c factor : ℕ) → c ≤ 15 → (0 < c → 0 < factor) → factor ≤ 1023 → GIn v (g_of (suc v) c factor a)
  unfolding scaled
  g_in zero factor most some few =
      let r = room in
      record { held = delta-power_held 0 (omega arith); each = power-plus v 19 4 a (omega arith) (omega arith) (plus-positive (delta-each v a p.each)) 0 (bias - 292) (bias + 64) (omega arith) (omega arith) }
  g_in (suc c) factor most some few =
      let r = room in
      let x = g-plus v c factor most (some (omega arith)) few a (delta-each v a p.each) in
      record { held = combined-held delta-width ◌⊗◌ _ _ (omega arith) (omega arith) (plus-digits x); each = x }

  pub term-g_in : (term : Term) → Bounds term → GIn v (g_of (suc v) term.c term.factor a)
  term-g_in term s = g_in term.c term.factor s.c_most s.factor_above s.factor_most

module _ {v : ℕ} (b : Bracket) (q : TauIn v b) where
  pub tau-power_held : (n : ℕ) → n ≤ 63 → Held v (power (suc v) b n)
  tau-power_held n few = let r = room in power_held (wide q) b n (omega arith) (omega arith) (tau-powers_plus v b q.each n few)

  pub tau-powers : (n : ℕ) → n ≤ 63 → Powers v b n
  tau-powers n few = record { base = q.held; each = λ k l. tau-power_held k (omega arith) }

-- ---- V

pub coefficient_held : {v : ℕ} → Width v → (term : Term) → Bounds term → Held v (coefficient (suc v) term)
unfolding coefficient
coefficient_held {v} w term s = let r = room in given_held w (exact_coefficient term) (omega arith) (omega arith) (coefficient-sized v term s)

module _ {v : ℕ} (a b : Bracket) (p : DeltaIn v a) (q : TauIn v b) (term : Term) (s : Bounds term) where
  powers : Each (Plus v (bias - 589) (bias + 124)) (ends (power (suc v) a term.d))
  powers = delta-powers_plus v a (delta-each v a p.each) term.d s.d_most

  pub by_delta-held : Held v (times (suc v) (ends (coefficient (suc v) term)) (ends (power (suc v) a term.d)))
  by_delta-held = let r = room in combined-held (delta-width a p) ◌⊗◌ _ _ (omega arith) (omega arith) (coefficient-delta v 589 (omega arith) term s a powers)

  pub by_tau_held : Held v (times (suc v) (ends (times (suc v) (ends (coefficient (suc v) term)) (ends (power (suc v) a term.d)))) (ends (power (suc v) b term.t)))
  by_tau_held = let r = room in combined-held (delta-width a p) ◌⊗◌ _ _ (omega arith) (omega arith) (coefficient-delta-tau v 589 (omega arith) term s a powers b q.each)

  pub term-valued : {e : Bracket} → EIn v e → Valued v (coefficient (suc v) term) (power (suc v) a term.d) (power (suc v) b term.t) e
  term-valued i =
      record {
        coefficient_held = coefficient_held (delta-width a p) term s;
        delta_held = delta-power_held a p term.d s.d_most;
        by-delta = by_delta-held;
        tau_held = tau-power_held b q term.t s.t_most;
        by-tau = by_tau_held;
        e_held = i.held;
      }

  pub v_in : (e : Bracket) → EIn v e → VIn v (term_v (suc v) term a b e)
  unfolding term_v
  v_in e i =
      let r = room in
      let x = term_v-sized v 589 (omega arith) term s a powers b q.each 256 (omega arith) e i.each in
      record { held = combined-held (delta-width a p) ◌⊗◌ _ _ (omega arith) (omega arith) x; each = x }

-- ---- E

-- what the exponential's code takes
taken_of : {X : Span} → Ordered X → Each (Positive (bias - 292) (bias + 7)) X → Taken X
taken_of o x = record { order = o.order; above = ≺→≼ x.low.above; sized = each_map (λ y s. s.sized) x }

module _ {v : ℕ} (g : Bracket) (p : GIn v g) where
  pub digits : 8 ≤ v
  digits = let w = wide p in omega arith

  g-taken : value g.hi ≼ nat 128 → Taken (ends g)
  g-taken m =
      taken_of (record { order = p.held.order })
      (record {
        low = up_to-128 p.each.low.above (≼_trans p.held.order m) (digited_sized p.each.low.digits);
        high = up_to-128 p.each.high.above m (digited_sized p.each.high.digits);
      })

  -- the clip's point
  clip_positive : Positive (bias - 292) (bias + 7) (value (clip_at (suc v) g))
  unfolding clip_at rounded
  clip_positive = go (leq (nat 128) (value g.lo)) refl
    where
      go : (b : Bool) → leq (nat 128) (value g.lo) ≡ b → Positive (bias - 292) (bias + 7) (value (cond b (down (suc v) (nat 128)) g.lo))
      go true e = (plus-positive (given_plus v most-positive)).low
      go false e = up_to-128 p.each.low.above (≺→≼ (leq-false (nat 128) (value g.lo) e)) (digited_sized p.each.low.digits)

  clip_each : Each (Positive (bias - 292) (bias + 7)) (ends (only (clip_at (suc v) g)))
  clip_each = record { low = clip_positive; high = clip_positive }

  clip_taken : Taken (ends (only (clip_at (suc v) g)))
  clip_taken = taken_of (point-ordered _) clip_each

  clip_held : Held v (only (clip_at (suc v) g))
  unfolding clip_at rounded
  clip_held = go (leq (nat 128) (value g.lo))
    where
      go : (b : Bool) → Held v (only (cond b (down (suc v) (nat 128)) g.lo))
      go true = let h = whole_held (wide p) 128 (omega arith) in record { lo = h.lo; hi = h.lo; order = ≼_refl _ }
      go false = record { lo = p.held.lo; hi = p.held.lo; order = ≼_refl _ }

  -- what the exponential is taken of
  pub exponent_fits : (b : Bool) → leq (value g.hi) (nat 128) ≡ b → Held v (exponent_of (suc v) b g) × Taken (ends (exponent_of (suc v) b g))
  unfolding exponent_of
  exponent_fits true e = (p.held, g-taken (leq-true (value g.hi) (nat 128) e))
  exponent_fits false e = (clip_held, clip_taken)

  zero_held : {b : Bracket} → Held v b → nat 0 ≼ value b.hi → Held v (from_zero b)
  zero_held k q =
      record {
        lo = record { width = wide p; within = record { normal = inl refl; exponent = inl refl } };
        hi = k.hi;
        order = ≈-≼-trans (zero_value plain_zero refl) q;
      }

  e_held : (c : ℕ) → Held v (factor_e (suc v) c g)
  unfolding factor_e
  e_held zero = whole_held (wide p) 1 (omega arith)
  e_held (suc c) = go (leq (value g.hi) (nat 128)) refl
    where
      go : (b : Bool) → leq (value g.hi) (nat 128) ≡ b → Held v (cond b (expneg (suc v) (ends g)) (clipped (suc v) g))
      go true e = expneg-held (wide p) (g-taken (leq-true (value g.hi) (nat 128) e))
      go false e =
          subst (Held v) (sym (clipped-is v digits g))
          (zero_held (expneg-held (wide p) clip_taken) (≺→≼ (expneg-plus v (point-ordered _) clip_each digits).high.above))

  pub e_in : (c : ℕ) → EIn v (factor_e (suc v) c g)
  e_in c = record { held = e_held c; each = factor_e-sized v digits c g p.each (record { order = p.held.order }) }

-- ---- w and the factor of S2

module _ {v : ℕ} (g : Bracket) (p : GIn v g) where
  few : v ≤ 62
  few = let w = wide p in omega arith

  pub part_held : (n : ℕ) → 0 < n → n ≤ 2 ^ 8 → Held v (times (suc v) (whole n) (ends g))
  part_held n some small = let r = room in combined-held (wide p) ◌⊗◌ _ _ (omega arith) (omega arith) (plus-digits (whole_g v few 292 (omega arith) (omega arith) g p.each 8 n some small))

  w_held : (d c : ℕ) → d ≤ 31 → Each (Digited v (bias - suc v) (bias + 69)) (ends (term_w (suc v) d c g)) → Held v (term_w (suc v) d c g)
  unfolding term_w
  w_held d zero small x = whole_held (wide p) d (omega arith)
  w_held d (suc c) small x = let r = room in let f = few in combined-held (wide p) ◌⊖◌ _ _ (omega arith) (omega arith) x

  pub w-in : (d c : ℕ) → 0 < d → d ≤ 31 → c ≤ 15 → WIn v (term_w (suc v) d c g)
  w-in d c some small most =
      let x = term_w-sized v few 292 (omega arith) (omega arith) g p.each d c some small most in
      record { held = w_held d c small x; each = x }

module _ {v : ℕ} (tw : Bracket) (p : WIn v tw) where
  less : v ≤ 62
  less = let w = wide p in omega arith

  pub less-held : Held v (minus (suc v) (ends tw) (whole 1))
  less-held = let r = room in let f = less in combined-held (wide p) ◌⊖◌ _ _ (omega arith) (omega arith) (less_one v less tw p.each)

  pub factor_w-held : Held v (factor_w (suc v) tw)
  unfolding factor_w
  factor_w-held = let r = room in let f = less in combined-held (wide p) ◌⊗◌ _ _ (omega arith) (omega arith) (factor_w-sized v less tw p.each)

  module _ (g : Bracket) (q : GIn v g) where
    s2_each : (c : ℕ) → c ≤ 15 → Each (Digited v (bias - (3 * v + 292)) (bias + 140)) (ends (factor_s2 (suc v) c g tw))
    s2_each c most = factor_s2-sized v less 292 (omega arith) (omega arith) g q.each tw p.each c most

    s2_held : (c : ℕ) → Each (Digited v (bias - (3 * v + 292)) (bias + 140)) (ends (factor_s2 (suc v) c g tw)) → Held v (factor_s2 (suc v) c g tw)
    unfolding factor_s2
    s2_held zero x = factor_w-held
    s2_held (suc c) x = let r = room in let f = less in combined-held (wide p) ◌⊖◌ _ _ (omega arith) (omega arith) x

    pub factor_s2-held : (c : ℕ) → c ≤ 15 → Held v (factor_s2 (suc v) c g tw)
    factor_s2-held c most = s2_held c (s2_each c most)

    module _ (tv : Bracket) (i : VIn v tv) where
      pub addend1_held : Held v (times (suc v) (ends tv) (ends tw))
      addend1_held =
          let r = room in
          let f = less in
          combined-held (wide p) {l = bias - (1026 + v)} {h = bias + 386} ◌⊗◌ _ _ (omega arith) (omega arith)
          (times-sized v (omega arith) (omega arith) (digits-sized i.each) (digits-sized p.each))

      pub addend2_held : (c : ℕ) → c ≤ 15 → Held v (times (suc v) (ends tv) (ends (factor_s2 (suc v) c g tw)))
      addend2_held c most =
          let r = room in
          let f = less in
          combined-held (wide p) {l = bias - (1317 + 3 * v)} {h = bias + 457} ◌⊗◌ _ _ (omega arith) (omega arith)
          (times-sized v (omega arith) (omega arith) (digits-sized i.each) (digits-sized (s2_each c most)))

-- ---- the inputs and the constants

pub density_held : {v : ℕ} → Width v → {rho : Fraction} → Density rho → Held v (given (suc v) rho)
density_held {v} w {rho} d = let r = room in given_held w rho (omega arith) (omega arith) (plus-digits (density_plus v d))

pub temperature_held : {v : ℕ} → Width v → {T : Fraction} → Temperature T → Held v (given (suc v) T)
temperature_held {v} w {T} t = let r = room in given_held w T (omega arith) (omega arith) (plus-digits (temperature_plus v t))

pub temperature_above : (v : ℕ) {T : Fraction} → Temperature T → nat 0 ≺ (ends (given (suc v) T)).low
temperature_above v t = (temperature_plus v t).low.above

pub critical-held : {v : ℕ} → Width v → Held v (given (suc v) critical_temperature)
critical-held {v} w = let r = room in given_held w critical_temperature (omega arith) (omega arith) (plus-digits (critical-plus v))

pub gas_held : {v : ℕ} → Width v → Held v (given (suc v) gas_constant)
gas_held {v} w = let r = room in given_held w gas_constant (omega arith) (omega arith) (plus-digits (gas_plus v))

-- a whole number's bracket is above zero
pub whole_above : (v n : ℕ) → 0 < n → n < 2 ^ 32 → nat 0 ≺ (ends (given (suc v) (nat n))).low
whole_above v n some few = (given_plus v (small-whole v 32 n some (omega arith)).low).low.above

pub delta-in : {v : ℕ} → Width v → {rho : Fraction} → Density rho → DeltaIn v (delta (suc v) rho)
unfolding delta
delta-in {v} w d =
    let r = room in
    let x = delta-either v d in
    record { held = combined-held w ◌⊘◌ _ _ (omega arith) (omega arith) (plus-digits (delta-each v _ x)); each = x }

pub tau-in : {v : ℕ} → Width v → {T : Fraction} → Temperature T → TauIn v (tau (suc v) T)
unfolding tau
tau-in {v} w t = let r = room in let x = tau-plus v t in record { held = combined-held w ◌⊘◌ _ _ (omega arith) (omega arith) (plus-digits x); each = x }
