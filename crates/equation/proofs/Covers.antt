-- The brackets of the rules cover the equation: its reading at every level from 256 on lies in them, at every count of bits and for
-- either kind of table. It is the inclusion of each step, put together as the rules are. Assumes nothing.
use Prim.Native.Nat.{ℕ, zero, suc, ◌*◌, ◌≤◌}
use native.Mathlib.Nat.{le_trans}
use native.Mathlib.Omega.{arith}
use mathlib.Core.Path.{◌≡◌, refl}
use mathlib.Core.Bool.{Bool, true, false, cond}
use mathlib.Core.List.{List}
use Rattle.exact.specs.Fraction.{Fraction, nat, leq, least, ◌⊖◌, ◌⊗◌, ◌≼◌}
use Rattle.exact.proofs.Fraction.Order.{≼_trans, ≺→≼, ≺-≼-trans, ≈-≼-trans, leq-true}
use Rattle.exact.proofs.Fraction.Product.{⊗-nonneg}
use Rattle.exact.proofs.Fraction.Quotient.{⊘-nonneg}
use Rattle.exact.proofs.Fraction.Least.{least-left, least-right, ≼-least}
use Rattle.exact.proofs.Fraction.Parts.{nat-≼, nat-pos, nat-nonneg, parts-nonneg, parts-pos}
use Rattle.exact.specs.Series.{expneg_at}
use Rattle.exact.proofs.Series.{expneg_at-pos}
use Rattle.exact.proofs.Falls.{expneg_at-anti}
use Rattle.sheet.specs.Number.{value, plain_zero}
use Rattle.sheet.proofs.Operations.{zero_value}
use Rattle.term.specs.declared.Term.{Term}
use Rattle.term.specs.Packed.{term_at, count_terms}
use Rattle.bracket.specs.Span.{Span, Each, Sign, over, point, ◌∈◌}
use Rattle.bracket.specs.declared.Bracket.{Bracket}
use Rattle.bracket.specs.Rules.{ends, rounded, given, times, power}
use Rattle.bracket.proofs.Within.{in_point, point-ordered}
use Rattle.bracket.proofs.Corners.{over-ordered}
use Rattle.bracket.proofs.Kept.{rounded-sign}
use Rattle.bracket.proofs.Inclusion.{given_in, plus-in, minus-in, times-in, divided-in, power_in}
use Rattle.measure.proofs.Lift.{over-both}
use Rattle.measure.proofs.Measure.{one-few}
use Rattle.series.specs.Exponential.{expneg}
use Rattle.series.proofs.ExponentialCovers.{expneg-in}
use Rattle.series.proofs.RatioCovers.{ln_ratio-in}
use Rattle.equation.specs.declared.Sums.{Sums}
use Rattle.equation.proofs.Short.{short-down}
use Rattle.equation.specs.Constants.{critical_temperature, gas_constant, hundredths, exact_coefficient}
use Rattle.equation.specs.Accepted.{Temperature, Density}
use Rattle.equation.specs.Rules.{delta, tau, coefficient, scaled, clipped, factor_e, term_v, term_w, factor_w, factor_s2, addends_of, addends, plus_each, no_sums, sums_first, sums, gas_heat, density_heat, pressure_factor, stiffness_factor, sums_apart, pressure_of, stiffness_of, gibbs_gap_of, pressure, stiffness, gibbs_gap, target_gap, pressure_gap}
use Rattle.equation.specs.Itself.{delta_at, tau_at, scaled_at, factor_e_at, term_v_at, term_w_at, factor_s2_at, SumsAt, addends_at, sums_first_at, sums_at, pressure_at, stiffness_at, gibbs_gap_at}

-- each of the three sums lies in its bracket
record Covered (a : SumsAt) (s : Sums) : Type 0 where
  s0 : a.s0 ∈ ends s.s0
  s1 : a.s1 ∈ ends s.s1
  s2 : a.s2 ∈ ends s.s2

-- ---- delta and tau

delta-in : (v : ℕ) (rho : Fraction) → delta_at rho ∈ ends (delta (suc v) rho)
unfolding delta delta_at
delta-in v rho = divided-in v (nat-pos (omega arith)) (given_in v rho) (in_point (nat 322))

pub tau-in : (v : ℕ) {T : Fraction} → Temperature T → tau_at T ∈ ends (tau (suc v) T)
unfolding tau tau_at rounded
tau-in v {T} t =
    divided-in v (≺-≼-trans (nat-pos (omega arith)) (short-down v 1 7 (one-few v) (≼_trans (nat-≼ (omega arith)) t.cold)))
    (given_in v critical_temperature) (given_in v T)

-- ---- at or above zero: all that the exponential and its clip ask of g

given_above : (v : ℕ) {x : Fraction} → nat 0 ≼ x → Each (Sign false) (ends (given (suc v) x))
given_above v {x} h = rounded-sign false v (point x) (point-ordered x) (record { low = h; high = h })

times_above : (v : ℕ) (A B : Span) → Each (Sign false) A → Each (Sign false) B → Each (Sign false) (ends (times (suc v) A B))
times_above v A B a b =
    rounded-sign false v (over ◌⊗◌ A B) (over-ordered ◌⊗◌ A B) (over-both {R = Sign false} ◌⊗◌ (λ x y p q. ⊗-nonneg p q) a b)

power-above : (v : ℕ) (b : Bracket) → Each (Sign false) (ends b) → (n : ℕ) → Each (Sign false) (ends (power (suc v) b n))
unfolding power
power-above v b h zero = given_above v (nat-nonneg 1)
power-above v b h (suc n) = times_above v (ends (power (suc v) b n)) (ends b) (power-above v b h n) h

scaled-above : (v c factor : ℕ) (b : Bracket) → Each (Sign false) (ends b) → Each (Sign false) (ends (scaled (suc v) c factor b))
unfolding scaled
scaled-above v zero factor b h = h
scaled-above v (suc c) factor b h = times_above v _ (ends b) (given_above v (parts-nonneg factor 100)) h

delta-above : (v : ℕ) {rho : Fraction} → nat 0 ≼ rho → Each (Sign false) (ends (delta (suc v) rho))
unfolding delta
delta-above v {rho} h =
    rounded-sign false v _ (over-ordered _ _ _)
    (over-both {Q = λ (y : Fraction). Unit {0}} {R = Sign false} _ (λ x y a b. ⊘-nonneg y a) (given_above v h) (record { low = tt; high = tt }))

-- ---- one term

scaled-in : (v c factor : ℕ) {x : Fraction} (b : Bracket) → x ∈ ends b → scaled_at c factor x ∈ ends (scaled (suc v) c factor b)
unfolding scaled scaled_at
scaled-in v zero factor b h = h
scaled-in v (suc c) factor b h = times-in v (given_in v (hundredths factor)) h

module _ (v N : ℕ) (level : 256 ≤ N) where
  -- the clip covers: the exponential falls as x grows
  clipped-in : {x : Fraction} (g : Bracket) → nat 0 ≼ value g.lo → x ∈ ends g → expneg_at N x ∈ ends (clipped (suc v) g)
  unfolding clipped
  clipped-in {x} g l h =
      let y = least (nat 128) (value g.lo) in
      let low : nat 0 ≼ y = ≼-least (nat-nonneg 128) l in
      let e = expneg-in v {X = point y} {x = y} N level low (least-left (nat 128) (value g.lo)) (in_point y) in
      record {
        above = ≈-≼-trans (zero_value plain_zero refl) (≺→≼ (expneg_at-pos N x));
        under = ≼_trans (expneg_at-anti low (≼_trans (least-right (nat 128) (value g.lo)) h.above) N) e.under;
      }

  factor_e-in : (c : ℕ) {x : Fraction} (g : Bracket) → nat 0 ≼ value g.lo → x ∈ ends g → factor_e_at N c x ∈ ends (factor_e (suc v) c g)
  unfolding factor_e factor_e_at
  factor_e-in zero g l h = given_in v (nat 1)
  factor_e-in (suc c) {x} g l h = go (leq (value g.hi) (nat 128)) refl
    where
      go : (b : Bool) → leq (value g.hi) (nat 128) ≡ b → expneg_at N x ∈ ends (cond b (expneg (suc v) (ends g)) (clipped (suc v) g))
      go true e = expneg-in v N level l (leq-true (value g.hi) (nat 128) e) h
      go false e = clipped-in g l h

  term_v-in : (term : Term) {δ τ e : Fraction} (a b f : Bracket) → δ ∈ ends a → τ ∈ ends b → e ∈ ends f
      → term_v_at term δ τ e ∈ ends (term_v (suc v) term a b f)
  unfolding term_v term_v_at coefficient
  term_v-in term a b f p q r =
      times-in v
      (times-in v (times-in v (given_in v (exact_coefficient term)) (power_in v a p term.d))
      (power_in v b q term.t)) r

  term_w-in : (d c : ℕ) {x : Fraction} (g : Bracket) → x ∈ ends g → term_w_at d c x ∈ ends (term_w (suc v) d c g)
  unfolding term_w term_w_at
  term_w-in d zero g h = given_in v (nat d)
  term_w-in d (suc c) g h = minus-in v (in_point (nat d)) (times-in v (in_point (nat (suc c))) h)

  factor_s2-in : (c : ℕ) {x y : Fraction} (g tw : Bracket) → x ∈ ends g → y ∈ ends tw → factor_s2_at c x y ∈ ends (factor_s2 (suc v) c g tw)
  unfolding factor_s2 factor_s2_at factor_w
  factor_s2-in zero g tw h k = times-in v k (minus-in v k (in_point (nat 1)))
  factor_s2-in (suc c) g tw h k =
      minus-in v (times-in v k (minus-in v k (in_point (nat 1)))) (times-in v (in_point (nat (suc c * suc c))) h)

  addends-in : (term : Term) {δ τ : Fraction} (a b : Bracket) → Each (Sign false) (ends a) → δ ∈ ends a → τ ∈ ends b
      → Covered (addends_at N term δ τ) (addends (suc v) term a b)
  unfolding addends addends_at addends_of
  addends-in term a b h p q =
      let g = scaled-in v term.c term.factor _ (power_in v a p term.c) in
      let l = scaled-above v term.c term.factor _ (power-above v a h term.c) in
      let x = term_v-in term a b _ p q (factor_e-in term.c _ l.low g) in
      let y = term_w-in term.d term.c _ g in
      record { s0 = x; s1 = times-in v x y; s2 = times-in v x (factor_s2-in term.c _ _ g y) }

  -- ---- the sums, of any terms

  sums_first-in : (terms : ℕ → Term) {δ τ : Fraction} (a b : Bracket) → Each (Sign false) (ends a) → δ ∈ ends a → τ ∈ ends b → (n : ℕ)
      → Covered (sums_first_at N terms δ τ n) (sums_first (suc v) terms a b n)
  unfolding sums_first sums_first_at plus_each no_sums
  sums_first-in terms a b h p q zero = record { s0 = given_in v (nat 0); s1 = given_in v (nat 0); s2 = given_in v (nat 0) }
  sums_first-in terms a b h p q (suc n) =
      let s = sums_first-in terms a b h p q n in
      let t = addends-in (terms n) a b h p q in
      record { s0 = plus-in v s.s0 t.s0; s1 = plus-in v s.s1 t.s1; s2 = plus-in v s.s2 t.s2 }

  module _ (kind : ℕ) (table : List ℕ) {T : Fraction} (t : Temperature T) where
    sums-in : {rho : Fraction} → Density rho → Covered (sums_at N kind table T rho) (sums (suc v) kind table T rho)
    unfolding sums sums_at
    sums-in {rho} d =
        sums_first-in (term_at kind table) _ _ (delta-above v (≼_trans (≺→≼ (parts-pos 1 1024 (omega arith))) d.thin)) (delta-in v rho) (tau-in v t) (count_terms kind table)

    pub covers_pressure : {rho : Fraction} → Density rho → pressure_at N kind table T rho ∈ ends (pressure (suc v) kind table T rho)
    unfolding pressure pressure_at pressure_of density_heat pressure_factor
    covers_pressure {rho} d =
        times-in v
        (times-in v (times-in v (given_in v rho) (given_in v gas_constant)) (given_in v T))
        (plus-in v (in_point (nat 1)) (sums-in d).s1)

    gas_heat-in : gas_constant ⊗ T ∈ ends (gas_heat (suc v) T)
    unfolding gas_heat
    gas_heat-in = times-in v (given_in v gas_constant) (given_in v T)

    pub covers_stiffness : {rho : Fraction} → Density rho → stiffness_at N kind table T rho ∈ ends (stiffness (suc v) kind table T rho)
    unfolding stiffness stiffness_at stiffness_of stiffness_factor
    covers_stiffness d =
        let s = sums-in d in
        times-in v gas_heat-in
        (plus-in v (plus-in v (in_point (nat 1)) (times-in v (in_point (nat 2)) s.s1)) s.s2)

    pub covers_target_gap : {rho : Fraction} → Density rho → (target : Fraction)
        → pressure_at N kind table T rho ⊖ target ∈ ends (target_gap (suc v) kind table T rho target)
    unfolding target_gap
    covers_target_gap d target = minus-in v (covers_pressure d) (given_in v target)

    pub covers_pressure_gap : {liquid vapour : Fraction} → Density liquid → Density vapour
        → pressure_at N kind table T liquid ⊖ pressure_at N kind table T vapour ∈ ends (pressure_gap (suc v) kind table T liquid vapour)
    unfolding pressure_gap
    covers_pressure_gap l g = minus-in v (covers_pressure l) (covers_pressure g)

    pub covers_gibbs_gap : {liquid vapour : Fraction} → Density liquid → Density vapour → vapour ≼ liquid
        → gibbs_gap_at N kind table T liquid vapour ∈ ends (gibbs_gap (suc v) kind table T liquid vapour)
    unfolding gibbs_gap gibbs_gap_at gibbs_gap_of sums_apart
    covers_gibbs_gap {liquid} {vapour} l g above =
        let x = sums-in l in
        let y = sums-in g in
        times-in v gas_heat-in
        (plus-in v (ln_ratio-in v N (le_trans (omega arith) level) g.thin l.dense above)
        (minus-in v (plus-in v x.s0 x.s1) (plus-in v y.s0 y.s1)))
