-- The card's polynomial and the full equation: at every level from 2, for a density up to 322 kg/m3, S1, which is p / (rho R T) - 1, lies within
-- third order in the density of B rho + C rho^2, and the pressures within as much times rho R T. So B is the limit of
-- (p / (rho R T) - 1) / rho as the density falls to zero, and C that of what is left of it, by rho. Assumes nothing.
use Prim.Native.Nat.{ℕ, zero, suc, ◌^◌, ◌≤◌}
use native.Mathlib.Nat.{le_refl}
use native.Mathlib.Omega.{arith}
use mathlib.Core.Path.{◌≡◌, refl}
use mathlib.Core.Bool.{Bool, true, false, cond}
use mathlib.Core.List.{List, [], ◌∷◌}
use Rattle.exact.specs.Fraction.{Fraction, nat, parts, inv, ◌⊕◌, ◌⊖◌, ◌⊗◌, ◌⊘◌, ◌≼◌, ◌≺◌, ◌≈◌}
use Rattle.exact.proofs.Fraction.Order.{≈-refl, ≈-sym, ≈-trans, ≺→≼, ≼-≈-trans}
use Rattle.exact.proofs.Fraction.Sum.{⊕-cong, ⊖-cong}
use Rattle.exact.proofs.Fraction.Product.{⊗-cong, ⊗-nonneg, ⊗-pos}
use Rattle.exact.proofs.Fraction.Quotient.{⊘-is, ⊘-cong, ⊘-nonneg, ⊘-≼, ⊗-⊘, inv-⊗, inv-pos, inv-of_⊗}
use Rattle.exact.proofs.Fraction.Parts.{nat-nonneg, nat-pos, parts-nonneg, parts-pos}
use Rattle.exact.specs.Ends.{absolute}
use Rattle.exact.specs.Series.{power}
use Rattle.exact.proofs.Power.{power-nonneg}
use Rattle.exact.proofs.Ring.{ring, var, num, ◌:+◌, ◌:-◌, ◌:*◌}
use Rattle.term.specs.declared.Term.{Term}
use Rattle.term.specs.Bounds.{Bounds, Plain}
use Rattle.term.specs.Packed.{term_at, count_terms}
use Rattle.term.specs.Sound.{sound_table}
use Rattle.term.proofs.Answers.{sound-bounds, sound-plain}
use Rattle.equation.specs.Constants.{gas_constant, exact_coefficient}
use Rattle.equation.specs.Itself.{delta_at, tau_at, term_v_at, term_w_at, sums_at, pressure_at}
use Rattle.equation.specs.Plain.{plain_e_at, plain_addends_at, plain_first_at, plain_sums_at}
use Rattle.equation.proofs.Plain.{plain-sums_at}
use Rattle.virial.specs.declared.Pick.{Pick}
use Rattle.virial.specs.declared.Pick.TheVariants.{First, Second, FirstDamped}
use Rattle.virial.specs.Sums.{picks}
use Rattle.virial.specs.Itself.{sum_first_at, sum_over_at, second_at, third_at, virial_pressure_at}
use Rattle.virial.specs.Limits.{excess_at, weight_first, third_rate}
use Rattle.virial.proofs.Near.{Near, near_same, near_resp, near_plus, near_times, near_parts, near_less, near_size, near_absolute}
use Rattle.virial.proofs.Thirds.{counted, polynomial_part, shape-near}

-- a sum with a term, or without it
taken : (p : Bool) (s a : Fraction) → s ⊕ a ⊗ counted p ≈ cond p (s ⊕ a) s
taken true s a = ring (var 0 :+ var 1 :* num 1) (var 0 :+ var 1) (s ∷ a ∷ []) refl
taken false s a = ring (var 0 :+ var 1 :* num 0) (var 0) (s ∷ a ∷ []) refl

-- F delta + 2 (S - D) delta^2
abbrev by_delta : (F S D δ : Fraction) → Fraction
by_delta F S D δ = F ⊗ δ ⊕ nat 2 ⊗ (S ⊖ D) ⊗ (δ ⊗ δ)

by_delta-cong : {F G S U D E : Fraction} (δ : Fraction) → F ≈ G → S ≈ U → D ≈ E → by_delta F S D δ ≈ by_delta G U E δ
by_delta-cong δ p q r = ⊕-cong (⊗-cong p (≈-refl δ)) (⊗-cong (⊗-cong (≈-refl (nat 2)) (⊖-cong q r)) (≈-refl (δ ⊗ δ)))

module _ (N : ℕ) (level : 2 ≤ N) {τ δ : Fraction} (warm : nat 0 ≼ τ) (some : nat 0 ≼ δ) (most : δ ≼ nat 1) where
  -- ---- one term
  term-near : (term : Term) → Bounds term → Plain term
      → Near (parts false term.magnitude (10 ^ 16) ⊗ power τ term.t ⊗ (nat 18 ⊗ power δ 3)) (plain_addends_at N term δ τ).s1
      (exact_coefficient term ⊗ power τ term.t ⊗ polynomial_part (picks First term) (picks Second term) (picks FirstDamped term) δ)
  unfolding plain_addends_at term_v_at picks
  term-near term b p =
      let m = parts false term.magnitude (10 ^ 16) in
      let a = exact_coefficient term in
      let h = power τ term.t in
      let g = power δ term.c in
      near_resp (ring (var 0 :* (var 1 :* var 2)) (var 0 :* var 1 :* var 2) (m ∷ h ∷ (nat 18 ⊗ power δ 3) ∷ []) refl)
      (ring (var 0 :* (var 1 :* (var 2 :* (var 3 :* var 4)))) (var 0 :* var 2 :* var 1 :* var 3 :* var 4)
      (a ∷ h ∷ power δ term.d ∷ plain_e_at N term.c g ∷ term_w_at term.d term.c g ∷ []) refl)
      (ring (var 0 :* (var 1 :* var 2)) (var 0 :* var 1 :* var 2) (a ∷ h ∷ polynomial_part (picks First term) (picks Second term) (picks FirstDamped term) δ ∷ []) refl)
      (near_parts term.negative term.magnitude (10 ^ 16)
      (near_times h (power-nonneg warm term.t)
      (shape-near some most N level term.d term.c b.d_above (omega (arith, p.d_below)) (omega (arith, p.c_below)))))

  -- ---- the sums over a table's terms
  module _ (table : List ℕ) (sound : sound_table 38 table ≡ true) where
    abbrev over : Pick → ℕ → Fraction
    over pick n = sum_first_at pick (term_at 38 table) τ n

    first_near : (n : ℕ) → n ≤ count_terms 38 table
        → Near (nat 18 ⊗ weight_first (term_at 38 table) τ n ⊗ power δ 3) (plain_first_at N table δ τ n).s1 (by_delta (over First n) (over Second n) (over FirstDamped n) δ)
    unfolding plain_first_at weight_first sum_first_at
    first_near zero l =
        near_same (⊗-nonneg (⊗-nonneg (nat-nonneg 18) (nat-nonneg 0)) (power-nonneg some 3))
        (ring (num 0) (num 0 :* var 0 :+ num 2 :* (num 0 :- num 0) :* (var 0 :* var 0)) (δ ∷ []) refl)
    first_near (suc n) l =
        let term = term_at 38 table n in
        let A = exact_coefficient term ⊗ power τ term.t in
        let W = weight_first (term_at 38 table) τ n in
        let F = over First n in
        let S = over Second n in
        let D = over FirstDamped n in
        let i = counted (picks First term) in
        let j = counted (picks Second term) in
        let k = counted (picks FirstDamped term) in
        near_resp
        (ring (num 18 :* var 0 :* var 2 :+ var 1 :* (num 18 :* var 2)) (num 18 :* (var 0 :+ var 1) :* var 2)
        (W ∷ (parts false term.magnitude (10 ^ 16) ⊗ power τ term.t) ∷ power δ 3 ∷ []) refl)
        (≈-refl _)
        (≈-trans
        (ring (var 0 :* var 7 :+ num 2 :* (var 1 :- var 2) :* (var 7 :* var 7) :+ var 3 :* (var 4 :* var 7 :+ num 2 :* (var 5 :- var 6) :* (var 7 :* var 7)))
        ((var 0 :+ var 3 :* var 4) :* var 7 :+ num 2 :* ((var 1 :+ var 3 :* var 5) :- (var 2 :+ var 3 :* var 6)) :* (var 7 :* var 7))
        (F ∷ S ∷ D ∷ A ∷ i ∷ j ∷ k ∷ δ ∷ []) refl)
        (by_delta-cong δ (taken (picks First term) F A) (taken (picks Second term) S A) (taken (picks FirstDamped term) D A)))
        (near_plus (first_near n (omega arith)) (term-near term (sound-bounds 38 table sound n l) (sound-plain table sound n l)))

-- ---- B rho + C rho^2 by delta

delta-some : (rho : Fraction) → nat 0 ≼ rho → nat 0 ≼ delta_at rho
unfolding delta_at
delta-some rho h = ⊘-nonneg (nat 322) h

polynomial-is : (table : List ℕ) (T rho : Fraction)
    → by_delta (sum_over_at First table T) (sum_over_at Second table T) (sum_over_at FirstDamped table T) (delta_at rho) ≈ second_at table T ⊗ rho ⊕ third_at table T ⊗ rho ⊗ rho
unfolding second_at third_at delta_at ◌⊘◌
polynomial-is table T rho =
    let k = inv (nat 322) in
    let F = sum_over_at First table T in
    let X = nat 2 ⊗ (sum_over_at Second table T ⊖ sum_over_at FirstDamped table T) in
    let positive = nat-pos {a = 322} (omega arith) in
    ≈-trans
    (ring (var 0 :* (var 2 :* var 3) :+ var 1 :* (var 2 :* var 3 :* (var 2 :* var 3))) (var 0 :* var 3 :* var 2 :+ var 1 :* (var 3 :* var 3) :* var 2 :* var 2)
    (F ∷ X ∷ rho ∷ k ∷ []) refl)
    (⊕-cong (≈-refl _) (⊗-cong (⊗-cong (⊗-cong (≈-refl X) (≈-sym (inv-of_⊗ positive positive))) (≈-refl rho)) (≈-refl rho)))

-- 18 W delta^3 by the density
rate_is : (table : List ℕ) (T rho : Fraction)
    → nat 18 ⊗ weight_first (term_at 38 table) (tau_at T) (count_terms 38 table) ⊗ power (delta_at rho) 3 ≈ third_rate table T ⊗ (rho ⊗ rho ⊗ rho)
unfolding third_rate delta_at power ◌⊘◌
rate_is table T rho =
    ring (var 0 :* (num 1 :* (var 1 :* var 2) :* (var 1 :* var 2) :* (var 1 :* var 2))) (var 0 :* var 2 :* var 2 :* var 2 :* (var 1 :* var 1 :* var 1))
    ((nat 18 ⊗ weight_first (term_at 38 table) (tau_at T) (count_terms 38 table)) ∷ rho ∷ inv (nat 322) ∷ []) refl

-- ---- the law

module _ (N : ℕ) (level : 2 ≤ N) (table : List ℕ) (sound : sound_table 38 table ≡ true) (T : Fraction) {rho : Fraction} (some : nat 0 ≼ rho) (most : rho ≼ nat 322) where
  delta-most : delta_at rho ≼ nat 1
  unfolding delta_at
  delta-most = ⊘-≼ (nat-pos (omega arith)) (≼-≈-trans most (ring (num 322) (num 1 :* num 322) [] refl))

  sum_near : Near (third_rate table T ⊗ (rho ⊗ rho ⊗ rho)) (sums_at N 38 table T rho).s1 (second_at table T ⊗ rho ⊕ third_at table T ⊗ rho ⊗ rho)
  unfolding plain_sums_at tau_at
  sum_near =
      near_resp (rate_is table T rho) (≈-sym (plain-sums_at table sound N T some).s1) (polynomial-is table T rho)
      (first_near N level (⊘-nonneg T (parts-nonneg 64714 100)) (delta-some rho some) delta-most table sound (count_terms 38 table) (le_refl _))

  -- S1 and B rho + C rho^2
  pub third-order_sum : absolute ((sums_at N 38 table T rho).s1 ⊖ (second_at table T ⊗ rho ⊕ third_at table T ⊗ rho ⊗ rho)) ≼ third_rate table T ⊗ (rho ⊗ rho ⊗ rho)
  third-order_sum = near_absolute sum_near

  -- the pressures
  pub third-order_pressure : nat 0 ≼ T
      → absolute (pressure_at N 38 table T rho ⊖ virial_pressure_at table T rho) ≼ rho ⊗ gas_constant ⊗ T ⊗ (third_rate table T ⊗ (rho ⊗ rho ⊗ rho))
  unfolding pressure_at virial_pressure_at
  third-order_pressure warm =
      let heat = rho ⊗ gas_constant ⊗ T in
      near_absolute
      (near_resp (ring (var 0 :* (num 0 :+ var 1)) (var 0 :* var 1) (heat ∷ (third_rate table T ⊗ (rho ⊗ rho ⊗ rho)) ∷ []) refl) (≈-refl _)
      (⊗-cong (≈-refl heat) (ring (num 1 :+ (var 0 :+ var 1)) (num 1 :+ var 0 :+ var 1) (second_at table T ⊗ rho ∷ third_at table T ⊗ rho ⊗ rho ∷ []) refl))
      (near_times heat (⊗-nonneg (⊗-nonneg some (parts-nonneg 46151805 100000)) warm) (near_plus (near_same {x = nat 1} (nat-nonneg 0) (≈-refl (nat 1))) sum_near)))

-- ---- the limits: what is left of p / (rho R T) - 1, by rho

module _ (N : ℕ) (level : 2 ≤ N) (table : List ℕ) (sound : sound_table 38 table ≡ true) {T rho : Fraction} (warm : nat 0 ≺ T) (some : nat 0 ≺ rho) (most : rho ≼ nat 322) where
  abbrev S : Fraction
  S = (sums_at N 38 table T rho).s1

  -- rho R T goes out
  excess_is : S ⊘ rho ≈ excess_at N table T rho
  unfolding excess_at pressure_at
  excess_is =
      let heat = rho ⊗ gas_constant ⊗ T in
      let above = ⊗-pos (⊗-pos some (parts-pos 46151805 100000 (omega arith))) warm in
      let out = ≈-trans (≈-sym (⊗-⊘ (nat 1 ⊕ S) above)) (⊘-cong above (ring (var 0 :* var 1) (var 1 :* var 0) ((nat 1 ⊕ S) ∷ heat ∷ []) refl) (≈-refl heat)) in
      ⊘-cong some (≈-trans (ring (var 0) (num 1 :+ var 0 :- num 1) (S ∷ []) refl) (⊖-cong out (≈-refl (nat 1)))) (≈-refl rho)

  -- a factor 1 / rho is a division, and takes a factor rho out
  by_rho : (x : Fraction) → inv rho ⊗ x ≈ x ⊘ rho
  by_rho x = ≈-trans (ring (var 0 :* var 1) (var 1 :* var 0) (inv rho ∷ x ∷ []) refl) (≈-sym (⊘-is x rho))

  out : (x : Fraction) → inv rho ⊗ (x ⊗ rho) ≈ x
  out x =
      ≈-trans (ring (var 0 :* (var 1 :* var 2)) (var 0 :* var 2 :* var 1) (inv rho ∷ x ∷ rho ∷ []) refl)
      (≈-trans (⊗-cong (inv-⊗ some) (≈-refl x)) (ring (num 1 :* var 0) (var 0) (x ∷ []) refl))

  near_by_rho : {e x y : Fraction} → Near (e ⊗ rho) x (y ⊗ rho) → Near e (x ⊘ rho) y
  near_by_rho {e} {x} {y} n = near_resp (out e) (by_rho x) (out y) (near_times (inv rho) (≺→≼ (inv-pos rho)) n)

  -- less B, it lies within K rho^2 of C rho
  excess_near : Near (third_rate table T ⊗ (rho ⊗ rho)) (excess_at N table T rho ⊖ second_at table T) (third_at table T ⊗ rho)
  excess_near =
      let K = third_rate table T in
      let B = second_at table T in
      let C = third_at table T in
      near_resp (≈-refl _) (⊖-cong excess_is (≈-refl B)) (ring (var 1 :+ var 0 :- var 1) (var 0) (C ⊗ rho ∷ B ∷ []) refl)
      (near_less B
      (near_by_rho
      (near_resp (ring (var 0 :* (var 1 :* var 1 :* var 1)) (var 0 :* (var 1 :* var 1) :* var 1) (K ∷ rho ∷ []) refl) (≈-refl S)
      (ring (var 0 :* var 2 :+ var 1 :* var 2 :* var 2) ((var 0 :+ var 1 :* var 2) :* var 2) (B ∷ C ∷ rho ∷ []) refl)
      (sum_near N level table sound T (≺→≼ some) most))))

  -- C is the limit of what is left, by rho once more
  pub third-limit : absolute ((excess_at N table T rho ⊖ second_at table T) ⊘ rho ⊖ third_at table T) ≼ third_rate table T ⊗ rho
  third-limit =
      near_absolute
      (near_by_rho
      (near_resp (ring (var 0 :* (var 1 :* var 1)) (var 0 :* var 1 :* var 1) (third_rate table T ∷ rho ∷ []) refl) (≈-refl _) (≈-refl _) excess_near))

  -- B is the limit of p / (rho R T) - 1, by rho
  pub second_limit : absolute (excess_at N table T rho ⊖ second_at table T) ≼ (absolute (third_at table T) ⊕ third_rate table T ⊗ rho) ⊗ rho
  second_limit =
      let K = third_rate table T in
      let C = third_at table T in
      ≼-≈-trans (near_size (≺→≼ some) C excess_near) (ring (var 0 :* var 2 :+ var 1 :* (var 2 :* var 2)) ((var 0 :+ var 1 :* var 2) :* var 2) (absolute C ∷ K ∷ rho ∷ []) refl)
