-- What a term adds to S1 and what the polynomial has of it, its coefficient and power of tau aside, differ by at most 18 delta^3, for delta from
-- 0 to 1. Assumes nothing.
use Prim.Native.Nat.{ℕ, zero, suc, ◌+◌, ◌-◌, ◌≤◌, ◌<◌}
use native.Mathlib.Omega.{arith}
use mathlib.Core.Path.{refl, subst}
use mathlib.Core.Bool.{Bool, true, false, cond, ◌&&◌}
use mathlib.Core.List.{[], ◌∷◌}
use lib.Dec.{eqb}
use borrow.Author.Tests.{ne_eqb}
use Rattle.exact.specs.Fraction.{Fraction, nat, ◌⊕◌, ◌⊖◌, ◌⊗◌, ◌≼◌, ◌≈◌}
use Rattle.exact.proofs.Fraction.Order.{≼_refl, ≼_trans, ≈-refl, ≈-sym, ≈-trans, ≈-≼-trans, ≼-≈-trans, ≈→≼}
use Rattle.exact.proofs.Fraction.Sum.{⊕-mono-right, ⊖-cong, ⊖-≼-back, ≼-⊕-right}
use Rattle.exact.proofs.Fraction.Product.{⊗-cong, ⊗-mono-left, ⊗-mono-right, ⊗-nonneg, ⊗-one}
use Rattle.exact.proofs.Fraction.Parts.{nat-≼, nat-nonneg, nat-⊕}
use Rattle.exact.specs.Series.{power, expneg_at}
use Rattle.exact.proofs.Power.{power-nonneg, power-add, power-one}
use Rattle.exact.proofs.Ring.{ring, var, num, ◌:+◌, ◌:-◌, ◌:*◌}
use Rattle.equation.specs.Itself.{term_w_at}
use Rattle.equation.specs.Plain.{plain_e_at}
use Rattle.virial.proofs.Near.{Near, near_same, near_resp}
use Rattle.virial.proofs.Weighed.{weighed_low, weighed_high}

-- 1 where the sum takes the term, else 0
abbrev pub counted : Bool → Fraction
counted p = cond p (nat 1) (nat 0)

-- delta^d times E times w, and what the polynomial has of it
abbrev pub shape : ℕ → (d c : ℕ) → Fraction → Fraction
shape N d c δ = power δ d ⊗ (plain_e_at N c (power δ c) ⊗ term_w_at d c (power δ c))

abbrev pub polynomial_part : (first second damped : Bool) → Fraction → Fraction
polynomial_part first second damped δ = counted first ⊗ δ ⊕ nat 2 ⊗ (counted second ⊖ counted damped) ⊗ (δ ⊗ δ)

module _ {δ : Fraction} (some : nat 0 ≼ δ) (most : δ ≼ nat 1) where
  -- ---- powers fall
  one_more : (n : ℕ) → power δ (suc n) ≼ power δ n
  unfolding power
  one_more n = ≼-≈-trans (⊗-mono-right (power-nonneg some n) most) (⊗-one (power δ n))

  falls_by : (n k : ℕ) → power δ (n + k) ≼ power δ n
  falls_by n zero = subst (λ (m : ℕ). power δ m ≼ power δ n) (omega arith) (≼_refl (power δ n))
  falls_by n (suc k) = ≼_trans (subst (λ (m : ℕ). power δ m ≼ power δ (n + k)) (omega arith) (one_more (n + k))) (falls_by n k)

  pub power-falls : (m n : ℕ) → m ≤ n → power δ n ≼ power δ m
  power-falls m n l = subst (λ (k : ℕ). power δ k ≼ power δ m) (omega arith) (falls_by m (n - m))

  power_most : (n : ℕ) → power δ n ≼ nat 1
  unfolding power
  power_most n = power-falls 0 n (omega arith)

  cube : nat 0 ≼ power δ 3
  cube = power-nonneg some 3

  cube-is : δ ⊗ δ ⊗ δ ≈ power δ 3
  unfolding power
  cube-is = ring (var 0 :* var 0 :* var 0) (num 1 :* var 0 :* var 0 :* var 0) (δ ∷ []) refl

  bound : nat 0 ≼ nat 18 ⊗ power δ 3
  bound = ⊗-nonneg (nat-nonneg 18) cube

  -- what differs by at most that
  abbrev pub Close : Fraction → Fraction → Type 0
  Close x y = Near (nat 18 ⊗ power δ 3) x y

  -- ---- where E times w is at most d, and d at most r above it
  by_rest : (P y r : Fraction) (d : ℕ) → nat 0 ≼ P → y ≼ nat d → nat d ≼ y ⊕ r → P ⊗ r ≼ nat 18 ⊗ power δ 3 → Close (P ⊗ y) (P ⊗ nat d)
  by_rest P y r d p under over small =
      record {
        low =
            ≼_trans (⊗-mono-right p over)
            (≈-≼-trans (ring (var 0 :* (var 1 :+ var 2)) (var 0 :* var 1 :+ var 0 :* var 2) (P ∷ y ∷ r ∷ []) refl) (⊕-mono-right (P ⊗ y) small));
        high = ≼_trans (⊗-mono-right p under) (≼-⊕-right bound);
      }

  module _ (N : ℕ) (level : 2 ≤ N) where
    module _ (d c : ℕ) (few : d + suc c ≤ 18) where
      abbrev g : Fraction
      g = power δ (suc c)

      abbrev y : Fraction
      y = expneg_at N g ⊗ (nat d ⊖ nat (suc c) ⊗ g)

      abbrev q : Fraction
      q = nat d ⊕ nat (suc c)

      q-most : q ≼ nat 18
      q-most = ≈-≼-trans (≈-sym (nat-⊕ d (suc c))) (nat-≼ few)

      q-some : nat 0 ≼ q
      q-some = ≼-≈-trans (nat-nonneg (d + suc c)) (nat-⊕ d (suc c))

      g_some : nat 0 ≼ g
      g_some = power-nonneg some (suc c)

      -- g squared is at most g
      squared : q ⊗ (g ⊗ g) ≼ q ⊗ g
      squared = ⊗-mono-right q-some (≼-≈-trans (⊗-mono-right g_some (power_most (suc c))) (⊗-one g))

      pub y-under : y ≼ nat d
      y-under =
          ≼_trans (weighed_high g_some (power_most (suc c)) N level d (suc c))
          (≼-≈-trans (⊕-mono-right (nat d ⊖ q ⊗ g) squared) (ring (var 0 :- var 1 :+ var 1) (var 0) (nat d ∷ q ⊗ g ∷ []) refl))

      y-over : nat d ≼ y ⊕ q ⊗ g
      y-over = ⊖-≼-back (q ⊗ g) (weighed_low g_some (power_most (suc c)) N level d (suc c))

      rest_small : 3 ≤ d + suc c → power δ d ⊗ (q ⊗ g) ≼ nat 18 ⊗ power δ 3
      rest_small three =
          ≈-≼-trans (ring (var 0 :* (var 1 :* var 2)) (var 1 :* (var 0 :* var 2)) (power δ d ∷ q ∷ g ∷ []) refl)
          (≈-≼-trans (⊗-cong (≈-refl q) (≈-sym (power-add δ d (suc c))))
          (≼_trans (⊗-mono-right q-some (power-falls 3 (d + suc c) three)) (⊗-mono-left cube q-most)))

      pub plain_near : 3 ≤ d + suc c → Close (power δ d ⊗ y) (power δ d ⊗ nat d)
      plain_near three = by_rest (power δ d) y (q ⊗ g) d (power-nonneg some d) y-under y-over (rest_small three)

    -- ---- one d and c after the other

    -- without an exponential
    none-near : (d : ℕ) → Close (shape N d 0 δ) (power δ d ⊗ nat d)
    unfolding plain_e_at term_w_at
    none-near d = near_same bound (ring (var 0 :* (num 1 :* var 1)) (var 0 :* var 1) (power δ d ∷ nat d ∷ []) refl)

    some_near : (d c : ℕ) → d + suc c ≤ 18 → 3 ≤ d + suc c → Close (shape N d (suc c) δ) (power δ d ⊗ nat d)
    unfolding plain_e_at term_w_at
    some_near d c few three = plain_near d c few three

    first_part : power δ 1 ⊗ nat 1 ≈ polynomial_part true false false δ
    first_part =
        ≈-trans (⊗-cong (power-one δ) (≈-refl (nat 1)))
        (ring (var 0 :* num 1) (num 1 :* var 0 :+ num 2 :* (num 0 :- num 0) :* (var 0 :* var 0)) (δ ∷ []) refl)

    square : power δ 2 ≈ δ ⊗ δ
    unfolding power
    square = ring (num 1 :* var 0 :* var 0) (var 0 :* var 0) (δ ∷ []) refl

    second_part : power δ 2 ⊗ nat 2 ≈ polynomial_part false true false δ
    second_part =
        ≈-trans (⊗-cong square (≈-refl (nat 2)))
        (ring (var 0 :* var 0 :* num 2) (num 0 :* var 0 :+ num 2 :* (num 1 :- num 0) :* (var 0 :* var 0)) (δ ∷ []) refl)

    no_part : nat 0 ≈ polynomial_part false false false δ
    no_part = ring (num 0) (num 0 :* var 0 :+ num 2 :* (num 0 :- num 0) :* (var 0 :* var 0)) (δ ∷ []) refl

    damped_part : {P : Fraction} → P ≈ δ → P ⊗ (nat 1 ⊖ (nat 1 ⊕ nat 1) ⊗ P) ≈ polynomial_part true false true δ
    damped_part e =
        ≈-trans (⊗-cong e (⊖-cong (≈-refl (nat 1)) (⊗-cong (≈-refl (nat 1 ⊕ nat 1)) e)))
        (ring (var 0 :* (num 1 :- (num 1 :+ num 1) :* var 0)) (num 1 :* var 0 :+ num 2 :* (num 0 :- num 1) :* (var 0 :* var 0)) (δ ∷ []) refl)

    -- d = 1 and c = 1: the polynomial takes the second order too
    damped_near : Close (shape N 1 1 δ) (polynomial_part true false true δ)
    unfolding plain_e_at term_w_at
    damped_near =
        let P = power δ 1 in
        let above = power-nonneg some 1 in
        let two = nat 1 ⊕ nat 1 in
        near_resp (≈-refl _) (≈-refl _) (damped_part (power-one δ))
        (record {
          low = ≼_trans (⊗-mono-right above (weighed_low above (power_most 1) N level 1 1)) (≼-⊕-right bound);
          high =
              ≼_trans (⊗-mono-right above (weighed_high above (power_most 1) N level 1 1))
              (≈-≼-trans (ring (var 0 :* (num 1 :- var 1 :* var 0 :+ var 1 :* (var 0 :* var 0))) (var 0 :* (num 1 :- var 1 :* var 0) :+ var 1 :* (var 0 :* var 0 :* var 0)) (P ∷ two ∷ []) refl)
              (⊕-mono-right (P ⊗ (nat 1 ⊖ two ⊗ P))
              (≈-≼-trans (⊗-cong (≈-sym (nat-⊕ 1 1)) (≈-trans (⊗-cong (⊗-cong (power-one δ) (power-one δ)) (power-one δ)) cube-is)) (⊗-mono-left cube (nat-≼ (omega arith))))));
        })

    -- d of 3 or more: nothing of it is in the polynomial
    under-cube : (d : ℕ) → d ≤ 18 → 3 ≤ d → power δ d ⊗ nat d ≼ nat 18 ⊗ power δ 3
    under-cube d few three =
        ≼_trans (⊗-mono-left (nat-nonneg d) (power-falls 3 d three))
        (≼-≈-trans (⊗-mono-right cube (nat-≼ few)) (ring (var 0 :* num 18) (num 18 :* var 0) (power δ 3 ∷ []) refl))

    over-near : {x : Fraction} (d : ℕ) → d ≤ 18 → 3 ≤ d → x ≼ power δ d ⊗ nat d → power δ d ⊗ nat d ≼ x ⊕ nat 18 ⊗ power δ 3 → Close x (nat 0)
    over-near d few three under over =
        record {
          low = ≼_trans (⊗-nonneg (power-nonneg some d) (nat-nonneg d)) over;
          high = ≼-≈-trans (≼_trans under (under-cube d few three)) (ring (var 0) (num 0 :+ var 0) (nat 18 ⊗ power δ 3 ∷ []) refl);
        }

    more-near : (d c : ℕ) → 3 ≤ d → d ≤ 15 → c ≤ 3 → Close (shape N d c δ) (nat 0)
    unfolding plain_e_at term_w_at
    more-near d zero three few least =
        over-near d (omega arith) three (≈→≼ (ring (var 0 :* (num 1 :* var 1)) (var 0 :* var 1) (power δ d ∷ nat d ∷ []) refl)) (none-near d).low
    more-near d (suc c) three few least =
        over-near d (omega arith) three (⊗-mono-right (power-nonneg some d) (y-under d c (omega arith))) (some_near d c (omega arith) (omega arith)).low

    -- ---- all of them
    pub shape-near : (d c : ℕ) → 0 < d → d ≤ 15 → c ≤ 3 → Close (shape N d c δ) (polynomial_part (eqb d 1) (eqb d 2) (eqb d 1 && eqb c 1) δ)
    shape-near zero c above few least = absurd (omega arith)
    shape-near (suc zero) zero above few least = near_resp (≈-refl _) (≈-refl _) first_part (none-near 1)
    shape-near (suc zero) (suc zero) above few least = damped_near
    shape-near (suc zero) (suc (suc c)) above few least =
        rw (ne_eqb (suc (suc c)) 1 (λ e. omega (arith, e))) (near_resp (≈-refl _) (≈-refl _) first_part (some_near 1 (suc c) (omega arith) (omega arith)))
    shape-near (suc (suc zero)) zero above few least = near_resp (≈-refl _) (≈-refl _) second_part (none-near 2)
    shape-near (suc (suc zero)) (suc c) above few least = near_resp (≈-refl _) (≈-refl _) second_part (some_near 2 c (omega arith) (omega arith))
    shape-near (suc (suc (suc d))) c above few least =
        rw (ne_eqb (suc (suc (suc d))) 1 (λ e. omega (arith, e)), ne_eqb (suc (suc (suc d))) 2 (λ e. omega (arith, e)))
        (near_resp (≈-refl _) (≈-refl _) no_part (more-near (suc (suc (suc d))) c (omega arith) few least))
