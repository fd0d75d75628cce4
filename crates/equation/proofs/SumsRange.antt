-- The range of one term's addends and of the three sums over the terms of a sound table, over the count of bits suc v: multiples of
-- 2^-(779 + 4 v), of at most 2^521. Assumes nothing.
use mathlib.Core.Path.{◌≡◌, refl, sym, subst}
use mathlib.Core.Logic.{◌⊎◌, inl, inr, ⊎_elim}
use mathlib.Core.Bool.{true}
use mathlib.Core.List.{List}
use Prim.Native.Nat.{ℕ, zero, suc, ◌+◌, ◌-◌, ◌*◌, ◌≤◌, ◌<◌}
use native.Mathlib.Nat.{eq-or-lt_of_le, le_refl}
use native.Mathlib.Omega.{arith}
use Rattle.exact.specs.Fraction.{Fraction, nat}
use Rattle.sheet.specs.Number.{bias}
use Rattle.term.specs.declared.Term.{Term}
use Rattle.term.specs.Bounds.{Bounds}
use Rattle.term.specs.Packed.{term_at, count_terms}
use Rattle.term.specs.Sound.{sound_table}
use Rattle.term.proofs.Answers.{sound-few, sound-bounds}
use Rattle.bracket.specs.declared.Bracket.{Bracket}
use Rattle.bracket.specs.Span.{Span, Each, Ordered}
use Rattle.bracket.specs.Rules.{ends, given, plus, power}
use Rattle.bracket.proofs.Inclusion.{combined-ordered}
use Rattle.measure.specs.Measure.{Sized, Fine, Digited}
use Rattle.measure.proofs.Lift.{each_map}
use Rattle.measure.proofs.Measure.{fine_in, nat-fine}
use Rattle.measure.proofs.Sizes.{Summed, Plus, digits-sized, given_summed, times-sized, plus-summed}
use Rattle.equation.specs.declared.Sums.{Sums}
use Rattle.equation.specs.Accepted.{Temperature, Density}
use Rattle.equation.specs.Ranged.{Thin, Dense, EachSum, Ranged}
use Rattle.equation.specs.Rules.{scaled, g_of, factor_e, term_v, term_w, factor_s2, addends_of, addends, plus_each, no_sums, sums_first, sums}
use Rattle.equation.proofs.Room.{room}
use Rattle.equation.proofs.Weaker.{plus-in, digits_in, digits-fine, summed_fine, summed_in}
use Rattle.equation.proofs.Ranges.{delta-either, delta-each, tau-plus, power-thin, power-dense, delta-powers_plus, g-dense, g-thin, term_v-sized}
use Rattle.equation.proofs.Exponents.{plain-e, factor_e-sized, factor_e-small}
use Rattle.equation.proofs.Weights.{plain_w, plain_s2, term_w-sized, factor_s2-sized, w-away, s2_away}

-- ---- the addends of one term: at most 2^457

abbrev Fined : ℕ → Sums → Type 0
Fined v s = EachSum (Fine (bias - (779 + 4 * v)) (bias + 457)) s

-- a term's addends, where c is looked at
abbrev shaped : ℕ → Term → (a b : Bracket) → ℕ → Sums
shaped v term a b c =
    addends_of (suc v) c (g_of (suc v) c term.factor a)
    (term_v (suc v) term a b (factor_e (suc v) c (g_of (suc v) c term.factor a))) (term_w (suc v) term.d c (g_of (suc v) c term.factor a))

module _ (v : ℕ) (digits : 8 ≤ v) (bits : v ≤ 62) where
  -- by the least V, w and factor of S2
  addends-by : (x y z c : ℕ) (g tv tw : Bracket) → x ≤ 779 → x + y ≤ 779 + 3 * v → x + z ≤ 779 + 3 * v
      → Each (Digited v (bias - x) (bias + 317)) (ends tv) → Each (Digited v (bias - y) (bias + 69)) (ends tw)
      → Each (Digited v (bias - z) (bias + 140)) (ends (factor_s2 (suc v) c g tw)) → Fined v (addends_of (suc v) c g tv tw)
  unfolding addends_of
  addends-by x y z c g tv tw i j k pv pw ps =
      let r = room in
      record {
        s0 = digits-fine (omega arith) (omega arith) pv;
        s1 = digits-fine (omega arith) (omega arith) (times-sized v {l = bias - (x + y)} {h = bias + 386} (omega arith) (omega arith) (digits-sized pv) (digits-sized pw));
        s2 = digits-fine (omega arith) (omega arith) (times-sized v {l = bias - (x + z)} {h = bias + 457} (omega arith) (omega arith) (digits-sized pv) (digits-sized ps));
      }

  module _ (term : Term) (sound : Bounds term) (a b : Bracket) (q : Each (Plus v (bias - 2) (bias + 3)) (ends b)) where
    -- V by the power of delta and E
    v_of : (k f : ℕ) → k ≤ 1000 → f ≤ 300 → (e : Bracket) → Each (Plus v (bias - k) (bias + 124)) (ends (power (suc v) a term.d)) → Each (Sized (bias - f) bias) (ends e)
        → Each (Digited v (bias - (180 + k + f)) (bias + 317)) (ends (term_v (suc v) term a b e))
    v_of k f i j e p s = term_v-sized v k i term sound a p b q f j e s

    -- c = 0, wherever delta lies
    none-fine : term.c ≡ 0 → Each (Plus v (bias - 19) (bias + 4)) (ends a) → Fined v (addends (suc v) term a b)
    unfolding addends
    none-fine z p =
        let r = room in
        subst (λ (k : ℕ). Fined v (shaped v term a b k)) (sym z)
        (let g = g_of (suc v) 0 term.factor a in
        let pw = plain_w v bits term.d sound.d_above sound.d_most g in
        addends-by 778 (suc v) (2 * v + 2) 0 g _ _ (omega arith) (omega arith) (omega arith)
        (v_of 589 9 (omega arith) (omega arith) _ (delta-powers_plus v a p term.d sound.d_most) (plain-e v g)) pw
        (digits_in (le_refl _) (omega arith) (plain_s2 v bits _ pw g)))

    module _ (c : ℕ) (z : term.c ≡ suc c) where
      g : Bracket
      g = g_of (suc v) (suc c) term.factor a

      most : suc c ≤ 15
      most = let m = sound.c_most in omega arith

      some : 0 < term.factor
      some = sound.factor_above (omega arith)

      g-ordered : Ordered (ends g)
      unfolding g scaled
      g-ordered = combined-ordered v _ _ _

      dense_term : Dense v a → Fined v (addends (suc v) term a b)
      unfolding addends g
      dense_term p =
          let r = room in
          let pg = g-dense v c term.factor most some sound.factor_most a p in
          let pw = term_w-sized v bits 112 (omega arith) (omega arith) g pg term.d (suc c) sound.d_above sound.d_most most in
          let pe = factor_e-sized v digits (suc c) g (plus-in (omega arith) (le_refl _) pg) g-ordered in
          subst (λ (k : ℕ). Fined v (shaped v term a b k)) (sym z)
          (addends-by 653 (suc v) (3 * v + 112) (suc c) g _ _ (omega arith) (omega arith) (omega arith)
          (v_of 217 256 (omega arith) (omega arith) _ (power-dense v a p term.d sound.d_most) pe) pw
          (factor_s2-sized v bits 112 (omega arith) (omega arith) g pg _ pw (suc c) most))

      module _ (p : Thin v a) where
        pg : Each (Plus v (bias - 292) (bias - (2 + 6 * c))) (ends g)
        unfolding g
        pg = g-thin v c term.factor most some sound.factor_most a p

        pe : Each (Sized (bias - 9) bias) (ends (factor_e (suc v) (suc c) g))
        pe = let r = room in factor_e-small v digits (suc c) g (plus-in (le_refl _) (omega arith) pg) g-ordered

        -- d = 1: the factor of S2 may come near zero, but V is large
        thin_one : 1 ≡ term.d → Fined v (addends (suc v) term a b)
        unfolding addends g
        thin_one one =
            let r = room in
            let wide : Each (Plus v (bias - 292) (bias + 64)) (ends g) = plus-in (le_refl _) (omega arith) pg in
            let pd : Each (Plus v (bias - 19) (bias + 124)) (ends (power (suc v) a term.d)) =
            plus-in (omega arith) (omega arith) (power-thin v a p term.d sound.d_most) in
            let pw = term_w-sized v bits 292 (omega arith) (omega arith) g wide term.d (suc c) sound.d_above sound.d_most most in
            subst (λ (k : ℕ). Fined v (shaped v term a b k)) (sym z)
            (addends-by 208 (suc v) (3 * v + 292) (suc c) g _ _ (omega arith) (omega arith) (omega arith)
            (v_of 19 9 (omega arith) (omega arith) _ pd pe) pw
            (factor_s2-sized v bits 292 (omega arith) (omega arith) g wide _ pw (suc c) most))

        thin_more : 1 < term.d → Fined v (addends (suc v) term a b)
        unfolding addends g
        thin_more more =
            let r = room in
            let m = sound.d_most in
            let pd : Each (Plus v (bias - 589) (bias + 124)) (ends (power (suc v) a term.d)) =
            plus-in (omega arith) (omega arith) (power-thin v a p term.d m) in
            subst (λ (k : ℕ). Fined v (shaped v term a b k)) (sym z)
            (addends-by 778 1 1 (suc c) g _ _ (omega arith) (omega arith) (omega arith)
            (v_of 589 9 (omega arith) (omega arith) _ pd pe)
            (w-away v digits bits c most g pg term.d sound.d_above m)
            (s2_away v digits bits c most g pg term.d more m))

        thin_term : Fined v (addends (suc v) term a b)
        thin_term = ⊎_elim thin_one thin_more (eq-or-lt_of_le sound.d_above)

  pub term-fine : (term : Term) → Bounds term → (a b : Bracket) → Thin v a ⊎ Dense v a → Each (Plus v (bias - 2) (bias + 3)) (ends b)
      → Fined v (addends (suc v) term a b)
  term-fine term sound a b p q = go term.c refl p
    where
      go : (c : ℕ) → term.c ≡ c → Thin v a ⊎ Dense v a → Fined v (addends (suc v) term a b)
      go zero z k = none-fine term sound a b q z (delta-each v a k)
      go (suc c) z (inl k) = thin_term term sound a b q c z k
      go (suc c) z (inr k) = dense_term term sound a b q c z k

  -- ---- the sums: their fineness stays, their size grows by at most a place a term

  pub sums_first-summed : (terms : ℕ → Term) (a b : Bracket) → Thin v a ⊎ Dense v a → Each (Plus v (bias - 2) (bias + 3)) (ends b) → (n : ℕ)
      → ((k : ℕ) → k < n → Bounds (terms k)) → EachSum (Summed v (bias - (779 + 4 * v)) (bias + 457 + n)) (sums_first (suc v) terms a b n)
  unfolding sums_first plus_each no_sums
  sums_first-summed terms a b p q zero sound = record { s0 = none; s1 = none; s2 = none }
    where
      none : Each (Summed v (bias - (779 + 4 * v)) (bias + 457 + 0)) (ends (given (suc v) (nat 0)))
      none = given_summed v (nat-fine 0 (omega arith) (omega arith))
  sums_first-summed terms a b p q (suc n) sound =
      let s = sums_first-summed terms a b p q n (λ k l. sound k (omega arith)) in
      let t = term-fine (terms n) (sound n (omega arith)) a b p q in
      record { s0 = more s.s0 t.s0; s1 = more s.s1 t.s1; s2 = more s.s2 t.s2 }
    where
      more : {A B : Span} → Each (Summed v (bias - (779 + 4 * v)) (bias + 457 + n)) A → Each (Fine (bias - (779 + 4 * v)) (bias + 457)) B
          → Each (Summed v (bias - (779 + 4 * v)) (bias + 457 + suc n)) (ends (plus (suc v) A B))
      more x y = summed_in (omega arith) (plus-summed v (summed_fine (le_refl _) x) (each_map (λ _ z. fine_in (le_refl _) (omega arith) z) y))

  pub sums-ranged : (kind : ℕ) (table : List ℕ) → sound_table kind table ≡ true → {T rho : Fraction} → Temperature T → Density rho
      → Ranged v (sums (suc v) kind table T rho)
  unfolding sums
  sums-ranged kind table sound t d =
      let few = sound-few kind table sound in
      let s = sums_first-summed (term_at kind table) _ _ (delta-either v d) (tau-plus v t) (count_terms kind table) (sound-bounds kind table sound) in
      record { s0 = summed_in (omega arith) s.s0; s1 = summed_in (omega arith) s.s1; s2 = summed_in (omega arith) s.s2 }
