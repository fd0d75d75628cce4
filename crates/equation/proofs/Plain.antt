-- Kind 38 is document 01's equation as it stood: factor 100 is exactly 1, and no g of that kind passes 128. Its sums are the plain rule's,
-- bracket for bracket, and its readings at a level are the plain equation's. Assumes nothing.
use Prim.Native.Nat.{ℕ, zero, suc, ◌≤◌, ◌<◌}
use mathlib.Core.Path.{◌≡◌, refl, sym, ap₂, ◌∙◌, subst}
use mathlib.Core.Bool.{Bool, true, false}
use mathlib.Core.List.{List}
use native.Mathlib.Omega.{arith}
use native.Mathlib.Nat.{le_refl}
use Rattle.exact.specs.Fraction.{Fraction, nat, ◌⊗◌, ◌≼◌, ◌≈◌}
use Rattle.exact.proofs.Fraction.Order.{≼_refl, ≼_trans, ≼-leq, ≈-refl, ≈-sym, ≈-trans, ≼-≈-trans}
use Rattle.exact.proofs.Fraction.Sum.{⊕-cong, ⊖-cong}
use Rattle.exact.proofs.Fraction.Product.{⊗-cong, one-⊗, ⊗-mono-right}
use Rattle.exact.proofs.Fraction.Quotient.{⊘-nonneg}
use Rattle.exact.proofs.Fraction.Parts.{nat-≼, nat-nonneg, parts-nat, parts-≈}
use Rattle.exact.specs.Series.{power as power_at}
use Rattle.exact.proofs.Power.{power-nonneg}
use Rattle.exact.proofs.Series.{expneg_at-cong}
use Rattle.sheet.specs.declared.Sheet.{Sheet}
use Rattle.sheet.specs.Number.{value, Spelled}
use Rattle.sheet.proofs.Laws.{round_resp, round_whole}
use Rattle.term.specs.declared.Term.{Term}
use Rattle.term.specs.Packed.{plain_factor, term_at, count_terms}
use Rattle.term.specs.Sound.{sound_table}
use Rattle.term.specs.Bounds.{Plain}
use Rattle.term.proofs.Answers.{sound-plain}
use Rattle.bracket.specs.declared.Bracket.{Bracket}
use Rattle.bracket.specs.Span.{Each, Ordered, side, whole, over, ◌≃◌}
use Rattle.bracket.specs.Held.{Ends}
use Rattle.bracket.specs.Rules.{ends, rounded, given, times, power}
use Rattle.bracket.proofs.Same.{≃-refl, ≃-trans, times-≃, rounded-≃, rounded-ends}
use Rattle.bracket.proofs.Corners.{corner, over-is}
use Rattle.bracket.proofs.Inclusion.{power-ordered}
use Rattle.bracket.proofs.Kept.{rounded-spelled}
use Rattle.measure.proofs.Measure.{one-few}
use Rattle.equation.specs.Constants.{hundredths}
use Rattle.equation.specs.Ranged.{UpTo}
use Rattle.equation.specs.Rules.{delta, tau, scaled, g_of, factor_e, addends, plus_each, sums_first, sums}
use Rattle.equation.specs.Itself.{delta_at, tau_at, scaled_at, g_at, factor_e_at, term_v_at, term_w_at, factor_s2_at, SumsAt, addends_at, sums_first_at, sums_at}
use Rattle.equation.specs.Plain.{plain_e, plain_addends, plain_first, plain_sums, plain_e_at, plain_addends_at, plain_first_at, plain_sums_at}
use Rattle.equation.proofs.Small.{delta-up_to, g-most}

-- ---- 100 hundredths are 1, exactly, after rounding too

one-is : hundredths 100 ≈ nat 1
one-is = ≈-trans (parts-≈ false 100 100 1 1 (omega arith) (omega arith) (omega arith)) (parts-nat 1)

one-point : (v : ℕ) → ends (given (suc v) (hundredths 100)) ≃ whole 1
unfolding rounded
one-point v =
    record {
      low = subst (λ (s : Sheet). value s ≈ nat 1) (sym (round_resp false v one-is)) (round_whole false v 1 (one-few v));
      high = subst (λ (s : Sheet). value s ≈ nat 1) (sym (round_resp true v one-is)) (round_whole true v 1 (one-few v));
    }

-- times the exact 1 a bracket stays
one-times : (v : ℕ) (b : Bracket) → Ends (Spelled v) b → Ordered (ends b) → times (suc v) (whole 1) (ends b) ≡ b
one-times v b s o =
    rounded-≃ v
    (≃-trans (over-is ◌⊗◌ (whole 1) (ends b) (corner false false ◌⊗◌ (whole 1) (ends b)) (corner false true ◌⊗◌ (whole 1) (ends b)) lower upper)
    (record { low = one-⊗ (value b.lo); high = one-⊗ (value b.hi) }))
    ∙ rounded-ends v b s.lo s.hi
  where
    lower : (s t : Bool) → nat 1 ⊗ value b.lo ≼ side s (whole 1) ⊗ side t (ends b)
    lower true true = ⊗-mono-right (nat-nonneg 1) o.order
    lower false true = ⊗-mono-right (nat-nonneg 1) o.order
    lower true false = ≼_refl _
    lower false false = ≼_refl _

    upper : (s t : Bool) → side s (whole 1) ⊗ side t (ends b) ≼ nat 1 ⊗ value b.hi
    upper true true = ≼_refl _
    upper false true = ≼_refl _
    upper true false = ⊗-mono-right (nat-nonneg 1) o.order
    upper false false = ⊗-mono-right (nat-nonneg 1) o.order

power-spelled : (v : ℕ) (b : Bracket) (n : ℕ) → Ends (Spelled v) (power (suc v) b n)
unfolding power
power-spelled v b zero = rounded-spelled v (whole 1)
power-spelled v b (suc n) = rounded-spelled v (over ◌⊗◌ (ends (power (suc v) b n)) (ends b))

-- ---- g by its cases: the power of delta for c = 0 and for factor 100

pub none-scaled : (w c factor : ℕ) (b : Bracket) → c ≡ 0 → b ≡ scaled w c factor b
unfolding scaled
none-scaled w zero factor b z = refl
none-scaled w (suc c) factor b z = absurd (omega arith)

pub some_scaled : (w c factor : ℕ) (b : Bracket) → 0 < c → times w (ends (given w (hundredths factor))) (ends b) ≡ scaled w c factor b
unfolding scaled
some_scaled w zero factor b p = absurd (omega arith)
some_scaled w (suc c) factor b p = refl

pub hundred_scaled : (v c factor : ℕ) (b : Bracket) → Ends (Spelled v) b → Ordered (ends b) → factor ≡ 100 → b ≡ scaled (suc v) c factor b
unfolding scaled
hundred_scaled v zero factor b s o e = refl
hundred_scaled v (suc c) factor b s o e = rw e (sym (times-≃ v (one-point v) (≃-refl (ends b)) ∙ one-times v b s o))

plain_g : (v c factor : ℕ) (b : Bracket) → factor ≡ plain_factor c → g_of (suc v) c factor b ≡ power (suc v) b c
unfolding plain_factor
plain_g v zero factor b e = sym (none-scaled (suc v) zero factor (power (suc v) b zero) refl)
plain_g v (suc c) factor b e = sym (hundred_scaled v (suc c) factor (power (suc v) b (suc c)) (power-spelled v b (suc c)) (power-ordered v b (suc c)) e)

-- ---- E is the plain one where g's upper end is at most 128

plain-e : (v c : ℕ) (g : Bracket) → value g.hi ≼ nat 128 → factor_e (suc v) c g ≡ plain_e (suc v) c g
unfolding factor_e plain_e
plain-e v zero g h = refl
plain-e v (suc c) g h = rw (≼-leq h)

-- ---- the addends of a nine-byte term, delta from 0 to 4, and the sums

pub plain-addends : (v : ℕ) (term : Term) → Plain term → (a b : Bracket) → Each (UpTo 4) (ends a) → addends (suc v) term a b ≡ plain_addends (suc v) term a b
unfolding addends plain_addends
plain-addends v term p a b h =
    let g = power (suc v) a term.c in
    let f = plain-e v term.c g (≼_trans (g-most v a h term.c p.c_below).high.high (nat-≼ (omega arith))) in
    rw (plain_g v term.c term.factor a p.factor_plain, f)

module _ (table : List ℕ) (sound : sound_table 38 table ≡ true) where
  plain-first : (v : ℕ) (a b : Bracket) → Each (UpTo 4) (ends a) → (n : ℕ) → n ≤ count_terms 38 table
      → sums_first (suc v) (term_at 38 table) a b n ≡ plain_first (suc v) table a b n
  unfolding sums_first plain_first
  plain-first v a b h zero l = refl
  plain-first v a b h (suc n) l =
      ap₂ (plus_each (suc v)) (plain-first v a b h n (omega arith)) (plain-addends v (term_at 38 table n) (sound-plain table sound n (omega arith)) a b h)

  -- a sound table of kind 38 and a density of that kind: the sums, and with them everything that is made of them
  pub plain-sums : (v : ℕ) → 7 ≤ v → (T : Fraction) {rho : Fraction} → nat 0 ≼ rho → rho ≼ nat 1288 → sums (suc v) 38 table T rho ≡ plain_sums (suc v) table T rho
  unfolding sums plain_sums
  plain-sums v digits T {rho} low high = plain-first v (delta (suc v) rho) (tau (suc v) T) (delta-up_to v digits (record { low = low; high = high })) (count_terms 38 table) (le_refl _)

-- ---- the values at a level

scaled_at-plain : (c factor : ℕ) (x : Fraction) → factor ≡ plain_factor c → scaled_at c factor x ≈ x
unfolding scaled_at plain_factor
scaled_at-plain zero factor x e = ≈-refl x
scaled_at-plain (suc c) factor x e = rw e (≈-trans (⊗-cong one-is (≈-refl x)) (one-⊗ x))

e_at_cong : (N c : ℕ) {x y : Fraction} → nat 0 ≼ x → x ≈ y → factor_e_at N c x ≈ plain_e_at N c y
unfolding factor_e_at plain_e_at
e_at_cong N zero h e = ≈-refl (nat 1)
e_at_cong N (suc c) h e = expneg_at-cong N h e

term_v_at-cong : (term : Term) (δ τ : Fraction) {e f : Fraction} → e ≈ f → term_v_at term δ τ e ≈ term_v_at term δ τ f
unfolding term_v_at
term_v_at-cong term δ τ h = ⊗-cong (≈-refl _) h

term_w_at-cong : (d c : ℕ) {x y : Fraction} → x ≈ y → term_w_at d c x ≈ term_w_at d c y
unfolding term_w_at
term_w_at-cong d zero e = ≈-refl (nat d)
term_w_at-cong d (suc c) e = ⊖-cong (≈-refl (nat d)) (⊗-cong (≈-refl (nat (suc c))) e)

factor_s2_at-cong : (c : ℕ) {x y u w : Fraction} → x ≈ y → u ≈ w → factor_s2_at c x u ≈ factor_s2_at c y w
unfolding factor_s2_at
factor_s2_at-cong zero e f = ⊗-cong f (⊖-cong f (≈-refl (nat 1)))
factor_s2_at-cong (suc c) e f = ⊖-cong (⊗-cong f (⊖-cong f (≈-refl (nat 1)))) (⊗-cong (≈-refl _) e)

-- three equal values
pub record Alike (a b : SumsAt) : Type 0 where
  pub s0 : a.s0 ≈ b.s0
  pub s1 : a.s1 ≈ b.s1
  pub s2 : a.s2 ≈ b.s2

plain-addends_at : (N : ℕ) (term : Term) → Plain term → {δ : Fraction} (τ : Fraction) → nat 0 ≼ δ → Alike (addends_at N term δ τ) (plain_addends_at N term δ τ)
unfolding addends_at plain_addends_at
plain-addends_at N term p {δ} τ h =
    let e = scaled_at-plain term.c term.factor (power_at δ term.c) p.factor_plain in
    let l : nat 0 ≼ g_at term.c term.factor δ = ≼-≈-trans (power-nonneg h term.c) (≈-sym e) in
    let x = term_v_at-cong term δ τ (e_at_cong N term.c l e) in
    let y = term_w_at-cong term.d term.c e in
    record { s0 = x; s1 = ⊗-cong x y; s2 = ⊗-cong x (factor_s2_at-cong term.c e y) }

module _ (table : List ℕ) (sound : sound_table 38 table ≡ true) (N : ℕ) where
  plain-first_at : {δ : Fraction} (τ : Fraction) → nat 0 ≼ δ → (n : ℕ) → n ≤ count_terms 38 table
      → Alike (sums_first_at N (term_at 38 table) δ τ n) (plain_first_at N table δ τ n)
  unfolding sums_first_at plain_first_at
  plain-first_at τ h zero l = record { s0 = ≈-refl (nat 0); s1 = ≈-refl (nat 0); s2 = ≈-refl (nat 0) }
  plain-first_at τ h (suc n) l =
      let s = plain-first_at τ h n (omega arith) in
      let t = plain-addends_at N (term_at 38 table n) (sound-plain table sound n (omega arith)) τ h in
      record { s0 = ⊕-cong s.s0 t.s0; s1 = ⊕-cong s.s1 t.s1; s2 = ⊕-cong s.s2 t.s2 }

  pub plain-sums_at : (T : Fraction) {rho : Fraction} → nat 0 ≼ rho → Alike (sums_at N 38 table T rho) (plain_sums_at N table T rho)
  unfolding sums_at plain_sums_at delta_at
  plain-sums_at T {rho} h = plain-first_at (tau_at T) (⊘-nonneg (nat 322) h) (count_terms 38 table) (le_refl _)
