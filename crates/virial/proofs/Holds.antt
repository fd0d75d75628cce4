-- Every bracket that the card's code meets is held at either width, its exponents between -80,000 and 80,000. Assumes nothing.
use Prim.Native.Nat.{ℕ, zero, suc, ◌+◌, ◌-◌, ◌≤◌}
use native.Mathlib.Nat.{le_refl, le_trans}
use native.Mathlib.Omega.{arith}
use mathlib.Core.Path.{◌≡◌}
use mathlib.Core.Bool.{Bool, true, false, cond}
use mathlib.Core.List.{List}
use Rattle.exact.specs.Fraction.{Fraction, ◌⊕◌, ◌⊖◌, ◌⊗◌, ◌⊘◌}
use Rattle.sheet.specs.Number.{bias}
use Rattle.sheet.specs.Range.{Width}
use Rattle.term.specs.declared.Term.{Term}
use Rattle.term.specs.Bounds.{Bounds}
use Rattle.term.specs.Packed.{term_at, count_terms}
use Rattle.term.specs.Sound.{sound_table}
use Rattle.term.proofs.Answers.{sound-few, sound-bounds}
use Rattle.bracket.specs.declared.Bracket.{Bracket}
use Rattle.bracket.specs.Span.{whole, Each}
use Rattle.bracket.specs.Rules.{ends, given, plus, minus, times}
use Rattle.bracket.specs.Held.{Held}
use Rattle.bracket.proofs.Operands.{whole_held}
use Rattle.measure.specs.Measure.{Digited}
use Rattle.measure.proofs.Sizes.{Summed}
use Rattle.equation.specs.Accepted.{Temperature, Density}
use Rattle.equation.specs.Ranged.{HeldAs, TauIn}
use Rattle.equation.proofs.Room.{room}
use Rattle.equation.proofs.Weaker.{plus-digits, summed_digits, summed_in}
use Rattle.equation.proofs.Holds.{combined-held, tau-in}
use Rattle.virial.specs.declared.Pick.{Pick}
use Rattle.virial.specs.declared.Pick.TheVariants.{First, Second, FirstDamped}
use Rattle.virial.specs.declared.Coefficients.{Coefficients}
use Rattle.virial.specs.Sums.{picks, addend, with_term, sum_first}
use Rattle.virial.specs.Rules.{second_of, critical_square, third_of, coefficients, polynomial, pressure_of}
use Rattle.virial.specs.Ranged.{SumIn, CoefficientsIn}
use Rattle.virial.proofs.Ranges.{square-plus, addend-sized, plus-addend, sum_first-summed, second_digits, apart-summed, twice-summed, third-digits, linear_digits, bend_digits, bent_digits, one-linear_summed, polynomial-summed, pressure-digits}

-- ---- the sums over a table's terms

module _ {v : ℕ} (b : Bracket) (q : TauIn v b) where
  wide : Width v
  wide = q.held.lo.width

  bits : v ≤ 62
  bits = let w = wide in omega arith

  pub addend-held : (term : Term) → Bounds term → Held v (addend (suc v) term b)
  unfolding addend
  addend-held term s = let r = room in combined-held wide ◌⊗◌ _ _ (omega arith) (omega arith) (addend-sized v b q.each term s)

  module _ (pick : Pick) (kind : ℕ) (table : List ℕ) (sound : sound_table kind table ≡ true) where
    first_summed : (n : ℕ) → n ≤ count_terms kind table → Each (Summed v (bias - (180 + v)) (bias + 193 + n)) (ends (sum_first (suc v) pick (term_at kind table) b n))
    first_summed n l = sum_first-summed v b q.each bits pick (term_at kind table) n (λ k i. sound-bounds kind table sound k (le_trans i l))

    pub first_held : (n : ℕ) → n ≤ count_terms kind table → Held v (sum_first (suc v) pick (term_at kind table) b n)
    unfolding sum_first with_term
    first_held zero l = whole_held wide 0 (omega arith)
    first_held (suc n) l = go (picks pick (term_at kind table n)) (first_held n (omega arith))
      where
        go : (p : Bool) → Held v (sum_first (suc v) pick (term_at kind table) b n)
            → Held v (cond p (plus (suc v) (ends (sum_first (suc v) pick (term_at kind table) b n)) (ends (addend (suc v) (term_at kind table n) b))) (sum_first (suc v) pick (term_at kind table) b n))
        go true h =
            let r = room in
            let w = wide in
            let f = sound-few kind table sound in
            combined-held wide ◌⊕◌ _ _ (omega arith) (omega arith)
            (summed_digits (plus-addend v b q.each bits n _ (first_summed n (omega arith)) (term_at kind table n) (sound-bounds kind table sound n l)))
        go false h = h

    pub sum_in : SumIn v (sum_first (suc v) pick (term_at kind table) b (count_terms kind table))
    sum_in =
        let f = sound-few kind table sound in
        record { held = first_held (count_terms kind table) (le_refl _); each = summed_in (omega arith) (first_summed (count_terms kind table) (le_refl _)) }

-- ---- B and C

module _ {v : ℕ} (w : Width v) where
  pub square-held : Held v (critical_square (suc v))
  square-held = let r = room in combined-held w ◌⊗◌ _ _ (omega arith) (omega arith) (plus-digits (square-plus v))

  second_in : (s : Bracket) → SumIn v s → HeldAs v (Digited v (bias - (189 + v)) (bias + 249)) (second_of (suc v) s)
  unfolding second_of
  second_in s p =
      let r = room in
      let x = second_digits v (omega arith) s p.each in
      record { held = combined-held w ◌⊘◌ _ _ (omega arith) (omega arith) x; each = x }

  module _ (s d : Bracket) (p : SumIn v s) (q : SumIn v d) where
    pub apart-held : Held v (minus (suc v) (ends s) (ends d))
    apart-held = let r = room in combined-held w ◌⊖◌ _ _ (omega arith) (omega arith) (summed_digits (apart-summed v (omega arith) s d p.each q.each))

    pub twice-held : Held v (times (suc v) (whole 2) (ends (minus (suc v) (ends s) (ends d))))
    twice-held = let r = room in combined-held w ◌⊗◌ _ _ (omega arith) (omega arith) (summed_digits (twice-summed v (omega arith) s d p.each q.each))

    third-in : HeldAs v (Digited v (bias - (198 + v)) (bias + 243)) (third_of (suc v) s d)
    unfolding third_of
    third-in =
        let r = room in
        let x = third-digits v (omega arith) s d p.each q.each in
        record { held = combined-held w ◌⊘◌ _ _ (omega arith) (omega arith) x; each = x }

  pub coefficients-in : (table : List ℕ) → sound_table 38 table ≡ true → {T : Fraction} → Temperature T → CoefficientsIn v (coefficients (suc v) table T)
  unfolding coefficients
  coefficients-in table sound t =
      let τ = tau-in w t in
      record {
        second = second_in _ (sum_in _ τ First 38 table sound);
        third = third-in _ _ (sum_in _ τ Second 38 table sound) (sum_in _ τ FirstDamped 38 table sound);
      }

-- ---- the polynomial and its pressure

module _ {v : ℕ} (x : Coefficients) (p : CoefficientsIn v x) {rho : Fraction} (d : Density rho) where
  pub across : Width v
  across = p.second.held.lo.width

  -- B times rho; C times rho, and that times rho
  pub linear_held : Held v (times (suc v) (ends x.second) (ends (given (suc v) rho)))
  linear_held = let r = room in let w = across in combined-held across ◌⊗◌ _ _ (omega arith) (omega arith) (linear_digits v (omega arith) x p.second.each p.third.each d)

  pub bend_held : Held v (times (suc v) (ends x.third) (ends (given (suc v) rho)))
  bend_held = let r = room in let w = across in combined-held across ◌⊗◌ _ _ (omega arith) (omega arith) (bend_digits v (omega arith) x p.second.each p.third.each d)

  pub bent_held : Held v (times (suc v) (ends (times (suc v) (ends x.third) (ends (given (suc v) rho)))) (ends (given (suc v) rho)))
  bent_held = let r = room in let w = across in combined-held across ◌⊗◌ _ _ (omega arith) (omega arith) (bent_digits v (omega arith) x p.second.each p.third.each d)

  pub one-linear_held : Held v (plus (suc v) (whole 1) (ends (times (suc v) (ends x.second) (ends (given (suc v) rho)))))
  one-linear_held =
      let r = room in let w = across in combined-held across ◌⊕◌ _ _ (omega arith) (omega arith) (summed_digits (one-linear_summed v (omega arith) x p.second.each p.third.each d))

  pub polynomial-held : Held v (polynomial (suc v) rho x)
  unfolding polynomial
  polynomial-held =
      let r = room in let w = across in combined-held across ◌⊕◌ _ _ (omega arith) (omega arith) (summed_digits (polynomial-summed v (omega arith) x p.second.each p.third.each d))

  pub pressure-held : {T : Fraction} → Temperature T → Held v (pressure_of (suc v) T rho x)
  unfolding pressure_of
  pressure-held t =
      let r = room in let w = across in combined-held across ◌⊗◌ _ _ (omega arith) (omega arith) (pressure-digits v (omega arith) x p.second.each p.third.each d t)
