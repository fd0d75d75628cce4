-- The rules as the code follows them: a sum from one term to the next, by whether it takes the term; 322 times 322; and B and C by results of
-- calls. Assumes nothing.
use mathlib.Core.Path.{◌≡◌, refl, sym, subst, ◌∙◌}
use mathlib.Core.Bool.{true, false}
use mathlib.Core.List.{List}
use Prim.Native.Nat.{ℕ, suc, ◌+◌}
use native.Mathlib.Numerals.{add-one}
use native.Mathlib.Omega.{arith}
use Rattle.exact.specs.Fraction.{Fraction, nat}
use Rattle.sheet.specs.Range.{Width}
use Rattle.sheet.proofs.Live.{few-digits}
use Rattle.term.specs.declared.Term.{Term}
use Rattle.term.specs.Packed.{term_at, count_terms}
use Rattle.bracket.specs.declared.Bracket.{Bracket}
use Rattle.bracket.specs.Span.{whole, ◌≃◌}
use Rattle.bracket.specs.Rules.{ends, given, plus, times}
use Rattle.bracket.proofs.Same.{times-≃}
use Rattle.bracket.proofs.Operands.{given_whole}
use Rattle.equation.specs.Rules.{tau}
use Rattle.virial.specs.declared.Pick.{Pick}
use Rattle.virial.specs.declared.Pick.TheVariants.{First, Second, FirstDamped}
use Rattle.virial.specs.Sums.{picks, addend, with_term, sum_first}
use Rattle.virial.specs.Rules.{second_of, critical_square, third_of, coefficients}

module _ (w : ℕ) (pick : Pick) where
  pub with_term-taken : (term : Term) (τ s : Bracket) → picks pick term ≡ true → plus w (ends s) (ends (addend w term τ)) ≡ with_term w pick term τ s
  unfolding with_term
  with_term-taken term τ s e = rw e

  pub with_term-left : (term : Term) (τ s : Bracket) → picks pick term ≡ false → s ≡ with_term w pick term τ s
  unfolding with_term
  with_term-left term τ s e = rw e

  module _ (terms : ℕ → Term) (τ : Bracket) where
    pub sum_first-none : given w (nat 0) ≡ sum_first w pick terms τ 0
    unfolding sum_first
    sum_first-none = refl

    pub sum_first-more : (n : ℕ) → with_term w pick (terms n) τ (sum_first w pick terms τ n) ≡ sum_first w pick terms τ (n + 1)
    unfolding sum_first
    sum_first-more n = rw add-one

-- the code's bracket of 322 is exact
pub square-is : {v : ℕ} → Width v → {k r : Bracket} → k ≡ given (suc v) (nat 322) → r ≡ times (suc v) (ends k) (ends k) → r ≡ critical_square (suc v)
square-is {v} w {k} p e = e ∙ times-≃ v same same
  where
    same : ends k ≃ whole 322
    same = subst (λ (b : Bracket). ends b ≃ whole 322) (sym p) (given_whole v 322 (few-digits w (omega arith)))

-- B and C of a table, step by step
pub coefficients-is : (w : ℕ) (table : List ℕ) (T : Fraction) {τ f s d b c : Bracket} → τ ≡ tau w T
    → f ≡ sum_first w First (term_at 38 table) τ (count_terms 38 table) → s ≡ sum_first w Second (term_at 38 table) τ (count_terms 38 table)
    → d ≡ sum_first w FirstDamped (term_at 38 table) τ (count_terms 38 table) → b ≡ second_of w f → c ≡ third_of w s d
    → record { second = b; third = c } ≡ coefficients w table T
unfolding coefficients
coefficients-is w table T p q r t u v = cc
