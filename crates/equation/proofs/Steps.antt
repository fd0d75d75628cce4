-- How a proof of code follows a rule: results of calls put for the brackets that they equal. Assumes nothing.
use mathlib.Core.Path.{◌≡◌, sym, subst, ap, ap₂, ◌∙◌}
use Prim.Native.Nat.{ℕ, suc, ◌^◌, ◌<◌}
use Rattle.exact.specs.Fraction.{nat}
use Rattle.sheet.specs.Range.{Width}
use Rattle.sheet.proofs.Live.{few-digits}
use Rattle.bracket.specs.declared.Bracket.{Bracket}
use Rattle.bracket.specs.Span.{whole}
use Rattle.bracket.specs.Rules.{ends, given, plus, minus, times, divided}
use Rattle.bracket.specs.Held.{Held}
use Rattle.bracket.proofs.Operands.{plus-whole, times-whole}
use Rattle.term.specs.declared.Term.{Term}
use Rattle.equation.specs.declared.Sums.{Sums}
use Rattle.equation.specs.Rules.{g_of, factor_e, term_v, term_w, addends_of, addends}

pub held-is : {v : ℕ} {a b : Bracket} → a ≡ b → Held v b → Held v a
held-is {v} e h = subst (Held v) (sym e) h

module _ (w : ℕ) {a b c d r : Bracket} (p : a ≡ c) (q : b ≡ d) where
  pub plus-of : r ≡ plus w (ends a) (ends b) → r ≡ plus w (ends c) (ends d)
  plus-of e = e ∙ ap₂ (λ (x y : Bracket). plus w (ends x) (ends y)) p q

  pub minus-of : r ≡ minus w (ends a) (ends b) → r ≡ minus w (ends c) (ends d)
  minus-of e = e ∙ ap₂ (λ (x y : Bracket). minus w (ends x) (ends y)) p q

  pub times-of : r ≡ times w (ends a) (ends b) → r ≡ times w (ends c) (ends d)
  times-of e = e ∙ ap₂ (λ (x y : Bracket). times w (ends x) (ends y)) p q

  pub divided-of : r ≡ divided w (ends a) (ends b) → r ≡ divided w (ends c) (ends d)
  divided-of e = e ∙ ap₂ (λ (x y : Bracket). divided w (ends x) (ends y)) p q

-- the same with a whole number, for which the code has its bracket
module _ {v : ℕ} (w : Width v) (n : ℕ) (few : n < 2 ^ 32) {a b d r : Bracket} (p : a ≡ given (suc v) (nat n)) (q : b ≡ d) where
  pub whole_plus_of : r ≡ plus (suc v) (ends a) (ends b) → r ≡ plus (suc v) (whole n) (ends d)
  whole_plus_of e = e ∙ plus-whole v n (few-digits w few) p (ends b) ∙ ap (λ (x : Bracket). plus (suc v) (whole n) (ends x)) q

  pub whole_times_of : r ≡ times (suc v) (ends a) (ends b) → r ≡ times (suc v) (whole n) (ends d)
  whole_times_of e = e ∙ times-whole v n (few-digits w few) p (ends b) ∙ ap (λ (x : Bracket). times (suc v) (whole n) (ends x)) q

-- one term: g, E, V and w in turn
pub addends-is : (w : ℕ) (term : Term) (a b : Bracket) {g e tv tw : Bracket} {r : Sums} → g ≡ g_of w term.c term.factor a → e ≡ factor_e w term.c g
    → tv ≡ term_v w term a b e → tw ≡ term_w w term.d term.c g → r ≡ addends_of w term.c g tv tw → r ≡ addends w term a b
unfolding addends
addends-is w term a b p q s t u = cc
