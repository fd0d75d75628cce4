-- The sums that document 02, i, makes B and C of: coefficient times tau^t over some of a table's terms, from zero in table order, over the
-- count of bits w. T is the exact value of the temperature. Assumes nothing.
use Rattle.std.specs.Prelude.{ℕ, zero, suc, Bool, cond, ◌&&◌, List, eqb}
use Rattle.exact.specs.Fraction.{Fraction, nat}
use Rattle.term.specs.declared.Term.{Term}
use Rattle.term.specs.Packed.{term_at, count_terms}
use Rattle.bracket.specs.declared.Bracket.{Bracket}
use Rattle.bracket.specs.Rules.{ends, given, plus, times, power}
use Rattle.equation.specs.Rules.{tau, coefficient}
use Rattle.virial.specs.declared.Pick.{Pick}
use Rattle.virial.specs.declared.Pick.TheVariants.{First, Second, FirstDamped}

-- the terms with d = 1, those with d = 2, and those with d = 1 and c = 1
unfoldable pub picks : Pick → Term → Bool
picks First term = eqb term.d 1
picks Second term = eqb term.d 2
picks FirstDamped term = eqb term.d 1 && eqb term.c 1

-- coefficient times tau^t
unfoldable pub addend : ℕ → Term → Bracket → Bracket
addend w term τ = times w (ends (coefficient w term)) (ends (power w τ term.t))

-- the sum with a term's addend, where the sum runs over the term
unfoldable pub with_term : ℕ → Pick → Term → (τ s : Bracket) → Bracket
with_term w pick term τ s = cond (picks pick term) (plus w (ends s) (ends (addend w term τ))) s

-- over the first n of some terms
unfoldable pub sum_first : ℕ → Pick → (ℕ → Term) → Bracket → ℕ → Bracket
sum_first w pick terms τ zero = given w (nat 0)
sum_first w pick terms τ (suc n) = with_term w pick (terms n) τ (sum_first w pick terms τ n)

-- over a table of nine-byte terms
abbrev pub sum_over : ℕ → Pick → List ℕ → Fraction → Bracket
sum_over w pick table T = sum_first w pick (term_at 38 table) (tau w T) (count_terms 38 table)
