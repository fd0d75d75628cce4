-- The exponential of minus x (01, "Exponential of minus x") as step rules over the count of bits w, on any span X. Assumes nothing.
use Rattle.std.specs.Prelude.{ℕ, zero, suc}
use Rattle.exact.specs.Fraction.{nat}
use Rattle.bracket.specs.Span.{Span, whole}
use Rattle.bracket.specs.declared.Bracket.{Bracket}
use Rattle.bracket.specs.Rules.{ends, given, plus, times, divided, addlast}

-- term 0 is 1, term k + 1 is (term k times X) divided by k + 1
unfoldable pub exp_term : ℕ → Span → ℕ → Bracket
exp_term w X zero = given w (nat 1)
exp_term w X (suc k) = divided w (ends (times w (ends (exp_term w X k)) X)) (whole (suc k))

-- the terms 0 to k, summed left to right
unfoldable pub exp_sum : ℕ → Span → ℕ → Bracket
exp_sum w X zero = exp_term w X zero
exp_sum w X (suc k) = plus w (ends (exp_sum w X k)) (ends (exp_term w X (suc k)))

-- the sum to 256, with the last term's upper end once more
unfoldable pub exp_total : ℕ → Span → Bracket
exp_total w X = addlast w (exp_sum w X 256) (exp_term w X 256)

-- 1 divided by that
unfoldable pub expneg : ℕ → Span → Bracket
expneg w X = divided w (whole 1) (ends (exp_total w X))
