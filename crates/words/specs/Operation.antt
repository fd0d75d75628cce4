-- The numbers of the operations in a record. Assumes nothing.
use Rattle.std.specs.Prelude.{ℕ, ◌≡◌, ◌<◌, Result, MatchResult}
use Rattle.words.specs.declared.Operation.{Operation}
use Rattle.words.specs.declared.Operation.TheVariants.{Sum, Difference, Product, Quotient}

abbrev pub number_of : Operation → ℕ
number_of Sum = 0
number_of Difference = 1
number_of Product = 2
number_of Quotient = 3

-- the operation of a number, or the number that none has
abbrev pub Named : ℕ → Result Operation ℕ → Type 0
Named n r = MatchResult r (λ operation. number_of operation ≡ n) (λ e. (e ≡ n) × (3 < n))
