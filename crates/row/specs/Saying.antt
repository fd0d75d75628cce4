-- A row that says a term: there is at most one, and for some terms there is none. Assumes nothing.
use Rattle.std.specs.Prelude.{ℕ, ◌*◌, ◌^◌, ◌≤◌, ◌<◌, ◌≡◌}
use Rattle.term.specs.declared.Term.{Term}
use Rattle.row.specs.declared.Row.{Row}
use Rattle.row.specs.Row.{Good, term_of}

-- a term has no spelling: no good row says it
abbrev pub NoSpelling : Term → Type 0
NoSpelling term = (row : Row) → Good row → term_of row ≡ term → ⊥

-- the one row that can say a term; it does if it is good
pub record RowOf (term : Term) (row : Row) : Type 0 where
  pub says : Good row → term_of row ≡ term
  pub only : (r : Row) → Good r → term_of r ≡ term → row ≡ r

-- a magnitude's power: the first at which ten digits are enough, at most 7
pub record Power (magnitude power : ℕ) : Type 0 where
  pub most : power ≤ 7
  pub low : (j : ℕ) → j < power → 10 ^ 10 * 10 ^ j ≤ magnitude
  pub high : power < 7 → magnitude < 10 ^ 10 * 10 ^ power

-- the whole quotient, or 0 if there is none
pub record Exact (magnitude unit r : ℕ) : Type 0 where
  pub whole : 0 < r → r * unit ≡ magnitude
  pub only : (q : ℕ) → q * unit ≡ magnitude → r ≡ q
