-- A table's terms in an array of 64, as the engine holds them. Assumes nothing.
use Rattle.std.specs.Prelude.{ℕ, ◌-◌, ◌<◌, ◌≡◌, false, List, ◌++◌, replicate, get_or}
use Rattle.term.specs.declared.Term.{Term}
use Rattle.term.specs.Packed.{count_terms, terms_from}
use Rattle.term.specs.Bounds.{Bounds}

-- a place of the array behind the terms
abbrev pub blank : Term
blank = record { c = 0; factor = 0; d = 0; t = 0; negative = false; magnitude = 0 }

-- the first terms of a table, and blanks behind them
abbrev pub listed : ℕ → List ℕ → ℕ → List Term
listed kind table count = terms_from kind table 0 count ++ replicate (64 - count) blank

-- a list holds all of a table's terms
abbrev pub Holds : ℕ → List ℕ → List Term → Type 0
Holds kind table list = list ≡ listed kind table (count_terms kind table)

-- the first terms of a list keep the rules' bounds
abbrev pub AllBounds : List Term → ℕ → Type 0
AllBounds list count = (k : ℕ) → k < count → Bounds (get_or list k blank)
