-- A term packed into the bytes of its kind, and a list of terms packed into a table. Assumes nothing.
use Rattle.std.specs.Prelude.{ℕ, cond, List, [], ◌∷◌, ◌++◌, eqb}
use Rattle.term.specs.declared.Term.{Term}
use Rattle.term.specs.Pack.{pack}
use Rattle.term.specs.Long.{pack_long}

unfoldable pub pack_term : ℕ → Term → List ℕ
pack_term kind term = cond (eqb kind 58) (pack_long term) (pack term)

-- terms packed one behind the other
unfoldable pub pack_table : ℕ → List Term → List ℕ
pack_table kind [] = []
pack_table kind (term ∷ rest) = pack_term kind term ++ pack_table kind rest
