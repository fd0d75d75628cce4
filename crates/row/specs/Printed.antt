-- Row 38 of the coefficient table as document 02 prints it, `3 5 15 -0.1216139400e-1`: its bytes, with the line feed, and its fields.
-- Assumes nothing.
use Rattle.std.specs.Prelude.{ℕ, true, List, [], ◌∷◌}
use Rattle.row.specs.declared.Row.{Row}

unfoldable pub typed38 : List ℕ
typed38 = 51 ∷ 32 ∷ 53 ∷ 32 ∷ 49 ∷ 53 ∷ 32 ∷ 45 ∷ 48 ∷ 46 ∷ 49 ∷ 50 ∷ 49 ∷ 54 ∷ 49 ∷ 51 ∷ 57 ∷ 52 ∷ 48 ∷ 48 ∷ 101 ∷ 45 ∷ 49 ∷ 10 ∷ []

-- the ten digits, and a power that is 5 above -6
unfoldable pub fields_typed38 : Row
fields_typed38 = record { c = 3; d = 5; t = 15; negative = true; ten = 1216139400; power = 5 }
