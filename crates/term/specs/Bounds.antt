-- What the rules for a term and for a table's length say, as plain bounds. Assumes nothing.
use Rattle.std.specs.Prelude.{ℕ, ◌*◌, ◌/◌, ◌^◌, ◌≤◌, ◌<◌, ◌≡◌, List, [], ◌∷◌}
use Rattle.kind.specs.Kind.{term_bytes, longest}
use Rattle.term.specs.declared.Term.{Term}
use Rattle.term.specs.Packed.{plain_factor}

-- the fields as wide as the bits of nine bytes allow, and the factor that these mean
pub record WithinFields (term : Term) : Type 0 where
  pub c_below : term.c < 4
  pub factor_plain : term.factor ≡ plain_factor term.c
  pub d_below : term.d < 16
  pub t_below : term.t < 32
  pub magnitude_below : term.magnitude < 2 ^ 60

-- the same for twelve bytes
pub record WithinLong (term : Term) : Type 0 where
  pub c_below : term.c < 16
  pub factor_below : term.factor < 1024
  pub d_below : term.d < 32
  pub t_below : term.t < 64
  pub magnitude_below : term.magnitude < 2 ^ 60

-- what every term of a sound table keeps, of either kind
pub record Bounds (term : Term) : Type 0 where
  pub c_most : term.c ≤ 15
  pub factor_above : 0 < term.c → 0 < term.factor
  pub factor_most : term.factor ≤ 1023
  pub d_above : 0 < term.d
  pub d_most : term.d ≤ 31
  pub t_most : term.t ≤ 63
  pub magnitude_above : 0 < term.magnitude
  pub magnitude_most : term.magnitude ≤ 10 ^ 17

-- what a term of a sound table of kind 38 keeps besides
pub record Plain (term : Term) : Type 0 where
  pub c_below : term.c < 4
  pub factor_plain : term.factor ≡ plain_factor term.c
  pub d_below : term.d < 16
  pub t_most : term.t ≤ 24

-- a sound length: whole terms, 1 to 64 of them
pub record Whole (kind bytes : ℕ) : Type 0 where
  pub some : term_bytes kind ≤ bytes
  pub most : bytes ≤ longest kind
  pub whole : term_bytes kind * (bytes / term_bytes kind) ≡ bytes

-- a term fits the record of its kind, and every term of a list does
pub record WithinKind (kind : ℕ) (term : Term) : Type 0 where
  pub long : kind ≡ 58 → WithinLong term
  pub plain : (kind ≡ 58 → ⊥) → WithinFields term

abbrev pub AllWithin : ℕ → List Term → Type 0
AllWithin kind [] = Unit {0}
AllWithin kind (term ∷ rest) = WithinKind kind term × AllWithin kind rest
