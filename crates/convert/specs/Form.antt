-- Which terms have an old form (document 02, h), as bounds and as a test, and which terms the record of a kind can hold. Assumes nothing.
use Rattle.std.specs.Prelude.{ℕ, ◌≤◌, ◌<◌, ◌≡◌, Bool, true, cond, ◌&&◌, ltb, leb, eqb}
use Rattle.term.specs.declared.Term.{Term}
use Rattle.term.specs.Packed.{plain_factor}

-- "c is at most 3, factor is 0 for c 0 or else 100, d is 1 to 15 and t at most 24"
pub record OldForm (term : Term) : Type 0 where
  pub c_most : term.c ≤ 3
  pub factor_plain : term.factor ≡ plain_factor term.c
  pub d_above : 0 < term.d
  pub d_most : term.d ≤ 15
  pub t_most : term.t ≤ 24

-- the same as a test
unfoldable pub old_form : Term → Bool
old_form term = leb term.c 3 && eqb term.factor (plain_factor term.c) && ltb 0 term.d && leb term.d 15 && leb term.t 24

-- twelve bytes can hold every term, nine those that have an old form
unfoldable pub has_form : ℕ → Term → Bool
has_form kind term = cond (eqb kind 58) true (old_form term)
