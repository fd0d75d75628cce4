-- What terms of one c, factor and d share at a density: g, E, w and the factor of S2, by the power of delta that g is made of; and the
-- addends by them. Assumes nothing.
use Rattle.std.specs.Prelude.{ℕ, suc, ◌<◌, ◌≡◌}
use Rattle.term.specs.declared.Term.{Term}
use Rattle.term.specs.Bounds.{Bounds}
use Rattle.bracket.specs.declared.Bracket.{Bracket}
use Rattle.bracket.specs.Rules.{ends, times}
use Rattle.bracket.specs.Held.{Held}
use Rattle.equation.specs.Value.{value_by, Valued}
use Rattle.equation.specs.declared.Sums.{Sums}
use Rattle.equation.specs.Rules.{scaled, factor_e, term_w, factor_s2}
use Rattle.equation.specs.Ranged.{GIn, AllHeld}
use Rattle.quick.specs.declared.kept.Kept.{Kept}
use Rattle.quick.specs.declared.ready.Row.{Row}

-- by g and E: w and the factor of S2
unfoldable pub weighed_by : (w c d : ℕ) → (g e : Bracket) → Kept
weighed_by w c d g e = record { g = g; e = e; w = term_w w d c g; s2 = factor_s2 w c g (term_w w d c g) }

-- by the power of delta
unfoldable pub kept_of : (w : ℕ) → Term → Bracket → Kept
kept_of w term power =
    let g = scaled w term.c term.factor power in
    weighed_by w term.c term.d g (factor_e w term.c g)

unfoldable pub addends_by : ℕ → (coefficient delta tau e tw factor : Bracket) → Sums
addends_by w coefficient delta tau e tw factor =
    let v = value_by w coefficient delta tau e in
    record { s0 = v; s1 = times w (ends v) (ends tw); s2 = times w (ends v) (ends factor) }

-- what is asked of the place i of some rows: where the first place with its c and factor lies before it, that one's g and E are its own
pub record Keepable (v i : ℕ) (row : Row) (g e power : Bracket) : Type 0 where
  pub bounds : Bounds row.term
  pub power_held : Held v power
  pub g_in : GIn v (scaled (suc v) row.term.c row.term.factor power)
  pub same_g : row.same < i → g ≡ scaled (suc v) row.term.c row.term.factor power
  pub same_e : row.same < i → e ≡ factor_e (suc v) row.term.c (scaled (suc v) row.term.c row.term.factor power)

-- what the addends are made of is held
pub record Addable (v : ℕ) (coefficient delta tau e tw factor : Bracket) : Type 0 where
  pub valued : Valued v coefficient delta tau e
  pub w_held : Held v tw
  pub factor_held : Held v factor
  pub addends_held : AllHeld v (addends_by (suc v) coefficient delta tau e tw factor)
