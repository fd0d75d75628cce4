-- What the rounding of a span to a bracket keeps: it goes outward, and a sheet number on the far side of an end stays there.
-- Assumes nothing.
use mathlib.Core.Path.{refl}
use mathlib.Core.Bool.{Bool, true, false}
use Prim.Native.Nat.{ℕ, suc}
use Rattle.exact.specs.Fraction.{Fraction, nat, ◌≼◌}
use Rattle.exact.proofs.Fraction.Order.{≼_trans, ≈-sym, ≈-≼-trans, ≼-≈-trans}
use Rattle.sheet.specs.declared.Sheet.{Sheet}
use Rattle.sheet.specs.Number.{value, plain_zero, Spelled}
use Rattle.sheet.proofs.Spelling.{zero_spelled}
use Rattle.sheet.proofs.Operations.{zero_value}
use Rattle.sheet.proofs.Laws.{down_le, up_ge, down_greatest, up_least, round_spelled}
use Rattle.bracket.specs.Span.{Span, Ordered, Each, Sign, side, over}
use Rattle.bracket.proofs.Corners.{corner}
use Rattle.bracket.specs.Held.{Ends}
use Rattle.bracket.specs.Rules.{ends, rounded, combined}
use Rattle.bracket.proofs.Inclusion.{rounded-ordered}

module _ (v : ℕ) (A : Span) where
  pub low-out : value (rounded (suc v) A).lo ≼ A.low
  unfolding rounded
  low-out = down_le v A.low

  pub high_out : A.high ≼ value (rounded (suc v) A).hi
  unfolding rounded
  high_out = up_ge v A.high

  pub rounded-spelled : Ends (Spelled v) (rounded (suc v) A)
  unfolding rounded
  rounded-spelled = record { lo = round_spelled false v A.low; hi = round_spelled true v A.high }

  pub low_keeps : (s : Sheet) → Spelled v s → value s ≼ A.low → value s ≼ value (rounded (suc v) A).lo
  unfolding rounded
  low_keeps s p h = down_greatest v A.low s p h

  pub high_keeps : (s : Sheet) → Spelled v s → A.high ≼ value s → value (rounded (suc v) A).hi ≼ value s
  unfolding rounded
  high_keeps s p h = up_least v A.high s p h

-- zero is a sheet number of every count of bits
module _ (v : ℕ) (A : Span) where
  pub low-nonneg : nat 0 ≼ A.low → nat 0 ≼ value (rounded (suc v) A).lo
  low-nonneg h =
      ≈-≼-trans (≈-sym (zero_value plain_zero refl)) (low_keeps v A plain_zero (zero_spelled v) (≈-≼-trans (zero_value plain_zero refl) h))

  pub high_nonpos : A.high ≼ nat 0 → value (rounded (suc v) A).hi ≼ nat 0
  high_nonpos h =
      ≼-≈-trans (high_keeps v A plain_zero (zero_spelled v) (≼-≈-trans h (≈-sym (zero_value plain_zero refl)))) (zero_value plain_zero refl)

-- where all of a span has a sign, its rounding has it
pub rounded-sign : (s : Bool) (v : ℕ) (A : Span) → Ordered A → Each (Sign s) A → Each (Sign s) (ends (rounded (suc v) A))
rounded-sign false v A o e =
    let l = low-nonneg v A e.low in
    record { low = l; high = ≼_trans l (rounded-ordered v o).order }
rounded-sign true v A o e =
    let h = high_nonpos v A e.high in
    record { low = ≼_trans (rounded-ordered v o).order h; high = h }

-- a result at two ends bounds the ends of the bracket
pub corner-low : (s t : Bool) (f : Fraction → Fraction → Fraction) (v : ℕ) (A B : Span) → value (combined (suc v) f A B).lo ≼ f (side s A) (side t B)
corner-low s t f v A B = ≼_trans (low-out v (over f A B)) (corner s t f A B).above

pub corner-high : (s t : Bool) (f : Fraction → Fraction → Fraction) (v : ℕ) (A B : Span) → f (side s A) (side t B) ≼ value (combined (suc v) f A B).hi
corner-high s t f v A B = ≼_trans (corner s t f A B).under (high_out v (over f A B))
