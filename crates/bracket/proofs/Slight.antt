-- A slight addend: at or above zero, its upper end above zero and below one unit of the last place of the sum's lower end. Added to the sum
-- it leaves the lower end where it is and moves the upper end one sheet number on; so it does as a series' last addend. Assumes nothing.
use mathlib.Core.Path.{◌≡◌, refl, ◌∙◌}
use mathlib.Core.Bool.{true, false}
use Prim.Native.Nat.{ℕ, suc, ◌^◌, ◌≤◌, ◌<◌}
use native.Mathlib.Nat.{lt_of_le_of_lt, lt_of_lt_of_le, mul-pos}
use lib.Pow.{pow_pos, pow_mono}
use Rattle.exact.specs.Fraction.{nat, ◌⊕◌, ◌≼◌, ◌≺◌}
use Rattle.exact.proofs.Fraction.Order.{≼_trans}
use Rattle.sheet.specs.Number.{value, Spelled}
use Rattle.sheet.specs.Round.{down, up}
use Rattle.sheet.specs.Range.{extent}
use Rattle.sheet.specs.Onward.{onward}
use Rattle.sheet.proofs.Compare.{place_order}
use Rattle.sheet.proofs.Operations.{above_zero, nonneg-plain, extent-order}
use Rattle.sheet.proofs.Laws.{round_resp}
use Rattle.sheet.proofs.Successors.{down_stays, up_next}
use Rattle.bracket.specs.declared.Bracket.{Bracket}
use Rattle.bracket.specs.Span.{Ordered}
use Rattle.bracket.specs.Held.{Ends}
use Rattle.bracket.specs.Rules.{ends, rounded, plus, addlast, stretched}
use Rattle.bracket.proofs.Signs.{over-plus}

-- ---- steps of the upper end
pub stretched-none : (w : ℕ) (b : Bracket) → stretched w 0 b ≡ b
unfolding onward
stretched-none w b = refl

pub stretched-next : (w n : ℕ) (b : Bracket) → stretched w 1 (stretched w n b) ≡ stretched w (suc n) b
unfolding onward
stretched-next w n b = refl

-- a bracket that is spelled, ordered and not below zero
pub record Nonneg (v : ℕ) (b : Bracket) : Type 0 where
  pub spelled : Ends (Spelled v) b
  pub ordered : Ordered (ends b)
  pub above : nat 0 ≼ value b.lo

module _ {v : ℕ} {b : Bracket} (n : Nonneg v b) where
  pub low-plain : b.lo.neg ≡ false
  low-plain = nonneg-plain v b.lo n.spelled.lo n.above

  pub high_plain : b.hi.neg ≡ false
  high_plain = nonneg-plain v b.hi n.spelled.hi (≼_trans n.above n.ordered.order)

  extents : extent b.lo ≤ extent b.hi
  extents = extent-order b.lo b.hi low-plain high_plain n.ordered.order

module _ {v : ℕ} {S T : Bracket} (s : Nonneg v S) (t : Nonneg v T) (some : nat 0 ≺ value T.hi) (small : extent T.hi < 2 ^ S.lo.e) where
  -- the upper end's last place is not below the lower end's
  places : S.lo.e ≤ S.hi.e
  places =
      place_order v S.hi.m S.hi.e S.lo.m S.lo.e s.spelled.hi.fit.small s.spelled.lo.fit (extents s)

  lower : down (suc v) (value S.lo ⊕ value T.lo) ≡ S.lo
  lower = down_stays v S.lo T.lo s.spelled.lo (low-plain s) (low-plain t) (lt_of_le_of_lt (extents t) small)

  upper : up (suc v) (value S.hi ⊕ value T.hi) ≡ onward (suc v) 1 S.hi
  unfolding onward
  upper =
      up_next v S.hi T.hi s.spelled.hi (high_plain s) (high_plain t) (lt_of_lt_of_le small (pow_mono places))
      (mul-pos (above_zero T.hi some).1 (pow_pos T.hi.e))

  pub plus-slight : plus (suc v) (ends S) (ends T) ≡ stretched (suc v) 1 S
  unfolding rounded
  plus-slight =
      let o = over-plus s.ordered t.ordered in
      λ i. record { lo = (round_resp false v o.low ∙ lower) i; hi = (round_resp true v o.high ∙ upper) i }

  pub addlast-slight : addlast (suc v) S T ≡ stretched (suc v) 1 S
  unfolding addlast
  addlast-slight = λ i. record { lo = S.lo; hi = upper i }
