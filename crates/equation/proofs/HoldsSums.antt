-- The sums over a table are held and in range, term by term. Assumes nothing.
use mathlib.Core.Path.{◌≡◌}
use mathlib.Core.Bool.{true}
use mathlib.Core.List.{List}
use Prim.Native.Nat.{ℕ, zero, suc, ◌+◌, ◌-◌, ◌*◌, ◌≤◌}
use native.Mathlib.Nat.{le_trans, le_refl}
use native.Mathlib.Omega.{arith}
use Rattle.exact.specs.Fraction.{Fraction, ◌⊕◌}
use Rattle.sheet.specs.Number.{bias}
use Rattle.sheet.specs.Range.{Width}
use Rattle.term.specs.declared.Term.{Term}
use Rattle.term.specs.Bounds.{Bounds}
use Rattle.term.specs.Packed.{term_at, count_terms}
use Rattle.term.specs.Sound.{sound_table}
use Rattle.term.proofs.Answers.{sound-few, sound-bounds}
use Rattle.bracket.specs.declared.Bracket.{Bracket}
use Rattle.bracket.specs.Span.{Span, Each}
use Rattle.bracket.specs.Rules.{ends, plus}
use Rattle.bracket.specs.Held.{Held}
use Rattle.bracket.proofs.Operands.{whole_held}
use Rattle.measure.proofs.Sizes.{Summed}
use Rattle.equation.specs.Accepted.{Temperature, Density}
use Rattle.equation.specs.Ranged.{DeltaIn, TauIn, AllHeld, EachSum, SumsIn}
use Rattle.equation.specs.Rules.{addends_of, addends, plus_each, no_sums, sums_first, sums}
use Rattle.equation.proofs.Room.{room}
use Rattle.equation.proofs.Weaker.{summed_digits}
use Rattle.equation.proofs.SumsRange.{sums_first-summed, sums-ranged}
use Rattle.equation.proofs.Holds.{combined-held, delta-in, tau-in, term-g_in, e_in, v_in, w-in, addend1_held, addend2_held}

-- one term's addends
module _ {v : ℕ} (term : Term) (a b : Bracket) (s : Bounds term) (p : DeltaIn v a) (q : TauIn v b) where
  pub addends_held : AllHeld v (addends (suc v) term a b)
  unfolding addends addends_of
  addends_held =
      let g = term-g_in a p term s in
      let tv = v_in a b p q term s _ (e_in _ g term.c) in
      let tw = w-in _ g term.d term.c s.d_above s.d_most s.c_most in
      record { s0 = tv.held; s1 = addend1_held _ tw _ g _ tv; s2 = addend2_held _ tw _ g _ tv term.c s.c_most }

module _ {v : ℕ} (kind : ℕ) (table : List ℕ) (sound : sound_table kind table ≡ true) (a b : Bracket) (p : DeltaIn v a) (q : TauIn v b) where
  w : Width v
  w = p.held.lo.width

  first_summed : (n : ℕ) → n ≤ count_terms kind table → EachSum (Summed v (bias - (779 + 4 * v)) (bias + 457 + n)) (sums_first (suc v) (term_at kind table) a b n)
  first_summed n l =
      let i = w in
      sums_first-summed v (omega arith) (omega arith) (term_at kind table) a b p.each q.each n (λ k i. sound-bounds kind table sound k (le_trans i l))

  one-held : (A B : Span) (n : ℕ) → n ≤ count_terms kind table → Each (Summed v (bias - (779 + 4 * v)) (bias + 457 + n)) (ends (plus (suc v) A B)) → Held v (plus (suc v) A B)
  one-held A B n l e = let r = room in let i = w in let f = sound-few kind table sound in combined-held w ◌⊕◌ A B (omega arith) (omega arith) (summed_digits e)

  held_by : (n : ℕ) → n ≤ count_terms kind table → EachSum (Summed v (bias - (779 + 4 * v)) (bias + 457 + n)) (sums_first (suc v) (term_at kind table) a b n)
      → AllHeld v (sums_first (suc v) (term_at kind table) a b n)
  unfolding sums_first no_sums plus_each
  held_by zero l e = let h = whole_held w 0 (omega arith) in record { s0 = h; s1 = h; s2 = h }
  held_by (suc n) l e = record { s0 = one-held _ _ (suc n) l e.s0; s1 = one-held _ _ (suc n) l e.s1; s2 = one-held _ _ (suc n) l e.s2 }

  pub first_held : (n : ℕ) → n ≤ count_terms kind table → AllHeld v (sums_first (suc v) (term_at kind table) a b n)
  first_held n l = held_by n l (first_summed n l)

pub sums-in : {v : ℕ} → Width v → (kind : ℕ) (table : List ℕ) → sound_table kind table ≡ true → {T rho : Fraction} → Temperature T → Density rho
    → SumsIn v (sums (suc v) kind table T rho)
unfolding sums
sums-in {v} w kind table sound t d =
    record {
      held = first_held kind table sound _ _ (delta-in w d) (tau-in w t) (count_terms kind table) (le_refl _);
      ranged = sums-ranged v (omega arith) (omega arith) kind table sound t d;
    }
