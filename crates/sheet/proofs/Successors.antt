-- Sheet numbers further on: where the digits and the place stand n steps on, and what a small addend does to a sum: down leaves it where it
-- is, up moves it to the next sheet number. Assumes nothing.
use mathlib.Core.Path.{◌≡◌, sym, ap, ◌∙◌}
use mathlib.Core.Logic.{⊎_elim}
use mathlib.Core.Bool.{Bool, true, false}
use Prim.Native.Nat.{ℕ, zero, suc, ◌+◌, ◌-◌, ◌^◌, ◌≤◌, ◌<◌}
use native.Mathlib.Omega.{arith}
use Rattle.exact.specs.Fraction.{◌⊕◌}
use Rattle.sheet.specs.declared.Sheet.{Sheet}
use Rattle.sheet.specs.Magnitude.{Place, Cut, finish, next, round_mag}
use Rattle.sheet.specs.Number.{value, signed, Spelled}
use Rattle.sheet.specs.Round.{away, round, down, up}
use Rattle.sheet.specs.Range.{extent}
use Rattle.sheet.specs.Onward.{next_sheet, onward}
use Rattle.sheet.proofs.Gaps.{zero_or_pos, le_or_lt}
use Rattle.sheet.proofs.Places.{round_place}
use Rattle.sheet.proofs.Rounding.{next-carry, next-plain}
use Rattle.sheet.proofs.Spelling.{signed-self, extent-zero}
use Rattle.sheet.proofs.Operations.{sum_same, sum_zero_right}

-- ---- one step: an addend below one unit of the last place

module _ (v : ℕ) (s t : Sheet) (p : Spelled v s) (a : s.neg ≡ false) (b : t.neg ≡ false) (l : extent t < 2 ^ s.e) where
  place : 0 < extent t → Place s.m true s.e (extent s + extent t) 1
  unfolding Cut
  place q = record { low = omega arith; high = omega arith }

  rounds : (u : Bool) → round u (suc v) (value s ⊕ value t) ≡ signed false (round_mag (away u false) (suc v) (extent s + extent t) 1)
  rounds u = sum_same u v s t (a ∙ sym b) ∙ ap (λ (n : Bool). signed n (round_mag (away u n) (suc v) (extent s + extent t) 1)) a

  pub down_stays : down (suc v) (value s ⊕ value t) ≡ s
  unfolding away finish
  down_stays =
      ⊎_elim (λ z. sum_zero_right false v s t p (extent-zero t.m t.e z))
      (λ q. rounds false ∙ ap (signed false) (round_place false v true p.fit (place q))
      ∙ ap (λ (n : Bool). signed n (record { m = s.m; e = s.e })) (sym a) ∙ signed-self v s p)
      (zero_or_pos (extent t))

  pub up_next : 0 < extent t → up (suc v) (value s ⊕ value t) ≡ next_sheet (suc v) s
  unfolding away finish signed
  up_next q =
      let x = next (suc v) (record { m = s.m; e = s.e }) in
      rounds true ∙ ap (signed false) (round_place true v true p.fit (place q)) ∙ (λ i. record { neg = sym a i; m = x.m; e = x.e })

-- ---- n steps on

abbrev at : Sheet → ℕ → ℕ → Sheet
at s e m = record { neg = s.neg; m = m; e = e }

-- while the digits are enough they count the steps
pub onward-plain : (v n : ℕ) (s : Sheet) → s.m + n < 2 ^ suc v → onward (suc v) n s ≡ record { neg = s.neg; m = s.m + n; e = s.e }
unfolding onward
onward-plain v zero s h = ap (at s s.e) (omega arith)
onward-plain v (suc n) s h =
    ap (next_sheet (suc v)) (onward-plain v n s (omega arith))
    ∙ rw (next-plain (suc v) (s.m + n) s.e (λ z. omega arith)) (ap (at s s.e) (omega arith))

-- past the greatest of them they start again one place up, and are enough for 2^v steps
pub onward-carry : (v n : ℕ) (s : Sheet) → s.m < 2 ^ suc v → n ≤ 2 ^ v → 2 ^ suc v ≤ s.m + n
    → onward (suc v) n s ≡ record { neg = s.neg; m = s.m + n - 2 ^ v; e = s.e + 1 }
unfolding onward
onward-carry v zero s small few h = absurd (omega arith)
onward-carry v (suc n) s small few h =
    ⊎_elim (λ l. later l (onward-carry v n s small (omega arith) l)) first (le_or_lt (2 ^ suc v) (s.m + n))
  where
    here : ℕ → Sheet
    here m = at s (s.e + 1) m

    later : 2 ^ suc v ≤ s.m + n → onward (suc v) n s ≡ here (s.m + n - 2 ^ v) → next_sheet (suc v) (onward (suc v) n s) ≡ here (s.m + suc n - 2 ^ v)
    later l e =
        ap (next_sheet (suc v)) e ∙ rw (next-plain (suc v) (s.m + n - 2 ^ v) (s.e + 1) (λ z. omega arith)) (ap here (omega arith))

    first : s.m + n < 2 ^ suc v → next_sheet (suc v) (onward (suc v) n s) ≡ here (s.m + suc n - 2 ^ v)
    first l =
        ap (next_sheet (suc v)) (onward-plain v n s l) ∙ rw (next-carry (suc v) (s.m + n) s.e (omega arith)) (ap here (omega arith))
