-- Of every text it is decided whether a row stands at its front: the guess is that row, or there is none. Assumes nothing.
use Prim.Native.Nat.{ℕ}
use native.Mathlib.Omega.{arith}
use mathlib.Core.Path.{◌≡◌, refl, sym, ap, ◌∙◌}
use mathlib.Core.Logic.{◌⊎◌, inl, inr}
use mathlib.Core.Bool.{Bool, true, false, false≢true}
use mathlib.Core.List.{List, [], ◌∷◌, ◌++◌}
use borrow.Author.Tests.{eqb-true, eqb-false}
use lib.Dec.{eqb}
use Rattle.row.specs.declared.Row.{Row}
use Rattle.row.specs.Row.{Good, good_row, row_text}
use Rattle.row.specs.Guess.{guess_of}
use Rattle.row.specs.Standing.{NoRow}
use Rattle.row.proofs.Back.{guess_only}
use Rattle.row.proofs.Reading.{test_good, good_test}

-- what stands at the front of a text: a row, and the rest behind it
pub record Begins (s : List ℕ) : Type 0 where
  pub row : Row
  pub rest : List ℕ
  pub good : Good row
  pub here : s ≡ row_text row ++ rest

abbrev After : List ℕ → List ℕ → Type 0
After bytes s = ((rest : List ℕ) × (s ≡ bytes ++ rest)) ⊎ ((rest : List ℕ) → s ≡ bytes ++ rest → ⊥)

-- whether some bytes stand at the front
after : (bytes s : List ℕ) → After bytes s
after [] s = inl (s, refl)
after (b ∷ bytes) [] = inr (λ rest e. let z : ◌≡◌ {A = ℕ} 0 1 = cc in omega arith)
after (b ∷ bytes) (x ∷ s) = by (eqb x b) refl (after bytes s)
  where
    by : (same : Bool) → eqb x b ≡ same → After bytes s → After (b ∷ bytes) (x ∷ s)
    by true e (inl w) = inl (w.0, (let h : x ≡ b = eqb-true x b e in let t : s ≡ bytes ++ w.0 = w.1 in cc))
    by true e (inr never) = inr (λ rest k. never rest (cc))
    by false e w = inr (λ rest k. eqb-false x b e (cc))

module _ (s : List ℕ) where
  pub row_or_none : Begins s ⊎ NoRow s
  row_or_none = by (good_row (guess_of s)) refl (after (row_text (guess_of s)) s)
    where
      by : (b : Bool) → good_row (guess_of s) ≡ b → After (row_text (guess_of s)) s → Begins s ⊎ NoRow s
      by true e (inl w) = inl (record { row = guess_of s; rest = w.0; good = test_good (guess_of s) e; here = w.1 })
      by true e (inr never) = inr (λ row rest g k. never rest (k ∙ ap (λ r. row_text r ++ rest) (sym (guess_only s row rest g k))))
      by false e w = inr (λ row rest g k. false≢true (sym e ∙ ap good_row (guess_only s row rest g k) ∙ good_test row g))
