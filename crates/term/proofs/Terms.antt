-- The table as a list of terms: its length, its k-th term, and one term more at its end. Assumes nothing.
use Prim.Native.Nat.{ℕ, zero, suc, ◌+◌, ◌<◌}
use mathlib.Core.Path.{◌≡◌, refl, ap, ◌∙◌}
use mathlib.Core.List.{List, [], ◌∷◌, ◌++◌}
use native.Mathlib.Omega.{arith}
use lib.ListN.{length, get_or}
use Rattle.term.specs.declared.Term.{Term}
use Rattle.term.specs.Packed.{term_at, count_terms, terms_from, terms}

module _ (kind : ℕ) (table : List ℕ) where
  pub from_length : (k n : ℕ) → length (terms_from kind table k n) ≡ n
  unfolding terms_from
  from_length k zero = refl
  from_length k (suc n) = ap suc (from_length (k + 1) n)

  pub from_at : (k n i : ℕ) (other : Term) → i < n → get_or (terms_from kind table k n) i other ≡ term_at kind table (k + i)
  unfolding terms_from
  from_at k zero i other h = absurd (omega arith)
  from_at k (suc n) zero other h = ap (term_at kind table) (omega arith)
  from_at k (suc n) (suc i) other h = from_at (k + 1) n i other (omega arith) ∙ ap (term_at kind table) (omega arith)

  pub from_more : (k n : ℕ) → terms_from kind table k (suc n) ≡ terms_from kind table k n ++ (term_at kind table (k + n) ∷ [])
  unfolding terms_from
  from_more k zero = ap (λ (i : ℕ). term_at kind table i ∷ []) (omega arith)
  from_more k (suc n) =
      let last : k + 1 + n ≡ k + suc n = omega arith in
      ap (λ (rest : List Term). term_at kind table k ∷ rest) (from_more (k + 1) n ∙ ap (λ (i : ℕ). terms_from kind table (k + 1) n ++ (term_at kind table i ∷ [])) last)

  pub terms-length : length (terms kind table) ≡ count_terms kind table
  unfolding terms
  terms-length = from_length 0 (count_terms kind table)

  pub terms-at : (k : ℕ) (other : Term) → k < count_terms kind table → get_or (terms kind table) k other ≡ term_at kind table k
  unfolding terms
  terms-at k other h = from_at 0 (count_terms kind table) k other h ∙ ap (term_at kind table) (omega arith)
