-- Terms put into a list one behind the other, and the k-th of a table's terms in the list that holds them. Assumes nothing.
use mathlib.Core.Path.{◌≡◌, refl, sym, ap, subst, ◌∙◌}
use mathlib.Core.Bool.{true}
use Prim.Native.Nat.{ℕ, zero, suc, ◌+◌, ◌-◌, ◌<◌}
use native.Mathlib.Nat.{zero-sub, sub-zero, suc-sub-suc}
use native.Mathlib.Omega.{arith}
use native.Mathlib.Numerals.{add-one}
use mathlib.Core.List.{List, [], ◌∷◌, ◌++◌}
use lib.ListN.{length, take, drop, set, get_or, replicate}
use lib.Seq.{take_at}
use Rattle.lent.proofs.Behind.{behind}
use Rattle.term.specs.declared.Term.{Term}
use Rattle.term.specs.Packed.{term_at, count_terms, terms_from}
use Rattle.term.specs.Bounds.{Bounds}
use Rattle.term.specs.Sound.{sound_table}
use Rattle.term.proofs.Terms.{from_length, from_at, from_more}
use Rattle.term.proofs.Answers.{sound-bounds}
use Rattle.quick.specs.Unpacked.{blank, listed, AllBounds}

module _ (kind : ℕ) (table : List ℕ) where
  -- one term more
  pub one-term : (list old : List Term) (n : ℕ) → n < length old → list ≡ terms_from kind table 0 n ++ drop n old
      → set list n (term_at kind table n) ≡ terms_from kind table 0 (n + 1) ++ drop (n + 1) old
  one-term list old n h e =
      let zero-plus : 0 + n ≡ n = omega arith in
      let front : terms_from kind table 0 (n + 1) ≡ terms_from kind table 0 n ++ (term_at kind table n ∷ []) =
      ap (terms_from kind table 0) (add-one n) ∙ from_more kind table 0 n ∙ ap (λ (k : ℕ). terms_from kind table 0 n ++ (term_at kind table k ∷ [])) zero-plus in
      rw (e, front) (behind (terms_from kind table 0 n) old n (term_at kind table n ∷ []) (from_length kind table 0 n) (omega arith))

  pub listed-front : (count : ℕ) → take count (listed kind table count) ≡ terms_from kind table 0 count
  listed-front count = take_at (terms_from kind table 0 count) (replicate (64 - count) blank) count (from_length kind table 0 count)

-- what is left of some blanks
pub drop_blanks : (m n : ℕ) (t : Term) → drop n (replicate m t) ≡ replicate (m - n) t
drop_blanks zero zero t = refl
drop_blanks zero (suc n) t = rw zero-sub
drop_blanks (suc m) zero t = rw sub-zero
drop_blanks (suc m) (suc n) t = drop_blanks m n t ∙ ap (λ (k : ℕ). replicate k t) (sym (suc-sub-suc m n))

-- the front of a list that holds a table's terms
pub held_terms : (kind : ℕ) (table : List ℕ) {list : List Term} {count : ℕ} → count ≡ count_terms kind table → list ≡ listed kind table (count_terms kind table)
    → take count list ≡ terms_from kind table 0 (count_terms kind table)
held_terms kind table n e = rw (n, e) (listed-front kind table (count_terms kind table))

-- the terms of a table, place by place
module _ (kind : ℕ) (table : List ℕ) {terms : List Term} (e : terms ≡ terms_from kind table 0 (count_terms kind table)) where
  pub terms-length : length terms ≡ count_terms kind table
  terms-length = ap length e ∙ from_length kind table 0 (count_terms kind table)

  pub terms_at : (k : ℕ) → k < count_terms kind table → get_or terms k blank ≡ term_at kind table k
  terms_at k h =
      ap (λ (z : List Term). get_or z k blank) e
      ∙ from_at kind table 0 (count_terms kind table) k blank h
      ∙ ap (term_at kind table) (omega arith)

  -- a sound table's terms keep the rules' bounds
  pub terms-bounds : sound_table kind table ≡ true → AllBounds terms (length terms)
  terms-bounds sound k l =
      let inside : k < count_terms kind table = omega (arith, terms-length, l) in
      subst Bounds (sym (terms_at k inside)) (sound-bounds kind table sound k inside)
