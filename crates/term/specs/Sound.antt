-- The rules that a packed term and a table keep, the place of the first term that breaks one, and what the check of a table answers.
-- Kind 38 has the rules of document 01, kind 58 those of document 02, h. Assumes nothing.
use Rattle.std.specs.Prelude.{ℕ, zero, suc, ◌+◌, ◌%◌, ◌^◌, List, Bool, cond, ◌&&◌, length, leb, ltb, eqb, Result, Ok, Err}
use Rattle.kind.specs.Kind.{term_bytes, longest}
use Rattle.term.specs.declared.Term.{Term}
use Rattle.term.specs.declared.Fault.{Fault}
use Rattle.term.specs.declared.Fault.TheVariants.{Length, Broken}
use Rattle.term.specs.Packed.{term_at, spare_at, count_terms}

-- both kinds: d is not 0, and the magnitude is neither 0 nor above ten to the 17
unfoldable pub sound_size : Term → Bool
sound_size term = ltb 0 term.d && ltb 0 term.magnitude && leb term.magnitude (10 ^ 17)

-- "factor is 0 without c being 0 or the other way round" breaks the rule
unfoldable pub matched : Term → Bool
matched term = cond (eqb term.c 0) (eqb term.factor 0) (ltb 0 term.factor)

-- the rules of a term's fields: t is at most 24 in nine bytes, and free in twelve
unfoldable pub sound_term : ℕ → Term → Bool
sound_term kind term = sound_size term && cond (eqb kind 58) (matched term) (leb term.t 24)

-- the rules of the k-th term of a table: no spare bit is set either
unfoldable pub sound_at : ℕ → List ℕ → ℕ → Bool
sound_at kind table k = sound_term kind (term_at kind table k) && eqb (spare_at kind table k) 0

-- a table has 9 to 576 bytes, a multiple of 9; or 12 to 768, a multiple of 12
unfoldable pub sound_length : ℕ → ℕ → Bool
sound_length kind bytes = leb (term_bytes kind) bytes && leb bytes (longest kind) && eqb (bytes % term_bytes kind) 0

-- the place, counted from 1, of the first of n terms from the k-th that breaks a rule; 0 if none does
unfoldable pub broken_from : ℕ → List ℕ → ℕ → ℕ → ℕ
broken_from kind table k zero = 0
broken_from kind table k (suc n) = cond (sound_at kind table k) (broken_from kind table (k + 1) n) (k + 1)

-- the place of the first term of a table that breaks a rule, or 0
unfoldable pub first_broken : ℕ → List ℕ → ℕ
first_broken kind table = broken_from kind table 0 (count_terms kind table)

-- a table of right length whose every term is sound
unfoldable pub sound_table : ℕ → List ℕ → Bool
sound_table kind table = sound_length kind (length table) && eqb (first_broken kind table) 0

-- the answer for the place of the first broken term of a table of right length
unfoldable pub place_answer : ℕ → ℕ → Result ℕ Fault
place_answer count zero = Ok count
place_answer count (suc before) = Err (Broken (suc before))

-- the check of a table: its length first, then the first broken term
unfoldable pub table_answer : ℕ → List ℕ → Result ℕ Fault
table_answer kind table = cond (sound_length kind (length table)) (place_answer (count_terms kind table) (first_broken kind table)) (Err Length)
