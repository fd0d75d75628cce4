-- What each answer of the table's check says, and what a sound table gives of each of its terms. Assumes nothing.
use Prim.Native.Nat.{ℕ, zero, suc, ◌+◌, ◌*◌, ◌≤◌, ◌<◌}
use mathlib.Core.Path.{◌≡◌, refl}
use native.Mathlib.Numerals.{add-one}
use mathlib.Core.List.{List}
use mathlib.Core.Bool.{Bool, true, false, cond}
use borrow.Author.Tests.{eqb-true, eq-eqb}
use native.Mathlib.Omega.{arith}
use lib.ListN.{length}
use lib.Dec.{eqb}
use Rattle.std.specs.Prelude.{Ok, Err}
use Rattle.term.specs.declared.Fault.TheVariants.{Length, Broken}
use Rattle.kind.specs.Kind.{term_bytes}
use Rattle.term.specs.Bounds.{Bounds, Plain, Whole}
use Rattle.term.specs.First.{SoundBelow, First}
use Rattle.term.specs.Packed.{term_at, spare_at, count_terms}
use Rattle.term.specs.Sound.{sound_size, matched, sound_term, sound_at, sound_length, sound_table, first_broken, place_answer, table_answer}
use Rattle.term.proofs.Rules.{both, term_at-bounds, term_at-size, term_at-matched, term_at-old, sound_length-whole, whole_widest, whole_some, whole_few, within-bytes}
use Rattle.term.proofs.First.{place_sound, place_first, first_place}

-- the three ways of the rule, over the test of the length and the place
sound-when : (b : Bool) (count place n : ℕ) → cond b (place_answer count place) (Err Length) ≡ Ok n → (b ≡ true) × (place ≡ 0) × (n ≡ count)
unfolding place_answer
sound-when true count zero n e = (refl, refl, cc)
sound-when true count (suc place) n e = cc
sound-when false count place n e = cc

length-when : (b : Bool) (count place : ℕ) → cond b (place_answer count place) (Err Length) ≡ Err Length → b ≡ false
unfolding place_answer
length-when true count zero e = cc
length-when true count (suc place) e = cc
length-when false count place e = refl

broken-when : (b : Bool) (count place k : ℕ) → cond b (place_answer count place) (Err Length) ≡ Err (Broken k) → (b ≡ true) × (place ≡ k) × (0 < k)
unfolding place_answer
broken-when true count zero k e = cc
broken-when true count (suc place) k e = let same : suc place ≡ k = cc in (refl, same, omega arith)
broken-when false count place k e = cc

module _ (kind : ℕ) (table : List ℕ) where
  pub sound-answer : sound_table kind table ≡ true → table_answer kind table ≡ Ok (count_terms kind table)
  unfolding sound_table table_answer place_answer
  sound-answer h =
      let p = both (sound_length kind (length table)) (eqb (first_broken kind table) 0) h in
      rw (p.0, eqb-true (first_broken kind table) 0 p.1)

  pub answer-sound : (n : ℕ) → table_answer kind table ≡ Ok n → (sound_table kind table ≡ true) × (n ≡ count_terms kind table)
  unfolding sound_table table_answer
  answer-sound n h =
      let p = sound-when (sound_length kind (length table)) (count_terms kind table) (first_broken kind table) n h in
      (rw p.0 (eq-eqb (first_broken kind table) 0 p.1), p.2)

  pub answer-length : table_answer kind table ≡ Err Length → sound_length kind (length table) ≡ false
  unfolding table_answer
  answer-length h = length-when (sound_length kind (length table)) (count_terms kind table) (first_broken kind table) h

  pub answer-broken : (k : ℕ) → table_answer kind table ≡ Err (Broken k) → (sound_length kind (length table) ≡ true) × (first_broken kind table ≡ k) × (0 < k)
  unfolding table_answer
  answer-broken k h = broken-when (sound_length kind (length table)) (count_terms kind table) (first_broken kind table) k h

  pub length-answer : sound_length kind (length table) ≡ false → table_answer kind table ≡ Err Length
  unfolding table_answer
  length-answer h = rw h

  -- a table of right length is answered with the place of its first broken term, and only with that
  pub first-answer : (k : ℕ) → sound_length kind (length table) ≡ true → First kind table k → table_answer kind table ≡ Err (Broken (k + 1))
  unfolding table_answer place_answer
  first-answer k h first = rw (h, first_place kind table k first, add-one)

  pub answer-first : (k : ℕ) → table_answer kind table ≡ Err (Broken (k + 1)) → First kind table k
  answer-first k h = place_first kind table k (answer-broken (k + 1) h).1

  pub sound-whole : sound_table kind table ≡ true → Whole kind (length table)
  unfolding sound_table
  sound-whole h = sound_length-whole kind (length table) (both (sound_length kind (length table)) (eqb (first_broken kind table) 0) h).0

  pub sound-below : sound_table kind table ≡ true → SoundBelow kind table (count_terms kind table)
  unfolding sound_table
  sound-below h = place_sound kind table (eqb-true (first_broken kind table) 0 (both (sound_length kind (length table)) (eqb (first_broken kind table) 0) h).1)

  -- its terms keep the rules of their fields
  fields-sound : sound_table kind table ≡ true → (k : ℕ) → k < count_terms kind table → sound_term kind (term_at kind table k) ≡ true
  unfolding sound_at
  fields-sound h k l = (both (sound_term kind (term_at kind table k)) _ (sound-below h k l)).0

  pub sound-bounds : sound_table kind table ≡ true → (k : ℕ) → k < count_terms kind table → Bounds (term_at kind table k)
  sound-bounds h k l = term_at-bounds kind table k (fields-sound h k l)

  -- those that both kinds share; and of either kind a factor stands exactly where there is an exponential
  pub sound-size : sound_table kind table ≡ true → (k : ℕ) → k < count_terms kind table → sound_size (term_at kind table k) ≡ true
  sound-size h k l = term_at-size kind table k (fields-sound h k l)

  pub sound-matched : sound_table kind table ≡ true → (k : ℕ) → k < count_terms kind table → matched (term_at kind table k) ≡ true
  sound-matched h k l = term_at-matched kind table k (fields-sound h k l)

  -- no spare bit of a sound table is set
  pub sound-spare : sound_table kind table ≡ true → (k : ℕ) → k < count_terms kind table → spare_at kind table k ≡ 0
  unfolding sound_at
  sound-spare h k l = eqb-true (spare_at kind table k) 0 (both (sound_term kind (term_at kind table k)) _ (sound-below h k l)).1

  pub sound-some : sound_table kind table ≡ true → 0 < count_terms kind table
  sound-some h = whole_some (sound-whole h)

  pub sound-few : sound_table kind table ≡ true → count_terms kind table ≤ 64
  sound-few h = whole_few (sound-whole h)

  -- each place of a sound table may be read
  pub sound-reach : sound_table kind table ≡ true → (k : ℕ) → k < count_terms kind table → (term_bytes kind * k + term_bytes kind ≤ length table) × (length table ≤ 768)
  sound-reach h k l = (within-bytes kind (length table) k l, whole_widest (sound-whole h))

-- what a nine-byte term keeps besides
pub sound-plain : (table : List ℕ) → sound_table 38 table ≡ true → (k : ℕ) → k < count_terms 38 table → Plain (term_at 38 table k)
sound-plain table h k l = term_at-old 38 table k (fields-sound 38 table h k l) (λ e. omega arith)
