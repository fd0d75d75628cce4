-- Sound terms, packed, are a sound table of their kind. Assumes nothing.
use Prim.Native.Nat.{ℕ, ◌+◌, ◌*◌, ◌%◌, ◌≤◌, ◌<◌}
use mathlib.Core.Path.{◌≡◌, refl}
use mathlib.Core.Bool.{true}
use mathlib.Core.List.{List, [], ◌∷◌, ◌++◌, append_assoc}
use native.Mathlib.Omega.{arith}
use borrow.Author.Tests.{le-leb, eq-eqb}
use lib.ListN.{length}
use Rattle.kind.specs.Kind.{term_bytes, longest}
use Rattle.kind.proofs.Either.{by_either}
use Rattle.term.specs.declared.Term.{Term}
use Rattle.term.specs.Bounds.{AllWithin}
use Rattle.term.specs.Tables.{pack_term, pack_table}
use Rattle.term.specs.Sound.{sound_term, sound_at, sound_length, broken_from, first_broken, sound_table}
use Rattle.term.proofs.Rules.{most_bytes}
use Rattle.term.proofs.Reading.{term_at-pack, spare_at-pack, pack_table-bytes, pack_table-length, pack_table-count, pack-next}

-- every term of a list keeps the rules
abbrev pub AllSound : ℕ → List Term → Type 0
AllSound kind [] = Unit {0}
AllSound kind (term ∷ rest) = (sound_term kind term ≡ true) × AllSound kind rest

module _ (kind : ℕ) where
  length_sound : (n : ℕ) → 0 < n → n ≤ 64 → sound_length kind (term_bytes kind * n) ≡ true
  unfolding sound_length
  length_sound n some few =
      let one : ℕ = term_bytes kind in
      let low : one ≤ one * n = by_either kind (λ b. b ≤ b * n) (omega arith) (omega arith) in
      let high : one * n ≤ 64 * one = by_either kind (λ b. b * n ≤ 64 * b) (omega arith) (omega arith) in
      let even : one * n % one ≡ 0 = by_either kind (λ b. b * n % b ≡ 0) (omega arith) (omega arith) in
      rw (le-leb one (one * n) low, le-leb (one * n) (longest kind) (omega (arith, most_bytes kind)), eq-eqb (one * n % one) 0 even)

  rest_sound : (before : List ℕ) (ts : List Term) (k : ℕ) → length before ≡ term_bytes kind * k → AllWithin kind ts → AllSound kind ts
      → broken_from kind (before ++ pack_table kind ts) k (length ts) ≡ 0
  unfolding pack_table broken_from sound_at
  rest_sound before [] k h fields sound = refl
  rest_sound before (t ∷ ts) k h fields sound =
      let later : broken_from kind (before ++ (pack_term kind t ++ pack_table kind ts)) (k + 1) (length ts) ≡ 0 =
      rw (← append_assoc before (pack_term kind t) (pack_table kind ts)) (rest_sound (before ++ pack_term kind t) ts (k + 1) (pack-next kind before t k h) fields.1 sound.1) in
      let small = pack_table-bytes kind ts in
      rw (term_at-pack kind before t (pack_table kind ts) k h small fields.0, spare_at-pack kind before t (pack_table kind ts) k h small fields.0, sound.0) later

  pub pack_table-sound : (ts : List Term) → AllWithin kind ts → AllSound kind ts → 0 < length ts → length ts ≤ 64 → sound_table kind (pack_table kind ts) ≡ true
  unfolding sound_table first_broken
  pack_table-sound ts fields sound some few =
      let none : 0 ≡ term_bytes kind * 0 = by_either kind (λ one. 0 ≡ one * 0) (omega arith) (omega arith) in
      rw (pack_table-count kind ts, pack_table-length kind ts, length_sound (length ts) some few, rest_sound [] ts 0 none fields sound)
