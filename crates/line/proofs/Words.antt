-- The two words that name a width and the two that name a kind, and that no other does. Assumes nothing.
use Prim.Native.Nat.{ℕ}
use mathlib.Core.Path.{◌≡◌, refl, ap₂}
use mathlib.Core.Bool.{Bool, true, false, ◌&&◌, and-eq-true_iff}
use mathlib.Core.List.{List, [], ◌∷◌}
use native.Mathlib.Omega.{arith}
use lib.ListN.{length, get_or}
use lib.Dec.{eqb}
use borrow.Author.Tests.{eqb-true}
use Rattle.line.specs.Word.{spells, named, width_of, kind_of}

pub width-32 : width_of (51 ∷ 50 ∷ []) ≡ 32
unfolding named
width-32 = refl

pub width-53 : width_of (53 ∷ 51 ∷ []) ≡ 53
unfolding named
width-53 = refl

pub kind_38 : kind_of (51 ∷ 56 ∷ []) ≡ 38
unfolding named
kind_38 = refl

pub kind_58 : kind_of (53 ∷ 56 ∷ []) ≡ 58
unfolding named
kind_58 = refl

-- two bytes, and which
spelt : (word : List ℕ) (a b : ℕ) → length word ≡ 2 → get_or word 0 0 ≡ a → get_or word 1 0 ≡ b → word ≡ a ∷ b ∷ []
spelt [] a b l p q = absurd (omega (arith, l))
spelt (x ∷ []) a b l p q = absurd (omega (arith, l))
spelt (x ∷ y ∷ []) a b l p q = ap₂ (λ (i j : ℕ). i ∷ j ∷ []) p q
spelt (x ∷ y ∷ z ∷ rest) a b l p q = absurd (omega (arith, l))

pub spells-word : (word : List ℕ) (a b : ℕ) → spells word a b ≡ true → word ≡ a ∷ b ∷ []
spells-word word a b p =
    let s = (and-eq-true_iff (eqb (length word) 2) (eqb (get_or word 0 0) a && eqb (get_or word 1 0) b)).0 p in
    let t = (and-eq-true_iff (eqb (get_or word 0 0) a) (eqb (get_or word 1 0) b)).0 s.1 in
    spelt word a b (eqb-true _ 2 s.0) (eqb-true _ a t.0) (eqb-true _ b t.1)

-- any other word names nothing
named_none : (word : List ℕ) (a b first c d second : ℕ) → (word ≡ a ∷ b ∷ [] → ⊥) → (word ≡ c ∷ d ∷ [] → ⊥) → named word a b first c d second ≡ 0
unfolding named
named_none word a b first c d second n m = rw (other a b n, other c d m)
  where
    other : (a b : ℕ) → (word ≡ a ∷ b ∷ [] → ⊥) → spells word a b ≡ false
    other a b k = go (spells word a b) refl
      where
        go : (r : Bool) → spells word a b ≡ r → spells word a b ≡ false
        go true e = absurd (k (spells-word word a b e))
        go false e = e

pub width-none : (word : List ℕ) → (word ≡ 51 ∷ 50 ∷ [] → ⊥) → (word ≡ 53 ∷ 51 ∷ [] → ⊥) → width_of word ≡ 0
width-none word = named_none word 51 50 32 53 51 53

pub kind_none : (word : List ℕ) → (word ≡ 51 ∷ 56 ∷ [] → ⊥) → (word ≡ 53 ∷ 56 ∷ [] → ⊥) → kind_of word ≡ 0
kind_none word = named_none word 51 56 38 53 56 58
