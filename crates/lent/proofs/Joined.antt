-- One text put after another is the two in a row. Assumes nothing.
use Prim.Native.Nat.{ℕ, suc, ◌+◌}
use native.Mathlib.Nat.{add-zero, add-suc, suc-add, add_assoc}
use mathlib.Core.Path.{◌≡◌, refl, sym, ap, subst, ◌∙◌}
use mathlib.Core.List.{List, [], ◌∷◌, ◌++◌}
use lib.ListN.{length, set, length-append}
use lib.Seq.{sets}
use Rattle.lent.specs.Put.{Put}

pub sets_append : (xs ys l : List ℕ) (i : ℕ) → sets (sets l i xs) (i + length xs) ys ≡ sets l i (xs ++ ys)
sets_append [] ys l i = rw add-zero
sets_append (x ∷ xs) ys l i = rw (add-suc, ← suc-add) (sets_append xs ys (set l i x) (suc i))

-- nothing put
pub put_none : (l : List ℕ) (i : ℕ) {xs : List ℕ} → xs ≡ [] → Put l i xs l i
put_none l i e = rw e (record { bytes = refl; reached = sym (add-zero i) })

pub put_same : {l m : List ℕ} {i j : ℕ} {xs ys : List ℕ} → xs ≡ ys → Put l i xs m j → Put l i ys m j
put_same {l} {m} {i} {j} e p = subst (λ a. Put l i a m j) e p

pub put_then : {l m n : List ℕ} {i j k : ℕ} {xs ys : List ℕ} → Put l i xs m j → Put m j ys n k → Put l i (xs ++ ys) n k
put_then {l} {m} {n} {i} {j} {k} {xs} {ys} p q =
    record {
      bytes = q.bytes ∙ ap (λ a. sets a j ys) p.bytes ∙ ap (λ a. sets (sets l i xs) a ys) p.reached ∙ sets_append xs ys l i;
      reached = q.reached ∙ ap (λ a. a + length ys) p.reached ∙ add_assoc i (length xs) (length ys) ∙ ap (λ a. i + a) (sym (length-append xs ys));
    }
