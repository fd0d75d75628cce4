-- What the reader's functions cite: a power read, and bytes that stand at a place or do not. Assumes nothing.
use Prim.Native.Nat.{ℕ, zero, suc, ◌+◌, ◌-◌, ◌^◌, ◌≤◌, ◌<◌}
use native.Mathlib.Nat.{pow-zero, pow-suc, pow-le-pow_right}
use native.Mathlib.Omega.{arith}
use mathlib.Core.Path.{◌≡◌, sym, ap, ◌∙◌}
use mathlib.Core.Bool.{Bool, false≢true}
use mathlib.Core.List.{List, ◌++◌}
use borrow.Author.Tests.{eq-eqb, ne_eqb}
use lib.ListN.{length, get_or, drop, take, length-append, length-drop}
use lib.Seq.{get_or-drop, drop-drop}
use lib.Dec.{eqb}
use Rattle.std.specs.Cmp.Lexicographic.{pointwise}
use Rattle.std.proofs.lemmas.Slice.Eq.{starts_is}
use Rattle.std.proofs.lemmas.Bool.Decides.{Decides-eqb}
use Rattle.row.specs.Standing.{Stands}
use Rattle.row.specs.Guess.{figure, number_of, power_of}

module _ (s : List ℕ) (at b f : ℕ) (byte : b ≡ get_or s (at + 1) 0) where
  pub power-minus : b ≡ 45 → f ≡ figure (get_or s (at + 2) 0) → power_of (drop at s) ≡ 6 - f
  unfolding power_of
  power-minus h e = rw (get_or-drop at s 1 0, get_or-drop at s 2 0, ← byte, eq-eqb b 45 h, ← e)

  pub power-plain : (b ≡ 45 → ⊥) → f ≡ figure (get_or s (at + 1) 0) → power_of (drop at s) ≡ 6 + f
  unfolding power_of
  power-plain h e = rw (get_or-drop at s 1 0, get_or-drop at s 2 0, e, ← byte, ne_eqb b 45 h)

figure-below : (b : ℕ) → figure b < 10
unfolding figure
figure-below b = omega arith

pub number-below : (s : List ℕ) (k : ℕ) → number_of s k < 10 ^ k
unfolding number_of
number-below s zero = omega (arith, pow-zero 10)
number-below s (suc k) = rw pow-suc (omega (arith, number-below s k, figure-below (get_or s k 0)))

-- less than ten digits leave room for one more
pub number-few : (s : List ℕ) (k : ℕ) → k < 10 → number_of s k < 10 ^ 9
number-few s k h = omega (arith, number-below s k, pow-le-pow_right {n = 10} (omega arith) {i = k} {j = 9} (omega arith))

-- bytes with which the text behind a place begins, or not
pub stands_when : (s bytes : List ℕ) (at : ℕ) (r : Bool) → at ≤ length s → r ≡ pointwise eqb bytes (take (length bytes) (drop at s)) → Stands s at bytes r
stands_when s bytes at r h e =
    let is = starts_is Decides-eqb (drop at s) bytes r e in
    record {
      yes = λ y.
          let here : drop at s ≡ bytes ++ drop (at + length bytes) s = is.0 y ∙ ap (λ x. bytes ++ x) (drop-drop (length bytes) at s) in
          (here, omega (arith, length-drop at s, ap length (is.0 y), length-append bytes (drop (length bytes) (drop at s))));
      no = λ n rest k. false≢true (sym n ∙ is.1 rest k);
    }
