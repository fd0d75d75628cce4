-- A list whose front is filled place by place: one place more. Assumes nothing.
use mathlib.Core.Path.{◌≡◌, sym, subst}
use mathlib.Core.Logic.{◌⊎◌, inl, inr}
use mathlib.Core.List.{List}
use Prim.Native.Nat.{ℕ, ◌+◌, ◌≤◌, ◌<◌}
use native.Mathlib.Decide.{dec_le}
use native.Mathlib.Omega.{arith}
use lib.ListN.{length, set, get_or}
use lib.Seq.{get_or-set_same, get_or-set_other}
use Rattle.quick.specs.Filled.{Filled}

pub over-or_less : (n k : ℕ) → (n ≤ k) ⊎ (k < n)
over-or_less n k = elim (dec_le n k) [ yes h ↦ inl h | no f ↦ inr (omega arith) ]

module _ {A : Type 0} (other : A) (P : ℕ → A → Type 0) where
  pub filled_none : (list : List A) → Filled other P list 0
  filled_none list k h = absurd (omega arith)

  pub filled_more : (list : List A) (n : ℕ) (x : A) → n < length list → Filled other P list n → P n x → Filled other P (set list n x) (n + 1)
  filled_more list n x h f p k l =
      elim (over-or_less n k) [
        | inl over ↦
            let is : n ≡ k = omega arith in
            subst (λ (m : ℕ). P m (get_or (set list n x) m other)) is (subst (P n) (sym (get_or-set_same list n x other h)) p)
        | inr less ↦ subst (P k) (sym (get_or-set_other list n k x other (λ e. omega arith))) (f k less)
      ]
