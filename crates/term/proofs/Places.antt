-- How the place of the first broken term goes on from one term to the next. Assumes nothing.
use Prim.Native.Nat.{ℕ, suc, ◌+◌, ◌-◌, ◌≤◌, ◌<◌}
use mathlib.Core.Path.{◌≡◌}
use mathlib.Core.List.{List}
use mathlib.Core.Bool.{true, false}
use native.Mathlib.Omega.{arith}
use Rattle.term.specs.Sound.{sound_at, broken_from}

-- the place of the first broken term of those from the k-th up to the n-th, which is left out
abbrev pub broken_between : ℕ → List ℕ → ℕ → ℕ → ℕ
broken_between kind table k n = broken_from kind table k (n - k)

module _ (kind : ℕ) (table : List ℕ) (k n : ℕ) where
  pub broken_none : n ≤ k → broken_between kind table k n ≡ 0
  unfolding broken_from
  broken_none h =
      let e : n - k ≡ 0 = omega arith in
      rw e

  pub broken_here : k < n → sound_at kind table k ≡ false → broken_between kind table k n ≡ k + 1
  unfolding broken_from
  broken_here h s =
      let e : n - k ≡ suc (n - (k + 1)) = omega arith in
      rw (e, s)

  pub broken_later : k < n → sound_at kind table k ≡ true → broken_between kind table k n ≡ broken_between kind table (k + 1) n
  unfolding broken_from
  broken_later h s =
      let e : n - k ≡ suc (n - (k + 1)) = omega arith in
      rw (e, s)
