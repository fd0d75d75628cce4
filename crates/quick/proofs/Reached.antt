-- How far the powers of some terms go, with one term more. Assumes nothing.
use mathlib.Core.Path.{◌≡◌, subst}
use mathlib.Core.Logic.{inl, inr}
use mathlib.Core.List.{List}
use Prim.Native.Nat.{ℕ, ◌+◌, ◌≤◌, ◌<◌}
use native.Mathlib.Nat.{le_trans}
use native.Mathlib.Omega.{arith}
use lib.ListN.{get_or}
use Rattle.term.specs.declared.Term.{Term}
use Rattle.term.specs.Bounds.{Bounds}
use Rattle.quick.specs.declared.ready.Reach.{Reach}
use Rattle.quick.specs.Unpacked.{blank}
use Rattle.quick.specs.Ready.{Farther, Reaches}
use Rattle.quick.proofs.Filled.{over-or_less}

-- what holds of n terms below a bound, and of the next one, holds of n + 1
below : (f : ℕ → ℕ) (n old new : ℕ) → ((k : ℕ) → k < n → f k ≤ old) → old ≤ new → f n ≤ new → (k : ℕ) → k < n + 1 → f k ≤ new
below f n old new h o p k l =
    elim (over-or_less n k) [
      | inl over ↦ let is : n ≡ k = omega arith in subst (λ (m : ℕ). f m ≤ new) is p
      | inr less ↦ le_trans (h k less) o
    ]

pub reach_more : (list : List Term) (n : ℕ) {old new : Reach} → Reaches list n old → Bounds (get_or list n blank) → Farther old (get_or list n blank) new → Reaches list (n + 1) new
reach_more list n {old} {new} r b f =
    let c : (get_or list n blank).c ≤ 31 = let m = b.c_most in omega arith in
    record {
      t_reached = below (λ k. (get_or list k blank).t) n old.t new.t r.t_reached f.t_old f.t_new;
      d_reached = below (λ k. (get_or list k blank).d) n old.d new.d r.d_reached f.d_old f.d_new;
      c_reached = below (λ k. (get_or list k blank).c) n old.d new.d r.c_reached f.d_old f.c_new;
      t_most = f.t_least 63 r.t_most b.t_most;
      d_most = f.d_least 31 r.d_most b.d_most c;
    }
