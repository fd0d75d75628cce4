-- What a buffer holds once a front is written: its length is kept, and as many bytes as the front has are the front, there and where
-- they are delivered. Assumes nothing.
use Prim.Native.Nat.{ℕ}
use native.Mathlib.Omega.{arith}
use mathlib.Core.Path.{◌≡◌, sym, ap, subst, ◌∙◌}
use mathlib.Core.Bool.{Bool}
use mathlib.Core.List.{List}
use lib.ListN.{length, drop, take, length-append, length-drop}
use lib.Seq.{take_at}
use Rattle.lent.specs.Front.{Front, Delivered}

module _ {before front after : List ℕ} (f : Front before front after) where
  pub front_kept : length after ≡ length before
  front_kept = ap length f.bytes ∙ length-append front (drop (length front) before) ∙ omega (arith, length-drop (length front) before, f.room)

  pub front-taken : (n : ℕ) → length front ≡ n → take n after ≡ front
  front-taken n e = ap (take n) f.bytes ∙ take_at front (drop (length front) before) n e

  -- a front that is delivered from one buffer into another
  pub front-passed_on : {n : ℕ} {out out' : List ℕ} {answer : Bool} → n ≡ length front → Delivered out (take n after) out' answer → Delivered out front out' answer
  front-passed_on {n} {out} {out'} {answer} e d = subst (λ x. Delivered out x out' answer) (front-taken n (sym e)) d
