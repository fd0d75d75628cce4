-- What `lent::deliver` cites: a front is a piece at place 0. Assumes nothing.
use Prim.Native.Nat.{ℕ, ◌≤◌}
use native.Mathlib.Nat.{zero-add}
use native.Mathlib.Omega.{arith}
use mathlib.Core.Path.{ap, ◌∙◌}
use mathlib.Core.Bool.{true, true≢false}
use mathlib.Core.List.{List, ◌++◌}
use lib.ListN.{length, drop}
use lib.Seq.{sets-eq}
use Rattle.lent.specs.Put.{Put}
use Rattle.lent.specs.Front.{Front, Delivered}

pub put_front : {before text after : List ℕ} {next : ℕ} → Put before 0 text after next → length text ≤ length before → Front before text after
put_front {before} {text} {after} p h =
    record {
      room = h;
      bytes = p.bytes ∙ sets-eq text before 0 (omega arith) ∙ ap (λ k. text ++ drop k before) (zero-add (length text));
    }

-- all of a front, where it has room
pub delivered_all : {before from after : List ℕ} {next : ℕ} → length from ≤ length before → Put before 0 from after next → Delivered before from after true
delivered_all room p = record { yes = λ _. put_front p room; no = λ k. absurd (true≢false k) }
