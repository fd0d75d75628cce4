-- `sheet::add::ordered` meets its contract, by the signs and the places. Assumes nothing.
use mathlib.Core.Path.{◌≡◌, refl}
use mathlib.Core.Bool.{Bool, true, false, not, beq, false≢true, true≢false}
use Prim.Native.Nat.{ℕ, ◌≤◌, ◌<◌}
use native.Mathlib.Omega.{arith}
use Rattle.sheet.proofs.Addends.{pair}
use Rattle.sheet.proofs.add.ordered.Goals as goal

same : (a b : Bool) → beq a b ≡ true → a ≡ b
same true true h = refl
same true false h = absurd (false≢true h)
same false true h = absurd (false≢true h)
same false false h = refl

other : (a b : Bool) → beq a b ≡ false → b ≡ not a
other true true h = absurd (true≢false h)
other true false h = refl
other false true h = refl
other false false h = absurd (true≢false h)

pub added-requires : goal.added-requires
added-requires c =
    (c.requires, same c.args.a.neg c.args.b.neg c.if-a-b.true)

pub level-requires : goal.level-requires
level-requires c =
    (c.requires, other c.args.a.neg c.args.b.neg c.if-a-b.false, c.if-a-b-2.true)

lower : (a b : ℕ) → (a ≡ b → ⊥) → b ≤ a → b < a
lower a b n h = omega arith

pub taken-requires : goal.taken-requires
taken-requires c =
    (c.requires, other c.args.a.neg c.args.b.neg c.if-a-b.false, lower c.args.a.e c.args.b.e c.if-a-b-2.false (pair c.args.v c.args.a c.args.b c.requires).place)
