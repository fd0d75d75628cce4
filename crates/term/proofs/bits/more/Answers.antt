-- `term::bits::more` meets its contract: the value moves up with no bit lost, and the bits behind it fit. Assumes nothing.
use native.Mathlib.Omega.{arith}
use mathlib.Core.Path.{◌≡◌, sym, ap, ◌∙◌}
use Prim.Native.Nat.{ℕ, ◌+◌, ◌-◌, ◌*◌, ◌^◌}
use lib.Arith.{digits_lt}
use lib.Pow.{pow-add, shl_exact}
use Rattle.term.proofs.Fields.{field_below}
use Rattle.term.proofs.bits.more.Goals as goal

pub returns-then-n-eq0 : goal.returns-then-n-eq0
returns-then-n-eq0 c =
    let a = c.args in
    let none : a.n ≡ 0 = omega arith in
    rw none (omega (arith, field_below a.bytes.now a.place 0))

pub overflow_add-result : goal.overflow_add-result
overflow_add-result c =
    let a = c.args in
    let room = c.requires.2 in
    let all : 64 - a.n + a.n ≡ 64 = omega arith in
    let full : 2 ^ (64 - a.n) * 2 ^ a.n ≡ 2 ^ 64 = sym (pow-add 2 (64 - a.n) a.n) ∙ ap (λ (k : ℕ). 2 ^ k) all in
    omega (arith, shl_exact (64 - a.n) a.n 64 room (omega arith), digits_lt room (field_below a.bytes.now a.place a.n))

pub returns : goal.returns
returns c =
    let n = c.args.n in
    omega (arith, shl_exact (64 - n) n 64 c.requires.2 (omega arith))
