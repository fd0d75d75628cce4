-- `sheet::place::cut` meets its contract: nothing goes up. Assumes nothing.
use mathlib.Core.Path.{ap, ◌∙◌}
use Prim.Native.Nat.{ℕ, ◌/◌, ◌^◌}
use native.Mathlib.Nat.{mul-one}
use native.Mathlib.Omega.{arith}
use Rattle.sheet.proofs.place.cut.Goals as goal

pub moved-requires : goal.moved-requires
moved-requires c =
    record { up = omega arith; down = c.requires.0; fits = omega arith; below = omega arith; whole = λ _. omega arith; room = omega arith }

pub returns : goal.returns
returns c =
    let k = c.args in
    let d = c.moved.ensures in
    record { digits = d.digits ∙ ap (λ (n : ℕ). n / 2 ^ k.t) (mul-one k.x.m); place = omega (arith, d.place); keeps = d.keeps }
