-- `sheet::divide::shared` meets its contract. Assumes nothing.
use mathlib.Core.Path.{sym, subst}
use Prim.Native.Nat.{ℕ, suc, ◌*◌, ◌^◌}
use native.Mathlib.Omega.{arith}
use lib.Pow.{pow_pos}
use Rattle.sheet.specs.Steps.{Quotes}
use Rattle.sheet.proofs.Products.{wider, digits-at}
use Rattle.sheet.proofs.divide.shared.Goals as goal

pub overflow_mul-am : goal.overflow_mul-am
overflow_mul-am c = omega (arith, (digits-at 31 c.if-v-eq31.true c.requires.1).high)

pub parted-requires : goal.parted-requires
parted-requires c = omega (arith, c.requires.2.low, pow_pos c.args.v)

pub long-requires : goal.long-requires
long-requires c =
    let h = c.requires in
    let e = wider h.0 c.if-v-eq31.false in
    (digits-at 52 e h.1, digits-at 52 e h.2)

pub returns-then-v-eq31 : goal.returns-then-v-eq31
returns-then-v-eq31 c =
    let k = c.args in
    subst (λ (v : ℕ). Quotes (k.am * 2 ^ suc v) k.bm c.parted.result) (sym c.if-v-eq31.true) c.parted.ensures.quotes

pub returns-else-v-eq31 : goal.returns-else-v-eq31
returns-else-v-eq31 c =
    let k = c.args in
    subst (λ (v : ℕ). Quotes (k.am * 2 ^ suc v) k.bm c.long.result) (sym (wider c.requires.0 c.if-v-eq31.false)) c.long.ensures
