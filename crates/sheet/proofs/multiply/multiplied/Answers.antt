-- `sheet::multiply::multiplied` meets its contract. Assumes nothing.
use mathlib.Core.Path.{sym, subst}
use mathlib.Core.Bool.{false}
use Prim.Native.Nat.{ℕ, ◌*◌}
use Rattle.sheet.specs.Steps.{CutBy}
use Rattle.sheet.proofs.Products.{wider, below_at}
use Rattle.sheet.proofs.multiply.multiplied.Goals as goal

pub word-requires : goal.word-requires
word-requires c =
    let h = c.requires in
    (below_at 31 c.if-v-eq31.true h.1, below_at 31 c.if-v-eq31.true h.2)

pub halves-requires : goal.halves-requires
halves-requires c =
    let h = c.requires in
    let e = wider h.0 c.if-v-eq31.false in
    (below_at 52 e h.1, below_at 52 e h.2)

pub returns-then-v-eq31 : goal.returns-then-v-eq31
returns-then-v-eq31 c =
    let k = c.args in
    subst (λ (v : ℕ). CutBy v (record { m = k.am * k.bm; sticky = false; e = 0 }) c.word.result) (sym c.if-v-eq31.true) c.word.ensures

pub returns-else-v-eq31 : goal.returns-else-v-eq31
returns-else-v-eq31 c =
    let k = c.args in
    subst (λ (v : ℕ). CutBy v (record { m = k.am * k.bm; sticky = false; e = 0 }) c.halves.result) (sym (wider c.requires.0 c.if-v-eq31.false)) c.halves.ensures
