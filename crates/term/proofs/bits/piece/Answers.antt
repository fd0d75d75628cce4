-- `term::bits::piece` meets its contract: the bits are some of the byte that holds them. Assumes nothing.
use native.Mathlib.Omega.{arith}
use mathlib.Core.Path.{sym, ◌∙◌}
use Rattle.term.proofs.Fields.{field_piece}
use Rattle.term.proofs.bits.piece.Goals as goal

pub returns : goal.returns
returns c =
    let a = c.args in
    let pre = c.requires in
    c.from.ensures ∙ sym (field_piece a.bytes.now a.place a.n (λ i. omega (arith, c.type_inv.bytes i)) pre.0 pre.2)
