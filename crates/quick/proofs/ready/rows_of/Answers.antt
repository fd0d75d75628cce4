-- `quick::ready::rows_of` meets its contract. Assumes nothing.
use mathlib.Core.Path.{◌∙◌}
use Prim.Native.Nat.{suc}
use native.Mathlib.Omega.{arith}
use lib.ListN.{length, get_or, length-set}
use Rattle.quick.specs.Unpacked.{blank}
use Rattle.quick.specs.Powers.{nothing}
use Rattle.quick.specs.Ready.{no_row, RowFor}
use Rattle.quick.proofs.Filled.{filled_more}
use Rattle.quick.proofs.Rowed.{row_for}
use Rattle.quick.proofs.ready.rows_of.Goals as goal

pub loop-i-preserved : goal.loop-i-preserved
loop-i-preserved c =
    let a = c.args in
    let l = c.loop-i in
    let most = c.requires.2 in
    let keys = c.keys_of-keys in
    let row =
    row_for (suc a.v) a.terms.now (length a.terms.now) c.requires.1 a.taus.now keys.result.same keys.result.like
    keys.ensures.0 keys.ensures.1 l.i (omega arith) _ _ c.first_like-same.ensures c.first_like-like.ensures c.row_of.ensures in (
      length-set l.rows l.i c.row_of.result ∙ l.invariant.0,
      filled_more no_row (RowFor (suc a.v) (λ k. get_or a.terms.now k blank) (λ t. get_or a.taus.now t nothing)) l.rows l.i c.row_of.result (omega (arith, l.invariant.0)) l.invariant.1 row,
    )
