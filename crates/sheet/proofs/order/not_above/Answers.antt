-- `sheet::order::not_above` meets its contract. Assumes nothing.
use Rattle.sheet.proofs.Compare.{by_place, same_place}
use Rattle.sheet.proofs.order.not_above.Goals as goal

pub returns-then-ae-be : goal.returns-then-ae-be
returns-then-ae-be c =
    let a = c.args in
    rw c.if-ae-be.true (same_place a.am a.bm a.be)

pub returns-else-ae-be : goal.returns-else-ae-be
returns-else-ae-be c =
    let a = c.args in
    by_place c.requires.v a.am a.ae a.bm a.be c.requires.first c.requires.second c.if-ae-be.false
