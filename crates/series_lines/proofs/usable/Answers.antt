-- `series_lines::usable` meets its contract: the tests say the range, the sign and the size. Assumes nothing.
use mathlib.Core.Path.{◌∙◌}
use native.Mathlib.Omega.{arith}
use borrow.Author.Tests.{eqb-true, ltb-true}
use Rattle.sheet.proofs.Live.{one_shl}
use Rattle.series_lines.proofs.Ends.{nothing, under, exactly}
use Rattle.series_lines.proofs.usable.Goals as goal

pub returns-then-m-eq0 : goal.returns-then-m-eq0
returns-then-m-eq0 c t = nothing (c.usable.ensures c.if-not-usable.false) c.if-s.false c.if-m-eq0.true

pub returns-then-e-v : goal.returns-then-e-v
returns-then-e-v c t =
    let w = c.requires.high in
    let i = eqb-true c.args.s.m _ t ∙ one_shl c.requires in
    exactly (c.usable.ensures c.if-not-usable.false) c.if-s.false c.if-m-eq0.false (omega arith) c.if-e-v.true i

pub returns-then-v-e : goal.returns-then-v-e
returns-then-v-e c t =
    let h = ltb-true c.args.s.e _ t in
    under (c.usable.ensures c.if-not-usable.false) c.if-s.false c.if-m-eq0.false c.if-v-e.true h
