-- `series::exponential::only_stretches` meets its contract: where all its tests hold, they are what the law of the rest asks for. Assumes nothing.
use mathlib.Core.Path.{sym, subst}
use mathlib.Core.Bool.{false}
use native.Mathlib.Omega.{arith}
use Rattle.sheet.specs.Number.{Spelled}
use Rattle.sheet.proofs.Laws.{round_spelled}
use Rattle.sheet.proofs.Live.{place_room, range_spelled}
use Rattle.series.proofs.ExponentialSteps.{term-held, stretches_is}
use Rattle.series.proofs.exponential.only_stretches.Goals as goal

pub overflow_add-term : goal.overflow_add-term
overflow_add-term c = let p = c.requires in omega (arith, place_room (term-held p.0.lo.width p.1 (omega arith) p.3).hi, p.0.lo.width.high)

pub overflow_add-term-2 : goal.overflow_add-term-2
overflow_add-term-2 c = let p = c.requires in omega (arith, place_room (term-held p.0.lo.width p.1 (omega arith) p.3).hi, p.0.lo.width.high)

pub at_most-requires : goal.at_most-requires
at_most-requires c =
    let v = c.args.v in
    record { v = v; first = range_spelled c.requires.0.hi; second = subst (Spelled v) (sym c.whole.ensures) (round_spelled false v _) }

pub returns-then-x-ne0 : goal.returns-then-x-ne0
returns-then-x-ne0 c =
    let p = c.requires in
    let t = c.if-x-ne0.true in
    stretches_is p.0 p.1 p.2 p.3 (omega (arith, t.0)) t.1 c.whole.ensures c.at_most.ensures
