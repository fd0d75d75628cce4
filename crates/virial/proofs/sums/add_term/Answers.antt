-- `virial::sums::add_term` meets its contract: the term's addend where the sum takes it, else nothing. Assumes nothing.
use mathlib.Core.Path.{refl, sym, ap, ◌∙◌}
use Prim.Native.Nat.{suc}
use Rattle.term.specs.declared.Term.{Term}
use Rattle.equation.proofs.Steps.{held-is, plus-of}
use Rattle.virial.specs.Sums.{with_term}
use Rattle.virial.proofs.Cases.{with_term-taken, with_term-left}
use Rattle.virial.proofs.Holds.{addend-held}
use Rattle.virial.proofs.sums.add_term.Goals as goal

pub addend-requires : goal.addend-requires
addend-requires g c = (c.kth-term.ensures.bounds, c.requires.tau_in.0)

pub sum-requires : goal.sum-requires
sum-requires g c =
    (c.requires.tau_in.1, held-is c.addend.ensures (addend-held c.args.tau c.requires.tau_in.0 _ c.kth-term.ensures.bounds))

pub returns-then-picks : goal.returns-then-picks
returns-then-picks g c =
    let a = c.args in
    plus-of _ refl c.addend.ensures c.sum.ensures
    ∙ with_term-taken (suc a.v) a.pick _ a.tau a.s (sym c.picks.ensures ∙ c.if-picks.true)
    ∙ ap (λ (x : Term). with_term (suc a.v) a.pick x a.tau a.s) c.kth-term.ensures.value

pub returns-else-picks : goal.returns-else-picks
returns-else-picks g c =
    let a = c.args in
    with_term-left (suc a.v) a.pick _ a.tau a.s (sym c.picks.ensures ∙ c.if-picks.false)
    ∙ ap (λ (x : Term). with_term (suc a.v) a.pick x a.tau a.s) c.kth-term.ensures.value
