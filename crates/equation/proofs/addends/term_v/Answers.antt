-- `equation::addends::term_v` meets its contract. Assumes nothing.
use Rattle.equation.specs.Rules.{term_v}
use Rattle.equation.specs.Value.{value_by}
use Rattle.equation.proofs.Holds.{delta-powers, tau-powers, term-valued}
use Rattle.equation.proofs.addends.term_v.Goals as goal

pub power-delta-requires : goal.power-delta-requires
power-delta-requires c = let h = c.requires in delta-powers c.args.x.delta h.1.delta c.args.term.d h.0.d_most

pub power-tau-requires : goal.power-tau-requires
power-tau-requires c = let h = c.requires in tau-powers c.args.x.tau h.1.tau c.args.term.t h.0.t_most

pub value-requires : goal.value-requires
value-requires c =
    let a = c.args in
    let h = c.requires in
    rw (c.coefficient-coefficient.ensures, c.power-delta.ensures, c.power-tau.ensures) (term-valued a.x.delta a.x.tau h.1.delta h.1.tau a.term h.0 h.2)

pub returns : goal.returns
unfolding term_v value_by
returns c =
    rw (← c.coefficient-coefficient.ensures, ← c.power-delta.ensures, ← c.power-tau.ensures) c.value.ensures
