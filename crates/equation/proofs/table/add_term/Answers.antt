-- `equation::table::add_term` meets its contract. Assumes nothing.
use mathlib.Core.Path.{sym, subst}
use Rattle.equation.specs.Ranged.{AllHeld}
use Rattle.equation.proofs.HoldsSums.{addends_held}
use Rattle.equation.proofs.table.add_term.Goals as goal

pub plus_each-requires : goal.plus_each-requires
plus_each-requires c =
    let a = c.args in
    let h = c.requires.reduced_in in
    (h.1, subst (AllHeld a.v) (sym c.addends-a.ensures) (addends_held c.at.result a.x.delta a.x.tau c.at.ensures.bounds h.0.delta h.0.tau))
