-- `quick::ready::made_ready` meets its contract. Assumes nothing.
use mathlib.Core.Path.{refl, sym, subst}
use Prim.Native.Nat.{suc}
use native.Mathlib.Omega.{arith}
use lib.ListN.{length-take}
use Rattle.term.proofs.Answers.{sound-few}
use Rattle.equation.specs.Ranged.{TauIn}
use Rattle.equation.proofs.Holds.{tau-in, tau-powers}
use Rattle.equation.proofs.Taken.{temperature_of}
use Rattle.quick.proofs.Listed.{held_terms, terms-length, terms-bounds}
use Rattle.quick.proofs.Rowed.{ready_for}
use Rattle.quick.proofs.ready.made_ready.Goals as goal

pub shared_ref_as_front-terms : goal.shared_ref_as_front-terms
shared_ref_as_front-terms c = omega (arith, c.count.ensures, sound-few _ _ c.args.table.sound)

pub slice_bounds-terms-end : goal.slice_bounds-terms-end
slice_bounds-terms-end c =
    let few = sound-few _ _ c.args.table.sound in
    let n = c.count.ensures in
    simp length-take (omega arith)

pub reach_of-far-requires : goal.reach_of-far-requires
reach_of-far-requires c =
    let a = c.args in
    terms-bounds a.table.kind a.table.bytes.now (held_terms a.table.kind a.table.bytes.now c.count.ensures c.requires.holds) a.table.sound

pub tau-requires : goal.tau-requires
tau-requires c = (c.requires.width, c.requires.t_accepted)

pub powers-taus-requires : goal.powers-taus-requires
powers-taus-requires c =
    let r = c.reach_of-far.ensures in
    let q = subst (TauIn c.args.v) (sym c.tau.ensures) (tau-in c.requires.width (temperature_of c.args.t c.requires.t_accepted)) in
    (tau-powers _ q _ r.t_most, r.t_most)

pub rows_of-rows-requires : goal.rows_of-rows-requires
rows_of-rows-requires c =
    let a = c.args in
    let e = held_terms a.table.kind a.table.bytes.now c.count.ensures c.requires.holds in
    (c.requires.width, terms-bounds a.table.kind a.table.bytes.now e a.table.sound, omega (arith, terms-length a.table.kind a.table.bytes.now e, sound-few a.table.kind a.table.bytes.now a.table.sound))

pub returns : goal.returns
returns c =
    let a = c.args in
    let e = held_terms a.table.kind a.table.bytes.now c.count.ensures c.requires.holds in
    (ready_for (suc a.v) a.table.kind a.table.bytes.now c.args.t e c.reach_of-far.result c.reach_of-far.ensures c.tau.ensures c.powers-taus.result c.powers-taus.ensures c.rows_of-rows.ensures, refl)
