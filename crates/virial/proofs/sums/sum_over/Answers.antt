-- `virial::sums::sum_over` meets its contract: after i turns the sum is that over the first i terms. Assumes nothing.
use mathlib.Core.Path.{◌≡◌, ap, ◌∙◌}
use Prim.Native.Nat.{ℕ, suc}
use native.Mathlib.Omega.{arith}
use Rattle.term.specs.Packed.{term_at, count_terms}
use Rattle.bracket.specs.declared.Bracket.{Bracket}
use Rattle.equation.proofs.Steps.{held-is}
use Rattle.virial.specs.Sums.{with_term, sum_first}
use Rattle.virial.proofs.Cases.{sum_first-none, sum_first-more}
use Rattle.virial.proofs.Holds.{first_held}
use Rattle.virial.proofs.sums.sum_over.Goals as goal

pub whole-s-requires : goal.whole-s-requires
whole-s-requires g c = (c.requires.tau_in.held.lo.width, omega arith)

pub loop-i-init : goal.loop-i-init
loop-i-init g c =
    let a = c.args in
    c.whole-s.ensures ∙ sum_first-none (suc a.v) a.pick (term_at a.table.kind a.table.bytes.now) a.tau

pub add_term-s-requires-clause-tau_in : goal.add_term-s-requires-clause-tau_in
add_term-s-requires-clause-tau_in g c =
    let a = c.args in
    (c.requires.tau_in, held-is c.loop-i.invariant (first_held a.tau c.requires.tau_in a.pick a.table.kind a.table.bytes.now a.table.sound c.loop-i.i (omega arith)))

pub loop-i-preserved : goal.loop-i-preserved
loop-i-preserved g c =
    let a = c.args in
    let terms = term_at a.table.kind a.table.bytes.now in
    let i = c.loop-i.i in
    c.add_term-s.ensures ∙ ap (λ (x : Bracket). with_term (suc a.v) a.pick (terms i) a.tau x) c.loop-i.invariant ∙ sum_first-more (suc a.v) a.pick terms a.tau i

pub returns : goal.returns
returns g c =
    let a = c.args in
    let i : c.loop-i.i ≡ count_terms a.table.kind a.table.bytes.now = omega arith in
    c.loop-i.invariant ∙ ap (λ (k : ℕ). sum_first (suc a.v) a.pick (term_at a.table.kind a.table.bytes.now) a.tau k) i
