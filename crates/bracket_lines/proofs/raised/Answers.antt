-- `bracket_lines::raised` meets its contract: on the way every lower power is found in range. Assumes nothing.
use mathlib.Core.Path.{sym, ap, subst, ◌∙◌}
use Prim.Native.Nat.{ℕ, suc}
use native.Mathlib.Numerals.{add-one}
use native.Mathlib.Omega.{arith}
use borrow.Author.Count.{below_more}
use Rattle.bracket.specs.declared.Bracket.{Bracket}
use Rattle.bracket.specs.Rules.{ends, times, power}
use Rattle.bracket.specs.Held.{Held}
use Rattle.bracket.proofs.PowerSteps.{power_zero, power-suc}
use Rattle.bracket_lines.proofs.raised.Goals as goal

pub loop-k-init : goal.loop-k-init
loop-k-init c = (c.whole-p.ensures ∙ sym (power_zero (suc c.args.v) c.args.b), λ j l. absurd (omega arith))

pub loop-k-preserved : goal.loop-k-preserved
loop-k-preserved c =
    let v = c.args.v in
    let b = c.args.b in
    let l = c.loop-k in
    let h : Held v (power (suc v) b l.k) = subst (Held v) l.invariant.0 (c.held.ensures c.if-not-held.false) in
    let e = ap (λ (q : Bracket). times (suc v) (ends q) (ends b)) l.invariant.0 ∙ sym (power-suc (suc v) b l.k) ∙ ap (power (suc v) b) (sym (add-one l.k)) in
    (c.product-p.ensures ∙ e, below_more (λ (j : ℕ). Held v (power (suc v) b j)) l.k l.invariant.1 h)
