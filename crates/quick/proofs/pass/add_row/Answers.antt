-- `quick::pass::add_row` meets its contract. Assumes nothing.
use mathlib.Core.Path.{◌≡◌, refl, sym, ap, subst, ◌∙◌}
use Prim.Native.Nat.{suc}
use Rattle.equation.specs.declared.Sums.{Sums}
use Rattle.equation.specs.Ranged.{AllHeld}
use Rattle.equation.specs.Rules.{plus_each}
use Rattle.equation.proofs.Steps.{held-is, times-of}
use Rattle.quick.specs.Kept.{addends_by}
use Rattle.quick.proofs.pass.add_row.Goals.{After-product-a2}
use Rattle.quick.proofs.pass.add_row.Goals as goal

pub product-a1-requires : goal.product-a1-requires
unfolding addends_by
product-a1-requires c =
    let p = c.requires.0 in
    (held-is c.value-a0.ensures p.addends_held.s0, p.w_held)

pub product-a2-requires : goal.product-a2-requires
unfolding addends_by
product-a2-requires c =
    let p = c.requires.0 in
    (held-is c.value-a0.ensures p.addends_held.s0, p.factor_held)

-- the addends are the rule's, and held
abbrev made : After-product-a2 → Sums
made c = record { s0 = c.value-a0.result; s1 = c.product-a1.result; s2 = c.product-a2.result }

is : (c : After-product-a2)
    → made c ≡ addends_by (suc c.args.v) c.args.row.coefficient c.args.delta c.args.row.tau c.args.e c.args.w c.args.factor
unfolding addends_by
is c =
    let v = c.value-a0.ensures in
    let s1 = times-of _ v refl c.product-a1.ensures in
    let s2 = times-of _ v refl c.product-a2.ensures in
    λ i. record { s0 = v i; s1 = s1 i; s2 = s2 i }

held : (c : After-product-a2) → AllHeld c.args.v (made c)
held c = subst (AllHeld _) (sym (is c)) c.requires.0.addends_held

pub sum-s0-requires : goal.sum-s0-requires
sum-s0-requires c = (c.requires.1.s0, (held c.before).s0)

pub sum-s1-requires : goal.sum-s1-requires
sum-s1-requires c = (c.requires.1.s1, (held c.before.before.before).s1)

pub sum-s2-requires : goal.sum-s2-requires
sum-s2-requires c =
    (c.requires.1.s2, (held c.before.before.before.before.before).s2)

pub returns : goal.returns
unfolding plus_each
returns c =
    (λ i. record { s0 = c.sum-s0.ensures i; s1 = c.sum-s1.ensures i; s2 = c.sum-s2.ensures i })
    ∙ ap (plus_each _ _) (is c.before.before.before.before.before.before)
