-- `range::accepts_density` meets its contract: the literals are the bounds of the kind. Assumes nothing.
use Prim.Native.Nat.{ℕ}
use mathlib.Core.Path.{◌≡◌, sym, ap, ◌∙◌}
use mathlib.Core.Bool.{false}
use lib.Ieee.{of_bits}
use Rattle.kind.proofs.Either.{by_long, by_plain}
use Rattle.exact.specs.Fraction.{nat, parts, leq}
use Rattle.doubles.specs.Double.{exact_of}
use Rattle.doubles.specs.Range.{within}
use Rattle.doubles.proofs.range.accepts_density.Goals as goal

pub lies_within-requires : goal.lies_within-requires
unfolding of_bits
lies_within-requires c = record { low_finite = tt; high_finite = tt }

pub lies_within-requires-else-kind-eq58 : goal.lies_within-requires-else-kind-eq58
unfolding of_bits
lies_within-requires-else-kind-eq58 c = record { low_finite = tt; high_finite = tt }

pub returns-then-kind-eq58 : goal.returns-then-kind-eq58
unfolding of_bits exact_of nat parts leq within
returns-then-kind-eq58 c =
    let a = c.args in
    let e : c.lies_within.result ≡ within (parts false 1 1024) (nat (2576)) a.rho = c.lies_within.ensures in
    e ∙ ap (λ (n : ℕ). within (parts false 1 1024) (nat (n)) a.rho) (sym (by_long a.kind (1288) (2576) c.if-kind-eq58.true))

pub returns-else-kind-eq58 : goal.returns-else-kind-eq58
unfolding of_bits exact_of nat parts leq within
returns-else-kind-eq58 c =
    let a = c.args in
    let e : c.lies_within-else-kind-eq58.result ≡ within (parts false 1 1024) (nat (1288)) a.rho = c.lies_within-else-kind-eq58.ensures in
    e ∙ ap (λ (n : ℕ). within (parts false 1 1024) (nat (n)) a.rho) (sym (by_plain a.kind (1288) (2576) c.if-kind-eq58.false))
