-- `range::above_pressure_limit` meets its contract: the literals are the limits of the kind. Assumes nothing.
use Prim.Native.Nat.{ℕ, ◌*◌, ◌^◌}
use mathlib.Core.Path.{◌≡◌, sym, ap, ◌∙◌}
use mathlib.Core.Bool.{not}
use lib.Ieee.{of_bits}
use Rattle.kind.proofs.Either.{by_long, by_plain}
use Rattle.exact.specs.Fraction.{nat, parts, leq}
use Rattle.doubles.specs.Double.{exact_of}
use Rattle.doubles.proofs.range.above_pressure_limit.Goals as goal

pub above-requires : goal.above-requires
unfolding of_bits
above-requires c = record { x_finite = c.requires; y_finite = tt }

pub above-requires-else-kind-eq58 : goal.above-requires-else-kind-eq58
unfolding of_bits
above-requires-else-kind-eq58 c = record { x_finite = c.requires; y_finite = tt }

pub returns-then-kind-eq58 : goal.returns-then-kind-eq58
unfolding of_bits exact_of nat parts leq
returns-then-kind-eq58 c =
    let a = c.args in
    let e : c.above.result ≡ not (leq (exact_of a.x) (nat (25 * 10 ^ 9))) = c.above.ensures in
    e ∙ ap (λ (n : ℕ). not (leq (exact_of a.x) (nat n))) (sym (by_long a.kind (10 ^ 9) (25 * 10 ^ 9) c.if-kind-eq58.true))

pub returns-else-kind-eq58 : goal.returns-else-kind-eq58
unfolding of_bits exact_of nat parts leq
returns-else-kind-eq58 c =
    let a = c.args in
    let e : c.above-else-kind-eq58.result ≡ not (leq (exact_of a.x) (nat (10 ^ 9))) = c.above-else-kind-eq58.ensures in
    e ∙ ap (λ (n : ℕ). not (leq (exact_of a.x) (nat n))) (sym (by_plain a.kind (10 ^ 9) (25 * 10 ^ 9) c.if-kind-eq58.false))
