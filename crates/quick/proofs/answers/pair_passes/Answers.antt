-- `quick::answers::pair_passes` meets its contract. Assumes nothing.
use mathlib.Core.Path.{◌≡◌, sym, ◌∙◌}
use mathlib.Core.Bool.{true, true≢false, ◌&&◌}
use Rattle.doubles.specs.Range.{accepted_density}
use Rattle.verdict.proofs.Tests.{both, holds, passed, density_finite}
use Rattle.quick.proofs.answers.pair_passes.Goals.{then-accepts_pair_temperature, else-accepts_pair_temperature}
use Rattle.quick.proofs.answers.pair_passes.Goals as goal

pub on_sides-requires : goal.on_sides-requires
on_sides-requires c =
    let a = c.args in
    let passes : (accepted_density a.kind a.liquid.density && accepted_density a.kind a.vapour) ≡ true =
    elim c.if-accepts_pair_temperature.branch [
      | then-accepts_pair_temperature w ↦ passed w.accepts_densities.ensures (sym w.value-is ∙ c.if-accepts_densities.true)
      | else-accepts_pair_temperature w ↦ absurd (true≢false (sym c.if-accepts_densities.true ∙ w.value-is ∙ w.if-accepts_pair_temperature.false))
    ] in
    let d = both (accepted_density a.kind a.liquid.density) (accepted_density a.kind a.vapour) passes in
    (density_finite a.kind a.liquid.density (holds d.0), density_finite a.kind a.vapour (holds d.1))
