-- `quick::answers::density_check` meets its contract. Assumes nothing.
use mathlib.Core.Path.{◌∙◌}
use Rattle.verdict.proofs.Tests.{passed, holds}
use Rattle.quick.proofs.Passing.{density_passed, density_parts}
use Rattle.quick.proofs.answers.density_check.Goals as goal

pub density_worked-requires : goal.density_worked-requires
density_worked-requires c =
    let d = density_parts _ _ _ _ _ (passed c.density_passes.ensures c.if-not-density_passes.false) in
    (record { temperature = holds d.0; density = holds d.1 }, (holds d.2, holds d.3))

pub returns : goal.returns
returns c =
    let d = density_parts _ _ _ _ _ (passed c.density_passes.ensures c.if-not-density_passes.false) in
    record { value = c.density_worked.ensures.value ∙ density_passed _ _ _ _ _ _ _ d.0 d.1 d.2 d.3; answer_numbers = c.density_worked.ensures.answer_numbers }
