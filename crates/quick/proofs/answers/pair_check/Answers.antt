-- `quick::answers::pair_check` meets its contract. Assumes nothing.
use mathlib.Core.Path.{◌∙◌}
use Rattle.exact.proofs.Fraction.Order.{≺→≼, ≺-trans}
use Rattle.verdict.proofs.Tests.{passed, holds, sides, above-triple_point, tolerance_finite}
use Rattle.quick.proofs.Passing.{pair-passed, pair_parts}
use Rattle.quick.proofs.answers.pair_check.Goals as goal

pub pair_worked-requires : goal.pair_worked-requires
pair_worked-requires c =
    let x = pair_parts _ _ _ _ _ _ (passed c.pair_passes.ensures c.if-not-pair_passes.false) in
    let apart = sides _ _ x.apart in
    record {
      temperature = above-triple_point _ _ x.hot;
      liquid_density = holds x.dense;
      vapour_density = holds x.thin;
      pressure-tolerance = tolerance_finite _ (holds x.near);
      gibbs-tolerance = tolerance_finite _ (holds x.close);
      above = ≺→≼ (≺-trans apart.1 apart.0);
    }

pub returns : goal.returns
returns c =
    let x = pair_parts _ _ _ _ _ _ (passed c.pair_passes.ensures c.if-not-pair_passes.false) in
    record { value = c.pair_worked.ensures.value ∙ pair-passed _ _ _ _ _ _ _ _ x.hot x.dense x.thin x.near x.close x.apart; answer_numbers = c.pair_worked.ensures.answer_numbers }
