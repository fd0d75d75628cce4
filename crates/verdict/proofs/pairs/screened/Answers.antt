-- `verdict::pairs::screened` meets its contract. Assumes nothing.
use Rattle.std.proofs.lemmas.Result.{err_from_is_err_and}
use mathlib.Core.Path.{sym, ◌∙◌}
use Rattle.exact.proofs.Fraction.Order.{≺→≼, ≺-trans}
use Rattle.doubles.specs.Range.{accepted_density, accepted_tolerance}
use Rattle.verdict.proofs.Order.{on_pass, fails-at}
use Rattle.verdict.proofs.Tests.{both, holds, passed, failed, above-triple_point, sides, density_finite, tolerance_finite}
use Rattle.verdict.proofs.HandedOut.{zeros-numbers}
use Rattle.verdict.proofs.pairs.screened.Goals as goal

pub returns-in_err-unless : goal.returns-in_err-unless
returns-in_err-unless c =
    let p = err_from_is_err_and c.from_residual.result c.from_residual.ensures.1 in
    rw (p.1, p.2, c.in_err-unless.ensures.1) (record { value = sym (fails-at 0 _ _ (failed c.accepts_pair_temperature.ensures c.in_err-unless.ensures.0)); answer_numbers = zeros-numbers })

pub returns-in_err-unless-2 : goal.returns-in_err-unless-2
returns-in_err-unless-2 c =
    let p = err_from_is_err_and c.from_residual-in_err-unless-2.result c.from_residual-in_err-unless-2.ensures.1 in
    rw (p.1, p.2, c.in_err-unless-2.ensures.1) (record { value = sym (fails-at 1 _ _ (passed c.accepts_pair_temperature.ensures c.in_ok-unless.ensures, failed c.accepts_densities.ensures c.in_err-unless-2.ensures.0)); answer_numbers = zeros-numbers })

pub returns-in_err-unless-3 : goal.returns-in_err-unless-3
returns-in_err-unless-3 c =
    let p = err_from_is_err_and c.from_residual-in_err-unless-3.result c.from_residual-in_err-unless-3.ensures.1 in
    rw (p.1, p.2, c.in_err-unless-3.ensures.1) (record { value = sym (fails-at 2 _ _ (passed c.accepts_pair_temperature.ensures c.in_ok-unless.ensures, (passed c.accepts_densities.ensures c.in_ok-unless-2.ensures, failed c.accepts_tolerances.ensures c.in_err-unless-3.ensures.0))); answer_numbers = zeros-numbers })

pub on_sides-requires : goal.on_sides-requires
on_sides-requires c =
    let a = c.args in
    let kind = a.setting.table.kind in
    let d = both (accepted_density kind a.liquid.density) (accepted_density kind a.vapour) (passed c.accepts_densities.ensures c.in_ok-unless-2.ensures) in
    (density_finite kind a.liquid.density (holds d.0), density_finite kind a.vapour (holds d.1))

pub returns-in_err-unless-4 : goal.returns-in_err-unless-4
returns-in_err-unless-4 c =
    let p = err_from_is_err_and c.from_residual-in_err-unless-4.result c.from_residual-in_err-unless-4.ensures.1 in
    rw (p.1, p.2, c.in_err-unless-4.ensures.1) (record { value = sym (fails-at 3 _ _ (passed c.accepts_pair_temperature.ensures c.in_ok-unless.ensures, (passed c.accepts_densities.ensures c.in_ok-unless-2.ensures, (passed c.accepts_tolerances.ensures c.in_ok-unless-3.ensures, failed c.on_sides.ensures c.in_err-unless-4.ensures.0)))); answer_numbers = zeros-numbers })

pub worked-requires : goal.worked-requires
worked-requires c =
    let a = c.args in
    let kind = a.setting.table.kind in
    let d = both (accepted_density kind a.liquid.density) (accepted_density kind a.vapour) (passed c.accepts_densities.ensures c.in_ok-unless-2.ensures) in
    let near = both (accepted_tolerance a.tolerances.pressure) (accepted_tolerance a.tolerances.gibbs) (passed c.accepts_tolerances.ensures c.in_ok-unless-3.ensures) in
    let apart = sides a.liquid.density a.vapour (passed c.on_sides.ensures c.in_ok-unless-4.ensures) in
    record {
      temperature = above-triple_point kind a.liquid.temperature (passed c.accepts_pair_temperature.ensures c.in_ok-unless.ensures);
      liquid_density = holds d.0;
      vapour_density = holds d.1;
      pressure-tolerance = tolerance_finite a.tolerances.pressure (holds near.0);
      gibbs-tolerance = tolerance_finite a.tolerances.gibbs (holds near.1);
      above = ≺→≼ (≺-trans apart.1 apart.0);
    }

pub returns : goal.returns
returns c = record {
  value = c.worked.ensures.value
      ∙ sym
      (on_pass _ _ _ (passed c.accepts_pair_temperature.ensures c.in_ok-unless.ensures)
      ∙ on_pass _ _ _ (passed c.accepts_densities.ensures c.in_ok-unless-2.ensures)
      ∙ on_pass _ _ _ (passed c.accepts_tolerances.ensures c.in_ok-unless-3.ensures)
      ∙ on_pass _ _ _ (passed c.on_sides.ensures c.in_ok-unless-4.ensures));
  answer_numbers = c.worked.ensures.answer_numbers;
}
