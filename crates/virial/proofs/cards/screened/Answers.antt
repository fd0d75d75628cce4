-- `virial::cards::screened` meets its contract. Assumes nothing.
use Rattle.std.proofs.lemmas.Result.{err_from_is_err_and}
use Rattle.std.specs.Prelude.{Ok}
use mathlib.Core.Path.{◌≡◌, sym, ◌∙◌, subst}
use mathlib.Core.List.{List}
use Prim.Native.Nat.{ℕ, suc}
use lib.Ieee.{Float}
use Rattle.doubles.specs.Double.{exact_of}
use Rattle.bracket.specs.declared.Bracket.{Bracket}
use Rattle.verdict.specs.Handed.{Handy}
use Rattle.verdict.specs.Rules.{handed_out}
use Rattle.verdict.proofs.Order.{all_pass, fails-at}
use Rattle.verdict.proofs.Tests.{holds, passed, failed}
use Rattle.verdict.proofs.EitherWidth.{width_of}
use Rattle.virial.proofs.Numbers.{refused_numbers}
use Rattle.virial.specs.declared.Coefficients.{Coefficients}
use Rattle.virial.specs.declared.Card.{Card}
use Rattle.virial.specs.Rules.{coefficients, pressure_of}
use Rattle.virial.specs.Ranged.{CoefficientsIn}
use Rattle.virial.specs.Answers.{card_inputs, card_accepted}
use Rattle.virial.proofs.Wider.{temperature_wider, density_wider}
use Rattle.virial.proofs.Doubled.{coefficients-ready, second_handy, third-handy, pressure-handy}
use Rattle.virial.proofs.cards.screened.Goals as goal

-- the card by the results of calls
card-is : (w : ℕ) (table : List ℕ) (t rho : Float) {x : Coefficients} {p : Bracket} {r : Card} → x ≡ coefficients w table (exact_of t)
    → p ≡ pressure_of w (exact_of t) (exact_of rho) x → r ≡ record { second = handed_out x.second; third = handed_out x.third; pressure = handed_out p } → Ok r ≡ card_accepted w table t rho
card-is w table t rho i j e = cc

pub returns-in_err-unless : goal.returns-in_err-unless
returns-in_err-unless c =
    let p = err_from_is_err_and c.from_residual.result c.from_residual.ensures.1 in
    rw (p.1, p.2, c.in_err-unless.ensures.1)
    (record { value = sym (fails-at 0 _ _ (failed c.takes_temperature.ensures c.in_err-unless.ensures.0)); card_numbers = refused_numbers })

pub returns-in_err-unless-2 : goal.returns-in_err-unless-2
returns-in_err-unless-2 c =
    let p = err_from_is_err_and c.from_residual-in_err-unless-2.result c.from_residual-in_err-unless-2.ensures.1 in
    rw (p.1, p.2, c.in_err-unless-2.ensures.1)
    (record {
      value = sym (fails-at 1 _ _ (passed c.takes_temperature.ensures c.in_ok-unless.ensures, failed c.takes_density.ensures c.in_err-unless-2.ensures.0));
      card_numbers = refused_numbers;
    })

pub coefficients_of-x-requires : goal.coefficients_of-x-requires
coefficients_of-x-requires c =
    (c.requires, temperature_wider _ (holds (passed c.takes_temperature.ensures c.in_ok-unless.ensures)))

pub pressure_of-pressure-requires : goal.pressure_of-pressure-requires
pressure_of-pressure-requires c =
    let hot = holds (passed c.takes_temperature.ensures c.in_ok-unless.ensures) in
    let thin = holds (passed c.takes_density.ensures c.in_ok-unless-2.ensures) in
    let s = c.args.setting in
    let good = rw c.requires at s.table.sound in
    ((temperature_wider _ hot, density_wider _ thin), subst (CoefficientsIn _) (sym c.coefficients_of-x.ensures) (coefficients-ready (width_of _ s.width_sound) _ good _ hot))

pub worked-requires : goal.worked-requires
worked-requires c =
    let hot = holds (passed c.takes_temperature.ensures c.in_ok-unless.ensures) in
    let thin = holds (passed c.takes_density.ensures c.in_ok-unless-2.ensures) in
    let s = c.args.setting in
    let v = width_of _ s.width_sound in
    let good = rw c.requires at s.table.sound in
    let state = c.args.state in
    let x = c.coefficients_of-x.ensures in (
      subst (λ (k : Coefficients). Handy k.second) (sym x) (second_handy v _ good _ hot),
      subst (λ (k : Coefficients). Handy k.third) (sym x) (third-handy v _ good _ hot),
      subst Handy (sym c.pressure_of-pressure.ensures)
          (subst (λ (k : Coefficients). Handy (pressure_of (suc s.v) (exact_of state.temperature) (exact_of state.density) k)) (sym x) (pressure-handy v _ good _ hot _ thin)),
    )

pub returns : goal.returns
returns c =
    let s = c.args.setting in
    let state = c.args.state in record {
      value = card-is (suc s.v) s.table.bytes.now state.temperature state.density c.coefficients_of-x.ensures c.pressure_of-pressure.ensures c.worked.ensures.value
          ∙ sym (all_pass (card_inputs state.temperature state.density) _ (passed c.takes_temperature.ensures c.in_ok-unless.ensures, (passed c.takes_density.ensures c.in_ok-unless-2.ensures, tt)));
      card_numbers = c.worked.ensures.card_numbers;
    }
