-- `virial::polynomial::coefficients_of` meets its contract. Assumes nothing.
use mathlib.Core.Path.{◌≡◌, sym, subst}
use Prim.Native.Nat.{ℕ, suc}
use lib.Dec.{T}
use lib.Ieee.{Float}
use Rattle.kind.specs.Kind.{widest}
use Rattle.doubles.specs.Double.{exact_of}
use Rattle.doubles.specs.Range.{accepted_temperature}
use Rattle.bracket.specs.declared.Bracket.{Bracket}
use Rattle.equation.specs.Ranged.{TauIn}
use Rattle.equation.specs.Rules.{tau}
use Rattle.equation.proofs.Holds.{tau-in}
use Rattle.equation.proofs.Taken.{temperature_of}
use Rattle.term.specs.Packed.{term_at, count_terms}
use Rattle.verdict.specs.declared.settings.Setting.{Setting}
use Rattle.verdict.proofs.EitherWidth.{width_of}
use Rattle.virial.specs.declared.Pick.{Pick}
use Rattle.virial.specs.declared.Pick.TheVariants.{First, Second, FirstDamped}
use Rattle.virial.specs.Sums.{sum_first}
use Rattle.virial.specs.Ranged.{SumIn}
use Rattle.virial.proofs.Cases.{coefficients-is}
use Rattle.virial.proofs.Holds.{sum_in}
use Rattle.virial.proofs.polynomial.coefficients_of.Goals as goal

-- tau is in range
ranged : (s : Setting) (t : Float) → T (accepted_temperature widest t) → {b : Bracket} → b ≡ tau (suc s.v) (exact_of t) → TauIn s.v b
ranged s t hot e = subst (TauIn s.v) (sym e) (tau-in (width_of _ s.width_sound) (temperature_of t hot))

-- a sum over the setting's table
summed : (s : Setting) (pick : Pick) {τ x : Bracket} → TauIn s.v τ → x ≡ sum_first (suc s.v) pick (term_at s.table.kind s.table.bytes.now) τ (count_terms s.table.kind s.table.bytes.now) → SumIn s.v x
summed s pick {τ} q e = subst (SumIn s.v) (sym e) (sum_in τ q pick s.table.kind s.table.bytes.now s.table.sound)

-- its kind is 38
of_38 : (s : Setting) → s.table.kind ≡ 38 → (pick : Pick) (τ : Bracket) {x : Bracket} → x ≡ sum_first (suc s.v) pick (term_at s.table.kind s.table.bytes.now) τ (count_terms s.table.kind s.table.bytes.now)
    → x ≡ sum_first (suc s.v) pick (term_at 38 s.table.bytes.now) τ (count_terms 38 s.table.bytes.now)
of_38 s is pick τ {x} e = subst (λ (k : ℕ). x ≡ sum_first (suc s.v) pick (term_at k s.table.bytes.now) τ (count_terms k s.table.bytes.now)) is e

pub tau-tau-requires : goal.tau-tau-requires
tau-tau-requires c = (width_of _ c.args.setting.width_sound, c.requires.1)

pub sum_over-first-requires : goal.sum_over-first-requires
sum_over-first-requires c = record { tau_in = ranged c.args.setting c.args.t c.requires.1 c.tau-tau.ensures; kind = c.requires.0 }

pub sum_over-second-requires : goal.sum_over-second-requires
sum_over-second-requires c = record { tau_in = ranged c.args.setting c.args.t c.requires.1 c.tau-tau.ensures; kind = c.requires.0 }

pub sum_over-damped-requires : goal.sum_over-damped-requires
sum_over-damped-requires c = record { tau_in = ranged c.args.setting c.args.t c.requires.1 c.tau-tau.ensures; kind = c.requires.0 }

pub second_of-requires : goal.second_of-requires
second_of-requires c =
    let s = c.args.setting in
    summed s First (ranged s c.args.t c.requires.1 c.tau-tau.ensures) c.sum_over-first.ensures

pub third_of-requires : goal.third_of-requires
third_of-requires c =
    let s = c.args.setting in
    let q = ranged s c.args.t c.requires.1 c.tau-tau.ensures in
    (summed s Second q c.sum_over-second.ensures, summed s FirstDamped q c.sum_over-damped.ensures)

pub returns : goal.returns
returns c =
    let s = c.args.setting in
    let is = c.requires.0 in
    let τ = c.tau-tau.result in
    coefficients-is (suc s.v) s.table.bytes.now (exact_of c.args.t) c.tau-tau.ensures
    (of_38 s is First τ c.sum_over-first.ensures) (of_38 s is Second τ c.sum_over-second.ensures) (of_38 s is FirstDamped τ c.sum_over-damped.ensures)
    c.second_of.ensures c.third_of.ensures
