-- `sheet::given::ratio` meets its contract: one division serves both directions. Assumes nothing.
use mathlib.Core.Path.{sym, ◌∙◌, subst}
use mathlib.Core.Bool.{true, false}
use Prim.Native.Nat.{ℕ, ◌*◌, ◌^◌}
use Rattle.sheet.specs.Number.{bias}
use Rattle.sheet.specs.Steps.{Dividing}
use Rattle.sheet.proofs.Live.{bias-is}
use Rattle.sheet.proofs.Divisions.{division_place}
use Rattle.sheet.proofs.Operations.{ratio_is, ratio_zero}
use Rattle.sheet.proofs.given.ratio.Goals as goal

pub returns-then-num-eq0 : goal.returns-then-num-eq0
returns-then-num-eq0 c =
    let k = c.args in
    let z = c.if-num-eq0.true in
    (sym (ratio_zero false k.v k.neg k.num k.den z), sym (ratio_zero true k.v k.neg k.num k.den z))

pub returns : goal.returns
returns c =
    let k = c.args in
    let x = c.long_division-x in
    let d = subst (λ (i : ℕ). Dividing k.num k.den i x.result) (sym bias-is) x.ensures.found in
    let at = division_place k.num k.den bias x.result d in (
      c.rounded.ensures (k.num * 2 ^ bias) k.den at ∙ sym (ratio_is false k.v k.neg k.num k.den c.requires.1),
      c.rounded-2.ensures (k.num * 2 ^ bias) k.den at ∙ sym (ratio_is true k.v k.neg k.num k.den c.requires.1),
    )
