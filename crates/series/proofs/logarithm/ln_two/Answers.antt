-- `series::logarithm::ln_two` meets its contract: it is the series at 1/3. Assumes nothing.
use mathlib.Core.Path.{sym, ap, ◌∙◌, subst}
use Prim.Native.Nat.{suc}
use Rattle.series.specs.Logarithm.{ln_series, ln_two}
use Rattle.series.specs.Powers.{Argument}
use Rattle.series.proofs.Arguments.{third-argument}
use Rattle.series.proofs.logarithm.ln_two.Goals as goal

pub ln_series-requires : goal.ln_series-requires
ln_series-requires c = subst (Argument c.args.v) (sym c.given_ratio.ensures) (third-argument c.requires)

pub returns : goal.returns
unfolding ln_two
returns c = c.ln_series.ensures ∙ ap (ln_series (suc c.args.v)) c.given_ratio.ensures
