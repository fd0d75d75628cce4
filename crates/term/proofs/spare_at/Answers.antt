-- `term::spare_at` meets its contract, by the kind. Assumes nothing.
use mathlib.Core.Path.{sym, ◌∙◌}
use Rattle.kind.proofs.Either.{by_long}
use Rattle.term.proofs.Rules.{spare_long, spare_plain}
use Rattle.term.proofs.spare_at.Goals as goal

pub spare_bits-requires : goal.spare_bits-requires
spare_bits-requires c = rw (by_long c.args.kind 9 12 c.if-kind-eq58.true) at c.requires

pub returns-then-kind-eq58 : goal.returns-then-kind-eq58
returns-then-kind-eq58 c = c.spare_bits.ensures ∙ sym (spare_long _ _ _ c.if-kind-eq58.true)

pub returns-else-kind-eq58 : goal.returns-else-kind-eq58
returns-else-kind-eq58 c = sym (spare_plain _ _ _ c.if-kind-eq58.false)
