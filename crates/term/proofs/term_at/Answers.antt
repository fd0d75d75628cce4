-- `term::term_at` meets its contract, by the kind. Assumes nothing.
use mathlib.Core.Path.{refl, sym, ◌∙◌}
use Rattle.kind.proofs.Either.{by_long, by_plain}
use Rattle.term.proofs.Rules.{at_long, at_plain}
use Rattle.term.proofs.term_at.Goals as goal

pub long_at-requires : goal.long_at-requires
long_at-requires c = rw (by_long c.args.kind 9 12 c.if-kind-eq58.true) at c.requires

pub plain_at-requires : goal.plain_at-requires
plain_at-requires c = rw (by_plain c.args.kind 9 12 c.if-kind-eq58.false) at c.requires

pub returns-then-kind-eq58 : goal.returns-then-kind-eq58
returns-then-kind-eq58 c = (c.long_at.ensures ∙ sym (at_long _ _ _ c.if-kind-eq58.true), refl)

pub returns-else-kind-eq58 : goal.returns-else-kind-eq58
returns-else-kind-eq58 c = (c.plain_at.ensures ∙ sym (at_plain _ _ _ c.if-kind-eq58.false), refl)
