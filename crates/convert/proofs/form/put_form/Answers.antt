-- `convert::form::put_form` meets its contract, by the kind. Assumes nothing.
use native.Mathlib.Omega.{arith}
use borrow.Author.Tests.{eq-eqb, ne_eqb}
use Rattle.kind.proofs.Either.{by_long, by_plain}
use Rattle.term.specs.Tables.{pack_term}
use Rattle.convert.proofs.form.put_form.Goals as goal

pub put_long-requires : goal.put_long-requires
put_long-requires c =
    let e = c.if-to-eq58.true in
    (omega (arith, c.requires.0, by_long c.args.to 9 12 e), c.requires.1.long e)

pub put_term-requires : goal.put_term-requires
put_term-requires c =
    let n = c.if-to-eq58.false in
    (omega (arith, c.requires.0, by_plain c.args.to 9 12 n), c.requires.1.plain n)

pub returns-then-to-eq58 : goal.returns-then-to-eq58
unfolding pack_term
returns-then-to-eq58 c =
    rw (eq-eqb c.args.to 58 c.if-to-eq58.true) c.put_long.ensures

pub returns-else-to-eq58 : goal.returns-else-to-eq58
unfolding pack_term
returns-else-to-eq58 c =
    rw (ne_eqb c.args.to 58 c.if-to-eq58.false) c.put_term.ensures
