-- `words::above_zero` meets its contract: no sign, and some digits. Assumes nothing.
use borrow.Author.Tests.{ltb-true}
use Rattle.std.proofs.lemmas.Bool.{not-true}
use Rattle.sheet.proofs.Operations.{digits-pos}
use Rattle.words.proofs.above_zero.Goals as goal

pub returns-then-not-s : goal.returns-then-not-s
returns-then-not-s c h = let s = c.args.s in digits-pos s (not-true s.neg c.if-not-s.true) (ltb-true 0 s.m h)
