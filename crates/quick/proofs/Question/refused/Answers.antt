-- `quick::Question::refused` meets its contract. Assumes nothing.
use mathlib.Core.Path.{sym, ap}
use Rattle.verdict.proofs.HandedOut.{zeros-numbers}
use Rattle.quick.specs.Lent.{refused_reply}
use Rattle.quick.proofs.Question.refused.Goals as goal

pub returns-in-Sheet : goal.returns-in-Sheet
unfolding refused_reply
returns-in-Sheet c = record { value = ap (refused_reply _) (sym c.in-Sheet.is); reply_numbers = (zeros-numbers, zeros-numbers) }

pub returns-in-Density : goal.returns-in-Density
unfolding refused_reply
returns-in-Density c = record { value = ap (refused_reply _) (sym c.in-Density.is); reply_numbers = zeros-numbers }

pub returns-in-Pair : goal.returns-in-Pair
unfolding refused_reply
returns-in-Pair c = record { value = ap (refused_reply _) (sym c.in-Pair.is); reply_numbers = zeros-numbers }
