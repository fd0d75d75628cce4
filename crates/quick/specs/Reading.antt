-- How a reply is read: the number, the place and the ends; 20 is document 02's, e, and the others are the plain engine's. Assumes nothing.
use Rattle.std.specs.Prelude.{ℕ}
use Rattle.verdict.specs.Reading.{AnswerNumbers, SheetNumbers, number, sheet_number}
use Rattle.quick.specs.declared.Reply.{Reply}
use Rattle.quick.specs.declared.Reply.TheVariants.{Short, Sheet, Check}

abbrev pub reply_number : Reply → ℕ
reply_number Short = 20
reply_number (Sheet answer) = sheet_number answer
reply_number (Check answer) = number answer

-- which question a reply answers
abbrev pub IsSheet : Reply → Type 0
IsSheet Short = ⊥
IsSheet (Sheet answer) = Unit {0}
IsSheet (Check answer) = ⊥

abbrev pub IsCheck : Reply → Type 0
IsCheck Short = ⊥
IsCheck (Sheet answer) = ⊥
IsCheck (Check answer) = Unit {0}

-- no end is a NaN
abbrev pub ReplyNumbers : Reply → Type 0
ReplyNumbers Short = Unit {0}
ReplyNumbers (Sheet answer) = SheetNumbers answer
ReplyNumbers (Check answer) = AnswerNumbers answer
