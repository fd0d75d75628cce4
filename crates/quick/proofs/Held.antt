-- The answer that a reply holds is one. Assumes nothing.
use mathlib.Core.Path.{◌≡◌}
use Rattle.verdict.specs.Reading.{SheetAnswer, Answer}
use Rattle.quick.specs.declared.Reply.{Reply}
use Rattle.quick.specs.declared.Reply.TheVariants.{Sheet, Check}

pub sheet-held : {a b : SheetAnswer} → ◌≡◌ {A = Reply} (Sheet a) (Sheet b) → a ≡ b
sheet-held e = cc

pub check-held : {a b : Answer} → ◌≡◌ {A = Reply} (Check a) (Check b) → a ≡ b
check-held e = cc
