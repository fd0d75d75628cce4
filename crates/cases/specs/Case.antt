-- A proved case: what a rule gives, and what document 01 prints for it. Assumes nothing.
use Rattle.std.specs.Prelude.{◌≡◌, List, [], ◌∷◌}
use Rattle.bracket.specs.declared.Bracket.{Bracket}
use Rattle.term.specs.declared.Term.{Term}

pub data Case : Type 0 where
  bracket_is : (rule printed : Bracket) → Case
  term_is : (rule printed : Term) → Case

abbrev pub Holds : Case → Type 0
Holds (bracket_is rule printed) = rule ≡ printed
Holds (term_is rule printed) = rule ≡ printed

abbrev pub AllHold : List Case → Type 0
AllHold [] = Unit {0}
AllHold (one ∷ rest) = Holds one × AllHold rest
