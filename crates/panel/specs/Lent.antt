-- What the calls that are lent a slice of terms hand back (02 e): the value that stands at the choice, and 0 where the reply has none. Assumes
-- nothing.
use Rattle.std.specs.Prelude.{ℕ, ◌≡◌, List, [], ◌∷◌, get_or}
use Rattle.term.specs.declared.Term.{Term}
use Rattle.quick.specs.declared.Question.{Question}
use Rattle.quick.specs.declared.Reply.{Reply}
use Rattle.quick.specs.declared.Reply.TheVariants.{Short, Sheet, Check}
use Rattle.quick.specs.Lent.{Stated}
use Rattle.panel.specs.Chosen.{chosen, sheet_chosen}

-- a slice that is too short has a number and nothing else
abbrev pub reply_chosen : Reply → ℕ → ℕ
reply_chosen Short choice = get_or (20 ∷ []) choice 0
reply_chosen (Sheet answer) choice = sheet_chosen answer choice
reply_chosen (Check answer) choice = chosen answer choice

-- there is one reply that keeps the promise of the library's call, and this is a value of it
pub record LentCalled (w kind : ℕ) (table : List ℕ) (before after : List Term) (asked : Question) (choice r : ℕ) : Type 0 where
  pub reply : Reply
  pub stated : Stated w kind table before after asked reply
  pub value : r ≡ reply_chosen reply choice
