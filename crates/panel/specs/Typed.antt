-- What the calls on tables typed as text hand back (02 c): the value that stands at the choice, and 0 where the answer has none. Assumes nothing.
use Rattle.std.specs.Prelude.{ℕ, ◌≡◌, List, get_or, Result}
use Rattle.text.specs.declared.ReadFault.{ReadFault}
use Rattle.text.specs.declared.WriteFault.{WriteFault}
use Rattle.text.specs.Reads.{ReadSays}
use Rattle.text.specs.Writes.{WriteSays}
use Rattle.text.specs.Values.{read_values, write_values}

-- there is one answer that keeps the promise of the library's call (`read_settled` in `text`), and this is a value of it
pub record ReadCalled (text before after : List ℕ) (choice r : ℕ) : Type 0 where
  pub answer : Result ℕ ReadFault
  pub says : ReadSays text before after answer
  pub value : r ≡ get_or (read_values answer) choice 0

pub record WriteCalled (table before after : List ℕ) (choice r : ℕ) : Type 0 where
  pub answer : Result ℕ WriteFault
  pub says : WriteSays table before after answer
  pub value : r ≡ get_or (write_values answer) choice 0
