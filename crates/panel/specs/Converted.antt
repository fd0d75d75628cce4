-- What the calls that convert a table hand back (02 h): the value that stands at the choice, and 0 where the answer has none. Assumes nothing.
use Rattle.std.specs.Prelude.{ℕ, ◌≡◌, List, get_or, Result}
use Rattle.convert.specs.declared.ConvertFault.{ConvertFault}
use Rattle.convert.specs.Converts.{Says}
use Rattle.convert.specs.Values.{converted_values}

-- there is one answer that keeps the promise of the library's call (`settled` in `convert`), and this is a value of it
pub record ConvertCalled (from to : ℕ) (table before after : List ℕ) (choice r : ℕ) : Type 0 where
  pub answer : Result ℕ ConvertFault
  pub says : Says from to table before after answer
  pub value : r ≡ get_or (converted_values answer) choice 0
