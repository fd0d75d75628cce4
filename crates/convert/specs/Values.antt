-- An answer's values in the order of the choices: the number of document 02, the place, and the bytes written. Assumes nothing.
use Rattle.std.specs.Prelude.{ℕ, List, [], ◌∷◌, Result, Ok, Err}
use Rattle.term.specs.declared.Fault.TheVariants.{Length, Broken}
use Rattle.convert.specs.declared.ConvertFault.{ConvertFault}
use Rattle.convert.specs.declared.ConvertFault.TheVariants.{Unsound, NoOldForm, NoRoom}

unfoldable pub converted_values : Result ℕ ConvertFault → List ℕ
converted_values (Ok n) = 0 ∷ 0 ∷ n ∷ []
converted_values (Err (Unsound Length)) = 1 ∷ 0 ∷ 0 ∷ []
converted_values (Err (Unsound (Broken place))) = 2 ∷ place ∷ 0 ∷ []
converted_values (Err (NoOldForm place)) = 22 ∷ place ∷ 0 ∷ []
converted_values (Err NoRoom) = 18 ∷ 0 ∷ 0 ∷ []
