-- An answer's values in the order of the choices: the number of document 02, the line or place, and the bytes written. Assumes nothing.
use Rattle.std.specs.Prelude.{ℕ, List, [], ◌∷◌, Result, Ok, Err}
use Rattle.term.specs.declared.Fault.TheVariants.{Length, Broken}
use Rattle.text.specs.declared.ReadFault.{ReadFault}
use Rattle.text.specs.declared.ReadFault.TheVariants.{BadRow, NoRoom}
use Rattle.text.specs.declared.WriteFault.{WriteFault}
use Rattle.text.specs.declared.WriteFault.TheVariants.{Unsound, NoSpelling, TooLong}

unfoldable pub read_values : Result ℕ ReadFault → List ℕ
read_values (Ok n) = 0 ∷ 0 ∷ n ∷ []
read_values (Err (BadRow line)) = 16 ∷ line ∷ 0 ∷ []
read_values (Err NoRoom) = 18 ∷ 0 ∷ 0 ∷ []

unfoldable pub write_values : Result ℕ WriteFault → List ℕ
write_values (Ok n) = 0 ∷ 0 ∷ n ∷ []
write_values (Err (Unsound Length)) = 1 ∷ 0 ∷ 0 ∷ []
write_values (Err (Unsound (Broken place))) = 2 ∷ place ∷ 0 ∷ []
write_values (Err (NoSpelling place)) = 17 ∷ place ∷ 0 ∷ []
write_values (Err TooLong) = 18 ∷ 0 ∷ 0 ∷ []
