-- The calls that convert a table: what they hand back and what they leave in the buffer are settled, and past the third value there is none.
-- Assumes nothing.
use Prim.Native.Nat.{ℕ, ◌≤◌}
use mathlib.Core.Path.{◌≡◌, sym, ap, ◌∙◌}
use mathlib.Core.List.{List}
use lib.ListN.{get_or, get_or-eq_default}
use Rattle.std.specs.Prelude.{Result, Ok, Err}
use Rattle.term.specs.declared.Fault.TheVariants.{Length, Broken}
use Rattle.convert.specs.declared.ConvertFault.{ConvertFault}
use Rattle.convert.specs.declared.ConvertFault.TheVariants.{Unsound, NoOldForm, NoRoom}
use Rattle.convert.specs.Values.{converted_values}
use Rattle.convert.proofs.Settled.{settled}
use Rattle.panel.specs.Converted.{ConvertCalled}

pub convert_call_settled : (from to : ℕ) (table before after after' : List ℕ) (choice r r' : ℕ) → ConvertCalled from to table before after choice r
    → ConvertCalled from to table before after' choice r' → (r ≡ r') × (after ≡ after')
convert_call_settled from to table before after after' choice r r' p q =
    let same = settled from to table before after after' p.answer q.answer p.says q.says in
    (p.value ∙ ap (λ a. get_or (converted_values a) choice 0) same.0 ∙ sym q.value, same.1)

pub convert_no_more : (answer : Result ℕ ConvertFault) (choice : ℕ) → 3 ≤ choice → get_or (converted_values answer) choice 0 ≡ 0
unfolding converted_values
convert_no_more (Ok n) choice h = get_or-eq_default (converted_values (Ok n)) 0 h
convert_no_more (Err (Unsound Length)) choice h = get_or-eq_default (converted_values (Err (Unsound Length))) 0 h
convert_no_more (Err (Unsound (Broken place))) choice h = get_or-eq_default (converted_values (Err (Unsound (Broken place)))) 0 h
convert_no_more (Err (NoOldForm place)) choice h = get_or-eq_default (converted_values (Err (NoOldForm place))) 0 h
convert_no_more (Err NoRoom) choice h = get_or-eq_default (converted_values (Err NoRoom)) 0 h
