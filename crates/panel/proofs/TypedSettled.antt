-- The calls on tables typed as text: what they hand back and what they leave in the buffer are settled, and each choice by itself. Assumes nothing.
use Prim.Native.Nat.{ℕ, ◌≤◌}
use mathlib.Core.Path.{◌≡◌, sym, ap, ◌∙◌}
use mathlib.Core.List.{List}
use lib.ListN.{get_or, get_or-eq_default}
use Rattle.std.specs.Prelude.{Result, Ok, Err}
use Rattle.term.specs.declared.Fault.TheVariants.{Length, Broken}
use Rattle.text.specs.declared.ReadFault.{ReadFault}
use Rattle.text.specs.declared.ReadFault.TheVariants.{BadRow, NoRoom}
use Rattle.text.specs.declared.WriteFault.{WriteFault}
use Rattle.text.specs.declared.WriteFault.TheVariants.{Unsound, NoSpelling, TooLong}
use Rattle.text.specs.Values.{read_values, write_values}
use Rattle.text.proofs.ReadSettled.{read_settled}
use Rattle.text.proofs.WriteSettled.{write_settled}
use Rattle.panel.specs.Typed.{ReadCalled, WriteCalled}

pub read_call_settled : (text before after after' : List ℕ) (choice r r' : ℕ) → ReadCalled text before after choice r → ReadCalled text before after' choice r'
    → (r ≡ r') × (after ≡ after')
read_call_settled text before after after' choice r r' p q =
    let same = read_settled text before after after' p.answer q.answer p.says q.says in
    (p.value ∙ ap (λ a. get_or (read_values a) choice 0) same.0 ∙ sym q.value, same.1)

pub write_call_settled : (table before after after' : List ℕ) (choice r r' : ℕ) → WriteCalled table before after choice r → WriteCalled table before after' choice r'
    → (r ≡ r') × (after ≡ after')
write_call_settled table before after after' choice r r' p q =
    let same = write_settled table before after after' p.answer q.answer p.says q.says in
    (p.value ∙ ap (λ a. get_or (write_values a) choice 0) same.0 ∙ sym q.value, same.1)

-- past the third value there is none
pub read_no-more : (answer : Result ℕ ReadFault) (choice : ℕ) → 3 ≤ choice → get_or (read_values answer) choice 0 ≡ 0
unfolding read_values
read_no-more (Ok n) choice h = get_or-eq_default (read_values (Ok n)) 0 h
read_no-more (Err (BadRow line)) choice h = get_or-eq_default (read_values (Err (BadRow line))) 0 h
read_no-more (Err NoRoom) choice h = get_or-eq_default (read_values (Err NoRoom)) 0 h

pub write_no_more : (answer : Result ℕ WriteFault) (choice : ℕ) → 3 ≤ choice → get_or (write_values answer) choice 0 ≡ 0
unfolding write_values
write_no_more (Ok n) choice h = get_or-eq_default (write_values (Ok n)) 0 h
write_no_more (Err (Unsound Length)) choice h = get_or-eq_default (write_values (Err (Unsound Length))) 0 h
write_no_more (Err (Unsound (Broken place))) choice h = get_or-eq_default (write_values (Err (Unsound (Broken place)))) 0 h
write_no_more (Err (NoSpelling place)) choice h = get_or-eq_default (write_values (Err (NoSpelling place))) 0 h
write_no_more (Err TooLong) choice h = get_or-eq_default (write_values (Err TooLong)) 0 h
