-- Converting: exactly when each answer is given, and with which bytes; so two answers that keep the promise are equal, and so are the buffers.
-- Assumes nothing.
use Prim.Native.Nat.{ℕ, ◌≤◌, ◌<◌}
use native.Mathlib.Omega.{arith}
use mathlib.Core.Path.{◌≡◌, refl, sym, ap, ◌∙◌}
use mathlib.Core.Bool.{Bool, true, false, false≢true}
use mathlib.Core.List.{List, ◌++◌}
use borrow.Author.Tests.{ltb-true, ltb-false}
use lib.Dec.{ltb}
use lib.ListN.{length, drop}
use Rattle.std.specs.Prelude.{Result, Ok, Err}
use Rattle.term.specs.declared.Fault.{Fault}
use Rattle.term.specs.declared.Fault.TheVariants.{Length, Broken}
use Rattle.term.specs.Packed.{count_terms}
use Rattle.term.specs.Sound.{table_answer}
use Rattle.convert.specs.declared.ConvertFault.{ConvertFault}
use Rattle.convert.specs.declared.ConvertFault.TheVariants.{Unsound, NoOldForm, NoRoom}
use Rattle.convert.specs.Converts.{converted, FormBelow, FirstWithout, SoundTable, Says}
use Rattle.convert.proofs.Forms.{form_long}

-- the check of a table gives one answer
unsound : {answer : Result ℕ Fault} {n : ℕ} {fault : Fault} → answer ≡ Ok n → answer ≡ Err fault → ⊥
unsound s f = cc

module _ {from to : ℕ} {table : List ℕ} where
  formed_not_without : {n place : ℕ} → FormBelow from to table n → (q : FirstWithout from to table place) → q.k < n → ⊥
  formed_not_without p q l = false≢true (sym q.here ∙ p q.k l)

  without_one : {m n : ℕ} → FirstWithout from to table m → FirstWithout from to table n → m ≡ n
  without_one {m} {n} p q = by (ltb p.k q.k) (ltb q.k p.k) refl refl
    where
      by : (a b : Bool) → ltb p.k q.k ≡ a → ltb q.k p.k ≡ b → m ≡ n
      by true b ea eb = absurd (formed_not_without q.before p (ltb-true p.k q.k ea))
      by false true ea eb = absurd (formed_not_without p.before q (ltb-true q.k p.k eb))
      by false false ea eb = omega (arith, ltb-false p.k q.k ea, ltb-false q.k p.k eb, p.counted, q.counted)

-- every term has a new form: lengthening never gives 22
pub new_form : (from : ℕ) (table : List ℕ) (place : ℕ) → FirstWithout from 58 table place → ⊥
new_form from table place q = false≢true (sym q.here ∙ form_long _ 58 refl)

module _ (from to : ℕ) (table before after : List ℕ) where
  -- 1, where the table's length is none of its kind, and 2 with its place, where a term breaks a rule
  says_fault : (r : Result ℕ ConvertFault) → Says from to table before after r → (fault : Fault) → table_answer from table ≡ Err fault → (r ≡ Err (Unsound fault)) × (after ≡ before)
  says_fault (Ok n) s fault h = absurd (unsound s.0 h)
  says_fault (Err (Unsound other)) s fault h = let e = s.0 in (cc, s.1)
  says_fault (Err (NoOldForm place)) s fault h = absurd (unsound s.0 h)
  says_fault (Err NoRoom) s fault h = absurd (unsound s.0 h)

  pub says_1 : (r : Result ℕ ConvertFault) → Says from to table before after r → table_answer from table ≡ Err Length → (r ≡ Err (Unsound Length)) × (after ≡ before)
  says_1 r s h = says_fault r s Length h

  pub says_2 : (r : Result ℕ ConvertFault) → Says from to table before after r → (place : ℕ) → table_answer from table ≡ Err (Broken place) → (r ≡ Err (Unsound (Broken place))) × (after ≡ before)
  says_2 r s place h = says_fault r s (Broken place) h

  -- 22 with its place, where a term of a sound table has no form
  pub says_22 : (r : Result ℕ ConvertFault) → Says from to table before after r → (place : ℕ) → SoundTable from table → FirstWithout from to table place → (r ≡ Err (NoOldForm place)) × (after ≡ before)
  says_22 (Ok n) s place h q = absurd (formed_not_without s.1.form q q.within)
  says_22 (Err (Unsound fault)) s place h q = absurd (unsound h s.0)
  says_22 (Err (NoOldForm other)) s place h q = (ap (λ p. Err (NoOldForm p)) (without_one s.1 q), s.2)
  says_22 (Err NoRoom) s place h q = absurd (formed_not_without s.1.form q q.within)

  -- 18, where all terms of a sound table have one and the converted table is longer than the buffer
  pub says_18 : (r : Result ℕ ConvertFault) → Says from to table before after r → SoundTable from table → FormBelow from to table (count_terms from table)
      → length before < length (converted from to table) → (r ≡ Err NoRoom) × (after ≡ before)
  says_18 (Ok n) s h q l = absurd (omega (arith, s.1.front.room))
  says_18 (Err (Unsound fault)) s h q l = absurd (unsound h s.0)
  says_18 (Err (NoOldForm other)) s h q l = absurd (formed_not_without q s.1 s.1.within)
  says_18 (Err NoRoom) s h q l = (refl, s.2)

  -- 0, where it is not
  pub says_0 : (r : Result ℕ ConvertFault) → Says from to table before after r → SoundTable from table → FormBelow from to table (count_terms from table)
      → length (converted from to table) ≤ length before
      → (r ≡ Ok (length (converted from to table))) × (after ≡ converted from to table ++ drop (length (converted from to table)) before)
  says_0 (Ok n) s h q l = (ap Ok s.1.counted, s.1.front.bytes)
  says_0 (Err (Unsound fault)) s h q l = absurd (unsound h s.0)
  says_0 (Err (NoOldForm other)) s h q l = absurd (formed_not_without q s.1 s.1.within)
  says_0 (Err NoRoom) s h q l = absurd (omega (arith, s.1.longer))

pub settled : (from to : ℕ) (table before after after' : List ℕ) (r r' : Result ℕ ConvertFault) → Says from to table before after r → Says from to table before after' r' → (r ≡ r') × (after ≡ after')
settled from to table before after after' (Ok n) r' p q =
    let other = says_0 from to table before after' r' q p.0 p.1.form p.1.front.room in
    let mine = says_0 from to table before after (Ok n) p p.0 p.1.form p.1.front.room in
    (mine.0 ∙ sym other.0, mine.1 ∙ sym other.1)
settled from to table before after after' (Err (Unsound fault)) r' p q =
    let other = says_fault from to table before after' r' q fault p.0 in
    (sym other.0, p.1 ∙ sym other.1)
settled from to table before after after' (Err (NoOldForm place)) r' p q =
    let other = says_22 from to table before after' r' q place p.0 p.1 in
    (sym other.0, p.2 ∙ sym other.1)
settled from to table before after after' (Err NoRoom) r' p q =
    let other = says_18 from to table before after' r' q p.0 p.1.form p.1.longer in
    (sym other.0, p.2 ∙ sym other.1)
