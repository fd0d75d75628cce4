-- The end of both calls: what was made in an array of the call's own is delivered into the lent buffer, or there is no room. Assumes nothing.
use Prim.Native.Nat.{ℕ, ◌≤◌}
use native.Mathlib.Omega.{arith}
use mathlib.Core.Path.{◌≡◌, refl, sym, ap, subst, ◌∙◌}
use mathlib.Core.List.{List}
use lib.ListN.{length, take}
use Rattle.lent.specs.Front.{Delivered}
use Rattle.lent.proofs.Fronts.{front_kept, front-taken, front-passed_on}
use Rattle.std.specs.Prelude.{Result, Ok, Option, Some, None, is_some, IfSome}
use Rattle.std.specs.Option.{ok_or}
use Rattle.text.specs.declared.ReadFault.TheVariants.{NoRoom}
use Rattle.text.specs.declared.WriteFault.TheVariants.{TooLong}
use Rattle.text.specs.Reads.{Taken, Checks, ReadSays}
use Rattle.text.specs.Writes.{Typed, SpellsOut, SoundTable, WriteSays}

-- what the rows' reader and the terms' speller promise where they come to an end
pub told-bytes : {text before after : List ℕ} {checked : Result ℕ ℕ} {n : ℕ} → checked ≡ Ok n → Checks text before after checked → Taken text before n after
told-bytes {text} {before} {after} e c = subst (Checks text before after) e c

pub told_text : {table before after : List ℕ} {spelled : Result ℕ ℕ} {n : ℕ} → spelled ≡ Ok n → SpellsOut table before after spelled → Typed table before n after
told_text {table} {before} {after} e c = subst (SpellsOut table before after) e c

module _ {text before : List ℕ} {n : ℕ} {after : List ℕ} (t : Taken text before n after) where
  pub taken-kept : length after ≡ length before
  taken-kept = front_kept t.front

  pub taken-fits : n ≤ length after
  taken-fits = omega (arith, taken-kept, t.counted, t.front.room)

  pub taken-answer : {out out' : List ℕ} (put : Option ℕ) → Delivered out (take n after) out' (is_some put) → IfSome put (λ m. m ≡ length (take n after))
      → ReadSays text out out' (ok_or put NoRoom)
  taken-answer (Some m) d count =
      let all = front-taken t.front n (sym t.counted) in
      record { rows = t.rows; spells = t.spells; counted = count ∙ ap length all; front = (front-passed_on t.front t.counted d).yes refl }
  taken-answer None d count =
      let none = (front-passed_on t.front t.counted d).no refl in
      (record { rows = t.rows; spells = t.spells; longer = none.0 }, none.1)

module _ {table before : List ℕ} {n : ℕ} {after : List ℕ} (t : Typed table before n after) where
  pub typed_kept : length after ≡ length before
  typed_kept = front_kept t.front

  pub typed_fits : n ≤ length after
  typed_fits = omega (arith, typed_kept, t.counted, t.front.room)

  pub typed_answer : {out out' : List ℕ} (put : Option ℕ) → SoundTable table → Delivered out (take n after) out' (is_some put) → IfSome put (λ m. m ≡ length (take n after))
      → WriteSays table out out' (ok_or put TooLong)
  typed_answer (Some m) sound d count =
      let all = front-taken t.front n (sym t.counted) in
      (sound, record { rows = t.rows; spelling = t.spelling; counted = count ∙ ap length all; front = (front-passed_on t.front t.counted d).yes refl })
  typed_answer None sound d count =
      let none = (front-passed_on t.front t.counted d).no refl in
      (sound, record { rows = t.rows; spelling = t.spelling; longer = none.0 }, none.1)
