-- The end of a conversion: what was packed in an array of the call's own is delivered into the lent buffer, or there is no room. Assumes nothing.
use Prim.Native.Nat.{ℕ, ◌≤◌}
use native.Mathlib.Omega.{arith}
use mathlib.Core.Path.{◌≡◌, refl, sym, ap, subst, ◌∙◌}
use mathlib.Core.List.{List}
use lib.ListN.{length, take}
use Rattle.lent.specs.Front.{Delivered}
use Rattle.lent.proofs.Fronts.{front_kept, front-taken, front-passed_on}
use Rattle.std.specs.Prelude.{Result, Ok, Option, Some, None, is_some, IfSome}
use Rattle.std.specs.Option.{ok_or}
use Rattle.convert.specs.declared.ConvertFault.TheVariants.{NoRoom}
use Rattle.convert.specs.Converts.{Turned, Packs, SoundTable, Says}

-- what the loop promises where it comes to an end
pub told-bytes : {from to : ℕ} {table before after : List ℕ} {made : Result ℕ ℕ} {n : ℕ} → made ≡ Ok n → Packs from to table before after made → Turned from to table before n after
told-bytes {from} {to} {table} {before} {after} e c = subst (Packs from to table before after) e c

module _ {from to : ℕ} {table before : List ℕ} {n : ℕ} {after : List ℕ} (t : Turned from to table before n after) where
  pub turned-kept : length after ≡ length before
  turned-kept = front_kept t.front

  pub turned-fits : n ≤ length after
  turned-fits = omega (arith, turned-kept, t.counted, t.front.room)

  pub turned-answer : {out out' : List ℕ} (put : Option ℕ) → SoundTable from table → Delivered out (take n after) out' (is_some put) → IfSome put (λ m. m ≡ length (take n after))
      → Says from to table out out' (ok_or put NoRoom)
  turned-answer (Some m) sound d count =
      let all = front-taken t.front n (sym t.counted) in
      (sound, record { form = t.form; counted = count ∙ ap length all; front = (front-passed_on t.front t.counted d).yes refl })
  turned-answer None sound d count =
      let none = (front-passed_on t.front t.counted d).no refl in
      (sound, record { form = t.form; longer = none.0 }, none.1)
