-- What `ask` states, of what its callees say; and that a slice of 64 terms is never too short. Assumes nothing.
use Prim.Native.Nat.{ℕ}
use mathlib.Core.Path.{◌≡◌, sym, ap, ◌∙◌}
use mathlib.Core.List.{List, ◌++◌}
use lib.ListN.{length, take, drop}
use Rattle.term.specs.declared.Term.{Term}
use Rattle.term.specs.Packed.{terms_from}
use Rattle.quick.specs.declared.Question.{Question}
use Rattle.quick.specs.Unpacked.{listed}
use Rattle.quick.specs.Lent.{laid, laid_on, plain_reply, reply_of}
use Rattle.quick.proofs.Listed.{listed-front}
use Rattle.quick.proofs.Laid.{count_few, reply_plain}

module _ (w kind : ℕ) (table : List ℕ) where
  -- the first n of the listed terms laid over a slice, where n is how many are laid
  pub laid-over : (before list : List Term) (n : ℕ) → n ≡ laid w kind table (length before) → list ≡ listed kind table n → take n list ++ drop n before ≡ laid_on w kind table before
  laid-over before list n count is =
      ap (λ (l : List Term). take n l ++ drop n before) is
      ∙ ap (λ (l : List Term). l ++ drop n before) (listed-front kind table n)
      ∙ ap (λ (m : ℕ). terms_from kind table 0 m ++ drop m before) count

  pub never_short : (asked : Question) → reply_of w kind table 64 asked ≡ plain_reply w kind table asked
  never_short asked = sym (reply_plain w kind table 64 asked (count_few w kind table))
