-- How many terms are laid, and when: what the code asks before it reads and lays them, and what is replied by their count. Assumes nothing.
use Rattle.std.specs.Prelude.{Some, Err}
use mathlib.Core.Path.{◌≡◌, refl, ap, ◌∙◌}
use mathlib.Core.Bool.{Bool, true, false, cond, ◌&&◌}
use mathlib.Core.List.{List}
use Prim.Native.Nat.{ℕ, ◌≤◌, ◌<◌, zero-le}
use native.Mathlib.Omega.{arith}
use borrow.Author.Tests.{le-ltb, lt-ltb, le-leb, lt-leb}
use Rattle.term.specs.Packed.{count_terms}
use Rattle.term.proofs.Answers.{sound-few}
use Rattle.verdict.specs.declared.Refusal.{Refusal}
use Rattle.verdict.specs.Rules.{first_refusal, rejected, state_answer, density_answer, pair_answer}
use Rattle.verdict.proofs.Tables.{none-refuses, on_refusal}
use Rattle.verdict.proofs.Tests.{both, together}
use Rattle.quick.specs.declared.Question.{Question}
use Rattle.quick.specs.declared.Question.TheVariants as question
use Rattle.quick.specs.declared.Reply.TheVariants.{Short, Sheet, Check}
use Rattle.quick.specs.Lent.{Sound, sound_input, sound_count, laid, plain_reply, refused_reply, reply_of}

and-false : (b : Bool) → (b && false) ≡ false
and-false true = refl
and-false false = refl

module _ (w kind : ℕ) (table : List ℕ) where
  pub sound-input : Sound w kind table → sound_input w kind table ≡ true
  unfolding sound_input
  sound-input s = together _ _ (together _ _ s.width_sound s.kind_sound) s.table_sound

  pub sound-parts : sound_input w kind table ≡ true → Sound w kind table
  unfolding sound_input
  sound-parts h =
      let p = both _ _ h in
      let q = both _ _ p.0 in
      record { width_sound = q.0; kind_sound = q.1; table_sound = p.1 }

  -- the count, by whether these pass
  pub count_sound : Sound w kind table → count_terms kind table ≡ sound_count w kind table
  unfolding sound_count
  count_sound s = rw (sound-input s)

  pub count_none : sound_input w kind table ≡ false → 0 ≡ sound_count w kind table
  unfolding sound_count
  count_none h = rw h

  -- a count above 0 says that they pass
  pub sound-of : 0 < sound_count w kind table → Sound w kind table × (sound_count w kind table ≡ count_terms kind table)
  unfolding sound_count
  sound-of l = go (sound_input w kind table) refl l
    where
      go : (b : Bool) → sound_input w kind table ≡ b → 0 < cond b (count_terms kind table) 0 → Sound w kind table × (cond b (count_terms kind table) 0 ≡ count_terms kind table)
      go true e h = (sound-parts e, refl)
      go false e h = absurd (omega arith)

  pub count_few : sound_count w kind table ≤ 64
  unfolding sound_count
  count_few = go (sound_input w kind table) refl
    where
      go : (b : Bool) → sound_input w kind table ≡ b → cond b (count_terms kind table) 0 ≤ 64
      go true e = sound-few kind table (sound-parts e).table_sound
      go false e = zero-le

  -- ---- a refusal before anything of the question is asked
  pub refused-input : (why : Refusal) → first_refusal w kind table ≡ Some why → sound_input w kind table ≡ false
  refused-input why e = go (sound_input w kind table) refl
    where
      go : (b : Bool) → sound_input w kind table ≡ b → b ≡ false
      go false _ = refl
      go true h =
          let p = sound-parts h in
          let none = none-refuses w kind table p.width_sound p.kind_sound p.table_sound in
          cc

  pub refused-plain : (why : Refusal) (q : Question) → first_refusal w kind table ≡ Some why → refused_reply why q ≡ plain_reply w kind table q
  unfolding refused_reply plain_reply state_answer density_answer pair_answer
  refused-plain why (question.Sheet state) e = ap Sheet (on_refusal Err w kind table _ _ why e)
  refused-plain why (question.Density state target tolerance) e = ap Check (on_refusal rejected w kind table _ _ why e)
  refused-plain why (question.Pair state vapour tolerances) e = ap Check (on_refusal rejected w kind table _ _ why e)

  -- ---- by the slice's length
  module _ (room : ℕ) where
    pub laid-all : sound_count w kind table ≤ room → sound_count w kind table ≡ laid w kind table room
    unfolding laid
    laid-all h = rw (le-leb _ _ h)

    pub laid_none : room < sound_count w kind table → 0 ≡ laid w kind table room
    unfolding laid
    laid_none h = rw (lt-leb _ _ h)

    -- ---- the reply
    pub reply_short : (q : Question) → room < sound_count w kind table → Short ≡ reply_of w kind table room q
    unfolding reply_of
    reply_short q h = rw (lt-ltb _ _ h)

    pub reply_plain : (q : Question) → sound_count w kind table ≤ room → plain_reply w kind table q ≡ reply_of w kind table room q
    unfolding reply_of
    reply_plain q h = rw (le-ltb _ _ h)

    pub refused-reply : (why : Refusal) (q : Question) → first_refusal w kind table ≡ Some why → refused_reply why q ≡ reply_of w kind table room q
    refused-reply why q e = refused-plain why q e ∙ reply_plain q (omega (arith, count_none (refused-input why e)))
