-- Document 02, e: which terms a call lays into the lent slice, and what it replies. w is the width, kind the kind of table, room the count of
-- terms that the slice holds. Assumes nothing.
use Rattle.std.specs.Prelude.{ℕ, ◌≡◌, Bool, true, cond, ◌&&◌, List, ◌++◌, length, drop, leb, ltb, Err}
use Rattle.kind.specs.Kind.{sound_kind}
use Rattle.term.specs.declared.Term.{Term}
use Rattle.term.specs.Packed.{count_terms, terms_from}
use Rattle.term.specs.Sound.{sound_table}
use Rattle.verdict.specs.declared.Refusal.{Refusal}
use Rattle.verdict.specs.Rules.{sound_width, state_answer, density_answer, pair_answer, rejected}
use Rattle.quick.specs.declared.Question.{Question}
use Rattle.quick.specs.declared.Question.TheVariants as question
use Rattle.quick.specs.declared.Reply.{Reply}
use Rattle.quick.specs.declared.Reply.TheVariants.{Short, Sheet, Check}
use Rattle.quick.specs.Reading.{ReplyNumbers}

-- 19, 29, 1 and 2 pass
pub record Sound (w kind : ℕ) (table : List ℕ) : Type 0 where
  pub width_sound : sound_width w ≡ true
  pub kind_sound : sound_kind kind ≡ true
  pub table_sound : sound_table kind table ≡ true

-- the same as a test
unfoldable pub sound_input : (w kind : ℕ) → List ℕ → Bool
sound_input w kind table = sound_width w && sound_kind kind && sound_table kind table

-- how many terms there are to lay: none where one of these fails
unfoldable pub sound_count : (w kind : ℕ) → List ℕ → ℕ
sound_count w kind table = cond (sound_input w kind table) (count_terms kind table) 0

-- how many are laid: all of them, or none where the slice holds fewer
unfoldable pub laid : (w kind : ℕ) → List ℕ → (room : ℕ) → ℕ
laid w kind table room = cond (leb (sound_count w kind table) room) (sound_count w kind table) 0

-- the slice afterwards: the table's terms in order, then what stood there
abbrev pub laid_on : (w kind : ℕ) → List ℕ → List Term → List Term
laid_on w kind table before = terms_from kind table 0 (laid w kind table (length before)) ++ drop (laid w kind table (length before)) before

-- what the plain engine answers
unfoldable pub plain_reply : (w kind : ℕ) → List ℕ → Question → Reply
plain_reply w kind table (question.Sheet state) = Sheet (state_answer w kind table state.temperature state.density)
plain_reply w kind table (question.Density state target tolerance) = Check (density_answer w kind table state.temperature state.density target tolerance)
plain_reply w kind table (question.Pair state vapour tolerances) =
    Check (pair_answer w kind table state.temperature state.density vapour tolerances.pressure tolerances.gibbs)

-- a refusal before anything of the question is asked
unfoldable pub refused_reply : Refusal → Question → Reply
refused_reply why (question.Sheet state) = Sheet (Err why)
refused_reply why (question.Density state target tolerance) = Check (rejected why)
refused_reply why (question.Pair state vapour tolerances) = Check (rejected why)

-- 20 where the slice holds fewer terms than the table, behind 19, 29, 1 and 2; else the plain engine's answer
unfoldable pub reply_of : (w kind : ℕ) → List ℕ → (room : ℕ) → Question → Reply
reply_of w kind table room asked = cond (ltb room (sound_count w kind table)) Short (plain_reply w kind table asked)

-- what a call states: its reply, whose ends are numbers, and the slice
pub record Stated (w kind : ℕ) (table : List ℕ) (before after : List Term) (asked : Question) (reply : Reply) : Type 0 where
  pub replied : reply ≡ reply_of w kind table (length before) asked
  pub numbers : ReplyNumbers reply
  pub slice : after ≡ laid_on w kind table before
