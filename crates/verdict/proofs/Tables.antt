-- What the check of a table, and the first four checks, settle of an answer: its number, or that the other checks decide. Assumes nothing.
use Rattle.std.specs.Prelude.{Some, None, Err}
use Prim.Native.Nat.{ℕ}
use mathlib.Core.Path.{◌≡◌, refl, sym, ap, ◌∙◌}
use mathlib.Core.Bool.{Bool, true, false, cond}
use mathlib.Core.List.{List, []}
use native.Mathlib.Omega.{arith}
use lib.ListN.{length}
use lib.Dec.{eqb}
use borrow.Author.Tests.{ne_eqb}
use Rattle.kind.specs.Kind.{sound_kind}
use Rattle.term.specs.declared.Fault.{Fault}
use Rattle.term.specs.declared.Fault.TheVariants.{Length, Broken}
use Rattle.term.specs.Sound.{sound_length, first_broken, sound_table, table_answer}
use Rattle.term.proofs.Answers.{answer-length, answer-broken}
use Rattle.verdict.specs.declared.Refusal.{Refusal}
use Rattle.verdict.specs.declared.Refusal.TheVariants.{TableLength, BrokenTerm}
use Rattle.verdict.specs.Steps.{Step, first_failing}
use Rattle.verdict.specs.Rules.{table_steps, first_steps, first_refusal, fault_refusal, sound_width}
use Rattle.verdict.proofs.Order.{on_pass, all_pass, fails-at}
use Rattle.verdict.proofs.Tests.{both, together}

pub table_parts : (kind : ℕ) (table : List ℕ) → sound_table kind table ≡ true → (sound_length kind (length table) ≡ true) × (eqb (first_broken kind table) 0 ≡ true)
unfolding sound_table
table_parts kind table p = both (sound_length kind (length table)) (eqb (first_broken kind table) 0) p

-- a table whose length and whose terms pass is sound
pub sound : (kind : ℕ) (table : List ℕ) → sound_length kind (length table) ≡ true → eqb (first_broken kind table) 0 ≡ true → sound_table kind table ≡ true
unfolding sound_table
sound kind table p q = together _ _ p q

module _ {A : Type 0} (refused : Refusal → A) (kind : ℕ) (table : List ℕ) (rest : List (Step A)) (last : A) where
  pub on_length : table_answer kind table ≡ Err Length → refused TableLength ≡ first_failing (table_steps refused kind table rest) last
  on_length h = sym (fails-at 0 (table_steps refused kind table rest) last (answer-length kind table h))

  pub on_broken : (k : ℕ) → table_answer kind table ≡ Err (Broken k) → refused (BrokenTerm k) ≡ first_failing (table_steps refused kind table rest) last
  on_broken k h =
      let p = answer-broken kind table k h in
      let other : first_broken kind table ≡ 0 → ⊥ = λ z. omega (arith, p.1, p.2) in
      ap (λ (n : ℕ). refused (BrokenTerm n)) (sym p.1) ∙ sym (fails-at 1 (table_steps refused kind table rest) last (p.0, ne_eqb _ _ other))

  pub on_fault : (fault : Fault) → table_answer kind table ≡ Err fault → refused (fault_refusal fault) ≡ first_failing (table_steps refused kind table rest) last
  on_fault Length h = on_length h
  on_fault (Broken k) h = on_broken k h

  pub on_sound : sound_table kind table ≡ true → first_failing (table_steps refused kind table rest) last ≡ first_failing rest last
  on_sound h = let p = table_parts kind table h in on_pass _ _ last p.0 ∙ on_pass _ rest last p.1

-- ---- 19, 29, 1 and 2 together

-- none refuses a width, a kind and a sound table of it
pub none-refuses : (w kind : ℕ) (table : List ℕ) → sound_width w ≡ true → sound_kind kind ≡ true → sound_table kind table ≡ true → first_refusal w kind table ≡ None
unfolding first_refusal
none-refuses w kind table wide known good =
    on_pass _ _ None wide ∙ on_pass _ _ None known ∙ on_sound Some kind table [] None good ∙ all_pass [] None tt

module _ {A : Type 0} (refused : Refusal → A) where
  -- by the four tests: where one fails, and where all pass
  refused-when : (a b c d : Bool) (why₁ why₂ why₃ why₄ why : Refusal) (then : A)
      → cond a (cond b (cond c (cond d None (Some why₄)) (Some why₃)) (Some why₂)) (Some why₁) ≡ Some why
      → refused why ≡ cond a (cond b (cond c (cond d then (refused why₄)) (refused why₃)) (refused why₂)) (refused why₁)
  refused-when false b c d w x y z why then e = cc
  refused-when true false c d w x y z why then e = cc
  refused-when true true false d w x y z why then e = cc
  refused-when true true true false w x y z why then e = cc
  refused-when true true true true w x y z why then e = cc

  passed-when : (a b c d : Bool) (why₁ why₂ why₃ why₄ : Refusal) (then : A)
      → cond a (cond b (cond c (cond d None (Some why₄)) (Some why₃)) (Some why₂)) (Some why₁) ≡ None
      → cond a (cond b (cond c (cond d then (refused why₄)) (refused why₃)) (refused why₂)) (refused why₁) ≡ then
  passed-when false b c d w x y z then e = cc
  passed-when true false c d w x y z then e = cc
  passed-when true true false d w x y z then e = cc
  passed-when true true true false w x y z then e = cc
  passed-when true true true true w x y z then e = refl

  module _ (w kind : ℕ) (table : List ℕ) (rest : List (Step A)) (last : A) where
    pub on_refusal : (why : Refusal) → first_refusal w kind table ≡ Some why → refused why ≡ first_failing (first_steps refused w kind table rest) last
    unfolding first_refusal first_failing
    on_refusal why e = refused-when (sound_width w) (sound_kind kind) (sound_length kind (length table)) (eqb (first_broken kind table) 0) _ _ _ _ why _ e

    pub on_none : first_refusal w kind table ≡ None → first_failing (first_steps refused w kind table rest) last ≡ first_failing rest last
    unfolding first_refusal first_failing
    on_none e = passed-when (sound_width w) (sound_kind kind) (sound_length kind (length table)) (eqb (first_broken kind table) 0) _ _ _ _ _ e
