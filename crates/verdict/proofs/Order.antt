-- Which step of an order of checks gave the answer, told by the answer's number. Assumes nothing.
use Prim.Native.Nat.{ℕ, zero, suc, ◌≤◌}
use mathlib.Core.Path.{◌≡◌, refl, sym, ◌∙◌, ap, subst}
use mathlib.Core.Bool.{Bool, true, false, not, ◌&&◌}
use mathlib.Core.List.{List, [], ◌∷◌}
use mathlib.Core.Logic.{◌↔◌, ◌⊎◌, inl, inr, ⊎_elim}
use native.Mathlib.Omega.{arith}
use lib.ListN.{take, drop}
use lib.Dec.{eqb, T, T_not, eqb→eq}
use borrow.Author.Tests.{eq-eqb}
use Rattle.verdict.specs.Steps.{Step, first_failing, AllPass, FailsAt}

-- ---- one step, and all of them

module _ {A : Type 0} where
  pub on_pass : (step : Step A) (rest : List (Step A)) (last : A) → step.passes ≡ true → first_failing (step ∷ rest) last ≡ first_failing rest last
  unfolding first_failing
  on_pass step rest last p = rw p

  pub on_fail : (step : Step A) (rest : List (Step A)) (last : A) → step.passes ≡ false → first_failing (step ∷ rest) last ≡ step.otherwise
  unfolding first_failing
  on_fail step rest last p = rw p

  -- where every step passes the answer is the last word
  pub all_pass : (steps : List (Step A)) (last : A) → AllPass steps → first_failing steps last ≡ last
  unfolding first_failing
  all_pass [] last a = refl
  all_pass (step ∷ rest) last a = on_pass step rest last a.0 ∙ all_pass rest last a.1

  -- the answer of step k
  abbrev pub answer_at : ℕ → List (Step A) → A → A
  answer_at k [] last = last
  answer_at zero (step ∷ rest) last = step.otherwise
  answer_at (suc k) (step ∷ rest) last = answer_at k rest last

  pub fails-at : (k : ℕ) (steps : List (Step A)) (last : A) → FailsAt k steps → first_failing steps last ≡ answer_at k steps last
  unfolding first_failing
  fails-at k [] last f = absurd f
  fails-at zero (step ∷ rest) last f = rw f
  fails-at (suc k) (step ∷ rest) last f = rw f.0 (fails-at k rest last f.1)

  -- ---- the first k steps, and those behind them

  -- the steps before one that fails pass
  pub passed-before : (k n : ℕ) (steps : List (Step A)) → k ≤ n → FailsAt n steps → AllPass (take k steps)
  passed-before zero n steps h f = tt
  passed-before (suc k) n [] h f = absurd f
  passed-before (suc k) zero (step ∷ rest) h f = absurd (omega (arith, h))
  passed-before (suc k) (suc n) (step ∷ rest) h f = (f.0, passed-before k n rest (omega (arith, h)) f.1)

  -- step k is the first that fails: the k before it pass, and it is the first of the others
  pub fails-behind : (k : ℕ) (steps : List (Step A)) → FailsAt k steps ↔ (AllPass (take k steps) × FailsAt 0 (drop k steps))
  fails-behind zero steps = (λ f. (tt, f), λ p. p.1)
  fails-behind (suc k) [] = (λ f. absurd f, λ p. p.1)
  fails-behind (suc k) (step ∷ rest) =
      let later = fails-behind k rest in (
        λ f. let p = later.0 f.1 in ((f.0, p.0), p.1),
        λ p. (p.0.0, later.1 (p.0.1, p.1)),
      )

  -- every step passes: the first k do, and so do the others
  pub all_behind : (k : ℕ) (steps : List (Step A)) → AllPass steps ↔ (AllPass (take k steps) × AllPass (drop k steps))
  all_behind zero steps = (λ a. (tt, a), λ p. p.1)
  all_behind (suc k) [] = (λ a. (tt, tt), λ p. tt)
  all_behind (suc k) (step ∷ rest) =
      let later = all_behind k rest in (
        λ a. let p = later.0 a.1 in ((a.0, p.0), p.1),
        λ p. (p.0.0, later.1 (p.0.1, p.1)),
      )

-- ---- told by the number

module _ {A : Type 0} (number : A → ℕ) where
  -- no answer of these steps, nor the last word, has the number n
  abbrev pub absent : ℕ → List (Step A) → A → Bool
  absent n [] last = not (eqb (number last) n)
  absent n (step ∷ rest) last = not (eqb (number step.otherwise) n) && absent n rest last

  -- of the steps' answers and the last word, step k's alone has the number n
  abbrev pub only_at : ℕ → ℕ → List (Step A) → A → Bool
  only_at n k [] last = false
  only_at n zero (step ∷ rest) last = eqb (number step.otherwise) n && absent n rest last
  only_at n (suc k) (step ∷ rest) last = not (eqb (number step.otherwise) n) && only_at n k rest last

  both : (a b : Bool) → T (a && b) → T a × T b
  both true b t = (tt, t)
  both false b t = absurd t

  differs : (a n : ℕ) → T (not (eqb a n)) → a ≡ n → ⊥
  differs a n t e = T_not (eqb a n) t (subst T (sym (eq-eqb a n e)) tt)

  -- a number other than the step's own was answered by what comes behind it
  behind : (n : ℕ) (step : Step A) (rest : List (Step A)) (last : A) → T (not (eqb (number step.otherwise) n))
      → number (first_failing (step ∷ rest) last) ≡ n → (step.passes ≡ true) × (number (first_failing rest last) ≡ n)
  behind n step rest last d e = go step.passes refl
    where
      go : (b : Bool) → step.passes ≡ b → (step.passes ≡ true) × (number (first_failing rest last) ≡ n)
      go true p = (p, sym (ap number (on_pass step rest last p)) ∙ e)
      go false p = absurd (differs _ _ d (sym (ap number (on_fail step rest last p)) ∙ e))

  not_absent : (n : ℕ) (steps : List (Step A)) (last : A) → T (absent n steps last) → number (first_failing steps last) ≡ n → ⊥
  unfolding first_failing
  not_absent n [] last a e = differs _ _ a e
  not_absent n (step ∷ rest) last a e =
      let parts = both (not (eqb (number step.otherwise) n)) (absent n rest last) a in
      not_absent n rest last parts.1 (behind n step rest last parts.0 e).1

  -- ---- exactly when
  first_fails : (n : ℕ) (step : Step A) (rest : List (Step A)) (last : A) → T (eqb (number step.otherwise) n) → T (absent n rest last)
      → number (first_failing (step ∷ rest) last) ≡ n ↔ (step.passes ≡ false)
  first_fails n step rest last own others = (λ e. go e step.passes refl, λ p. ap number (on_fail step rest last p) ∙ eqb→eq _ n own)
    where
      go : number (first_failing (step ∷ rest) last) ≡ n → (b : Bool) → step.passes ≡ b → step.passes ≡ false
      go e true p = absurd (not_absent n rest last others (sym (ap number (on_pass step rest last p)) ∙ e))
      go e false p = p

  -- a number that step k alone gives is answered exactly where step k is the first that fails
  pub exactly : (n k : ℕ) (steps : List (Step A)) (last : A) → T (only_at n k steps last)
      → number (first_failing steps last) ≡ n ↔ FailsAt k steps
  exactly n k [] last o = absurd o
  exactly n zero (step ∷ rest) last o =
      let parts = both (eqb (number step.otherwise) n) (absent n rest last) o in
      first_fails n step rest last parts.0 parts.1
  exactly n (suc k) (step ∷ rest) last o =
      let parts = both (not (eqb (number step.otherwise) n)) (only_at n k rest last) o in
      let later = exactly n k rest last parts.1 in (
        λ e. let b = behind n step rest last parts.0 e in (b.0, later.0 b.1),
        λ f. ap number (on_pass step rest last f.0) ∙ later.1 f.1,
      )

  -- no step's answer has the number n
  abbrev pub no_step : ℕ → List (Step A) → Bool
  no_step n [] = true
  no_step n (step ∷ rest) = not (eqb (number step.otherwise) n) && no_step n rest

  -- the last word's number, where no step gives it, is answered exactly where every step passes
  pub accepted : (n : ℕ) (steps : List (Step A)) (last : A) → T (no_step n steps) → number last ≡ n → number (first_failing steps last) ≡ n ↔ AllPass steps
  unfolding first_failing
  accepted n [] last o e = (λ _. tt, λ _. e)
  accepted n (step ∷ rest) last o e =
      let parts = both (not (eqb (number step.otherwise) n)) (no_step n rest) o in
      let later = accepted n rest last parts.1 e in (
        λ h. let b = behind n step rest last parts.0 h in (b.0, later.0 b.1),
        λ f. ap number (on_pass step rest last f.0) ∙ later.1 f.1,
      )

  -- of the steps' answers and the last word, those of step k and of the next alone have the number n
  abbrev pub only_twice : ℕ → ℕ → List (Step A) → A → Bool
  only_twice n k [] last = false
  only_twice n zero (step ∷ rest) last = eqb (number step.otherwise) n && only_at n 0 rest last
  only_twice n (suc k) (step ∷ rest) last = not (eqb (number step.otherwise) n) && only_twice n k rest last

  -- a number that two steps in a row give is answered by one of them
  pub either : (n k : ℕ) (steps : List (Step A)) (last : A) → T (only_twice n k steps last)
      → number (first_failing steps last) ≡ n → FailsAt k steps ⊎ FailsAt (suc k) steps
  either n k [] last o e = absurd o
  either n zero (step ∷ rest) last o e = go step.passes refl
    where
      go : (b : Bool) → step.passes ≡ b → (step.passes ≡ false) ⊎ FailsAt 1 (step ∷ rest)
      go false p = inl p
      go true p =
          inr (
            p,
            (exactly n 0 rest last (both (eqb (number step.otherwise) n) (only_at n 0 rest last) o).1).0 (sym (ap number (on_pass step rest last p)) ∙ e),
          )
  either n (suc k) (step ∷ rest) last o e =
      let parts = both (not (eqb (number step.otherwise) n)) (only_twice n k rest last) o in
      let b = behind n step rest last parts.0 e in
      ⊎_elim (λ f. inl (b.0, f)) (λ f. inr (b.0, f)) (either n k rest last parts.1 b.1)
