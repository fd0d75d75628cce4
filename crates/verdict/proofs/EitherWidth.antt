-- A width is 32 or 53, and what holds of sheet numbers of suc v bits, for either v, holds at the width. Assumes nothing.
use Prim.Native.Nat.{ℕ, suc, ◌-◌}
use mathlib.Core.Path.{◌≡◌, refl, sym, subst, ◌∙◌}
use mathlib.Core.Bool.{Bool, true, false, ◌||◌, true≢false}
use mathlib.Core.Logic.{◌↔◌, ◌⊎◌, inl, inr, ⊎_elim}
use native.Mathlib.Omega.{arith}
use lib.Dec.{eqb}
use borrow.Author.Tests.{eqb-true, eq-eqb, ne_eqb}
use Rattle.sheet.specs.Range.{Width}
use Rattle.sheet.proofs.Live.{narrow, wide}
use Rattle.verdict.specs.Rules.{sound_width}

module _ (w : ℕ) where
  pub sound-width : sound_width w ≡ true ↔ ((w ≡ 32) ⊎ (w ≡ 53))
  unfolding sound_width
  sound-width = (
    λ p. go (eqb w 32) refl p,
    ⊎_elim (λ e. rw (eq-eqb w 32 e)) (λ e. or_right (eqb w 32) (eqb w 53) (eq-eqb w 53 e)),
  )
    where
      or_right : (a b : Bool) → b ≡ true → (a || b) ≡ true
      or_right true b h = refl
      or_right false b h = h

      go : (b : Bool) → eqb w 32 ≡ b → (b || eqb w 53) ≡ true → (w ≡ 32) ⊎ (w ≡ 53)
      go true e p = inl (eqb-true w 32 e)
      go false e p = inr (eqb-true w 53 p)

  pub unsound_width : sound_width w ≡ false ↔ ((w ≡ 32 → ⊥) × (w ≡ 53 → ⊥))
  unfolding sound_width
  unsound_width = (
    λ p. (λ e. true≢false (sym (sound-width.1 (inl e)) ∙ p), λ e. true≢false (sym (sound-width.1 (inr e)) ∙ p)),
    λ n. rw (ne_eqb w 32 n.0, ne_eqb w 53 n.1),
  )

  -- the width less one, which the code works with
  pub one_less : sound_width w ≡ true → Width (w - 1) × (suc (w - 1) ≡ w)
  one_less p =
      ⊎_elim
      (λ e. (subst (λ (n : ℕ). Width (n - 1)) (sym e) narrow, omega arith))
      (λ e. (subst (λ (n : ℕ). Width (n - 1)) (sym e) wide, omega arith))
      (sound-width.0 p)

  pub at_width : (P : ℕ → Type 0) → ((v : ℕ) → Width v → P (suc v)) → sound_width w ≡ true → P w
  at_width P h p = let l = one_less p in subst P l.1 (h (w - 1) l.0)

-- the width of a setting
pub width_of : (v : ℕ) → sound_width (suc v) ≡ true → Width v
width_of v p = let less : suc v - 1 ≡ v = omega arith in subst Width less (one_less (suc v) p).0
