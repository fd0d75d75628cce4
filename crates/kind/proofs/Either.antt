-- A kind is 38 or 58; each limit of a kind lies within the widest kind's. Assumes nothing.
use Prim.Native.Nat.{ℕ, ◌≤◌, ◌*◌, ◌^◌}
use mathlib.Core.Path.{◌≡◌, refl, sym, ◌∙◌}
use mathlib.Core.Bool.{Bool, true, false, cond, ◌||◌, true≢false}
use mathlib.Core.Logic.{◌↔◌, ◌⊎◌, inl, inr, ⊎_elim}
use native.Mathlib.Omega.{arith}
use lib.Dec.{eqb}
use borrow.Author.Tests.{eqb-true, eq-eqb, ne_eqb}
use Rattle.kind.specs.Kind.{sound_kind, by_kind, widest, coldest, densest, highest}

or_right : (a b : Bool) → b ≡ true → (a || b) ≡ true
or_right true b h = refl
or_right false b h = h

module _ (kind : ℕ) where
  pub sound-kind : sound_kind kind ≡ true ↔ ((kind ≡ 38) ⊎ (kind ≡ 58))
  unfolding sound_kind
  sound-kind = (
    λ p. go (eqb kind 38) refl p,
    ⊎_elim (λ e. rw (eq-eqb kind 38 e)) (λ e. or_right (eqb kind 38) (eqb kind 58) (eq-eqb kind 58 e)),
  )
    where
      go : (b : Bool) → eqb kind 38 ≡ b → (b || eqb kind 58) ≡ true → (kind ≡ 38) ⊎ (kind ≡ 58)
      go true e p = inl (eqb-true kind 38 e)
      go false e p = inr (eqb-true kind 58 p)

  pub unsound_kind : sound_kind kind ≡ false ↔ ((kind ≡ 38 → ⊥) × (kind ≡ 58 → ⊥))
  unfolding sound_kind
  unsound_kind = (
    λ p. (λ e. true≢false (sym (sound-kind.1 (inl e)) ∙ p), λ e. true≢false (sym (sound-kind.1 (inr e)) ∙ p)),
    λ n. rw (ne_eqb kind 38 n.0, ne_eqb kind 58 n.1),
  )

  -- the number of kind 58, and the number of every other
  pub by_long : (plain long : ℕ) → kind ≡ 58 → by_kind kind plain long ≡ long
  unfolding by_kind
  by_long plain long e = rw (eq-eqb kind 58 e)

  pub by_plain : (plain long : ℕ) → (kind ≡ 58 → ⊥) → by_kind kind plain long ≡ plain
  unfolding by_kind
  by_plain plain long n = rw (ne_eqb kind 58 n)

  -- what holds of both numbers holds of a kind's
  pub by_either : (P : ℕ → Type 0) {plain long : ℕ} → P plain → P long → P (by_kind kind plain long)
  unfolding by_kind
  by_either P {plain} {long} p l = go (eqb kind 58)
    where
      go : (b : Bool) → P (cond b long plain)
      go true = l
      go false = p

  -- ---- the widest limits

  pub cold-widest : coldest widest ≤ coldest kind
  unfolding by_kind
  cold-widest = by_either (λ (n : ℕ). 252 ≤ n) (omega arith) (omega arith)

  -- the triple point lies above every kind's start
  pub cold-most : coldest kind ≤ 273
  unfolding by_kind
  cold-most = by_either (λ (n : ℕ). n ≤ 273) (omega arith) (omega arith)

  pub dense_widest : densest kind ≤ densest widest
  unfolding by_kind
  dense_widest = by_either (λ (n : ℕ). n ≤ 2576) (omega arith) (omega arith)

  pub high_widest : highest kind ≤ highest widest
  unfolding by_kind
  high_widest = by_either (λ (n : ℕ). n ≤ 25 * 10 ^ 9) (omega arith) (omega arith)
