-- Terms of one key share c and factor, and d where the key is weighed; and terms that share these have one key. Assumes nothing.
use mathlib.Core.Path.{◌≡◌}
use mathlib.Core.Bool.{true, false}
use native.Mathlib.Omega.{arith}
use Rattle.term.specs.declared.Term.{Term}
use Rattle.term.specs.Bounds.{Bounds}
use Rattle.quick.specs.Keys.{key_of}

module _ (a b : Term) (p : Bounds a) (q : Bounds b) where
  -- by c and factor
  pub same_key : key_of false a ≡ key_of false b → (a.c ≡ b.c) × (a.factor ≡ b.factor)
  unfolding key_of
  same_key e = let i = p.factor_most in let j = q.factor_most in (omega arith, omega arith)

  -- by d too
  pub like_key : key_of true a ≡ key_of true b → (a.c ≡ b.c) × (a.factor ≡ b.factor) × (a.d ≡ b.d)
  unfolding key_of
  like_key e =
      let i = p.factor_most in
      let j = q.factor_most in
      let k = p.d_most in
      let l = q.d_most in
      (omega arith, omega arith, omega arith)

module _ (a b : Term) (c : a.c ≡ b.c) (factor : a.factor ≡ b.factor) where
  pub key_same : key_of false a ≡ key_of false b
  unfolding key_of
  key_same = rw (c, factor)

  pub key_like : a.d ≡ b.d → key_of true a ≡ key_of true b
  unfolding key_of
  key_like d = rw (c, factor, d)
