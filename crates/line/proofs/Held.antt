-- A text put at the front of 97 zeros is a line that holds it. Assumes nothing.
use Prim.Native.Nat.{ℕ, zero, suc, ◌-◌, ◌≤◌}
use native.Mathlib.Nat.{zero-add}
use native.Mathlib.Omega.{arith}
use mathlib.Core.Path.{◌≡◌, sym, ap, subst, ◌∙◌}
use mathlib.Core.List.{List, ◌++◌}
use lib.ListN.{length, drop, replicate, length-append, length-replicate}
use lib.Seq.{sets-eq, take-append_seam}
use Rattle.line.specs.declared.Line.{Line}
use Rattle.lent.specs.Put.{Put}
use Rattle.line.specs.Line.{Within, held}

drop_replicate : (k n a : ℕ) → drop k (replicate n a) ≡ replicate (n - k) a
drop_replicate zero n a =
    let e : n - 0 ≡ n = omega arith in
    rw e
drop_replicate (suc k) zero a =
    let e : 0 - suc k ≡ 0 = omega arith in
    rw e
drop_replicate (suc k) (suc n) a =
    let e : suc n - suc k ≡ n - k = omega arith in
    rw e (drop_replicate k n a)

pub put_held : {text bytes : List ℕ} {len : ℕ} → Put (replicate 97 0) 0 text bytes len → len ≤ 97
    → ◌≡◌ {A = Line} (record { bytes = bytes; len = len }) (held text)
unfolding held
put_held {text} {bytes} {len} p h =
    let n : len ≡ length text = p.reached ∙ zero-add (length text) in
    let b : bytes ≡ text ++ replicate (97 - length text) 0 =
    p.bytes ∙ sets-eq text (replicate 97 0) 0 (omega (arith, length-replicate {A = ℕ} 97 0))
    ∙ ap (λ k. text ++ drop k (replicate 97 0)) (zero-add (length text))
    ∙ ap (λ l. text ++ l) (drop_replicate (length text) 97 0) in
    λ i. record { bytes = b i; len = n i }

pub held-within : (text : List ℕ) → length text ≤ 97 → Within (held text)
unfolding held
held-within text h = (
  rw length-append (omega arith),
  sym (ap length (take-append_seam text (replicate (97 - length text) 0))),
)

pub put_within : {text bytes : List ℕ} {len : ℕ} → Put (replicate 97 0) 0 text bytes len → len ≤ 97
    → Within (record { bytes = bytes; len = len })
put_within {text} {bytes} {len} p h = subst Within (sym (put_held p h)) (held-within text (omega (arith, p.reached)))
