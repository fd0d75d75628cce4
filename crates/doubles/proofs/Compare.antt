-- Comparing two finite f64s compares their exact values, and negating one negates its exact value. Assumes nothing.
use Prim.Native.Nat.{ℕ, ◌+◌, ◌*◌, ◌<◌, max}
use mathlib.Core.Path.{◌≡◌, refl, sym, ap, ap₂, ◌∙◌}
use mathlib.Core.Logic.{◌⊎◌, inl, inr}
use mathlib.Core.Bool.{Bool, true, false, not, ◌||◌}
use native.Mathlib.Omega.{arith}
use native.Mathlib.Decide.{dec_le}
use native.Mathlib.Nat.{eq-or-lt_of_le}
use lib.Dec.{T, leb}
use lib.Ieee.{Float, nan, inf, fin, up, down, below, level, le, lt, neg}
use lib.Ieee.Fits.{down_pos}
use lib.Ieee.Scale.{finite}
use borrow.Author.Tests.{le-leb, lt-leb, lt-ltb, le-ltb, eq-eqb, ne_eqb}
use Rattle.exact.specs.Fraction.{nat, parts, leq, negate}
use Rattle.doubles.specs.Double.{exact_of}

-- ±a ≤ ±b
abbrev signed : Bool → ℕ → Bool → ℕ → Bool
signed false a false b = leb a b
signed false a true b = leb (a + b) 0
signed true a false b = leb 0 (a + b)
signed true a true b = leb b a

max_one : (b : ℕ) → 0 < b → max 1 b ≡ b
max_one b h = omega arith

same : (a b c d : ℕ) → a ≡ c → b ≡ d → leb a b ≡ leb c d
same a b c d p q = ap₂ leb p q

pub leq-parts : (s : Bool) (a b : ℕ) (t : Bool) (c d : ℕ) → 0 < b → 0 < d → leq (parts s a b) (parts t c d) ≡ signed s (a * d) t (c * b)
unfolding leq parts
leq-parts false a b false c d B D = rw (max_one b, max_one d) (same (a * d + 0 * b) (c * b + 0 * d) (a * d) (c * b) (omega arith) (omega arith))
leq-parts false a b true c d B D = rw (max_one b, max_one d) (same (a * d + c * b) (0 * b + 0 * d) (a * d + c * b) 0 (omega arith) (omega arith))
leq-parts true a b false c d B D = rw (max_one b, max_one d) (same (0 * d + 0 * b) (c * b + a * d) 0 (a * d + c * b) (omega arith) (omega arith))
leq-parts true a b true c d B D = rw (max_one b, max_one d) (same (0 * d + c * b) (0 * b + a * d) (c * b) (a * d) (omega arith) (omega arith))

order : (a b : ℕ) → (a < b) ⊎ ((a ≡ b) ⊎ (b < a))
order a b = elim (dec_le a b) [ yes h ↦ elim (eq-or-lt_of_le h) [ inl e ↦ inr (inl e) | inr l ↦ inl l ] | no f ↦ inr (inr (omega arith)) ]

le_signed : (s : Bool) (a : ℕ) (t : Bool) (b : ℕ) → (below s a t b || level s a t b) ≡ signed s a t b
le_signed false a false b = elim (order a b) [
  | inl l ↦ rw (lt-ltb a b l, le-leb a b (omega arith))
  | inr (inl e) ↦ rw (le-ltb a b (omega arith), eq-eqb a b e, le-leb a b (omega arith))
  | inr (inr g) ↦ rw (le-ltb a b (omega arith), ne_eqb a b (omega arith), lt-leb a b g)
]
le_signed false a true b = elim (order a b) [
  | inl l ↦ rw (ne_eqb a b (omega arith), lt-leb (a + b) 0 (omega arith))
  | inr (inl e) ↦
      rw (eq-eqb a b e) (elim (order 0 a) [
        | inl l ↦ rw (ne_eqb a 0 (omega arith), lt-leb (a + b) 0 (omega arith))
        | inr (inl z) ↦ rw (eq-eqb a 0 (sym z), le-leb (a + b) 0 (omega arith))
        | inr (inr g) ↦ absurd (omega arith)
      ])
  | inr (inr g) ↦ rw (ne_eqb a b (omega arith), lt-leb (a + b) 0 (omega arith))
]
le_signed true a false b = elim (order 0 (a + b)) [
  | inl l ↦ rw (lt-ltb 0 (a + b) l, le-leb 0 (a + b) (omega arith))
  | inr (inl z) ↦ rw (le-ltb 0 (a + b) (omega arith), eq-eqb a b (omega arith), eq-eqb a 0 (omega arith), le-leb 0 (a + b) (omega arith))
  | inr (inr g) ↦ absurd (omega arith)
]
le_signed true a true b = elim (order a b) [
  | inl l ↦ rw (le-ltb b a (omega arith), ne_eqb a b (omega arith), lt-leb b a l)
  | inr (inl e) ↦ rw (le-ltb b a (omega arith), eq-eqb a b e, le-leb b a (omega arith))
  | inr (inr g) ↦ rw (lt-ltb b a g, le-leb b a (omega arith))
]

lt_signed : (s : Bool) (a : ℕ) (t : Bool) (b : ℕ) → below s a t b ≡ not (signed t b s a)
lt_signed false a false b = elim (dec_le b a) [ yes h ↦ rw (le-ltb a b h, le-leb b a h) | no f ↦ rw (lt-ltb a b (omega arith), lt-leb b a (omega arith)) ]
lt_signed false a true b = rw (le-leb 0 (b + a) (omega arith))
lt_signed true a false b = elim (dec_le (b + a) 0) [
  | yes h ↦ rw (le-ltb 0 (a + b) (omega arith), le-leb (b + a) 0 h)
  | no f ↦ rw (lt-ltb 0 (a + b) (omega arith), lt-leb (b + a) 0 (omega arith))
]
lt_signed true a true b = elim (dec_le a b) [ yes h ↦ rw (le-ltb b a h, le-leb a b h) | no f ↦ rw (lt-ltb b a (omega arith), lt-leb a b (omega arith)) ]

-- the test x <= y on f64s is the order of their exact values
pub le_exact : (x y : Float) → T (finite x) → T (finite y) → le x y ≡ leq (exact_of x) (exact_of y)
unfolding le exact_of
le_exact nan y h k = absurd h
le_exact (inf s) y h k = absurd h
le_exact (fin s m e) nan h k = absurd k
le_exact (fin s m e) (inf t) h k = absurd k
le_exact (fin s m e) (fin t n d) h k =
    le_signed s (m * up e * down d) t (n * up d * down e) ∙ sym (leq-parts s (m * up e) (down e) t (n * up d) (down d) (down_pos e) (down_pos d))

-- the test x < y is the order of the exact values the other way, turned round
pub lt_exact : (x y : Float) → T (finite x) → T (finite y) → lt x y ≡ not (leq (exact_of y) (exact_of x))
unfolding lt exact_of
lt_exact nan y h k = absurd h
lt_exact (inf s) y h k = absurd h
lt_exact (fin s m e) nan h k = absurd k
lt_exact (fin s m e) (inf t) h k = absurd k
lt_exact (fin s m e) (fin t n d) h k =
    lt_signed s (m * up e * down d) t (n * up d * down e) ∙ ap not (sym (leq-parts t (n * up d) (down d) s (m * up e) (down e) (down_pos d) (down_pos e)))

pub neg_finite : (x : Float) → T (finite x) → T (finite (neg x))
unfolding neg
neg_finite nan h = h
neg_finite (inf s) h = h
neg_finite (fin s m e) h = h

pub neg_exact : (x : Float) → exact_of (neg x) ≡ negate (exact_of x)
unfolding neg exact_of negate parts nat
neg_exact nan = refl
neg_exact (inf s) = refl
neg_exact (fin true m e) = refl
neg_exact (fin false m e) = refl
