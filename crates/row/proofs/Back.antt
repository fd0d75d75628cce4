-- A row that is spelled reads back: the fields guessed from its bytes are its own, whatever stands behind it. So a text begins with at most one row.
-- Assumes nothing.
use Prim.Native.Nat.{ℕ, zero, suc, ◌+◌, ◌-◌, ◌/◌, ◌%◌, ◌^◌, ◌≤◌, ◌<◌}
use native.Mathlib.Nat.{pow-zero, pow-suc, div-lt_iff_lt-mul, div-add-mod', mod-eq_of_lt}
use native.Mathlib.Omega.{arith}
use native.Mathlib.Numerals.{add-one}
use mathlib.Core.Path.{◌≡◌, refl, sym, ap, ◌∙◌}
use mathlib.Core.Bool.{Bool, true, false}
use mathlib.Core.List.{List, [], ◌∷◌, ◌++◌, append_assoc}
use borrow.Author.Tests.{ltb-true, ltb-false, ne_eqb}
use lib.ListN.{length, drop, length-append}
use lib.Seq.{get_or_at, drop_at}
use lib.Dec.{ltb, eqb}
use Rattle.row.specs.declared.Row.{Row}
use Rattle.row.specs.Row.{small, spaced, front, digits, tail, row_text, Good}
use Rattle.row.specs.Guess.{figure, short_small, small_of, past, sign_of, front_past, number_of, power_of, guess1, guess2, guess3, guess4, guess_of}

pub figure-back : (d : ℕ) → d < 10 → figure (48 + d) ≡ d
unfolding figure
figure-back d h =
    let e : 48 + d - 48 ≡ d = omega arith in
    rw e (mod-eq_of_lt h)

-- a whole number and its space
record Spaced (n : ℕ) (rest : List ℕ) : Type 0 where
  value : small_of (spaced n ++ rest) ≡ n
  behind : drop (past (spaced n ++ rest)) (spaced n ++ rest) ≡ rest

spaced-back : (n : ℕ) (rest : List ℕ) → n < 100 → Spaced n rest
unfolding spaced small small_of past short_small
spaced-back n rest h = by (ltb n 10) refl
  where
    by : (b : Bool) → ltb n 10 ≡ b → Spaced n rest
    by true e = record { value = rw e (figure-back n (ltb-true n 10 e)); behind = rw e }
    by false e =
        let above : 10 ≤ n = ltb-false n 10 e in
        let no : eqb (48 + n % 10) 32 ≡ false = ne_eqb (48 + n % 10) 32 (λ k. omega arith) in
        record {
          value = rw (e, no, figure-back (n / 10) (omega arith), figure-back (n % 10) (omega arith)) (div-add-mod' n 10);
          behind = rw (e, no);
        }

front-sign : (b : Bool) (rest : List ℕ) → sign_of (front b ++ rest) ≡ b
unfolding front sign_of
front-sign true rest = refl
front-sign false rest = refl

front-behind : (b : Bool) (rest : List ℕ) → drop (front_past (front b ++ rest)) (front b ++ rest) ≡ rest
unfolding front sign_of front_past
front-behind true rest = refl
front-behind false rest = refl

pub digits-length : (k n : ℕ) → length (digits k n) ≡ k
unfolding digits
digits-length zero n = refl
digits-length (suc k) n = length-append (digits k (n / 10)) ((48 + n % 10) ∷ []) ∙ ap (λ m. m + 1) (digits-length k (n / 10)) ∙ add-one k

digits-back : (k n : ℕ) (rest : List ℕ) → n < 10 ^ k → number_of (digits k n ++ rest) k ≡ n
unfolding digits number_of
digits-back zero n rest h = omega (arith, pow-zero 10)
digits-back (suc k) n rest h =
    let less : n / 10 < 10 ^ k = (div-lt_iff_lt-mul {k = 10} (omega arith)).1 (rw pow-suc at h) in
    let last : ℕ = 48 + n % 10 in
    let whole : digits (suc k) n ++ rest ≡ digits k (n / 10) ++ (last ∷ rest) = append_assoc (digits k (n / 10)) (last ∷ []) rest in
    ap (λ s. number_of s (suc k)) whole ∙ rw (
      digits-back k (n / 10) (last ∷ rest) less,
      get_or_at (digits k (n / 10)) last rest 0 k (digits-length k (n / 10)),
      figure-back (n % 10) (omega arith),
    )
    (div-add-mod' n 10)

power-back : (power : ℕ) (rest : List ℕ) → power < 16 → power_of (tail power ++ rest) ≡ power
unfolding tail power_of
power-back power rest h = by (ltb power 6) refl
  where
    by : (b : Bool) → ltb power 6 ≡ b → power_of (tail power ++ rest) ≡ power
    by true e =
        let below : power < 6 = ltb-true power 6 e in
        rw (e, figure-back (6 - power) (omega arith)) (omega arith)
    by false e =
        let above : 6 ≤ power = ltb-false power 6 e in
        let no : eqb (48 + (power - 6)) 45 ≡ false = ne_eqb (48 + (power - 6)) 45 (λ k. omega arith) in
        rw (e, no, figure-back (power - 6) (omega arith)) (omega arith)

-- the law that all else rests on
pub guess_back : (row : Row) (rest : List ℕ) → Good row → guess_of (row_text row ++ rest) ≡ row
unfolding row_text guess_of guess1 guess2 guess3 guess4
guess_back row rest g =
    let s5 : List ℕ = tail row.power ++ rest in
    let s4 : List ℕ = digits 10 row.ten ++ s5 in
    let s3 : List ℕ = front row.negative ++ s4 in
    let s2 : List ℕ = spaced row.t ++ s3 in
    let s1 : List ℕ = spaced row.d ++ s2 in
    let c = spaced-back row.c s1 (omega arith) in
    let d = spaced-back row.d s2 (omega arith) in
    let t = spaced-back row.t s3 (omega arith) in
    let whole : row_text row ++ rest ≡ spaced row.c ++ s1 = simp append_assoc in
    rw (
      whole,
      c.value,
      c.behind,
      d.value,
      d.behind,
      t.value,
      t.behind,
      front-sign row.negative s4,
      front-behind row.negative s4,
      digits-back 10 row.ten s5 g.ten_below,
      drop_at (digits 10 row.ten) s5 10 (digits-length 10 row.ten),
      power-back row.power rest (omega arith),
    )

-- a row at the front of a text is the guess
pub guess_only : (s : List ℕ) (row : Row) (rest : List ℕ) → Good row → s ≡ row_text row ++ rest → guess_of s ≡ row
guess_only s row rest g e = ap guess_of e ∙ guess_back row rest g

append_left : (x y z : List ℕ) → x ++ y ≡ x ++ z → y ≡ z
append_left x y z e = sym (drop_at x y (length x) refl) ∙ ap (drop (length x)) e ∙ drop_at x z (length x) refl

-- a text begins with at most one row, and so it has at most one rest
pub one-row : (a b : Row) (x y : List ℕ) → Good a → Good b → row_text a ++ x ≡ row_text b ++ y → (a ≡ b) × (x ≡ y)
one-row a b x y ga gb e =
    let same : a ≡ b = sym (guess_back a x ga) ∙ guess_only (row_text a ++ x) b y gb e in
    (same, append_left (row_text b) x y (ap (λ r. row_text r ++ x) (sym same) ∙ e))

pub digits-none : (k n : ℕ) → k ≡ 0 → digits k n ≡ []
unfolding digits
digits-none zero n h = refl
digits-none (suc k) n h = absurd (omega arith)

pub digits_more : (k n : ℕ) → 0 < k → digits (k - 1) (n / 10) ++ ((48 + n % 10) ∷ []) ≡ digits k n
unfolding digits
digits_more zero n h = absurd (omega arith)
digits_more (suc k) n h =
    let e : suc k - 1 ≡ k = omega arith in
    rw e
