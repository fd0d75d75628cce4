-- Digits say their number: read back in their base they give it again, and a decimal number has no zero in front. Assumes nothing.
use Prim.Native.Nat.{ℕ, zero, suc, ◌+◌, ◌-◌, ◌*◌, ◌/◌, ◌%◌, ◌^◌, ◌<◌, ◌≤◌}
use native.Mathlib.Nat.{pow-zero, pow-suc, le-div_iff_mul-le, div-lt_iff_lt-mul, div-add-mod', mod-eq_of_lt, mod-lt}
use native.Mathlib.Numerals.{add-one}
use native.Mathlib.Omega.{arith}
use mathlib.Core.Bool.{Bool, true, false, ◌||◌, cond}
use mathlib.Core.Path.{◌≡◌, refl, ap, ap₂, ◌∙◌}
use mathlib.Core.List.{List, [], ◌∷◌, ◌++◌}
use lib.Dec.{ltb, leb}
use lib.ListN.{length, get_or, length-append, get_or-append}
use borrow.Author.Tests.{ltb-true, ltb-false, leb-true, leb-false, lt-ltb, le-ltb}
use Rattle.line.specs.Digits.{glyph_of, digits_of, decimal_of, hex_of}

-- the digit of a letter
unfoldable pub figure : ℕ → ℕ
figure letter = cond (ltb letter 58) (letter - 48) (letter - 87)

-- the number that a text writes in a base, after a number already read
unfoldable pub writes : (base before : ℕ) → List ℕ → ℕ
writes base before [] = before
writes base before (letter ∷ text) = writes base (before * base + figure letter) text

figure-glyph : (d : ℕ) → d < 16 → figure (glyph_of d) ≡ d
unfolding figure glyph_of
figure-glyph d h = by (ltb d 10) refl
  where
    by : (b : Bool) → ltb d 10 ≡ b → figure (glyph_of d) ≡ d
    by true e =
        let below : d < 10 = ltb-true d 10 e in
        rw (e, lt-ltb (48 + d) 58 (omega arith)) (omega arith)
    by false e =
        let above : 10 ≤ d = ltb-false d 10 e in
        rw (e, le-ltb (97 + (d - 10)) 58 (omega arith)) (omega arith)

writes-last : (base before : ℕ) (text : List ℕ) (letter : ℕ) → writes base before (text ++ letter ∷ []) ≡ writes base before text * base + figure letter
unfolding writes
writes-last base before [] letter = refl
writes-last base before (x ∷ xs) letter = writes-last base (before * base + figure x) xs letter

or_false : (a b : Bool) → (a || b) ≡ false → b ≡ false
or_false true b h = cc
or_false false b h = h

-- a digit more: k digits say n / base, and the last one says what is left
module _ (base : ℕ) (zeros : Bool) (k n : ℕ) (more : 1 < base) (few : base ≤ 16) (front : writes base 0 (digits_of base zeros k (n / base)) ≡ n / base) where
  letter_says : figure (glyph_of (n % base)) ≡ n % base
  letter_says = figure-glyph (n % base) (omega (arith, mod-lt n {m = base} (omega arith)))

  says_next : (b : Bool) → (zeros || leb base n) ≡ b → writes base 0 (digits_of base zeros (suc k) n) ≡ n
  unfolding digits_of writes
  says_next true e =
      rw e (writes-last base 0 (digits_of base zeros k (n / base)) (glyph_of (n % base)) ∙ ap₂ (λ a b. a * base + b) front letter_says ∙ div-add-mod' n base)
  says_next false e = rw e (ap (λ b. 0 * base + b) (letter_says ∙ mod-eq_of_lt (leb-false base n (or_false zeros (leb base n) e))) ∙ omega arith)

pub read_back : (base : ℕ) (zeros : Bool) (most n : ℕ) → 1 < base → base ≤ 16 → n < base ^ most
    → writes base 0 (digits_of base zeros most n) ≡ n
unfolding digits_of writes
read_back base zeros zero n h l f = omega (arith, pow-zero base)
read_back base zeros (suc k) n h l f =
    says_next base zeros k n h l
    (read_back base zeros k (n / base) h l ((div-lt_iff_lt-mul {k = base} (omega arith)).1 (rw pow-suc at f)))
    (zeros || leb base n) refl

-- with zeros in front there are as many digits as asked for
pub digits-length : (base most n : ℕ) → length (digits_of base true most n) ≡ most
unfolding digits_of
digits-length base zero n = refl
digits-length base (suc k) n =
    length-append (digits_of base true k (n / base)) (glyph_of (n % base) ∷ []) ∙ ap (λ m. m + 1) (digits-length base k (n / base)) ∙ add-one k

-- a text that does not begin with '0'
abbrev pub Leads : List ℕ → Type 0
Leads text = (0 < length text) × (get_or text 0 0 ≡ 48 → ⊥)

glyph_leads : (d : ℕ) → 0 < d → glyph_of d ≡ 48 → ⊥
unfolding glyph_of
glyph_leads d h = by (ltb d 10) refl
  where
    by : (b : Bool) → ltb d 10 ≡ b → glyph_of d ≡ 48 → ⊥
    by true e g =
        let sum : 48 + d ≡ 48 = rw e at g in
        omega arith
    by false e g =
        let sum : 97 + (d - 10) ≡ 48 = rw e at g in
        omega arith

leads_next : (base k n : ℕ) → 0 < n → (b : Bool) → leb base n ≡ b → (b ≡ true → Leads (digits_of base false k (n / base)))
    → Leads (digits_of base false (suc k) n)
unfolding digits_of
leads_next base k n h true e front =
    let l : 0 < length (digits_of base false k (n / base)) = (front refl).0 in
    rw e (
      rw length-append (omega arith),
      rw (get_or-append (digits_of base false k (n / base)) (glyph_of (n % base) ∷ []) 0 0 l) (front refl).1,
    )
leads_next base k n h false e front =
    rw e (omega arith, rw (mod-eq_of_lt (leb-false base n e)) (glyph_leads n h))

-- without zeros in front no number but 0 begins with one
pub no_zero_in_front : (base most n : ℕ) → 1 < base → 0 < n → n < base ^ most → Leads (digits_of base false most n)
no_zero_in_front base zero n h l f = absurd (omega (arith, pow-zero base))
no_zero_in_front base (suc k) n h l f =
    leads_next base k n l (leb base n) refl
    λ e. no_zero_in_front base k (n / base) h ((le-div_iff_mul-le {k = base} {x = 1} (omega arith)).1 (omega (arith, leb-true base n e))) ((div-lt_iff_lt-mul {k = base} (omega arith)).1 (rw pow-suc at f))

-- the two ends and the three numbers of a line, for every u64
pub hex_says : (n : ℕ) → n < 2 ^ 64 → (writes 16 0 (hex_of n) ≡ n) × (length (hex_of n) ≡ 16)
unfolding hex_of
hex_says n h = (read_back 16 true 16 n (omega arith) (omega arith) h, digits-length 16 16 n)

pub decimal_says : (n : ℕ) → n < 2 ^ 64 → (writes 10 0 (decimal_of n) ≡ n) × (0 < n → Leads (decimal_of n))
unfolding decimal_of
decimal_says n h =
    (read_back 10 false 20 n (omega arith) (omega arith) (omega arith), λ l. no_zero_in_front 10 20 n (omega arith) l (omega arith))
