-- The laws of down and up over the count of bits, suc v: each is unique, the functions meet them, they keep the order, mirror each other,
-- leave a sheet number as it is, look only at the value, and go through a power of two. Assumes nothing.
use mathlib.Core.Path.{◌≡◌, refl, ap, ◌∙◌}
use mathlib.Core.Logic.{inl, inr, ⊎_elim}
use mathlib.Core.Bool.{Bool, true, false, not, ◌&&◌, xor}
use Prim.Native.Nat.{ℕ, suc, ◌+◌, ◌*◌, ◌^◌, ◌≤◌, ◌<◌}
use native.Mathlib.Nat.{mul-one, zero-mul}
use native.Mathlib.Omega.{arith}
use borrow.Author.Tests.{ne_eqb}
use lib.Dec.{eqb}
use lib.Pow.{pow_pos, pow-add}
use Rattle.exact.specs.Fraction.{Fraction, nat, parts, negative, top, bottom, negate, ◌⊗◌, ◌≼◌, ◌≈◌}
use Rattle.exact.proofs.Fraction.Order.{≼_trans, ≼-antisym, ≼-not-≺, ≈→≼, ≈→≽, ≈-refl, ≈-sym, ≈-trans, ≈-≼-trans, ≼-≈-trans}
use Rattle.exact.proofs.Fraction.Sum.{negate-cong}
use Rattle.exact.proofs.Fraction.Product.{⊗-cong}
use Rattle.exact.proofs.Fraction.Parts.{parts-≈, parts-≼_across, ≼-parts-zero, parts-zero, parts-nat, parts-nonneg, parts-negate, parts-⊗, bottom-pos, as_parts, negative-true}
use Rattle.sheet.specs.declared.Sheet.{Sheet}
use Rattle.sheet.specs.Magnitude.{Magnitude, units, round_mag, Side, raise}
use Rattle.sheet.specs.Number.{bias, value, plain_zero, signed, negate_sheet, raise_sheet, Normal, Spelled, SheetNumber, nought, number}
use Rattle.sheet.specs.Round.{IsDown, IsUp, away, round, down, up, Reached}
use Rattle.sheet.proofs.Gaps.{zero_or_pos}
use Rattle.sheet.proofs.Rounding.{round_fit, round_full, round_side, round_best, round_own, round_zero, round_raise}
use Rattle.sheet.proofs.Signed.{Sided, sided_resp, sided_parts, parts-sided, side-mul, side-cancel, side-eq, signed-value, signed-zero, round_parts}
use Rattle.sheet.proofs.Spelling.{zero_spelled, normal-spelled, signed-spelled, signed-self, one-spelling}

-- ---- at most one sheet number meets either

-- a normal number is a sheet number
normal-number : (v : ℕ) (s : Sheet) → Normal v s → (y : Fraction) × SheetNumber v y × (y ≈ value s)
unfolding value
normal-number v s (inl z) = (nat 0, nought, ≈-sym (rw z (parts-zero false (2 ^ bias))))
normal-number v s (inr d) = (parts s.neg (s.m * 2 ^ s.e) (2 ^ bias), number s.neg s.m s.e bias d, ≈-refl _)

pub down_unique : {v : ℕ} {x : Fraction} {s t : Sheet} → IsDown v x s → IsDown v x t → s ≡ t
down_unique {v} {x} {s} {t} p q =
    one-spelling v s t (normal-spelled v s p.normal) (normal-spelled v t q.normal) (≼-antisym (half s t p q) (half t s q p))
  where
    half : (a b : Sheet) → IsDown v x a → IsDown v x b → value a ≼ value b
    half a b h k =
        let n = normal-number v a h.normal in
        ≈-≼-trans (≈-sym n.2) (k.greatest n.0 n.1 (≈-≼-trans n.2 h.below))

pub up_unique : {v : ℕ} {x : Fraction} {s t : Sheet} → IsUp v x s → IsUp v x t → s ≡ t
up_unique {v} {x} {s} {t} p q =
    one-spelling v s t (normal-spelled v s p.normal) (normal-spelled v t q.normal) (≼-antisym (half t s q p) (half s t p q))
  where
    half : (a b : Sheet) → IsUp v x a → IsUp v x b → value b ≼ value a
    half a b h k =
        let n = normal-number v a h.normal in
        ≼-≈-trans (k.least n.0 n.1 (≼-≈-trans h.above (≈-sym n.2))) n.2

-- ---- the spelling of a rounding

pub round_spelled : (up : Bool) (v : ℕ) (x : Fraction) → Spelled v (round up (suc v) x)
unfolding round
round_spelled up v x =
    signed-spelled v (negative x) (round_mag (away up (negative x)) (suc v) (top x * 2 ^ bias) (bottom x))
    (round_fit (away up (negative x)) v (top x * 2 ^ bias) (bottom x) (bottom-pos x))

pub round_normal : (up : Bool) (v : ℕ) (x : Fraction) → Reached v x → Normal v (round up (suc v) x)
unfolding round signed Reached
round_normal up v x r = ⊎_elim none some (zero_or_pos (top x))
  where
    none : top x ≡ 0 → Normal v (round up (suc v) x)
    none z = inl (rw (z, zero-mul, round_zero (away up (negative x)) v (bottom x) (bottom-pos x)) (signed-zero (negative x) false))

    some : 0 < top x → Normal v (round up (suc v) x)
    some p =
        inr
        (record {
          low = round_full (away up (negative x)) v (top x * 2 ^ bias) (bottom x) (bottom-pos x) (r p);
          high = (round_fit (away up (negative x)) v (top x * 2 ^ bias) (bottom x) (bottom-pos x)).small;
        })

-- ---- inclusion: no premise

round_sided : (up : Bool) (v : ℕ) (x : Fraction) → Sided up (value (round up (suc v) x)) x
unfolding round
round_sided up v x =
    let n = negative x in
    let r = round_mag (away up n) (suc v) (top x * 2 ^ bias) (bottom x) in
    sided_resp up (≈-sym (signed-value n r)) (≈-sym (as_parts x))
    (sided_parts up n (units r) (2 ^ bias) (top x) (bottom x) (pow_pos bias) (bottom-pos x)
    (round_side (away up n) v (top x * 2 ^ bias) (bottom x) (bottom-pos x)))

pub down_le : (v : ℕ) (x : Fraction) → value (down (suc v) x) ≼ x
unfolding Sided
down_le v x = round_sided false v x

pub up_ge : (v : ℕ) (x : Fraction) → x ≼ value (up (suc v) x)
unfolding Sided
up_ge v x = round_sided true v x

-- ---- no sheet number on that side is nearer

-- of x's own sign: A / B is m · 2^c / 2^d units
best-same : (up : Bool) (v : ℕ) (x : Fraction) (n : Bool) → negative x ≡ n → (A B m c d : ℕ) → 0 < B → m < 2 ^ suc v → m * 2 ^ c * B ≡ A * 2 ^ bias * 2 ^ d
    → (0 < d → Reached v x) → Sided up (parts n A B) x → Sided up (parts n A B) (value (round up (suc v) x))
unfolding round Reached
best-same up v x n e A B m c d p s q r h =
    let t = top x in
    let b = bottom x in
    let a = away up n in
    let mag = round_mag a (suc v) (t * 2 ^ bias) b in
    let h1 = parts-sided up n A B t b p (bottom-pos x) (sided_resp up (≈-refl (parts n A B)) (rw e at (as_parts x)) h) in
    let h2 = side-mul a (2 ^ bias * 2 ^ d) (A * b) (t * B) h1 in
    let h3 : Side a (m * 2 ^ c * b * B) (t * 2 ^ bias * 2 ^ d * B) = side-eq a (omega (arith, ap (λ (k : ℕ). k * b) q)) (omega arith) h2 in
    let h4 = round_best a v (t * 2 ^ bias) b (bottom-pos x) m c d s enough (side-cancel a B (m * 2 ^ c * b) (t * 2 ^ bias * 2 ^ d) p h3) in
    let h5 : Side a (A * 2 ^ bias * 2 ^ d) (units mag * B * 2 ^ d) = side-eq a q (omega arith) (side-mul a B (m * 2 ^ c) (units mag * 2 ^ d) h4) in
    let h6 = sided_parts up n A B (units mag) (2 ^ bias) p (pow_pos bias) (side-cancel a (2 ^ d) (A * 2 ^ bias) (units mag * B) (pow_pos d) h5) in
    rw e (sided_resp up (≈-refl (parts n A B)) (≈-sym (signed-value n mag)) h6)
  where
    enough : 0 < d → 0 < top x * 2 ^ bias → 2 ^ v * bottom x ≤ top x * 2 ^ bias
    enough k l = ⊎_elim (λ z. absurd (let g : 0 < 0 * 2 ^ bias = rw z at l in omega (arith, rw zero-mul at g))) (r k) (zero_or_pos (top x))

round_nothing : (up : Bool) (v : ℕ) (x : Fraction) → top x ≡ 0 → value (round up (suc v) x) ≈ nat 0
unfolding round
round_nothing up v x z =
    rw (z, zero-mul, round_zero (away up (negative x)) v (bottom x) (bottom-pos x))
    (≈-trans (signed-value (negative x) (record { m = 0; e = 0 })) (parts-zero (negative x) (2 ^ bias)))

-- of the other sign
best-cross : (up : Bool) (v : ℕ) (x : Fraction) (n : Bool) → negative x ≡ n → (A B : ℕ) → 0 < B
    → Sided up (parts (not n) A B) x → Sided up (parts (not n) A B) (value (round up (suc v) x))
unfolding round Sided
best-cross false v x false e A B p h = rw e (≼-≈-trans (parts-≼_across A B _ (2 ^ bias)) (≈-sym (signed-value false _)))
best-cross true v x true e A B p h = rw e (≈-≼-trans (signed-value true _) (parts-≼_across _ (2 ^ bias) A B))
best-cross false v x true e A B p h = absurd (≼-not-≺ (≼_trans (parts-nonneg A B) h) (negative-true x e))
best-cross true v x false e A B p h =
    let z = ≼-parts-zero (top x) (bottom x) A B (bottom-pos x) p (≈-≼-trans (≈-sym (rw e at (as_parts x))) h) in
    ≈→≼ (≈-trans (round_nothing true v x z.0) (≈-sym (rw z.1 (parts-zero true B))))

best : (up : Bool) (v : ℕ) (x : Fraction) (s : Bool) (A B m c d : ℕ) → 0 < B → m < 2 ^ suc v → m * 2 ^ c * B ≡ A * 2 ^ bias * 2 ^ d
    → (0 < d → Reached v x) → Sided up (parts s A B) x → Sided up (parts s A B) (value (round up (suc v) x))
best up v x s A B m c d p l q r h = go (negative x) s refl h
  where
    go : (n t : Bool) → negative x ≡ n → Sided up (parts t A B) x → Sided up (parts t A B) (value (round up (suc v) x))
    go true true e k = best-same up v x true e A B m c d p l q r k
    go false false e k = best-same up v x false e A B m c d p l q r k
    go true false e k = best-cross up v x true e A B p k
    go false true e k = best-cross up v x false e A B p k

-- spelled numbers: no premise
best-spelled : (up : Bool) (v : ℕ) (x : Fraction) (s : Sheet) → s.m < 2 ^ suc v → Sided up (value s) x → Sided up (value s) (value (round up (suc v) x))
unfolding value
best-spelled up v x s l h =
    best up v x s.neg (s.m * 2 ^ s.e) (2 ^ bias) s.m s.e 0 (pow_pos bias) l (omega arith) (λ q. absurd (omega arith)) h

pub down_greatest : (v : ℕ) (x : Fraction) (s : Sheet) → Spelled v s → value s ≼ x → value s ≼ value (down (suc v) x)
unfolding Sided
down_greatest v x s p h = best-spelled false v x s p.fit.small h

pub up_least : (v : ℕ) (x : Fraction) (s : Sheet) → Spelled v s → x ≼ value s → value (up (suc v) x) ≼ value s
unfolding Sided
up_least v x s p h = best-spelled true v x s p.fit.small h

-- a number of at most suc v digits at any place is kept
pub round_short : (up : Bool) (v : ℕ) (x : Fraction) (s : Bool) (m k : ℕ) → m < 2 ^ suc v → x ≈ parts s (m * 2 ^ k) (2 ^ bias) → value (round up (suc v) x) ≈ x
unfolding value Sided
round_short false v x s m k l e =
    ≼-antisym (down_le v x) (≼_trans (≈→≼ e) (best-spelled false v x (record { neg = s; m = m; e = k }) l (≈→≽ e)))
round_short true v x s m k l e =
    ≼-antisym (≼_trans (best-spelled true v x (record { neg = s; m = m; e = k }) l (≈→≼ e)) (≈→≽ e)) (up_ge v x)

-- so is a whole number of at most suc v digits
pub round_whole : (up : Bool) (v n : ℕ) → n < 2 ^ suc v → value (round up (suc v) (nat n)) ≈ nat n
round_whole up v n h =
    round_short up v (nat n) false n bias h (≈-trans (≈-sym (parts-nat n)) (parts-≈ false n 1 (n * 2 ^ bias) (2 ^ bias) (omega arith) (pow_pos bias) (omega arith)))

pub whole_both : (up : Bool) (v n : ℕ) → n < 2 ^ suc v → round up (suc v) (nat n) ≡ round false (suc v) (nat n)
whole_both up v n h =
    one-spelling v (round up (suc v) (nat n)) (round false (suc v) (nat n)) (round_spelled up v (nat n)) (round_spelled false v (nat n))
    (≈-trans (round_whole up v n h) (≈-sym (round_whole false v n h)))

-- ---- the functions meet the predicates

best-number : (up : Bool) (v : ℕ) (x y : Fraction) → Reached v x → SheetNumber v y → Sided up y x → Sided up y (value (round up (suc v) x))
best-number up v x y r nought h =
    sided_resp up (parts-zero false 1) (≈-refl _)
    (best up v x false 0 1 0 0 0 (omega arith) (pow_pos (suc v)) (omega arith) (λ _. r) (sided_resp up (≈-sym (parts-zero false 1)) (≈-refl _) h))
best-number up v x y r (number neg m a b d) h =
    best up v x neg (m * 2 ^ a) (2 ^ b) m (a + bias) b (pow_pos b) d.high (rw pow-add (omega arith)) (λ _. r) h

pub down_is : (v : ℕ) (x : Fraction) → Reached v x → IsDown v x (down (suc v) x)
unfolding Sided
down_is v x r = record { normal = round_normal false v x r; below = down_le v x; greatest = λ y n h. best-number false v x y r n h }

pub up_is : (v : ℕ) (x : Fraction) → Reached v x → IsUp v x (up (suc v) x)
unfolding Sided
up_is v x r = record { normal = round_normal true v x r; above = up_ge v x; least = λ y n h. best-number true v x y r n h }

-- so whatever meets a predicate is the function's answer
pub down_only : (v : ℕ) {x : Fraction} {s : Sheet} → Reached v x → IsDown v x s → s ≡ down (suc v) x
down_only v {x} r p = down_unique p (down_is v x r)

pub up_only : (v : ℕ) {x : Fraction} {s : Sheet} → Reached v x → IsUp v x s → s ≡ up (suc v) x
up_only v {x} r p = up_unique p (up_is v x r)

-- ---- the order

pub round_mono : (up : Bool) (v : ℕ) {x y : Fraction} → x ≼ y → value (round up (suc v) x) ≼ value (round up (suc v) y)
round_mono false v {x} {y} h = down_greatest v y (down (suc v) x) (round_spelled false v x) (≼_trans (down_le v x) h)
round_mono true v {x} {y} h = up_least v x (up (suc v) y) (round_spelled true v y) (≼_trans h (up_ge v y))

-- a short number bounds the rounding of what it bounds
pub round_le_short : (up : Bool) (v : ℕ) {x y : Fraction} (s : Bool) (m k : ℕ) → m < 2 ^ suc v → y ≈ parts s (m * 2 ^ k) (2 ^ bias) → x ≼ y → value (round up (suc v) x) ≼ y
round_le_short up v {x} {y} s m k l e h = ≼-≈-trans (round_mono up v h) (round_short up v y s m k l e)

pub short-le_round : (up : Bool) (v : ℕ) {x y : Fraction} (s : Bool) (m k : ℕ) → m < 2 ^ suc v → y ≈ parts s (m * 2 ^ k) (2 ^ bias) → y ≼ x → y ≼ value (round up (suc v) x)
short-le_round up v {x} {y} s m k l e h = ≈-≼-trans (≈-sym (round_short up v y s m k l e)) (round_mono up v h)

pub round_le_whole : (up : Bool) (v n : ℕ) {x : Fraction} → n < 2 ^ suc v → x ≼ nat n → value (round up (suc v) x) ≼ nat n
round_le_whole up v n l h = ≼-≈-trans (round_mono up v h) (round_whole up v n l)

pub whole_le_round : (up : Bool) (v n : ℕ) {x : Fraction} → n < 2 ^ suc v → nat n ≼ x → nat n ≼ value (round up (suc v) x)
whole_le_round up v n l h = ≈-≼-trans (≈-sym (round_whole up v n l)) (round_mono up v h)

-- ---- only the value counts

pub round_resp : (up : Bool) (v : ℕ) {x y : Fraction} → x ≈ y → round up (suc v) x ≡ round up (suc v) y
unfolding round
round_resp up v {x} {y} e =
    round_parts up v x (negative y) (top y) (bottom y) (top y * 2 ^ bias) (bottom y) (bottom-pos y) (bottom-pos y) (≈-trans e (as_parts y)) refl

-- ---- a sheet number is its own rounding

pub round_value : (up : Bool) (v : ℕ) (s : Sheet) → Spelled v s → round up (suc v) (value s) ≡ s
unfolding value
round_value up v s p =
    round_parts up v (value s) s.neg (s.m * 2 ^ s.e) (2 ^ bias) (s.m * 2 ^ s.e * 1) 1 (pow_pos bias) (omega arith) (≈-refl _) (omega arith)
    ∙ ap (signed s.neg) (round_own (away up s.neg) v s.m s.e 1 (omega arith) p.fit)
    ∙ signed-self v s p

pub round_nought : (up : Bool) (v : ℕ) {x : Fraction} → x ≈ nat 0 → round up (suc v) x ≡ plain_zero
unfolding value
round_nought up v {x} e =
    round_resp up v {y = value plain_zero} (≈-trans e (≈-sym (parts-zero false (2 ^ bias)))) ∙ round_value up v plain_zero (zero_spelled v)

-- ---- the mirror

away-not : (up n : Bool) → away up (not n) ≡ away (not up) n
unfolding away
away-not true true = refl
away-not true false = refl
away-not false true = refl
away-not false false = refl

negate-signed : (n : Bool) (x : Magnitude) → signed (not n) x ≡ negate_sheet (signed n x)
unfolding signed negate_sheet
negate-signed n x = λ i. record { neg = go n (eqb x.m 0) i; m = x.m; e = x.e }
  where
    go : (a b : Bool) → (not a && not b) ≡ (not (a && not b) && not b)
    go true true = refl
    go true false = refl
    go false true = refl
    go false false = refl

pub round_negate : (up : Bool) (v : ℕ) (x : Fraction) → round up (suc v) (negate x) ≡ negate_sheet (round (not up) (suc v) x)
unfolding round
round_negate up v x =
    let n = negative x in
    round_parts up v (negate x) (not n) (top x) (bottom x) (top x * 2 ^ bias) (bottom x) (bottom-pos x) (bottom-pos x)
    (≈-trans (negate-cong (as_parts x)) (parts-negate n (top x) (bottom x))) refl
    ∙ ap (λ (a : Bool). signed (not n) (round_mag a (suc v) (top x * 2 ^ bias) (bottom x))) (away-not up n)
    ∙ negate-signed n (round_mag (away (not up) n) (suc v) (top x * 2 ^ bias) (bottom x))

pub negate-value : (s : Sheet) → value (negate_sheet s) ≈ negate (value s)
unfolding value negate_sheet
negate-value s =
    ≈-trans (signed-value (not s.neg) (record { m = s.m; e = s.e })) (≈-sym (parts-negate s.neg (s.m * 2 ^ s.e) (2 ^ bias)))

pub negate-spelled : (v : ℕ) (s : Sheet) → Spelled v s → Spelled v (negate_sheet s)
unfolding negate_sheet
negate-spelled v s p = signed-spelled v (not s.neg) (record { m = s.m; e = s.e }) p.fit

-- ---- a power of two as a factor

raise-signed : (t : ℕ) (n : Bool) (x : Magnitude) → 0 < x.m → signed n (raise t x) ≡ raise_sheet t (signed n x)
unfolding signed raise_sheet
raise-signed t n x p = rw (ne_eqb x.m 0 (λ z. omega arith))

raise_zero : (t : ℕ) (n : Bool) → signed n (record { m = 0; e = 0 }) ≡ raise_sheet t (signed n (record { m = 0; e = 0 }))
unfolding signed raise_sheet
raise_zero t n = refl

times_power : (x : Fraction) (t : ℕ) → x ⊗ nat (2 ^ t) ≈ parts (negative x) (top x * 2 ^ t) (bottom x)
unfolding xor
times_power x t = go (negative x) refl
  where
    go : (n : Bool) → negative x ≡ n → x ⊗ nat (2 ^ t) ≈ parts n (top x * 2 ^ t) (bottom x)
    go true e =
        rw mul-one at (≈-trans (⊗-cong (rw e at (as_parts x)) (≈-sym (parts-nat (2 ^ t)))) (parts-⊗ true false (top x) (bottom x) (2 ^ t) 1 (bottom-pos x) (omega arith)))
    go false e =
        rw mul-one at (≈-trans (⊗-cong (rw e at (as_parts x)) (≈-sym (parts-nat (2 ^ t)))) (parts-⊗ false false (top x) (bottom x) (2 ^ t) 1 (bottom-pos x) (omega arith)))

pub round_scale : (up : Bool) (v : ℕ) (x : Fraction) (t : ℕ) → Reached v x → round up (suc v) (x ⊗ nat (2 ^ t)) ≡ raise_sheet t (round up (suc v) x)
unfolding round Reached
round_scale up v x t r =
    round_parts up v (x ⊗ nat (2 ^ t)) (negative x) (top x * 2 ^ t) (bottom x) (top x * 2 ^ bias * 2 ^ t) (bottom x) (bottom-pos x) (bottom-pos x)
    (times_power x t) (omega arith)
    ∙ ⊎_elim none some (zero_or_pos (top x))
  where
    n : Bool
    n = negative x

    a : Bool
    a = away up n

    none : top x ≡ 0 → signed n (round_mag a (suc v) (top x * 2 ^ bias * 2 ^ t) (bottom x)) ≡ raise_sheet t (signed n (round_mag a (suc v) (top x * 2 ^ bias) (bottom x)))
    none z = rw (z, zero-mul (2 ^ bias), zero-mul (2 ^ t), round_zero a v (bottom x) (bottom-pos x)) (raise_zero t n)

    some : 0 < top x → signed n (round_mag a (suc v) (top x * 2 ^ bias * 2 ^ t) (bottom x)) ≡ raise_sheet t (signed n (round_mag a (suc v) (top x * 2 ^ bias) (bottom x)))
    some p =
        let mag = round_mag a (suc v) (top x * 2 ^ bias) (bottom x) in
        let l : 2 ^ v ≤ mag.m = round_full a v (top x * 2 ^ bias) (bottom x) (bottom-pos x) (r p) in
        rw (round_raise a v (top x * 2 ^ bias) (bottom x) t (bottom-pos x) (r p)) (raise-signed t n mag (let g = pow_pos v in omega arith))
