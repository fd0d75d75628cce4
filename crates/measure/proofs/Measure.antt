-- The measures through the operations: product, quotient, sum, difference and rounding, over the count of bits suc v. Every range is shown by
-- these. Laws never subtract: they take inequalities between exponents. Assumes nothing.
use mathlib.Core.Path.{◌≡◌, refl, sym, ap, ◌∙◌, subst}
use mathlib.Core.Logic.{◌⊎◌, inl, inr, ⊎_elim}
use mathlib.Core.Bool.{Bool, true, false, not, xor}
use Prim.Native.Nat.{ℕ, zero, suc, ◌+◌, ◌-◌, ◌*◌, ◌^◌, ◌≤◌, ◌<◌}
use native.Mathlib.Nat.{le_antisymm, mul-lt-mul_of_pos_right, le_trans, mul-le-mul, mul-le-mul_left, mul-le-mul_right, le_of_mul-le-mul_right, mul-pos, zero-mul, mul-zero, one-mul, le_dest}
use native.Mathlib.Omega.{arith}
use lib.Pow.{pow-add, pow_mono, pow_pos}
use Rattle.exact.specs.Fraction.{Fraction, nat, parts, top, bottom, negate, ◌⊕◌, ◌⊖◌, ◌⊗◌, ◌⊘◌, ◌≼◌, ◌≺◌, ◌≈◌}
use Rattle.exact.proofs.Fraction.Order.{≼_trans, ≼-≈-trans, ≼-not-≺, ≈→≼, ≈-≼-trans, ≺-≈-trans, ≈-sym, ≈-trans, ≈-refl}
use Rattle.exact.proofs.Fraction.Sum.{⊕-cong, ⊖-is, negate-⊖, negate-cong, ⊕-comm}
use Rattle.exact.proofs.Fraction.Product.{⊗-cong}
use Rattle.exact.proofs.Fraction.Quotient.{⊘-cong}
use Rattle.exact.proofs.Fraction.Parts.{≼-negative, as_parts, bottom-pos, ≼-parts, parts-nonneg, parts-nat, parts-zero, parts-nonpos, parts-pos, parts-⊗, parts-⊘, parts-⊕, parts-⊕_less, parts-negate, parts-≈}
use Rattle.sheet.specs.declared.Sheet.{Sheet}
use Rattle.sheet.specs.Magnitude.{Magnitude, units, round_mag}
use Rattle.sheet.specs.Number.{bias, value}
use Rattle.sheet.specs.Round.{away, round}
use Rattle.sheet.proofs.Gaps.{zero_or_pos, le_or_lt, pow_le_split}
use Rattle.sheet.proofs.Measures.{place_low}
use Rattle.sheet.proofs.Rounding.{keep_low, keep_high, round_fit, round_zero}
use Rattle.sheet.proofs.Signed.{round_parts, signed-value}
use Rattle.measure.specs.Measure.{Sized, Fine, Digited}

-- 2^l times 2^k is at most 2^a times 2^b
pow_two : (l k a b : ℕ) → l + k ≤ a + b → 2 ^ l * 2 ^ k ≤ 2 ^ a * 2 ^ b
pow_two l k a b h = rw (← pow-add 2 l k, ← pow-add 2 a b) (pow_mono h)

pub one-few : (v : ℕ) → 1 < 2 ^ suc v
one-few v = let p = pow_pos v in omega arith

-- the measures look at the number and not at how it is written
pub sized_cong : {l h : ℕ} {x y : Fraction} → x ≈ y → Sized l h x → Sized l h y
sized_cong e s = record { neg = s.neg; num = s.num; den = s.den; is = ≈-trans (≈-sym e) s.is; some = s.some; least = s.least; most = s.most }

pub fine_cong : {g h : ℕ} {x y : Fraction} → x ≈ y → Fine g h x → Fine g h y
fine_cong e s = record { neg = s.neg; times = s.times; is = ≈-trans (≈-sym e) s.is; most = s.most }

-- ---- products

⊗-least : (l la lb a b c e : ℕ) → l + bias ≤ la + lb → 2 ^ la * b ≤ a * 2 ^ bias → 2 ^ lb * e ≤ c * 2 ^ bias
    → 2 ^ l * (b * e) ≤ a * c * 2 ^ bias
⊗-least l la lb a b c e h p q =
    le_of_mul-le-mul_right {k = 2 ^ bias}
    (le_trans
    (let x = mul-le-mul_right (b * e) (pow_two l bias la lb h) in let y : 2 ^ l * (b * e) * 2 ^ bias ≤ 2 ^ la * b * (2 ^ lb * e) = omega (arith, x) in y)
    (let x = mul-le-mul p q in let y : 2 ^ la * b * (2 ^ lb * e) ≤ a * c * 2 ^ bias * 2 ^ bias = omega (arith, x) in y))
    (pow_pos bias)

⊗-most : (h ha hb a b c e : ℕ) → ha + hb ≤ h + bias → a * 2 ^ bias ≤ 2 ^ ha * b → c * 2 ^ bias ≤ 2 ^ hb * e
    → a * c * 2 ^ bias ≤ 2 ^ h * (b * e)
⊗-most h ha hb a b c e k p q =
    le_of_mul-le-mul_right {k = 2 ^ bias}
    (le_trans
    (let x = mul-le-mul p q in let y : a * c * 2 ^ bias * 2 ^ bias ≤ 2 ^ ha * b * (2 ^ hb * e) = omega (arith, x) in y)
    (let x = mul-le-mul_right (b * e) (pow_two ha hb h bias k) in let y : 2 ^ ha * b * (2 ^ hb * e) ≤ 2 ^ h * (b * e) * 2 ^ bias = omega (arith, x) in y))
    (pow_pos bias)

pub ⊗-sized : {la ha lb hb l h : ℕ} {x y : Fraction} → l + bias ≤ la + lb → ha + hb ≤ h + bias → Sized la ha x → Sized lb hb y → Sized l h (x ⊗ y)
⊗-sized {la} {ha} {lb} {hb} {l} {h} {x} {y} p q s t =
    record {
      neg = xor s.neg t.neg;
      num = s.num * t.num;
      den = s.den * t.den;
      is = ≈-trans (⊗-cong s.is t.is) (parts-⊗ s.neg t.neg s.num s.den t.num t.den s.some t.some);
      some = mul-pos s.some t.some;
      least = go s.least t.least;
      most = ⊗-most h ha hb s.num s.den t.num t.den q s.most t.most;
    }
  where
    go : (s.num ≡ 0) ⊎ (2 ^ la * s.den ≤ s.num * 2 ^ bias) → (t.num ≡ 0) ⊎ (2 ^ lb * t.den ≤ t.num * 2 ^ bias)
        → (s.num * t.num ≡ 0) ⊎ (2 ^ l * (s.den * t.den) ≤ s.num * t.num * 2 ^ bias)
    go (inl z) n = inl (rw (z, zero-mul))
    go (inr m) (inl z) = inl (rw (z, mul-zero))
    go (inr m) (inr n) = inr (⊗-least l la lb s.num s.den t.num t.den p m n)

-- ---- quotients by what is above zero

⊘-least : (l la hb a b c e : ℕ) → l + hb ≤ la + bias → 2 ^ la * b ≤ a * 2 ^ bias → c * 2 ^ bias ≤ 2 ^ hb * e → 2 ^ l * (b * c) ≤ a * e * 2 ^ bias
⊘-least l la hb a b c e h p q =
    le_of_mul-le-mul_right {k = 2 ^ hb}
    (le_trans
    (let x = mul-le-mul_right (b * c) (pow_two l hb la bias h) in let y : 2 ^ l * (b * c) * 2 ^ hb ≤ 2 ^ la * b * (c * 2 ^ bias) = omega (arith, x) in y)
    (let x = mul-le-mul p q in let y : 2 ^ la * b * (c * 2 ^ bias) ≤ a * e * 2 ^ bias * 2 ^ hb = omega (arith, x) in y))
    (pow_pos hb)

⊘-most : (h ha lb a b c e : ℕ) → ha + bias ≤ h + lb → a * 2 ^ bias ≤ 2 ^ ha * b → 2 ^ lb * e ≤ c * 2 ^ bias → a * e * 2 ^ bias ≤ 2 ^ h * (b * c)
⊘-most h ha lb a b c e k p q =
    le_of_mul-le-mul_right {k = 2 ^ lb}
    (le_trans
    (let x = mul-le-mul p q in let y : a * e * 2 ^ bias * 2 ^ lb ≤ 2 ^ ha * b * (c * 2 ^ bias) = omega (arith, x) in y)
    (let x = mul-le-mul_right (b * c) (pow_two ha bias h lb k) in let y : 2 ^ ha * b * (c * 2 ^ bias) ≤ 2 ^ h * (b * c) * 2 ^ lb = omega (arith, x) in y))
    (pow_pos lb)

-- a size above zero is that of a positive numerator
sized_pos : {l h : ℕ} {y : Fraction} → nat 0 ≺ y → (s : Sized l h y) → (y ≈ parts false s.num s.den) × (0 < s.num)
sized_pos {y = y} p s = go s.neg s.is
  where
    go : (n : Bool) → y ≈ parts n s.num s.den → (y ≈ parts false s.num s.den) × (0 < s.num)
    go true e = absurd (≼-not-≺ (≈-≼-trans e (parts-nonpos s.num s.den)) p)
    go false e = (e, ⊎_elim (λ z. absurd (≼-not-≺ (≈→≼ (≈-trans e (rw z (parts-zero false s.den)))) p)) (λ k. k) (zero_or_pos s.num))

pub ⊘-sized : {la ha lb hb l h : ℕ} {x y : Fraction} → l + hb ≤ la + bias → ha + bias ≤ h + lb → nat 0 ≺ y → Sized la ha x → Sized lb hb y
    → Sized l h (x ⊘ y)
⊘-sized {la} {ha} {lb} {hb} {l} {h} {x} {y} p q pos s t =
    let k = sized_pos pos t in
    record {
      neg = s.neg;
      num = s.num * t.den;
      den = s.den * t.num;
      is =
          ≈-trans (≈-sym (⊘-cong (≺-≈-trans (parts-pos t.num t.den k.1) (≈-refl _)) (≈-sym s.is) (≈-sym k.0)))
          (parts-⊘ s.neg s.num s.den t.num t.den s.some k.1 t.some);
      some = mul-pos s.some k.1;
      least = go s.least;
      most = ⊘-most h ha lb s.num s.den t.num t.den q s.most (low t.least k.1);
    }
  where
    go : (s.num ≡ 0) ⊎ (2 ^ la * s.den ≤ s.num * 2 ^ bias) → (s.num * t.den ≡ 0) ⊎ (2 ^ l * (s.den * t.num) ≤ s.num * t.den * 2 ^ bias)
    go (inl z) = inl (rw (z, zero-mul))
    go (inr m) = inr (⊘-least l la hb s.num s.den t.num t.den p m t.most)

    low : (t.num ≡ 0) ⊎ (2 ^ lb * t.den ≤ t.num * 2 ^ bias) → 0 < t.num → 2 ^ lb * t.den ≤ t.num * 2 ^ bias
    low (inl z) m = absurd (omega arith)
    low (inr n) m = n

-- ---- sums and differences

pub negate-fine : {g h : ℕ} {x : Fraction} → Fine g h x → Fine g h (negate x)
negate-fine {g} s =
    record { neg = not s.neg; times = s.times; is = ≈-trans (negate-cong s.is) (parts-negate s.neg (s.times * 2 ^ g) (2 ^ bias)); most = s.most }

-- the size of a sum of two sizes over one divisor: their sum, or what one has more than the other
data Joined (a b : ℕ) : ℕ → Type 0 where
  both : Joined a b (a + b)
  first : {z : ℕ} → z + b ≡ a → Joined a b z
  second : {z : ℕ} → z + a ≡ b → Joined a b z

apart : (a b d : ℕ) → b ≤ a → (a * d - b * d) * d ≡ (a - b) * (d * d)
apart a b d l =
    let k = le_dest l in
    let e : a * d - b * d ≡ k.0 * d = omega (arith, ap (λ (n : ℕ). n * d) k.1) in
    let f : a - b ≡ k.0 = omega (arith, k.1) in
    rw (e, f) (omega arith)

record Together (a b d : ℕ) (x : Fraction) : Type 0 where
  neg : Bool
  size : ℕ
  is : x ≈ parts neg size d
  how : Joined a b size

together : {x y : Fraction} (n m : Bool) (a b d : ℕ) → 0 < d → x ≈ parts n a d → y ≈ parts m b d → Together a b d (x ⊕ y)
together {x} {y} n m a b d pos p q = go n m p q
  where
    same : (n : Bool) → x ≈ parts n a d → y ≈ parts n b d → Together a b d (x ⊕ y)
    same n p q =
        record {
          neg = n;
          size = a + b;
          is =
              ≈-trans (≈-trans (⊕-cong p q) (parts-⊕ n a d b d pos pos))
              (parts-≈ n (a * d + b * d) (d * d) (a + b) d (mul-pos pos pos) pos (omega arith));
          how = both;
        }

    less : {u v : Fraction} (n : Bool) (a b : ℕ) → b ≤ a → u ≈ parts n a d → v ≈ parts (not n) b d → u ⊕ v ≈ parts n (a - b) d
    less n a b l p q =
        ≈-trans (≈-trans (⊕-cong p q) (parts-⊕_less n a d b d pos pos (mul-le-mul_right d l)))
        (parts-≈ n (a * d - b * d) (d * d) (a - b) d (mul-pos pos pos) pos (apart a b d l))

    other : (n : Bool) → x ≈ parts n a d → y ≈ parts (not n) b d → y ≈ parts (not n) b d → x ≈ parts (not (not n)) a d → Together a b d (x ⊕ y)
    other n p q q' p' =
        ⊎_elim (λ (l : b ≤ a). record { neg = n; size = a - b; is = less n a b l p q; how = first (omega arith) })
        (λ (l : a < b). record { neg = not n; size = b - a; is = ≈-trans (⊕-comm x y) (less (not n) b a (omega arith) q' p'); how = second (omega arith) })
        (le_or_lt b a)

    go : (n m : Bool) → x ≈ parts n a d → y ≈ parts m b d → Together a b d (x ⊕ y)
    go true true p q = same true p q
    go false false p q = same false p q
    go true false p q = other true p q q p
    go false true p q = other false p q q p

-- multiples of 2^g
difference : (z a b q : ℕ) → 0 < q → z + b * q ≡ a * q → z ≡ (a - b) * q
difference z a b q pos e =
    let k = le_dest (le_of_mul-le-mul_right {m = b} {n = a} (omega arith) pos) in
    let f : a - b ≡ k.0 = omega (arith, k.1) in
    rw f (omega (arith, ap (λ (n : ℕ). n * q) k.1))

joined-fine : (g h a b z : ℕ) → a * 2 ^ g ≤ 2 ^ h → b * 2 ^ g ≤ 2 ^ h → Joined (a * 2 ^ g) (b * 2 ^ g) z → (k : ℕ) × (z ≡ k * 2 ^ g) × (z ≤ 2 ^ suc h)
joined-fine g h a b z p q both = (a + b, omega arith, omega arith)
joined-fine g h a b z p q (first e) = (a - b, difference z a b (2 ^ g) (pow_pos g) e, omega arith)
joined-fine g h a b z p q (second e) = (b - a, difference z b a (2 ^ g) (pow_pos g) e, omega arith)

pub ⊕-fine : {g h : ℕ} {x y : Fraction} → Fine g h x → Fine g h y → Fine g (suc h) (x ⊕ y)
⊕-fine {g} {h} {x} {y} s t =
    let k = together s.neg t.neg (s.times * 2 ^ g) (t.times * 2 ^ g) (2 ^ bias) (pow_pos bias) s.is t.is in
    let f = joined-fine g h s.times t.times k.size s.most t.most k.how in
    record { neg = k.neg; times = f.0; is = rw f.1 at k.is; most = rw f.1 at f.2 }

pub ⊖-fine : {g h : ℕ} {x y : Fraction} → Fine g h x → Fine g h y → Fine g (suc h) (x ⊖ y)
⊖-fine {x = x} {y = y} s t = fine_cong (≈-sym (⊖-is x y)) (⊕-fine s (negate-fine t))

-- ---- rounding

pub round_sized : (up : Bool) (v : ℕ) {l h : ℕ} {x : Fraction} → Sized l h x → Digited v l h (value (round up (suc v) x))
round_sized up v {l} {h} {x} s =
    subst (λ (r : Sheet). Digited v l h (value r)) (sym (round_parts up v x s.neg s.num s.den num s.den s.some s.some s.is refl))
    (record {
      neg = s.neg;
      m = mag.m;
      e = mag.e;
      is = signed-value s.neg mag;
      few = (round_fit a v num s.den s.some).small;
      least = go s.least;
      most = rw one-mul at (keep_high a v num s.den s.some 1 h (one-few v) (rw one-mul s.most));
    })
  where
    a : Bool
    a = away up s.neg

    num : ℕ
    num = s.num * 2 ^ bias

    mag : Magnitude
    mag = round_mag a (suc v) num s.den

    go : (s.num ≡ 0) ⊎ (2 ^ l * s.den ≤ s.num * 2 ^ bias) → (mag.m ≡ 0) ⊎ (2 ^ l ≤ mag.m * 2 ^ mag.e)
    go (inl z) = inl (ap (λ (k : Magnitude). k.m) (ap (λ (k : ℕ). round_mag a (suc v) k s.den) (rw (z, zero-mul)) ∙ round_zero a v s.den s.some))
    go (inr m) = inr (rw one-mul at (keep_low a v num s.den s.some 1 l (one-few v) (rw one-mul m)))

-- a magnitude whose place is below g, of a multiple of 2^g, is that multiple: nothing was cut
exact_below : (a : Bool) (v g k : ℕ) → (round_mag a (suc v) (k * 2 ^ g) 1).e < g → units (round_mag a (suc v) (k * 2 ^ g) 1) ≡ k * 2 ^ g
exact_below a v g k below = ⊎_elim large small (le_or_lt (2 ^ v) k)
  where
    mag : Magnitude
    mag = round_mag a (suc v) (k * 2 ^ g) 1

    large : 2 ^ v ≤ k → units mag ≡ k * 2 ^ g
    large l =
        let p = keep_low a v (k * 2 ^ g) 1 (omega arith) 1 (v + g) (one-few v) (rw (pow-add 2 v g) (omega (arith, mul-le-mul_right (2 ^ g) l))) in
        let q : 2 ^ v * 2 ^ g ≤ mag.m * 2 ^ mag.e = rw (one-mul, pow-add 2 v g) at p in
        let f : mag.m < 2 * 2 ^ v = omega (arith, (round_fit a v (k * 2 ^ g) 1 (omega arith)).small) in
        let m = mul-lt-mul_of_pos_right f (pow_pos mag.e) in
        let n = mul-le-mul_left (2 ^ v) (let o : 2 * 2 ^ mag.e ≤ 2 ^ g = omega (arith, pow_mono {i = suc mag.e} {j = g} below) in o) in
        absurd (omega (arith, m, n))

    small : k < 2 ^ v → units mag ≡ k * 2 ^ g
    small l =
        le_antisymm (keep_high a v (k * 2 ^ g) 1 (omega arith) k g (omega arith) (omega arith))
        (keep_low a v (k * 2 ^ g) 1 (omega arith) k g (omega arith) (omega arith))

round_multiple : (a : Bool) (v g k : ℕ) → (j : ℕ) × (units (round_mag a (suc v) (k * 2 ^ g) 1) ≡ j * 2 ^ g)
round_multiple a v g k = ⊎_elim above below (le_or_lt g mag.e)
  where
    mag : Magnitude
    mag = round_mag a (suc v) (k * 2 ^ g) 1

    above : g ≤ mag.e → (j : ℕ) × (units mag ≡ j * 2 ^ g)
    above l = let s = pow_le_split g mag.e l in (mag.m * 2 ^ s.0, omega (arith, ap (λ (n : ℕ). mag.m * n) s.1))

    below : mag.e < g → (j : ℕ) × (units mag ≡ j * 2 ^ g)
    below l = (k, exact_below a v g k l)

pub round_fine : (up : Bool) (v : ℕ) {g h : ℕ} {x : Fraction} → Fine g h x → Fine g h (value (round up (suc v) x))
round_fine up v {g} {h} {x} s =
    let k = round_multiple a v g s.times in
    subst (λ (r : Sheet). Fine g h (value r))
    (sym (round_parts up v x s.neg (s.times * 2 ^ g) (2 ^ bias) (s.times * 2 ^ g) 1 (pow_pos bias) (omega arith) s.is (omega arith)))
    (record {
      neg = s.neg;
      times = k.0;
      is = rw k.1 at (signed-value s.neg (round_mag a (suc v) (s.times * 2 ^ g) 1));
      most = rw (k.1, one-mul) at (keep_high a v (s.times * 2 ^ g) 1 (omega arith) 1 h (one-few v) (let m = s.most in omega arith));
    })
  where
    a : Bool
    a = away up s.neg

-- ---- from one measure to another

pub digited_sized : {v l h : ℕ} {x : Fraction} → Digited v l h x → Sized l h x
digited_sized {v} {l} {h} s =
    record {
      neg = s.neg;
      num = s.m * 2 ^ s.e;
      den = 2 ^ bias;
      is = s.is;
      some = pow_pos bias;
      least = go s.least;
      most = mul-le-mul_right (2 ^ bias) s.most;
    }
  where
    go : (s.m ≡ 0) ⊎ (2 ^ l ≤ s.m * 2 ^ s.e) → (s.m * 2 ^ s.e ≡ 0) ⊎ (2 ^ l * 2 ^ bias ≤ s.m * 2 ^ s.e * 2 ^ bias)
    go (inl z) = inl (rw (z, zero-mul))
    go (inr k) = inr (mul-le-mul_right (2 ^ bias) k)

pub fine_sized : {g h : ℕ} {x : Fraction} → Fine g h x → Sized g h x
fine_sized {g} {h} s =
    record {
      neg = s.neg;
      num = s.times * 2 ^ g;
      den = 2 ^ bias;
      is = s.is;
      some = pow_pos bias;
      least = go (zero_or_pos s.times);
      most = mul-le-mul_right (2 ^ bias) s.most;
    }
  where
    go : (s.times ≡ 0) ⊎ (0 < s.times) → (s.times * 2 ^ g ≡ 0) ⊎ (2 ^ g * 2 ^ bias ≤ s.times * 2 ^ g * 2 ^ bias)
    go (inl z) = inl (rw (z, zero-mul))
    go (inr k) = inr (mul-le-mul_right (2 ^ bias) (omega (arith, mul-le-mul_right (2 ^ g) k)))

pub digited_fine : {v g l h : ℕ} {x : Fraction} → v + g ≤ l → Digited v l h x → Fine g h x
digited_fine {v} {g} {l} {h} {x} p s = go s.least
  where
    go : (s.m ≡ 0) ⊎ (2 ^ l ≤ s.m * 2 ^ s.e) → Fine g h x
    go (inl z) =
        record { neg = s.neg; times = 0; is = rw (z, zero-mul, ← zero-mul (2 ^ g)) at s.is; most = rw zero-mul (omega arith) }
    go (inr k) =
        let j = pow_le_split g s.e (omega (arith, place_low v l s.m s.e s.few k)) in
        let e : s.m * 2 ^ s.e ≡ s.m * 2 ^ j.0 * 2 ^ g = omega (arith, ap (λ (n : ℕ). s.m * n) j.1) in
        record { neg = s.neg; times = s.m * 2 ^ j.0; is = rw e at s.is; most = rw e at s.most }

-- ---- weaker bounds

pub sized_in : {l h l' h' : ℕ} {x : Fraction} → l' ≤ l → h ≤ h' → Sized l h x → Sized l' h' x
sized_in {l} {h} {l'} {h'} p q s =
    record {
      neg = s.neg;
      num = s.num;
      den = s.den;
      is = s.is;
      some = s.some;
      least = go s.least;
      most = le_trans s.most (mul-le-mul_right s.den (pow_mono q));
    }
  where
    go : (s.num ≡ 0) ⊎ (2 ^ l * s.den ≤ s.num * 2 ^ bias) → (s.num ≡ 0) ⊎ (2 ^ l' * s.den ≤ s.num * 2 ^ bias)
    go (inl z) = inl z
    go (inr k) = inr (le_trans (mul-le-mul_right s.den (pow_mono p)) k)

pub fine_in : {g h g' h' : ℕ} {x : Fraction} → g' ≤ g → h ≤ h' → Fine g h x → Fine g' h' x
fine_in {g} {h} {g'} {h'} p q s =
    let j = pow_le_split g' g p in
    let e : s.times * 2 ^ g ≡ s.times * 2 ^ j.0 * 2 ^ g' = omega (arith, ap (λ (n : ℕ). s.times * n) j.1) in
    record { neg = s.neg; times = s.times * 2 ^ j.0; is = rw e at s.is; most = rw e at (le_trans s.most (pow_mono q)) }

-- ---- a whole number near a number of few digits: their sum is zero or not much finer than the digits

pub nat-is : (a : ℕ) → nat a ≈ parts false (a * 2 ^ bias) (2 ^ bias)
nat-is a = ≈-trans (≈-sym (parts-nat a)) (≈-sym (≈-trans (parts-≈ false (a * 2 ^ bias) (2 ^ bias) a 1 (pow_pos bias) (omega arith) (omega arith)) (≈-refl _)))

pub nat-sized : (l h n : ℕ) → 2 ^ l ≤ n * 2 ^ bias → n * 2 ^ bias ≤ 2 ^ h → Sized l h (nat n)
nat-sized l h n p q =
    record { neg = false; num = n; den = 1; is = ≈-sym (parts-nat n); some = omega arith; least = inr (omega arith); most = omega arith }

multiple_least : (z k j : ℕ) → z ≡ j * 2 ^ k → (z ≡ 0) ⊎ (2 ^ k ≤ z)
multiple_least z k zero e = inl (e ∙ zero-mul (2 ^ k))
multiple_least z k (suc j) e = inr (omega arith)

module _ (v k h a m e : ℕ) (room : k + suc v ≤ bias) (some : 0 < a) (few : m < 2 ^ suc v) (p : a * 2 ^ bias ≤ 2 ^ h) (q : m * 2 ^ e ≤ 2 ^ h) where
  -- both are multiples of 2^k
  near_fine : k ≤ e → {z : ℕ} → Joined (a * 2 ^ bias) (m * 2 ^ e) z → (z ≡ 0) ⊎ (2 ^ k ≤ z)
  near_fine l {z} j =
      let s = pow_le_split k bias (omega arith) in
      let t = pow_le_split k e l in
      let x : a * 2 ^ bias ≡ a * 2 ^ s.0 * 2 ^ k = omega (arith, ap (λ (n : ℕ). a * n) s.1) in
      let y : m * 2 ^ e ≡ m * 2 ^ t.0 * 2 ^ k = omega (arith, ap (λ (n : ℕ). m * n) t.1) in
      let f = joined-fine k h (a * 2 ^ s.0) (m * 2 ^ t.0) z (rw x at p) (rw y at q) (rw (x, y) at j) in
      multiple_least z k f.0 f.1

  -- the digits end below 1/2
  near_far : e < k → {z : ℕ} → Joined (a * 2 ^ bias) (m * 2 ^ e) z → (z ≡ 0) ⊎ (2 ^ k ≤ z)
  near_far l {z} j = inr (go j)
    where
      half : 2 * (m * 2 ^ e) < 2 ^ bias
      half =
          let x = mul-lt-mul_of_pos_right few (pow_pos (suc e)) in
          let y : 2 ^ suc v * 2 ^ suc e ≤ 2 ^ bias = rw (← pow-add 2 (suc v) (suc e)) (pow_mono (omega arith)) in
          let x' : m * 2 ^ suc e < 2 ^ bias = omega arith in
          let w : 2 ^ suc e ≡ 2 * 2 ^ e = omega arith in
          let u = rw w at x' in
          omega arith

      low : 2 * 2 ^ k ≤ 2 ^ bias
      low = omega (arith, pow_mono {i = suc k} {j = bias} (omega arith))

      one : 2 ^ bias ≤ a * 2 ^ bias
      one = omega (arith, mul-le-mul_right (2 ^ bias) some)

      go : {z : ℕ} → Joined (a * 2 ^ bias) (m * 2 ^ e) z → 2 ^ k ≤ z
      go both = let x = half in let y = low in let w = one in omega arith
      go (first i) = let x = half in let y = low in let w = one in omega arith
      go (second i) = let x = half in let y = low in let w = one in omega arith

  near_least : {z : ℕ} → Joined (a * 2 ^ bias) (m * 2 ^ e) z → (z ≡ 0) ⊎ (2 ^ k ≤ z)
  near_least j = ⊎_elim (λ l. near_fine l j) (λ l. near_far l j) (le_or_lt k e)

joined-most : (h a b : ℕ) → a ≤ 2 ^ h → b ≤ 2 ^ h → {z : ℕ} → Joined a b z → z ≤ 2 ^ suc h
joined-most h a b p q both = omega arith
joined-most h a b p q (first e) = omega arith
joined-most h a b p q (second e) = omega arith

pub negate-digited : {v l h : ℕ} {x : Fraction} → Digited v l h x → Digited v l h (negate x)
negate-digited s =
    record {
      neg = not s.neg;
      m = s.m;
      e = s.e;
      is = ≈-trans (negate-cong s.is) (parts-negate s.neg (s.m * 2 ^ s.e) (2 ^ bias));
      few = s.few;
      least = s.least;
      most = s.most;
    }

pub negate-sized : {l h : ℕ} {x : Fraction} → Sized l h x → Sized l h (negate x)
negate-sized s =
    record {
      neg = not s.neg;
      num = s.num;
      den = s.den;
      is = ≈-trans (negate-cong s.is) (parts-negate s.neg s.num s.den);
      some = s.some;
      least = s.least;
      most = s.most;
    }

module _ {v k h l : ℕ} (a : ℕ) {y : Fraction} (room : k + suc v ≤ bias) (some : 0 < a) (most : a * 2 ^ bias ≤ 2 ^ h) where
  pub near_plus : Digited v l h y → Sized k (suc h) (nat a ⊕ y)
  near_plus s =
      let t = together false s.neg (a * 2 ^ bias) (s.m * 2 ^ s.e) (2 ^ bias) (pow_pos bias) (nat-is a) s.is in
      record {
        neg = t.neg;
        num = t.size;
        den = 2 ^ bias;
        is = t.is;
        some = pow_pos bias;
        least =
            ⊎_elim inl (λ n. inr (mul-le-mul_right (2 ^ bias) n)) (near_least v k h a s.m s.e room some s.few most s.most t.how);
        most = mul-le-mul_right (2 ^ bias) (joined-most h (a * 2 ^ bias) (s.m * 2 ^ s.e) most s.most t.how);
      }

module _ {v k h l : ℕ} (a : ℕ) {y : Fraction} (room : k + suc v ≤ bias) (some : 0 < a) (most : a * 2 ^ bias ≤ 2 ^ h) (s : Digited v l h y) where
  pub near_minus : Sized k (suc h) (nat a ⊖ y)
  near_minus = sized_cong (≈-sym (⊖-is (nat a) y)) (near_plus a room some most (negate-digited s))

  pub near_less : Sized k (suc h) (y ⊖ nat a)
  near_less = sized_cong (negate-⊖ (nat a) y) (negate-sized near_minus)

pub digited_in : {v l h l' h' : ℕ} {x : Fraction} → l' ≤ l → h ≤ h' → Digited v l h x → Digited v l' h' x
digited_in {v} {l} {h} {l'} {h'} p q s =
    record { neg = s.neg; m = s.m; e = s.e; is = s.is; few = s.few; least = go s.least; most = le_trans s.most (pow_mono q) }
  where
    go : (s.m ≡ 0) ⊎ (2 ^ l ≤ s.m * 2 ^ s.e) → (s.m ≡ 0) ⊎ (2 ^ l' ≤ s.m * 2 ^ s.e)
    go (inl z) = inl z
    go (inr k) = inr (le_trans (pow_mono p) k)

-- ---- whole numbers and given values

pub nat-fine : {g h : ℕ} (n : ℕ) → g ≤ bias → n * 2 ^ bias ≤ 2 ^ h → Fine g h (nat n)
nat-fine {g} {h} n p q =
    let j = pow_le_split g bias p in
    let e : n * 2 ^ bias ≡ n * 2 ^ j.0 * 2 ^ g = omega (arith, ap (λ (k : ℕ). n * k) j.1) in
    record { neg = false; times = n * 2 ^ j.0; is = rw e at (nat-is n); most = rw e at q }

-- a whole number times a multiple
pub whole_fine : {g h : ℕ} (k n : ℕ) {y : Fraction} → n ≤ 2 ^ k → Fine g h y → Fine g (k + h) (nat n ⊗ y)
whole_fine {g} {h} k n {y} p s =
    record {
      neg = xor false s.neg;
      times = n * s.times;
      is =
          ≈-trans (⊗-cong (≈-sym (parts-nat n)) s.is)
          (≈-trans (parts-⊗ false s.neg n 1 (s.times * 2 ^ g) (2 ^ bias) (omega arith) (pow_pos bias))
          (parts-≈ (xor false s.neg) (n * (s.times * 2 ^ g)) (1 * 2 ^ bias) (n * s.times * 2 ^ g) (2 ^ bias) (omega (arith, pow_pos bias)) (pow_pos bias) (omega arith)));
      most = rw (pow-add 2 k h) (let x = mul-le-mul p s.most in omega arith);
    }

-- what lies between two quotients above zero
pub between-sized : {l h : ℕ} {x : Fraction} (a b c e : ℕ) → 0 < a → 0 < b → 0 < e → parts false a b ≼ x → x ≼ parts false c e
    → 2 ^ l * b ≤ a * 2 ^ bias → c * 2 ^ bias ≤ 2 ^ h * e → Sized l h x
between-sized {l} {h} {x} a b c e some p q below above low high =
    let n = ≼-negative (≼_trans (parts-nonneg a b) below) in
    let is : x ≈ parts false (top x) (bottom x) = rw n at (as_parts x) in
    let i = ≼-parts a b (top x) (bottom x) p (bottom-pos x) (≼-≈-trans below is) in
    let j = ≼-parts (top x) (bottom x) c e (bottom-pos x) q (≈-≼-trans (≈-sym is) above) in
    record {
      neg = false;
      num = top x;
      den = bottom x;
      is = is;
      some = bottom-pos x;
      least = inr (le_of_mul-le-mul_right {k = b} (omega (arith, mul-le-mul_right (bottom x) low, mul-le-mul_right (2 ^ bias) i)) p);
      most = le_of_mul-le-mul_right {k = e} (omega (arith, mul-le-mul_right (2 ^ bias) j, mul-le-mul_right (bottom x) high)) q;
    }

-- ---- above zero

pub round_pos : (up : Bool) (v : ℕ) {l h : ℕ} {x : Fraction} → nat 0 ≺ x → Sized l h x → nat 0 ≺ value (round up (suc v) x)
round_pos up v {l} {h} {x} pos s =
    let k = sized_pos pos s in
    subst (λ (r : Sheet). nat 0 ≺ value r) (sym (round_parts up v x false s.num s.den (s.num * 2 ^ bias) s.den s.some s.some k.0 refl))
    (≺-≈-trans
    (parts-pos (units mag) (2 ^ bias)
    (let q = keep_low (away up false) v (s.num * 2 ^ bias) s.den s.some 1 l (one-few v) (rw one-mul (low s.least k.1)) in
    let r = pow_pos l in
    omega arith))
    (≈-sym (signed-value false mag)))
  where
    mag : Magnitude
    mag = round_mag (away up false) (suc v) (s.num * 2 ^ bias) s.den

    low : (s.num ≡ 0) ⊎ (2 ^ l * s.den ≤ s.num * 2 ^ bias) → 0 < s.num → 2 ^ l * s.den ≤ s.num * 2 ^ bias
    low (inl z) m = absurd (omega arith)
    low (inr n) m = n
