-- What the rounding of a magnitude is: the greatest of suc v digits not above the quotient, or the least not below it. Both keep the order,
-- the quotient's own digits and every short number; they look at the quotient and not at how it is written. Assumes nothing.
use mathlib.Core.Path.{◌≡◌, refl, sym, ap, ◌∙◌}
use mathlib.Core.Logic.{⊎_elim}
use mathlib.Core.Bool.{Bool, true, false}
use Prim.Native.Nat.{ℕ, suc, ◌+◌, ◌*◌, ◌/◌, ◌^◌, ◌≤◌, ◌<◌}
use native.Mathlib.Nat.{le_trans, le_of_eq, le_of_lt, le_refl, mul-le-mul_right, mul-lt-mul_of_pos_right, lt_of_mul-lt-mul_right, le_of_mul-le-mul_right, mul-pos, zero-mul, mul-one}
use native.Mathlib.Omega.{arith}
use borrow.Author.Tests.{eq-eqb, ne_eqb, eqb-true, eqb-false}
use lib.Dec.{eqb}
use lib.Pow.{pow-add, pow_pos}
use Rattle.sheet.specs.Magnitude.{Magnitude, units, pick, next, round_mag, Cut, Place, Fit, finish, Side, raise}
use Rattle.sheet.proofs.Gaps.{le_or_lt, zero_or_pos, gap}
use Rattle.sheet.proofs.Digits.{lead_is}
use Rattle.sheet.proofs.Places.{place_le, place_den, round_place, Located, locate, place_ratio, place_scale}

-- ---- the next magnitude

pub next-carry : (w m e : ℕ) → m + 1 ≡ 2 ^ w → next w (record { m = m; e = e }) ≡ record { m = 2 ^ w / 2; e = e + 1 }
unfolding next
next-carry w m e h = rw (eq-eqb (m + 1) (2 ^ w) h)

pub next-plain : (w m e : ℕ) → (m + 1 ≡ 2 ^ w → ⊥) → next w (record { m = m; e = e }) ≡ record { m = m + 1; e = e }
unfolding next
next-plain w m e h = rw (ne_eqb (m + 1) (2 ^ w) h)

pub record Successor (v : ℕ) (x y : Magnitude) : Type 0 where
  pub worth : units y ≡ (x.m + 1) * 2 ^ x.e
  pub fit : Fit v y.m y.e
  pub full : 2 ^ v ≤ x.m → 2 ^ v ≤ y.m

pub next-is : (v : ℕ) (x : Magnitude) → Fit v x.m x.e → Successor v x (next (suc v) x)
unfolding next
next-is v x f = go (eqb (x.m + 1) (2 ^ suc v)) refl
  where
    half : 2 ^ suc v / 2 ≡ 2 ^ v
    half = omega arith

    go : (b : Bool) → eqb (x.m + 1) (2 ^ suc v) ≡ b
        → Successor v x (pick b (record { m = 2 ^ suc v / 2; e = x.e + 1 }) (record { m = x.m + 1; e = x.e }))
    go true t =
        let h : x.m + 1 ≡ 2 ^ suc v = eqb-true (x.m + 1) (2 ^ suc v) t in
        let k : x.m + 1 ≡ 2 * 2 ^ v = omega arith in
        record {
          worth = rw (half, pow-add 2 x.e 1) (omega (arith, ap (λ (y : ℕ). y * 2 ^ x.e) k));
          fit = record { small = let p = pow_pos v in omega arith; full = λ _. omega arith };
          full = λ _. omega arith;
        }
    go false t =
        let h = eqb-false (x.m + 1) (2 ^ suc v) t in
        let k : x.m + 1 < 2 ^ suc v = ⊎_elim (λ (g : 2 ^ suc v ≤ x.m + 1). absurd (h (let l = f.small in omega arith))) (λ g. g) (le_or_lt (2 ^ suc v) (x.m + 1)) in
        record { worth = refl; fit = record { small = k; full = λ p. let l = f.full p in omega arith }; full = λ l. omega arith }

-- ---- what a place says of the roundings

-- short numbers lie on one side of a place: below its digits, or not below the next
gap-fit : (v M k m c d : ℕ) → Fit v M k → m < 2 ^ suc v → (0 < d → 2 ^ v ≤ M) → M * 2 ^ k * 2 ^ d < m * 2 ^ c → (M + 1) * 2 ^ k * 2 ^ d ≤ m * 2 ^ c
gap-fit v M k m c d f s r h = ⊎_elim whole scarce (le_or_lt (2 ^ v) M)
  where
    whole : 2 ^ v ≤ M → (M + 1) * 2 ^ k * 2 ^ d ≤ m * 2 ^ c
    whole l =
        let p = pow-add 2 k d in
        let a : M * 2 ^ (k + d) < m * 2 ^ c = rw p (omega arith) in
        let b : (M + 1) * (2 ^ k * 2 ^ d) ≤ m * 2 ^ c = rw p at (gap v M (k + d) m c l s a) in
        omega arith

    scarce : M < 2 ^ v → (M + 1) * 2 ^ k * 2 ^ d ≤ m * 2 ^ c
    scarce l = rw (k0, d0) (let a : M * 1 * 1 < m * 2 ^ c = rw (k0, d0) at h in omega arith)
      where
        k0 : k ≡ 0
        k0 = ⊎_elim (λ z. z) (λ p. absurd (let g = f.full p in omega arith)) (zero_or_pos k)

        d0 : d ≡ 0
        d0 = ⊎_elim (λ z. z) (λ p. absurd (let g = r p in omega arith)) (zero_or_pos d)

-- digits at their place are rounded in one of two ways
finish-fit : (away s : Bool) (v : ℕ) (x : Magnitude) → Fit v x.m x.e → Fit v (finish away s (suc v) x).m (finish away s (suc v) x).e
unfolding finish
finish-fit true true v x f = (next-is v x f).fit
finish-fit true false v x f = f
finish-fit false s v x f = f

finish-full : (away s : Bool) (v : ℕ) (x : Magnitude) → Fit v x.m x.e → 2 ^ v ≤ x.m → 2 ^ v ≤ (finish away s (suc v) x).m
unfolding finish
finish-full true true v x f l = (next-is v x f).full l
finish-full true false v x f l = l
finish-full false s v x f l = l

finish-side : (away s : Bool) (v m e num den : ℕ) → Fit v m e → Place m s e num den
    → Side away (units (finish away s (suc v) (record { m = m; e = e })) * den) num
unfolding finish Side Cut
finish-side true true v m e num den f p = rw (next-is v (record { m = m; e = e }) f).worth (le_of_lt p.high)
finish-side true false v m e num den f p = le_of_eq (sym p.low)
finish-side false s v m e num den f p = place_le p

-- a place that reaches 2^v units has all its digits
place_full : (v m e num den : ℕ) {s : Bool} → Fit v m e → Place m s e num den → 2 ^ v * den ≤ num → 2 ^ v ≤ m
place_full v m e num den f p h = ⊎_elim (λ l. l) (λ l. absurd (short l)) (le_or_lt (2 ^ v) m)
  where
    short : m < 2 ^ v → ⊥
    short l =
        let e0 : e ≡ 0 = ⊎_elim (λ z. z) (λ q. absurd (let g = f.full q in omega arith)) (zero_or_pos e) in
        let a : num < (m + 1) * 1 * den = rw e0 at p.high in
        let b : suc m * den ≤ 2 ^ v * den = mul-le-mul_right den l in
        omega arith

finish-best : (away s : Bool) (v M k num den m c d : ℕ) → Fit v M k → Place M s k num den → m < 2 ^ suc v → (0 < d → 0 < num → 2 ^ v * den ≤ num)
    → Side away (m * 2 ^ c * den) (num * 2 ^ d) → Side away (m * 2 ^ c) (units (finish away s (suc v) (record { m = M; e = k })) * 2 ^ d)
unfolding finish Side Cut
finish-best true true v M k num den m c d f p s r h =
    let l : M * 2 ^ k * den < num = p.low in
    let a : M * 2 ^ k * den * 2 ^ d < num * 2 ^ d = mul-lt-mul_of_pos_right l (pow_pos d) in
    let b : M * 2 ^ k * 2 ^ d < m * 2 ^ c = lt_of_mul-lt-mul_right den (omega arith) in
    rw (next-is v (record { m = M; e = k }) f).worth
    (gap-fit v M k m c d f s (λ q. place_full v M k num den f p (r q (omega arith))) b)
finish-best true false v M k num den m c d f p s r h =
    let l : M * 2 ^ k * den ≡ num = p.low in
    le_of_mul-le-mul_right (let a : M * 2 ^ k * 2 ^ d * den ≤ m * 2 ^ c * den = omega (arith, ap (λ (x : ℕ). x * 2 ^ d) l) in a) (place_den p)
finish-best false s v M k num den m c d f p s' r h = ⊎_elim none some (zero_or_pos num)
  where
    none : num ≡ 0 → m * 2 ^ c ≤ M * 2 ^ k * 2 ^ d
    none z =
        let a : m * 2 ^ c * den ≤ 0 = rw (z, zero-mul) at h in
        le_of_mul-le-mul_right (let b : m * 2 ^ c * den ≤ M * 2 ^ k * 2 ^ d * den = omega arith in b) (place_den p)

    some : 0 < num → m * 2 ^ c ≤ M * 2 ^ k * 2 ^ d
    some q = ⊎_elim (λ l. l) (λ l. absurd (above l)) (le_or_lt (m * 2 ^ c) (M * 2 ^ k * 2 ^ d))
      where
        above : M * 2 ^ k * 2 ^ d < m * 2 ^ c → ⊥
        above l =
            let a = gap-fit v M k m c d f s' (λ t. place_full v M k num den f p (r t q)) l in
            let b : (M + 1) * 2 ^ k * 2 ^ d * den ≤ m * 2 ^ c * den = mul-le-mul_right den a in
            let g : num * 2 ^ d < (M + 1) * 2 ^ k * den * 2 ^ d = mul-lt-mul_of_pos_right p.high (pow_pos d) in
            omega arith

-- ---- the laws of the rounding of one quotient

module _ (away : Bool) (v num den : ℕ) (pos : 0 < den) where
  at : Located v num den
  at = locate v num den pos

  found : round_mag away (suc v) num den ≡ finish away at.sticky (suc v) (record { m = at.m; e = at.e })
  found = round_place away v at.sticky at.fit at.place

  -- it is spelled with suc v digits
  pub round_fit : Fit v (round_mag away (suc v) num den).m (round_mag away (suc v) num den).e
  round_fit = rw found (finish-fit away at.sticky v (record { m = at.m; e = at.e }) at.fit)

  -- from 2^v units on it has all of them
  pub round_full : 2 ^ v * den ≤ num → 2 ^ v ≤ (round_mag away (suc v) num den).m
  round_full h =
      rw found (finish-full away at.sticky v (record { m = at.m; e = at.e }) at.fit (place_full v at.m at.e num den at.fit at.place h))

  -- it lies on its side of the quotient
  pub round_side : Side away (units (round_mag away (suc v) num den) * den) num
  round_side = rw found (finish-side away at.sticky v at.m at.e num den at.fit at.place)

  -- and no number m · 2^c / 2^d of at most suc v digits on that side is nearer; parts of a unit count from 2^v units on
  pub round_best : (m c d : ℕ) → m < 2 ^ suc v → (0 < d → 0 < num → 2 ^ v * den ≤ num)
      → Side away (m * 2 ^ c * den) (num * 2 ^ d) → Side away (m * 2 ^ c) (units (round_mag away (suc v) num den) * 2 ^ d)
  round_best m c d s r h = rw found (finish-best away at.sticky v at.m at.e num den m c d at.fit at.place s r h)

-- ---- short numbers, the order, the quotient's own digits

-- a number of at most suc v digits that is not above the quotient is not above its rounding
pub keep_low : (away : Bool) (v num den : ℕ) → 0 < den → (m c : ℕ) → m < 2 ^ suc v → m * 2 ^ c * den ≤ num → m * 2 ^ c ≤ units (round_mag away (suc v) num den)
unfolding Side
keep_low false v num den pos m c s h =
    rw mul-one at (round_best false v num den pos m c 0 s (λ q. absurd (omega arith)) (let a : m * 2 ^ c * den ≤ num * 1 = omega arith in a))
keep_low true v num den pos m c s h = le_of_mul-le-mul_right (le_trans h (round_side true v num den pos)) pos

-- and one that is not below the quotient is not below its rounding
pub keep_high : (away : Bool) (v num den : ℕ) → 0 < den → (m c : ℕ) → m < 2 ^ suc v → num ≤ m * 2 ^ c * den → units (round_mag away (suc v) num den) ≤ m * 2 ^ c
unfolding Side
keep_high true v num den pos m c s h =
    rw mul-one at (round_best true v num den pos m c 0 s (λ q. absurd (omega arith)) (let a : num * 1 ≤ m * 2 ^ c * den = omega arith in a))
keep_high false v num den pos m c s h = le_of_mul-le-mul_right (le_trans (round_side false v num den pos) h) pos

-- a greater quotient has a greater rounding
pub round_mono : (away : Bool) (v num den num' den' : ℕ) → 0 < den → 0 < den' → num * den' ≤ num' * den
    → units (round_mag away (suc v) num den) ≤ units (round_mag away (suc v) num' den')
unfolding Side
round_mono false v num den num' den' p p' h =
    let x : Magnitude = round_mag false (suc v) num den in
    keep_low false v num' den' p' x.m x.e (round_fit false v num den p).small
    (le_of_mul-le-mul_right
    (let a : units x * den ≤ num = round_side false v num den p in
    let b : units x * den * den' ≤ num * den' = mul-le-mul_right den' a in
    let c : units x * den' * den ≤ num' * den = omega arith in
    c)
    p)
round_mono true v num den num' den' p p' h =
    let y : Magnitude = round_mag true (suc v) num' den' in
    keep_high true v num den p y.m y.e (round_fit true v num' den' p').small
    (le_of_mul-le-mul_right
    (let a : num' ≤ units y * den' = round_side true v num' den' p' in
    let b : num' * den ≤ units y * den' * den = mul-le-mul_right den a in
    let c : num * den' ≤ units y * den * den' = omega arith in
    c)
    p')

-- digits that are the whole quotient are its rounding
pub round_own : (away : Bool) (v m e den : ℕ) → 0 < den → Fit v m e → round_mag away (suc v) (m * 2 ^ e * den) den ≡ record { m = m; e = e }
unfolding finish Cut
round_own away v m e den pos f = go away
  where
    u : 0 < 2 ^ e * den
    u = mul-pos (pow_pos e) pos

    p : Place m false e (m * 2 ^ e * den) den
    p = record { low = refl; high = omega (arith, u) }

    go : (a : Bool) → round_mag a (suc v) (m * 2 ^ e * den) den ≡ record { m = m; e = e }
    go true = round_place true v false f p
    go false = round_place false v false f p

-- one quotient has one spelling
pub fit_unique : (v m e m' e' : ℕ) → Fit v m e → Fit v m' e' → m * 2 ^ e ≡ m' * 2 ^ e' → ◌≡◌ {A = Magnitude} (record { m = m; e = e }) (record { m = m'; e = e' })
fit_unique v m e m' e' f f' h =
    let p = pow_pos e in
    let p' = pow_pos e' in
    sym (lead_is v (m * 2 ^ e) m e f (le_refl _) (omega arith))
    ∙ lead_is v (m * 2 ^ e) m' e' f' (le_of_eq (sym h)) (omega arith)

-- only the quotient counts
pub round_ratio : (away : Bool) (v num den num' den' : ℕ) → 0 < den → 0 < den' → num * den' ≡ num' * den
    → round_mag away (suc v) num den ≡ round_mag away (suc v) num' den'
round_ratio away v num den num' den' p p' h =
    let l = locate v num den p in
    round_place away v l.sticky l.fit l.place ∙ sym (round_place away v l.sticky l.fit (place_ratio num' den' p' h l.place))

pub round_zero : (away : Bool) (v den : ℕ) → 0 < den → round_mag away (suc v) 0 den ≡ record { m = 0; e = 0 }
round_zero away v den pos =
    rw zero-mul at (round_own away v 0 0 den pos (record { small = pow_pos (suc v); full = λ p. absurd (omega arith) }))

-- ---- a power of two as a factor

next-raise : (w t : ℕ) (x : Magnitude) → next w (raise t x) ≡ raise t (next w x)
unfolding next
next-raise w t x = go (eqb (x.m + 1) (2 ^ w))
  where
    go : (b : Bool) → pick b (record { m = 2 ^ w / 2; e = x.e + t + 1 }) (record { m = x.m + 1; e = x.e + t })
        ≡ raise t (pick b (record { m = 2 ^ w / 2; e = x.e + 1 }) (record { m = x.m + 1; e = x.e }))
    go true = ap (λ (k : ℕ). record { m = 2 ^ w / 2; e = k }) (let h : x.e + t + 1 ≡ x.e + 1 + t = omega arith in h)
    go false = refl

finish-raise : (away s : Bool) (w t : ℕ) (x : Magnitude) → finish away s w (raise t x) ≡ raise t (finish away s w x)
unfolding finish
finish-raise true true w t x = next-raise w t x
finish-raise true false w t x = refl
finish-raise false s w t x = refl

pub round_raise : (away : Bool) (v num den t : ℕ) → 0 < den → 2 ^ v * den ≤ num
    → round_mag away (suc v) (num * 2 ^ t) den ≡ raise t (round_mag away (suc v) num den)
round_raise away v num den t pos h =
    let l = locate v num den pos in
    let f : Fit v l.m (l.e + t) = record { small = l.fit.small; full = λ _. place_full v l.m l.e num den l.fit l.place h } in
    round_place away v l.sticky f (place_scale t l.place)
    ∙ finish-raise away l.sticky (suc v) t (record { m = l.m; e = l.e })
    ∙ ap (raise t) (sym (round_place away v l.sticky l.fit l.place))
