-- A number in range that is not zero: its digits and its exponent. Assumes nothing.
use mathlib.Core.Path.{◌≡◌, refl, ap, ◌∙◌}
use mathlib.Core.Logic.{inl, inr, ⊎_elim}
use Prim.Native.Nat.{ℕ, suc, ◌+◌, ◌*◌, ◌%◌, ◌^◌, ◌≤◌, ◌<◌}
use native.Mathlib.Nat.{mod-eq_of_lt, lt_of_lt_of_le}
use native.Mathlib.Omega.{arith}
use lib.Dec.{lit≤}
use lib.Pow.{pow_mono}
use Rattle.sheet.specs.declared.Sheet.{Sheet}
use Rattle.sheet.specs.Number.{bias, plain_zero, signed, negate_sheet, Normal, Spelled}
use Rattle.sheet.specs.Range.{Exponent, Within, Width, InRange}
use Rattle.sheet.proofs.Spelling.{normal-spelled}

pub bias-is : bias ≡ 262144
unfolding bias
bias-is = refl

pub record Live (v lo hi : ℕ) (s : Sheet) : Type 0 where
  pub full : 2 ^ v ≤ s.m
  pub small : s.m < 2 ^ suc v
  pub low : bias ≤ s.e + lo
  pub high : s.e ≤ bias + hi

pub live : (v lo hi : ℕ) (s : Sheet) → Within v lo hi s → (s.m ≡ 0 → ⊥) → Live v lo hi s
live v lo hi s w n = go w.normal w.exponent
  where
    none : s ≡ plain_zero → ⊥
    none z = n (ap (λ (t : Sheet). t.m) z)

    go : Normal v s → Exponent lo hi s → Live v lo hi s
    go (inl z) x = absurd (none z)
    go (inr d) (inl z) = absurd (none z)
    go (inr d) (inr x) = record { full = d.low; small = d.high; low = x.0; high = x.1 }

-- the place of a number in range leaves room for more
pub place_room : {v : ℕ} {s : Sheet} → InRange v s → s.e < 2 ^ 32
unfolding bias
place_room {v} {s} h = ⊎_elim (λ z. rw z (lit≤ tt)) (λ b. omega arith) h.within.exponent

-- the digits of a number in range are those of a spelling
pub range_spelled : {v : ℕ} {s : Sheet} → InRange v s → Spelled v s
range_spelled {v} {s} h = normal-spelled v s h.within.normal

-- a word has room above the digits of either width
pub width_room : {v : ℕ} → Width v → 2 ^ v ≤ 2 ^ 52
width_room w = pow_mono w.high

-- what has 32 digits has no more than either width
pub few-digits : {v n : ℕ} → Width v → n < 2 ^ 32 → n < 2 ^ suc v
few-digits {v} w h = lt_of_lt_of_le h (pow_mono (let k : 32 ≤ suc v = omega (arith, w.low) in k))

-- 2^v as the code shifts it
pub one_shl : {v : ℕ} → Width v → 1 * 2 ^ v % 2 ^ 64 ≡ 2 ^ v
one_shl {v} w = let p : 2 ^ v ≤ 2 ^ 52 = width_room w in mod-eq_of_lt (omega arith) ∙ omega arith

-- and the least that has a digit more
pub full-shl : {v : ℕ} → Width v → 1 * 2 ^ (v + 1) % 2 ^ 64 ≡ 2 ^ suc v
full-shl {v} w =
    let p : 2 ^ v ≤ 2 ^ 52 = width_room w in
    let q : 2 ^ (v + 1) ≡ 2 ^ suc v = ap (λ (k : ℕ). 2 ^ k) (omega arith) in
    mod-eq_of_lt (omega arith) ∙ omega arith

-- the two widths
pub narrow : Width 31
narrow = record { low = omega arith; high = omega arith; either = inl refl }

pub wide : Width 52
wide = record { low = omega arith; high = omega arith; either = inr refl }

-- the mirror of a number in range is in range
pub negate-within : (v lo hi : ℕ) (s : Sheet) → Within v lo hi s → Within v lo hi (negate_sheet s)
unfolding negate_sheet signed
negate-within v lo hi s w = record { normal = go w.normal; exponent = there w.exponent }
  where
    zero_stays : s ≡ plain_zero → negate_sheet s ≡ plain_zero
    zero_stays z = ap negate_sheet z

    go : Normal v s → Normal v (negate_sheet s)
    go (inl z) = inl (zero_stays z)
    go (inr d) = inr d

    there : Exponent lo hi s → Exponent lo hi (negate_sheet s)
    there (inl z) = inl (zero_stays z)
    there (inr x) = inr x

pub negate-range : {v : ℕ} {s : Sheet} → InRange v s → InRange v (negate_sheet s)
negate-range {v} {s} h = record { width = h.width; within = negate-within v 80000 80000 s h.within }
