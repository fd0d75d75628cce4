-- `given_lines::fits` meets its contract: what passes the tests is a multiple of 2^-1074 below 2^1024. Assumes nothing.
use mathlib.Core.Path.{◌≡◌, sym, subst, ◌∙◌}
use Prim.Native.Nat.{ℕ, suc, ◌+◌, ◌-◌, ◌*◌, ◌/◌, ◌%◌, ◌^◌, ◌≤◌, ◌<◌}
use native.Mathlib.Nat.{mod-eq_of_lt, mod-lt, div-add-mod', lt_of_le_of_lt, lt_of_lt_of_le, div-mul-le_self, mul_assoc, mul-le-mul_right, zero-mul}
use native.Mathlib.Omega.{arith}
use lib.Pow.{pow-add, pow_pos, pow_mono, shl_lt}
use borrow.Author.Tests.{eqb-true}
use Rattle.sheet.specs.declared.Sheet.{Sheet}
use Rattle.sheet.specs.Number.{bias}
use Rattle.sheet.specs.Range.{Width, Grain, Doubled, extent}
use Rattle.sheet.proofs.Live.{bias-is}
use Rattle.sheet.proofs.Measures.{grain-shift, grain-zero, grain-coarser}
use Rattle.given_lines.proofs.fits.Goals as goal

-- at most one digit above v others
few : (v m : ℕ) → m / 2 ^ v ≤ 1 → m < 2 ^ suc v
few v m h =
    let whole = div-add-mod' m (2 ^ v) in
    let rest = mod-lt m (pow_pos v) in
    let most : m / 2 ^ v * 2 ^ v ≤ 1 * 2 ^ v = mul-le-mul_right (2 ^ v) h in
    omega arith

fifty : (v m : ℕ) → Width v → m / 2 ^ v ≤ 1 → m < 2 ^ 53
fifty v m w h = let k = w.high in lt_of_lt_of_le (few v m h) (pow_mono {i = suc v} {j = 53} (omega arith))

doubled : (v : ℕ) → Width v → (s : Sheet) → s.m / 2 ^ v ≤ 1 → s.e ≤ 263167 - v → Grain 261070 (extent s) → Doubled s × (s.m < 2 ^ 53)
doubled v w s a b g =
    let z = bias-is in
    let k = w.high in (
      record {
        fine = grain-coarser 261070 (bias - 1074) (extent s) (omega arith) g;
        small = lt_of_lt_of_le (shl_lt (suc v) s.e (few v s.m a)) (pow_mono {i = suc v + s.e} {j = 1024 + bias} (omega arith));
      },
      fifty v s.m w a,
    )

-- t zeros at the end
zeros : (m t e g : ℕ) → m / 2 ^ t * 2 ^ t ≡ m → g ≤ t + e → Grain g (m * 2 ^ e)
zeros m t e g z l =
    let q = m / 2 ^ t in
    let same : q * 2 ^ (t + e) ≡ m * 2 ^ e = rw (pow-add 2 t e, ← mul_assoc q (2 ^ t) (2 ^ e), z) in
    subst (Grain g) same (grain-shift g q (t + e) l)

back : (m t : ℕ) → m < 2 ^ 64 → m / 2 ^ t * 2 ^ t % 2 ^ 64 ≡ m / 2 ^ t * 2 ^ t
back m t h = mod-eq_of_lt (lt_of_le_of_lt (div-mul-le_self m (2 ^ t)) h)

pub returns-then-e-ge261070 : goal.returns-then-e-ge261070
returns-then-e-ge261070 c h =
    let s = c.args.s in
    doubled c.args.v c.requires s c.if-m-v-gt1.false c.if-v-e.false (grain-shift 261070 s.m s.e c.if-e-ge261070.true)

pub returns-then-below-gt63 : goal.returns-then-below-gt63
returns-then-below-gt63 c h =
    let s = c.args.s in
    let z : s.m ≡ 0 = eqb-true s.m 0 h in
    doubled c.args.v c.requires s c.if-m-v-gt1.false c.if-v-e.false (rw (z, zero-mul) (grain-zero 261070))

pub returns : goal.returns
returns c h =
    let s = c.args.s in
    let t = 261070 - s.e in
    let f = fifty c.args.v s.m c.requires c.if-m-v-gt1.false in
    let z : s.m / 2 ^ t * 2 ^ t ≡ s.m = sym (back s.m t (omega (arith, f))) ∙ eqb-true _ s.m h in
    doubled c.args.v c.requires s c.if-m-v-gt1.false c.if-v-e.false (zeros s.m t s.e 261070 z (omega arith))
