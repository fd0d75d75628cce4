-- `sheet::divide::long` meets its contract. The loop's invariant: after k turns the digits are those of the quotient times 2^(9 + 11k).
-- Assumes nothing.
use mathlib.Core.Path.{◌≡◌, ap, ◌∙◌}
use Prim.Native.Nat.{ℕ, ◌+◌, ◌*◌, ◌^◌, ◌≤◌, ◌<◌}
use native.Mathlib.Nat.{mul-le-mul_left, pow-le-pow_right}
use native.Mathlib.Omega.{arith}
use lib.Pow.{pow-add}
use Rattle.sheet.proofs.Divisions.{quotes_most}
use Rattle.sheet.proofs.divide.long.Goals as goal

pub overflow_mul-am : goal.overflow_mul-am
overflow_mul-am c = omega (arith, c.requires.0.high)

pub parted-x-requires : goal.parted-x-requires
parted-x-requires c = omega (arith, c.requires.1.low)

pub loop-init : goal.loop-init
loop-init c = let q = c.parted-x.ensures.quotes in (record { whole = q.whole ∙ omega arith; left = q.left }, omega arith)

-- a fourth turn still has room
room : (am bm k : ℕ) → am < 2 ^ 53 → 2 ^ 52 ≤ bm → k < 4 → am * 512 * 2048 ^ k < 2 ^ 52 * bm
room am bm k h l p =
    let a : 2048 ^ k ≤ 2048 ^ 3 = pow-le-pow_right (omega arith) (let g : k ≤ 3 = omega arith in g) in
    let b : am * 512 * 2048 ^ k ≤ am * 512 * 2048 ^ 3 = mul-le-mul_left (am * 512) a in
    omega arith

turn : (am k : ℕ) → am * 512 * 2048 ^ k * 2048 ≡ am * 512 * 2048 ^ (k + 1)
turn am k = omega (arith, ap (λ (n : ℕ). am * 512 * n) (pow-add 2048 k 1))

last : (am k : ℕ) → k ≡ 4 → am * 512 * 2048 ^ k ≡ am * 2 ^ 53
last am k e = ap (λ (n : ℕ). am * 512 * 2048 ^ n) e ∙ omega arith

pub eleven_more-x-requires : goal.eleven_more-x-requires
eleven_more-x-requires c =
    let k = c.args in
    let l = c.loop in
    (quotes_most _ k.bm (2 ^ 52) l.x l.invariant.0 (room k.am k.bm l.counter c.requires.0.high c.requires.1.low (omega arith)), l.invariant.0.left, c.requires.1.high)

pub loop-smaller : goal.loop-smaller
loop-smaller c = omega arith

pub loop-preserved : goal.loop-preserved
loop-preserved c =
    let l = c.loop in
    let k = c.args in
    let q = c.eleven_more-x.ensures in
    (record { whole = q.whole ∙ ap (λ (n : ℕ). n * 2048) l.invariant.0.whole ∙ turn k.am l.counter; left = q.left }, omega arith)

pub returns : goal.returns
returns c =
    let l = c.loop in
    (record { whole = l.invariant.0.whole ∙ last c.args.am l.counter (omega arith); left = l.invariant.0.left })
