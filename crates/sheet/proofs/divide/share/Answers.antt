-- `sheet::divide::share` meets its contract. Assumes nothing.
use mathlib.Core.Path.{◌≡◌, sym, ap, ◌∙◌, subst}
use Prim.Native.Nat.{ℕ, suc, ◌+◌, ◌-◌, ◌*◌, ◌%◌, ◌^◌, ◌≤◌}
use native.Mathlib.Nat.{mul-le-mul_left, mul-le-mul_right}
use native.Mathlib.Omega.{arith}
use lib.Pow.{pow-add, pow_pos, shl_exact}
use Rattle.sheet.specs.declared.Sheet.{Sheet}
use Rattle.sheet.specs.declared.divide.Outcome.{Outcome}
use Rattle.sheet.specs.Range.{InRange}
use Rattle.sheet.specs.Steps.{Quotes}
use Rattle.sheet.proofs.Live.{bias-is, live, width_room}
use Rattle.sheet.proofs.Divisions.{quotes_place, quotes_least}
use Rattle.sheet.proofs.Operations.{share_is, share_zero}
use Rattle.sheet.proofs.divide.share.Goals as goal

record Ranges (v : ℕ) (a : Sheet) : Type 0 where
  shift : a.m * 2 ^ (63 - v) % 2 ^ 64 ≡ a.m * 2 ^ (63 - v)
  top : 2 ^ 63 ≤ a.m * 2 ^ (63 - v)
  low : 200 ≤ a.e
  high : a.e ≤ 400000

ranges : (v : ℕ) (a : Sheet) → InRange v a → (a.m ≡ 0 → ⊥) → Ranges v a
ranges v a h p =
    let w = h.width in
    let x = live v 80000 80000 a h.within p in
    let z = bias-is in
    record {
      shift = shl_exact (suc v) (63 - v) 64 x.small (omega (arith, w.high));
      top =
          subst (λ (n : ℕ). n ≤ a.m * 2 ^ (63 - v)) (sym (pow-add 2 v (63 - v)) ∙ ap (λ (k : ℕ). 2 ^ k) (let k : v + (63 - v) ≡ 63 = omega (arith, w.high) in k)) (mul-le-mul_right (2 ^ (63 - v)) x.full);
      low = omega (arith, x.low);
      high = omega (arith, x.high);
    }

pub returns-then-a-eq0 : goal.returns-then-a-eq0
returns-then-a-eq0 c = let k = c.args in sym (share_zero k.up k.v k.a k.a k.n c.requires.1 c.if-a-eq0.true)

-- the digits as the division found them: all that are asked for
record Found (v n : ℕ) (a : Sheet) (x : Outcome) : Type 0 where
  quotes : Quotes (a.m * 2 ^ (63 - v)) n x
  full : 2 ^ v ≤ x.digits

found : (v n : ℕ) (a : Sheet) (x : Outcome) → InRange v a → n ≤ 2048 → Ranges v a → Quotes (a.m * 2 ^ (63 - v) % 2 ^ 64) n x → Found v n a x
found v n a x h s r q =
    let p = subst (λ (i : ℕ). Quotes i n x) r.shift q in
    let l : 2 ^ v * n ≤ 2 ^ v * 2048 = mul-le-mul_left (2 ^ v) s in
    record { quotes = p; full = quotes_least (a.m * 2 ^ (63 - v)) n (2 ^ v) x p (omega (arith, r.top, width_room h.width)) }

pub overflow_sub-a : goal.overflow_sub-a
overflow_sub-a c =
    let r = ranges c.args.v c.args.a c.requires.0 c.if-a-eq0.false in
    omega (arith, r.low)

pub topped-requires : goal.topped-requires
topped-requires c =
    let k = c.args in
    let r = ranges k.v k.a c.requires.0 c.if-a-eq0.false in
    let f = found k.v k.n k.a c.parted-x.result c.requires.0 c.requires.2 r c.parted-x.ensures.quotes in
    (c.requires.0.width, record { full = λ _ _. f.full; room = omega (arith, r.high) }, omega (arith, f.full, pow_pos k.v), omega (arith, r.low))

pub returns : goal.returns
returns c =
    let k = c.args in
    let u = 63 - k.v in
    let e = k.a.e - u in
    let r = ranges k.v k.a c.requires.0 c.if-a-eq0.false in
    let f = found k.v k.n k.a c.parted-x.result c.requires.0 c.requires.2 r c.parted-x.ensures.quotes in
    c.topped.ensures (k.a.m * 2 ^ u * 2 ^ e) k.n (quotes_place (k.a.m * 2 ^ u) k.n e c.parted-x.result f.quotes)
    ∙ sym (share_is k.up k.v k.a k.a e u k.n c.requires.1 (omega (arith, r.low)))
