-- `encode::settled` meets its contract. Assumes nothing.
use Prim.Native.Nat.{ℕ, ◌*◌, ◌^◌, ◌<◌}
use native.Mathlib.Nat.{le_trans, le_of_eq, lt_of_le_of_lt, one-mul, mul-le-mul_right}
use native.Mathlib.Omega.{arith}
use mathlib.Core.Path.{sym}
use Rattle.sheet.specs.Number.{bias}
use Rattle.sheet.proofs.Measures.{grain-coarser}
use Rattle.doubles.proofs.Settling.{loose, same_size}
use Rattle.doubles.proofs.Shift.{pow_lt_back}
use Rattle.doubles.proofs.encode.settled.Goals as goal

-- what is below 2^1024 stands at no high place
low : (m e n : ℕ) → 0 < m → m * 2 ^ e < 2 ^ n → e < n
low m e n p h = pow_lt_back e n (lt_of_le_of_lt (le_trans (le_of_eq (sym (one-mul (2 ^ e)))) (mul-le-mul_right (2 ^ e) p)) h)

pub normalised-requires : goal.normalised-requires
unfolding bias
normalised-requires c =
    let k = c.args in
    let g = c.requires.encodable in
    loose _ k.m k.e _ c.requires.m_nonzero (omega (arith, g.few)) (grain-coarser 261070 _ _ (omega arith) g.fine) (omega arith) (let l = low k.m k.e 263168 c.requires.m_nonzero g.small in omega arith)

pub returns : goal.returns
unfolding bias
returns c =
    let k = c.args in
    let g = c.requires.encodable in
    let n = c.normalised.ensures in
    record {
      value = same_size _ k.m k.e _ c.requires.m_nonzero (omega (arith, g.few)) (grain-coarser 261070 _ _ (omega arith) g.fine) c.normalised.result n;
      few = omega (arith, n.small);
      least = omega (arith, n.least);
      full = λ h. omega (arith, n.full h);
    }
