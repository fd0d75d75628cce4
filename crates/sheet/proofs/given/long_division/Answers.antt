-- `sheet::given::long_division` meets its contract. The loop's invariant: what is found and what is left over are the whole quotient, and
-- after the first turn what is left over is below the divisor. Assumes nothing.
use mathlib.Core.Path.{◌∙◌}
use Prim.Native.Nat.{◌^◌, ◌≤◌}
use native.Mathlib.Nat.{pos_of_ne-zero}
use native.Mathlib.Omega.{arith}
use lib.Pow.{pow_pos}
use Rattle.sheet.proofs.Live.{one_shl, width_room}
use Rattle.sheet.proofs.Divisions.{begins, left_over, falls}
use Rattle.sheet.proofs.given.long_division.Goals as goal

pub loop-x-init : goal.loop-x-init
loop-x-init c = (begins c.args.num c.args.den c.args.from, λ h. absurd (omega arith), λ h. absurd (omega arith), omega arith)

pub returns-else-x-ne0 : goal.returns-else-x-ne0
returns-else-x-ne0 c =
    let i = c.loop-x.invariant in
    let z = c.if-x-ne0.false in
    record {
      found = record { whole = i.0; left = i.2 (let p = c.requires.4 in omega arith) };
      full = λ p. absurd (omega arith);
      place = i.3;
    }

pub brought_down-x-requires : goal.brought_down-x-requires
brought_down-x-requires c =
    let l = c.loop-x in
    let k = c.args in
    record {
      few = omega (arith, c.loop-x-test.true, one_shl c.requires.0, width_room c.requires.0);
      left = l.invariant.1;
      divisor = (c.requires.2, c.requires.3);
      some = left_over k.num k.den k.from l.x c.requires.1 l.invariant.0;
      place = pos_of_ne-zero c.if-x-ne0.true;
    }

pub loop-x-smaller : goal.loop-x-smaller
loop-x-smaller c =
    falls c.args.den c.loop-x.x c.brought_down-x.result c.requires.2 c.brought_down-x.ensures

pub loop-x-preserved : goal.loop-x-preserved
loop-x-preserved c =
    let i = c.loop-x.invariant in
    let d = c.brought_down-x.ensures in
    (d.same ∙ i.0, λ _. d.left, λ _. d.left, let l = i.3 in let p = d.place in omega arith)

pub returns-after-loop-x : goal.returns-after-loop-x
returns-after-loop-x c =
    let l = c.loop-x in
    let f : 2 ^ c.args.v ≤ l.x.digits = omega (arith, c.loop-x-test.false, one_shl c.requires.0) in
    record { found = record { whole = l.invariant.0; left = l.invariant.1 (omega (arith, pow_pos c.args.v)) }; full = λ _. f; place = l.invariant.3 }
