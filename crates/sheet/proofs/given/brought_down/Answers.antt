-- `sheet::given::brought_down` meets its contract. Assumes nothing.
use mathlib.Core.Path.{◌≡◌}
use Prim.Native.Nat.{ℕ, min, ◌+◌, ◌*◌, ◌/◌, ◌%◌, ◌^◌, ◌≤◌, ◌<◌}
use native.Mathlib.Nat.{mod-eq_of_lt}
use native.Mathlib.Omega.{arith}
use lib.Count.{count_leading_zeros}
use Rattle.sheet.proofs.Divisions.{room-left, within_word, rest_fits, digits-fit, sum_fits, bring}
use Rattle.sheet.specs.declared.given.Division.{Division}
use Rattle.sheet.specs.Steps.{Divisible}
use Rattle.sheet.proofs.given.brought_down.Goals as goal

-- the digits to come are no more than there are places, and what the shifts leave is within a word
record Fits (den : ℕ) (x : Division) (t : ℕ) : Type 0 where
  below : t ≤ x.place
  some : x.rest < den → 0 < t
  few : t < 64
  rest : x.rest * 2 ^ t % 2 ^ 64 ≡ x.rest * 2 ^ t
  digits : x.digits * 2 ^ t % 2 ^ 64 ≡ x.digits * 2 ^ t
  sum : x.digits * 2 ^ t + x.rest * 2 ^ t / den < 2 ^ 64

fits : (den : ℕ) (x : Division) {free from t : ℕ} → Divisible den x → x.rest < 2 ^ 64 → free ≡ min (count_leading_zeros 64 x.digits) (count_leading_zeros 64 x.rest) → from ≡ free → t ≡ min from x.place → Fits den x t
fits den x {free} {from} {t} d w k l e =
    let f : t ≤ count_leading_zeros 64 x.digits = omega arith in
    let g : t ≤ count_leading_zeros 64 x.rest = omega arith in
    record {
      below = omega arith;
      some = λ h. omega (arith, room-left den x d h);
      few = within_word den x d w t f g;
      rest = mod-eq_of_lt (rest_fits den x d w t f g);
      digits = mod-eq_of_lt (digits-fit den x d w t f g);
      sum = sum_fits den x d w t f g;
    }

pub overflow_shl-n : goal.overflow_shl-n
overflow_shl-n c = (fits c.args.den c.args.x c.requires (omega arith) c.min-free.ensures c.from.ensures c.min-t.ensures).few

pub overflow_shl-result : goal.overflow_shl-result
overflow_shl-result c = (fits c.args.den c.args.x c.requires (omega arith) c.min-free.ensures c.from.ensures c.min-t.ensures).few

pub overflow_add-result : goal.overflow_add-result
overflow_add-result c =
    let f = fits c.args.den c.args.x c.requires (omega arith) c.min-free.ensures c.from.ensures c.min-t.ensures in
    rw (f.digits, f.rest) (omega (arith, f.sum))

pub returns : goal.returns
returns c =
    let f = fits c.args.den c.args.x c.requires (omega arith) c.min-free.ensures c.from.ensures c.min-t.ensures in
    rw (f.digits, f.rest) (bring c.args.den _ c.args.x c.requires.divisor.0 f.some f.below)
