-- `sheet::place::moved` meets its contract: the digits shifted back show whether any of those cut was not zero. Assumes nothing.
use mathlib.Core.Path.{◌≡◌, refl, sym, ◌∙◌}
use Prim.Native.Nat.{ℕ, ◌*◌, ◌/◌, ◌%◌, ◌^◌, ◌<◌}
use native.Mathlib.Nat.{mod-eq_of_lt, lt_of_le_of_lt, div-mul-le_self}
use native.Mathlib.Omega.{arith}
use borrow.Author.Tests.{ne_eqb}
use Rattle.sheet.proofs.Shifts.{place_moved, place_moved_cut}
use Rattle.sheet.proofs.place.moved.Goals.{then-m-u, else-m-u}
use Rattle.sheet.proofs.place.moved.Goals as goal

back : (n u : ℕ) → n < 2 ^ 64 → n / 2 ^ u * 2 ^ u % 2 ^ 64 ≡ n / 2 ^ u * 2 ^ u
back n u h = mod-eq_of_lt (lt_of_le_of_lt (div-mul-le_self n (2 ^ u)) h)

pub returns : goal.returns
returns c =
    let k = c.args in
    let h = c.requires in
    let n = k.x.m * 2 ^ k.s in
    let w = mod-eq_of_lt h.fits in
    let b = back n k.u h.fits in
    rw w
    (record {
      digits = refl;
      place = omega (arith, h.below);
      keeps = λ num den p. elim c.if-m-u.branch [
        | then-m-u w2 ↦ rw (w2.result-is, ne_eqb _ _ w2.if-m-u.true) (place_moved_cut k.x.m k.s k.u k.x.e k.x.sticky h.below num den (λ e. (rw w at w2.if-m-u.true) (b ∙ e)) p)
        | else-m-u w2 ↦ rw w2.result-is (place_moved k.x.m k.s k.u k.x.e k.x.sticky h.below num den h.whole (sym b ∙ rw w at w2.if-m-u.false) p)
      ];
    })
