-- Laws of pieces of bits joined to one number: of a list in parts, the bound, and what is cut out of the middle. Assumes nothing.
use Prim.Native.Nat.{ℕ, ◌+◌, ◌*◌, ◌/◌, ◌%◌, ◌^◌, ◌<◌}
use mathlib.Core.Path.{◌≡◌}
use mathlib.Core.List.{List, [], ◌∷◌, ◌++◌}
use native.Mathlib.Omega.{arith}
use native.Mathlib.Nat.{mul-add-div_right, mul-add-mod_self_right}
use lib.Arith.{digits_lt}
use lib.Pow.{pow_pos, pow-add, high, shr-shr}
use Rattle.term.specs.Pieces.{Piece, wide, joined, Fit}

pub wide-append : (xs ys : List Piece) → wide (xs ++ ys) ≡ wide xs + wide ys
unfolding wide
wide-append [] ys = omega arith
wide-append (x ∷ xs) ys = rw (wide-append xs ys) (omega arith)

pub joined-append : (xs ys : List Piece) → joined (xs ++ ys) ≡ joined xs * 2 ^ wide ys + joined ys
unfolding joined
joined-append [] ys = omega arith
joined-append (x ∷ xs) ys = rw (wide-append xs ys, pow-add 2 (wide xs) (wide ys), joined-append xs ys) (omega arith)

pub joined-below : (ps : List Piece) → Fit ps → joined ps < 2 ^ wide ps
unfolding joined wide
joined-below [] fit = omega arith
joined-below (p ∷ ps) fit = rw (pow-add 2 p.bits (wide ps)) (digits_lt fit.0 (joined-below ps fit.1))

-- what stands above the bits of a field does not count
pub above : (over low first bits e : ℕ) → (over * 2 ^ (first + bits + e) + low) / 2 ^ e % 2 ^ bits ≡ low / 2 ^ e % 2 ^ bits
above over low first bits e =
    let up : over * 2 ^ (first + bits + e) ≡ over * 2 ^ first * 2 ^ bits * 2 ^ e = rw (pow-add 2 (first + bits) e, pow-add 2 first bits) (omega arith) in
    rw (up, mul-add-div_right (pow_pos e) (over * 2 ^ first * 2 ^ bits) low, mul-add-mod_self_right (over * 2 ^ first) (2 ^ bits) (low / 2 ^ e))

-- bits that lie within some pieces are bits of those pieces
pub joined-cut : (before ps after : List Piece) (first bits e : ℕ) → Fit after → wide ps ≡ first + bits + e
    → joined (before ++ (ps ++ after)) / 2 ^ (wide after + e) % 2 ^ bits ≡ joined ps / 2 ^ e % 2 ^ bits
joined-cut before ps after first bits e fit h =
    let w : ℕ = wide after in
    let whole : joined (before ++ (ps ++ after)) ≡ (joined before * 2 ^ (first + bits + e) + joined ps) * 2 ^ w + joined after =
    rw (joined-append before (ps ++ after), joined-append ps after, wide-append ps after, pow-add 2 (wide ps) w, h) (omega arith) in
    rw (whole, ← shr-shr ((joined before * 2 ^ (first + bits + e) + joined ps) * 2 ^ w + joined after) w e, high (joined before * 2 ^ (first + bits + e) + joined ps) w (joined-below after fit))
    (above (joined before) (joined ps) first bits e)
