-- Laws of fields of a list of bytes: their bounds, how two neighbours join, and that a field lies in the bytes that hold it.
-- Assumes nothing.
use Prim.Native.Nat.{ℕ, suc, ◌+◌, ◌-◌, ◌*◌, ◌/◌, ◌%◌, ◌^◌, ◌≤◌, ◌<◌}
use mathlib.Core.Path.{◌≡◌, refl, sym, ap, ◌∙◌}
use mathlib.Core.List.{List, [], ◌∷◌, ◌++◌, map, map-append}
use native.Mathlib.Omega.{arith}
use native.Mathlib.Nat.{mod-lt, lt_of_lt_of_le}
use lib.ListN.{length, get_or, take, drop, length-append}
use lib.Seq.{split_at, get_or-drop, length-take-le}
use lib.Pow.{pow_pos, pow_mono, mod-pow-add, shl-shr, shr-shr, field as cut}
use Rattle.term.specs.Pieces.{wide, joined, Fit}
use Rattle.term.specs.Bits.{eight, number, field, Bytes}
use Rattle.term.proofs.Joined.{joined-cut}

pub field_below : (bytes : List ℕ) (first bits : ℕ) → field bytes first bits < 2 ^ bits
unfolding field
field_below bytes first bits = mod-lt (number bytes / 2 ^ (8 * length bytes - (first + bits))) (pow_pos bits)

-- there is room for so many bits behind it in 64
pub field_room : (bytes : List ℕ) (first bits n : ℕ) → bits + n ≤ 64 → field bytes first bits < 2 ^ (64 - n)
field_room bytes first bits n h = lt_of_lt_of_le (field_below bytes first bits) (pow_mono {i = bits} {j = 64 - n} (omega arith))

-- two neighbouring fields, read as one
pub field_join : (bytes : List ℕ) (first a b : ℕ) → first + (a + b) ≤ 8 * length bytes
    → field bytes first (a + b) ≡ field bytes first a * 2 ^ b + field bytes (first + a) b
unfolding field
field_join bytes first a b h =
    let e : ℕ = 8 * length bytes - (first + (a + b)) in
    let left : 8 * length bytes - (first + a) ≡ e + b = omega arith in
    let right : 8 * length bytes - (first + a + b) ≡ e = omega arith in
    rw (left, right, mod-pow-add (number bytes / 2 ^ e) a b, shr-shr (number bytes) e b)

pub wide-eight : (bytes : List ℕ) → wide (map eight bytes) ≡ 8 * length bytes
unfolding wide
wide-eight [] = refl
wide-eight (x ∷ s) = rw (wide-eight s) (omega arith)

pub fit_eight : (bytes : List ℕ) → Bytes bytes → Fit (map eight bytes)
fit_eight [] h = tt
fit_eight (x ∷ s) h = (h 0, fit_eight s (λ i. h (suc i)))

-- a field that lies within some bytes of a list is a field of those bytes
pub field_within : (before bytes after : List ℕ) (first bits : ℕ) → Bytes after → first + bits ≤ 8 * length bytes
    → field (before ++ (bytes ++ after)) (8 * length before + first) bits ≡ field bytes first bits
unfolding field number
field_within before bytes after first bits small h =
    let e : ℕ = 8 * length bytes - (first + bits) in
    let shift : 8 * length (before ++ (bytes ++ after)) - (8 * length before + first + bits) ≡ wide (map eight after) + e =
    omega (arith, wide-eight after, length-append before (bytes ++ after), length-append bytes after) in
    rw (shift, map-append eight before (bytes ++ after), map-append eight bytes after)
    (joined-cut (map eight before) (map eight bytes) (map eight after) first bits e (fit_eight after small) (omega (arith, wide-eight bytes)))

-- bits of one byte: shifted up, those before them fall out, and shifted down, those behind them
piece : (byte first bits : ℕ) → first + bits ≤ 8 → field (byte ∷ []) first bits ≡ byte * 2 ^ first % 2 ^ 8 / 2 ^ (8 - bits)
unfolding field number joined wide
piece byte first bits h =
    let e : ℕ = 8 - (first + bits) in
    let all : byte * 1 + 0 ≡ byte = omega arith in
    let width : bits + (8 - bits) ≡ 8 = omega arith in
    let down : first + e ≡ 8 - bits = omega arith in
    let shifted : byte * 2 ^ first / 2 ^ (8 - bits) ≡ byte / 2 ^ e = rw (← down, ← shr-shr (byte * 2 ^ first) first e, shl-shr byte first) in
    rw all (ap (λ (x : ℕ). x % 2 ^ bits) (sym shifted) ∙ sym (cut (byte * 2 ^ first) bits (8 - bits)) ∙ ap (λ (x : ℕ). byte * 2 ^ first % 2 ^ x / 2 ^ (8 - bits)) width)

-- bits that one byte holds are bits of that byte
pub field_piece : (s : List ℕ) (place bits : ℕ) → Bytes s → place < 8 * length s → place % 8 + bits ≤ 8
    → field s place bits ≡ get_or s (place / 8) 0 * 2 ^ (place % 8) % 2 ^ 8 / 2 ^ (8 - bits)
field_piece s place bits small h k =
    let q : ℕ = place / 8 in
    let b : ℕ = get_or s q 0 in
    let before : List ℕ = take q s in
    let after : List ℕ = drop (suc q) s in
    let whole : s ≡ before ++ (b ∷ after) = split_at s q 0 (omega arith) in
    let at : place ≡ 8 * length before + place % 8 = omega (arith, length-take-le q s (omega arith)) in
    ap (λ (x : List ℕ). field x place bits) whole
    ∙ (ap (λ (x : ℕ). field (before ++ (b ∷ after)) x bits) at
    ∙ (field_within before (b ∷ []) after (place % 8) bits (λ i. rw get_or-drop (small (suc q + i))) (omega arith)
    ∙ piece b (place % 8) bits k))
