-- What the packing of a term cites: a number's bytes one by one, and a term as some bytes and a word. Assumes nothing.
use Prim.Native.Nat.{ℕ, zero, suc, ◌+◌, ◌-◌, ◌*◌, ◌/◌, ◌%◌, ◌^◌, ◌≤◌, ◌<◌}
use native.Mathlib.Omega.{arith}
use mathlib.Core.Path.{◌≡◌, refl, sym, ap, ap₂, ◌∙◌}
use mathlib.Core.Bool.{Bool, true, false}
use mathlib.Core.List.{◌∷◌, ◌++◌}
use lib.ListN.{drop, take}
use Rattle.std.specs.Int.{to_be_bytes}
use Rattle.std.proofs.Common.{w64}
use lib.Pow.{pow-add, high, shr-shr}
use Rattle.term.specs.declared.Term.{Term}
use Rattle.term.specs.Pieces.{wide, joined}
use Rattle.term.specs.Pack.{bytes_of, pieces, sign_bit, head_of, pack}
use Rattle.term.specs.Long.{long_pieces, long_head, pack_long}
use Rattle.term.specs.Bounds.{WithinFields, WithinLong}
use Rattle.term.proofs.Joined.{above}

whole : (x : ℕ) → x / 1 ≡ x
whole x = omega arith

-- the last n of a number's eight bytes, as std has them
pub last-bytes : (n x : ℕ) → n ≤ 8 → take n (drop (8 - n) (to_be_bytes w64 x)) ≡ bytes_of n x
unfolding bytes_of
last-bytes zero x h = refl
last-bytes (suc zero) x h = rw (whole x)
last-bytes (suc (suc zero)) x h = rw (whole x)
last-bytes (suc (suc (suc zero))) x h = rw (whole x)
last-bytes (suc (suc (suc (suc zero)))) x h = rw (whole x)
last-bytes (suc (suc (suc (suc (suc zero))))) x h = rw (whole x)
last-bytes (suc (suc (suc (suc (suc (suc zero)))))) x h = rw (whole x)
last-bytes (suc (suc (suc (suc (suc (suc (suc zero))))))) x h = rw (whole x)
last-bytes (suc (suc (suc (suc (suc (suc (suc (suc zero)))))))) x h = rw (whole x)
last-bytes (suc (suc (suc (suc (suc (suc (suc (suc (suc n))))))))) x h = absurd (omega arith)

-- what stands above the bytes does not count
pub bytes_low : (n over x : ℕ) → bytes_of n (over * 2 ^ (8 * n) + x) ≡ bytes_of n x
unfolding bytes_of
bytes_low zero over x = refl
bytes_low (suc n) over x =
    let e : 8 * suc n ≡ 0 + 8 + 8 * n = omega arith in
    let up : over * 2 ^ (8 * suc n) ≡ over * 2 ^ 8 * 2 ^ (8 * n) = ap (λ k. over * 2 ^ k) e ∙ rw (pow-add 2 8 (8 * n)) (omega arith) in
    ap₂ (λ a b. a ∷ b)
    (ap (λ k. (over * 2 ^ k + x) / 2 ^ (8 * n) % 2 ^ 8) e ∙ above over x 0 8 (8 * n))
    (ap (λ k. bytes_of n (k + x)) up ∙ bytes_low n (over * 2 ^ 8) x)

sign_small : (b : Bool) → sign_bit b < 2
sign_small true = omega arith
sign_small false = omega arith

pub head_below : (term : Term) → WithinFields term → head_of term < 4096
unfolding head_of
head_below term w = omega (arith, sign_small term.negative)

pub long_head-below : (term : Term) → WithinLong term → long_head term < 2 ^ 26
unfolding long_head
long_head-below term w = omega (arith, sign_small term.negative)

-- so many bytes more than eight are those bytes and a word
bytes_word : (n top word : ℕ) → word < 2 ^ 64 → bytes_of (n + 8) (top * 2 ^ 64 + word) ≡ bytes_of n top ++ bytes_of 8 word
unfolding bytes_of
bytes_word zero top word h = bytes_low 8 top word
bytes_word (suc n) top word h =
    let e : suc n + 8 ≡ suc (n + 8) = omega arith in
    let place : 8 * (n + 8) ≡ 64 + 8 * n = omega arith in
    ap (λ k. bytes_of k (top * 2 ^ 64 + word)) e
    ∙ ap₂ (λ a b. a % 256 ∷ b)
    (ap (λ k. (top * 2 ^ 64 + word) / 2 ^ k) place ∙ sym (shr-shr (top * 2 ^ 64 + word) 64 (8 * n)) ∙ ap (λ k. k / 2 ^ (8 * n)) (high top 64 h))
    (bytes_word n top word h)

-- a term's bytes: those of its head's first eight bits, and those of the other four with the magnitude
pub pack-head : (term : Term) (head : ℕ) → WithinFields term → head ≡ head_of term
    → bytes_of 1 (head / 16) ++ bytes_of 8 (head % 16 * 1152921504606846976 + term.magnitude) ≡ pack term
unfolding pack pieces joined wide head_of
pack-head term head w e =
    let word : ℕ = head % 16 * 1152921504606846976 + term.magnitude in
    let all : head / 16 * 2 ^ 64 + word ≡ joined (pieces term) = omega arith in
    sym (bytes_word 1 (head / 16) word (omega (arith, w.magnitude_below))) ∙ ap (bytes_of 9) all

-- a term's twelve bytes: those of its head with the magnitude's first six bits, and those of its other 54 with the spare bits
pub pack-long : (term : Term) (head : ℕ) → WithinLong term → head ≡ long_head term
    → bytes_of 4 (head * 64 + term.magnitude / 18014398509481984) ++ bytes_of 8 (term.magnitude % 18014398509481984 * 1024) ≡ pack_long term
unfolding pack_long long_pieces joined wide long_head
pack-long term head w e =
    let top : ℕ = head * 64 + term.magnitude / 18014398509481984 in
    let word : ℕ = term.magnitude % 18014398509481984 * 1024 in
    let all : top * 2 ^ 64 + word ≡ joined (long_pieces term) = omega arith in
    sym (bytes_word 4 top word (omega arith)) ∙ ap (bytes_of 12) all
