-- Packing and reading back: a piece of any record, and a term of nine bytes and of twelve. Assumes nothing.
use Prim.Native.Nat.{ℕ, zero, suc, ◌+◌, ◌-◌, ◌*◌, ◌/◌, ◌%◌, ◌^◌, ◌<◌}
use mathlib.Core.Path.{◌≡◌, refl, sym, ap, ◌∙◌}
use mathlib.Core.List.{List, [], ◌∷◌, ◌++◌, map}
use mathlib.Core.Bool.{Bool, true, false, cond}
use native.Mathlib.Omega.{arith}
use native.Mathlib.Nat.{mod-lt, mod-eq_of_lt, div-one}
use lib.ListN.{length}
use lib.Dec.{eqb}
use lib.Pow.{pow_pos, mod-pow-add}
use Rattle.term.specs.declared.Term.{Term}
use Rattle.term.specs.Pieces.{Piece, wide, joined, Fit}
use Rattle.term.specs.Bits.{eight, number, field, Bytes}
use Rattle.term.specs.Pack.{bytes_of, pieces, pack}
use Rattle.term.specs.Long.{long_from, spare_bits, long_pieces, pack_long}
use Rattle.term.specs.Packed.{plain_from}
use Rattle.term.specs.Bounds.{WithinFields, WithinLong}
use Rattle.term.proofs.Joined.{wide-append, joined-below, joined-cut}
use Rattle.term.proofs.Fields.{wide-eight}

pub bytes_of-length : (n x : ℕ) → length (bytes_of n x) ≡ n
unfolding bytes_of
bytes_of-length zero x = refl
bytes_of-length (suc n) x = ap suc (bytes_of-length n x)

pub bytes_of-bytes : (n x : ℕ) → Bytes (bytes_of n x)
unfolding bytes_of
bytes_of-bytes zero x i = omega arith
bytes_of-bytes (suc n) x zero = mod-lt (x / 2 ^ (8 * n)) (pow_pos 8)
bytes_of-bytes (suc n) x (suc i) = bytes_of-bytes n x i

pub bytes_of-number : (n x : ℕ) → number (bytes_of n x) ≡ x % 2 ^ (8 * n)
unfolding bytes_of number joined
bytes_of-number zero x = omega arith
bytes_of-number (suc n) x =
    let w : wide (map eight (bytes_of n x)) ≡ 8 * n = wide-eight (bytes_of n x) ∙ ap (λ (k : ℕ). 8 * k) (bytes_of-length n x) in
    let e : 8 * suc n ≡ 8 + 8 * n = omega arith in
    rw (w, e, mod-pow-add x 8 (8 * n), ← bytes_of-number n x)

fit_behind : (before rest : List Piece) → Fit (before ++ rest) → Fit rest
fit_behind [] rest fit = fit
fit_behind (p ∷ before) rest fit = fit_behind before rest fit.1

-- a piece of whole bytes is read where it was put
pub piece-read : (before : List Piece) (p : Piece) (after : List Piece) (n : ℕ)
    → Fit (before ++ (p ∷ after)) → wide (before ++ (p ∷ after)) ≡ 8 * n
    → field (bytes_of n (joined (before ++ (p ∷ after)))) (wide before) p.bits ≡ p.value
unfolding field wide joined
piece-read before p after n fit h =
    let x : ℕ = joined (before ++ (p ∷ after)) in
    let here : Fit (p ∷ after) = fit_behind before (p ∷ after) fit in
    let same : number (bytes_of n x) ≡ x = bytes_of-number n x ∙ mod-eq_of_lt (rw h at (joined-below (before ++ (p ∷ after)) fit)) in
    let shift : 8 * length (bytes_of n x) - (wide before + p.bits) ≡ wide after + 0 = omega (arith, bytes_of-length n x, wide-append before (p ∷ after)) in
    let alone : p.value * 1 + 0 ≡ p.value = omega arith in
    rw (same, shift, joined-cut before (p ∷ []) after 0 p.bits 0 here.1 (omega arith), alone, div-one p.value) (mod-eq_of_lt here.0)

sign_back : (b : Bool) → eqb (cond b 1 0) 1 ≡ b
sign_back true = refl
sign_back false = refl

sign_fits : (b : Bool) → cond b 1 0 < 2
sign_fits true = omega arith
sign_fits false = omega arith

pieces-fit : (term : Term) → WithinFields term → Fit (pieces term)
unfolding pieces
pieces-fit term f = (f.c_below, (f.d_below, (f.t_below, (sign_fits term.negative, (f.magnitude_below, tt)))))

-- the fields of a term, packed and read back
pub pack-read : (term : Term) → WithinFields term → plain_from (pack term) 0 ≡ term
unfolding plain_from pack pieces wide
pack-read term f =
    let fit : Fit (pieces term) = pieces-fit term f in
    let a : Piece = record { bits = 2; value = term.c } in
    let b : Piece = record { bits = 4; value = term.d } in
    let c : Piece = record { bits = 5; value = term.t } in
    let d : Piece = record { bits = 1; value = cond term.negative 1 0 } in
    let e : Piece = record { bits = 60; value = term.magnitude } in
    rw (
      piece-read [] a (b ∷ c ∷ d ∷ e ∷ []) 9 fit refl,
      piece-read (a ∷ []) b (c ∷ d ∷ e ∷ []) 9 fit refl,
      piece-read (a ∷ b ∷ []) c (d ∷ e ∷ []) 9 fit refl,
      piece-read (a ∷ b ∷ c ∷ []) d (e ∷ []) 9 fit refl,
      piece-read (a ∷ b ∷ c ∷ d ∷ []) e [] 9 fit refl,
      sign_back term.negative,
      sym f.factor_plain,
    )

long_fit : (term : Term) → WithinLong term → Fit (long_pieces term)
unfolding long_pieces
long_fit term f = (f.c_below, (f.factor_below, (f.d_below, (f.t_below, (sign_fits term.negative, (f.magnitude_below, (omega arith, tt)))))))

pub long_read : (term : Term) → WithinLong term → long_from (pack_long term) 0 ≡ term
unfolding long_from pack_long long_pieces wide
long_read term f =
    let fit : Fit (long_pieces term) = long_fit term f in
    let a : Piece = record { bits = 4; value = term.c } in
    let b : Piece = record { bits = 10; value = term.factor } in
    let c : Piece = record { bits = 5; value = term.d } in
    let d : Piece = record { bits = 6; value = term.t } in
    let e : Piece = record { bits = 1; value = cond term.negative 1 0 } in
    let g : Piece = record { bits = 60; value = term.magnitude } in
    let h : Piece = record { bits = 10; value = 0 } in
    rw (
      piece-read [] a (b ∷ c ∷ d ∷ e ∷ g ∷ h ∷ []) 12 fit refl,
      piece-read (a ∷ []) b (c ∷ d ∷ e ∷ g ∷ h ∷ []) 12 fit refl,
      piece-read (a ∷ b ∷ []) c (d ∷ e ∷ g ∷ h ∷ []) 12 fit refl,
      piece-read (a ∷ b ∷ c ∷ []) d (e ∷ g ∷ h ∷ []) 12 fit refl,
      piece-read (a ∷ b ∷ c ∷ d ∷ []) e (g ∷ h ∷ []) 12 fit refl,
      piece-read (a ∷ b ∷ c ∷ d ∷ e ∷ []) g (h ∷ []) 12 fit refl,
      sign_back term.negative,
    )

-- no spare bit of a packed term is set
pub spare_none : (term : Term) → WithinLong term → spare_bits (pack_long term) 0 ≡ 0
unfolding spare_bits pack_long long_pieces wide
spare_none term f =
    piece-read
    (record { bits = 4; value = term.c }
    ∷ record { bits = 10; value = term.factor }
    ∷ record { bits = 5; value = term.d }
    ∷ record { bits = 6; value = term.t }
    ∷ record { bits = 1; value = cond term.negative 1 0 }
    ∷ record { bits = 60; value = term.magnitude }
    ∷ [])
    (record { bits = 10; value = 0 })
    []
    12
    (long_fit term f)
    refl
