-- A row and the term that it says: a good row says a sound term, a term has at most one good row, and which one it can be. Assumes nothing.
use Prim.Native.Nat.{ℕ, suc, ◌*◌, ◌/◌, ◌%◌, ◌^◌, ◌≤◌, ◌<◌}
use native.Mathlib.Nat.{pow-zero, pow-suc, pow-le-pow_right, mul-pos, mul-lt-mul_of_pos_right, mul-le-mul, mul-le-mul_left, mul-div_cancel, mul-mod_left, div-add-mod', not-suc-le-zero}
use native.Mathlib.Omega.{arith}
use mathlib.Core.Path.{◌≡◌, refl, sym, ap, ◌∙◌}
use mathlib.Core.Bool.{Bool, true, false}
use borrow.Author.Tests.{ltb-true, ltb-false, lt-ltb, le-leb}
use lib.Dec.{ltb}
use Rattle.term.specs.declared.Term.{Term}
use Rattle.term.specs.Packed.{plain_factor}
use Rattle.term.specs.Bounds.{WithinFields, Bounds, Plain}
use Rattle.term.specs.Sound.{sound_size, sound_term}
use Rattle.row.specs.declared.Row.{Row}
use Rattle.row.specs.Row.{Good, term_of}
use Rattle.row.specs.Saying.{Power, Exact, RowOf}

pub ten_pos : (k : ℕ) → 0 < 10 ^ k
ten_pos k = omega (arith, pow-zero 10, pow-le-pow_right {n = 10} (omega arith) {i = 0} {j = k} (omega arith))

-- a magnitude has one power
pub power-same : (m p ten r : ℕ) → Power m p → 10 ^ 9 ≤ ten → ten < 10 ^ 10 → r ≤ 7 → ten * 10 ^ r ≡ m → r ≡ p
power-same m p ten r w above below few e = by (ltb r p) (ltb p r) refl refl
  where
    by : (a b : Bool) → ltb r p ≡ a → ltb p r ≡ b → r ≡ p
    by true b ea eb =
        let l : r < p = ltb-true r p ea in
        absurd (omega (arith, w.low r l, mul-lt-mul_of_pos_right {m = ten} {n = 10 ^ 10} below (ten_pos r)))
    by false true ea eb =
        let l : p < r = ltb-true p r eb in
        let up : 10 ^ suc p ≤ 10 ^ r = pow-le-pow_right {n = 10} (omega arith) {i = suc p} {j = r} l in
        let up' : 10 ^ p * 10 ≤ 10 ^ r = rw pow-suc at up in
        absurd (omega (arith, w.high (omega arith), mul-le-mul {n₁ = 10 ^ 9} {m₁ = 10 ^ p * 10} {n₂ = ten} {m₂ = 10 ^ r} above up'))
    by false false ea eb = omega (arith, ltb-false r p ea, ltb-false p r eb)

pub exact_yes : (m unit : ℕ) → 0 < unit → m % unit ≡ 0 → Exact m unit (m / unit)
exact_yes m unit h e =
    record {
      whole = λ _. omega (arith, div-add-mod' m unit);
      only = λ q k. ap (λ x. x / unit) (sym k) ∙ mul-div_cancel q h;
    }

pub exact_no : (m unit : ℕ) → (m % unit ≡ 0 → ⊥) → Exact m unit 0
exact_no m unit h =
    record {
      whole = λ k. absurd (not-suc-le-zero k);
      only = λ q k. absurd (h (ap (λ x. x % unit) (sym k) ∙ mul-mod_left q unit));
    }

pub row_of_term : (term : Term) (p unit ten : ℕ) → term.factor ≡ plain_factor term.c → Power term.magnitude p → unit ≡ 1 * 10 ^ p → Exact term.magnitude unit ten
    → RowOf term (record { c = term.c; d = term.d; t = term.t; negative = term.negative; ten = ten; power = p })
unfolding term_of
row_of_term term p unit ten f w u x =
    let one : unit ≡ 10 ^ p = omega arith in
    record {
      says = λ g.
          let m : ten * 10 ^ p ≡ term.magnitude = ap (λ n. ten * n) (sym one) ∙ x.whole (omega (arith, g.ten_above)) in
          let ef : plain_factor term.c ≡ term.factor = sym f in
          λ i. record { c = term.c; factor = ef i; d = term.d; t = term.t; negative = term.negative; magnitude = m i };
      only = λ r g e.
          let m : r.ten * 10 ^ r.power ≡ term.magnitude = ap (λ y. y.magnitude) e in
          let same : r.power ≡ p = power-same term.magnitude p r.ten r.power w g.ten_above g.ten_below g.power_most m in
          let digits : ten ≡ r.ten = x.only r.ten (ap (λ n. r.ten * n) (one ∙ ap (λ k. 10 ^ k) (sym same)) ∙ m) in
          let ec : term.c ≡ r.c = ap (λ y. y.c) (sym e) in
          let ed : term.d ≡ r.d = ap (λ y. y.d) (sym e) in
          let et : term.t ≡ r.t = ap (λ y. y.t) (sym e) in
          let en : term.negative ≡ r.negative = ap (λ y. y.negative) (sym e) in
          let ep : p ≡ r.power = sym same in
          λ i. record { c = ec i; d = ed i; t = et i; negative = en i; ten = digits i; power = ep i };
    }

good_power : (row : Row) → Good row → Power (row.ten * 10 ^ row.power) row.power
good_power row g =
    record {
      most = g.power_most;
      low = λ j l.
          let up : 10 ^ suc j ≤ 10 ^ row.power = pow-le-pow_right {n = 10} (omega arith) {i = suc j} {j = row.power} l in
          let up' : 10 ^ j * 10 ≤ 10 ^ row.power = rw pow-suc at up in
          omega (arith, mul-le-mul {n₁ = 10 ^ 9} {m₁ = 10 ^ j * 10} {n₂ = row.ten} {m₂ = 10 ^ row.power} g.ten_above up');
      high = λ _. mul-lt-mul_of_pos_right {m = row.ten} {n = 10 ^ 10} g.ten_below (ten_pos row.power);
    }

-- a magnitude has at most one spelling
pub term-one : (a b : Row) → Good a → Good b → term_of a ≡ term_of b → a ≡ b
unfolding term_of
term-one a b ga gb e =
    let one : 1 * 10 ^ a.power ≡ 10 ^ a.power = omega arith in
    (row_of_term (term_of a) a.power (1 * 10 ^ a.power) a.ten refl (good_power a ga) refl
    (record {
      whole = λ _. ap (λ n. a.ten * n) one;
      only = λ q k.
          sym (mul-div_cancel a.ten (ten_pos a.power))
          ∙ ap (λ n. n / 10 ^ a.power) (sym k ∙ ap (λ n. q * n) one)
          ∙ mul-div_cancel q (ten_pos a.power);
    })).only b gb (sym e)

-- ten digits times a power of ten grow with the power
pub scaled-below : (ten i k : ℕ) → i ≤ k → ten * 10 ^ i ≤ ten * 10 ^ k
scaled-below ten i k l = mul-le-mul_left ten (pow-le-pow_right {n = 10} (omega arith) {i = i} {j = k} l)

pub good_fields : (row : Row) → Good row → WithinFields (term_of row)
unfolding term_of
good_fields row g =
    record {
      c_below = g.c_below;
      factor_plain = refl;
      d_below = g.d_below;
      t_below = omega arith;
      magnitude_below = omega (arith, scaled-below row.ten row.power 7 (omega arith));
    }

-- what a good row says is a sound term of nine bytes
pub good_sound : (row : Row) → Good row → sound_term 38 (term_of row) ≡ true
unfolding sound_term sound_size term_of
good_sound row g =
    let most : row.ten * 10 ^ row.power ≤ 10 ^ 17 = omega (arith, scaled-below row.ten row.power 7 (omega arith)) in
    let some : 0 < row.ten * 10 ^ row.power = mul-pos (omega (arith, g.ten_above)) (ten_pos row.power) in
    rw (lt-ltb 0 row.d g.d_above, le-leb row.t 24 g.t_most, lt-ltb 0 (row.ten * 10 ^ row.power) some, le-leb (row.ten * 10 ^ row.power) (10 ^ 17) most)

-- a sound nine-byte term has a spelling where its magnitude is ten digits, the first not zero, times ten to a power from 0 to 7: nothing else counts
pub digits-said : (term : Term) (ten power : ℕ) → Bounds term → Plain term → 10 ^ 9 ≤ ten → ten < 10 ^ 10 → power ≤ 7 → ten * 10 ^ power ≡ term.magnitude
    → (row : Row) × Good row × (term_of row ≡ term)
unfolding term_of
digits-said term ten power b p above below most e =
    let row : Row = record { c = term.c; d = term.d; t = term.t; negative = term.negative; ten = ten; power = power } in
    let good : Good row =
    record { c_below = p.c_below; d_above = b.d_above; d_below = p.d_below; t_most = p.t_most; ten_above = above; ten_below = below; power_most = most } in
    let ef : plain_factor term.c ≡ term.factor = sym p.factor_plain in
    (row, good, λ i. record { c = term.c; factor = ef i; d = term.d; t = term.t; negative = term.negative; magnitude = e i })
