-- The range of r and z: r lies from 1/2 to 5/2, so z is zero or at least 2^-(v + 3) in size, and at most 1. Over the count of bits suc v, from
-- five bits on. Assumes nothing.
use mathlib.Core.Path.{◌≡◌, refl}
use mathlib.Core.Bool.{false}
use Prim.Native.Nat.{ℕ, suc, ◌+◌, ◌-◌, ◌^◌, ◌≤◌}
use native.Mathlib.Nat.{le_trans}
use native.Mathlib.Omega.{arith}
use lib.Dec.{lit≤}
use lib.Pow.{pow_pos, pow_mono}
use Rattle.exact.specs.Fraction.{Fraction, nat, parts, leq, ◌⊗◌, ◌⊘◌, ◌≼◌, ◌≺◌, ◌≈◌}
use Rattle.exact.proofs.Fraction.Order.{≼_refl, ≼_trans, ≺→≼, ≺-≼-trans, ≼-by, ≈→≼, ≈-refl, ≈-sym, ≈-trans, ≈-≼-trans, ≼-≈-trans}
use Rattle.exact.proofs.Fraction.Product.{one-⊗, ⊗-one, ⊗-assoc, ⊗-comm, ⊗-cong, ⊗-mono-left, ⊗-mono-right}
use Rattle.exact.proofs.Fraction.Quotient.{≼-⊘, ⊘-≼}
use Rattle.exact.proofs.Fraction.Parts.{parts-nonneg, nat-nonneg, nat-≼}
use Rattle.sheet.specs.Number.{bias, value}
use Rattle.sheet.specs.Round.{down, up}
use Rattle.sheet.proofs.Laws.{down_le, up_ge}
use Rattle.doubles.specs.Ratio.{IsLargest}
use Rattle.bracket.specs.declared.Bracket.{Bracket}
use Rattle.bracket.specs.Span.{Span, Each, whole, point, over}
use Rattle.bracket.specs.Rules.{ends, rounded, given, times}
use Rattle.bracket.proofs.Corners.{over-ordered}
use Rattle.bracket.proofs.Inclusion.{given_ordered, combined-ordered}
use Rattle.series.specs.Logarithm.{ratio_r}
use Rattle.measure.proofs.Lift.{over-both}
use Rattle.series.proofs.Short.{short, unit, bias-room, low-unit, high_short}
use Rattle.series.proofs.Units.{unit-pos, unit-part, short-part}
use Rattle.series.proofs.RatioCovers.{liquid_most}
use Rattle.series.proofs.Close.{κ, close}

-- ---- 14/13 three times over is at most 5/4
κ-nonneg : nat 0 ≼ κ
unfolding κ
κ-nonneg = parts-nonneg 14 13

κ-three : κ ⊗ (κ ⊗ κ) ≼ parts false 5 4
unfolding κ leq parts ◌⊗◌
κ-three = ≼-by (κ ⊗ (κ ⊗ κ)) (parts false 5 4) tt

three : (y : Fraction) → nat 0 ≼ y → κ ⊗ (κ ⊗ (κ ⊗ y)) ≼ parts false 5 4 ⊗ y
three y h =
    ≈-≼-trans
    (≈-trans (⊗-cong (≈-refl κ) (≈-sym (⊗-assoc κ κ y))) (≈-sym (⊗-assoc κ (κ ⊗ κ) y)))
    (⊗-mono-left h κ-three)

grow : {x y : Fraction} → x ≼ y → κ ⊗ x ≼ κ ⊗ y
grow h = ⊗-mono-right κ-nonneg h

-- a number and its two roundings
module _ (v l : ℕ) (four : 4 ≤ v) (room : v ≤ l) where
  up_close : {x : Fraction} → unit l ≼ x → value (up (suc v) x) ≼ κ ⊗ x
  up_close {x} h = ≼_trans (close v l x four room h) (grow (down_le v x))

  down_close : {x : Fraction} → unit l ≼ x → x ≼ κ ⊗ value (down (suc v) x)
  down_close {x} h = ≼_trans (up_ge v x) (close v l x four room h)

-- small facts of fractions
five-eighths : parts false 1 2 ⊗ parts false 5 4 ≼ nat 1
unfolding leq parts nat ◌⊗◌
five-eighths = ≼-by (parts false 1 2 ⊗ parts false 5 4) (nat 1) tt

five-halves : nat 2 ⊗ parts false 5 4 ≼ parts false 5 2
unfolding leq parts nat ◌⊗◌
five-halves = ≼-by (nat 2 ⊗ parts false 5 4) (parts false 5 2) tt

half_of : (y : Fraction) → nat 0 ≼ y → parts false 1 2 ⊗ (parts false 5 4 ⊗ y) ≼ y
half_of y h =
    ≈-≼-trans (≈-sym (⊗-assoc (parts false 1 2) (parts false 5 4) y)) (≼-≈-trans (⊗-mono-left h five-eighths) (one-⊗ y))

double-of : (y : Fraction) → nat 0 ≼ y → nat 2 ⊗ (parts false 5 4 ⊗ y) ≼ parts false 5 2 ⊗ y
double-of y h = ≈-≼-trans (≈-sym (⊗-assoc (nat 2) (parts false 5 4) y)) (⊗-mono-left h five-halves)

swap : (x y z : Fraction) → x ⊗ (y ⊗ z) ≈ y ⊗ (x ⊗ z)
swap x y z = ≈-trans (≈-sym (⊗-assoc x y z)) (≈-trans (⊗-cong (⊗-comm x y) (≈-refl z)) (⊗-assoc y x z))

-- ---- r
module _ (v : ℕ) (four : 4 ≤ v) (room : v + 10 ≤ bias) {liquid vapour : Fraction} {k : ℕ} (g : parts false 1 1024 ≼ vapour) (l : IsLargest liquid vapour k) where
  t : ℕ
  t = bias - 10

  G : Bracket
  G = given (suc v) vapour

  L : Bracket
  L = given (suc v) liquid

  D : Bracket
  D = times (suc v) (ends G) (whole (2 ^ k))

  W : Fraction
  W = vapour ⊗ nat (2 ^ k)

  enough : v ≤ t
  unfolding t
  enough = omega arith

  rises : {x : Fraction} → nat 0 ≼ x → x ≼ x ⊗ nat (2 ^ k)
  rises {x} h = ≈-≼-trans (≈-sym (⊗-one x)) (⊗-mono-right h (nat-≼ (pow_pos k)))

  vapour_least : unit t ≼ vapour
  unfolding t
  vapour_least = ≈-≼-trans (unit-part 10 (omega (arith, bias-room))) g

  liquid_least : unit t ≼ liquid
  liquid_least = ≼_trans vapour_least (≼_trans (rises (≼_trans (≺→≼ (unit-pos t)) vapour_least)) l.within)

  G-least : unit t ≼ value G.lo
  unfolding G
  G-least = low-unit v t (point vapour) vapour_least

  G-high : value G.hi ≼ κ ⊗ vapour
  unfolding G rounded
  G-high = up_close v t four enough vapour_least

  G-low : vapour ≼ κ ⊗ value G.lo
  unfolding G rounded
  G-low = down_close v t four enough vapour_least

  -- the products that D is rounded from
  O : Span
  O = over ◌⊗◌ (ends G) (whole (2 ^ k))

  G-order : value G.lo ≼ value G.hi
  unfolding G
  G-order = (given_ordered v vapour).order

  is_power : Each (λ (y : Fraction). y ≡ nat (2 ^ k)) (whole (2 ^ k))
  is_power = record { low = refl; high = refl }

  O-low : value G.lo ⊗ nat (2 ^ k) ≼ O.low
  unfolding O
  O-low =
      (over-both {P = λ (x : Fraction). value G.lo ≼ x} {Q = λ (y : Fraction). y ≡ nat (2 ^ k)} {R = λ (x : Fraction). value G.lo ⊗ nat (2 ^ k) ≼ x} ◌⊗◌
      (λ x y a e. rw e (⊗-mono-left (nat-nonneg (2 ^ k)) a)) (record { low = ≼_refl (value G.lo); high = G-order }) is_power).low

  O-high : O.high ≼ value G.hi ⊗ nat (2 ^ k)
  unfolding O
  O-high =
      (over-both {P = λ (x : Fraction). x ≼ value G.hi} {Q = λ (y : Fraction). y ≡ nat (2 ^ k)} {R = λ (x : Fraction). x ≼ value G.hi ⊗ nat (2 ^ k)} ◌⊗◌
      (λ x y a e. rw e (⊗-mono-left (nat-nonneg (2 ^ k)) a)) (record { low = G-order; high = ≼_refl (value G.hi) }) is_power).high

  O-least : unit t ≼ O.low
  O-least = ≼_trans G-least (≼_trans (rises (≼_trans (≺→≼ (unit-pos t)) G-least)) O-low)

  O-most : unit t ≼ O.high
  unfolding O
  O-most = ≼_trans O-least (over-ordered ◌⊗◌ (ends G) (whole (2 ^ k))).order

  -- D is at most 5/4 of the liquid's lower end
  L-low : liquid ≼ κ ⊗ value L.lo
  unfolding L rounded
  L-low = down_close v t four enough liquid_least

  L-high : value L.hi ≼ κ ⊗ liquid
  unfolding L rounded
  L-high = up_close v t four enough liquid_least

  L-least : unit t ≼ value L.lo
  unfolding L
  L-least = low-unit v t (point liquid) liquid_least

  L-order : value L.lo ≼ value L.hi
  unfolding L
  L-order = (given_ordered v liquid).order

  D-high : value D.hi ≼ parts false 5 4 ⊗ value L.lo
  unfolding D O rounded W
  D-high =
      ≼_trans (up_close v t four enough O-most)
      (≼_trans (grow (≼_trans O-high (≼_trans (⊗-mono-left (nat-nonneg (2 ^ k)) G-high) (≈→≼ (⊗-assoc κ vapour (nat (2 ^ k)))))))
      (≼_trans (grow (grow (≼_trans l.within L-low))) (three (value L.lo) (≼_trans (≺→≼ (unit-pos t)) L-least))))

  D-least : unit t ≼ value D.lo
  unfolding D O
  D-least = low-unit v t O O-least

  D-order : value D.lo ≼ value D.hi
  unfolding D
  D-order = (combined-ordered v ◌⊗◌ (ends G) (whole (2 ^ k))).order

  W-low : W ≼ κ ⊗ (κ ⊗ value D.lo)
  unfolding D O rounded W
  W-low =
      ≼_trans (⊗-mono-left (nat-nonneg (2 ^ k)) G-low)
      (≼_trans (≈→≼ (⊗-assoc κ (value G.lo) (nat (2 ^ k)))) (grow (≼_trans O-low (down_close v t four enough O-least))))

  L-most : value L.hi ≼ parts false 5 2 ⊗ value D.lo
  unfolding W
  L-most =
      let d = value D.lo in
      let n : nat 0 ≼ d = ≼_trans (≺→≼ (unit-pos t)) D-least in
      ≼_trans L-high
      (≼_trans (grow (≼_trans (liquid_most (≺-≼-trans (unit-pos t) vapour_least) l) (⊗-mono-right (nat-nonneg 2) W-low)))
      (≼_trans (≈→≼ (swap κ (nat 2) (κ ⊗ (κ ⊗ d)))) (≼_trans (⊗-mono-right (nat-nonneg 2) (three d n)) (double-of d n))))

  -- so r lies from 1/2 to 5/2
  pub r_least : unit (bias - 1) ≼ value (ratio_r (suc v) liquid vapour k).lo
  unfolding ratio_r D L G
  r_least =
      low-unit v (bias - 1) (over ◌⊘◌ (ends L) (ends D))
      (≈-≼-trans (unit-part 1 (omega (arith, bias-room)))
      (over-both {P = λ (x : Fraction). value L.lo ≼ x} {Q = λ (y : Fraction). (nat 0 ≺ y) × (y ≼ value D.hi)} {R = λ (x : Fraction). parts false 1 2 ≼ x} ◌⊘◌
      (λ x y a b.
      ≼-⊘ b.0
      (≼_trans (⊗-mono-right (parts-nonneg 1 2) (≼_trans b.1 D-high)) (≼_trans (half_of (value L.lo) (≼_trans (≺→≼ (unit-pos t)) L-least)) a)))
      (record { low = ≼_refl (value L.lo); high = L-order })
      (record { low = (D-pos, D-order); high = (≺-≼-trans D-pos D-order, ≼_refl (value D.hi)) })).low)
    where
      D-pos : nat 0 ≺ value D.lo
      D-pos = ≺-≼-trans (unit-pos t) D-least

  pub r_most : value (ratio_r (suc v) liquid vapour k).hi ≼ short 5 (bias - 1)
  unfolding ratio_r D L G
  r_most =
      high_short v 5 (bias - 1) (over ◌⊘◌ (ends L) (ends D)) (lit≤ tt) (le_trans (lit≤ tt) (pow_mono {i = 3} (omega arith)))
      (≼-≈-trans
      (over-both {P = λ (x : Fraction). x ≼ value L.hi} {Q = λ (y : Fraction). value D.lo ≼ y} {R = λ (x : Fraction). x ≼ parts false 5 2} ◌⊘◌
      (λ x y a b. ⊘-≼ (≺-≼-trans D-pos b) (≼_trans a (≼_trans L-most (⊗-mono-right (parts-nonneg 5 2) b))))
      (record { low = L-order; high = ≼_refl (value L.hi) }) (record { low = ≼_refl (value D.lo); high = D-order })).high
      (≈-sym (short-part 5 1 (omega (arith, bias-room)))))
    where
      D-pos : nat 0 ≺ value D.lo
      D-pos = ≺-≼-trans (unit-pos t) D-least
