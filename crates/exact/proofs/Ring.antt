-- Identities of sums, differences and products of exact fractions, by computing both sides to one sum of products: `ring e f ρ refl`
-- proves that the expressions e and f agree at the fractions ρ. Assumes nothing.
use Prim.Native.Nat.{ℕ, zero, suc, ◌+◌, ◌*◌, compare, Ordering}
use mathlib.Core.Path.{◌≡◌, refl, ap}
use mathlib.Core.Bool.{Bool, true, false}
use mathlib.Core.List.{List, [], ◌∷◌}
use lib.Dec.{leb, compare_is_eq}
use borrow.Author.Tests.{eqb-true}
use Rattle.exact.specs.Fraction.{Fraction, nat, negate, ◌⊕◌, ◌⊖◌, ◌⊗◌, ◌≈◌}
use Rattle.exact.proofs.Fraction.Order.{≈-refl, ≈-sym, ≈-trans, ≈-of-≡}
use Rattle.exact.proofs.Fraction.Sum.{⊕-cong, ⊖-cong, negate-cong, ⊕-assoc, ⊕-swap, zero_⊕, ⊕-zero, ⊖-zero, ⊖-⊕-⊖, ⊖-⊖-⊖, ⊖-self, negate-⊖, ⊖-balance}
use Rattle.exact.proofs.Fraction.Product.{⊗-cong, ⊗-assoc, ⊗-swap, ⊗-one, one-⊗, ⊗-zero, zero_⊗, ⊗-⊕, ⊕-⊗, ⊖-⊗-⊖, ⊗-middle}
use Rattle.exact.proofs.Fraction.Parts.{nat-⊕, nat-⊗}

infixl 65 ◌:+◌ ◌:-◌
infixl 70 ◌:*◌
-- ---- expressions: `var i` is the entry i of the list of fractions, counted from 0
pub data Expression : Type 0 where
  var : ℕ → Expression
  num : ℕ → Expression
  minus : Expression → Expression
  ◌:+◌ : Expression → Expression → Expression
  ◌:-◌ : Expression → Expression → Expression
  ◌:*◌ : Expression → Expression → Expression

abbrev pub entry : List Fraction → ℕ → Fraction
entry [] i = nat 0
entry (x ∷ ρ) zero = x
entry (x ∷ ρ) (suc i) = entry ρ i

abbrev pub value : Expression → List Fraction → Fraction
value (var i) ρ = entry ρ i
value (num k) ρ = nat k
value (minus a) ρ = negate (value a ρ)
value (a :+ b) ρ = value a ρ ⊕ value b ρ
value (a :- b) ρ = value a ρ ⊖ value b ρ
value (a :* b) ρ = value a ρ ⊗ value b ρ

-- ---- sums of products: a count, then the product's factors in order, then the rest of the sum
pub data Products : Type 0 where
  none : Products
  plus : ℕ → List ℕ → Products → Products

abbrev after : Ordering → Ordering → Ordering
after Ordering.lt o = Ordering.lt
after Ordering.eq o = o
after Ordering.gt o = Ordering.gt

abbrev order : List ℕ → List ℕ → Ordering
order [] [] = Ordering.eq
order [] (j ∷ n) = Ordering.lt
order (i ∷ m) [] = Ordering.gt
order (i ∷ m) (j ∷ n) = after (compare i j) (order m n)

abbrev place : Ordering → ℕ → List ℕ → ℕ → List ℕ → Products → Products → Products
place Ordering.lt c m k n p r = plus c m (plus k n p)
place Ordering.eq c m k n p r = plus (c + k) m p
place Ordering.gt c m k n p r = plus k n r

abbrev insert : ℕ → List ℕ → Products → Products
insert c m none = plus c m none
insert c m (plus k n p) = place (order m n) c m k n p (insert c m p)

abbrev add : Products → Products → Products
add none q = q
add (plus c m p) q = insert c m (add p q)

abbrev place_factor : Bool → ℕ → ℕ → List ℕ → List ℕ → List ℕ
place_factor true i j m r = i ∷ j ∷ m
place_factor false i j m r = j ∷ r

abbrev insert_factor : ℕ → List ℕ → List ℕ
insert_factor i [] = i ∷ []
insert_factor i (j ∷ m) = place_factor (leb i j) i j m (insert_factor i m)

abbrev join : List ℕ → List ℕ → List ℕ
join [] n = n
join (i ∷ m) n = insert_factor i (join m n)

abbrev scale : ℕ → List ℕ → Products → Products
scale c m none = none
scale c m (plus k n p) = insert (c * k) (join m n) (scale c m p)

abbrev multiply : Products → Products → Products
multiply none q = none
multiply (plus c m p) q = add (scale c m q) (multiply p q)

-- an expression is the first sum less the second
abbrev pub sides : Expression → Products × Products
sides (var i) = (plus 1 (i ∷ []) none, none)
sides (num zero) = (none, none)
sides (num (suc k)) = (plus (suc k) [] none, none)
sides (minus a) = ((sides a).1, (sides a).0)
sides (a :+ b) = (add (sides a).0 (sides b).0, add (sides a).1 (sides b).1)
sides (a :- b) = (add (sides a).0 (sides b).1, add (sides a).1 (sides b).0)
sides (a :* b) = (
  add (multiply (sides a).0 (sides b).0) (multiply (sides a).1 (sides b).1),
  add (multiply (sides a).0 (sides b).1) (multiply (sides a).1 (sides b).0),
)

-- ---- what the sums of products mean
module _ (ρ : List Fraction) where
  abbrev factors : List ℕ → Fraction
  factors [] = nat 1
  factors (i ∷ m) = entry ρ i ⊗ factors m

  abbrev total : Products → Fraction
  total none = nat 0
  total (plus c m p) = nat c ⊗ factors m ⊕ total p

  -- two products that compare as equal are one
  after-eq : (o q : Ordering) → after o q ≡ Ordering.eq → (o ≡ Ordering.eq) × (q ≡ Ordering.eq)
  after-eq Ordering.lt q e = (e, cc)
  after-eq Ordering.eq q e = (refl, e)
  after-eq Ordering.gt q e = (e, cc)

  order-eq : (m n : List ℕ) → order m n ≡ Ordering.eq → m ≡ n
  order-eq [] [] e = refl
  order-eq [] (j ∷ n) e = cc
  order-eq (i ∷ m) [] e = cc
  order-eq (i ∷ m) (j ∷ n) e =
      let h = after-eq (compare i j) (order m n) e in
      let p : i ≡ j = eqb-true i j (ap compare_is_eq h.0) in
      let q : m ≡ n = order-eq m n h.1 in
      cc

  place_total : (o : Ordering) (c : ℕ) (m : List ℕ) (k : ℕ) (n : List ℕ) (p r : Products) →
      (o ≡ Ordering.eq → m ≡ n) → total r ≈ nat c ⊗ factors m ⊕ total p →
      total (place o c m k n p r) ≈ nat c ⊗ factors m ⊕ (nat k ⊗ factors n ⊕ total p)
  place_total Ordering.lt c m k n p r e h = ≈-refl (nat c ⊗ factors m ⊕ (nat k ⊗ factors n ⊕ total p))
  place_total Ordering.eq c m k n p r e h =
      rw (← e refl)
      (≈-trans (⊕-cong (≈-trans (⊗-cong (nat-⊕ c k) (≈-refl (factors m))) (⊕-⊗ (nat c) (nat k) (factors m))) (≈-refl (total p)))
      (⊕-assoc (nat c ⊗ factors m) (nat k ⊗ factors m) (total p)))
  place_total Ordering.gt c m k n p r e h =
      ≈-trans (⊕-cong (≈-refl (nat k ⊗ factors n)) h) (⊕-swap (nat k ⊗ factors n) (nat c ⊗ factors m) (total p))

  insert-total : (c : ℕ) (m : List ℕ) (p : Products) → total (insert c m p) ≈ nat c ⊗ factors m ⊕ total p
  insert-total c m none = ≈-refl (nat c ⊗ factors m ⊕ nat 0)
  insert-total c m (plus k n p) =
      place_total (order m n) c m k n p (insert c m p) (order-eq m n) (insert-total c m p)

  add_total : (p q : Products) → total (add p q) ≈ total p ⊕ total q
  add_total none q = ≈-sym (zero_⊕ (total q))
  add_total (plus c m p) q =
      ≈-trans (insert-total c m (add p q))
      (≈-trans (⊕-cong (≈-refl (nat c ⊗ factors m)) (add_total p q)) (≈-sym (⊕-assoc (nat c ⊗ factors m) (total p) (total q))))

  place_factor-factors : (b : Bool) (i j : ℕ) (m r : List ℕ) → factors r ≈ entry ρ i ⊗ factors m →
      factors (place_factor b i j m r) ≈ entry ρ i ⊗ (entry ρ j ⊗ factors m)
  place_factor-factors true i j m r h = ≈-refl (entry ρ i ⊗ (entry ρ j ⊗ factors m))
  place_factor-factors false i j m r h = ≈-trans (⊗-cong (≈-refl (entry ρ j)) h) (⊗-swap (entry ρ j) (entry ρ i) (factors m))

  insert_factor-factors : (i : ℕ) (m : List ℕ) → factors (insert_factor i m) ≈ entry ρ i ⊗ factors m
  insert_factor-factors i [] = ≈-refl (entry ρ i ⊗ nat 1)
  insert_factor-factors i (j ∷ m) = place_factor-factors (leb i j) i j m (insert_factor i m) (insert_factor-factors i m)

  join_factors : (m n : List ℕ) → factors (join m n) ≈ factors m ⊗ factors n
  join_factors [] n = ≈-sym (one-⊗ (factors n))
  join_factors (i ∷ m) n =
      ≈-trans (insert_factor-factors i (join m n))
      (≈-trans (⊗-cong (≈-refl (entry ρ i)) (join_factors m n)) (≈-sym (⊗-assoc (entry ρ i) (factors m) (factors n))))

  scale-total : (c : ℕ) (m : List ℕ) (p : Products) → total (scale c m p) ≈ (nat c ⊗ factors m) ⊗ total p
  scale-total c m none = ≈-sym (⊗-zero (nat c ⊗ factors m))
  scale-total c m (plus k n p) =
      ≈-trans (insert-total (c * k) (join m n) (scale c m p))
      (≈-trans (⊕-cong (≈-trans (⊗-cong (nat-⊗ c k) (join_factors m n)) (⊗-middle (nat c) (nat k) (factors m) (factors n))) (scale-total c m p))
      (≈-sym (⊗-⊕ (nat c ⊗ factors m) (nat k ⊗ factors n) (total p))))

  multiply-total : (p q : Products) → total (multiply p q) ≈ total p ⊗ total q
  multiply-total none q = ≈-sym (zero_⊗ (total q))
  multiply-total (plus c m p) q =
      ≈-trans (add_total (scale c m q) (multiply p q))
      (≈-trans (⊕-cong (scale-total c m q) (multiply-total p q)) (≈-sym (⊕-⊗ (nat c ⊗ factors m) (total p) (total q))))

  -- the sum of two products of sums
  add-multiply : (p q r s : Products) → total (add (multiply p q) (multiply r s)) ≈ total p ⊗ total q ⊕ total r ⊗ total s
  add-multiply p q r s =
      ≈-trans (add_total (multiply p q) (multiply r s)) (⊕-cong (multiply-total p q) (multiply-total r s))

  sides-value : (e : Expression) → value e ρ ≈ total (sides e).0 ⊖ total (sides e).1
  sides-value (var i) =
      ≈-sym (≈-trans (⊖-zero (nat 1 ⊗ (entry ρ i ⊗ nat 1) ⊕ nat 0))
      (≈-trans (⊕-zero (nat 1 ⊗ (entry ρ i ⊗ nat 1))) (≈-trans (one-⊗ (entry ρ i ⊗ nat 1)) (⊗-one (entry ρ i)))))
  sides-value (num zero) = ≈-sym (⊖-self (nat 0))
  sides-value (num (suc k)) =
      ≈-sym (≈-trans (⊖-zero (nat (suc k) ⊗ nat 1 ⊕ nat 0)) (≈-trans (⊕-zero (nat (suc k) ⊗ nat 1)) (⊗-one (nat (suc k)))))
  sides-value (minus a) =
      ≈-trans (negate-cong (sides-value a)) (negate-⊖ (total (sides a).0) (total (sides a).1))
  sides-value (a :+ b) =
      ≈-trans (⊕-cong (sides-value a) (sides-value b))
      (≈-trans (⊖-⊕-⊖ (total (sides a).0) (total (sides a).1) (total (sides b).0) (total (sides b).1))
      (⊖-cong (≈-sym (add_total (sides a).0 (sides b).0)) (≈-sym (add_total (sides a).1 (sides b).1))))
  sides-value (a :- b) =
      ≈-trans (⊖-cong (sides-value a) (sides-value b))
      (≈-trans (⊖-⊖-⊖ (total (sides a).0) (total (sides a).1) (total (sides b).0) (total (sides b).1))
      (⊖-cong (≈-sym (add_total (sides a).0 (sides b).1)) (≈-sym (add_total (sides a).1 (sides b).0))))
  sides-value (a :* b) =
      ≈-trans (⊗-cong (sides-value a) (sides-value b))
      (≈-trans (⊖-⊗-⊖ (total (sides a).0) (total (sides a).1) (total (sides b).0) (total (sides b).1))
      (⊖-cong (≈-sym (add-multiply (sides a).0 (sides b).0 (sides a).1 (sides b).1))
      (≈-sym (add-multiply (sides a).0 (sides b).1 (sides a).1 (sides b).0))))

-- the identity holds where the sums across come to the same list of products, which `refl` shows
pub ring : (e f : Expression) (ρ : List Fraction) → add (sides e).0 (sides f).1 ≡ add (sides f).0 (sides e).1 → value e ρ ≈ value f ρ
ring e f ρ h =
    let a = (sides e).0 in
    let b = (sides e).1 in
    let c = (sides f).0 in
    let d = (sides f).1 in
    let k : total ρ a ⊕ total ρ d ≈ total ρ c ⊕ total ρ b =
    ≈-trans (≈-sym (add_total ρ a d)) (≈-trans (≈-of-≡ (ap (total ρ) h)) (add_total ρ c b)) in
    ≈-trans (sides-value ρ e) (≈-trans (⊖-balance (total ρ a) (total ρ b) (total ρ c) (total ρ d) k) (≈-sym (sides-value ρ f)))

-- ---- tried on a square, a difference of squares and a rearrangement with numbers
square : (x y : Fraction) → (x ⊕ y) ⊗ (x ⊕ y) ≈ x ⊗ x ⊕ nat 2 ⊗ (x ⊗ y) ⊕ y ⊗ y
square x y =
    ring ((var 0 :+ var 1) :* (var 0 :+ var 1)) (var 0 :* var 0 :+ num 2 :* (var 0 :* var 1) :+ var 1 :* var 1) (x ∷ y ∷ []) refl

squares : (x y : Fraction) → x ⊗ x ⊖ y ⊗ y ≈ (x ⊖ y) ⊗ (x ⊕ y)
squares x y = ring (var 0 :* var 0 :- var 1 :* var 1) ((var 0 :- var 1) :* (var 0 :+ var 1)) (x ∷ y ∷ []) refl

fourth : (x y z w : Fraction) → x ⊗ y ⊗ z ⊗ (nat 1 ⊕ w) ⊖ x ⊗ y ⊗ z ≈ w ⊗ z ⊗ y ⊗ x
fourth x y z w =
    ring (var 0 :* var 1 :* var 2 :* (num 1 :+ var 3) :- var 0 :* var 1 :* var 2) (var 3 :* var 2 :* var 1 :* var 0) (x ∷ y ∷ z ∷ w ∷ []) refl
