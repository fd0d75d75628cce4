-- A number between two ends and a tolerance: what the ends' tests say of the number, and what the number with the width of the ends
-- says of the tests. Assumes nothing.
use mathlib.Core.Path.{refl}
use mathlib.Core.List.{[], ◌∷◌}
use Rattle.exact.specs.Fraction.{Fraction, nat, negate, ◌⊕◌, ◌⊖◌, ◌≼◌, ◌≺◌, ◌≈◌}
use Rattle.exact.proofs.Fraction.Order.{≼_trans, ≺-≼-trans, ≺-≈-trans, ≈-≼-trans, ≼-≈-trans}
use Rattle.exact.proofs.Fraction.Sum.{negate-anti, negate-negate, ⊕-mono-left, ⊖-pos, negate-cong}
use Rattle.exact.proofs.Fraction.Least.{greatest-left, greatest-right, greatest-≼, greatest-cong}
use Rattle.exact.specs.Ends.{Within, width, absolute}
use Rattle.exact.proofs.Ring.{ring, var, minus, ◌:+◌, ◌:-◌}

-- ---- a fraction without its sign
pub ≼-absolute : (x : Fraction) → x ≼ absolute x
unfolding absolute
≼-absolute x = greatest-left x (negate x)

pub negate-≼_absolute : (x : Fraction) → negate x ≼ absolute x
unfolding absolute
negate-≼_absolute x = greatest-right x (negate x)

pub absolute-cong : {x y : Fraction} → x ≈ y → absolute x ≈ absolute y
unfolding absolute
absolute-cong e = greatest-cong e (negate-cong e)

-- it is at or below t where the fraction lies from -t to t
pub absolute-≼ : {t x : Fraction} → Within (negate t) t x → absolute x ≼ t
unfolding absolute
absolute-≼ {t} {x} h = greatest-≼ h.under (≼-≈-trans (negate-anti h.above) (negate-negate t))

pub ≼-of-absolute : {t : Fraction} (x : Fraction) → absolute x ≼ t → Within (negate t) t x
≼-of-absolute {t} x h =
    record {
      above = ≼-≈-trans (negate-anti (≼_trans (negate-≼_absolute x) h)) (negate-negate x);
      under = ≼_trans (≼-absolute x) h;
    }

-- ---- the tests at the ends, and the number between them
-- both ends pass: so does every number between
pub passes_within : {a b t x : Fraction} → negate t ≼ a → b ≼ t → Within a b x → absolute x ≼ t
passes_within l u h = absolute-≼ (record { above = ≼_trans l h.above; under = ≼_trans h.under u })

-- some number between them passes with the width to spare: so do both ends
pub passes_upper : {a b t x : Fraction} → Within a b x → absolute x ⊕ width a b ≼ t → b ≼ t
unfolding width
passes_upper {a} {b} {t} {x} h k =
    ≈-≼-trans (ring (var 1) (var 0 :+ (var 1 :- var 0)) (a ∷ b ∷ []) refl)
    (≼_trans (⊕-mono-left (b ⊖ a) (≼_trans h.above (≼-absolute x))) k)

pub passes_lower : {a b t x : Fraction} → Within a b x → absolute x ⊕ width a b ≼ t → negate t ≼ a
unfolding width
passes_lower {a} {b} {t} {x} h k =
    let l : negate a ≼ t =
    ≈-≼-trans (ring (minus (var 0)) (minus (var 1) :+ (var 1 :- var 0)) (a ∷ b ∷ []) refl)
    (≼_trans (⊕-mono-left (b ⊖ a) (≼_trans (negate-anti h.under) (negate-≼_absolute x))) k) in
    ≼-≈-trans (negate-anti l) (negate-negate a)

-- a number above the width of its ends has its lower end above zero
pub above-width : {a b x : Fraction} → Within a b x → width a b ≺ x → nat 0 ≺ a
unfolding width
above-width {a} {b} {x} h k =
    ≺-≈-trans (⊖-pos (≺-≼-trans k h.under)) (ring (var 1 :- (var 1 :- var 0)) (var 0) (a ∷ b ∷ []) refl)
