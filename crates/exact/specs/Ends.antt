-- Exact fractions between two ends, and the least and greatest exact result of an operation over the ends of two such pairs
-- (document 01, "Sheet numbers and brackets", before anything is rounded). Assumes nothing.
use Rattle.exact.specs.Fraction.{Fraction, negate, least, greatest, ◌⊖◌, ◌≼◌}

-- x lies between the two ends, ends included
pub record Within (lower upper x : Fraction) : Type 0 where
  pub above : lower ≼ x
  pub under : x ≼ upper

-- the least result over the ends a, b of one pair and c, e of the other
unfoldable pub least_over : (Fraction → Fraction → Fraction) → (a b c e : Fraction) → Fraction
least_over f a b c e = least (least (f a c) (f a e)) (least (f b c) (f b e))

unfoldable pub greatest_over : (Fraction → Fraction → Fraction) → (a b c e : Fraction) → Fraction
greatest_over f a b c e = greatest (greatest (f a c) (f a e)) (greatest (f b c) (f b e))

-- how far two ends lie apart
unfoldable pub width : (lower upper : Fraction) → Fraction
width lower upper = upper ⊖ lower

-- a fraction without its sign
unfoldable pub absolute : Fraction → Fraction
absolute x = greatest x (negate x)
