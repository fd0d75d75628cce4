-- The definitions computed at closed values, as a reader would by hand. Assumes nothing.
use mathlib.Core.Path.{◌≡◌, refl}
use mathlib.Core.Bool.{true, false}
use Rattle.exact.specs.Fraction.{nat, parts, negate, negative, leq, least, ◌⊕◌, ◌⊖◌, ◌⊗◌, inv, ◌⊘◌, ◌≺◌, ◌≈◌}
use Rattle.exact.proofs.Fraction.Order.{≼-by, ≺-by, ≈-by}
use Rattle.exact.specs.Ends.{Within}
use Rattle.exact.specs.Series.{power, partial, exp_term, expneg_at, ln_term, ln_at}

-- 1 - 1/3 is 2/3
less-third : nat 1 ⊖ parts false 1 3 ≈ parts false 2 3
unfolding leq nat parts negate ◌⊕◌ ◌⊖◌
less-third = ≈-by (nat 1 ⊖ parts false 1 3) (parts false 2 3) tt

-- -1/2 is below 1/3, and its square is 1/4
half-below : parts true 1 2 ≺ parts false 1 3
unfolding leq parts
half-below = ≺-by (parts true 1 2) (parts false 1 3) tt

half-square : parts true 1 2 ⊗ parts true 1 2 ≈ parts false 1 4
unfolding leq parts ◌⊗◌
half-square = ≈-by (parts true 1 2 ⊗ parts true 1 2) (parts false 1 4) tt

-- -1/3 divided by 2/5 is -5/6
quotient : parts true 1 3 ⊘ parts false 2 5 ≈ parts true 5 6
unfolding leq parts ◌⊗◌ inv ◌⊘◌
quotient = ≈-by (parts true 1 3 ⊘ parts false 2 5) (parts true 5 6) tt

-- the least of 1/3 and -1/2 is -1/2
least-of : negative (least (parts false 1 3) (parts true 1 2)) ≡ true
unfolding negative least leq parts
least-of = refl

-- ln 2 to seven places, at level 20, and the exponential of minus 1 to five, at level 12
ln-two : Within (parts false 6931471 10000000) (parts false 6931472 10000000) (ln_at 20 (parts false 1 3))
unfolding leq nat parts ◌⊕◌ ◌⊗◌ inv ◌⊘◌ power partial ln_term ln_at
ln-two =
    record {
      above = ≼-by (parts false 6931471 10000000) (ln_at 20 (parts false 1 3)) tt;
      under = ≼-by (ln_at 20 (parts false 1 3)) (parts false 6931472 10000000) tt;
    }

exp_minus_one : Within (parts false 36787 100000) (parts false 36788 100000) (expneg_at 12 (nat 1))
unfolding leq nat parts ◌⊕◌ ◌⊗◌ inv ◌⊘◌ partial exp_term expneg_at
exp_minus_one =
    record {
      above = ≼-by (parts false 36787 100000) (expneg_at 12 (nat 1)) tt;
      under = ≼-by (expneg_at 12 (nat 1)) (parts false 36788 100000) tt;
    }
