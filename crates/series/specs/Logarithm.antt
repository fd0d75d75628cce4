-- The logarithm of a density ratio (01, "Logarithm of a density ratio") as step rules over the count of bits w, on exact densities.
-- Assumes nothing.
use Rattle.std.specs.Prelude.{ℕ, zero, suc, ◌+◌, ◌*◌, ◌^◌, false}
use Rattle.exact.specs.Fraction.{Fraction, parts}
use Rattle.doubles.specs.Ratio.{ratio_exponent}
use Rattle.bracket.specs.Span.{whole}
use Rattle.bracket.specs.declared.Bracket.{Bracket}
use Rattle.bracket.specs.Rules.{ends, given, plus, minus, times, divided, addlast}

-- the first power is z, each next the one before times (z times z)
unfoldable pub ln_power : ℕ → Bracket → ℕ → Bracket
ln_power w Z zero = Z
ln_power w Z (suc j) = times w (ends (ln_power w Z j)) (ends (times w (ends Z) (ends Z)))

-- power j divided by 2j + 1
unfoldable pub ln_quotient : ℕ → Bracket → ℕ → Bracket
ln_quotient w Z j = divided w (ends (ln_power w Z j)) (whole (2 * j + 1))

-- the quotients 0 to j, summed left to right
unfoldable pub ln_sum : ℕ → Bracket → ℕ → Bracket
ln_sum w Z zero = ln_quotient w Z zero
ln_sum w Z (suc j) = plus w (ends (ln_sum w Z j)) (ends (ln_quotient w Z (suc j)))

-- the sum to 20, with the last quotient's upper end once more
unfoldable pub ln_total : ℕ → Bracket → Bracket
ln_total w Z = addlast w (ln_sum w Z 20) (ln_quotient w Z 20)

-- doubled: the logarithm of (1 + z) / (1 - z)
unfoldable pub ln_series : ℕ → Bracket → Bracket
ln_series w Z = times w (whole 2) (ends (ln_total w Z))

-- ln 2: the same rule with z = 1/3, a given value
unfoldable pub ln_two : ℕ → Bracket
ln_two w = ln_series w (given w (parts false 1 3))

-- r is liquid divided by (vapour times 2^k)
unfoldable pub ratio_r : ℕ → (liquid vapour : Fraction) → ℕ → Bracket
ratio_r w liquid vapour k = divided w (ends (given w liquid)) (ends (times w (ends (given w vapour)) (whole (2 ^ k))))

-- z is (r - 1) / (r + 1)
unfoldable pub ratio_z : ℕ → Bracket → Bracket
ratio_z w R = divided w (ends (minus w (ends R) (whole 1))) (ends (plus w (ends R) (whole 1)))

-- (k times ln 2) + ln r
unfoldable pub ln_scaled : ℕ → (liquid vapour : Fraction) → ℕ → Bracket
ln_scaled w liquid vapour k =
    plus w (ends (times w (whole k) (ends (ln_two w)))) (ends (ln_series w (ratio_z w (ratio_r w liquid vapour k))))

-- ln q, with the k that the exact densities give
unfoldable pub ln_ratio : ℕ → (liquid vapour : Fraction) → Bracket
ln_ratio w liquid vapour = ln_scaled w liquid vapour (ratio_exponent liquid vapour)
