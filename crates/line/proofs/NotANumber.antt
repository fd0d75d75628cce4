-- The bit patterns of a NaN, told by one comparison. Assumes nothing.
use Prim.Native.Nat.{ℕ, ◌%◌, ◌<◌, ◌≤◌}
use mathlib.Core.Path.{◌≡◌, refl, sym, ◌∙◌}
use mathlib.Core.Bool.{true, not}
use borrow.Author.Tests.{lt-ltb, le-ltb}
use lib.Dec.{T}
use lib.Ieee.{Float, nan, inf, fin, binary64, of_bits, is_nan, nan_bits}
use lib.Ieee.Bits.{nan_bits_above, nan_bits_is}

-- a float that tests as a NaN is the one NaN
is-nan : (x : Float) → is_nan x ≡ true → x ≡ nan
unfolding is_nan
is-nan nan h = refl
is-nan (inf s) h = cc
is-nan (fin s m e) h = cc

pub nan_pattern : (n : ℕ) → 0x7FF0000000000000 < n % 0x8000000000000000 → of_bits binary64 n ≡ nan
nan_pattern n h = is-nan (of_bits binary64 n) (sym (nan_bits_is binary64 n) ∙ nan_bits_above binary64 n ∙ lt-ltb _ _ h)

pub number-pattern : (n : ℕ) → n % 0x8000000000000000 ≤ 0x7FF0000000000000 → T (not (nan_bits binary64 n))
number-pattern n h = rw (nan_bits_above binary64 n ∙ le-ltb _ _ h) tt
