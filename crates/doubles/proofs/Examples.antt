-- A few of document 01's lines ("Both sides of the line", and the ends that are handed out), computed by the rules. Assumes nothing.
use mathlib.Core.Path.{◌≡◌, refl}
use mathlib.Core.Bool.{true, false}
use Prim.Native.Nat.{◌^◌}
use lib.IntN.{negsuc}
use lib.Ieee.{fin, binary64, round, of_bits}
use Rattle.exact.specs.Fraction.{nat, parts, negative, top, bottom, leq}
use Rattle.kind.specs.Kind.{by_kind}
use Rattle.doubles.specs.Double.{exact_of}
use Rattle.doubles.specs.Range.{within, accepted_temperature, accepted_pair_temperature, accepted_density, accepted_target, accepted_tolerance}
use Rattle.doubles.specs.Handed.{double_of}
use Rattle.doubles.specs.Ratio.{ratio_exponent, largest_up_to}
use Rattle.exact.specs.Fraction.{◌⊗◌}

-- the least f64 in size is handed out, not lost
smallest : double_of (parts true 1 (2 ^ 1074)) ≡ fin true 1 (negsuc 1073)
unfolding double_of parts negative top bottom round
smallest = refl

-- minus zero is a tolerance and no density
minus-zero : accepted_tolerance (of_bits binary64 0x8000_0000_0000_0000) ≡ true
unfolding within exact_of parts nat leq of_bits
minus-zero = refl

minus-zero_density : accepted_density 38 (of_bits binary64 0x8000_0000_0000_0000) ≡ false
unfolding by_kind within exact_of parts nat leq of_bits
minus-zero_density = refl

-- 1273, the next f64 above it, and a NaN as temperatures
next_up : accepted_temperature 38 (of_bits binary64 0x4093_e400_0000_0001) ≡ false
unfolding by_kind within exact_of parts nat leq of_bits
next_up = refl

at-end : accepted_temperature 38 (of_bits binary64 0x4093_e400_0000_0000) ≡ true
unfolding by_kind within exact_of parts nat leq of_bits
at-end = refl

no_nan : accepted_temperature 38 (of_bits binary64 0x7ff8_0000_0000_0000) ≡ false
unfolding by_kind within exact_of parts nat leq of_bits
no_nan = refl

-- the pair check's temperatures (document 02, b): the f64s 273.16, the next below it, 273.05 and 273, the last two of which the other
-- calls accept, then -273.16 and a NaN
triple_point : accepted_pair_temperature (of_bits binary64 0x4071_128f_5c28_f5c3) ≡ true
unfolding within exact_of parts nat leq of_bits
triple_point = refl

next_down : accepted_pair_temperature (of_bits binary64 0x4071_128f_5c28_f5c2) ≡ false
unfolding within exact_of parts nat leq of_bits
next_down = refl

cold : (accepted_pair_temperature (of_bits binary64 0x4071_10cc_cccc_cccd) ≡ false) × (accepted_temperature 38 (of_bits binary64 0x4071_10cc_cccc_cccd) ≡ true)
unfolding by_kind within exact_of parts nat leq of_bits
cold = (refl, refl)

colder : (accepted_pair_temperature (of_bits binary64 0x4071_1000_0000_0000) ≡ false) × (accepted_temperature 38 (of_bits binary64 0x4071_1000_0000_0000) ≡ true)
unfolding by_kind within exact_of parts nat leq of_bits
colder = (refl, refl)

minus-sign : accepted_pair_temperature (of_bits binary64 0xc071_128f_5c28_f5c3) ≡ false
unfolding within exact_of parts nat leq of_bits
minus-sign = refl

no_nan-pair : accepted_pair_temperature (of_bits binary64 0x7ff8_0000_0000_0000) ≡ false
unfolding within exact_of parts nat leq of_bits
no_nan-pair = refl

-- kind 58 (document 02, h): 252, the f64 next below it, 2576, the f64 next above it, 25 x 10^9 and the f64 next above it; and 252 and 2576 are
-- none of kind 38
coldest-58 : (accepted_temperature 58 (of_bits binary64 0x406f_8000_0000_0000) ≡ true) × (accepted_temperature 58 (of_bits binary64 0x406f_7fff_ffff_ffff) ≡ false)
unfolding by_kind within exact_of parts nat leq of_bits
coldest-58 = (refl, refl)

densest-58 : (accepted_density 58 (of_bits binary64 0x40a4_2000_0000_0000) ≡ true) × (accepted_density 58 (of_bits binary64 0x40a4_2000_0000_0001) ≡ false)
unfolding by_kind within exact_of parts nat leq of_bits
densest-58 = (refl, refl)

highest-58 : (accepted_target 58 (of_bits binary64 0x4217_4876_e800_0000) ≡ true) × (accepted_target 58 (of_bits binary64 0x4217_4876_e800_0001) ≡ false)
unfolding by_kind within exact_of parts nat leq of_bits
highest-58 = (refl, refl)

none-of_38 : (accepted_temperature 38 (of_bits binary64 0x406f_8000_0000_0000) ≡ false) × (accepted_density 38 (of_bits binary64 0x40a4_2000_0000_0000) ≡ false)
unfolding by_kind within exact_of parts nat leq of_bits
none-of_38 = (refl, refl)

-- the widest ratios of densities of either kind
widest-38 : ratio_exponent (nat 1288) (parts false 1 1024) ≡ 20
unfolding ratio_exponent largest_up_to nat parts leq ◌⊗◌
widest-38 = refl

widest-58 : ratio_exponent (nat 2576) (parts false 1 1024) ≡ 21
unfolding ratio_exponent largest_up_to nat parts leq ◌⊗◌
widest-58 = refl
