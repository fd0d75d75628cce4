-- What demands 2 and 3 say of an answer, by the equation itself at a level N: how its ends lie about the equation's value, what an accepted
-- pair or density is held to, and when one is good by more than the width of its brackets of w bits. Assumes nothing.
use Rattle.std.specs.Prelude.{ℕ, ◌≡◌, true, List, Float}
use Rattle.exact.specs.Fraction.{Fraction, nat, ◌⊕◌, ◌⊖◌, ◌≼◌, ◌≺◌, ◌≈◌}
use Rattle.exact.specs.Ends.{width, absolute}
use Rattle.kind.specs.Kind.{sound_kind, highest}
use Rattle.sheet.specs.Number.{value}
use Rattle.doubles.specs.Double.{exact_of}
use Rattle.doubles.specs.Range.{accepted_temperature, accepted_pair_temperature, accepted_density, accepted_target, accepted_tolerance}
use Rattle.term.specs.Sound.{sound_table}
use Rattle.bracket.specs.declared.Bracket.{Bracket}
use Rattle.verdict.specs.declared.Ends.{Ends}
use Rattle.verdict.specs.Reading.{plain_zero}
use Rattle.verdict.specs.Rules.{sound_width}
use Rattle.equation.specs.Rules.{pressure, stiffness, gibbs_gap, target_gap, pressure_gap}
use Rattle.equation.specs.Itself.{pressure_at, stiffness_at, gibbs_gap_at}

-- how far a bracket's ends lie apart
unfoldable pub bracket_width : Bracket → Fraction
bracket_width b = width (value b.lo) (value b.hi)

-- ---- ends handed out
-- the two f64s are exactly the ends of the bracket b, zero as +0.0, and the number x lies between them
pub record Covers (e : Ends) (b : Bracket) (x : Fraction) : Type 0 where
  pub lower_exact : exact_of e.lower ≈ value b.lo
  pub upper_exact : exact_of e.upper ≈ value b.hi
  pub lower_zero : value b.lo ≈ nat 0 → e.lower ≡ plain_zero
  pub upper_zero : value b.hi ≈ nat 0 → e.upper ≡ plain_zero
  pub above : exact_of e.lower ≼ x
  pub under : x ≼ exact_of e.upper

-- ---- a pair
-- at level N the pressures and the Gibbs energies differ by no more than their tolerances, both phases push back when squeezed, and the
-- vapour's pressure is positive (document 02, f)
pub record Balanced (N kind : ℕ) (table : List ℕ) (T liquid vapour pressure_tolerance gibbs_tolerance : Fraction) : Type 0 where
  pub pressures : absolute (pressure_at N kind table T liquid ⊖ pressure_at N kind table T vapour) ≼ pressure_tolerance
  pub gibbs : absolute (gibbs_gap_at N kind table T liquid vapour) ≼ gibbs_tolerance
  pub liquid_pushes : nat 0 ≺ stiffness_at N kind table T liquid
  pub vapour_pushes : nat 0 ≺ stiffness_at N kind table T vapour
  pub vapour_pressure : nat 0 ≺ pressure_at N kind table T vapour

-- the same with the width of each bracket to spare
pub record BalancedBeyond (w N kind : ℕ) (table : List ℕ) (T liquid vapour pressure_tolerance gibbs_tolerance : Fraction) : Type 0 where
  pub pressures :
      absolute (pressure_at N kind table T liquid ⊖ pressure_at N kind table T vapour) ⊕ bracket_width (pressure_gap w kind table T liquid vapour) ≼ pressure_tolerance
  pub gibbs : absolute (gibbs_gap_at N kind table T liquid vapour) ⊕ bracket_width (gibbs_gap w kind table T liquid vapour) ≼ gibbs_tolerance
  pub liquid_pushes : bracket_width (stiffness w kind table T liquid) ≺ stiffness_at N kind table T liquid
  pub vapour_pushes : bracket_width (stiffness w kind table T vapour) ≺ stiffness_at N kind table T vapour
  pub vapour_pressure : bracket_width (pressure w kind table T vapour) ≺ pressure_at N kind table T vapour

-- a width, a kind, a sound table of it, inputs in the pair check's ranges, each density on its own side, and no upper end of pressure above the ceiling
pub record SoundPair (w kind : ℕ) (table : List ℕ) (t liquid vapour pressure_tolerance gibbs_tolerance : Float) : Type 0 where
  pub width_sound : sound_width w ≡ true
  pub kind_sound : sound_kind kind ≡ true
  pub table_sound : sound_table kind table ≡ true
  pub temperature : accepted_pair_temperature t ≡ true
  pub liquid_density : accepted_density kind liquid ≡ true
  pub vapour_density : accepted_density kind vapour ≡ true
  pub pressure-tolerance : accepted_tolerance pressure_tolerance ≡ true
  pub gibbs-tolerance : accepted_tolerance gibbs_tolerance ≡ true
  pub liquid_side : nat 322 ≺ exact_of liquid
  pub vapour_side : exact_of vapour ≺ nat 322
  pub liquid_ceiling : value (pressure w kind table (exact_of t) (exact_of liquid)).hi ≼ nat (highest kind)
  pub vapour_ceiling : value (pressure w kind table (exact_of t) (exact_of vapour)).hi ≼ nat (highest kind)

-- ---- a density for a given pressure
pub record OnTarget (N kind : ℕ) (table : List ℕ) (T rho target tolerance : Fraction) : Type 0 where
  pub near : absolute (pressure_at N kind table T rho ⊖ target) ≼ tolerance
  pub pushes : nat 0 ≺ stiffness_at N kind table T rho

pub record OnTargetBeyond (w N kind : ℕ) (table : List ℕ) (T rho target tolerance : Fraction) : Type 0 where
  pub near : absolute (pressure_at N kind table T rho ⊖ target) ⊕ bracket_width (target_gap w kind table T rho target) ≼ tolerance
  pub pushes : bracket_width (stiffness w kind table T rho) ≺ stiffness_at N kind table T rho

pub record SoundDensity (w kind : ℕ) (table : List ℕ) (t rho target tolerance : Float) : Type 0 where
  pub width_sound : sound_width w ≡ true
  pub kind_sound : sound_kind kind ≡ true
  pub table_sound : sound_table kind table ≡ true
  pub temperature : accepted_temperature kind t ≡ true
  pub density : accepted_density kind rho ≡ true
  pub target_range : accepted_target kind target ≡ true
  pub tolerance_range : accepted_tolerance tolerance ≡ true
  pub ceiling : value (pressure w kind table (exact_of t) (exact_of rho)).hi ≼ nat (highest kind)
