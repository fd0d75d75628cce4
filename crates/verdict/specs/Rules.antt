-- The answers by document 01's table of numbers ("Verdicts"): the checks of each call, in the order of the numbers, with what each hands out
-- where it fails; 19, first of all, 29, right behind it, and the pair check's 21 are document 02's (d, h, f). w is the width, the count of bits
-- of the sheet numbers; kind is the kind of table, with limits of its own (kind/specs/Kind.antt). Assumes nothing.
use Rattle.std.specs.Prelude.{ℕ, Bool, not, ◌&&◌, ◌||◌, List, [], ◌∷◌, length, eqb, Float, Option, Some, None, Ok, Err}
use Rattle.exact.specs.Fraction.{nat, leq}
use Rattle.kind.specs.Kind.{sound_kind, highest}
use Rattle.sheet.specs.Number.{value}
use Rattle.doubles.specs.Double.{exact_of}
use Rattle.doubles.specs.Handed.{double_of}
use Rattle.doubles.specs.Range.{accepted_temperature, accepted_pair_temperature, accepted_density, accepted_target, accepted_tolerance, within_tolerance}
use Rattle.term.specs.declared.Fault.{Fault}
use Rattle.term.specs.declared.Fault.TheVariants.{Length, Broken}
use Rattle.term.specs.Sound.{sound_length, first_broken}
use Rattle.bracket.specs.declared.Bracket.{Bracket}
use Rattle.equation.specs.Rules.{pressure, stiffness, gibbs_gap, target_gap, pressure_gap}
use Rattle.verdict.specs.declared.Ends.{Ends}
use Rattle.verdict.specs.declared.Refusal.{Refusal}
use Rattle.verdict.specs.declared.Refusal.TheVariants.{Width, Kind, TableLength, BrokenTerm, Temperature, Density, Target, Tolerance, Sides, Ceiling}
use Rattle.verdict.specs.declared.Rejection.TheVariants.{Refused, VapourPressure, PressureGap, GibbsGap, Stiffness}
use Rattle.verdict.specs.Reading.{SheetAnswer, Answer}
use Rattle.verdict.specs.Steps.{Step, first_failing}

-- each end handed out is the f64 of exactly its value
unfoldable pub handed_out : Bracket → Ends
handed_out b = record { lower = double_of (value b.lo); upper = double_of (value b.hi) }

-- the upper end of pressure is at most the kind's ceiling
unfoldable pub under_ceiling : ℕ → Bracket → Bool
under_ceiling kind b = leq (value b.hi) (nat (highest kind))

-- the gap lies within its tolerance: lower end >= -tolerance, upper end <= tolerance
unfoldable pub gap_passes : Bracket → Float → Bool
gap_passes b tolerance = within_tolerance (value b.lo) (value b.hi) (exact_of tolerance)

-- the lower end is above 0; asked of a stiffness and of the vapour's pressure
unfoldable pub pushes_back : Bracket → Bool
pushes_back b = not (leq (value b.lo) (nat 0))

-- liquid above the critical density, vapour below it
unfoldable pub on_sides : Float → Float → Bool
on_sides liquid vapour = not (leq (exact_of liquid) (nat 322)) && not (leq (nat 322) (exact_of vapour))

-- a width is 32 or 53
unfoldable pub sound_width : ℕ → Bool
sound_width w = eqb w 32 || eqb w 53

-- 19, before all other checks
abbrev pub width_step : {A : Type 0} → (Refusal → A) → ℕ → List (Step A) → List (Step A)
width_step refused w rest = record { passes = sound_width w; otherwise = refused Width } ∷ rest

-- 29, right behind it
abbrev pub kind_step : {A : Type 0} → (Refusal → A) → ℕ → List (Step A) → List (Step A)
kind_step refused kind rest = record { passes = sound_kind kind; otherwise = refused Kind } ∷ rest

-- 1 and 2, before those on the state
abbrev pub table_steps : {A : Type 0} → (Refusal → A) → ℕ → List ℕ → List (Step A) → List (Step A)
table_steps refused kind table rest =
    record { passes = sound_length kind (length table); otherwise = refused TableLength }
    ∷ record { passes = eqb (first_broken kind table) 0; otherwise = refused (BrokenTerm (first_broken kind table)) }
    ∷ rest

-- what every call asks first: 19, 29, 1 and 2
abbrev pub first_steps : {A : Type 0} → (Refusal → A) → (w kind : ℕ) → List ℕ → List (Step A) → List (Step A)
first_steps refused w kind table rest = width_step refused w (kind_step refused kind (table_steps refused kind table rest))

-- the first of them that refuses
unfoldable pub first_refusal : (w kind : ℕ) → List ℕ → Option Refusal
first_refusal w kind table = first_failing (first_steps Some w kind table []) None

-- what the check of a table finds wrong, as a refusal
abbrev pub fault_refusal : Fault → Refusal
fault_refusal Length = TableLength
fault_refusal (Broken place) = BrokenTerm place

-- ---- the state sheet: 19, 29, 1 to 4 and 8

-- 8, on the bracket of pressure
abbrev pub state_worked : ℕ → Bracket → List (Step SheetAnswer)
state_worked kind p = record { passes = under_ceiling kind p; otherwise = Err Ceiling } ∷ []

-- 3, 4, and what follows
abbrev pub state_inputs : (w kind : ℕ) → List ℕ → (t rho : Float) → List (Step SheetAnswer)
state_inputs w kind table t rho =
    record { passes = accepted_temperature kind t; otherwise = Err Temperature }
    ∷ record { passes = accepted_density kind rho; otherwise = Err Density }
    ∷ state_worked kind (pressure w kind table (exact_of t) (exact_of rho))

abbrev pub state_steps : (w kind : ℕ) → List ℕ → (t rho : Float) → List (Step SheetAnswer)
state_steps w kind table t rho = first_steps Err w kind table (state_inputs w kind table t rho)

abbrev pub state_accepted : (w kind : ℕ) → List ℕ → (t rho : Float) → SheetAnswer
state_accepted w kind table t rho =
    Ok (record {
      pressure = handed_out (pressure w kind table (exact_of t) (exact_of rho));
      stiffness = handed_out (stiffness w kind table (exact_of t) (exact_of rho));
    })

unfoldable pub state_answer : (w kind : ℕ) → List ℕ → (t rho : Float) → SheetAnswer
state_answer w kind table t rho = first_failing (state_steps w kind table t rho) (state_accepted w kind table t rho)

-- a check's answer that refuses
abbrev pub rejected : Refusal → Answer
rejected why = Err (Refused why)

-- ---- the density check: all but 7, 10, 12 and 21

-- 8, 9 and 11, on the brackets of pressure, of pressure less target, and of stiffness
abbrev pub density_worked : ℕ → (p gap s : Bracket) → (tolerance : Float) → List (Step Answer)
density_worked kind p gap s tolerance =
    record { passes = under_ceiling kind p; otherwise = Err (Refused Ceiling) }
    ∷ record { passes = gap_passes gap tolerance; otherwise = Err (PressureGap (handed_out gap)) }
    ∷ record { passes = pushes_back s; otherwise = Err (Stiffness (handed_out s)) }
    ∷ []

-- 3 to 6, and what follows
abbrev pub density_inputs : (w kind : ℕ) → List ℕ → (t rho target tolerance : Float) → List (Step Answer)
density_inputs w kind table t rho target tolerance =
    record { passes = accepted_temperature kind t; otherwise = Err (Refused Temperature) }
    ∷ record { passes = accepted_density kind rho; otherwise = Err (Refused Density) }
    ∷ record { passes = accepted_target kind target; otherwise = Err (Refused Target) }
    ∷ record { passes = accepted_tolerance tolerance; otherwise = Err (Refused Tolerance) }
    ∷ density_worked kind (pressure w kind table (exact_of t) (exact_of rho)) (target_gap w kind table (exact_of t) (exact_of rho) (exact_of target))
    (stiffness w kind table (exact_of t) (exact_of rho)) tolerance

abbrev pub density_steps : (w kind : ℕ) → List ℕ → (t rho target tolerance : Float) → List (Step Answer)
density_steps w kind table t rho target tolerance = first_steps rejected w kind table (density_inputs w kind table t rho target tolerance)

unfoldable pub density_answer : (w kind : ℕ) → List ℕ → (t rho target tolerance : Float) → Answer
density_answer w kind table t rho target tolerance =
    first_failing (density_steps w kind table t rho target tolerance) (Ok (handed_out (pressure w kind table (exact_of t) (exact_of rho))))

-- ---- the pair check: all but 5 and 12. Its temperatures start at the triple point (document 02, b); 21 stands between 8 and 9 (document 02, f)

-- 10 and 11, on the brackets of the Gibbs gap and of the two stiffnesses, the liquid's first
abbrev pub balance_worked : (gibbs l v : Bracket) → (gibbs_tolerance : Float) → List (Step Answer)
balance_worked gibbs l v gibbs_tolerance =
    record { passes = gap_passes gibbs gibbs_tolerance; otherwise = Err (GibbsGap (handed_out gibbs)) }
    ∷ record { passes = pushes_back l; otherwise = Err (Stiffness (handed_out l)) }
    ∷ record { passes = pushes_back v; otherwise = Err (Stiffness (handed_out v)) }
    ∷ []

-- 8, 21 and 9, on the brackets of the two pressures, the vapour's second, and of their gap, and what follows
abbrev pub pair_worked : ℕ → (p q gap : Bracket) → (pressure_tolerance : Float) → List (Step Answer) → List (Step Answer)
pair_worked kind p q gap pressure_tolerance rest =
    record { passes = under_ceiling kind p && under_ceiling kind q; otherwise = Err (Refused Ceiling) }
    ∷ record { passes = pushes_back q; otherwise = Err (VapourPressure (handed_out q)) }
    ∷ record { passes = gap_passes gap pressure_tolerance; otherwise = Err (PressureGap (handed_out gap)) }
    ∷ rest

-- the same on the brackets that the rules of the equation give
abbrev pub pair_rest : (w kind : ℕ) → List ℕ → (t liquid vapour pressure_tolerance gibbs_tolerance : Float) → List (Step Answer)
pair_rest w kind table t liquid vapour pressure_tolerance gibbs_tolerance =
    let T = exact_of t in
    let l = exact_of liquid in
    let v = exact_of vapour in
    pair_worked kind (pressure w kind table T l) (pressure w kind table T v) (pressure_gap w kind table T l v) pressure_tolerance
    (balance_worked (gibbs_gap w kind table T l v) (stiffness w kind table T l) (stiffness w kind table T v) gibbs_tolerance)

-- 3, 4, 6, 7, and what follows
abbrev pub pair_inputs : (w kind : ℕ) → List ℕ → (t liquid vapour pressure_tolerance gibbs_tolerance : Float) → List (Step Answer)
pair_inputs w kind table t liquid vapour pressure_tolerance gibbs_tolerance =
    record { passes = accepted_pair_temperature t; otherwise = Err (Refused Temperature) }
    ∷ record { passes = accepted_density kind liquid && accepted_density kind vapour; otherwise = Err (Refused Density) }
    ∷ record { passes = accepted_tolerance pressure_tolerance && accepted_tolerance gibbs_tolerance; otherwise = Err (Refused Tolerance) }
    ∷ record { passes = on_sides liquid vapour; otherwise = Err (Refused Sides) }
    ∷ pair_rest w kind table t liquid vapour pressure_tolerance gibbs_tolerance

abbrev pub pair_steps : (w kind : ℕ) → List ℕ → (t liquid vapour pressure_tolerance gibbs_tolerance : Float) → List (Step Answer)
pair_steps w kind table t liquid vapour pressure_tolerance gibbs_tolerance =
    first_steps rejected w kind table (pair_inputs w kind table t liquid vapour pressure_tolerance gibbs_tolerance)

unfoldable pub pair_answer : (w kind : ℕ) → List ℕ → (t liquid vapour pressure_tolerance gibbs_tolerance : Float) → Answer
pair_answer w kind table t liquid vapour pressure_tolerance gibbs_tolerance =
    first_failing (pair_steps w kind table t liquid vapour pressure_tolerance gibbs_tolerance)
    (Ok (handed_out (pressure w kind table (exact_of t) (exact_of vapour))))
