-- How an answer is read: the number, the place and the ends that document 01 ("Verdicts"), and for 19, 21 and 29 document 02, d, f and h, give each case.
-- Assumes nothing.
use Rattle.std.specs.Prelude.{ℕ, pos, false, not, T, Float, Result, Ok, Err}
use Rattle.std.specs.Float.{fin}
use Rattle.std.specs.Float.Ieee.{is_nan}
use Rattle.verdict.specs.declared.Ends.{Ends}
use Rattle.verdict.specs.declared.Refusal.{Refusal}
use Rattle.verdict.specs.declared.Refusal.TheVariants.{Width, Kind, TableLength, BrokenTerm, Temperature, Density, Target, Tolerance, Sides, Ceiling}
use Rattle.verdict.specs.declared.StateSheet.{StateSheet}
use Rattle.verdict.specs.declared.Rejection.{Rejection}
use Rattle.verdict.specs.declared.Rejection.TheVariants.{Refused, VapourPressure, PressureGap, GibbsGap, Stiffness}

-- what the state sheet answers, and what the two checks do
abbrev pub SheetAnswer : Type 0
SheetAnswer = Result StateSheet Refusal

abbrev pub Answer : Type 0
Answer = Result Ends Rejection

-- a refusal's number, and its place: 0 but for a broken term
abbrev pub refusal_number : Refusal → ℕ
refusal_number Width = 19
refusal_number Kind = 29
refusal_number TableLength = 1
refusal_number (BrokenTerm place) = 2
refusal_number Temperature = 3
refusal_number Density = 4
refusal_number Target = 5
refusal_number Tolerance = 6
refusal_number Sides = 7
refusal_number Ceiling = 8

abbrev pub refusal_place : Refusal → ℕ
refusal_place Width = 0
refusal_place Kind = 0
refusal_place TableLength = 0
refusal_place (BrokenTerm place) = place
refusal_place Temperature = 0
refusal_place Density = 0
refusal_place Target = 0
refusal_place Tolerance = 0
refusal_place Sides = 0
refusal_place Ceiling = 0

-- a zero end is +0.0
abbrev pub plain_zero : Float
plain_zero = fin false 0 (pos 0)

abbrev pub zeros : Ends
zeros = record { lower = plain_zero; upper = plain_zero }

-- the two checks
abbrev pub number : Answer → ℕ
number (Ok ends) = 0
number (Err (Refused why)) = refusal_number why
number (Err (VapourPressure ends)) = 21
number (Err (PressureGap ends)) = 9
number (Err (GibbsGap ends)) = 10
number (Err (Stiffness ends)) = 11

abbrev pub place : Answer → ℕ
place (Ok ends) = 0
place (Err (Refused why)) = refusal_place why
place (Err (VapourPressure ends)) = 0
place (Err (PressureGap ends)) = 0
place (Err (GibbsGap ends)) = 0
place (Err (Stiffness ends)) = 0

abbrev pub handed : Answer → Ends
handed (Ok ends) = ends
handed (Err (Refused why)) = zeros
handed (Err (VapourPressure ends)) = ends
handed (Err (PressureGap ends)) = ends
handed (Err (GibbsGap ends)) = ends
handed (Err (Stiffness ends)) = ends

-- the state sheet: a refused one has all four ends zero
abbrev pub sheet_number : SheetAnswer → ℕ
sheet_number (Ok sheet) = 0
sheet_number (Err why) = refusal_number why

abbrev pub sheet_place : SheetAnswer → ℕ
sheet_place (Ok sheet) = 0
sheet_place (Err why) = refusal_place why

abbrev pub sheet_pressure : SheetAnswer → Ends
sheet_pressure (Ok sheet) = sheet.pressure
sheet_pressure (Err why) = zeros

abbrev pub sheet_stiffness : SheetAnswer → Ends
sheet_stiffness (Ok sheet) = sheet.stiffness
sheet_stiffness (Err why) = zeros

-- no end is a NaN, so that each has one pattern of bits
abbrev pub Numbers : Ends → Type 0
Numbers ends = T (not (is_nan ends.lower)) × T (not (is_nan ends.upper))

abbrev pub AnswerNumbers : Answer → Type 0
AnswerNumbers answer = Numbers (handed answer)

abbrev pub SheetNumbers : SheetAnswer → Type 0
SheetNumbers answer = Numbers (sheet_pressure answer) × Numbers (sheet_stiffness answer)
