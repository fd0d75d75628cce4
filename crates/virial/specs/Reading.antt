-- How a card is read: its number, its place and its three pairs of ends. The numbers are those of the checks. Assumes nothing.
use Rattle.std.specs.Prelude.{ℕ, Result, Ok, Err}
use Rattle.verdict.specs.declared.Ends.{Ends}
use Rattle.verdict.specs.declared.Refusal.{Refusal}
use Rattle.verdict.specs.Reading.{refusal_number, refusal_place, zeros, Numbers}
use Rattle.virial.specs.declared.Card.{Card}

-- what the vapour card answers
abbrev pub CardAnswer : Type 0
CardAnswer = Result Card Refusal

abbrev pub card_number : CardAnswer → ℕ
card_number (Ok card) = 0
card_number (Err why) = refusal_number why

abbrev pub card_place : CardAnswer → ℕ
card_place (Ok card) = 0
card_place (Err why) = refusal_place why

-- a refused card has all six ends zero
abbrev pub card_second : CardAnswer → Ends
card_second (Ok card) = card.second
card_second (Err why) = zeros

abbrev pub card_third : CardAnswer → Ends
card_third (Ok card) = card.third
card_third (Err why) = zeros

abbrev pub card_pressure : CardAnswer → Ends
card_pressure (Ok card) = card.pressure
card_pressure (Err why) = zeros

-- no end is a NaN, so that each has one pattern of bits
abbrev pub CardNumbers : CardAnswer → Type 0
CardNumbers answer = Numbers (card_second answer) × Numbers (card_third answer) × Numbers (card_pressure answer)
