-- 01's proved cases of down and up, P1 to P8, by computation, at 32 bits and at 53; the places are counted from the bottom, so 2^-33 is 262111. Assumes nothing.
use mathlib.Core.Path.{◌≡◌, refl, ◌∙◌, subst}
use mathlib.Core.Bool.{Bool, true, false}
use Prim.Native.Nat.{ℕ, suc}
use native.Mathlib.Omega.{arith}
use lib.Dec.{lit<, lit≤}
use lib.Ieee.{size, span, climb}
use Rattle.exact.specs.Fraction.{nat, parts, ◌⊖◌, ◌≈◌}
use Rattle.exact.proofs.Fraction.Order.{≈-refl, ≈-sym}
use Rattle.exact.proofs.Fraction.Sum.{⊖-cong}
use Rattle.sheet.specs.declared.Sheet.{Sheet}
use Rattle.sheet.specs.Magnitude.{round_mag, floor_mag, ceil_mag, lead, next}
use Rattle.sheet.specs.Number.{bias, value, signed}
use Rattle.sheet.specs.Round.{round, down, up, away}
use Rattle.sheet.proofs.Closed.{ratio_closed, whole_closed, difference-closed}
use Rattle.sheet.proofs.Laws.{round_resp, round_whole}

pub P1-down : down 32 (nat 1) ≡ record { neg = false; m = 2147483648; e = 262113 }
unfolding signed round_mag floor_mag ceil_mag lead next away bias size span climb
P1-down = whole_closed false 31 1 31 262113 (lit≤ tt) refl

pub P1-up : up 32 (nat 1) ≡ record { neg = false; m = 2147483648; e = 262113 }
unfolding signed round_mag floor_mag ceil_mag lead next away bias size span climb
P1-up = whole_closed true 31 1 31 262113 (lit≤ tt) refl

pub P2-down : down 32 (parts false 1 3) ≡ record { neg = false; m = 2863311530; e = 262111 }
unfolding signed round_mag floor_mag ceil_mag lead next away bias size span climb
P2-down = ratio_closed false 31 false 1 3 33 262111 (lit< tt) (lit≤ tt) refl

pub P2-up : up 32 (parts false 1 3) ≡ record { neg = false; m = 2863311531; e = 262111 }
unfolding signed round_mag floor_mag ceil_mag lead next away bias size span climb
P2-up = ratio_closed true 31 false 1 3 33 262111 (lit< tt) (lit≤ tt) refl

pub P3-down : down 32 (parts true 1 3) ≡ record { neg = true; m = 2863311531; e = 262111 }
unfolding signed round_mag floor_mag ceil_mag lead next away bias size span climb
P3-down = ratio_closed false 31 true 1 3 33 262111 (lit< tt) (lit≤ tt) refl

pub P3-up : up 32 (parts true 1 3) ≡ record { neg = true; m = 2863311530; e = 262111 }
unfolding signed round_mag floor_mag ceil_mag lead next away bias size span climb
P3-up = ratio_closed true 31 true 1 3 33 262111 (lit< tt) (lit≤ tt) refl

pub P4-down : down 32 (nat 4294967297) ≡ record { neg = false; m = 2147483648; e = 262145 }
unfolding signed round_mag floor_mag ceil_mag lead next away bias size span climb
P4-down = whole_closed false 31 4294967297 0 262144 (lit≤ tt) refl

pub P4-up : up 32 (nat 4294967297) ≡ record { neg = false; m = 2147483649; e = 262145 }
unfolding signed round_mag floor_mag ceil_mag lead next away bias size span climb
P4-up = whole_closed true 31 4294967297 0 262144 (lit≤ tt) refl

pub P5-down : down 32 (nat 8589934591) ≡ record { neg = false; m = 4294967295; e = 262145 }
unfolding signed round_mag floor_mag ceil_mag lead next away bias size span climb
P5-down = whole_closed false 31 8589934591 0 262144 (lit≤ tt) refl

pub P5-up : up 32 (nat 8589934591) ≡ record { neg = false; m = 2147483648; e = 262146 }
unfolding signed round_mag floor_mag ceil_mag lead next away bias size span climb
P5-up = whole_closed true 31 8589934591 0 262144 (lit≤ tt) refl

pub P6-down : down 32 (parts false 1 10) ≡ record { neg = false; m = 3435973836; e = 262109 }
unfolding signed round_mag floor_mag ceil_mag lead next away bias size span climb
P6-down = ratio_closed false 31 false 1 10 35 262109 (lit< tt) (lit≤ tt) refl

pub P6-up : up 32 (parts false 1 10) ≡ record { neg = false; m = 3435973837; e = 262109 }
unfolding signed round_mag floor_mag ceil_mag lead next away bias size span climb
P6-up = ratio_closed true 31 false 1 10 35 262109 (lit< tt) (lit≤ tt) refl

pub P7-down : down 32 (nat 322) ≡ record { neg = false; m = 2701131776; e = 262121 }
unfolding signed round_mag floor_mag ceil_mag lead next away bias size span climb
P7-down = whole_closed false 31 322 23 262121 (lit≤ tt) refl

pub P7-up : up 32 (nat 322) ≡ record { neg = false; m = 2701131776; e = 262121 }
unfolding signed round_mag floor_mag ceil_mag lead next away bias size span climb
P7-up = whole_closed true 31 322 23 262121 (lit≤ tt) refl

-- P8: 1 less each end of the bracket of 1/3, which changes the ends' places
abbrev one : Sheet
one = record { neg = false; m = 2147483648; e = 262113 }

one_value : nat 1 ≈ value one
one_value = subst (λ (s : Sheet). nat 1 ≈ value s) P1-down (≈-sym (round_whole false 31 1 (lit< tt)))

-- 1 in its own spelling
less-third : (up : Bool) (v : ℕ) (a : Sheet) → nat 1 ≈ value a → (s : Sheet) → round up (suc v) (nat 1 ⊖ value s) ≡ round up (suc v) (value a ⊖ value s)
less-third up v a e s = round_resp up v (⊖-cong e (≈-refl (value s)))

pub P8-down : down 32 (nat 1 ⊖ value (up 32 (parts false 1 3))) ≡ record { neg = false; m = 2863311530; e = 262112 }
unfolding signed round_mag floor_mag ceil_mag lead next away bias size span climb
P8-down =
    rw P2-up
    (less-third false 31 one one_value (record { neg = false; m = 2863311531; e = 262111 })
    ∙ difference-closed false 31 one (record { neg = false; m = 2863311531; e = 262111 }) 8589934592 2863311531 262111 refl (λ z. omega arith) refl refl (lit≤ tt))

pub P8-up : up 32 (nat 1 ⊖ value (down 32 (parts false 1 3))) ≡ record { neg = false; m = 2863311531; e = 262112 }
unfolding signed round_mag floor_mag ceil_mag lead next away bias size span climb
P8-up =
    rw P2-down
    (less-third true 31 one one_value (record { neg = false; m = 2863311530; e = 262111 })
    ∙ difference-closed true 31 one (record { neg = false; m = 2863311530; e = 262111 }) 8589934592 2863311530 262111 refl (λ z. omega arith) refl refl (lit≤ tt))

-- ---- the second column (02 d): the same at 53 bits

pub P1-down-53 : down 53 (nat 1) ≡ record { neg = false; m = 4503599627370496; e = 262092 }
unfolding signed round_mag floor_mag ceil_mag lead next away bias size span climb
P1-down-53 = whole_closed false 52 1 52 262092 (lit≤ tt) refl

pub P1-up-53 : up 53 (nat 1) ≡ record { neg = false; m = 4503599627370496; e = 262092 }
unfolding signed round_mag floor_mag ceil_mag lead next away bias size span climb
P1-up-53 = whole_closed true 52 1 52 262092 (lit≤ tt) refl

pub P2-down-53 : down 53 (parts false 1 3) ≡ record { neg = false; m = 6004799503160661; e = 262090 }
unfolding signed round_mag floor_mag ceil_mag lead next away bias size span climb
P2-down-53 = ratio_closed false 52 false 1 3 54 262090 (lit< tt) (lit≤ tt) refl

pub P2-up-53 : up 53 (parts false 1 3) ≡ record { neg = false; m = 6004799503160662; e = 262090 }
unfolding signed round_mag floor_mag ceil_mag lead next away bias size span climb
P2-up-53 = ratio_closed true 52 false 1 3 54 262090 (lit< tt) (lit≤ tt) refl

pub P3-down-53 : down 53 (parts true 1 3) ≡ record { neg = true; m = 6004799503160662; e = 262090 }
unfolding signed round_mag floor_mag ceil_mag lead next away bias size span climb
P3-down-53 = ratio_closed false 52 true 1 3 54 262090 (lit< tt) (lit≤ tt) refl

pub P3-up-53 : up 53 (parts true 1 3) ≡ record { neg = true; m = 6004799503160661; e = 262090 }
unfolding signed round_mag floor_mag ceil_mag lead next away bias size span climb
P3-up-53 = ratio_closed true 52 true 1 3 54 262090 (lit< tt) (lit≤ tt) refl

pub P4-down-53 : down 53 (nat 4294967297) ≡ record { neg = false; m = 4503599628419072; e = 262124 }
unfolding signed round_mag floor_mag ceil_mag lead next away bias size span climb
P4-down-53 = whole_closed false 52 4294967297 20 262124 (lit≤ tt) refl

pub P4-up-53 : up 53 (nat 4294967297) ≡ record { neg = false; m = 4503599628419072; e = 262124 }
unfolding signed round_mag floor_mag ceil_mag lead next away bias size span climb
P4-up-53 = whole_closed true 52 4294967297 20 262124 (lit≤ tt) refl

pub P5-down-53 : down 53 (nat 8589934591) ≡ record { neg = false; m = 9007199253692416; e = 262124 }
unfolding signed round_mag floor_mag ceil_mag lead next away bias size span climb
P5-down-53 = whole_closed false 52 8589934591 20 262124 (lit≤ tt) refl

pub P5-up-53 : up 53 (nat 8589934591) ≡ record { neg = false; m = 9007199253692416; e = 262124 }
unfolding signed round_mag floor_mag ceil_mag lead next away bias size span climb
P5-up-53 = whole_closed true 52 8589934591 20 262124 (lit≤ tt) refl

pub P6-down-53 : down 53 (parts false 1 10) ≡ record { neg = false; m = 7205759403792793; e = 262088 }
unfolding signed round_mag floor_mag ceil_mag lead next away bias size span climb
P6-down-53 = ratio_closed false 52 false 1 10 56 262088 (lit< tt) (lit≤ tt) refl

pub P6-up-53 : up 53 (parts false 1 10) ≡ record { neg = false; m = 7205759403792794; e = 262088 }
unfolding signed round_mag floor_mag ceil_mag lead next away bias size span climb
P6-up-53 = ratio_closed true 52 false 1 10 56 262088 (lit< tt) (lit≤ tt) refl

pub P7-down-53 : down 53 (nat 322) ≡ record { neg = false; m = 5664683906301952; e = 262100 }
unfolding signed round_mag floor_mag ceil_mag lead next away bias size span climb
P7-down-53 = whole_closed false 52 322 44 262100 (lit≤ tt) refl

pub P7-up-53 : up 53 (nat 322) ≡ record { neg = false; m = 5664683906301952; e = 262100 }
unfolding signed round_mag floor_mag ceil_mag lead next away bias size span climb
P7-up-53 = whole_closed true 52 322 44 262100 (lit≤ tt) refl

abbrev one-53 : Sheet
one-53 = record { neg = false; m = 4503599627370496; e = 262092 }

one-53_value : nat 1 ≈ value one-53
one-53_value = subst (λ (s : Sheet). nat 1 ≈ value s) P1-down-53 (≈-sym (round_whole false 52 1 (lit< tt)))

pub P8-down-53 : down 53 (nat 1 ⊖ value (up 53 (parts false 1 3))) ≡ record { neg = false; m = 6004799503160661; e = 262091 }
unfolding signed round_mag floor_mag ceil_mag lead next away bias size span climb
P8-down-53 =
    rw P2-up-53
    (less-third false 52 one-53 one-53_value (record { neg = false; m = 6004799503160662; e = 262090 })
    ∙ difference-closed false 52 one-53 (record { neg = false; m = 6004799503160662; e = 262090 }) 18014398509481984 6004799503160662 262090 refl (λ z. omega arith) refl refl (lit≤ tt))

pub P8-up-53 : up 53 (nat 1 ⊖ value (down 53 (parts false 1 3))) ≡ record { neg = false; m = 6004799503160662; e = 262091 }
unfolding signed round_mag floor_mag ceil_mag lead next away bias size span climb
P8-up-53 =
    rw P2-down-53
    (less-third true 52 one-53 one-53_value (record { neg = false; m = 6004799503160661; e = 262090 })
    ∙ difference-closed true 52 one-53 (record { neg = false; m = 6004799503160661; e = 262090 }) 18014398509481984 6004799503160661 262090 refl (λ z. omega arith) refl refl (lit≤ tt))
