-- The powers of a bracket in a list: the first, and one more. Assumes nothing.
use mathlib.Core.Path.{◌≡◌, sym, ap, subst, ◌∙◌}
use mathlib.Core.List.{List}
use Prim.Native.Nat.{ℕ, zero, suc, ◌+◌, ◌<◌}
use native.Mathlib.Nat.{le_refl}
use native.Mathlib.Numerals.{add-one}
use native.Mathlib.Omega.{arith}
use lib.ListN.{length, set, get_or, replicate}
use Rattle.exact.specs.Fraction.{nat}
use Rattle.bracket.specs.declared.Bracket.{Bracket}
use Rattle.bracket.specs.Rules.{ends, given, times, power}
use Rattle.quick.specs.Powers.{nothing, PowersTo}
use Rattle.quick.proofs.Filled.{filled_more}

-- a list of ones begins with power 0
pub first_power : (w : ℕ) (base : Bracket) {one : Bracket} (k : ℕ) → one ≡ given w (nat 1) → k < 1 → get_or (replicate 64 one) k nothing ≡ power w base k
unfolding power
first_power w base zero e l = e
first_power w base (suc k) e l = absurd (omega arith)

-- power n + 1 is power n times the base
pub next_power : (w : ℕ) (base : Bracket) (list : List Bracket) (n : ℕ) {next : Bracket} → n + 1 < length list → PowersTo w base n list
    → next ≡ times w (ends (get_or list n nothing)) (ends base) → PowersTo w base (n + 1) (set list (n + 1) next)
unfolding power
next_power w base list n {next} h p e =
    let last = p n (le_refl (suc n)) in
    let is : next ≡ power w base (n + 1) =
    e ∙ ap (λ (b : Bracket). times w (ends b) (ends base)) last ∙ ap (power w base) (sym (add-one n)) in
    subst (λ (m : ℕ). (k : ℕ) → k < m → get_or (set list (n + 1) next) k nothing ≡ power w base k) (add-one (n + 1))
    (filled_more nothing (λ k b. b ≡ power w base k) list (n + 1) next h (subst (λ (m : ℕ). (k : ℕ) → k < m → get_or list k nothing ≡ power w base k) (sym (add-one n)) p) is)
