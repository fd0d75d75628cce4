-- From numbers to brackets: a law about every two ends is one about the bracket of the rule. Assumes nothing.
use mathlib.Core.Bool.{Bool, true, false}
use Prim.Native.Nat.{ℕ}
use Rattle.exact.specs.Fraction.{Fraction}
use Rattle.sheet.specs.Number.{value}
use Rattle.sheet.specs.Round.{round}
use Rattle.bracket.specs.Span.{Span, Each, over, side}
use Rattle.bracket.specs.Rules.{ends, rounded}
use Rattle.bracket.proofs.Corners.{over-each}

pub each_side : {P : Fraction → Type 0} {A : Span} → Each P A → (s : Bool) → P (side s A)
each_side p true = p.high
each_side p false = p.low

pub each_map : {P Q : Fraction → Type 0} {A : Span} → ((x : Fraction) → P x → Q x) → Each P A → Each Q A
each_map h p = record { low = h _ p.low; high = h _ p.high }

pub over-both : {P Q R : Fraction → Type 0} {A B : Span} (f : Fraction → Fraction → Fraction) → ((x y : Fraction) → P x → Q y → R (f x y))
    → Each P A → Each Q B → Each R (over f A B)
over-both {A = A} {B = B} f h p q = over-each f A B (λ s t. h (side s A) (side t B) (each_side p s) (each_side q t))

pub rounded-both : {P Q : Fraction → Type 0} {A : Span} (w : ℕ) → ((up : Bool) (x : Fraction) → P x → Q (value (round up w x))) → Each P A
    → Each Q (ends (rounded w A))
unfolding rounded
rounded-both w h p = record { low = h false _ p.low; high = h true _ p.high }
