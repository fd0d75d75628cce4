-- What lies from a sum to the sum with its last addend once more lies in the bracket that 01 makes of them. Assumes nothing.
use Prim.Native.Nat.{ℕ, suc}
use Rattle.exact.specs.Fraction.{Fraction, ◌⊕◌}
use Rattle.exact.proofs.Fraction.Order.{≼_trans}
use Rattle.exact.proofs.Fraction.Sum.{⊕-mono}
use Rattle.exact.specs.Ends.{Within}
use Rattle.bracket.specs.Span.{◌∈◌}
use Rattle.bracket.specs.declared.Bracket.{Bracket}
use Rattle.bracket.specs.Rules.{ends, addlast}
use Rattle.bracket.proofs.Inclusion.{addlast-in}

pub between : (v : ℕ) (S T : Bracket) {s t y : Fraction} → s ∈ ends S → t ∈ ends T → Within s (s ⊕ t) y → y ∈ ends (addlast (suc v) S T)
between v S T h k w = addlast-in v S T (≼_trans h.above w.above) (≼_trans w.under (⊕-mono h.under k.under))
