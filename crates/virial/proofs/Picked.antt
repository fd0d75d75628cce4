-- Which terms the three sums run over, in numbers. Assumes nothing.
use mathlib.Core.Path.{◌≡◌}
use mathlib.Core.Bool.{true}
use mathlib.Core.Logic.{◌↔◌}
use lib.Dec.{eqb}
use borrow.Author.Tests.{eqb-true, eq-eqb}
use Rattle.term.specs.declared.Term.{Term}
use Rattle.verdict.proofs.Tests.{both, together}
use Rattle.virial.specs.declared.Pick.TheVariants.{First, Second, FirstDamped}
use Rattle.virial.specs.Sums.{picks}

module _ (term : Term) where
  pub picks_first : picks First term ≡ true ↔ (term.d ≡ 1)
  unfolding picks
  picks_first = (eqb-true term.d 1, eq-eqb term.d 1)

  pub picks_second : picks Second term ≡ true ↔ (term.d ≡ 2)
  unfolding picks
  picks_second = (eqb-true term.d 2, eq-eqb term.d 2)

  pub picks-damped : picks FirstDamped term ≡ true ↔ ((term.d ≡ 1) × (term.c ≡ 1))
  unfolding picks
  picks-damped = (
    λ h. let p = both (eqb term.d 1) (eqb term.c 1) h in (eqb-true term.d 1 p.0, eqb-true term.c 1 p.1),
    λ p. together (eqb term.d 1) (eqb term.c 1) (eq-eqb term.d 1 p.0) (eq-eqb term.c 1 p.1),
  )
