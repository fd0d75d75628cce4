-- `sheet::given::whole` meets its contract. Assumes nothing.
use mathlib.Core.Path.{sym, ◌∙◌, subst}
use mathlib.Core.Bool.{false, false≢true}
use Prim.Native.Nat.{ℕ, ◌*◌, ◌^◌}
use native.Mathlib.Omega.{arith}
use Rattle.sheet.specs.Magnitude.{Place}
use Rattle.sheet.specs.Number.{bias}
use Rattle.sheet.proofs.Live.{bias-is}
use Rattle.sheet.proofs.Places.{place_whole}
use Rattle.sheet.proofs.Operations.{whole_is}
use Rattle.sheet.proofs.given.whole.Goals as goal

pub rounded-requires : goal.rounded-requires
rounded-requires c = (c.requires.0, record { full = λ t _. absurd (false≢true t); room = omega arith })

pub returns : goal.returns
returns c =
    let n = c.args.n in
    c.rounded.ensures (n * 2 ^ bias) 1 (subst (λ (i : ℕ). Place n false i (n * 2 ^ bias) 1) bias-is (place_whole n bias))
    ∙ sym (whole_is false c.args.v n)
