-- `sheet::onward` meets its contract: the digits count the steps, or start again one place up. Assumes nothing.
use mathlib.Core.Path.{◌≡◌, sym, ◌∙◌}
use mathlib.Core.Logic.{⊎_elim}
use Prim.Native.Nat.{ℕ, suc, ◌+◌, ◌^◌, ◌≤◌}
use native.Mathlib.Omega.{arith}
use Rattle.sheet.specs.declared.Sheet.{Sheet}
use Rattle.sheet.specs.Onward.{onward}
use Rattle.sheet.specs.Range.{InRange}
use Rattle.sheet.specs.Steps.{Carried}
use Rattle.sheet.proofs.Gaps.{le_or_lt}
use Rattle.sheet.proofs.Live.{place_room, range_spelled, width_room}
use Rattle.sheet.proofs.Successors.{onward-plain, onward-carry}
use Rattle.sheet.proofs.further.onward.Goals as goal

is-onward : (v n : ℕ) (s r : Sheet) → InRange v s → n ≤ 2 ^ v → Carried v s.neg (s.m + n) s.e r → r ≡ onward (suc v) n s
is-onward v n s r h l k =
    ⊎_elim
    (λ (g : 2 ^ suc v ≤ s.m + n). k.carry g ∙ sym (onward-carry v n s (range_spelled h).fit.small l g))
    (λ g. k.plain g ∙ sym (onward-plain v n s g))
    (le_or_lt (2 ^ suc v) (s.m + n))

pub overflow_add-s : goal.overflow_add-s
overflow_add-s c = omega (arith, (range_spelled c.requires.0).fit.small, width_room c.requires.0.width)

pub carried-requires : goal.carried-requires
carried-requires c = (c.requires.0.width, omega (arith, (range_spelled c.requires.0).fit.small), omega (arith, place_room c.requires.0))

pub returns : goal.returns
returns c =
    is-onward c.args.v c.args.n c.args.s c.carried.result c.requires.0 c.requires.1 c.carried.ensures
