-- `term::first_broken` meets its contract: the terms passed are sound, so the first broken one is the first of the table. Assumes nothing.
use native.Mathlib.Omega.{arith}
use mathlib.Core.Path.{sym, ◌∙◌}
use Prim.Native.Nat.{◌<◌}
use Rattle.term.specs.Packed.{count_terms}
use Rattle.term.proofs.First.{sound-place, first_place}
use Rattle.term.proofs.Rules.{within-bytes}
use Rattle.term.proofs.first_broken.Goals as goal

pub sound_at-requires : goal.sound_at-requires
sound_at-requires c = (within-bytes c.args.kind _ c.loop-k.k (omega (arith, c.count_terms-k-end.ensures)), c.requires)

pub returns-then-not-sound_at : goal.returns-then-not-sound_at
returns-then-not-sound_at c =
    let a = c.args in
    let here : c.loop-k.k < count_terms a.kind a.table.now = omega (arith, c.count_terms-k-end.ensures) in
    (first_place a.kind a.table.now c.loop-k.k (record { within = here; broken = sym c.sound_at.ensures ∙ c.if-not-sound_at.true; passed = c.loop-k.invariant }), omega arith)

pub returns-after-loop-k : goal.returns-after-loop-k
returns-after-loop-k c =
    let a = c.args in
    sound-place a.kind a.table.now (λ k h. c.loop-k.invariant k (omega (arith, c.count_terms-k-end.ensures)))
