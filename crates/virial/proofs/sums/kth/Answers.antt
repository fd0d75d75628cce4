-- `virial::sums::kth` meets its contract: the table is sound as one of the kind that is named. Assumes nothing.
use mathlib.Core.Path.{◌≡◌, sym, ap, subst, ◌∙◌}
use mathlib.Core.Bool.{true}
use Prim.Native.Nat.{ℕ, ◌<◌}
use Rattle.term.specs.Bounds.{Bounds}
use Rattle.term.specs.Packed.{term_at, count_terms}
use Rattle.term.specs.Sound.{sound_table}
use Rattle.term.proofs.Answers.{sound-bounds, sound-reach}
use Rattle.virial.proofs.sums.kth.Goals as goal

pub term_at-requires : goal.term_at-requires
term_at-requires g c =
    let t = c.args.table in
    let sound : sound_table g.row.KIND t.bytes.now ≡ true = subst (λ (n : ℕ). sound_table n t.bytes.now ≡ true) c.requires.kind t.sound in
    let below : c.args.k < count_terms g.row.KIND t.bytes.now = subst (λ (n : ℕ). c.args.k < count_terms n t.bytes.now) c.requires.kind c.requires.k_below in
    sound-reach g.row.KIND t.bytes.now sound c.args.k below

pub returns : goal.returns
returns g c =
    let t = c.args.table in
    let e : c.term_at.result ≡ term_at t.kind t.bytes.now c.args.k = c.term_at.ensures.0 ∙ ap (λ (n : ℕ). term_at n t.bytes.now c.args.k) (sym c.requires.kind) in
    record { value = e; bounds = subst Bounds (sym e) (sound-bounds t.kind t.bytes.now t.sound c.args.k c.requires.k_below) }
