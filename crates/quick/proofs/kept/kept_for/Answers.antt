-- `quick::kept::kept_for` meets its contract. Assumes nothing.
use mathlib.Core.Path.{◌≡◌, sym, ap, subst, ◌∙◌}
use Prim.Native.Nat.{ℕ, suc}
use Rattle.bracket.specs.declared.Bracket.{Bracket}
use Rattle.equation.specs.Ranged.{GIn, WIn}
use Rattle.equation.specs.Rules.{scaled, factor_e}
use Rattle.equation.proofs.Holds.{w-in}
use Rattle.quick.specs.declared.ready.Row.{Row}
use Rattle.quick.specs.Kept.{Keepable}
use Rattle.quick.proofs.Passed.{kept-made}
use Rattle.quick.proofs.kept.kept_for.Goals.{then-row-i, else-row-i, then-row-i-2, else-row-i-2}
use Rattle.quick.proofs.kept.kept_for.Goals as goal

-- g is where the equation wants it
g-in : {v i : ℕ} {row : Row} {g e power x : Bracket} → Keepable v i row g e power → x ≡ scaled (suc v) row.term.c row.term.factor power → GIn v x
g-in {v} k e = subst (GIn v) (sym e) k.g_in

pub factor_e-e-requires : goal.factor_e-e-requires
factor_e-e-requires c =
    let k = c.requires in
    g-in k (elim c.if-row-i.branch [ then-row-i w ↦ w.g-is ∙ k.same_g w.if-row-i.true | else-row-i w ↦ w.g-is ∙ w.scale-g.ensures ])

pub term_w-w-requires : goal.term_w-w-requires
term_w-w-requires c =
    let k = c.requires in
    let b = k.bounds in
    ((b.d_above, b.d_most), (b.c_most, g-in k (elim c.if-row-i.branch [ then-row-i w ↦ w.g-is ∙ k.same_g w.if-row-i.true | else-row-i w ↦ w.g-is ∙ w.scale-g.ensures ])))

pub factor_s2-s2-requires : goal.factor_s2-s2-requires
factor_s2-s2-requires c =
    let k = c.requires in
    let b = k.bounds in
    let term = c.args.row.term in
    let g = g-in k (elim c.if-row-i.branch [ then-row-i w ↦ w.g-is ∙ k.same_g w.if-row-i.true | else-row-i w ↦ w.g-is ∙ w.scale-g.ensures ]) in
    (b.c_most, (g, subst (WIn _) (sym c.term_w-w.ensures) (w-in _ g term.d term.c b.d_above b.d_most b.c_most)))

pub returns : goal.returns
returns c =
    let k = c.requires in
    let w = suc c.args.v in
    let term = c.args.row.term in
    let g : c.if-row-i.g ≡ scaled w term.c term.factor c.args.power =
    elim c.if-row-i.branch [ then-row-i w ↦ w.g-is ∙ k.same_g w.if-row-i.true | else-row-i w ↦ w.g-is ∙ w.scale-g.ensures ] in
    let e : c.if-row-i-2.e ≡ factor_e w term.c c.if-row-i.g =
    elim c.if-row-i-2.branch [
      | then-row-i-2 w ↦ w.e-is ∙ k.same_e w.if-row-i-2.true ∙ ap (factor_e _ _) (sym g)
      | else-row-i-2 w ↦ w.e-is ∙ w.factor_e-e.ensures
    ] in
    kept-made w term c.args.power g e c.term_w-w.ensures c.factor_s2-s2.ensures
