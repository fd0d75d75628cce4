-- `equation::addends::addends` meets its contract. Assumes nothing.
use mathlib.Core.Path.{◌≡◌, sym, subst}
use Prim.Native.Nat.{ℕ, suc}
use Rattle.bracket.specs.declared.Bracket.{Bracket}
use Rattle.term.specs.declared.Term.{Term}
use Rattle.term.specs.Bounds.{Bounds}
use Rattle.equation.specs.Ranged.{DeltaIn, TauIn, GIn, EIn, VIn, WIn}
use Rattle.equation.specs.Rules.{g_of, factor_e, term_v, term_w}
use Rattle.equation.proofs.Steps.{addends-is}
use Rattle.equation.proofs.Holds.{term-g_in, e_in, v_in, w-in}
use Rattle.equation.proofs.addends.addends.Goals as goal

-- what the results of the calls are held to
module _ {v : ℕ} (term : Term) (a b : Bracket) (s : Bounds term) (p : DeltaIn v a) (q : TauIn v b) where
  g_held : {g : Bracket} → g ≡ g_of (suc v) term.c term.factor a → GIn v g
  g_held e = subst (GIn v) (sym e) (term-g_in a p term s)

  e_held : {g e : Bracket} → g ≡ g_of (suc v) term.c term.factor a → e ≡ factor_e (suc v) term.c g → EIn v e
  e_held {g} i j = subst (EIn v) (sym j) (e_in g (g_held i) term.c)

  v-held : {g e tv : Bracket} → g ≡ g_of (suc v) term.c term.factor a → e ≡ factor_e (suc v) term.c g → tv ≡ term_v (suc v) term a b e → VIn v tv
  v-held {e = e} i j k = subst (VIn v) (sym k) (v_in a b p q term s e (e_held i j))

  w_held : {g tw : Bracket} → g ≡ g_of (suc v) term.c term.factor a → tw ≡ term_w (suc v) term.d term.c g → WIn v tw
  w_held {g} i k = subst (WIn v) (sym k) (w-in g (g_held i) term.d term.c s.d_above s.d_most s.c_most)

pub factor_g-g-requires : goal.factor_g-g-requires
factor_g-g-requires c = let h = c.requires in (h.0, h.1.delta)

pub factor_e-requires : goal.factor_e-requires
factor_e-requires c =
    let a = c.args in
    let h = c.requires in
    g_held a.term a.x.delta a.x.tau h.0 h.1.delta h.1.tau c.factor_g-g.ensures

pub term_v-tv-requires : goal.term_v-tv-requires
term_v-tv-requires c =
    let a = c.args in
    let h = c.requires in
    (h.0, h.1, e_held a.term a.x.delta a.x.tau h.0 h.1.delta h.1.tau c.factor_g-g.ensures c.factor_e.ensures)

pub term_w-requires : goal.term_w-requires
term_w-requires c =
    let a = c.args in
    let h = c.requires in
    ((h.0.d_above, h.0.d_most), (h.0.c_most, g_held a.term a.x.delta a.x.tau h.0 h.1.delta h.1.tau c.factor_g-g.ensures))

pub addends_of-requires : goal.addends_of-requires
addends_of-requires c =
    let a = c.args in
    let h = c.requires in
    let g = c.factor_g-g.ensures in
    let e = c.factor_e.ensures in (
      (h.0.c_most, g_held a.term a.x.delta a.x.tau h.0 h.1.delta h.1.tau g),
      (
        v-held a.term a.x.delta a.x.tau h.0 h.1.delta h.1.tau g e c.term_v-tv.ensures,
        w_held a.term a.x.delta a.x.tau h.0 h.1.delta h.1.tau g c.term_w.ensures,
      ),
    )

pub returns : goal.returns
returns c =
    let a = c.args in
    addends-is (suc a.v) a.term a.x.delta a.x.tau c.factor_g-g.ensures c.factor_e.ensures
    c.term_v-tv.ensures c.term_w.ensures c.addends_of.ensures
