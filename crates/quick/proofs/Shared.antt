-- What the rows of a table share, by the laws of the equation: the brackets that the pass works on are held, and its addends are the rule's.
-- Assumes nothing.
use mathlib.Core.Path.{◌≡◌, refl}
use Prim.Native.Nat.{ℕ, suc}
use Rattle.term.specs.declared.Term.{Term}
use Rattle.term.specs.Bounds.{Bounds}
use Rattle.bracket.specs.declared.Bracket.{Bracket}
use Rattle.bracket.specs.Rules.{power}
use Rattle.equation.specs.Ranged.{DeltaIn, TauIn, AllHeld}
use Rattle.equation.specs.Rules.{coefficient, term_v, addends_of, addends}
use Rattle.equation.proofs.Holds.{term-valued, term-g_in, e_in, w-in, factor_s2-held}
use Rattle.equation.proofs.HoldsSums.{addends_held}
use Rattle.equation.specs.Value.{value_by}
use Rattle.quick.specs.Kept.{weighed_by, kept_of, addends_by, Addable}

-- a term's addends are those by what is kept for it
pub addends-by : (w : ℕ) (term : Term) (a b : Bracket)
    → addends_by w (coefficient w term) (power w a term.d) (power w b term.t) (kept_of w term (power w a term.c)).e (kept_of w term (power w a term.c)).w (kept_of w term (power w a term.c)).s2 ≡ addends w term a b
unfolding addends_by value_by kept_of weighed_by addends addends_of term_v
addends-by w term a b = refl

-- and they are held, with all that they are made of
module _ {v : ℕ} (term : Term) (a b : Bracket) (s : Bounds term) (p : DeltaIn v a) (q : TauIn v b) where
  pub term-addable : Addable v (coefficient (suc v) term) (power (suc v) a term.d) (power (suc v) b term.t) (kept_of (suc v) term (power (suc v) a term.c)).e (kept_of (suc v) term (power (suc v) a term.c)).w (kept_of (suc v) term (power (suc v) a term.c)).s2
  unfolding kept_of weighed_by
  term-addable =
      let g = term-g_in a p term s in
      let tw = w-in _ g term.d term.c s.d_above s.d_most s.c_most in
      record {
        valued = term-valued a b p q term s (e_in _ g term.c);
        w_held = tw.held;
        factor_held = factor_s2-held _ tw _ g term.c s.c_most;
        addends_held = held;
      }
    where
      held : AllHeld v (addends_by (suc v) (coefficient (suc v) term) (power (suc v) a term.d) (power (suc v) b term.t) (kept_of (suc v) term (power (suc v) a term.c)).e (kept_of (suc v) term (power (suc v) a term.c)).w (kept_of (suc v) term (power (suc v) a term.c)).s2)
      held = rw (addends-by (suc v) term a b) (addends_held term a b s p q)
