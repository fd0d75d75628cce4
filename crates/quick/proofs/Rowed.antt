-- The rows of a list of terms: each by the keys of the list, and the same rows by a table's own terms. Assumes nothing.
use mathlib.Core.Path.{◌≡◌, refl, sym, ap, subst, ◌∙◌}
use mathlib.Core.Bool.{true, false}
use mathlib.Core.List.{List}
use Prim.Native.Nat.{ℕ, ◌≤◌, ◌<◌}
use native.Mathlib.Nat.{le_refl, lt_of_le_of_lt}
use native.Mathlib.Omega.{arith}
use lib.ListN.{length, get_or}
use lib.Ieee.{Float}
use Rattle.doubles.specs.Double.{exact_of}
use Rattle.term.specs.declared.Term.{Term}
use Rattle.term.specs.Packed.{term_at, count_terms, terms_from}
use Rattle.bracket.specs.declared.Bracket.{Bracket}
use Rattle.bracket.specs.Rules.{power}
use Rattle.equation.specs.Rules.{tau, coefficient}
use Rattle.quick.specs.declared.ready.Row.{Row}
use Rattle.quick.specs.declared.ready.Reach.{Reach}
use Rattle.quick.specs.Unpacked.{blank, AllBounds}
use Rattle.quick.specs.Powers.{nothing, PowersTo}
use Rattle.quick.specs.Keys.{key_of, KeysTo, FirstLike}
use Rattle.quick.specs.Ready.{no_row, Reaches, SameBefore, RowFor, RowsTo, ReadyFor}
use Rattle.quick.proofs.Listed.{terms-length, terms_at}
use Rattle.quick.proofs.Alike.{same_key, like_key, key_same, key_like}

-- a row by the first places of its keys
module _ (w : ℕ) (list : List Term) (count : ℕ) (bounds : AllBounds list count) (taus : List Bracket) (sames likes : List ℕ)
    (by-same : KeysTo false list count sames) (by-like : KeysTo true list count likes) (k : ℕ) (inside : k < count) where
  abbrev pub term : ℕ → Term
  term j = get_or list j blank

  -- equal keys at two places
  keyed_same : (j : ℕ) → j ≤ k → get_or sames j 0 ≡ get_or sames k 0 → key_of false (term j) ≡ key_of false (term k)
  keyed_same j l e = sym (by-same j (lt_of_le_of_lt l inside)) ∙ e ∙ by-same k inside

  keyed_like : (j : ℕ) → j ≤ k → get_or likes j 0 ≡ get_or likes k 0 → key_of true (term j) ≡ key_of true (term k)
  keyed_like j l e = sym (by-like j (lt_of_le_of_lt l inside)) ∙ e ∙ by-like k inside

  -- equal fields at two places
  fields_same : (j : ℕ) → j ≤ k → (term j).c ≡ (term k).c → (term j).factor ≡ (term k).factor → get_or sames j 0 ≡ get_or sames k 0
  fields_same j l c f = by-same j (lt_of_le_of_lt l inside) ∙ key_same (term j) (term k) c f ∙ sym (by-same k inside)

  fields_like : (j : ℕ) → j ≤ k → (term j).c ≡ (term k).c → (term j).factor ≡ (term k).factor → (term j).d ≡ (term k).d → get_or likes j 0 ≡ get_or likes k 0
  fields_like j l c f d = by-like j (lt_of_le_of_lt l inside) ∙ key_like (term j) (term k) c f d ∙ sym (by-like k inside)

  pub row_for : (same like : ℕ) → FirstLike sames k same → FirstLike likes k like → {row : Row}
      → row ≡ record { term = term k; coefficient = coefficient w (term k); tau = get_or taus (term k).t nothing; same = same; like = like }
      → RowFor w term (λ t. get_or taus t nothing) k row
  row_for same like s l e =
      let p = same_key (term same) (term k) (bounds same (lt_of_le_of_lt s.before inside)) (bounds k inside) (keyed_same same s.before s.same) in
      let q = like_key (term like) (term k) (bounds like (lt_of_le_of_lt l.before inside)) (bounds k inside) (keyed_like like l.before l.same) in
      rw e
      (record {
        is_term = refl;
        is_coefficient = refl;
        is_tau = refl;
        same = record { before = s.before; same_c = p.0; same_factor = p.1 };
        same_first = λ j h c f. s.first j h (fields_same j (omega (arith, s.before)) c f);
        like = record { before = l.before; same_c = q.0; same_factor = q.1 };
        like_d = q.2;
        like_first = λ j h c f d. l.first j h (fields_like j (omega (arith, l.before)) c f d);
      })

-- the same row by other names of the terms and of the powers
module _ (w : ℕ) (f g : ℕ → Term) (p q : ℕ → Bracket) (k : ℕ) (same : (j : ℕ) → j ≤ k → f j ≡ g j) (powers : p (g k).t ≡ q (g k).t) where
  here : f k ≡ g k
  here = same k (le_refl k)

  before_renamed : (place : ℕ) → SameBefore f k place → SameBefore g k place
  before_renamed place s =
      let there = same place s.before in
      record {
        before = s.before;
        same_c = ap (λ (t : Term). t.c) (sym there) ∙ s.same_c ∙ ap (λ (t : Term). t.c) here;
        same_factor = ap (λ (t : Term). t.factor) (sym there) ∙ s.same_factor ∙ ap (λ (t : Term). t.factor) here;
      }

  -- a field that two of the terms share, by their other names
  at : (field : Term → ℕ) (j : ℕ) → j ≤ k → field (g j) ≡ field (g k) → field (f j) ≡ field (f k)
  at field j l e = ap field (same j l) ∙ e ∙ ap field (sym here)

  below : {j place : ℕ} → j < place → SameBefore f k place → j ≤ k
  below h s = let b = s.before in omega arith

  pub row_renamed : (row : Row) → RowFor w f p k row → RowFor w g q k row
  row_renamed row r =
      record {
        is_term = r.is_term ∙ here;
        is_coefficient = r.is_coefficient ∙ ap (coefficient w) here;
        is_tau = r.is_tau ∙ ap (λ (t : Term). p t.t) here ∙ powers;
        same = before_renamed row.same r.same;
        same_first = λ j h c f. r.same_first j h (at (λ (t : Term). t.c) j (below h r.same) c) (at (λ (t : Term). t.factor) j (below h r.same) f);
        like = before_renamed row.like r.like;
        like_d = ap (λ (t : Term). t.d) (sym (same row.like r.like.before)) ∙ r.like_d ∙ ap (λ (t : Term). t.d) here;
        like_first = λ j h c f d. r.like_first j h (at (λ (t : Term). t.c) j (below h r.like) c) (at (λ (t : Term). t.factor) j (below h r.like) f) (at (λ (t : Term). t.d) j (below h r.like) d);
      }

-- what is made ready of a table's terms
module _ (w kind : ℕ) (table : List ℕ) (t : Float) {terms : List Term} (e : terms ≡ terms_from kind table 0 (count_terms kind table)) where
  pub ready_for : (reach : Reach) → Reaches terms (length terms) reach → {τ : Bracket} → τ ≡ tau w (exact_of t) → (taus : List Bracket) → PowersTo w τ reach.t taus → {rows : List Row}
      → RowsTo w (λ k. get_or terms k blank) (λ p. get_or taus p nothing) rows (length terms) → ReadyFor w kind table (record { t = t; rows = rows; far = reach.d })
  ready_for reach r {τ} is taus powers {rows} h =
      let n = terms-length kind table e in
      record {
        rows = λ k l.
            let inside : k < length terms = omega (arith, n, l) in
            let far : (term_at kind table k).t ≤ reach.t = subst (λ (z : Term). z.t ≤ reach.t) (terms_at kind table e k l) (r.t_reached k inside) in
            row_renamed w (λ j. get_or terms j blank) (term_at kind table) (λ p. get_or taus p nothing) (power w (tau w (exact_of t))) k (λ j before. terms_at kind table e j (omega arith))
            (powers (term_at kind table k).t (omega arith) ∙ ap (λ (b : Bracket). power w b (term_at kind table k).t) is) (get_or rows k no_row) (h k inside);
        d_reached = λ k l. subst (λ (z : Term). z.d ≤ reach.d) (terms_at kind table e k l) (r.d_reached k (omega (arith, n, l)));
        c_reached = λ k l. subst (λ (z : Term). z.c ≤ reach.d) (terms_at kind table e k l) (r.c_reached k (omega (arith, n, l)));
        far_most = r.d_most;
      }
