-- The pass over the rows: the sums that it gathers, by rows and powers of delta, are the rule's; and what an earlier place kept is a later
-- term's own. Assumes nothing.
use mathlib.Core.Path.{◌≡◌, refl, sym, ap, ap₂, subst, ◌∙◌}
use mathlib.Core.Logic.{inl, inr}
use mathlib.Core.List.{List}
use Prim.Native.Nat.{ℕ, zero, suc, ◌+◌, ◌≤◌, ◌<◌}
use native.Mathlib.Numerals.{add-one}
use native.Mathlib.Omega.{arith}
use lib.ListN.{length, set, get_or}
use lib.Seq.{get_or-set_same, get_or-set_other}
use Rattle.term.specs.declared.Term.{Term}
use Rattle.term.specs.Bounds.{Bounds}
use Rattle.bracket.specs.declared.Bracket.{Bracket}
use Rattle.bracket.specs.Rules.{power}
use Rattle.equation.specs.declared.Sums.{Sums}
use Rattle.equation.specs.Ranged.{DeltaIn, TauIn}
use Rattle.equation.specs.Rules.{scaled, factor_e, term_w, factor_s2, coefficient, addends, plus_each, no_sums, sums_first}
use Rattle.equation.proofs.Holds.{delta-power_held, term-g_in}
use Rattle.quick.specs.declared.ready.Row.{Row}
use Rattle.quick.specs.Powers.{nothing}
use Rattle.quick.specs.Ready.{no_row, RowsTo}
use Rattle.quick.specs.declared.kept.Kept.{Kept}
use Rattle.quick.specs.Kept.{weighed_by, kept_of, addends_by, Keepable, Addable}
use Rattle.quick.proofs.Filled.{over-or_less}
use Rattle.quick.proofs.Shared.{addends-by, term-addable}

-- what four lists keep at a place
abbrev pub kept_at : (gs es ws factors : List Bracket) → ℕ → Kept
kept_at gs es ws factors k = record { g = get_or gs k nothing; e = get_or es k nothing; w = get_or ws k nothing; s2 = get_or factors k nothing }

-- ---- by rows and powers of delta alone

module _ (w : ℕ) (rows : List Row) (deltas : List Bracket) where
  abbrev pub row_at : ℕ → Row
  row_at k = get_or rows k no_row

  abbrev pub kept_row : ℕ → Kept
  kept_row k = kept_of w (row_at k).term (get_or deltas (row_at k).term.c nothing)

  abbrev pub add_row : ℕ → Sums
  add_row k = addends_by w (row_at k).coefficient (get_or deltas (row_at k).term.d nothing) (row_at k).tau (kept_row k).e (kept_row k).w (kept_row k).s2

  unfoldable pub sums_rows : ℕ → Sums
  sums_rows zero = no_sums w
  sums_rows (suc n) = plus_each w (sums_rows n) (add_row n)

  pub rows_none : no_sums w ≡ sums_rows 0
  unfolding sums_rows
  rows_none = refl

  pub rows_more : (n : ℕ) → plus_each w (sums_rows n) (add_row n) ≡ sums_rows (n + 1)
  unfolding sums_rows
  rows_more n = rw add-one

  -- what the first i rows share lies where each of them looks for it
  abbrev pub KeptTo : (gs es ws factors : List Bracket) → ℕ → Type 0
  KeptTo gs es ws factors i = (k : ℕ) → k < i → kept_at gs es ws factors (row_at k).like ≡ kept_row k

-- ---- what c, factor and d settle

module _ (w : ℕ) (a b : Term) (p : Bracket) (c : a.c ≡ b.c) (factor : a.factor ≡ b.factor) where
  pub kept-g : (kept_of w a p).g ≡ scaled w b.c b.factor p
  unfolding kept_of weighed_by
  kept-g = ap₂ (λ (m n : ℕ). scaled w m n p) c factor

  pub kept-e : (kept_of w a p).e ≡ factor_e w b.c (scaled w b.c b.factor p)
  unfolding kept_of weighed_by
  kept-e = ap₂ (λ (m n : ℕ). factor_e w m (scaled w m n p)) c factor

  pub kept-alike : a.d ≡ b.d → kept_of w a p ≡ kept_of w b p
  unfolding kept_of
  kept-alike d =
      ap₂ (λ (m n : ℕ). weighed_by w m a.d (scaled w m n p) (factor_e w m (scaled w m n p))) c factor
      ∙ ap (λ (k : ℕ). weighed_by w b.c k (scaled w b.c b.factor p) (factor_e w b.c (scaled w b.c b.factor p))) d

-- what is kept for a term, part by part
pub kept-made : (w : ℕ) (t : Term) (p : Bracket) {x : Kept} → x.g ≡ scaled w t.c t.factor p → x.e ≡ factor_e w t.c x.g → x.w ≡ term_w w t.d t.c x.g → x.s2 ≡ factor_s2 w t.c x.g x.w → x ≡ kept_of w t p
unfolding kept_of weighed_by
kept-made w t p g e tw f =
    let e' = e ∙ ap (factor_e w t.c) g in
    let tw' = tw ∙ ap (term_w w t.d t.c) g in
    let f' = f ∙ ap₂ (factor_s2 w t.c) g tw' in
    λ i. record { g = g i; e = e' i; w = tw' i; s2 = f' i }

-- ---- rows of some terms

module _ {v : ℕ} (terms : ℕ → Term) (δ τ : Bracket) (rows : List Row) (deltas : List Bracket) (n : ℕ) (rowed : RowsTo (suc v) terms (power (suc v) τ) rows n)
    (by-c : (k : ℕ) → k < n → get_or deltas (terms k).c nothing ≡ power (suc v) δ (terms k).c) (by-d : (k : ℕ) → k < n → get_or deltas (terms k).d nothing ≡ power (suc v) δ (terms k).d) where
  is_kept : (k : ℕ) → k < n → kept_row (suc v) rows deltas k ≡ kept_of (suc v) (terms k) (power (suc v) δ (terms k).c)
  is_kept k l =
      ap (λ (t : Term). kept_of (suc v) t (get_or deltas t.c nothing)) (rowed k l).is_term ∙ ap (kept_of (suc v) (terms k)) (by-c k l)

  is_delta : (k : ℕ) → k < n → get_or deltas (get_or rows k no_row).term.d nothing ≡ power (suc v) δ (terms k).d
  is_delta k l = ap (λ (t : Term). get_or deltas t.d nothing) (rowed k l).is_term ∙ by-d k l

  is_addend : (k : ℕ) → k < n → add_row (suc v) rows deltas k ≡ addends (suc v) (terms k) δ τ
  is_addend k l =
      ap₂ (λ (x y : Bracket). addends_by (suc v) x y (get_or rows k no_row).tau (kept_row (suc v) rows deltas k).e (kept_row (suc v) rows deltas k).w (kept_row (suc v) rows deltas k).s2) (rowed k l).is_coefficient (is_delta k l)
      ∙ ap₂ (λ (x : Bracket) (y : Kept). addends_by (suc v) (coefficient (suc v) (terms k)) (power (suc v) δ (terms k).d) x y.e y.w y.s2) (rowed k l).is_tau (is_kept k l)
      ∙ addends-by (suc v) (terms k) δ τ

  pub rows_sums : (m : ℕ) → m ≤ n → sums_rows (suc v) rows deltas m ≡ sums_first (suc v) terms δ τ m
  unfolding sums_rows sums_first
  rows_sums zero l = refl
  rows_sums (suc m) l = ap₂ (plus_each (suc v)) (rows_sums m (omega arith)) (is_addend m l)

  -- a place before which no other has its c, factor and d looks for them at itself
  own_first : (p : ℕ) → p < n → ((j : ℕ) → j < p → (terms j).c ≡ (terms p).c → (terms j).factor ≡ (terms p).factor → (terms j).d ≡ (terms p).d → ⊥) → (get_or rows p no_row).like ≡ p
  own_first p l none =
      let r = rowed p l in
      let under = r.like.before in
      let over : p ≤ (get_or rows p no_row).like = elim (over-or_less p (get_or rows p no_row).like) [
        | inl h ↦ h
        | inr h ↦ absurd (none _ h r.like.same_c r.like.same_factor r.like_d)
      ] in
      omega arith

  -- so do the first places that a row names
  like_first : (k : ℕ) → k < n → (get_or rows (get_or rows k no_row).like no_row).like ≡ (get_or rows k no_row).like
  like_first k l =
      let r = rowed k l in
      let b = r.like.before in
      own_first _ (omega arith) (λ j h c f d. r.like_first j h (c ∙ r.like.same_c) (f ∙ r.like.same_factor) (d ∙ r.like_d))

  same_first : (k : ℕ) → k < n → (get_or rows (get_or rows k no_row).same no_row).like ≡ (get_or rows k no_row).same
  same_first k l =
      let r = rowed k l in
      let b = r.same.before in
      own_first _ (omega arith) (λ j h c f _. r.same_first j h (c ∙ r.same.same_c) (f ∙ r.same.same_factor))

  -- what earlier places kept
  module _ (gs es ws factors : List Bracket) (i : ℕ) (inside : i < n) (kept : KeptTo (suc v) rows deltas gs es ws factors i) where
    abbrev row : Row
    row = get_or rows i no_row

    abbrev P : Bracket
    P = get_or deltas row.term.c nothing

    -- at an earlier place that is its own first, with this term's c
    earlier : (j : ℕ) → j < i → (get_or rows j no_row).like ≡ j → (terms j).c ≡ (terms i).c → kept_at gs es ws factors j ≡ kept_of (suc v) (terms j) (power (suc v) δ (terms i).c)
    earlier j l first c =
        ap (kept_at gs es ws factors) (sym first) ∙ kept j l ∙ is_kept j (omega arith) ∙ ap (λ (m : ℕ). kept_of (suc v) (terms j) (power (suc v) δ m)) c

    own : kept_of (suc v) (terms i) (power (suc v) δ (terms i).c) ≡ kept_of (suc v) row.term P
    own = sym (is_kept i inside)

    term : terms i ≡ row.term
    term = sym (rowed i inside).is_term

    power-here : power (suc v) δ (terms i).c ≡ P
    power-here = sym (by-c i inside) ∙ ap (λ (t : Term). get_or deltas t.c nothing) term

    pub row_keepable : Bounds (terms i) → DeltaIn v δ → Keepable v i (get_or rows i no_row) (get_or gs (get_or rows i no_row).same nothing) (get_or es (get_or rows i no_row).same nothing) (get_or deltas (get_or rows i no_row).term.c nothing)
    row_keepable b p =
        let r = rowed i inside in
        let before : row.same < i → kept_at gs es ws factors row.same ≡ kept_of (suc v) (terms row.same) (power (suc v) δ (terms i).c) = λ l. earlier row.same l (same_first i inside) r.same.same_c in
        record {
          bounds = subst Bounds term b;
          power_held = rw (← power-here) (delta-power_held δ p (terms i).c (let m = b.c_most in omega arith));
          g_in = rw (← power-here, ← term) (term-g_in δ p (terms i) b);
          same_g = λ l. ap (λ (k : Kept). k.g) (before l) ∙ kept-g (suc v) (terms row.same) (terms i) (power (suc v) δ (terms i).c) r.same.same_c r.same.same_factor ∙ rw (← power-here, ← term);
          same_e = λ l. ap (λ (k : Kept). k.e) (before l) ∙ kept-e (suc v) (terms row.same) (terms i) (power (suc v) δ (terms i).c) r.same.same_c r.same.same_factor ∙ rw (← power-here, ← term);
        }

    -- one row more that finds what it shares
    pub kept-found : ((get_or rows i no_row).like ≡ i → ⊥) → KeptTo (suc v) rows deltas gs es ws factors (i + 1)
    kept-found other k l =
        let r = rowed i inside in
        let b = r.like.before in
        elim (over-or_less i k) [
          | inl over ↦
              let is : i ≡ k = omega arith in
              let less : row.like < i = omega (arith, other) in
              subst (λ (m : ℕ). kept_at gs es ws factors (get_or rows m no_row).like ≡ kept_row (suc v) rows deltas m) is
              (earlier row.like less (like_first i inside) r.like.same_c ∙ kept-alike (suc v) _ _ _ r.like.same_c r.like.same_factor r.like_d ∙ own)
          | inr less ↦ kept k less
        ]

    -- one row more that is the first
    pub kept_new : (x : Kept) → x ≡ kept_of (suc v) (get_or rows i no_row).term (get_or deltas (get_or rows i no_row).term.c nothing) → (get_or rows i no_row).like ≡ i
        → (i < length gs) × (i < length es) × (i < length ws) × (i < length factors)
        → KeptTo (suc v) rows deltas (set gs i x.g) (set es i x.e) (set ws i x.w) (set factors i x.s2) (i + 1)
    kept_new x e first h k l =
        elim (over-or_less i k) [
          | inl over ↦
              let is : i ≡ k = omega arith in
              subst (λ (m : ℕ). kept_at (set gs i x.g) (set es i x.e) (set ws i x.w) (set factors i x.s2) (get_or rows m no_row).like ≡ kept_row (suc v) rows deltas m) is
              (ap (kept_at (set gs i x.g) (set es i x.e) (set ws i x.w) (set factors i x.s2)) first
              ∙ (λ t.
              record {
                g = get_or-set_same gs i x.g nothing h.0 t;
                e = get_or-set_same es i x.e nothing h.1 t;
                w = get_or-set_same ws i x.w nothing h.2 t;
                s2 = get_or-set_same factors i x.s2 nothing h.3 t;
              })
              ∙ e)
          | inr less ↦
              let b = (rowed k (omega arith)).like.before in
              let q = (get_or rows k no_row).like in
              let apart : q ≡ i → ⊥ = λ z. omega arith in
              (λ t.
              record {
                g = get_or-set_other gs i q x.g nothing apart t;
                e = get_or-set_other es i q x.e nothing apart t;
                w = get_or-set_other ws i q x.w nothing apart t;
                s2 = get_or-set_other factors i q x.s2 nothing apart t;
              })
              ∙ kept k less
        ]

  pub row_addable : (i : ℕ) → i < n → Bounds (terms i) → DeltaIn v δ → TauIn v τ
      → Addable v (get_or rows i no_row).coefficient (get_or deltas (get_or rows i no_row).term.d nothing) (get_or rows i no_row).tau (kept_row (suc v) rows deltas i).e (kept_row (suc v) rows deltas i).w (kept_row (suc v) rows deltas i).s2
  row_addable i inside b p q =
      let r = rowed i inside in
      rw (r.is_coefficient, is_delta i inside, r.is_tau, is_kept i inside) (term-addable (terms i) δ τ b p q)
