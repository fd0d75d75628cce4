-- `quick::pass::sums_of` meets its contract. Assumes nothing.
use mathlib.Core.Path.{◌≡◌, refl, sym, ap, ap₂, subst, ◌∙◌}
use mathlib.Core.Bool.{true}
use mathlib.Core.List.{List}
use Prim.Native.Nat.{ℕ, suc, ◌+◌, ◌≤◌, ◌<◌}
use native.Mathlib.Nat.{le_refl}
use native.Mathlib.Omega.{arith}
use lib.Dec.{T}
use lib.Ieee.{Float}
use lib.ListN.{set, get_or, length-set}
use Rattle.kind.specs.Kind.{widest}
use Rattle.sheet.specs.Range.{Width}
use Rattle.doubles.specs.Double.{exact_of}
use Rattle.doubles.specs.Range.{accepted_temperature, accepted_density}
use Rattle.term.specs.declared.Term.{Term}
use Rattle.term.specs.Bounds.{Bounds}
use Rattle.term.specs.Packed.{term_at, count_terms}
use Rattle.term.specs.Sound.{sound_table}
use Rattle.term.proofs.Answers.{sound-few, sound-bounds}
use Rattle.bracket.specs.declared.Bracket.{Bracket}
use Rattle.bracket.specs.Rules.{power}
use Rattle.equation.specs.declared.Sums.{Sums}
use Rattle.equation.specs.Ranged.{DeltaIn, TauIn, AllHeld}
use Rattle.equation.specs.Rules.{delta, tau, plus_each, sums_first, sums}
use Rattle.equation.proofs.Cases.{sums-is}
use Rattle.equation.proofs.Holds.{delta-in, tau-in, delta-powers}
use Rattle.equation.proofs.HoldsSums.{first_held}
use Rattle.equation.proofs.Taken.{temperature_of, density-of}
use Rattle.quick.specs.declared.kept.Kept.{Kept}
use Rattle.quick.specs.declared.ready.Ready.{Ready}
use Rattle.quick.specs.declared.ready.Row.{Row}
use Rattle.quick.specs.Powers.{nothing, PowersTo}
use Rattle.quick.specs.Ready.{no_row, ReadyFor}
use Rattle.quick.specs.Kept.{kept_of, addends_by, Keepable, Addable}
use Rattle.quick.proofs.Passed.{kept_row, KeptTo, sums_rows, rows_none, rows_more, rows_sums, row_keepable, row_addable, kept-found, kept_new}
use Rattle.quick.proofs.pass.sums_of.Goals.{then-like-i, else-like-i}
use Rattle.quick.proofs.pass.sums_of.Invariants.{Full}
use Rattle.quick.proofs.pass.sums_of.Goals as goal

-- ---- what the calls before the loop leave

module _ {v kind : ℕ} {table : List ℕ} {ready : Ready} (rho : Float) (p : Width v × (sound_table kind table ≡ true) × ReadyFor (suc v) kind table ready)
    (q : T (accepted_temperature widest ready.t) × T (accepted_density widest rho)) {δ : Bracket} (is : δ ≡ delta (suc v) (exact_of rho)) where
  delta-is : DeltaIn v δ
  delta-is = subst (DeltaIn v) (sym is) (delta-in p.0 (density-of rho q.1))

  module _ (deltas : List Bracket) (powers : PowersTo (suc v) δ ready.far deltas) where
    abbrev τ : Bracket
    τ = tau (suc v) (exact_of ready.t)

    abbrev terms : ℕ → Term
    terms = term_at kind table

    abbrev size : ℕ
    size = count_terms kind table

    abbrev row : ℕ → Row
    row i = get_or ready.rows i no_row

    by-c : (k : ℕ) → k < size → get_or deltas (terms k).c nothing ≡ power (suc v) δ (terms k).c
    by-c k l = let r = p.2.c_reached k l in powers _ (omega arith)

    by-d : (k : ℕ) → k < size → get_or deltas (terms k).d nothing ≡ power (suc v) δ (terms k).d
    by-d k l = let r = p.2.d_reached k l in powers _ (omega arith)

    tau-is : TauIn v τ
    tau-is = tau-in p.0 (temperature_of ready.t q.0)

    -- the sums so far are held, and those over all rows are the rule's
    sums-held : (i : ℕ) → i ≤ size → {s : Sums} → s ≡ sums_rows (suc v) ready.rows deltas i → AllHeld v s
    sums-held i l e =
        subst (AllHeld v) (sym (e ∙ rows_sums terms δ τ ready.rows deltas size p.2.rows by-c by-d i l))
        (first_held kind table p.1 δ τ delta-is tau-is i l)

    sums-all : sums_rows (suc v) ready.rows deltas size ≡ sums (suc v) kind table (exact_of ready.t) (exact_of rho)
    sums-all =
        rows_sums terms δ τ ready.rows deltas size p.2.rows by-c by-d size (le_refl _)
        ∙ ap (λ (x : Bracket). sums_first (suc v) terms x τ size) is
        ∙ sums-is (suc v) kind table (exact_of ready.t) (exact_of rho)

    -- at a row, by what the rows before it share
    module _ {i : ℕ} (inside : i < size) where
      bounds : Bounds (terms i)
      bounds = sound-bounds kind table p.1 i inside

      addable : Addable v (row i).coefficient (get_or deltas (row i).term.d nothing) (row i).tau (kept_row (suc v) ready.rows deltas i).e (kept_row (suc v) ready.rows deltas i).w (kept_row (suc v) ready.rows deltas i).s2
      addable = row_addable terms δ τ ready.rows deltas size p.2.rows by-c by-d i inside bounds delta-is tau-is

      module _ (gs es ws factors : List Bracket) (kept : KeptTo (suc v) ready.rows deltas gs es ws factors i) where
        keepable : Keepable v i (row i) (get_or gs (row i).same nothing) (get_or es (row i).same nothing) (get_or deltas (row i).term.c nothing)
        keepable = row_keepable terms δ τ ready.rows deltas size p.2.rows by-c by-d gs es ws factors i inside kept bounds delta-is

        found-more : ((row i).like ≡ i → ⊥) → KeptTo (suc v) ready.rows deltas gs es ws factors (i + 1)
        found-more = kept-found terms δ τ ready.rows deltas size p.2.rows by-c by-d gs es ws factors i inside kept

        kept-more : Full gs es ws factors → (x : Kept) → x ≡ kept_of (suc v) (row i).term (get_or deltas (row i).term.c nothing) → (row i).like ≡ i
            → KeptTo (suc v) ready.rows deltas (set gs i x.g) (set es i x.e) (set ws i x.w) (set factors i x.s2) (i + 1)
        kept-more f x e first =
            let m = sound-few kind table p.1 in
            kept_new terms δ τ ready.rows deltas size p.2.rows by-c by-d gs es ws factors i inside kept x e first (omega (arith, f.0), omega (arith, f.1), omega (arith, f.2), omega (arith, f.3))

-- ---- the answers

pub delta-requires : goal.delta-requires
delta-requires c = (c.requires.width, c.requires.accepted.1)

pub no_sums-s-requires : goal.no_sums-s-requires
no_sums-s-requires c = c.requires.width

pub powers-deltas-requires : goal.powers-deltas-requires
powers-deltas-requires c =
    let far = c.requires.ready_for.far_most in
    (delta-powers _ (delta-is c.args.rho (c.requires.width, c.args.table.sound, c.requires.ready_for) c.requires.accepted c.delta.ensures) _ far, omega (arith, far))

pub loop-i-init : goal.loop-i-init
loop-i-init c = ((refl, refl, refl, refl), λ k l. absurd (omega arith), c.no_sums-s.ensures ∙ rows_none _ _ _)

pub offset_bounds-rows-i : goal.offset_bounds-rows-i
offset_bounds-rows-i c = let few = sound-few _ _ c.args.table.sound in record { fits = omega arith }

pub bounds-rows-i : goal.bounds-rows-i
bounds-rows-i c = let few = sound-few _ _ c.args.table.sound in omega arith

pub kept_for-kept-requires : goal.kept_for-kept-requires
kept_for-kept-requires c =
    let l = c.loop-i in
    keepable c.args.rho (c.requires.width, c.args.table.sound, c.requires.ready_for) c.requires.accepted c.delta.ensures _ c.powers-deltas.ensures (omega (arith, c.count-i-end.ensures)) l.gs l.es l.ws l.factors l.invariant.1

pub add_row-s-requires : goal.add_row-s-requires
add_row-s-requires c =
    let a = c.args in
    let l = c.loop-i in
    let x = c.if-like-i in
    let inside : l.i < count_terms a.table.kind a.table.bytes.now = omega (arith, c.count-i-end.ensures) in
    let kept : KeptTo (suc a.v) a.ready.rows c.powers-deltas.result x.gs x.es x.ws x.factors (l.i + 1) =
    elim x.branch [
      | then-like-i w ↦
          rw (w.gs-is, w.es-is, w.ws-is, w.factors-is)
          (kept-more a.rho (c.requires.width, c.args.table.sound, c.requires.ready_for) c.requires.accepted c.delta.ensures _ c.powers-deltas.ensures inside l.gs l.es l.ws l.factors l.invariant.1 l.invariant.0 w.kept_for-kept.result w.kept_for-kept.ensures w.if-like-i.true)
      | else-like-i w ↦
          rw (w.gs-is, w.es-is, w.ws-is, w.factors-is)
          (found-more a.rho (c.requires.width, c.args.table.sound, c.requires.ready_for) c.requires.accepted c.delta.ensures _ c.powers-deltas.ensures inside l.gs l.es l.ws l.factors l.invariant.1 w.if-like-i.false)
    ] in
    let row = get_or a.ready.rows l.i no_row in (
      subst (λ (k : Kept). Addable a.v row.coefficient (get_or c.powers-deltas.result row.term.d nothing) row.tau k.e k.w k.s2) (sym (kept l.i (omega arith)))
          (addable a.rho (c.requires.width, c.args.table.sound, c.requires.ready_for) c.requires.accepted c.delta.ensures _ c.powers-deltas.ensures inside),
      sums-held a.rho (c.requires.width, c.args.table.sound, c.requires.ready_for) c.requires.accepted c.delta.ensures _ c.powers-deltas.ensures l.i (omega (arith, inside)) l.invariant.2,
    )

pub loop-i-preserved : goal.loop-i-preserved
loop-i-preserved c =
    let a = c.args in
    let l = c.loop-i in
    let x = c.if-like-i in
    let inside : l.i < count_terms a.table.kind a.table.bytes.now = omega (arith, c.count-i-end.ensures) in
    let kept : Full x.gs x.es x.ws x.factors × KeptTo (suc a.v) a.ready.rows c.powers-deltas.result x.gs x.es x.ws x.factors (l.i + 1) =
    elim x.branch [
      | then-like-i w ↦
          let f = l.invariant.0 in
          rw (w.gs-is, w.es-is, w.ws-is, w.factors-is) (
            (length-set l.gs l.i _ ∙ f.0, length-set l.es l.i _ ∙ f.1, length-set l.ws l.i _ ∙ f.2, length-set l.factors l.i _ ∙ f.3),
            kept-more a.rho (c.requires.width, c.args.table.sound, c.requires.ready_for) c.requires.accepted c.delta.ensures _ c.powers-deltas.ensures inside l.gs l.es l.ws l.factors l.invariant.1 f w.kept_for-kept.result w.kept_for-kept.ensures w.if-like-i.true,
          )
      | else-like-i w ↦
          rw (w.gs-is, w.es-is, w.ws-is, w.factors-is) (
            l.invariant.0,
            found-more a.rho (c.requires.width, c.args.table.sound, c.requires.ready_for) c.requires.accepted c.delta.ensures _ c.powers-deltas.ensures inside l.gs l.es l.ws l.factors l.invariant.1 w.if-like-i.false,
          )
    ] in
    let row = get_or a.ready.rows l.i no_row in (
      kept.0,
      kept.1,
      c.add_row-s.ensures
          ∙ ap₂ (λ (x : Sums) (k : Kept). plus_each (suc a.v) x (addends_by (suc a.v) row.coefficient (get_or c.powers-deltas.result row.term.d nothing) row.tau k.e k.w k.s2)) l.invariant.2 (kept.1 l.i (omega arith))
          ∙ rows_more (suc a.v) a.ready.rows c.powers-deltas.result l.i,
    )

pub returns : goal.returns
returns c =
    let a = c.args in
    let all : c.loop-i.i ≡ count_terms a.table.kind a.table.bytes.now = omega arith in
    c.loop-i.invariant.2
    ∙ ap (sums_rows (suc a.v) a.ready.rows c.powers-deltas.result) all
    ∙ sums-all a.rho (c.requires.width, c.args.table.sound, c.requires.ready_for) c.requires.accepted c.delta.ensures _ c.powers-deltas.ensures
