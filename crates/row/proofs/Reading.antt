-- The reader of one row: the guess, spelled and held against the text, decides whether a row stands there. Assumes nothing.
use Prim.Native.Nat.{ℕ, ◌+◌, ◌≤◌}
use native.Mathlib.Nat.{zero-add}
use native.Mathlib.Omega.{arith}
use mathlib.Core.Path.{◌≡◌, refl, sym, ap, ◌∙◌}
use mathlib.Core.Bool.{true, false, false≢true}
use mathlib.Core.List.{List, ◌++◌}
use borrow.Author.Tests.{ltb-true, leb-true, lt-ltb, le-leb}
use lib.ListN.{length, drop, take, replicate, length-replicate}
use lib.Seq.{sets-eq, length-sets, take-append_seam}
use Rattle.lent.specs.Put.{Put}
use Rattle.term.proofs.Rules.{both}
use Rattle.row.specs.declared.Row.{Row}
use Rattle.std.specs.Prelude.{Some, None}
use Rattle.row.specs.Row.{Good, good_row, row_text}
use Rattle.row.specs.Standing.{Reads, Stands}
use Rattle.row.specs.Guess.{guess_of}
use Rattle.row.proofs.Back.{guess_only}

pub test_good : (row : Row) → good_row row ≡ true → Good row
unfolding good_row
test_good row h =
    let p7 = both _ _ h in
    let p6 = both _ _ p7.0 in
    let p5 = both _ _ p6.0 in
    let p4 = both _ _ p5.0 in
    let p3 = both _ _ p4.0 in
    let p2 = both _ _ p3.0 in
    record {
      c_below = ltb-true _ _ p2.0;
      d_above = ltb-true _ _ p2.1;
      d_below = ltb-true _ _ p3.1;
      t_most = leb-true _ _ p4.1;
      ten_above = leb-true _ _ p5.1;
      ten_below = ltb-true _ _ p6.1;
      power_most = leb-true _ _ p7.1;
    }

pub good_test : (row : Row) → Good row → good_row row ≡ true
unfolding good_row
good_test row g =
    rw (
      lt-ltb _ _ g.c_below,
      lt-ltb _ _ g.d_above,
      lt-ltb _ _ g.d_below,
      le-leb _ _ g.t_most,
      le-leb _ _ g.ten_above,
      lt-ltb _ _ g.ten_below,
      le-leb _ _ g.power_most,
    )

-- a text put at the front of a line
pub put_front-length : {text bytes : List ℕ} {len : ℕ} → Put (replicate 32 0) 0 text bytes len → length bytes ≡ 32
put_front-length {text} p = ap length p.bytes ∙ length-sets (replicate 32 0) 0 text ∙ length-replicate {A = ℕ} 32 0

pub put_front-take : {text bytes : List ℕ} {len : ℕ} → Put (replicate 32 0) 0 text bytes len → len ≤ 32 → (take len bytes ≡ text) × (len ≡ length text)
put_front-take {text} {bytes} {len} p h =
    let n : len ≡ length text = p.reached ∙ zero-add (length text) in
    let e : bytes ≡ text ++ drop (0 + length text) (replicate 32 0) = p.bytes ∙ sets-eq text (replicate 32 0) 0 (omega (arith, length-replicate {A = ℕ} 32 0)) in
    (rw (n, e) (take-append_seam text (drop (0 + length text) (replicate 32 0))), n)

module _ (s : List ℕ) (at : ℕ) (row : Row) where
  pub read_yes : {bytes : List ℕ} {len : ℕ} → Good row → Put (replicate 32 0) 0 (row_text row) bytes len → len ≤ 32
      → Stands s at (take len bytes) true → Reads s at (Some (row, at + len))
  read_yes {bytes} {len} g p h st =
      let t = put_front-take p h in
      let y = rw t.0 at st in
      let z = y.yes refl in
      record {
        good = g;
        here = z.0 ∙ ap (λ n. row_text row ++ drop (at + n) s) (sym t.1);
        reached = ap (λ n. at + n) t.1;
        within = omega (arith, t.1, z.1);
      }

  pub read_no : {bytes : List ℕ} {len : ℕ} → row ≡ guess_of (drop at s) → Put (replicate 32 0) 0 (row_text row) bytes len → len ≤ 32
      → Stands s at (take len bytes) false → Reads s at None
  read_no {bytes} {len} e p h st r rest g here =
      let same : r ≡ row = sym (guess_only (drop at s) r rest g here) ∙ sym e in
      let y = rw (put_front-take p h).0 at st in
      y.no refl rest (here ∙ ap (λ x. row_text x ++ rest) same)

  pub read_none : row ≡ guess_of (drop at s) → good_row row ≡ false → Reads s at None
  read_none e bad r rest g here =
      let same : r ≡ row = sym (guess_only (drop at s) r rest g here) ∙ sym e in
      false≢true (sym bad ∙ ap good_row (sym same) ∙ good_test r g)
