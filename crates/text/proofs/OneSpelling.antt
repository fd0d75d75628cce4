-- A table is spelled by at most one list of rows, or has at most one first term without a spelling, and not both. Assumes nothing.
use Prim.Native.Nat.{ℕ, zero, suc, ◌+◌, ◌<◌}
use native.Mathlib.Nat.{add-zero}
use native.Mathlib.Omega.{arith}
use mathlib.Core.Path.{◌≡◌, refl, sym, ap, ap₂, ◌∙◌}
use mathlib.Core.Bool.{Bool, true, false}
use mathlib.Core.List.{List, [], ◌∷◌}
use borrow.Author.Tests.{ltb-true, ltb-false}
use lib.Dec.{ltb}
use Rattle.term.specs.Packed.{term_at, terms_from}
use Rattle.row.specs.declared.Row.{Row}
use Rattle.row.specs.Row.{Good, term_of}
use Rattle.row.proofs.Saying.{term-one}
use Rattle.text.specs.Table.{AllGood, terms_of}
use Rattle.text.specs.Writes.{Spelling, FirstUnspelled}

pub terms-one : (xs ys : List Row) → AllGood xs → AllGood ys → terms_of xs ≡ terms_of ys → xs ≡ ys
unfolding terms_of
terms-one [] [] gx gy e = refl
terms-one [] (y ∷ ys) gx gy e = let z : ◌≡◌ {A = ℕ} 0 1 = cc in absurd (omega arith)
terms-one (x ∷ xs) [] gx gy e = let z : ◌≡◌ {A = ℕ} 0 1 = cc in absurd (omega arith)
terms-one (x ∷ xs) (y ∷ ys) gx gy e =
    let h : term_of x ≡ term_of y = cc in
    let r : terms_of xs ≡ terms_of ys = cc in
    ap₂ (λ a b. a ∷ b) (term-one x y gx.0 gy.0 h) (terms-one xs ys gx.1 gy.1 r)

pub spelling_one : {table : List ℕ} {n : ℕ} {xs ys : List Row} → Spelling table n xs → Spelling table n ys → xs ≡ ys
spelling_one {table} {n} {xs} {ys} p q = terms-one xs ys p.good q.good (p.said ∙ sym q.said)

-- each term of a table that rows say has a row
spelled_at : (table : List ℕ) (rows : List Row) (s n k : ℕ) → AllGood rows → terms_of rows ≡ terms_from 38 table s n → k < n → (row : Row) × Good row × (term_of row ≡ term_at 38 table (s + k))
unfolding terms_of terms_from
spelled_at table rows s zero k g e l = absurd (omega arith)
spelled_at table [] s (suc n) k g e l = let z : ◌≡◌ {A = ℕ} 0 1 = cc in absurd (omega arith)
spelled_at table (r ∷ rows) s (suc n) zero g e l =
    let h : term_of r ≡ term_at 38 table s = cc in
    (r, g.0, h ∙ ap (term_at 38 table) (sym (add-zero s)))
spelled_at table (r ∷ rows) s (suc n) (suc k) g e l =
    let t : terms_of rows ≡ terms_from 38 table (s + 1) n = cc in
    let w = spelled_at table rows (s + 1) n k g.1 t (omega arith) in
    (w.0, w.1, w.2 ∙ ap (term_at 38 table) (omega arith))

pub spelling_not_unspelled : {table : List ℕ} {n place : ℕ} {rows : List Row} (p : Spelling table n rows) (q : FirstUnspelled table place) → q.k < n → ⊥
spelling_not_unspelled {table} {n} {place} {rows} p q l =
    let w = spelled_at table rows 0 n q.k p.good p.said l in
    q.here w.0 w.1 (w.2 ∙ ap (term_at 38 table) (omega arith))

pub unspelled_one : {table : List ℕ} {m n : ℕ} → FirstUnspelled table m → FirstUnspelled table n → m ≡ n
unspelled_one {table} {m} {n} p q = by (ltb p.k q.k) (ltb q.k p.k) refl refl
  where
    by : (a b : Bool) → ltb p.k q.k ≡ a → ltb q.k p.k ≡ b → m ≡ n
    by true b ea eb = absurd (spelling_not_unspelled q.before p (ltb-true p.k q.k ea))
    by false true ea eb = absurd (spelling_not_unspelled p.before q (ltb-true q.k p.k eb))
    by false false ea eb = omega (arith, ltb-false p.k q.k ea, ltb-false q.k p.k eb, p.counted, q.counted)
