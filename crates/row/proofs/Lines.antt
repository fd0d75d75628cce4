-- A row is one line: its only line feed is its last byte. So no row stands at the front of a text exactly if the line there is no row.
-- Assumes nothing.
use Prim.Native.Nat.{ℕ, zero, suc, ◌+◌, ◌-◌, ◌/◌, ◌%◌}
use native.Mathlib.Omega.{arith}
use mathlib.Core.Path.{◌≡◌, refl, sym, ap, ◌∙◌}
use mathlib.Core.Bool.{Bool, true, false}
use mathlib.Core.List.{List, [], ◌∷◌, ◌++◌, append_assoc}
use borrow.Author.Tests.{ne_eqb}
use lib.Dec.{ltb, eqb}
use Rattle.row.specs.declared.Row.{Row}
use Rattle.row.specs.Row.{Good, small, spaced, front, digits, tail, row_text}
use Rattle.row.specs.Standing.{NoRow}
use Rattle.row.specs.Lines.{line_of, feeds}

-- no byte is a line feed
abbrev Plain : List ℕ → Type 0
Plain [] = Unit {0}
Plain (x ∷ s) = (x ≡ 10 → ⊥) × Plain s

plain_append : (s t : List ℕ) → Plain s → Plain t → Plain (s ++ t)
plain_append [] t ps pt = pt
plain_append (x ∷ s) t ps pt = (ps.0, plain_append s t ps.1 pt)

spaced-plain : (n : ℕ) → Plain (spaced n)
unfolding spaced small
spaced-plain n = by (ltb n 10) refl
  where
    by : (b : Bool) → ltb n 10 ≡ b → Plain (spaced n)
    by true e = rw e ((λ k. omega arith), ((λ k. omega arith), tt))
    by false e = rw e ((λ k. omega arith), ((λ k. omega arith), ((λ k. omega arith), tt)))

front-plain : (b : Bool) → Plain (front b)
unfolding front
front-plain true = ((λ k. omega arith), ((λ k. omega arith), ((λ k. omega arith), tt)))
front-plain false = ((λ k. omega arith), ((λ k. omega arith), tt))

digits-plain : (k n : ℕ) → Plain (digits k n)
unfolding digits
digits-plain zero n = tt
digits-plain (suc k) n = plain_append (digits k (n / 10)) ((48 + n % 10) ∷ []) (digits-plain k (n / 10)) ((λ h. omega arith), tt)

-- all of a row but its line feed
record Body (row : Row) : Type 0 where
  body : List ℕ
  plain : Plain body
  whole : row_text row ≡ body ++ (10 ∷ [])

tail-body : (power : ℕ) → (s : List ℕ) × Plain s × (tail power ≡ s ++ (10 ∷ []))
unfolding tail
tail-body power = by (ltb power 6) refl
  where
    by : (b : Bool) → ltb power 6 ≡ b → (s : List ℕ) × Plain s × (tail power ≡ s ++ (10 ∷ []))
    by true e = (101 ∷ 45 ∷ (48 + (6 - power)) ∷ [], ((λ k. omega arith), ((λ k. omega arith), ((λ k. omega arith), tt))), rw e)
    by false e = (101 ∷ (48 + (power - 6)) ∷ [], ((λ k. omega arith), ((λ k. omega arith), tt)), rw e)

row_body : (row : Row) → Body row
unfolding row_text
row_body row =
    let t = tail-body row.power in
    let d = digits 10 row.ten in
    record {
      body = spaced row.c ++ (spaced row.d ++ (spaced row.t ++ (front row.negative ++ (d ++ t.0))));
      plain =
          plain_append (spaced row.c) _ (spaced-plain row.c)
          (plain_append (spaced row.d) _ (spaced-plain row.d)
          (plain_append (spaced row.t) _ (spaced-plain row.t)
          (plain_append (front row.negative) _ (front-plain row.negative) (plain_append d t.0 (digits-plain 10 row.ten) t.1))));
      whole = rw t.2 (simp append_assoc);
    }

line_plain : (s rest : List ℕ) → Plain s → line_of (s ++ (10 ∷ rest)) ≡ s ++ (10 ∷ [])
unfolding line_of
line_plain [] rest p = refl
line_plain (x ∷ s) rest p = rw (ne_eqb x 10 p.0) (ap (λ l. x ∷ l) (line_plain s rest p.1))

feeds-plain : (s rest : List ℕ) → Plain s → feeds (s ++ rest) ≡ feeds rest
unfolding feeds
feeds-plain [] rest p = refl
feeds-plain (x ∷ s) rest p = rw (ne_eqb x 10 p.0) (omega (arith, feeds-plain s rest p.1))

-- the line at the front of a text that begins with a row is that row
pub row_line : (row : Row) (rest : List ℕ) → line_of (row_text row ++ rest) ≡ row_text row
row_line row rest =
    let b = row_body row in
    ap (λ x. line_of (x ++ rest)) b.whole ∙ ap line_of (append_assoc b.body (10 ∷ []) rest) ∙ line_plain b.body rest b.plain ∙ sym b.whole

pub row_feeds : (row : Row) (rest : List ℕ) → feeds (row_text row ++ rest) ≡ 1 + feeds rest
unfolding feeds
row_feeds row rest =
    let b = row_body row in
    ap (λ x. feeds (x ++ rest)) b.whole ∙ ap feeds (append_assoc b.body (10 ∷ []) rest) ∙ feeds-plain b.body (10 ∷ rest) b.plain

line_front : (s : List ℕ) → (rest : List ℕ) × (s ≡ line_of s ++ rest)
unfolding line_of
line_front [] = ([], refl)
line_front (x ∷ s) = by (eqb x 10) refl (line_front s)
  where
    by : (b : Bool) → eqb x 10 ≡ b → (rest : List ℕ) × (s ≡ line_of s ++ rest) → (rest : List ℕ) × (x ∷ s ≡ line_of (x ∷ s) ++ rest)
    by true e w = (s, rw e)
    by false e w = (w.0, rw e (ap (λ l. x ∷ l) w.1))

-- no row stands at the front exactly if the line there is no row
pub no_row-line : (s : List ℕ) → NoRow s → (row : Row) → Good row → line_of s ≡ row_text row → ⊥
no_row-line s h row g e =
    let w = line_front s in
    h row w.0 g (w.1 ∙ ap (λ l. l ++ w.0) e)

pub line_no_row : (s : List ℕ) → ((row : Row) → Good row → line_of s ≡ row_text row → ⊥) → NoRow s
line_no_row s h row rest g e = h row g (ap line_of e ∙ row_line row rest)
