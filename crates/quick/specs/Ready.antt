-- What a table gives at one temperature, row by row. Assumes nothing.
use Rattle.std.specs.Prelude.{ℕ, ◌≤◌, ◌<◌, ◌≡◌, List, get_or}
use Rattle.doubles.specs.Double.{exact_of}
use Rattle.term.specs.declared.Term.{Term}
use Rattle.term.specs.Packed.{term_at, count_terms}
use Rattle.bracket.specs.declared.Bracket.{Bracket}
use Rattle.bracket.specs.Rules.{power}
use Rattle.equation.specs.Rules.{tau, coefficient}
use Rattle.quick.specs.declared.ready.Row.{Row}
use Rattle.quick.specs.declared.ready.Reach.{Reach}
use Rattle.quick.specs.declared.ready.Ready.{Ready}
use Rattle.quick.specs.Filled.{Filled}
use Rattle.quick.specs.Powers.{nothing}
use Rattle.quick.specs.Unpacked.{blank}

-- no power of a list's first terms is higher
pub record Reaches (list : List Term) (count : ℕ) (reach : Reach) : Type 0 where
  pub t_reached : (k : ℕ) → k < count → (get_or list k blank).t ≤ reach.t
  pub d_reached : (k : ℕ) → k < count → (get_or list k blank).d ≤ reach.d
  pub c_reached : (k : ℕ) → k < count → (get_or list k blank).c ≤ reach.d
  pub t_most : reach.t ≤ 63
  pub d_most : reach.d ≤ 31

-- the reach with one term more: the least that holds both
pub record Farther (old : Reach) (term : Term) (new : Reach) : Type 0 where
  pub t_old : old.t ≤ new.t
  pub t_new : term.t ≤ new.t
  pub t_least : (n : ℕ) → old.t ≤ n → term.t ≤ n → new.t ≤ n
  pub d_old : old.d ≤ new.d
  pub d_new : term.d ≤ new.d
  pub c_new : term.c ≤ new.d
  pub d_least : (n : ℕ) → old.d ≤ n → term.d ≤ n → term.c ≤ n → new.d ≤ n

-- an earlier term, or the same, with this c and factor
pub record SameBefore (terms : ℕ → Term) (k place : ℕ) : Type 0 where
  pub before : place ≤ k
  pub same_c : (terms place).c ≡ (terms k).c
  pub same_factor : (terms place).factor ≡ (terms k).factor

-- the k-th row of some terms, by the powers of tau
pub record RowFor (w : ℕ) (terms : ℕ → Term) (taus : ℕ → Bracket) (k : ℕ) (row : Row) : Type 0 where
  pub is_term : row.term ≡ terms k
  pub is_coefficient : row.coefficient ≡ coefficient w (terms k)
  pub is_tau : row.tau ≡ taus (terms k).t
  pub same : SameBefore terms k row.same
  pub same_first : (j : ℕ) → j < row.same → (terms j).c ≡ (terms k).c → (terms j).factor ≡ (terms k).factor → ⊥
  pub like : SameBefore terms k row.like
  pub like_d : (terms row.like).d ≡ (terms k).d
  pub like_first : (j : ℕ) → j < row.like → (terms j).c ≡ (terms k).c → (terms j).factor ≡ (terms k).factor → (terms j).d ≡ (terms k).d → ⊥

-- a row where a list has none
abbrev pub no_row : Row
no_row = record { term = blank; coefficient = nothing; tau = nothing; same = 0; like = 0 }

abbrev pub RowsTo : ℕ → (ℕ → Term) → (ℕ → Bracket) → List Row → ℕ → Type 0
RowsTo w terms taus rows n = Filled no_row (RowFor w terms taus) rows n

-- the rows of a table at a temperature, and how far the powers of delta go
pub record ReadyFor (w kind : ℕ) (table : List ℕ) (ready : Ready) : Type 0 where
  pub rows : RowsTo w (term_at kind table) (power w (tau w (exact_of ready.t))) ready.rows (count_terms kind table)
  pub d_reached : (k : ℕ) → k < count_terms kind table → (term_at kind table k).d ≤ ready.far
  pub c_reached : (k : ℕ) → k < count_terms kind table → (term_at kind table k).c ≤ ready.far
  pub far_most : ready.far ≤ 31
