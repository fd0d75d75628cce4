-- The keys by which terms share what is taken once. Assumes nothing.
use Rattle.std.specs.Prelude.{ℕ, ◌+◌, ◌*◌, ◌≤◌, ◌<◌, ◌≡◌, Bool, cond, List, get_or}
use Rattle.term.specs.declared.Term.{Term}
use Rattle.quick.specs.Filled.{Filled}
use Rattle.quick.specs.Unpacked.{blank}

-- c and factor settle g and the exponential; with d they settle w and what V is multiplied by in S2
unfoldable pub key_of : (weighed : Bool) → Term → ℕ
key_of weighed term = cond weighed ((term.c * 1024 + term.factor) * 32 + term.d) (term.c * 1024 + term.factor)

-- the keys of a list's first terms
abbrev pub KeysTo : Bool → List Term → ℕ → List ℕ → Type 0
KeysTo weighed list count keys = Filled 0 (λ k key. key ≡ key_of weighed (get_or list k blank)) keys count

-- r is the first place with the key of place k
pub record FirstLike (keys : List ℕ) (k r : ℕ) : Type 0 where
  pub before : r ≤ k
  pub same : get_or keys r 0 ≡ get_or keys k 0
  pub first : (j : ℕ) → j < r → get_or keys j 0 ≡ get_or keys k 0 → ⊥
