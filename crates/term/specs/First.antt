-- What it is to be the first broken term of a table. Assumes nothing.
use Rattle.std.specs.Prelude.{ℕ, ◌<◌, ◌≡◌, List, true, false}
use Rattle.term.specs.Packed.{count_terms}
use Rattle.term.specs.Sound.{sound_at}

-- the first n terms keep the rules
abbrev pub SoundBelow : ℕ → List ℕ → ℕ → Type 0
SoundBelow kind table n = (k : ℕ) → k < n → sound_at kind table k ≡ true

-- the k-th term, k counted from 0, breaks a rule, and none before it does
pub record First (kind : ℕ) (table : List ℕ) (k : ℕ) : Type 0 where
  pub within : k < count_terms kind table
  pub broken : sound_at kind table k ≡ false
  pub passed : SoundBelow kind table k
