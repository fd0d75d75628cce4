-- A front written into a lent buffer, and a front delivered only where the buffer has room for it. Assumes nothing.
use Rattle.std.specs.Prelude.{ℕ, ◌≤◌, ◌<◌, ◌≡◌, Bool, true, false, List, ◌++◌, length, drop}

-- the buffer has room for the front, begins with it now, and is behind it as it was
pub record Front (before front after : List ℕ) : Type 0 where
  pub room : length front ≤ length before
  pub bytes : after ≡ front ++ drop (length front) before

-- what was answered: the front is there, or it is longer than the buffer and no byte has changed
pub record Delivered (before front after : List ℕ) (answer : Bool) : Type 0 where
  pub yes : answer ≡ true → Front before front after
  pub no : answer ≡ false → (length before < length front) × (after ≡ before)
