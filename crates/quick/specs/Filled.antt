-- The front of a list, place by place: what is known of its first n places. Assumes nothing.
use Rattle.std.specs.Prelude.{ℕ, ◌<◌, List, get_or}

abbrev pub Filled : {A : Type 0} → A → (ℕ → A → Type 0) → List A → ℕ → Type 0
Filled other P list n = (k : ℕ) → k < n → P k (get_or list k other)
