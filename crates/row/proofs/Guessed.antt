-- The fields read at their places are those guessed from the text behind the row's place. Assumes nothing.
use Prim.Native.Nat.{ℕ, ◌+◌}
use mathlib.Core.Path.{◌≡◌, sym, ap, ◌∙◌}
use mathlib.Core.Bool.{Bool}
use mathlib.Core.List.{List}
use lib.ListN.{drop}
use lib.Seq.{drop-drop}
use Rattle.row.specs.declared.Row.{Row}
use Rattle.row.specs.Guess.{small_of, past, sign_of, front_past, number_of, power_of, guess1, guess2, guess3, guess4, guess_of}

-- a place that is so many bytes behind another
step : (s : List ℕ) (a b n : ℕ) → b ≡ a + n → drop n (drop a s) ≡ drop b s
step s a b n e = drop-drop n a s ∙ ap (λ k. drop k s) (sym e)

pub guessed : (s : List ℕ) (at : ℕ) {p q r w : ℕ} {c d t ten power : ℕ} {negative : Bool}
    → p ≡ at + past (drop at s) → q ≡ p + past (drop p s) → r ≡ q + past (drop q s) → w ≡ r + front_past (drop r s)
    → c ≡ small_of (drop at s) → d ≡ small_of (drop p s) → t ≡ small_of (drop q s) → negative ≡ sign_of (drop r s)
    → ten ≡ number_of (drop w s) 10 → power ≡ power_of (drop (w + 10) s)
    → ◌≡◌ {A = Row} (record { c = c; d = d; t = t; negative = negative; ten = ten; power = power }) (guess_of (drop at s))
unfolding guess_of guess1 guess2 guess3 guess4
guessed s at {p} {q} {r} {w} e1 e2 e3 e4 hc hd ht hn hten hp =
    rw (step s at p _ e1, step s p q _ e2, step s q r _ e3, step s r w _ e4, drop-drop 10 w s, ← hc, ← hd, ← ht, ← hn, ← hten, ← hp)
