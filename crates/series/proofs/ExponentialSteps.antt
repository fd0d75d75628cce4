-- The exponential's rule step by step, as the code counts, and what the code's operations are given. Assumes nothing.
use mathlib.Core.Path.{◌≡◌, refl, sym, ap, ap₂, ◌∙◌, subst}
use mathlib.Core.Logic.{⊎_elim}
use mathlib.Core.Bool.{Bool, true, false}
use Prim.Native.Nat.{ℕ, suc, ◌+◌, ◌-◌, ◌≤◌, ◌<◌}
use native.Mathlib.Numerals.{add-one}
use native.Mathlib.Omega.{arith}
use lib.Dec.{lit≤}
use Rattle.exact.specs.Fraction.{nat, leq, ◌≼◌, ◌≺◌, ◌≈◌}
use Rattle.exact.proofs.Fraction.Order.{leq-true, ≼_trans, ≺-≼-trans, ≈-sym, ≈-≼-trans, ≼-≈-trans}
use Rattle.sheet.specs.declared.Sheet.{Sheet}
use Rattle.sheet.specs.Number.{bias, value}
use Rattle.sheet.specs.Round.{round}
use Rattle.sheet.proofs.Gaps.{zero_or_pos}
use Rattle.sheet.specs.Range.{Width}
use Rattle.sheet.proofs.Live.{range_spelled, few-digits}
use Rattle.sheet.proofs.Operations.{digits-pos, nonneg-plain}
use Rattle.sheet.proofs.Laws.{round_whole}
use Rattle.bracket.specs.declared.Bracket.{Bracket}
use Rattle.bracket.specs.Span.{Span, Ordered, Each, whole}
use Rattle.bracket.specs.Held.{Held}
use Rattle.bracket.specs.Rules.{ends, given, plus, times, divided, addlast, stretched}
use Rattle.bracket.proofs.Operands.{whole_divided}
use Rattle.measure.proofs.Sizes.{Positive}
use Rattle.series.specs.Exponential.{exp_term, exp_sum, exp_total, expneg}
use Rattle.series.specs.Terms.{Terms, Factor, Taken, terms_to}
use Rattle.series.proofs.Short.{bias-room}
use Rattle.series.proofs.Units.{unit-part, unit-nat, unit-pos}
use Rattle.series.proofs.ExponentialHeld as held
use Rattle.series.proofs.ExponentialHeld.{exp_term-held, exp_sum-held, exp_product_held, exp_total-held, total-ordered, exp_term-spelled}
use Rattle.series.proofs.ExponentialCovers.{exp_term-above}
use Rattle.series.proofs.ExponentialRest.{Stretching, total-rest}
use Rattle.series.proofs.Fits.{value-under}
use Rattle.measure.proofs.Lift.{each_map}
use Rattle.measure.proofs.Measure.{sized_in}
use Rattle.exact.proofs.Fraction.Order.{≺→≼}
use Rattle.series.proofs.Tight.{units-sized}

-- ---- the rule
pub exp_term-first : (w : ℕ) (X : Span) → exp_term w X 0 ≡ given w (nat 1)
unfolding exp_term
exp_term-first w X = refl

pub exp_term-next : (w : ℕ) (X : Span) (k : ℕ) → exp_term w X (k + 1) ≡ divided w (ends (times w (ends (exp_term w X k)) X)) (whole (k + 1))
unfolding exp_term
exp_term-next w X k = rw add-one

pub exp_sum-first : (w : ℕ) (X : Span) → exp_sum w X 0 ≡ given w (nat 1)
unfolding exp_sum exp_term
exp_sum-first w X = refl

pub exp_sum-next : (w : ℕ) (X : Span) (k : ℕ) → exp_sum w X (k + 1) ≡ plus w (ends (exp_sum w X k)) (ends (exp_term w X (k + 1)))
unfolding exp_sum
exp_sum-next w X k = rw add-one

-- ---- the premise
pub factor_ordered : {X : Span} → Factor X → Ordered X
factor_ordered f = record { order = f.order }

pub factor_positive : {X : Span} → Factor X → Each (Positive (bias - 57) (bias + 6)) X
factor_positive f =
    let l = ≈-≼-trans (unit-part 57 (omega (arith, bias-room))) f.least in
    let h = ≼-≈-trans f.most (≈-sym (unit-nat 6)) in
    record {
      low = record { above = ≺-≼-trans (unit-pos (bias - 57)) l; sized = units-sized l (≼_trans f.order h) };
      high = record { above = ≺-≼-trans (unit-pos (bias - 57)) (≼_trans l f.order); sized = units-sized (≼_trans l f.order) h };
    }

-- ---- one step: p, w, t and s are what the code's calls give
pub term-next : (w : ℕ) (X : Span) (k : ℕ) {t p r : Bracket} → t ≡ exp_term w X k → p ≡ times w (ends t) X → r ≡ divided w (ends p) (whole (k + 1)) → r ≡ exp_term w X (k + 1)
term-next w X k {t} {p} {r} a b e =
    e ∙ ap (λ (b : Bracket). divided w (ends b) (whole (k + 1))) (b ∙ ap (λ (b : Bracket). times w (ends b) X) a) ∙ sym (exp_term-next w X k)

pub sum_next : (w : ℕ) (X : Span) (k : ℕ) {s t r : Bracket} → s ≡ exp_sum w X k → t ≡ exp_term w X (k + 1) → r ≡ plus w (ends s) (ends t) → r ≡ exp_sum w X (k + 1)
sum_next w X k {s} {t} {r} a b e = e ∙ ap₂ (λ (s t : Bracket). plus w (ends s) (ends t)) a b ∙ sym (exp_sum-next w X k)

-- what lies from 2^-57 to 64 is taken
pub factor_taken : {X : Span} → Factor X → Taken X
factor_taken f =
    let x = factor_positive f in
    record { order = f.order; above = ≺→≼ x.low.above; sized = each_map (λ y s. sized_in (omega arith) (omega arith) s.sized) x }

-- ---- what the calls require
pub held-as : {v : ℕ} {a b : Bracket} → a ≡ b → Held v b → Held v a
held-as {v} e h = subst (Held v) (sym e) h

module _ {v : ℕ} (w : Width v) {X : Span} (f : Taken X) {k : ℕ} {s : Terms} (h : k ≤ 256) (e : s ≡ terms_to (suc v) X k) where
  pub term-held : Held v s.term
  term-held = held-as (ap (λ (s : Terms). s.term) e) (exp_term-held w f k h)

  pub sum_held : Held v s.sum
  sum_held = held-as (ap (λ (s : Terms). s.sum) e) (exp_sum-held w f k h)

pub product_held : {v : ℕ} → Width v → {X : Span} → Taken X → {k : ℕ} {t p : Bracket} → k ≤ 256 → t ≡ exp_term (suc v) X k → p ≡ times (suc v) (ends t) X → Held v p
product_held {v} w {X} f {k} h e i = held-as (i ∙ ap (λ (b : Bracket). times (suc v) (ends b) X) e) (exp_product_held w f k h)

-- ---- where the sum only stretches: the tests on places and digits are what the law asks for
high_some : {v : ℕ} {x : Bracket} → Held v x → Taken (ends x) → (x.hi.m ≡ 0 → ⊥) → nat 0 ≺ value x.hi
high_some {v} {x} held f n =
    digits-pos x.hi (nonneg-plain v x.hi (range_spelled held.hi) (≼_trans f.above f.order))
    (⊎_elim (λ z. absurd (n z)) (λ p. p) (zero_or_pos x.hi.m))

module _ {v : ℕ} {x : Bracket} (held : Held v x) (f : Taken (ends x)) {k : ℕ} {s : Terms} (h : k < 256) (e : s ≡ terms_to (suc v) (ends x) k) where
  pub stretches_is : {w : Sheet} {r : Bool} → s.term.hi.e + suc v < s.sum.lo.e → (x.hi.m ≡ 0 → ⊥) → w ≡ round false (suc v) (nat (k + 1))
      → r ≡ leq (value x.hi) (value w) → r ≡ true → exp_total (suc v) (ends x) ≡ stretched (suc v) (257 - k) s.sum
  stretches_is {w} {r} l n d i z =
      let width = held.hi.width in
      let X = ends x in
      let o : Ordered X = record { order = f.order } in
      let t = (exp_term (suc v) X k).hi in
      let whole : value w ≈ nat (k + 1) = subst (λ (y : Sheet). value y ≈ nat (k + 1)) (sym d) (round_whole false v (k + 1) (few-digits width (omega arith))) in
      let most : X.high ≼ nat (k + 1) = ≼-≈-trans (leq-true (value x.hi) (value w) (sym i ∙ z)) whole in
      let c : Stretching v X k =
      record {
        some = high_some held f n;
        falls = subst (λ (j : ℕ). X.high ≼ nat j) (add-one k) most;
        power = t.e + suc v;
        small = value-under v t (exp_term-spelled v X k).hi (nonneg-plain v t (exp_term-spelled v X k).hi (exp_term-above v o f.above k).high);
        below = subst (λ (y : Terms). y.term.hi.e + suc v < y.sum.lo.e) e l;
      } in
      total-rest v o f.above (omega (arith, width.low)) c (omega arith) ∙ ap (λ (y : Terms). stretched (suc v) (257 - k) y.sum) (sym e)

-- ---- the end of the loop
pub total-last : (w : ℕ) (X : Span) (k : ℕ) {s : Terms} {r : Bracket} → k ≤ 256 → 256 ≤ k → s ≡ terms_to w X k → r ≡ addlast w s.sum s.term → r ≡ exp_total w X
unfolding exp_total
total-last w X k {s} h l e d =
    let n : k ≡ 256 = omega arith in
    d ∙ ap (λ (s : Terms). addlast w s.sum s.term) (subst (λ (k : ℕ). s ≡ terms_to w X k) n e)

module _ {v : ℕ} (w : Width v) {X : Span} (f : Taken X) {total : Bracket} (d : total ≡ exp_total (suc v) X) where
  pub total-held : Held v total
  total-held = held-as d (exp_total-held w f)

  pub total-above : nat 0 ≺ value total.lo
  total-above = subst (λ (b : Bracket). nat 0 ≺ value b.lo) (sym d) (held.total-above w f)

  pub answer_is : {one r : Bracket} → one ≡ given (suc v) (nat 1) → r ≡ divided (suc v) (ends one) (ends total) → r ≡ expneg (suc v) X
  unfolding expneg
  answer_is {one} {r} i j =
      j ∙ ap (λ (b : Bracket). divided (suc v) (ends one) (ends b)) d
      ∙ whole_divided v 1 (few-digits w (lit≤ tt)) i (ends (exp_total (suc v) X)) (total-ordered w f) (held.total-above w f)
