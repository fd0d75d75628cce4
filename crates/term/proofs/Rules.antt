-- What a sound term, a sound length and a sound table give: plain bounds, and the place of the first broken term as the first place.
-- Assumes nothing.
use Prim.Native.Nat.{ℕ, zero, suc, ◌+◌, ◌*◌, ◌/◌, ◌%◌, ◌^◌, ◌≤◌, ◌<◌}
use mathlib.Core.Path.{◌≡◌, refl, ◌∙◌}
use mathlib.Core.List.{List}
use mathlib.Core.Bool.{Bool, true, false, cond, ◌&&◌, false≢true}
use borrow.Author.Tests.{ltb-true, leb-true, eqb-true, eqb-false, lt-ltb, eq-eqb, ne_eqb}
use native.Mathlib.Omega.{arith}
use lib.Dec.{leb, ltb, eqb}
use Rattle.kind.specs.Kind.{by_kind, term_bytes, longest}
use Rattle.kind.proofs.Either.{by_long, by_plain, by_either}
use Rattle.std.specs.Prelude.{Err}
use Rattle.term.specs.declared.Term.{Term}
use Rattle.term.specs.declared.Fault.TheVariants.{Broken}
use Rattle.term.specs.Bounds.{WithinFields, WithinLong, Bounds, Plain, Whole, WithinKind}
use Rattle.term.specs.Long.{long_from, spare_bits}
use Rattle.term.specs.Packed.{plain_factor, plain_from, term_from, spare_from, term_at, spare_at}
use Rattle.term.specs.Sound.{sound_size, matched, sound_term, sound_length, place_answer}
use Rattle.term.proofs.Fields.{field_below}

-- a test of two parts that passes
pub both : (a b : Bool) → (a && b) ≡ true → (a ≡ true) × (b ≡ true)
both true b e = (refl, e)
both false b e = absurd (false≢true e)

-- ---- the factor of a nine-byte term

pub factor_none : (c : ℕ) → c ≡ 0 → plain_factor c ≡ 0
unfolding plain_factor
factor_none c e = rw e

pub factor_whole : (c : ℕ) → (c ≡ 0 → ⊥) → plain_factor c ≡ 100
unfolding plain_factor
factor_whole zero n = absurd (n refl)
factor_whole (suc c) n = refl

pub factor_small : (c : ℕ) → plain_factor c ≤ 100
unfolding plain_factor
factor_small zero = omega arith
factor_small (suc c) = omega arith

pub factor_some : (c : ℕ) → 0 < c → 0 < plain_factor c
unfolding plain_factor
factor_some zero h = absurd (omega arith)
factor_some (suc c) h = omega arith

-- ---- what stands at a place, by the kind

module _ (kind : ℕ) (table : List ℕ) (k : ℕ) where
  pub at_long : kind ≡ 58 → term_at kind table k ≡ long_from table (8 * (12 * k))
  unfolding term_at term_from
  at_long e = rw (by_long kind 9 12 e, eq-eqb kind 58 e)

  pub at_plain : (kind ≡ 58 → ⊥) → term_at kind table k ≡ plain_from table (8 * (9 * k))
  unfolding term_at term_from
  at_plain n = rw (by_plain kind 9 12 n, ne_eqb kind 58 n)

  pub spare_long : kind ≡ 58 → spare_at kind table k ≡ spare_bits table (8 * (12 * k))
  unfolding spare_at spare_from
  spare_long e = rw (by_long kind 9 12 e, eq-eqb kind 58 e)

  pub spare_plain : (kind ≡ 58 → ⊥) → spare_at kind table k ≡ 0
  unfolding spare_at spare_from
  spare_plain n = rw (ne_eqb kind 58 n)

-- ---- a term that is read lies within its fields

module _ (bytes : List ℕ) (first : ℕ) where
  pub plain_fields : WithinFields (plain_from bytes first)
  unfolding plain_from
  plain_fields =
      record {
        c_below = field_below bytes first 2;
        factor_plain = refl;
        d_below = field_below bytes (first + 2) 4;
        t_below = field_below bytes (first + 6) 5;
        magnitude_below = field_below bytes (first + 12) 60;
      }

  pub long_fields : WithinLong (long_from bytes first)
  unfolding long_from
  long_fields =
      record {
        c_below = field_below bytes first 4;
        factor_below = field_below bytes (first + 4) 10;
        d_below = field_below bytes (first + 14) 5;
        t_below = field_below bytes (first + 19) 6;
        magnitude_below = field_below bytes (first + 26) 60;
      }

-- what nine bytes hold, twelve can
pub plain_long : {term : Term} → WithinFields term → WithinLong term
plain_long {term} w =
    record {
      c_below = omega arith;
      factor_below = omega (arith, factor_small term.c);
      d_below = omega arith;
      t_below = omega arith;
      magnitude_below = w.magnitude_below;
    }

-- a term that fits nine bytes fits a table of kind 38, and one that fits twelve a table of kind 58
pub within-plain : {term : Term} → WithinFields term → WithinKind 38 term
within-plain w = record { long = λ e. absurd (omega arith); plain = λ _. w }

pub within-long : {term : Term} → WithinLong term → WithinKind 58 term
within-long w = record { long = λ _. w; plain = λ n. absurd (n refl) }

pub term_at-plain : (kind : ℕ) → (kind ≡ 58 → ⊥) → (table : List ℕ) (k : ℕ) → WithinFields (term_at kind table k)
term_at-plain kind n table k = rw (at_plain kind table k n) (plain_fields table (8 * (9 * k)))

pub term_at-fields : (kind : ℕ) (table : List ℕ) (k : ℕ) → WithinLong (term_at kind table k)
term_at-fields kind table k = go (eqb kind 58) refl
  where
    go : (b : Bool) → eqb kind 58 ≡ b → WithinLong (term_at kind table k)
    go true e = rw (at_long kind table k (eqb-true kind 58 e)) (long_fields table (8 * (12 * k)))
    go false e = plain_long (term_at-plain kind (eqb-false kind 58 e) table k)

-- ---- the rules as bounds

matched-above : (term : Term) → matched term ≡ true → 0 < term.c → 0 < term.factor
unfolding matched
matched-above term h l = ltb-true 0 term.factor (rw (ne_eqb term.c 0 (λ e. omega arith)) at h)

pub matched-none : (term : Term) → matched term ≡ true → term.c ≡ 0 → term.factor ≡ 0
unfolding matched
matched-none term h e = eqb-true term.factor 0 (rw (eq-eqb term.c 0 e) at h)

plain_matched : (term : Term) → term.factor ≡ plain_factor term.c → matched term ≡ true
unfolding matched
plain_matched term f = go (eqb term.c 0) refl
  where
    go : (b : Bool) → eqb term.c 0 ≡ b → matched term ≡ true
    go true e = rw e (eq-eqb term.factor 0 (f ∙ factor_none term.c (eqb-true term.c 0 e)))
    go false e = rw e (lt-ltb 0 term.factor (omega (arith, factor_whole term.c (eqb-false term.c 0 e))))

-- the rules of both kinds
size_rules : (term : Term) → sound_size term ≡ true → (0 < term.d) × (0 < term.magnitude) × (term.magnitude ≤ 10 ^ 17)
unfolding sound_size
size_rules term h =
    let p = both _ (leb term.magnitude (10 ^ 17)) h in
    let q = both (ltb 0 term.d) (ltb 0 term.magnitude) p.0 in
    (ltb-true 0 term.d q.0, ltb-true 0 term.magnitude q.1, leb-true term.magnitude (10 ^ 17) p.1)

-- the rule that each kind has by itself
pub long_rule : (kind : ℕ) (term : Term) → kind ≡ 58 → sound_term kind term ≡ true → matched term ≡ true
unfolding sound_term
long_rule kind term e h = rw (eq-eqb kind 58 e) at (both (sound_size term) _ h).1

pub plain_rule : (kind : ℕ) (term : Term) → (kind ≡ 58 → ⊥) → sound_term kind term ≡ true → term.t ≤ 24
unfolding sound_term
plain_rule kind term n h = leb-true term.t 24 (rw (ne_eqb kind 58 n) at (both (sound_size term) _ h).1)

-- a sound term at a place of a table
module _ (kind : ℕ) (table : List ℕ) (k : ℕ) (h : sound_term kind (term_at kind table k) ≡ true) where
  pub term_at-matched : matched (term_at kind table k) ≡ true
  term_at-matched = go (eqb kind 58) refl
    where
      go : (b : Bool) → eqb kind 58 ≡ b → matched (term_at kind table k) ≡ true
      go true e = long_rule kind (term_at kind table k) (eqb-true kind 58 e) h
      go false e = plain_matched (term_at kind table k) (term_at-plain kind (eqb-false kind 58 e) table k).factor_plain

  pub term_at-size : sound_size (term_at kind table k) ≡ true
  unfolding sound_term
  term_at-size = (both (sound_size (term_at kind table k)) _ h).0

  pub term_at-bounds : Bounds (term_at kind table k)
  term_at-bounds =
      let fields = term_at-fields kind table k in
      let size = size_rules (term_at kind table k) term_at-size in
      record {
        c_most = omega (arith, fields.c_below);
        factor_above = matched-above (term_at kind table k) term_at-matched;
        factor_most = omega (arith, fields.factor_below);
        d_above = size.0;
        d_most = omega (arith, fields.d_below);
        t_most = omega (arith, fields.t_below);
        magnitude_above = size.1;
        magnitude_most = size.2;
      }

  pub term_at-old : (kind ≡ 58 → ⊥) → Plain (term_at kind table k)
  term_at-old n =
      let fields = term_at-plain kind n table k in
      record { c_below = fields.c_below; factor_plain = fields.factor_plain; d_below = fields.d_below; t_most = plain_rule kind (term_at kind table k) n h }

-- ---- a table's length

pub some_bytes : (kind : ℕ) → 0 < term_bytes kind
some_bytes kind = by_either kind (λ one. 0 < one) (omega arith) (omega arith)

pub few_bytes : (kind : ℕ) → term_bytes kind ≤ 12
few_bytes kind = by_either kind (λ one. one ≤ 12) (omega arith) (omega arith)

pub most_bytes : (kind : ℕ) → 64 * term_bytes kind ≡ longest kind
unfolding by_kind
most_bytes kind = go (eqb kind 58)
  where
    go : (b : Bool) → 64 * cond b 12 9 ≡ cond b 768 576
    go true = refl
    go false = refl

whole_bytes : (kind bytes : ℕ) → bytes % term_bytes kind ≡ 0 → term_bytes kind * (bytes / term_bytes kind) ≡ bytes
whole_bytes kind bytes = by_either kind (λ one. bytes % one ≡ 0 → one * (bytes / one) ≡ bytes) (λ h. omega arith) (λ h. omega arith)

pub sound_length-whole : (kind bytes : ℕ) → sound_length kind bytes ≡ true → Whole kind bytes
unfolding sound_length
sound_length-whole kind bytes h =
    let p = both _ (eqb (bytes % term_bytes kind) 0) h in
    let q = both (leb (term_bytes kind) bytes) (leb bytes (longest kind)) p.0 in
    record {
      some = leb-true (term_bytes kind) bytes q.0;
      most = leb-true bytes (longest kind) q.1;
      whole = whole_bytes kind bytes (eqb-true (bytes % term_bytes kind) 0 p.1);
    }

-- 768 bytes at most, and 64 terms
pub whole_widest : {kind bytes : ℕ} → Whole kind bytes → bytes ≤ 768
whole_widest {kind} {bytes} w = omega (arith, w.most, most_bytes kind, few_bytes kind)

pub whole_some : {kind bytes : ℕ} → Whole kind bytes → 0 < bytes / term_bytes kind
whole_some {kind} {bytes} w = by_either kind (λ one. one ≤ bytes → 0 < bytes / one) (λ h. omega arith) (λ h. omega arith) w.some

pub whole_few : {kind bytes : ℕ} → Whole kind bytes → bytes / term_bytes kind ≤ 64
whole_few {kind} {bytes} w = by_either kind (λ one. bytes ≤ 64 * one → bytes / one ≤ 64) (λ h. omega arith) (λ h. omega arith) (omega (arith, w.most, most_bytes kind))

-- each place below the count lies within the bytes
pub within-bytes : (kind bytes k : ℕ) → k < bytes / term_bytes kind → term_bytes kind * k + term_bytes kind ≤ bytes
within-bytes kind bytes k = by_either kind (λ one. k < bytes / one → one * k + one ≤ bytes) (λ h. omega arith) (λ h. omega arith)

-- ---- a broken term's place is the answer
pub place_some : (count place : ℕ) → 0 < place → Err (Broken place) ≡ place_answer count place
unfolding place_answer
place_some count zero h = absurd (omega arith)
place_some count (suc before) h = refl
