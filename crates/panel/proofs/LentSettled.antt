-- The three checks with a lent slice are settled, value and slice. Assumes nothing.
use Prim.Native.Nat.{ℕ}
use mathlib.Core.Path.{◌≡◌, sym, ap, ◌∙◌}
use mathlib.Core.List.{List}
use Rattle.term.specs.declared.Term.{Term}
use Rattle.quick.specs.declared.Question.{Question}
use Rattle.quick.specs.declared.Reply.{Reply}
use Rattle.quick.proofs.Same.{lent-settled}
use Rattle.panel.specs.Lent.{reply_chosen, LentCalled}

pub lent-call_settled : (w kind : ℕ) (table : List ℕ) (before : List Term) (asked : Question) (choice : ℕ) (x y : List Term) (r s : ℕ)
    → LentCalled w kind table before x asked choice r → LentCalled w kind table before y asked choice s → (r ≡ s) × (x ≡ y)
lent-call_settled w kind table before asked choice x y r s p q =
    let same = lent-settled w kind table before asked p.reply q.reply x y p.stated q.stated in
    (p.value ∙ ap (λ (z : Reply). reply_chosen z choice) same.0 ∙ sym q.value, same.1)
