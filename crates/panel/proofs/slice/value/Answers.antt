-- `panel::slice::value` meets its contract: the values of the reply, and the one at the choice. Assumes nothing.
use mathlib.Core.Path.{sym, subst, ap, ◌∙◌}
use lib.ListN.{get_or}
use Rattle.quick.specs.declared.Reply.{Reply}
use Rattle.quick.specs.Reading.{ReplyNumbers}
use Rattle.panel.specs.Lent.{reply_chosen}
use Rattle.panel.proofs.slice.value.Goals as goal

pub of_sheet-values-requires : goal.of_sheet-values-requires
of_sheet-values-requires c = subst ReplyNumbers c.in-Sheet.is c.requires

pub of_check-values-requires : goal.of_check-values-requires
of_check-values-requires c = subst ReplyNumbers c.in-Check.is c.requires

pub returns-in-Short : goal.returns-in-Short
returns-in-Short c =
    c.at.ensures ∙ sym (ap (λ (reply : Reply). reply_chosen reply c.args.choice) c.in-Short.is)

pub returns-in-Sheet : goal.returns-in-Sheet
returns-in-Sheet c =
    let choice = c.args.choice in
    c.at-in-Sheet.ensures
    ∙ ap (λ l. get_or l choice 0) c.of_sheet-values.ensures
    ∙ sym (ap (λ (reply : Reply). reply_chosen reply choice) c.in-Sheet.is)

pub returns-in-Check : goal.returns-in-Check
returns-in-Check c =
    let choice = c.args.choice in
    c.at-in-Check.ensures
    ∙ ap (λ l. get_or l choice 0) c.of_check-values.ensures
    ∙ sym (ap (λ (reply : Reply). reply_chosen reply choice) c.in-Check.is)
