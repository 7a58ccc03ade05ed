use Rattle.std.proofs.Common.{◌≡◌, ◌≤◌, ℕ, List, sym, ◌∙◌, subst}
use Rattle.std.specs.Str.{chars}
use Rattle.sig_conditions.specs.declared.word.Word.{Word}
use Rattle.sig_conditions.specs.Conditions.{cond_view}
use Rattle.sig_conditions.specs.Words.{nesting}
use Rattle.sig_conditions.proofs.Readings.{read_is, unread_is}
use Rattle.sig_conditions.proofs.condition_text.read_condition.Goals as goal

few : (most count : ℕ) (ws vs : List Word) → count ≡ nesting ws → ws ≡ vs → count ≤ most → nesting vs ≤ most
few most count ws vs e f h = subst (λ (xs : List Word). nesting xs ≤ most) f (subst (λ (n : ℕ). n ≤ most) e h)

pub returns-in-Ok-clause-read : goal.returns-in-Ok-clause-read
returns-in-Ok-clause-read c =
    read_is c.args.limits.now.condition_words (chars c.args.text.now) c.deref-2.result.now (cond_view c.in-Ok.condition)
    (c.deref-2.ensures.value ∙ c.in_ok-words.ensures)
    (sym c.has_character.ensures ∙ c.if-has_character.false)
    (few c.args.limits.now.condition_words c.count_nesting.result c.deref.result.now c.deref-2.result.now c.count_nesting.ensures
    (c.deref.ensures.value ∙ sym c.deref-2.ensures.value) c.if-count_nesting-limits.false)
    c.in-Ok.ensures

pub returns-clause-refused : goal.returns-clause-refused
returns-clause-refused c =
    unread_is c.args.limits.now.condition_words (chars c.args.text.now) c.deref-2.result.now c.args.place c.refused-in-Err-Unread.result
    (c.deref-2.ensures.value ∙ c.in_ok-words.ensures)
    (sym c.has_character.ensures ∙ c.if-has_character.false)
    (few c.args.limits.now.condition_words c.count_nesting.result c.deref.result.now c.deref-2.result.now c.count_nesting.ensures
    (c.deref.ensures.value ∙ sym c.deref-2.ensures.value) c.if-count_nesting-limits.false)
    (rw c.in-Err-Unread.field-0-is at c.in-Err-Unread.ensures)
    c.refused-in-Err-Unread.ensures
