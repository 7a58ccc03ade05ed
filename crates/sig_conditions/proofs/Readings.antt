-- What the reader's answer on words says of the text.
use Rattle.std.proofs.Common.{ℕ, ◌≡◌, ◌≤◌, false, List, refl, ap, sym, ◌∙◌, subst}
use Rattle.std.specs.Prelude.{Some, None}
use Rattle.std.specs.declared.option.Option.{Option}
use Rattle.sig_base.specs.declared.refusal.Place.{Place}
use Rattle.sig_base.specs.declared.refusal.Detail.TheVariants as detail
use Rattle.sig_base.specs.declared.refusal.Fault.{Fault}
use Rattle.sig_base.specs.declared.refusal.Fault.TheVariants.{Refused}
use Rattle.sig_conditions.specs.declared.word.Word.{Word}
use Rattle.sig_conditions.specs.Conditions.{Cond}
use Rattle.sig_conditions.specs.Reader.{condition_in}
use Rattle.sig_conditions.specs.Refusals.{IsRead, unread, IsUnread}
use Rattle.sig_conditions.specs.Words.{has_bar, nesting, words}
use Rattle.sig_conditions.proofs.Sound.{is_condition, reads_condition}

pub read_is : (most : ℕ) (text : List ℕ) (ws : List Word) (c : Cond) → ws ≡ words text → has_bar text ≡ false → nesting ws ≤ most
    → condition_in most ws ≡ Some c → IsRead most text c
read_is most text ws c e b n h = record {
  current = b;
  within = subst (λ (xs : List Word). nesting xs ≤ most) e n;
  reads = is_condition most (words text) c (ap (condition_in most) (sym e) ∙ h);
}

not_some : {A : Type 0} (o : Option A) (x : A) → o ≡ Some x → o ≡ None → ⊥
not_some o x e f = cc

pub unread_is : (most : ℕ) (text : List ℕ) (ws : List Word) (place : Place) (e : Fault) → ws ≡ words text → has_bar text ≡ false → nesting ws ≤ most
    → condition_in most ws ≡ None → e ≡ Refused (record { code = 60; place = place; detail = detail.None }) → IsUnread most text place e
unread_is most text ws place e w b n h f =
    subst (IsUnread most text place) (sym f) (
      unread b (subst (λ (xs : List Word). nesting xs ≤ most) w n)
          (λ c r. not_some (condition_in most ws) c (ap (condition_in most) w ∙ reads_condition most (words text) c (subst (λ (xs : List Word). nesting xs ≤ most) w n) r) h) refl,
      refl,
      refl,
    )
