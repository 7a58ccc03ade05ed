-- Conditions of texts: what a reader and a resolver answer is what the definitions say of the node.
use Rattle.std.proofs.Common.{ℕ, ◌≡◌, ◌≤◌, ◌<◌, Bool, true, false, not, List, [], ◌∷◌, refl, ap, sym, ◌∙◌, subst, arith, nat_le}
use Rattle.std.specs.Prelude.{Option, Some, None, Result, Ok, Err, IfOk, IfErr, is_some}
use Rattle.std.proofs.lemmas.Bool.{leb-true, le-leb}
use Rattle.sig_base.specs.declared.limits.Limits.{Limits}
use Rattle.sig_base.specs.declared.refusal.Detail.TheVariants as details
use Rattle.sig_base.specs.declared.refusal.Fault.{Fault}
use Rattle.sig_base.specs.declared.refusal.Fault.TheVariants.{Memory, Refused}
use Rattle.sig_base.specs.declared.refusal.Place.{Place}
use Rattle.sig_base.specs.declared.refusal.Refusal.{Refusal}
use Rattle.sig_conditions.specs.Conditions.{Cond}
use Rattle.sig_conditions.specs.Formulas.{form_view, formula_of, faults}
use Rattle.sig_conditions.specs.Reader.{condition_in}
use Rattle.sig_conditions.specs.Refusals.{IsRead, HasCode, old, deep, unread, IsUnread, IsUnresolved, refusal_of}
use Rattle.sig_conditions.specs.Words.{nesting, words}
use Rattle.sig_conditions.specs.declared.formula.Formula.{Formula}
use Rattle.sig_conditions.specs.declared.word.Word.{Word}
use Rattle.sig_conditions.proofs.Sound.{is_condition, reads_condition}
use Rattle.sig_base.specs.Judged.{refusal, must, first, Judged}
use Rattle.yaml_tree.specs.Nodes.{place_of}
use Rattle.yaml_tree.specs.Tree.{Tree}
use Rattle.rule_model.proofs.Faultless.{no_faults}
use Rattle.sig_base.proofs.Checks.{first_one}
use Rattle.rule_model.specs.Conditions.{condition_refusal, first_fault, unresolved, IsFormula}
use Rattle.yaml_tree.specs.Nodes.{is_text, text_in}

-- ---- the table of a condition, by its tests

abbrev table : Place → Bool → Bool → Bool → Bool → Option Refusal → Option Refusal
table p a b c d last = first (must 71 p a ∷ must 61 p b ∷ must 62 p c ∷ must 60 p d ∷ last ∷ [])

table_61 : (p : Place) (a b c d : Bool) (last : Option Refusal) → a ≡ true → b ≡ false → table p a b c d last ≡ Some (refusal 61 p)
table_61 p a b c d last h i = rw h (rw i refl)

table_62 : (p : Place) (a b c d : Bool) (last : Option Refusal) → a ≡ true → b ≡ true → c ≡ false → table p a b c d last ≡ Some (refusal 62 p)
table_62 p a b c d last h i j = rw h (rw i (rw j refl))

table_60 : (p : Place) (a b c d : Bool) (last : Option Refusal) → a ≡ true → b ≡ true → c ≡ true → d ≡ false → table p a b c d last ≡ Some (refusal 60 p)
table_60 p a b c d last h i j k = rw h (rw i (rw j (rw k refl)))

table_last : (p : Place) (a b c d : Bool) (last : Option Refusal) → a ≡ true → b ≡ true → c ≡ true → d ≡ true → table p a b c d last ≡ last
table_last p a b c d last h i j k = rw h (rw i (rw j (rw k (first_one last))))

same_refusal : (r : Refusal) (code : ℕ) (p : Place) → r.code ≡ code → r.place ≡ p → r.detail ≡ details.None → Some r ≡ Some (refusal code p)
same_refusal r code p h k d = rw (← h) (rw (← k) (rw (← d) refl))

more_no : (a b : ℕ) → b < a → nat_le a b ≡ false
more_no a b h =
    elim (nat_le a b) as (λ v. nat_le a b ≡ v → v ≡ false) [ true ↦ λ e. absurd (let le : a ≤ b = leb-true a b e in omega arith) | false ↦ λ e. refl ] refl

none_is : (o : Option Cond) → ((c : Cond) → o ≡ Some c → ⊥) → is_some o ≡ false
none_is None h = refl
none_is (Some c) h = absurd (h c refl)

module _ (limits : Limits) (names : List (List ℕ)) (t : Tree) where
  abbrev most : ℕ
  most = limits.condition_words

  abbrev ws : List Word
  ws = words (text_in t)

  abbrev cause : Option Refusal
  cause = condition_refusal limits names t

  unread_cause : (r : Refusal) → is_text t ≡ true → HasCode most (text_in t) r.code → r.place ≡ place_of t → r.detail ≡ details.None → cause ≡ Some r
  unread_cause r is (old bar code) p d =
      table_61 (place_of t) (is_text t) _ _ _ _ is (ap not bar) ∙ sym (same_refusal r 61 (place_of t) code p d)
  unread_cause r is (deep bar more code) p d =
      table_62 (place_of t) (is_text t) _ _ _ _ is (ap not bar) (more_no (nesting ws) most more) ∙ sym (same_refusal r 62 (place_of t) code p d)
  unread_cause r is (unread bar within none code) p d =
      table_60 (place_of t) (is_text t) _ _ _ _ is (ap not bar) (le-leb (nesting ws) most within)
      (none_is (condition_in most ws) (λ c h. none c (is_condition most ws c h)))
      ∙ sym (same_refusal r 60 (place_of t) code p d)

  -- what a reader refuses is refused for this cause
  pub unread_judged : (text : List ℕ) (place : Place) (e : Fault) → is_text t ≡ true → text ≡ text_in t → place ≡ place_of t
      → IsUnread most text place e → Judged (λ (f : Formula). IsFormula names t (form_view f)) cause (Err e)
  unread_judged text place Memory is same at h = tt
  unread_judged text place (Refused r) is same at h =
      unread_cause r is (subst (λ (x : List ℕ). HasCode most x r.code) same h.0) (h.1 ∙ at) h.2

  read_cause : (c : Cond) → is_text t ≡ true → IsRead most (text_in t) c → cause ≡ first_fault (place_of t) (faults names c)
  read_cause c is h =
      let found : condition_in most ws ≡ Some c = reads_condition most ws c h.within h.reads in
      table_last (place_of t) (is_text t) _ _ _ (unresolved (place_of t) names (condition_in most ws)) is (ap not h.current) (le-leb (nesting ws) most h.within) (ap is_some found)
      ∙ ap (unresolved (place_of t) names) found

  -- and of what is read, what a resolver refuses
  pub resolved_judged : (text : List ℕ) (place : Place) (c : Cond) (r : Result Formula Fault) → is_text t ≡ true → text ≡ text_in t → place ≡ place_of t
      → IsRead most text c → IfOk r (λ f. formula_of names c ≡ Some (form_view f)) → IfErr r (λ e. IsUnresolved names c place e)
      → Judged (λ (f : Formula). IsFormula names t (form_view f)) cause r
  resolved_judged text place c (Ok f) is same at read ok err =
      let own : IsRead most (text_in t) c = subst (λ (x : List ℕ). IsRead most x c) same read in (
        read_cause c is own ∙ ap (first_fault (place_of t)) (no_faults names c (form_view f) ok),
        record { condition = c; reads = own.reads; formula = ok },
      )
  resolved_judged text place c (Err Memory) is same at read ok err = tt
  resolved_judged text place c (Err (Refused s)) is same at read ok err =
      let own : IsRead most (text_in t) c = subst (λ (x : List ℕ). IsRead most x c) same read in
      read_cause c is own
      ∙ (ap (first_fault (place_of t)) err.shape ∙ ap Some (ap (λ (p : Place). refusal_of p err.first) (sym at) ∙ sym err.refuses))
