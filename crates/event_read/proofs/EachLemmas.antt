-- The elements of a list are taken one by one.
use Rattle.std.proofs.Common.{◌≡◌, ℕ, ◌+◌, ◌<◌, ◌≤◌, List, [], ◌∷◌, ◌++◌, length, get_or, drop, refl, sym, ap, ◌∙◌, append_assoc, append-nil, subst, true, Option, Some, None, Ok, Err}
use Rattle.std.proofs.Math.ListN.{drop_of_length-le}
use Rattle.std.proofs.lemmas.Bool.{false≢true}
use Rattle.std.proofs.lemmas.List.{drop_more}
use Rattle.event_read.specs.Answers.{Answers}
use Rattle.event_read.specs.Takes.{Taking, Takings, take_single, take_each, alone, before, joined}
use Rattle.event_schema.specs.Events.{AreValuesOf, IsOfKind}
use Rattle.event_schema.specs.Lists.{EachOf}
use Rattle.event_schema.specs.declared.schema.Field.{Field}
use Rattle.event_schema.specs.declared.schema.FieldKind.{FieldKind}
use Rattle.event_schema.specs.declared.value.Value.{Value}
use Rattle.serde_json.specs.View.{view, items_view}
use Rattle.serde_json.specs.declared.value.Value as json
use Rattle.sig_base.specs.declared.refusal.Fault.{Fault}
use Rattle.sig_base.specs.declared.refusal.Fault.TheVariants.{Memory, Refused}
use Rattle.sig_base.specs.declared.refusal.Place.{Place}

-- what is taken of the elements from the i-th on
abbrev pub each_at : FieldKind → List json.Value → ℕ → Takings
each_at kind items i = take_each kind (items_view (drop i items))

each_rest : (kind : FieldKind) (items : List json.Value) (i : ℕ) (x : json.Value) → x ≡ get_or items i x → i < length items
    → each_at kind items i ≡ joined (alone (take_single kind (view x))) (each_at kind items (i + 1))
each_rest kind items i x is within =
    ap (λ (xs : List json.Value). take_each kind (items_view xs)) (drop_more items i x within ∙ ap (λ (y : json.Value). y ∷ drop (i + 1) items) (sym is))

before_nothing : (done : List Value) (t : Takings) → before done (before [] t) ≡ before done t
before_nothing done (Ok values) = refl
before_nothing done (Err code) = refl

before_one : (done : List Value) (v : Value) (t : Takings) → before (done ++ v ∷ []) t ≡ before done (before (v ∷ []) t)
before_one done v (Ok values) = ap Ok (append_assoc done (v ∷ []) values)
before_one done v (Err code) = refl

module _ (place : Place) (kind : FieldKind) (items : List json.Value) (i : ℕ) (x : json.Value) (done : List Value) where
  -- an element of which a value is taken
  pub each_more : (new : List Value) (v : Value) → x ≡ get_or items i x → i < length items → Answers place (take_single kind (view x)) (Ok (Some v))
      → new ≡ done ++ v ∷ [] → before done (each_at kind items i) ≡ take_each kind (items_view items) → before new (each_at kind items (i + 1)) ≡ take_each kind (items_view items)
  each_more new v is within answers more all = by (take_single kind (view x)) refl answers where
    by : (t : Taking) → take_single kind (view x) ≡ t → Answers place t (Ok (Some v)) → before new (each_at kind items (i + 1)) ≡ take_each kind (items_view items)
    by (Ok w) e same =
        let left = each_at kind items (i + 1) in
        ap (λ (l : List Value). before l left) more
        ∙ (before_one done v left
        ∙ (sym (ap (before done) (each_rest kind items i x is within ∙ ap (λ (t : Taking). joined (alone t) left) (e ∙ sym (ap Ok same)))) ∙ all))
    by (Err code) e same = absurd same

  -- an element that is passed over
  pub each_passed : x ≡ get_or items i x → i < length items → Answers place (take_single kind (view x)) (Ok None)
      → before done (each_at kind items i) ≡ take_each kind (items_view items) → before done (each_at kind items (i + 1)) ≡ take_each kind (items_view items)
  each_passed is within answers all = by (take_single kind (view x)) refl answers where
    by : (t : Taking) → take_single kind (view x) ≡ t → Answers place t (Ok None) → before done (each_at kind items (i + 1)) ≡ take_each kind (items_view items)
    by (Ok w) e same =
        let left = each_at kind items (i + 1) in
        sym (before_nothing done left)
        ∙ (sym (ap (before done) (each_rest kind items i x is within ∙ ap (λ (t : Taking). joined (alone t) left) (e ∙ sym (ap Ok same)))) ∙ all)
    by (Err code) e same = absurd same

  -- the first that is refused
  pub each_refused : (e : Fault) → x ≡ get_or items i x → i < length items → Answers place (take_single kind (view x)) (Err e)
      → before done (each_at kind items i) ≡ take_each kind (items_view items) → Answers place (take_each kind (items_view items)) (Err e)
  each_refused e is within answers all = by (take_single kind (view x)) refl answers where
    anyway : (t : Takings) → Answers place t (Err Memory)
    anyway (Ok values) = tt
    anyway (Err code) = tt

    memory : (w : Option Value) (f : Fault) (t : Takings) → Answers place (Ok w) (Err f) → Answers place t (Err f)
    memory w Memory t h = anyway t
    memory w (Refused r) t h = absurd h

    same : (code : ℕ) (f : Fault) → Answers {X = Option Value} place (Err code) (Err f) → Answers {X = List Value} place (Err code) (Err f)
    same code Memory h = tt
    same code (Refused r) h = h

    by : (t : Taking) → take_single kind (view x) ≡ t → Answers place t (Err e) → Answers place (take_each kind (items_view items)) (Err e)
    by (Ok w) at h = memory w e (take_each kind (items_view items)) h
    by (Err code) at h =
        let left = each_at kind items (i + 1) in
        let whole : take_each kind (items_view items) ≡ Err code = sym all ∙ ap (before done) (each_rest kind items i x is within ∙ ap (λ (t : Taking). joined (alone t) left) at) in
        subst (λ (t : Takings). Answers place t (Err e)) (sym whole) (same code e h)

pub each_so_far : (P : Value → Type 0) (done new : List Value) (v : Value) → EachOf P done → P v → new ≡ done ++ v ∷ [] → EachOf P new
each_so_far P done new v so is more = subst (EachOf P) (sym more) (one done so) where
  one : (xs : List Value) → EachOf P xs → EachOf P (xs ++ v ∷ [])
  one [] so = (is, tt)
  one (x ∷ xs) so = (so.0, one xs so.1)

-- behind the last element
pub each_done : (place : Place) (kind : FieldKind) (items : List json.Value) (i : ℕ) (done v : List Value) → length items ≤ i → v ≡ done
    → before done (each_at kind items i) ≡ take_each kind (items_view items) → Answers place (take_each kind (items_view items)) (Ok v)
each_done place kind items i done v past is all =
    subst (λ (t : Takings). Answers place t (Ok v)) (sym whole) is
  where
    whole : take_each kind (items_view items) ≡ Ok done
    whole = sym all ∙ (ap (λ (xs : List json.Value). before done (take_each kind (items_view xs))) (drop_of_length-le items past) ∙ ap Ok (append-nil done))

-- what is taken alone
module _ (place : Place) (t : Taking) where
  pub alone_one : (v : Value) (vs : List Value) → Answers place t (Ok (Some v)) → vs ≡ v ∷ [] → Answers place (alone t) (Ok vs)
  alone_one v vs answers is = by t answers where
    by : (t : Taking) → Answers place t (Ok (Some v)) → Answers place (alone t) (Ok vs)
    by (Ok w) same = subst (λ (w : Option Value). Answers place (alone (Ok w)) (Ok vs)) same is
    by (Err code) same = absurd same

  pub alone_none : (vs : List Value) → Answers place t (Ok None) → vs ≡ [] → Answers place (alone t) (Ok vs)
  alone_none vs answers is = by t answers where
    by : (t : Taking) → Answers place t (Ok None) → Answers place (alone t) (Ok vs)
    by (Ok w) same = subst (λ (w : Option Value). Answers place (alone (Ok w)) (Ok vs)) same is
    by (Err code) same = absurd same

  pub alone_refused : (e : Fault) → Answers place t (Err e) → Answers place (alone t) (Err e)
  alone_refused e answers = by t e answers where
    by : (t : Taking) (e : Fault) → Answers place t (Err e) → Answers place (alone t) (Err e)
    by (Ok None) Memory h = tt
    by (Ok (Some v)) Memory h = tt
    by (Ok None) (Refused r) h = absurd h
    by (Ok (Some v)) (Refused r) h = absurd h
    by (Err code) Memory h = tt
    by (Err code) (Refused r) h = h

-- values of a field of several, and of one that isn't
pub values_many : (field : Field) (vs : List Value) → field.many ≡ true → EachOf (IsOfKind field.kind) vs → AreValuesOf field vs
values_many field vs many so = record { kinds = so; few = λ one. absurd (false≢true (sym one ∙ many)) }

pub values_few : (field : Field) (vs : List Value) → EachOf (IsOfKind field.kind) vs → length vs ≤ 1 → AreValuesOf field vs
values_few field vs so few = record { kinds = so; few = λ one. few }
