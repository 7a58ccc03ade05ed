-- A row is read field by field.
use Rattle.std.proofs.Common.{◌≡◌, ℕ, ◌+◌, ◌<◌, List, [], ◌∷◌, ◌++◌, length, get_or, take, drop, refl, sym, ap, ◌∙◌, append_assoc, subst, Ok, Err}
use Rattle.std.proofs.lemmas.List.{drop_more, take_more}
use Rattle.event_read.specs.Answers.{Answers, AnswersAs}
use Rattle.event_read.specs.EventOf.{Row, field_of, in_front, row_step, row_of}
use Rattle.event_read.specs.Takes.{Takings}
use Rattle.event_schema.specs.Events.{AreValuesOf, IsEvent}
use Rattle.event_schema.specs.declared.schema.Field.{Field}
use Rattle.event_schema.specs.declared.value.Value.{Value}
use Rattle.serde_json.specs.Data.{Data}
use Rattle.sig_base.specs.declared.refusal.Fault.{Fault}
use Rattle.sig_base.specs.declared.refusal.Fault.TheVariants.{Memory, Refused}
use Rattle.sig_base.specs.declared.refusal.Place.{Place}

-- some values and then a row
abbrev pub behind : List (List Value) → Row → Row
behind done (Ok values) = Ok (done ++ values)
behind done (Err code) = Err code

abbrev pub rest_at : List Field → ℕ → Data → Row
rest_at fields i d = row_of (drop i fields) d

behind_one : (done : List (List Value)) (v : List Value) (r : Row) → behind (done ++ v ∷ []) r ≡ behind done (in_front v r)
behind_one done v (Ok values) = ap Ok (append_assoc done (v ∷ []) values)
behind_one done v (Err code) = refl

rest_of : (fields : List Field) (i : ℕ) (f : Field) (d : Data) → f ≡ get_or fields i f → i < length fields → rest_at fields i d ≡ row_step (field_of f d) (rest_at fields (i + 1) d)
rest_of fields i f d is within = ap (λ (fs : List Field). row_of fs d) (drop_more fields i f within ∙ ap (λ (x : Field). x ∷ drop (i + 1) fields) (sym is))

-- one more field
pub row_more : (place : Place) (fields : List Field) (i : ℕ) (f : Field) (d : Data) (done new : List (List Value)) (v : List Value) → f ≡ get_or fields i f → i < length fields
    → Answers place (field_of f d) (Ok v) → new ≡ done ++ v ∷ [] → behind done (rest_at fields i d) ≡ row_of fields d → behind new (rest_at fields (i + 1) d) ≡ row_of fields d
row_more place fields i f d done new v is within answers more all = by (field_of f d) refl answers where
  by : (t : Takings) → field_of f d ≡ t → Answers place t (Ok v) → behind new (rest_at fields (i + 1) d) ≡ row_of fields d
  by (Ok w) e same =
      let left = rest_at fields (i + 1) d in
      ap (λ (l : List (List Value)). behind l left) (more ∙ ap (λ (x : List Value). done ++ x ∷ []) same)
      ∙ (behind_one done w left ∙ (sym (ap (behind done) (rest_of fields i f d is within ∙ ap (λ (t : Takings). row_step t left) e)) ∙ all))
  by (Err code) e same = absurd same

memory_anyway : {Y : Type 0} → (g : Y → List (List Value)) (place : Place) (r : Row) → AnswersAs g place r (Err Memory)
memory_anyway g place (Ok values) = tt
memory_anyway g place (Err code) = tt

refused_as : {Y : Type 0} → (g : Y → List (List Value)) (place : Place) (code : ℕ) (e : Fault) → Answers {X = List Value} place (Err code) (Err e) → AnswersAs g place (Err code) (Err e)
refused_as g place code Memory h = tt
refused_as g place code (Refused r) h = h

only_memory : {Y : Type 0} → (g : Y → List (List Value)) (place : Place) (w : List Value) (e : Fault) (r : Row) → Answers place (Ok w) (Err e) → AnswersAs g place r (Err e)
only_memory g place w Memory r h = memory_anyway g place r
only_memory g place w (Refused x) r h = absurd h

-- the first that is refused
pub row_refused : {Y : Type 0} → (g : Y → List (List Value)) (place : Place) (fields : List Field) (i : ℕ) (f : Field) (d : Data) (done : List (List Value)) (e : Fault) → f ≡ get_or fields i f → i < length fields
    → Answers place (field_of f d) (Err e) → behind done (rest_at fields i d) ≡ row_of fields d → AnswersAs g place (row_of fields d) (Err e)
row_refused {Y} g place fields i f d done e is within answers all = by (field_of f d) refl answers where
  by : (t : Takings) → field_of f d ≡ t → Answers place t (Err e) → AnswersAs g place (row_of fields d) (Err e)
  by (Ok w) at h = only_memory g place w e (row_of fields d) h
  by (Err code) at h =
      let left = rest_at fields (i + 1) d in
      let whole : row_of fields d ≡ Err code = sym all ∙ ap (behind done) (rest_of fields i f d is within ∙ ap (λ (t : Takings). row_step t left) at) in
      subst (λ (r : Row). AnswersAs g place r (Err e)) (sym whole) (refused_as g place code e h)

-- values of the first fields, and then those of one more
pub event_more : (fields : List Field) (i : ℕ) (f : Field) (done new : List (List Value)) (v : List Value) → f ≡ get_or fields i f → i < length fields
    → AreValuesOf f v → new ≡ done ++ v ∷ [] → IsEvent (take i fields) done → IsEvent (take (i + 1) fields) new
event_more fields i f done new v is within are more so =
    subst (λ (vs : List (List Value)). IsEvent (take (i + 1) fields) vs) (sym more)
    (subst (λ (fs : List Field). IsEvent fs (done ++ v ∷ [])) (sym (take_more fields i f within ∙ ap (λ (x : Field). take i fields ++ x ∷ []) (sym is))) (one (take i fields) done f v so are))
  where
    one : (fs : List Field) (rows : List (List Value)) (f : Field) (v : List Value) → IsEvent fs rows → AreValuesOf f v → IsEvent (fs ++ f ∷ []) (rows ++ v ∷ [])
    one [] [] f v so are = (are, tt)
    one [] (row ∷ rows) f v so are = absurd so
    one (g ∷ fs) [] f v so are = absurd so
    one (g ∷ fs) (row ∷ rows) f v so are = (so.0, one fs rows f v so.1 are)
