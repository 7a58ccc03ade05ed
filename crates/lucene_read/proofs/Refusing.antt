-- What is read, and what is refused, as a language answers it.
use Rattle.std.proofs.Common.{ℕ, ◌≡◌, ◌≤◌, inl, inr, refl, sym, ◌∙◌, ap, subst, Bool, true, false, List, [], ◌∷◌, length}
use Rattle.std.specs.Prelude.{◌+◌, ◌⊎◌, Result, Ok, Err, IfOk, IfErr}
use Rattle.event_schema.specs.declared.schema.Schema.{Schema}
use Rattle.sig_base.specs.declared.limits.Limits.{Limits}
use Rattle.sig_base.specs.declared.refusal.Fault.{Fault}
use Rattle.sig_base.specs.declared.refusal.Fault.TheVariants.{Memory, Refused}
use Rattle.sig_base.specs.declared.refusal.Refusal.{Refusal}
use Rattle.sig_base.specs.declared.refusal.Detail.TheVariants as details
use Rattle.query_tokens.specs.Places.{CodeAt}
use Rattle.query_tokens.specs.Tokens.{places}
use Rattle.query_lang.specs.Answers.{place_of}
use Rattle.query_lang.specs.RefusedPlaces.{is_of_pattern}
use Rattle.lucene_lang.specs.declared.query.Group.{Group}
use Rattle.lucene_lang.specs.Query as query
use Rattle.lucene_lang.specs.Tokens.{tokens}
use Rattle.lucene_lang.specs.Reading.{Reads, Refuses, left_out, nested, stopped, faulty, BytesRead, BytesRefused, no_text, no_query}
use Rattle.lucene_lang.specs.View.{group_view}
use Rattle.lucene_read.specs.Answers.{IfRefused}
use Rattle.lucene_read.specs.Answered.{IsRefused, IsAnswered}
use Rattle.lucene_read.proofs.Faults.{IsOther, AreOther, query_other}

-- ---- no refusal is of a regular expression

first_other : (fs : List CodeAt) (f : CodeAt) (more : List CodeAt) → AreOther fs → fs ≡ f ∷ more → IsOther f
first_other fs f more h same = (subst AreOther same h).0

told : (f : CodeAt) (code : ℕ) → f.code ≡ code → is_of_pattern code ≡ false → IsOther f
told f code same other = ap is_of_pattern same ∙ other

text_other : (limit : ℕ) (schema : Schema) (cs : List ℕ) (f : CodeAt) → Refuses limit schema cs f → IsOther f
text_other limit schema cs f (left_out place outside is) = told f 131 (ap (λ (g : CodeAt). g.code) is) refl
text_other limit schema cs f (nested outside far is) = told f 135 (ap (λ (g : CodeAt). g.code) is) refl
text_other limit schema cs f (stopped front rest outside near stops is) = told f 130 (ap (λ (g : CodeAt). g.code) is) refl
text_other limit schema cs f (faulty q outside near spelled more is) = first_other _ f more (query_other schema q (places (tokens cs))) is

bytes_other : (limit : ℕ) (schema : Schema) (bytes : List ℕ) (f : CodeAt) → BytesRefused limit schema bytes f → IsOther f
bytes_other limit schema bytes f (no_text place bad is) = told f 1 (ap (λ (g : CodeAt). g.code) is) refl
bytes_other limit schema bytes f (no_query cs text refused) = text_other limit schema cs f refused

-- ---- what is answered

pub as_query : (limit : ℕ) (schema : Schema) (bytes : List ℕ) (g : query.Group) → BytesRead limit schema bytes g → Reads schema bytes g
as_query limit schema bytes g h = record { characters = h.characters; scalars = h.text.scalars; encoded = h.text.encoded; reads = h.reads.reads }

no_pattern : (b : Bool) → b ≡ true → b ≡ false → ⊥
no_pattern b h k =
    let bad : true ≡ false = sym h ∙ k in
    absurd cc

pub answered : (limits : Limits) (schema : Schema) (bytes : List ℕ) (r : Result Group Fault)
    → ((limit : ℕ) (s : Schema) (bs : List ℕ) (g : query.Group) (f : CodeAt) → BytesRead limit s bs g → BytesRefused limit s bs f → ⊥)
    → length bytes ≤ limits.query_bytes + 1 → IfOk r (λ g. BytesRead limits.lucene_depth schema bytes (group_view g))
    → IfErr r (λ e. IfRefused e (BytesRefused limits.lucene_depth schema bytes)) → IsAnswered limits schema bytes r
answered limits schema bytes (Ok g) never short ok refused = record {
  query = as_query limits.lucene_depth schema bytes (group_view g) ok;
  within = record { short = short; reads = ok };
  built = refl;
  places = [];
  are = record { caused = tt; all = tt };
  unrefused = λ r h. never limits.lucene_depth schema bytes (group_view g) _ ok h.first;
}
answered limits schema bytes (Err Memory) never short ok refused = refl
answered limits schema bytes (Err (Refused r)) never short ok refused = record {
  own = tt;
  places = [];
  are = record { caused = tt; all = tt };
  first = record { first = refused.0; plain = refused.1 };
  built = λ pattern. absurd (no_pattern (is_of_pattern r.code) pattern (bytes_other limits.lucene_depth schema bytes _ refused.0));
  unread = λ other g is within. never limits.lucene_depth schema bytes (group_view g) _ within.reads refused.0;
}

-- ---- the laws

pub is_or_not : (b : Bool) → (b ≡ true) ⊎ (b ≡ true → ⊥)
is_or_not true = inl refl
is_or_not false = inr (λ bad. absurd cc)

abbrev pub as_refusal : CodeAt → Refusal
as_refusal f = record { code = f.code; place = record { line = f.place.line; column = f.place.column }; detail = details.None }

is_plain : (r : Refusal) → r.detail ≡ details.None → r ≡ as_refusal (record { code = r.code; place = place_of r })
is_plain r same = ap (λ d. record { code = r.code; place = r.place; detail = d }) same

pub same_refusal : (limits : Limits) (schema : Schema) (bytes : List ℕ) (places : List CodeAt) (r s : Refusal)
    → ((f g : CodeAt) → BytesRefused limits.lucene_depth schema bytes f → BytesRefused limits.lucene_depth schema bytes g → f ≡ g)
    → IsRefused limits schema bytes places r → IsRefused limits schema bytes places s → r ≡ s
same_refusal limits schema bytes places r s one h k = is_plain r h.plain ∙ (ap as_refusal (one _ _ h.first k.first) ∙ sym (is_plain s k.plain))
