-- What the reader answers is the text's verdict.
use Rattle.std.proofs.Common.{ℕ, ◌≡◌, refl, sym, ◌∙◌, ap, subst, Bool, true, false, List, take}
use Rattle.std.specs.Prelude.{Option, Some, None, Result, Ok, Err, IfOk, IfErr}
use Rattle.std.specs.Str.{chars, IsUtf8, IsValidUpTo}
use Rattle.std.proofs.lemmas.Str.{encodes-chars, scalars-chars}
use Rattle.sig_base.specs.declared.refusal.Place.{Place}
use Rattle.sig_base.specs.declared.refusal.Fault.{Fault}
use Rattle.sig_base.specs.declared.refusal.Fault.TheVariants.{Memory, Refused}
use Rattle.sig_base.specs.Judged.{refusal}
use Rattle.event_schema.specs.declared.schema.Field.{Field}
use Rattle.event_schema.specs.declared.schema.Schema.{Schema}
use Rattle.query_tokens.specs.Places.{At, origin, place_after, CodeAt, IsText}
use Rattle.query_tokens.specs.Tokens.{sorts}
use Rattle.lucene_lang.specs.declared.query.Group.{Group}
use Rattle.lucene_lang.specs.Query as query
use Rattle.lucene_lang.specs.Tokens.{tokens}
use Rattle.lucene_lang.specs.Reading.{BytesRead, BytesRefused, no_text, no_query, first_outside, opens_too_far}
use Rattle.lucene_lang.specs.Verdict.{verdict, on_outside, on_nesting, IsVerdict}
use Rattle.lucene_lang.specs.View.{group_view}
use Rattle.lucene_scan.specs.declared.token.Token.{Token}
use Rattle.lucene_read.specs.Answers.{Answers, IfRefused}
use Rattle.lucene_read.specs.Steps as steps
use Rattle.lucene_read.specs.View.{place_view, tokens_view}
use Rattle.lucene_read.proofs.Told.{read_is}

module _ (limit : ℕ) (schema : Schema) (cs : List ℕ) where
  abbrev read : Result query.Group CodeAt
  read = steps.run schema.fields steps.begun (tokens cs) (place_after origin cs)

  nested_is : (far : Bool) → on_nesting far schema cs ≡ steps.unless (steps.first_cause None far) read
  nested_is true = refl
  nested_is false = sym (read_is schema cs)

  outside_is : (o : Option At) → on_outside o limit schema cs ≡ steps.unless (steps.first_cause o (opens_too_far limit 0 0 (sorts (tokens cs)))) read
  outside_is (Some p) = refl
  outside_is None = nested_is (opens_too_far limit 0 0 (sorts (tokens cs)))

  pub verdict_is : (slice ts : List Token) (fields : List Field) (end : At) (r : Result Group Fault) → tokens_view ts ≡ tokens cs → slice ≡ ts → fields ≡ schema.fields
      → end ≡ place_after origin cs → Answers r (steps.verdict limit fields (tokens_view slice) end) → Answers r (verdict limit schema cs)
  unfolding verdict
  verdict_is slice ts fields end r scanned same known there told =
      let here = subst (λ (fs : List Field). Answers r (steps.verdict limit fs (tokens_view slice) end)) known told in
      let all = subst (λ us. Answers r (steps.verdict limit schema.fields us end)) (ap tokens_view same ∙ scanned) here in
      let whole = subst (λ (p : At). Answers r (steps.verdict limit schema.fields (tokens cs) p)) there all in
      subst (λ (v : Result query.Group CodeAt). Answers r v) (sym (outside_is (first_outside false (tokens cs)))) whole

-- ---- bytes

module _ (limit : ℕ) (schema : Schema) (bytes : List ℕ) where
  abbrev pub Reads : Result Group Fault → Type 0
  Reads r = IfOk r (λ g. BytesRead limit schema bytes (group_view g)) × IfErr r (λ e. IfRefused e (BytesRefused limit schema bytes))

  answered : (cs : List ℕ) (r : Result Group Fault) (v : Result query.Group CodeAt) → IsText bytes cs → IsVerdict limit schema cs v → Answers r v → Reads r
  answered cs (Ok g) v text is told =
      let reads = subst (IsVerdict limit schema cs) told is in
      (record { characters = cs; text = text; reads = reads }, tt)
  answered cs (Err Memory) v text is told = (tt, tt)
  answered cs (Err (Refused f)) v text is told = (tt, (no_query cs text (subst (IsVerdict limit schema cs) told.0 is), told.1))

  pub text_is : (text : List ℕ) (r : Result Group Fault) → IsUtf8 bytes → text ≡ bytes → ((cs : List ℕ) → IsVerdict limit schema cs (verdict limit schema cs))
      → Answers r (verdict limit schema (chars text)) → Reads r
  text_is text r valid same law told =
      let utf8 : IsUtf8 text = subst IsUtf8 (sym same) valid in
      answered (chars text) r (verdict limit schema (chars text)) (record { scalars = scalars-chars text utf8; encoded = sym same ∙ sym (encodes-chars text utf8) }) (law (chars text)) told

  pub bad_is : (n : ℕ) (good : List ℕ) (p : Place) (x : Fault) → IsValidUpTo bytes n → good ≡ take n bytes → place_view p ≡ place_after origin (chars good)
      → x ≡ Refused (refusal 1 p) → IfRefused x (BytesRefused limit schema bytes)
  bad_is n good p x longest front there told =
      subst (λ (y : Fault). IfRefused y (BytesRefused limit schema bytes)) (sym told)
      (no_text (place_view p) (record { count = n; longest = longest; behind = there ∙ ap (λ (bs : List ℕ). place_after origin (chars bs)) front }) refl, refl)
