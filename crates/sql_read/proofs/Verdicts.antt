-- What the reader answers is what is said of the text, and of its bytes.
use Rattle.std.specs.Prelude.{Result, Ok, Err, Option, Some, None, nat_lt, if◌then◌else◌}
use Rattle.std.proofs.Common.{ℕ, zero, suc, ◌≡◌, ◌+◌, ◌≤◌, refl, sym, ◌∙◌, ap, subst, Bool, true, false, List, [], ◌∷◌, length, take, map, append-nil, arith}
use Rattle.std.specs.Str.{chars, is_utf8, IsUtf8, IsValidUpTo}
use Rattle.std.proofs.lemmas.Bool.{ltb-true, ltb-false}
use Rattle.std.proofs.lemmas.Str.{encodes-chars, scalars-chars, is_utf8-from_IsUtf8, IsUtf8-from_is_utf8}
use Rattle.sig_base.specs.declared.limits.Limits.{Limits}
use Rattle.sig_base.specs.declared.refusal.Place.{Place}
use Rattle.sig_base.specs.declared.refusal.Refusal.{Refusal}
use Rattle.sig_base.specs.declared.refusal.Fault.{Fault}
use Rattle.sig_base.specs.declared.refusal.Fault.TheVariants.{Memory, Refused}
use Rattle.sig_base.specs.Judged.{refusal}
use Rattle.event_schema.specs.Lists.{EachOf, SomeOf}
use Rattle.event_schema.specs.declared.schema.Schema.{Schema}
use Rattle.query_lang.specs.Answers.{ReadAnswers, place_of}
use Rattle.query_lang.specs.Patterns.{is_pattern}
use Rattle.query_lang.specs.RefusedPlaces.{PatternAt, is_of_pattern, AreOfPatterns, AreRefused}
use Rattle.query_tokens.specs.Places.{At, origin, place_after, CodeAt, code_at, IsText, IsBadAt}
use Rattle.query_tokens.specs.Tokens.{sorts, places, token_place}
use Rattle.sql_lang.specs.Expression.{Expr, or_expr, depth}
use Rattle.sql_lang.specs.Grammar.{Query, spell_query, StopsAt}
use Rattle.sql_lang.specs.Reading.{Reads, Refuses, no_token, nested, stopped, deep, faulty, first_other, nests_too_far, BytesRead, BytesRefused, no_text, no_query, IsRefusedPlace}
use Rattle.sql_lang.specs.Regexps.{regexps, byte_regexps}
use Rattle.sql_lang.specs.Rising.{AreRising}
use Rattle.sql_lang.specs.Tokens.{Token, Sort, tokens}
use Rattle.sql_lang.specs.Queries.{IsWithin}
use Rattle.sql_lang.specs.View.{expr_view}
use Rattle.sql_lang.specs.declared.query.Select.{Select}
use Rattle.sql_scan.specs.declared.token.Token.{Token as ReadToken}
use Rattle.query_tokens.specs.PlaceView.{place_view, place_if}
use Rattle.sql_scan.specs.View.{tokens_view}
use Rattle.sql_read.specs.Answers.{SelectAnswers, place_or, IsTextStop, TextStops, TextAnswers, IsRefused}
use Rattle.sql_read.specs.Checks.{Check, Sure, Builds, AreBuilt, query_checks}
use Rattle.sql_read.specs.Walks.{WalkStops}
use Rattle.sql_read.proofs.Looked.{looked, query_own}
use Rattle.sql_read.proofs.Regexps.{patterns_of, regexps_are}
use Rattle.sql_read.proofs.Choosing.{Follow, follow, Cause, bad, bad_caused, bad_placed, chosen, none_found}

pub place_told : (cs : List ℕ) (ts : List Token) (k : ℕ) → token_place cs ts k ≡ place_or (places ts) k (place_after origin cs)
place_told cs [] k = refl
place_told cs (t ∷ ts) zero = refl
place_told cs (t ∷ ts) (suc k) = place_told cs ts k

all_patterns : (cs : List Check) → AreBuilt cs → EachOf (λ (p : PatternAt). is_pattern p.pattern ≡ true) (patterns_of cs)
all_patterns [] h = tt
all_patterns (Sure f ∷ cs) h = absurd h
all_patterns (Builds p ∷ cs) h = (h.0, all_patterns cs h.1)

module _ (limit : ℕ) (schema : Schema) (cs : List ℕ) (before after : List (List ℕ)) where
  pub text_stop : (code : ℕ) (p : Place) (f : Fault) → f ≡ Refused (refusal code p) → is_of_pattern code ≡ false → after ≡ before
      → ((refused : List CodeAt) → Refuses limit schema refused cs (code_at code (place_view p))) → TextStops limit schema cs before after f
  text_stop code p f is own same first =
      let told : IsTextStop limit schema cs before after (refusal code p) = record {
        gained = [];
        follows = same ∙ sym (append-nil before);
        own = tt;
        places = bad (regexps cs);
        are = record { caused = bad_caused [] (regexps cs); all = bad_placed (regexps cs) };
        first = first (bad (regexps cs));
        bare = refl;
        built = λ so. absurd (let e : false ≡ true = sym own ∙ so in cc);
      } in
      subst (TextStops limit schema cs before after) (sym is) told

  -- a text of which no token is left out, and which doesn't nest too far
  module _ (none : first_other (tokens cs) ≡ None) (near : nests_too_far limit (sorts (tokens cs)) ≡ false) where
    pub stopped_is : (front rest : List Sort) (n : ℕ) (p end : Place) (ps : List At) (f : Fault) → StopsAt (sorts (tokens cs)) front rest → length front ≡ n
        → ps ≡ places (tokens cs) → place_view end ≡ place_after origin cs → place_view p ≡ place_or ps n (place_view end)
        → f ≡ Refused (refusal 120 p) → after ≡ before → TextStops limit schema cs before after f
    stopped_is front rest n p end ps f stops count are there at is same =
        let told : place_view p ≡ token_place cs (tokens cs) (length front) =
        at ∙ (ap (λ (qs : List At). place_or qs n (place_view end)) are ∙ (ap (place_or (places (tokens cs)) n) there
        ∙ (sym (place_told cs (tokens cs) n) ∙ ap (token_place cs (tokens cs)) (sym count)))) in
        text_stop 120 p f is refl same (λ refused. stopped front rest none near stops (ap (code_at 120) told))

    pub stops_told : (ts : List Sort) → ts ≡ sorts (tokens cs) → (n : ℕ) → ((front : List Sort) × (rest : List Sort) × StopsAt ts front rest × (length front ≡ n))
        → (p end : Place) (slice qs : List Place) (f : Fault) → slice ≡ qs → map place_view qs ≡ places (tokens cs) → place_view end ≡ place_after origin cs
        → place_view p ≡ place_or (map place_view slice) n (place_view end) → f ≡ Refused (refusal 120 p) → after ≡ before → TextStops limit schema cs before after f
    stops_told ts is n (front, rest, stops, count) p end slice qs f alike are there at told same =
        stopped_is front rest n p end (map place_view slice) f (subst (λ (us : List Sort). StopsAt us front rest) is stops) count (ap (map place_view) alike ∙ are) there at told same

    pub deep_is : (q : Query) (f : Fault) → spell_query q ≡ sorts (tokens cs) → nat_lt limit (depth (or_expr schema.fields q.condition)) ≡ true
        → f ≡ Refused (refusal 124 (record { line = 1; column = 1 })) → after ≡ before → TextStops limit schema cs before after f
    deep_is q f spelled far is same =
        text_stop 124 (record { line = 1; column = 1 }) f is refl same
        (λ refused. deep q none near spelled (ltb-true limit (depth (or_expr schema.fields q.condition)) far) refl)

    module _ (rising : AreRising (places (tokens cs))) (q : Query) (spelled : spell_query q ≡ sorts (tokens cs))
        (shallow : depth (or_expr schema.fields q.condition) ≤ limit) where
      abbrev checks : List Check
      checks = query_checks schema q (places (tokens cs))

      are : regexps cs ≡ patterns_of checks
      are = regexps_are schema q (tokens cs) spelled

      query_stop : (stop : Fault) → WalkStops before after checks stop → TextStops limit schema cs before after stop
      query_stop Memory h = h
      query_stop (Refused r) h =
          let c = chosen before after r checks (subst Follow are (follow false (tokens cs) rising)) (query_own schema q (places (tokens cs))) h in
          record {
            gained = c.gained;
            follows = c.follows;
            own = subst (λ (ps : List PatternAt). AreOfPatterns ps c.gained) (sym are) c.own;
            places = c.places;
            are = subst (λ (ps : List PatternAt). AreRefused ps c.gained c.places) (sym are) c.are;
            first = faulty q none near spelled shallow c.more (looked schema c.places q (places (tokens cs)) ∙ c.first);
            bare = c.bare;
            built = λ so. subst (λ (ps : List PatternAt). SomeOf (Cause c.gained r) ps) (sym are) (c.built so);
          }

      pub query_is : (r : Result Select Fault) → SelectAnswers before after checks (or_expr schema.fields q.condition) r → TextAnswers limit schema cs before after r
      query_is (Ok s) h = (
        h.0,
        record {
          reads = record { query = q; spelled = spelled; faultless = looked schema [] q (places (tokens cs)) ∙ none_found checks h.1; means = h.2 };
          nests = near;
          deep = subst (λ (e : Expr). depth e ≤ limit) (sym h.2) shallow;
        },
        subst (λ (ps : List PatternAt). EachOf (λ (p : PatternAt). is_pattern p.pattern ≡ true) ps) (sym are) (all_patterns checks h.1),
      )
      query_is (Err stop) h = query_stop stop h

    pub read_is : AreRising (places (tokens cs)) → (q : Query) (slice qs : List Place) → spell_query q ≡ sorts (tokens cs) → nat_lt limit (depth (or_expr schema.fields q.condition)) ≡ false
        → slice ≡ qs → map place_view qs ≡ places (tokens cs) → (r : Result Select Fault)
        → SelectAnswers before after (query_checks schema q (map place_view slice)) (or_expr schema.fields q.condition) r → TextAnswers limit schema cs before after r
    read_is rising q slice qs spelled shallow alike are r h =
        query_is rising q spelled (ltb-false limit (depth (or_expr schema.fields q.condition)) shallow) r
        (subst (λ (us : List At). SelectAnswers before after (query_checks schema q us) (or_expr schema.fields q.condition) r) (ap (map place_view) alike ∙ are) h)

-- ---- the tokens in code

module _ (limit : ℕ) (schema : Schema) (cs : List ℕ) (before : List (List ℕ)) (ts : List ReadToken) (scanned : tokens_view ts ≡ tokens cs) where
  pub other_told : (slice : List ReadToken) (o : Option Place) → slice ≡ ts → place_if o ≡ first_other (tokens_view slice) → first_other (tokens cs) ≡ place_if o
  other_told slice o same is = sym (is ∙ (ap (λ (us : List ReadToken). first_other (tokens_view us)) same ∙ ap first_other scanned))

  pub near_told : (slice : List ReadToken) (b : Bool) → slice ≡ ts → b ≡ nests_too_far limit (sorts (tokens_view slice)) → nests_too_far limit (sorts (tokens cs)) ≡ b
  near_told slice b same is = sym (is ∙ (ap (λ (us : List ReadToken). nests_too_far limit (sorts (tokens_view us))) same ∙ ap (λ us. nests_too_far limit (sorts us)) scanned))

  pub other_is : (slice : List ReadToken) (o : Option Place) (p : Place) (f : Fault) → slice ≡ ts → place_if o ≡ first_other (tokens_view slice) → o ≡ Some p
      → f ≡ Refused (refusal 121 p) → TextStops limit schema cs before before f
  other_is slice o p f same is some told =
      text_stop limit schema cs before before 121 p f told refl refl (λ refused. no_token (place_view p) (other_told slice o same is ∙ ap place_if some) refl)

  pub nested_is : (slice others : List ReadToken) (o : Option Place) (b : Bool) (f : Fault) → slice ≡ ts → place_if o ≡ first_other (tokens_view slice) → o ≡ None
      → others ≡ ts → b ≡ nests_too_far limit (sorts (tokens_view others)) → b ≡ true → f ≡ Refused (refusal 124 (record { line = 1; column = 1 })) → TextStops limit schema cs before before f
  nested_is slice others o b f same is none alike far so told =
      text_stop limit schema cs before before 124 (record { line = 1; column = 1 }) f told refl refl
      (λ refused. nested (other_told slice o same is ∙ ap place_if none) (near_told others b alike far ∙ so) refl)

-- ---- bytes

abbrev pub Reading : Limits → Schema → List ℕ → List (List ℕ) → List (List ℕ) → Result Select Fault → Type 0
Reading limits schema bytes before after r =
    ReadAnswers (λ (s : Select). Reads schema bytes (expr_view s.condition)) (λ (s : Select). IsWithin limits schema bytes (expr_view s.condition))
    (IsRefused limits schema bytes) (byte_regexps bytes) before after r

abbrev pub Law : ℕ → Schema → List ℕ → Type 0
Law limit schema bytes = (refused : List CodeAt) (e : Expr) (f : CodeAt) → BytesRead limit schema bytes e → BytesRefused limit schema refused bytes f → IsRefusedPlace refused f

no_refusal_placed : (ps : List PatternAt) → EachOf (λ (p : PatternAt). is_pattern p.pattern ≡ true) ps
    → EachOf (λ (p : PatternAt). is_pattern p.pattern ≡ false → SomeOf (λ (r : CodeAt). r.place ≡ p.place) []) ps
no_refusal_placed [] h = tt
no_refusal_placed (p ∷ ps) h = ((λ is. absurd (let e : false ≡ true = sym is ∙ h.0 in cc)), no_refusal_placed ps h.1)

none_refused : (b : Bool) → false ≡ true → ⊥
none_refused b e = absurd cc

module _ (limits : Limits) (schema : Schema) (bytes : List ℕ) (before after : List (List ℕ)) (short : length bytes ≤ limits.query_bytes + 1)
    (law : Law limits.sql_depth schema bytes) where
  unread_is : (places : List CodeAt) (r : Refusal) → BytesRefused limits.sql_depth schema places bytes (code_at r.code (place_of r)) → is_of_pattern r.code ≡ false
      → (s : Select) → Reads schema bytes (expr_view s.condition) → IsWithin limits schema bytes (expr_view s.condition) → ⊥
  unread_is places r first own s reads within =
      let found = law places (expr_view s.condition) (code_at r.code (place_of r)) within.reads first in
      none_refused true (sym own ∙ found.1)

  bytes_are : (cs : List ℕ) (r : Result Select Fault) → IsText bytes cs → byte_regexps bytes ≡ regexps cs → TextAnswers limits.sql_depth schema cs before after r
      → Reading limits schema bytes before after r
  bytes_are cs (Ok s) text are h =
      let e = expr_view s.condition in
      let read : BytesRead limits.sql_depth schema bytes e = record { characters = cs; text = text; reads = h.1 } in
      record {
        gained = [];
        follows = h.0 ∙ sym (append-nil before);
        answers = record {
          query = record { characters = cs; scalars = text.scalars; encoded = text.encoded; reads = h.1.reads };
          within = record { short = short; reads = read };
          built = refl;
          places = [];
          are = subst (λ (ps : List PatternAt). AreRefused ps [] []) (sym are) (record { caused = tt; all = no_refusal_placed (regexps cs) h.2 });
          unrefused = λ r first. none_refused true (law [] e (code_at r.code (place_of r)) read first.first).0;
        };
      }
  bytes_are cs (Err Memory) text are h = record { gained = []; follows = h ∙ sym (append-nil before); answers = refl }
  bytes_are cs (Err (Refused r)) text are h =
      let first = no_query cs text h.first in
      record {
        gained = h.gained;
        follows = h.follows;
        answers = record {
          own = subst (λ (ps : List PatternAt). AreOfPatterns ps h.gained) (sym are) h.own;
          places = h.places;
          are = subst (λ (ps : List PatternAt). AreRefused ps h.gained h.places) (sym are) h.are;
          first = record { first = first; plain = h.bare };
          built = λ so. subst (λ (ps : List PatternAt). SomeOf (Cause h.gained r) ps) (sym are) (h.built so);
          unread = λ own s reads within. unread_is h.places r first own s reads within;
        };
      }

  pub text_is : (text : List ℕ) (r : Result Select Fault) → IsUtf8 bytes → text ≡ bytes → TextAnswers limits.sql_depth schema (chars text) before after r
      → Reading limits schema bytes before after r
  text_is text r valid same told =
      let utf8 : IsUtf8 text = subst IsUtf8 (sym same) valid in
      let so : is_utf8 bytes ≡ true = is_utf8-from_IsUtf8 bytes valid in
      let are : byte_regexps bytes ≡ regexps (chars text) = ap (λ (b : Bool). if b then regexps (chars bytes) else []) so ∙ ap (λ (bs : List ℕ). regexps (chars bs)) (sym same) in
      bytes_are (chars text) r (record { scalars = scalars-chars text utf8; encoded = sym same ∙ sym (encodes-chars text utf8) }) are told

  take_all : (m : ℕ) (bs : List ℕ) → length bs ≤ m → take m bs ≡ bs
  take_all zero [] h = refl
  take_all zero (b ∷ bs) h = absurd (omega arith)
  take_all (suc m) [] h = refl
  take_all (suc m) (b ∷ bs) h = ap (λ (cs : List ℕ). b ∷ cs) (take_all m bs (omega arith))

  no_utf8 : (n : ℕ) → IsValidUpTo bytes n → is_utf8 bytes ≡ false
  no_utf8 n longest = by (is_utf8 bytes) refl where
    by : (b : Bool) → is_utf8 bytes ≡ b → is_utf8 bytes ≡ false
    by true e = absurd (longest.longest (length bytes) longest.short (subst IsUtf8 (sym (take_all (length bytes) bytes (omega arith))) (IsUtf8-from_is_utf8 bytes e)))
    by false e = e

  pub bad_is : (n : ℕ) (good : List ℕ) (p : Place) (f : Fault) → IsValidUpTo bytes n → good ≡ take n bytes → place_view p ≡ place_after origin (chars good)
      → f ≡ Refused (refusal 1 p) → after ≡ before → Reading limits schema bytes before after (Err f)
  bad_is n good p f longest front there is same =
      let none : byte_regexps bytes ≡ [] = ap (λ (b : Bool). if b then regexps (chars bytes) else []) (no_utf8 n longest) in
      let at : IsBadAt bytes (place_view p) = record { count = n; longest = longest; behind = there ∙ ap (λ (bs : List ℕ). place_after origin (chars bs)) front } in
      let first : BytesRefused limits.sql_depth schema [] bytes (code_at 1 (place_view p)) = no_text (place_view p) at refl in
      let told : Reading limits schema bytes before after (Err (Refused (refusal 1 p))) = record {
        gained = [];
        follows = same ∙ sym (append-nil before);
        answers = record {
          own = tt;
          places = [];
          are = subst (λ (ps : List PatternAt). AreRefused ps [] []) (sym none) (record { caused = tt; all = tt });
          first = record { first = first; plain = refl };
          built = λ so. absurd (let e : false ≡ true = so in cc);
          unread = λ own s reads within. unread_is [] (refusal 1 p) first own s reads within;
        };
      } in
      subst (λ (g : Fault). Reading limits schema bytes before after (Err g)) (sym is) told
