-- Tokens with their places apart, and a whole query: its table's name, then its condition.
use Rattle.std.proofs.Common.{ℕ, ◌≡◌, refl, sym, ◌∙◌, ap, subst, Bool, true, false, not, List, [], ◌∷◌, ◌++◌, drop, map, append-nil, append_assoc}
use Rattle.std.proofs.lemmas.List.{map-append}
use Rattle.sig_base.specs.declared.refusal.Place.{Place}
use Rattle.sig_base.specs.declared.refusal.Fault.{Fault}
use Rattle.sig_base.specs.declared.refusal.Fault.TheVariants.{Refused}
use Rattle.sig_base.specs.Judged.{refusal}
use Rattle.event_schema.specs.declared.schema.Field.{Field}
use Rattle.event_schema.specs.declared.schema.Schema.{Schema}
use Rattle.sql_lang.specs.Expression.{Expr, or_expr}
use Rattle.query_tokens.specs.Places.{At, code_at, code_at_if, nth}
use Rattle.query_tokens.specs.Tokens.{sorts, places}
use Rattle.sql_lang.specs.Grammar.{Query}
use Rattle.sql_lang.specs.Names.{is_named}
use Rattle.sql_lang.specs.Tokens as lang
use Rattle.sql_scan.specs.declared.token.Sort.{Sort}
use Rattle.sql_scan.specs.declared.token.Token.{Token}
use Rattle.query_tokens.specs.PlaceView.{place_view}
use Rattle.sql_scan.specs.View.{sort_view, tokens_view}
use Rattle.sql_check.specs.Refused.{refusal_of}
use Rattle.sql_read.specs.Checks.{Check, sure, AreBuilt, StopsFor, or_checks, query_checks}
use Rattle.sql_read.specs.Walks.{WalkStops}

pub sorts_go : (done new : List Sort) (left more : List Token) (t : Token) (all : List lang.Sort) → map sort_view done ++ sorts (tokens_view left) ≡ all → left ≡ t ∷ more
    → new ≡ done ++ t.sort ∷ [] → map sort_view new ++ sorts (tokens_view more) ≡ all
sorts_go done new left more t all kept is pushed =
    ap (λ (xs : List Sort). map sort_view xs ++ sorts (tokens_view more)) pushed
    ∙ (ap (λ (ys : List lang.Sort). ys ++ sorts (tokens_view more)) (map-append sort_view done (t.sort ∷ []))
    ∙ (append_assoc (map sort_view done) (sort_view t.sort ∷ []) (sorts (tokens_view more))
    ∙ (ap (λ (xs : List Token). map sort_view done ++ sorts (tokens_view xs)) (sym is) ∙ kept)))

pub places_go : (done new : List Place) (left more : List Token) (t : Token) (all : List At) → map place_view done ++ places (tokens_view left) ≡ all → left ≡ t ∷ more
    → new ≡ done ++ t.place ∷ [] → map place_view new ++ places (tokens_view more) ≡ all
places_go done new left more t all kept is pushed =
    ap (λ (xs : List Place). map place_view xs ++ places (tokens_view more)) pushed
    ∙ (ap (λ (ys : List At). ys ++ places (tokens_view more)) (map-append place_view done (t.place ∷ []))
    ∙ (append_assoc (map place_view done) (place_view t.place ∷ []) (places (tokens_view more))
    ∙ (ap (λ (xs : List Token). map place_view done ++ places (tokens_view xs)) (sym is) ∙ kept)))

pub sorts_end : (done : List Sort) (left gone whole : List Token) → map sort_view done ++ sorts (tokens_view left) ≡ sorts (tokens_view gone) → left ≡ [] → gone ≡ whole
    → map sort_view done ≡ sorts (tokens_view whole)
sorts_end done left gone whole kept is same =
    sym (append-nil (map sort_view done)) ∙ (ap (λ (xs : List Token). map sort_view done ++ sorts (tokens_view xs)) (sym is) ∙ (kept ∙ ap (λ (xs : List Token). sorts (tokens_view xs)) same))

pub places_end : (done : List Place) (left gone whole : List Token) → map place_view done ++ places (tokens_view left) ≡ places (tokens_view gone) → left ≡ [] → gone ≡ whole
    → map place_view done ≡ places (tokens_view whole)
places_end done left gone whole kept is same =
    sym (append-nil (map place_view done)) ∙ (ap (λ (xs : List Token). map place_view done ++ places (tokens_view xs)) (sym is) ∙ (kept ∙ ap (λ (xs : List Token). places (tokens_view xs)) same))

-- ---- the query

module _ (schema : Schema) (q : Query) (ps : List At) where
  abbrev table_checks : Bool → List Check
  table_checks known = sure (code_at_if (not known) 122 (nth ps 3)) ++ or_checks schema.fields q.condition (drop 5 ps)

  pub table_stop : (before : List (List ℕ)) (p : Place) (f : Fault) → is_named q.table schema.table ≡ false → place_view p ≡ nth ps 3 → f ≡ Refused (refusal 122 p)
      → WalkStops before before (query_checks schema q ps) f
  table_stop before p f unknown there is =
      let told : StopsFor before before (refusal 122 p) (table_checks false) = (refl, ap (λ (a : At). refusal_of (code_at 122 a)) there) in
      subst (WalkStops before before (query_checks schema q ps)) (sym is) (subst (λ (b : Bool). StopsFor before before (refusal 122 p) (table_checks b)) (sym unknown) told)

  pub query_stop : (before after : List (List ℕ)) (qs : List At) (stop : Fault) → is_named q.table schema.table ≡ true → qs ≡ drop 5 ps
      → WalkStops before after (or_checks schema.fields q.condition qs) stop → WalkStops before after (query_checks schema q ps) stop
  query_stop before after qs stop known behind h =
      subst (λ (b : Bool). WalkStops before after (table_checks b) stop) (sym known)
      (subst (λ (us : List At). WalkStops before after (or_checks schema.fields q.condition us) stop) behind h)

  pub query_built : (qs : List At) → is_named q.table schema.table ≡ true → qs ≡ drop 5 ps → AreBuilt (or_checks schema.fields q.condition qs) → AreBuilt (query_checks schema q ps)
  query_built qs known behind h =
      subst (λ (b : Bool). AreBuilt (table_checks b)) (sym known) (subst (λ (us : List At). AreBuilt (or_checks schema.fields q.condition us)) behind h)

  module _ (fields : List Field) (same : fields ≡ schema.fields) (known : is_named q.table schema.table ≡ true) (qs : List At) (behind : qs ≡ drop 5 ps) (before after : List (List ℕ)) where
    pub walked_ok : (e : Expr) (rest past : List At) → (after ≡ before) × AreBuilt (or_checks fields q.condition qs) × (e ≡ or_expr fields q.condition) × (rest ≡ past)
        → (after ≡ before) × AreBuilt (query_checks schema q ps) × (e ≡ or_expr schema.fields q.condition)
    walked_ok e rest past h = (
      h.0,
      query_built qs known behind (subst (λ (fs : List Field). AreBuilt (or_checks fs q.condition qs)) same h.1),
      h.2 ∙ ap (λ (fs : List Field). or_expr fs q.condition) same,
    )

    pub walked_err : (stop : Fault) → WalkStops before after (or_checks fields q.condition qs) stop → WalkStops before after (query_checks schema q ps) stop
    walked_err stop h = query_stop before after qs stop known behind (subst (λ (fs : List Field). WalkStops before after (or_checks fs q.condition qs) stop) same h)
