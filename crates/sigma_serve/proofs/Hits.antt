-- That the entries of a rule's head that decide nothing decide nothing of what is followed.
use Rattle.std.proofs.Common.{ℕ, ℤ, Bool, List, [], ◌∷◌, map, sym, subst, Option, None, Some, Result, Ok, Err}
use Rattle.std.specs.Prelude.{◌↔◌, IsTrue}
use Rattle.std.specs.List.{AllZip}
use Rattle.answer_writer.specs.FollowedLines.{FollowsWithin}
use Rattle.answer_writer.specs.Parts.{Share}
use Rattle.correlation_files.specs.Found.{IsBareOf}
use Rattle.correlation_run.specs.Followed.{Correlating, AreHits, MomentFollows, early, taken, OccurrenceFollows, EventFollows, Follows}
use Rattle.correlation_windows.specs.History.{Taken}
use Rattle.correlation_windows.specs.declared.bound.Bound.{Bound}
use Rattle.detection_eval.specs.Ready as ready
use Rattle.detection_eval.specs.declared.ready.Ready.{Ready}
use Rattle.event_read.specs.EventOf.{event_of}
use Rattle.event_schema.specs.Occurrence.{Occurrence}
use Rattle.event_schema.specs.declared.schema.Field.{Field}
use Rattle.event_schema.specs.declared.schema.Schema.{Schema}
use Rattle.event_schema.specs.declared.value.Value.{Value}
use Rattle.rule_model.specs.Matching.{Matches}
use Rattle.rule_model.specs.Plain.{PlainRule, rule_view}
use Rattle.rule_model.specs.declared.rule.Rule.{Rule}

abbrev pub views : List Rule → List PlainRule
views items = map rule_view items

module _ (fields : List Field) where
  -- what a rule matches, the one without those entries matches
  pub bare_matches : (row : List (List Value)) (made : PlainRule) (rule : Rule) → IsBareOf made rule → Matches fields row (rule_view rule) ↔ Matches fields row made
  bare_matches row made rule (rest, is) = subst (λ (r : PlainRule). Matches fields row (rule_view rule) ↔ Matches fields row r) is ((λ m. m), (λ m. m))

  module _ (row : List (List Value)) where
    abbrev Hit : PlainRule → Bool → Type 0
    Hit rule hit = IsTrue hit ↔ Matches fields row rule

    hit_of : (made : PlainRule) (rule : Rule) (hit : Bool) → IsBareOf made rule → Hit (rule_view rule) hit → Hit made hit
    hit_of made rule hit bare is = let same = bare_matches row made rule bare in ((λ t. same.0 (is.0 t)), (λ m. is.1 (same.1 m)))

    of_hit : (made : PlainRule) (rule : Rule) (hit : Bool) → IsBareOf made rule → Hit made hit → Hit (rule_view rule) hit
    of_hit made rule hit bare is = let same = bare_matches row made rule bare in ((λ t. same.1 (is.0 t)), (λ m. is.1 (same.0 m)))

    pub bare_hits : (rules : List PlainRule) (items : List Rule) (hits : List Bool) → AllZip IsBareOf rules items → AreHits fields (views items) row hits → AreHits fields rules row hits
    bare_hits [] [] [] bare are = tt
    bare_hits [] [] (h ∷ hits) bare are = absurd are
    bare_hits [] (i ∷ items) hits bare are = absurd bare
    bare_hits (r ∷ rules) [] hits bare are = absurd bare
    bare_hits (r ∷ rules) (i ∷ items) [] bare are = absurd are
    bare_hits (r ∷ rules) (i ∷ items) (h ∷ hits) bare are = (hit_of r i h bare.0 are.0, bare_hits rules items hits bare.1 are.1)

    pub hits_bare : (rules : List PlainRule) (items : List Rule) (hits : List Bool) → AllZip IsBareOf rules items → AreHits fields rules row hits → AreHits fields (views items) row hits
    hits_bare [] [] [] bare are = tt
    hits_bare [] [] (h ∷ hits) bare are = absurd are
    hits_bare [] (i ∷ items) hits bare are = absurd bare
    hits_bare (r ∷ rules) [] hits bare are = absurd bare
    hits_bare (r ∷ rules) (i ∷ items) [] bare are = absurd are
    hits_bare (r ∷ rules) (i ∷ items) (h ∷ hits) bare are = (of_hit r i h bare.0 are.0, hits_bare rules items hits bare.1 are.1)

-- rules that are hit alike are followed alike
module _ (schema : Schema) (rules others : List PlainRule) (bounds : List Bound) (names : List (List ℕ))
    (alike : (row : List (List Value)) (hits : List Bool) → AreHits schema.fields rules row hits → AreHits schema.fields others row hits) where
  abbrev one : Correlating
  one = record { schema = schema; rules = rules; bounds = bounds; names = names }

  abbrev two : Correlating
  two = record { schema = schema; rules = others; bounds = bounds; names = names }

  moment_alike : (history : List Taken) (number : ℕ) (row : List (List Value)) (moment : ℤ) (share : Share) (after : List Taken) → MomentFollows one history number row moment share after
      → MomentFollows two history number row moment share after
  moment_alike history number row moment share after (early last is before told same) = early last is before told same
  moment_alike history number row moment share after (taken behind hits are next is told same) = taken behind hits (alike row hits are) next is told same

  occurrence_alike : (history : List Taken) (number : ℕ) (row : List (List Value)) (moment : Option ℤ) (share : Share) (after : List Taken) → OccurrenceFollows one history number row moment share after
      → OccurrenceFollows two history number row moment share after
  occurrence_alike history number row None share after is = is
  occurrence_alike history number row (Some moment) share after is = moment_alike history number row moment share after is

  event_alike : (history : List Taken) (number : ℕ) (event : Result Occurrence ℕ) (share : Share) (after : List Taken) → EventFollows one history number event share after
      → EventFollows two history number event share after
  event_alike history number (Ok event) share after is = occurrence_alike history number event.values event.moment share after is
  event_alike history number (Err code) share after is = is

  pub follows_alike : FollowsWithin (Follows one) (Follows two)
  follows_alike history number line share after is = event_alike history number (event_of schema line) share after is

-- a rule that is made ready is so without those entries
pub bare_ready : (fields : List Field) (rules : List PlainRule) (items : List Rule) (kept : List Ready) → AllZip IsBareOf rules items → AllZip (ready.StandsFor fields) rules kept
    → AllZip (λ rule ready_rule. ready.StandsFor fields (rule_view rule) ready_rule) items kept
bare_ready fields [] [] [] bare are = tt
bare_ready fields [] [] (k ∷ kept) bare are = absurd are
bare_ready fields [] (i ∷ items) kept bare are = absurd bare
bare_ready fields (r ∷ rules) [] kept bare are = absurd bare
bare_ready fields (r ∷ rules) (i ∷ items) [] bare are = absurd are
bare_ready fields (r ∷ rules) (i ∷ items) (k ∷ kept) bare are = (one_ready bare.0 are.0, bare_ready fields rules items kept bare.1 are.1)
  where
    one_ready : IsBareOf r i → ready.StandsFor fields r k → ready.StandsFor fields (rule_view i) k
    one_ready (rest, is) stands = let whole = subst (λ (rule : PlainRule). ready.StandsFor fields rule k) (sym is) stands in record { is = whole.is }
