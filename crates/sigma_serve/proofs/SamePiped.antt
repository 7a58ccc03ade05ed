-- A file that is pipelines in one call, and is refused in another one, is refused there for regular expressions of it that the builder refused.
use Rattle.std.proofs.Common.{◌≡◌, ℕ, Bool, true, false, not, List, [], ◌∷◌, ◌++◌, map, length, refl, ap, sym, ◌∙◌, subst, Option, Some, None, Ok, Err, inl, inr}
use Rattle.std.specs.Prelude.{◌||◌, if◌then◌else◌, nat_le}
use Rattle.std.specs.List.{list_any, AllZip}
use Rattle.answer_writer.specs.Parts.{Share, joined}
use Rattle.event_schema.specs.Lists.{EachOf, SomeOf, HasElement}
use Rattle.query_lang.specs.RefusedPlaces.{IsAmong}
use Rattle.modifier_words.specs.Chains.{chain_refusal}
use Rattle.modifier_words.specs.Written.{Written}
use Rattle.pipeline_files.specs.Outcomes.{Outcome, IsOutcome, refusals_in, ArePipelines, AreCauses, as_one, by_document}
use Rattle.pipeline_files.specs.Paired.{paired}
use Rattle.pipeline_files.specs.Places.{pipeline_expressions, AreOfDocument, AreOfPipelines, file_texts}
use Rattle.pipeline_check.specs.Causes.{is_before, sooner, sooner_of, least}
use Rattle.pipeline_model.specs.Checks.{shape_refusal as document_shape, added_in, steps_in, items_refusal, all_items_refusal, pipeline_refusal}
use Rattle.pipeline_model.specs.declared.pipeline.Pipeline.{Pipeline}
use Rattle.rule_regex.proofs.Lists.{each_map, some_left, some_right, zip_some}
use Rattle.rule_regex.specs.Unbuilt.{Unbuilt, none_unbuilt, refused_texts, ArePlacesOf, IsOneOf}
use Rattle.rule_detections.specs.Items.{key_chain, shape_refusal, values_refusal, item_refusal}
use Rattle.rule_detections.specs.Keys.{words_in, is_keyword_key, is_item_key}
use Rattle.rule_detections.specs.declared.expression.Expression.{Expression}
use Rattle.rule_model.proofs.Places.{among}
use Rattle.sig_base.specs.Judged.{must, first, refusal as refusal_at}
use Rattle.sig_base.specs.declared.limits.Limits.{Limits}
use Rattle.sig_base.specs.declared.refusal.Place.{Place}
use Rattle.sig_base.specs.declared.refusal.Refusal.{Refusal}
use Rattle.rule_detections.specs.TestsOf.{use_of, value_refusal}
use Rattle.sigma_serve.specs.SameLines.{IsOfDocument, IsOfRefused}
use Rattle.sigma_serve.specs.UnderPipelines.{AreReported}
use Rattle.modifier_values.specs.Expressions.{is_same_place, is_built_at}
use Rattle.modifier_values.specs.Uses.{Use, expression_in, use_checks, use_refusal}
use Rattle.yaml_documents.specs.Verdicts as yaml
use Rattle.yaml_tree.specs.Nodes.{is_empty, key_place, parts_in, place_of}
use Rattle.yaml_tree.specs.Tree.{Tree, Member, Answer as Document, tree, refusal}

some_none : (r : Refusal) → Some r ≡ None → ⊥
some_none r same = cc

some_same : (q r : Refusal) → Some q ≡ Some r → q ≡ r
some_same q r same = cc

-- ---- such a regular expression, and the builder refused its text, where 48 is at its place

abbrev pub RefusedOf : (Expression → Type 0) → List (List ℕ) → Refusal → Type 0
RefusedOf Is refused_so r = (e : Expression) × Is e × (r ≡ refusal_at 48 e.place) × IsAmong e.text refused_so

pub refused_of : (Is : Expression → Type 0) (refused_so : List (List ℕ)) (places : List Place) (r : Refusal) → ArePlacesOf Is refused_so places → SomeOf (λ place. place ≡ r.place) places → r ≡ refusal_at 48 r.place
    → RefusedOf Is refused_so r
refused_of Is refused_so places r are some coded =
    let one = zip_some (λ text place. Is (record { place = place; text = text })) refused_so places (λ place. place ≡ r.place) are some in
    (record { place = one.1; text = one.0 }, one.3, coded ∙ ap (refusal_at 48) (sym one.4), one.2)

-- ---- the refusal of a table that comes first by its place

module _ (P : Refusal → Type 0) where
  abbrev Has : Option Refusal → Type 0
  Has check = (r : Refusal) → check ≡ Some r → P r

  sooner_has : (a b : Option Refusal) → Has a → Has b → Has (sooner a b)
  sooner_has None b first_has second_has = second_has
  sooner_has (Some q) None first_has second_has = first_has
  sooner_has (Some q) (Some s) first_has second_has = by (is_before s q)
    where
      by : (before : Bool) → Has (if before then Some s else Some q)
      by true = second_has
      by false = first_has

  fold_has : (found : Option Refusal) (checks : List (Option Refusal)) → Has found → EachOf Has checks → Has (sooner_of found checks)
  fold_has found [] has each = has
  fold_has found (check ∷ checks) has each = fold_has (sooner found check) checks (sooner_has found check has each.0) each.1

sooner_none : (a b : Option Refusal) → sooner a b ≡ None → (a ≡ None) × (b ≡ None)
sooner_none None b none = (refl, none)
sooner_none (Some q) None none = absurd (some_none q none)
sooner_none (Some q) (Some s) none = absurd (by (is_before s q) none)
  where
    by : (before : Bool) → (if before then Some s else Some q) ≡ None → ⊥
    by true none = some_none s none
    by false none = some_none q none

fold_none : (found : Option Refusal) (checks : List (Option Refusal)) → sooner_of found checks ≡ None → (found ≡ None) × EachOf (λ check. check ≡ None) checks
fold_none found [] none = (none, tt)
fold_none found (check ∷ checks) none =
    let rest = fold_none (sooner found check) checks none in
    let both = sooner_none found check rest.0 in
    (both.0, (both.1, rest.1))

-- ---- tables where regular expressions aren't built at some places, and where they aren't at these, `later`

-- 48 at one of these places
abbrev IsAt : List Place → Refusal → Type 0
IsAt later r = (r ≡ refusal_at 48 r.place) × SomeOf (λ place. place ≡ r.place) later

module _ (later : List Place) where
  -- where the one refuses nothing, the other one refuses by 48 at one of these places, if at all
  record IsRefusedLater (a b : Option Refusal) : Type 0 where
    so : a ≡ None → (r : Refusal) → b ≡ Some r → IsAt later r

  as_ever : (check : Option Refusal) → IsRefusedLater check check
  as_ever check = record { so = λ none r some. absurd (some_none r (sym some ∙ none)) }

  line_later : (a b : Option Refusal) (cs ds : List (Option Refusal)) → IsRefusedLater a b → IsRefusedLater (first cs) (first ds) → IsRefusedLater (first (a ∷ cs)) (first (b ∷ ds))
  line_later None None cs ds one more = more
  line_later None (Some q) cs ds one more = record { so = λ none r some. one.so refl r some }
  line_later (Some q) b cs ds one more = record { so = λ none r some. absurd (some_none q none) }

  -- a table and one beside it
  record AreTables (cs ds : List (Option Refusal)) : Type 0 where
    are : IsRefusedLater (first cs) (first ds)

  last_line : (a b : Option Refusal) → IsRefusedLater a b → AreTables (a ∷ []) (b ∷ [])
  last_line a b one = record { are = line_later a b [] [] one (as_ever None) }

  more_lines : (line : Option Refusal) (cs ds : List (Option Refusal)) → AreTables cs ds → AreTables (line ∷ cs) (line ∷ ds)
  more_lines line cs ds more = record { are = line_later line line cs ds (as_ever line) more.are }

  module _ {X : Type 0} (f g : X → Option Refusal) (one : (x : X) → IsRefusedLater (f x) (g x)) where
    first_later : (xs : List X) → IsRefusedLater (first (map f xs)) (first (map g xs))
    first_later [] = as_ever None
    first_later (x ∷ xs) = line_later (f x) (g x) (map f xs) (map g xs) (one x) (first_later xs)

    each_later : (xs : List X) → EachOf (λ check. check ≡ None) (map f xs) → EachOf (Has (IsAt later)) (map g xs)
    each_later [] none = tt
    each_later (x ∷ xs) none = ((one x).so none.0, each_later xs none.1)

    least_later : (xs : List X) → IsRefusedLater (least (map f xs)) (least (map g xs))
    least_later xs = record { so = λ none. fold_has (IsAt later) None (map g xs) (λ r some. absurd (some_none r (sym some))) (each_later xs (fold_none None (map f xs) none).1) }

  module _ (unbuilt : List Place) where
    built_later : (place : Place) (e : Option (List ℕ)) → IsRefusedLater (must 48 place (is_built_at unbuilt place e)) (must 48 place (is_built_at later place e))
    built_later place None = as_ever None
    built_later place (Some text) = by (list_any (is_same_place place) later) refl
      where
        by : (b : Bool) → list_any (is_same_place place) later ≡ b → IsRefusedLater (must 48 place (is_built_at unbuilt place (Some text))) (must 48 place (not b))
        by false there = record { so = λ none r some. absurd (some_none r (sym some)) }
        by true there = record { so = λ none r some. subst (λ (s : Refusal). IsAt later s) (some_same (refusal_at 48 place) r some) (refl, among later place there) }

    use_later : (most dashes : ℕ) (chain : Written) (place : Place) (u : Use) → IsRefusedLater (use_refusal unbuilt most dashes chain place u) (use_refusal later most dashes chain place u)
    use_later most dashes chain place u =
        let tables : AreTables (use_checks unbuilt most dashes chain place u) (use_checks later most dashes chain place u) =
        more_lines _ _ _ (more_lines _ _ _ (more_lines _ _ _ (more_lines _ _ _ (more_lines _ _ _ (more_lines _ _ _ (more_lines _ _ _ (more_lines _ _ _ (more_lines _ _ _ (more_lines _ _ _
        (last_line _ _ (built_later place (expression_in u)))))))))))) in
        tables.are

    abbrev value_lines : List Place → Limits → Written → Place → Tree → List (Option Refusal)
    value_lines places limits chain place t =
        first (map shape_refusal (parts_in t))
        ∷ must 78 (place_of t) (not (is_empty (parts_in t)))
        ∷ must 79 place (nat_le (length (parts_in t)) limits.list_values)
        ∷ first (map (value_refusal places limits.value_chars limits.dashes chain) (parts_in t))
        ∷ []

    values_later : (limits : Limits) (chain : Written) (place : Place) (t : Tree) → IsRefusedLater (values_refusal unbuilt limits chain place t) (values_refusal later limits chain place t)
    values_later limits chain place t =
        let value = λ (v : Tree). use_later limits.value_chars limits.dashes chain (place_of v) (use_of chain v) in
        let each = first_later (value_refusal unbuilt limits.value_chars limits.dashes chain) (value_refusal later limits.value_chars limits.dashes chain) value (parts_in t) in
        let tables : AreTables (value_lines unbuilt limits chain place t) (value_lines later limits chain place t) =
        more_lines _ _ _ (more_lines _ _ _ (more_lines _ _ _ (last_line _ _ each))) in
        tables.are

    abbrev item_lines : List Place → Limits → Member → List (Option Refusal)
    item_lines places limits e =
        must 71 (key_place e) (is_item_key e.key)
        ∷ chain_refusal (is_keyword_key e.key) (key_place e) (words_in e.key)
        ∷ values_refusal places limits (key_chain e) (key_place e) e.value
        ∷ []

    item_later : (limits : Limits) (e : Member) → IsRefusedLater (item_refusal unbuilt limits e) (item_refusal later limits e)
    item_later limits e =
        let tables : AreTables (item_lines unbuilt limits e) (item_lines later limits e) =
        more_lines _ _ _ (more_lines _ _ _ (last_line _ _ (values_later limits (key_chain e) (key_place e) e.value))) in
        tables.are

    items_later : (limits : Limits) (t : Tree) → IsRefusedLater (items_refusal unbuilt limits t) (items_refusal later limits t)
    items_later limits t = least_later (item_refusal unbuilt limits) (item_refusal later limits) (item_later limits) (added_in t)

    pipeline_later : (limits : Limits) (t : Tree) → IsRefusedLater (pipeline_refusal unbuilt limits t) (pipeline_refusal later limits t)
    pipeline_later limits t = record {
      so = λ none.
          let both = sooner_none (document_shape t) (all_items_refusal unbuilt limits t) none in
          sooner_has (IsAt later) (document_shape t) (all_items_refusal later limits t) (λ r some. absurd (some_none r (sym some ∙ both.0)))
          ((least_later (items_refusal unbuilt limits) (items_refusal later limits) (items_later limits) (steps_in t)).so both.1);
    }

-- ---- documents

module _ (limits : Limits) where
  abbrev IsOf : Unbuilt × Document → Outcome → Type 0
  IsOf d outcome = IsOutcome d.0.values limits d.1 outcome

  abbrev IsOfSome : List Document → Expression → Type 0
  IsOfSome documents e = SomeOf (λ d. IsOfDocument limits d e) documents

  document_refused : (values : List Place) (unbuilt : Unbuilt) (d : Document) (p : Pipeline) (r : Refusal) → IsOutcome values limits d (Ok p) → AreOfDocument limits true (unbuilt, d)
      → IsOutcome unbuilt.values limits d (Err r) → RefusedOf (IsOfDocument limits d) (refused_texts unbuilt) r
  document_refused values unbuilt (tree t) p r taken are refused =
      let at = (pipeline_later unbuilt.values values limits t).so taken.taken r refused in
      let one = refused_of (IsOneOf (pipeline_expressions limits t)) unbuilt.refused_values unbuilt.values r are.places at.1 at.0 in
      (one.0, one.1, one.2, some_left (λ (text : List ℕ). text ≡ one.0.text) unbuilt.refused_values unbuilt.refused_items one.3)
  document_refused values unbuilt (refusal y) p r taken are refused = absurd taken

  -- all documents are pipelines, with the first places beside them: then each refusal, with the second ones beside them, is of such a regular expression
  abbrev AllRefused : List Document → List (Unbuilt × Document) → List (Unbuilt × Document) → List (List ℕ) → Type 0
  AllRefused documents before after texts =
      (xs ys : List Outcome) → AllZip IsOf before xs → AllZip IsOf after ys → refusals_in xs ≡ [] → EachOf (AreOfDocument limits true) after
      → EachOf (RefusedOf (IsOfSome documents) texts) (refusals_in ys)

  behind : (d : Document) (ds : List Document) (v : Unbuilt) (vs : List Unbuilt) (ys : List Outcome) → EachOf (RefusedOf (IsOfSome ds) (file_texts vs)) (refusals_in ys)
      → EachOf (RefusedOf (IsOfSome (d ∷ ds)) (refused_texts v ++ file_texts vs)) (refusals_in ys)
  behind d ds v vs ys each =
      each_map (RefusedOf (IsOfSome ds) (file_texts vs)) (RefusedOf (IsOfSome (d ∷ ds)) (refused_texts v ++ file_texts vs)) (refusals_in ys)
      (λ r one. (one.0, inr one.1, one.2, some_right (λ (text : List ℕ). text ≡ one.0.text) (refused_texts v) (file_texts vs) one.3)) each

  one_more : (d : Document) (ds : List Document) (u v : Unbuilt) (us vs : List Unbuilt) → AllRefused ds (paired none_unbuilt us ds) (paired none_unbuilt vs ds) (file_texts vs)
      → AllRefused (d ∷ ds) ((u, d) ∷ paired none_unbuilt us ds) ((v, d) ∷ paired none_unbuilt vs ds) (refused_texts v ++ file_texts vs)
  one_more d ds u v us vs more [] ys is too none are = absurd is
  one_more d ds u v us vs more (x ∷ xs) [] is too none are = absurd too
  one_more d ds u v us vs more (Err q ∷ xs) (y ∷ ys) is too none are = absurd cc
  one_more d ds u v us vs more (Ok p ∷ xs) (Ok q ∷ ys) is too none are = behind d ds v vs ys (more xs ys is.1 too.1 none are.1)
  one_more d ds u v us vs more (Ok p ∷ xs) (Err r ∷ ys) is too none are =
      let one = document_refused u.values v d p r is.0 are.0 too.0 in
      ((one.0, inl one.1, one.2, some_left (λ (text : List ℕ). text ≡ one.0.text) (refused_texts v) (file_texts vs) one.3), behind d ds v vs ys (more xs ys is.1 too.1 none are.1))

  all_refused : (documents : List Document) (us vs : List Unbuilt) → AllRefused documents (paired none_unbuilt us documents) (paired none_unbuilt vs documents) (file_texts vs)
  all_refused [] us vs [] [] is too none are = tt
  all_refused [] us vs [] (y ∷ ys) is too none are = absurd too
  all_refused [] us vs (x ∷ xs) ys is too none are = absurd is
  all_refused (d ∷ ds) [] [] xs ys is too none are = one_more d ds none_unbuilt none_unbuilt [] [] (all_refused ds [] []) xs ys is too none are
  all_refused (d ∷ ds) [] (v ∷ vs) xs ys is too none are = one_more d ds none_unbuilt v [] vs (all_refused ds [] vs) xs ys is too none are
  all_refused (d ∷ ds) (u ∷ us) [] xs ys is too none are = one_more d ds u none_unbuilt us [] (all_refused ds us []) xs ys is too none are
  all_refused (d ∷ ds) (u ∷ us) (v ∷ vs) xs ys is too none are = one_more d ds u v us vs (all_refused ds us vs) xs ys is too none are

-- ---- the file

pub has_cause : (unbuilt : List Unbuilt) (limits : Limits) (bytes : List ℕ) (causes : List Refusal) → AreCauses unbuilt limits bytes causes → HasElement causes
has_cause unbuilt limits bytes causes (as_one y is same) = subst (λ (rs : List Refusal). HasElement rs) (sym same) tt
has_cause unbuilt limits bytes causes (by_document outcomes read same some) = some

pub pipelines_refused : yaml.NeverBoth → yaml.OneList → (limits : Limits) (bytes : List ℕ) (us vs : List Unbuilt) (ps : List Pipeline) → ArePipelines us limits bytes ps → AreOfPipelines limits bytes true vs
    → (causes : List Refusal) → AreCauses vs limits bytes causes → EachOf (IsOfRefused limits bytes (file_texts vs)) causes
pipelines_refused never list limits bytes us vs ps taken are causes (as_one y is same) =
    absurd (never limits.file_bytes limits.documents limits.yaml_depth bytes taken.read.documents y taken.read.taken is)
pipelines_refused never list limits bytes us vs ps taken are causes (by_document outcomes read same some) =
    let ds : List Document = taken.read.documents in
    let here : read.documents ≡ ds = list limits.file_bytes limits.documents limits.yaml_depth bytes read.documents ds read.taken taken.read.taken in
    let each = subst (λ (l : List Document). AllZip (IsOf limits) (paired none_unbuilt vs l) outcomes) here read.each in
    let all = all_refused limits ds us vs taken.outcomes outcomes taken.read.each each taken.none (are.each ds taken.read.taken).0 in
    subst (λ (rs : List Refusal). EachOf (IsOfRefused limits bytes (file_texts vs)) rs) (sym same)
    (each_map (RefusedOf (IsOfSome limits ds) (file_texts vs)) (IsOfRefused limits bytes (file_texts vs)) (refusals_in outcomes) (λ r one. (one.0, (ds, taken.read.taken, one.1), one.2, one.3)) all)

-- what reports a cause refuses
pub is_refused : (file : List ℕ) (causes : List Refusal) (share : Share) → HasElement causes → AreReported file causes share → share.refused ≡ true
is_refused file [] share some reported = absurd some
is_refused file (r ∷ rs) share some ([], each, is) = absurd each
is_refused file (r ∷ rs) share some ((s ∷ shares), each, is) =
    ap (λ (x : Share). x.refused) is ∙ ap (λ (x : Share). x.refused || (joined shares).refused) each.0
