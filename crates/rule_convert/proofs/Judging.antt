-- Why a rule has no query, line by line.
use Rattle.std.proofs.Common.{ℕ, ◌≡◌, Bool, List, [], ◌∷◌, Option, Some, None, refl, sym, subst, ◌∙◌, append-nil}
use Rattle.std.specs.Prelude.{min, ◌^◌, ◌-◌, option_map, Result, Ok, Err}
use Rattle.backend_core.proofs.Checks.{parts, rest_decides, line_decides}
use Rattle.backend_core.specs.Trees.{Plain}
use Rattle.backend_core.specs.Writing.{at_most, write_checks, write_refusal, Writes}
use Rattle.backend_core.specs.declared.lack.Lack.{Lack}
use Rattle.backend_core.specs.declared.tree.Leaf.{Leaf}
use Rattle.event_schema.specs.declared.schema.Schema.{Schema}
use Rattle.pipeline_run.specs.Chained.{run_pipelines, Makes, Gives}
use Rattle.pipeline_model.specs.declared.pipeline.Pipeline.{Pipeline}
use Rattle.rule_lowering.specs.Leaves.{leaves}
use Rattle.rule_lowering.specs.Refused.{leaves_refusal}
use Rattle.rule_lowering.specs.TreeOf.{tree_of}
use Rattle.rule_regex.proofs.BuiltRows.{built_at}
use Rattle.rule_regex.proofs.Documents.{found_items, found_none, no_items}
use Rattle.rule_regex.proofs.Lists.{zip_map}
use Rattle.rule_regex.specs.Building.{Builds, FoundUnbuilt}
use Rattle.rule_regex.specs.ForUnbuilt.{ForItems, ForUnbuilt, is_answered}
use Rattle.rule_regex.specs.Unbuilt.{Unbuilt, of_values, IsOneOf, IsOfItem, unbuilt_refusal}
use Rattle.rule_detections.specs.declared.expression.Expression.{Expression}
use Rattle.rule_model.specs.Expressions.{document_expressions, rule_expressions}
use Rattle.rule_model.specs.Plain.{PlainRule, rule_with}
use Rattle.rule_model.specs.Rules.{lone_refusal, IsRule, IsLoneRule}
use Rattle.rule_convert.specs.Queries.{rule_tree, query_under, query_of, query_refusal, filled_checks, checks_under, query_checks}
use Rattle.rule_convert.specs.Rebuilt.{Rebuilt, IsUnmade, ForChained, makes_none, makes_one}
use Rattle.rule_convert.specs.Verdicts.{ConvertAnswers, no_rule, not_made, no_query}
use Rattle.rule_schema.specs.Inferred.{schema_for, open_refusal, made_refusal, fit_refusal}
use Rattle.sig_base.proofs.Firsts.{judged_as}
use Rattle.sig_base.specs.Judged.{first, Judged}
use Rattle.sig_base.specs.declared.limits.Limits.{Limits}
use Rattle.sig_base.specs.declared.refusal.Fault.{Fault}
use Rattle.sig_base.specs.declared.refusal.Fault.TheVariants.{Memory, Refused}
use Rattle.sig_base.specs.declared.refusal.Place.{Place}
use Rattle.sig_base.specs.declared.refusal.Refusal.{Refusal}
use Rattle.yaml_tree.specs.Tree.{Tree, Member}

module _ (missing : Schema → Leaf → Option Lack) (text : Schema → Plain → List ℕ) (too_deep : Limits → Schema → Plain → Place → Option Refusal) where
  pub record NoLine (limits : Limits) (given : Option Schema) (rule : PlainRule) : Type 0 where
    pub filled : open_refusal rule ≡ None
    pub made : made_refusal given rule ≡ None
    pub fits : fit_refusal (schema_for given rule) rule ≡ None
    pub written : write_refusal missing text too_deep limits (schema_for given rule) (tree_of (schema_for given rule) rule) rule.head.place ≡ None

  abbrev leaves_line : Limits → Schema → PlainRule → Option Refusal
  leaves_line limits schema rule = at_most 110 rule.head.place (min (leaves (rule_tree schema rule)) (2 ^ 127 - 1)) (leaves (rule_tree schema rule)) limits.leaves

  -- 48 at the first item of which a regular expression isn't built once more
  abbrev built_line : List Place → PlainRule → Option Refusal
  built_line unbuilt rule = unbuilt_refusal unbuilt (rule_expressions rule)

  pub no_line : (unbuilt : List Place) (limits : Limits) (given : Option Schema) (rule : PlainRule) → query_refusal missing text too_deep unbuilt limits given rule ≡ None → NoLine limits given rule
  unfolding rule_tree
  no_line unbuilt limits given rule e =
      let schema = schema_for given rule in
      let o = parts (open_refusal rule) (filled_checks missing text too_deep unbuilt limits given rule) e in
      let a = parts (made_refusal given rule) (checks_under missing text too_deep unbuilt limits schema rule) o.1 in
      let b = parts (fit_refusal schema rule) (query_checks missing text too_deep unbuilt limits schema rule) a.1 in
      let c = parts (leaves_line limits schema rule) (built_line unbuilt rule ∷ write_checks missing text too_deep limits schema (rule_tree schema rule) rule.head.place) b.1 in
      let d = parts (built_line unbuilt rule) (write_checks missing text too_deep limits schema (rule_tree schema rule) rule.head.place) c.1 in
      record { filled = o.0; made = a.0; fits = b.0; written = d.1 }

  -- what is answered of the rule's tree, where its leaves are few enough
  pub written : (unbuilt : List Place) (limits : Limits) (rule : PlainRule) (schema : Schema) (t : Plain) (r : Result (List ℕ) Fault) → t ≡ tree_of schema rule
      → leaves_refusal limits schema rule ≡ None
      → Judged (λ bytes. bytes ≡ text schema t) (first (built_line unbuilt rule ∷ write_checks missing text too_deep limits schema t rule.head.place)) r
      → Judged (λ bytes. bytes ≡ query_under text schema rule) (first (query_checks missing text too_deep unbuilt limits schema rule)) r
  unfolding query_under rule_tree
  written unbuilt limits rule schema t r e few judged =
      let own : Plain = tree_of schema rule in
      let lines : Plain → List (Option Refusal) = λ x. built_line unbuilt rule ∷ write_checks missing text too_deep limits schema x rule.head.place in
      let at_tree : Judged (λ bytes. bytes ≡ text schema own) (first (lines own)) r = subst (λ (x : Plain). Judged (λ bytes. bytes ≡ text schema x) (first (lines x)) r) e judged in
      judged_as (λ (bytes : List ℕ). bytes ≡ text schema own) (λ (bytes : List ℕ). bytes ≡ query_under text schema rule)
      (first (lines own)) (first (query_checks missing text too_deep unbuilt limits schema rule)) r
      (rest_decides (leaves_line limits schema rule) (lines own) few) (λ bytes is. is) at_tree

  -- the tree has too many leaves, or there is no memory for it
  pub too_many : {Y : Type 0} (limits : Limits) (rule : PlainRule) (schema : Schema) (P : Y → Type 0) (fault : Fault) → Judged P (leaves_refusal limits schema rule) (Err fault)
      → Judged (λ bytes. bytes ≡ query_under text schema rule) (first (query_checks missing text too_deep [] limits schema rule)) (Err fault)
  unfolding rule_tree
  too_many limits rule schema P Memory judged = tt
  too_many limits rule schema P (Refused r) e =
      line_decides (leaves_line limits schema rule) r (built_line [] rule ∷ write_checks missing text too_deep limits schema (rule_tree schema rule) rule.head.place) e

  -- a regular expression isn't built, or there is no memory for it
  pub not_built : {X Y : Type 0} (unbuilt : List Place) (limits : Limits) (rule : PlainRule) (schema : Schema) (t : Plain) (place : Place) (P : X → Type 0) (Q : Y → Type 0) (fault : Fault)
      → Judged P (built_line unbuilt rule) (Err fault) → Judged Q (first (built_line unbuilt rule ∷ write_checks missing text too_deep limits schema t place)) (Err fault)
  not_built unbuilt limits rule schema t place P Q Memory judged = tt
  not_built unbuilt limits rule schema t place P Q (Refused r) e = line_decides (built_line unbuilt rule) r (write_checks missing text too_deep limits schema t place) e

  -- all are built, so the backend decides
  pub all_built : (unbuilt : List Place) (limits : Limits) (rule : PlainRule) (schema : Schema) (t : Plain) (place : Place) (r : Result (List ℕ) Fault) → built_line unbuilt rule ≡ None
      → Writes missing text too_deep limits schema t place r → Judged (λ bytes. bytes ≡ text schema t) (first (built_line unbuilt rule ∷ write_checks missing text too_deep limits schema t place)) r
  all_built unbuilt limits rule schema t place r none writes =
      judged_as (λ (bytes : List ℕ). bytes ≡ text schema t) (λ (bytes : List ℕ). bytes ≡ text schema t) (write_refusal missing text too_deep limits schema t place)
      (first (built_line unbuilt rule ∷ write_checks missing text too_deep limits schema t place)) r
      (rest_decides (built_line unbuilt rule) (write_checks missing text too_deep limits schema t place) none) (λ bytes is. is) writes

  -- no schema is made of the rule
  pub unmade : {X Y : Type 0} (unbuilt : List Place) (limits : Limits) (rule : PlainRule) (P : X → Type 0) (Q : Y → Type 0) (fault : Fault)
      → Judged P (made_refusal None rule) (Err fault) → Judged Q (first (filled_checks missing text too_deep unbuilt limits None rule)) (Err fault)
  unmade unbuilt limits rule P Q Memory judged = tt
  unmade unbuilt limits rule P Q (Refused r) is = line_decides (made_refusal None rule) r (checks_under missing text too_deep unbuilt limits (schema_for None rule) rule) is

  -- the rule doesn't fit the schema that is made of it, or there is no memory to see whether it does
  pub unfit_made : {Y : Type 0} (unbuilt : List Place) (limits : Limits) (rule : PlainRule) (schema : Schema) (Q : Y → Type 0) (fault : Fault)
      → (made_refusal None rule ≡ None) × (schema ≡ schema_for None rule)
      → Judged {X = Unit {0}} (λ done. Unit {0}) (fit_refusal schema rule) (Err fault) → Judged {X = Y} Q (first (filled_checks missing text too_deep unbuilt limits None rule)) (Err fault)
  unfit_made unbuilt limits rule schema Q Memory made judged = tt
  unfit_made unbuilt limits rule schema Q (Refused r) made is =
      rest_decides (made_refusal None rule) (checks_under missing text too_deep unbuilt limits (schema_for None rule) rule) made.0
      ∙ line_decides (fit_refusal (schema_for None rule) rule) r (query_checks missing text too_deep unbuilt limits (schema_for None rule) rule)
      (subst (λ (s : Schema). fit_refusal s rule ≡ Some r) made.1 is)

  -- what is answered of a rule that fits the schema that is made of it
  pub written_made : (unbuilt : List Place) (limits : Limits) (rule : PlainRule) (schema : Schema) (r : Result (List ℕ) Fault)
      → (made_refusal None rule ≡ None) × (schema ≡ schema_for None rule) → fit_refusal schema rule ≡ None
      → Judged (λ bytes. bytes ≡ query_under text schema rule) (first (query_checks missing text too_deep unbuilt limits schema rule)) r
      → Judged (λ bytes. bytes ≡ query_of text None rule) (first (filled_checks missing text too_deep unbuilt limits None rule)) r
  written_made unbuilt limits rule schema r made fits judged =
      let own = schema_for None rule in
      let at_own : Judged (λ bytes. bytes ≡ query_under text own rule) (first (query_checks missing text too_deep unbuilt limits own rule)) r =
      subst (λ (s : Schema). Judged (λ bytes. bytes ≡ query_under text s rule) (first (query_checks missing text too_deep unbuilt limits s rule)) r) made.1 judged in
      judged_as (λ (bytes : List ℕ). bytes ≡ query_under text own rule) (λ (bytes : List ℕ). bytes ≡ query_of text None rule)
      (first (query_checks missing text too_deep unbuilt limits own rule)) (first (filled_checks missing text too_deep unbuilt limits None rule)) r
      (rest_decides (made_refusal None rule) (checks_under missing text too_deep unbuilt limits own rule) made.0
      ∙ rest_decides (fit_refusal own rule) (query_checks missing text too_deep unbuilt limits own rule) (subst (λ (s : Schema). fit_refusal s rule ≡ None) made.1 fits))
      (λ bytes is. is) at_own

  -- where no schema is given, what is said of none
  pub given_none : {T : Type 0} (schema_of : T → Schema) (given : Option T) (unbuilt : List Place) (limits : Limits) (rule : PlainRule) (r : Result (List ℕ) Fault) → given ≡ None
      → Judged (λ bytes. bytes ≡ query_of text None rule) (first (filled_checks missing text too_deep unbuilt limits None rule)) r
      → Judged (λ bytes. bytes ≡ query_of text (option_map schema_of given) rule) (first (filled_checks missing text too_deep unbuilt limits (option_map schema_of given) rule)) r
  given_none schema_of None unbuilt limits rule r none judged = judged
  given_none schema_of (Some x) unbuilt limits rule r none judged = absurd cc

  -- what a node's conversion answers
  pub node_answers : (unbuilt : Unbuilt) (limits : Limits) (ps : List Pipeline) (given : Option Schema) (t : Tree) (rule made : PlainRule) (r : Result (List ℕ) Fault)
      → IsLoneRule unbuilt.values limits t rule → Makes limits ps rule made
      → Judged (λ bytes. bytes ≡ query_of text given made) (query_refusal missing text too_deep unbuilt.items limits given made) r → ConvertAnswers missing text too_deep unbuilt limits ps given t r
  node_answers unbuilt limits ps given t rule made (Ok bytes) lone makes j = (made, record { rule = rule; lone = lone; makes = makes; written = j.0 }, j.1)
  node_answers unbuilt limits ps given t rule made (Err Memory) lone makes j = tt
  node_answers unbuilt limits ps given t rule made (Err (Refused r)) lone makes j = no_query rule made lone makes j

  -- the same of what is made of a rule that was read without the other entries of its head, which no query asks for
  pub bare_answers : (unbuilt : Unbuilt) (limits : Limits) (ps : List Pipeline) (given : Option Schema) (t : Tree) (rest : List Member) (rule made : PlainRule) (r : Result (List ℕ) Fault)
      → IsLoneRule unbuilt.values limits t (rule_with rest rule) → Makes limits ps (rule_with rest rule) (rule_with rest made)
      → Judged (λ bytes. bytes ≡ query_of text given made) (query_refusal missing text too_deep unbuilt.items limits given made) r → ConvertAnswers missing text too_deep unbuilt limits ps given t r
  unfolding query_under rule_tree
  bare_answers unbuilt limits ps None t rest rule made r lone makes j = node_answers unbuilt limits ps None t (rule_with rest rule) (rule_with rest made) r lone makes j
  bare_answers unbuilt limits ps (Some schema) t rest rule made r lone makes j = node_answers unbuilt limits ps (Some schema) t (rule_with rest rule) (rule_with rest made) r lone makes j

  -- no rule is made
  pub unmade_answers : (unbuilt : Unbuilt) (limits : Limits) (ps : List Pipeline) (given : Option Schema) (t : Tree) (rule : PlainRule) (r : Result (List ℕ) Fault)
      → IsLoneRule unbuilt.values limits t rule → IsUnmade (run_pipelines limits ps rule) r → ConvertAnswers missing text too_deep unbuilt limits ps given t r
  unmade_answers unbuilt limits ps given t rule (Ok bytes) lone none = absurd none
  unmade_answers unbuilt limits ps given t rule (Err Memory) lone none = tt
  unmade_answers unbuilt limits ps given t rule (Err (Refused r)) lone none = not_made rule lone none

  -- no rule was read
  pub unread_answers : {X : Type 0} (unbuilt : Unbuilt) (limits : Limits) (ps : List Pipeline) (given : Option Schema) (t : Tree) (P : X → Type 0) (fault : Fault)
      → Judged P (lone_refusal unbuilt.values limits t) (Err fault) → ConvertAnswers missing text too_deep unbuilt limits ps given t (Err fault)
  unread_answers unbuilt limits ps given t P Memory j = tt
  unread_answers unbuilt limits ps given t P (Refused r) j = no_rule j

  -- a placeholder of the rule stands open
  pub stands_open : (limits : Limits) (given : Option Schema) (rule : PlainRule) (texts : List (List ℕ)) (r : Refusal) → open_refusal rule ≡ Some r
      → Rebuilt (rule_expressions rule) texts texts (λ unbuilt. Judged (λ bytes. bytes ≡ query_of text given rule) (query_refusal missing text too_deep unbuilt limits given rule) (Err (Refused r)))
  stands_open limits given rule texts r is = record {
    unbuilt = [];
    refused = [];
    follows = sym (append-nil texts);
    places = tt;
    says = line_decides (open_refusal rule) r (filled_checks missing text too_deep [] limits given rule) is;
  }

  -- or none does
  pub stands_filled : (limits : Limits) (given : Option Schema) (rule : PlainRule) (before after : List (List ℕ)) (r : Result (List ℕ) Fault) → open_refusal rule ≡ None
      → Rebuilt (rule_expressions rule) before after (λ unbuilt. Judged (λ bytes. bytes ≡ query_of text given rule) (first (filled_checks missing text too_deep unbuilt limits given rule)) r)
      → Rebuilt (rule_expressions rule) before after (λ unbuilt. Judged (λ bytes. bytes ≡ query_of text given rule) (query_refusal missing text too_deep unbuilt limits given rule) r)
  stands_filled limits given rule before after r none h = record {
    unbuilt = h.unbuilt;
    refused = h.refused;
    follows = h.follows;
    places = h.places;
    says = judged_as (λ (bytes : List ℕ). bytes ≡ query_of text given rule) (λ (bytes : List ℕ). bytes ≡ query_of text given rule)
        (first (filled_checks missing text too_deep h.unbuilt limits given rule)) (query_refusal missing text too_deep h.unbuilt limits given rule) r
        (rest_decides (open_refusal rule) (filled_checks missing text too_deep h.unbuilt limits given rule) none) (λ bytes is. is) h.says;
  }

  -- the rule doesn't fit the given schema
  pub unfit_under : (limits : Limits) (rule : PlainRule) (schema : Schema) (texts : List (List ℕ)) (r : Refusal) → fit_refusal schema rule ≡ Some r
      → Rebuilt (rule_expressions rule) texts texts (λ unbuilt. Judged (λ bytes. bytes ≡ query_under text schema rule) (first (checks_under missing text too_deep unbuilt limits schema rule)) (Err (Refused r)))
  unfit_under limits rule schema texts r is = record {
    unbuilt = [];
    refused = [];
    follows = sym (append-nil texts);
    places = tt;
    says = line_decides (fit_refusal schema rule) r (query_checks missing text too_deep [] limits schema rule) is;
  }

  -- or it does
  pub fits_under : (limits : Limits) (rule : PlainRule) (schema : Schema) (before after : List (List ℕ)) (r : Result (List ℕ) Fault) → fit_refusal schema rule ≡ None
      → Rebuilt (rule_expressions rule) before after (λ unbuilt. Judged (λ bytes. bytes ≡ query_under text schema rule) (first (query_checks missing text too_deep unbuilt limits schema rule)) r)
      → Rebuilt (rule_expressions rule) before after (λ unbuilt. Judged (λ bytes. bytes ≡ query_under text schema rule) (first (checks_under missing text too_deep unbuilt limits schema rule)) r)
  fits_under limits rule schema before after r none h = record {
    unbuilt = h.unbuilt;
    refused = h.refused;
    follows = h.follows;
    places = h.places;
    says = judged_as (λ (bytes : List ℕ). bytes ≡ query_under text schema rule) (λ (bytes : List ℕ). bytes ≡ query_under text schema rule)
        (first (query_checks missing text too_deep h.unbuilt limits schema rule)) (first (checks_under missing text too_deep h.unbuilt limits schema rule)) r
        (rest_decides (fit_refusal schema rule) (query_checks missing text too_deep h.unbuilt limits schema rule) none) (λ bytes is. is) h.says;
  }

  -- the same for places of items, of a tree that was lowered
  pub rule_written : (limits : Limits) (rule : PlainRule) (schema : Schema) (t : Plain) (before after : List (List ℕ)) (r : Result (List ℕ) Fault) → t ≡ tree_of schema rule
      → leaves_refusal limits schema rule ≡ None
      → Rebuilt (rule_expressions rule) before after (λ unbuilt. Judged (λ bytes. bytes ≡ text schema t) (first (built_line unbuilt rule ∷ write_checks missing text too_deep limits schema t rule.head.place)) r)
      → Rebuilt (rule_expressions rule) before after (λ unbuilt. Judged (λ bytes. bytes ≡ query_under text schema rule) (first (query_checks missing text too_deep unbuilt limits schema rule)) r)
  rule_written limits rule schema t before after r e few h =
      record { unbuilt = h.unbuilt; refused = h.refused; follows = h.follows; places = h.places; says = written h.unbuilt limits rule schema t r e few h.says }

-- ---- for places of items

module _ (es : List Expression) where
  pub rebuilt_as : (before after : List (List ℕ)) (P Q : List Place → Type 0) → ((unbuilt : List Place) → P unbuilt → Q unbuilt) → Rebuilt es before after P → Rebuilt es before after Q
  rebuilt_as before after P Q f h = record { unbuilt = h.unbuilt; refused = h.refused; follows = h.follows; places = h.places; says = f h.unbuilt h.says }

  pub rebuilt_none : (texts : List (List ℕ)) (P : List Place → Type 0) → P [] → Rebuilt es texts texts P
  rebuilt_none texts P h = record { unbuilt = []; refused = []; follows = sym (append-nil texts); places = tt; says = h }

  pub rebuilt_by : {X : Type 0} (before after : List (List ℕ)) (Is : X → Type 0) (r : Result X Fault) (P : List Place → Type 0)
      → ((unbuilt : List Place) → Judged Is (unbuilt_refusal unbuilt es) r → P unbuilt) → Builds Is es before after r → Rebuilt es before after P
  rebuilt_by before after Is r P f built =
      let at = built_at Is es before after r built in
      record { unbuilt = at.items; refused = at.refused; follows = at.follows; places = at.places; says = f at.items at.judged }

-- for a rule that was made of the document's
pub rebuilt_items : (IsMade : PlainRule → PlainRule → Type 0) (t : Tree) (rule made : PlainRule) (values : List Place) (before after : List (List ℕ)) (P : List Place → Type 0) (Q : Unbuilt → Type 0)
    → IsRule t rule → IsMade rule made
    → ((earlier refused : List (List ℕ)) (items : List Place) → P items → Q (record { values = values; refused_values = earlier; items = items; refused_items = refused }))
    → Rebuilt (rule_expressions made) before after P → ForItems IsMade t values before after Q
rebuilt_items IsMade t rule made values before after P Q is makes f h = record {
  items = h.unbuilt;
  refused = h.refused;
  follows = h.follows;
  are = zip_map (λ text place. IsOneOf (rule_expressions made) (record { place = place; text = text })) (λ text place. IsOfItem IsMade t (record { place = place; text = text }))
      (λ text place one. (rule, is, made, makes, one)) h.refused h.unbuilt h.places;
  says = λ earlier. f earlier h.refused h.unbuilt h.says;
}

-- ---- for places of values, which the code reads as a slice

module _ (limits : Limits) (t : Tree) (values slice : List Place) (same : slice ≡ values) (before mid : List (List ℕ))
    (found : FoundUnbuilt (document_expressions limits t) before mid (Ok values)) where
  pub node_converted : (IsMade : PlainRule → PlainRule → Type 0) (after : List (List ℕ)) (ended : Bool) (Says : Unbuilt → Type 0)
      → ForItems IsMade t slice mid after Says → ForUnbuilt IsMade limits t before after ended Says
  node_converted IsMade after ended Says h =
      found_items IsMade limits t values before mid after ended Says found (subst (λ (places : List Place). ForItems IsMade t places mid after Says) same h)

-- what pipelines make of a rule, with the other entries of its head
abbrev MadeWith : Limits → List Pipeline → Type 0
MadeWith limits ps = (rest : List Member) (rule made : PlainRule) → Makes limits ps rule made → Makes limits ps (rule_with rest rule) (rule_with rest made)

abbrev RefusedWith : Limits → List Pipeline → Type 0
RefusedWith limits ps = (rest : List Member) (rule : PlainRule) (r : Refusal) → run_pipelines limits ps rule ≡ Err r → run_pipelines limits ps (rule_with rest rule) ≡ Err r

-- no rule is made of one
module _ (missing : Schema → Leaf → Option Lack) (text : Schema → Plain → List ℕ) (too_deep : Limits → Schema → Plain → Place → Option Refusal) where
  pub chain_unmade : (limits : Limits) (ps : List Pipeline) (given : Option Schema) (rule : PlainRule) (texts : List (List ℕ)) (fault : Fault) → Gives (run_pipelines limits ps rule) (Err fault)
      → ForChained missing text too_deep limits ps given rule texts texts (Err fault)
  chain_unmade limits ps given rule texts Memory gives = makes_none tt refl
  chain_unmade limits ps given rule texts (Refused r) gives = makes_none gives refl

unmade_with : (limits : Limits) (ps : List Pipeline) (rest : List Member) (rule : PlainRule) (r : Result (List ℕ) Fault) → RefusedWith limits ps
    → IsUnmade (run_pipelines limits ps rule) r → IsUnmade (run_pipelines limits ps (rule_with rest rule)) r
unmade_with limits ps rest rule (Ok bytes) kept none = none
unmade_with limits ps rest rule (Err Memory) kept none = none
unmade_with limits ps rest rule (Err (Refused r)) kept none = kept rest rule r none

module _ (missing : Schema → Leaf → Option Lack) (text : Schema → Plain → List ℕ) (too_deep : Limits → Schema → Plain → Place → Option Refusal) (limits : Limits) (ps : List Pipeline)
    (given : Option Schema) (t : Tree) where
  abbrev Answered : Result (List ℕ) Fault → Unbuilt → Type 0
  Answered r unbuilt = ConvertAnswers missing text too_deep unbuilt limits ps given t r

  pub none_converted : (before after : List (List ℕ)) (fault : Fault) → FoundUnbuilt (document_expressions limits t) before after (Err fault)
      → ForUnbuilt (Makes limits ps) limits t before after (is_answered {X = List ℕ} (Err fault)) (Answered (Err fault))
  none_converted before after fault found =
      found_none (Makes limits ps) limits t {X = List ℕ} before after (λ unbuilt r. Answered r unbuilt) fault found (λ unbuilt. tt)

  -- no rule was read of the document
  pub none_read : {X : Type 0} (values : List Place) (texts : List (List ℕ)) (P : X → Type 0) (fault : Fault)
      → Judged P (lone_refusal values limits t) (Err fault) → ForItems (Makes limits ps) t values texts texts (Answered (Err fault))
  none_read values texts P fault judged =
      no_items (Makes limits ps) limits t values texts (Answered (Err fault))
      (λ earlier. unread_answers missing text too_deep (of_values values earlier) limits ps given t P fault judged)

  -- a rule was read of it, and what pipelines make of it is converted
  pub one_read : (rest : List Member) (rule : PlainRule) (values : List Place) (before after : List (List ℕ)) (r : Result (List ℕ) Fault) → MadeWith limits ps → RefusedWith limits ps
      → (lone_refusal values limits t ≡ None) × IsRule t (rule_with rest rule) → ForChained missing text too_deep limits ps given rule before after r
      → ForItems (Makes limits ps) t values before after (Answered r)
  one_read rest rule values before after r made_with refused_with is (makes_none none same) =
      subst (λ (texts : List (List ℕ)). ForItems (Makes limits ps) t values before texts (Answered r)) (sym same)
      (no_items (Makes limits ps) limits t values before (Answered r)
      (λ earlier. unmade_answers missing text too_deep (of_values values earlier) limits ps given t (rule_with rest rule) r (record { taken = is.0; is = is.1 })
      (unmade_with limits ps rest rule r refused_with none)))
  one_read rest rule values before after r made_with refused_with is (makes_one made so h) =
      let with_rest = made_with rest rule made so in
      rebuilt_items (Makes limits ps) t (rule_with rest rule) (rule_with rest made) values before after
      (λ items. Judged (λ bytes. bytes ≡ query_of text given made) (query_refusal missing text too_deep items limits given made) r) (Answered r) is.1 with_rest
      (λ earlier refused items judged. bare_answers missing text too_deep (record { values = values; refused_values = earlier; items = items; refused_items = refused }) limits ps given t rest rule made r
      (record { taken = is.0; is = is.1 }) with_rest judged) h
