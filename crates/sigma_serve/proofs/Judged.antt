-- That each tree has exactly one answer under each command.
use Rattle.std.proofs.Common.{◌≡◌, ℕ, List, refl, ap, sym, ◌∙◌, Option, Some, None, Result, Ok, Err}
use Rattle.answer_writer.specs.Parts.{Share}
use Rattle.correlation_files.specs.Checked.{check_refusal}
use Rattle.event_schema.specs.declared.schema.Schema.{Schema}
use Rattle.pipeline_run.specs.Chained.{run_pipelines, Makes}
use Rattle.pipeline_model.specs.declared.pipeline.Pipeline.{Pipeline}
use Rattle.rule_regex.specs.Unbuilt.{Unbuilt}
use Rattle.rule_model.specs.Plain.{PlainRule}
use Rattle.rule_model.specs.Rules.{lone_refusal, IsLoneRule}
use Rattle.rule_convert.specs.NamedQueries.{query_of, query_refusal, IsConverted, IsRefused}
use Rattle.rule_convert.specs.Verdicts as rules
use Rattle.rule_convert.specs.declared.backend_name.BackendName.{BackendName}
use Rattle.sig_base.specs.Judged.{Judged}
use Rattle.sig_base.specs.declared.limits.Limits.{Limits}
use Rattle.sig_base.specs.declared.refusal.Fault.{Fault}
use Rattle.sig_base.specs.declared.refusal.Place.{Place}
use Rattle.sig_base.specs.declared.refusal.Refusal.{Refusal}
use Rattle.sigma_serve.specs.Check.{CheckGives, accepted, refused}
use Rattle.sigma_serve.specs.Convert.{ConvertGives, has_query, no_query}
use Rattle.sigma_serve.specs.Laws.{EachTree, OneTree, EachLone, OneLone}
use Rattle.sigma_serve.specs.Reports.{ok_line, line_share, refusal_share}
use Rattle.yaml_tree.specs.Nodes.{place_of}
use Rattle.yaml_tree.specs.Tree.{Tree}

-- what checking a tree answers
abbrev pub Checked : Limits → Tree → Result Place Fault → Unbuilt → Type 0
Checked limits t result unbuilt = Judged (λ place. place ≡ place_of t) (check_refusal unbuilt.values limits t) result

pub each_checks : (limits : Limits) (unbuilt : Unbuilt) → EachTree (CheckGives limits unbuilt)
each_checks limits unbuilt name t = by (check_refusal unbuilt.values limits t) refl
  where
    by : (r : Option Refusal) → check_refusal unbuilt.values limits t ≡ r → (share : Share) × CheckGives limits unbuilt name t share
    by None is = (line_share (ok_line name (place_of t)), accepted is refl)
    by (Some r) is = (refusal_share name r, refused r is refl)

pub each_converts : EachLone → (backend : BackendName) (limits : Limits) (ps : List Pipeline) (given : Option Schema) (unbuilt : Unbuilt) → EachTree (ConvertGives backend limits ps given unbuilt)
each_converts each backend limits ps given unbuilt name t = by (lone_refusal unbuilt.values limits t) refl
  where
    queried : (rule made : PlainRule) → IsLoneRule unbuilt.values limits t rule → Makes limits ps rule made → (r : Option Refusal) → query_refusal backend unbuilt.items limits given made ≡ r
        → (share : Share) × ConvertGives backend limits ps given unbuilt name t share
    queried rule made lone makes None is = (line_share (query_of backend given made), has_query made (record { rule = rule; lone = lone; makes = makes; written = is }) refl)
    queried rule made lone makes (Some r) is = (refusal_share name r, no_query r (rules.no_query rule made lone makes is) refl)

    chained : (rule : PlainRule) → IsLoneRule unbuilt.values limits t rule → (result : Result PlainRule Refusal) → run_pipelines limits ps rule ≡ result
        → (share : Share) × ConvertGives backend limits ps given unbuilt name t share
    chained rule lone (Ok made) is = queried rule made lone is (query_refusal backend unbuilt.items limits given made) refl
    chained rule lone (Err r) is = (refusal_share name r, no_query r (rules.not_made rule lone is) refl)

    by : (r : Option Refusal) → lone_refusal unbuilt.values limits t ≡ r → (share : Share) × ConvertGives backend limits ps given unbuilt name t share
    by None is = let rule = each unbuilt.values limits t is in chained rule.0 rule.1 (run_pipelines limits ps rule.0) refl
    by (Some r) is = (refusal_share name r, no_query r (rules.no_rule is) refl)

-- ---- one answer

some_is : (a b : Refusal) → Some a ≡ Some b → a ≡ b
some_is a b same = cc

not_none : (r : Option Refusal) (a : Refusal) → r ≡ None → r ≡ Some a → ⊥
not_none r a none some = apart (sym none ∙ some)
  where
    apart : None ≡ Some a → ⊥
    apart same = cc

one_cause : (r : Option Refusal) (a b : Refusal) → r ≡ Some a → r ≡ Some b → a ≡ b
one_cause r a b first second = some_is a b (sym first ∙ second)

same_refusal : (name : List ℕ) (r s : Refusal) (a b : Share) → r ≡ s → a ≡ refusal_share name r → b ≡ refusal_share name s → a ≡ b
same_refusal name r s a b same first second = first ∙ (ap (λ (x : Refusal). refusal_share name x) same ∙ sym second)

pub one_checks : (limits : Limits) (unbuilt : Unbuilt) → OneTree (CheckGives limits unbuilt)
one_checks limits unbuilt name t a b (accepted so is) (accepted so_too too) = is ∙ sym too
one_checks limits unbuilt name t a b (accepted so is) (refused r so_too too) = absurd (not_none _ r so so_too)
one_checks limits unbuilt name t a b (refused r so is) (accepted so_too too) = absurd (not_none _ r so_too so)
one_checks limits unbuilt name t a b (refused r so is) (refused s so_too too) = same_refusal name r s a b (one_cause _ r s so so_too) is too

abbrev made_ok : PlainRule → Result PlainRule Refusal
made_ok made = Ok made

abbrev made_err : Refusal → Result PlainRule Refusal
made_err r = Err r

made_is : (result : Result PlainRule Refusal) (a b : PlainRule) → result ≡ Ok a → result ≡ Ok b → a ≡ b
made_is result a b first second = by (sym first ∙ second)
  where
    by : made_ok a ≡ made_ok b → a ≡ b
    by same = cc

unmade_is : (result : Result PlainRule Refusal) (a b : Refusal) → result ≡ Err a → result ≡ Err b → a ≡ b
unmade_is result a b first second = by (sym first ∙ second)
  where
    by : made_err a ≡ made_err b → a ≡ b
    by same = cc

made_not_err : (result : Result PlainRule Refusal) (made : PlainRule) (r : Refusal) → result ≡ Ok made → result ≡ Err r → ⊥
made_not_err result made r first second = apart (sym first ∙ second)
  where
    apart : made_ok made ≡ made_err r → ⊥
    apart same = cc

module _ (one : OneLone) (backend : BackendName) (limits : Limits) (ps : List Pipeline) (given : Option Schema) (unbuilt : Unbuilt) where
  abbrev Lone : Tree → PlainRule → Type 0
  Lone t rule = IsLoneRule unbuilt.values limits t rule

  abbrev refused_by : PlainRule → Option Refusal
  refused_by made = query_refusal backend unbuilt.items limits given made

  -- what pipelines make of the one rule
  same_chain : (t : Tree) (a b : PlainRule) → Lone t a → Lone t b → run_pipelines limits ps a ≡ run_pipelines limits ps b
  same_chain t a b first second = ap (run_pipelines limits ps) (one unbuilt.values unbuilt.values limits t a b first second)

  same_made : (t : Tree) (a b made other : PlainRule) → Lone t a → Lone t b → Makes limits ps a made → Makes limits ps b other → made ≡ other
  same_made t a b made other first second makes makes_too = made_is (run_pipelines limits ps a) made other makes (same_chain t a b first second ∙ makes_too)

  -- what has a query isn't refused
  not_both : (t : Tree) (made : PlainRule) (r : Refusal) → IsConverted backend unbuilt limits ps given t made → IsRefused backend unbuilt limits ps given t r → ⊥
  not_both t made r converted (rules.no_rule is) = not_none _ r converted.lone.taken is
  not_both t made r converted (rules.not_made rule lone is) =
      made_not_err (run_pipelines limits ps rule) made r (same_chain t rule converted.rule lone converted.lone ∙ converted.makes) is
  not_both t made r converted (rules.no_query rule other lone makes is) =
      not_none _ r (ap refused_by (same_made t rule converted.rule other made lone converted.lone makes converted.makes) ∙ converted.written) is

  one_refusal : (t : Tree) (r s : Refusal) → IsRefused backend unbuilt limits ps given t r → IsRefused backend unbuilt limits ps given t s → r ≡ s
  one_refusal t r s (rules.no_rule is) (rules.no_rule too) = one_cause _ r s is too
  one_refusal t r s (rules.no_rule is) (rules.not_made rule lone too) = absurd (not_none _ r lone.taken is)
  one_refusal t r s (rules.no_rule is) (rules.no_query rule made lone makes too) = absurd (not_none _ r lone.taken is)
  one_refusal t r s (rules.not_made rule lone is) (rules.no_rule too) = absurd (not_none _ s lone.taken too)
  one_refusal t r s (rules.not_made rule lone is) (rules.not_made other lone_too too) = unmade_is (run_pipelines limits ps rule) r s is (same_chain t rule other lone lone_too ∙ too)
  one_refusal t r s (rules.not_made rule lone is) (rules.no_query other made lone_too makes too) =
      absurd (made_not_err (run_pipelines limits ps rule) made r (same_chain t rule other lone lone_too ∙ makes) is)
  one_refusal t r s (rules.no_query rule made lone makes is) (rules.no_rule too) = absurd (not_none _ s lone.taken too)
  one_refusal t r s (rules.no_query rule made lone makes is) (rules.not_made other lone_too too) =
      absurd (made_not_err (run_pipelines limits ps other) made s (same_chain t other rule lone_too lone ∙ makes) too)
  one_refusal t r s (rules.no_query rule made lone makes is) (rules.no_query other made_too lone_too makes_too too) =
      one_cause _ r s is (ap refused_by (same_made t rule other made made_too lone lone_too makes makes_too) ∙ too)

  pub one_converts : OneTree (ConvertGives backend limits ps given unbuilt)
  one_converts name t a b (has_query made so is) (has_query other so_too too) =
      is ∙ (ap (λ (r : PlainRule). line_share (query_of backend given r)) (same_made t so.rule so_too.rule made other so.lone so_too.lone so.makes so_too.makes) ∙ sym too)
  one_converts name t a b (has_query made so is) (no_query r so_too too) = absurd (not_both t made r so so_too)
  one_converts name t a b (no_query r so is) (has_query made so_too too) = absurd (not_both t made r so_too so)
  one_converts name t a b (no_query r so is) (no_query s so_too too) = same_refusal name r s a b (one_refusal t r s so so_too) is too
