-- Documents that are read one after another, with their places beside them.
use Rattle.std.proofs.Common.{◌≡◌, ℕ, ◌+◌, ◌<◌, Bool, true, false, List, [], ◌∷◌, ◌++◌, length, take, drop, get_or, refl, ap, sym, ◌∙◌, subst, append-nil, Result, Ok, Err}
use Rattle.std.specs.Prelude.{⊤}
use Rattle.std.proofs.lemmas.List.{map-append}
use Rattle.event_schema.specs.Lists.{EachOf}
use Rattle.event_schema.specs.declared.schema.Schema.{Schema}
use Rattle.pipeline_files.specs.Places.{file_texts}
use Rattle.pipeline_model.specs.declared.pipeline.Pipeline.{Pipeline}
use Rattle.rule_regex.proofs.Lists.{taken, around, each_joined, zip_joined}
use Rattle.rule_regex.specs.ForUnbuilt.{is_answered}
use Rattle.rule_regex.specs.Unbuilt.{Unbuilt, none_unbuilt, refused_texts}
use Rattle.sig_base.specs.declared.limits.Limits.{Limits}
use Rattle.sig_base.specs.declared.refusal.Fault.{Fault}
use Rattle.sig_base.specs.declared.refusal.Fault.TheVariants as faults
use Rattle.sig_base.specs.declared.refusal.Refusal.{Refusal}
use Rattle.yaml_documents.specs.Given.{answers_view}
use Rattle.yaml_tree.specs.Tree.{Answer, tree, refusal}
use Rattle.yaml_tree.specs.View.{document_view}
use Rattle.yaml_tree.specs.declared.tree.Document.{Document}
use Rattle.correlation_files.proofs.Growing.{refusals_joined, grows_both, grows_none}
use Rattle.correlation_files.proofs.Placed.{of_both, follows_both, beside, beside_of, beside_follows}
use Rattle.correlation_files.specs.Accepted.{IsAccepted, Gives, refused_of, Keeps}
use Rattle.correlation_files.specs.Outcomes.{Outcome, Runs, Correlates, Refuses, IsOutcome, refusals_in}
use Rattle.correlation_files.specs.Places.{AreOfDocument}
use Rattle.correlation_files.specs.Read.{ForDocument, ForDocuments, AreRead}
use Rattle.correlation_files.specs.declared.accepted.Accepted.{Accepted}
use Rattle.correlation_files.specs.declared.found.Found.{Found}

untrue : false ≡ true → ⊥
untrue e = cc

-- ---- what is read

none_accepted : (schema : Schema) (outcome : Outcome) (a : Accepted) → IsAccepted schema outcome a → [] ≡ refusals_in (outcome ∷ [])
none_accepted schema (Runs made) a is = refl
none_accepted schema (Correlates c) a is = refl
none_accepted schema (Refuses r) a is = absurd is

module _ (limits : Limits) (ps : List Pipeline) (schema : Schema) (file : List ℕ) where
  abbrev AreSo : List Refusal → Found → Found → List (Unbuilt × Answer) → Type 0
  AreSo refusals old new placed = AreRead limits ps schema file placed refusals old new

  read_both : (xs ys : List (Unbuilt × Answer)) (rs ss : List Refusal) (a b c : Found) → AreSo rs a b xs → AreSo ss b c ys → AreSo (rs ++ ss) a c (xs ++ ys)
  read_both xs ys rs ss a b c first second = record {
    outcomes = first.outcomes ++ second.outcomes;
    each = zip_joined (IsOutcome limits ps schema) xs ys first.outcomes second.outcomes first.each second.each;
    refused = ap (λ (l : List Refusal). l ++ ss) first.refused
        ∙ (ap (λ (l : List Refusal). refusals_in first.outcomes ++ l) second.refused ∙ sym (refusals_joined first.outcomes second.outcomes));
    grows = grows_both schema file first.outcomes second.outcomes a b c first.grows second.grows;
  }

  -- of one document that was answered
  one_read : (unbuilt : Unbuilt) (d : Answer) (result : Result Accepted Fault) (a b : Found) → is_answered result ≡ true → Gives (IsOutcome limits ps schema (unbuilt, d)) schema result
      → Keeps file result a b → AreSo (refused_of result) a b ((unbuilt, d) ∷ [])
  one_read unbuilt d (Ok x) a b ended (outcome, is, kept) keeps =
      record { outcomes = outcome ∷ []; each = (is, tt); refused = none_accepted schema outcome x kept; grows = keeps schema outcome kept }
  one_read unbuilt d (Err (faults.Refused r)) a b ended gives keeps =
      record { outcomes = Refuses r ∷ []; each = (gives, tt); refused = refl; grows = keeps schema }
  one_read unbuilt d (Err faults.Memory) a b ended gives keeps = absurd (untrue ended)

module _ (limits : Limits) (ps : List Pipeline) where
  -- ---- places of an answer that may have been cut off

  document_cut : (ended : Bool) (d : Unbuilt × Answer) → AreOfDocument limits ps ended d → AreOfDocument limits ps false d
  document_cut ended (unbuilt, tree t) are = record { values = are.values; items = are.items; ill = λ e. absurd (untrue e) }
  document_cut ended (unbuilt, refusal y) none = none

  documents_cut : (placed : List (Unbuilt × Answer)) → EachOf (AreOfDocument limits ps true) placed → EachOf (AreOfDocument limits ps false) placed
  documents_cut [] are = tt
  documents_cut (d ∷ placed) are = (document_cut true d are.0, documents_cut placed are.1)

  -- of documents that aren't reached there are none
  pub none_reached : (documents : List Answer) → EachOf (AreOfDocument limits ps false) (beside none_unbuilt documents)
  none_reached [] = tt
  none_reached (tree t ∷ documents) = (record { values = tt; items = tt; ill = λ e. absurd (untrue e) }, none_reached documents)
  none_reached (refusal y ∷ documents) = (refl, none_reached documents)

  -- ---- document by document

  abbrev AreAny : List (Unbuilt × Answer) → Type 0
  AreAny placed = ⊤

  documents_both : (a b c : List (List ℕ)) (ended : Bool) (xs ys : List Answer) (P Q R : List (Unbuilt × Answer) → Type 0)
      → ((us vs : List (Unbuilt × Answer)) → P us → Q vs → R (us ++ vs))
      → ForDocuments limits ps xs a b ended P → ForDocuments limits ps ys b c ended Q → ForDocuments limits ps (xs ++ ys) a c ended R
  documents_both a b c ended xs ys P Q R join first second = record {
    placed = first.placed ++ second.placed;
    of = of_both first.placed second.placed xs ys first.of second.of;
    follows = follows_both refused_texts first.placed second.placed a b c first.follows second.follows;
    are = each_joined (AreOfDocument limits ps ended) first.placed second.placed first.are second.are;
    says = join first.placed second.placed first.says second.says;
  }

  documents_as_cut : (a b : List (List ℕ)) (xs : List Answer) (P : List (Unbuilt × Answer) → Type 0) → ForDocuments limits ps xs a b true P → ForDocuments limits ps xs a b false AreAny
  documents_as_cut a b xs P so = record { placed = so.placed; of = so.of; follows = so.follows; are = documents_cut so.placed so.are; says = tt }

  documents_left : (texts : List (List ℕ)) (documents : List Answer) → ForDocuments limits ps documents texts texts false AreAny
  documents_left texts documents = record {
    placed = beside none_unbuilt documents;
    of = beside_of none_unbuilt documents;
    follows = beside_follows refused_texts none_unbuilt refl documents texts;
    are = none_reached documents;
    says = tt;
  }

  one_follows : (before after : List (List ℕ)) (unbuilt : Unbuilt) → after ≡ before ++ refused_texts unbuilt → after ≡ before ++ file_texts (unbuilt ∷ [])
  one_follows before after unbuilt is = is ∙ ap (λ (l : List (List ℕ)). before ++ l) (sym (append-nil (refused_texts unbuilt)))

  module _ (schema : Schema) (file : List ℕ) where
    -- before the first
    pub documents_start : (texts : List (List ℕ)) (found : Found) (rs : List Refusal) → rs ≡ [] → ForDocuments limits ps [] texts texts true (AreSo limits ps schema file rs found found)
    documents_start texts found rs none = record {
      placed = [];
      of = refl;
      follows = sym (append-nil texts);
      are = tt;
      says = record { outcomes = []; each = tt; refused = none; grows = grows_none schema file found };
    }

    module _ (ds : List Document) (i : ℕ) (d : Document) (below : i < length ds) (is : d ≡ get_or ds i d) (before now after : List (List ℕ)) (rs : List Refusal) (start old : Found)
        (so_far : ForDocuments limits ps (answers_view (take i ds)) before now true (AreSo limits ps schema file rs start old)) where
      abbrev front : List Answer
      front = answers_view (take i ds)

      -- one more document
      pub documents_next : (result : Result Accepted Fault) (new : Found) (ss : List Refusal)
          → ForDocument limits ps (document_view d) now after (is_answered result) (λ places. Gives (IsOutcome limits ps schema (places, document_view d)) schema result)
          → is_answered result ≡ true → Keeps file result old new → ss ≡ rs ++ refused_of result
          → ForDocuments limits ps (answers_view (take (i + 1) ds)) before after true (AreSo limits ps schema file ss start new)
      documents_next result new ss one ended keeps too =
          subst (λ (l : List Answer). ForDocuments limits ps l before after true (AreSo limits ps schema file ss start new))
          (sym (ap answers_view (taken ds i d below is) ∙ map-append document_view (take i ds) (d ∷ [])))
          (subst (λ (l : List Refusal). ForDocuments limits ps (front ++ document_view d ∷ []) before after true (AreSo limits ps schema file l start new)) (sym too)
          (documents_both before now after true front (document_view d ∷ []) (AreSo limits ps schema file rs start old) (AreSo limits ps schema file (refused_of result) old new)
          (AreSo limits ps schema file (rs ++ refused_of result) start new)
          (λ xs ys. read_both limits ps schema file xs ys rs (refused_of result) start old new) so_far
          (record {
            placed = (one.unbuilt, document_view d) ∷ [];
            of = refl;
            follows = one_follows now after one.unbuilt one.follows;
            are = (subst (λ (b : Bool). AreOfDocument limits ps b (one.unbuilt, document_view d)) ended one.are, tt);
            says = one_read limits ps schema file one.unbuilt (document_view d) result old new ended one.says keeps;
          })))

      -- the document at which it stops, for want of memory
      pub documents_stop : (ended : Bool) (Says : Unbuilt → Type 0) → ForDocument limits ps (document_view d) now after ended Says
          → ForDocuments limits ps (answers_view ds) before after false AreAny
      documents_stop ended Says one =
          subst (λ (l : List Answer). ForDocuments limits ps l before after false AreAny)
          (sym (map-append document_view (take i ds ++ d ∷ []) (drop (i + 1) ds)) ∙ ap answers_view (around ds i d below is))
          (documents_both before after after false (answers_view (take i ds ++ d ∷ [])) (answers_view (drop (i + 1) ds)) AreAny AreAny AreAny (λ xs ys a b. tt)
          (subst (λ (l : List Answer). ForDocuments limits ps l before after false AreAny) (sym (map-append document_view (take i ds) (d ∷ [])))
          (documents_both before now after false front (document_view d ∷ []) AreAny AreAny AreAny (λ xs ys a b. tt) (documents_as_cut before now front (AreSo limits ps schema file rs start old) so_far)
          (record {
            placed = (one.unbuilt, document_view d) ∷ [];
            of = refl;
            follows = one_follows now after one.unbuilt one.follows;
            are = (document_cut ended (one.unbuilt, document_view d) one.are, tt);
            says = tt;
          })))
          (documents_left after (answers_view (drop (i + 1) ds))))
