-- Documents that are read one after another, with their places beside them.
use Rattle.std.proofs.Common.{◌≡◌, ℕ, ◌+◌, ◌<◌, Bool, true, false, List, [], ◌∷◌, ◌++◌, length, take, drop, get_or, refl, ap, sym, ◌∙◌, subst, append-nil, Result, Ok, Err}
use Rattle.std.specs.Prelude.{⊤}
use Rattle.std.proofs.lemmas.List.{map-append}
use Rattle.event_schema.specs.Lists.{EachOf}
use Rattle.rule_regex.proofs.Lists.{taken, around, each_joined, zip_joined}
use Rattle.rule_regex.specs.Building.{FoundUnbuilt}
use Rattle.rule_regex.specs.ForUnbuilt.{is_answered as is_ended}
use Rattle.rule_regex.specs.Unbuilt.{Unbuilt, none_unbuilt, of_values, refused_texts}
use Rattle.sig_base.specs.Judged.{Judged, refusal as refused}
use Rattle.sig_base.specs.declared.limits.Limits.{Limits}
use Rattle.sig_base.specs.declared.refusal.Fault.{Fault}
use Rattle.sig_base.specs.declared.refusal.Fault.TheVariants as faults
use Rattle.sig_base.specs.declared.refusal.Place.{Place}
use Rattle.sig_base.specs.declared.refusal.Refusal.{Refusal}
use Rattle.yaml_documents.specs.Given.{answers_view}
use Rattle.yaml_tree.specs.Tree.{Tree, Answer, tree, refusal}
use Rattle.yaml_tree.specs.View.{document_view, place_view}
use Rattle.yaml_tree.specs.declared.tree.Document.{Document}
use Rattle.pipeline_model.specs.Checks.{pipeline_refusal}
use Rattle.pipeline_model.specs.Pipelines.{IsPipeline}
use Rattle.pipeline_model.specs.declared.pipeline.Pipeline.{Pipeline}
use Rattle.pipeline_files.proofs.Placed.{of_both, follows_both, beside, beside_of, beside_follows}
use Rattle.pipeline_files.specs.Gathered.{Gives, ForDocument, read_of, refused_of, AreGathered, ForDocuments, AreAnswered}
use Rattle.pipeline_files.specs.Outcomes.{Outcome, IsOutcome, pipelines_in, refusals_in}
use Rattle.pipeline_files.specs.Places.{AreOfDocument, pipeline_expressions, file_texts}
use Rattle.pipeline_files.specs.declared.files.FileFault.TheVariants.{Memory}

untrue : false ≡ true → ⊥
untrue e = cc

-- ---- a tree

module _ (limits : Limits) (t : Tree) where
  -- its regular expressions are built, and it's judged
  pub tree_read : (places slice : List Place) (before after : List (List ℕ)) (result : Result Pipeline Fault)
      → FoundUnbuilt (pipeline_expressions limits t) before after (Ok places) → slice ≡ places
      → Judged (IsPipeline t) (pipeline_refusal slice limits t) result
      → ForDocument limits (tree t) before after (is_ended result) (λ unbuilt. Gives unbuilt.values limits (tree t) result)
  tree_read places slice before after result found same judged = record {
    unbuilt = of_values places found.refused;
    follows = found.follows ∙ ap (λ (texts : List (List ℕ)). before ++ texts) (sym (append-nil found.refused));
    are = record { only = refl; places = found.finds.0; ill = λ _. found.finds.1 };
    says = by result (subst (λ (ps : List Place). Judged (IsPipeline t) (pipeline_refusal ps limits t) result) same judged);
  }
    where
      by : (r : Result Pipeline Fault) → Judged (IsPipeline t) (pipeline_refusal places limits t) r → Gives places limits (tree t) r
      by (Ok p) j = record { taken = j.0; is = j.1 }
      by (Err faults.Memory) j = tt
      by (Err (faults.Refused r)) j = j

  -- memory was missing before all were built
  pub tree_unread : (before after : List (List ℕ)) (fault : Fault) → FoundUnbuilt (pipeline_expressions limits t) before after (Err fault)
      → ForDocument limits (tree t) before after (is_ended {X = Pipeline} (Err fault)) (λ unbuilt. Gives unbuilt.values limits (tree t) (Err fault))
  tree_unread before after faults.Memory found = record {
    unbuilt = of_values found.finds.1 found.refused;
    follows = found.follows ∙ ap (λ (texts : List (List ℕ)). before ++ texts) (sym (append-nil found.refused));
    are = record { only = refl; places = found.finds.2; ill = λ e. absurd (untrue e) };
    says = tt;
  }
  tree_unread before after (faults.Refused r) found = absurd (not_memory r found.finds.0)
    where
      not_memory : (r : Refusal) → faults.Refused r ≡ faults.Memory → ⊥
      not_memory r e = cc

-- YAML refuses the document
pub document_refused : (limits : Limits) (code : ℕ) (place : Place) (texts : List (List ℕ)) (fault : Fault) → fault ≡ faults.Refused (refused code place)
    → ForDocument limits (refusal (code, place_view place)) texts texts (is_ended {X = Pipeline} (Err fault))
    (λ unbuilt. Gives unbuilt.values limits (refusal (code, place_view place)) (Err fault))
document_refused limits code place texts fault is =
    subst (λ (f : Fault). ForDocument limits (refusal (code, place_view place)) texts texts (is_ended {X = Pipeline} (Err f))
    (λ unbuilt. Gives unbuilt.values limits (refusal (code, place_view place)) (Err f))) (sym is)
    (record { unbuilt = none_unbuilt; follows = sym (append-nil texts); are = refl; says = refl })

-- ---- what is gathered

pipelines_joined : (xs ys : List Outcome) → pipelines_in (xs ++ ys) ≡ pipelines_in xs ++ pipelines_in ys
pipelines_joined [] ys = refl
pipelines_joined (Ok p ∷ xs) ys = ap (λ (l : List Pipeline). p ∷ l) (pipelines_joined xs ys)
pipelines_joined (Err r ∷ xs) ys = pipelines_joined xs ys

refusals_joined : (xs ys : List Outcome) → refusals_in (xs ++ ys) ≡ refusals_in xs ++ refusals_in ys
refusals_joined [] ys = refl
refusals_joined (Ok p ∷ xs) ys = refusals_joined xs ys
refusals_joined (Err r ∷ xs) ys = ap (λ (l : List Refusal). r ∷ l) (refusals_joined xs ys)

module _ (limits : Limits) where
  abbrev IsOf : Unbuilt × Answer → Outcome → Type 0
  IsOf d outcome = IsOutcome d.0.values limits d.1 outcome

  gathered_both : (xs ys : List (Unbuilt × Answer)) (ps qs : List Pipeline) (rs ss : List Refusal) → AreGathered limits xs ps rs → AreGathered limits ys qs ss
      → AreGathered limits (xs ++ ys) (ps ++ qs) (rs ++ ss)
  gathered_both xs ys ps qs rs ss first second = record {
    outcomes = first.outcomes ++ second.outcomes;
    each = zip_joined IsOf xs ys first.outcomes second.outcomes first.each second.each;
    are_pipelines = ap (λ (l : List Pipeline). l ++ qs) first.are_pipelines
        ∙ (ap (λ (l : List Pipeline). pipelines_in first.outcomes ++ l) second.are_pipelines ∙ sym (pipelines_joined first.outcomes second.outcomes));
    are_refusals = ap (λ (l : List Refusal). l ++ ss) first.are_refusals
        ∙ (ap (λ (l : List Refusal). refusals_in first.outcomes ++ l) second.are_refusals ∙ sym (refusals_joined first.outcomes second.outcomes));
  }

  -- of one document that was answered
  one_gathered : (unbuilt : Unbuilt) (d : Answer) (found : Result Pipeline Fault) → is_ended found ≡ true → Gives unbuilt.values limits d found
      → AreGathered limits ((unbuilt, d) ∷ []) (read_of found) (refused_of found)
  one_gathered unbuilt d (Ok p) ended gives = record { outcomes = Ok p ∷ []; each = (gives, tt); are_pipelines = refl; are_refusals = refl }
  one_gathered unbuilt d (Err (faults.Refused r)) ended gives = record { outcomes = Err r ∷ []; each = (gives, tt); are_pipelines = refl; are_refusals = refl }
  one_gathered unbuilt d (Err faults.Memory) ended gives = absurd (untrue ended)

  -- ---- places of an answer that may have been cut off

  document_cut : (ended : Bool) (d : Unbuilt × Answer) → AreOfDocument limits ended d → AreOfDocument limits false d
  document_cut ended (unbuilt, tree t) are = record { only = are.only; places = are.places; ill = λ e. absurd (untrue e) }
  document_cut ended (unbuilt, refusal y) none = none

  documents_cut : (placed : List (Unbuilt × Answer)) → EachOf (AreOfDocument limits true) placed → EachOf (AreOfDocument limits false) placed
  documents_cut [] are = tt
  documents_cut (d ∷ placed) are = (document_cut true d are.0, documents_cut placed are.1)

  -- of documents that aren't reached there are none
  pub none_reached : (documents : List Answer) → EachOf (AreOfDocument limits false) (beside none_unbuilt documents)
  none_reached [] = tt
  none_reached (tree t ∷ documents) = (record { only = refl; places = tt; ill = λ e. absurd (untrue e) }, none_reached documents)
  none_reached (refusal y ∷ documents) = (refl, none_reached documents)

  -- ---- document by document

  abbrev AreSo : List Pipeline → List Refusal → List (Unbuilt × Answer) → Type 0
  AreSo ps rs placed = AreGathered limits placed ps rs

  abbrev AreAny : List (Unbuilt × Answer) → Type 0
  AreAny placed = ⊤

  documents_both : (a b c : List (List ℕ)) (ended : Bool) (xs ys : List Answer) (P Q R : List (Unbuilt × Answer) → Type 0)
      → ((ps qs : List (Unbuilt × Answer)) → P ps → Q qs → R (ps ++ qs))
      → ForDocuments limits xs a b ended P → ForDocuments limits ys b c ended Q → ForDocuments limits (xs ++ ys) a c ended R
  documents_both a b c ended xs ys P Q R join first second = record {
    placed = first.placed ++ second.placed;
    of = of_both first.placed second.placed xs ys first.of second.of;
    follows = follows_both refused_texts first.placed second.placed a b c first.follows second.follows;
    are = each_joined (AreOfDocument limits ended) first.placed second.placed first.are second.are;
    says = join first.placed second.placed first.says second.says;
  }

  documents_as_cut : (a b : List (List ℕ)) (xs : List Answer) (P : List (Unbuilt × Answer) → Type 0) → ForDocuments limits xs a b true P → ForDocuments limits xs a b false AreAny
  documents_as_cut a b xs P so = record { placed = so.placed; of = so.of; follows = so.follows; are = documents_cut so.placed so.are; says = tt }

  documents_left : (texts : List (List ℕ)) (documents : List Answer) → ForDocuments limits documents texts texts false AreAny
  documents_left texts documents = record {
    placed = beside none_unbuilt documents;
    of = beside_of none_unbuilt documents;
    follows = beside_follows refused_texts none_unbuilt refl documents texts;
    are = none_reached documents;
    says = tt;
  }

  one_follows : (before after : List (List ℕ)) (unbuilt : Unbuilt) → after ≡ before ++ refused_texts unbuilt → after ≡ before ++ file_texts (unbuilt ∷ [])
  one_follows before after unbuilt is = is ∙ ap (λ (l : List (List ℕ)). before ++ l) (sym (append-nil (refused_texts unbuilt)))

  module _ (ds : List Document) (i : ℕ) (d : Document) (below : i < length ds) (is : d ≡ get_or ds i d) (before now after : List (List ℕ)) (ps : List Pipeline) (rs : List Refusal)
      (so_far : ForDocuments limits (answers_view (take i ds)) before now true (AreSo ps rs)) where
    abbrev front : List Answer
    front = answers_view (take i ds)

    -- one more document
    pub documents_next : (found : Result Pipeline Fault) (qs : List Pipeline) (ss : List Refusal)
        → ForDocument limits (document_view d) now after (is_ended found) (λ unbuilt. Gives unbuilt.values limits (document_view d) found)
        → is_ended found ≡ true → qs ≡ ps ++ read_of found → ss ≡ rs ++ refused_of found
        → ForDocuments limits (answers_view (take (i + 1) ds)) before after true (AreSo qs ss)
    documents_next found qs ss one ended read too =
        subst (λ (l : List Answer). ForDocuments limits l before after true (AreSo qs ss)) (sym (ap answers_view (taken ds i d below is) ∙ map-append document_view (take i ds) (d ∷ [])))
        (subst (λ (l : List Pipeline). ForDocuments limits (front ++ document_view d ∷ []) before after true (AreSo l ss)) (sym read)
        (subst (λ (l : List Refusal). ForDocuments limits (front ++ document_view d ∷ []) before after true (AreSo (ps ++ read_of found) l)) (sym too)
        (documents_both before now after true front (document_view d ∷ []) (AreSo ps rs) (AreSo (read_of found) (refused_of found)) (AreSo (ps ++ read_of found) (rs ++ refused_of found))
        (λ xs ys. gathered_both xs ys ps (read_of found) rs (refused_of found)) so_far
        (record {
          placed = (one.unbuilt, document_view d) ∷ [];
          of = refl;
          follows = one_follows now after one.unbuilt one.follows;
          are = (subst (λ (b : Bool). AreOfDocument limits b (one.unbuilt, document_view d)) ended one.are, tt);
          says = one_gathered one.unbuilt (document_view d) found ended one.says;
        }))))

    -- the document at which it stops, for want of memory
    pub documents_stop : (ended : Bool) (Says : Unbuilt → Type 0) → ForDocument limits (document_view d) now after ended Says
        → ForDocuments limits (answers_view ds) before after false (λ placed. AreAnswered limits placed (Err Memory))
    documents_stop ended Says one =
        subst (λ (l : List Answer). ForDocuments limits l before after false AreAny)
        (sym (map-append document_view (take i ds ++ d ∷ []) (drop (i + 1) ds)) ∙ ap answers_view (around ds i d below is))
        (documents_both before after after false (answers_view (take i ds ++ d ∷ [])) (answers_view (drop (i + 1) ds)) AreAny AreAny AreAny (λ xs ys a b. tt)
        (subst (λ (l : List Answer). ForDocuments limits l before after false AreAny) (sym (map-append document_view (take i ds) (d ∷ [])))
        (documents_both before now after false front (document_view d ∷ []) AreAny AreAny AreAny (λ xs ys a b. tt) (documents_as_cut before now front (AreSo ps rs) so_far)
        (record {
          placed = (one.unbuilt, document_view d) ∷ [];
          of = refl;
          follows = one_follows now after one.unbuilt one.follows;
          are = (document_cut ended (one.unbuilt, document_view d) one.are, tt);
          says = tt;
        })))
        (documents_left after (answers_view (drop (i + 1) ds))))
