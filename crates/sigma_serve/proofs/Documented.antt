-- What answering the documents of a file leaves.
use Rattle.std.proofs.Common.{◌≡◌, ℕ, suc, ◌+◌, ◌<◌, ◌≤◌, Bool, true, false, List, [], ◌∷◌, ◌++◌, length, take, drop, get_or, refl, ap, sym, ◌∙◌, subst, append-nil, Result, Ok, Err, inl, inr}
use Rattle.pipeline_files.specs.Paired.{paired}
use Rattle.pipeline_model.specs.declared.pipeline.Pipeline.{Pipeline}
use Rattle.std.specs.Prelude.{◌||◌, ◌⊎◌}
use Rattle.std.proofs.lemmas.List.{map-append}
use Rattle.answer_writer.proofs.Rows.{around, before_and, each_all, all_one, one_share}
use Rattle.answer_writer.proofs.Shares.{joined_append}
use Rattle.answer_writer.proofs.Wrote.{Both, writes_as, writes_both, writes_stop, writes_less, writes_nothing, writes_memory}
use Rattle.answer_writer.specs.Each.{EachShare, AllShares}
use Rattle.answer_writer.specs.Parts.{Share, no_share, join, joined}
use Rattle.answer_writer.specs.Stands.{Writes}
use Rattle.answer_writer.specs.State.{State}
use Rattle.answer_writer.specs.declared.stop.Stop.{Stop}
use Rattle.answer_writer.specs.declared.stop.Stop.TheVariants.{Memory}
use Rattle.correlation_files.specs.Places.{AreOfDocument}
use Rattle.event_schema.specs.Lists.{EachOf}
use Rattle.rule_regex.proofs.Lists.{each_joined}
use Rattle.rule_regex.specs.Unbuilt.{Unbuilt, none_unbuilt, refused_texts}
use Rattle.rule_run.specs.Files.{yaml_refusal}
use Rattle.sig_base.specs.declared.limits.Limits.{Limits}
use Rattle.sig_base.specs.declared.refusal.Detail.TheVariants as details
use Rattle.sig_base.specs.declared.refusal.Refusal.{Refusal}
use Rattle.sigma_serve.proofs.Placed.{firsts, of_both, follows_both, paired_of, no_more, beside, beside_of, beside_follows, none_of_documents, none_of_file, documents_later}
use Rattle.sigma_serve.proofs.Trees.{cut}
use Rattle.sigma_serve.specs.Laws.{EachTree, EachDocument, EachFile, OneTree, OneDocument, OneFile}
use Rattle.sigma_serve.specs.Reports.{refusal_share}
use Rattle.sigma_serve.specs.RuleFiles.{ByTree, ByUnbuilt, BySome, DocumentGives, FileGivesAt, as_one_at, by_document_at, DocumentsBySome, FileBySome}
use Rattle.yaml_documents.specs.Given.{answers_view}
use Rattle.yaml_documents.specs.Verdicts as yaml
use Rattle.yaml_documents.specs.Call.{IsCallRefusal, IsTaken}
use Rattle.yaml_tree.specs.Tree.{At, Tree, Answer, tree, refusal}
use Rattle.yaml_tree.specs.View.{document_view}
use Rattle.yaml_tree.specs.declared.tree.Document.{Document}

pub no_detail : (r : Refusal) → r.detail ≡ details.None → r ≡ yaml_refusal (r.code, record { line = r.place.line; column = r.place.column })
no_detail r plain = ap (λ d. record { code = r.code; place = r.place; detail = d }) plain

module _ (by : ByTree) where
  pub each_document : EachTree by → (name : List ℕ) (document : Answer) → (share : Share) × DocumentGives by name document share
  each_document each name (tree t) = each name t
  each_document each name (refusal p) = (refusal_share name (yaml_refusal p), refl)

  pub one_document : OneTree by → (name : List ℕ) (document : Answer) (a b : Share) → DocumentGives by name document a → DocumentGives by name document b → a ≡ b
  one_document one name (tree t) a b first second = one name t a b first second
  one_document one name (refusal p) a b first second = first ∙ sym second

-- ---- shares of two lists

module _ {X : Type 0} (gives : X → Share → Type 0) where
  shares_append : (xs ys : List X) (a b : List Share) → EachShare gives xs a → EachShare gives ys b → EachShare gives (xs ++ ys) (a ++ b)
  shares_append [] ys [] b first second = second
  shares_append [] ys (s ∷ a) b first second = absurd first
  shares_append (x ∷ xs) ys [] b first second = absurd first
  shares_append (x ∷ xs) ys (s ∷ a) b first second = (first.0, shares_append xs ys a b first.1 second)

  pub all_append : (xs ys : List X) (share : Share) → Both (AllShares gives xs) (AllShares gives ys) share → AllShares gives (xs ++ ys) share
  all_append xs ys share (a, b, (ss, first, is), (ts, second, is_too), both) =
      (ss ++ ts, shares_append xs ys ss ts first second, both ∙ (ap (λ (s : Share). join s b) is ∙ (ap (λ (s : Share). join (joined ss) s) is_too ∙ sym (joined_append ss ts))))

-- ---- document by document, in a file of this name

module _ (by : ByUnbuilt) (limits : Limits) (ps : List Pipeline) (name : List ℕ) where
  abbrev Given : Unbuilt × Answer → Share → Type 0
  Given d share = DocumentGives (by d.0) name d.1 share

  abbrev pub Documents : List (List ℕ) → List (List ℕ) → Bool → List Answer → Share → Type 0
  Documents before after ended documents share = DocumentsBySome by limits ps before after ended name documents share

  -- documents, and then others
  documents_both : (a b c : List (List ℕ)) (ended : Bool) (xs ys : List Answer) (share : Share) → Both (Documents a b ended xs) (Documents b c ended ys) share → Documents a c ended (xs ++ ys) share
  documents_both a b c ended xs ys share (s, t, first, second, is) = record {
    placed = first.placed ++ second.placed;
    of = of_both first.placed second.placed xs ys first.of second.of;
    follows = follows_both refused_texts first.placed second.placed a b c first.follows second.follows;
    are = each_joined (AreOfDocument limits ps ended) first.placed second.placed first.are second.are;
    gives = all_append Given first.placed second.placed share (s, t, first.gives, second.gives, is);
  }

  -- an answer that may have been cut off
  documents_cut : (before after : List (List ℕ)) (ended : Bool) (documents : List Answer) (share : Share) → Documents before after ended documents share → Documents before after false documents share
  documents_cut before after ended documents share d =
      record { placed = d.placed; of = d.of; follows = d.follows; are = documents_later limits ps ended false cut d.placed d.are; gives = d.gives }

  -- documents that aren't reached
  documents_left : ((unbuilt : Unbuilt) → EachTree (by unbuilt)) → (texts : List (List ℕ)) (documents : List Answer) → (share : Share) × Documents texts texts false documents share
  documents_left each texts documents =
      let placed = beside none_unbuilt documents in
      let all = each_all Given (λ d. each_document (by d.0) (each d.0) name d.1) placed in (
        all.0,
        record {
          placed = placed;
          of = beside_of none_unbuilt documents;
          follows = beside_follows refused_texts none_unbuilt refl documents texts;
          are = none_of_documents limits ps documents;
          gives = all.1;
        },
      )

  -- a document that is this tree
  pub document_answered : (before after : List (List ℕ)) (ended : Bool) (t : Tree) (share : Share) → BySome by limits ps before after ended name t share → Documents before after ended (tree t ∷ []) share
  document_answered before after ended t share some = record {
    placed = (some.unbuilt, tree t) ∷ [];
    of = refl;
    follows = some.follows ∙ ap (λ (l : List (List ℕ)). before ++ l) (sym (append-nil (refused_texts some.unbuilt)));
    are = (some.are, tt);
    gives = one_share Given (some.unbuilt, tree t) share some.says;
  }

  -- or that YAML refuses, with no detail
  pub document_refused : (texts : List (List ℕ)) (ended : Bool) (r : Refusal) (share : Share) → r.detail ≡ details.None → share ≡ refusal_share name r
      → Documents texts texts ended (refusal (r.code, record { line = r.place.line; column = r.place.column }) ∷ []) share
  document_refused texts ended r share plain is =
      let p : Answer = refusal (r.code, record { line = r.place.line; column = r.place.column }) in
      record {
        placed = (none_unbuilt, p) ∷ [];
        of = refl;
        follows = sym (append-nil texts);
        are = (refl, tt);
        gives = one_share Given (none_unbuilt, p) share (is ∙ ap (λ (x : Refusal). refusal_share name x) (no_detail r plain));
      }

  pub documents_none : (texts : List (List ℕ)) (s : State) → Writes (Documents texts texts true []) (Ok false) s s
  documents_none texts s =
      writes_as (λ (share : Share). share ≡ no_share) (Documents texts texts true []) (Ok false) s s
      (λ share is. record { placed = []; of = refl; follows = sym (append-nil texts); are = tt; gives = ([], tt, is) }) (writes_nothing s)

  -- one more document
  pub documents_next : (a b c : List (List ℕ)) (ds : List Document) (i : ℕ) (d : Document) (first second both : Bool) (old mid new : State)
      → i < length ds → d ≡ get_or ds i d → both ≡ (first || second) → Writes (Documents a b true (answers_view (take i ds))) (Ok first) old mid
      → Writes (Documents b c true (document_view d ∷ [])) (Ok second) mid new → Writes (Documents a c true (answers_view (take (i + 1) ds))) (Ok both) old new
  documents_next a b c ds i d first second both old mid new below is found wrote next =
      let front : List Answer = answers_view (take i ds) in
      subst (λ (l : List Answer). Writes (Documents a c true l) (Ok both) old new) (sym (ap answers_view (before_and ds i d below is) ∙ map-append document_view (take i ds) (d ∷ [])))
      (subst (λ (f : Bool). Writes (Documents a c true (front ++ document_view d ∷ [])) (Ok f) old new) (sym found)
      (writes_as (Both (Documents a b true front) (Documents b c true (document_view d ∷ []))) (Documents a c true (front ++ document_view d ∷ [])) (Ok (first || second)) old new
      (documents_both a b c true front (document_view d ∷ []))
      (writes_both (Documents a b true front) (Documents b c true (document_view d ∷ [])) first second old mid new wrote next)))

  -- the document at which it stops
  pub documents_stop : ((unbuilt : Unbuilt) → EachTree (by unbuilt)) → (a b c : List (List ℕ)) (ds : List Document) (i : ℕ) (d : Document) (first : Bool) (stop : Stop) (old mid new : State)
      → i < length ds → d ≡ get_or ds i d → Writes (Documents a b true (answers_view (take i ds))) (Ok first) old mid → Writes (Documents b c false (document_view d ∷ [])) (Err stop) mid new
      → Writes (Documents a c false (answers_view ds)) (Err stop) old new
  documents_stop each a b c ds i d first stop old mid new below is wrote next =
      let front : List Answer = answers_view (take i ds) in
      let one : List Answer = document_view d ∷ [] in
      let left : List Answer = answers_view (drop (suc i) ds) in
      subst (λ (l : List Answer). Writes (Documents a c false l) (Err stop) old new) (sym (ap answers_view (around ds i d below is) ∙ map-append document_view (take i ds) (d ∷ drop (suc i) ds)))
      (writes_as (Both (Documents a b false front) (Documents b c false (one ++ left))) (Documents a c false (front ++ (one ++ left))) (Err stop) old new (documents_both a b c false front (one ++ left))
      (writes_stop (Documents a b false front) (Documents b c false (one ++ left)) first stop old mid new
      (writes_as (Documents a b true front) (Documents a b false front) (Ok first) old mid (documents_cut a b true front) wrote)
      (writes_as (Both (Documents b c false one) (Documents c c false left)) (Documents b c false (one ++ left)) (Err stop) mid new (documents_both b c c false one left)
      (writes_less (Documents b c false one) (Documents c c false left) stop mid new (documents_left each c left) next))))

  -- ---- the file that has these bytes

  module _ (bytes : List ℕ) where
    abbrev pub Whole : List (List ℕ) → List (List ℕ) → Bool → Share → Type 0
    Whole before after ended share = FileBySome by limits ps before after ended name bytes share

    pub file_answered : yaml.NeverBoth → yaml.OneList → (before after : List (List ℕ)) (ended : Bool) (documents : List Answer) (result : Result Bool Stop) (old new : State)
        → IsTaken limits.file_bytes limits.documents limits.yaml_depth bytes documents → Writes (Documents before after ended documents) result old new → Writes (Whole before after ended) result old new
    file_answered never list before after ended documents result old new taken wrote =
        writes_as (Documents before after ended documents) (Whole before after ended) result old new of wrote
      where
        of : (share : Share) → Documents before after ended documents share → Whole before after ended share
        of share d =
            let same : paired none_unbuilt (firsts d.placed) documents ≡ d.placed = paired_of none_unbuilt d.placed documents d.of in
            record {
              unbuilt = firsts d.placed;
              follows = d.follows;
              are = record {
                each = λ others taken_too. subst (λ (ds : List Answer). EachOf (AreOfDocument limits ps ended) (paired none_unbuilt (firsts d.placed) ds) × (length (firsts d.placed) ≤ length ds))
                    (list limits.file_bytes limits.documents limits.yaml_depth bytes documents others taken taken_too)
                    (subst (EachOf (AreOfDocument limits ps ended)) (sym same) d.are, no_more d.placed documents d.of);
                whole = λ p is. absurd (never limits.file_bytes limits.documents limits.yaml_depth bytes documents p taken is);
              };
              gives = by_document_at documents taken (subst (λ (l : List (Unbuilt × Answer)). AllShares Given l share) (sym same) d.gives);
            }

    pub file_refused : yaml.NeverBoth → (texts : List (List ℕ)) (ended : Bool) (r : Refusal) (result : Result Bool Stop) (old new : State)
        → (r.detail ≡ details.None) × IsCallRefusal limits.file_bytes limits.documents bytes (r.code, record { line = r.place.line; column = r.place.column })
        → Writes (λ share. share ≡ refusal_share name r) result old new → Writes (Whole texts texts ended) result old new
    file_refused never texts ended r result old new (plain, refused_so) put =
        writes_as (λ share. share ≡ refusal_share name r) (Whole texts texts ended) result old new
        (λ share is. record {
          unbuilt = [];
          follows = sym (append-nil texts);
          are = record {
            each = λ documents taken. absurd (never limits.file_bytes limits.documents limits.yaml_depth bytes documents (r.code, record { line = r.place.line; column = r.place.column }) taken refused_so);
            whole = λ p too. refl;
          };
          gives = as_one_at (r.code, record { line = r.place.line; column = r.place.column }) refused_so (is ∙ ap (λ (x : Refusal). refusal_share name x) (no_detail r plain));
        }) put

    -- of a file that isn't reached, or of which none is
    pub file_left : EachFile by → (texts : List (List ℕ)) → (share : Share) × Whole texts texts false share
    file_left each texts =
        let one = each limits [] name bytes in
        (one.0, record { unbuilt = []; follows = sym (append-nil texts); are = none_of_file limits ps bytes; gives = one.1 })

    pub file_memory : EachFile by → (texts : List (List ℕ)) (s : State) → Writes (Whole texts texts false) (Err Memory) s s
    file_memory each texts s = writes_memory (Whole texts texts false) s (file_left each texts)

-- ---- for lists of places

module _ (by : ByUnbuilt) where
  pub each_document_at : ((unbuilt : Unbuilt) → EachTree (by unbuilt)) → EachDocument by
  each_document_at each unbuilt = each_document (by unbuilt) (each unbuilt)

  pub each_file_at : ((unbuilt : Unbuilt) → EachTree (by unbuilt)) → yaml.EachVerdict → EachFile by
  each_file_at each read limits unbuilt name bytes = cases (read limits.file_bytes limits.documents limits.yaml_depth bytes)
    where
      cases : ((given : List Answer) × IsTaken limits.file_bytes limits.documents limits.yaml_depth bytes given) ⊎ ((p : ℕ × At) × IsCallRefusal limits.file_bytes limits.documents bytes p)
          → (share : Share) × FileGivesAt by limits unbuilt name bytes share
      cases (inl taken) =
          let all = each_all (λ (d : Unbuilt × Answer). DocumentGives (by d.0) name d.1) (λ d. each_document_at each d.0 name d.1) (paired none_unbuilt unbuilt taken.0) in
          (all.0, by_document_at taken.0 taken.1 all.1)
      cases (inr refused_so) = (refusal_share name (yaml_refusal refused_so.0), as_one_at refused_so.0 refused_so.1 refl)

  pub one_document_at : ((unbuilt : Unbuilt) → OneTree (by unbuilt)) → OneDocument by
  one_document_at one unbuilt = one_document (by unbuilt) (one unbuilt)

  pub one_file_at : ((unbuilt : Unbuilt) → OneTree (by unbuilt)) → yaml.NeverBoth → yaml.OneList → yaml.OneRefusal → OneFile by
  one_file_at one never list cause limits unbuilt name bytes a b (as_one_at p so is) (as_one_at q so_too too) =
      is ∙ (ap (λ (x : ℕ × At). refusal_share name (yaml_refusal x)) (cause limits.file_bytes limits.documents bytes p q so so_too) ∙ sym too)
  one_file_at one never list cause limits unbuilt name bytes a b (as_one_at p so is) (by_document_at ds taken each) =
      absurd (never limits.file_bytes limits.documents limits.yaml_depth bytes ds p taken so)
  one_file_at one never list cause limits unbuilt name bytes a b (by_document_at ds taken each) (as_one_at p so is) =
      absurd (never limits.file_bytes limits.documents limits.yaml_depth bytes ds p taken so)
  one_file_at one never list cause limits unbuilt name bytes a b (by_document_at ds taken each) (by_document_at es taken_too each_too) =
      all_one (λ (d : Unbuilt × Answer). DocumentGives (by d.0) name d.1) (λ d. one_document_at one d.0 name d.1) (paired none_unbuilt unbuilt ds) a b each
      (subst (λ (xs : List Answer). AllShares (λ (d : Unbuilt × Answer). DocumentGives (by d.0) name d.1) (paired none_unbuilt unbuilt xs) b)
      (list limits.file_bytes limits.documents limits.yaml_depth bytes es ds taken_too taken) each_too)
