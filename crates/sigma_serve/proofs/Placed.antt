-- Places that stand beside documents, and beside files.
use Rattle.std.proofs.Common.{◌≡◌, ℕ, ◌≤◌, Bool, true, false, List, [], ◌∷◌, ◌++◌, length, map, refl, sym, ap, ◌∙◌, subst, arith, append_assoc, append-nil}
use Rattle.pipeline_files.specs.Paired.{paired}
use Rattle.pipeline_model.specs.declared.pipeline.Pipeline.{Pipeline}
use Rattle.std.specs.List.{flat_map}
use Rattle.std.proofs.lemmas.Grind.{flat_map-append}
use Rattle.std.proofs.lemmas.List.{length-map, map-append}
use Rattle.answer_writer.specs.Input.{World}
use Rattle.correlation_files.specs.Places.{AreOfDocument, AreOfFile}
use Rattle.event_schema.specs.Lists.{EachOf}
use Rattle.rule_regex.specs.Unbuilt.{Unbuilt, none_unbuilt}
use Rattle.rule_run.proofs.Runs.{none_are, unbuilt_later}
use Rattle.sig_base.specs.declared.limits.Limits.{Limits}
use Rattle.sigma_serve.specs.RuleFiles.{AreOfFiles, contents}
use Rattle.yaml_tree.specs.Tree.{Answer, tree, refusal}

-- ---- lists of pairs

module _ {X Y : Type 0} where
  abbrev pub firsts : List (X × Y) → List X
  firsts ps = map (λ p. p.0) ps

  abbrev pub seconds : List (X × Y) → List Y
  seconds ps = map (λ p. p.1) ps

  pub of_both : (ps qs : List (X × Y)) (xs ys : List Y) → seconds ps ≡ xs → seconds qs ≡ ys → seconds (ps ++ qs) ≡ xs ++ ys
  of_both ps qs xs ys is too = map-append (λ (p : X × Y). p.1) ps qs ∙ (ap (λ (l : List Y). l ++ seconds qs) is ∙ ap (λ (l : List Y). xs ++ l) too)

  -- the texts of the first ones, and then those of the second ones
  pub follows_both : (texts : X → List (List ℕ)) (ps qs : List (X × Y)) (a b c : List (List ℕ)) → b ≡ a ++ flat_map texts (firsts ps) → c ≡ b ++ flat_map texts (firsts qs)
      → c ≡ a ++ flat_map texts (firsts (ps ++ qs))
  follows_both texts ps qs a b c is too =
      too ∙ (ap (λ (l : List (List ℕ)). l ++ flat_map texts (firsts qs)) is
      ∙ (append_assoc a (flat_map texts (firsts ps)) (flat_map texts (firsts qs))
      ∙ ap (λ (l : List (List ℕ)). a ++ l) (sym (ap (flat_map texts) (map-append (λ (p : X × Y). p.0) ps qs) ∙ flat_map-append texts (firsts ps) (firsts qs)))))

  -- the one beside the other again
  paired_all : (none : X) (ps : List (X × Y)) → paired none (firsts ps) (seconds ps) ≡ ps
  paired_all none [] = refl
  paired_all none ((x, y) ∷ ps) = ap (λ (l : List (X × Y)). (x, y) ∷ l) (paired_all none ps)

  pub paired_of : (none : X) (ps : List (X × Y)) (ys : List Y) → seconds ps ≡ ys → paired none (firsts ps) ys ≡ ps
  paired_of none ps ys is = ap (paired none (firsts ps)) (sym is) ∙ paired_all none ps

  pub no_more : (ps : List (X × Y)) (ys : List Y) → seconds ps ≡ ys → length (firsts ps) ≤ length ys
  no_more ps ys is =
      let same : length (firsts ps) ≡ length ys = length-map ps (λ (p : X × Y). p.0) ∙ (sym (length-map ps (λ (p : X × Y). p.1)) ∙ ap length is) in
      omega (arith, same)

  -- this one beside each
  abbrev pub beside : X → List Y → List (X × Y)
  beside none ys = map (λ y. (none, y)) ys

  pub beside_of : (none : X) (ys : List Y) → seconds (beside none ys) ≡ ys
  beside_of none [] = refl
  beside_of none (y ∷ ys) = ap (λ (l : List Y). y ∷ l) (beside_of none ys)

  pub beside_follows : (texts : X → List (List ℕ)) (none : X) → texts none ≡ [] → (ys : List Y) (a : List (List ℕ)) → a ≡ a ++ flat_map texts (firsts (beside none ys))
  beside_follows texts none no_texts ys a = sym (append-nil a) ∙ ap (λ (l : List (List ℕ)). a ++ l) (sym (nothing ys))
    where
      nothing : (zs : List Y) → flat_map texts (firsts (beside none zs)) ≡ []
      nothing [] = refl
      nothing (z ∷ zs) = ap (λ (l : List (List ℕ)). l ++ flat_map texts (firsts (beside none zs))) no_texts ∙ nothing zs

-- ---- of an answer that is cut off, there may be none

module _ (limits : Limits) (ps : List Pipeline) where
  pub none_of_documents : (documents : List Answer) → EachOf (AreOfDocument limits ps false) (beside none_unbuilt documents)
  none_of_documents [] = tt
  none_of_documents (tree t ∷ documents) = (none_are limits ps t, none_of_documents documents)
  none_of_documents (refusal p ∷ documents) = (refl, none_of_documents documents)

  pub none_of_file : (bytes : List ℕ) → AreOfFile limits ps bytes false []
  none_of_file bytes = record {
    each = λ documents taken. (
      subst (EachOf (AreOfDocument limits ps false)) (beside_paired documents) (none_of_documents documents),
      omega arith,
    );
    whole = λ p is. refl;
  }
    where
      beside_paired : (documents : List Answer) → beside none_unbuilt documents ≡ paired none_unbuilt [] documents
      beside_paired [] = refl
      beside_paired (d ∷ documents) = ap (λ (l : List (Unbuilt × Answer)). (none_unbuilt, d) ∷ l) (beside_paired documents)

  pub none_of_files : (world : World) (names : List (List ℕ)) → EachOf (λ (file : List Unbuilt × List ℕ). AreOfFile limits ps (contents world.files file.1) false file.0) (beside [] names)
  none_of_files world [] = tt
  none_of_files world (name ∷ names) = (none_of_file (contents world.files name), none_of_files world names)

-- ---- what came to its end may also have been cut off

module _ (limits : Limits) (ps : List Pipeline) (ended later : Bool) (so : later ≡ true → ended ≡ true) where
  pub documents_later : (documents : List (Unbuilt × Answer)) → EachOf (AreOfDocument limits ps ended) documents → EachOf (AreOfDocument limits ps later) documents
  documents_later [] are = tt
  documents_later ((unbuilt, tree t) ∷ documents) are = (unbuilt_later limits ps ended later so unbuilt t are.0, documents_later documents are.1)
  documents_later ((unbuilt, refusal p) ∷ documents) are = (are.0, documents_later documents are.1)

  pub file_later : (bytes : List ℕ) (unbuilt : List Unbuilt) → AreOfFile limits ps bytes ended unbuilt → AreOfFile limits ps bytes later unbuilt
  file_later bytes unbuilt are = record {
    each = λ documents taken. let each = are.each documents taken in (documents_later (paired none_unbuilt unbuilt documents) each.0, each.1);
    whole = are.whole;
  }

  pub each_later : (world : World) (files : List (List Unbuilt × List ℕ)) → EachOf (λ file. AreOfFile limits ps (contents world.files file.1) ended file.0) files
      → EachOf (λ file. AreOfFile limits ps (contents world.files file.1) later file.0) files
  each_later world [] are = tt
  each_later world (file ∷ files) are = (file_later (contents world.files file.1) file.0 are.0, each_later world files are.1)

  pub files_later : (world : World) (unbuilt : List (List Unbuilt)) (names : List (List ℕ)) → AreOfFiles limits ps ended world unbuilt names → AreOfFiles limits ps later world unbuilt names
  files_later world unbuilt names are = (each_later world (paired [] unbuilt names) are.0, are.1)
