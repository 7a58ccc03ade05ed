-- What reading rule files whose rules are correlated leaves, one file after the other.
use Rattle.std.proofs.Common.{◌≡◌, ℕ, suc, ◌+◌, ◌<◌, Bool, true, false, List, [], ◌∷◌, ◌++◌, length, map, take, drop, get_or, refl, ap, sym, ◌∙◌, subst, arith, append_assoc, append-nil, Some, Result, Ok, Err, inl, inr}
use Rattle.std.specs.Prelude.{⊤, ◌||◌, Contains, OnOk}
use Rattle.std.proofs.lemmas.Bool.{cases_lt}
use Rattle.std.proofs.lemmas.Grind.{flat_map-append}
use Rattle.std.proofs.lemmas.List.{take_all, length-take-le, map-append}
use Rattle.answer_writer.proofs.Ending.{Then, EventsAside, EachHas, ends_as, ends_both, ends_later, ends_less, ends_nothing, ends_written, files_of}
use Rattle.answer_writer.proofs.Rows.{around, before_and, parts_append, parts_aside}
use Rattle.answer_writer.proofs.Unread.{ends_unread}
use Rattle.answer_writer.proofs.Wrote.{writes_as, writes_memory}
use Rattle.answer_writer.specs.Each.{EachPart}
use Rattle.answer_writer.specs.Input.{World, Needs, File}
use Rattle.answer_writer.specs.Parts.{Share, Part}
use Rattle.answer_writer.specs.Stands.{Writes, Ends, StopsBefore}
use Rattle.answer_writer.specs.State.{State}
use Rattle.answer_writer.specs.declared.stop.Stop.{Stop}
use Rattle.answer_writer.specs.declared.stop.Stop.TheVariants.{Memory}
use Rattle.correlation_files.specs.Found.{Grows, StandsFor, Named, named}
use Rattle.correlation_files.specs.Laws as laws
use Rattle.correlation_files.specs.Outcomes.{Outcome, AreOutcomes, as_one, by_document, rules_in, correlations_in, refusals_in}
use Rattle.correlation_files.specs.Places.{AreOfFile, ForFile}
use Rattle.correlation_files.specs.declared.found.Found.{Found}
use Rattle.event_schema.specs.Lists.{EachOf}
use Rattle.event_schema.specs.declared.schema.Schema.{Schema}
use Rattle.pipeline_files.specs.Places.{file_texts}
use Rattle.pipeline_model.specs.declared.pipeline.Pipeline.{Pipeline}
use Rattle.rule_regex.proofs.Lists.{each_joined}
use Rattle.rule_regex.specs.Unbuilt.{Unbuilt}
use Rattle.rule_model.specs.Plain.{PlainRule}
use Rattle.sig_base.specs.Files.{IsFront}
use Rattle.sig_base.specs.declared.limits.Limits.{Limits}
use Rattle.sig_base.specs.declared.refusal.Refusal.{Refusal}
use Rattle.sigma_serve.proofs.Fronts.{file_is}
use Rattle.sigma_serve.proofs.Piped.{each_reported}
use Rattle.sigma_serve.proofs.Placed.{none_of_file, file_later}
use Rattle.sigma_serve.proofs.Trees.{cut}
use Rattle.sigma_serve.specs.Correlated.{SourceFile, SourcePart, rules_of, correlations_of}
use Rattle.sigma_serve.specs.RuleFiles.{all_texts, contents}
use Rattle.sigma_serve.specs.Sourced.{GrowsBy, IsFound, SourceShare, SourcesBySome}
use Rattle.sigma_serve.specs.UnderPipelines.{AreReported}
use Rattle.sigma_serve.specs.UnderSchema.{is_ended}
use Rattle.yaml_documents.specs.Call.{IsCallRefusal}
use Rattle.yaml_tree.specs.Tree.{At}

-- ---- what is so after Ok

pub ok_so : {A E : Type 0} (result : Result A E) (P : Type 0) → P → OnOk result P
ok_so (Ok x) P p = p
ok_so (Err e) P p = tt

pub ok_map : {A E : Type 0} (result : Result A E) (P Q : Type 0) → (P → Q) → OnOk result P → OnOk result Q
ok_map (Ok x) P Q f p = f p
ok_map (Err e) P Q f p = tt

-- ---- what was found grows

abbrev rules_at : SourceFile → List PlainRule
rules_at file = rules_in file.outcomes

abbrev correlations_at : SourceFile → List Named
correlations_at file = named file.name (correlations_in file.outcomes)

module _ (schema : Schema) where
  pub grows_none : (found : Found) → GrowsBy schema [] found found
  grows_none found rules correlations stands =
      subst (λ (rs : List PlainRule). StandsFor schema rs (correlations ++ []) found) (sym (append-nil rules))
      (subst (λ (cs : List Named). StandsFor schema rules cs found) (sym (append-nil correlations)) stands)

  pub grows_one : (file : SourceFile) (old new : Found) → Grows schema file.name file.outcomes old new → GrowsBy schema (file ∷ []) old new
  grows_one file old new grows rules correlations stands =
      subst (λ (rs : List PlainRule). StandsFor schema (rules ++ rs) (correlations ++ correlations_of (file ∷ [])) new) (sym (append-nil (rules_at file)))
      (subst (λ (cs : List Named). StandsFor schema (rules ++ rules_at file) (correlations ++ cs) new) (sym (append-nil (correlations_at file))) (grows rules correlations stands))

  pub grows_both : (fs gs : List SourceFile) (old mid new : Found) → GrowsBy schema fs old mid → GrowsBy schema gs mid new → GrowsBy schema (fs ++ gs) old new
  grows_both fs gs old mid new first second rules correlations stands =
      subst (λ (rs : List PlainRule). StandsFor schema rs (correlations ++ correlations_of (fs ++ gs)) new)
      (append_assoc rules (rules_of fs) (rules_of gs) ∙ ap (λ (rs : List PlainRule). rules ++ rs) (sym (flat_map-append rules_at fs gs)))
      (subst (λ (cs : List Named). StandsFor schema ((rules ++ rules_of fs) ++ rules_of gs) cs new)
      (append_assoc correlations (correlations_of fs) (correlations_of gs) ∙ ap (λ (cs : List Named). correlations ++ cs) (sym (flat_map-append correlations_at fs gs)))
      (second (rules ++ rules_of fs) (correlations ++ correlations_of fs) (first rules correlations stands)))

  -- it still stands for something
  pub found_on : (name : List ℕ) (outcomes : List Outcome) (old new : Found) → Grows schema name outcomes old new → IsFound schema old → IsFound schema new
  found_on name outcomes old new grows (rules, correlations, stands) =
      (rules ++ rules_in outcomes, correlations ++ named name (correlations_in outcomes), grows rules correlations stands)

-- the texts of the one list behind those of the other
follows_then : (fs gs : List (List Unbuilt)) (a b c : List (List ℕ)) → b ≡ a ++ all_texts fs → c ≡ b ++ all_texts gs → c ≡ a ++ all_texts (fs ++ gs)
follows_then fs gs a b c is too =
    too ∙ (ap (λ (l : List (List ℕ)). l ++ all_texts gs) is
    ∙ (append_assoc a (all_texts fs) (all_texts gs) ∙ ap (λ (l : List (List ℕ)). a ++ l) (sym (flat_map-append file_texts fs gs))))

module _ (limits : Limits) (ps : List Pipeline) (schema : Schema) where
  -- ---- a file's first bytes, up to one past the limit, are what the file is

  module _ (all : List ℕ) where
    abbrev front : List ℕ
    front = take (limits.file_bytes + 1) all

    past : limits.file_bytes < length all → limits.file_bytes < length front
    past large = omega (arith, large, length-take-le (limits.file_bytes + 1) all (omega (arith, large)))

    refused_too : (p : ℕ × At) → IsCallRefusal limits.file_bytes limits.documents front p → limits.file_bytes < length all → IsCallRefusal limits.file_bytes limits.documents all p
    refused_too p (inl (inl (_, is))) large = inl (inl (large, is))
    refused_too p (inl (inr (small, _, _, _))) large = absurd (omega (arith, past large, small))
    refused_too p (inr (small, _, _, _)) large = absurd (omega (arith, past large, small))

    refused_first : (p : ℕ × At) → IsCallRefusal limits.file_bytes limits.documents all p → limits.file_bytes < length all → IsCallRefusal limits.file_bytes limits.documents front p
    refused_first p (inl (inl (_, is))) large = inl (inl (past large, is))
    refused_first p (inl (inr (small, _, _, _))) large = absurd (omega (arith, large, small))
    refused_first p (inr (small, _, _, _)) large = absurd (omega (arith, large, small))

    outcomes_too : (unbuilt : List Unbuilt) (os : List Outcome) → limits.file_bytes < length all → AreOutcomes limits ps schema unbuilt front os → AreOutcomes limits ps schema unbuilt all os
    outcomes_too unbuilt os large (as_one y is same) = as_one y (refused_too y is large) same
    outcomes_too unbuilt os large (by_document documents taken each) = let small = taken.within in absurd (omega (arith, past large, small))

    are_too : (ended : Bool) (unbuilt : List Unbuilt) → limits.file_bytes < length all → AreOfFile limits ps front ended unbuilt → AreOfFile limits ps all ended unbuilt
    are_too ended unbuilt large are = record {
      each = λ documents taken. let small = taken.within in absurd (omega (arith, large, small));
      whole = λ p is. are.whole p (refused_first p is large);
    }

    source_front : (before after : List (List ℕ)) (ended : Bool) (name : List ℕ) (Keeps : List Outcome → Type 0) (share : Share)
        → SourceShare limits ps schema before after ended name front Keeps share → SourceShare limits ps schema before after ended name all Keeps share
    source_front before after ended name Keeps share s =
        elim (cases_lt limits.file_bytes (length all)) as (λ _. SourceShare limits ps schema before after ended name all Keeps share) [
          | inl large ↦ record {
            unbuilt = s.unbuilt;
            follows = s.follows;
            are = are_too ended s.unbuilt large s.are;
            outcomes = s.outcomes;
            is = outcomes_too s.unbuilt s.outcomes large s.is;
            told = s.told;
            keeps = s.keeps;
          }
          | inr small ↦ subst (λ (b : List ℕ). SourceShare limits ps schema before after ended name b Keeps share) (take_all (limits.file_bytes + 1) all (omega (arith, small))) s
        ]

  -- ---- the documents of a file

  -- they were read, and those that are refused told
  pub source_told : (name bytes : List ℕ) (x y : Found) (refusals : List Refusal) (before after : List (List ℕ)) (result : Result Bool Stop) (old new : State)
      → ForFile limits ps bytes before after true (λ unbuilt. (os : List Outcome) × AreOutcomes limits ps schema unbuilt bytes os × (refusals ≡ refusals_in os) × Grows schema name os x y)
      → Writes (AreReported name refusals) result old new
      → Writes (SourceShare limits ps schema before after (is_ended result) name bytes (λ os. OnOk result (Grows schema name os x y))) result old new
  source_told name bytes x y refusals before after result old new some wrote =
      writes_as (AreReported name refusals) (SourceShare limits ps schema before after (is_ended result) name bytes (λ os. OnOk result (Grows schema name os x y))) result old new
      (λ share told. record {
        unbuilt = some.unbuilt;
        follows = some.follows;
        are = file_later limits ps true (is_ended result) (λ _. refl) bytes some.unbuilt some.are;
        outcomes = some.says.0;
        is = some.says.1;
        told = subst (λ (rs : List Refusal). AreReported name rs share) some.says.2 told;
        keeps = ok_so result (Grows schema name some.says.0 x y) some.says.3;
      }) wrote

  -- memory was missing
  pub source_memory : laws.EachFile → (name bytes : List ℕ) (before after : List (List ℕ)) (ended : Bool) (Says : List Unbuilt → Type 0) (s : State)
      → ForFile limits ps bytes before after ended Says → Writes (SourceShare limits ps schema before after false name bytes (λ os. ⊤)) (Err Memory) s s
  source_memory each name bytes before after ended Says s some =
      let one = each limits ps schema some.unbuilt bytes in
      let told = each_reported name (refusals_in one.0) in
      writes_memory (SourceShare limits ps schema before after false name bytes (λ os. ⊤)) s (
        told.0,
        record {
          unbuilt = some.unbuilt;
          follows = some.follows;
          are = file_later limits ps ended false cut bytes some.unbuilt some.are;
          outcomes = one.0;
          is = one.1;
          told = told.1;
          keeps = tt;
        },
      )

  -- what was found still stands for something
  pub source_kept : (name bytes : List ℕ) (x y : Found) (before after : List (List ℕ)) (ended : Bool) (result : Result Bool Stop) (old new : State)
      → Writes (SourceShare limits ps schema before after ended name bytes (λ os. OnOk result (Grows schema name os x y))) result old new
      → IsFound schema x → OnOk result (IsFound schema y)
  source_kept name bytes x y before after ended result old new wrote found =
      ok_map result (Grows schema name wrote.is.outcomes x y) (IsFound schema y) (λ grows. found_on schema name wrote.is.outcomes x y grows found) wrote.is.keeps

  -- ---- the part of a file

  abbrev pub Sources : List (List ℕ) → List (List ℕ) → Bool → List (List ℕ) → (List SourceFile → Type 0) → World → List Part → Type 0
  Sources before after ended names Keeps = SourcesBySome limits ps schema before after ended names Keeps

  abbrev at : List ℕ → List Unbuilt → List Outcome → SourceFile
  at name unbuilt os = record { name = name; unbuilt = unbuilt; outcomes = os }

  one_source : (before after : List (List ℕ)) (ended : Bool) (name : List ℕ) (Keeps : List Outcome → Type 0) (Also : List SourceFile → Type 0)
      → ((unbuilt : List Unbuilt) (os : List Outcome) → Keeps os → Also (at name unbuilt os ∷ [])) → (world : World) (share : Share)
      → SourceShare limits ps schema before after ended name (contents world.files name) Keeps share
      → Sources before after ended (name ∷ []) Also world (record { input = Some (File name); share = share } ∷ [])
  one_source before after ended name Keeps Also f world share s = record {
    files = at name s.unbuilt s.outcomes ∷ [];
    of = refl;
    follows = s.follows ∙ ap (λ (l : List (List ℕ)). before ++ l) (sym (append-nil (file_texts s.unbuilt)));
    are = (s.are, tt);
    each = (record { input = refl; outcomes = s.is; share = s.told }, tt);
    keeps = f s.unbuilt s.outcomes s.keeps;
  }

  -- the file was read, and its documents answered
  pub source_read : (name bytes : List ℕ) (x y : Found) (before after : List (List ℕ)) (needs : Needs) (result : Result Bool Stop) (old new : State) → Contains needs.names name
      → IsFront old.inputs.files name (limits.file_bytes + 1) bytes
      → Writes (SourceShare limits ps schema before after (is_ended result) name bytes (λ os. OnOk result (Grows schema name os x y))) result old new
      → Ends (files_of needs) (Sources before after (is_ended result) (name ∷ []) (λ fs. OnOk result (GrowsBy schema fs x y))) result old new
  source_read name bytes x y before after needs result old new there is_front wrote =
      ends_written (files_of needs) (Sources before after (is_ended result) (name ∷ []) (λ fs. OnOk result (GrowsBy schema fs x y)))
      (SourceShare limits ps schema before after (is_ended result) name bytes (λ os. OnOk result (Grows schema name os x y))) (Some (File name)) result old new
      (λ world told share s. one_source before after (is_ended result) name (λ os. OnOk result (Grows schema name os x y)) (λ fs. OnOk result (GrowsBy schema fs x y))
      (λ unbuilt os keeps. ok_map result (Grows schema name os x y) (GrowsBy schema (at name unbuilt os ∷ []) x y) (grows_one schema (at name unbuilt os) x y) keeps) world share
      (file_is (limits.file_bytes + 1) (λ bs. SourceShare limits ps schema before after (is_ended result) name bs (λ os. OnOk result (Grows schema name os x y)) share) name
      (λ all. source_front all before after (is_ended result) name (λ os. OnOk result (Grows schema name os x y)) share) old.inputs.files world.files bytes (told.files name there) is_front s)) wrote

  -- files that aren't reached
  pub sources_left : laws.EachFile → (texts : List (List ℕ)) (names : List (List ℕ)) → EachHas (Sources texts texts false names (λ fs. ⊤))
  sources_left each texts [] world = ([], record { files = []; of = refl; follows = sym (append-nil texts); are = tt; each = tt; keeps = tt })
  sources_left each texts (name ∷ names) world =
      let one = each limits ps schema [] (contents world.files name) in
      let told = each_reported name (refusals_in one.0) in
      let rest = sources_left each texts names world in (
        record { input = Some (File name); share = told.0 } ∷ rest.0,
        record {
          files = at name [] one.0 ∷ rest.1.files;
          of = ap (λ (l : List (List ℕ)). name ∷ l) rest.1.of;
          follows = rest.1.follows;
          are = (none_of_file limits ps (contents world.files name), rest.1.are);
          each = (record { input = refl; outcomes = one.1; share = told.1 }, rest.1.each);
          keeps = tt;
        },
      )

  -- the file couldn't be read
  pub source_unread : laws.EachFile → (texts : List (List ℕ)) (name : List ℕ) (needs : Needs) (stop : Stop) (old new : State) → Contains needs.names name → StopsBefore name stop old new
      → Ends (files_of needs) (Sources texts texts false (name ∷ []) (λ fs. ⊤)) (Err stop) old new
  source_unread each texts name needs stop old new there stops =
      ends_unread (files_of needs) (Sources texts texts false (name ∷ []) (λ fs. ⊤)) name old new there stop
      (λ world.
      let one = each limits ps schema [] (contents world.files name) in
      let told = each_reported name (refusals_in one.0) in
      let part : Part = record { input = Some (File name); share = told.0 } in (
        part ∷ [],
        record {
          files = at name [] one.0 ∷ [];
          of = refl;
          follows = sym (append-nil texts);
          are = (none_of_file limits ps (contents world.files name), tt);
          each = (record { input = refl; outcomes = one.1; share = told.1 }, tt);
          keeps = tt;
        },
        (part, [], refl, refl),
      )) stops

  -- ---- file by file

  abbrev IsOfFile : Bool → World → SourceFile → Type 0
  IsOfFile ended world f = AreOfFile limits ps (contents world.files f.name) ended f.unbuilt

  -- files, and then others
  sources_both : (a b c : List (List ℕ)) (ended : Bool) (xs ys : List (List ℕ)) (K L Both : List SourceFile → Type 0) → ((fs gs : List SourceFile) → K fs → L gs → Both (fs ++ gs))
      → (world : World) (parts : List Part) → Then (Sources a b ended xs K) (Sources b c ended ys L) world parts → Sources a c ended (xs ++ ys) Both world parts
  sources_both a b c ended xs ys K L Both f world parts (qs, rs, first, second, is) = record {
    files = first.files ++ second.files;
    of = map-append (λ (file : SourceFile). file.name) first.files second.files
        ∙ (ap (λ (l : List (List ℕ)). l ++ map (λ (file : SourceFile). file.name) second.files) first.of ∙ ap (λ (l : List (List ℕ)). xs ++ l) second.of);
    follows = follows_then (map (λ (file : SourceFile). file.unbuilt) first.files) (map (λ (file : SourceFile). file.unbuilt) second.files) a b c first.follows second.follows
        ∙ ap (λ (l : List (List Unbuilt)). a ++ all_texts l) (sym (map-append (λ (file : SourceFile). file.unbuilt) first.files second.files));
    are = each_joined (IsOfFile ended world) first.files second.files first.are second.are;
    each = subst (λ (l : List Part). EachPart (SourcePart limits ps schema) (first.files ++ second.files) world l) (sym is)
        (parts_append (SourcePart limits ps schema) first.files second.files world qs rs first.each second.each);
    keeps = f first.files second.files first.keeps second.keeps;
  }

  each_cut : (ended : Bool) (world : World) (fs : List SourceFile) → EachOf (IsOfFile ended world) fs → EachOf (IsOfFile false world) fs
  each_cut ended world [] are = tt
  each_cut ended world (f ∷ fs) are = (file_later limits ps ended false cut (contents world.files f.name) f.unbuilt are.0, each_cut ended world fs are.1)

  -- an answer that may have been cut off
  sources_cut : (before after : List (List ℕ)) (ended : Bool) (names : List (List ℕ)) (K : List SourceFile → Type 0) (world : World) (parts : List Part)
      → Sources before after ended names K world parts → Sources before after false names (λ fs. ⊤) world parts
  sources_cut before after ended names K world parts s =
      record { files = s.files; of = s.of; follows = s.follows; are = each_cut ended world s.files s.are; each = s.each; keeps = tt }

  -- the events decide nothing of it
  pub sources_aside : (before after : List (List ℕ)) (ended : Bool) (names : List (List ℕ)) (K : List SourceFile → Type 0) → EventsAside (Sources before after ended names K)
  sources_aside before after ended names K world events parts s = record {
    files = s.files;
    of = s.of;
    follows = s.follows;
    are = s.are;
    each = parts_aside (SourcePart limits ps schema) (λ file w more part is. record { input = is.input; outcomes = is.outcomes; share = is.share }) s.files world events parts s.each;
    keeps = s.keeps;
  }

  pub sources_none : (needs : Needs) (texts : List (List ℕ)) (found : Found) (s : State) → Ends needs (Sources texts texts true [] (λ fs. GrowsBy schema fs found found)) (Ok false) s s
  sources_none needs texts found s =
      ends_nothing needs (Sources texts texts true [] (λ fs. GrowsBy schema fs found found)) s
      (λ w. record { files = []; of = refl; follows = sym (append-nil texts); are = tt; each = tt; keeps = grows_none schema found })

  -- one more file
  pub sources_next : (a b c : List (List ℕ)) (needs : Needs) (names : List (List ℕ)) (i : ℕ) (name : List ℕ) (first second both : Bool) (x y z : Found) (old mid new : State)
      → i < length names → name ≡ get_or names i name → both ≡ (first || second)
      → Ends (files_of needs) (Sources a b true (take i names) (λ fs. GrowsBy schema fs x y)) (Ok first) old mid
      → Ends (files_of needs) (Sources b c true (name ∷ []) (λ fs. GrowsBy schema fs y z)) (Ok second) mid new
      → Ends (files_of needs) (Sources a c true (take (i + 1) names) (λ fs. GrowsBy schema fs x z)) (Ok both) old new
  sources_next a b c needs names i name first second both x y z old mid new below is found ended next =
      let K : List SourceFile → Type 0 = λ fs. GrowsBy schema fs x y in
      let L : List SourceFile → Type 0 = λ fs. GrowsBy schema fs y z in
      let M : List SourceFile → Type 0 = λ fs. GrowsBy schema fs x z in
      subst (λ (l : List (List ℕ)). Ends (files_of needs) (Sources a c true l M) (Ok both) old new) (sym (before_and names i name below is))
      (subst (λ (f : Bool). Ends (files_of needs) (Sources a c true (take i names ++ name ∷ []) M) (Ok f) old new) (sym found)
      (ends_as (files_of needs) (Then (Sources a b true (take i names) K) (Sources b c true (name ∷ []) L)) (Sources a c true (take i names ++ name ∷ []) M) (Ok (first || second)) old new
      (sources_both a b c true (take i names) (name ∷ []) K L M (λ fs gs one two. grows_both schema fs gs x y z one two))
      (ends_both (files_of needs) (Sources a b true (take i names) K) (Sources b c true (name ∷ []) L) first second old mid new ended next)))

  -- the file at which it stops
  pub sources_stop : laws.EachFile → (a b c : List (List ℕ)) (needs : Needs) (names : List (List ℕ)) (i : ℕ) (name : List ℕ) (first : Bool) (stop : Stop) (x y : Found) (old mid new : State)
      → i < length names → name ≡ get_or names i name → Ends (files_of needs) (Sources a b true (take i names) (λ fs. GrowsBy schema fs x y)) (Ok first) old mid
      → Ends (files_of needs) (Sources b c false (name ∷ []) (λ fs. ⊤)) (Err stop) mid new → Ends (files_of needs) (Sources a c false names (λ fs. ⊤)) (Err stop) old new
  sources_stop each a b c needs names i name first stop x y old mid new below is ended next =
      let left : List (List ℕ) = drop (suc i) names in
      let Any : List SourceFile → Type 0 = λ fs. ⊤ in
      let K : List SourceFile → Type 0 = λ fs. GrowsBy schema fs x y in
      subst (λ (l : List (List ℕ)). Ends (files_of needs) (Sources a c false l Any) (Err stop) old new) (sym (around names i name below is))
      (ends_as (files_of needs) (Then (Sources a b false (take i names) Any) (Sources b c false (name ∷ left) Any)) (Sources a c false (take i names ++ name ∷ left) Any) (Err stop) old new
      (sources_both a b c false (take i names) (name ∷ left) Any Any Any (λ fs gs one two. tt))
      (ends_later (files_of needs) (Sources a b false (take i names) Any) (Sources b c false (name ∷ left) Any) first stop old mid new (sources_aside a b false (take i names) Any)
      (ends_as (files_of needs) (Sources a b true (take i names) K) (Sources a b false (take i names) Any) (Ok first) old mid (sources_cut a b true (take i names) K) ended)
      (ends_as (files_of needs) (Then (Sources b c false (name ∷ []) Any) (Sources c c false left Any)) (Sources b c false (name ∷ left) Any) (Err stop) mid new
      (sources_both b c c false (name ∷ []) left Any Any Any (λ fs gs one two. tt))
      (ends_less (files_of needs) (Sources b c false (name ∷ []) Any) (Sources c c false left Any) stop mid new (sources_left each c left) next))))
