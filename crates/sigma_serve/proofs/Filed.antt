-- What answering one file leaves, and one file after the other.
use Rattle.std.proofs.Common.{◌≡◌, ℕ, suc, ◌+◌, ◌<◌, Bool, true, false, List, [], ◌∷◌, ◌++◌, length, take, drop, get_or, refl, ap, sym, ◌∙◌, subst, arith, append-nil, Option, Some, None, Result, Ok, Err, inl, inr}
use Rattle.pipeline_files.specs.Paired.{paired}
use Rattle.pipeline_files.specs.Places.{file_texts}
use Rattle.pipeline_model.specs.declared.pipeline.Pipeline.{Pipeline}
use Rattle.std.specs.Prelude.{◌||◌, MatchOption, unwrap_or, Contains}
use Rattle.std.proofs.lemmas.Bool.{cases_lt}
use Rattle.std.proofs.lemmas.List.{take_all, length-take-le}
use Rattle.answer_writer.proofs.Ending.{Then, EventsAside, EachHas, ends_as, ends_both, ends_later, ends_less, ends_nothing, ends_written, files_of}
use Rattle.answer_writer.proofs.Rows.{around, before_and, each_parts, parts_append, parts_aside}
use Rattle.answer_writer.proofs.Unread.{ends_unread}
use Rattle.answer_writer.specs.Each.{EachPart}
use Rattle.answer_writer.specs.Input.{Input, World, Needs, File}
use Rattle.answer_writer.specs.Parts.{Share, Part}
use Rattle.answer_writer.specs.Stands.{Writes, Ends, StopsBefore}
use Rattle.answer_writer.specs.State.{State}
use Rattle.answer_writer.specs.declared.stop.Stop.{Stop}
use Rattle.correlation_files.specs.Places.{AreOfFile}
use Rattle.event_schema.specs.Lists.{EachOf}
use Rattle.rule_regex.proofs.Lists.{each_joined}
use Rattle.rule_regex.specs.Unbuilt.{Unbuilt}
use Rattle.sig_base.specs.Files.{file_at, IsFront}
use Rattle.sig_base.specs.declared.limits.Limits.{Limits}
use Rattle.sigma_serve.proofs.Placed.{firsts, of_both, follows_both, paired_of, no_more, beside, beside_of, beside_follows, none_of_files, each_later}
use Rattle.sigma_serve.proofs.Trees.{cut}
use Rattle.sigma_serve.specs.Laws.{EachFile, OneFile}
use Rattle.sigma_serve.specs.RuleFiles.{ByUnbuilt, FileGivesAt, as_one_at, by_document_at, RuleFileAt, AreOfFiles, FileBySome, FilesBySome, all_texts, contents}
use Rattle.yaml_documents.specs.Call.{IsCallRefusal}
use Rattle.yaml_tree.specs.Tree.{At}

pub parts_as : {X : Type 0} (P Q : X → World → Part → Type 0) → ((x : X) (world : World) (part : Part) → P x world part → Q x world part)
    → (xs : List X) (world : World) (parts : List Part) → EachPart P xs world parts → EachPart Q xs world parts
parts_as P Q f [] world [] each = tt
parts_as P Q f [] world (p ∷ parts) each = absurd each
parts_as P Q f (x ∷ xs) world [] each = absurd each
parts_as P Q f (x ∷ xs) world (p ∷ parts) each = (f x world p each.0, parts_as P Q f xs world parts each.1)

-- ---- a file's first bytes, up to one past the limit, are answered as the file

module _ (by : ByUnbuilt) (limits : Limits) (ps : List Pipeline) (name : List ℕ) where
  module _ (all : List ℕ) where
    abbrev front : List ℕ
    front = take (limits.file_bytes + 1) all

    past : limits.file_bytes < length all → limits.file_bytes < length front
    past large = omega (arith, large, length-take-le (limits.file_bytes + 1) all (omega (arith, large)))

    refused_too : (p : ℕ × At) → IsCallRefusal limits.file_bytes limits.documents front p → limits.file_bytes < length all → IsCallRefusal limits.file_bytes limits.documents all p
    refused_too p (inl (inl (_, is))) large = inl (inl (large, is))
    refused_too p (inl (inr (small, _, _, _))) large = absurd (omega (arith, past large, small))
    refused_too p (inr (small, _, _, _)) large = absurd (omega (arith, past large, small))

    refused_first : (p : ℕ × At) → IsCallRefusal limits.file_bytes limits.documents all p → limits.file_bytes < length all → IsCallRefusal limits.file_bytes limits.documents front p
    refused_first p (inl (inl (_, is))) large = inl (inl (past large, is))
    refused_first p (inl (inr (small, _, _, _))) large = absurd (omega (arith, large, small))
    refused_first p (inr (small, _, _, _)) large = absurd (omega (arith, large, small))

    gives_too : (unbuilt : List Unbuilt) (share : Share) → limits.file_bytes < length all → FileGivesAt by limits unbuilt name front share → FileGivesAt by limits unbuilt name all share
    gives_too unbuilt share large (as_one_at p is same) = as_one_at p (refused_too p is large) same
    gives_too unbuilt share large (by_document_at ds taken each) = let small = taken.within in absurd (omega (arith, past large, small))

    are_too : (ended : Bool) (unbuilt : List Unbuilt) → limits.file_bytes < length all → AreOfFile limits ps front ended unbuilt → AreOfFile limits ps all ended unbuilt
    are_too ended unbuilt large are = record {
      each = λ documents taken. let small = taken.within in absurd (omega (arith, large, small));
      whole = λ p is. are.whole p (refused_first p is large);
    }

    pub front_answers : (before after : List (List ℕ)) (ended : Bool) (share : Share) → FileBySome by limits ps before after ended name front share → FileBySome by limits ps before after ended name all share
    front_answers before after ended share file =
        elim (cases_lt limits.file_bytes (length all)) as (λ _. FileBySome by limits ps before after ended name all share) [
          | inl large ↦ record { unbuilt = file.unbuilt; follows = file.follows; are = are_too ended file.unbuilt large file.are; gives = gives_too file.unbuilt share large file.gives }
          | inr small ↦ subst (λ (b : List ℕ). FileBySome by limits ps before after ended name b share) (take_all (limits.file_bytes + 1) all (omega (arith, small))) file
        ]

  module _ (before after : List (List ℕ)) (ended : Bool) where
    -- what was read of a file that is told answers the file
    read_answers : (files : Option (List (List ℕ × List ℕ))) (told : List (List ℕ × List ℕ)) (bytes : List ℕ) (share : Share) → files ≡ Some told → IsFront files name (limits.file_bytes + 1) bytes
        → FileBySome by limits ps before after ended name bytes share → FileBySome by limits ps before after ended name (contents told name) share
    read_answers files told bytes share is front file = found (file_at told name) (subst (λ f. IsFront f name (limits.file_bytes + 1) bytes) is front)
      where
        found : (at : Option (List ℕ)) → MatchOption at ⊥ (λ all. bytes ≡ take (limits.file_bytes + 1) all) → FileBySome by limits ps before after ended name (unwrap_or at []) share
        found None bad = absurd bad
        found (Some all) same = front_answers all before after ended share (subst (λ (b : List ℕ). FileBySome by limits ps before after ended name b share) same file)

    -- the part of a file
    one_file : (world : World) (share : Share) → FileBySome by limits ps before after ended name (contents world.files name) share
        → FilesBySome by limits ps before after ended (name ∷ []) world (record { input = Some (File name); share = share } ∷ [])
    one_file world share file = record {
      placed = (file.unbuilt, name) ∷ [];
      of = refl;
      follows = file.follows ∙ ap (λ (l : List (List ℕ)). before ++ l) (sym (append-nil (file_texts file.unbuilt)));
      are = (file.are, tt);
      each = (record { input = refl; share = file.gives }, tt);
    }

    -- the file was read, and its documents answered
    pub file_read : (needs : Needs) (bytes : List ℕ) (result : Result Bool Stop) (old new : State) → Contains needs.names name → IsFront old.inputs.files name (limits.file_bytes + 1) bytes
        → Writes (FileBySome by limits ps before after ended name bytes) result old new → Ends (files_of needs) (FilesBySome by limits ps before after ended (name ∷ [])) result old new
    file_read needs bytes result old new there front wrote =
        ends_written (files_of needs) (FilesBySome by limits ps before after ended (name ∷ [])) (FileBySome by limits ps before after ended name bytes) (Some (File name)) result old new
        (λ world told share file. one_file world share (read_answers old.inputs.files world.files bytes share (told.files name there) front file)) wrote

    -- the file couldn't be read
    pub file_unread : ((bytes : List ℕ) → (share : Share) × FileBySome by limits ps before after ended name bytes share) → (needs : Needs) (stop : Stop) (old new : State) → Contains needs.names name
        → StopsBefore name stop old new → Ends (files_of needs) (FilesBySome by limits ps before after ended (name ∷ [])) (Err stop) old new
    file_unread each needs stop old new there stops =
        ends_unread (files_of needs) (FilesBySome by limits ps before after ended (name ∷ [])) name old new there stop
        (λ world. let one = each (contents world.files name) in
        let part : Part = record { input = Some (File name); share = one.0 } in
        (part ∷ [], one_file world one.0 one.1, (part, [], refl, refl))) stops

-- ---- exactly one part for each file, where regular expressions aren't built at some places

pub each_part : (by : ByUnbuilt) (limits : Limits) → EachFile by → (file : List Unbuilt × List ℕ) (world : World) → (part : Part) × RuleFileAt by limits file world part
each_part by limits each file world =
    let one = each limits file.0 file.1 (contents world.files file.1) in (record { input = Some (File file.1); share = one.0 }, record { input = refl; share = one.1 })

pub one_part : (by : ByUnbuilt) (limits : Limits) → OneFile by → (file : List Unbuilt × List ℕ) (world : World) (p q : Part) → RuleFileAt by limits file world p → RuleFileAt by limits file world q → p ≡ q
one_part by limits one file world p q first second =
    same_part p q (first.input ∙ sym second.input) (one limits file.0 file.1 (contents world.files file.1) p.share q.share first.share second.share)
  where
    same_part : (p q : Part) → p.input ≡ q.input → p.share ≡ q.share → p ≡ q
    same_part p q input share = ap (λ (i : Option Input). record { input = i; share = p.share }) input ∙ ap (λ (s : Share). record { input = q.input; share = s }) share

-- ---- file by file

-- an element is among the names
pub there : (names : List (List ℕ)) (i : ℕ) (x : List ℕ) → i < length names → x ≡ get_or names i x → Contains names x
there names i x below is = (i, below, sym is)

module _ (by : ByUnbuilt) (limits : Limits) (ps : List Pipeline) where
  abbrev pub Files : List (List ℕ) → List (List ℕ) → Bool → List (List ℕ) → World → List Part → Type 0
  Files before after ended names = FilesBySome by limits ps before after ended names

  abbrev IsOfFile : Bool → World → List Unbuilt × List ℕ → Type 0
  IsOfFile ended world file = AreOfFile limits ps (contents world.files file.1) ended file.0

  -- files, and then others
  files_both : (a b c : List (List ℕ)) (ended : Bool) (xs ys : List (List ℕ)) (world : World) (parts : List Part) → Then (Files a b ended xs) (Files b c ended ys) world parts
      → Files a c ended (xs ++ ys) world parts
  files_both a b c ended xs ys world parts (ps, qs, first, second, is) = record {
    placed = first.placed ++ second.placed;
    of = of_both first.placed second.placed xs ys first.of second.of;
    follows = follows_both file_texts first.placed second.placed a b c first.follows second.follows;
    are = each_joined (IsOfFile ended world) first.placed second.placed first.are second.are;
    each = subst (λ (l : List Part). EachPart (RuleFileAt by limits) (first.placed ++ second.placed) world l) (sym is)
        (parts_append (RuleFileAt by limits) first.placed second.placed world ps qs first.each second.each);
  }

  -- an answer that may have been cut off
  files_cut : (before after : List (List ℕ)) (ended : Bool) (names : List (List ℕ)) (world : World) (parts : List Part) → Files before after ended names world parts → Files before after false names world parts
  files_cut before after ended names world parts f =
      record { placed = f.placed; of = f.of; follows = f.follows; are = each_later limits ps ended false cut world f.placed f.are; each = f.each }

  -- files that aren't reached
  pub files_left : EachFile by → (texts : List (List ℕ)) (names : List (List ℕ)) → EachHas (Files texts texts false names)
  files_left each texts names world =
      let placed : List (List Unbuilt × List ℕ) = beside [] names in
      let all = each_parts (RuleFileAt by limits) (each_part by limits each) placed world in (
        all.0,
        record { placed = placed; of = beside_of [] names; follows = beside_follows file_texts [] refl names texts; are = none_of_files limits ps world names; each = all.1 },
      )

  -- the events decide nothing of it
  files_aside : (before after : List (List ℕ)) (ended : Bool) (names : List (List ℕ)) → EventsAside (Files before after ended names)
  files_aside before after ended names world events parts f = record {
    placed = f.placed;
    of = f.of;
    follows = f.follows;
    are = f.are;
    each = parts_aside (RuleFileAt by limits) (λ file w more part is. record { input = is.input; share = is.share }) f.placed world events parts f.each;
  }

  pub files_none : (needs : Needs) (texts : List (List ℕ)) (s : State) → Ends needs (Files texts texts true []) (Ok false) s s
  files_none needs texts s = ends_nothing needs (Files texts texts true []) s (λ w. record { placed = []; of = refl; follows = sym (append-nil texts); are = tt; each = tt })

  -- one more file
  pub files_next : (a b c : List (List ℕ)) (needs : Needs) (names : List (List ℕ)) (i : ℕ) (name : List ℕ) (first second both : Bool) (old mid new : State)
      → i < length names → name ≡ get_or names i name → both ≡ (first || second) → Ends (files_of needs) (Files a b true (take i names)) (Ok first) old mid
      → Ends (files_of needs) (Files b c true (name ∷ [])) (Ok second) mid new → Ends (files_of needs) (Files a c true (take (i + 1) names)) (Ok both) old new
  files_next a b c needs names i name first second both old mid new below is found ended next =
      subst (λ (l : List (List ℕ)). Ends (files_of needs) (Files a c true l) (Ok both) old new) (sym (before_and names i name below is))
      (subst (λ (f : Bool). Ends (files_of needs) (Files a c true (take i names ++ name ∷ [])) (Ok f) old new) (sym found)
      (ends_as (files_of needs) (Then (Files a b true (take i names)) (Files b c true (name ∷ []))) (Files a c true (take i names ++ name ∷ [])) (Ok (first || second)) old new
      (files_both a b c true (take i names) (name ∷ []))
      (ends_both (files_of needs) (Files a b true (take i names)) (Files b c true (name ∷ [])) first second old mid new ended next)))

  -- the file at which it stops
  pub files_stop : EachFile by → (a b c : List (List ℕ)) (needs : Needs) (names : List (List ℕ)) (i : ℕ) (name : List ℕ) (first : Bool) (stop : Stop) (old mid new : State)
      → i < length names → name ≡ get_or names i name → Ends (files_of needs) (Files a b true (take i names)) (Ok first) old mid
      → Ends (files_of needs) (Files b c false (name ∷ [])) (Err stop) mid new → Ends (files_of needs) (Files a c false names) (Err stop) old new
  files_stop each a b c needs names i name first stop old mid new below is ended next =
      let left : List (List ℕ) = drop (suc i) names in
      subst (λ (l : List (List ℕ)). Ends (files_of needs) (Files a c false l) (Err stop) old new) (sym (around names i name below is))
      (ends_as (files_of needs) (Then (Files a b false (take i names)) (Files b c false (name ∷ left))) (Files a c false (take i names ++ name ∷ left)) (Err stop) old new
      (files_both a b c false (take i names) (name ∷ left))
      (ends_later (files_of needs) (Files a b false (take i names)) (Files b c false (name ∷ left)) first stop old mid new (files_aside a b false (take i names))
      (ends_as (files_of needs) (Files a b true (take i names)) (Files a b false (take i names)) (Ok first) old mid (files_cut a b true (take i names)) ended)
      (ends_as (files_of needs) (Then (Files b c false (name ∷ [])) (Files c c false left)) (Files b c false (name ∷ left)) (Err stop) mid new (files_both b c c false (name ∷ []) left)
      (ends_less (files_of needs) (Files b c false (name ∷ [])) (Files c c false left) stop mid new (files_left each c left) next))))

  -- ---- the places of the files

  pub files_placed : (before after : List (List ℕ)) (ended : Bool) (names : List (List ℕ)) (world : World) (parts : List Part) → Files before after ended names world parts
      → (unbuilt : List (List Unbuilt)) × ((after ≡ before ++ all_texts unbuilt) × AreOfFiles limits ps ended world unbuilt names) × EachPart (RuleFileAt by limits) (paired [] unbuilt names) world parts
  files_placed before after ended names world parts f =
      let same : paired [] (firsts f.placed) names ≡ f.placed = paired_of [] f.placed names f.of in (
        firsts f.placed,
        (f.follows, (subst (EachOf (IsOfFile ended world)) (sym same) f.are, no_more f.placed names f.of)),
        subst (λ (l : List (List Unbuilt × List ℕ)). EachPart (RuleFileAt by limits) l world parts) (sym same) f.each,
      )
