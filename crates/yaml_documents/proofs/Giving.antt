-- What the code gives for a line and for a document.
use Rattle.std.proofs.Common.{◌≡◌, ℕ, ◌+◌, ◌-◌, ◌<◌, ◌≤◌, ◌≢◌, max, true, false, List, [], ◌∷◌, ◌++◌, length, get_or, take, drop, Option, Some, None, option_map, IfSome, IsSomeAnd, Ok, Err, refl, sym, ap, ◌∙◌, subst, arith, append_assoc, zero, suc}
use Rattle.std.specs.List.{prefix_len, list_all}
use Rattle.std.proofs.lemmas.List.{take-append-drop, length-map, take_all, take-map, map-append, length-take}
use Rattle.yaml_tree.specs.Tree.{At, Tree, tree, refusal}
use Rattle.yaml_tree.specs.View.{document_view}
use Rattle.yaml_tree.specs.declared.tree.Document.{Document}
use Rattle.yaml_tree.specs.declared.tree.Document.TheVariants.{Tree as ATree, Refused}
use Rattle.yaml_inline.specs.declared.line.Line as code
use Rattle.yaml_inline.specs.declared.halt.Halt.{Halt}
use Rattle.yaml_inline.specs.File.{Line, is_marker}
use Rattle.yaml_inline.specs.Line.{at, Stop, refused, unclosed, is_comment}
use Rattle.yaml_inline.specs.View.{line_view, halt_view, Fails}
use Rattle.yaml_blocks.specs.Reading.{block_in}
use Rattle.yaml_blocks.specs.Documents.{home, is_regular, has_content, stop_code, code_at, IsAnswer}
use Rattle.yaml_blocks.specs.Views.{lines_view}
use Rattle.yaml_blocks.proofs.First.{stops_there}
use Rattle.yaml_documents.specs.Places.{StandsOn}
use Rattle.yaml_documents.specs.Rows.{AreInARow}
use Rattle.yaml_documents.specs.Given.{IsPlain, IsRefused, number_of, HasNumber, IsStopped, IsRefusedBehind}
use Rattle.yaml_documents.proofs.OneMore.{stops_on_the_line}
use Rattle.yaml_documents.proofs.Fronts.{prefix_view, all_counted, content_ends}
use Rattle.yaml_documents.proofs.Refusing.{stop_given, dead_given, tree_given}
use Rattle.yaml_documents.proofs.Splits.{split, number_at}

-- ---- a halt

pub so_refused : (o : Option Stop) (f : Stop → ℕ × At) (p : ℕ × At) (d : Document) → Some p ≡ option_map f o → IsRefused p d → IsSomeAnd o (λ s. IsRefused (f s) d)
so_refused None f p d e h = cc
so_refused (Some s) f p d e h = let same : p ≡ f s = cc in subst (λ (q : ℕ × At). IsRefused q d) same h

-- the line at the stop's number, and the lines behind it
pub so_stopped : (o : Option Stop) (xs later : List code.Line) (first x : code.Line) (n : ℕ) (d : Document) → AreInARow (lines_view xs) → Some n ≡ option_map number_of o
    → x ≡ get_or xs (n - (get_or xs 0 first).number) x → later ≡ drop (n - (get_or xs 0 first).number + 1) xs
    → IsSomeAnd o (λ s. IsRefused (stop_code (line_view x) (lines_view later) s) d) → IsSomeAnd o (λ s. IsStopped (lines_view xs) s d)
so_stopped None xs later first x n d rows e x_is later_is h = cc
so_stopped (Some s) xs later first x n d rows e x_is later_is h =
    λ front line more is number.
    let parts = split xs front line more is in
    let same : n ≡ number_of s = cc in
    let counted : line.number ≡ (get_or xs 0 first).number + length front = number_at xs first front line more rows is in
    let index : n - (get_or xs 0 first).number ≡ length front = omega arith in
    let here : line_view x ≡ line = ap line_view (x_is ∙ ap (λ (i : ℕ). get_or xs i x) index) ∙ parts.here x in
    let behind : lines_view later ≡ more = ap lines_view later_is ∙ (ap (λ (i : ℕ). lines_view (drop (i + 1) xs)) index ∙ parts.behind) in
    subst (λ (p : ℕ × At). IsRefused p d) (ap (λ (l : Line). stop_code l (lines_view later) s) here ∙ ap (λ (ls : List Line). stop_code line ls s) behind) h

-- ---- the line behind so many

abbrev Behind : ℕ → ℕ → List code.Line → Document → Type 0
Behind depth count xs d = IsRefusedBehind depth count (lines_view xs) d

here_is : (xs : List code.Line) (count : ℕ) (x : code.Line) (front : List Line) (line : Line) (more : List Line) → x ≡ get_or xs count x → lines_view xs ≡ front ++ line ∷ more → length front ≡ count → line_view x ≡ line
here_is xs count x front line more x_is is n = ap line_view (x_is ∙ ap (λ (i : ℕ). get_or xs i x) (sym n)) ∙ (split xs front line more is).here x

pub marked : (depth count : ℕ) (xs : List code.Line) (x : code.Line) (p : At) (d : Document) → x ≡ get_or xs count x → is_marker (line_view x) ≡ true → p ≡ at (line_view x) 0 → IsRefused (3, p) d → Behind depth count xs d
marked depth count xs x p d x_is marker p_is h =
    λ front line more is n.
    let here = here_is xs count x front line more x_is is n in
    let there : is_marker line ≡ true = ap is_marker (sym here) ∙ marker in
    subst (λ (q : ℕ × At). IsRefused q d) (ap (λ (a : At). (3, a)) (p_is ∙ ap (λ (l : Line). at l 0) here) ∙ rw there refl) h

through_is : (xs : List code.Line) (count : ℕ) (front : List Line) (line : Line) (more : List Line) → lines_view xs ≡ front ++ line ∷ more → length front ≡ count → lines_view (take (count + 1) xs) ≡ front ++ line ∷ []
through_is xs count front line more is n = ap (λ (i : ℕ). lines_view (take (i + 1) xs)) (sym n) ∙ (split xs front line more is).through

pub unread : (depth count : ℕ) (xs through : List code.Line) (x : code.Line) (t : Tree) (p : At) (d : Document) → x ≡ get_or xs count x → is_marker (line_view x) ≡ false → through ≡ take (count + 1) xs
    → block_in depth 0 home (lines_view through) ≡ Ok t → p ≡ at (line_view x) 0 → IsRefused (4, p) d → Behind depth count xs d
unread depth count xs through x t p d x_is marker through_is_taken read p_is h =
    λ front line more is n.
    let here = here_is xs count x front line more x_is is n in
    let there : is_marker line ≡ false = ap is_marker (sym here) ∙ marker in
    let all : lines_view through ≡ front ++ line ∷ [] = ap lines_view through_is_taken ∙ through_is xs count front line more is n in
    let whole : block_in depth 0 home (front ++ line ∷ []) ≡ Ok t = ap (block_in depth 0 home) (sym all) ∙ read in
    subst (λ (q : ℕ × At). IsRefused q d) (ap (λ (a : At). (4, a)) (p_is ∙ ap (λ (l : Line). at l 0) here) ∙ rw (there, whole) refl) h

halted_with : (o : Option Stop) (depth count : ℕ) (xs through later : List code.Line) (x : code.Line) (d : Document) → x ≡ get_or xs count x → is_marker (line_view x) ≡ false → through ≡ take (count + 1) xs
    → later ≡ drop (count + 1) xs → IfSome o (λ s. block_in depth 0 home (lines_view through) ≡ Err s) → IsSomeAnd o (λ s. IsRefused (stop_code (line_view x) (lines_view later) s) d) → Behind depth count xs d
halted_with None depth count xs through later x d x_is marker taken dropped read h = absurd h
halted_with (Some s) depth count xs through later x d x_is marker taken dropped read h =
    λ front line more is n.
    let here = here_is xs count x front line more x_is is n in
    let there : is_marker line ≡ false = ap is_marker (sym here) ∙ marker in
    let all : lines_view through ≡ front ++ line ∷ [] = ap lines_view taken ∙ through_is xs count front line more is n in
    let whole : block_in depth 0 home (front ++ line ∷ []) ≡ Err s = ap (block_in depth 0 home) (sym all) ∙ read in
    let behind : lines_view later ≡ more = ap lines_view dropped ∙ (ap (λ (i : ℕ). lines_view (drop (i + 1) xs)) (sym n) ∙ (split xs front line more is).behind) in
    subst (λ (q : ℕ × At). IsRefused q d)
    (ap (λ (l : Line). stop_code l (lines_view later) s) here ∙ (ap (λ (ls : List Line). stop_code line ls s) behind ∙ (rw (there, whole) refl))) h

pub halted : (h : Halt) (depth count : ℕ) (xs through later : List code.Line) (x : code.Line) (d : Document) → x ≡ get_or xs count x → is_marker (line_view x) ≡ false → through ≡ take (count + 1) xs
    → later ≡ drop (count + 1) xs → Fails h (block_in depth 0 home (lines_view through)) → IsSomeAnd (halt_view h) (λ s. IsRefused (stop_code (line_view x) (lines_view later) s) d) → Behind depth count xs d
halted h = halted_with (halt_view h)

-- ---- a document

-- a refusal that has an answer's code and place is that answer
refused_is : (depth : ℕ) (ls : List Line) (p : ℕ × At) (d : Document) → IsRefused p d → IsAnswer depth ls (refusal p) → IsAnswer depth ls (document_view d)
refused_is depth ls p (ATree n) h a = absurd h
refused_is depth ls p (Refused r) h a = subst (λ (q : ℕ × At). IsAnswer depth ls (refusal q)) (sym h.1) a

plain_is : (p : ℕ × At) (d : Document) → IsRefused p d → IsPlain d
plain_is p (ATree n) h = absurd h
plain_is p (Refused r) h = h.0

abbrev regular_len : List code.Line → ℕ
regular_len xs = prefix_len (λ l. is_regular (line_view l)) xs

abbrev comments_len : List code.Line → ℕ
comments_len xs = prefix_len (λ l. is_comment (line_view l)) xs

-- so many lines and the others
parts_of : (xs : List code.Line) (count : ℕ) → lines_view xs ≡ lines_view (take count xs) ++ lines_view (drop count xs)
parts_of xs count = ap lines_view (sym (take-append-drop count xs)) ∙ map-append line_view (take count xs) (drop count xs)

front_regular : (xs : List code.Line) (count : ℕ) → count ≡ regular_len xs → list_all is_regular (lines_view (take count xs)) ≡ true
front_regular xs count counted =
    all_counted is_regular (lines_view (take count xs)) (lines_view (drop count xs))
    (omega (arith, length-map (take count xs) line_view, length-take count xs, counted, prefix_view is_regular xs, ap (prefix_len is_regular) (parts_of xs count)))

pub whole_given : (depth count : ℕ) (xs regular : List code.Line) (t : Tree) → count ≡ regular_len xs → count ≡ length xs → regular ≡ take count xs → block_in depth 0 home (lines_view regular) ≡ Ok t
    → IsAnswer depth (lines_view xs) (tree t)
whole_given depth count xs regular t counted all taken read =
    let whole : take count xs ≡ xs = take_all count xs (omega arith) in
    tree_given depth (lines_view xs) t (ap (λ (ls : List code.Line). list_all is_regular (lines_view ls)) (sym whole) ∙ front_regular xs count counted)
    (ap (λ (ls : List code.Line). block_in depth 0 home (lines_view ls)) (sym (taken ∙ whole)) ∙ read)

-- ---- the line on which the reading stops

number_on : (l : Line) (s : Stop) → StandsOn l s → l.number ≡ number_of s
number_on l (refused c a) h = sym h.line
number_on l (unclosed n opens) h = sym h.0

numbered_with : (o : Option Stop) (depth count : ℕ) (xs regular : List code.Line) → regular ≡ take count xs → IfSome o (λ s. block_in depth 0 home (lines_view regular) ≡ Err s)
    → IfSome o (λ s. HasNumber (lines_view xs) (number_of s))
numbered_with None depth count xs regular taken read = tt
numbered_with (Some s) depth count xs regular taken read =
    let h = stops_there depth home (lines_view regular) s read in
    record {
      front = h.front;
      line = h.line;
      more = h.more ++ lines_view (drop count xs);
      lines = parts_of xs count ∙ (ap (λ (ls : List code.Line). lines_view ls ++ lines_view (drop count xs)) (sym taken)
          ∙ (ap (λ (ls : List Line). ls ++ lines_view (drop count xs)) h.lines ∙ append_assoc h.front (h.line ∷ h.more) (lines_view (drop count xs))));
      number = number_on h.line s (stops_on_the_line depth home (lines_view regular) s h);
    }

pub numbered : (h : Halt) (depth count : ℕ) (xs regular : List code.Line) → regular ≡ take count xs → Fails h (block_in depth 0 home (lines_view regular))
    → IfSome (halt_view h) (λ s. HasNumber (lines_view xs) (number_of s))
numbered h = numbered_with (halt_view h)

-- what is asked of a document that is given
abbrev Given : ℕ → List code.Line → Document → Type 0
Given depth xs d = IsAnswer depth (lines_view xs) (document_view d) × IsPlain d

refused_given : (depth : ℕ) (xs : List code.Line) (p : ℕ × At) (d : Document) → IsRefused p d → IsAnswer depth (lines_view xs) (refusal p) → Given depth xs d
refused_given depth xs p d h a = (refused_is depth (lines_view xs) p d h a, plain_is p d h)

stopped_with : (o : Option Stop) (depth count : ℕ) (xs regular : List code.Line) (d : Document) → count ≡ regular_len xs → regular ≡ take count xs
    → IfSome o (λ s. block_in depth 0 home (lines_view regular) ≡ Err s) → IsSomeAnd o (λ s. IsStopped (lines_view xs) s d) → Given depth xs d
stopped_with None depth count xs regular d counted taken read h = absurd h
stopped_with (Some s) depth count xs regular d counted taken read h =
    let first = stops_there depth home (lines_view regular) s read in
    let others = lines_view (drop count xs) in
    let parts : lines_view xs ≡ lines_view regular ++ others = parts_of xs count ∙ ap (λ (ls : List code.Line). lines_view ls ++ others) (sym taken) in
    let whole : lines_view xs ≡ first.front ++ first.line ∷ (first.more ++ others) =
    parts ∙ (ap (λ (ls : List Line). ls ++ others) first.lines ∙ append_assoc first.front (first.line ∷ first.more) others) in
    let all : list_all is_regular (lines_view regular) ≡ true = ap (λ (ls : List code.Line). list_all is_regular (lines_view ls)) taken ∙ front_regular xs count counted in
    refused_given depth xs _ d (h first.front first.line (first.more ++ others) whole (number_on first.line s (stops_on_the_line depth home (lines_view regular) s first)))
    (subst (λ (ls : List Line). IsAnswer depth ls (refusal (stop_code first.line (first.more ++ others) s))) (sym parts) (stop_given depth (lines_view regular) others s first all))

pub stopped_given : (h : Halt) (depth count : ℕ) (xs regular : List code.Line) (d : Document) → count ≡ regular_len xs → regular ≡ take count xs → Fails h (block_in depth 0 home (lines_view regular))
    → IsSomeAnd (halt_view h) (λ s. IsStopped (lines_view xs) s d) → Given depth xs d
stopped_given h = stopped_with (halt_view h)

-- ---- the first line that isn't regular, or the first with content behind it

parted_at : (ls : List Line) (n : ℕ) → n < length ls → (front : List Line) × (line : Line) × (more : List Line) × (ls ≡ front ++ line ∷ more) × (length front ≡ n)
parted_at [] n h = absurd (omega arith)
parted_at (l ∷ ls) zero h = ([], l, ls, refl, refl)
parted_at (l ∷ ls) (suc n) h =
    let (front, line, more, is, count) = parted_at ls n (omega arith) in
    (l ∷ front, line, more, ap (λ (xs : List Line). l ∷ xs) is, ap suc count)

pub dead_within : (count comments most : ℕ) (xs : List code.Line) → count ≡ regular_len xs → count ≤ length xs → count ≢ length xs → comments ≡ comments_len xs → has_content (lines_view xs) ≡ true → most ≡ max count comments → most < length xs
dead_within count comments most xs counted within some comment content most_is =
    let h : prefix_len is_comment (lines_view xs) < length (lines_view xs) = content_ends (lines_view xs) content in
    omega (arith, h, length-map xs line_view, prefix_view is_comment xs)

pub behind_given : (depth count comments most : ℕ) (xs regular : List code.Line) (t : Tree) (d : Document) → count ≡ regular_len xs → comments ≡ comments_len xs → most ≡ max count comments → most < length xs
    → regular ≡ take count xs → block_in depth 0 home (lines_view regular) ≡ Ok t → IsRefusedBehind depth most (lines_view xs) d → Given depth xs d
behind_given depth count comments most xs regular t d counted comment most_is within taken read h =
    let (front, line, more, is, n) = parted_at (lines_view xs) most (omega (arith, length-map xs line_view)) in
    let regular_is : count ≡ prefix_len is_regular (front ++ line ∷ more) = counted ∙ (prefix_view is_regular xs ∙ ap (prefix_len is_regular) is) in
    let comment_is : comments ≡ prefix_len is_comment (front ++ line ∷ more) = comment ∙ (prefix_view is_comment xs ∙ ap (prefix_len is_comment) is) in
    let length_is : length front ≡ max (prefix_len is_regular (front ++ line ∷ more)) (prefix_len is_comment (front ++ line ∷ more)) =
    n ∙ (most_is ∙ (ap (λ (k : ℕ). max k comments) regular_is ∙ ap (λ (k : ℕ). max (prefix_len is_regular (front ++ line ∷ more)) k) comment_is)) in
    let front_is : take (prefix_len is_regular (front ++ line ∷ more)) (front ++ line ∷ more) ≡ lines_view regular =
    ap (λ (k : ℕ). take k (front ++ line ∷ more)) (sym regular_is) ∙ (ap (take count) (sym is) ∙ (take-map line_view count xs ∙ ap lines_view (sym taken))) in
    refused_given depth xs _ d (h front line more is n)
    (subst (λ (ls : List Line). IsAnswer depth ls (refusal (code_at depth front line more))) (sym is) (dead_given depth front line more t length_is (ap (block_in depth 0 home) front_is ∙ read)))
