-- Documents of lines, one more at a time.
use Rattle.std.proofs.Common.{◌≡◌, ℕ, suc, ◌+◌, ◌<◌, ◌≤◌, Bool, true, false, not, cond, ◌||◌, List, [], ◌∷◌, ◌++◌, length, get_or, take, drop, Option, Some, None, is_some, ltb, refl, sym, ap, ◌∙◌, arith, append_assoc, append-nil}
use Rattle.std.specs.Borrow.{Bor}
use Rattle.std.specs.List.{prefix_len, list_any}
use Rattle.std.proofs.lemmas.List.{drop_more, at_drop_all, map-append, length-map, drop-drop, take_all}
use Rattle.std.proofs.lemmas.Bool.{ltb-true, ltb-false}
use Rattle.std.proofs.lemmas.List.Folds.{length-prefix_len}
use Rattle.std.proofs.lemmas.List.Sums.{prefix_len_stops, prefix_len-le-length}
use Rattle.std.proofs.Math.Seq.{split_at}
use Rattle.yaml_tree.specs.Tree.{At}
use Rattle.yaml_inline.specs.declared.line.Line as code
use Rattle.yaml_inline.specs.File.{Line, carries_nothing, carries, is_parting, put_line, parted, with_content}
use Rattle.yaml_inline.specs.Line.{at, is_comment}
use Rattle.yaml_inline.specs.View.{line_view}
use Rattle.yaml_blocks.specs.Blocks.{skip_comments}
use Rattle.yaml_blocks.specs.Views.{lines_view}
use Rattle.yaml_documents.specs.Call.{IsTooMany}
use Rattle.yaml_documents.specs.Views.{documents_view, first_place, IsOneMore}
use Rattle.yaml_documents.proofs.Prefixes.{first_passes, front_passes, was_false, was_true}

drop_at : (xs : List code.Line) (i : ℕ) (x : code.Line) → i < length xs → x ≡ get_or xs i x → drop i xs ≡ x ∷ drop (i + 1) xs
drop_at xs i x h x_is = drop_more xs i x h ∙ ap (λ (y : code.Line). y ∷ drop (i + 1) xs) (sym x_is)

-- ---- the first line with content

abbrev content_from : List code.Line → Option At
content_from ls = first_place (skip_comments (lines_view ls))

pub content_comment : (xs : List code.Line) (i : ℕ) (x : code.Line) → i < length xs → x ≡ get_or xs i x → is_comment (line_view x) ≡ true
    → content_from (drop i xs) ≡ content_from (drop (i + 1) xs)
content_comment xs i x h x_is comment = ap content_from (drop_at xs i x h x_is) ∙ rw comment refl

pub content_here : (xs : List code.Line) (i : ℕ) (x : code.Line) → i < length xs → x ≡ get_or xs i x → is_comment (line_view x) ≡ false
    → content_from (drop i xs) ≡ Some (at (line_view x) 0)
content_here xs i x h x_is comment = ap content_from (drop_at xs i x h x_is) ∙ rw comment refl

pub content_none : (xs : List code.Line) (i : ℕ) → length xs ≤ i → content_from (drop i xs) ≡ None
content_none xs i h = at_drop_all content_from xs i h

-- lines without a first line with content carry nothing, and the others something
carries_step : (l : Line) (ls : List Line) (a : Option At) → (first_place (skip_comments ls) ≡ a → list_any carries ls ≡ is_some a) → first_place (skip_comments (l ∷ ls)) ≡ a
    → list_any carries (l ∷ ls) ≡ is_some a
unfolding is_comment
carries_step l ls a more e = by (carries_nothing l.text) e
  where
    by : (b : Bool) → first_place (cond b (skip_comments ls) (l ∷ ls)) ≡ a → (not b || list_any carries ls) ≡ is_some a
    by true h = more h
    by false h = ap is_some h

carries_first : (ls : List Line) (a : Option At) → first_place (skip_comments ls) ≡ a → list_any carries ls ≡ is_some a
carries_first [] a e = ap is_some e
carries_first (l ∷ ls) a e = carries_step l ls a (carries_first ls a) e

-- ---- one document

-- a document with nothing is passed over
pub passed_over : (ds : List (Bor (List code.Line))) (ls : List code.Line) → None ≡ content_from ls → documents_view ds ≡ documents_view ds ++ with_content (lines_view ls ∷ [])
passed_over ds ls none = sym (append-nil (documents_view ds)) ∙ rw (carries_first (lines_view ls) None (sym none)) refl

-- a document with content is kept
pub kept_whole : (ds : List (Bor (List code.Line))) (d : Bor (List code.Line)) (a : At) → Some a ≡ content_from d.now
    → documents_view (ds ++ d ∷ []) ≡ documents_view ds ++ with_content (lines_view d.now ∷ [])
kept_whole ds d a some =
    map-append (λ (x : Bor (List code.Line)). lines_view x.now) ds (d ∷ []) ∙ rw (carries_first (lines_view d.now) (Some a) (sym some)) refl

-- ---- the documents of lines

abbrev no_parting : code.Line → Bool
no_parting l = not (is_parting (line_view l))

parting_step : (x : code.Line) (xs : List code.Line) → prefix_len no_parting (x ∷ xs) ≡ length (x ∷ xs) → is_parting (line_view x) ≡ false
parting_step x xs e = was_false (is_parting (line_view x)) (first_passes no_parting x xs e).0

-- no line parts these
parted_none : (ls : List code.Line) → prefix_len no_parting ls ≡ length ls → parted (lines_view ls) ≡ lines_view ls ∷ []
unfolding parted
parted_none [] e = refl
parted_none (x ∷ xs) e = rw (parting_step x xs e) (ap (put_line (line_view x)) (parted_none xs (first_passes no_parting x xs e).1))

-- one line parts them from the others
parted_here : (front : List code.Line) (x : code.Line) (rest : List code.Line) → prefix_len no_parting front ≡ length front → is_parting (line_view x) ≡ true
    → parted (lines_view (front ++ x ∷ rest)) ≡ lines_view front ∷ parted (lines_view rest)
unfolding parted
parted_here [] x rest e p = rw p refl
parted_here (y ∷ ys) x rest e p = rw (parting_step y ys e) (ap (put_line (line_view y)) (parted_here ys x rest (first_passes no_parting y ys e).1 p))

abbrev found : List code.Line → List (List Line)
found ls = with_content (parted (lines_view ls))

found_none : found [] ≡ []
unfolding parted
found_none = refl

one_first : (d : List Line) (ds : List (List Line)) → with_content (d ∷ ds) ≡ with_content (d ∷ []) ++ with_content ds
one_first d ds = by (list_any carries d)
  where
    by : (b : Bool) → cond b (d ∷ with_content ds) (with_content ds) ≡ cond b (d ∷ []) [] ++ with_content ds
    by true = refl
    by false = refl

-- The first document, and those behind the line that parts it from them.
first_alone : (ls : List code.Line) (n : ℕ) → n ≡ prefix_len no_parting ls → n ≡ length ls → found ls ≡ with_content (lines_view (take n ls) ∷ []) ++ found (drop (n + 1) ls)
first_alone ls n n_is all =
    let whole : take n ls ≡ ls = take_all n ls (omega arith) in
    let none : found (drop (n + 1) ls) ≡ [] = at_drop_all found ls (n + 1) (omega arith) ∙ found_none in
    ap with_content (parted_none ls (sym n_is ∙ all))
    ∙ (sym (append-nil (with_content (lines_view ls ∷ [])))
    ∙ (ap (λ (xs : List (List Line)). with_content (lines_view ls ∷ []) ++ xs) (sym none)
    ∙ ap (λ (xs : List code.Line). with_content (lines_view xs ∷ []) ++ found (drop (n + 1) ls)) (sym whole)))

first_parted : (ls : List code.Line) (x : code.Line) (n : ℕ) → n ≡ prefix_len no_parting ls → n < length ls → found ls ≡ with_content (lines_view (take n ls) ∷ []) ++ found (drop (n + 1) ls)
first_parted ls x n n_is h =
    let e : prefix_len no_parting ls ≡ n = sym n_is in
    let p : is_parting (line_view (get_or ls n x)) ≡ true =
    was_true _ (ap (λ (k : ℕ). no_parting (get_or ls k x)) n_is ∙ prefix_len_stops no_parting ls x (omega arith)) in
    let passes : prefix_len no_parting (take n ls) ≡ length (take n ls) =
    ap (λ (k : ℕ). prefix_len no_parting (take k ls)) n_is ∙ (front_passes no_parting ls x ∙ ap (λ (k : ℕ). length (take k ls)) e) in
    let more : suc n ≡ n + 1 = omega arith in
    let cut : ls ≡ take n ls ++ get_or ls n x ∷ drop (n + 1) ls = split_at ls n x h ∙ ap (λ (k : ℕ). take n ls ++ get_or ls n x ∷ drop k ls) more in
    ap found cut ∙ (ap with_content (parted_here (take n ls) (get_or ls n x) (drop (n + 1) ls) passes p)
    ∙ one_first (lines_view (take n ls)) (parted (lines_view (drop (n + 1) ls))))

found_first : (ls : List code.Line) (n : ℕ) → n ≡ prefix_len no_parting ls → found ls ≡ with_content (lines_view (take n ls) ∷ []) ++ found (drop (n + 1) ls)
found_first [] n n_is = first_alone [] n n_is n_is
found_first (x ∷ xs) n n_is = by (ltb n (length (x ∷ xs))) refl
  where
    by : (b : Bool) → ltb n (length (x ∷ xs)) ≡ b → found (x ∷ xs) ≡ with_content (lines_view (take n (x ∷ xs)) ∷ []) ++ found (drop (n + 1) (x ∷ xs))
    by true h = first_parted (x ∷ xs) x n n_is (ltb-true n (length (x ∷ xs)) h)
    by false h = first_alone (x ∷ xs) n n_is (omega (arith, ltb-false n (length (x ∷ xs)) h, prefix_len-le-length no_parting (x ∷ xs)))

-- ---- the loop over documents

-- so many documents are found, and these lines are left
abbrev pub found_so_far : List (Bor (List code.Line)) → ℕ → List code.Line → List (List Line)
found_so_far ds i lines = documents_view ds ++ found (drop i lines)

-- what is left is a document, and what is left behind it
found_next : (i : ℕ) (lines rest document : List code.Line) → rest ≡ drop i lines → document ≡ take (prefix_len (λ l. not (is_parting (line_view l))) rest) rest
    → found (drop i lines) ≡ with_content (lines_view document ∷ []) ++ found (drop (i + (length document + 1)) lines)
found_next i lines rest document rest_is document_is =
    let n : length document ≡ prefix_len no_parting rest = ap length document_is ∙ length-prefix_len no_parting rest in
    let front : take (length document) rest ≡ document = ap (λ (k : ℕ). take k rest) n ∙ sym document_is in
    let behind : drop (length document + 1) rest ≡ drop (i + (length document + 1)) lines =
    ap (drop (length document + 1)) rest_is ∙ drop-drop (length document + 1) i lines in
    ap found (sym rest_is) ∙ (found_first rest (length document) n
    ∙ (ap (λ (xs : List code.Line). with_content (lines_view xs ∷ []) ++ found (drop (length document + 1) rest)) front
    ∙ ap (λ (xs : List code.Line). with_content (lines_view document ∷ []) ++ found xs) behind))

pub one_more : (ds es : List (Bor (List code.Line))) (i : ℕ) (lines rest document : List code.Line) (all : List (List Line))
    → rest ≡ drop i lines → document ≡ take (prefix_len (λ l. not (is_parting (line_view l))) rest) rest
    → documents_view es ≡ documents_view ds ++ with_content (lines_view document ∷ [])
    → found_so_far ds i lines ≡ all → found_so_far es (i + (length document + 1)) lines ≡ all
one_more ds es i lines rest document all rest_is document_is more so_far =
    ap (λ (xs : List (List Line)). xs ++ found (drop (i + (length document + 1)) lines)) more
    ∙ (append_assoc (documents_view ds) (with_content (lines_view document ∷ [])) (found (drop (i + (length document + 1)) lines))
    ∙ (ap (λ (xs : List (List Line)). documents_view ds ++ xs) (sym (found_next i lines rest document rest_is document_is)) ∙ so_far))

pub none_left : (ds : List (Bor (List code.Line))) (i : ℕ) (lines : List code.Line) (all : List (List Line)) → length lines ≤ i → found_so_far ds i lines ≡ all → documents_view ds ≡ all
none_left ds i lines all over so_far =
    sym (append-nil (documents_view ds)) ∙ (ap (λ (xs : List (List Line)). documents_view ds ++ xs) (sym (at_drop_all found lines i over ∙ found_none)) ∙ so_far)

-- ---- one document too many

first_of : (ls : List Line) (a : At) → first_place ls ≡ Some a → (first : Line) × (more : List Line) × (ls ≡ first ∷ more) × (a ≡ at first 0)
first_of [] a e = cc
first_of (l ∷ ls) a e = (l, ls, refl, cc)

pub too_many : (ds : List (Bor (List code.Line))) (most i : ℕ) (lines rest document : List code.Line) (all : List (List Line)) (p : ℕ × At)
    → rest ≡ drop i lines → document ≡ take (prefix_len (λ l. not (is_parting (line_view l))) rest) rest
    → found_so_far ds i lines ≡ all → IsOneMore most (length ds) (lines_view document) p → IsTooMany most all p
too_many ds most i lines rest document all p rest_is document_is so_far h =
    let f = first_of (skip_comments (lines_view document)) p.1 h.1 in
    let kept : with_content (lines_view document ∷ []) ≡ lines_view document ∷ [] = rw (carries_first (lines_view document) (Some p.1) h.1) refl in (
      p.1,
      record {
        front = documents_view ds;
        document = lines_view document;
        others = found (drop (i + (length document + 1)) lines);
        parts = sym so_far ∙ ap (λ (xs : List (List Line)). documents_view ds ++ xs)
            (found_next i lines rest document rest_is document_is ∙ ap (λ (xs : List (List Line)). xs ++ found (drop (i + (length document + 1)) lines)) kept);
        count = length-map ds (λ (x : Bor (List code.Line)). lines_view x.now) ∙ h.0;
        first = f.0;
        more = f.1;
        begins = f.2;
        place = f.3;
      },
      ap (λ (n : ℕ). (n, p.1)) h.2,
    )
