-- The answers of a file have texts of scalar values, as its characters are.
use Rattle.std.proofs.Common.{ℕ, suc, ◌&&◌, ◌==◌, List, [], ◌∷◌, sym, subst}
use Rattle.std.specs.List.{AllByRecursion, list_any}
use Rattle.yaml_tree.specs.Tree.{Answer, tree, refusal}
use Rattle.yaml_tree.specs.Texts.{AnswerHas}
use Rattle.yaml_inline.specs.File.{Line, begins, put_first, line_texts, numbered, skip_mark, lines_of, is_parting, put_line, parted, carries, with_content, documents_of}
use Rattle.yaml_blocks.specs.Documents.{home, IsAnswer, AreAnswers}
use Rattle.yaml_documents.specs.Bounds.{TextsAreScalars}
use Rattle.yaml_documents.proofs.Scalars.{AreScalars, are_scalars, if_both}
use Rattle.yaml_documents.proofs.BlockTexts.{LineHas, LinesHave, TextsHave}
use Rattle.yaml_documents.proofs.NodeTexts.{block_text, node_text}

-- ---- lines and documents

abbrev DocumentsHave : List (List Line) → Type 0
DocumentsHave ds = AllByRecursion LinesHave ds

put_first-texts : (c : ℕ) (ts : List (List ℕ)) → AreScalars (c ∷ []) → TextsHave ts → TextsHave (put_first c ts)
put_first-texts c [] first h = (first, tt)
put_first-texts c (t ∷ ts) first h = ((first.0, h.0), h.1)

line_texts-have : (cs : List ℕ) → AreScalars cs → TextsHave (line_texts cs)
unfolding line_texts
line_texts-have [] h = tt
line_texts-have (c ∷ cs) h =
    let more = line_texts-have cs h.1 in
    if_both TextsHave (c == 10) _ _ (tt, more) (if_both TextsHave (c == 13 && begins 10 cs) _ _ more (put_first-texts c (line_texts cs) (h.0, tt) more))

numbered-have : (n : ℕ) (ts : List (List ℕ)) → TextsHave ts → LinesHave (numbered n ts)
numbered-have n [] h = tt
numbered-have n (t ∷ ts) h = (h.0, numbered-have (suc n) ts h.1)

mark_scalars : (cs : List ℕ) → AreScalars cs → AreScalars (skip_mark cs)
mark_scalars [] h = tt
mark_scalars (c ∷ cs) h = if_both AreScalars (c == 0xFEFF) cs (c ∷ cs) h.1 h

lines_have : (cs : List ℕ) → AreScalars cs → LinesHave (lines_of cs)
unfolding lines_of
lines_have cs h = numbered-have 1 (line_texts (skip_mark cs)) (line_texts-have (skip_mark cs) (mark_scalars cs h))

put_line-have : (l : Line) (ds : List (List Line)) → LineHas l → DocumentsHave ds → DocumentsHave (put_line l ds)
put_line-have l [] first h = ((first, tt), tt)
put_line-have l (d ∷ ds) first h = ((first, h.0), h.1)

parted-have : (ls : List Line) → LinesHave ls → DocumentsHave (parted ls)
unfolding parted
parted-have [] h = (tt, tt)
parted-have (l ∷ ls) h =
    let more = parted-have ls h.1 in
    if_both DocumentsHave (is_parting l) _ _ (tt, more) (put_line-have l (parted ls) h.0 more)

content-have : (ds : List (List Line)) → DocumentsHave ds → DocumentsHave (with_content ds)
content-have [] h = tt
content-have (d ∷ ds) h =
    let more = content-have ds h.1 in
    if_both DocumentsHave (list_any carries d) (d ∷ with_content ds) (with_content ds) (h.0, more) more

documents_have : (cs : List ℕ) → AreScalars cs → DocumentsHave (documents_of cs)
unfolding documents_of
documents_have cs h = content-have (parted (lines_of cs)) (parted-have (lines_of cs) (lines_have cs h))

-- ---- answers

answer_has : (depth : ℕ) (ls : List Line) (a : Answer) → LinesHave ls → IsAnswer depth ls a → AnswerHas a
answer_has depth ls (tree t) h answered = block_text t depth (node_text t depth) 0 home ls h answered.1
answer_has depth ls (refusal p) h answered = tt

answers_have : (depth : ℕ) (ds : List (List Line)) (given : List Answer) → DocumentsHave ds → AreAnswers depth ds given → AllByRecursion AnswerHas given
answers_have depth [] given h none = subst (AllByRecursion AnswerHas) (sym none) tt
answers_have depth (d ∷ ds) given h (a, others, is, answered, behind) =
    subst (AllByRecursion AnswerHas) (sym is) (answer_has depth d a h.0 answered, answers_have depth ds others h.1 behind)

pub texts_are_scalars : TextsAreScalars
texts_are_scalars file_bytes documents depth bytes given h =
    let cs = h.characters in
    answers_have depth (documents_of cs) given (documents_have cs (are_scalars cs h.is_text.scalars)) h.answers
