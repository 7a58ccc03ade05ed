-- The nodes of a file's documents are paid by its bytes.
use Rattle.std.proofs.Common.{◌≡◌, ℕ, suc, ◌+◌, ◌*◌, ◌≤◌, Bool, true, false, not, cond, ◌&&◌, ◌==◌, inl, inr, List, [], ◌∷◌, length, refl, ap, arith}
use Rattle.std.specs.List.{list_any}
use Rattle.std.proofs.lemmas.Bool.{or_cases}
use Rattle.yaml_tree.specs.Tree.{Answer, tree, refusal}
use Rattle.yaml_inline.specs.File.{Line, begins, skip_blanks, carries_nothing, put_first, line_texts, numbered, skip_mark, lines_of, is_parting, put_line, parted, carries, with_content, documents_of}
use Rattle.yaml_blocks.specs.Documents.{home, IsAnswer, AreAnswers}
use Rattle.yaml_documents.proofs.Utf8.{text_within}
use Rattle.yaml_documents.specs.Nodes.{nodes_of, all_nodes}
use Rattle.yaml_documents.specs.Bounds.{NodesWithinBytes, NodesWithinLimit}
use Rattle.yaml_documents.proofs.Blocks.{weight}
use Rattle.yaml_documents.proofs.Nodes.{block_paid, node_paid}

-- ---- lines and documents have no more characters than their file

abbrev texts_weight : List (List ℕ) → ℕ
texts_weight [] = 0
texts_weight (t ∷ ts) = length t + texts_weight ts

abbrev documents_weight : List (List Line) → ℕ
documents_weight [] = 0
documents_weight (d ∷ ds) = weight d + documents_weight ds

put_first-weight : (c : ℕ) (ts : List (List ℕ)) → texts_weight (put_first c ts) ≡ 1 + texts_weight ts
put_first-weight c [] = omega arith
put_first-weight c (t ∷ ts) = omega arith

texts_within : (cs : List ℕ) → texts_weight (line_texts cs) ≤ length cs
unfolding line_texts
texts_within [] = omega arith
texts_within (c ∷ cs) = by (c == 10) (c == 13 && begins 10 cs) (texts_within cs) where
  by : (a b : Bool) → texts_weight (line_texts cs) ≤ length cs
      → texts_weight (cond a ([] ∷ line_texts cs) (cond b (line_texts cs) (put_first c (line_texts cs)))) ≤ length (c ∷ cs)
  by true b h = omega arith
  by false true h = omega arith
  by false false h = omega (arith, put_first-weight c (line_texts cs))

numbered-weight : (n : ℕ) (ts : List (List ℕ)) → weight (numbered n ts) ≡ texts_weight ts
numbered-weight n [] = refl
numbered-weight n (t ∷ ts) = omega (arith, numbered-weight (suc n) ts)

mark_within : (cs : List ℕ) → length (skip_mark cs) ≤ length cs
mark_within [] = omega arith
mark_within (c ∷ cs) = by (c == 0xFEFF) where
  by : (b : Bool) → length (cond b cs (c ∷ cs)) ≤ length (c ∷ cs)
  by true = omega arith
  by false = omega arith

lines_within : (cs : List ℕ) → weight (lines_of cs) ≤ length cs
unfolding lines_of
lines_within cs = omega (arith, numbered-weight 1 (line_texts (skip_mark cs)), texts_within (skip_mark cs), mark_within cs)

put_line-weight : (l : Line) (ds : List (List Line)) → documents_weight (put_line l ds) ≡ length l.text + documents_weight ds
put_line-weight l [] = omega arith
put_line-weight l (d ∷ ds) = omega arith

parted_within : (ls : List Line) → documents_weight (parted ls) ≤ weight ls
unfolding parted
parted_within [] = omega arith
parted_within (l ∷ ls) = by (is_parting l) (parted_within ls) where
  by : (b : Bool) → documents_weight (parted ls) ≤ weight ls → documents_weight (cond b ([] ∷ parted ls) (put_line l (parted ls))) ≤ weight (l ∷ ls)
  by true h = omega arith
  by false h = omega (arith, put_line-weight l (parted ls))

-- ---- documents

-- a line that carries something has a character
carries_some : (l : Line) → carries l ≡ true → 1 ≤ length l.text
unfolding carries_nothing skip_blanks
carries_some l e = by l.text e where
  by : (cs : List ℕ) → not (carries_nothing cs) ≡ true → 1 ≤ length cs
  by [] e = cc
  by (c ∷ cs) e = omega arith

content_some : (ls : List Line) → list_any carries ls ≡ true → 1 ≤ weight ls
content_some [] e = cc
content_some (l ∷ ls) e =
    elim (or_cases (carries l) (list_any carries ls) e) [
      | inl h ↦ omega (arith, carries_some l h)
      | inr h ↦ omega (arith, content_some ls h)
    ]

answer_paid : (depth : ℕ) (ls : List Line) (a : Answer) → list_any carries ls ≡ true → IsAnswer depth ls a → nodes_of a ≤ 2 * weight ls
answer_paid depth ls (tree t) some h = omega (arith, content_some ls some, block_paid t depth (node_paid t depth) 0 home ls h.1)
answer_paid depth ls (refusal p) some h = omega arith

-- each answer belongs to the next document with content
answers_paid : (depth : ℕ) (ds : List (List Line)) (given : List Answer) → AreAnswers depth (with_content ds) given → all_nodes given ≤ 2 * documents_weight ds
answers_paid depth [] given h = omega (arith, ap all_nodes h)
answers_paid depth (d ∷ ds) given h = by (list_any carries d) refl h (answers_paid depth ds) where
  by : (b : Bool) → list_any carries d ≡ b → AreAnswers depth (cond b (d ∷ with_content ds) (with_content ds)) given
      → ((others : List Answer) → AreAnswers depth (with_content ds) others → all_nodes others ≤ 2 * documents_weight ds)
      → all_nodes given ≤ 2 * documents_weight (d ∷ ds)
  by true some (a, others, is, answered, behind) paid = omega (arith, ap all_nodes is, answer_paid depth d a some answered, paid others behind)
  by false none behind paid = omega (arith, paid given behind)

-- ---- the laws

pub nodes_within_bytes : NodesWithinBytes
unfolding documents_of
nodes_within_bytes file_bytes documents depth bytes given h =
    let cs = h.characters in
    omega (arith, answers_paid depth (parted (lines_of cs)) given h.answers, parted_within (lines_of cs), lines_within cs, text_within bytes cs h.is_text)

pub nodes_within_limit : NodesWithinLimit
nodes_within_limit file_bytes documents depth bytes given h = omega (arith, nodes_within_bytes file_bytes documents depth bytes given h, h.within)
