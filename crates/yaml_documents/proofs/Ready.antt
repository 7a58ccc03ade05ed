-- The documents of a file are numbered in a row and have content; and their answers, one more at a time.
use Rattle.std.proofs.Common.{◌≡◌, ℕ, zero, suc, ◌+◌, ◌<◌, ◌≤◌, Bool, true, false, cond, List, [], ◌∷◌, ◌++◌, length, get_or, take, refl, sym, ap, ◌∙◌, subst, add-one, arith}
use Rattle.std.specs.Borrow.{Bor}
use Rattle.std.specs.List.{list_any, All}
use Rattle.std.proofs.Math.Seq.{take-suc}
use Rattle.std.proofs.lemmas.List.{map-append, take_all}
use Rattle.std.proofs.lemmas.List.Elements.{All-append}
use Rattle.yaml_tree.specs.Tree.{Answer}
use Rattle.yaml_tree.specs.View.{document_view}
use Rattle.yaml_tree.specs.declared.tree.Document.{Document}
use Rattle.yaml_inline.specs.declared.line.Line as code
use Rattle.yaml_inline.specs.File.{Line, line_texts, numbered, skip_mark, lines_of, carries, is_parting, put_line, parted, with_content, documents_of}
use Rattle.yaml_blocks.specs.Documents.{has_content, IsAnswer, AreAnswers}
use Rattle.yaml_blocks.specs.Views.{lines_view}
use Rattle.yaml_documents.specs.Views.{documents_view}
use Rattle.yaml_documents.specs.Rows.{AreNumbered, AreInARow, AreDocuments}
use Rattle.yaml_documents.specs.Given.{answers_view, IsPlain}

abbrev AreRows : List (List Line) → Type 0
AreRows [] = Unit {0}
AreRows (d ∷ ds) = AreInARow d × AreRows ds

-- the first document is numbered from there
abbrev AreRowsFrom : ℕ → List (List Line) → Type 0
AreRowsFrom n [] = Unit {0}
AreRowsFrom n (d ∷ ds) = AreNumbered n d × AreRows ds

in_a_row : (n : ℕ) (ls : List Line) → AreNumbered n ls → AreInARow ls
in_a_row n [] h = tt
in_a_row n (l ∷ ls) h = subst (λ (m : ℕ). AreNumbered (suc m) ls) (sym h.0) h.1

rows : (n : ℕ) (ds : List (List Line)) → AreRowsFrom n ds → AreRows ds
rows n [] h = tt
rows n (d ∷ ds) h = (in_a_row n d h.0, h.1)

put_rows : (n : ℕ) (t : List ℕ) (ds : List (List Line)) → AreRowsFrom (suc n) ds → AreRowsFrom n (put_line (record { number = n; text = t }) ds)
put_rows n t [] h = ((refl, tt), tt)
put_rows n t (d ∷ ds) h = ((refl, h.0), h.1)

rows_if : (n : ℕ) (b : Bool) (x y : List (List Line)) → AreRowsFrom n x → AreRowsFrom n y → AreRowsFrom n (cond b x y)
rows_if n true x y h g = h
rows_if n false x y h g = g

parted_rows : (n : ℕ) (ts : List (List ℕ)) → AreRowsFrom n (parted (numbered n ts))
unfolding parted
parted_rows n [] = (tt, tt)
parted_rows n (t ∷ ts) =
    rows_if n (is_parting (record { number = n; text = t })) _ _
    (tt, rows (suc n) (parted (numbered (suc n) ts)) (parted_rows (suc n) ts)) (put_rows n t (parted (numbered (suc n) ts)) (parted_rows (suc n) ts))

content_rows : (ds : List (List Line)) → AreRows ds → AreDocuments (with_content ds)
content_rows [] h = tt
content_rows (d ∷ ds) h = by (list_any carries d) refl (content_rows ds h.1) where
  by : (b : Bool) → list_any carries d ≡ b → AreDocuments (with_content ds) → AreDocuments (cond b (d ∷ with_content ds) (with_content ds))
  by true is others = (is, h.0, others)
  by false is others = others

pub documents_ready : (cs : List ℕ) → AreDocuments (documents_of cs)
unfolding documents_of lines_of
documents_ready cs = content_rows (parted (lines_of cs)) (rows 1 (parted (lines_of cs)) (parted_rows 1 (line_texts (skip_mark cs))))

-- ---- over the code's documents

pub record IsReady (d : List Line) : Type 0 where
  pub content : has_content d ≡ true
  pub numbered : AreInARow d

pub ready_at : (ds : List (Bor (List code.Line))) (i : ℕ) (x : Bor (List code.Line)) → AreDocuments (documents_view ds) → i < length ds → x ≡ get_or ds i x → IsReady (lines_view x.now)
ready_at [] i x h within is = absurd (omega arith)
ready_at (d ∷ ds) zero x h within is = subst (λ (y : Bor (List code.Line)). IsReady (lines_view y.now)) (sym is) (record { content = h.0; numbered = h.1 })
ready_at (d ∷ ds) (suc i) x h within is = ready_at ds i x h.2 (omega arith) is

-- ---- answers

answers_push : (depth : ℕ) (ds : List (List Line)) (d : List Line) (given : List Answer) (a : Answer) → AreAnswers depth ds given → IsAnswer depth d a → AreAnswers depth (ds ++ d ∷ []) (given ++ a ∷ [])
answers_push depth [] d given a h is = (a, [], ap (λ (xs : List Answer). xs ++ a ∷ []) h, is, refl)
answers_push depth (e ∷ es) d given a (b, others, whole, first, more) is =
    (b, others ++ a ∷ [], ap (λ (xs : List Answer). xs ++ a ∷ []) whole, first, answers_push depth es d others a more is)

taken_more : (ds : List (Bor (List code.Line))) (i : ℕ) (x : Bor (List code.Line)) → i < length ds → x ≡ get_or ds i x → documents_view (take (i + 1) ds) ≡ documents_view (take i ds) ++ lines_view x.now ∷ []
taken_more ds i x h is =
    ap (λ (n : ℕ). documents_view (take n ds)) (add-one i) ∙ (ap documents_view (take-suc ds i x h) ∙ (map-append (λ (d : Bor (List code.Line)). lines_view d.now) (take i ds) _
    ∙ ap (λ (y : Bor (List code.Line)). documents_view (take i ds) ++ lines_view y.now ∷ []) (sym is)))

-- one more document and its answer
pub answers_more : (depth : ℕ) (ds : List (Bor (List code.Line))) (i : ℕ) (x : Bor (List code.Line)) (given : List Document) (d : Document) → i < length ds → x ≡ get_or ds i x
    → AreAnswers depth (documents_view (take i ds)) (answers_view given) → IsAnswer depth (lines_view x.now) (document_view d)
    → AreAnswers depth (documents_view (take (i + 1) ds)) (answers_view (given ++ d ∷ []))
answers_more depth ds i x given d h is so_far answer =
    rw (taken_more ds i x h is, map-append document_view given (d ∷ [])) (answers_push depth (documents_view (take i ds)) (lines_view x.now) (answers_view given) (document_view d) so_far answer)

pub answers_end : (depth : ℕ) (ds : List (Bor (List code.Line))) (i : ℕ) (given : List Document) → length ds ≤ i → AreAnswers depth (documents_view (take i ds)) (answers_view given)
    → AreAnswers depth (documents_view ds) (answers_view given)
answers_end depth ds i given h so_far = subst (λ (xs : List (Bor (List code.Line))). AreAnswers depth (documents_view xs) (answers_view given)) (take_all i ds h) so_far

one_plain : (d : Document) → IsPlain d → All IsPlain (d ∷ [])
one_plain d h zero e within = h
one_plain d h (suc k) e within = absurd (omega arith)

pub plain_more : (given : List Document) (d : Document) → All IsPlain given → IsPlain d → All IsPlain (given ++ d ∷ [])
plain_more given d all h = All-append IsPlain given (d ∷ []) all (one_plain d h)
