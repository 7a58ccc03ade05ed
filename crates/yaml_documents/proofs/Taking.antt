-- A file that is taken, or has too many documents, over the code's lines and documents.
use Rattle.std.proofs.Common.{◌≡◌, ℕ, ◌≤◌, inr, List, length, sym, ap, ◌∙◌, subst, arith}
use Rattle.std.specs.Borrow.{Bor}
use Rattle.std.proofs.lemmas.List.{length-map}
use Rattle.yaml_tree.specs.Tree.{At}
use Rattle.yaml_tree.specs.declared.tree.Document.{Document}
use Rattle.yaml_inline.specs.declared.line.Line as code
use Rattle.yaml_inline.specs.File.{Line, lines_of, parted, with_content, documents_of}
use Rattle.yaml_blocks.specs.Documents.{AreAnswers}
use Rattle.yaml_blocks.specs.Views.{lines_view}
use Rattle.yaml_documents.specs.Call.{IsText, IsTooMany, IsCallRefusal, IsTaken}
use Rattle.yaml_documents.specs.Views.{documents_view}
use Rattle.yaml_documents.specs.Rows.{AreDocuments}
use Rattle.yaml_documents.specs.Given.{answers_view}
use Rattle.yaml_documents.proofs.Ready.{documents_ready}

documents_are : (cs : List ℕ) (ls : List code.Line) → lines_view ls ≡ lines_of cs → with_content (parted (lines_view ls)) ≡ documents_of cs
unfolding documents_of
documents_are cs ls is = ap (λ (xs : List Line). with_content (parted xs)) is

pub ready : (cs : List ℕ) (ls : List code.Line) (ds : List (Bor (List code.Line))) → lines_view ls ≡ lines_of cs → documents_view ds ≡ with_content (parted (lines_view ls)) → AreDocuments (documents_view ds)
ready cs ls ds lines_are is = subst AreDocuments (sym (is ∙ documents_are cs ls lines_are)) (documents_ready cs)

pub taken : (file_bytes documents depth : ℕ) (bytes cs : List ℕ) (ls : List code.Line) (ds : List (Bor (List code.Line))) (given : List Document) → length bytes ≤ file_bytes → IsText bytes cs
    → lines_view ls ≡ lines_of cs → documents_view ds ≡ with_content (parted (lines_view ls)) → length ds ≤ documents → AreAnswers depth (documents_view ds) (answers_view given)
    → IsTaken file_bytes documents depth bytes (answers_view given)
taken file_bytes documents depth bytes cs ls ds given within text lines_are is few answers =
    let all : documents_view ds ≡ documents_of cs = is ∙ documents_are cs ls lines_are in
    record {
      within = within;
      characters = cs;
      is_text = text;
      few = omega (arith, ap length all, length-map ds (λ (d : Bor (List code.Line)). lines_view d.now));
      answers = subst (λ (xs : List (List Line)). AreAnswers depth xs (answers_view given)) all answers;
    }

pub too_many : (file_bytes documents : ℕ) (bytes cs : List ℕ) (ls : List code.Line) (p : ℕ × At) → length bytes ≤ file_bytes → IsText bytes cs → lines_view ls ≡ lines_of cs
    → IsTooMany documents (with_content (parted (lines_view ls))) p → IsCallRefusal file_bytes documents bytes p
too_many file_bytes documents bytes cs ls p within text lines_are h =
    inr (within, cs, text, subst (λ (xs : List (List Line)). IsTooMany documents xs p) (documents_are cs ls lines_are) h)
