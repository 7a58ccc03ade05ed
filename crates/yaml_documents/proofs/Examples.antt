-- The nodes of small trees, computed.
use Rattle.std.proofs.Common.{◌≡◌, ℕ, ◌≤◌, List, [], ◌∷◌, length, codes, refl, arith}
use Rattle.yaml_tree.specs.Tree.{At, null, text, Tree, scalar, list, map, no_elements, element, no_members, member, tree, refusal}
use Rattle.yaml_inline.specs.File.{line_texts, lines_of, is_parting, is_marker, parted, documents_of, skip_blanks, carries_nothing, ends_line}
use Rattle.yaml_inline.specs.Line.{indentation, indent, body, is_comment, bad_start}
use Rattle.yaml_blocks.specs.Reading.{element_in, node_in}
use Rattle.yaml_blocks.specs.Documents.{home, AreAnswers}
use Rattle.yaml_blocks.proofs.Sound.{reads_trees}
use Rattle.yaml_documents.specs.Nodes.{nodes, all_nodes}
use Rattle.yaml_documents.specs.Bounds.{SomeHasAsMany}

abbrev at : ℕ → At
at c = record { line = 1; column = c }

abbrev word : ℕ → Tree
word c = scalar (at c) (text (codes "x"))

-- `- - a: 1`: two sequences, a map and its value
nested : Tree
nested = list (at 1) (element (list (at 3) (element (map (at 5) (member (codes "a") (at 5) (word 8) no_members)) no_elements)) no_elements)

nested-nodes : nodes nested ≡ 4
unfolding nested
nested-nodes = refl

-- `{a: , b: [x, x]}`: a map, a null, a sequence and its two elements
flow : Tree
flow =
    map (at 2) (
    member (codes "a") (at 2) (scalar (at 2) null) (
    member (codes "b") (at 7) (list (at 10) (element (word 11) (element (word 14) no_elements))) no_members))

flow-nodes : nodes flow ≡ 5
unfolding flow
flow-nodes = refl

-- three documents, the second of them refused
all-nodes : all_nodes (tree nested ∷ refusal (4, at 1) ∷ tree flow ∷ []) ≡ 9
unfolding nested flow
all-nodes = refl

-- a file `-`: a sequence and its null
dash : List ℕ
dash = codes "-"

alone : Tree
alone = list (at 1) (element (scalar (at 1) null) no_elements)

dash-answers : AreAnswers 1 (documents_of dash) (tree alone ∷ [])
unfolding dash alone line_texts lines_of is_parting is_marker parted documents_of skip_blanks carries_nothing ends_line indentation indent body is_comment bad_start element_in node_in
dash-answers = (tree alone, [], refl, (refl, reads_trees 1 home (record { number = 1; text = dash } ∷ []) alone refl), refl)

dash-few : length (documents_of dash) ≤ 1
unfolding dash line_texts lines_of is_parting parted documents_of skip_blanks carries_nothing ends_line
dash-few = omega arith

pub some_has_as_many : SomeHasAsMany
unfolding dash alone lib.Utf8.encode
some_has_as_many =
    (dash, tree alone ∷ [], omega arith, record { within = omega arith; characters = dash; is_text = record { scalars = refl; encoded = refl }; few = dash-few; answers = dash-answers }, refl)
