-- The one document of a file, or why there isn't exactly one that is a tree.
use Rattle.std.specs.Prelude.{ℕ, List, [], ◌∷◌, Result, Ok, Err}
use Rattle.sig_base.specs.Files.{file_start}
use Rattle.sig_base.specs.Judged.{refusal as refused}
use Rattle.sig_base.specs.declared.refusal.Detail.TheVariants as details
use Rattle.sig_base.specs.declared.refusal.Place.{Place}
use Rattle.sig_base.specs.declared.refusal.Refusal.{Refusal}
use Rattle.yaml_tree.specs.Nodes.{place_of}
use Rattle.yaml_tree.specs.Tree.{At, Tree, Answer, tree, refusal}

abbrev pub place_at : At → Place
place_at a = record { line = a.line; column = a.column }

-- what YAML refuses tells a code and a place, and no detail
abbrev pub yaml_refusal : ℕ × At → Refusal
yaml_refusal p = record { code = p.0; place = place_at p.1; detail = details.None }

-- the place of a document: of its top node, or that at which YAML refuses it
abbrev pub document_place : Answer → Place
document_place (tree t) = place_of t
document_place (refusal p) = place_at p.1

-- The tree of the one document with content. None or several are refused, at the file's first place or at the second document,
-- before YAML's refusal of any.
abbrev pub single_tree : List Answer → Result Tree Refusal
single_tree [] = Err (refused 84 file_start)
single_tree (tree t ∷ []) = Ok t
single_tree (refusal p ∷ []) = Err (yaml_refusal p)
single_tree (document ∷ second ∷ others) = Err (refused 84 (document_place second))
