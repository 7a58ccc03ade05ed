-- Laws of the definitions: the trees of a file are no larger than its bytes allow, and their texts are of Unicode scalar values.
use Rattle.std.specs.Prelude.{◌≡◌, ℕ, ◌*◌, ◌<◌, ◌≤◌, List, length}
use Rattle.std.specs.List.{AllByRecursion}
use Rattle.yaml_tree.specs.Tree.{Answer}
use Rattle.yaml_tree.specs.Texts.{AnswerHas}
use Rattle.yaml_documents.specs.Call.{IsTaken}
use Rattle.yaml_documents.specs.Nodes.{all_nodes}

-- at most two nodes for each byte of the file
abbrev pub NodesWithinBytes : Type 0
NodesWithinBytes =
    (file_bytes documents depth : ℕ) (bytes : List ℕ) (given : List Answer) → IsTaken file_bytes documents depth bytes given → all_nodes given ≤ 2 * length bytes

-- so at most twice the bytes that a file may have
abbrev pub NodesWithinLimit : Type 0
NodesWithinLimit =
    (file_bytes documents depth : ℕ) (bytes : List ℕ) (given : List Answer) → IsTaken file_bytes documents depth bytes given → all_nodes given ≤ 2 * file_bytes

-- There is a file with so many nodes.
abbrev pub SomeHasAsMany : Type 0
SomeHasAsMany =
    (bytes : List ℕ) × (given : List Answer) × (0 < length bytes) × IsTaken (length bytes) 1 1 bytes given × (all_nodes given ≡ 2 * length bytes)

-- The keys and texts of each document's tree are made of Unicode scalar values (YAML 1.2, 5.1, and 5.7 on escapes).
abbrev pub TextsAreScalars : Type 0
TextsAreScalars =
    (file_bytes documents depth : ℕ) (bytes : List ℕ) (given : List Answer) → IsTaken file_bytes documents depth bytes given → AllByRecursion AnswerHas given
