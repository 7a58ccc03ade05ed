-- Each file has exactly one verdict: it is taken, with one list of answers, or refused as a whole, with one code and place.
use Rattle.std.specs.Prelude.{◌≡◌, ℕ, ◌⊎◌, List}
use Rattle.yaml_tree.specs.Tree.{At, Answer}
use Rattle.yaml_documents.specs.Call.{IsCallRefusal, IsTaken}

abbrev pub EachVerdict : Type 0
EachVerdict =
    (file_bytes documents depth : ℕ) (bytes : List ℕ) → ((given : List Answer) × IsTaken file_bytes documents depth bytes given) ⊎ ((p : ℕ × At) × IsCallRefusal file_bytes documents bytes p)

abbrev pub NeverBoth : Type 0
NeverBoth =
    (file_bytes documents depth : ℕ) (bytes : List ℕ) (given : List Answer) (p : ℕ × At) → IsTaken file_bytes documents depth bytes given → IsCallRefusal file_bytes documents bytes p → ⊥

abbrev pub OneList : Type 0
OneList =
    (file_bytes documents depth : ℕ) (bytes : List ℕ) (a b : List Answer) → IsTaken file_bytes documents depth bytes a → IsTaken file_bytes documents depth bytes b → a ≡ b

abbrev pub OneRefusal : Type 0
OneRefusal =
    (file_bytes documents : ℕ) (bytes : List ℕ) (p q : ℕ × At) → IsCallRefusal file_bytes documents bytes p → IsCallRefusal file_bytes documents bytes q → p ≡ q
