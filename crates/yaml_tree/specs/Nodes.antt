-- Looking into the trees of documents, and checks of what is found there.
use Rattle.std.specs.Prelude.{ℕ, Bool, true, false, List, [], ◌∷◌, if◌then◌else◌, Option, Some, None, is_some}
use Rattle.std.specs.Str.{bytes_eq}
use Rattle.sig_base.specs.declared.refusal.Place.{Place}
use Rattle.sig_base.specs.declared.refusal.Refusal.{Refusal}
use Rattle.sig_base.specs.Judged.{must}
use Rattle.yaml_tree.specs.Tree.{At, Scalar, null, truth, whole, text, Tree, scalar, list, map, Elements, no_elements, element, Members, no_members, member, Member}

abbrev pub at_of : Tree → At
at_of (scalar at s) = at
at_of (list at parts) = at
at_of (map at parts) = at

-- the place of a node
abbrev pub place_of : Tree → Place
place_of value = record { line = (at_of value).line; column = (at_of value).column }

abbrev pub is_empty : {A : Type 0} → List A → Bool
is_empty [] = true
is_empty (x ∷ xs) = false

abbrev pub is_map : Tree → Bool
is_map (scalar a s) = false
is_map (list a es) = false
is_map (map a ms) = true

abbrev pub is_scalar : Tree → Bool
is_scalar (scalar a s) = true
is_scalar (list a es) = false
is_scalar (map a ms) = false

abbrev pub is_null_scalar : Scalar → Bool
is_null_scalar null = true
is_null_scalar (truth b) = false
is_null_scalar (whole n) = false
is_null_scalar (text t) = false

abbrev pub is_null : Tree → Bool
is_null (scalar a s) = is_null_scalar s
is_null (list a es) = false
is_null (map a ms) = false

abbrev pub is_truth_scalar : Scalar → Bool
is_truth_scalar null = false
is_truth_scalar (truth b) = true
is_truth_scalar (whole n) = false
is_truth_scalar (text t) = false

abbrev pub is_truth : Tree → Bool
is_truth (scalar a s) = is_truth_scalar s
is_truth (list a es) = false
is_truth (map a ms) = false

abbrev pub is_text_scalar : Scalar → Bool
is_text_scalar null = false
is_text_scalar (truth b) = false
is_text_scalar (whole n) = false
is_text_scalar (text t) = true

abbrev pub is_text : Tree → Bool
is_text (scalar a s) = is_text_scalar s
is_text (list a es) = false
is_text (map a ms) = false

abbrev pub scalar_text : Scalar → List ℕ
scalar_text null = []
scalar_text (truth b) = []
scalar_text (whole n) = []
scalar_text (text t) = t

-- the characters of a text
abbrev pub text_in : Tree → List ℕ
text_in (scalar a s) = scalar_text s
text_in (list a es) = []
text_in (map a ms) = []

abbrev pub listed : Elements → List Tree
listed no_elements = []
listed (element t ts) = t ∷ listed ts

abbrev pub entered : Members → List Member
entered no_members = []
entered (member k a t ms) = record { key = k; place = a; value = t } ∷ entered ms

-- the entries of a map, in their order
abbrev pub entries_in : Tree → List Member
entries_in (scalar a s) = []
entries_in (list a es) = []
entries_in (map a ms) = entered ms

-- the elements of a list, or else the node alone
abbrev pub parts_in : Tree → List Tree
parts_in (scalar a s) = scalar a s ∷ []
parts_in (list a es) = listed es
parts_in (map a ms) = map a ms ∷ []

-- the place of an entry, which is its key's
abbrev pub key_place : Member → Place
key_place e = record { line = e.place.line; column = e.place.column }

-- the value at a key
abbrev pub value_in : List ℕ → List Member → Option Tree
value_in key [] = None
value_in key (e ∷ es) = if bytes_eq e.key key then Some e.value else value_in key es

abbrev pub entries_if : Option Tree → List Member
entries_if None = []
entries_if (Some t) = entries_in t

-- the entries of the map at a key
abbrev pub entries_at : List ℕ → Tree → List Member
entries_at key t = entries_if (value_in key (entries_in t))

abbrev pub has_key : List ℕ → Tree → Bool
has_key key t = is_some (value_in key (entries_in t))

abbrev pub passes : ℕ → (Tree → Bool) → Option Tree → Option Refusal
passes code test None = None
passes code test (Some t) = must code (place_of t) (test t)

-- the value at a key, if there is one, passes the test, or is refused with the code
abbrev pub at_key : List ℕ → ℕ → (Tree → Bool) → Tree → Option Refusal
at_key key code test t = passes code test (value_in key (entries_in t))

-- the map has the key, or is refused with the code
abbrev pub required : List ℕ → ℕ → Tree → Option Refusal
required key code t = must code (place_of t) (has_key key t)

abbrev pub refused_by : (Tree → Option Refusal) → Option Tree → Option Refusal
refused_by refusal None = None
refused_by refusal (Some t) = refusal t

-- why the value at a key is refused, where there is one
abbrev pub refused_at : List ℕ → (Tree → Option Refusal) → Tree → Option Refusal
refused_at key refusal t = refused_by refusal (value_in key (entries_in t))

abbrev pub text_of : Option Tree → Option (List ℕ)
text_of None = None
text_of (Some t) = Some (text_in t)

-- the text at a key
abbrev pub text_at : List ℕ → Tree → Option (List ℕ)
text_at key t = text_of (value_in key (entries_in t))
