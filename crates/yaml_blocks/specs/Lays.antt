-- How a tree is laid out in lines: by cases on the tree.
use Rattle.std.specs.Prelude.{◌≡◌, ℕ, zero, suc, Bool, true, false, ◌||◌, ◌⊎◌, List, [], ◌∷◌, ◌++◌, drop, None, Ok}
use Rattle.yaml_tree.specs.Tree.{At, Scalar, null, text, Tree, scalar, list, map, Elements, no_elements, element, Members, no_members, member}
use Rattle.yaml_inline.specs.File.{Line, begins, skip_blanks, carries_nothing, ends_line}
use Rattle.yaml_inline.specs.Line.{spot, body, bad_start, is_dash, is_left_out, starts_plain}
use Rattle.yaml_inline.specs.Scalar.{resolved}
use Rattle.yaml_inline.specs.Flow.{quoted, is_quote, is_bracket, flow_node, is_seen}
use Rattle.yaml_inline.specs.Key.{keyed, unkeyed, key_at}
use Rattle.yaml_blocks.specs.Blocks.{skip_comments, plain_text, block_scalar}
use Rattle.yaml_blocks.specs.Reading.{Item, items_of, offset, is_level, after_spaces}

-- nothing stands behind on the line, nor in the block
pub record IsAlone (rest : List ℕ) (ls : List Line) : Type 0 where
  pub line : ends_line rest ≡ true
  pub block : skip_comments ls ≡ []

-- a quoted scalar
abbrev pub IsQuoted : List ℕ → Line → List ℕ → List Line → Type 0
IsQuoted t l cs ls = (is_quote cs ≡ true) × (rest : List ℕ) × (quoted l cs ≡ Ok (t, rest)) × IsAlone rest ls

-- a flow collection
abbrev pub IsFlow : Tree → ℕ → Line → List ℕ → List Line → Type 0
IsFlow t d l cs ls = (is_bracket cs ≡ true) × (rest : List ℕ) × (flow_node d l cs ≡ Ok (t, rest)) × IsAlone rest ls

-- a block scalar whose lines are indented at least m
abbrev pub IsBlockScalar : List ℕ → ℕ → Line → List ℕ → List Line → Type 0
IsBlockScalar t m l cs ls = (begins 124 cs || begins 62 cs ≡ true) × (block_scalar m l cs ls ≡ Ok t)

-- a plain scalar, which may go on over continuation lines
abbrev pub IsPlain : Scalar → ℕ → Line → List ℕ → List Line → Type 0
IsPlain s m l cs ls = (starts_plain cs ≡ true) × (is_left_out cs ≡ false) × (t : List ℕ) × (plain_text m l cs ls ≡ Ok t) × (s ≡ resolved t)

abbrev pub IsScalar : Scalar → ℕ → Line → List ℕ → List Line → Type 0
IsScalar s m l cs ls =
    ((t : List ℕ) × (s ≡ text t) × (IsQuoted t l cs ls ⊎ IsBlockScalar t m l cs ls))
    ⊎ IsPlain s m l cs ls

-- no block collection begins here
abbrev pub IsNoCollection : Bool → Line → List ℕ → Type 0
IsNoCollection may l cs = (may ≡ false) ⊎ ((is_dash cs ≡ false) × (key_at l cs ≡ unkeyed))

-- an item of a sequence, or an item of a map with its key and what follows the colon
pub record IsDashed (i : ℕ) (x : Item) : Type 0 where
  pub open_line : bad_start x.line ≡ None
  pub level : is_level i x ≡ true
  pub dash : is_dash x.text ≡ true

pub record IsKeyed (i : ℕ) (seen : List (List ℕ)) (k rest : List ℕ) (a : At) (x : Item) : Type 0 where
  pub open_line : bad_start x.line ≡ None
  pub level : is_level i x ≡ true
  pub key : key_at x.line x.text ≡ keyed k rest
  pub fresh : is_seen k seen ≡ false
  pub place : a ≡ spot x.line x.text

-- A block: nothing, which is null at home, or what the node on its first line with content is.
abbrev pub LaysBlock : (Bool → ℕ → Line → List ℕ → List Line → Type 0) → Tree → ℕ → At → List Line → Type 0
LaysBlock N t m home ls =
    ((skip_comments ls ≡ []) × (t ≡ scalar home null))
    ⊎ ((first : Line) × (more : List Line) × (skip_comments ls ≡ first ∷ more) × (bad_start first ≡ None) × N true m first (body first) more)

-- behind a dash
abbrev pub LaysElement : (Bool → ℕ → Line → List ℕ → List Line → Type 0) → Tree → ℕ → Item → Type 0
LaysElement N t i x =
    ((carries_nothing (drop 1 x.text) ≡ true) × LaysBlock N t (suc i) (spot x.line x.text) x.inner)
    ⊎ ((carries_nothing (drop 1 x.text) ≡ false) × N (after_spaces (drop 1 x.text)) (suc i) x.line (skip_blanks (drop 1 x.text)) x.inner)

-- behind a key and its colon
abbrev pub LaysValue : (Bool → ℕ → Line → List ℕ → List Line → Type 0) → Tree → ℕ → Item → List ℕ → Type 0
LaysValue N t i x rest =
    ((carries_nothing rest ≡ true) × LaysBlock N t (suc i) (spot x.line x.text) x.inner)
    ⊎ ((carries_nothing rest ≡ false) × N false (suc i) x.line (skip_blanks rest) x.inner)

-- The tree is the node that begins in a line behind what is left of it, and goes on in the lines of its
-- block. Collections nest at most d deep; a block collection may begin here or not; a scalar's continuation lines are
-- indented at least m.
abbrev mutual
  pub LaysNode : Tree → ℕ → Bool → ℕ → Line → List ℕ → List Line → Type 0
  LaysNode (scalar a s) d may m l cs ls = IsNoCollection may l cs × (a ≡ spot l cs) × IsScalar s m l cs ls
  LaysNode (list a es) zero may m l cs ls = ⊥
  LaysNode (list a es) (suc d) may m l cs ls =
      (IsNoCollection may l cs × IsFlow (list a es) (suc d) l cs ls)
      ⊎ ((may ≡ true) × (is_dash cs ≡ true) × (a ≡ spot l cs) × LaysElements es d (offset l cs) (items_of false l cs ls))
  LaysNode (map a ms) zero may m l cs ls = ⊥
  LaysNode (map a ms) (suc d) may m l cs ls =
      (IsNoCollection may l cs × IsFlow (map a ms) (suc d) l cs ls)
      ⊎ ((may ≡ true) × (is_dash cs ≡ false) × (a ≡ spot l cs) × LaysMembers ms d (offset l cs) [] (items_of true l cs ls))

  pub LaysElements : Elements → ℕ → ℕ → List Item → Type 0
  LaysElements no_elements d i xs = xs ≡ []
  LaysElements (element t ts) d i xs =
      (x : Item) × (others : List Item) × (xs ≡ x ∷ others) × IsDashed i x
      × LaysElement (λ may m l cs ls. LaysNode t d may m l cs ls) t i x × LaysElements ts d i others

  pub LaysMembers : Members → ℕ → ℕ → List (List ℕ) → List Item → Type 0
  LaysMembers no_members d i seen xs = xs ≡ []
  LaysMembers (member k a t ms) d i seen xs =
      (x : Item) × (others : List Item) × (xs ≡ x ∷ others) × (rest : List ℕ) × IsKeyed i seen k rest a x
      × LaysValue (λ may m l cs ls. LaysNode t d may m l cs ls) t i x rest × LaysMembers ms d i (seen ++ k ∷ []) others

-- the tree of the lines of a document
abbrev pub Lays : Tree → ℕ → At → List Line → Type 0
Lays t depth home ls = LaysBlock (λ may m l cs ls. LaysNode t depth may m l cs ls) t 0 home ls
