-- Blocks read as whole blocks, and what stops the reading.
use Rattle.std.specs.Prelude.{ℕ, zero, suc, ◌-◌, Bool, true, false, not, ◌&&◌, ◌||◌, ◌==◌, if◌then◌else◌, List, [], ◌∷◌, ◌++◌, length, drop, map as list_map, is_some, Ok, Err}
use Rattle.std.specs.List.{prefix_len}
use Rattle.yaml_tree.specs.Tree.{At, null, text, Tree, scalar, list, map, Elements, no_elements, element, Members, no_members, member, Member}
use Rattle.yaml_inline.specs.File.{Line, is_blank, is_space, begins, skip_blanks, carries_nothing}
use Rattle.yaml_inline.specs.Line.{spot, refused, syntax, Read, ◌>>=◌, body, bad_start, unexpected, starts_plain, is_dash, is_left_out}
use Rattle.yaml_inline.specs.Scalar.{resolved}
use Rattle.yaml_inline.specs.Flow.{quoted, is_quote, is_bracket, flow_node, is_seen}
use Rattle.yaml_inline.specs.Key.{Keyed, keyed, unkeyed, key_stop, key_at}
use Rattle.yaml_blocks.specs.Blocks.{skip_comments, Part, divide, alone, plain_text, block_scalar}

-- a line of a block's own indentation from its dash or key on, and the lines inside it
pub record Item : Type 0 where
  pub line : Line
  pub text : List ℕ
  pub inner : List Line

abbrev pub item_of : Part → Item
item_of p = record { line = p.head; text = body p.head; inner = p.inner }

abbrev pub offset : Line → List ℕ → ℕ
offset l cs = length l.text - length cs

-- the items of a block that begins here, divided by what belongs into a map or a sequence
abbrev pub items_of : Bool → Line → List ℕ → List Line → List Item
items_of in_map l cs ls =
    let d = divide in_map (offset l cs) ls in
    record { line = l; text = cs; inner = d.lead } ∷ list_map item_of d.parts

-- the line may hold an item of the block at this indentation
abbrev pub is_level : ℕ → Item → Bool
is_level i x = offset x.line x.text == i

-- spaces alone stand here before what isn't blank
abbrev pub after_spaces : List ℕ → Bool
after_spaces cs = prefix_len is_blank cs == prefix_len is_space cs

-- ---- keys of a block map's items

-- what is read of a key on a line that has to have one
abbrev pub key_of : Line → Keyed → Read (List ℕ × List ℕ)
key_of l (key_stop s) = Err s
key_of l unkeyed = Err (syntax l)
key_of l (keyed k rest) = Ok (k, rest)

-- the key at the indentation of its map, and what follows its colon
unfoldable pub item_key : ℕ → Line → List ℕ → Read (List ℕ × List ℕ)
item_key i l cs =
    if is_some (bad_start l) then Err (unexpected l)
    else if not (offset l cs == i) then Err (syntax l)
    else key_of l (key_at l cs)

-- the same of a key that isn't one of those seen
unfoldable pub key_in : ℕ → List (List ℕ) → Line → List ℕ → Read (List ℕ × List ℕ)
key_in i seen l cs = item_key i l cs >>= (λ k. if is_seen k.0 seen then Err (refused 5 (spot l cs)) else Ok k)

-- The readers take the least indentation of a scalar's continuation lines.
module _ (block : ℕ → At → List Line → Read Tree) (node : Bool → ℕ → Line → List ℕ → List Line → Read Tree) where
  -- What stands behind a dash or a key's colon: a block in the lines inside, or a node on the line, which may be a
  -- block collection or not.
  abbrev pub behind_in : Bool → ℕ → At → Line → List ℕ → List Line → Read Tree
  behind_in may i home l rest ls =
      if carries_nothing rest then block (suc i) home ls
      else node may (suc i) l (skip_blanks rest) ls

  -- A dash is asked for at the indentation, and then the element behind it.
  unfoldable pub element_in : ℕ → Item → Read Tree
  element_in i x =
      if is_some (bad_start x.line) then Err (unexpected x.line)
      else if not (is_level i x && is_dash x.text) then Err (syntax x.line)
      else behind_in (after_spaces (drop 1 x.text)) i (spot x.line x.text) x.line (drop 1 x.text) x.inner

  abbrev pub elements_in : ℕ → List Item → Read Elements
  elements_in i [] = Ok no_elements
  elements_in i (x ∷ xs) = element_in i x >>= (λ t. elements_in i xs >>= (λ ts. Ok (element t ts)))

  -- A key is asked for at the indentation, which isn't one of those seen, and then the value behind its colon.
  unfoldable pub entry_in : ℕ → List (List ℕ) → Item → Read Member
  entry_in i seen x =
      key_in i seen x.line x.text >>= (λ k.
      behind_in false i (spot x.line x.text) x.line k.1 x.inner >>= (λ t.
      Ok (record { key = k.0; place = spot x.line x.text; value = t })))

  abbrev pub entries_in : ℕ → List (List ℕ) → List Item → Read Members
  entries_in i seen [] = Ok no_members
  entries_in i seen (x ∷ xs) =
      entry_in i seen x >>= (λ m. entries_in i (seen ++ m.key ∷ []) xs >>= (λ ms. Ok (member m.key m.place m.value ms)))

  abbrev pub sequence_in : Line → List ℕ → List Line → Read Tree
  sequence_in l cs ls = elements_in (offset l cs) (items_of false l cs ls) >>= (λ ts. Ok (list (spot l cs) ts))

  abbrev pub map_in : Line → List ℕ → List Line → Read Tree
  map_in l cs ls = entries_in (offset l cs) [] (items_of true l cs ls) >>= (λ ms. Ok (map (spot l cs) ms))

-- a scalar or a flow collection
unfoldable pub scalar_or_flow_in : ℕ → ℕ → Line → List ℕ → List Line → Read Tree
scalar_or_flow_in d m l cs ls =
    if is_left_out cs || (begins 37 cs && offset l cs == 0) then Err (refused 3 (spot l cs))
    else if is_quote cs then quoted l cs >>= (λ q. alone l q.1 ls (scalar (spot l cs) (text q.0)))
    else if is_bracket cs then flow_node d l cs >>= (λ q. alone l q.1 ls q.0)
    else if begins 124 cs || begins 62 cs then block_scalar m l cs ls >>= (λ t. Ok (scalar (spot l cs) (text t)))
    else if starts_plain cs then plain_text m l cs ls >>= (λ t. Ok (scalar (spot l cs) (resolved t)))
    else Err (syntax l)

abbrev pub keyed_then : {A : Type 0} → Keyed → Read A → Read A → Read A
keyed_then (keyed k rest) a b = a
keyed_then unkeyed a b = b
keyed_then (key_stop s) a b = Err s

-- a node on its line, which may be a block collection or not
abbrev pub node_with : (Line → List ℕ → List Line → Read Tree) → (Line → List ℕ → List Line → Read Tree) → ℕ → Bool → ℕ → Line → List ℕ → List Line → Read Tree
node_with a_list a_map d may m l cs ls =
    if not may then scalar_or_flow_in d m l cs ls
    else if is_dash cs then a_list l cs ls
    else keyed_then (key_at l cs) (a_map l cs ls) (scalar_or_flow_in d m l cs ls)

abbrev pub block_from : (Bool → ℕ → Line → List ℕ → List Line → Read Tree) → ℕ → At → List Line → Read Tree
block_from node m home [] = Ok (scalar home null)
block_from node m home (l ∷ ls) = if is_some (bad_start l) then Err (unexpected l) else node true m l (body l) ls

abbrev pub block_with : (Bool → ℕ → Line → List ℕ → List Line → Read Tree) → ℕ → At → List Line → Read Tree
block_with node m home ls = block_from node m home (skip_comments ls)

abbrev pub too_deep : Line → List ℕ → List Line → Read Tree
too_deep l cs ls = Err (refused 6 (spot l cs))

-- a node with collections at most this deep
unfoldable pub node_in : ℕ → Bool → ℕ → Line → List ℕ → List Line → Read Tree
node_in zero = node_with too_deep too_deep zero
node_in (suc d) =
    node_with (sequence_in (block_with (node_in d)) (node_in d)) (map_in (block_with (node_in d)) (node_in d)) (suc d)

-- a block
abbrev pub block_in : ℕ → ℕ → At → List Line → Read Tree
block_in d m home ls = block_with (node_in d) m home ls
