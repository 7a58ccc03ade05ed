-- The blocks' reading, as the readers of its parts give it.
use Rattle.std.specs.Prelude.{◌≡◌, ◌<◌, ◌≤◌, length, ℕ, zero, suc, false, Bool, List, Option, Some, None, Ok}
use Rattle.std.specs.Borrow.{Bor}
use Rattle.std.specs.declared.vec.Vec.{Vec}
use Rattle.std.specs.declared.alloc.Global.{Global}
use Rattle.yaml_tree.specs.Tree.{At, Tree, scalar, Elements, Members, Member}
use Rattle.yaml_tree.specs.View.{nodes_view, entries_view, elements_of, members_of}
use Rattle.yaml_tree.specs.declared.tree.Node.{Node}
use Rattle.yaml_tree.specs.declared.tree.Entry.{Entry}
use Rattle.yaml_inline.specs.declared.line.Line as code
use Rattle.yaml_inline.specs.File.{Line, blank_or_end, carries_nothing, skip_blanks}
use Rattle.yaml_inline.specs.Line.{spot, Read, ◌>>=◌}
use Rattle.yaml_inline.specs.Scalar.{resolved}
use Rattle.yaml_inline.specs.Key.{keyed, key_at}
use Rattle.yaml_inline.specs.View.{line_view}
use Rattle.yaml_blocks.specs.Blocks.{plain_text}
use Rattle.yaml_blocks.specs.Reading.{Item, behind_in, element_in, elements_in, entry_in, entries_in, sequence_in, map_in, too_deep, block_with, node_in}
use Rattle.yaml_blocks.specs.Views.{lines_view}

-- a line from its dash or key on, and the lines inside it
abbrev pub item : code.Line → List ℕ → List code.Line → Item
item l cs ls = record { line = line_view l; text = cs; inner = lines_view ls }

-- the plain scalar that begins here
abbrev pub plain_in : ℕ → Line → List ℕ → List Line → Read Tree
plain_in m l cs ls = plain_text m l cs ls >>= (λ t. Ok (scalar (spot l cs) (resolved t)))

-- ---- the reading of nodes that hold collections at most d deep

abbrev pub behind : ℕ → Bool → ℕ → At → Line → List ℕ → List Line → Read Tree
behind d may i home l rest ls = behind_in (block_with (node_in d)) (node_in d) may i home l rest ls

abbrev pub element_at : ℕ → ℕ → Item → Read Tree
element_at d i x = element_in (block_with (node_in d)) (node_in d) i x

abbrev pub elements_at : ℕ → ℕ → List Item → Read Elements
elements_at d i xs = elements_in (block_with (node_in d)) (node_in d) i xs

abbrev pub entry_at : ℕ → ℕ → List (List ℕ) → Item → Read Member
entry_at d i seen x = entry_in (block_with (node_in d)) (node_in d) i seen x

abbrev pub entries_at : ℕ → ℕ → List (List ℕ) → List Item → Read Members
entries_at d i seen xs = entries_in (block_with (node_in d)) (node_in d) i seen xs

-- a sequence or a map with collections at most d deep, itself counted
abbrev pub list_in : ℕ → Line → List ℕ → List Line → Read Tree
list_in zero = too_deep
list_in (suc d) = sequence_in (block_with (node_in d)) (node_in d)

abbrev pub mapping_in : ℕ → Line → List ℕ → List Line → Read Tree
mapping_in zero = too_deep
mapping_in (suc d) = map_in (block_with (node_in d)) (node_in d)

-- ---- what was read

abbrev pub elements_given : Vec Node Global → Elements
elements_given v = elements_of (nodes_view v.items)

abbrev pub entries_given : Vec Entry Global → Members
entries_given v = members_of (entries_view v.items)

-- the text behind the blanks of one that carries something
pub record IsContent (rest next : List ℕ) : Type 0 where
  pub some : carries_nothing rest ≡ false
  pub next_is : next ≡ skip_blanks rest
  pub solid : blank_or_end next ≡ false
  pub within : length next ≤ length rest

-- the key that begins here, and what is left behind its colon
abbrev pub IsKey : Line → List ℕ → List ℕ → List ℕ → Type 0
IsKey l cs k rest = (key_at l cs ≡ keyed k rest) × (length rest < length cs)

-- where the key that begins here was read already, it is this one
abbrev pub IsRead : Line → List ℕ → Option (List ℕ × Bor (List ℕ)) → Type 0
IsRead l cs None = Unit {0}
IsRead l cs (Some p) = IsKey l cs p.0 p.1.now
