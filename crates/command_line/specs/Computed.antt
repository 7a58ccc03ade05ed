-- The items that words give, read word by word.
use Rattle.std.specs.Prelude.{◌==◌, ◌&&◌, Bool, List, [], ◌∷◌, map, Option, Some, None, ◌++◌, if◌then◌else◌, is_some}
use Rattle.std.specs.List.{list_all, list_any, before_first, after_first}
use Rattle.command_line.specs.Given.{Word, Item, named, file, is_value, is_nonempty, is_among, less, value_of, names_of}
use Rattle.command_line.specs.Clean.{behind_dashes}
use Rattle.command_line.specs.Table.{Row, takes_names, are_enough}

-- an item, and those that other words give
abbrev pub before : Item → Option (List Item) → Option (List Item)
before item None = None
before item (Some items) = Some (item ∷ items)

-- an option with its value, and what other words give, where this option can't be given again
abbrev pub with_value : List Word → Word → Word → (List Word → Option (List Item)) → Option (List Item)
with_value options x v rest = if is_among x options && is_value v then before (named x v) (rest (less x options)) else None

-- A word by what stands behind `--` in it: a name; `--` itself, behind which all are names; or an option, with its value
-- behind a first `=` or else in the next word.
abbrev pub word_items : List Word → Bool → Word → Option Word → List Word → (List Word → Option (List Item)) → (Word → Option (List Item)) → Option (List Item)
word_items options takes w None ws rest apart = if takes && is_value w then before (file w) (rest options) else None
word_items options takes w (Some []) ws rest apart = if list_all (λ u. takes && is_nonempty u) ws then Some (map file ws) else None
word_items options takes w (Some (c ∷ cs)) ws rest apart =
    if list_any (λ b. b == 61) (c ∷ cs) then with_value options (before_first (λ b. b == 61) (c ∷ cs)) (after_first (λ b. b == 61) (c ∷ cs)) rest
    else apart (c ∷ cs)

abbrev mutual
  pub items_of : List Word → Bool → List Word → Option (List Item)
  items_of options takes [] = Some []
  items_of options takes (w ∷ ws) =
      word_items options takes w (behind_dashes w) ws (λ left. items_of left takes ws) (λ x. items_apart options takes x ws)

  -- the words behind an option whose value is the next one
  pub items_apart : List Word → Bool → Word → List Word → Option (List Item)
  items_apart options takes x [] = None
  items_apart options takes x (v ∷ ws) = with_value options x v (λ left. items_of left takes ws)

-- whether the items have all that a command asks for
abbrev pub is_all : Row → List Item → Bool
is_all row items = list_all (λ x. is_some (value_of x items)) row.required && are_enough row.files (names_of items)

abbrev pub if_all : Row → Option (List Item) → Option (List Item)
if_all row None = None
if_all row (Some items) = if is_all row items then Some items else None

-- the items that the words behind a command's name give
abbrev pub given : Row → List Word → Option (List Item)
given row words = if_all row (items_of (row.required ++ row.optional) (takes_names row.files) words)
