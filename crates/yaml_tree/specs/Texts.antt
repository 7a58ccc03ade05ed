-- Trees whose keys and texts are made of Unicode scalar values.
use Rattle.std.specs.Prelude.{ℕ, ◌≡◌, true, ⊤}
use Rattle.std.specs.Str.{all_scalars}
use Rattle.yaml_tree.specs.Tree.{Scalar, null, truth, whole, text, Tree, scalar, list, map, Elements, no_elements, element, Members, no_members, member, Answer, tree, refusal}

abbrev pub IsScalarText : Scalar → Type 0
IsScalarText null = ⊤
IsScalarText (truth b) = ⊤
IsScalarText (whole n) = ⊤
IsScalarText (text t) = all_scalars t ≡ true

abbrev mutual
  pub HasScalarTexts : Tree → Type 0
  HasScalarTexts (scalar a s) = IsScalarText s
  HasScalarTexts (list a es) = HaveScalarTexts es
  HasScalarTexts (map a ms) = MembersHave ms

  pub HaveScalarTexts : Elements → Type 0
  HaveScalarTexts no_elements = ⊤
  HaveScalarTexts (element t ts) = HasScalarTexts t × HaveScalarTexts ts

  pub MembersHave : Members → Type 0
  MembersHave no_members = ⊤
  MembersHave (member k a t ms) = (all_scalars k ≡ true) × HasScalarTexts t × MembersHave ms

-- a document's tree, if it has one
abbrev pub AnswerHas : Answer → Type 0
AnswerHas (tree t) = HasScalarTexts t
AnswerHas (refusal p) = ⊤
