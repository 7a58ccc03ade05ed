-- A list of one joined tree is joined to that tree: no joined tree has one part alone.
use Rattle.std.proofs.Common.{ℕ, ◌≡◌, ◌<◌, ◌≤◌, refl, sym, ap, ◌∙◌, List, [], ◌∷◌, ◌++◌, length, get_or, map, append-nil, subst, arith}
use Rattle.std.specs.Prelude.{⊤, Option, Some, None, IfOk, Result}
use Rattle.std.specs.List.{flat_map}
use Rattle.backend_core.specs.FieldAt.{kind_at}
use Rattle.backend_core.specs.Trees.{Plain, all, any, negated, leaf, never, Plains, no_parts, a_part}
use Rattle.backend_core.specs.View.{tree_view}
use Rattle.backend_core.specs.declared.tree.LeafTest.{LeafTest}
use Rattle.backend_core.specs.declared.tree.Tree.{Tree}
use Rattle.event_schema.specs.declared.schema.Field.{Field}
use Rattle.event_schema.specs.declared.schema.FieldKind.{FieldKind}
use Rattle.rule_detections.specs.declared.detection.Detection.{Detection}
use Rattle.rule_detections.specs.declared.item.Fields.{Fields}
use Rattle.rule_detections.specs.declared.item.Fields.TheVariants.{Keyword, Names}
use Rattle.rule_detections.specs.declared.item.Item.{Item}
use Rattle.sig_base.specs.declared.refusal.Place.{Place}
use Rattle.modifier_words.specs.declared.modifier.Joined.{Joined}
use Rattle.modifier_words.specs.declared.modifier.Joined.TheVariants.{All, Any}
use Rattle.rule_detections.specs.declared.test.Test.{Test}
use Rattle.rule_lowering.specs.Joining.{plains, listed, parts_of, closed, join}
use Rattle.rule_lowering.specs.TreeOf.{leaf_test, leaf_if_any, written_tree, written_tests, test_tree, value_tree, values_tree, keyword_tree, number_tree, fields_tree, item_tree, alternative_tree, detection_tree}
use Rattle.schema_index.specs.Numbers.{number_of, searched}

abbrev AreNotOne : Plains → Type 0
AreNotOne no_parts = ⊤
AreNotOne (a_part t no_parts) = ⊥
AreNotOne (a_part t (a_part u ts)) = ⊤

-- a tree that isn't the All or the Any of one part
abbrev pub IsClosed : Plain → Type 0
IsClosed (all ts) = AreNotOne ts
IsClosed (any ts) = AreNotOne ts
IsClosed (negated t) = ⊤
IsClosed (leaf l) = ⊤
IsClosed never = ⊤

-- where there is one tree, it is such a tree
abbrev OneIsClosed : List Plain → Type 0
OneIsClosed [] = ⊤
OneIsClosed (t ∷ []) = IsClosed t
OneIsClosed (t ∷ u ∷ ts) = ⊤

listed_plains : (ts : Plains) → plains (listed ts) ≡ ts
listed_plains no_parts = refl
listed_plains (a_part t ts) = ap (a_part t) (listed_plains ts)

one_closed : (j : Joined) (t : Plain) → IsClosed t → closed j (parts_of j t) ≡ t
one_closed All (all no_parts) h = refl
one_closed All (all (a_part t no_parts)) h = absurd h
one_closed All (all (a_part t (a_part u ts))) h = ap (λ (us : Plains). all (a_part t (a_part u us))) (listed_plains ts)
one_closed All (any ts) h = refl
one_closed All (negated t) h = refl
one_closed All (leaf l) h = refl
one_closed All never h = refl
one_closed Any (all ts) h = refl
one_closed Any (any no_parts) h = refl
one_closed Any (any (a_part t no_parts)) h = absurd h
one_closed Any (any (a_part t (a_part u ts))) h = ap (λ (us : Plains). any (a_part t (a_part u us))) (listed_plains ts)
one_closed Any (negated t) h = refl
one_closed Any (leaf l) h = refl
one_closed Any never h = refl

pub join_one : (j : Joined) (t : Plain) → IsClosed t → join j (t ∷ []) ≡ t
unfolding join
join_one j t h = ap (closed j) (append-nil (parts_of j t)) ∙ one_closed j t h

-- ---- joined trees

parts_closed : (j : Joined) (t : Plain) → IsClosed t → OneIsClosed (parts_of j t)
parts_closed All (all no_parts) h = tt
parts_closed All (all (a_part t no_parts)) h = absurd h
parts_closed All (all (a_part t (a_part u ts))) h = tt
parts_closed All (any ts) h = h
parts_closed All (negated t) h = tt
parts_closed All (leaf l) h = tt
parts_closed All never h = tt
parts_closed Any (all ts) h = h
parts_closed Any (any no_parts) h = tt
parts_closed Any (any (a_part t no_parts)) h = absurd h
parts_closed Any (any (a_part t (a_part u ts))) h = tt
parts_closed Any (negated t) h = tt
parts_closed Any (leaf l) h = tt
parts_closed Any never h = tt

append_closed : (ts us : List Plain) → OneIsClosed ts → OneIsClosed us → OneIsClosed (ts ++ us)
append_closed [] us h k = k
append_closed (t ∷ []) [] h k = h
append_closed (t ∷ []) (u ∷ us) h k = tt
append_closed (t ∷ u ∷ ts) us h k = tt

all_closed : {A : Type 0} (j : Joined) (f : A → Plain) → ((x : A) → IsClosed (f x)) → (xs : List A) → OneIsClosed (flat_map (parts_of j) (map f xs))
all_closed j f each [] = tt
all_closed j f each (x ∷ xs) =
    append_closed (parts_of j (f x)) (flat_map (parts_of j) (map f xs)) (parts_closed j (f x) (each x)) (all_closed j f each xs)

closed_closed : (j : Joined) (ts : List Plain) → OneIsClosed ts → IsClosed (closed j ts)
closed_closed All [] h = tt
closed_closed Any [] h = tt
closed_closed j (t ∷ []) h = h
closed_closed All (t ∷ u ∷ ts) h = tt
closed_closed Any (t ∷ u ∷ ts) h = tt

join_closed : {A : Type 0} (j : Joined) (f : A → Plain) → ((x : A) → IsClosed (f x)) → (xs : List A) → IsClosed (join j (map f xs))
unfolding join
join_closed j f each xs = closed_closed j (flat_map (parts_of j) (map f xs)) (all_closed j f each xs)

-- ---- the trees of a rule

leaf_closed : (place : Place) (field : ℕ) (test : Option LeafTest) → IsClosed (leaf_if_any place field test)
leaf_closed place field None = tt
leaf_closed place field (Some test) = tt

module _ (fields : List Field) where
  written_closed : (place : Place) (kind : FieldKind) (field : ℕ) (test : Test) → IsClosed (written_tree fields place kind field test)
  written_closed place kind field test = leaf_closed place field (leaf_test fields kind test)

  pub test_closed : (place : Place) (kind : FieldKind) (field : ℕ) (test : Test) → IsClosed (test_tree fields place kind field test)
  test_closed place kind field test = join_closed Any (written_tree fields place kind field) (written_closed place kind field) (written_tests test)

  -- what stands for itself alone
  pub alone : {E : Type 0} (r : Result Tree E) (place : Place) (kind : FieldKind) (field : ℕ) (test : Test) → written_tests test ≡ test ∷ []
      → IfOk r (λ t. tree_view t ≡ written_tree fields place kind field test) → IfOk r (λ t. tree_view t ≡ test_tree fields place kind field test)
  alone r place kind field test one h =
      subst (λ (p : Plain). IfOk r (λ t. tree_view t ≡ p))
      (sym (ap (λ (ts : List Test). join Any (map (written_tree fields place kind field) ts)) one
      ∙ join_one Any (written_tree fields place kind field test) (written_closed place kind field test))) h

  pub value_closed : (place : Place) (kind : FieldKind) (field : ℕ) (tests : List Test) → IsClosed (value_tree fields place kind field tests)
  value_closed place kind field tests = join_closed Any (test_tree fields place kind field) (test_closed place kind field) tests

  pub values_closed : (place : Place) (joined : Joined) (values : List (List Test)) (kind : FieldKind) (field : ℕ)
      → IsClosed (values_tree fields place joined values kind field)
  values_closed place joined values kind field = join_closed joined (value_tree fields place kind field) (value_closed place kind field) values

  keyword_closed : (place : Place) (tests : List Test) → IsClosed (keyword_tree fields place tests)
  keyword_closed place tests =
      join_closed Any (λ (field : ℕ). value_tree fields place (kind_at fields field) field tests)
      (λ field. value_closed place (kind_at fields field) field tests) (searched fields)

  pub number_closed : (place : Place) (joined : Joined) (values : List (List Test)) (field : ℕ) → IsClosed (number_tree fields place joined values field)
  number_closed place joined values field = values_closed place joined values (kind_at fields field) field

  fields_closed : (place : Place) (joined : Joined) (values : List (List Test)) (asked : Fields) → IsClosed (fields_tree fields place joined values asked)
  fields_closed place joined values Keyword = join_closed joined (keyword_tree fields place) (keyword_closed place) values
  fields_closed place joined values (Names names) =
      join_closed Any (λ (name : List ℕ). number_tree fields place joined values (number_of fields name))
      (λ name. number_closed place joined values (number_of fields name)) names

  pub item_closed : (i : Item) → IsClosed (item_tree fields i)
  item_closed i = fields_closed i.place i.joined i.tests i.fields

  pub alternative_closed : (items : List Item) → IsClosed (alternative_tree fields items)
  alternative_closed items = join_closed All (item_tree fields) item_closed items

  pub detection_closed : (d : Detection) → IsClosed (detection_tree fields d)
  detection_closed d = join_closed Any (alternative_tree fields) alternative_closed d.alternatives

-- ---- lists of one

one_item : {A : Type 0} (xs : List A) (x : A) → 1 ≤ length xs → length xs < 2 → x ≡ get_or xs 0 x → xs ≡ x ∷ []
one_item [] x some few is = absurd (omega (arith, some))
one_item (y ∷ []) x some few is = ap (λ z. z ∷ []) (sym is)
one_item (y ∷ z ∷ xs) x some few is = absurd (omega (arith, few))

-- the tree of the one element is that of the list
pub level_one : {A : Type 0} {E : Type 0} (r : Result Tree E) (j : Joined) (f : A → Plain) (xs : List A) (x : A) → 1 ≤ length xs → length xs < 2 → x ≡ get_or xs 0 x
    → IsClosed (f x) → IfOk r (λ t. tree_view t ≡ f x) → IfOk r (λ t. tree_view t ≡ join j (map f xs))
level_one r j f xs x some few is c h =
    subst (λ (p : Plain). IfOk r (λ t. tree_view t ≡ p)) (sym (ap (λ ys. join j (map f ys)) (one_item xs x some few is) ∙ join_one j (f x) c)) h
