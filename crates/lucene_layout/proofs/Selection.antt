-- A tree's layout selects a document exactly where the tree's value is true: the three lists of clauses of a written group.
use Rattle.std.proofs.Common.{◌≡◌, refl, sym, ◌∙◌, ap, Bool, true, false, ◌&&◌, List, []}
use Rattle.std.specs.Prelude.{not, ◌||◌}
use Rattle.event_schema.specs.declared.schema.Field.{Field}
use Rattle.event_schema.specs.declared.value.Value.{Value}
use Rattle.lucene_lang.specs.declared.query.Word.TheVariants.{And, Or}
use Rattle.lucene_lang.specs.Grammar.{Group, last, joined, Clause, asked, forbidden, Atom}
use Rattle.lucene_lang.specs.Query.{Clauses, group_of, clauses_of, clause_of, atom_of}
use Rattle.lucene_lang.specs.Meaning.{Lists, listed, is_none, all_hold, one_holds, selected, selects, lists, atom_holds}
use Rattle.lucene_layout.specs.Trees.{Tree, leaf, all, any, negated, Trees, no_trees, a_tree, Form, form_of_group, form_of_not, all_forbidden, with_everything, form, some_of, each_of, layout, leaf_value, tree_value, all_trees, any_tree}

-- no prohibited clause holds, and each required one does
abbrev free : Lists → Bool
free l = not (one_holds l.prohibited) && all_hold l.required

one_required : (p h r : Bool) → (not p && (h && r)) ≡ (h && (not p && r))
one_required true true r = refl
one_required true false r = refl
one_required false true r = refl
one_required false false r = refl

one_prohibited : (h p r : Bool) → (not (h || p) && r) ≡ (not h && (not p && r))
one_prohibited true p r = refl
one_prohibited false p r = refl

and_true : (b : Bool) → (b && true) ≡ b
and_true true = refl
and_true false = refl

or_false : (b : Bool) → (b || false) ≡ b
or_false true = refl
or_false false = refl

module _ (fields : List Field) (row : List (List Value)) where
  abbrev holds : Atom → Bool
  holds a = atom_holds row (atom_of fields a)

  abbrev clause_value : Clause → Bool
  clause_value (asked a) = holds a
  clause_value (forbidden a) = not (holds a)

  -- ---- groups with AND

  abbrev and_value : Group → Bool
  and_value (last c) = clause_value c
  and_value (joined c w g) = clause_value c && and_value g

  abbrev and_lists : Group → Lists
  and_lists g = lists row And (clauses_of fields g)

  one_more : (c : Clause) (more : Clauses) → free (lists row And (clause_of fields c more)) ≡ (clause_value c && free (lists row And more))
  one_more (asked a) more = one_required (one_holds (lists row And more).prohibited) (holds a) (all_hold (lists row And more).required)
  one_more (forbidden a) more = one_prohibited (holds a) (one_holds (lists row And more).prohibited) (all_hold (lists row And more).required)

  and_free : (g : Group) → free (and_lists g) ≡ and_value g
  and_free (last (asked a)) = and_true (holds a)
  and_free (last (forbidden a)) = by (holds a) where
    by : (h : Bool) → (not (h || false) && true) ≡ not h
    by true = refl
    by false = refl
  and_free (joined c w g) = one_more c (clauses_of fields g) ∙ ap (λ (b : Bool). clause_value c && b) (and_free g)

  none_required : (g : Group) → is_none (and_lists g).required ≡ all_forbidden g
  none_required (last (asked a)) = refl
  none_required (last (forbidden a)) = refl
  none_required (joined (asked a) w g) = refl
  none_required (joined (forbidden a) w g) = none_required g

  some_required : (l : Lists) → is_none l.required ≡ false → selected l ≡ free l
  some_required l is = rw is (and_true (free l))

  with_everything_is : (c : Clause) (g : Group) → selects row (group_of fields (with_everything (joined c And g))) ≡ and_value (joined c And g)
  with_everything_is c g = by (all_forbidden (joined c And g)) refl where
    by : (b : Bool) → all_forbidden (joined c And g) ≡ b → selects row (group_of fields (with_everything (joined c And g))) ≡ and_value (joined c And g)
    by true is = rw is
        (some_required (listed And false true (and_lists (joined c And g))) refl
        ∙ (one_required (one_holds (and_lists (joined c And g)).prohibited) true (all_hold (and_lists (joined c And g)).required)
        ∙ and_free (joined c And g)))
    by false is = rw is (some_required (and_lists (joined c And g)) (none_required (joined c And g) ∙ is) ∙ and_free (joined c And g))

  -- ---- groups with OR, none of whose clauses is prohibited

  record IsOr (l : Lists) (v : Bool) : Type 0 where
    required : l.required ≡ []
    prohibited : l.prohibited ≡ []
    optional : one_holds l.optional ≡ v

  or_more : (h v : Bool) (l : Lists) → IsOr l v → IsOr (listed Or false h l) (h || v)
  or_more h v l i = record { required = i.required; prohibited = i.prohibited; optional = ap (λ (b : Bool). h || b) i.optional }

  or_selects : (l : Lists) (v : Bool) → IsOr l v → selected l ≡ v
  or_selects l v i =
      let r = i.required in
      let p = i.prohibited in
      rw (r, p) i.optional

  -- ---- forms

  record Means (f : Form) (v : Bool) : Type 0 where
    whole : selects row (group_of fields f.whole) ≡ v
    alone : holds f.alone ≡ v
    part : clause_value f.part ≡ v

  means_group : (g : Group) (v : Bool) → selects row (group_of fields g) ≡ v → Means (form_of_group g) v
  means_group g v is = record { whole = is; alone = is; part = is }

  lone : (b : Bool) → ((true && (b && true)) && true) ≡ b
  lone true = refl
  lone false = refl

  not_alone : (b : Bool) → ((not (b || false) && true) && true) ≡ not b
  not_alone true = refl
  not_alone false = refl

  means_leaf : (t : Tree) (f : Form) (v : Bool) → Means f v → Means (form_of_not f.alone) (not v)
  means_leaf t f v m =
      let is = not_alone (holds f.alone) ∙ ap not m.alone in
      record { whole = is; alone = is; part = ap not m.alone }

  or_first : (t : Tree) → Means (form t) (tree_value fields row t) → (v : Bool) (l : Lists) → IsOr l v → IsOr (listed Or false (holds (form t).alone) l) (tree_value fields row t || v)
  or_first t m v l i =
      let r = or_more (holds (form t).alone) v l i in
      record { required = r.required; prohibited = r.prohibited; optional = r.optional ∙ ap (λ (b : Bool). b || v) m.alone }

  mutual
    form_means : (t : Tree) → Means (form t) (tree_value fields row t)
    form_means (leaf l) = record { whole = lone (leaf_value fields row l); alone = refl; part = refl }
    form_means (negated t) = means_leaf t (form t) (tree_value fields row t) (form_means t)
    form_means (any t no_trees) =
        let m = form_means t in
        record { whole = m.whole ∙ sym (or_false _); alone = m.alone ∙ sym (or_false _); part = m.part ∙ sym (or_false _) }
    form_means (any t (a_tree u ts)) = means_group (joined (asked (form t).alone) Or (some_of (form u) ts)) (tree_value fields row (any t (a_tree u ts)))
        (or_selects _ _ (or_first t (form_means t) (tree_value fields row u || any_tree fields row ts) (lists row Or (clauses_of fields (some_of (form u) ts))) (some_means u ts (form_means u))))
    form_means (all t no_trees) =
        let m = form_means t in
        record { whole = m.whole ∙ sym (and_true _); alone = m.alone ∙ sym (and_true _); part = m.part ∙ sym (and_true _) }
    form_means (all t (a_tree u ts)) = means_group (with_everything (joined (form t).part And (each_of (form u) ts))) (tree_value fields row (all t (a_tree u ts)))
        (with_everything_is (form t).part (each_of (form u) ts)
        ∙ (ap (λ (b : Bool). b && and_value (each_of (form u) ts)) (form_means t).part
        ∙ ap (λ (b : Bool). tree_value fields row t && b) (each_means u ts (form_means u))))

    some_means : (t : Tree) (ts : Trees) → Means (form t) (tree_value fields row t)
        → IsOr (lists row Or (clauses_of fields (some_of (form t) ts))) (tree_value fields row t || any_tree fields row ts)
    some_means t no_trees m = or_first t m false (record { required = []; optional = []; prohibited = [] }) (record { required = refl; prohibited = refl; optional = refl })
    some_means t (a_tree u ts) m = or_first t m (tree_value fields row u || any_tree fields row ts) (lists row Or (clauses_of fields (some_of (form u) ts))) (some_means u ts (form_means u))

    each_means : (t : Tree) (ts : Trees) → Means (form t) (tree_value fields row t)
        → and_value (each_of (form t) ts) ≡ (tree_value fields row t && all_trees fields row ts)
    each_means t no_trees m = m.part ∙ sym (and_true _)
    each_means t (a_tree u ts) m =
        ap (λ (b : Bool). b && and_value (each_of (form u) ts)) m.part
        ∙ ap (λ (b : Bool). tree_value fields row t && b) (each_means u ts (form_means u))

pub layout_means : (fields : List Field) (row : List (List Value)) (t : Tree) → selects row (group_of fields (layout t)) ≡ tree_value fields row t
layout_means fields row t = (form_means fields row t).whole
