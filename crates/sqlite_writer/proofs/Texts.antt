-- The text of a tree with its guards is the text of the layout.
use Rattle.std.proofs.Common.{ℕ, ◌≡◌, refl, sym, ◌∙◌, ap, Bool, true, false, List, ◌++◌, map, append_assoc, append-nil}
use Rattle.std.specs.Prelude.{codes}
use Rattle.event_schema.specs.declared.schema.Field.{Field}
use Rattle.sql_lang.specs.Grammar.{Ors, last_and, and_or, Ands, last_not, not_and, enclosed}
use Rattle.sql_layout.specs.Layout.{text_or, text_and, text_not}
use Rattle.sql_layout.specs.Halves.{or_join, and_join, ors_in_halves, halved_ors, halved_ands}
use Rattle.sql_layout.specs.HalvedTrees.{layout}
use Rattle.sql_layout.proofs.Chains.{or_parts, and_parts, ors_halved, ands_halved}
use Rattle.backend_core.specs.Trees.{Plain}
use Rattle.backend_core.specs.Sound.{IsSound}
use Rattle.sqlite_writer.specs.declared.place.Kind.TheVariants.{All, Any}
use Rattle.sqlite_writer.specs.declared.place.Standing.TheVariants.{InOr}
use Rattle.sqlite_writer.specs.Guarded.{sql_tree}
use Rattle.sqlite_writer.specs.Joined.{guarded}
use Rattle.sqlite_writer.specs.Pieces.{row_text, two_texts, halved_text, tree_text, parts_text}
use Rattle.sqlite_writer.proofs.Laid.{IsReckoned, reckoned}

regroup : (a b c d e : List ℕ) → a ++ (b ++ (c ++ (d ++ e))) ≡ (a ++ (b ++ c)) ++ (d ++ e)
regroup a b c d e = simp append_assoc

or_text : (o p : Ors) → text_or (or_join o p) ≡ text_or o ++ (codes " OR " ++ text_or p)
or_text (last_and a) p = refl
or_text (and_or a o) p =
    ap (λ (t : List ℕ). text_and a ++ (codes " OR " ++ t)) (or_text o p) ∙ regroup (text_and a) (codes " OR ") (text_or o) (codes " OR ") (text_or p)

and_text : (a b : Ands) → text_and (and_join a b) ≡ text_and a ++ (codes " AND " ++ text_and b)
and_text (last_not n) b = refl
and_text (not_and n a) b =
    ap (λ (t : List ℕ). text_not n ++ (codes " AND " ++ t)) (and_text a b) ∙ regroup (text_not n) (codes " AND ") (text_and a) (codes " AND ") (text_and b)

or_row_behind : (o : Ors) → codes " OR " ++ text_or o ≡ row_text (codes " OR ") true (map text_and (or_parts o))
or_row_behind (last_and a) = ap (λ (t : List ℕ). codes " OR " ++ t) (sym (append-nil (text_and a)))
or_row_behind (and_or a o) = ap (λ (t : List ℕ). codes " OR " ++ (text_and a ++ t)) (or_row_behind o)

or_row : (o : Ors) → text_or o ≡ row_text (codes " OR ") false (map text_and (or_parts o))
or_row (last_and a) = sym (append-nil (text_and a))
or_row (and_or a o) = ap (λ (t : List ℕ). text_and a ++ t) (or_row_behind o)

and_row_behind : (a : Ands) → codes " AND " ++ text_and a ≡ row_text (codes " AND ") true (map text_not (and_parts a))
and_row_behind (last_not n) = ap (λ (t : List ℕ). codes " AND " ++ t) (sym (append-nil (text_not n)))
and_row_behind (not_and n a) = ap (λ (t : List ℕ). codes " AND " ++ (text_not n ++ t)) (and_row_behind a)

and_row : (a : Ands) → text_and a ≡ row_text (codes " AND ") false (map text_not (and_parts a))
and_row (last_not n) = sym (append-nil (text_not n))
and_row (not_and n a) = ap (λ (t : List ℕ). text_not n ++ t) (and_row_behind a)

or_halved : (o : Ors) → text_or (halved_ors o) ≡ halved_text Any (map text_and (or_parts o))
or_halved o =
    ors_halved (row_text (codes " OR ") false) (two_texts (codes " OR ")) text_and text_or or_row
    (λ p q. or_text p (last_and (last_not (enclosed q)))) o

and_halved : (a : Ands) → text_and (halved_ands a) ≡ halved_text All (map text_not (and_parts a))
and_halved a =
    ands_halved (row_text (codes " AND ") false) (two_texts (codes " AND ")) text_not text_and and_row
    (λ b c. and_text b (last_not (enclosed (last_and c)))) a

in_pair : List ℕ → List ℕ
in_pair text = codes "(" ++ (text ++ codes ")")

module _ (fields : List Field) where
  texts_reckoned : IsReckoned fields text_or text_and text_not text_not (tree_text fields) (parts_text fields)
  unfolding in_pair ors_in_halves
  texts_reckoned = record {
    none = λ at. refl;
    more = λ at t ts. refl;
    leaf_or = λ l. refl;
    leaf_and = λ l. refl;
    leaf_not = λ l. refl;
    never_or = refl;
    never_and = refl;
    never_not = refl;
    not_or = λ n t h. ap (λ (x : List ℕ). codes "NOT " ++ x) h;
    not_and = λ n t h. ap (λ (x : List ℕ). codes "NOT " ++ x) h;
    not_again = λ n t h. ap (λ (x : List ℕ). codes "NOT " ++ x) h;
    any_whole = λ o ts h. or_halved o ∙ (ap (halved_text Any) h ∙ sym (append-nil _));
    any_and = λ o ts h. ap in_pair (or_halved o ∙ ap (halved_text Any) h);
    any_not = λ o ts h. ap in_pair (or_halved o ∙ ap (halved_text Any) h);
    all_or = λ a ts h. and_halved a ∙ (ap (halved_text All) h ∙ sym (append-nil _));
    all_not = λ a ts h. ap in_pair (and_halved a ∙ ap (halved_text All) h);
    one_whole = λ a. refl;
  }

  pub text_is : (odd : Bool) (t : Plain) → IsSound fields t → text_or (layout (sql_tree fields odd t)) ≡ tree_text fields InOr (guarded odd t)
  text_is odd t s = reckoned fields text_or text_and text_not text_not (tree_text fields) (parts_text fields) texts_reckoned odd t s
