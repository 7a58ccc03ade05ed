-- The first of faults that follow one another.
use Rattle.std.proofs.Common.{ℕ, zero, suc, ◌≡◌, ◌<◌, ◌≤◌, Bool, true, false, List, [], ◌∷◌, ◌++◌, length, map, get_or, refl, ap, ◌∙◌, arith}
use Rattle.std.specs.Prelude.{◌||◌, ◌&&◌, Option, Some, None}
use Rattle.std.specs.List.{list_any}
use Rattle.query_tokens.specs.Places.{At, origin, nth, CodeAt, code_at_if}
use Rattle.sig_base.specs.declared.refusal.Place.{Place}
use Rattle.sig_base.specs.declared.refusal.Refusal.{Refusal}
use Rattle.query_tokens.specs.PlaceView.{place_view}
use Rattle.event_schema.specs.declared.schema.Field.{Field}
use Rattle.event_schema.specs.declared.schema.FieldKind.{FieldKind}
use Rattle.sql_lang.specs.Tokens.{Op}
use Rattle.sql_lang.specs.Grammar.{Collate, Literal, a_text, a_number, Right, a_name, a_literal}
use Rattle.sql_lang.specs.Names.{kind_of}
use Rattle.sql_lang.specs.Faults.{is_unknown, is_ill_right, is_ill_literal, is_ill_left, is_order, is_not_whole, not_whole, name_faults}
use Rattle.sql_check.specs.Kinds as kinds
use Rattle.sql_check.specs.Refused.{refusal_if, first_fault}

or_false : (a : Bool) → a ≡ (a || false)
or_false true = refl
or_false false = refl

or_assoc : (a b c : Bool) → ((a || b) || c) ≡ (a || (b || c))
or_assoc true b c = refl
or_assoc false b c = refl

pub first_here : (xs ys : List CodeAt) (r : Refusal) → Some r ≡ refusal_if (first_fault xs) → Some r ≡ refusal_if (first_fault (xs ++ ys))
first_here [] ys r e = absurd cc
first_here (x ∷ xs) ys r e = e

pub first_behind : (xs ys : List CodeAt) (o : Option Refusal) → None ≡ refusal_if (first_fault xs) → o ≡ refusal_if (first_fault ys) → o ≡ refusal_if (first_fault (xs ++ ys))
first_behind [] ys o e h = h
first_behind (x ∷ xs) ys o e h = absurd cc

-- ---- places

pub nth_here : (ps : List Place) (k : ℕ) (p : Place) → k < length ps → p ≡ get_or ps k p → place_view p ≡ nth (map place_view ps) k
nth_here [] k p h e = absurd (omega arith)
nth_here (x ∷ xs) zero p h e = ap place_view e
nth_here (x ∷ xs) (suc k) p h e = nth_here xs k p (omega arith) e

pub nth_past : (ps : List Place) (k : ℕ) → length ps ≤ k → origin ≡ nth (map place_view ps) k
nth_past [] k h = refl
nth_past (x ∷ xs) zero h = absurd (omega arith)
nth_past (x ∷ xs) (suc k) h = nth_past xs k (omega arith)

-- ---- kinds of columns for kinds of names

module _ (fields : List Field) (n : List ℕ) where
  pub side_same : (op : Op) (x : Right) (d : Collate) → kinds.is_ill_side fields (kind_of fields n) op x d ≡ is_ill_right fields n op x d
  side_same op (a_name m) d = refl
  side_same op (a_literal (a_text t)) d = refl
  side_same op (a_literal (a_number w)) d = refl

  literal_same : (l : Literal) → kinds.is_ill_literal (kind_of fields n) l ≡ is_ill_literal fields n l
  literal_same (a_text t) = refl
  literal_same (a_number w) = refl

  pub some_same : (ls : List Literal) (l : Literal) → (list_any (kinds.is_ill_literal (kind_of fields n)) ls || kinds.is_ill_literal (kind_of fields n) l) ≡ list_any (is_ill_literal fields n) (ls ++ l ∷ [])
  some_same [] l = literal_same l ∙ or_false (is_ill_literal fields n l)
  some_same (x ∷ ls) l =
      or_assoc (kinds.is_ill_literal (kind_of fields n) x) (list_any (kinds.is_ill_literal (kind_of fields n)) ls) (kinds.is_ill_literal (kind_of fields n) l)
      ∙ (ap (λ (b : Bool). b || (list_any (kinds.is_ill_literal (kind_of fields n)) ls || kinds.is_ill_literal (kind_of fields n) l)) (literal_same x)
      ∙ ap (λ (b : Bool). is_ill_literal fields n x || b) (some_same ls l))

  -- what is said of a kind is said of a name of this kind
  pub of_name : (kind : Option FieldKind) (ill said : Bool) (p : At) (o : Option Refusal) → o ≡ refusal_if (first_fault (code_at_if (is_unknown kind) 122 p ++ code_at_if ill 123 p))
      → kind ≡ kind_of fields n → ill ≡ said → o ≡ refusal_if (first_fault (name_faults fields n said p))
  of_name kind ill said p o is k b =
      is ∙ (ap (λ (x : Option FieldKind). refusal_if (first_fault (code_at_if (is_unknown x) 122 p ++ code_at_if ill 123 p))) k
      ∙ ap (λ (x : Bool). refusal_if (first_fault (code_at_if (is_unknown (kind_of fields n)) 122 p ++ code_at_if x 123 p))) b)

  pub list_same : (kind : Option FieldKind) (c : Collate) (ls : List Literal) (l : Literal) (ill : Bool)
      → ill ≡ (kinds.is_ill_collate kind c || (list_any (kinds.is_ill_literal kind) ls || kinds.is_ill_literal kind l)) → kind ≡ kind_of fields n
      → ill ≡ (is_ill_left fields n c || list_any (is_ill_literal fields n) (ls ++ l ∷ []))
  list_same kind c ls l ill is k =
      is ∙ (ap (λ (x : Option FieldKind). kinds.is_ill_collate x c || (list_any (kinds.is_ill_literal x) ls || kinds.is_ill_literal x l)) k
      ∙ ap (λ (b : Bool). is_ill_left fields n c || b) (some_same ls l))

  pub compare_same : (c : Collate) (op : Op) (x : Right) (d : Collate) (kind : Option FieldKind) (ill : Bool)
      → ill ≡ (kinds.is_ill_collate kind c || is_order op && is_not_whole kind || kinds.is_ill_side fields kind op x d) → kind ≡ kind_of fields n
      → ill ≡ (is_ill_left fields n c || is_order op && not_whole fields n || is_ill_right fields n op x d)
  compare_same c op x d kind ill is k =
      is ∙ (ap (λ (y : Option FieldKind). kinds.is_ill_collate y c || is_order op && is_not_whole y || kinds.is_ill_side fields y op x d) k
      ∙ ap (λ (b : Bool). is_ill_left fields n c || is_order op && not_whole fields n || b) (side_same op x d))
