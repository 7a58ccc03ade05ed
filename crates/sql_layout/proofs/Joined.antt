-- The value of a chain of two chains is the value of both.
use Rattle.std.proofs.Common.{◌≡◌, refl, sym, ◌∙◌, ap, List}
use Rattle.std.specs.Prelude.{Option}
use Rattle.event_schema.specs.declared.schema.Field.{Field}
use Rattle.event_schema.specs.declared.value.Value.{Value}
use Rattle.sql_lang.specs.Grammar.{Ors, last_and, and_or, Ands, last_not, not_and, Nots}
use Rattle.sql_lang.specs.Expression.{or_expr, or_exprs, and_expr, and_exprs, not_expr}
use Rattle.sql_lang.specs.Meaning.{Truth, Yes, No, Unknown, both, either, sql_value, any_value, all_value}
use Rattle.sql_layout.specs.Halves.{or_join, and_join}

pub either_no : (v : Truth) → either v No ≡ v
either_no Yes = refl
either_no No = refl
either_no Unknown = refl

pub both_yes : (v : Truth) → both v Yes ≡ v
both_yes Yes = refl
both_yes No = refl
both_yes Unknown = refl

either_assoc : (a b c : Truth) → either (either a b) c ≡ either a (either b c)
either_assoc Yes b c = refl
either_assoc No b c = refl
either_assoc Unknown Yes c = refl
either_assoc Unknown No Yes = refl
either_assoc Unknown No No = refl
either_assoc Unknown No Unknown = refl
either_assoc Unknown Unknown Yes = refl
either_assoc Unknown Unknown No = refl
either_assoc Unknown Unknown Unknown = refl

both_assoc : (a b c : Truth) → both (both a b) c ≡ both a (both b c)
both_assoc No b c = refl
both_assoc Yes b c = refl
both_assoc Unknown No c = refl
both_assoc Unknown Yes No = refl
both_assoc Unknown Yes Yes = refl
both_assoc Unknown Yes Unknown = refl
both_assoc Unknown Unknown No = refl
both_assoc Unknown Unknown Yes = refl
both_assoc Unknown Unknown Unknown = refl

module _ (fields : List Field) (row : List (Option Value)) where
  abbrev pub value_or : Ors → Truth
  value_or o = sql_value (or_expr fields o) row

  abbrev pub value_and : Ands → Truth
  value_and a = sql_value (and_expr fields a) row

  abbrev pub value_not : Nots → Truth
  value_not n = sql_value (not_expr fields n) row

  pub listed_or : (o : Ors) → any_value (or_exprs fields o) row ≡ value_or o
  listed_or (last_and a) = either_no (value_and a)
  listed_or (and_or a o) = refl

  pub listed_and : (a : Ands) → all_value (and_exprs fields a) row ≡ value_and a
  listed_and (last_not n) = both_yes (value_not n)
  listed_and (not_and n a) = refl

  pub joined_or : (o p : Ors) → value_or (or_join o p) ≡ either (value_or o) (value_or p)
  joined_or (last_and a) p = ap (either (value_and a)) (listed_or p)
  joined_or (and_or a o) p =
      ap (either (value_and a)) (listed_or (or_join o p) ∙ joined_or o p)
      ∙ (sym (either_assoc (value_and a) (value_or o) (value_or p))
      ∙ ap (λ (v : Truth). either (either (value_and a) v) (value_or p)) (sym (listed_or o)))

  pub joined_and : (a b : Ands) → value_and (and_join a b) ≡ both (value_and a) (value_and b)
  joined_and (last_not n) b = ap (both (value_not n)) (listed_and b)
  joined_and (not_and n a) b =
      ap (both (value_not n)) (listed_and (and_join a b) ∙ joined_and a b)
      ∙ (sym (both_assoc (value_not n) (value_and a) (value_and b))
      ∙ ap (λ (v : Truth). both (both (value_not n) v) (value_and b)) (sym (listed_and a)))
