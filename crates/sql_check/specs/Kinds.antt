-- What a test asks of columns of these kinds, as the definitions ask it of names.
use Rattle.std.specs.Prelude.{Bool, not, ◌||◌, ◌&&◌, List, Option}
use Rattle.event_schema.specs.declared.schema.Field.{Field}
use Rattle.event_schema.specs.declared.schema.FieldKind.{FieldKind}
use Rattle.sql_lang.specs.Tokens.{Op}
use Rattle.sql_lang.specs.Grammar.{Collate, Literal, a_text, a_number, Right, a_name, a_literal}
use Rattle.sql_lang.specs.Names.{kind_of}
use Rattle.sql_lang.specs.Faults.{is_whole, is_not_whole, is_said, is_order, is_text}

module _ (kind : Option FieldKind) where
  abbrev pub is_ill_literal : Literal → Bool
  is_ill_literal (a_text t) = is_whole kind
  is_ill_literal (a_number w) = is_not_whole kind

  abbrev pub is_ill_collate : Collate → Bool
  is_ill_collate c = is_said c && is_whole kind

  abbrev pub is_ill_column : Op → Option FieldKind → Collate → Bool
  is_ill_column op right d =
      is_said d && is_whole right || is_order op && is_not_whole right || is_whole kind && is_not_whole right || is_not_whole kind && is_whole right

  abbrev pub is_ill_value : Literal → Collate → Bool
  is_ill_value l d = is_said d && not (is_text l) || is_ill_literal l

-- a side on the right of op, against a column of this kind
abbrev pub is_ill_side : List Field → Option FieldKind → Op → Right → Collate → Bool
is_ill_side fields kind op (a_name m) d = is_ill_column kind op (kind_of fields m) d
is_ill_side fields kind op (a_literal l) d = is_ill_value kind l d
