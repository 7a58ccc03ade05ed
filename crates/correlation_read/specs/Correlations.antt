-- Which correlation a document is (Sigma correlations specification 2.0).
use Rattle.std.specs.Prelude.{ℕ, ◌≡◌, ℤ, pos, ◌≤ℤ◌, ◌^◌, List, [], map as list_map, codes, Option, Some, None}
use Rattle.std.specs.List.{filter_map}
use Rattle.sig_base.specs.declared.refusal.Place.{Place}
use Rattle.yaml_tree.specs.Tree.{Tree, Member}
use Rattle.yaml_tree.specs.Nodes.{place_of, text_in, entries_in, entries_at, parts_in, value_in, text_at}
use Rattle.rule_head.specs.Heads.{IsHead}
use Rattle.rule_head.specs.Plain.{PlainHead, head_view, head_with}
use Rattle.correlation_windows.specs.declared.bound.CorrelationKind.{CorrelationKind}
use Rattle.correlation_windows.specs.declared.bound.Op.{Op}
use Rattle.correlation_read.specs.declared.correlation.Alias.{Alias}
use Rattle.correlation_read.specs.declared.correlation.AliasField.{AliasField}
use Rattle.correlation_read.specs.declared.correlation.Correlation.{Correlation}
use Rattle.correlation_read.specs.Words.{op_of}
use Rattle.correlation_read.specs.declared.document.Body.{Body}
use Rattle.correlation_read.specs.declared.checks.Checked.{Checked}
use Rattle.correlation_read.specs.Checks.{kind_at, span_at, number_in}

pub record PlainCorrelation : Type 0 where
  pub head : PlainHead
  pub kind : CorrelationKind
  pub rules : List (List ℕ)
  pub group_by : List (List ℕ)
  pub span : ℤ
  pub condition : List (Op × ℕ)
  pub counted : Option (List ℕ)
  pub aliases : List Alias
  pub place : Place

abbrev pub correlation_view : Correlation → PlainCorrelation
correlation_view c = record {
  head = head_view c.head;
  kind = c.kind;
  rules = c.rules;
  group_by = c.group_by;
  span = c.span;
  condition = c.condition;
  counted = c.counted;
  aliases = c.aliases;
  place = c.place;
}

-- the correlation with these entries in place of those that its head keeps as they are
abbrev pub correlation_with : List Member → PlainCorrelation → PlainCorrelation
correlation_with rest c = record {
  head = head_with rest c.head;
  kind = c.kind;
  rules = c.rules;
  group_by = c.group_by;
  span = c.span;
  condition = c.condition;
  counted = c.counted;
  aliases = c.aliases;
  place = c.place;
}

-- the texts of a list, or the one text
abbrev pub texts_in : Option Tree → List (List ℕ)
texts_in None = []
texts_in (Some t) = list_map text_in (parts_in t)

abbrev pub texts_at : List ℕ → Tree → List (List ℕ)
texts_at key t = texts_in (value_in key (entries_in t))

abbrev pub test_with : Option Op → Option ℕ → Option (Op × ℕ)
test_with None number = None
test_with (Some op) None = None
test_with (Some op) (Some number) = Some (op, number)

-- a comparison of a condition with its number
abbrev pub tested : List ℕ → Tree → Option (Op × ℕ)
tested key t = test_with (op_of key) (number_in t)

abbrev pub test_of : Member → Option (Op × ℕ)
test_of e = tested e.key e.value

-- the field whose values are counted, if the condition names one
abbrev pub counted_in : Option Tree → Option (List ℕ)
counted_in None = None
counted_in (Some t) = text_at (codes "field") t

abbrev pub counted_at : Tree → Option (List ℕ)
counted_at t = counted_in (value_in (codes "condition") (entries_in t))

abbrev pub alias_field_of : Member → AliasField
alias_field_of e = record { rule = e.key; field = text_in e.value }

-- an alias with the field that it gives for each of its rules
abbrev pub alias_of : Member → Alias
alias_of e = record { name = e.key; fields = list_map alias_field_of (entries_in e.value) }

pub record IsChecked (t : Tree) (c : Checked) : Type 0 where
  pub kind : kind_at t ≡ Some c.kind
  pub span : span_at t ≡ Some c.span

-- what the value of `correlation` says
pub record IsBody (t : Tree) (b : Body) : Type 0 where
  pub kind : kind_at t ≡ Some b.kind
  pub rules : b.rules ≡ texts_at (codes "rules") t
  pub group_by : b.group_by ≡ texts_at (codes "group-by") t
  pub span : span_at t ≡ Some b.span
  pub condition : b.condition ≡ filter_map test_of (entries_at (codes "condition") t)
  pub counted : b.counted ≡ counted_at t
  pub aliases : b.aliases ≡ list_map alias_of (entries_at (codes "aliases") t)

abbrev pub body_of : PlainCorrelation → Body
body_of c = record {
  kind = c.kind;
  rules = c.rules;
  group_by = c.group_by;
  span = c.span;
  condition = c.condition;
  counted = c.counted;
  aliases = c.aliases;
}

-- the correlation that a document is
pub record IsCorrelation (t : Tree) (c : PlainCorrelation) : Type 0 where
  pub head : IsHead t c.head
  pub value : Tree
  pub there : value_in (codes "correlation") (entries_in t) ≡ Some value
  pub body : IsBody value (body_of c)
  pub place : c.place ≡ place_of t

-- from 1 to 2^100 nanoseconds, which holds all timespans of this profile
abbrev pub IsSpan : ℤ → Type 0
IsSpan span = (pos 1 ≤ℤ span) × (span ≤ℤ pos (2 ^ 100))
