-- What the reader has read, as the definitions have it.
use Rattle.std.specs.Prelude.{ℕ, ◌+◌, List, [], ◌∷◌, map, reverse, Option, Some, None}
use Rattle.sql_parse.specs.declared.syntax.Right.{Right}
use Rattle.sql_parse.specs.declared.syntax.Right.TheVariants as n
use Rattle.sql_parse.specs.declared.syntax.Literal.{Literal}
use Rattle.sql_parse.specs.declared.syntax.Literal.TheVariants as i
use Rattle.sql_parse.specs.declared.syntax.Leaf.{Leaf}
use Rattle.sql_parse.specs.declared.syntax.Leaf.TheVariants as l
use Rattle.sql_parse.specs.declared.syntax.Ors.{Ors}
use Rattle.sql_parse.specs.declared.syntax.Ands.{Ands}
use Rattle.sql_parse.specs.declared.syntax.Nots.{Nots}
use Rattle.sql_parse.specs.declared.syntax.Core.{Core}
use Rattle.sql_parse.specs.declared.syntax.Core.TheOpen.{Core-F, Ands-F, Nots-F, Ors-F}
use Rattle.sql_parse.specs.declared.syntax.Core.TheFolds.{fold-Core, fold-Ands, fold-Nots, fold-Ors}
use Rattle.sql_parse.specs.declared.partial.Partial.{Partial}
use Rattle.sql_parse.specs.declared.partial.Partial.TheVariants as p
use Rattle.sql_parse.specs.declared.state.Level.{Level}
use Rattle.sql_parse.specs.declared.state.Inside.{Inside}
use Rattle.sql_parse.specs.declared.state.State.{State}
use Rattle.sql_parse.specs.declared.state.State.TheVariants as a
use Rattle.sql_parse.specs.declared.state.Query.{Query}
use Rattle.sql_scan.specs.declared.token.Sort.{Sort}
use Rattle.sql_scan.specs.View.{sort_view}
use Rattle.sql_lang.specs.View.{collate_view, op_view}
use Rattle.sql_lang.specs.Tokens as t
use Rattle.sql_lang.specs.Grammar as x
use Rattle.sql_lang.specs.Machine as m

abbrev pub literal_view : Literal → x.Literal
literal_view (i.Text v) = x.a_text v
literal_view (i.Number v) = x.a_number v.text

abbrev pub right_view : Right → x.Right
right_view (n.Name v) = x.a_name v
right_view (n.Literal l) = x.a_literal (literal_view l)

abbrev pub literals_view : List Literal → List x.Literal
literals_view ls = map literal_view ls

abbrev pub leaf_view : Leaf → x.Leaf
leaf_view (l.Constant b) = x.constant b
leaf_view (l.IsNull name b) = x.is_null name b
leaf_view (l.Compare name left op right collate) = x.compares name (collate_view left) (op_view op) (right_view right) (collate_view collate)
leaf_view (l.Like name b v e) = x.like name b v e
leaf_view (l.Glob name b v) = x.glob name b v
leaf_view (l.Regexp name b v) = x.regexp name b v
leaf_view (l.OneOf name d b ls k) = x.one_of name (collate_view d) b (literals_view ls.items) (literal_view k)
leaf_view (l.Between name d b low high) = x.between name (collate_view d) b low.text high.text

-- one level of the syntax, with what is inside already seen
abbrev pub ors_step : Ors-F x.Nots x.Ands x.Nots x.Ors → x.Ors
ors_step o = m.or_of o.before.items o.last

abbrev pub ands_step : Ands-F x.Nots x.Ands x.Nots x.Ors → x.Ands
ands_step a = m.and_of a.before.items a.last

abbrev pub nots_step : Nots-F x.Nots x.Ands x.Nots x.Ors → x.Nots
nots_step v = m.negated v.count v.core

abbrev pub core_step : Core-F x.Nots x.Ands x.Nots x.Ors → x.Nots
core_step (Core-F.Test t) = x.a_test (leaf_view t)
core_step (Core-F.Enclosed b) = x.enclosed b.value

abbrev pub ors_view : Ors → x.Ors
ors_view = fold-Ors x.Nots x.Ands x.Nots x.Ors core_step ands_step nots_step ors_step

abbrev pub ands_view : Ands → x.Ands
ands_view = fold-Ands x.Nots x.Ands x.Nots x.Ors core_step ands_step nots_step ors_step

abbrev pub nots_view : Nots → x.Nots
nots_view = fold-Nots x.Nots x.Ands x.Nots x.Ors core_step ands_step nots_step ors_step

abbrev pub core_view : Core → x.Nots
core_view = fold-Core x.Nots x.Ands x.Nots x.Ors core_step ands_step nots_step ors_step

abbrev pub partial_view : Partial → m.Partial
partial_view p.Start = m.Start
partial_view (p.Named v) = m.Named v
partial_view (p.Collating v) = m.Collating v
partial_view (p.Collated v d) = m.Collated v (collate_view d)
partial_view (p.Is v) = m.Is v
partial_view (p.IsNot v) = m.IsNot v
partial_view (p.Against v d op) = m.Against v (collate_view d) (op_view op)
partial_view (p.Compared v d op y) = m.Compared v (collate_view d) (op_view op) (right_view y)
partial_view (p.RightCollating v d op y) = m.RightCollating v (collate_view d) (op_view op) (right_view y)
partial_view (p.NamedNot v) = m.NamedNot v
partial_view (p.CollatedNot v d) = m.CollatedNot v (collate_view d)
partial_view (p.Liking v b) = m.Liking v b
partial_view (p.Liked v b w) = m.Liked v b w
partial_view (p.Escaping v b w) = m.Escaping v b w
partial_view (p.Globbing v b) = m.Globbing v b
partial_view (p.Searching v b) = m.Searching v b
partial_view (p.Among v d b) = m.Among v (collate_view d) b
partial_view (p.Listing v d b ls) = m.Listing v (collate_view d) b (literals_view ls.items)
partial_view (p.Listed v d b ls k) = m.Listed v (collate_view d) b (literals_view ls.items) (literal_view k)
partial_view (p.Ranging v d b) = m.Ranging v (collate_view d) b
partial_view (p.Low v d b w) = m.Low v (collate_view d) b w.text
partial_view (p.High v d b w) = m.High v (collate_view d) b w.text
partial_view (p.Complete t) = m.Complete (leaf_view t)
partial_view (p.Closed o) = m.Closed (ors_view o.value)

abbrev pub option_view : Option Partial → Option m.Partial
option_view None = None
option_view (Some x) = Some (partial_view x)

abbrev pub core_option_view : Option Core → Option x.Nots
core_option_view None = None
core_option_view (Some v) = Some (core_view v)

-- ---- states

abbrev pub level_view : Level → m.Level
level_view v = record { ors = map ands_view v.ors.items; ands = map nots_view v.ands.items; nots = v.nots }

-- the innermost level is the last of a Vec
abbrev pub levels_view : List Level → List m.Level
levels_view ls = reverse (map level_view ls)

abbrev pub state_view : State → m.State
state_view a.Begun = m.Begun
state_view a.Selected = m.Selected
state_view a.Starred = m.Starred
state_view a.FromWord = m.FromWord
state_view (a.Tabled v) = m.Tabled v
state_view (a.Inside v) = m.Inside v.table (partial_view v.partial) (level_view v.level) (levels_view v.outer.items)
state_view (a.Ended v o) = m.Ended v (ors_view o)

abbrev pub state_option_view : Option State → Option m.State
state_option_view None = None
state_option_view (Some v) = Some (state_view v)

-- the words NOT that stand before the place
abbrev pub nots_in : State → ℕ
nots_in (a.Inside v) = v.level.nots
nots_in v = 0

abbrev pub sorts_view : List Sort → List t.Sort
sorts_view ts = map sort_view ts

abbrev pub query_view : Query → x.Query
query_view q = record { table = q.table; condition = ors_view q.condition; ends = q.ends }

abbrev pub query_option_view : Option Query → Option x.Query
query_option_view None = None
query_option_view (Some v) = Some (query_view v)

-- the words NOT on all levels that are open
abbrev pub nots_of : List m.Level → ℕ
nots_of [] = 0
nots_of (l ∷ ls) = l.nots + nots_of ls

abbrev pub all_nots : m.State → ℕ
all_nots (m.Inside table p l ls) = l.nots + nots_of ls
all_nots s = 0
