-- Heads of rules as plain data, which contracts compare.
use Rattle.std.specs.Prelude.{ℕ, List, Option}
use Rattle.sig_base.specs.declared.refusal.Place.{Place}
use Rattle.yaml_tree.specs.Tree.{Member}
use Rattle.yaml_tree.specs.View.{entries_view}
use Rattle.rule_head.specs.declared.head.Head.{Head}

pub record PlainHead : Type 0 where
  pub title : List ℕ
  pub id : Option (List ℕ)
  pub name : Option (List ℕ)
  pub place : Place
  pub rest : List Member

abbrev pub head_view : Head → PlainHead
head_view h = record { title = h.title; id = h.id; name = h.name; place = h.place; rest = entries_view h.rest.items }

-- the head with these entries in place of those that it keeps as they are
abbrev pub head_with : List Member → PlainHead → PlainHead
head_with rest h = record { title = h.title; id = h.id; name = h.name; place = h.place; rest = rest }
