-- Trees as plain data, which contracts compare.
use Rattle.backend_core.specs.declared.tree.Leaf.{Leaf}

mutual
  pub data Plain : Type 0 where
    all : Plains → Plain
    any : Plains → Plain
    negated : Plain → Plain
    leaf : Leaf → Plain
    never : Plain

  pub data Plains : Type 0 where
    no_parts : Plains
    a_part : Plain → Plains → Plains
