-- Lists of trees that are joined.
use Rattle.backend_core.specs.Trees.{Plain, Plains, no_parts, a_part, all, any, negated, leaf, never}

abbrev pub append : Plains → Plains → Plains
append no_parts us = us
append (a_part t ts) us = a_part t (append ts us)

-- what a tree adds to the parts of an All: the parts of an All, else the tree itself
abbrev pub all_parts : Plain → Plains
all_parts (all ts) = ts
all_parts (any ts) = a_part (any ts) no_parts
all_parts (negated t) = a_part (negated t) no_parts
all_parts (leaf l) = a_part (leaf l) no_parts
all_parts never = a_part never no_parts

-- and to those of an Any
abbrev pub any_parts : Plain → Plains
any_parts (all ts) = a_part (all ts) no_parts
any_parts (any ts) = ts
any_parts (negated t) = a_part (negated t) no_parts
any_parts (leaf l) = a_part (leaf l) no_parts
any_parts never = a_part never no_parts
