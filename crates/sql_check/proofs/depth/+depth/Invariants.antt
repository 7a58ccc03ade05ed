use Rattle.std.proofs.Common.{◌≡◌, drop, map}
use Rattle.std.specs.Prelude.{min, None}
use Rattle.sql_lang.specs.Machine.{and_of, or_of}
use Rattle.sql_lang.specs.Grammar as grammar
use Rattle.sql_parse.specs.View.{nots_view, ands_view}
use Rattle.sql_check.specs.Depths.{and_depth, or_depth}
use Rattle.sql_check.proofs.depth.+depth.Given as goal

abbrev pub invariant-and_front-loop-part : goal.invariant-and_front-loop-part
invariant-and_front-loop-part l = (last : grammar.Nots) → min (and_depth (and_of (map nots_view (drop l.part-index l.before)) last) l.deep) l.fn.most
    ≡ min (and_depth (and_of (map nots_view l.before) last) None) l.fn.most

abbrev pub invariant-or_front-loop-part : goal.invariant-or_front-loop-part
invariant-or_front-loop-part l = (last : grammar.Ands) → min (or_depth (or_of (map ands_view (drop l.part-index l.before)) last) l.deep) l.fn.most
    ≡ min (or_depth (or_of (map ands_view l.before) last) None) l.fn.most
