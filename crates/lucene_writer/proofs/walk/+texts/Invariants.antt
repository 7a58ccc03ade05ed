use Rattle.std.proofs.Common.{◌≡◌, ◌++◌, drop, false}
use Rattle.std.specs.Prelude.{codes}
use Rattle.lucene_writer.specs.Pieces.{items_text}
use Rattle.lucene_writer.specs.declared.place.Standing.TheVariants.{InAnd, Alone}
use Rattle.lucene_writer.proofs.walk.+texts.Given as goal

abbrev pub invariant-put_all-loop-part : goal.invariant-put_all-loop-part
invariant-put_all-loop-part l =
    l.out ++ items_text l.fields InAnd (codes " AND ") l.behind (drop l.part-index l.parts)
    ≡ l.initial.out ++ items_text l.fields InAnd (codes " AND ") false l.parts

abbrev pub invariant-put_any-loop-part : goal.invariant-put_any-loop-part
invariant-put_any-loop-part l =
    l.out ++ items_text l.fields Alone (codes " OR ") l.behind (drop l.part-index l.parts)
    ≡ l.initial.out ++ items_text l.fields Alone (codes " OR ") false l.parts
