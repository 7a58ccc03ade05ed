use Rattle.std.proofs.Common.{◌≡◌, ◌∙◌, ◌∷◌, ap, length, map, arith}
use Rattle.std.specs.Vec.Iter.{into_iter_items}
use Rattle.rule_schema.specs.Gathered.{field_of}
use Rattle.rule_schema.proofs.Making.{fields_go, fields_end}
use Rattle.rule_schema.proofs.schema.made_fields.Goals as goal

pub loop-named-preserved : goal.loop-named-preserved
loop-named-preserved c =
    let at = c.loop-named in
    let steps : into_iter_items at.named-iterator ≡ c.in-Some.named ∷ into_iter_items c.next.new.self = c.in-Some.ensures.steps.0 in
    record {
      fields = fields_go at.fields c.push.new.self _ c.in-Some.named _ _ _ steps at.invariant.fields c.in_ok-made_field.ensures.ok c.in_ok-push.ensures.ok;
      left = let was = at.invariant.left in let gone = c.in-Some.ensures.steps.1 in let short = ap length steps in omega arith;
    }

pub returns-clause-ok : goal.returns-clause-ok
returns-clause-ok c =
    let at = c.loop-named in
    fields_end at.fields _ _ _ c.in-None.ensures.steps.0 at.invariant.left at.invariant.fields
    ∙ ap (map field_of) c.into_iter-named-iterator.ensures.into_iter_gives.0
