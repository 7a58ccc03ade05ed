use Rattle.std.proofs.Common.{rules, ◌++◌, ap, ◌∙◌}
use Rattle.std.specs.List.{position}
use Rattle.std.specs.Str.{chars}
use Rattle.std.proofs.lemmas.Str.{chars-nil}
use Rattle.pipeline_rename.specs.Names.{begins}
use Rattle.pipeline_rename.proofs.Fronts.{begun_first, begun_more, passed_on, front_whole}
use Rattle.pipeline_rename.proofs.name_index.find_front.Goals as goal

pub loop-c-init : goal.loop-c-init
loop-c-init c = record {
  text = search rules;
  all = ap (λ t. t ++ chars c.as_str-left.result.now) c.in_ok-front.ensures ∙ c.as_str-left.ensures.chars;
  number = begun_first c.args.keys.now c.in_ok-front.front _ c.in_ok-front.ensures c.find-number.ensures;
}

pub loop-c-preserved : goal.loop-c-preserved
loop-c-preserved c = record {
  text = search rules;
  all = passed_on c.loop-c.front (chars c.in-Some.rest.now) _ c.in-Some.c _ _ c.loop-c.invariant.all c.in-Some.ensures.0 c.in_ok-push.ensures.ok;
  number = c.sooner-number.ensures ∙ begun_more c.args.keys.now c.loop-c.front c.push.new.self c.in-Some.c _ _ c.loop-c.invariant.number c.find.ensures c.in_ok-push.ensures.ok;
}

pub returns-clause-ok : goal.returns-clause-ok
returns-clause-ok c =
    c.loop-c.invariant.number
    ∙ ap (λ t. position (λ from. begins from t) c.args.keys.now)
    (front_whole c.loop-c.front (chars c.loop-c.left.now) c.args.name.now c.loop-c.invariant.all (ap chars c.in_default.ensures ∙ chars-nil))
