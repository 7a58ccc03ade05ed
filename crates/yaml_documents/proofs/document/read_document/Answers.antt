use Rattle.std.proofs.lemmas.Result.{IfOk-weaker}
use Rattle.yaml_tree.specs.View.{node_view}
use Rattle.yaml_documents.proofs.Giving.{whole_given, numbered, stopped_given, dead_within, behind_given}
use Rattle.yaml_documents.proofs.document.read_document.Goals as goal

pub returns-then-count-lines-clause-answer : goal.returns-then-count-lines-clause-answer
returns-then-count-lines-clause-answer c =
    whole_given c.args.depth c.regular_count-count.result c.args.lines.now _ (node_view c.in-Ok.root) c.regular_count-count.ensures.count c.if-count-lines.true c.split_at.ensures.front c.in-Ok.ensures

pub refused_behind-requires : goal.refused_behind-requires
refused_behind-requires c =
    dead_within c.regular_count-count.result c.comment_count.result c.max.result c.args.lines.now c.regular_count-count.ensures.count c.regular_count-count.ensures.within c.if-count-lines.false
    c.comment_count.ensures.count c.requires.content c.max.ensures

pub stopped-requires-clause-there : goal.stopped-requires-clause-there
stopped-requires-clause-there c =
    numbered c.in-Err.halt c.args.depth c.regular_count-count.result c.args.lines.now _ c.split_at.ensures.front c.in-Err.ensures

pub returns-else-count-lines-clause-answer : goal.returns-else-count-lines-clause-answer
returns-else-count-lines-clause-answer c =
    let within = dead_within c.regular_count-count.result c.comment_count.result c.max.result c.args.lines.now c.regular_count-count.ensures.count c.regular_count-count.ensures.within c.if-count-lines.false
    c.comment_count.ensures.count c.requires.content c.max.ensures in
    IfOk-weaker c.refused_behind.result _ _
    (λ d h. (behind_given c.args.depth c.regular_count-count.result c.comment_count.result c.max.result c.args.lines.now _ (node_view c.in-Ok.root) d c.regular_count-count.ensures.count c.comment_count.ensures.count
    c.max.ensures within c.split_at.ensures.front c.in-Ok.ensures h).0)
    c.refused_behind.ensures.refused

pub returns-else-count-lines-clause-plain : goal.returns-else-count-lines-clause-plain
returns-else-count-lines-clause-plain c =
    let within = dead_within c.regular_count-count.result c.comment_count.result c.max.result c.args.lines.now c.regular_count-count.ensures.count c.regular_count-count.ensures.within c.if-count-lines.false
    c.comment_count.ensures.count c.requires.content c.max.ensures in
    IfOk-weaker c.refused_behind.result _ _
    (λ d h. (behind_given c.args.depth c.regular_count-count.result c.comment_count.result c.max.result c.args.lines.now _ (node_view c.in-Ok.root) d c.regular_count-count.ensures.count c.comment_count.ensures.count
    c.max.ensures within c.split_at.ensures.front c.in-Ok.ensures h).1)
    c.refused_behind.ensures.refused

pub returns-in-Err-clause-answer : goal.returns-in-Err-clause-answer
returns-in-Err-clause-answer c =
    IfOk-weaker c.stopped.result _ _
    (λ d h. (stopped_given c.in-Err.halt c.args.depth c.regular_count-count.result c.args.lines.now _ d c.regular_count-count.ensures.count c.split_at.ensures.front c.in-Err.ensures h).0)
    c.stopped.ensures.refused

pub returns-in-Err-clause-plain : goal.returns-in-Err-clause-plain
returns-in-Err-clause-plain c =
    IfOk-weaker c.stopped.result _ _
    (λ d h. (stopped_given c.in-Err.halt c.args.depth c.regular_count-count.result c.args.lines.now _ d c.regular_count-count.ensures.count c.split_at.ensures.front c.in-Err.ensures h).1)
    c.stopped.ensures.refused
