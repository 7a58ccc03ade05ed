use Rattle.std.proofs.Common.{rules, [], true, map, Err}
use Rattle.std.specs.Prelude.{⊤}
use Rattle.answer_writer.proofs.Ending.{ends_memory}
use Rattle.answer_writer.proofs.Followed.{Lines, each_followed_lines, followed_ends}
use Rattle.answer_writer.specs.FollowedLines.{FollowedLines}
use Rattle.answer_writer.specs.Input.{Needs}
use Rattle.answer_writer.specs.declared.stop.Stop.TheVariants.{Memory}
use Rattle.correlation_run.proofs.Judged.{zip_mapped}
use Rattle.correlation_run.specs.Followed.{Correlating, Follows}
use Rattle.correlation_windows.specs.Kept.{StandsFor}
use Rattle.detection_eval.specs.Ready as made
use Rattle.rule_model.specs.Plain.{rule_view}
use Rattle.correlation_run.proofs.event_reports.follow_events.Goals as goal

pub returns-in_default-clause-ends : goal.returns-in_default-clause-ends
returns-in_default-clause-ends g c = λ history stands.
    let w : Correlating = record { schema = c.args.schema.now; rules = map rule_view c.args.rules.now; bounds = c.args.engine.now.bounds; names = c.args.names.now } in
    let needs : Needs = record { names = []; events = true } in
    let s = g.W.Outside.state c.args.outside.now in
    followed_ends needs (λ after world parts. FollowedLines (Follows w) c.args.limits.now history world parts after) (λ after. ⊤) (Err Memory) s s
    (ends_memory needs (Lines (Follows w) c.args.limits.now history (λ after. ⊤)) s
    (each_followed_lines (Follows w) c.args.limits.now history (c.one_follower.ensures.each w) (λ after. ⊤) (λ after. tt)))

pub returns-in_default-hits_for-clause-ends : goal.returns-in_default-hits_for-clause-ends
returns-in_default-hits_for-clause-ends g c = λ history stands.
    let w : Correlating = record { schema = c.args.schema.now; rules = map rule_view c.args.rules.now; bounds = c.args.engine.now.bounds; names = c.args.names.now } in
    let needs : Needs = record { names = []; events = true } in
    let s = g.W.Outside.state c.args.outside.now in
    followed_ends needs (λ after world parts. FollowedLines (Follows w) c.args.limits.now history world parts after) (λ after. ⊤) (Err Memory) s s
    (ends_memory needs (Lines (Follows w) c.args.limits.now history (λ after. ⊤)) s
    (each_followed_lines (Follows w) c.args.limits.now history (c.one_follower.ensures.each w) (λ after. ⊤) (λ after. tt)))

pub follow_lines-requires : goal.follow_lines-requires
follow_lines-requires g c = (
  c.in-Ok.ensures.ok c.args.schema.now.fields (map rule_view c.args.rules.now) (zip_mapped rule_view (λ rule kept. made.StandsFor c.args.schema.now.fields rule kept) c.args.rules.now c.args.ready.now c.requires),
  search rules,
)

pub returns-clause-ends : goal.returns-clause-ends
returns-clause-ends g c = λ history stands.
    let w : Correlating = record { schema = c.args.schema.now; rules = map rule_view c.args.rules.now; bounds = c.args.engine.now.bounds; names = c.args.names.now } in
    followed_ends (record { names = []; events = true }) (λ after world parts. FollowedLines (Follows w) c.args.limits.now history world parts after)
    (λ after. StandsFor c.follow_lines.new.command.engine.now after) c.follow_lines.result (g.W.Outside.state c.args.outside.now) (g.W.Outside.state c.follow_lines.new.outside)
    (c.follow_lines.ensures.ends history stands)
