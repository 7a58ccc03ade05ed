use Rattle.std.proofs.Common.{string_bytes, true, take, rules, ◌∙◌}
use Rattle.std.proofs.lemmas.Map.Text.{btree_set_updates_text}
use Rattle.pipeline_rename.proofs.Knowing.{known_more, known_next}
use Rattle.pipeline_rename.proofs.list.set_of.Goals as goal

pub loop-name-preserved : goal.loop-name-preserved
loop-name-preserved c =
    known_next c.args.names.now c.loop-name.name-index c.name-item.result c.insert.new.self (search rules) (search rules)
    (known_more (take c.loop-name.name-index c.args.names.now) c.name-item.result (string_bytes c.in_ok-key.key) c.loop-name.known c.insert.new.self c.loop-name.invariant
    (c.in_ok-key.ensures.ok ∙ c.as_str.ensures.bytes)
    (btree_set_updates_text (string_bytes c.in_ok-key.key) c.loop-name.known c.insert.new.self true c.in_ok-insert.ensures.updates))
