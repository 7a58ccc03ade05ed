use Rattle.std.proofs.Common.{ℕ, List, true, string_bytes, sym, ap, ◌∙◌}
use Rattle.std.proofs.lemmas.Map.Text.{btree_set_updates_text}
use Rattle.pipeline_model.specs.Concerned.{is_among}
use Rattle.pipeline_rename.proofs.Knowing.{known_more}
use Rattle.pipeline_rename.proofs.list.NameList.push_many.Goals as goal

pub returns-clause-known : goal.returns-clause-known
returns-clause-known c =
    let known =
    known_more c.args.self.now.names.items c.args.name (string_bytes c.in_ok-key.key) c.args.self.now.known c.insert.new.self c.requires
    (c.in_ok-key.ensures.ok ∙ c.as_str.ensures.bytes)
    (btree_set_updates_text (string_bytes c.in_ok-key.key) c.args.self.now.known c.insert.new.self true c.in_ok-insert.ensures.updates) in
    λ name. known name ∙ ap (λ (names : List (List ℕ)). is_among names name) (sym c.in_ok-push.ensures.items)
