use Rattle.std.proofs.Common.{◌∙◌, ap, ◌≡◌, true, None}
use Rattle.std.specs.Prelude.{encode_utf8_all}
use Rattle.std.specs.Str.{all_scalars}
use Rattle.std.proofs.lemmas.Map.Text.{btree_map_updates_text}
use Rattle.sig_base.specs.Folding.{folded}
use Rattle.rule_schema.specs.Gathered.{place_of, texts_of}
use Rattle.rule_schema.proofs.Gathering.{found_more}
use Rattle.rule_schema.proofs.names.Gathered.insert.Goals as goal

pub returns-clause-kept : goal.returns-clause-kept
returns-clause-kept c =
    let names = c.args.self.now.names.items in
    let fresh : place_of (folded c.args.name.now) (texts_of names) ≡ None = rw c.requires.folds at c.requires.fresh in
    let scalars : all_scalars (folded c.args.name.now) ≡ true = rw c.requires.folds at c.as_str.ensures.scalars in
    found_more names c.push.new.self.items c.in_ok-of.field-0 c.args.name.now _ _ c.args.self.now.index c.insert.new.self c.args.self.now.indexed
    c.requires.found fresh scalars
    (c.in_ok-key.ensures.ok ∙ (c.as_str.ensures.bytes ∙ ap encode_utf8_all c.requires.folds))
    (ap (λ n. n.name) c.in_ok-of.ensures.ok)
    c.in_ok-push.ensures.items
    (c.len.ensures ∙ c.args.self.now.names.ok.0)
    (λ text. btree_map_updates_text _ c.args.self.now.index c.insert.new.self _ c.in_ok-insert.ensures.updates (encode_utf8_all text))
