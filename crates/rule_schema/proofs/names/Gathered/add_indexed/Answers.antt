use Rattle.std.proofs.Common.{◌≡◌, ◌∙◌, sym, None}
use Rattle.rule_schema.specs.Asked.{asks_view}
use Rattle.rule_schema.specs.Gathered.{place_of, texts_of, use_of}
use Rattle.rule_schema.proofs.Gathering.{adds_gathers}
use Rattle.rule_schema.proofs.names.Gathered.add_indexed.Goals as goal

pub returns-in-None-clause-gathers : goal.returns-in-None-clause-gathers
returns-in-None-clause-gathers c =
    let missing : place_of c.in_ok-folded.folded (texts_of c.args.self.now.names.items) ≡ None = sym c.find_folded.ensures ∙ c.in-None.is in
    adds_gathers c.insert.result c.args.self.now.names.items c.insert.new.self.names.items (use_of c.args.place (asks_view c.args.asked) c.args.name.now)
    c.requires.alone (rw c.in_ok-folded.ensures at missing) c.insert.ensures.names c.insert.ensures.err
