use Rattle.std.proofs.Common.{◌≡◌, ◌∙◌, sym, None}
use Rattle.sig_base.specs.Folding.{folded}
use Rattle.rule_schema.specs.Asked.{asks_view}
use Rattle.rule_schema.specs.Gathered.{place_of, texts_of, use_of}
use Rattle.rule_schema.proofs.Gathering.{adds_gathers}
use Rattle.rule_schema.proofs.names.Gathered.add_compared.Goals as goal

pub returns-in-None-clause-gathers : goal.returns-in-None-clause-gathers
returns-in-None-clause-gathers c =
    let missing : place_of (folded c.args.name.now) (texts_of c.deref.result.now) ≡ None = sym c.find_alike.ensures ∙ c.in-None.is in
    adds_gathers c.append.result c.args.self.now.names.items c.append.new.self.names.items (use_of c.args.place (asks_view c.args.asked) c.args.name.now)
    c.requires.alone (rw c.deref.ensures.value at missing) c.append.ensures.names c.append.ensures.err
