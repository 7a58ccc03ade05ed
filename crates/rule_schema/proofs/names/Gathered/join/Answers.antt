use Rattle.std.proofs.Common.{◌∙◌, sym, refl, arith}
use Rattle.sig_base.specs.Folding.{folded}
use Rattle.rule_schema.specs.Asked.{asks_view}
use Rattle.rule_schema.specs.Gathered.{use_of}
use Rattle.rule_schema.proofs.Gathering.{found_within, gathers_clash, gathers_joins, joined_found, clash_gathers}
use Rattle.rule_schema.proofs.names.Gathered.join.Goals as goal

pub index-requires : goal.index-requires
index-requires c =
    let within = found_within (folded c.args.name.now) c.args.self.now.names.items c.args.at c.requires.there in
    let long = c.args.self.now.names.ok.0 in
    omega (arith, within, long)

pub index_mut-requires : goal.index_mut-requires
index_mut-requires c =
    let within = found_within (folded c.args.name.now) c.args.self.now.names.items c.args.at c.requires.there in
    let long = c.args.self.now.names.ok.0 in
    omega (arith, within, long)

pub returns-then-differs-clause-gathers : goal.returns-then-differs-clause-gathers
returns-then-differs-clause-gathers c =
    let u = use_of c.args.place (asks_view c.args.asked) c.args.name.now in
    clash_gathers c.args.self.now.names.items c.args.self.now.names.items u c.clash.result c.clash.ensures
    (gathers_clash c.args.self.now.names.items u c.args.at c.index.result.now c.requires.there c.index.ensures (sym c.differs.ensures ∙ c.if-differs.true))

pub returns-clause-gathers : goal.returns-clause-gathers
returns-clause-gathers c =
    let u = use_of c.args.place (asks_view c.args.asked) c.args.name.now in
    gathers_joins c.args.self.now.names.items _ u c.args.at c.index.result.now c.index_mut.result.now c.join.new.self c.requires.alone c.requires.there c.index.ensures
    (sym c.differs.ensures ∙ c.if-differs.false) c.index_mut.ensures.value c.join.ensures refl

pub returns-clause-kept : goal.returns-clause-kept
returns-clause-kept c =
    joined_found c.args.self.now.names.items _ (asks_view c.args.asked) c.args.at c.index_mut.result.now c.join.new.self c.args.self.now.index c.args.self.now.indexed
    c.index_mut.ensures.value c.join.ensures refl c.requires.found
