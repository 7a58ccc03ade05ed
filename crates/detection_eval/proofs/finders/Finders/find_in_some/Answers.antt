use Rattle.std.proofs.Common.{◌≡◌, ◌∙◌, ℕ, List, length, map, ap, sym, arith}
use Rattle.std.proofs.Math.Seq.{map-set_same}
use Rattle.std.proofs.lemmas.List.{length-map}
use Rattle.query_lang.specs.declared.search.Finder.{Finder}
use Rattle.detection_eval.proofs.Founds.{none_found, one_found}
use Rattle.detection_eval.proofs.finders.Finders.find_in_some.Goals as goal

abbrev text_at : Finder → List ℕ
text_at x = x.text.now

pub returns-then-number-len-clause-found : goal.returns-then-number-len-clause-found
returns-then-number-len-clause-found c =
    let long : length (map text_at c.self.inside.all.items) ≡ length c.self.inside.all.items = length-map c.self.inside.all.items text_at in
    let same : length c.args.self.now ≡ length (map text_at c.self.inside.all.items) = ap length (sym c.self.view_is) in
    none_found c.args.self.now c.args.number c.args.values.now (omega (arith, long, same))

pub returns-clause-found : goal.returns-clause-found
returns-clause-found c =
    one_found text_at c.self.inside.all.items c.args.self.now c.self.view_is c.args.number c.index_mut.result.now (omega arith) c.index_mut.ensures.value
    c.args.values.now c.finds_in_some.result c.finds_in_some.ensures.found

pub returns-clause-same : goal.returns-clause-same
returns-clause-same c =
    map-set_same text_at c.self.inside.all.items c.args.number c.finds_in_some.new.finder c.index_mut.result.now
    (c.finds_in_some.ensures.same ∙ ap text_at c.index_mut.ensures.value)
    ∙ c.self.view_is
