use Rattle.std.proofs.Common.{ℕ, ◌≡◌, ◌+◌, ◌∷◌, ◌∙◌, List, ap, map, drop}
use Rattle.std.specs.Str.{chars}
use Rattle.std.proofs.Math.Seq.{map-set_same}
use Rattle.query_lang.specs.declared.search.Finder.{Finder}
use Rattle.query_lang.specs.Patterns.{finds}
use Rattle.sql_eval.specs.Searches.{Passing, left_of}
use Rattle.sql_eval.proofs.Passed.{next_is, rest_is}
use Rattle.sql_eval.proofs.finders.Finders.finds.Goals as goal

abbrev text_at : Finder → List ℕ
text_at x = x.text.now

pub returns-clause-texts : goal.returns-clause-texts
returns-clause-texts c =
    map-set_same text_at c.self.inside.finders.items c.self.inside.passed c.finds.new.self c.index_mut.result.now (c.finds.ensures.same ∙ ap text_at c.index_mut.ensures.value)
    ∙ ap (λ (p : Passing). p.texts) c.self.view_is

pub returns-clause-found : goal.returns-clause-found
returns-clause-found c = λ text rest e.
    let before : drop c.self.inside.passed (map text_at c.self.inside.finders.items) ≡ text ∷ rest = ap left_of c.self.view_is ∙ e in (
      c.finds.ensures.found
          ∙ ap (λ (t : List ℕ). finds t (chars c.args.value.now))
          (ap text_at c.index_mut.ensures.value ∙ next_is text_at c.self.inside.finders.items c.self.inside.passed c.index_mut.result.now text rest before),
      ap (drop (c.self.inside.passed + 1))
          (map-set_same text_at c.self.inside.finders.items c.self.inside.passed c.finds.new.self c.index_mut.result.now (c.finds.ensures.same ∙ ap text_at c.index_mut.ensures.value))
          ∙ rest_is (map text_at c.self.inside.finders.items) c.self.inside.passed text rest before,
    )
