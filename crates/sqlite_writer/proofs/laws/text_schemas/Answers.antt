use Rattle.std.proofs.Common.{ℕ, List, map, refl, sym, subst}
use Rattle.event_schema.specs.Inferred.{text_field}
use Rattle.event_schema.specs.Schemas.{AreApart}
use Rattle.sqlite_writer.specs.Schemas.{AreScalars}
use Rattle.sqlite_writer.proofs.Apart.{fields_are_found, own_names}
use Rattle.sqlite_writer.proofs.laws.text_schemas.Goals as goal

pub returns : goal.returns
returns c = λ names scalars apart.
    let same = sym (own_names names) in
    record {
      table = refl;
      names = subst (λ (ns : List (List ℕ)). AreScalars ns) same scalars;
      found = fields_are_found (map text_field names) (subst (λ (ns : List (List ℕ)). AreApart ns) same apart);
    }
