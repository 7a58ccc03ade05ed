use Rattle.std.proofs.Common.{ℕ, refl, subst, sym, ◌∙◌}
use Rattle.std.specs.Str.{IsValidUpTo}
use Rattle.sql_read.proofs.Verdicts.{text_is, bad_is}
use Rattle.sql_read.proofs.select.read_select.Goals as goal

pub returns-in-Ok : goal.returns-in-Ok
returns-in-Ok g c =
    let limits = c.args.limits.now in
    let schema = c.args.schema.now in
    let bytes = c.args.bytes.now in
    record {
      answers = text_is limits schema bytes (g.B.Builder.refused c.args.builder.now) (g.B.Builder.refused c.read_text.new.builder) c.requires.short
          (λ refused e f. c.no_refused_query.ensures.bytes limits.sql_depth schema refused bytes e f) c.in-Ok.text.now c.read_text.result c.in-Ok.ensures.cases.1 c.in-Ok.ensures.cases.0 c.read_text.ensures;
    }

pub returns-in-Err : goal.returns-in-Err
returns-in-Err g c =
    let limits = c.args.limits.now in
    let schema = c.args.schema.now in
    let bytes = c.args.bytes.now in
    let before = g.B.Builder.refused c.args.builder.now in
    let n = c.valid_up_to.result in
    let longest : IsValidUpTo bytes n = subst (λ (k : ℕ). IsValidUpTo bytes k) (sym c.valid_up_to.ensures) c.in-Err.ensures.cases.1 in
    record {
      answers = bad_is limits schema bytes before before c.requires.short (λ refused e f. c.no_refused_query.ensures.bytes limits.sql_depth schema refused bytes e f)
          n c.as_text.result.now c.place_behind.result c.refused.result longest (c.as_text.ensures ∙ c.split_at.ensures.front) c.place_behind.ensures c.refused.ensures refl;
    }
