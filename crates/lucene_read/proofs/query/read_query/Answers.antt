use Rattle.std.proofs.Common.{ℕ, subst, sym, ◌∙◌}
use Rattle.std.specs.Str.{IsValidUpTo}
use Rattle.lucene_read.proofs.Verdicts.{text_is, bad_is}
use Rattle.lucene_read.proofs.query.read_query.Goals as goal

pub returns-in-Ok : goal.returns-in-Ok
returns-in-Ok c =
    let limit = c.args.limits.now.lucene_depth in
    let read = text_is limit c.args.schema.now c.args.bytes.now c.in-Ok.text.now c.read_text.result c.in-Ok.ensures.cases.1 c.in-Ok.ensures.cases.0
    (c.query_or_refusal.ensures.computed limit c.args.schema.now) c.read_text.ensures in
    record { ok = read.0; refused = read.1 }

pub returns-in-Err : goal.returns-in-Err
returns-in-Err c =
    let n = c.valid_up_to.result in
    let longest : IsValidUpTo c.args.bytes.now n = subst (λ (k : ℕ). IsValidUpTo c.args.bytes.now k) (sym c.valid_up_to.ensures) c.in-Err.ensures.cases.1 in
    record {
      ok = tt;
      refused = bad_is c.args.limits.now.lucene_depth c.args.schema.now c.args.bytes.now n c.as_text.result.now c.place_behind.result c.refused.result longest
          (c.as_text.ensures ∙ c.split_at.ensures.front) c.place_behind.ensures c.refused.ensures;
    }
