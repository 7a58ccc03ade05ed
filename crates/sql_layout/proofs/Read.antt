-- What is written is read.
use Rattle.std.proofs.Common.{◌≡◌, refl, sym, true, List, []}
use Rattle.std.specs.Prelude.{encode_utf8_all}
use Rattle.query_tokens.specs.Places.{At}
use Rattle.sql_lang.specs.Tokens.{tokens}
use Rattle.query_tokens.specs.Tokens.{places}
use Rattle.sql_lang.specs.Grammar.{Query}
use Rattle.event_schema.specs.declared.schema.Schema.{Schema}
use Rattle.sql_lang.specs.Expression.{or_expr}
use Rattle.sql_lang.specs.Faults.{query_faults}
use Rattle.sql_lang.specs.Reading.{Reads}
use Rattle.sql_layout.specs.Layout.{text_query, is_writable}
use Rattle.sql_layout.proofs.Scanned.{query_scanned}
use Rattle.sql_layout.proofs.Characters.{query_scalars}

pub written_reads : (schema : Schema) (q : Query) → is_writable q ≡ true → ((ps : List At) → query_faults schema [] q ps ≡ [])
    → Reads schema (encode_utf8_all (text_query q)) (or_expr schema.fields q.condition)
written_reads schema q writable faultless = record {
  characters = text_query q;
  scalars = query_scalars q writable;
  encoded = refl;
  reads = record {
    query = q;
    spelled = sym (query_scanned q writable);
    faultless = faultless (places (tokens (text_query q)));
    means = refl;
  };
}
