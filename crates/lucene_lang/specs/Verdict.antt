-- What a text is, as a function that goes by the reading token by token: its query, or its first refusal.
use Rattle.std.specs.Prelude.{ℕ, ◌-◌, Bool, true, false, List, [], ◌∷◌, length, Option, Some, None, Result, Ok, Err}
use Rattle.event_schema.specs.declared.schema.Schema.{Schema}
use Rattle.query_tokens.specs.Places.{At, origin, CodeAt, code_at}
use Rattle.query_tokens.specs.Tokens.{sorts, places, token_place}
use Rattle.lucene_lang.specs.Tokens.{Sort, tokens}
use Rattle.lucene_lang.specs.Grammar as grammar
use Rattle.lucene_lang.specs.Query.{Group, group_of}
use Rattle.lucene_lang.specs.Faults.{query_faults}
use Rattle.lucene_lang.specs.Machine.{begun, run, finish}
use Rattle.lucene_lang.specs.Reading.{ReadsWithin, Refuses, first_outside, opens_too_far}

abbrev pub on_faults : Group → List CodeAt → Result Group CodeAt
on_faults g [] = Ok g
on_faults g (f ∷ fs) = Err f

abbrev pub on_query : Schema → List ℕ → Result (Option grammar.Group) (List Sort) → Result Group CodeAt
on_query schema cs (Ok (Some q)) = on_faults (group_of schema.fields q) (query_faults schema q (places (tokens cs)))
on_query schema cs (Ok None) = Err (code_at 130 (token_place cs (tokens cs) (length (sorts (tokens cs)))))
on_query schema cs (Err rest) = Err (code_at 130 (token_place cs (tokens cs) (length (sorts (tokens cs)) - length rest)))

abbrev pub on_nesting : Bool → Schema → List ℕ → Result Group CodeAt
on_nesting true schema cs = Err (code_at 135 origin)
on_nesting false schema cs = on_query schema cs (finish (run begun (sorts (tokens cs))))

abbrev pub on_outside : Option At → ℕ → Schema → List ℕ → Result Group CodeAt
on_outside (Some p) limit schema cs = Err (code_at 131 p)
on_outside None limit schema cs = on_nesting (opens_too_far limit 0 0 (sorts (tokens cs))) schema cs

unfoldable pub verdict : ℕ → Schema → List ℕ → Result Group CodeAt
verdict limit schema cs = on_outside (first_outside false (tokens cs)) limit schema cs

abbrev pub IsVerdict : ℕ → Schema → List ℕ → Result Group CodeAt → Type 0
IsVerdict limit schema cs (Ok g) = ReadsWithin limit schema cs g
IsVerdict limit schema cs (Err f) = Refuses limit schema cs f
