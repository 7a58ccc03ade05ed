-- What a reader of Lucene answers.
use Rattle.std.specs.Prelude.{◌≡◌, Result, Ok, Err}
use Rattle.sig_base.specs.declared.refusal.Detail.TheVariants as details
use Rattle.sig_base.specs.declared.refusal.Fault.{Fault}
use Rattle.sig_base.specs.declared.refusal.Fault.TheVariants.{Memory, Refused}
use Rattle.query_tokens.specs.Places.{CodeAt, code_at}
use Rattle.lucene_lang.specs.declared.query.Group.{Group}
use Rattle.lucene_lang.specs.Query as query
use Rattle.lucene_lang.specs.View.{group_view}
use Rattle.lucene_read.specs.View.{place_view}

-- The query of a verdict, or its refusal, without a detail; want of memory is free.
abbrev pub Answers : Result Group Fault → Result query.Group CodeAt → Type 0
Answers (Ok g) verdict = verdict ≡ Ok (group_view g)
Answers (Err Memory) verdict = Unit {0}
Answers (Err (Refused r)) verdict = (verdict ≡ Err (code_at r.code (place_view r.place))) × (r.detail ≡ details.None)

-- the refusal, if it's no want of memory, is so, and has no detail
abbrev pub IfRefused : Fault → (CodeAt → Type 0) → Type 0
IfRefused Memory P = Unit {0}
IfRefused (Refused r) P = P (code_at r.code (place_view r.place)) × (r.detail ≡ details.None)
