-- What answering a command leaves that a schema's file may be named for, where one is named and where none is.
use Rattle.std.proofs.Common.{◌≡◌, ℕ, suc, ◌+◌, ◌<◌, Bool, false, List, [], ◌∷◌, length, take, refl, ap, sym, ◌∙◌, subst, arith, Option, Some, None, Result, Ok, Err, inl, inr}
use Rattle.std.specs.Prelude.{MatchOption, unwrap_or, Contains}
use Rattle.std.proofs.lemmas.Bool.{cases_lt, lt-ltb}
use Rattle.std.proofs.lemmas.List.{take_all, length-take-le}
use Rattle.answer_writer.proofs.Behind.{ends_behind}
use Rattle.answer_writer.proofs.Ending.{ends_as, ends_written}
use Rattle.answer_writer.proofs.Shares.{cut_nothing}
use Rattle.answer_writer.proofs.Unread.{Begins, ends_unread}
use Rattle.answer_writer.specs.Input.{World, Needs, File}
use Rattle.answer_writer.specs.Parts.{Share, Part, share_of, no_share}
use Rattle.answer_writer.specs.Stands.{Writes, Ends, StopsBefore}
use Rattle.answer_writer.specs.State.{State}
use Rattle.answer_writer.specs.declared.stop.Stop.{Stop}
use Rattle.answer_writer.specs.declared.stop.Stop.TheVariants.{Memory}
use Rattle.event_read.specs.Answers.{Answers}
use Rattle.event_read.specs.SchemaOf.{schema_of}
use Rattle.event_schema.specs.declared.schema.Schema.{Schema}
use Rattle.sig_base.specs.Files.{file_start, file_at, IsFront}
use Rattle.sig_base.specs.Judged.{refusal}
use Rattle.sig_base.specs.declared.limits.Limits.{Limits}
use Rattle.sig_base.specs.declared.refusal.Fault.TheVariants.{Refused}
use Rattle.sig_base.specs.declared.refusal.Place.{Place}
use Rattle.sig_base.specs.declared.refusal.Refusal.{Refusal}
use Rattle.sigma_serve.specs.Answers.{names_with}
use Rattle.sigma_serve.specs.Laws.{EachUnder}
use Rattle.sigma_serve.specs.Reports.{refusal_share}
use Rattle.sigma_serve.specs.RuleFiles.{contents}
use Rattle.sigma_serve.specs.UnderSchema.{BySchema, ByBuilder, UnderSchema, without, under, refused, file_part, UnderBuilder, is_ended}

-- ---- what a reader of schemas answers

answered_ok : (place : Place) (t : Result Schema ℕ) (s : Schema) → Answers place t (Ok s) → t ≡ Ok s
answered_ok place (Ok x) s a = ap (λ (y : Schema). Ok y) (sym a)
answered_ok place (Err code) s a = absurd a

answered_refused : (place : Place) (t : Result Schema ℕ) (r : Refusal) → Answers {X = Schema} place t (Err (Refused r)) → (code : ℕ) × (t ≡ Err code) × (r ≡ refusal code place)
answered_refused place (Ok x) r a = absurd a
answered_refused place (Err code) r a = (code, refl, a)

-- ---- a file's first bytes, up to one past the limit, are as a schema what the file is

too_large : (limits : Limits) (bytes : List ℕ) → limits.file_bytes < length bytes → schema_of limits bytes ≡ Err 23
too_large limits bytes large = rw (lt-ltb limits.file_bytes (length bytes) large) refl

front_is : (limits : Limits) (all : List ℕ) → schema_of limits all ≡ schema_of limits (take (limits.file_bytes + 1) all)
front_is limits all =
    elim (cases_lt limits.file_bytes (length all)) as (λ _. schema_of limits all ≡ schema_of limits (take (limits.file_bytes + 1) all)) [
      | inl large ↦ too_large limits all large ∙ sym (too_large limits (take (limits.file_bytes + 1) all) (past large))
      | inr small ↦ ap (λ (b : List ℕ). schema_of limits b) (sym (take_all (limits.file_bytes + 1) all (omega (arith, small))))
    ]
  where
    past : limits.file_bytes < length all → limits.file_bytes < length (take (limits.file_bytes + 1) all)
    past large = omega (arith, large, length-take-le (limits.file_bytes + 1) all (omega (arith, large)))

file_is : (limits : Limits) (name : List ℕ) (files : Option (List (List ℕ × List ℕ))) (told : List (List ℕ × List ℕ)) (bytes : List ℕ) → files ≡ Some told
    → IsFront files name (limits.file_bytes + 1) bytes → schema_of limits (contents told name) ≡ schema_of limits bytes
file_is limits name files told bytes is front = found (file_at told name) (subst (λ f. IsFront f name (limits.file_bytes + 1) bytes) is front)
  where
    found : (at : Option (List ℕ)) → MatchOption at ⊥ (λ all. bytes ≡ take (limits.file_bytes + 1) all) → schema_of limits (unwrap_or at []) ≡ schema_of limits bytes
    found None bad = absurd bad
    found (Some all) same = front_is limits all ∙ ap (λ (b : List ℕ). schema_of limits b) (sym same)

-- ---- a named schema

-- the answer in each world, under each schema and where none is named
pub each_schema : (by : BySchema) (limits : Limits) → EachUnder by → (schema : Option (List ℕ)) (world : World) → (parts : List Part) × UnderSchema by limits schema world parts
each_schema by limits each None world = let a = each None world in (a.0, without refl a.1)
each_schema by limits each (Some name) world = judged (schema_of limits (contents world.files name)) refl
  where
    judged : (r : Result Schema ℕ) → schema_of limits (contents world.files name) ≡ r → (parts : List Part) × UnderSchema by limits (Some name) world parts
    judged (Ok given) is = let a = each (Some given) world in (file_part name no_share ∷ a.0, under name refl given is a.0 a.1 refl)
    judged (Err code) is = (file_part name (refusal_share name (refusal code file_start)) ∷ [], refused name refl code is refl)

module _ (by : ByBuilder) (limits : Limits) (name : List ℕ) (names : List (List ℕ)) (events : Bool) where
  abbrev needs : Needs
  needs = record { names = name ∷ names; events = events }

  first_there : Contains (name ∷ names) name
  first_there = (0, omega arith, refl)

  later_there : (n : List ℕ) → Contains names n → Contains (name ∷ names) n
  later_there n (i, below, is) = (suc i, omega (arith, below), is)

  some_is : (file : List ℕ) → Some name ≡ Some file → file ≡ name
  some_is file is = cc

  not_none : Some name ≡ None → ⊥
  not_none is = cc

  begins : (under_it : BySchema) (world : World) (parts : List Part) → UnderSchema under_it limits (Some name) world parts → Begins name parts
  begins under_it world parts (without is other) = absurd (not_none is)
  begins under_it world parts (under file is given so others other same) = (file_part file no_share, others, same, ap (λ (f : List ℕ). Some (File f)) (some_is file is))
  begins under_it world parts (refused file is code so same) =
      (file_part file (refusal_share file (refusal code file_start)), [], same, ap (λ (f : List ℕ). Some (File f)) (some_is file is))

  -- the schema's file couldn't be read
  pub schema_unread : (texts : List (List ℕ)) → EachUnder (by texts texts false) → (stop : Stop) (old new : State) → StopsBefore name stop old new
      → Ends needs (UnderBuilder by limits (Some name) texts texts false) (Err stop) old new
  schema_unread texts each stop old new stops =
      ends_unread needs (UnderBuilder by limits (Some name) texts texts false) name old new first_there stop
      (λ world. let a = each_schema (by texts texts false) limits each (Some name) world in (a.0, record { answer = a.1; still = λ _. refl }, begins (by texts texts false) world a.0 a.1)) stops

  -- memory was missing for the schema
  pub schema_memory : (texts : List (List ℕ)) → EachUnder (by texts texts false) → (s : State) → Ends needs (UnderBuilder by limits (Some name) texts texts false) (Err Memory) s s
  schema_memory texts each s = record {
    unread = None;
    cause = refl;
    stands = λ world told. let a = each_schema (by texts texts false) limits each (Some name) world in (a.0, record { answer = a.1; still = λ _. refl }, cut_nothing (share_of a.0) s.streams, λ _. (refl, refl));
    files = refl;
    apart = λ _. (refl, refl);
    kept = refl;
  }

  module _ (bytes : List ℕ) (old new : State) (front : IsFront old.inputs.files name (limits.file_bytes + 1) bytes) where
    told_is : (world : World) → old.inputs.files ≡ Some world.files → schema_of limits (contents world.files name) ≡ schema_of limits bytes
    told_is world told = file_is limits name old.inputs.files world.files bytes told front

    -- the schema was refused
    pub schema_refused : (texts : List (List ℕ)) (r : Refusal) (result : Result Bool Stop) → Answers {X = Schema} file_start (schema_of limits bytes) (Err (Refused r))
        → Writes (λ share. share ≡ refusal_share name r) result old new → Ends needs (UnderBuilder by limits (Some name) texts texts (is_ended result)) result old new
    schema_refused texts r result answers wrote =
        let cause = answered_refused file_start (schema_of limits bytes) r answers in
        ends_written needs (UnderBuilder by limits (Some name) texts texts (is_ended result)) (λ share. share ≡ refusal_share name r) (Some (File name)) result old new
        (λ world told share is. record {
          answer = refused name refl cause.0 (told_is world (told.files name first_there) ∙ cause.1)
              (ap (λ (s : Share). file_part name s ∷ []) (is ∙ ap (λ (x : Refusal). refusal_share name x) cause.2));
          still = λ _. refl;
        }) wrote

    -- and the command answered under it
    pub schema_given : (before after : List (List ℕ)) (ended : Bool) (given : Schema) (result : Result Bool Stop) → Answers file_start (schema_of limits bytes) (Ok given)
        → Ends (record { names = names; events = events }) (by before after ended (Some given)) result old new → Ends needs (UnderBuilder by limits (Some name) before after ended) result old new
    schema_given before after ended given result answers e =
        ends_behind needs (record { names = names; events = events }) (file_part name no_share ∷ []) refl later_there refl (by before after ended (Some given)) (UnderBuilder by limits (Some name) before after ended)
        result old new
        (λ world told ps other.
        let taken : schema_of limits (contents world.files name) ≡ Ok given = told_is world (told.files name first_there) ∙ answered_ok file_start (schema_of limits bytes) given answers in
        record { answer = under name refl given taken ps other refl; still = λ refused_so. absurd (not_both refused_so.0 (sym taken ∙ refused_so.1)) }) e
      where
        not_both : (code : ℕ) → Ok given ≡ Err code → ⊥
        not_both code same = cc

-- no schema is named
pub none_named : (by : ByBuilder) (limits : Limits) (schema : Option (List ℕ)) (before after : List (List ℕ)) (ended : Bool) (names : List (List ℕ)) (events : Bool) (result : Result Bool Stop) (old new : State) → schema ≡ None
    → Ends (record { names = names; events = events }) (by before after ended None) result old new
    → Ends (record { names = names_with schema names; events = events }) (UnderBuilder by limits schema before after ended) result old new
none_named by limits None before after ended names events result old new is e =
    ends_as (record { names = names; events = events }) (by before after ended None) (UnderBuilder by limits None before after ended) result old new
    (λ w ps other. record { answer = without refl other; still = λ none. absurd none }) e
none_named by limits (Some name) before after ended names events result old new is e = absurd cc
