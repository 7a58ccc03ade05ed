-- What the parser of regular expressions reads is a pattern, and what it refuses for another cause than memory is none.
use Rattle.std.proofs.Common.{ℕ, ◌≡◌, ◌<◌, ◌≤◌, inl, inr, true, false, Bool, List, [], ◌∷◌, Option, Some, None, refl, sym, ◌∙◌}
use Rattle.std.specs.Prelude.{◌≢◌, IfSome, nat_le}
use Rattle.std.specs.Str.{chars}
use Rattle.std.proofs.lemmas.Bool.{le-leb, lt-leb}
use Rattle.event_schema.specs.Events.{IsPlainText}
use Rattle.query_lang.specs.Patterns.{reading, is_shallow, is_pattern}
use Rattle.modifier_words.specs.declared.form.Flags.{Flags}
use Rattle.regex_syntax.specs.Verdict.{default_config, Reads, Refuses}
use Rattle.regex_syntax.specs.Grammar.{Names}
use Rattle.regex_syntax.specs.Brackets.{Nested}
use Rattle.regex_syntax.specs.declared.Config.{Config}
use Rattle.regex_syntax.specs.declared.error.ErrorKind.{ErrorKind}
use Rattle.regex_syntax.specs.declared.error.ErrorKind.TheVariants as kinds
use Rattle.modifier_values.specs.Expressions.{expression_text}

-- ---- what is read and what is refused

shallow_if : (source : List ℕ) (hir : _) (names : Names) (o : _) → reading (chars source) ≡ o → Reads default_config source hir names → is_shallow o ≡ true
unfolding Reads
shallow_if source hir names None e is = absurd (rw e at is)
shallow_if source hir names (Some (found, others)) e is = le-leb found.depth default_config.nest_limit (rw e at is).0

pub reads_pattern : (config : Config) (source : List ℕ) (hir : _) (names : Names) → config ≡ default_config → Reads config source hir names
    → is_pattern (chars source) ≡ true
unfolding is_pattern
reads_pattern config source hir names same is = shallow_if source hir names (reading (chars source)) refl (rw same at is)

refused_if : (kind : ErrorKind) (source : List ℕ) (o : _) → reading (chars source) ≡ o → Refuses default_config source kind → kind ≢ kinds.OutOfMemory
    → is_shallow o ≡ false
unfolding Refuses
refused_if kind source None e h other = refl
refused_if kind source (Some (found, others)) e (inl memory) other = absurd (other memory)
refused_if kind source (Some (found, others)) e (inr (inl none)) other = absurd (differ (sym none ∙ e))
  where
    differ : {A : Type 0} {x : A} → None ≡ Some x → ⊥
    differ is = absurd cc
refused_if kind source (Some (found, others)) e (inr (inr h)) other = lt-leb found.depth default_config.nest_limit (rw e at h.1)

pub no_pattern : (config : Config) (kind : ErrorKind) (source : List ℕ) → config ≡ default_config → Refuses config source kind
    → kind ≢ kinds.OutOfMemory → is_pattern (chars source) ≡ false
unfolding is_pattern
no_pattern config kind source same h other = refused_if kind source (reading (chars source)) refl (rw same at h) other

-- ---- flags before a text

plain_by : (i m s : Bool) (t : List ℕ) → IsPlainText t → IsPlainText (expression_text (record { i = i; m = m; s = s }) t)
plain_by false false false t h = h
plain_by false false true t h = h
plain_by false true false t h = h
plain_by false true true t h = h
plain_by true false false t h = h
plain_by true false true t h = h
plain_by true true false t h = h
plain_by true true true t h = h

pub expression_plain : (flags : Flags) (t : List ℕ) → IsPlainText t → IsPlainText (expression_text flags t)
expression_plain flags t h = plain_by flags.i flags.m flags.s t h
