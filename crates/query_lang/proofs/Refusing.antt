-- Texts that `Regex::new` refuses by syntax are no patterns.
use Rattle.std.proofs.Common.{ℕ, ◌≡◌, ◌<◌, inl, inr, false, List, Option, Some, None, refl}
use Rattle.std.specs.Prelude.{◌≢◌, IfSome}
use Rattle.std.specs.Str.{chars}
use Rattle.std.proofs.lemmas.Bool.{lt-leb}
use Rattle.regex.specs.Patterns.{Re, default_config, Refuses}
use Rattle.regex.specs.Sources.{IsRefusal}
use Rattle.regex.specs.Failures.{IsRightKind}
use Rattle.regex.specs.declared.error.Error.TheVariants as errors
use Rattle.regex_syntax.specs.declared.error.Error as parser
use Rattle.regex_syntax.specs.declared.error.ErrorKind.{ErrorKind}
use Rattle.regex_syntax.specs.declared.error.ErrorKind.TheVariants as kinds
use Rattle.regex_syntax.specs.Grammar.{Names}
use Rattle.regex_syntax.specs.Brackets.{Nested}
use Rattle.query_lang.specs.Patterns.{reading, is_shallow, is_pattern}

too_deep : (o : Option (Nested Re × Names)) → IfSome o (λ (re, _). default_config.nest_limit < re.depth) → is_shallow o ≡ false
too_deep None h = refl
too_deep (Some (re, names)) h = lt-leb re.depth default_config.nest_limit h

pub no_pattern : (kind : ErrorKind) (source : List ℕ) → Refuses default_config source kind → kind ≢ kinds.OutOfMemory → is_pattern (chars source) ≡ false
unfolding Refuses is_pattern
no_pattern kind source (inl memory) not = absurd (not memory)
no_pattern kind source (inr (inl none)) not = let is : reading (chars source) ≡ None = none in rw is refl
no_pattern kind source (inr (inr h)) not = too_deep (reading (chars source)) h.1

pub by_syntax : (source : List ℕ) (e : parser.Error) → IsRefusal default_config source (errors.Syntax e)
    → IsRightKind default_config source (errors.Syntax e) → is_pattern (chars source) ≡ false
by_syntax source e refused right = no_pattern e.kind source (refused e refl) right
