-- A search with a regular expression that is built of a text finds what the text finds.
use Rattle.std.proofs.Common.{ℕ, ◌≡◌, ◌<◌, ◌≤◌, true, List, Option, Some, None, refl, sym, ◌∙◌, ap, subst, get_or}
use Rattle.std.specs.Prelude.{is_some, chars, IsUtf8, nat_le}
use Rattle.std.proofs.Math.Logic.{∥∥₁_elim}
use Rattle.std.proofs.lemmas.Bool.{le-leb}
use Rattle.std.proofs.lemmas.Str.{encodes-chars}
use Rattle.std.specs.Coded.{coded_bool}
use base.Stored.{Coded-set}
use Rattle.regex.specs.declared.string.matcher.Matcher.{Matcher}
use Rattle.regex.specs.declared.string.regex.Regex.{Regex}
use Rattle.regex.specs.Strings.{regex_pattern, regex_source, regex_config, matcher_pattern, IsReadFromSource}
use Rattle.regex.specs.Patterns.{Re, Config, Reads, default_config, find_str}
use Rattle.regex.proofs.OnLiterals.{IsReadAs, is_match_as_written, same_refl}
use Rattle.regex_syntax.specs.Grammar.{read, Names}
use Rattle.regex_syntax.specs.Brackets.{Nested}
use Rattle.query_lang.specs.Built.{IsBuilt, IsFinder}
use Rattle.query_lang.specs.Patterns.{reading, is_shallow, is_pattern, finds, found_in}

unreadable : (config : Config) (source : List ℕ) (hir : _) (names : Names) → Reads config source hir names → read config (chars source) ≡ None → ⊥
unfolding Reads
unreadable config source hir names is none = rw none at is

shallow_by : (source : List ℕ) (hir : _) (names : Names) (found : Nested Re) (others : Names) → read default_config (chars source) ≡ Some (found, others)
    → Reads default_config source hir names → found.depth ≤ default_config.nest_limit
unfolding Reads
shallow_by source hir names found others e is = (rw e at is).0

module _ (r : Regex) (is_default : regex_config r ≡ default_config) (is_read : IsReadFromSource r) (hay : List ℕ) (bytes : (k : ℕ) → get_or hay k 0 < 256) where
  by : (o : Option (Nested Re × Names)) → read default_config (chars (regex_source r)) ≡ o → is_some (find_str (regex_pattern r) hay 0) ≡ found_in o hay
  by None e = absurd (unreadable default_config (regex_source r) _ _ (rw is_default at is_read) e)
  by (Some (found, names)) e =
      let written : IsReadAs default_config (regex_source r) found.value = rw e (same_refl found.value) in
      is_match_as_written r (regex_source r) found.value refl is_default is_read written hay bytes 0

found_as_built : (text : List ℕ) (r : Regex) → IsBuilt text r → (hay : List ℕ) → ((k : ℕ) → get_or hay k 0 < 256)
    → is_some (find_str (regex_pattern r) hay 0) ≡ found_in (reading text) hay
found_as_built text r built hay bytes =
    by r built.config built.read hay bytes (read default_config (chars (regex_source r))) refl ∙ ap (λ (t : List ℕ). found_in (reading t) hay) built.source

-- what is built of a text is a pattern
is_shallow_if : (config : Config) (source : List ℕ) (hir : _) (names : Names) → config ≡ default_config → Reads config source hir names
    → is_shallow (read default_config (chars source)) ≡ true
is_shallow_if config source hir names same is = by (read default_config (chars source)) refl where
  by : (o : Option (Nested Re × Names)) → read default_config (chars source) ≡ o → is_shallow o ≡ true
  by None e = absurd (unreadable default_config source hir names (rw same at is) e)
  by (Some (found, names_too)) e = shallow found (shallow_by source hir names found names_too e (rw same at is))
    where
      shallow : (found : Nested Re) → found.depth ≤ default_config.nest_limit → nat_le found.depth default_config.nest_limit ≡ true
      shallow found few = le-leb found.depth default_config.nest_limit few

pub built_is_pattern : (text : List ℕ) (r : Regex) → IsBuilt text r → is_pattern text ≡ true
unfolding is_pattern
built_is_pattern text r built =
    subst (λ (t : List ℕ). is_shallow (reading t) ≡ true) built.source (is_shallow_if (regex_config r) (regex_source r) _ _ built.config built.read)

-- what a finder finds in a value is what its text finds
pub found_in_text : (text : List ℕ) (m : Matcher) (value : List ℕ) → IsUtf8 value → ((k : ℕ) → get_or value k 0 < 256) → ∥ IsFinder text m ∥₁
    → is_some (find_str (matcher_pattern m) value 0) ≡ finds text (chars value)
unfolding finds
found_in_text text m value utf8 bytes finder =
    ∥∥₁_elim finder (Coded-set coded_bool _ _) (λ f.
    ap (λ (re : Re). is_some (find_str re value 0)) f.same
    ∙ found_as_built text f.regex f.built value bytes
    ∙ ap (found_in (reading text)) (sym (encodes-chars value utf8)))
