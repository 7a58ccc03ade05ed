use Rattle.std.proofs.Common.{◌≡◌, Bool, List, [], sym, ap, subst, ◌∙◌}
use Rattle.std.proofs.lemmas.Str.{scalars-chars}
use Rattle.std.specs.Prelude.{Some, None}
use Rattle.std.specs.List.{list_any}
use Rattle.std.specs.Str.{chars}
use Rattle.modifier_words.specs.Kinds.{is_expand}
use Rattle.modifier_words.specs.declared.modifier.Modifier.{Modifier}
use Rattle.sig_base.specs.Judged.{first}
use Rattle.sig_base.specs.declared.refusal.Place.{Place}
use Rattle.sig_base.proofs.Firsts.{hands_on}
use Rattle.sig_strings.specs.Spells.{Spells}
use Rattle.sig_strings.specs.declared.part.Part.{Part}
use Rattle.modifier_values.specs.Encoded.{encoding_of}
use Rattle.modifier_values.specs.Uses.{pattern, text_checks, use_refusal}
use Rattle.modifier_values.proofs.JudgedLemmas.{encoded_judged, plain_judged, refused_sooner}
use Rattle.modifier_values.proofs.Plain.{judged_plain}
use Rattle.modifier_values.proofs.text_patterns.read_patterns.Goals as goal

pub returns-in_err-pattern-clause-judged : goal.returns-in_err-pattern-clause-judged
returns-in_err-pattern-clause-judged c = λ unbuilt.
    let t = chars c.args.text.now in
    let most = c.args.limits.now.value_chars in
    let dashes = c.args.limits.now.dashes in
    hands_on _ (λ (parts : List Part). Spells c.expands.result t parts) c.from_residual.result c.in_err-pattern.field-0.0 _
    (use_refusal unbuilt most dashes c.args.chain.now c.args.place (pattern t)) (first (text_checks most c.args.place t))
    c.from_residual.ensures.1 (λ e p. p) c.in_err-pattern.ensures
    (λ r h. refused_sooner unbuilt most dashes c.args.chain.now c.args.place t r h)

pub returns-in-Some : goal.returns-in-Some
returns-in-Some c =
    let t = chars c.args.text.now in
    let most = c.args.limits.now.value_chars in
    let dashes = c.args.limits.now.dashes in
    let spelled : Spells (list_any is_expand c.args.chain.now.modifiers) t c.in_ok-pattern.pattern =
    subst (λ (b : Bool). Spells b t c.in_ok-pattern.pattern) c.expands.ensures c.in_ok-pattern.ensures.1 in
    let encodes : encoding_of c.args.chain.now.modifiers ≡ Some c.in-Some.encoding = ap (λ (ms : List Modifier). encoding_of ms) (sym c.modifiers.ensures) ∙ sym c.in-Some.ensures in
    let judged = λ (unbuilt : List Place).
    encoded_judged unbuilt most dashes c.args.chain.now c.args.place t c.in_ok-pattern.pattern spelled c.in_ok-pattern.ensures.0
    (λ all. all.items) c.in-Some.encoding encodes c.encoded_patterns.result c.encoded_patterns.ensures in
    record {
      judged = judged;
      plain = judged_plain (λ all. all.items) [] most dashes c.args.chain.now c.args.place t c.encoded_patterns.result (scalars-chars c.args.text.now c.utf8.text) (judged []);
    }

pub returns-in-None : goal.returns-in-None
returns-in-None c =
    let t = chars c.args.text.now in
    let most = c.args.limits.now.value_chars in
    let dashes = c.args.limits.now.dashes in
    let spelled : Spells (list_any is_expand c.args.chain.now.modifiers) t c.in_ok-pattern.pattern =
    subst (λ (b : Bool). Spells b t c.in_ok-pattern.pattern) c.expands.ensures c.in_ok-pattern.ensures.1 in
    let encodes : encoding_of c.args.chain.now.modifiers ≡ None = ap (λ (ms : List Modifier). encoding_of ms) (sym c.modifiers.ensures) ∙ sym c.in-None.ensures in
    let judged = λ (unbuilt : List Place).
    plain_judged unbuilt most dashes c.args.chain.now c.args.place t c.in_ok-pattern.pattern spelled c.in_ok-pattern.ensures.0
    (λ all. all.items) encodes c.plain_pattern.result c.plain_pattern.ensures in
    record {
      judged = judged;
      plain = judged_plain (λ all. all.items) [] most dashes c.args.chain.now c.args.place t c.plain_pattern.result (scalars-chars c.args.text.now c.utf8.text) (judged []);
    }
