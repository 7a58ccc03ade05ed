use Rattle.std.proofs.Common.{◌≡◌, ◌∙◌, ◌<◌, ◌^◌, refl, sym, subst, map, length, arith, ℕ}
use Rattle.std.specs.Prelude.{codes, None}
use Rattle.event_schema.specs.Schemas.{IsSchema}
use Rattle.sig_base.proofs.TextLemmas.{ascii_chars}
use Rattle.rule_schema.specs.Inferred.{items_of, uses_of, rule_names, made_field, inferred_schema}
use Rattle.rule_model.specs.Plain.{rule_view}
use Rattle.rule_schema.proofs.Making.{as_many}
use Rattle.rule_schema.proofs.schema.infer_schema.Goals as goal

pub returns-clause-made : goal.returns-clause-made
returns-clause-made c =
    let rule = rule_view c.args.rule.now in
    let names = rw c.as_slice.ensures at c.in_ok-names.ensures in
    let table : c.in_ok-table.table ≡ codes "events" = c.in_ok-table.ensures.ok ∙ ascii_chars (codes "events") refl in
    let fields : c.in_ok-fields.fields ≡ map (made_field (uses_of (items_of rule.detections))) (rule_names rule) = c.in_ok-fields.ensures.ok ∙ names.1 in
    (names.0, λ i. record { table = table i; fields = fields i; time = None })

pub returns-clause-kept : goal.returns-clause-kept
returns-clause-kept c = λ whole.
    let rule = rule_view c.args.rule.now in
    let names = rw c.as_slice.ensures at c.in_ok-names.ensures in
    let table : c.in_ok-table.table ≡ codes "events" = c.in_ok-table.ensures.ok ∙ ascii_chars (codes "events") refl in
    let fields : c.in_ok-fields.fields ≡ map (made_field (uses_of (items_of rule.detections))) (rule_names rule) = c.in_ok-fields.ensures.ok ∙ names.1 in
    let made : record { table = c.in_ok-table.table; fields = c.in_ok-fields.fields; time = None } ≡ inferred_schema rule =
    (λ i. record { table = table i; fields = fields i; time = None }) in
    let few : length c.in_ok-names.names.items < 2 ^ 32 = omega (arith, c.len.ensures, c.in_ok-names.names.ok.0, c.if-len.false) in
    let many : length c.in_ok-names.names.items ≡ length (rule_names rule) = as_many (uses_of (items_of rule.detections)) c.in_ok-names.names.items names.1 in
    subst IsSchema (sym made) (c.inferred_schemas.ensures rule whole names.0 (subst (λ (n : ℕ). n < 2 ^ 32) many few))
