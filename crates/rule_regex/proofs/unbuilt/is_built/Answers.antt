use Rattle.std.proofs.Common.{ℕ, ◌≡◌, ◌∷◌, ◌++◌, [], Bool, true, List, refl, subst, sym}
use Rattle.std.specs.Prelude.{Result}
use Rattle.query_lang.proofs.Finding.{built_is_pattern}
use Rattle.query_lang.specs.Patterns.{is_pattern}
use Rattle.rule_regex.specs.Building.{TellsBuilt}
use Rattle.sig_base.specs.declared.refusal.Fault.{Fault}
use Rattle.rule_regex.proofs.unbuilt.is_built.Goals as goal
use Rattle.rule_regex.proofs.unbuilt.is_built.Goals.{in-Ok, in-Err-Memory, in-Err-Syntax, in-Err-Refused}

pub returns-clause-tells : goal.returns-clause-tells
returns-clause-tells g c =
    let before = g.B.Builder.refused c.args.builder.now in
    let after = g.B.Builder.refused c.build.new.self in
    let tells : Result Bool Fault → Type 0 = TellsBuilt before after c.args.text.now in
    let gains : List ℕ → Type 0 = λ text. after ≡ before ++ text ∷ [] in
    elim c.match-build.branch [
      | in-Ok w ↦ subst tells (sym w.result-is) (
        w.in-Ok.ensures.refused,
        subst (λ (text : List ℕ). is_pattern text ≡ true) c.as_str.ensures.chars (built_is_pattern _ _ w.in-Ok.ensures.ok),
      )
      | in-Err-Memory w ↦ let told = rw w.in-Err-Memory.field-0-is at w.in-Err-Memory.ensures in subst tells (sym w.result-is) (told.refused, refl)
      | in-Err-Syntax w ↦ let told = rw w.in-Err-Syntax.field-0-is at w.in-Err-Syntax.ensures in subst tells (sym w.result-is) (subst gains c.as_str.ensures.chars told.refused.0)
      | in-Err-Refused w ↦ let told = rw w.in-Err-Refused.field-0-is at w.in-Err-Refused.ensures in subst tells (sym w.result-is) (subst gains c.as_str.ensures.chars told.refused)
    ]
