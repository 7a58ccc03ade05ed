use Rattle.query_lang.proofs.Refusing.{by_syntax}
use Rattle.query_lang.proofs.crate_builder.CrateBuilderBuilder.build.Goals as goal

pub refuse-requires-in-Err-Syntax : goal.refuse-requires-in-Err-Syntax
refuse-requires-in-Err-Syntax c =
    by_syntax c.args.pattern.now c.in-Err-Syntax.field-0-0 (rw c.in-Err-Syntax.field-0-is at c.in-Err-Syntax.ensures.by_grammar) (rw c.in-Err-Syntax.field-0-is at c.in-Err-Syntax.ensures.kind)
