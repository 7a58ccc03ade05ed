use Rattle.std.proofs.Common.{List, ℕ, ◌≡◌, ◌+◌, length, sym, subst}
use Rattle.std.specs.Prelude.{IfOk}
use Rattle.std.proofs.lemmas.Str.{encodes-chars}
use Rattle.sqlite_writer.proofs.sizes.with_text.Goals as goal

pub returns-clause-ok : goal.returns-clause-ok
returns-clause-ok c =
    subst (λ (bytes : List ℕ). IfOk c.add.result (λ n. n ≡ c.args.size + length bytes)) (sym (encodes-chars c.args.text.now c.utf8.text)) c.add.ensures.ok
