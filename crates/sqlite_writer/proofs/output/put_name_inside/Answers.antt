use Rattle.std.proofs.Common.{List, ℕ, ◌≡◌, ◌==◌, ◌++◌, ◌∙◌, sym, ap, subst, false}
use Rattle.std.specs.Prelude.{OnOk}
use Rattle.std.specs.List.{list_any}
use Rattle.sqlite_writer.proofs.Doubled.{nothing_doubled}
use Rattle.sqlite_writer.proofs.output.put_name_inside.Goals as goal

pub returns : goal.returns
returns c =
    let none : list_any (λ b. b == 34) c.args.name.now ≡ false =
    sym (ap (list_any (λ b. b == 34)) c.as_bytes.ensures.value) ∙ (sym c.contains.ensures.value ∙ c.if-contains.false) in
    subst (λ (t : List ℕ). OnOk c.push_str.result (c.push_str.new.self ≡ c.args.out.now ++ t))
    (sym (nothing_doubled c.args.name.now c.utf8.name none)) c.push_str.ensures.ok
