use Rattle.std.proofs.Common.{◌↔◌, IsTrue, ℕ, List, sym, subst}
use Rattle.std.specs.Prelude.{Option}
use Rattle.detection_eval.specs.Ready.{AskedHolds}
use Rattle.detection_eval.specs.declared.numbered.Asked.{Asked}
use Rattle.detection_eval.specs.declared.numbered.Asked.TheVariants.{Numbers}
use Rattle.detection_eval.specs.declared.numbered.NumberedTest.{NumberedTest}
use Rattle.detection_eval.proofs.item_truth.item_holds.Goals as goal

pub returns-in-Numbers-clause-holds : goal.returns-in-Numbers-clause-holds
returns-in-Numbers-clause-holds c =
    let item = c.args.item.now in
    let r = c.some_field_satisfies.result in
    let Holds : List (List NumberedTest) → Asked → Type 0 =
    λ values asked. AskedHolds c.args.finders.now c.args.searched.now c.args.event.now.values item.joined values asked in
    subst (λ (asked : Asked). IsTrue r ↔ Holds item.tests asked) (sym c.in-Numbers.is)
    (subst (λ (numbers : List (Option ℕ)). IsTrue r ↔ Holds item.tests (Numbers numbers)) c.as_slice-in-Numbers-2.ensures
    (subst (λ (values : List (List NumberedTest)). IsTrue r ↔ Holds values (Numbers c.as_slice-in-Numbers-2.result.now)) c.as_slice-in-Numbers.ensures
    c.some_field_satisfies.ensures.holds))
