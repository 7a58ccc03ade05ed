use Rattle.std.proofs.Common.{refl, sym, ◌∙◌}
use Rattle.std.proofs.lemmas.Result.{on_ok_weaker}
use Rattle.sig_conditions.proofs.Scans.{blank_taken, run_taken, sign_taken}
use Rattle.sig_conditions.proofs.scan.Scanner.take.Goals as goal

pub returns-then-can_run : goal.returns-then-can_run
returns-then-can_run c =
    on_ok_weaker c.push.result (λ e rest. run_taken c.args.self.now.words.items _ c.args.self.now.run c.push.new.self rest c.args.c refl (sym c.can_run.ensures ∙ c.if-can_run.true) e) c.push.ensures.ok

pub returns-in_ok-push : goal.returns-in_ok-push
returns-in_ok-push c = λ rest.
    sign_taken c.args.self.now.words.items c.end_run.new.self.words.items c.push-then-not-parts_words.new.self.items c.args.self.now.run c.end_run.new.self.run rest c.args.c c.sign.result
    c.in_ok-end_run.ensures.words c.in_ok-end_run.ensures.run c.in_ok-push.ensures.items c.sign.ensures
    (sym c.can_run.ensures ∙ c.if-can_run.false) (sym c.parts_words.ensures ∙ c.if-not-parts_words.true)

pub returns-else-not-parts_words : goal.returns-else-not-parts_words
returns-else-not-parts_words c = λ rest.
    blank_taken c.args.self.now.words.items c.end_run.new.self.words.items c.args.self.now.run c.end_run.new.self.run rest c.args.c
    c.in_ok-end_run.ensures.words c.in_ok-end_run.ensures.run
    (sym c.can_run.ensures ∙ c.if-can_run.false) (sym c.parts_words.ensures ∙ c.if-not-parts_words.false)
