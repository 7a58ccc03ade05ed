use Rattle.std.proofs.lemmas.Result.{IfErr-weaker, IfOk-weaker}
use Rattle.command_line.proofs.Served.{takes_of, has_items_of}
use Rattle.command_line.proofs.Exact.{read_back}
use Rattle.command_line.proofs.parts.matched.Goals as goal

pub returns-clause-err : goal.returns-clause-err
returns-clause-err g c = IfErr-weaker c.try_get_matches_from.result _ _
    (λ e h items given. h (takes_of c.args.which _ _ items c.in_ok-command.ensures given)) c.try_get_matches_from.ensures.passes

pub returns-clause-ok : goal.returns-clause-ok
returns-clause-ok g c = IfOk-weaker c.try_get_matches_from.result _ _
    (λ m h items given. has_items_of c.args.which _ _ items m c.in_ok-command.ensures given.reads h) c.try_get_matches_from.ensures.matches

pub returns-clause-back : goal.returns-clause-back
returns-clause-back g c = read_back c.args.which _ _ c.try_get_matches_from.result c.in_ok-command.ensures c.try_get_matches_from.ensures.kinds c.try_get_matches_from.ensures.matches
