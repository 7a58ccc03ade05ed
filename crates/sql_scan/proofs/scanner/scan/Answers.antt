use Rattle.std.proofs.Common.{sym, ◌∙◌, ap, map-id}
use Rattle.std.specs.Str.{chars}
use Rattle.std.proofs.lemmas.Iterator.{YieldsList-from_chars}
use Rattle.std.proofs.lemmas.Iterator.Consumers.{YieldsList-end}
use Rattle.query_tokens.specs.Places.{origin, place_after}
use Rattle.query_tokens.specs.PlaceView.{place_view}
use Rattle.sql_scan.specs.View.{tokens_view, mode_view}
use Rattle.sql_scan.proofs.Walked.{scan_end, all_ended}
use Rattle.sql_scan.proofs.scanner.scan.Goals as goal

pub returns-clause-tokens : goal.returns-clause-tokens
returns-clause-tokens c =
    let end = YieldsList-end (YieldsList-from_chars c.args.text.now c.utf8.text cc) c.loop-c.yielded _ c.loop-c.yielded_by _ _ c.in-None.is c.next.ensures.steps in
    scan_end c.loop-c.yielded (chars c.args.text.now) (tokens_view c.loop-c.found.items) (tokens_view c.add-2.new.found.items) (mode_view c.loop-c.mode) (place_view c.loop-c.place)
    c.loop-c.invariant.scanned (sym (map-id c.loop-c.yielded) ∙ end.0) (all_ended (tokens_view c.loop-c.found.items) c.in_ok-ended.ended (mode_view c.loop-c.mode) (tokens_view c.add-2.new.found.items) c.in_ok-ended.ensures.ok c.in_ok-add-2.ensures.ok)

pub returns-clause-end : goal.returns-clause-end
returns-clause-end c =
    let end = YieldsList-end (YieldsList-from_chars c.args.text.now c.utf8.text cc) c.loop-c.yielded _ c.loop-c.yielded_by _ _ c.in-None.is c.next.ensures.steps in
    c.loop-c.invariant.at ∙ ap (place_after origin) (sym (map-id c.loop-c.yielded) ∙ end.0)
