use Rattle.std.proofs.Common.{◌∙◌, sym, refl, true, [], Ok, Err}
use Rattle.std.specs.Prelude.{⊤}
use Rattle.answer_writer.proofs.Asked.{Asks}
use Rattle.answer_writer.proofs.Ending.{ends_memory}
use Rattle.answer_writer.proofs.Followed.{Lines, StepTo, step_follows_within, lines_start, lines_next, lines_end, lines_stop, lines_memory, lines_unread, each_followed_lines}
use Rattle.answer_writer.proofs.Wrote.{writes_as}
use Rattle.sig_base.specs.declared.faults.LineFault.TheVariants.{Read, Memory}
use Rattle.answer_writer.proofs.line_answers.follow_lines.Goals as goal

pub returns-in_default-clause-ends : goal.returns-in_default-clause-ends
returns-in_default-clause-ends g c = λ start stands.
    let follows = g.C.LineFollower.follows c.args.command.now in
    ends_memory (record { names = []; events = true }) (Lines follows c.args.limits.now start (λ history. ⊤)) (g.W.Outside.state c.args.outside.now)
    (each_followed_lines follows c.args.limits.now start c.each_line.ensures (λ history. ⊤) (λ history. tt))

pub lines-init : goal.lines-init
lines-init g c = record {
  going = λ start stands.
      (start, lines_start (g.C.LineFollower.follows c.args.command.now) c.args.limits.now start c.in-Ok.reader (g.W.Outside.state c.args.outside.now) c.in-Ok.ensures.ok, stands);
  same = λ history number line share after is. is;
  fixed = refl;
  keeps = c.requires;
}

pub returns-in-Err-Read-clause-ends : goal.returns-in-Err-Read-clause-ends
returns-in-Err-Read-clause-ends g c = λ start stands.
    let e = rw c.in-Err-Read.field-0-is at c.in-Err-Read.ensures in
    let now = g.W.Outside.state c.lines.outside in
    let mid = g.W.Outside.state c.next_line.new.self in
    let asks : Asks c.lines.reader c.next_line.new.reader now mid (Err Read) = record {
      next = e.next;
      passed = e.passed;
      cause = e.cause;
      ended = λ is. (e.ended is).0;
      files = e.files;
      failed = e.failed;
      streams = e.streams;
      kept = e.kept;
    } in
    let so_far = c.lines.invariant.going start stands in
    lines_unread (g.C.LineFollower.follows c.args.command.now) c.args.limits.now start (λ history. ⊤) (λ history. tt) c.each_line.ensures so_far.0
    c.lines.reader c.next_line.new.reader c.lines.refused c.tell_unread_events.result
    (g.W.Outside.state c.args.outside.now) now mid (g.W.Outside.state c.tell_unread_events.new.outside) asks so_far.1
    c.tell_unread_events.ensures.told c.tell_unread_events.ensures.inputs c.tell_unread_events.ensures.kept

pub returns-in-Err-Memory-clause-ends : goal.returns-in-Err-Memory-clause-ends
returns-in-Err-Memory-clause-ends g c = λ start stands.
    let e = rw c.in-Err-Memory.field-0-is at c.in-Err-Memory.ensures in
    let now = g.W.Outside.state c.lines.outside in
    let mid = g.W.Outside.state c.next_line.new.self in
    let asks : Asks c.lines.reader c.next_line.new.reader now mid (Err Memory) = record {
      next = e.next;
      passed = e.passed;
      cause = e.cause;
      ended = λ is. (e.ended is).0;
      files = e.files;
      failed = e.failed;
      streams = e.streams;
      kept = e.kept;
    } in
    let so_far = c.lines.invariant.going start stands in
    lines_memory (g.C.LineFollower.follows c.args.command.now) c.args.limits.now start (λ history. ⊤) (λ history. tt) c.each_line.ensures so_far.0
    c.lines.reader c.next_line.new.reader c.lines.refused Memory (g.W.Outside.state c.args.outside.now) now mid asks so_far.1

pub returns-then-ends_events-clause-ends : goal.returns-then-ends_events-clause-ends
returns-then-ends_events-clause-ends g c = λ start stands.
    let e = c.in-Ok-next_line.ensures in
    let now = g.W.Outside.state c.lines.outside in
    let mid = g.W.Outside.state c.next_line.new.self in
    let asks : Asks c.lines.reader c.next_line.new.reader now mid (Ok c.in-Ok-next_line.step) = record {
      next = e.next;
      passed = e.passed;
      cause = e.cause;
      ended = λ is. (e.ended is).0;
      files = e.files;
      failed = e.failed;
      streams = e.streams;
      kept = e.kept;
    } in
    let so_far = c.lines.invariant.going start stands in
    lines_end (g.C.LineFollower.follows c.args.command.now) c.args.limits.now start (g.C.LineFollower.stands c.lines.command) so_far.0 so_far.2
    c.lines.reader c.next_line.new.reader c.in-Ok-next_line.step c.lines.refused
    (g.W.Outside.state c.args.outside.now) now mid (sym c.ends_events.ensures ∙ c.if-ends_events.true) asks so_far.1

pub lines-preserved : goal.lines-preserved
lines-preserved g c =
    let e = c.in-Ok-next_line.ensures in
    let follows = g.C.LineFollower.follows c.args.command.now in
    let before = g.C.LineFollower.follows c.lines.command in
    let stands_after = g.C.LineFollower.stands c.follow_step.new.command in
    let step = c.in-Ok-next_line.step in
    let now = g.W.Outside.state c.lines.outside in
    let mid = g.W.Outside.state c.next_line.new.self in
    let new = g.W.Outside.state c.follow_step.new.outside in
    let asks : Asks c.lines.reader c.next_line.new.reader now mid (Ok step) = record {
      next = e.next;
      passed = e.passed;
      cause = e.cause;
      ended = λ is. (e.ended is).0;
      files = e.files;
      failed = e.failed;
      streams = e.streams;
      kept = e.kept;
    } in
    record {
      going = λ start stands.
          let so_far = c.lines.invariant.going start stands in
          let wrote = writes_as (StepTo before c.args.limits.now start stands_after so_far.0 step) (StepTo follows c.args.limits.now start stands_after so_far.0 step) (Ok c.in-Ok-follow_step.found) mid new
          (λ share (after, is, s). (after, step_follows_within before follows c.lines.invariant.same so_far.0 step share after is, s)) (c.in-Ok-follow_step.ensures.writes so_far.0 so_far.2) in (
            wrote.is.0,
            lines_next follows c.args.limits.now start stands_after so_far.0 c.lines.reader c.next_line.new.reader step c.lines.refused c.in-Ok-follow_step.found c.either-refused.result
                (g.W.Outside.state c.args.outside.now) now mid new (sym c.ends_events.ensures ∙ c.if-ends_events.false) c.either-refused.ensures asks so_far.1 wrote,
            wrote.is.2,
          );
      same = λ history number line share after is. c.lines.invariant.same history number line share after (c.in-Ok-follow_step.ensures.same history number line share after is);
      fixed = c.in-Ok-follow_step.ensures.fixed ∙ c.lines.invariant.fixed;
      keeps = c.in-Ok-follow_step.ensures.keeps;
    }

pub returns-in-Err-clause-ends : goal.returns-in-Err-clause-ends
returns-in-Err-clause-ends g c = λ start stands.
    let e = c.in-Ok-next_line.ensures in
    let follows = g.C.LineFollower.follows c.args.command.now in
    let before = g.C.LineFollower.follows c.lines.command in
    let step = c.in-Ok-next_line.step in
    let now = g.W.Outside.state c.lines.outside in
    let mid = g.W.Outside.state c.next_line.new.self in
    let new = g.W.Outside.state c.follow_step.new.outside in
    let asks : Asks c.lines.reader c.next_line.new.reader now mid (Ok step) = record {
      next = e.next;
      passed = e.passed;
      cause = e.cause;
      ended = λ is. (e.ended is).0;
      files = e.files;
      failed = e.failed;
      streams = e.streams;
      kept = e.kept;
    } in
    let so_far = c.lines.invariant.going start stands in
    lines_stop follows c.args.limits.now start (λ history. ⊤) (λ history. tt) c.each_line.ensures so_far.0 (λ history. ⊤) c.lines.reader c.next_line.new.reader step c.lines.refused c.in-Err.stop
    (g.W.Outside.state c.args.outside.now) now mid new (sym c.ends_events.ensures ∙ c.if-ends_events.false) asks so_far.1
    (writes_as (StepTo before c.args.limits.now start (λ history. ⊤) so_far.0 step) (StepTo follows c.args.limits.now start (λ history. ⊤) so_far.0 step) (Err c.in-Err.stop) mid new
    (λ share (after, is, s). (after, step_follows_within before follows c.lines.invariant.same so_far.0 step share after is, s)) (c.in-Err.ensures.writes so_far.0 so_far.2))
