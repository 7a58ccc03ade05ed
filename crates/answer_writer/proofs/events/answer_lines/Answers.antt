use Rattle.std.proofs.Common.{◌∙◌, sym, true, [], Ok, Err}
use Rattle.answer_writer.proofs.Ending.{ends_memory}
use Rattle.answer_writer.proofs.Asked.{Asks}
use Rattle.answer_writer.proofs.Lined.{step_within, lines_start, lines_next, lines_end, lines_stop, lines_memory, lines_unread, each_answer}
use Rattle.answer_writer.proofs.Wrote.{writes_as}
use Rattle.answer_writer.specs.EventLines.{StepGives, EventLines}
use Rattle.sig_base.specs.declared.faults.LineFault.TheVariants.{Read, Memory}
use Rattle.answer_writer.proofs.events.answer_lines.Goals as goal

pub returns-in_default : goal.returns-in_default
returns-in_default g c =
    let gives = g.C.LineCommand.gives c.args.command.now in
    ends_memory (record { names = []; events = true }) (EventLines gives c.args.limits.now) (g.W.Outside.state c.args.outside.now)
    (each_answer gives c.args.limits.now c.each_line.ensures)

pub lines-init : goal.lines-init
lines-init g c = record {
  going = lines_start (g.C.LineCommand.gives c.args.command.now) c.args.limits.now c.in-Ok.reader (g.W.Outside.state c.args.outside.now) c.in-Ok.ensures.ok;
  same = λ number line share is. is;
  keeps = c.requires;
}

pub returns-in-Err-Read : goal.returns-in-Err-Read
returns-in-Err-Read g c =
    let e = rw c.in-Err-Read.field-0-is at c.in-Err-Read.ensures in
    let now = g.W.Outside.state c.lines.outside in
    let mid = g.W.Outside.state c.next_line.new.self in
    let asks : Asks c.lines.reader c.next_line.new.reader now mid (Err Read) = record {
      next = e.next;
      passed = e.passed;
      cause = e.cause;
      ended = λ is. (e.ended is).0;
      files = e.files;
      failed = e.failed;
      streams = e.streams;
      kept = e.kept;
    } in
    lines_unread (g.C.LineCommand.gives c.args.command.now) c.args.limits.now c.each_line.ensures c.lines.reader c.next_line.new.reader c.lines.refused c.tell_unread_events.result
    (g.W.Outside.state c.args.outside.now) now mid (g.W.Outside.state c.tell_unread_events.new.outside) asks c.lines.invariant.going
    c.tell_unread_events.ensures.told c.tell_unread_events.ensures.inputs c.tell_unread_events.ensures.kept

pub returns-in-Err-Memory : goal.returns-in-Err-Memory
returns-in-Err-Memory g c =
    let e = rw c.in-Err-Memory.field-0-is at c.in-Err-Memory.ensures in
    let now = g.W.Outside.state c.lines.outside in
    let mid = g.W.Outside.state c.next_line.new.self in
    let asks : Asks c.lines.reader c.next_line.new.reader now mid (Err Memory) = record {
      next = e.next;
      passed = e.passed;
      cause = e.cause;
      ended = λ is. (e.ended is).0;
      files = e.files;
      failed = e.failed;
      streams = e.streams;
      kept = e.kept;
    } in
    lines_memory (g.C.LineCommand.gives c.args.command.now) c.args.limits.now c.each_line.ensures c.lines.reader c.next_line.new.reader c.lines.refused Memory
    (g.W.Outside.state c.args.outside.now) now mid asks c.lines.invariant.going

pub returns-then-ends_events : goal.returns-then-ends_events
returns-then-ends_events g c =
    let e = c.in-Ok-next_line.ensures in
    let now = g.W.Outside.state c.lines.outside in
    let mid = g.W.Outside.state c.next_line.new.self in
    let asks : Asks c.lines.reader c.next_line.new.reader now mid (Ok c.in-Ok-next_line.step) = record {
      next = e.next;
      passed = e.passed;
      cause = e.cause;
      ended = λ is. (e.ended is).0;
      files = e.files;
      failed = e.failed;
      streams = e.streams;
      kept = e.kept;
    } in
    lines_end (g.C.LineCommand.gives c.args.command.now) c.args.limits.now c.lines.reader c.next_line.new.reader c.in-Ok-next_line.step c.lines.refused
    (g.W.Outside.state c.args.outside.now) now mid (sym c.ends_events.ensures ∙ c.if-ends_events.true) asks c.lines.invariant.going

pub lines-preserved : goal.lines-preserved
lines-preserved g c =
    let e = c.in-Ok-next_line.ensures in
    let gives = g.C.LineCommand.gives c.args.command.now in
    let step = c.in-Ok-next_line.step in
    let now = g.W.Outside.state c.lines.outside in
    let mid = g.W.Outside.state c.next_line.new.self in
    let new = g.W.Outside.state c.answer_step.new.outside in
    let asks : Asks c.lines.reader c.next_line.new.reader now mid (Ok step) = record {
      next = e.next;
      passed = e.passed;
      cause = e.cause;
      ended = λ is. (e.ended is).0;
      files = e.files;
      failed = e.failed;
      streams = e.streams;
      kept = e.kept;
    } in
    record {
      going = lines_next gives c.args.limits.now c.lines.reader c.next_line.new.reader step c.lines.refused c.in-Ok-answer_step.found c.either-refused.result
          (g.W.Outside.state c.args.outside.now) now mid new (sym c.ends_events.ensures ∙ c.if-ends_events.false) c.either-refused.ensures asks c.lines.invariant.going
          (writes_as (StepGives (g.C.LineCommand.gives c.lines.command) step) (StepGives gives step) (Ok c.in-Ok-answer_step.found) mid new
          (step_within (g.C.LineCommand.gives c.lines.command) gives c.lines.invariant.same step) c.in-Ok-answer_step.ensures.writes);
      same = λ number line share is. c.lines.invariant.same number line share (c.in-Ok-answer_step.ensures.same number line share is);
      keeps = c.in-Ok-answer_step.ensures.keeps;
    }

pub returns-in-Err : goal.returns-in-Err
returns-in-Err g c =
    let e = c.in-Ok-next_line.ensures in
    let gives = g.C.LineCommand.gives c.args.command.now in
    let step = c.in-Ok-next_line.step in
    let now = g.W.Outside.state c.lines.outside in
    let mid = g.W.Outside.state c.next_line.new.self in
    let new = g.W.Outside.state c.answer_step.new.outside in
    let asks : Asks c.lines.reader c.next_line.new.reader now mid (Ok step) = record {
      next = e.next;
      passed = e.passed;
      cause = e.cause;
      ended = λ is. (e.ended is).0;
      files = e.files;
      failed = e.failed;
      streams = e.streams;
      kept = e.kept;
    } in
    lines_stop gives c.args.limits.now c.each_line.ensures c.lines.reader c.next_line.new.reader step c.lines.refused c.in-Err.stop
    (g.W.Outside.state c.args.outside.now) now mid new (sym c.ends_events.ensures ∙ c.if-ends_events.false) asks c.lines.invariant.going
    (writes_as (StepGives (g.C.LineCommand.gives c.lines.command) step) (StepGives gives step) (Err c.in-Err.stop) mid new
    (step_within (g.C.LineCommand.gives c.lines.command) gives c.lines.invariant.same step) c.in-Err.ensures.writes)
