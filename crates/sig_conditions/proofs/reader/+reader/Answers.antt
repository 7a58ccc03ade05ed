use Rattle.std.proofs.Common.{◌≡◌, ◌+◌, ◌-◌, List, length, drop, refl, ap, sym, ◌∙◌, subst, arith, length-drop}
use Rattle.std.specs.declared.option.Option.{Option}
use Rattle.sig_conditions.specs.declared.condition.Condition.{Condition}
use Rattle.sig_conditions.specs.declared.word.Word.{Word}
use Rattle.sig_conditions.specs.declared.word.Word.TheVariants.{Fixed}
use Rattle.sig_conditions.specs.Conditions.{Cond, CNot, cond_view, conds_of, conds_view, joined_and, joined_or}
use Rattle.sig_conditions.specs.Outcome.{Reads}
use Rattle.sig_conditions.specs.declared.word.Sign.TheVariants.{Or, And}
use Rattle.sig_conditions.specs.Words.{is_sign}
use Rattle.sig_conditions.specs.Reader.{and_in, not_in, or_in, read, read_map}
use Rattle.sig_conditions.proofs.Chains.{chain_at}
use Rattle.sig_conditions.proofs.Places.{fails_map, fails_read, not_none, not_plain, not_step, paren_step}
use Rattle.sig_conditions.proofs.Turns.{begun, chain_later_none, chain_none, later_none, tail_ended, turned}
use Rattle.sig_conditions.proofs.reader.+reader.Goals as goal

pub read_and-returns-in_err-first-clause-reads : goal.read_and-returns-in_err-first-clause-reads
read_and-returns-in_err-first-clause-reads t c =
    fails_read c.args.words.now c.from_residual.result c.in_err-first.field-0.0 _ (and_in c.args.depth (drop c.args.at c.args.words.now)) c.from_residual.ensures.1 (λ y p. p)
    (fails_map c.in_err-first.field-0.0 (not_in c.args.depth (drop c.args.at c.args.words.now)) (and_in c.args.depth (drop c.args.at c.args.words.now))
    (chain_none (not_in c.args.depth) (is_sign And) joined_and (drop c.args.at c.args.words.now)) c.in_err-first.ensures.reads)

pub read_and-parts-init : goal.read_and-parts-init
read_and-parts-init t c = record {
  first = refl;
  after = omega arith;
  within = c.in_ok-first.ensures.within;
  fuel = length (drop c.in_ok-first.behind c.args.words.now);
  enough = omega (arith, length-drop c.in_ok-first.behind c.args.words.now, c.in_ok-first.ensures.within);
  tail = begun c.new-more.result.items c.new-more.ensures.items _;
}

pub read_and-returns-in_err-part-clause-reads : goal.read_and-returns-in_err-part-clause-reads
read_and-returns-in_err-part-clause-reads t c =
    fails_read c.args.words.now c.from_residual-in_err-part.result c.in_err-part.field-0.0 _ (and_in c.args.depth (drop c.args.at c.args.words.now)) c.from_residual-in_err-part.ensures.1 (λ y p. p)
    (fails_map c.in_err-part.field-0.0 (not_in c.args.depth (drop (c.parts.end + 1) c.args.words.now)) (and_in c.args.depth (drop c.args.at c.args.words.now))
    (λ p. chain_later_none (not_in c.args.depth) (is_sign And) joined_and (drop c.args.at c.args.words.now) (drop c.in_ok-first.behind c.args.words.now) (cond_view c.in_ok-first.first)
    c.in_ok-first.ensures.reads
    (later_none (not_in c.args.depth) (is_sign And) c.args.words.now c.parts.invariant.fuel c.parts.end c.parts.more.items _
    c.parts.invariant.tail (sym c.begins.ensures ∙ c.parts-test.true) c.parts.invariant.enough p))
    c.in_err-part.ensures.reads)

pub read_and-parts-preserved : goal.read_and-parts-preserved
read_and-parts-preserved t c = record {
  first = c.parts.invariant.first;
  after = omega (arith, c.in_ok-part.ensures.later, c.parts.invariant.after);
  within = omega (arith, c.in_ok-part.ensures.within);
  fuel = c.parts.invariant.fuel - 1;
  enough = omega (arith, c.in_ok-part.ensures.later, c.parts.invariant.enough);
  tail = turned (not_in c.args.depth) (is_sign And) c.args.words.now c.parts.invariant.fuel c.parts.end c.parts.more.items _
      c.in_ok-part.behind c.in_ok-part.part c.push.new.self.items
      c.parts.invariant.tail (sym c.begins.ensures ∙ c.parts-test.true) c.parts.invariant.enough c.in_ok-part.ensures.reads c.in_ok-push.ensures.items;
}

pub read_and-returns-clause-reads : goal.read_and-returns-clause-reads
read_and-returns-clause-reads t c =
    let j : cond_view c.in_ok-join_and.field-0 ≡ joined_and (cond_view c.in_ok-first.first) (conds_of (conds_view c.parts.more.items)) =
    c.in_ok-join_and.ensures.ok ∙ ap (λ (x : Condition). joined_and (cond_view x) (conds_of (conds_view c.parts.more.items))) c.parts.invariant.first in
    chain_at (not_in c.args.depth) (is_sign And) joined_and (drop c.args.at c.args.words.now) (drop c.in_ok-first.behind c.args.words.now) (drop c.parts.end c.args.words.now)
    (cond_view c.in_ok-first.first) (conds_of (conds_view c.parts.more.items)) c.in_ok-first.ensures.reads
    (tail_ended (not_in c.args.depth) (is_sign And) c.args.words.now c.parts.invariant.fuel c.parts.end c.parts.more.items _
    c.parts.invariant.tail (sym c.begins.ensures ∙ c.parts-test.false))
    ∙ ap (λ (x : Cond). read x (drop c.parts.end c.args.words.now)) (sym j)

pub read_or-returns-in_err-first-clause-reads : goal.read_or-returns-in_err-first-clause-reads
read_or-returns-in_err-first-clause-reads t c =
    fails_read c.args.words.now c.from_residual.result c.in_err-first.field-0.0 _ (or_in c.args.depth (drop c.args.at c.args.words.now)) c.from_residual.ensures.1 (λ y p. p)
    (fails_map c.in_err-first.field-0.0 (and_in c.args.depth (drop c.args.at c.args.words.now)) (or_in c.args.depth (drop c.args.at c.args.words.now))
    (chain_none (and_in c.args.depth) (is_sign Or) joined_or (drop c.args.at c.args.words.now)) c.in_err-first.ensures.reads)

pub read_or-parts-init : goal.read_or-parts-init
read_or-parts-init t c = record {
  first = refl;
  after = omega arith;
  within = c.in_ok-first.ensures.within;
  fuel = length (drop c.in_ok-first.behind c.args.words.now);
  enough = omega (arith, length-drop c.in_ok-first.behind c.args.words.now, c.in_ok-first.ensures.within);
  tail = begun c.new-more.result.items c.new-more.ensures.items _;
}

pub read_or-returns-in_err-part-clause-reads : goal.read_or-returns-in_err-part-clause-reads
read_or-returns-in_err-part-clause-reads t c =
    fails_read c.args.words.now c.from_residual-in_err-part.result c.in_err-part.field-0.0 _ (or_in c.args.depth (drop c.args.at c.args.words.now)) c.from_residual-in_err-part.ensures.1 (λ y p. p)
    (fails_map c.in_err-part.field-0.0 (and_in c.args.depth (drop (c.parts.end + 1) c.args.words.now)) (or_in c.args.depth (drop c.args.at c.args.words.now))
    (λ p. chain_later_none (and_in c.args.depth) (is_sign Or) joined_or (drop c.args.at c.args.words.now) (drop c.in_ok-first.behind c.args.words.now) (cond_view c.in_ok-first.first)
    c.in_ok-first.ensures.reads
    (later_none (and_in c.args.depth) (is_sign Or) c.args.words.now c.parts.invariant.fuel c.parts.end c.parts.more.items _
    c.parts.invariant.tail (sym c.begins.ensures ∙ c.parts-test.true) c.parts.invariant.enough p))
    c.in_err-part.ensures.reads)

pub read_or-parts-preserved : goal.read_or-parts-preserved
read_or-parts-preserved t c = record {
  first = c.parts.invariant.first;
  after = omega (arith, c.in_ok-part.ensures.later, c.parts.invariant.after);
  within = omega (arith, c.in_ok-part.ensures.within);
  fuel = c.parts.invariant.fuel - 1;
  enough = omega (arith, c.in_ok-part.ensures.later, c.parts.invariant.enough);
  tail = turned (and_in c.args.depth) (is_sign Or) c.args.words.now c.parts.invariant.fuel c.parts.end c.parts.more.items _
      c.in_ok-part.behind c.in_ok-part.part c.push.new.self.items
      c.parts.invariant.tail (sym c.begins.ensures ∙ c.parts-test.true) c.parts.invariant.enough c.in_ok-part.ensures.reads c.in_ok-push.ensures.items;
}

pub read_or-returns-clause-reads : goal.read_or-returns-clause-reads
read_or-returns-clause-reads t c =
    let j : cond_view c.in_ok-join_or.field-0 ≡ joined_or (cond_view c.in_ok-first.first) (conds_of (conds_view c.parts.more.items)) =
    c.in_ok-join_or.ensures.ok ∙ ap (λ (x : Condition). joined_or (cond_view x) (conds_of (conds_view c.parts.more.items))) c.parts.invariant.first in
    chain_at (and_in c.args.depth) (is_sign Or) joined_or (drop c.args.at c.args.words.now) (drop c.in_ok-first.behind c.args.words.now) (drop c.parts.end c.args.words.now)
    (cond_view c.in_ok-first.first) (conds_of (conds_view c.parts.more.items)) c.in_ok-first.ensures.reads
    (tail_ended (and_in c.args.depth) (is_sign Or) c.args.words.now c.parts.invariant.fuel c.parts.end c.parts.more.items _
    c.parts.invariant.tail (sym c.begins.ensures ∙ c.parts-test.false))
    ∙ ap (λ (x : Cond). read x (drop c.parts.end c.args.words.now)) (sym j)

pub read_atom-returns-else-not-begins-clause-reads : goal.read_atom-returns-else-not-begins-clause-reads
read_atom-returns-else-not-begins-clause-reads t c =
    paren_step c.args.depth (c.args.depth - 1) c.args.words.now c.args.at c.in_ok-inner-in-Some-Fixed-Open.end c.in-Some-Fixed-Open.field-0.now (cond_view c.in_ok-inner-in-Some-Fixed-Open.inner)
    (omega (arith, c.if-depth-eq0.false)) c.in-Some-Fixed-Open.ensures.some (c.in-Some-Fixed-Open.field-0-is ∙ ap Fixed c.in-Some-Fixed-Open.field-0-0-is)
    c.in_ok-inner-in-Some-Fixed-Open.ensures.reads (sym c.begins.ensures ∙ c.if-not-begins.false)

pub read_not-returns-then-not-begins-clause-reads : goal.read_not-returns-then-not-begins-clause-reads
read_not-returns-then-not-begins-clause-reads t c =
    subst (λ (o : Option (Cond × List Word)). Reads c.args.words.now c.read_atom.result o)
    (sym (not_plain c.args.depth (drop c.args.at c.args.words.now) (sym c.begins.ensures ∙ c.if-not-begins.true))) c.read_atom.ensures.reads

pub read_not-returns-then-depth-eq0-clause-reads : goal.read_not-returns-then-depth-eq0-clause-reads
read_not-returns-then-depth-eq0-clause-reads t c =
    not_none c.args.depth c.args.words.now c.args.at c.if-depth-eq0.true (sym c.begins.ensures ∙ c.if-not-begins.false)

pub read_not-returns-in_err-part-clause-reads : goal.read_not-returns-in_err-part-clause-reads
read_not-returns-in_err-part-clause-reads t c =
    fails_read c.args.words.now c.from_residual.result c.in_err-part.field-0.0 _ (not_in c.args.depth (drop c.args.at c.args.words.now)) c.from_residual.ensures.1 (λ y p. p)
    (fails_map c.in_err-part.field-0.0 (not_in (c.args.depth - 1) (drop (c.args.at + 1) c.args.words.now)) (not_in c.args.depth (drop c.args.at c.args.words.now))
    (λ p. not_step c.args.depth (c.args.depth - 1) c.args.words.now c.args.at (omega (arith, c.if-depth-eq0.false)) (sym c.begins.ensures ∙ c.if-not-begins.false)
    ∙ ap (read_map CNot) p)
    c.in_err-part.ensures.reads)

pub read_not-returns-clause-reads : goal.read_not-returns-clause-reads
read_not-returns-clause-reads t c =
    not_step c.args.depth (c.args.depth - 1) c.args.words.now c.args.at (omega (arith, c.if-depth-eq0.false)) (sym c.begins.ensures ∙ c.if-not-begins.false)
    ∙ (ap (read_map CNot) c.in_ok-part.ensures.reads
    ∙ ap (λ (x : Cond). read x (drop c.in_ok-part.end c.args.words.now)) (sym c.in_ok-negate.ensures.ok))
