use Rattle.std.proofs.Common.{rules, ap, sym, ◌∙◌}
use Rattle.std.specs.Str.{chars}
use Rattle.std.proofs.lemmas.Str.{chars-nil}
use Rattle.sig_strings.proofs.HoleLemmas.{NameSoFar-next, NameSoFar-ends, NameSoFar-other, NameSoFar-hole}
use Rattle.sig_strings.proofs.hole.hole_end.Goals as goal

pub returns-in_default : goal.returns-in_default
returns-in_default c = NameSoFar-ends _ _ _ c.loop-c.invariant.so_far (ap chars c.in_default.ensures ∙ chars-nil)

pub returns-then-named : goal.returns-then-named
returns-then-named c = NameSoFar-hole _ _ _ _ _ c.loop-c.invariant.so_far c.in-Some.ensures.0 c.if-c-eq37.true c.if-named.true

pub returns-then-not-is_word : goal.returns-then-not-is_word
returns-then-not-is_word c = NameSoFar-other _ _ _ _ _ c.loop-c.invariant.so_far c.in-Some.ensures.0 (sym c.if-not-is_word.ensures) c.if-c-eq37.false

pub loop-c-preserved : goal.loop-c-preserved
loop-c-preserved c = record {
  text = search rules;
  so_far = NameSoFar-next _ _ _ _ _ c.loop-c.invariant.so_far c.in-Some.ensures.0 (sym c.if-not-is_word.ensures);
}
