use Rattle.std.proofs.Common.{◌≡◌, ◌∙◌, ap, ◌<◌, length, arith, ℕ, ◌∷◌, List, []}
use Rattle.std.proofs.lemmas.Str.{chars-nil}
use Rattle.std.specs.Str.{chars}
use Rattle.sql_like.proofs.Fronts.{glob_ends, glob_lone, glob_half, glob_bracket, glob_runs, glob_one, glob_char}
use Rattle.sql_like.proofs.glob.GlobPatternCursor.step.Goals as goal

pub returns-in_default : goal.returns-in_default
returns-in_default c = λ text. glob_ends (chars c.args.self.rest.now) text (ap chars c.in_default.ensures ∙ chars-nil)

pub returns-in_default-first_char : goal.returns-in_default-first_char
returns-in_default-first_char c =
    let none : chars c.in-Some.rest.now ≡ [] = ap chars c.in_default-first_char.ensures ∙ chars-nil in
    λ text. glob_lone (chars c.args.self.rest.now) text c.in-Some.c
    (c.in-Some.ensures.0 ∙ ap (λ (cs : List ℕ). c.in-Some.c ∷ cs) none) c.if-c-eq91.true

pub returns-in_default-first_char-2 : goal.returns-in_default-first_char-2
returns-in_default-first_char-2 c =
    let none : chars c.in-Some-first_char.closing.now ≡ [] = ap chars c.in_default-first_char-2.ensures ∙ chars-nil in
    λ text. glob_half (chars c.args.self.rest.now) text c.in-Some.c c.in-Some-first_char.d
    (c.in-Some.ensures.0 ∙ ap (λ (cs : List ℕ). c.in-Some.c ∷ cs) (c.in-Some-first_char.ensures.0 ∙ ap (λ (cs : List ℕ). c.in-Some-first_char.d ∷ cs) none))
    c.if-c-eq91.true

pub returns-then-c-eq91 : goal.returns-then-c-eq91
returns-then-c-eq91 c =
    let near : length c.in-Some.rest.now < length c.args.self.rest.now = c.in-Some.ensures.1 in
    let nearer : length c.in-Some-first_char.closing.now < length c.in-Some.rest.now = c.in-Some-first_char.ensures.1 in
    let nearest : length c.in-Some-first_char-2.behind.now < length c.in-Some-first_char.closing.now = c.in-Some-first_char-2.ensures.1 in (
      omega arith,
      λ text. glob_bracket (chars c.args.self.rest.now) text c.in-Some.c c.in-Some-first_char.d c.in-Some-first_char-2.field-0-0 (chars c.in-Some-first_char-2.behind.now)
          (c.in-Some.ensures.0 ∙ ap (λ (cs : List ℕ). c.in-Some.c ∷ cs)
          (c.in-Some-first_char.ensures.0 ∙ ap (λ (cs : List ℕ). c.in-Some-first_char.d ∷ cs) c.in-Some-first_char-2.ensures.0))
          c.if-c-eq91.true,
    )

pub returns-then-c-eq42 : goal.returns-then-c-eq42
returns-then-c-eq42 c =
    (c.in-Some.ensures.1, λ text. glob_runs (chars c.args.self.rest.now) text c.in-Some.c (chars c.in-Some.rest.now) c.in-Some.ensures.0 c.if-c-eq91.false c.if-c-eq42.true)

pub returns-then-c-eq63 : goal.returns-then-c-eq63
returns-then-c-eq63 c = (
  c.in-Some.ensures.1,
  λ text. glob_one (chars c.args.self.rest.now) text c.in-Some.c (chars c.in-Some.rest.now) c.in-Some.ensures.0
      c.if-c-eq91.false c.if-c-eq42.false c.if-c-eq63.true,
)

pub returns : goal.returns
returns c = (
  c.in-Some.ensures.1,
  λ text. glob_char (chars c.args.self.rest.now) text c.in-Some.c (chars c.in-Some.rest.now) c.in-Some.ensures.0
      c.if-c-eq91.false c.if-c-eq42.false c.if-c-eq63.false,
)
