use Rattle.std.proofs.Common.{◌≡◌, ◌∙◌, ap, sym, ◌<◌, length, arith, ℕ, ◌∷◌, List, []}
use Rattle.std.proofs.lemmas.Str.{chars-nil}
use Rattle.std.specs.Str.{chars}
use Rattle.sql_like.proofs.Fronts.{like_ends, like_lone, like_escaped, like_runs, like_one, like_char}
use Rattle.sql_like.proofs.like.LikePatternCursor.step.Goals as goal

pub returns-in_default : goal.returns-in_default
returns-in_default c = λ text. like_ends c.args.self.escape (chars c.args.self.rest.now) text (ap chars c.in_default.ensures ∙ chars-nil)

pub returns-in_default-first_char : goal.returns-in_default-first_char
returns-in_default-first_char c =
    let none : chars c.in-Some.rest.now ≡ [] = ap chars c.in_default-first_char.ensures ∙ chars-nil in
    λ text. like_lone c.args.self.escape (chars c.args.self.rest.now) text c.in-Some.c
    (c.in-Some.ensures.0 ∙ ap (λ (cs : List ℕ). c.in-Some.c ∷ cs) none) (sym c.is_escape.ensures ∙ c.if-is_escape.true)

pub returns-then-is_escape : goal.returns-then-is_escape
returns-then-is_escape c =
    let near : length c.in-Some.rest.now < length c.args.self.rest.now = c.in-Some.ensures.1 in
    let nearer : length c.in-Some-first_char.behind.now < length c.in-Some.rest.now = c.in-Some-first_char.ensures.1 in (
      omega arith,
      λ text. like_escaped c.args.self.escape (chars c.args.self.rest.now) text c.in-Some.c c.in-Some-first_char.d (chars c.in-Some-first_char.behind.now)
          (c.in-Some.ensures.0 ∙ ap (λ (cs : List ℕ). c.in-Some.c ∷ cs) c.in-Some-first_char.ensures.0) (sym c.is_escape.ensures ∙ c.if-is_escape.true),
    )

pub returns-then-c-eq37 : goal.returns-then-c-eq37
returns-then-c-eq37 c = (
  c.in-Some.ensures.1,
  λ text. like_runs c.args.self.escape (chars c.args.self.rest.now) text c.in-Some.c (chars c.in-Some.rest.now) c.in-Some.ensures.0
      (sym c.is_escape.ensures ∙ c.if-is_escape.false) c.if-c-eq37.true,
)

pub returns-then-c-eq95 : goal.returns-then-c-eq95
returns-then-c-eq95 c = (
  c.in-Some.ensures.1,
  λ text. like_one c.args.self.escape (chars c.args.self.rest.now) text c.in-Some.c (chars c.in-Some.rest.now) c.in-Some.ensures.0
      (sym c.is_escape.ensures ∙ c.if-is_escape.false) c.if-c-eq37.false c.if-c-eq95.true,
)

pub returns : goal.returns
returns c = (
  c.in-Some.ensures.1,
  λ text. like_char c.args.self.escape (chars c.args.self.rest.now) text c.in-Some.c (chars c.in-Some.rest.now) c.in-Some.ensures.0
      (sym c.is_escape.ensures ∙ c.if-is_escape.false) c.if-c-eq37.false c.if-c-eq95.false,
)
