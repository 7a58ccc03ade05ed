-- A document that isn't refused is a correlation of few rules.
use Rattle.std.proofs.Common.{ℕ, ◌≡◌, ◌≤◌, ◌⊎◌, inl, inr, true, ◌&&◌, nat_le, List, [], ◌∷◌, length, map, drop, refl, sym, ap, ◌∙◌, subst, arith}
use Rattle.std.specs.Prelude.{Option, Some, None, codes}
use Rattle.std.specs.List.{filter_map}
use Rattle.std.proofs.lemmas.Bool.{and_parts, leb-true}
use Rattle.std.proofs.lemmas.List.{length-map}
use Rattle.sig_base.specs.declared.refusal.Refusal.{Refusal}
use Rattle.sig_base.specs.Judged.{first, must}
use Rattle.sig_base.proofs.Checks.{first_holds, must_holds}
use Rattle.yaml_tree.specs.Tree.{Tree}
use Rattle.yaml_tree.specs.Nodes.{entries_in, entries_at, parts_in, value_in, place_of, text_in, text_of, text_at, is_map, has_key, required, refused_at, refused_by}
use Rattle.rule_head.specs.Heads.{head_checks, rest_of, IsHead}
use Rattle.rule_head.specs.Plain.{PlainHead}
use Rattle.correlation_read.specs.declared.document.Body.{Body}
use Rattle.correlation_read.specs.Checks.{rules_refusal, repeat_refusal, keyed_refusal, entry_refusal, body_refusal, correlation_refusal, kind_at, span_at}
use Rattle.yaml_tree.specs.Nodes.{key_place}
use Rattle.correlation_read.specs.Correlations.{PlainCorrelation, IsBody, IsSpan, texts_in, texts_at, counted_at, test_of, alias_of}
use Rattle.correlation_read.specs.Laws.{Reads}
use Rattle.correlation_read.proofs.Known.{Holds, entry_at, lines_of, kind_there, span_there}
use Rattle.correlation_read.proofs.Spans.{span_known}
use Rattle.correlation_read.proofs.Positions.{some_in}

some_else : {A : Type 0} (o : Option A) → (o ≡ None → ⊥) → (x : A) × (o ≡ Some x)
some_else None never = absurd (never refl)
some_else (Some x) never = (x, refl)

second_holds : (a b : Option Refusal) (lines : List (Option Refusal)) → first (a ∷ b ∷ lines) ≡ None → b ≡ None
second_holds a b lines none = (first_holds b lines (first_holds a (b ∷ lines) none).1).0

headed : (t : Tree) → first (head_checks t) ≡ None → (h : PlainHead) × IsHead t h
headed t none =
    let holds = must_holds 70 (place_of t) (has_key (codes "title") t)
    (second_holds (must 71 (place_of t) (is_map t)) (must 70 (place_of t) (has_key (codes "title") t)) (drop 2 (head_checks t)) none) in
    let title = some_in (value_in (codes "title") (entries_in t)) holds in (
      record { title = text_in title.0; id = text_at (codes "id") t; name = text_at (codes "name") t; place = place_of t; rest = rest_of t },
      record { title = ap text_of title.1; id = refl; name = refl; place = refl; rest = refl },
    )

bodied : (t : Tree) → body_refusal t ≡ None → (b : Body) × IsBody t b
bodied t none =
    let kind = some_else (kind_at t) (kind_there (kind_at t) t none) in
    let span = some_else (span_at t) (span_there (kind_at t) t none) in (
      record {
        kind = kind.0;
        rules = texts_at (codes "rules") t;
        group_by = texts_at (codes "group-by") t;
        span = span.0;
        condition = filter_map test_of (entries_at (codes "condition") t);
        counted = counted_at t;
        aliases = map alias_of (entries_at (codes "aliases") t);
      },
      record { kind = kind.1; rules = refl; group_by = refl; span = span.1; condition = refl; counted = refl; aliases = refl },
    )

-- the lines of a document that isn't refused
record Passes (t : Tree) : Type 0 where
  head : first (head_checks t) ≡ None
  there : has_key (codes "correlation") t ≡ true
  body : refused_by body_refusal (value_in (codes "correlation") (entries_in t)) ≡ None

passes_of : (t : Tree) → correlation_refusal t ≡ None → Passes t
passes_of t none =
    let key = required (codes "correlation") 140 t in
    let body = refused_at (codes "correlation") body_refusal t in
    let lines = first_holds (first (head_checks t)) (key ∷ body ∷ []) none in
    let more = first_holds key (body ∷ []) lines.1 in
    record { head = lines.0; there = must_holds 140 (place_of t) (has_key (codes "correlation") t) more.0; body = (first_holds body [] more.1).0 }

body_passes : (t value : Tree) → Passes t → value_in (codes "correlation") (entries_in t) ≡ Some value → body_refusal value ≡ None
body_passes t value p there = sym (ap (refused_by body_refusal) there) ∙ p.body

pub read_of : (t : Tree) → correlation_refusal t ≡ None → (c : PlainCorrelation) × Reads t c
read_of t none =
    let p = passes_of t none in
    let head = headed t p.head in
    let value = some_in (value_in (codes "correlation") (entries_in t)) p.there in
    let body = bodied value.0 (body_passes t value.0 p value.1) in (
      record {
        head = head.0;
        kind = body.0.kind;
        rules = body.0.rules;
        group_by = body.0.group_by;
        span = body.0.span;
        condition = body.0.condition;
        counted = body.0.counted;
        aliases = body.0.aliases;
        place = place_of t;
      },
      (none, record { head = head.1; value = value.0; there = value.1; body = body.1; place = refl }),
    )

pub each_read : (t : Tree) → ((c : PlainCorrelation) × Reads t c) ⊎ ((r : Refusal) × (correlation_refusal t ≡ Some r))
each_read t = by (correlation_refusal t) refl where
  by : (o : Option Refusal) → correlation_refusal t ≡ o → ((c : PlainCorrelation) × Reads t c) ⊎ ((r : Refusal) × (correlation_refusal t ≡ Some r))
  by None e = inl (read_of t e)
  by (Some r) e = inr (r, e)

-- ---- limits

parts_few : (t : Tree) → rules_refusal t ≡ None → length (parts_in t) ≤ 64
parts_few t none =
    let least = nat_le 1 (length (parts_in t)) in
    let most = nat_le (length (parts_in t)) 64 in
    let lines = first_holds (must 140 (place_of t) (least && most)) (repeat_refusal [] (parts_in t) ∷ []) none in
    leb-true (length (parts_in t)) 64 (and_parts least most (must_holds 140 (place_of t) (least && most) lines.0)).1

rules_few : (t : Tree) → body_refusal t ≡ None → length (texts_at (codes "rules") t) ≤ 64
rules_few t none = by (value_in (codes "rules") (entries_in t)) refl where
  by : (o : Option Tree) → value_in (codes "rules") (entries_in t) ≡ o → length (texts_in o) ≤ 64
  by None e = omega arith
  by (Some v) e =
      let h : Holds (codes "rules") (entry_refusal (kind_at t)) v = entry_at (codes "rules") (entry_refusal (kind_at t)) (entries_in t) v e (lines_of (kind_at t) t none).entries in
      let passes : rules_refusal h.entry.value ≡ None = sym (ap (λ (key : List ℕ). keyed_refusal (kind_at t) key (key_place h.entry) h.entry.value) h.named) ∙ h.passes in
      let few = parts_few v (sym (ap rules_refusal h.holds) ∙ passes) in
      let same = length-map (parts_in v) text_in in
      omega (arith, few, same)

pub read_within : (t : Tree) (c : PlainCorrelation) → Reads t c → (length c.rules ≤ 64) × IsSpan c.span
read_within t c reads =
    let few = rules_few reads.1.value (body_passes t reads.1.value (passes_of t reads.0) reads.1.there) in (
      subst (λ (texts : List (List ℕ)). length texts ≤ 64) (sym reads.1.body.rules) few,
      span_known reads.1.value c.span reads.1.body.span,
    )
