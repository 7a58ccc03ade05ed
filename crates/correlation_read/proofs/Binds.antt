-- A correlation that isn't refused is bound, and in one way.
use Rattle.std.proofs.Common.{ℕ, ◌≡◌, ◌⊎◌, inl, inr, true, List, [], ◌∷◌, length, refl, sym, ap, ◌∙◌}
use Rattle.std.specs.Prelude.{Option, Some, None, option_map, ℤ}
use Rattle.std.specs.List.{AllZip, list_all}
use Rattle.std.proofs.lemmas.Bool.{and_parts}
use Rattle.sig_base.specs.declared.refusal.Refusal.{Refusal}
use Rattle.sig_base.proofs.Checks.{first_holds, must_holds}
use Rattle.event_schema.specs.declared.schema.Field.{Field}
use Rattle.schema_index.specs.Numbers.{number_of}
use Rattle.correlation_windows.specs.declared.bound.Bound.{Bound}
use Rattle.correlation_windows.specs.declared.bound.CorrelationKind.{CorrelationKind}
use Rattle.correlation_windows.specs.declared.bound.Op.{Op}
use Rattle.correlation_read.specs.Correlations.{PlainCorrelation}
use Rattle.correlation_read.specs.Binding.{Names, rule_number, is_there, rules_refusal, groups_refusal, bind_refusal, groups_of, IsNumbered, IsBound, IsWithin}
use Rattle.correlation_read.specs.Laws.{Binds}
use Rattle.correlation_read.proofs.Bounds.{all_there}
use Rattle.correlation_read.proofs.Positions.{some_in}

numbers_of : (names : List Names) (texts : List (List ℕ)) → list_all (is_there names) texts ≡ true → (numbers : List ℕ) × AllZip (IsNumbered names) texts numbers
numbers_of names [] all = ([], tt)
numbers_of names (text ∷ texts) all =
    let parts = and_parts (is_there names text) (list_all (is_there names) texts) all in
    let number = some_in (rule_number names text) parts.0 in
    let numbers = numbers_of names texts parts.1 in
    (number.0 ∷ numbers.0, (number.1, numbers.1))

bound_of : (names : List Names) (fields : List Field) (c : PlainCorrelation) → bind_refusal names fields c ≡ None → (b : Bound) × Binds names fields c b
bound_of names fields c none =
    let lines = first_holds (rules_refusal names c) (groups_refusal fields c ∷ []) none in
    let numbers = numbers_of names c.rules (must_holds 141 c.place (list_all (is_there names) c.rules) lines.0) in (
      record {
        kind = c.kind;
        rules = numbers.0;
        groups = groups_of fields c;
        span = c.span;
        condition = c.condition;
        counted = option_map (number_of fields) c.counted;
      },
      (none, record { kind = refl; rules = numbers.1; groups = refl; span = refl; condition = refl; counted = refl }),
    )

pub each_bound : (names : List Names) (fields : List Field) (c : PlainCorrelation)
    → ((b : Bound) × Binds names fields c b) ⊎ ((r : Refusal) × (bind_refusal names fields c ≡ Some r))
each_bound names fields c = by (bind_refusal names fields c) refl where
  by : (o : Option Refusal) → bind_refusal names fields c ≡ o → ((b : Bound) × Binds names fields c b) ⊎ ((r : Refusal) × (bind_refusal names fields c ≡ Some r))
  by None e = inl (bound_of names fields c e)
  by (Some r) e = inr (r, e)

-- ---- one

some_same : (o : Option ℕ) (m n : ℕ) → o ≡ Some m → o ≡ Some n → m ≡ n
some_same o m n p q = cc

numbers_one : (names : List Names) (texts : List (List ℕ)) (ms ns : List ℕ) → AllZip (IsNumbered names) texts ms → AllZip (IsNumbered names) texts ns → ms ≡ ns
numbers_one names [] [] [] p q = refl
numbers_one names [] [] (n ∷ ns) p q = absurd q
numbers_one names [] (m ∷ ms) ns p q = absurd p
numbers_one names (text ∷ texts) [] ns p q = absurd p
numbers_one names (text ∷ texts) (m ∷ ms) [] p q = absurd q
numbers_one names (text ∷ texts) (m ∷ ms) (n ∷ ns) p q =
    ap (λ (k : ℕ). k ∷ ms) (some_same (rule_number names text) m n p.0 q.0) ∙ ap (λ (ks : List ℕ). n ∷ ks) (numbers_one names texts ms ns p.1 q.1)

same_bound : (a b : Bound) → a.kind ≡ b.kind → a.rules ≡ b.rules → a.groups ≡ b.groups → a.span ≡ b.span → a.condition ≡ b.condition → a.counted ≡ b.counted → a ≡ b
same_bound a b k r g s t n =
    let put : CorrelationKind → List ℕ → List (List ℕ) → ℤ → List (Op × ℕ) → Option ℕ → Bound =
    λ k r g s t n. record { kind = k; rules = r; groups = g; span = s; condition = t; counted = n } in
    ap (λ x. put x a.rules a.groups a.span a.condition a.counted) k
    ∙ (ap (λ x. put b.kind x a.groups a.span a.condition a.counted) r
    ∙ (ap (λ x. put b.kind b.rules x a.span a.condition a.counted) g
    ∙ (ap (λ x. put b.kind b.rules b.groups x a.condition a.counted) s
    ∙ (ap (λ x. put b.kind b.rules b.groups b.span x a.counted) t ∙ ap (put b.kind b.rules b.groups b.span b.condition) n))))

pub bound_one : (names : List Names) (fields : List Field) (c : PlainCorrelation) (a b : Bound) → IsBound names fields c a → IsBound names fields c b → a ≡ b
bound_one names fields c a b p q =
    same_bound a b (p.kind ∙ sym q.kind) (numbers_one names c.rules a.rules b.rules p.rules q.rules) (p.groups ∙ sym q.groups) (p.span ∙ sym q.span)
    (p.condition ∙ sym q.condition) (p.counted ∙ sym q.counted)

pub bound_there : (names : List Names) (fields : List Field) (c : PlainCorrelation) (b : Bound) → Binds names fields c b → IsWithin (length names) (length fields) b
bound_there names fields c b binds =
    let lines = first_holds (rules_refusal names c) (groups_refusal fields c ∷ []) binds.0 in
    all_there names fields c b (first_holds (groups_refusal fields c) [] lines.1).0 binds.1.rules binds.1.groups binds.1.counted
