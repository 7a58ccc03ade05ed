-- Flags of the same events, and what they tell.
use Rattle.std.proofs.Common.{arith, zero, suc, ◌≡◌, ◌∙◌, ◌↔◌, ◌⊎◌, ◌≤◌, ◌<◌, ◌+◌, ◌-◌, ◌^◌, ℕ, Bool, true, false, not, inl, inr, List, [], ◌∷◌, ◌++◌, length, ap, refl, sym, subst}
use Rattle.std.proofs.lemmas.List.{length-append}
use Rattle.std.proofs.lemmas.List.Elements.{filter-append}
use Rattle.std.proofs.lemmas.List.Filters.{length-filter_both}
use Rattle.std.proofs.lemmas.Slice.Zip.{AllZip-long}
use Rattle.std.specs.Prelude.{filter, None, Option}
use Rattle.backend_core.specs.Holds.{TreeHolds}
use Rattle.backend_core.specs.Means.{Means}
use Rattle.generate_run.proofs.Turns.{carried}
use Rattle.generate_run.specs.Compared.{Flags}
use Rattle.event_schema.specs.Events.{IsEvent}
use Rattle.event_schema.specs.Lists.{EachOf}
use Rattle.event_schema.specs.Occurrence.{Occurrence}
use Rattle.event_schema.specs.Schemas.{IsSchema}
use Rattle.backend_core.specs.Schemas.{IsNamed}
use Rattle.event_schema.specs.declared.schema.Schema.{Schema}
use Rattle.event_schema.specs.declared.value.Value.{Value}
use Rattle.generate_run.proofs.Drawn.{events_on}
use Rattle.generate_run.specs.Draws.{after_three, after_events}
use Rattle.generate_run.specs.Events.{schema, events_from, events_of}
use Rattle.generate_run.specs.Rules.{rule_of}
use Rattle.lucene_lang.specs.Meaning.{LuceneSelects}
use Rattle.lucene_lang.specs.Reading as lucene
use Rattle.lucene_lang.specs.Queries as lucene_within
use Rattle.rule_lowering.specs.TreeOf.{tree_of}
use Rattle.rule_model.proofs.Iffs.{iff_then, iff_back}
use Rattle.rule_model.specs.Matching.{Matches}
use Rattle.rule_model.specs.Plain.{PlainRule}
use Rattle.sig_base.specs.declared.limits.Limits.{Limits}
use Rattle.sql_lang.specs.Reading as sql
use Rattle.sql_lang.specs.Queries as sql_within
use Rattle.sql_lang.specs.Queries.{Picks}
use Rattle.generate_run.specs.Lines.{set_in, PickedBy, sql_of, lucene_of, line_of, IsGenerated, AreCounts}
use Rattle.generate_run.specs.Subjects.{IsSubject}
use Rattle.generate_run.specs.declared.counts.Counts.{Counts}
use Rattle.backend_core.specs.Trees.{Plain}

-- ---- one list of flags

one_flag : {P : Type 0} (a b : Bool) → ((a ≡ true) ↔ P) → ((b ≡ true) ↔ P) → b ≡ a
one_flag true true p q = refl
one_flag true false p q = q.1 (p.0 refl)
one_flag false true p q = sym (p.1 (q.0 refl))
one_flag false false p q = refl

pub same_flags : (P : List (List Value) → Type 0) (events : List Occurrence) (a b : List Bool) → Flags P events a → Flags P events b → b ≡ a
same_flags P [] [] [] p q = refl
same_flags P [] [] (y ∷ ys) p q = elim q [ ]
same_flags P [] (x ∷ xs) b p q = elim p [ ]
same_flags P (e ∷ es) [] b p q = elim p [ ]
same_flags P (e ∷ es) (x ∷ xs) [] p q = elim q [ ]
same_flags P (e ∷ es) (x ∷ xs) (y ∷ ys) p q =
    ap (λ (b : Bool). b ∷ ys) (one_flag x y p.0 q.0) ∙ ap (λ (bs : List Bool). x ∷ bs) (same_flags P es xs ys p.1 q.1)

pub decided : (P : List (List Value) → Type 0) → ((row : List (List Value)) → P row ⊎ (P row → ⊥)) → (events : List Occurrence) → (flags : List Bool) × Flags P events flags
decided P each [] = ([], tt)
decided P each (e ∷ es) = by (each e.values) (decided P each es)
  where
    by : P e.values ⊎ (P e.values → ⊥) → ((flags : List Bool) × Flags P es flags) → (flags : List Bool) × Flags P (e ∷ es) flags
    by (inl holds) rest = (true ∷ rest.0, (((λ _. holds), (λ _. refl)), rest.1))
    by (inr lacks) rest = (false ∷ rest.0, (((λ set. absurd (unset set)), (λ holds. absurd (lacks holds))), rest.1))
      where
        unset : false ≡ true → ⊥
        unset set = absurd cc

few_set : (flags : List Bool) → set_in flags ≤ length flags
few_set flags =
    let both = length-filter_both (λ (flag : Bool). flag) (λ (flag : Bool). not flag) (λ _. refl) flags in
    omega (arith, both)

pub few_events : (P : List (List Value) → Type 0) (events : List Occurrence) (flags : List Bool) → Flags P events flags → set_in flags ≤ length events
few_events P events flags each =
    let many = few_set flags in
    let long = AllZip-long _ events flags each in
    omega (arith, many, long)

-- ---- three ways to the same flags

pub counted : (E P Q : List (List Value) → Type 0) (events : List Occurrence) (a b d : List Bool) (counts : Counts)
    → ((row : List (List Value)) → E row → P row ↔ Q row) → EachOf (λ (e : Occurrence). E e.values) events
    → Flags Q events a → Flags P events b → Flags P events d
    → counts.rule ≡ set_in a → counts.sqlite ≡ set_in b → counts.lucene ≡ set_in d → AreCounts P events counts
counted E P Q events a b d counts means each by_rule by_sqlite by_lucene rule sqlite lucene =
    let own : Flags P events a = carried E (λ row is. iff_back (means row is)) events a each by_rule in
    record {
      flags = a;
      each = own;
      rule = rule;
      sqlite = sqlite ∙ ap set_in (same_flags P events a b own by_sqlite);
      lucene = lucene ∙ ap set_in (same_flags P events a d own by_lucene);
      few = few_events P events a own;
    }

-- ---- some events and then more

flags_append : (P : List (List Value) → Type 0) (es fs : List Occurrence) (a b : List Bool) → Flags P es a → Flags P fs b → Flags P (es ++ fs) (a ++ b)
flags_append P [] fs [] b p q = q
flags_append P [] fs (x ∷ xs) b p q = elim p [ ]
flags_append P (e ∷ es) fs [] b p q = elim p [ ]
flags_append P (e ∷ es) fs (x ∷ xs) b p q = (p.0, flags_append P es fs xs b p.1 q)

set_append : (a b : List Bool) → set_in (a ++ b) ≡ set_in a + set_in b
set_append a b =
    ap length (filter-append (λ (flag : Bool). flag) a b) ∙ length-append (filter (λ (flag : Bool). flag) a) (filter (λ (flag : Bool). flag) b)

pub drawn_long : (x count : ℕ) → length (events_from x count) ≡ count
drawn_long x zero = refl
drawn_long x (suc count) = let rest = drawn_long (after_three x) count in omega (arith, rest)

pub nothing_counted : (P : List (List Value) → Type 0) (x n : ℕ) (counts : Counts) → n ≡ 0 → counts.rule ≡ 0 → counts.sqlite ≡ 0 → counts.lucene ≡ 0 → AreCounts P (events_from x n) counts
nothing_counted P x n counts none rule sqlite lucene =
    subst (λ (k : ℕ). AreCounts P (events_from x k) counts) (sym none) (record { flags = []; each = tt; rule = rule; sqlite = sqlite; lucene = lucene; few = omega arith })

pub more_counted : (P : List (List Value) → Type 0) (x done some all : ℕ) (counts more sum : Counts) → all ≡ done + some
    → AreCounts P (events_from x done) counts → AreCounts P (events_from (after_events x done) some) more
    → sum.rule ≡ counts.rule + more.rule → sum.sqlite ≡ counts.sqlite + more.sqlite → sum.lucene ≡ counts.lucene + more.lucene
    → AreCounts P (events_from x all) sum
more_counted P x done some all counts more sum is a b rule sqlite lucene =
    let flags = a.flags ++ b.flags in
    let both : Flags P (events_from x done ++ events_from (after_events x done) some) flags =
    flags_append P (events_from x done) (events_from (after_events x done) some) a.flags b.flags a.each b.each in
    let each : Flags P (events_from x (done + some)) flags = subst (λ (es : List Occurrence). Flags P es flags) (sym (events_on x done some)) both in
    let set = set_append a.flags b.flags in
    let rule_set : sum.rule ≡ set_in flags = let p = a.rule in let q = b.rule in omega (arith, set, rule, p, q) in
    let sqlite_set : sum.sqlite ≡ set_in flags = let p = a.sqlite in let q = b.sqlite in omega (arith, set, sqlite, p, q) in
    let lucene_set : sum.lucene ≡ set_in flags = let p = a.lucene in let q = b.lucene in omega (arith, set, lucene, p, q) in
    subst (λ (n : ℕ). AreCounts P (events_from x n) sum) (sym is)
    (record { flags = flags; each = each; rule = rule_set; sqlite = sqlite_set; lucene = lucene_set; few = few_events P (events_from x (done + some)) flags each })

pub below : (P : List (List Value) → Type 0) (x n : ℕ) (counts : Counts) → AreCounts P (events_from x n) counts → (counts.rule ≤ n) × (counts.sqlite ≤ n) × (counts.lucene ≤ n)
below P x n counts a =
    let long = drawn_long x n in
    let few = a.few in
    let p = a.rule in
    let q = a.sqlite in
    let r = a.lucene in
    (omega (arith, long, few, p), omega (arith, long, few, q), omega (arith, long, few, r))

-- ---- what is told

picked_as : {Query : Type 0} (is_query : Schema → List ℕ → Query → Type 0) (is_within : Limits → Schema → List ℕ → Query → Type 0) (picks : Query → List (List Value) → Type 0)
    (limits : Limits) (s : Schema) (Holds : List (List Value) → Type 0) (bytes : List ℕ) → Means is_query is_within picks limits s Holds bytes
    → (row : List (List Value)) → IsEvent s.fields row → Holds row ↔ ((query : Query) × is_query s bytes query × picks query row)
picked_as {Query} is_query is_within picks limits s Holds bytes means row is =
    let same = means.selects row is in
    ((λ holds. (means.query, means.reads, same.1 holds)), (λ picked. same.0 (subst (λ (q : Query). picks q row) (means.only picked.0 picked.1) picked.2)))

module _ (limits : Limits) (seed count : ℕ) where
  abbrev t : Plain
  t = tree_of schema (rule_of seed)

  abbrev Holds : List (List Value) → Type 0
  Holds row = TreeHolds row t

  pub told : EachOf (λ event. IsEvent schema.fields event.values) (events_of seed count)
      → ((row : List (List Value)) → IsEvent schema.fields row → TreeHolds row t ↔ Matches schema.fields row (rule_of seed))
      → Means sql.Reads sql_within.IsWithin Picks limits schema Holds (sql_of seed)
      → Means lucene.Reads lucene_within.IsWithin LuceneSelects limits schema Holds (lucene_of seed)
      → (flags : List Bool) → Flags Holds (events_of seed count) flags
      → IsGenerated seed count (line_of seed count (set_in flags) (set_in flags) (set_in flags))
  told events means by_sqlite by_lucene flags each = record {
    flags = flags;
    by_rule = carried (IsEvent schema.fields) means (events_of seed count) flags events each;
    by_sqlite = carried (IsEvent schema.fields) (picked_as sql.Reads sql_within.IsWithin Picks limits schema Holds (sql_of seed) by_sqlite) (events_of seed count) flags events each;
    by_lucene = carried (IsEvent schema.fields) (picked_as lucene.Reads lucene_within.IsWithin LuceneSelects limits schema Holds (lucene_of seed) by_lucene) (events_of seed count) flags events each;
    told = refl;
  }

  pub told_counts : (counts : Counts) (a : AreCounts Holds (events_of seed count) counts)
      → IsGenerated seed count (line_of seed count (set_in a.flags) (set_in a.flags) (set_in a.flags))
      → IsGenerated seed count (line_of seed count counts.rule counts.sqlite counts.lucene)
  told_counts counts a is =
      let n = set_in a.flags in
      subst (λ (k : ℕ). IsGenerated seed count (line_of seed count counts.rule counts.sqlite k)) (sym a.lucene)
      (subst (λ (k : ℕ). IsGenerated seed count (line_of seed count counts.rule k n)) (sym a.sqlite)
      (subst (λ (k : ℕ). IsGenerated seed count (line_of seed count k n n)) (sym a.rule) is))

  pub one_line : (line other : List ℕ) → IsGenerated seed count line → IsGenerated seed count other → line ≡ other
  one_line line other a b =
      let same : a.flags ≡ b.flags =
      same_flags (λ row. Matches schema.fields row (rule_of seed)) (events_of seed count) b.flags a.flags b.by_rule a.by_rule in
      a.told ∙ (ap (λ (flags : List Bool). line_of seed count (set_in flags) (set_in flags) (set_in flags)) same ∙ sym b.told)

-- ---- subjects

pub named : (s : Schema) → IsSchema s → IsNamed s
named s is = record { table = is.table; fields = is.fields; apart = is.apart; twins = is.twins }

pub subject_at : (limits : Limits) (seed : ℕ) (s : Schema) (rule : PlainRule) (tree : Plain) → s ≡ schema → rule ≡ rule_of seed → tree ≡ tree_of schema (rule_of seed)
    → IsSubject limits schema (rule_of seed) (tree_of schema (rule_of seed)) → IsSubject limits s rule tree
subject_at limits seed s rule tree is_schema is_rule is_tree subject =
    subst (λ (x : Schema). IsSubject limits x rule tree) (sym is_schema)
    (subst (λ (r : PlainRule). IsSubject limits schema r tree) (sym is_rule)
    (subst (λ (u : Plain). IsSubject limits schema (rule_of seed) u) (sym is_tree) subject))

pub each_at : (s : Schema) (events all : List Occurrence) → s ≡ schema → events ≡ all → EachOf (λ event. IsEvent schema.fields event.values) all
    → EachOf (λ event. IsEvent s.fields event.values) events
each_at s events all is_schema is_all each =
    subst (λ (x : Schema). EachOf (λ (e : Occurrence). IsEvent x.fields e.values) events) (sym is_schema)
    (subst (λ (es : List Occurrence). EachOf (λ (e : Occurrence). IsEvent schema.fields e.values) es) (sym is_all) each)

-- counts of the same events, by the same tree
pub counts_at : (u v : Plain) (es fs : List Occurrence) (counts : Counts) → u ≡ v → es ≡ fs → AreCounts (λ row. TreeHolds row u) es counts → AreCounts (λ row. TreeHolds row v) fs counts
counts_at u v es fs counts same all a =
    subst (λ (x : Plain). AreCounts (λ row. TreeHolds row x) fs counts) same
    (subst (λ (gs : List Occurrence). AreCounts (λ row. TreeHolds row u) gs counts) all a)
