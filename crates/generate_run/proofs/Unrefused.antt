-- Neither backend refuses the tree of a seed's rule, and it has few leaves.
use Rattle.std.proofs.Common.{arith, ◌≡◌, ◌∙◌, ◌≤◌, ◌<◌, ◌%◌, ℕ, List, [], ◌∷◌, Option, None, ap, refl, sym, subst, length}
use Rattle.std.specs.Prelude.{ℤ, pos, codes, min, ◌-◌, ◌^◌, ◌++◌, decimal}
use Rattle.std.proofs.lemmas.Bool.{leb-true, le-leb}
use Rattle.std.proofs.lemmas.List.{append_assoc}
use Rattle.backend_core.proofs.Checks.{rest_decides, passes}
use Rattle.backend_core.specs.Trees.{Plain}
use Rattle.generate_run.specs.Draws.{first_draw, second_draw, third_draw}
use Rattle.generate_run.specs.Events.{schema}
use Rattle.generate_run.specs.Rules.{start, rule_of}
use Rattle.generate_run.specs.Words.{word}
use Rattle.lucene_writer.specs.Queries as lucene
use Rattle.rule_lowering.specs.Refused.{count_refusal, leaves_refusal}
use Rattle.rule_lowering.specs.Leaves.{leaves}
use Rattle.rule_lowering.specs.TreeOf.{tree_of}
use Rattle.rule_model.specs.Plain.{PlainRule}
use Rattle.sig_base.specs.Judged.{first}
use Rattle.sig_base.specs.declared.limits.Limits.{Limits}
use Rattle.sig_base.specs.declared.refusal.Refusal.{Refusal}
use Rattle.sql_lang.specs.Expression.{depth}
use Rattle.sqlite_writer.specs.Queries as sqlite
use Rattle.generate_run.proofs.Lengths.{within}
use Rattle.generate_run.proofs.LuceneWritten as lucene_written
use Rattle.generate_run.proofs.Shapes.{shape, tree_is}
use Rattle.generate_run.proofs.SqlWritten as sql_written
use Rattle.generate_run.specs.Subjects.{sqlite_refusal, lucene_refusal, IsStandard}

three_none : (a b c : Option Refusal) → a ≡ None → b ≡ None → c ≡ None → first (a ∷ b ∷ c ∷ []) ≡ None
three_none a b c e f g = rest_decides a (b ∷ c ∷ []) e ∙ (rest_decides b (c ∷ []) f ∙ rest_decides c [] g)

one_end : (k : ℕ) → (decimal k ++ codes " TO *]") ++ codes ")" ≡ decimal k ++ codes " TO *])"
one_end k = append_assoc (decimal k) (codes " TO *]") (codes ")")

small_draw : (seed : ℕ) → third_draw seed % 100 < 100
small_draw seed = omega arith

module _ (limits : Limits) (standard : IsStandard limits) (seed : ℕ) where
  abbrev image : List ℕ
  image = word (first_draw seed % 8)

  abbrev user : List ℕ
  user = word (second_draw seed % 8)

  abbrev code : ℕ
  code = third_draw seed % 100

  abbrev t : Plain
  t = shape image user (pos code)

  sqlite_shape : sqlite_refusal limits schema t ≡ None
  sqlite_shape =
      let small = sql_written.small code (first_draw seed % 8) (second_draw seed % 8) in
      let deep = depth (sqlite.query_expr schema t) in
      let shallow : deep ≤ 1000 = leb-true deep 1000 small.shallow in
      let long = length (sqlite.query_bytes schema t) in
      let short : long ≤ 4194304 = within small.front [] (sqlite.query_text schema t) code small.text small.short refl (small_draw seed) in
      let at_depth : deep ≤ limits.sql_depth = subst (λ (n : ℕ). deep ≤ n) (sym standard.sql_depth) shallow in
      let at_length : long ≤ limits.query_bytes = subst (λ (n : ℕ). long ≤ n) (sym standard.query_bytes) short in
      three_none _ _ _ refl (passes 112 start (min deep (2 ^ 64 - 1)) deep limits.sql_depth at_depth) (passes 114 start long long limits.query_bytes at_length)

  lucene_shape : lucene_refusal limits schema t ≡ None
  lucene_shape =
      let small = lucene_written.small code (first_draw seed % 8) (second_draw seed % 8) in
      let deep = lucene.query_depth schema t in
      let many = lucene.query_clauses schema t in
      let shallow : deep ≤ 1000 = leb-true deep 1000 small.shallow in
      let few : many ≤ 1024 = leb-true many 1024 small.few in
      let long = length (lucene.query_bytes schema t) in
      let text = small.text ∙ ap (λ (cs : List ℕ). small.front ++ cs) (one_end code) in
      let short : long ≤ 4194304 = within small.front (codes " TO *])") (lucene.query_text schema t) code text small.short refl (small_draw seed) in
      let at_depth : deep ≤ limits.lucene_depth = subst (λ (n : ℕ). deep ≤ n) (sym standard.lucene_depth) shallow in
      let at_clauses : many ≤ limits.lucene_clauses = subst (λ (n : ℕ). many ≤ n) (sym standard.lucene_clauses) few in
      let at_length : long ≤ limits.query_bytes = subst (λ (n : ℕ). long ≤ n) (sym standard.query_bytes) short in
      let depths = passes 112 start (min deep (2 ^ 64 - 1)) deep limits.lucene_depth at_depth in
      let clauses = passes 113 start (min many (2 ^ 64 - 1)) many limits.lucene_clauses at_clauses in
      three_none _ _ _ refl (rest_decides _ (_ ∷ []) depths ∙ rest_decides _ [] clauses) (passes 114 start long long limits.query_bytes at_length)

  pub sqlite_none : sqlite_refusal limits schema (tree_of schema (rule_of seed)) ≡ None
  sqlite_none = ap (sqlite_refusal limits schema) (tree_is seed) ∙ sqlite_shape

  pub lucene_none : lucene_refusal limits schema (tree_of schema (rule_of seed)) ≡ None
  lucene_none = ap (lucene_refusal limits schema) (tree_is seed) ∙ lucene_shape

-- three leaves are few
few_leaves : (rule : PlainRule) (count limit : ℕ) → limit ≡ 16384 → count ≡ 3 → count_refusal rule.head.place count limit ≡ None
few_leaves rule count limit many three =
    let within : count ≤ limit = subst (λ (n : ℕ). count ≤ n) (sym many) (subst (λ (n : ℕ). n ≤ 16384) (sym three) (omega arith)) in
    rw (le-leb count limit within) refl

pub leaves_none : (limits : Limits) (seed : ℕ) → limits.leaves ≡ 16384 → leaves_refusal limits schema (rule_of seed) ≡ None
leaves_none limits seed many = few_leaves (rule_of seed) (leaves (tree_of schema (rule_of seed))) limits.leaves many (ap leaves (tree_is seed))
