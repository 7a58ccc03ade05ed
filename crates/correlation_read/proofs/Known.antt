-- A correlation that isn't refused has a type and a timespan.
use Rattle.std.proofs.Common.{ℕ, ◌≡◌, Bool, true, false, not, ◌||◌, List, [], ◌∷◌, map, refl, sym, ap, ◌∙◌}
use Rattle.std.specs.Prelude.{Option, Some, None, is_some, codes, if◌then◌else◌}
use Rattle.std.specs.Str.{bytes_eq}
use Rattle.std.proofs.lemmas.Bool.{false≢true}
use Rattle.std.proofs.lemmas.Slice.Eq.{bytes_eq-Decides}
use Rattle.sig_base.specs.declared.refusal.Refusal.{Refusal}
use Rattle.sig_base.specs.Judged.{first, must}
use Rattle.sig_base.proofs.Checks.{first_holds, must_holds}
use Rattle.yaml_tree.specs.Tree.{Tree, Member}
use Rattle.yaml_tree.specs.Nodes.{entries_in, value_in, place_of, key_place, text_in, is_map, has_key, required}
use Rattle.correlation_windows.specs.declared.bound.CorrelationKind.{CorrelationKind}
use Rattle.correlation_read.specs.Timespans.{span_of}
use Rattle.correlation_read.specs.Words.{kind_of}
use Rattle.correlation_read.specs.Checks.{keyed_refusal, entry_refusal, all_refusal, wants_condition, kind_in, kind_at, span_in, span_at}
use Rattle.correlation_read.proofs.Positions.{some_in}

-- an entry that has a value at this key, and isn't refused
pub record Holds (key : List ℕ) (refusal : Member → Option Refusal) (value : Tree) : Type 0 where
  pub entry : Member
  pub named : entry.key ≡ key
  pub holds : entry.value ≡ value
  pub passes : refusal entry ≡ None

pub entry_at : (key : List ℕ) (refusal : Member → Option Refusal) (es : List Member) (v : Tree) → value_in key es ≡ Some v → first (map refusal es) ≡ None → Holds key refusal v
entry_at key refusal [] v there none = absurd cc
entry_at key refusal (e ∷ es) v there none =
    let lines = first_holds (refusal e) (map refusal es) none in
    by (entry_at key refusal es v) (bytes_eq e.key key) refl there lines.0 lines.1
  where
    by : (value_in key es ≡ Some v → first (map refusal es) ≡ None → Holds key refusal v) → (b : Bool) → bytes_eq e.key key ≡ b
        → (if b then Some e.value else value_in key es) ≡ Some v → refusal e ≡ None → first (map refusal es) ≡ None → Holds key refusal v
    by later true same there passes none = record {
      entry = e;
      named = (bytes_eq-Decides e.key key).0 same;
      holds = ap (λ (o : Option Tree). unwrap o) there;
      passes = passes;
    } where
      unwrap : Option Tree → Tree
      unwrap None = v
      unwrap (Some t) = t
    by later false same there passes none = later there none

-- the lines of a correlation that isn't refused
pub record Lines (kind : Option CorrelationKind) (t : Tree) : Type 0 where
  pub type_there : is_some (value_in (codes "type") (entries_in t)) ≡ true
  pub span_there : is_some (value_in (codes "timespan") (entries_in t)) ≡ true
  pub entries : first (map (entry_refusal kind) (entries_in t)) ≡ None

six_hold : (a b c d e f : Option Refusal) → first (a ∷ b ∷ c ∷ d ∷ e ∷ f ∷ []) ≡ None → (b ≡ None) × (d ≡ None) × (f ≡ None)
six_hold a b c d e f none =
    let second = first_holds a (b ∷ c ∷ d ∷ e ∷ f ∷ []) none in
    let third = first_holds b (c ∷ d ∷ e ∷ f ∷ []) second.1 in
    let fourth = first_holds c (d ∷ e ∷ f ∷ []) third.1 in
    let fifth = first_holds d (e ∷ f ∷ []) fourth.1 in
    let sixth = first_holds e (f ∷ []) fifth.1 in
    (third.0, fifth.0, (first_holds f [] sixth.1).0)

pub lines_of : (kind : Option CorrelationKind) (t : Tree) → all_refusal kind t ≡ None → Lines kind t
lines_of kind t none =
    let hold = six_hold (must 140 (place_of t) (is_map t)) (required (codes "type") 140 t) (required (codes "rules") 140 t) (required (codes "timespan") 140 t)
    (must 140 (place_of t) (not (wants_condition kind) || has_key (codes "condition") t)) (first (map (entry_refusal kind) (entries_in t))) none in
    record {
      type_there = must_holds 140 (place_of t) (has_key (codes "type") t) hold.0;
      span_there = must_holds 140 (place_of t) (has_key (codes "timespan") t) hold.1;
      entries = hold.2;
    }

none_is : {A : Type 0} (o : Option A) → o ≡ None → is_some o ≡ true → ⊥
none_is o none some = false≢true (sym (ap is_some none) ∙ some)

pub kind_there : (kind : Option CorrelationKind) (t : Tree) → all_refusal kind t ≡ None → kind_at t ≡ None → ⊥
kind_there kind t none lacks =
    let l = lines_of kind t none in
    let v = some_in (value_in (codes "type") (entries_in t)) l.type_there in
    let h : Holds (codes "type") (entry_refusal kind) v.0 = entry_at (codes "type") (entry_refusal kind) (entries_in t) v.0 v.1 l.entries in
    let passes : must 140 (place_of h.entry.value) (is_some (kind_of (text_in h.entry.value))) ≡ None =
    sym (ap (λ (key : List ℕ). keyed_refusal kind key (key_place h.entry) h.entry.value) h.named) ∙ h.passes in
    none_is (kind_of (text_in v.0)) (sym (ap kind_in v.1) ∙ lacks)
    (ap (λ (u : Tree). is_some (kind_of (text_in u))) (sym h.holds) ∙ must_holds 140 (place_of h.entry.value) (is_some (kind_of (text_in h.entry.value))) passes)

pub span_there : (kind : Option CorrelationKind) (t : Tree) → all_refusal kind t ≡ None → span_at t ≡ None → ⊥
span_there kind t none lacks =
    let l = lines_of kind t none in
    let v = some_in (value_in (codes "timespan") (entries_in t)) l.span_there in
    let h : Holds (codes "timespan") (entry_refusal kind) v.0 = entry_at (codes "timespan") (entry_refusal kind) (entries_in t) v.0 v.1 l.entries in
    let passes : must 142 (place_of h.entry.value) (is_some (span_of (text_in h.entry.value))) ≡ None =
    sym (ap (λ (key : List ℕ). keyed_refusal kind key (key_place h.entry) h.entry.value) h.named) ∙ h.passes in
    none_is (span_of (text_in v.0)) (sym (ap span_in v.1) ∙ lacks)
    (ap (λ (u : Tree). is_some (span_of (text_in u))) (sym h.holds) ∙ must_holds 142 (place_of h.entry.value) (is_some (span_of (text_in h.entry.value))) passes)
