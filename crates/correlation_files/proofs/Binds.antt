-- Correlations that are judged one after another.
use Rattle.std.proofs.Common.{◌≡◌, ℕ, zero, suc, ◌+◌, ◌<◌, ◌≤◌, ◌^◌, List, [], ◌∷◌, ◌++◌, length, map, take, get_or, refl, ap, sym, ◌∙◌, subst, arith, append-nil, Result, Ok, Err, Some, None, IfOk, OnOk}
use Rattle.std.proofs.lemmas.List.{map-append, length-map, take_all}
use Rattle.std.specs.List.{AllZip, AllByRecursion}
use Rattle.correlation_engine.specs.Limits.{IsWithinLimits}
use Rattle.correlation_read.specs.Binding.{Names, names_of_head, bind_refusal, IsBound}
use Rattle.correlation_read.specs.Correlations.{PlainCorrelation, correlation_view, correlation_with}
use Rattle.correlation_read.specs.Laws.{BoundWithin}
use Rattle.correlation_windows.specs.declared.bound.Bound.{Bound}
use Rattle.event_schema.specs.declared.schema.Field.{Field}
use Rattle.event_schema.specs.declared.schema.Schema.{Schema}
use Rattle.rule_regex.proofs.Lists.{each_joined}
use Rattle.rule_head.specs.declared.head.Head.{Head}
use Rattle.rule_model.specs.Plain.{PlainRule}
use Rattle.sig_base.specs.declared.refusal.Fault.{Fault}
use Rattle.sig_base.specs.declared.refusal.Refusal.{Refusal}
use Rattle.correlation_files.specs.Bindings.{Verdict, IsVerdict, AreJudged, bounds_in, names_in, unbound_in, shown_name}
use Rattle.correlation_files.specs.Bound.{AreKept}
use Rattle.correlation_files.specs.Found.{Named, IsKept, StandsFor, names_of_rules}
use Rattle.correlation_files.specs.declared.bindings.Bindings.{Bindings}
use Rattle.correlation_files.specs.declared.bindings.Unbound.{Unbound}
use Rattle.correlation_files.specs.declared.found.Found.{Found}
use Rattle.correlation_files.specs.declared.found.Sourced.{Sourced}

-- ---- verdicts that follow one another

bounds_joined : (xs ys : List (Named × Verdict)) → bounds_in (xs ++ ys) ≡ bounds_in xs ++ bounds_in ys
bounds_joined [] ys = refl
bounds_joined ((c, Ok b) ∷ xs) ys = ap (λ (l : List Bound). b ∷ l) (bounds_joined xs ys)
bounds_joined ((c, Err r) ∷ xs) ys = bounds_joined xs ys

names_joined : (xs ys : List (Named × Verdict)) → names_in (xs ++ ys) ≡ names_in xs ++ names_in ys
names_joined [] ys = refl
names_joined ((c, Ok b) ∷ xs) ys = ap (λ (l : List (List ℕ)). shown_name c.1 ∷ l) (names_joined xs ys)
names_joined ((c, Err r) ∷ xs) ys = names_joined xs ys

unbound_joined : (xs ys : List (Named × Verdict)) → unbound_in (xs ++ ys) ≡ unbound_in xs ++ unbound_in ys
unbound_joined [] ys = refl
unbound_joined ((c, Ok b) ∷ xs) ys = unbound_joined xs ys
unbound_joined ((c, Err r) ∷ xs) ys = ap (λ (l : List (List ℕ × Refusal)). (c.0, r) ∷ l) (unbound_joined xs ys)

abbrev cause : Unbound → List ℕ × Refusal
cause u = (u.file, u.refusal)

all_more : {A : Type 0} (P : A → Type 0) (xs : List A) (y : A) → AllByRecursion P xs → P y → AllByRecursion P (xs ++ y ∷ [])
all_more P [] y all one = (one, tt)
all_more P (x ∷ xs) y all one = (all.0, all_more P xs y all.1 one)

-- ---- one more

module _ (all : List Names) (fields : List Field) (c : Named) (s : Sourced) (judged : List (Named × Verdict)) (old new : Bindings) (kept : IsKept c s) (so_far : AreKept judged old) where
  abbrev IsJudged : Type 0
  IsJudged = (v : Verdict) × IsVerdict all fields c v × AreKept (judged ++ (c, v) ∷ []) new

  -- the entries that the head doesn't keep decide nothing
  whole_bound : (b : Bound) → IsBound all fields (correlation_view s.correlation) b → IsBound all fields (correlation_with kept.bare.0 (correlation_view s.correlation)) b
  whole_bound b is = record { kind = is.kind; rules = is.rules; groups = is.groups; span = is.span; condition = is.condition; counted = is.counted }

  bound_next : (b : Bound) → BoundWithin → new.bounds.items ≡ old.bounds.items ++ b ∷ [] → new.names.items ≡ old.names.items ++ shown_name (correlation_view s.correlation) ∷ []
      → new.unbound.items ≡ old.unbound.items → (bind_refusal all fields (correlation_view s.correlation) ≡ None) × IsBound all fields (correlation_view s.correlation) b → IsJudged
  bound_next b within bounds names unbound is =
      let sound = within all fields (correlation_view s.correlation) b kept.few kept.span is.1 in (
        Ok b,
        subst (λ (p : PlainCorrelation). (bind_refusal all fields p ≡ None) × IsBound all fields p b) kept.bare.1 (is.0, whole_bound b is.1),
        record {
          bounds = bounds ∙ (ap (λ (l : List Bound). l ++ b ∷ []) so_far.bounds ∙ sym (bounds_joined judged ((c, Ok b) ∷ [])));
          names = names ∙ (ap (λ (l : List (List ℕ)). l ++ shown_name (correlation_view s.correlation) ∷ []) so_far.names
              ∙ (ap (λ (p : PlainCorrelation). names_in judged ++ shown_name p ∷ []) kept.bare.1 ∙ sym (names_joined judged ((c, Ok b) ∷ []))));
          unbound = ap (map cause) unbound ∙ (so_far.unbound ∙ (sym (append-nil (unbound_in judged)) ∙ sym (unbound_joined judged ((c, Ok b) ∷ []))));
          within = subst (AllByRecursion IsWithinLimits) (sym bounds)
              (all_more IsWithinLimits old.bounds.items b so_far.within (record { rules = sound.0; positive = sound.1.0; span = sound.1.1 }));
        },
      )

  unbound_next : (r : Refusal) → new.bounds.items ≡ old.bounds.items → new.names.items ≡ old.names.items
      → new.unbound.items ≡ old.unbound.items ++ record { file = s.file; refusal = r } ∷ [] → bind_refusal all fields (correlation_view s.correlation) ≡ Some r → IsJudged
  unbound_next r bounds names unbound is = (
    Err r,
    ap (bind_refusal all fields) (sym kept.bare.1) ∙ is,
    record {
      bounds = bounds ∙ (so_far.bounds ∙ (sym (append-nil (bounds_in judged)) ∙ sym (bounds_joined judged ((c, Err r) ∷ []))));
      names = names ∙ (so_far.names ∙ (sym (append-nil (names_in judged)) ∙ sym (names_joined judged ((c, Err r) ∷ []))));
      unbound = ap (map cause) unbound ∙ (map-append cause old.unbound.items (record { file = s.file; refusal = r } ∷ [])
          ∙ (ap (λ (l : List (List ℕ × Refusal)). l ++ (s.file, r) ∷ []) so_far.unbound
          ∙ (ap (λ (f : List ℕ). unbound_in judged ++ (f, r) ∷ []) kept.file ∙ sym (unbound_joined judged ((c, Err r) ∷ [])))));
      within = subst (AllByRecursion IsWithinLimits) (sym bounds) so_far.within;
    },
  )

  -- a correlation that is bound is added, unless memory is missing
  pub bound_added : (b : Bound) (result : Result (Unit {0}) Fault) → BoundWithin → OnOk result (new.bounds.items ≡ old.bounds.items ++ b ∷ [])
      → OnOk result (new.names.items ≡ old.names.items ++ shown_name (correlation_view s.correlation) ∷ []) → OnOk result (new.unbound.items ≡ old.unbound.items)
      → (bind_refusal all fields (correlation_view s.correlation) ≡ None) × IsBound all fields (correlation_view s.correlation) b → OnOk result IsJudged
  bound_added b (Ok done) within bounds names unbound is = bound_next b within bounds names unbound is
  bound_added b (Err e) within bounds names unbound is = tt

  -- and so is the cause for which one isn't
  pub unbound_added : (r : Refusal) (result : Result (Unit {0}) Fault) → OnOk result (new.bounds.items ≡ old.bounds.items) → OnOk result (new.names.items ≡ old.names.items)
      → OnOk result (new.unbound.items ≡ old.unbound.items ++ record { file = s.file; refusal = r } ∷ []) → bind_refusal all fields (correlation_view s.correlation) ≡ Some r → OnOk result IsJudged
  unbound_added r (Ok done) bounds names unbound is = unbound_next r bounds names unbound is
  unbound_added r (Err e) bounds names unbound is = tt

-- ---- one after another

-- the element beside one, and what is taken with it
zip_at : {A B : Type 0} (R : A → B → Type 0) (xs : List A) (ys : List B) (i : ℕ) (y : B) → AllZip R xs ys → i < length ys → y ≡ get_or ys i y
    → (x : A) × R x y × (take (i + 1) xs ≡ take i xs ++ x ∷ [])
zip_at R [] [] i y zip below is = absurd (omega (arith, below))
zip_at R [] (z ∷ ys) i y zip below is = absurd zip
zip_at R (x ∷ xs) [] i y zip below is = absurd zip
zip_at R (x ∷ xs) (z ∷ ys) zero y zip below is = (x, subst (λ (w : _). R x w) (sym is) zip.0, refl)
zip_at {A} R (x ∷ xs) (z ∷ ys) (suc i) y zip below is =
    let more = zip_at R xs ys i y zip.1 (omega (arith, below)) is in
    let later : suc i + 1 ≡ suc (i + 1) = omega arith in
    (more.0, more.1, ap (λ (n : ℕ). take n (x ∷ xs)) later ∙ ap (λ (l : List A). x ∷ l) more.2)

zip_length : {A B : Type 0} (R : A → B → Type 0) (xs : List A) (ys : List B) → AllZip R xs ys → length xs ≡ length ys
zip_length R [] [] zip = refl
zip_length R [] (y ∷ ys) zip = absurd zip
zip_length R (x ∷ xs) [] zip = absurd zip
zip_length R (x ∷ xs) (y ∷ ys) zip = ap (λ (n : ℕ). suc n) (zip_length R xs ys zip.1)

bounds_few : (judged : List (Named × Verdict)) → length (bounds_in judged) ≤ length judged
bounds_few [] = omega arith
bounds_few ((c, Ok b) ∷ judged) = let few = bounds_few judged in omega (arith, few)
bounds_few ((c, Err r) ∷ judged) = let few = bounds_few judged in omega (arith, few)

abbrev pub AllJudged : List Names → List Field → List Named → Bindings → Type 0
AllJudged all fields cs b = (judged : List (Named × Verdict)) × AreJudged all fields cs judged × AreKept judged b

module _ (all : List Names) (fields : List Field) (ss : List Sourced) (cs : List Named) (zip : AllZip IsKept cs ss) where
  pub judged_next : (i : ℕ) (s : Sourced) (old new : Bindings) → i < length ss → s ≡ get_or ss i s → AllJudged all fields (take i cs) old
      → ((c : Named) (judged : List (Named × Verdict)) → IsKept c s → AreKept judged old → (v : Verdict) × IsVerdict all fields c v × AreKept (judged ++ (c, v) ∷ []) new)
      → AllJudged all fields (take (i + 1) cs) new
  judged_next i s old new below is so_far judge =
      let at = zip_at IsKept cs ss i s zip below is in
      let one = judge at.0 so_far.0 at.1 so_far.2 in (
        so_far.0 ++ (at.0, one.0) ∷ [],
        record {
          of = map-append (λ (j : Named × Verdict). j.0) so_far.0 ((at.0, one.0) ∷ []) ∙ (ap (λ (l : List Named). l ++ at.0 ∷ []) so_far.1.of ∙ sym at.2);
          each = each_joined (λ (j : Named × Verdict). IsVerdict all fields j.0 j.1) so_far.0 ((at.0, one.0) ∷ []) so_far.1.each (one.1, tt);
        },
        one.2,
      )

  pub judged_end : (i : ℕ) (b : Bindings) → length ss ≤ i → AllJudged all fields (take i cs) b → AllJudged all fields cs b
  judged_end i b past so_far =
      let same : length cs ≡ length ss = zip_length IsKept cs ss zip in
      subst (λ (l : List Named). AllJudged all fields l b) (take_all i cs (omega (arith, past, same))) so_far

-- ---- all of them

pub all_bound : (heads : List Head) (rules : List PlainRule) (fields : List Field) (ss : List Sourced) (cs : List Named) (result : Result Bindings Fault)
    → map names_of_head heads ≡ names_of_rules rules → AllZip IsKept cs ss → length ss < 2 ^ 32 → IfOk result (λ b. AllJudged (map names_of_head heads) fields cs b)
    → IfOk result (λ b. (judged : List (Named × Verdict)) × AreJudged (names_of_rules rules) fields cs judged × (b.bounds.items ≡ bounds_in judged) × (b.names.items ≡ names_in judged)
    × (map (λ u. (u.file, u.refusal)) b.unbound.items ≡ unbound_in judged) × AllByRecursion IsWithinLimits b.bounds.items × (length b.bounds.items < 2 ^ 32))
all_bound heads rules fields ss cs (Ok b) names zip few (judged, are, kept) =
    let bounds : length b.bounds.items ≡ length (bounds_in judged) = ap length kept.bounds in
    let less = bounds_few judged in
    let as_many : length judged ≡ length cs = sym (length-map judged (λ (j : Named × Verdict). j.0)) ∙ ap length are.of in
    let same : length cs ≡ length ss = zip_length IsKept cs ss zip in
    (judged, subst (λ (ns : List Names). AreJudged ns fields cs judged) names are, kept.bounds, kept.names, kept.unbound, kept.within, omega (arith, bounds, less, as_many, same, few))
all_bound heads rules fields ss cs (Err e) names zip few h = tt

-- of what was found, whose parts the code reads as slices
pub found_bound : (schema : Schema) (found : Found) (heads : List Head) (ss : List Sourced) (rules : List PlainRule) (cs : List Named) (result : Result Bindings Fault)
    → heads ≡ found.heads.items → ss ≡ found.correlations.items → length ss < 2 ^ 32 → StandsFor schema rules cs found
    → ((all : List Named) → AllZip IsKept all ss → IfOk result (λ b. AllJudged (map names_of_head heads) schema.fields all b))
    → IfOk result (λ b. (judged : List (Named × Verdict)) × AreJudged (names_of_rules rules) schema.fields cs judged × (b.bounds.items ≡ bounds_in judged) × (b.names.items ≡ names_in judged)
    × (map (λ u. (u.file, u.refusal)) b.unbound.items ≡ unbound_in judged) × AllByRecursion IsWithinLimits b.bounds.items × (length b.bounds.items < 2 ^ 32))
found_bound schema found heads ss rules cs result heads_are ss_are few stands h =
    let zip : AllZip IsKept cs ss = subst (AllZip IsKept cs) (sym ss_are) stands.kept in
    all_bound heads rules schema.fields ss cs result (ap (map names_of_head) heads_are ∙ stands.names) zip few (h cs zip)
