-- Targets without repeats add the same names.
use Rattle.std.proofs.Common.{ℕ, ◌≡◌, Bool, true, false, cond, ◌||◌, List, [], ◌∷◌, ◌++◌, length, refl, sym, subst, ap, ◌∙◌}
use Rattle.std.specs.Prelude.{if◌then◌else◌, drop, Option, Some, None, Result, Ok, Err, IfOk}
use Rattle.std.specs.Str.{bytes_eq}
use Rattle.std.proofs.lemmas.Slice.Eq.{bytes_eq-Decides}
use Rattle.std.proofs.lemmas.Bool.{or_right}
use Rattle.sig_base.specs.declared.refusal.Fault.{Fault}
use Rattle.pipeline_model.specs.Concerned.{is_among}
use Rattle.pipeline_model.specs.declared.step.Action.{Action}
use Rattle.pipeline_model.specs.declared.step.Action.TheVariants.{MapNames, MapPrefixes}
use Rattle.pipeline_model.specs.declared.step.Pair.{Pair}
use Rattle.pipeline_rename.specs.Names.{begins, each_before, mapped, prefixed, targets, with_name, with_names}
use Rattle.pipeline_rename.specs.Made.{pairs_in, keys_of, texts_in, once_of, once_if, AddsAs}
use Rattle.pipeline_rename.proofs.Knowing.{among_more}
use Rattle.pipeline_rename.proofs.NameLists.{with_append}
use Rattle.pipeline_rename.proofs.Fronts.{each_alone}

-- ---- a name that is there stays, and one that is added is there

same_name : (name : List ℕ) → bytes_eq name name ≡ true
same_name name = (bytes_eq-Decides name name).1 refl

among_pushed : (names : List (List ℕ)) (more name : List ℕ) → is_among names name ≡ true → is_among (names ++ more ∷ []) name ≡ true
among_pushed names more name h = among_more names more name ∙ or_right (bytes_eq more name) (is_among names name) h

among_kept : (b : Bool) (names : List (List ℕ)) (more name : List ℕ) → is_among names name ≡ true → is_among (cond b names (names ++ more ∷ [])) name ≡ true
among_kept true names more name h = h
among_kept false names more name h = among_pushed names more name h

among_stays : (names more : List (List ℕ)) (name : List ℕ) → is_among names name ≡ true → is_among (with_names names more) name ≡ true
among_stays names [] name h = h
among_stays names (m ∷ ms) name h = among_stays (with_name names m) ms name (among_kept (is_among names m) names m name h)

is_added : (b : Bool) (names : List (List ℕ)) (name : List ℕ) → is_among names name ≡ b → is_among (cond b names (names ++ name ∷ [])) name ≡ true
is_added true names name h = h
is_added false names name h = among_more names name name ∙ ap (λ (b : Bool). b || is_among names name) (same_name name)

among_each : (back x : List ℕ) (seen names : List (List ℕ)) → is_among seen x ≡ true → is_among (with_names names (each_before seen back)) (x ++ back) ≡ true
among_each back x [] names h = absurd (let f : false ≡ true = h in cc)
among_each back x (s ∷ ss) names h = by (bytes_eq s x) ((bytes_eq-Decides s x).0) h (among_each back x ss (with_name names (s ++ back)))
  where
    by : (b : Bool) → (b ≡ true → s ≡ x) → (b || is_among ss x) ≡ true
        → (is_among ss x ≡ true → is_among (with_names (with_name names (s ++ back)) (each_before ss back)) (x ++ back) ≡ true)
        → is_among (with_names (with_name names (s ++ back)) (each_before ss back)) (x ++ back) ≡ true
    by true same e rest =
        subst (λ (t : List ℕ). is_among (with_names (with_name names (s ++ back)) (each_before ss back)) (t ++ back) ≡ true) (same refl)
        (among_stays (with_name names (s ++ back)) (each_before ss back) (s ++ back) (is_added (is_among names (s ++ back)) names (s ++ back) refl))
    by false same e rest = rest e

-- ---- what is there once adds the same

each_pushed : (back x : List ℕ) (seen : List (List ℕ)) → each_before (seen ++ x ∷ []) back ≡ each_before seen back ++ (x ++ back) ∷ []
each_pushed back x [] = refl
each_pushed back x (s ∷ ss) = ap (λ (ts : List (List ℕ)). (s ++ back) ∷ ts) (each_pushed back x ss)

once_more : (b : Bool) (back x : List ℕ) (seen names : List (List ℕ)) → is_among seen x ≡ b
    → with_names names (each_before (cond b seen (seen ++ x ∷ [])) back) ≡ with_name (with_names names (each_before seen back)) (x ++ back)
once_more true back x seen names h =
    sym (ap (λ (b : Bool). cond b (with_names names (each_before seen back)) (with_names names (each_before seen back) ++ (x ++ back) ∷ [])) (among_each back x seen names h))
once_more false back x seen names h =
    ap (with_names names) (each_pushed back x seen) ∙ with_append names (each_before seen back) ((x ++ back) ∷ [])

once_behind : (back : List ℕ) (seen xs names : List (List ℕ))
    → with_names names (each_before (with_names seen xs) back) ≡ with_names (with_names names (each_before seen back)) (each_before xs back)
once_behind back seen [] names = refl
once_behind back seen (x ∷ xs) names =
    once_behind back (with_name seen x) xs names
    ∙ ap (λ (ns : List (List ℕ)). with_names ns (each_before xs back)) (once_more (is_among seen x) back x seen names refl)

adds_each : (back : List ℕ) (xs : List (List ℕ)) → AddsAs (each_before (with_names [] xs) back) (each_before xs back)
adds_each back xs = λ names. once_behind back [] xs names

adds_once : (xs : List (List ℕ)) → AddsAs (with_names [] xs) xs
adds_once xs = λ names.
    ap (with_names names) (sym (each_alone (with_names [] xs))) ∙ (adds_each [] xs names ∙ ap (with_names names) (each_alone xs))

pub same_keys : (pairs : List Pair) → keys_of (once_of pairs) ≡ keys_of pairs
same_keys [] = refl
same_keys (pair ∷ pairs) = ap (λ (ts : List (List ℕ)). pair.from ∷ ts) (same_keys pairs)

pub adds_mapped : (pairs : List Pair) (name : List ℕ) → AddsAs (mapped (once_of pairs) name) (mapped pairs name)
adds_mapped [] name = λ names. refl
adds_mapped (pair ∷ pairs) name = by (bytes_eq pair.from name) (adds_mapped pairs name)
  where
    by : (b : Bool) → AddsAs (mapped (once_of pairs) name) (mapped pairs name)
        → AddsAs (if b then with_names [] pair.to else mapped (once_of pairs) name) (if b then pair.to else mapped pairs name)
    by true rest = adds_once pair.to
    by false rest = rest

pub adds_prefixed : (pairs : List Pair) (name : List ℕ) → AddsAs (prefixed (once_of pairs) name) (prefixed pairs name)
adds_prefixed [] name = λ names. refl
adds_prefixed (pair ∷ pairs) name = by (begins pair.from name) (adds_prefixed pairs name)
  where
    by : (b : Bool) → AddsAs (prefixed (once_of pairs) name) (prefixed pairs name)
        → AddsAs (if b then each_before (with_names [] pair.to) (drop (length pair.from) name) else prefixed (once_of pairs) name)
        (if b then each_before pair.to (drop (length pair.from) name) else prefixed pairs name)
    by true rest = adds_each (drop (length pair.from) name) pair.to
    by false rest = rest

-- what adds the same as one text adds the same as an equal one
pub adds_as : {M : Type 0} (texts : M → List (List ℕ)) (r : Result M Fault) (a b : List (List ℕ)) → AddsAs a b → IfOk r (λ made. texts made ≡ a) → IfOk r (λ made. AddsAs (texts made) b)
adds_as texts (Ok made) a b adds is = λ names. ap (with_names names) is ∙ adds names
adds_as texts (Err e) a b adds is = tt

pub adds_same : {M : Type 0} (texts : M → List (List ℕ)) (r : Result M Fault) (a : List (List ℕ)) → IfOk r (λ made. texts made ≡ a) → IfOk r (λ made. AddsAs (texts made) a)
adds_same texts r a is = adds_as texts r a a (λ names. refl) is

pub mapped_adds : (action : Action) (slice pairs : List Pair) (name : List ℕ) → action ≡ MapNames pairs → slice ≡ once_of (pairs_in action) → AddsAs (mapped slice name) (targets action name)
mapped_adds action slice pairs name is same =
    subst (λ (a : Action). slice ≡ once_of (pairs_in a) → AddsAs (mapped slice name) (targets a name)) (sym is)
    (λ own. subst (λ (ps : List Pair). AddsAs (mapped ps name) (mapped pairs name)) (sym own) (adds_mapped pairs name)) same

pub prefixed_adds : (action : Action) (slice pairs : List Pair) (name : List ℕ) → action ≡ MapPrefixes pairs → slice ≡ once_of (pairs_in action) → AddsAs (prefixed slice name) (targets action name)
prefixed_adds action slice pairs name is same =
    subst (λ (a : Action). slice ≡ once_of (pairs_in a) → AddsAs (prefixed slice name) (targets a name)) (sym is)
    (λ own. subst (λ (ps : List Pair). AddsAs (prefixed ps name) (prefixed pairs name)) (sym own) (adds_prefixed pairs name)) same

pub once_used : (b : Bool) (slice pairs : List Pair) → b ≡ true → slice ≡ once_if b pairs → slice ≡ once_of pairs
once_used b slice pairs used is = is ∙ ap (λ (c : Bool). once_if c pairs) used

pub keys_are : (keys : Option (List (List ℕ))) (slice pairs : List Pair) → texts_in keys pairs ≡ keys_of pairs → slice ≡ once_of pairs → texts_in keys slice ≡ keys_of slice
keys_are None slice pairs is same = refl
keys_are (Some texts) slice pairs is same = is ∙ (sym (same_keys pairs) ∙ ap keys_of (sym same))
