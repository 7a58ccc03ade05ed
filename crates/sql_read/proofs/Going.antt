-- The walk over a query: what is looked at in a piece follows what was looked at before it.
use Rattle.std.specs.Prelude.{Result, Ok, Err, IfOk, IfErr}
use Rattle.std.proofs.Common.{ℕ, zero, suc, ◌≡◌, ◌+◌, ◌<◌, get_or, refl, sym, ◌∙◌, ap, subst, List, [], ◌∷◌, ◌++◌, length, drop, map, append-nil, append_assoc, length-append, inl, inr, arith}
use Rattle.std.proofs.lemmas.List.{drop-drop, map-append, drop_more}
use Rattle.sig_base.specs.declared.refusal.Place.{Place}
use Rattle.sig_base.specs.declared.refusal.Fault.{Fault}
use Rattle.sig_base.specs.declared.refusal.Fault.TheVariants.{Memory, Refused}
use Rattle.sig_base.specs.declared.refusal.Refusal.{Refusal}
use Rattle.event_schema.specs.declared.schema.Field.{Field}
use Rattle.query_tokens.specs.Places.{At}
use Rattle.sql_lang.specs.Tokens.{Sort, Word, Closing, AND, OR}
use Rattle.sql_lang.specs.Grammar.{Nots, Ands, Ors, enclosed, spell_nots, spell_and, spell_or}
use Rattle.sql_lang.specs.Expression.{Expr, Exprs, Not, And, Or, an_expr, not_expr, and_expr, and_exprs, or_expr, or_exprs}
use Rattle.sql_lang.specs.Machine.{negated, and_of, or_of}
use Rattle.sql_lang.specs.declared.query.Expr as query
use Rattle.sql_lang.specs.View.{expr_view, exprs_of}
use Rattle.sql_scan.specs.View.{places_view}
use Rattle.sql_parse.specs.declared.syntax.Nots as syntax
use Rattle.sql_parse.specs.declared.syntax.Ands as syntax_ands
use Rattle.sql_parse.specs.declared.syntax.Core.TheFolds.{fold_out-Nots}
use Rattle.sql_parse.specs.View.{core_view, nots_view, ands_view, core_step, ands_step, nots_step, ors_step}
use Rattle.sql_read.specs.declared.expressions.Walked.{Walked}
use Rattle.sql_read.specs.Checks.{Check, Sure, Builds, StopsFor, AreBuilt, Leads, not_checks, and_checks, or_checks}
use Rattle.sql_read.specs.declared.expressions.Chain.{Chain}
use Rattle.sql_read.specs.Chains.{and_list, or_list, nots_on}
use Rattle.sql_read.specs.Walks.{WalkStops, WalkAnswers, IsPassed, AndBuilt, OrBuilt, nots_size, ands_size}

-- ---- pieces behind pieces

built_both : (xs ys : List Check) → AreBuilt xs → AreBuilt ys → AreBuilt (xs ++ ys)
built_both [] ys first second = second
built_both (Sure f ∷ xs) ys first second = absurd first
built_both (Builds p ∷ xs) ys first second = (first.0, built_both xs ys first.1 second)

module _ (before after : List (List ℕ)) where
  stops_first : (r : Refusal) (xs ys : List Check) → StopsFor before after r xs → StopsFor before after r (xs ++ ys)
  stops_first r [] ys h = absurd h
  stops_first r (Sure f ∷ xs) ys h = h
  stops_first r (Builds p ∷ xs) ys (inl h) = inl h
  stops_first r (Builds p ∷ xs) ys (inr (is, h)) = inr (is, stops_first r xs ys h)

  stops_later : (r : Refusal) (xs ys : List Check) → AreBuilt xs → StopsFor before after r ys → StopsFor before after r (xs ++ ys)
  stops_later r [] ys built h = h
  stops_later r (Sure f ∷ xs) ys built h = absurd built
  stops_later r (Builds p ∷ xs) ys built h = inr (built.0, stops_later r xs ys built.1 h)

  pub walk_first : (stop : Fault) (xs ys : List Check) → WalkStops before after xs stop → WalkStops before after (xs ++ ys) stop
  walk_first Memory xs ys h = h
  walk_first (Refused r) xs ys h = stops_first r xs ys h

  pub walk_later : (stop : Fault) (xs ys : List Check) → AreBuilt xs → WalkStops before after ys stop → WalkStops before after (xs ++ ys) stop
  walk_later Memory xs ys built h = h
  walk_later (Refused r) xs ys built h = stops_later r xs ys built h

leads_start : (all : List Check) → Leads all all
leads_start all = record { passed = []; parts = refl; built = tt }

leads_on : (xs ys all : List Check) → Leads (xs ++ ys) all → AreBuilt xs → Leads ys all
leads_on xs ys all l built = record { passed = l.passed ++ xs; parts = l.parts ∙ sym (append_assoc l.passed xs ys); built = built_both l.passed xs l.built built }

leads_stop : (before mid after : List (List ℕ)) (stop : Fault) (rest all : List Check) → Leads rest all → mid ≡ before → WalkStops mid after rest stop → WalkStops before after all stop
leads_stop before mid after stop rest all l same h =
    subst (λ (cs : List Check). WalkStops before after cs stop) (sym l.parts)
    (walk_later before after stop l.passed rest l.built (subst (λ (m : List (List ℕ)). WalkStops m after rest stop) same h))

leads_built : (rest all : List Check) → Leads rest all → AreBuilt rest → AreBuilt all
leads_built rest all l h = subst AreBuilt (sym l.parts) (built_both l.passed rest l.built h)

-- ---- chains

one_drop : (n : ℕ) (ps : List At) → drop 1 (drop n ps) ≡ drop (suc n) ps
one_drop n ps = drop-drop 1 n ps ∙ ap (λ (k : ℕ). drop k ps) (let e : n + 1 ≡ suc n = omega arith in e)

module _ {A : Type 0} (checks : A → List At → List Check) (size : A → ℕ) where
  abbrev chain_checks : List A → A → List At → List Check
  chain_checks [] last ps = checks last ps
  chain_checks (x ∷ xs) last ps = checks x ps ++ chain_checks xs last (drop (suc (size x)) ps)

module _ {A : Type 0} (size : A → ℕ) where
  abbrev chain_behind : List A → A → List At → List At
  chain_behind [] last ps = drop (size last) ps
  chain_behind (x ∷ xs) last ps = chain_behind xs last (drop (suc (size x)) ps)

module _ {X A : Type 0} (view : X → A) (checks : A → List At → List Check) (size : A → ℕ) (expr : A → Expr) (whole : List X) (start : List At) where
  -- these are left, from these places, when so much is made
  pub record Going (left : List X) (ps : List At) (done : List query.Expr) : Type 0 where
    pub leads : (last : A) → Leads (chain_checks checks size (map view left) last ps) (chain_checks checks size (map view whole) last start)
    pub after : (last : A) → chain_behind size (map view left) last ps ≡ chain_behind size (map view whole) last start
    pub made : map expr_view done ++ map expr (map view left) ≡ map expr (map view whole)

  pub begins : (done : List query.Expr) → done ≡ [] → Going whole start done
  begins done none = record {
    leads = λ last. leads_start (chain_checks checks size (map view whole) last start);
    after = λ last. refl;
    made = ap (λ (es : List query.Expr). map expr_view es ++ map expr (map view whole)) none;
  }

  pub goes : (left more : List X) (x : X) (ps qs rs : List At) (done new : List query.Expr) (e : query.Expr) → Going left ps done → left ≡ x ∷ more
      → AreBuilt (checks (view x) ps) → expr_view e ≡ expr (view x) → qs ≡ drop (size (view x)) ps → rs ≡ drop 1 qs → new ≡ done ++ e ∷ [] → Going more rs new
  goes left more x ps qs rs done new e g is built here behind one pushed =
      let at : rs ≡ drop (suc (size (view x))) ps = one ∙ (ap (drop 1) behind ∙ one_drop (size (view x)) ps) in
      record {
        leads = λ last. leads_on (checks (view x) ps) (chain_checks checks size (map view more) last rs) (chain_checks checks size (map view whole) last start)
            (subst (λ (us : List At). Leads (checks (view x) ps ++ chain_checks checks size (map view more) last us) (chain_checks checks size (map view whole) last start)) (sym at)
            (subst (λ (xs : List X). Leads (chain_checks checks size (map view xs) last ps) (chain_checks checks size (map view whole) last start)) is (g.leads last))) built;
        after = λ last. ap (chain_behind size (map view more) last) at ∙ (ap (λ (xs : List X). chain_behind size (map view xs) last ps) (sym is) ∙ g.after last);
        made = ap (λ (es : List query.Expr). map expr_view es ++ map expr (map view more)) pushed
            ∙ (ap (λ (es : List Expr). es ++ map expr (map view more)) (map-append expr_view done (e ∷ []))
            ∙ (append_assoc (map expr_view done) (expr_view e ∷ []) (map expr (map view more))
            ∙ (ap (λ (u : Expr). map expr_view done ++ u ∷ map expr (map view more)) here
            ∙ (ap (λ (xs : List X). map expr_view done ++ map expr (map view xs)) (sym is) ∙ g.made))));
      }

  pub stops_in : (before mid after : List (List ℕ)) (stop : Fault) (left more : List X) (x : X) (ps : List At) (done : List query.Expr) (last : A) → Going left ps done → left ≡ x ∷ more
      → mid ≡ before → WalkStops mid after (checks (view x) ps) stop → WalkStops before after (chain_checks checks size (map view whole) last start) stop
  stops_in before mid after stop left more x ps done last g is same h =
      leads_stop before mid after stop (chain_checks checks size (map view left) last ps) (chain_checks checks size (map view whole) last start) (g.leads last) same
      (subst (λ (xs : List X). WalkStops mid after (chain_checks checks size (map view xs) last ps) stop) (sym is)
      (walk_first mid after stop (checks (view x) ps) (chain_checks checks size (map view more) last (drop (suc (size (view x))) ps)) h))

  ends_made : (left : List X) (ps : List At) (done : List query.Expr) → Going left ps done → left ≡ [] → map expr_view done ≡ map expr (map view whole)
  ends_made left ps done g is = sym (append-nil (map expr_view done)) ∙ (ap (λ (xs : List X). map expr_view done ++ map expr (map view xs)) (sym is) ∙ g.made)

  ends_passed : (left : List X) (ps : List At) (done : List query.Expr) → Going left ps done → left ≡ []
      → IsPassed checks size (λ last. chain_checks checks size (map view whole) last start) (λ last. chain_behind size (map view whole) last start) ps
  ends_passed left ps done g is = record {
    leads = λ last. subst (λ (xs : List X). Leads (chain_checks checks size (map view xs) last ps) (chain_checks checks size (map view whole) last start)) is (g.leads last);
    ends = λ last. ap (λ (xs : List X). chain_behind size (map view xs) last ps) (sym is) ∙ g.after last;
  }

-- ---- the chains of a query

module _ (fields : List Field) where
  and_checks_are : (ns : List Nots) (v : Nots) (ps : List At) → chain_checks (not_checks fields) nots_size ns v ps ≡ and_checks fields (and_of ns v) ps
  and_checks_are [] v ps = refl
  and_checks_are (n ∷ ns) v ps = ap (λ (cs : List Check). not_checks fields n ps ++ cs) (and_checks_are ns v (drop (suc (nots_size n)) ps))

  or_checks_are : (bs : List Ands) (a : Ands) (ps : List At) → chain_checks (and_checks fields) ands_size bs a ps ≡ or_checks fields (or_of bs a) ps
  or_checks_are [] a ps = refl
  or_checks_are (b ∷ bs) a ps = ap (λ (cs : List Check). and_checks fields b ps ++ cs) (or_checks_are bs a (drop (suc (ands_size b)) ps))

  and_exprs_of : (ns : List Nots) (v : Nots) → and_exprs fields (and_of ns v) ≡ exprs_of (map (not_expr fields) ns ++ not_expr fields v ∷ [])
  and_exprs_of [] v = refl
  and_exprs_of (n ∷ ns) v = ap (an_expr (not_expr fields n)) (and_exprs_of ns v)

  pub and_expr_is : (ns : List Nots) (v : Nots) → and_list (map (not_expr fields) ns) (not_expr fields v) ≡ and_expr fields (and_of ns v)
  and_expr_is [] v = refl
  and_expr_is (n ∷ ns) v = ap (λ (es : Exprs). And (an_expr (not_expr fields n) es)) (sym (and_exprs_of ns v))

  or_exprs_of : (bs : List Ands) (a : Ands) → or_exprs fields (or_of bs a) ≡ exprs_of (map (and_expr fields) bs ++ and_expr fields a ∷ [])
  or_exprs_of [] a = refl
  or_exprs_of (b ∷ bs) a = ap (an_expr (and_expr fields b)) (or_exprs_of bs a)

  pub or_expr_is : (bs : List Ands) (a : Ands) → or_list (map (and_expr fields) bs) (and_expr fields a) ≡ or_expr fields (or_of bs a)
  or_expr_is [] a = refl
  or_expr_is (b ∷ bs) a = ap (λ (es : Exprs). Or (an_expr (and_expr fields b) es)) (sym (or_exprs_of bs a))

behind_next : (xs : List Sort) (s : Sort) (ys : List Sort) (ps : List At) → drop (length ys) (drop (suc (length xs)) ps) ≡ drop (length (xs ++ s ∷ ys)) ps
behind_next xs s ys ps =
    drop-drop (length ys) (suc (length xs)) ps
    ∙ ap (λ (k : ℕ). drop k ps) (let h = length-append xs (s ∷ ys) in let e : suc (length xs) + length ys ≡ length (xs ++ s ∷ ys) = omega arith in e)

and_behind : (ns : List Nots) (v : Nots) (ps : List At) → chain_behind nots_size ns v ps ≡ drop (length (spell_and (and_of ns v))) ps
and_behind [] v ps = refl
and_behind (n ∷ ns) v ps = and_behind ns v (drop (suc (nots_size n)) ps) ∙ behind_next (spell_nots n) (Word AND) (spell_and (and_of ns v)) ps

or_behind : (bs : List Ands) (a : Ands) (ps : List At) → chain_behind ands_size bs a ps ≡ drop (length (spell_or (or_of bs a))) ps
or_behind [] a ps = refl
or_behind (b ∷ bs) a ps = or_behind bs a (drop (suc (ands_size b)) ps) ∙ behind_next (spell_and b) (Word OR) (spell_or (or_of bs a)) ps

passed_as : {A : Type 0} (checks : A → List At → List Check) (size : A → ℕ) (all others : A → List Check) (behind past : A → List At) (ps : List At)
    → ((last : A) → all last ≡ others last) → ((last : A) → behind last ≡ past last) → IsPassed checks size all behind ps → IsPassed checks size others past ps
passed_as checks size all others behind past ps same alike h = record {
  leads = λ last. subst (Leads (checks last ps)) (same last) (h.leads last);
  ends = λ last. h.ends last ∙ alike last;
}

module _ (fields : List Field) (start : List At) (given : List syntax.Nots) where
  abbrev pub GoingNots : List syntax.Nots → List At → List query.Expr → Type 0
  GoingNots left ps done = Going nots_view (not_checks fields) nots_size (not_expr fields) given start left ps done

  pub nots_stop : (before mid after : List (List ℕ)) (stop : Fault) (left more : List syntax.Nots) (x : syntax.Nots) (ps : List At) (done : List query.Expr)
      → GoingNots left ps done → left ≡ x ∷ more → mid ≡ before → WalkStops mid after (not_checks fields (nots_view x) ps) stop
      → (last : Nots) → WalkStops before after (and_checks fields (and_of (map nots_view given) last) start) stop
  nots_stop before mid after stop left more x ps done g is kept h last =
      subst (λ (cs : List Check). WalkStops before after cs stop)
      (and_checks_are fields (map nots_view given) last start)
      (stops_in nots_view (not_checks fields) nots_size (not_expr fields) given start before mid after stop left more x ps done last g is kept h)

  pub nots_end : (before after : List (List ℕ)) (left : List syntax.Nots) (c : Chain) → GoingNots left (places_view c.rest.now) c.done.items → left ≡ [] → after ≡ before
      → AndBuilt fields before after (map nots_view given) start c
  nots_end before after left c g is kept = (
    kept,
    ends_made nots_view (not_checks fields) nots_size (not_expr fields) given start left (places_view c.rest.now) c.done.items g is,
    passed_as (not_checks fields) nots_size _ _ _ _ (places_view c.rest.now) (λ last. and_checks_are fields (map nots_view given) last start) (λ last. and_behind (map nots_view given) last start)
        (ends_passed nots_view (not_checks fields) nots_size (not_expr fields) given start left (places_view c.rest.now) c.done.items g is),
  )

module _ (fields : List Field) (start : List At) (given : List syntax_ands.Ands) where
  abbrev pub GoingAnds : List syntax_ands.Ands → List At → List query.Expr → Type 0
  GoingAnds left ps done = Going ands_view (and_checks fields) ands_size (and_expr fields) given start left ps done

  pub ands_stop : (before mid after : List (List ℕ)) (stop : Fault) (left more : List syntax_ands.Ands) (x : syntax_ands.Ands) (ps : List At) (done : List query.Expr)
      → GoingAnds left ps done → left ≡ x ∷ more → mid ≡ before → WalkStops mid after (and_checks fields (ands_view x) ps) stop
      → (last : Ands) → WalkStops before after (or_checks fields (or_of (map ands_view given) last) start) stop
  ands_stop before mid after stop left more x ps done g is kept h last =
      subst (λ (cs : List Check). WalkStops before after cs stop)
      (or_checks_are fields (map ands_view given) last start)
      (stops_in ands_view (and_checks fields) ands_size (and_expr fields) given start before mid after stop left more x ps done last g is kept h)

  pub ands_end : (before after : List (List ℕ)) (left : List syntax_ands.Ands) (c : Chain) → GoingAnds left (places_view c.rest.now) c.done.items → left ≡ [] → after ≡ before
      → OrBuilt fields before after (map ands_view given) start c
  ands_end before after left c g is kept = (
    kept,
    ends_made ands_view (and_checks fields) ands_size (and_expr fields) given start left (places_view c.rest.now) c.done.items g is,
    passed_as (and_checks fields) ands_size _ _ _ _ (places_view c.rest.now) (λ last. or_checks_are fields (map ands_view given) last start) (λ last. or_behind (map ands_view given) last start)
        (ends_passed ands_view (and_checks fields) ands_size (and_expr fields) given start left (places_view c.rest.now) c.done.items g is),
  )

-- ---- the last part of a chain

module _ {A : Type 0} (checks : A → List At → List Check) (size : A → ℕ) (all : A → List Check) (behind : A → List At) (ps : List At) (passed : IsPassed checks size all behind ps)
    (before mid after : List (List ℕ)) (same : mid ≡ before) (last : A) where
  pub last_stop : (stop : Fault) → WalkStops mid after (checks last ps) stop → WalkStops before after (all last) stop
  last_stop stop h = leads_stop before mid after stop (checks last ps) (all last) (passed.leads last) same h

  pub last_end : (join : List Expr → Expr → Expr) (done made : List Expr) (e meant : Expr) (u : query.Expr) (rest : List Place) (r : Result Walked Fault) → done ≡ made
      → join made meant ≡ e → (after ≡ mid) × AreBuilt (checks last ps) × (expr_view u ≡ meant) × (places_view rest ≡ drop (size last) ps)
      → IfOk r (λ w. (expr_view w.expr ≡ join done (expr_view u)) × (w.rest.now ≡ rest)) → IfErr r (λ f. f ≡ Memory) → WalkAnswers before after (all last) e (behind last) r
  last_end join done made e meant u rest (Ok w) are joined h ok err = (
    h.0 ∙ same,
    leads_built (checks last ps) (all last) (passed.leads last) h.1,
    ok.0 ∙ (ap (λ (es : List Expr). join es (expr_view u)) are ∙ (ap (join made) h.2 ∙ joined)),
    ap places_view ok.1 ∙ (h.3 ∙ passed.ends last),
  )
  last_end join done made e meant u rest (Err f) are joined h ok err = subst (WalkStops before after (all last)) (sym err) (h.0 ∙ same)

pub all_left : {X : Type 0} (xs : List X) (n : ℕ) → n ≡ 0 → n ≡ length xs → xs ≡ []
all_left [] n none is = refl
all_left (x ∷ xs) n none is = absurd (omega (arith, none, is))

pub next_part : {X : Type 0} (xs : List X) (i : ℕ) (x : X) → i < length xs → x ≡ get_or xs i x → drop i xs ≡ x ∷ drop (i + 1) xs
next_part {X} xs i x h e = drop_more xs i x h ∙ ap (λ (y : X). y ∷ drop (i + 1) xs) (sym e)

-- ---- rows of NOT, parentheses

module _ (fields : List Field) where
  negated_checks : (n : ℕ) (v : Nots) (ps : List At) → not_checks fields (negated n v) ps ≡ not_checks fields v (drop n ps)
  negated_checks zero v ps = refl
  negated_checks (suc n) v ps = negated_checks n v (drop 1 ps) ∙ ap (not_checks fields v) (drop-drop n 1 ps ∙ ap (λ (k : ℕ). drop k ps) (let e : 1 + n ≡ suc n = omega arith in e))

  negated_expr : (n : ℕ) (v : Nots) → not_expr fields (negated n v) ≡ nots_on n (not_expr fields v)
  negated_expr zero v = refl
  negated_expr (suc n) v = ap Not (negated_expr n v)

negated_length : (n : ℕ) (v : Nots) → length (spell_nots (negated n v)) ≡ n + length (spell_nots v)
negated_length zero v = sym (let e : 0 + length (spell_nots v) ≡ length (spell_nots v) = omega arith in e)
negated_length (suc n) v = let h = negated_length n v in omega arith

nots_ok : (fields : List Field) (before after : List (List ℕ)) (n : ℕ) (v : Nots) (ps qs : List At) (e all : Expr) (rest : List At) → qs ≡ drop n ps
    → (after ≡ before) × AreBuilt (not_checks fields v qs) × (e ≡ not_expr fields v) × (rest ≡ drop (length (spell_nots v)) qs) → all ≡ nots_on n e
    → (after ≡ before) × AreBuilt (not_checks fields (negated n v) ps) × (all ≡ not_expr fields (negated n v)) × (rest ≡ drop (length (spell_nots (negated n v))) ps)
nots_ok fields before after n v ps qs e all rest is h made = (
  h.0,
  subst AreBuilt (ap (not_checks fields v) is ∙ sym (negated_checks fields n v ps)) h.1,
  made ∙ (ap (nots_on n) h.2 ∙ sym (negated_expr fields n v)),
  h.3 ∙ (ap (drop (length (spell_nots v))) is ∙ (drop-drop (length (spell_nots v)) n ps ∙ ap (λ (k : ℕ). drop k ps) (sym (negated_length n v)))),
)

pub nots_close : (fields : List Field) (before after : List (List ℕ)) (n : ℕ) (v : Nots) (ps qs : List At) (u : query.Expr) (rest : List Place) (r : Result Walked Fault) → qs ≡ drop n ps
    → (after ≡ before) × AreBuilt (not_checks fields v qs) × (expr_view u ≡ not_expr fields v) × (places_view rest ≡ drop (length (spell_nots v)) qs)
    → IfOk r (λ w. (expr_view w.expr ≡ nots_on n (expr_view u)) × (w.rest.now ≡ rest)) → IfErr r (λ f. f ≡ Memory)
    → WalkAnswers before after (not_checks fields (negated n v) ps) (not_expr fields (negated n v)) (drop (length (spell_nots (negated n v))) ps) r
nots_close fields before after n v ps qs u rest (Ok w) is h ok err =
    nots_ok fields before after n v ps qs (expr_view u) (expr_view w.expr) (places_view w.rest.now) is (h.0, h.1, h.2, ap places_view ok.1 ∙ h.3) ok.0
nots_close fields before after n v ps qs u rest (Err f) is h ok err = subst (WalkStops before after (not_checks fields (negated n v) ps)) (sym err) h.0

pub nots_err : (fields : List Field) (before after : List (List ℕ)) (n : ℕ) (v : Nots) (ps qs : List At) (stop : Fault) → qs ≡ drop n ps
    → WalkStops before after (not_checks fields v qs) stop → WalkStops before after (not_checks fields (negated n v) ps) stop
nots_err fields before after n v ps qs stop is h =
    subst (λ (cs : List Check). WalkStops before after cs stop) (ap (not_checks fields v) is ∙ sym (negated_checks fields n v ps)) h

pub behind_enclosed : (o : Ors) (ps qs rs us : List At) → qs ≡ drop 1 ps → rs ≡ drop (length (spell_or o)) qs → us ≡ drop 1 rs → us ≡ drop (length (spell_nots (enclosed o))) ps
behind_enclosed o ps qs rs us opened inner closed = closed ∙ (ap (drop 1) (inner ∙ ap (drop (length (spell_or o))) opened) ∙ (one_drop (length (spell_or o)) (drop 1 ps)
    ∙ (drop-drop (suc (length (spell_or o))) 1 ps ∙ ap (λ (k : ℕ). drop k ps)
    (let h = length-append (spell_or o) (Closing ∷ []) in let e : 1 + suc (length (spell_or o)) ≡ length (spell_nots (enclosed o)) = omega arith in e))))

pub view-Nots : (n : syntax.Nots) → nots_view n ≡ negated n.count (core_view n.core)
view-Nots n = fold_out-Nots Nots Ands Nots Ors core_step ands_step nots_step ors_step n
