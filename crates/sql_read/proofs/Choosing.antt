-- A refusal comes first for some list of places that are refused for their regular expressions: its own, where it is of one, and the
-- places behind it of texts that are no patterns.
use Rattle.std.specs.Prelude.{◌==◌, ◌&&◌, ◌||◌, ⊤}
use Rattle.std.proofs.Common.{ℕ, ◌≡◌, refl, sym, ◌∙◌, ap, subst, Bool, true, false, not, List, [], ◌∷◌, ◌++◌, append-nil, arith, inl, inr}
use Rattle.std.proofs.lemmas.Bool.{ne_eqb, eqb-false}
use Rattle.sig_base.specs.declared.refusal.Detail.TheVariants as details
use Rattle.sig_base.specs.declared.refusal.Refusal.{Refusal}
use Rattle.event_schema.specs.Lists.{EachOf, SomeOf}
use Rattle.query_lang.specs.Answers.{place_of}
use Rattle.query_lang.specs.Patterns.{is_pattern}
use Rattle.query_lang.specs.RefusedPlaces.{PatternAt, is_of_pattern, IsAmong, IsCause, no_pattern, not_built, AreOfPatterns, AreRefused}
use Rattle.query_tokens.specs.Places.{At, CodeAt, code_at, code_at_if}
use Rattle.query_tokens.specs.Tokens.{places}
use Rattle.sql_lang.specs.Faults.{same_place, is_refused, refused_at}
use Rattle.sql_lang.specs.Regexps.{is_regexp, text_at, regexps_from}
use Rattle.sql_lang.specs.Rising.{IsBefore, AreRising}
use Rattle.sql_lang.specs.Tokens.{Token, Sort, Word, Name, Text, Number, Opening, Closing, Comma, Star, Semicolon, Compares, Unclosed, Other}
use Rattle.sql_read.specs.Checks.{Check, Sure, Builds, IsUnbuilt, StopsFor, AreBuilt}
use Rattle.sql_check.specs.Refused.{refusal_of}
use Rattle.sql_read.proofs.Looked.{faults_of, AreOwn}
use Rattle.sql_read.proofs.Regexps.{patterns_of}

each_both : {A : Type 0} (P : A → Type 0) (xs ys : List A) → EachOf P xs → EachOf P ys → EachOf P (xs ++ ys)
each_both P [] ys first second = second
each_both P (x ∷ xs) ys first second = (first.0, each_both P xs ys first.1 second)

each_map : {A : Type 0} (P Q : A → Type 0) → ((x : A) → P x → Q x) → (xs : List A) → EachOf P xs → EachOf Q xs
each_map P Q f [] h = tt
each_map P Q f (x ∷ xs) h = (f x h.0, each_map P Q f xs h.1)

some_with : {A : Type 0} (P Q : A → Type 0) (xs : List A) → SomeOf P xs → EachOf Q xs → (x : A) × P x × Q x
some_with P Q [] some each = absurd some
some_with P Q (x ∷ xs) (inl h) each = (x, h, each.0)
some_with P Q (x ∷ xs) (inr h) each = some_with P Q xs h each.1

-- ---- places that follow one another

abbrev AreBehind : At → List PatternAt → Type 0
AreBehind p qs = EachOf (λ (q : PatternAt). IsBefore p q.place) qs

abbrev pub Follow : List PatternAt → Type 0
Follow [] = ⊤
Follow (q ∷ qs) = AreBehind q.place qs × Follow qs

at_behind : (p : At) (s : Sort) (q : At) → IsBefore p q → AreBehind p (text_at s q)
at_behind p (Text v) q h = (h, tt)
at_behind p (Word k) q h = tt
at_behind p (Name n) q h = tt
at_behind p (Number w) q h = tt
at_behind p Opening q h = tt
at_behind p Closing q h = tt
at_behind p Comma q h = tt
at_behind p Star q h = tt
at_behind p Semicolon q h = tt
at_behind p (Compares op) q h = tt
at_behind p Unclosed q h = tt
at_behind p Other q h = tt

behind_all : (p : At) (b : Bool) (ts : List Token) → EachOf (IsBefore p) (places ts) → AreBehind p (regexps_from b ts)
behind_all p b [] h = tt
behind_all p true (t ∷ ts) h = each_both (λ (q : PatternAt). IsBefore p q.place) (text_at t.sort t.place) (regexps_from (is_regexp t.sort) ts) (at_behind p t.sort t.place h.0) (behind_all p (is_regexp t.sort) ts h.1)
behind_all p false (t ∷ ts) h = behind_all p (is_regexp t.sort) ts h.1

follow_at : (s : Sort) (p : At) (qs : List PatternAt) → AreBehind p qs → Follow qs → Follow (text_at s p ++ qs)
follow_at (Text v) p qs behind h = (behind, h)
follow_at (Word k) p qs behind h = h
follow_at (Name n) p qs behind h = h
follow_at (Number w) p qs behind h = h
follow_at Opening p qs behind h = h
follow_at Closing p qs behind h = h
follow_at Comma p qs behind h = h
follow_at Star p qs behind h = h
follow_at Semicolon p qs behind h = h
follow_at (Compares op) p qs behind h = h
follow_at Unclosed p qs behind h = h
follow_at Other p qs behind h = h

pub follow : (b : Bool) (ts : List Token) → AreRising (places ts) → Follow (regexps_from b ts)
follow b [] h = tt
follow true (t ∷ ts) h = follow_at t.sort t.place (regexps_from (is_regexp t.sort) ts) (behind_all t.place (is_regexp t.sort) ts h.0) (follow (is_regexp t.sort) ts h.1)
follow false (t ∷ ts) h = follow (is_regexp t.sort) ts h.1

same_self : (p : At) → same_place p p ≡ true
same_self p = let a = eq_self p.line in let b = eq_self p.column in rw a (rw b refl) where
  eq_self : (n : ℕ) → (n == n) ≡ true
  eq_self n = by (n == n) refl where
    by : (b : Bool) → (n == n) ≡ b → (n == n) ≡ true
    by true e = e
    by false e = absurd (eqb-false n n e refl)

not_before : (p q : At) → IsBefore p q → same_place q p ≡ false
not_before p q (inl less) = let a : (q.line == p.line) ≡ false = ne_eqb q.line p.line (λ e. omega arith) in rw a refl
not_before p q (inr h) =
    let less = h.1 in
    let a : (q.column == p.column) ≡ false = ne_eqb q.column p.column (λ e. omega arith) in rw a (and_false (q.line == p.line)) where
      and_false : (b : Bool) → (b && false) ≡ false
      and_false true = refl
      and_false false = refl

-- ---- lists of refused places

abbrev ArePast : At → List CodeAt → Type 0
ArePast p rs = EachOf (λ (r : CodeAt). IsBefore p r.place) rs

silent : (p : At) (code : ℕ) (rs : List CodeAt) → ArePast p rs → is_refused rs code p ≡ false
silent p code [] h = refl
silent p code (r ∷ rs) h =
    let here = not_before p r.place h.0 in
    let rest = silent p code rs h.1 in
    rw here (rw rest (and_false (r.code == code))) where
      and_false : (b : Bool) → ((b && false) || false) ≡ false
      and_false true = refl
      and_false false = refl

pub none_at : (p : At) (rs : List CodeAt) → ArePast p rs → refused_at rs p ≡ []
none_at p rs h = let a = silent p 47 rs h in let b = silent p 48 rs h in rw a (rw b refl)

one_47 : (p : At) (rs : List CodeAt) → ArePast p rs → refused_at (code_at 47 p ∷ rs) p ≡ code_at 47 p ∷ []
one_47 p rs h = let same = same_self p in let b = silent p 48 rs h in rw same (rw b refl)

one_48 : (p : At) (rs : List CodeAt) → ArePast p rs → refused_at (code_at 48 p ∷ rs) p ≡ code_at 48 p ∷ []
one_48 p rs h = let same = same_self p in let a = silent p 47 rs h in rw same (rw a refl)

-- the texts that are no patterns
abbrev pub bad : List PatternAt → List CodeAt
bad [] = []
bad (q ∷ qs) = code_at_if (not (is_pattern q.pattern)) 47 q.place ++ bad qs

some_later : {A : Type 0} (P : A → Type 0) (xs ys : List A) → SomeOf P ys → SomeOf P (xs ++ ys)
some_later P [] ys h = h
some_later P (x ∷ xs) ys h = inr (some_later P xs ys h)

abbrev Caused : List (List ℕ) → List PatternAt → CodeAt → Type 0
Caused gained qs r = SomeOf (λ (q : PatternAt). (q.place ≡ r.place) × IsCause gained q.pattern r.code) qs

abbrev Placed : List CodeAt → PatternAt → Type 0
Placed rs q = is_pattern q.pattern ≡ false → SomeOf (λ (r : CodeAt). r.place ≡ q.place) rs

pub bad_caused : (gained : List (List ℕ)) (qs : List PatternAt) → EachOf (Caused gained qs) (bad qs)
bad_caused gained [] = tt
bad_caused gained (q ∷ qs) =
    each_both (Caused gained (q ∷ qs)) (code_at_if (not (is_pattern q.pattern)) 47 q.place) (bad qs) (by (is_pattern q.pattern) refl)
    (each_map (Caused gained qs) (Caused gained (q ∷ qs)) (λ r h. inr h) (bad qs) (bad_caused gained qs)) where
      by : (b : Bool) → is_pattern q.pattern ≡ b → EachOf (Caused gained (q ∷ qs)) (code_at_if (not b) 47 q.place)
      by true e = tt
      by false e = (inl (refl, no_pattern refl e), tt)

pub bad_placed : (qs : List PatternAt) → EachOf (Placed (bad qs)) qs
bad_placed [] = tt
bad_placed (q ∷ qs) =
    let here = code_at_if (not (is_pattern q.pattern)) 47 q.place in
    (λ is. rw is (inl refl), each_map (Placed (bad qs)) (Placed (here ++ bad qs)) (λ x h is. some_later (λ (r : CodeAt). r.place ≡ x.place) here (bad qs) (h is)) qs (bad_placed qs))

bad_past : (p : At) (qs : List PatternAt) → AreBehind p qs → ArePast p (bad qs)
bad_past p [] h = tt
bad_past p (q ∷ qs) h =
    each_both (λ (r : CodeAt). IsBefore p r.place) (code_at_if (not (is_pattern q.pattern)) 47 q.place) (bad qs) (by (is_pattern q.pattern)) (bad_past p qs h.1) where
      by : (b : Bool) → ArePast p (code_at_if (not b) 47 q.place)
      by true = tt
      by false = (h.0, tt)

-- ---- the list

abbrev IsOf : List PatternAt → List ℕ → Type 0
IsOf patterns text = SomeOf (λ (p : PatternAt). p.pattern ≡ text) patterns

abbrev pub Cause : List (List ℕ) → Refusal → PatternAt → Type 0
Cause gained r q = (q.place ≡ place_of r) × IsAmong q.pattern gained × IsCause gained q.pattern r.code

pub record Chosen (before after : List (List ℕ)) (r : Refusal) (cs : List Check) : Type 0 where
  pub gained : List (List ℕ)
  pub follows : after ≡ before ++ gained
  pub own : AreOfPatterns (patterns_of cs) gained
  pub places : List CodeAt
  pub are : AreRefused (patterns_of cs) gained places
  pub more : List CodeAt
  pub first : faults_of places cs ≡ code_at r.code (place_of r) ∷ more
  pub bare : r.detail ≡ details.None
  pub built : is_of_pattern r.code ≡ true → SomeOf (Cause gained r) (patterns_of cs)

module _ (before after : List (List ℕ)) where
  at_fault : (f : CodeAt) (cs : List Check) → is_of_pattern f.code ≡ false → after ≡ before → Chosen before after (refusal_of f) (Sure f ∷ cs)
  at_fault f cs own same = record {
    gained = [];
    follows = same ∙ sym (append-nil before);
    own = tt;
    places = bad (patterns_of cs);
    are = record { caused = bad_caused [] (patterns_of cs); all = bad_placed (patterns_of cs) };
    more = faults_of (bad (patterns_of cs)) cs;
    first = refl;
    bare = refl;
    built = λ is. absurd (let e : false ≡ true = sym own ∙ is in cc);
  }

  at_pattern : (p : PatternAt) (cs : List Check) (code : ℕ) → IsCause (p.pattern ∷ []) p.pattern code → after ≡ before ++ p.pattern ∷ []
      → refused_at (code_at code p.place ∷ bad (patterns_of cs)) p.place ≡ code_at code p.place ∷ []
      → Chosen before after (refusal_of (code_at code p.place)) (Builds p ∷ cs)
  at_pattern p cs code cause follows one =
      let own = code_at code p.place in
      let rest = bad (patterns_of cs) in
      let gained = p.pattern ∷ [] in
      record {
        gained = gained;
        follows = follows;
        own = (inl refl, tt);
        places = own ∷ rest;
        are = record {
          caused = (inl (refl, cause), each_map (Caused gained (patterns_of cs)) (Caused gained (p ∷ patterns_of cs)) (λ r h. inr h) rest (bad_caused gained (patterns_of cs)));
          all = (λ is. inl refl, each_map (Placed rest) (Placed (own ∷ rest)) (λ q h is. inr (h is)) (patterns_of cs) (bad_placed (patterns_of cs)));
        };
        more = faults_of (own ∷ rest) cs;
        first = ap (λ (fs : List CodeAt). fs ++ faults_of (own ∷ rest) cs) one;
        bare = refl;
        built = λ is. inl (refl, inl refl, cause);
      }

  behind_them : (p : PatternAt) (cs : List Check) (gained : List (List ℕ)) (rs : List CodeAt) → AreBehind p.place (patterns_of cs)
      → EachOf (Caused gained (patterns_of cs)) rs → ArePast p.place rs
  behind_them p cs gained [] behind h = tt
  behind_them p cs gained (r ∷ rs) behind h =
      let found = some_with (λ (q : PatternAt). (q.place ≡ r.place) × IsCause gained q.pattern r.code) (λ (q : PatternAt). IsBefore p.place q.place) (patterns_of cs) h.0 behind in
      (subst (IsBefore p.place) found.1.0 found.2, behind_them p cs gained rs behind h.1)

  pub later : (r : Refusal) (p : PatternAt) (cs : List Check) → AreBehind p.place (patterns_of cs) → is_pattern p.pattern ≡ true
      → Chosen before after r cs → Chosen before after r (Builds p ∷ cs)
  later r p cs behind is c = record {
    gained = c.gained;
    follows = c.follows;
    own = each_map (IsOf (patterns_of cs)) (IsOf (p ∷ patterns_of cs)) (λ text h. inr h) c.gained c.own;
    places = c.places;
    are = record {
      caused = each_map (Caused c.gained (patterns_of cs)) (Caused c.gained (p ∷ patterns_of cs)) (λ x h. inr h) c.places c.are.caused;
      all = (λ no_one. absurd (let e : false ≡ true = sym no_one ∙ is in cc), c.are.all);
    };
    more = c.more;
    first = ap (λ (fs : List CodeAt). fs ++ faults_of c.places cs) (none_at p.place c.places (behind_them p cs c.gained c.places behind c.are.caused)) ∙ c.first;
    bare = c.bare;
    built = λ so. inr (c.built so);
  }

  unbuilt : (r : Refusal) (p : PatternAt) (cs : List Check) → AreBehind p.place (patterns_of cs) → IsUnbuilt before after p r → Chosen before after r (Builds p ∷ cs)
  unbuilt r p cs behind (gains, inl (is, wrong)) =
      subst (λ (s : Refusal). Chosen before after s (Builds p ∷ cs)) (sym is)
      (at_pattern p cs 47 (no_pattern refl wrong) gains (one_47 p.place (bad (patterns_of cs)) (bad_past p.place (patterns_of cs) behind)))
  unbuilt r p cs behind (gains, inr is) =
      subst (λ (s : Refusal). Chosen before after s (Builds p ∷ cs)) (sym is)
      (at_pattern p cs 48 (not_built refl (inl refl)) gains (one_48 p.place (bad (patterns_of cs)) (bad_past p.place (patterns_of cs) behind)))

  pub chosen : (r : Refusal) (cs : List Check) → Follow (patterns_of cs) → AreOwn cs → StopsFor before after r cs → Chosen before after r cs
  chosen r [] follows own stop = absurd stop
  chosen r (Sure f ∷ cs) follows own stop = subst (λ (s : Refusal). Chosen before after s (Sure f ∷ cs)) (sym stop.1) (at_fault f cs own.0 stop.0)
  chosen r (Builds p ∷ cs) follows own (inl stop) = unbuilt r p cs follows.0 stop
  chosen r (Builds p ∷ cs) follows own (inr (is, stop)) = later r p cs follows.0 is (chosen r cs follows.1 own stop)

-- where everything is built, nothing is a fault
pub none_found : (cs : List Check) → AreBuilt cs → faults_of [] cs ≡ []
none_found [] h = refl
none_found (Sure f ∷ cs) h = absurd h
none_found (Builds p ∷ cs) h = none_found cs h.1
