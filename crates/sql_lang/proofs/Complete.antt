-- Each query is what the reading of its own spelling ends with; so a spelling is that of one query at most.
use Rattle.std.proofs.Common.{ℕ, zero, suc, ◌≡◌, refl, sym, ◌∙◌, ap, Bool, true, false, List, [], ◌∷◌, ◌++◌, append_assoc, append-nil}
use Rattle.std.specs.Prelude.{Option, Some, None, Ok}
use Rattle.sql_lang.specs.Tokens.{OR, AND, IN, BETWEEN, Op, Sort, Word, Name, Number, Opening, Closing, Comma, Semicolon, Compares}
use Rattle.sql_lang.specs.Grammar.{Collate, Unsaid, NoCase, Binary, Literal, a_text, a_number, Right, a_name, a_literal, Leaf, constant, is_null, compares, like, glob, regexp, one_of, between, Ors, last_and, and_or, Ands, last_not, not_and, Nots, not_not, a_test, enclosed, Query, spell_collate, spell_right, spell_literal, spell_not, spell_before, spell_test, spell_or, spell_and, spell_nots, spell_query, spell_end}
use Rattle.sql_lang.specs.Machine.{Partial, Start, Named, Collated, Against, Compared, Liked, Listing, Listed, Complete, Closed, Level, level, negated, and_of, or_of, State, Begun, Inside, Ended, whole, is_joint, behind, step, go_on, run, finish}

-- ---- one test

-- the state behind a name with its COLLATE, behind that and NOT, and behind a right side
abbrev named_in : List ℕ → Collate → Partial
named_in n Unsaid = Named n
named_in n NoCase = Collated n NoCase
named_in n Binary = Collated n Binary

abbrev compared_in : List ℕ → Collate → Op → Right → Collate → Partial
compared_in n c op x Unsaid = Compared n c op x
compared_in n c op x NoCase = Complete (compares n c op x NoCase)
compared_in n c op x Binary = Complete (compares n c op x Binary)

abbrev liked_in : List ℕ → Bool → List ℕ → Option (List ℕ) → Partial
liked_in n b v None = Liked n b v
liked_in n b v (Some e) = Complete (like n b v (Some e))

-- the state behind a test
abbrev finished : Leaf → Partial
finished (compares n c op x d) = compared_in n c op x d
finished (like n b v e) = liked_in n b v e
finished t = Complete t

module _ (table : List ℕ) (l : Level) (ls : List Level) where
  abbrev Goes : Partial → List Sort → Partial → List Sort → Type 0
  Goes p ts q us = run (Inside table p l ls) ts ≡ run (Inside table q l ls) us

  goes_constant : (b : Bool) (ts : List Sort) → Goes Start (spell_test (constant b) ++ ts) (Complete (constant b)) ts
  unfolding step go_on
  goes_constant false ts = refl
  goes_constant true ts = refl

  goes_null : (n : List ℕ) (b : Bool) (ts : List Sort) → Goes Start (spell_test (is_null n b) ++ ts) (Complete (is_null n b)) ts
  unfolding step go_on
  goes_null n false ts = refl
  goes_null n true ts = refl

  goes_collate : (n : List ℕ) (c : Collate) (ts : List Sort) → Goes Start (Name n ∷ (spell_collate c ++ ts)) (named_in n c) ts
  unfolding step go_on
  goes_collate n Unsaid ts = refl
  goes_collate n NoCase ts = refl
  goes_collate n Binary ts = refl

  goes_op : (n : List ℕ) (c : Collate) (op : Op) (ts : List Sort) → Goes (named_in n c) (Compares op ∷ ts) (Against n c op) ts
  unfolding step go_on
  goes_op n Unsaid op ts = refl
  goes_op n NoCase op ts = refl
  goes_op n Binary op ts = refl

  goes_right : (n : List ℕ) (c : Collate) (op : Op) (x : Right) (ts : List Sort) → Goes (Against n c op) (spell_right x ∷ ts) (Compared n c op x) ts
  unfolding step go_on
  goes_right n c op (a_name m) ts = refl
  goes_right n c op (a_literal (a_text v)) ts = refl
  goes_right n c op (a_literal (a_number w)) ts = refl

  goes_collated : (n : List ℕ) (c : Collate) (op : Op) (x : Right) (d : Collate) (ts : List Sort)
      → Goes (Compared n c op x) (spell_collate d ++ ts) (compared_in n c op x d) ts
  unfolding step go_on
  goes_collated n c op x Unsaid ts = refl
  goes_collated n c op x NoCase ts = refl
  goes_collated n c op x Binary ts = refl

  goes_compares : (n : List ℕ) (c : Collate) (op : Op) (x : Right) (d : Collate) (ts : List Sort)
      → Goes Start (spell_test (compares n c op x d) ++ ts) (compared_in n c op x d) ts
  goes_compares n c op x d ts =
      rw (append_assoc (spell_collate c) (Compares op ∷ spell_right x ∷ spell_collate d) ts)
      (goes_collate n c (Compares op ∷ spell_right x ∷ (spell_collate d ++ ts))
      ∙ (goes_op n c op (spell_right x ∷ (spell_collate d ++ ts))
      ∙ (goes_right n c op x (spell_collate d ++ ts) ∙ goes_collated n c op x d ts)))

  goes_like : (n : List ℕ) (b : Bool) (v : List ℕ) (e : Option (List ℕ)) (ts : List Sort)
      → Goes Start (spell_test (like n b v e) ++ ts) (liked_in n b v e) ts
  unfolding step go_on
  goes_like n false v None ts = refl
  goes_like n false v (Some e) ts = refl
  goes_like n true v None ts = refl
  goes_like n true v (Some e) ts = refl

  goes_glob : (n : List ℕ) (b : Bool) (v : List ℕ) (ts : List Sort) → Goes Start (spell_test (glob n b v) ++ ts) (Complete (glob n b v)) ts
  unfolding step go_on
  goes_glob n false v ts = refl
  goes_glob n true v ts = refl

  goes_regexp : (n : List ℕ) (b : Bool) (v : List ℕ) (ts : List Sort) → Goes Start (spell_test (regexp n b v) ++ ts) (Complete (regexp n b v)) ts
  unfolding step go_on
  goes_regexp n false v ts = refl
  goes_regexp n true v ts = refl

  goes_in : (n : List ℕ) (c : Collate) (b : Bool) (ts : List Sort)
      → Goes (named_in n c) (spell_not b ++ Word IN ∷ Opening ∷ ts) (Listing n c b []) ts
  unfolding step go_on
  goes_in n Unsaid false ts = refl
  goes_in n Unsaid true ts = refl
  goes_in n NoCase false ts = refl
  goes_in n NoCase true ts = refl
  goes_in n Binary false ts = refl
  goes_in n Binary true ts = refl

  goes_literal : (n : List ℕ) (c : Collate) (b : Bool) (before : List Literal) (x : Literal) (ts : List Sort)
      → Goes (Listing n c b before) (spell_literal x ∷ ts) (Listed n c b before x) ts
  unfolding step go_on
  goes_literal n c b before (a_text v) ts = refl
  goes_literal n c b before (a_number w) ts = refl

  goes_comma : (n : List ℕ) (c : Collate) (b : Bool) (before : List Literal) (x : Literal) (ts : List Sort)
      → Goes (Listed n c b before x) (Comma ∷ ts) (Listing n c b (before ++ x ∷ [])) ts
  unfolding step go_on
  goes_comma n c b before x ts = refl

  goes_closing : (n : List ℕ) (c : Collate) (b : Bool) (before : List Literal) (x : Literal) (ts : List Sort)
      → Goes (Listed n c b before x) (Closing ∷ ts) (Complete (one_of n c b before x)) ts
  unfolding step go_on
  goes_closing n c b before x ts = refl

  goes_list : (n : List ℕ) (c : Collate) (b : Bool) (before more : List Literal) (x : Literal) (ts : List Sort)
      → Goes (Listing n c b before) (spell_before more ++ spell_literal x ∷ Closing ∷ ts) (Complete (one_of n c b (before ++ more) x)) ts
  goes_list n c b before [] x ts =
      rw (append-nil before) (goes_literal n c b before x (Closing ∷ ts) ∙ goes_closing n c b before x ts)
  goes_list n c b before (y ∷ more) x ts =
      let rest = spell_before more ++ spell_literal x ∷ Closing ∷ ts in
      let regrouped : (before ++ y ∷ []) ++ more ≡ before ++ y ∷ more = append_assoc before (y ∷ []) more in
      goes_literal n c b before y (Comma ∷ rest)
      ∙ (goes_comma n c b before y rest
      ∙ (goes_list n c b (before ++ y ∷ []) more x ts
      ∙ ap (λ (zs : List Literal). run (Inside table (Complete (one_of n c b zs x)) l ls) ts) regrouped))

  goes_one_of : (n : List ℕ) (c : Collate) (b : Bool) (before : List Literal) (x : Literal) (ts : List Sort)
      → Goes Start (spell_test (one_of n c b before x) ++ ts) (Complete (one_of n c b before x)) ts
  goes_one_of n c b before x ts =
      let listed = spell_before before ++ spell_literal x ∷ Closing ∷ ts in
      let joined : (spell_collate c ++ (spell_not b ++ Word IN ∷ Opening ∷ (spell_before before ++ spell_literal x ∷ Closing ∷ []))) ++ ts
      ≡ spell_collate c ++ (spell_not b ++ Word IN ∷ Opening ∷ listed) = simp append_assoc in
      ap (λ (us : List Sort). run (Inside table Start l ls) (Name n ∷ us)) joined
      ∙ (goes_collate n c (spell_not b ++ Word IN ∷ Opening ∷ listed)
      ∙ (goes_in n c b listed ∙ goes_list n c b [] before x ts))

  goes_range : (n : List ℕ) (c : Collate) (b : Bool) (low high : List ℕ) (ts : List Sort)
      → Goes (named_in n c) (spell_not b ++ Word BETWEEN ∷ Number low ∷ Word AND ∷ Number high ∷ ts) (Complete (between n c b low high)) ts
  unfolding step go_on
  goes_range n Unsaid false low high ts = refl
  goes_range n Unsaid true low high ts = refl
  goes_range n NoCase false low high ts = refl
  goes_range n NoCase true low high ts = refl
  goes_range n Binary false low high ts = refl
  goes_range n Binary true low high ts = refl

  goes_between : (n : List ℕ) (c : Collate) (b : Bool) (low high : List ℕ) (ts : List Sort)
      → Goes Start (spell_test (between n c b low high) ++ ts) (Complete (between n c b low high)) ts
  goes_between n c b low high ts =
      let joined : (spell_collate c ++ (spell_not b ++ Word BETWEEN ∷ Number low ∷ Word AND ∷ Number high ∷ [])) ++ ts
      ≡ spell_collate c ++ (spell_not b ++ Word BETWEEN ∷ Number low ∷ Word AND ∷ Number high ∷ ts) = simp append_assoc in
      ap (λ (us : List Sort). run (Inside table Start l ls) (Name n ∷ us)) joined
      ∙ (goes_collate n c (spell_not b ++ Word BETWEEN ∷ Number low ∷ Word AND ∷ Number high ∷ ts) ∙ goes_range n c b low high ts)

  pub goes_test : (t : Leaf) (ts : List Sort) → Goes Start (spell_test t ++ ts) (finished t) ts
  goes_test (constant b) ts = goes_constant b ts
  goes_test (is_null n b) ts = goes_null n b ts
  goes_test (compares n c op x d) ts = goes_compares n c op x d ts
  goes_test (like n b v e) ts = goes_like n b v e ts
  goes_test (glob n b v) ts = goes_glob n b v ts
  goes_test (regexp n b v) ts = goes_regexp n b v ts
  goes_test (one_of n c b before x) ts = goes_one_of n c b before x ts
  goes_test (between n c b low high) ts = goes_between n c b low high ts

-- ---- what may end: a state behind a whole not

-- a joint behind a whole test is read as one behind the not that it is
pub at_joint : (table : List ℕ) (p : Partial) (v : Nots) (l : Level) (ls : List Level) (t : Sort)
    → is_joint t ≡ true → whole p ≡ Some v → step (Inside table p l ls) t ≡ behind table v l ls t
unfolding step
at_joint table (Compared n c op x) v l ls t joint is = rw joint (ap (λ (w : Nots). behind table w l ls t) cc)
at_joint table (Liked n b w) v l ls t joint is = rw joint (ap (λ (w : Nots). behind table w l ls t) cc)
at_joint table (Complete x) v l ls t joint is = rw joint (ap (λ (w : Nots). behind table w l ls t) cc)
at_joint table (Closed o) v l ls t joint is = rw joint (ap (λ (w : Nots). behind table w l ls t) cc)
at_joint table p v l ls t joint is = absurd cc

finished_whole : (t : Leaf) → whole (finished t) ≡ Some (a_test t)
finished_whole (constant b) = refl
finished_whole (is_null n b) = refl
finished_whole (compares n c op x Unsaid) = refl
finished_whole (compares n c op x NoCase) = refl
finished_whole (compares n c op x Binary) = refl
finished_whole (like n b v None) = refl
finished_whole (like n b v (Some e)) = refl
finished_whole (glob n b v) = refl
finished_whole (regexp n b v) = refl
finished_whole (one_of n c b before x) = refl
finished_whole (between n c b low high) = refl

negated_not : (n : ℕ) (v : Nots) → negated n (not_not v) ≡ not_not (negated n v)
negated_not zero v = refl
negated_not (suc n) v = ap (λ (w : Nots). not_not w) (negated_not n v)

-- what stands before an and, and before an or, is joined to it
abbrev behind_nots : List Nots → Ands → Ands
behind_nots [] a = a
behind_nots (n ∷ ns) a = not_and n (behind_nots ns a)

abbrev behind_ands : List Ands → Ors → Ors
behind_ands [] o = o
behind_ands (a ∷ as') o = and_or a (behind_ands as' o)

behind_one_not : (ns : List Nots) (n : Nots) (a : Ands) → behind_nots (ns ++ n ∷ []) a ≡ behind_nots ns (not_and n a)
behind_one_not [] n a = refl
behind_one_not (m ∷ ns) n a = ap (λ (b : Ands). not_and m b) (behind_one_not ns n a)

behind_one_and : (bs : List Ands) (a : Ands) (o : Ors) → behind_ands (bs ++ a ∷ []) o ≡ behind_ands bs (and_or a o)
behind_one_and [] a o = refl
behind_one_and (b ∷ bs) a o = ap (λ (p : Ors). and_or b p) (behind_one_and bs a o)

last_behind : (ns : List Nots) (n : Nots) → and_of ns n ≡ behind_nots ns (last_not n)
last_behind [] n = refl
last_behind (m ∷ ns) n = ap (λ (a : Ands). not_and m a) (last_behind ns n)

last_behind_ands : (bs : List Ands) (a : Ands) → or_of bs a ≡ behind_ands bs (last_and a)
last_behind_ands [] a = refl
last_behind_ands (b ∷ bs) a = ap (λ (o : Ors). and_or b o) (last_behind_ands bs a)

-- ---- pieces: each is read up to a state in which it may end, whatever stands behind it

record ReadsNot (table : List ℕ) (ors : List Ands) (ands : List Nots) (n : ℕ) (v : Nots) : Type 0 where
  partial : Partial
  count : ℕ
  core : Nots
  is : whole partial ≡ Some core
  same : negated count core ≡ negated n v
  goes : (ls : List Level) (ts : List Sort)
      → run (Inside table Start (level ors ands n) ls) (spell_nots v ++ ts) ≡ run (Inside table partial (level ors ands count) ls) ts

record ReadsAnd (table : List ℕ) (ors : List Ands) (ands : List Nots) (a : Ands) : Type 0 where
  partial : Partial
  before : List Nots
  count : ℕ
  core : Nots
  is : whole partial ≡ Some core
  same : and_of before (negated count core) ≡ behind_nots ands a
  goes : (ls : List Level) (ts : List Sort)
      → run (Inside table Start (level ors ands 0) ls) (spell_and a ++ ts) ≡ run (Inside table partial (level ors before count) ls) ts

record ReadsOr (table : List ℕ) (ors : List Ands) (o : Ors) : Type 0 where
  partial : Partial
  before : List Ands
  ands : List Nots
  count : ℕ
  core : Nots
  is : whole partial ≡ Some core
  same : or_of before (and_of ands (negated count core)) ≡ behind_ands ors o
  goes : (ls : List Level) (ts : List Sort)
      → run (Inside table Start (level ors [] 0) ls) (spell_or o ++ ts) ≡ run (Inside table partial (level before ands count) ls) ts

-- a run goes on behind a step
pub goes_step : (s u : State) (t : Sort) (ts : List Sort) → step s t ≡ Some u → run s (t ∷ ts) ≡ run u ts
goes_step s u t ts is = rw is refl

-- one more piece: behind this not stands AND, and behind this and OR
then_and : (table : List ℕ) (ors : List Ands) (ands : List Nots) (v : Nots) (a : Ands)
    → ReadsNot table ors ands 0 v → ReadsAnd table ors (ands ++ v ∷ []) a → ReadsAnd table ors ands (not_and v a)
then_and table ors ands v a r s = record {
  partial = s.partial;
  before = s.before;
  count = s.count;
  core = s.core;
  is = s.is;
  same = s.same ∙ behind_one_not ands v a;
  goes = λ ls ts.
      let rest = spell_and a ++ ts in
      let joined : (spell_nots v ++ Word AND ∷ spell_and a) ++ ts ≡ spell_nots v ++ Word AND ∷ rest = append_assoc (spell_nots v) (Word AND ∷ spell_and a) ts in
      let stepped : step (Inside table r.partial (level ors ands r.count) ls) (Word AND)
      ≡ Some (Inside table Start (level ors (ands ++ v ∷ []) 0) ls)
      = at_joint table r.partial r.core (level ors ands r.count) ls (Word AND) refl r.is
      ∙ ap (λ (w : Nots). Some (Inside table Start (level ors (ands ++ w ∷ []) 0) ls)) r.same in
      ap (λ (us : List Sort). run (Inside table Start (level ors ands 0) ls) us) joined
      ∙ (r.goes ls (Word AND ∷ rest)
      ∙ (goes_step _ _ (Word AND) rest stepped ∙ s.goes ls ts));
}

then_or : (table : List ℕ) (ors : List Ands) (a : Ands) (o : Ors)
    → ReadsAnd table ors [] a → ReadsOr table (ors ++ a ∷ []) o → ReadsOr table ors (and_or a o)
then_or table ors a o r s = record {
  partial = s.partial;
  before = s.before;
  ands = s.ands;
  count = s.count;
  core = s.core;
  is = s.is;
  same = s.same ∙ behind_one_and ors a o;
  goes = λ ls ts.
      let rest = spell_or o ++ ts in
      let joined : (spell_and a ++ Word OR ∷ spell_or o) ++ ts ≡ spell_and a ++ Word OR ∷ rest = append_assoc (spell_and a) (Word OR ∷ spell_or o) ts in
      let stepped : step (Inside table r.partial (level ors r.before r.count) ls) (Word OR)
      ≡ Some (Inside table Start (level (ors ++ a ∷ []) [] 0) ls)
      = at_joint table r.partial r.core (level ors r.before r.count) ls (Word OR) refl r.is
      ∙ ap (λ (b : Ands). Some (Inside table Start (level (ors ++ b ∷ []) [] 0) ls)) r.same in
      ap (λ (us : List Sort). run (Inside table Start (level ors [] 0) ls) us) joined
      ∙ (r.goes ls (Word OR ∷ rest)
      ∙ (goes_step _ _ (Word OR) rest stepped ∙ s.goes ls ts));
}

last_of_and : (table : List ℕ) (ors : List Ands) (ands : List Nots) (v : Nots) → ReadsNot table ors ands 0 v → ReadsAnd table ors ands (last_not v)
last_of_and table ors ands v r = record {
  partial = r.partial;
  before = ands;
  count = r.count;
  core = r.core;
  is = r.is;
  same = ap (and_of ands) r.same ∙ last_behind ands v;
  goes = r.goes;
}

last_of_or : (table : List ℕ) (ors : List Ands) (a : Ands) → ReadsAnd table ors [] a → ReadsOr table ors (last_and a)
last_of_or table ors a r = record {
  partial = r.partial;
  before = ors;
  ands = r.before;
  count = r.count;
  core = r.core;
  is = r.is;
  same = ap (or_of ors) r.same ∙ last_behind_ands ors a;
  goes = r.goes;
}

after_not : (table : List ℕ) (ors : List Ands) (ands : List Nots) (n : ℕ) (v : Nots)
    → ReadsNot table ors ands (suc n) v → ReadsNot table ors ands n (not_not v)
unfolding step
after_not table ors ands n v r = record {
  partial = r.partial;
  count = r.count;
  core = r.core;
  is = r.is;
  same = r.same ∙ sym (negated_not n v);
  goes = λ ls ts. r.goes ls ts;
}

of_test : (table : List ℕ) (ors : List Ands) (ands : List Nots) (n : ℕ) (t : Leaf) → ReadsNot table ors ands n (a_test t)
of_test table ors ands n t = record {
  partial = finished t;
  count = n;
  core = a_test t;
  is = finished_whole t;
  same = refl;
  goes = λ ls ts. goes_test table (level ors ands n) ls t ts;
}

of_enclosed : (table : List ℕ) (ors : List Ands) (ands : List Nots) (n : ℕ) (o : Ors) → ReadsOr table [] o → ReadsNot table ors ands n (enclosed o)
unfolding step
of_enclosed table ors ands n o r = record {
  partial = Closed o;
  count = n;
  core = enclosed o;
  is = refl;
  same = refl;
  goes = λ ls ts.
      let here = level ors ands n in
      let joined : (spell_or o ++ Closing ∷ []) ++ ts ≡ spell_or o ++ Closing ∷ ts = append_assoc (spell_or o) (Closing ∷ []) ts in
      let stepped : step (Inside table r.partial (level r.before r.ands r.count) (here ∷ ls)) Closing ≡ Some (Inside table (Closed o) here ls)
      = at_joint table r.partial r.core (level r.before r.ands r.count) (here ∷ ls) Closing refl r.is
      ∙ ap (λ (p : Ors). Some (Inside table (Closed p) here ls)) r.same in
      ap (λ (us : List Sort). run (Inside table Start (level [] [] 0) (here ∷ ls)) us) joined
      ∙ (r.goes (here ∷ ls) (Closing ∷ ts)
      ∙ goes_step (Inside table r.partial (level r.before r.ands r.count) (here ∷ ls)) (Inside table (Closed o) here ls) Closing ts stepped);
}

mutual
  reads_or : (table : List ℕ) (ors : List Ands) (o : Ors) → ReadsOr table ors o
  reads_or table ors (last_and a) = last_of_or table ors a (reads_and table ors [] a)
  reads_or table ors (and_or a o) = then_or table ors a o (reads_and table ors [] a) (reads_or table (ors ++ a ∷ []) o)

  reads_and : (table : List ℕ) (ors : List Ands) (ands : List Nots) (a : Ands) → ReadsAnd table ors ands a
  reads_and table ors ands (last_not v) = last_of_and table ors ands v (reads_not table ors ands 0 v)
  reads_and table ors ands (not_and v a) = then_and table ors ands v a (reads_not table ors ands 0 v) (reads_and table ors (ands ++ v ∷ []) a)

  reads_not : (table : List ℕ) (ors : List Ands) (ands : List Nots) (n : ℕ) (v : Nots) → ReadsNot table ors ands n v
  reads_not table ors ands n (not_not v) = after_not table ors ands n v (reads_not table ors ands (suc n) v)
  reads_not table ors ands n (a_test t) = of_test table ors ands n t
  reads_not table ors ands n (enclosed o) = of_enclosed table ors ands n o (reads_or table [] o)

-- ---- a query

-- the end of a query, with and without a semicolon
ends_query : (table : List ℕ) (o : Ors) (b : Bool) (r : ReadsOr table [] o)
    → finish (run (Inside table r.partial (level r.before r.ands r.count) []) (spell_end b)) ≡ Ok (Some (record { table = table; condition = o; ends = b }))
ends_query table o false r = rw (r.is, r.same) refl
ends_query table o true r =
    let stepped : step (Inside table r.partial (level r.before r.ands r.count) []) Semicolon ≡ Some (Ended table o)
    = at_joint table r.partial r.core (level r.before r.ands r.count) [] Semicolon refl r.is
    ∙ ap (λ (p : Ors). Some (Ended table p)) r.same in
    ap finish (goes_step _ _ Semicolon [] stepped)

pub reads_query : (q : Query) → finish (run Begun (spell_query q)) ≡ Ok (Some q)
unfolding step
reads_query q =
    let r = reads_or q.table [] q.condition in
    ap finish (r.goes [] (spell_end q.ends)) ∙ ends_query q.table q.condition q.ends r

-- a spelling is that of one query at most
pub one_spelled : (p q : Query) → spell_query p ≡ spell_query q → p ≡ q
one_spelled p q same =
    let e = ap (λ (ts : List Sort). finish (run Begun ts)) same in
    let f = reads_query p in
    let g = reads_query q in
    cc
