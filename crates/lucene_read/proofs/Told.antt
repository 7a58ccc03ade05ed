-- The reader's steps are those of the reading token by token, with what is kept of its state and the faults so far.
use Rattle.std.proofs.Common.{ℕ, ◌≡◌, ◌+◌, ◌-◌, refl, sym, ◌∙◌, ap, Bool, true, false, List, [], ◌∷◌, ◌++◌, length, drop, append_assoc, append-nil, length-append, subst, arith}
use Rattle.std.specs.Prelude.{Option, Some, None, Ok, Err, if◌then◌else◌}
use Rattle.event_schema.specs.declared.schema.Field.{Field}
use Rattle.event_schema.specs.declared.schema.Schema.{Schema}
use Rattle.query_tokens.specs.Places.{At, origin, place_after, CodeAt, code_at, code_at_if, nth}
use Rattle.query_tokens.specs.Tokens.{sorts, places, token_place}
use Rattle.lucene_lang.specs.declared.query.Word.{Word}
use Rattle.lucene_lang.specs.Tokens.{Token, Sort, Joins, Not, Star, Wild, To, Decimal, Plain, Phrase, Opening, Closing, Opens, Closes, Colon, tokens}
use Rattle.lucene_lang.specs.Grammar as grammar
use Rattle.lucene_lang.specs.Grammar.{Name, to, decimal, plain, star, wild, exact, a_term, a_phrase, a_range, Value, Leaf, everything, sought, last, joined, asked, forbidden, a_leaf, enclosed, spell_atom, spell_clause}
use Rattle.lucene_lang.specs.Query as query
use Rattle.lucene_lang.specs.Query.{Atom, OfGroup, Everything, name_text, found_in, group_of}
use Rattle.lucene_lang.specs.Faults.{differs, group_mixed, clause_mixed, atom_mixed, group_faults, clause_faults, atom_faults, found_faults, leaf_faults}
use Rattle.lucene_lang.specs.Machine as machine
use Rattle.lucene_lang.specs.Machine.{Partial, Start, Starred, StarColon, Named, Seeking, Ranging, Low, Upto, High, Complete, Before, before, Level, level, clause_if, ended, State, Inside, begun}
use Rattle.lucene_lang.specs.Verdict.{on_faults, on_query}
use Rattle.lucene_lang.proofs.Sofar.{sofar_level, sofar_outer, sofar, Grows, step_grows}
use Rattle.lucene_read.specs.Known.{Leafed}
use Rattle.lucene_read.specs.Steps as steps
use Rattle.lucene_read.specs.Steps.{first_of, mixed_at, with_ill, wrong}
use Rattle.lucene_read.proofs.Faulty as faulty
use Rattle.lucene_read.proofs.Faulty.{nth_dropped, word_behind}
use Rattle.lucene_read.proofs.Kept.{first_in, first_none, first_both, name_of, leafed, kept_leaf, kept_is, ill_is, kept_atom, kept_group, whole_group, word_in, level_in, levels_in, level_ended, level_joined, bound_in, ranged_is}

-- ---- faults of a state, those of words and those of leaves

abbrev mixed_word : Option Word → Word → At → List CodeAt
mixed_word v w p = code_at_if (differs v w) 134 p

abbrev no_word : Option Word → Word → At → List CodeAt
no_word v w p = []

abbrev mixed_in : State → List At → List CodeAt
mixed_in = faulty.state_faults group_mixed clause_mixed atom_mixed mixed_word (λ v c ps. refl) (λ v c w g ps. refl) (λ a ps. refl) (λ a ps. refl) (λ g ps. refl)

module _ (fields : List Field) where
  abbrev ill_group : Option Word → grammar.Group → List At → List CodeAt
  ill_group v g ps = group_faults fields g ps

  abbrev ill_in : State → List At → List CodeAt
  ill_in = faulty.state_faults ill_group (clause_faults fields) (atom_faults fields) no_word (λ v c ps. refl) (λ v c w g ps. refl) (λ a ps. refl) (λ a ps. refl) (λ g ps. refl)

-- the word of the clauses before is the first one
word_stays : (w : Word) (bs : List Before) → word_behind (Some w) bs ≡ Some w
word_stays w [] = refl
word_stays w (b ∷ bs) = word_stays w bs

word_is : (fields : List Field) (bs : List Before) → word_behind None bs ≡ word_in fields bs
word_is fields [] = refl
word_is fields (b ∷ bs) = word_stays b.word bs

first_mixed : (b : Bool) (p : At) → first_in (code_at_if b 134 p) ≡ mixed_at b p
first_mixed true p = refl
first_mixed false p = refl

ill_added : (os fs : List CodeAt) (i : Option CodeAt) → i ≡ first_in fs → first_of (first_in (os ++ [])) i ≡ first_in (os ++ fs)
ill_added os fs i is = ap (λ (gs : List CodeAt). first_of (first_in gs) i) (append-nil os) ∙ (ap (first_of (first_in os)) is ∙ sym (first_both os fs))

same_nth : (ps : List At) (m n : ℕ) → m ≡ n → nth ps m ≡ nth ps n
same_nth ps m n is = ap (nth ps) is

grown : (s : State) (t : Sort) (u : State) → machine.step s t ≡ Some u → sofar u ≡ sofar s ++ t ∷ []
grown s t u is = let P : Option State → Type 0 = λ o. Grows o (sofar s ++ t ∷ []) in subst P is (step_grows s t)

-- ---- what is kept of a state

module _ (fields : List Field) (ps : List At) where
  abbrev now_in : Partial → At → steps.Now
  now_in Start p = steps.Reading steps.Start
  now_in Starred p = steps.Reading steps.Starred
  now_in StarColon p = steps.Reading steps.StarColon
  now_in (Named n) p = steps.Reading (steps.Named (name_of fields n p))
  now_in (Seeking n) p = steps.Reading (steps.Seeking (name_of fields n p))
  now_in (Ranging n b) p = steps.Reading (steps.Ranging (name_of fields n p) b)
  now_in (Low n b e) p = steps.Reading (steps.Low (name_of fields n p) b (bound_in e))
  now_in (Upto n b e) p = steps.Reading (steps.Upto (name_of fields n p) b (bound_in e))
  now_in (High n b e f) p = steps.Reading (steps.High (name_of fields n p) b (bound_in e) (bound_in f))
  now_in (Complete a) p = steps.Whole (kept_atom fields a)

  abbrev outer_ill : Level → List Level → List CodeAt
  outer_ill l ls = faulty.outer_faults (ill_group fields) (clause_faults fields) (atom_faults fields) no_word (λ v c qs. refl) (λ v c w g qs. refl) (λ a qs. refl) (λ a qs. refl) (λ g qs. refl) (l ∷ ls) ps

  -- the place of an atom's first token
  abbrev start_at : Level → List Level → At
  start_at l ls = nth ps (length (sofar_outer ls ++ sofar_level l))

  abbrev wrong_in : State → steps.Wrong
  wrong_in s = wrong (first_in (mixed_in s ps)) (first_in (ill_in fields s ps))

  abbrev kept : State → steps.State
  kept (Inside p l ls) = steps.state (now_in p (start_at l ls)) (level_in fields l) (levels_in fields ls) (wrong_in (Inside p l ls))

  abbrev kept_if : Option State → Option steps.State
  kept_if None = None
  kept_if (Some s) = Some (kept s)

  abbrev Steps : State → Sort → Type 0
  Steps s t = (p : At) → p ≡ nth ps (length (sofar s)) → steps.inside fields (kept s).now (kept s).level (kept s).outer (kept s).wrong t p ≡ kept_if (machine.step s t)

  module _ (l : Level) (ls : List Level) where
    -- a name begins
    begins : (n : Name) (p : At) → p ≡ nth ps (length (sofar (Inside Start l ls)))
        → Some (steps.state (steps.Reading (steps.Named (name_of fields n p))) (level_in fields l) (levels_in fields ls) (wrong_in (Inside Start l ls))) ≡ Some (kept (Inside (Named n) l ls))
    begins n p is =
        let here : p ≡ start_at l ls = is ∙ ap (λ (ts : List Sort). nth ps (length (sofar_outer ls ++ ts))) (append-nil (sofar_level l)) in
        ap (λ (q : At). Some (steps.state (steps.Reading (steps.Named (name_of fields n q))) (level_in fields l) (levels_in fields ls) (wrong_in (Inside Start l ls)))) here

    -- a leaf ends
    ends_leaf : (n : Name) (v : Value)
        → Some (steps.state (steps.Whole (leafed fields n v (start_at l ls)).atom) (level_in fields l) (levels_in fields ls) (with_ill (wrong_in (Inside Start l ls)) (leafed fields n v (start_at l ls)).ill))
        ≡ Some (kept (Inside (Complete (a_leaf (sought n v))) l ls))
    ends_leaf n v =
        let p = start_at l ls in
        let k = length (sofar_outer ls ++ sofar_level l) in
        let i = (leafed fields n v p).ill in
        let w = wrong_in (Inside Start l ls) in
        let place : p ≡ nth (drop k ps) 0 = same_nth ps k (k + 0) (omega arith) ∙ sym (nth_dropped k 0 ps) in
        let ill : i ≡ first_in (leaf_faults fields (sought n v) (drop k ps)) =
        ill_is fields n v p ∙ ap (λ (q : At). first_in (found_faults fields (found_in fields (name_text n)) v q)) place in
        let all : first_of (first_in (outer_ill l ls ++ [])) i ≡ first_in (outer_ill l ls ++ leaf_faults fields (sought n v) (drop k ps)) = ill_added (outer_ill l ls) (leaf_faults fields (sought n v) (drop k ps)) i ill in
        ap (λ (a : Atom). Some (steps.state (steps.Whole a) (level_in fields l) (levels_in fields ls) (with_ill w i))) (kept_is fields n v p)
        ∙ ap (λ (o : Option CodeAt). Some (steps.state (steps.Whole (kept_leaf fields (sought n v))) (level_in fields l) (levels_in fields ls) (wrong w.mixed o))) all

    -- *:* ends
    ends_everything : Some (steps.state (steps.Whole Everything) (level_in fields l) (levels_in fields ls) (with_ill (wrong_in (Inside Start l ls)) None)) ≡ Some (kept (Inside (Complete (a_leaf everything)) l ls))
    ends_everything =
        let w = wrong_in (Inside Start l ls) in
        ap (λ (o : Option CodeAt). Some (steps.state (steps.Whole Everything) (level_in fields l) (levels_in fields ls) (wrong w.mixed o))) (first_none w.ill)

    opens : Some (steps.state (steps.Reading steps.Start) (steps.level [] None false) (level_in fields l ∷ levels_in fields ls) (wrong_in (Inside Start l ls))) ≡ Some (kept (Inside Start (level [] false) (l ∷ ls)))
    opens =
        let s : List CodeAt → List CodeAt → Option steps.State = λ ms is. Some (steps.state (steps.Reading steps.Start) (steps.level [] None false) (level_in fields l ∷ levels_in fields ls) (wrong (first_in ms) (first_in is))) in
        ap (λ (ms : List CodeAt). s ms (ill_in fields (Inside Start l ls) ps))
        (sym (faulty.opening_faults group_mixed clause_mixed atom_mixed mixed_word (λ v c qs. refl) (λ v c w g qs. refl) (λ a qs. refl) (λ a qs. refl) (λ g qs. refl) ps l ls Start Start refl refl))
        ∙ ap (λ (is : List CodeAt). s (mixed_in (Inside Start (level [] false) (l ∷ ls)) ps) is)
        (sym (faulty.opening_faults (ill_group fields) (clause_faults fields) (atom_faults fields) no_word (λ v c qs. refl) (λ v c w g qs. refl) (λ a qs. refl) (λ a qs. refl) (λ g qs. refl) ps l ls Start Start refl refl))

    joins : (a : grammar.Atom) (w : Word) (p : At) → p ≡ nth ps (length (sofar (Inside (Complete a) l ls)))
        → Some (steps.state (steps.Reading steps.Start) (steps.joint (kept_atom fields a) (level_in fields l) w) (levels_in fields ls) (steps.with_mixed (wrong_in (Inside (Complete a) l ls)) (differs (word_in fields l.clauses) w) p))
        ≡ Some (kept (Inside Start (level (l.clauses ++ before (clause_if l.negated a) w ∷ []) false) ls))
    joins a w p is =
        let old = Inside (Complete a) l ls in
        let m = level (l.clauses ++ before (clause_if l.negated a) w ∷ []) false in
        let new = Inside Start m ls in
        let said = mixed_word (word_in fields l.clauses) w p in
        let mixed : first_of (first_in (mixed_in old ps)) (mixed_at (differs (word_in fields l.clauses) w) p) ≡ first_in (mixed_in new ps) =
        ap (first_of (first_in (mixed_in old ps))) (sym (first_mixed (differs (word_in fields l.clauses) w) p))
        ∙ (sym (first_both (mixed_in old ps) said)
        ∙ (ap (λ (q : At). first_in (mixed_in old ps ++ mixed_word (word_in fields l.clauses) w q)) is
        ∙ (ap (λ (v : Option Word). first_in (mixed_in old ps ++ mixed_word v w (nth ps (length (sofar old))))) (sym (word_is fields l.clauses))
        ∙ ap first_in (sym (faulty.word_faults group_mixed clause_mixed atom_mixed mixed_word (λ v c qs. refl) (λ v c x g qs. refl) (λ b qs. refl) (λ b qs. refl) (λ g qs. refl) ps a l ls w Start refl))))) in
        let ill : ill_in fields old ps ≡ ill_in fields new ps =
        sym (append-nil (ill_in fields old ps))
        ∙ sym (faulty.word_faults (ill_group fields) (clause_faults fields) (atom_faults fields) no_word (λ v c qs. refl) (λ v c x g qs. refl) (λ b qs. refl) (λ b qs. refl) (λ g qs. refl) ps a l ls w Start refl) in
        ap (λ (n : steps.Level). Some (steps.state (steps.Reading steps.Start) n (levels_in fields ls) (steps.with_mixed (wrong_in old) (differs (word_in fields l.clauses) w) p))) (level_joined fields l a w)
        ∙ (ap (λ (o : Option CodeAt). Some (steps.state (steps.Reading steps.Start) (level_in fields m) (levels_in fields ls) (wrong o (first_in (ill_in fields old ps))))) mixed
        ∙ ap (λ (fs : List CodeAt). Some (steps.state (steps.Reading steps.Start) (level_in fields m) (levels_in fields ls) (wrong (first_in (mixed_in new ps)) (first_in fs)))) ill)

  closes : (a : grammar.Atom) (l m : Level) (ls : List Level)
      → Some (steps.state (steps.Whole (OfGroup (steps.ended (level_in fields l) (kept_atom fields a)))) (level_in fields m) (levels_in fields ls) (wrong_in (Inside (Complete a) l (m ∷ ls))))
      ≡ Some (kept (Inside (Complete (enclosed (ended l a))) m ls))
  closes a l m ls =
      let old = Inside (Complete a) l (m ∷ ls) in
      let new = Inside (Complete (enclosed (ended l a))) m ls in
      let s : query.Group → List CodeAt → List CodeAt → Option steps.State = λ g ms is. Some (steps.state (steps.Whole (OfGroup g)) (level_in fields m) (levels_in fields ls) (wrong (first_in ms) (first_in is))) in
      ap (λ (g : query.Group). s g (mixed_in old ps) (ill_in fields old ps)) (level_ended fields l a)
      ∙ (ap (λ (ms : List CodeAt). s (kept_group fields (ended l a)) ms (ill_in fields old ps))
      (sym (faulty.closing_faults group_mixed clause_mixed atom_mixed mixed_word (λ v c qs. refl) (λ v c x g qs. refl) (λ b qs. refl) (λ b qs. refl) (λ g qs. refl) ps a l m ls))
      ∙ ap (λ (is : List CodeAt). s (kept_group fields (ended l a)) (mixed_in new ps) is)
      (sym (faulty.closing_faults (ill_group fields) (clause_faults fields) (atom_faults fields) no_word (λ v c qs. refl) (λ v c x g qs. refl) (λ b qs. refl) (λ b qs. refl) (λ g qs. refl) ps a l m ls)))

  step_told : (s : State) (t : Sort) → Steps s t
  unfolding machine.step machine.go_on steps.go_on
  step_told (Inside Start l ls) Star p is = refl
  step_told (Inside Start l ls) To p is = begins l ls to p is
  step_told (Inside Start l ls) (Decimal w) p is = begins l ls (decimal w) p is
  step_told (Inside Start l ls) (Plain w) p is = begins l ls (plain w) p is
  step_told (Inside Start l ls) Not p is = by l.negated where
    by : (b : Bool)
        → (if b then None else Some (steps.state (steps.Reading steps.Start) (steps.level (level_in fields l).clauses (word_in fields l.clauses) true) (levels_in fields ls) (wrong_in (Inside Start l ls))))
        ≡ kept_if (machine.on_not b l.clauses ls)
    by true = refl
    by false = refl
  step_told (Inside Start l ls) Opening p is = opens l ls
  step_told (Inside Start l ls) t p is = refl
  step_told (Inside Starred l ls) Colon p is = refl
  step_told (Inside Starred l ls) t p is = refl
  step_told (Inside StarColon l ls) Star p is = ends_everything l ls
  step_told (Inside StarColon l ls) t p is = refl
  step_told (Inside (Named n) l ls) Colon p is = refl
  step_told (Inside (Named n) l ls) t p is = refl
  step_told (Inside (Seeking n) l ls) Star p is = ends_leaf l ls n (a_term star)
  step_told (Inside (Seeking n) l ls) (Wild w) p is = ends_leaf l ls n (a_term (wild w))
  step_told (Inside (Seeking n) l ls) To p is = ends_leaf l ls n (a_term (exact to))
  step_told (Inside (Seeking n) l ls) (Decimal w) p is = ends_leaf l ls n (a_term (exact (decimal w)))
  step_told (Inside (Seeking n) l ls) (Plain w) p is = ends_leaf l ls n (a_term (exact (plain w)))
  step_told (Inside (Seeking n) l ls) (Phrase w) p is = ends_leaf l ls n (a_phrase w)
  step_told (Inside (Seeking n) l ls) (Opens b) p is = refl
  step_told (Inside (Seeking n) l ls) t p is = refl
  step_told (Inside (Ranging n b) l ls) Star p is = refl
  step_told (Inside (Ranging n b) l ls) (Decimal w) p is = refl
  step_told (Inside (Ranging n b) l ls) t p is = refl
  step_told (Inside (Low n b e) l ls) To p is = refl
  step_told (Inside (Low n b e) l ls) t p is = refl
  step_told (Inside (Upto n b e) l ls) Star p is = refl
  step_told (Inside (Upto n b e) l ls) (Decimal w) p is = refl
  step_told (Inside (Upto n b e) l ls) t p is = refl
  step_told (Inside (High n b e f) l ls) (Closes c) p is =
      ap (λ (x : Leafed). Some (steps.state (steps.Whole x.atom) (level_in fields l) (levels_in fields ls) (with_ill (wrong_in (Inside Start l ls)) x.ill))) (ranged_is fields n b e f c (start_at l ls))
      ∙ ends_leaf l ls n (a_range b e f c)
  step_told (Inside (High n b e f) l ls) t p is = refl
  step_told (Inside (Complete a) l ls) (Joins w) p is = joins l ls a w p is
  step_told (Inside (Complete a) l []) Closing p is = refl
  step_told (Inside (Complete a) l (m ∷ ls)) Closing p is = closes a l m ls
  step_told (Inside (Complete a) l ls) t p is = refl

-- ---- all tokens

sort_place : (cs : List ℕ) (front : List Token) (t : Token) (rest : List Token) → token_place cs (front ++ t ∷ rest) (length (sorts front)) ≡ t.place
sort_place cs [] t rest = refl
sort_place cs (u ∷ front) t rest = sort_place cs front t rest

end_place : (cs : List ℕ) (ts : List Token) → token_place cs ts (length (sorts ts)) ≡ place_after origin cs
end_place cs [] = refl
end_place cs (t ∷ ts) = end_place cs ts

nth_place : (front : List Token) (t : Token) (rest : List Token) → nth (places (front ++ t ∷ rest)) (length (sorts front)) ≡ t.place
nth_place [] t rest = refl
nth_place (u ∷ front) t rest = nth_place front t rest

sorts_both : (front rest : List Token) → sorts (front ++ rest) ≡ sorts front ++ sorts rest
sorts_both [] rest = refl
sorts_both (t ∷ front) rest = ap (λ (ss : List Sort). t.sort ∷ ss) (sorts_both front rest)

module _ (schema : Schema) (cs : List ℕ) where
  abbrev all_places : List At
  all_places = places (tokens cs)

  abbrev held : State → steps.State
  held s = kept schema.fields all_places s

  judged_is : (ms is : List CodeAt) (g h : query.Group) → (is ≡ [] → g ≡ h) → steps.judged (first_in ms) (first_in is) g ≡ on_faults h (ms ++ is)
  judged_is [] [] g h same = ap (λ (x : query.Group). Ok x) (same refl)
  judged_is [] (f ∷ is) g h same = refl
  judged_is (f ∷ ms) is g h same = refl

  stopped_at_end : Err (code_at 130 (place_after origin cs)) ≡ on_query schema cs (Ok None)
  stopped_at_end = ap (λ (p : At). Err (code_at 130 p)) (sym (end_place cs (tokens cs)))

  ends_told : (s : State) → steps.finish (held s) (place_after origin cs) ≡ on_query schema cs (Ok (machine.done s))
  ends_told (Inside (Complete a) l []) =
      let q = ended l a in
      let s = Inside (Complete a) l [] in
      let ms = faulty.whole_faults group_mixed clause_mixed atom_mixed mixed_word (λ v c qs. refl) (λ v c x g qs. refl) (λ b qs. refl) (λ b qs. refl) (λ g qs. refl) all_places a l in
      let is = faulty.whole_faults (ill_group schema.fields) (clause_faults schema.fields) (atom_faults schema.fields) no_word (λ v c qs. refl) (λ v c x g qs. refl) (λ b qs. refl) (λ b qs. refl) (λ g qs. refl) all_places a l in
      ap (λ (fs : List CodeAt). steps.judged (first_in fs) (first_in (ill_in schema.fields s all_places)) (steps.ended (level_in schema.fields l) (kept_atom schema.fields a))) ms
      ∙ (ap (λ (fs : List CodeAt). steps.judged (first_in (group_mixed None q all_places)) (first_in fs) (steps.ended (level_in schema.fields l) (kept_atom schema.fields a))) is
      ∙ judged_is (group_mixed None q all_places) (group_faults schema.fields q all_places) (steps.ended (level_in schema.fields l) (kept_atom schema.fields a)) (group_of schema.fields q)
      (λ none. level_ended schema.fields l a ∙ whole_group schema.fields q all_places none))
  ends_told (Inside (Complete a) l (m ∷ ls)) = stopped_at_end
  ends_told (Inside p l ls) = stopped_at_end

  abbrev Answered : State → List Token → Type 0
  Answered s rest = steps.run schema.fields (held s) rest (place_after origin cs) ≡ on_query schema cs (machine.finish (machine.run s (sorts rest)))

  on_next : (s : State) (t : Token) (front rest : List Token) (o : Option State) → tokens cs ≡ front ++ t ∷ rest → ((u : State) → machine.step s t.sort ≡ Some u → Answered u rest) → machine.step s t.sort ≡ o
      → steps.on_step (kept_if schema.fields all_places o) (λ u. steps.run schema.fields u rest (place_after origin cs)) t.place
      ≡ on_query schema cs (machine.finish (machine.on_step o (λ u. machine.run u (sorts rest)) (sorts (t ∷ rest))))
  on_next s t front rest None all more is =
      let count : length (sorts (tokens cs)) - length (sorts (t ∷ rest)) ≡ length (sorts front) =
      omega (arith, ap length (ap sorts all ∙ sorts_both front (t ∷ rest)), length-append (sorts front) (sorts (t ∷ rest))) in
      ap (λ (p : At). Err (code_at 130 p)) (sym (sort_place cs front t rest) ∙ (ap (λ (ts : List Token). token_place cs ts (length (sorts front))) (sym all) ∙ ap (token_place cs (tokens cs)) (sym count)))
  on_next s t front rest (Some u) all more is = more u is

  run_told : (s : State) (front rest : List Token) → tokens cs ≡ front ++ rest → sofar s ≡ sorts front → Answered s rest
  unfolding steps.step
  run_told s front [] all read = ends_told s
  run_told s front (t ∷ rest) all read =
      let place : t.place ≡ nth all_places (length (sofar s)) =
      sym (nth_place front t rest) ∙ (ap (λ (ts : List Token). nth (places ts) (length (sorts front))) (sym all) ∙ ap (λ (ss : List Sort). nth all_places (length ss)) (sym read)) in
      ap (λ (o : Option steps.State). steps.on_step o (λ u. steps.run schema.fields u rest (place_after origin cs)) t.place) (step_told schema.fields all_places s t.sort t.place place)
      ∙ on_next s t front rest (machine.step s t.sort) all
      (λ u is. run_told u (front ++ t ∷ []) rest (all ∙ sym (append_assoc front (t ∷ []) rest)) (grown s t.sort u is ∙ (ap (λ (ss : List Sort). ss ++ t.sort ∷ []) read ∙ sym (sorts_both front (t ∷ []))))) refl

  pub read_is : steps.run schema.fields steps.begun (tokens cs) (place_after origin cs) ≡ on_query schema cs (machine.finish (machine.run begun (sorts (tokens cs))))
  read_is = run_told begun [] (tokens cs) refl refl
