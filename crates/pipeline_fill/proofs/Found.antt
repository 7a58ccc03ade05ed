-- Entries that are found by the number of their text.
use Rattle.std.proofs.Common.{ℕ, zero, suc, ◌+◌, ◌<◌, ◌≤◌, length, get_or, map, ◌≡◌, Bool, true, false, not, cond, nat_lt, List, [], ◌∷◌, refl, sym, subst, ap, ◌∙◌}
use native.Mathlib.Omega.{arith}
use Rattle.std.specs.Prelude.{Some, None, if◌then◌else◌, ◌||◌}
use Rattle.std.specs.List.{position, position_or_len}
use Rattle.std.specs.Str.{bytes_eq}
use Rattle.std.proofs.lemmas.Bool.{ltb-true, ltb-false, lt-ltb, le-ltb}
use Rattle.std.proofs.lemmas.List.{length-map}
use Rattle.pipeline_model.specs.Concerned.{is_among}
use Rattle.pipeline_model.specs.declared.step.Pair.{Pair}
use Rattle.pipeline_fill.specs.declared.entry.Entry.{Entry}
use Rattle.pipeline_fill.specs.Counts.{capped}
use Rattle.pipeline_fill.specs.Entries.{texts_for, longest_of, extent_of}
use Rattle.pipeline_fill.specs.Made.{froms_of, found_of, entry_view, entries_view}

-- ---- the first place at which a test passes

number_of : (b : Bool) (n m len : ℕ) → nat_lt m len ≡ b → Some n ≡ cond b (Some m) None → (m < len) × (n ≡ m)
number_of true n m len e same = (ltb-true m len e, cc)
number_of false n m len e same = absurd cc

no_number : (b : Bool) (m len : ℕ) → nat_lt m len ≡ b → None ≡ cond b (Some m) None → len ≤ m
no_number true m len e none = absurd cc
no_number false m len e none = ltb-false m len e

entry_at : (text : List ℕ) (pairs : List Pair) (d : Pair) → position_or_len (λ t. bytes_eq t text) (froms_of pairs) < length pairs
    → texts_for pairs text ≡ Some (get_or pairs (position_or_len (λ t. bytes_eq t text) (froms_of pairs)) d).to
entry_at text [] d inside = absurd (let h : 0 < 0 = inside in omega arith)
entry_at text (pair ∷ pairs) d inside = by (bytes_eq pair.from text) (entry_at text pairs d) inside
  where
    by : (b : Bool) → (position_or_len (λ t. bytes_eq t text) (froms_of pairs) < length pairs
        → texts_for pairs text ≡ Some (get_or pairs (position_or_len (λ t. bytes_eq t text) (froms_of pairs)) d).to)
        → cond (not b) (1 + position_or_len (λ t. bytes_eq t text) (froms_of pairs)) 0 < suc (length pairs)
        → (if b then Some pair.to else texts_for pairs text)
        ≡ Some (get_or (pair ∷ pairs) (cond (not b) (1 + position_or_len (λ t. bytes_eq t text) (froms_of pairs)) 0) d).to
    by true rest inside = refl
    by false rest inside =
        let e : 1 + position_or_len (λ t. bytes_eq t text) (froms_of pairs) ≡ suc (position_or_len (λ t. bytes_eq t text) (froms_of pairs)) = omega arith in
        rest (omega (arith, inside)) ∙ ap (λ (m : ℕ). Some (get_or (pair ∷ pairs) m d).to) (sym e)

no_entry_at : (text : List ℕ) (pairs : List Pair) → length pairs ≤ position_or_len (λ t. bytes_eq t text) (froms_of pairs) → texts_for pairs text ≡ None
no_entry_at text [] long = refl
no_entry_at text (pair ∷ pairs) long = by (bytes_eq pair.from text) (no_entry_at text pairs) long
  where
    by : (b : Bool) → (length pairs ≤ position_or_len (λ t. bytes_eq t text) (froms_of pairs) → texts_for pairs text ≡ None)
        → suc (length pairs) ≤ cond (not b) (1 + position_or_len (λ t. bytes_eq t text) (froms_of pairs)) 0
        → (if b then Some pair.to else texts_for pairs text) ≡ None
    by true rest long = absurd (let h : suc (length pairs) ≤ 0 = long in omega arith)
    by false rest long = rest (omega (arith, long))

within : (text : List ℕ) (pairs : List Pair) (keys : List (List ℕ)) (n : ℕ) → keys ≡ froms_of pairs → Some n ≡ position (λ t. bytes_eq t text) keys
    → (n < length pairs) × (n ≡ position_or_len (λ t. bytes_eq t text) (froms_of pairs))
within text pairs keys n same is =
    let at : Some n ≡ position (λ t. bytes_eq t text) (froms_of pairs) = is ∙ ap (position (λ t. bytes_eq t text)) same in
    let found =
    number_of (nat_lt (position_or_len (λ t. bytes_eq t text) (froms_of pairs)) (length (froms_of pairs))) n (position_or_len (λ t. bytes_eq t text) (froms_of pairs)) (length (froms_of pairs)) refl at
    in
    let long : length (froms_of pairs) ≡ length pairs = length-map pairs (λ pair. pair.from) in
    (omega (arith, found.0, found.1, long), found.1)

found_texts : (text : List ℕ) (pairs : List Pair) (keys : List (List ℕ)) (n : ℕ) (d : Pair) → keys ≡ froms_of pairs → Some n ≡ position (λ t. bytes_eq t text) keys
    → texts_for pairs text ≡ Some (get_or pairs n d).to
found_texts text pairs keys n d same is =
    let found = within text pairs keys n same is in
    entry_at text pairs d (subst (λ (m : ℕ). m < length pairs) found.1 found.0) ∙ ap (λ (m : ℕ). Some (get_or pairs m d).to) (sym found.1)

pub none_found : (text : List ℕ) (pairs : List Pair) (keys : List (List ℕ)) → keys ≡ froms_of pairs → None ≡ position (λ t. bytes_eq t text) keys
    → texts_for pairs text ≡ None
none_found text pairs keys same is =
    let at : None ≡ position (λ t. bytes_eq t text) (froms_of pairs) = is ∙ ap (position (λ t. bytes_eq t text)) same in
    let long : length (froms_of pairs) ≡ length pairs = length-map pairs (λ pair. pair.from) in
    no_entry_at text pairs (omega (
      arith,
      long,
      no_number (nat_lt (position_or_len (λ t. bytes_eq t text) (froms_of pairs)) (length (froms_of pairs))) (position_or_len (λ t. bytes_eq t text) (froms_of pairs)) (length (froms_of pairs)) refl at,
    ))

-- ---- the entry there

same_there : (entries : List Entry) (pairs : List Pair) (n : ℕ) (e : Entry) (d : Pair) → entries_view entries ≡ map found_of pairs → n < length entries
    → entry_view (get_or entries n e) ≡ found_of (get_or pairs n d)
same_there [] pairs n e d same inside = absurd (let h : n < 0 = inside in omega (arith, h))
same_there (x ∷ entries) [] n e d same inside = absurd cc
same_there (x ∷ entries) (p ∷ pairs) zero e d same inside = cc
same_there (x ∷ entries) (p ∷ pairs) (suc n) e d same inside =
    let rest : entries_view entries ≡ map found_of pairs = cc in
    same_there entries pairs n e d rest (omega (arith, inside))

same_length : (entries : List Entry) (pairs : List Pair) → entries_view entries ≡ map found_of pairs → length entries ≡ length pairs
same_length entries pairs same =
    sym (length-map entries entry_view) ∙ (ap (λ (xs : List (List (List ℕ) × ℕ × ℕ)). length xs) same ∙ length-map pairs found_of)

some_pair : (pairs : List Pair) (n : ℕ) → n < length pairs → Pair
some_pair [] n inside = absurd (let h : n < 0 = inside in omega (arith, h))
some_pair (p ∷ pairs) n inside = p

pub some_found : (text : List ℕ) (pairs : List Pair) (keys : List (List ℕ)) (entries : List Entry) (n : ℕ) (e : Entry) → keys ≡ froms_of pairs
    → entries_view entries ≡ map found_of pairs → Some n ≡ position (λ t. bytes_eq t text) keys → e ≡ get_or entries n e → n < length entries
    → (texts_for pairs text ≡ Some e.texts.now) × (e.longest ≡ longest_of e.texts.now) × (e.extent ≡ capped (extent_of e.texts.now))
some_found text pairs keys entries n e same listed is at inside =
    let found = within text pairs keys n same is in
    let d : Pair = some_pair pairs n found.0 in
    let there : entry_view e ≡ found_of (get_or pairs n d) = ap entry_view at ∙ same_there entries pairs n e d listed inside in
    let texts : e.texts.now ≡ (get_or pairs n d).to = ap (λ (v : List (List ℕ) × ℕ × ℕ). v.0) there in (
      found_texts text pairs keys n d same is ∙ ap Some (sym texts),
      ap (λ (v : List (List ℕ) × ℕ × ℕ). v.1) there ∙ ap longest_of (sym texts),
      ap (λ (v : List (List ℕ) × ℕ × ℕ). v.2) there ∙ ap (λ (ts : List (List ℕ)). capped (extent_of ts)) (sym texts),
    )

-- an entry that is found has a number that there is no entry for
pub never_missing : (text : List ℕ) (pairs : List Pair) (keys : List (List ℕ)) (entries : List Entry) (n : ℕ) → keys ≡ froms_of pairs
    → entries_view entries ≡ map found_of pairs → Some n ≡ position (λ t. bytes_eq t text) keys → length entries ≤ n → texts_for pairs text ≡ None
never_missing text pairs keys entries n same listed is long =
    absurd (let found = within text pairs keys n same is in let lengths = same_length entries pairs listed in omega (arith, found.0, lengths, long))

-- ---- whether a text is there

among_by : (names : List (List ℕ)) (name : List ℕ) → nat_lt (position_or_len (λ t. bytes_eq t name) names) (length names) ≡ is_among names name
among_by [] name = refl
among_by (n ∷ names) name = by (bytes_eq n name) (among_by names name)
  where
    one_less : (m len : ℕ) → nat_lt (1 + m) (suc len) ≡ nat_lt m len
    one_less m len = step (nat_lt m len) refl
      where
        step : (b : Bool) → nat_lt m len ≡ b → nat_lt (1 + m) (suc len) ≡ b
        step true e = let h : m < len = ltb-true m len e in lt-ltb (1 + m) (suc len) (omega (arith, h))
        step false e = let h : len ≤ m = ltb-false m len e in le-ltb (1 + m) (suc len) (omega (arith, h))

    by : (b : Bool) → nat_lt (position_or_len (λ t. bytes_eq t name) names) (length names) ≡ is_among names name
        → nat_lt (cond (not b) (1 + position_or_len (λ t. bytes_eq t name) names) 0) (suc (length names)) ≡ (b || is_among names name)
    by true rest = lt-ltb 0 (suc (length names)) (omega arith)
    by false rest = one_less (position_or_len (λ t. bytes_eq t name) names) (length names) ∙ rest

among_cases : (b : Bool) (m n : ℕ) → Some n ≡ cond b (Some m) None → b ≡ true
among_cases true m n same = refl
among_cases false m n same = absurd cc

none_cases : (b : Bool) (m : ℕ) → None ≡ cond b (Some m) None → b ≡ false
none_cases true m same = absurd cc
none_cases false m same = refl

pub is_there : (names : List (List ℕ)) (name : List ℕ) (n : ℕ) → Some n ≡ position (λ t. bytes_eq t name) names → true ≡ is_among names name
is_there names name n is =
    sym (among_cases (nat_lt (position_or_len (λ t. bytes_eq t name) names) (length names)) (position_or_len (λ t. bytes_eq t name) names) n is) ∙ among_by names name

pub isnt_there : (names : List (List ℕ)) (name : List ℕ) → None ≡ position (λ t. bytes_eq t name) names → false ≡ is_among names name
isnt_there names name is =
    sym (none_cases (nat_lt (position_or_len (λ t. bytes_eq t name) names) (length names)) (position_or_len (λ t. bytes_eq t name) names) is) ∙ among_by names name
