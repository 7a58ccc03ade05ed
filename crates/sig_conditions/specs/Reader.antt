-- A reader of words from the left: the condition at the front and the words behind it, if there is one.
use Rattle.std.specs.Prelude.{ℕ, zero, suc, Bool, List, [], ◌∷◌, length, Some, None, if◌then◌else◌}
use Rattle.std.specs.declared.option.Option.{Option}
use Rattle.sig_conditions.specs.declared.selector.Selector.{Selector}
use Rattle.sig_conditions.specs.declared.word.Word.{Word}
use Rattle.sig_conditions.specs.declared.word.Word.TheVariants.{Fixed, Name, Pattern}
use Rattle.sig_conditions.specs.declared.word.Sign.TheVariants.{Open, Close, Or, And, Not, One, All, Of}
use Rattle.sig_conditions.specs.Conditions.{Cond, CName, COneOf, CAllOf, CNot, Conds, no_conds, put, joined_or, joined_and}
use Rattle.sig_conditions.specs.Words.{same, is_sign}
use Rattle.sig_conditions.specs.Grammar.{selector_of}

infixl 10 ◌>>=◌
abbrev pub ◌>>=◌ : {A B : Type 0} → Option A → (A → Option B) → Option B
None >>= f = None
Some x >>= f = f x

-- a value, and the words behind it
abbrev pub read : {A : Type 0} → A → List Word → Option (A × List Word)
read x ws = Some (x, ws)

abbrev pub read_map : {A B : Type 0} → (A → B) → Option (A × List Word) → Option (B × List Word)
read_map f None = None
read_map f (Some r) = Some (f r.0, r.1)

-- the parts that follow, each behind a word that joins; k is at least the number of words
unfoldable pub tail_in : (List Word → Option (Cond × List Word)) → (Word → Bool) → ℕ → List Word → Option (Conds × List Word)
tail_in part joins zero ws = Some (no_conds, ws)
tail_in part joins (suc k) [] = Some (no_conds, [])
tail_in part joins (suc k) (w ∷ ws) =
    if joins w then (part ws >>= (λ r. read_map (put r.0) (tail_in part joins k r.1))) else Some (no_conds, w ∷ ws)

unfoldable pub chain_in : (List Word → Option (Cond × List Word)) → (Word → Bool) → (Cond → Conds → Cond) → List Word → Option (Cond × List Word)
chain_in part joins join ws = part ws >>= (λ r. read_map (join r.0) (tail_in part joins (length r.1) r.1))

-- a closing parenthesis at the front
abbrev pub closed : Cond → List Word → Option (Cond × List Word)
closed c [] = None
closed c (w ∷ ws) = if is_sign Close w then Some (c, ws) else None

abbrev pub choice_of : (Selector → Cond) → Option Selector → List Word → Option (Cond × List Word)
choice_of make None ws = None
choice_of make (Some s) ws = Some (make s, ws)

abbrev pub behind_of : (Selector → Cond) → List Word → Option (Cond × List Word)
behind_of make [] = None
behind_of make (w ∷ ws) = choice_of make (selector_of w) ws

-- the word `of` and a selector
abbrev pub selected : (Selector → Cond) → List Word → Option (Cond × List Word)
selected make [] = None
selected make (w ∷ ws) = if is_sign Of w then behind_of make ws else None

abbrev pub atom_at : (List Word → Option (Cond × List Word)) → Word → List Word → Option (Cond × List Word)
atom_at inner (Fixed s) ws =
    if same s Open then (inner ws >>= (λ r. closed r.0 r.1)) else if same s One then selected COneOf ws else if same s All then selected CAllOf ws else None
atom_at inner (Name n) ws = Some (CName n, ws)
atom_at inner (Pattern n) ws = None

abbrev pub atom_of : (List Word → Option (Cond × List Word)) → List Word → Option (Cond × List Word)
atom_of inner [] = None
atom_of inner (w ∷ ws) = atom_at inner w ws

abbrev pub not_at : (List Word → Option (Cond × List Word)) → (List Word → Option (Cond × List Word)) → List Word → Option (Cond × List Word)
not_at inner_not inner_or [] = None
not_at inner_not inner_or (w ∷ ws) = if is_sign Not w then read_map CNot (inner_not ws) else atom_at inner_or w ws

abbrev pub no_more : List Word → Option (Cond × List Word)
no_more ws = None

-- with at most so many words `(` and `not` around each word
unfoldable pub not_in : ℕ → List Word → Option (Cond × List Word)
not_in zero ws = not_at no_more no_more ws
not_in (suc d) ws = not_at (not_in d) (chain_in (chain_in (not_in d) (is_sign And) joined_and) (is_sign Or) joined_or) ws

abbrev pub and_in : ℕ → List Word → Option (Cond × List Word)
and_in d ws = chain_in (not_in d) (is_sign And) joined_and ws

abbrev pub or_in : ℕ → List Word → Option (Cond × List Word)
or_in d ws = chain_in (and_in d) (is_sign Or) joined_or ws

-- what may stand behind a word `not` or `(` where so many more may stand
abbrev pub inner_not : ℕ → List Word → Option (Cond × List Word)
inner_not zero ws = None
inner_not (suc d) ws = not_in d ws

abbrev pub inner_or : ℕ → List Word → Option (Cond × List Word)
inner_or zero ws = None
inner_or (suc d) ws = or_in d ws

abbrev pub atom_in : ℕ → List Word → Option (Cond × List Word)
atom_in d ws = atom_of (inner_or d) ws

abbrev pub alone : Cond × List Word → Option Cond
alone (c, []) = Some c
alone (c, w ∷ ws) = None

-- the condition that all the words are
abbrev pub condition_in : ℕ → List Word → Option Cond
condition_in d ws = or_in d ws >>= alone
