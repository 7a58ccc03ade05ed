-- Which condition a list of words is (Sigma specification 2.0, condition). From loose to tight stand `or`, `and`, `not`,
-- and then names, `1 of` and `all of` with a selector, and parentheses.
use Rattle.std.specs.Prelude.{ℕ, ◌≡◌, List, [], ◌∷◌, ◌++◌, Some, None, if◌then◌else◌}
use Rattle.std.specs.declared.option.Option.{Option}
use Rattle.sig_conditions.specs.declared.selector.Selector.{Selector}
use Rattle.sig_conditions.specs.declared.selector.Selector.TheVariants as selector
use Rattle.sig_conditions.specs.declared.word.Word.{Word}
use Rattle.sig_conditions.specs.declared.word.Word.TheVariants.{Fixed, Name, Pattern}
use Rattle.sig_conditions.specs.declared.word.Sign.TheVariants.{Open, Close, Or, And, Not, One, All, Of, Them}
use Rattle.sig_conditions.specs.Words.{same}
use Rattle.sig_conditions.specs.Conditions.{Cond, CName, COneOf, CAllOf, CNot, Conds, no_conds, put, joined_or, joined_and}

-- what may stand behind `of`
abbrev pub selector_of : Word → Option Selector
selector_of (Fixed s) = if same s Them then Some selector.Them else None
selector_of (Name n) = Some (selector.Names n)
selector_of (Pattern n) = Some (selector.Names n)

mutual
  -- a chain of `and`, and any number of times the word `or` and a chain of `and`
  pub data IsOr : List Word → Cond → Type 0 where
    or_chain : {ws : List Word} {e : Cond} (p q : List Word) (c : Cond) (cs : Conds)
        → ws ≡ p ++ q → IsAnd p c → OrTail q cs → e ≡ joined_or c cs → IsOr ws e

  pub data OrTail : List Word → Conds → Type 0 where
    or_end : {ws : List Word} → ws ≡ [] → OrTail ws no_conds
    or_next : {ws : List Word} {c : Cond} {cs : Conds} (p q : List Word)
        → ws ≡ Fixed Or ∷ (p ++ q) → IsAnd p c → OrTail q cs → OrTail ws (put c cs)

  -- a negation, and any number of times the word `and` and a negation
  pub data IsAnd : List Word → Cond → Type 0 where
    and_chain : {ws : List Word} {e : Cond} (p q : List Word) (c : Cond) (cs : Conds)
        → ws ≡ p ++ q → IsNot p c → AndTail q cs → e ≡ joined_and c cs → IsAnd ws e

  pub data AndTail : List Word → Conds → Type 0 where
    and_end : {ws : List Word} → ws ≡ [] → AndTail ws no_conds
    and_next : {ws : List Word} {c : Cond} {cs : Conds} (p q : List Word)
        → ws ≡ Fixed And ∷ (p ++ q) → IsNot p c → AndTail q cs → AndTail ws (put c cs)

  -- the word `not` any number of times, and then an atom
  pub data IsNot : List Word → Cond → Type 0 where
    negated : {ws : List Word} {c : Cond} (p : List Word) → ws ≡ Fixed Not ∷ p → IsNot p c → IsNot ws (CNot c)
    plain : {ws : List Word} {c : Cond} → IsAtom ws c → IsNot ws c

  -- a condition in parentheses, a name, or `1 of` or `all of` with a selector
  pub data IsAtom : List Word → Cond → Type 0 where
    paren : {ws : List Word} {c : Cond} (p : List Word) → ws ≡ Fixed Open ∷ (p ++ Fixed Close ∷ []) → IsOr p c → IsAtom ws c
    named : {ws : List Word} (n : List ℕ) → ws ≡ Name n ∷ [] → IsAtom ws (CName n)
    one_of : {ws : List Word} (w : Word) (s : Selector) → ws ≡ Fixed One ∷ Fixed Of ∷ w ∷ [] → selector_of w ≡ Some s → IsAtom ws (COneOf s)
    all_of : {ws : List Word} (w : Word) (s : Selector) → ws ≡ Fixed All ∷ Fixed Of ∷ w ∷ [] → selector_of w ≡ Some s → IsAtom ws (CAllOf s)

-- the words are this condition
abbrev pub ConditionReads : List Word → Cond → Type 0
ConditionReads ws c = IsOr ws c
