-- The chain of an item's key.
use Rattle.std.proofs.Common.{ℕ, ◌≡◌, ◌∙◌, Bool, true, false, List, [], ◌∷◌, refl, sym, ap}
use Rattle.std.specs.Prelude.{Option, Some, None, if◌then◌else◌, is_none}
use Rattle.modifier_words.specs.Chains.{chain_of, chain_refusal}
use Rattle.modifier_words.specs.Written.{Written}
use Rattle.sig_base.specs.Judged.{first}
use Rattle.sig_base.specs.declared.refusal.Place.{Place}
use Rattle.sig_base.specs.declared.refusal.Refusal.{Refusal}

pub chain_same : (a b : Bool) (place : Place) (v w : List (List ℕ)) → a ≡ b → v ≡ w → chain_refusal a place v ≡ chain_refusal b place w
chain_same a b place v w same words = ap (λ x. chain_refusal x place v) same ∙ ap (λ x. chain_refusal b place x) words

-- the chain of the words is the key's
pub key_chain_is : (chain : Written) (a b : Bool) (place : Place) (v w : List (List ℕ)) → a ≡ b → v ≡ w → chain ≡ chain_of v a place → chain ≡ chain_of w b place
key_chain_is chain a b place v w same words is = is ∙ (ap (λ x. chain_of v x place) same ∙ ap (λ x. chain_of x b place) words)

-- ---- the chain, where neither the name nor the modifiers are refused

abbrev pub chain_if : Option Refusal → Option Refusal → Written → Option Written
chain_if named chained chain = if is_none (first (named ∷ chained ∷ [])) then Some chain else None

pub chain_there : (named chained : Option Refusal) (chain read : Written) → named ≡ None → chained ≡ None → read ≡ chain → Some read ≡ chain_if named chained chain
chain_there named chained chain read p q is = ap Some is ∙ sym (ap (λ x. chain_if x chained chain) p ∙ ap (λ x. chain_if None x chain) q)

pub unnamed : (named chained : Option Refusal) (chain : Written) (r : Refusal) → named ≡ Some r → None ≡ chain_if named chained chain
unnamed named chained chain r p = sym (ap (λ x. chain_if x chained chain) p)

pub unchained : (named chained : Option Refusal) (chain : Written) (r : Refusal) → named ≡ None → chained ≡ Some r → None ≡ chain_if named chained chain
unchained named chained chain r p q = sym (ap (λ x. chain_if x chained chain) p ∙ ap (λ x. chain_if None x chain) q)

-- ---- what is made of the chain, where there is one

pub made_of_none : {A : Type 0} (there : Bool) (chain : Written) (read : Option Written) (made : List A) → read ≡ (if there then Some chain else None)
    → ((w : Written) → read ≡ Some w → ⊥) → (if there then made else []) ≡ []
made_of_none true chain read made is other = absurd (other chain is)
made_of_none false chain read made is other = refl

some_is : (v w : Written) → Some v ≡ Some w → v ≡ w
some_is v w e = cc

pub made_of_some : {A : Type 0} (there : Bool) (chain w : Written) (read : Option Written) (make : Written → List A) → read ≡ (if there then Some chain else None)
    → read ≡ Some w → make w ≡ (if there then make chain else [])
made_of_some true chain w read make is some = ap make (some_is w chain (sym some ∙ is))
made_of_some false chain w read make is some = absurd (no_some w (sym some ∙ is))
  where
    no_some : (w : Written) → Some w ≡ None → ⊥
    no_some w e = cc
