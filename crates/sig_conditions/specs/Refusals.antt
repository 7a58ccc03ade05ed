-- Which condition a text is, and why a text is none.
use Rattle.std.specs.Prelude.{ℕ, ◌≡◌, ◌<◌, ◌≤◌, true, false, List, ◌∷◌}
use Rattle.sig_base.specs.declared.refusal.Place.{Place}
use Rattle.sig_base.specs.declared.refusal.Detail.TheVariants as detail
use Rattle.sig_base.specs.declared.refusal.Refusal.{Refusal}
use Rattle.sig_base.specs.declared.refusal.Fault.{Fault}
use Rattle.sig_base.specs.declared.refusal.Fault.TheVariants.{Memory, Refused}
use Rattle.sig_conditions.specs.Conditions.{Cond}
use Rattle.sig_conditions.specs.Formulas.{Why, unknown, nothing, faults}
use Rattle.sig_conditions.specs.Grammar.{ConditionReads}
use Rattle.sig_conditions.specs.Words.{has_bar, nesting, words}

-- the text is this condition, and within the limit on words that nest
pub record IsRead (most : ℕ) (text : List ℕ) (c : Cond) : Type 0 where
  pub current : has_bar text ≡ false
  pub within : nesting (words text) ≤ most
  pub reads : ConditionReads (words text) c

-- the refusals of a text, of which at most one fits: 61 for a `|`, 62 for too many words that nest, 60 for no reading
pub data HasCode (most : ℕ) (text : List ℕ) (code : ℕ) : Type 0 where
  old : has_bar text ≡ true → code ≡ 61 → HasCode most text code
  deep : has_bar text ≡ false → most < nesting (words text) → code ≡ 62 → HasCode most text code
  unread : has_bar text ≡ false → nesting (words text) ≤ most → ((c : Cond) → ConditionReads (words text) c → ⊥) → code ≡ 60 → HasCode most text code

-- the text is refused at the place, with no detail, unless memory ran out
abbrev pub IsUnread : ℕ → List ℕ → Place → Fault → Type 0
IsUnread most text place Memory = Unit {0}
IsUnread most text place (Refused r) = HasCode most text r.code × (r.place ≡ place) × (r.detail ≡ detail.None)

-- the refusal of a fault: 63 with the name, or 64
abbrev pub refusal_of : Place → Why → Refusal
refusal_of place (unknown name) = record { code = 63; place = place; detail = detail.Text name }
refusal_of place nothing = record { code = 64; place = place; detail = detail.None }

-- a refusal of the first of the faults
pub record RefusesFirst (place : Place) (whys : List Why) (r : Refusal) : Type 0 where
  pub first : Why
  pub later : List Why
  pub shape : whys ≡ first ∷ later
  pub refuses : r ≡ refusal_of place first

-- the condition is refused at its place, by its first fault, unless memory ran out
abbrev pub IsUnresolved : List (List ℕ) → Cond → Place → Fault → Type 0
IsUnresolved names c place Memory = Unit {0}
IsUnresolved names c place (Refused r) = RefusesFirst place (faults names c) r
