-- The head of a rule (Sigma specification 2.0: title, id, name, status, date, modified, level).
use Rattle.std.specs.Prelude.{ℕ, ◌≡◌, ◌+◌, ◌-◌, ◌*◌, Bool, false, not, ◌&&◌, ◌==◌, nat_le, List, [], ◌∷◌, length, filter, codes, Some, encode_utf8_all, is_some, pos}
use Rattle.std.specs.List.{list_all, list_any}
use Rattle.std.specs.Str.{bytes_eq}
use Rattle.std.specs.declared.option.Option.{Option}
use Rattle.jiff.specs.Words.{days_in_month}
use Rattle.sig_base.specs.declared.refusal.Refusal.{Refusal}
use Rattle.sig_base.specs.Digits.{is_digit}
use Rattle.sig_base.specs.Judged.{must}
use Rattle.yaml_tree.specs.Nodes.{place_of}
use Rattle.uuid.specs.Text.{parsed}
use Rattle.yaml_tree.specs.Tree.{Tree, Member}
use Rattle.yaml_tree.specs.Nodes.{is_map, is_text, text_in, entries_in, at_key, required, text_at}
use Rattle.rule_head.specs.Plain.{PlainHead}

-- a text of 1 to 256 characters
abbrev pub is_title : Tree → Bool
is_title t = is_text t && nat_le 1 (length (text_in t)) && nat_le (length (text_in t)) 256

-- a text that is a UUID in one of its written forms
abbrev pub is_id : Tree → Bool
is_id t = is_text t && is_some (parsed (encode_utf8_all (text_in t)))

abbrev pub is_one_of : List (List ℕ) → Tree → Bool
is_one_of words t = is_text t && list_any (λ word. bytes_eq (text_in t) word) words

abbrev pub is_status : Tree → Bool
is_status t = is_one_of (codes "stable" ∷ codes "test" ∷ codes "experimental" ∷ codes "deprecated" ∷ codes "unsupported" ∷ []) t

abbrev pub is_level : Tree → Bool
is_level t = is_one_of (codes "informational" ∷ codes "low" ∷ codes "medium" ∷ codes "high" ∷ codes "critical" ∷ []) t

abbrev pub two_digits : ℕ → ℕ → ℕ
two_digits a b = 10 * (a - 48) + (b - 48)

-- the month and the day are of the calendar
abbrev pub is_calendar_day : ℕ → ℕ → ℕ → Bool
is_calendar_day y m d = nat_le 1 m && nat_le m 12 && nat_le 1 d && nat_le d (days_in_month (pos y) m)

-- YYYY-MM-DD, a day of the Gregorian calendar (ISO 8601)
abbrev pub is_day_text : List ℕ → Bool
is_day_text (a ∷ b ∷ c ∷ d ∷ e ∷ f ∷ g ∷ h ∷ i ∷ j ∷ []) =
    list_all is_digit (a ∷ b ∷ c ∷ d ∷ f ∷ g ∷ i ∷ j ∷ []) && e == 45 && h == 45
    && is_calendar_day (100 * two_digits a b + two_digits c d) (two_digits f g) (two_digits i j)
is_day_text text = false

abbrev pub is_date : Tree → Bool
is_date t = is_text t && is_day_text (text_in t)

-- Why the document's node has no head: each line is a key that is checked, in this order, with the code of its refusal.
abbrev pub head_checks : Tree → List (Option Refusal)
head_checks t =
    must 71 (place_of t) (is_map t)
    ∷ required (codes "title") 70 t
    ∷ at_key (codes "title") 72 is_title t
    ∷ at_key (codes "id") 73 is_id t
    ∷ at_key (codes "name") 71 is_text t
    ∷ at_key (codes "status") 75 is_status t
    ∷ at_key (codes "date") 74 is_date t
    ∷ at_key (codes "modified") 74 is_date t
    ∷ at_key (codes "level") 76 is_level t
    ∷ []

abbrev pub checked_keys : List (List ℕ)
checked_keys =
    codes "title" ∷ codes "id" ∷ codes "name" ∷ codes "status" ∷ codes "date" ∷ codes "modified" ∷ codes "level" ∷ []

abbrev pub is_checked : Member → Bool
is_checked e = list_any (λ key. bytes_eq e.key key) checked_keys

-- the entries with other keys, as they are
abbrev pub rest_of : Tree → List Member
rest_of t = filter (λ e. not (is_checked e)) (entries_in t)

-- what the head says
pub record IsHead (t : Tree) (h : PlainHead) : Type 0 where
  pub title : text_at (codes "title") t ≡ Some h.title
  pub id : h.id ≡ text_at (codes "id") t
  pub name : h.name ≡ text_at (codes "name") t
  pub place : h.place ≡ place_of t
  pub rest : h.rest ≡ rest_of t
