-- How many names the selectors of a condition take, and how large a selector is and the names that it is compared with.
use Rattle.std.specs.Prelude.{ℕ, ◌+◌, ◌-◌, ◌^◌, min, List, [], ◌∷◌, length, encode_utf8_all}
use Rattle.sig_conditions.specs.Conditions.{Cond, CName, COneOf, CAllOf, CNot, CAnd, COr, Conds, no_conds, put}
use Rattle.sig_conditions.specs.Taken.{taken}
use Rattle.sig_conditions.specs.declared.selector.Selector.{Selector}
use Rattle.sig_conditions.specs.declared.selector.Selector.TheVariants.{Them, Names}

-- each `1 of`, `any of` and `all of` counts the names that it takes, also where the same one stands twice
abbrev mutual
  pub taken_count : List (List ℕ) → Cond → ℕ
  taken_count names (CName name) = 0
  taken_count names (COneOf s) = length (taken s names)
  taken_count names (CAllOf s) = length (taken s names)
  taken_count names (CNot c) = taken_count names c
  taken_count names (CAnd cs) = taken_counts names cs
  taken_count names (COr cs) = taken_counts names cs

  pub taken_counts : List (List ℕ) → Conds → ℕ
  taken_counts names no_conds = 0
  taken_counts names (put c cs) = taken_count names c + taken_counts names cs

-- a text has the size of its bytes in UTF-8, and one more
abbrev pub size_of : List ℕ → ℕ
size_of text = length (encode_utf8_all text) + 1

-- `them` has that of a word of four characters
abbrev pub selector_size : Selector → ℕ
selector_size Them = 5
selector_size (Names word) = size_of word

-- names have the sizes of all of them
abbrev pub names_size : List (List ℕ) → ℕ
names_size [] = 0
names_size (name ∷ names) = size_of name + names_size names

-- a size as it's counted, up to 2^64 - 1
abbrev pub counted : ℕ → ℕ
counted size = min size (2 ^ 64 - 1)
