-- Written patterns are right and read as their parts.
use Rattle.std.proofs.Common.{ℕ, ◌≡◌, refl, sym, ◌∙◌, ap, true, false, List, [], ◌∷◌, arith, inl, inr, subst}
use Rattle.std.specs.Prelude.{◌==◌, nat_lt, Some}
use Rattle.std.specs.List.{list_all}
use Rattle.std.specs.Str.{all_scalars}
use Rattle.std.proofs.Math.Utf8.{scalar}
use Rattle.std.proofs.lemmas.Bool.Decides.{nat_tests}
use Rattle.std.proofs.lemmas.Bool.{and_parts, cases_Bool}
use Rattle.event_schema.specs.Events.{IsPlainText}
use Rattle.sql_lang.specs.Faults.{is_bad_escape, is_bad_bracket, is_bad_like, is_bad_glob}
use Rattle.sql_lang.specs.Meaning.{Part, AnyRun, AnyOne, Exactly, like_part, like_from, like_parts, glob_part, glob_from, glob_parts}
use Rattle.sql_layout.specs.Escaped.{is_like_sign, like_text, is_glob_sign, glob_text, characters}

-- ---- LIKE

plain_like : (c : ℕ) (cs : List ℕ) → (c == 92) ≡ false → like_parts (Some 92) (c ∷ cs) ≡ like_part c ∷ like_parts (Some 92) cs
unfolding like_from
plain_like c cs is = rw is refl

escaped_like : (d : ℕ) (ds : List ℕ) → like_parts (Some 92) (92 ∷ d ∷ ds) ≡ Exactly d ∷ like_parts (Some 92) ds
unfolding like_from
escaped_like d ds = refl

no_like_sign : (c : ℕ) → is_like_sign c ≡ false → ((c == 92) ≡ false) × ((c == 37) ≡ false) × ((c == 95) ≡ false)
no_like_sign c h = (grind (arith, nat_tests), grind (arith, nat_tests), grind (arith, nat_tests))

like_part_itself : (c : ℕ) → is_like_sign c ≡ false → like_part c ≡ Exactly c
like_part_itself c h = let n = no_like_sign c h in let run = n.1 in let one = n.2 in rw (run, one) refl

like_sign_text : (c : ℕ) (ps : List Part) → is_like_sign c ≡ true → like_text (Exactly c ∷ ps) ≡ 92 ∷ c ∷ like_text ps
like_sign_text c ps h = rw h refl

like_plain_text : (c : ℕ) (ps : List Part) → is_like_sign c ≡ false → like_text (Exactly c ∷ ps) ≡ c ∷ like_text ps
like_plain_text c ps h = rw h refl

pub like_reads : (ps : List Part) → like_parts (Some 92) (like_text ps) ≡ ps
unfolding like_from
like_reads [] = refl
like_reads (AnyRun ∷ ps) = plain_like 37 (like_text ps) refl ∙ ap (λ (qs : List Part). AnyRun ∷ qs) (like_reads ps)
like_reads (AnyOne ∷ ps) = plain_like 95 (like_text ps) refl ∙ ap (λ (qs : List Part). AnyOne ∷ qs) (like_reads ps)
like_reads (Exactly c ∷ ps) = elim (cases_Bool (is_like_sign c)) [
  | inl sign ↦ ap (like_parts (Some 92)) (like_sign_text c ps sign) ∙ (escaped_like c (like_text ps) ∙ ap (λ (qs : List Part). Exactly c ∷ qs) (like_reads ps))
  | inr plain ↦ ap (like_parts (Some 92)) (like_plain_text c ps plain)
      ∙ (plain_like c (like_text ps) (no_like_sign c plain).0
      ∙ (ap (λ (q : Part). q ∷ like_parts (Some 92) (like_text ps)) (like_part_itself c plain) ∙ ap (λ (qs : List Part). Exactly c ∷ qs) (like_reads ps)))
]

good_plain_like : (c : ℕ) (cs : List ℕ) → (c == 92) ≡ false → is_bad_like 92 (c ∷ cs) ≡ is_bad_like 92 cs
unfolding is_bad_escape
good_plain_like c cs is = rw is refl

good_escaped_like : (c : ℕ) (cs : List ℕ) → is_like_sign c ≡ true → is_bad_like 92 (92 ∷ c ∷ cs) ≡ is_bad_like 92 cs
unfolding is_bad_escape
good_escaped_like c cs is = rw is refl

pub like_is_good : (ps : List Part) → is_bad_like 92 (like_text ps) ≡ false
unfolding is_bad_escape
like_is_good [] = refl
like_is_good (AnyRun ∷ ps) = good_plain_like 37 (like_text ps) refl ∙ like_is_good ps
like_is_good (AnyOne ∷ ps) = good_plain_like 95 (like_text ps) refl ∙ like_is_good ps
like_is_good (Exactly c ∷ ps) = elim (cases_Bool (is_like_sign c)) [
  | inl sign ↦ ap (is_bad_like 92) (like_sign_text c ps sign) ∙ (good_escaped_like c (like_text ps) sign ∙ like_is_good ps)
  | inr plain ↦ ap (is_bad_like 92) (like_plain_text c ps plain) ∙ (good_plain_like c (like_text ps) (no_like_sign c plain).0 ∙ like_is_good ps)
]

-- ---- GLOB

plain_glob : (c : ℕ) (cs : List ℕ) → (c == 91) ≡ false → glob_parts (c ∷ cs) ≡ glob_part c ∷ glob_parts cs
unfolding glob_from
plain_glob c cs is = rw is refl

bracketed_glob : (d : ℕ) (xs : List ℕ) → glob_parts (91 ∷ d ∷ 93 ∷ xs) ≡ Exactly d ∷ glob_parts xs
unfolding glob_from
bracketed_glob d xs = refl

no_glob_sign : (c : ℕ) → is_glob_sign c ≡ false → ((c == 91) ≡ false) × ((c == 42) ≡ false) × ((c == 63) ≡ false)
no_glob_sign c h = (grind (arith, nat_tests), grind (arith, nat_tests), grind (arith, nat_tests))

glob_part_itself : (c : ℕ) → is_glob_sign c ≡ false → glob_part c ≡ Exactly c
glob_part_itself c h = let n = no_glob_sign c h in let run = n.1 in let one = n.2 in rw (run, one) refl

glob_sign_text : (c : ℕ) (ps : List Part) → is_glob_sign c ≡ true → glob_text (Exactly c ∷ ps) ≡ 91 ∷ c ∷ 93 ∷ glob_text ps
glob_sign_text c ps h = rw h refl

glob_plain_text : (c : ℕ) (ps : List Part) → is_glob_sign c ≡ false → glob_text (Exactly c ∷ ps) ≡ c ∷ glob_text ps
glob_plain_text c ps h = rw h refl

pub glob_reads : (ps : List Part) → glob_parts (glob_text ps) ≡ ps
unfolding glob_from
glob_reads [] = refl
glob_reads (AnyRun ∷ ps) = plain_glob 42 (glob_text ps) refl ∙ ap (λ (qs : List Part). AnyRun ∷ qs) (glob_reads ps)
glob_reads (AnyOne ∷ ps) = plain_glob 63 (glob_text ps) refl ∙ ap (λ (qs : List Part). AnyOne ∷ qs) (glob_reads ps)
glob_reads (Exactly c ∷ ps) = elim (cases_Bool (is_glob_sign c)) [
  | inl sign ↦ ap glob_parts (glob_sign_text c ps sign) ∙ (bracketed_glob c (glob_text ps) ∙ ap (λ (qs : List Part). Exactly c ∷ qs) (glob_reads ps))
  | inr plain ↦ ap glob_parts (glob_plain_text c ps plain)
      ∙ (plain_glob c (glob_text ps) (no_glob_sign c plain).0
      ∙ (ap (λ (q : Part). q ∷ glob_parts (glob_text ps)) (glob_part_itself c plain) ∙ ap (λ (qs : List Part). Exactly c ∷ qs) (glob_reads ps)))
]

good_plain_glob : (c : ℕ) (cs : List ℕ) → (c == 91) ≡ false → is_bad_glob (c ∷ cs) ≡ is_bad_glob cs
unfolding is_bad_bracket
good_plain_glob c cs is = rw is refl

good_bracketed_glob : (c : ℕ) (cs : List ℕ) → is_glob_sign c ≡ true → is_bad_glob (91 ∷ c ∷ 93 ∷ cs) ≡ is_bad_glob cs
unfolding is_bad_bracket
good_bracketed_glob c cs is = rw is refl

pub glob_is_good : (ps : List Part) → is_bad_glob (glob_text ps) ≡ false
unfolding is_bad_bracket
glob_is_good [] = refl
glob_is_good (AnyRun ∷ ps) = good_plain_glob 42 (glob_text ps) refl ∙ glob_is_good ps
glob_is_good (AnyOne ∷ ps) = good_plain_glob 63 (glob_text ps) refl ∙ glob_is_good ps
glob_is_good (Exactly c ∷ ps) = elim (cases_Bool (is_glob_sign c)) [
  | inl sign ↦ ap is_bad_glob (glob_sign_text c ps sign) ∙ (good_bracketed_glob c (glob_text ps) sign ∙ glob_is_good ps)
  | inr plain ↦ ap is_bad_glob (glob_plain_text c ps plain) ∙ (good_plain_glob c (glob_text ps) (no_glob_sign c plain).0 ∙ glob_is_good ps)
]

-- ---- characters

more_plain : (c : ℕ) (cs : List ℕ) → scalar c ≡ true → nat_lt 0 c ≡ true → IsPlainText cs → IsPlainText (c ∷ cs)
more_plain c cs is above plain = let a = plain.0 in let b = plain.1 in (rw is a, rw above b)

first_plain : (c : ℕ) (cs : List ℕ) → IsPlainText (c ∷ cs) → (scalar c ≡ true) × (nat_lt 0 c ≡ true) × IsPlainText cs
first_plain c cs plain =
    let a = and_parts (scalar c) (all_scalars cs) plain.0 in
    let b = and_parts (nat_lt 0 c) (list_all (λ d. nat_lt 0 d) cs) plain.1 in
    (a.0, b.0, (a.1, b.1))

pub like_plain : (ps : List Part) → IsPlainText (characters ps) → IsPlainText (like_text ps)
like_plain [] plain = (refl, refl)
like_plain (AnyRun ∷ ps) plain = more_plain 37 (like_text ps) refl refl (like_plain ps plain)
like_plain (AnyOne ∷ ps) plain = more_plain 95 (like_text ps) refl refl (like_plain ps plain)
like_plain (Exactly c ∷ ps) plain =
    let f = first_plain c (characters ps) plain in
    let more = more_plain c (like_text ps) f.0 f.1 (like_plain ps f.2) in
    elim (cases_Bool (is_like_sign c)) [
      | inl sign ↦ subst IsPlainText (sym (like_sign_text c ps sign)) (more_plain 92 (c ∷ like_text ps) refl refl more)
      | inr other ↦ subst IsPlainText (sym (like_plain_text c ps other)) more
    ]

pub glob_plain : (ps : List Part) → IsPlainText (characters ps) → IsPlainText (glob_text ps)
glob_plain [] plain = (refl, refl)
glob_plain (AnyRun ∷ ps) plain = more_plain 42 (glob_text ps) refl refl (glob_plain ps plain)
glob_plain (AnyOne ∷ ps) plain = more_plain 63 (glob_text ps) refl refl (glob_plain ps plain)
glob_plain (Exactly c ∷ ps) plain =
    let f = first_plain c (characters ps) plain in
    let rest = glob_plain ps f.2 in
    elim (cases_Bool (is_glob_sign c)) [
      | inl sign ↦ subst IsPlainText (sym (glob_sign_text c ps sign))
          (more_plain 91 (c ∷ 93 ∷ glob_text ps) refl refl (more_plain c (93 ∷ glob_text ps) f.0 f.1 (more_plain 93 (glob_text ps) refl refl rest)))
      | inr other ↦ subst IsPlainText (sym (glob_plain_text c ps other)) (more_plain c (glob_text ps) f.0 f.1 rest)
    ]
