-- What follows from `Fits`.
use Rattle.std.proofs.Common.{ℕ, ◌≡◌, ◌↔◌, Bool, true, false, List, [], ◌∷◌, ◌++◌, refl, sym, ◌∙◌, ap, subst, append_assoc, append-nil, eq-eqb, if◌then◌else◌}
use Rattle.std.proofs.lemmas.Bool.{and_parts, and_from, eqb-true}
use Rattle.matching.specs.Suffixes.{SuffixHolds, CharThen}
use Rattle.matching.specs.Steps.{folds_to, is_dash}
use Rattle.matching.proofs.SuffixLemmas.{SuffixHolds-here, SuffixHolds-twice}
use Rattle.sig_base.specs.Folding.{fold, folded}
use Rattle.sig_strings.specs.Divisions.{Divided, PrefixHolds, InfixHolds}
use Rattle.sig_strings.specs.Edits.{is_run, is_written, all_written, has_wildcard, plain_text, starts_with_run, ends_with_run, with_run_before, with_run_after}
use Rattle.sig_strings.specs.Fits.{Fits, same_char}
use Rattle.sig_strings.specs.declared.part.Part.{Part}
use Rattle.sig_strings.specs.declared.part.Part.TheVariants.{Char, One, Run, Dash, Hole}

-- a character is taken from the front of the first piece
char_divided : (passes : ℕ → Bool) (P Q R : List ℕ → Type 0) → ((t : List ℕ) → R t ↔ Divided P Q t) → (text : List ℕ)
    → CharThen passes R text ↔ Divided (CharThen passes P) Q text
char_divided passes P Q R same text = (
  (λ h.
      let d : Divided P Q h.rest = (same h.rest).0 h.holds_then in
      record {
        front = h.first ∷ d.front;
        back = d.back;
        shape = h.shape ∙ ap (λ (t : List ℕ). h.first ∷ t) d.shape;
        holds_before = record { first = h.first; rest = d.front; shape = refl; passed = h.passed; holds_then = d.holds_before };
        holds_behind = d.holds_behind;
      }),
  (λ d.
      let h : CharThen passes P d.front = d.holds_before in
      record {
        first = h.first;
        rest = h.rest ++ d.back;
        shape = d.shape ∙ ap (λ (t : List ℕ). t ++ d.back) h.shape;
        passed = h.passed;
        holds_then = (same (h.rest ++ d.back)).1
            (record { front = h.rest; back = d.back; shape = refl; holds_before = h.holds_then; holds_behind = d.holds_behind });
      }),
)

-- so is a run
run_divided : (P Q R : List ℕ → Type 0) → ((t : List ℕ) → R t ↔ Divided P Q t) → (text : List ℕ)
    → SuffixHolds R text ↔ Divided (SuffixHolds P) Q text
run_divided P Q R same text = (
  (λ h.
      let d : Divided P Q h.suffix = (same h.suffix).0 h.holds_there in
      record {
        front = h.before ++ d.front;
        back = d.back;
        shape = h.shape ∙ (ap (λ (t : List ℕ). h.before ++ t) d.shape ∙ sym (append_assoc h.before d.front d.back));
        holds_before = record { before = h.before; suffix = d.front; shape = refl; holds_there = d.holds_before };
        holds_behind = d.holds_behind;
      }),
  (λ d.
      let h : SuffixHolds P d.front = d.holds_before in
      record {
        before = h.before;
        suffix = h.suffix ++ d.back;
        shape = d.shape ∙ (ap (λ (t : List ℕ). t ++ d.back) h.shape ∙ append_assoc h.before h.suffix d.back);
        holds_there = (same (h.suffix ++ d.back)).1
            (record { front = h.suffix; back = d.back; shape = refl; holds_before = h.holds_there; holds_behind = d.holds_behind });
      }),
)

-- a pattern behind another
pub Fits-append : (parts others : List Part) (text : List ℕ) (cased : Bool)
    → Fits (parts ++ others) text cased ↔ Divided (λ t. Fits parts t cased) (λ t. Fits others t cased) text
Fits-append [] others text cased = (
  (λ h. record { front = []; back = text; shape = refl; holds_before = refl; holds_behind = h }),
  (λ d.
      let e : d.front ≡ [] = d.holds_before in
      subst (λ (t : List ℕ). Fits others t cased) (sym (d.shape ∙ ap (λ (t : List ℕ). t ++ d.back) e)) d.holds_behind),
)
Fits-append (Char c ∷ parts) others text cased =
    char_divided (same_char cased c) (λ t. Fits parts t cased) (λ t. Fits others t cased) (λ t. Fits (parts ++ others) t cased) (λ t. Fits-append parts others t cased) text
Fits-append (One ∷ parts) others text cased =
    char_divided (λ d. true) (λ t. Fits parts t cased) (λ t. Fits others t cased) (λ t. Fits (parts ++ others) t cased) (λ t. Fits-append parts others t cased) text
Fits-append (Run ∷ parts) others text cased =
    run_divided (λ t. Fits parts t cased) (λ t. Fits others t cased) (λ t. Fits (parts ++ others) t cased) (λ t. Fits-append parts others t cased) text
Fits-append (Dash ∷ parts) others text cased =
    char_divided is_dash (λ t. Fits parts t cased) (λ t. Fits others t cased) (λ t. Fits (parts ++ others) t cased) (λ t. Fits-append parts others t cased) text
Fits-append (Hole name ∷ parts) others text cased = ((λ h. absurd h), (λ d. d.holds_before))

-- characters alone, cased
pub Fits-plain : (parts : List Part) (text : List ℕ) → has_wildcard parts ≡ false → Fits parts text true ↔ (text ≡ plain_text parts)
Fits-plain [] text plain = ((λ h. h), (λ h. h))
Fits-plain (Char c ∷ parts) text plain = (
  (λ h.
      let same : c ≡ h.first = eqb-true c h.first h.passed in
      let rests : h.rest ≡ plain_text parts = (Fits-plain parts h.rest plain).0 h.holds_then in
      let shape : text ≡ h.first ∷ h.rest = h.shape in
      shape ∙ (ap (λ (d : ℕ). d ∷ h.rest) (sym same) ∙ ap (λ (t : List ℕ). c ∷ t) rests)),
  (λ e. record {
    first = c;
    rest = plain_text parts;
    shape = e;
    passed = eq-eqb c c refl;
    holds_then = (Fits-plain parts (plain_text parts) plain).1 refl;
  }),
)
Fits-plain (One ∷ parts) text plain = absurd (cc)
Fits-plain (Run ∷ parts) text plain = absurd (cc)
Fits-plain (Dash ∷ parts) text plain = absurd (cc)
Fits-plain (Hole name ∷ parts) text plain = absurd (cc)

folded_char : (c : ℕ) (own : List ℕ) (P : List ℕ → Type 0) (text : List ℕ) → ((t : List ℕ) → P t ↔ (folded t ≡ folded own))
    → CharThen (folds_to c) P text ↔ (folded text ≡ folded (c ∷ own))
folded_char c own P [] same = (
  (λ h. absurd (let e : [] ≡ h.first ∷ h.rest = h.shape in cc)),
  (λ e. absurd (let f : [] ≡ fold c ∷ folded own = e in cc)),
)
folded_char c own P (d ∷ text) same = (
  (λ h.
      let whole : d ∷ text ≡ h.first ∷ h.rest = h.shape in
      let firsts : d ≡ h.first = cc in
      let rests : text ≡ h.rest = cc in
      let letters : fold c ≡ fold h.first = eqb-true (fold c) (fold h.first) h.passed in
      let behind : folded h.rest ≡ folded own = (same h.rest).0 h.holds_then in
      let front : fold d ≡ fold c = ap fold firsts ∙ sym letters in
      let back : folded text ≡ folded own = ap folded rests ∙ behind in
      ap (λ (e : ℕ). e ∷ folded text) front ∙ ap (λ (t : List ℕ). fold c ∷ t) back),
  (λ e.
      let whole : fold d ∷ folded text ≡ fold c ∷ folded own = e in
      let front : fold c ≡ fold d = cc in
      let back : folded text ≡ folded own = cc in
      record { first = d; rest = text; shape = refl; passed = eq-eqb (fold c) (fold d) front; holds_then = (same text).1 back }),
)

nothing_folded : (text : List ℕ) → (text ≡ []) ↔ (folded text ≡ [])
nothing_folded [] = ((λ e. refl), (λ e. refl))
nothing_folded (c ∷ cs) = ((λ e. absurd (cc)), (λ e. absurd (let f : fold c ∷ folded cs ≡ [] = e in cc)))

-- characters alone, after folding
pub Fits-folded : (parts : List Part) (text : List ℕ) → has_wildcard parts ≡ false → Fits parts text false ↔ (folded text ≡ folded (plain_text parts))
Fits-folded [] text plain = nothing_folded text
Fits-folded (Char c ∷ parts) text plain =
    folded_char c (plain_text parts) (λ t. Fits parts t false) text (λ t. Fits-folded parts t plain)
Fits-folded (One ∷ parts) text plain = absurd (cc)
Fits-folded (Run ∷ parts) text plain = absurd (cc)
Fits-folded (Dash ∷ parts) text plain = absurd (cc)
Fits-folded (Hole name ∷ parts) text plain = absurd (cc)

-- a run before
run_is : (part : Part) → is_run part ≡ true → part ≡ Run
run_is (Char c) is = cc
run_is One is = cc
run_is Run is = refl
run_is Dash is = cc
run_is (Hole name) is = cc

starts_twice : (part : Part) (parts : List Part) (text : List ℕ) (cased : Bool) → is_run part ≡ true
    → Fits (part ∷ parts) text cased ↔ SuffixHolds (λ t. Fits (part ∷ parts) t cased) text
starts_twice part parts text cased is = (
  (λ h. SuffixHolds-here (λ t. Fits (part ∷ parts) t cased) text h),
  (λ h.
      let same : part ∷ parts ≡ Run ∷ parts = ap (λ (p : Part). p ∷ parts) (run_is part is) in
      subst (λ (ps : List Part). Fits ps text cased) (sym same)
      (SuffixHolds-twice (λ t. Fits parts t cased) text
      (subst (λ (ps : List Part). SuffixHolds (λ t. Fits ps t cased) text) same h))),
)

run_before : (part : Part) (parts : List Part) (text : List ℕ) (cased : Bool) (b : Bool) → is_run part ≡ b
    → Fits (if b then part ∷ parts else Run ∷ (part ∷ parts)) text cased ↔ SuffixHolds (λ t. Fits (part ∷ parts) t cased) text
run_before part parts text cased true is = starts_twice part parts text cased is
run_before part parts text cased false is = ((λ h. h), (λ h. h))

pub Fits-with_run_before : (parts : List Part) (text : List ℕ) (cased : Bool)
    → Fits (with_run_before parts) text cased ↔ SuffixHolds (λ t. Fits parts t cased) text
Fits-with_run_before [] text cased = ((λ h. h), (λ h. h))
Fits-with_run_before (part ∷ parts) text cased = run_before part parts text cased (is_run part) refl

-- a run behind
any_run : (text : List ℕ) (cased : Bool) → Fits (Run ∷ []) text cased
any_run text cased = record { before = text; suffix = []; shape = sym (append-nil text); holds_there = refl }

behind_new : (parts : List Part) (text : List ℕ) (cased : Bool) → Fits (parts ++ Run ∷ []) text cased ↔ PrefixHolds (λ t. Fits parts t cased) text
behind_new parts text cased = (
  (λ h.
      let d : Divided (λ t. Fits parts t cased) (λ t. Fits (Run ∷ []) t cased) text = (Fits-append parts (Run ∷ []) text cased).0 h in
      record { prefix = d.front; after = d.back; shape = d.shape; holds_there = d.holds_before }),
  (λ p. (Fits-append parts (Run ∷ []) text cased).1
      (record { front = p.prefix; back = p.after; shape = p.shape; holds_before = p.holds_there; holds_behind = any_run p.after cased })),
)

prefix_twice : (P : List ℕ → Type 0) (text : List ℕ) → PrefixHolds (PrefixHolds P) text → PrefixHolds P text
prefix_twice P text h = record {
  prefix = h.holds_there.prefix;
  after = h.holds_there.after ++ h.after;
  shape = h.shape ∙ (ap (λ (t : List ℕ). t ++ h.after) h.holds_there.shape ∙ append_assoc h.holds_there.prefix h.holds_there.after h.after);
  holds_there = h.holds_there.holds_there;
}

prefix_weaker : (P Q : List ℕ → Type 0) (text : List ℕ) → ((t : List ℕ) → P t → Q t) → PrefixHolds P text → PrefixHolds Q text
prefix_weaker P Q text weaker h = record { prefix = h.prefix; after = h.after; shape = h.shape; holds_there = weaker h.prefix h.holds_there }

prefix_whole : (P : List ℕ → Type 0) (text : List ℕ) → P text → PrefixHolds P text
prefix_whole P text h = record { prefix = text; after = []; shape = sym (append-nil text); holds_there = h }

behind_own : (parts : List Part) (text : List ℕ) (cased : Bool)
    → Fits (parts ++ Run ∷ []) text cased ↔ PrefixHolds (λ t. Fits (parts ++ Run ∷ []) t cased) text
behind_own parts text cased = (
  (λ h. prefix_whole (λ t. Fits (parts ++ Run ∷ []) t cased) text h),
  (λ h. (behind_new parts text cased).1
      (prefix_twice (λ t. Fits parts t cased) text
      (prefix_weaker (λ t. Fits (parts ++ Run ∷ []) t cased) (PrefixHolds (λ t. Fits parts t cased)) text (λ t. (behind_new parts t cased).0) h))),
)

-- what ends with a run is something and then that run
last_run : (parts : List Part) → ends_with_run parts ≡ true → (front : List Part) × (parts ≡ front ++ Run ∷ [])
last_run [] is = absurd (cc)
last_run (part ∷ []) is = ([], ap (λ (p : Part). p ∷ []) (run_is part is))
last_run (part ∷ (next ∷ parts)) is =
    let behind : (front : List Part) × (next ∷ parts ≡ front ++ Run ∷ []) = last_run (next ∷ parts) is in
    (part ∷ behind.0, ap (λ (ps : List Part). part ∷ ps) behind.1)

run_after : (parts : List Part) (text : List ℕ) (cased : Bool) (b : Bool) → ends_with_run parts ≡ b
    → Fits (if b then parts else parts ++ Run ∷ []) text cased ↔ PrefixHolds (λ t. Fits parts t cased) text
run_after parts text cased true is =
    let own : (front : List Part) × (parts ≡ front ++ Run ∷ []) = last_run parts is in
    subst (λ (ps : List Part). Fits ps text cased ↔ PrefixHolds (λ t. Fits ps t cased) text) (sym own.1) (behind_own own.0 text cased)
run_after parts text cased false is = behind_new parts text cased

pub Fits-with_run_after : (parts : List Part) (text : List ℕ) (cased : Bool)
    → Fits (with_run_after parts) text cased ↔ PrefixHolds (λ t. Fits parts t cased) text
Fits-with_run_after parts text cased = run_after parts text cased (ends_with_run parts) refl

-- runs around
pub Fits-with_runs : (parts : List Part) (text : List ℕ) (cased : Bool)
    → Fits (with_run_after (with_run_before parts)) text cased ↔ InfixHolds (λ t. Fits parts t cased) text
Fits-with_runs parts text cased = (
  (λ h.
      let p : PrefixHolds (λ t. Fits (with_run_before parts) t cased) text = (Fits-with_run_after (with_run_before parts) text cased).0 h in
      let s : SuffixHolds (λ t. Fits parts t cased) p.prefix = (Fits-with_run_before parts p.prefix cased).0 p.holds_there in
      record {
        before = s.before;
        piece = s.suffix;
        after = p.after;
        shape = p.shape ∙ (ap (λ (t : List ℕ). t ++ p.after) s.shape ∙ append_assoc s.before s.suffix p.after);
        holds_there = s.holds_there;
      }),
  (λ i. (Fits-with_run_after (with_run_before parts) text cased).1
      (record {
        prefix = i.before ++ i.piece;
        after = i.after;
        shape = i.shape ∙ sym (append_assoc i.before i.piece i.after);
        holds_there = (Fits-with_run_before parts (i.before ++ i.piece) cased).1
            (record { before = i.before; suffix = i.piece; shape = refl; holds_there = i.holds_there });
      })),
)

-- runs leave what a text can spell
written_before : (parts : List Part) (b : Bool) → all_written parts ≡ true → all_written (if b then parts else Run ∷ parts) ≡ true
written_before parts true written = written
written_before parts false written = written

pub all_written-with_run_before : (parts : List Part) → all_written parts ≡ true → all_written (with_run_before parts) ≡ true
all_written-with_run_before parts written = written_before parts (starts_with_run parts) written

written_more : (parts : List Part) → all_written parts ≡ true → all_written (parts ++ Run ∷ []) ≡ true
written_more [] written = refl
written_more (part ∷ parts) written =
    let both : _ = and_parts (is_written part) (all_written parts) written in
    and_from (is_written part) (all_written (parts ++ Run ∷ [])) both.0 (written_more parts both.1)

written_after : (parts : List Part) (b : Bool) → all_written parts ≡ true → all_written (if b then parts else parts ++ Run ∷ []) ≡ true
written_after parts true written = written
written_after parts false written = written_more parts written

pub all_written-with_run_after : (parts : List Part) → all_written parts ≡ true → all_written (with_run_after parts) ≡ true
all_written-with_run_after parts written = written_after parts (ends_with_run parts) written
