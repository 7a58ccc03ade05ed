-- Each file has exactly one verdict.
use Rattle.std.proofs.Common.{◌≡◌, ℕ, zero, suc, ◌<◌, ◌≤◌, Bool, true, false, List, [], ◌∷◌, ◌++◌, ◌⊎◌, inl, inr, length, take, refl, sym, ap, ◌∙◌, subst, arith, rules}
use Rattle.std.specs.Str.{IsUtf8, is_utf8, chars}
use Rattle.std.proofs.Math.Seq.{take-length}
use Rattle.std.proofs.lemmas.List.{length-append, take_all}
use Rattle.std.proofs.lemmas.Str.{IsUtf8-from_is_utf8, is_utf8-from_IsUtf8, utf8_valid_len-IsValidUpTo, IsUtf8-nil, encodes_same, encodes-chars, scalars-chars}
use Rattle.yaml_tree.specs.Tree.{At, Answer}
use Rattle.yaml_inline.specs.File.{Line, documents_of}
use Rattle.yaml_inline.specs.Line.{at}
use Rattle.yaml_blocks.specs.Blocks.{skip_comments}
use Rattle.yaml_blocks.specs.Documents.{home, AreAnswers}
use Rattle.yaml_blocks.proofs.Answered.{each_answered, one_answer}
use Rattle.yaml_documents.specs.Call.{IsText, IsBadAt, IsPastAt, IsCallRefusal, IsTaken, place_behind}
use Rattle.yaml_documents.specs.Rows.{AreDocuments}
use Rattle.yaml_documents.specs.Verdicts.{EachVerdict, NeverBoth, OneList, OneRefusal}
use Rattle.yaml_documents.proofs.Fronts.{content_begins}
use Rattle.yaml_documents.proofs.Ready.{documents_ready}

-- ---- characters

order : (m n : ℕ) → (m ≤ n) ⊎ (n < m)
order m n = search rules

one_text : (bytes cs ds : List ℕ) → IsText bytes cs → IsText bytes ds → cs ≡ ds
one_text bytes cs ds a b = encodes_same cs ds (sym a.encoded ∙ b.encoded)

text_of : (bytes : List ℕ) → IsUtf8 bytes → IsText bytes (chars bytes)
text_of bytes h = record { scalars = scalars-chars bytes h; encoded = sym (encodes-chars bytes h) }

text_utf8 : (bytes cs : List ℕ) → IsText bytes cs → IsUtf8 bytes
text_utf8 bytes cs t = (cs, (t.scalars, sym t.encoded))

text_or_not : (bytes : List ℕ) → IsUtf8 bytes ⊎ (IsUtf8 bytes → ⊥)
text_or_not bytes = by (is_utf8 bytes) refl where
  by : (b : Bool) → is_utf8 bytes ≡ b → IsUtf8 bytes ⊎ (IsUtf8 bytes → ⊥)
  by true is = inl (IsUtf8-from_is_utf8 bytes is)
  by false is = inr (λ h. let g = is_utf8-from_IsUtf8 bytes h in cc)

-- the longest front that is a text, of fronts that are no longer than m, where longer ones are none
record Longest (bytes : List ℕ) (m : ℕ) : Type 0 where
  count : ℕ
  within : count ≤ m
  front : IsUtf8 (take count bytes)
  longest : (k : ℕ) → count < k → IsUtf8 (take k bytes) → ⊥

longest_of : (bytes : List ℕ) (m : ℕ) → ((k : ℕ) → m < k → IsUtf8 (take k bytes) → ⊥) → Longest bytes m
longest_of bytes zero above = record { count = 0; within = omega arith; front = IsUtf8-nil; longest = above }
longest_of bytes (suc m) above =
    elim (text_or_not (take (suc m) bytes)) [
      | inl h ↦ record { count = suc m; within = omega arith; front = h; longest = above }
      | inr none ↦
          let rest = longest_of bytes m (λ k h. elim (order k (suc m)) [
            | inl less ↦ let same : suc m ≡ k = omega arith in subst (λ (n : ℕ). IsUtf8 (take n bytes) → ⊥) same none
            | inr more ↦ above k more
          ]) in
          let inside : rest.count ≤ m = rest.within in
          record { count = rest.count; within = omega arith; front = rest.front; longest = rest.longest }
    ]

bad_at : (bytes : List ℕ) → (IsUtf8 bytes → ⊥) → (a : At) × IsBadAt bytes a
bad_at bytes none =
    let l = longest_of bytes (length bytes) (λ k h text. none (subst IsUtf8 (take_all k bytes (omega arith)) text)) in
    let short : l.count < length bytes = elim (order (length bytes) l.count) [
      | inl all ↦ absurd (none (subst IsUtf8 (take_all l.count bytes all) l.front))
      | inr less ↦ less
    ] in (
      place_behind (chars (take l.count bytes)),
      record {
        count = l.count;
        longest = record { short = short; front = l.front; longest = l.longest };
        front = chars (take l.count bytes);
        good = text_of (take l.count bytes) l.front;
        place = refl;
      },
    )

no_bad : (bytes cs : List ℕ) (a : At) → IsText bytes cs → IsBadAt bytes a → ⊥
no_bad bytes cs a text bad = bad.longest.longest (length bytes) bad.longest.short (subst IsUtf8 (sym (take-length bytes)) (text_utf8 bytes cs text))

one_bad : (bytes : List ℕ) (a b : At) → IsBadAt bytes a → IsBadAt bytes b → a ≡ b
one_bad bytes a b h g =
    let count : h.count ≡ g.count = sym (utf8_valid_len-IsValidUpTo bytes h.count h.longest) ∙ utf8_valid_len-IsValidUpTo bytes g.count g.longest in
    let front : h.front ≡ g.front = one_text (take g.count bytes) h.front g.front (subst (λ (n : ℕ). IsText (take n bytes) h.front) count h.good) g.good in
    h.place ∙ (ap place_behind front ∙ sym g.place)

-- ---- documents

answers_of : (depth : ℕ) (ds : List (List Line)) → AreDocuments ds → (given : List Answer) × AreAnswers depth ds given
answers_of depth [] h = ([], refl)
answers_of depth (d ∷ ds) h =
    let first = each_answered depth d h.0 in
    let more = answers_of depth ds h.2 in
    (first.0 ∷ more.0, (first.0, more.0, refl, first.1, more.1))

one_answers : (depth : ℕ) (ds : List (List Line)) (a b : List Answer) → AreAnswers depth ds a → AreAnswers depth ds b → a ≡ b
one_answers depth [] a b h g = h ∙ sym g
one_answers depth (d ∷ ds) a b (x, xs, a_is, x_answers, xs_answer) (y, ys, b_is, y_answers, ys_answer) =
    let first : x ≡ y = one_answer depth d x y x_answers y_answers in
    let others : xs ≡ ys = one_answers depth ds xs ys xs_answer ys_answer in
    cc

past_at : (n : ℕ) (ds : List (List Line)) → AreDocuments ds → n < length ds → (a : At) × IsPastAt n ds a
past_at n [] h more = absurd (omega arith)
past_at zero (d ∷ ds) h more =
    let (first, others, begins) = content_begins d h.0 in
    (at first 0, record { front = []; document = d; others = ds; parts = refl; count = refl; first = first; more = others; begins = begins; place = refl })
past_at (suc n) (d ∷ ds) h more =
    let (a, past) = past_at n ds h.2 (omega arith) in (
      a,
      record {
        front = d ∷ past.front;
        document = past.document;
        others = past.others;
        parts = ap (λ (xs : List (List Line)). d ∷ xs) past.parts;
        count = ap suc past.count;
        first = past.first;
        more = past.more;
        begins = past.begins;
        place = past.place;
      },
    )

same_document : (f g : List (List Line)) (d e : List Line) (ds es : List (List Line)) → length f ≡ length g → f ++ d ∷ ds ≡ g ++ e ∷ es → d ≡ e
same_document [] [] d e ds es count is = cc
same_document [] (y ∷ ys) d e ds es count is = absurd (omega arith)
same_document (x ∷ xs) [] d e ds es count is = absurd (omega arith)
same_document (x ∷ xs) (y ∷ ys) d e ds es count is = let others : xs ++ d ∷ ds ≡ ys ++ e ∷ es = cc in same_document xs ys d e ds es (omega arith) others

one_past : (n : ℕ) (ds : List (List Line)) (a b : At) → IsPastAt n ds a → IsPastAt n ds b → a ≡ b
one_past n ds a b h g =
    let same : h.document ≡ g.document = same_document h.front g.front h.document g.document h.others g.others (h.count ∙ sym g.count) (sym h.parts ∙ g.parts) in
    let lines : h.first ∷ h.more ≡ g.first ∷ g.more = sym h.begins ∙ (ap skip_comments same ∙ g.begins) in
    let first : h.first ≡ g.first = cc in
    h.place ∙ (ap (λ (l : Line). at l 0) first ∙ sym g.place)

not_few : (n : ℕ) (ds : List (List Line)) (a : At) → length ds ≤ n → IsPastAt n ds a → ⊥
not_few n ds a few h =
    let count : length h.front ≡ n = h.count in
    let whole : length ds ≡ length (h.front ++ h.document ∷ h.others) = ap length h.parts in
    absurd (omega (arith, length-append h.front (h.document ∷ h.others)))

-- ---- files

judged : (file_bytes documents depth : ℕ) (bytes : List ℕ) → length bytes ≤ file_bytes → IsUtf8 bytes
    → ((given : List Answer) × IsTaken file_bytes documents depth bytes given) ⊎ ((p : ℕ × At) × IsCallRefusal file_bytes documents bytes p)
judged file_bytes documents depth bytes within text =
    let ready = documents_ready (chars bytes) in
    elim (order (length (documents_of (chars bytes))) documents) [
      | inl few ↦
          let answers = answers_of depth (documents_of (chars bytes)) ready in
          inl (answers.0, record { within = within; characters = chars bytes; is_text = text_of bytes text; few = few; answers = answers.1 })
      | inr many ↦
          let past = past_at documents (documents_of (chars bytes)) ready many in
          inr ((7, past.0), inr (within, chars bytes, text_of bytes text, (past.0, past.1, refl)))
    ]

pub each_verdict : EachVerdict
each_verdict file_bytes documents depth bytes =
    elim (order (length bytes) file_bytes) [
      | inl within ↦
          elim (text_or_not bytes) [
            | inl text ↦ judged file_bytes documents depth bytes within text
            | inr none ↦ let bad = bad_at bytes none in inr ((1, bad.0), inl (inr (within, bad.0, bad.1, refl)))
          ]
      | inr large ↦ inr ((2, home), inl (inl (large, refl)))
    ]

pub never_both : NeverBoth
never_both file_bytes documents depth bytes given p taken (inl (inl h)) = let within = taken.within in let large = h.0 in absurd (omega arith)
never_both file_bytes documents depth bytes given p taken (inl (inr (within, a, bad, is))) = no_bad bytes taken.characters a taken.is_text bad
never_both file_bytes documents depth bytes given p taken (inr (within, cs, text, (a, past, is))) =
    let same : taken.characters ≡ cs = one_text bytes taken.characters cs taken.is_text text in
    not_few documents (documents_of cs) a (subst (λ (xs : List ℕ). length (documents_of xs) ≤ documents) same taken.few) past

pub one_list : OneList
one_list file_bytes documents depth bytes a b h g =
    let same : h.characters ≡ g.characters = one_text bytes h.characters g.characters h.is_text g.is_text in
    one_answers depth (documents_of g.characters) a b (subst (λ (xs : List ℕ). AreAnswers depth (documents_of xs) a) same h.answers) g.answers

pub one_refusal : OneRefusal
one_refusal file_bytes documents bytes p q (inl (inl h)) (inl (inl g)) = h.1 ∙ sym g.1
one_refusal file_bytes documents bytes p q (inl (inl h)) (inl (inr g)) = let large = h.0 in let within = g.0 in absurd (omega arith)
one_refusal file_bytes documents bytes p q (inl (inl h)) (inr g) = let large = h.0 in let within = g.0 in absurd (omega arith)
one_refusal file_bytes documents bytes p q (inl (inr h)) (inl (inl g)) = let within = h.0 in let large = g.0 in absurd (omega arith)
one_refusal file_bytes documents bytes p q (inl (inr (within, a, bad, is))) (inl (inr (also, b, other, is2))) = is ∙ (ap (λ (x : At). (1, x)) (one_bad bytes a b bad other) ∙ sym is2)
one_refusal file_bytes documents bytes p q (inl (inr (within, a, bad, is))) (inr (also, cs, text, others)) = absurd (no_bad bytes cs a text bad)
one_refusal file_bytes documents bytes p q (inr g) (inl (inl h)) = let large = h.0 in let within = g.0 in absurd (omega arith)
one_refusal file_bytes documents bytes p q (inr (within, cs, text, others)) (inl (inr (also, a, bad, is))) = absurd (no_bad bytes cs a text bad)
one_refusal file_bytes documents bytes p q (inr (within, cs, text, (a, past, is))) (inr (also, ds, text2, (b, past2, is2))) =
    let same : cs ≡ ds = one_text bytes cs ds text text2 in
    is ∙ (ap (λ (x : At). (7, x)) (one_past documents (documents_of ds) a b (subst (λ (xs : List ℕ). IsPastAt documents (documents_of xs) a) same past) past2) ∙ sym is2)
