-- The scalars of blocks have texts of scalar values where their lines have, and so have the items that a block divides into.
use Rattle.std.proofs.Common.{ℕ, suc, ◌-◌, Bool, true, false, cond, not, ◌&&◌, ◌||◌, List, [], ◌∷◌, ◌++◌, length, drop, Option, Some, None, is_some, Ok, Err, refl}
use Rattle.std.specs.Prelude.{nat_lt, map as list_map}
use Rattle.std.specs.List.{AllByRecursion}
use Rattle.yaml_inline.specs.File.{Line, is_blank, is_empty, begins, ends_line}
use Rattle.yaml_inline.specs.Line.{Read, ◌>>=◌, indentation, indent, body, is_comment, is_empty_line, bad_start, plain_front, plain_rest}
use Rattle.yaml_inline.specs.Scalar.{Chomping, clip, strip, keep, drop_empty, literal, joint, fold_from, folded, chomped, block_text, plain_joint}
use Rattle.yaml_blocks.specs.Blocks.{front_while, rest_while, nothing_in, Part, Parts, put_line, inside, divide, alone, Continuation, empty_line, comment_line, text_line, last_line, continuation, add_line, more_plain, plain_text, header_of, first_indent, is_content, content, lines_at, scalar_lines, block_scalar}
use Rattle.yaml_blocks.specs.Reading.{Item, item_of, items_of, offset}
use Rattle.yaml_documents.proofs.Scalars.{AreScalars, if_both, all_append, Gives, gives_then, drop_scalars, append_scalars, front_scalars, feeds_scalars, joint_scalars}

abbrev pub LineHas : Line → Type 0
LineHas l = AreScalars l.text

abbrev pub LinesHave : List Line → Type 0
LinesHave ls = AllByRecursion LineHas ls

pub body_scalars : (l : Line) → LineHas l → AreScalars (body l)
unfolding body
body_scalars l h = drop_scalars (indentation l.text) l.text h

pub front_lines : (p : Line → Bool) (ls : List Line) → LinesHave ls → LinesHave (front_while p ls)
front_lines p [] h = tt
front_lines p (l ∷ ls) h = if_both LinesHave (p l) (l ∷ front_while p ls) [] (h.0, front_lines p ls h.1) tt

pub rest_lines : (p : Line → Bool) (ls : List Line) → LinesHave ls → LinesHave (rest_while p ls)
rest_lines p [] h = tt
rest_lines p (l ∷ ls) h = if_both LinesHave (p l) (rest_while p ls) (l ∷ ls) (rest_lines p ls h.1) h

-- ---- plain scalars over several lines

-- the end of the reading tells nothing of texts
ended_text : (r : Read (Unit {0})) (t : List ℕ) → AreScalars t → Gives AreScalars (r >>= (λ u. Ok t))
ended_text (Ok u) t h = h
ended_text (Err s) t h = tt

alone_text : (l : Line) (rest : List ℕ) (ls : List Line) (t : List ℕ) → AreScalars t → Gives AreScalars (alone l rest ls t)
alone_text l rest ls t h = if_both (Gives AreScalars) (ends_line rest) _ _ (ended_text (nothing_in ls) t h) tt

abbrev ContinuationHas : Continuation → Type 0
ContinuationHas empty_line = Unit {0}
ContinuationHas comment_line = Unit {0}
ContinuationHas (text_line t) = AreScalars t
ContinuationHas (last_line t) = AreScalars t

continuation_text : (m : ℕ) (l : Line) → LineHas l → Gives ContinuationHas (continuation m l)
unfolding continuation
continuation_text m l h =
    let text = front_scalars false (body l) (body_scalars l h) in
    if_both (Gives ContinuationHas) (is_empty_line l) _ _ tt
    (if_both (Gives ContinuationHas) (is_comment l) _ _ tt
    (if_both (Gives ContinuationHas) (is_some (bad_start l)) _ _ tt
    (if_both (Gives ContinuationHas) (nat_lt (indent l) m || not (ends_line (plain_rest false (body l)))) _ _ tt
    (if_both (Gives ContinuationHas) (is_empty (plain_rest false (body l))) _ _ text text))))

add_text : (n : ℕ) (f : Continuation) (behind_empty behind : Read (List ℕ)) (ended : Read (Unit {0})) → ContinuationHas f → Gives AreScalars behind_empty → Gives AreScalars behind
    → Gives AreScalars (add_line n f behind_empty behind ended)
add_text n empty_line behind_empty behind ended h empty more = empty
add_text n comment_line behind_empty behind ended h empty more = ended_text ended [] tt
add_text n (text_line t) behind_empty behind ended h empty more =
    let front = append_scalars (plain_joint n) t (joint_scalars false n) h in
    gives_then AreScalars AreScalars behind _ more (λ rest k. append_scalars (plain_joint n ++ t) rest front k)
add_text n (last_line t) behind_empty behind ended h empty more =
    ended_text ended (plain_joint n ++ t) (append_scalars (plain_joint n) t (joint_scalars false n) h)

more_text : (m n : ℕ) (ls : List Line) → LinesHave ls → Gives AreScalars (more_plain m n ls)
unfolding more_plain
more_text m n [] h = tt
more_text m n (l ∷ ls) h =
    gives_then ContinuationHas AreScalars (continuation m l) _ (continuation_text m l h.0) (λ f is.
    add_text n f (more_plain m (suc n) ls) (more_plain m 0 ls) (nothing_in ls) is (more_text m (suc n) ls h.1) (more_text m 0 ls h.1))

pub plain_text-text : (m : ℕ) (l : Line) (cs : List ℕ) (ls : List Line) → AreScalars cs → LinesHave ls → Gives AreScalars (plain_text m l cs ls)
unfolding plain_text
plain_text-text m l cs ls h lines =
    let front = front_scalars false cs h in
    if_both (Gives AreScalars) (is_empty (plain_rest false cs)) _ _
    (gives_then AreScalars AreScalars (more_plain m 0 ls) _ (more_text m 0 ls lines) (λ more k. append_scalars (plain_front false cs) more front k))
    (alone_text l (plain_rest false cs) ls (plain_front false cs) front)

-- ---- block scalars

abbrev pub TextsHave : List (List ℕ) → Type 0
TextsHave ts = AllByRecursion AreScalars ts

drop_empty-texts : (ts : List (List ℕ)) → TextsHave ts → TextsHave (drop_empty ts)
drop_empty-texts [] h = tt
drop_empty-texts (t ∷ ts) h = if_both TextsHave (is_empty t && _) [] (t ∷ drop_empty ts) tt (h.0, drop_empty-texts ts h.1)

literal_text : (ts : List (List ℕ)) → TextsHave ts → AreScalars (literal ts)
literal_text [] h = tt
literal_text (t ∷ []) h = h.0
literal_text (t ∷ u ∷ ts) h = append_scalars t (10 ∷ literal (u ∷ ts)) h.0 (refl, literal_text (u ∷ ts) h.1)

fold_text : (before : Bool) (n : ℕ) (ts : List (List ℕ)) → TextsHave ts → AreScalars (fold_from before n ts)
fold_text before n [] h = tt
fold_text before n ([] ∷ ts) h = fold_text before (suc n) ts h.1
fold_text before n ((c ∷ cs) ∷ ts) h =
    append_scalars (joint (before || is_blank c) n) ((c ∷ cs) ++ fold_from (is_blank c) 0 ts) (joint_scalars (before || is_blank c) n)
    (append_scalars (c ∷ cs) (fold_from (is_blank c) 0 ts) h.0 (fold_text (is_blank c) 0 ts h.1))

folded_text : (ts : List (List ℕ)) → TextsHave ts → AreScalars (folded ts)
folded_text [] h = tt
folded_text ([] ∷ ts) h = (refl, folded_text ts h.1)
folded_text ((c ∷ cs) ∷ ts) h = append_scalars (c ∷ cs) (fold_from (is_blank c) 0 ts) h.0 (fold_text (is_blank c) 0 ts h.1)

chomped_text : (e : Chomping) (has_text : Bool) (n : ℕ) → AreScalars (chomped e has_text n)
chomped_text strip has_text n = tt
chomped_text clip true n = (refl, tt)
chomped_text clip false n = tt
chomped_text keep true n = feeds_scalars (suc n)
chomped_text keep false n = feeds_scalars n

block_text-text : (is_folded : Bool) (e : Chomping) (ts : List (List ℕ)) → TextsHave ts → AreScalars (block_text is_folded e ts)
unfolding block_text
block_text-text is_folded e ts h =
    let kept = drop_empty ts in
    let all = drop_empty-texts ts h in
    append_scalars (cond is_folded (folded kept) (literal kept)) (chomped e (nat_lt 0 (length kept)) (length ts - length kept))
    (if_both AreScalars is_folded (folded kept) (literal kept) (folded_text kept all) (literal_text kept all))
    (chomped_text e (nat_lt 0 (length kept)) (length ts - length kept))

empty_texts : (ls : List Line) → TextsHave (list_map (λ l. []) ls)
empty_texts [] = tt
empty_texts (l ∷ ls) = (tt, empty_texts ls)

content_texts : (i : ℕ) (ls : List Line) → LinesHave ls → TextsHave (list_map (content i) ls)
content_texts i [] h = tt
content_texts i (l ∷ ls) h = (if_both AreScalars (nat_lt (indent l) i) [] (drop i l.text) tt (drop_scalars i l.text h.0), content_texts i ls h.1)

lines_at-texts : (m : ℕ) (o : Option ℕ) (front rest : List Line) → LinesHave rest → TextsHave (lines_at m o front rest).0
lines_at-texts m None front rest h = empty_texts front
lines_at-texts m (Some i) front rest h =
    if_both (λ (p : List (List ℕ) × List Line). TextsHave p.0) (nat_lt i m) _ _ (empty_texts front)
    (all_append AreScalars (list_map (λ l. []) front) (list_map (content i) (front_while (is_content i) rest)) (empty_texts front)
    (content_texts i (front_while (is_content i) rest) (front_lines (is_content i) rest h)))

scalar_lines-texts : (m : ℕ) (ls : List Line) → LinesHave ls → TextsHave (scalar_lines m ls).0
unfolding scalar_lines
scalar_lines-texts m ls h =
    lines_at-texts m (first_indent (rest_while is_empty_line ls)) (front_while is_empty_line ls) (rest_while is_empty_line ls) (rest_lines is_empty_line ls h)

pub block_scalar-text : (m : ℕ) (l : Line) (cs : List ℕ) (ls : List Line) → LinesHave ls → Gives AreScalars (block_scalar m l cs ls)
unfolding block_scalar
block_scalar-text m l cs ls h = by (header_of l (drop 1 cs)) where
  by : (r : Read Chomping) → Gives AreScalars (r >>= (λ e. nothing_in (scalar_lines m ls).1 >>= (λ u. Ok (block_text (begins 62 cs) e (scalar_lines m ls).0))))
  by (Ok e) = ended_text (nothing_in (scalar_lines m ls).1) (block_text (begins 62 cs) e (scalar_lines m ls).0) (block_text-text (begins 62 cs) e (scalar_lines m ls).0 (scalar_lines-texts m ls h))
  by (Err s) = tt

-- ---- the items of a block

abbrev pub ItemHas : Item → Type 0
ItemHas x = AreScalars x.text × LinesHave x.inner

abbrev PartHas : Part → Type 0
PartHas p = LineHas p.head × LinesHave p.inner

abbrev PartsHave : Parts → Type 0
PartsHave d = LinesHave d.lead × AllByRecursion PartHas d.parts

put_text : (b : Bool) (l : Line) (d : Parts) → LineHas l → PartsHave d → PartsHave (put_line b l d)
put_text true l d h parts = ((h, parts.0), parts.1)
put_text false l d h parts = (tt, ((h, parts.0), parts.1))

divide_text : (in_map : Bool) (j : ℕ) (ls : List Line) → LinesHave ls → PartsHave (divide in_map j ls)
divide_text in_map j [] h = (tt, tt)
divide_text in_map j (l ∷ ls) h = put_text (inside in_map j l) l (divide in_map j ls) h.0 (divide_text in_map j ls h.1)

item_texts : (ps : List Part) → AllByRecursion PartHas ps → AllByRecursion ItemHas (list_map item_of ps)
item_texts [] h = tt
item_texts (p ∷ ps) h = ((body_scalars p.head h.0.0, h.0.1), item_texts ps h.1)

pub items_of-text : (in_map : Bool) (l : Line) (cs : List ℕ) (ls : List Line) → AreScalars cs → LinesHave ls → AllByRecursion ItemHas (items_of in_map l cs ls)
items_of-text in_map l cs ls h lines =
    let d = divide in_map (offset l cs) ls in
    let parts = divide_text in_map (offset l cs) ls lines in
    ((h, parts.0), item_texts d.parts parts.1)
