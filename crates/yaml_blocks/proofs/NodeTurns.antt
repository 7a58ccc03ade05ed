-- The items of a block, a turn at a time.
use Rattle.std.proofs.Common.{◌≡◌, ℕ, zero, suc, ◌+◌, ◌-◌, ◌<◌, ◌≤◌, Bool, true, false, cond, Option, Some, None, is_some, IfSome, List, [], ◌∷◌, ◌++◌, length, get_or, drop, Ok, Err, refl, sym, ap, ◌∙◌, subst, arith}
use Rattle.std.specs.Prelude.{map as list_map}
use Rattle.std.proofs.lemmas.List.{drop-drop, at_drop_all}
use Rattle.std.proofs.lemmas.Bool.Decides.{nat_tests}
use Rattle.yaml_tree.specs.Tree.{At, Tree, Elements, element, Members, member, Member}
use Rattle.yaml_tree.specs.View.{elements_of, members_of}
use Rattle.yaml_inline.specs.declared.line.Line as code
use Rattle.yaml_inline.specs.File.{Line, carries_nothing, skip_blanks}
use Rattle.yaml_inline.specs.Line.{Stop, Read, ◌>>=◌, body, spot, is_comment, bad_start, is_dash}
use Rattle.yaml_inline.specs.Key.{Keyed, keyed, unkeyed, key_stop, key_at}
use Rattle.yaml_inline.specs.declared.seen.Seen.{Seen}
use Rattle.yaml_inline.specs.SeenKeys.{Knows}
use Rattle.yaml_inline.specs.View.{line_view, halt_view, Fails}
use Rattle.yaml_inline.specs.declared.halt.Halt.{Halt}
use Rattle.yaml_inline.proofs.Flows.{put_elements, put_elements-push, put_elements-end, put_members, put_members-push, put_members-end, keys_of, keys_of-push}
use Rattle.yaml_blocks.specs.Blocks.{front_while, rest_while, skip_comments, inside, put_line, divide}
use Rattle.yaml_blocks.specs.Reading.{Item, item_of, items_of, offset, is_level, after_spaces, element_in, block_with, node_with, node_in, scalar_or_flow_in}
use Rattle.yaml_blocks.specs.Views.{lines_view}
use Rattle.yaml_blocks.proofs.Turns.{drop_at}
use Rattle.yaml_blocks.specs.Items.{item, element_at, behind, entry_at, elements_at, entries_at, list_in, mapping_in, IsContent}

-- ---- which items a block has

front_is : (in_map : Bool) (j : ℕ) (ls : List Line) → (divide in_map j ls).lead ≡ front_while (inside in_map j) ls
front_is in_map j [] = refl
front_is in_map j (l ∷ ls) = by (inside in_map j l) refl (front_is in_map j ls) where
  by : (b : Bool) → inside in_map j l ≡ b → (divide in_map j ls).lead ≡ front_while (inside in_map j) ls → (divide in_map j (l ∷ ls)).lead ≡ front_while (inside in_map j) (l ∷ ls)
  by true e h = rw e (ap (λ (xs : List Line). l ∷ xs) h)
  by false e h = rw e refl

-- the items at their own indentation in lines that follow an item
abbrev pub later : Bool → ℕ → List Line → List Item
later in_map j ls = list_map item_of (divide in_map j ls).parts

later_rest : (in_map : Bool) (j : ℕ) (ls : List Line) → later in_map j ls ≡ later in_map j (rest_while (inside in_map j) ls)
later_rest in_map j [] = refl
later_rest in_map j (l ∷ ls) = by (inside in_map j l) refl (later_rest in_map j ls) where
  by : (b : Bool) → inside in_map j l ≡ b → later in_map j ls ≡ later in_map j (rest_while (inside in_map j) ls) → later in_map j (l ∷ ls) ≡ later in_map j (rest_while (inside in_map j) (l ∷ ls))
  by true e h =
      ap (λ (b : Bool). list_map item_of (put_line b l (divide in_map j ls)).parts) e
      ∙ (h ∙ ap (λ (b : Bool). later in_map j (cond b (rest_while (inside in_map j) ls) (l ∷ ls))) (sym e))
  by false e h = ap (λ (b : Bool). later in_map j (cond b (rest_while (inside in_map j) ls) (l ∷ ls))) (sym e)

-- the first of these lines stands outside what is above it
abbrev pub Outside : Bool → ℕ → List Line → Type 0
Outside in_map j ls = rest_while (inside in_map j) ls ≡ ls

rest_again : (p : Line → Bool) (ls : List Line) → rest_while p (rest_while p ls) ≡ rest_while p ls
rest_again p [] = refl
rest_again p (l ∷ ls) = by (p l) refl (rest_again p ls) where
  by : (b : Bool) → p l ≡ b → rest_while p (rest_while p ls) ≡ rest_while p ls → rest_while p (rest_while p (l ∷ ls)) ≡ rest_while p (l ∷ ls)
  by true e h = rw e h
  by false e h = rw e (rw e refl)

rest_short : (p : Line → Bool) (ls : List Line) → length (rest_while p ls) ≤ length ls
rest_short p [] = omega arith
rest_short p (l ∷ ls) = by (p l) refl (rest_short p ls) where
  by : (b : Bool) → p l ≡ b → length (rest_while p ls) ≤ length ls → length (rest_while p (l ∷ ls)) ≤ length (l ∷ ls)
  by true e h = rw e (omega arith)
  by false e h = rw e (omega arith)

first_outside : (p : Line → Bool) (l : Line) (ls : List Line) → rest_while p (l ∷ ls) ≡ l ∷ ls → p l ≡ false
first_outside p l ls out = by (p l) refl out where
  by : (b : Bool) → p l ≡ b → rest_while p (l ∷ ls) ≡ l ∷ ls → p l ≡ false
  by true e h =
      let same : rest_while p ls ≡ l ∷ ls = rw e at h in
      absurd (omega (arith, ap length same, rest_short p ls))
  by false e h = e

pub outside_rest : (in_map : Bool) (j : ℕ) (all left : List Line) → left ≡ rest_while (inside in_map j) all → Outside in_map j left
outside_rest in_map j all left e = ap (rest_while (inside in_map j)) e ∙ (rest_again (inside in_map j) all ∙ sym e)

later_first : (in_map : Bool) (j : ℕ) (l : Line) (ls : List Line) → inside in_map j l ≡ false → later in_map j (l ∷ ls) ≡ record { line = l; text = body l; inner = (divide in_map j ls).lead } ∷ later in_map j ls
later_first in_map j l ls e = rw e refl

-- an item by its line and text, divided from the items behind it
divided : (in_map : Bool) (j : ℕ) (l : code.Line) (cs : List ℕ) (ls inner : List code.Line)
    → lines_view inner ≡ front_while (inside in_map j) (lines_view ls) → lines_view (drop (length inner) ls) ≡ rest_while (inside in_map j) (lines_view ls)
    → record { line = line_view l; text = cs; inner = (divide in_map j (lines_view ls)).lead } ∷ later in_map j (lines_view ls) ≡ item l cs inner ∷ later in_map j (lines_view (drop (length inner) ls))
divided in_map j l cs ls inner front rest =
    ap (λ (xs : List Line). record { line = line_view l; text = cs; inner = xs } ∷ later in_map j (lines_view ls)) (front_is in_map j (lines_view ls) ∙ sym front)
    ∙ ap (λ (xs : List Item). item l cs inner ∷ xs) (later_rest in_map j (lines_view ls) ∙ ap (later in_map j) (sym rest))

pub first_item : (in_map : Bool) (j : ℕ) (l : code.Line) (cs : List ℕ) (ls inner : List code.Line) → j ≡ offset (line_view l) cs
    → lines_view inner ≡ front_while (inside in_map j) (lines_view ls) → lines_view (drop (length inner) ls) ≡ rest_while (inside in_map j) (lines_view ls)
    → items_of in_map (line_view l) cs (lines_view ls) ≡ item l cs inner ∷ later in_map j (lines_view (drop (length inner) ls))
first_item in_map j l cs ls inner is front rest =
    ap (λ (i : ℕ). record { line = line_view l; text = cs; inner = (divide in_map i (lines_view ls)).lead } ∷ later in_map i (lines_view ls)) (sym is)
    ∙ divided in_map j l cs ls inner front rest

pub behind_next : (ls others : List code.Line) (at n : ℕ) → others ≡ drop (at + 1) ls → drop n others ≡ drop (at + (1 + n)) ls
behind_next ls others at n is =
    let sum : at + 1 + n ≡ at + (1 + n) = omega arith in
    ap (drop n) is ∙ (drop-drop n (at + 1) ls ∙ ap (λ (k : ℕ). drop k ls) sum)

pub next_item : (in_map : Bool) (j : ℕ) (ls others inner : List code.Line) (at : ℕ) (x : code.Line) (cs : List ℕ) → at < length ls → x ≡ get_or ls at x → Outside in_map j (lines_view (drop at ls)) → others ≡ drop (at + 1) ls
    → cs ≡ body (line_view x) → lines_view inner ≡ front_while (inside in_map j) (lines_view others) → lines_view (drop (length inner) others) ≡ rest_while (inside in_map j) (lines_view others)
    → later in_map j (lines_view (drop at ls)) ≡ item x cs inner ∷ later in_map j (lines_view (drop (at + (1 + length inner)) ls))
next_item in_map j ls others inner at x cs h x_is out others_is text front rest =
    let shape : lines_view (drop at ls) ≡ line_view x ∷ lines_view others = ap lines_view (drop_at ls at x h x_is) ∙ ap (λ (ys : List code.Line). line_view x ∷ lines_view ys) (sym others_is) in
    let alone = first_outside (inside in_map j) (line_view x) (lines_view others) (ap (rest_while (inside in_map j)) (sym shape) ∙ (out ∙ shape)) in
    ap (later in_map j) shape
    ∙ (later_first in_map j (line_view x) (lines_view others) alone
    ∙ (divided in_map j x (body (line_view x)) others inner front rest
    ∙ (ap (λ (ts : List ℕ). item x ts inner ∷ later in_map j (lines_view (drop (length inner) others))) (sym text)
    ∙ ap (λ (ys : List code.Line). item x cs inner ∷ later in_map j (lines_view ys)) (behind_next ls others at (length inner) others_is))))

pub outside_next : (in_map : Bool) (j : ℕ) (ls others inner : List code.Line) (at : ℕ) → others ≡ drop (at + 1) ls
    → lines_view (drop (length inner) others) ≡ rest_while (inside in_map j) (lines_view others) → Outside in_map j (lines_view (drop (at + (1 + length inner)) ls))
outside_next in_map j ls others inner at others_is rest =
    outside_rest in_map j (lines_view others) _ (ap lines_view (sym (behind_next ls others at (length inner) others_is)) ∙ rest)

-- ---- one more element

elements_step : (d i : ℕ) (x : Item) (xs : List Item) → elements_at d i (x ∷ xs) ≡ element_at d i x >>= (λ t. elements_at d i xs >>= (λ ts. Ok (element t ts)))
elements_step d i x xs = refl

-- the elements so far, before those that are read
abbrev pub after_elements : List Tree → Read Elements → Read Elements
after_elements ts r = r >>= (λ es. Ok (put_elements ts es))

after_one : (ts : List Tree) (t : Tree) (r : Read Elements) → after_elements ts (r >>= (λ es. Ok (element t es))) ≡ after_elements (ts ++ t ∷ []) r
after_one ts t (Ok es) = ap (λ (us : Elements). Ok us) (put_elements-push ts t es)
after_one ts t (Err s) = refl

elements_turn : (d i : ℕ) (ts : List Tree) (x : Item) (xs all : List Item) (t : Tree) → all ≡ x ∷ xs → element_at d i x ≡ Ok t
    → after_elements ts (elements_at d i all) ≡ after_elements (ts ++ t ∷ []) (elements_at d i xs)
elements_turn d i ts x xs all t is e =
    ap (λ (ys : List Item). after_elements ts (elements_at d i ys)) is
    ∙ (ap (after_elements ts) (elements_step d i x xs ∙ ap (λ (r : Read Tree). r >>= (λ t. elements_at d i xs >>= (λ us. Ok (element t us)))) e)
    ∙ after_one ts t (elements_at d i xs))

elements_start : (r : Read Elements) → after_elements [] r ≡ r
elements_start (Ok es) = refl
elements_start (Err s) = refl

-- the first element, and one more
pub elements_first : (d i j : ℕ) (us : List Tree) (x : Item) (xs all : List Item) (t : Tree) → i ≡ j → all ≡ x ∷ xs → element_at d i x ≡ Ok t → us ≡ t ∷ []
    → after_elements us (elements_at d i xs) ≡ elements_at d j all
elements_first d i j us x xs all t same is e grown =
    ap (λ (ts : List Tree). after_elements ts (elements_at d i xs)) grown
    ∙ (sym (elements_turn d i [] x xs all t is e) ∙ (elements_start (elements_at d i all) ∙ ap (λ (k : ℕ). elements_at d k all) same))

pub elements_more : (d i : ℕ) (ts us : List Tree) (x : Item) (xs all : List Item) (t : Tree) (whole : Read Elements) → after_elements ts (elements_at d i all) ≡ whole → all ≡ x ∷ xs
    → element_at d i x ≡ Ok t → us ≡ ts ++ t ∷ [] → after_elements us (elements_at d i xs) ≡ whole
elements_more d i ts us x xs all t whole far is e grown =
    ap (λ (vs : List Tree). after_elements vs (elements_at d i xs)) grown ∙ (sym (elements_turn d i ts x xs all t is e) ∙ far)

-- where the first one stops, or one more
elements_halt : (d i : ℕ) (x : Item) (xs all : List Item) (s : Stop) → all ≡ x ∷ xs → element_at d i x ≡ Err s → elements_at d i all ≡ Err s
elements_halt d i x xs all s is e =
    ap (elements_at d i) is ∙ (elements_step d i x xs ∙ ap (λ (r : Read Tree). r >>= (λ t. elements_at d i xs >>= (λ us. Ok (element t us)))) e)

pub elements_stop_first : (d i j : ℕ) (x : Item) (xs all : List Item) (s : Stop) → i ≡ j → all ≡ x ∷ xs → element_at d i x ≡ Err s → elements_at d j all ≡ Err s
elements_stop_first d i j x xs all s same is e = ap (λ (k : ℕ). elements_at d k all) (sym same) ∙ elements_halt d i x xs all s is e

pub elements_stop : (d i : ℕ) (ts : List Tree) (x : Item) (xs all : List Item) (s : Stop) (whole : Read Elements) → after_elements ts (elements_at d i all) ≡ whole → all ≡ x ∷ xs → element_at d i x ≡ Err s
    → whole ≡ Err s
elements_stop d i ts x xs all s whole far is e = sym far ∙ ap (after_elements ts) (elements_halt d i x xs all s is e)

later_none : (in_map : Bool) (j : ℕ) (ls : List code.Line) (at : ℕ) → length ls ≤ at → later in_map j (lines_view (drop at ls)) ≡ []
later_none in_map j ls at h = at_drop_all (λ (ys : List code.Line). later in_map j (lines_view ys)) ls at h

pub elements_end : (d i : ℕ) (ts : List Tree) (ls : List code.Line) (at : ℕ) (whole : Read Elements) → after_elements ts (elements_at d i (later false i (lines_view (drop at ls)))) ≡ whole → length ls ≤ at
    → whole ≡ Ok (elements_of ts)
elements_end d i ts ls at whole far h =
    sym far ∙ (ap (λ (xs : List Item). after_elements ts (elements_at d i xs)) (later_none false i ls at h) ∙ ap (λ (us : Elements). Ok us) (put_elements-end ts))

-- ---- one more entry

-- the entries behind one
behind_entry : ℕ → ℕ → List (List ℕ) → List Item → Member → Read Members
behind_entry d i ks xs m = entries_at d i (ks ++ m.key ∷ []) xs >>= (λ ms. Ok (member m.key m.place m.value ms))

entries_step : (d i : ℕ) (ks : List (List ℕ)) (x : Item) (xs : List Item) → entries_at d i ks (x ∷ xs) ≡ entry_at d i ks x >>= behind_entry d i ks xs
unfolding behind_entry
entries_step d i ks x xs = refl

-- the entries so far, before those that are read
abbrev pub after_entries : List Member → Read Members → Read Members
after_entries us r = r >>= (λ ms. Ok (put_members us ms))

after_entry : (us : List Member) (m : Member) (r : Read Members) → after_entries us (r >>= (λ ms. Ok (member m.key m.place m.value ms))) ≡ after_entries (us ++ m ∷ []) r
after_entry us m (Ok ms) = ap (λ (os : Members). Ok os) (put_members-push us m ms)
after_entry us m (Err s) = refl

entries_turn : (d i : ℕ) (us : List Member) (x : Item) (xs all : List Item) (m : Member) → all ≡ x ∷ xs → entry_at d i (keys_of us) x ≡ Ok m
    → after_entries us (entries_at d i (keys_of us) all) ≡ after_entries (us ++ m ∷ []) (entries_at d i (keys_of (us ++ m ∷ [])) xs)
unfolding behind_entry
entries_turn d i us x xs all m is e =
    ap (λ (ys : List Item). after_entries us (entries_at d i (keys_of us) ys)) is
    ∙ (ap (after_entries us) (entries_step d i (keys_of us) x xs ∙ ap (λ (r : Read Member). r >>= behind_entry d i (keys_of us) xs) e)
    ∙ (after_entry us m (entries_at d i (keys_of us ++ m.key ∷ []) xs)
    ∙ ap (λ (ks : List (List ℕ)). after_entries (us ++ m ∷ []) (entries_at d i ks xs)) (sym (keys_of-push us m))))

entries_start : (r : Read Members) → after_entries [] r ≡ r
entries_start (Ok ms) = refl
entries_start (Err s) = refl

pub entries_first : (d i j : ℕ) (vs : List Member) (x : Item) (xs all : List Item) (m : Member) → i ≡ j → all ≡ x ∷ xs → entry_at d i [] x ≡ Ok m → vs ≡ m ∷ []
    → after_entries vs (entries_at d i (keys_of vs) xs) ≡ entries_at d j [] all
entries_first d i j vs x xs all m same is e grown =
    ap (λ (us : List Member). after_entries us (entries_at d i (keys_of us) xs)) grown
    ∙ (sym (entries_turn d i [] x xs all m is e) ∙ (entries_start (entries_at d i [] all) ∙ ap (λ (k : ℕ). entries_at d k [] all) same))

pub entries_more : (d i : ℕ) (us vs : List Member) (x : Item) (xs all : List Item) (m : Member) (whole : Read Members) → after_entries us (entries_at d i (keys_of us) all) ≡ whole → all ≡ x ∷ xs
    → entry_at d i (keys_of us) x ≡ Ok m → vs ≡ us ++ m ∷ [] → after_entries vs (entries_at d i (keys_of vs) xs) ≡ whole
entries_more d i us vs x xs all m whole far is e grown =
    ap (λ (os : List Member). after_entries os (entries_at d i (keys_of os) xs)) grown ∙ (sym (entries_turn d i us x xs all m is e) ∙ far)

entries_halt : (d i : ℕ) (ks : List (List ℕ)) (x : Item) (xs all : List Item) (s : Stop) → all ≡ x ∷ xs → entry_at d i ks x ≡ Err s → entries_at d i ks all ≡ Err s
entries_halt d i ks x xs all s is e =
    ap (entries_at d i ks) is ∙ (entries_step d i ks x xs ∙ ap (λ (r : Read Member). r >>= behind_entry d i ks xs) e)

pub entries_stop_first : (d i j : ℕ) (x : Item) (xs all : List Item) (s : Stop) → i ≡ j → all ≡ x ∷ xs → entry_at d i [] x ≡ Err s → entries_at d j [] all ≡ Err s
entries_stop_first d i j x xs all s same is e = ap (λ (k : ℕ). entries_at d k [] all) (sym same) ∙ entries_halt d i [] x xs all s is e

pub entries_stop : (d i : ℕ) (us : List Member) (x : Item) (xs all : List Item) (s : Stop) (whole : Read Members) → after_entries us (entries_at d i (keys_of us) all) ≡ whole → all ≡ x ∷ xs
    → entry_at d i (keys_of us) x ≡ Err s → whole ≡ Err s
entries_stop d i us x xs all s whole far is e = sym far ∙ ap (after_entries us) (entries_halt d i (keys_of us) x xs all s is e)

pub entries_end : (d i : ℕ) (us : List Member) (ls : List code.Line) (at : ℕ) (whole : Read Members) → after_entries us (entries_at d i (keys_of us) (later true i (lines_view (drop at ls)))) ≡ whole → length ls ≤ at
    → whole ≡ Ok (members_of us)
entries_end d i us ls at whole far h =
    sym far ∙ (ap (λ (xs : List Item). after_entries us (entries_at d i (keys_of us) xs)) (later_none true i ls at h) ∙ ap (λ (os : Members). Ok os) (put_members-end us))

pub knows_grown : (s : Seen) (us vs : List Member) (m : Member) → Knows s (keys_of us ++ m.key ∷ []) → vs ≡ us ++ m ∷ [] → Knows s (keys_of vs)
knows_grown s us vs m known grown = subst (λ (ks : List (List ℕ)). Knows s ks) (sym (ap keys_of grown ∙ keys_of-push us m)) known

-- ---- what begins at a node

pub node_is : (d : ℕ) (may : Bool) (m : ℕ) (l : Line) (cs : List ℕ) (ls : List Line) → node_in d may m l cs ls ≡ node_with (list_in d) (mapping_in d) d may m l cs ls
unfolding node_in
node_is zero may m l cs ls = refl
node_is (suc d) may m l cs ls = refl

pub node_no : (d : ℕ) (may : Bool) (m : ℕ) (l : Line) (cs : List ℕ) (ls : List Line) → may ≡ false → node_in d may m l cs ls ≡ scalar_or_flow_in d m l cs ls
node_no d may m l cs ls no_collection = node_is d may m l cs ls ∙ rw no_collection refl

pub node_list : (d : ℕ) (may : Bool) (m : ℕ) (l : Line) (cs : List ℕ) (ls : List Line) → may ≡ true → is_dash cs ≡ true → node_in d may m l cs ls ≡ list_in d l cs ls
node_list d may m l cs ls open_here dash = node_is d may m l cs ls ∙ rw (open_here, dash) refl

pub node_map : (d : ℕ) (may : Bool) (m : ℕ) (l : Line) (cs : List ℕ) (ls : List Line) (k rest : List ℕ) → may ≡ true → is_dash cs ≡ false → key_at l cs ≡ keyed k rest
    → node_in d may m l cs ls ≡ mapping_in d l cs ls
node_map d may m l cs ls k rest open_here dash key = node_is d may m l cs ls ∙ rw (open_here, dash, key) refl

pub node_scalar_or_flow : (d : ℕ) (may : Bool) (m : ℕ) (l : Line) (cs : List ℕ) (ls : List Line) → may ≡ true → is_dash cs ≡ false → key_at l cs ≡ unkeyed → node_in d may m l cs ls ≡ scalar_or_flow_in d m l cs ls
node_scalar_or_flow d may m l cs ls open_here dash key = node_is d may m l cs ls ∙ rw (open_here, dash, key) refl

pub node_stop : (d : ℕ) (may : Bool) (m : ℕ) (l : Line) (cs : List ℕ) (ls : List Line) (s : Stop) → may ≡ true → is_dash cs ≡ false → key_at l cs ≡ key_stop s → node_in d may m l cs ls ≡ Err s
node_stop d may m l cs ls s open_here dash key = node_is d may m l cs ls ∙ rw (open_here, dash, key) refl

key_fails_at : {A : Type 0} (o : Option Stop) (found : Keyed) (read : Read A) → IfSome o (λ s. found ≡ key_stop s) → ((s : Stop) → found ≡ key_stop s → read ≡ Err s) → IfSome o (λ s. read ≡ Err s)
key_fails_at None found read h step = tt
key_fails_at (Some s) found read h step = step s h

pub key_fails : {A : Type 0} (h : Halt) (found : Keyed) (read : Read A) → IfSome (halt_view h) (λ s. found ≡ key_stop s) → ((s : Stop) → found ≡ key_stop s → read ≡ Err s) → Fails h read
key_fails h found read e step = key_fails_at (halt_view h) found read e step

pub map_stop : (d : ℕ) (l : Line) (cs : List ℕ) (ls : List Line) (s : Stop) → (d ≡ 0 → ⊥) → entries_at (d - 1) (offset l cs) [] (items_of true l cs ls) ≡ Err s → mapping_in d l cs ls ≡ Err s
map_stop zero l cs ls s some e = absurd (some refl)
map_stop (suc d) l cs ls s some e =
    let same : suc d - 1 ≡ d = omega arith in
    let stop : entries_at d (offset l cs) [] (items_of true l cs ls) ≡ Err s = ap (λ (n : ℕ). entries_at n (offset l cs) [] (items_of true l cs ls)) (sym same) ∙ e in
    rw stop refl

-- ---- what stands behind a dash or a colon

pub dashed_is : (d i : ℕ) (x : Item) → is_some (bad_start x.line) ≡ false → offset x.line x.text ≡ i → is_dash x.text ≡ true
    → element_at d i x ≡ behind d (after_spaces (drop 1 x.text)) i (spot x.line x.text) x.line (drop 1 x.text) x.inner
unfolding element_in
dashed_is d i x free level dash =
    let same : is_level i x ≡ true = grind (arith, nat_tests) in
    rw (free, same, dash) refl

pub behind_block : (d : ℕ) (may : Bool) (i : ℕ) (home : At) (l : Line) (rest : List ℕ) (ls : List Line) → carries_nothing rest ≡ true → behind d may i home l rest ls ≡ block_with (node_in d) (i + 1) home ls
behind_block d may i home l rest ls comment =
    let more : suc i ≡ i + 1 = omega arith in
    rw comment (ap (λ (m : ℕ). block_with (node_in d) m home ls) more)

pub behind_node : (d : ℕ) (may : Bool) (i : ℕ) (home : At) (l : Line) (rest next : List ℕ) (ls : List Line) → IsContent rest next → behind d may i home l rest ls ≡ node_in d may (i + 1) l next ls
behind_node d may i home l rest next ls is =
    let more : suc i ≡ i + 1 = omega arith in
    rw is.some (ap (λ (m : ℕ). node_in d may m l (skip_blanks rest) ls) more ∙ ap (λ (ts : List ℕ). node_in d may (i + 1) l ts ls) (sym is.next_is))

-- ---- the first line of a block

pub first_solid : (l : Line) (all more : List Line) → skip_comments all ≡ l ∷ more → is_comment l ≡ false
first_solid l all more e = first_outside is_comment l more (ap (rest_while is_comment) (sym e) ∙ (rest_again is_comment all ∙ e))
