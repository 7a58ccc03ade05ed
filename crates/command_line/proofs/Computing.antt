-- The items that are read word by word are those that the words give.
use Rattle.std.proofs.Common.{◌≡◌, ◌∙◌, ◌⊎◌, inl, inr, ℕ, ◌==◌, Bool, true, false, not, ◌&&◌, List, [], ◌∷◌, ◌++◌, map, Option, Some, None, cond, refl, sym, ap, subst}
use Rattle.std.specs.Prelude.{is_some, ◌↔◌}
use Rattle.std.specs.List.{list_all, AllByRecursion, list_any, before_first, after_first}
use Rattle.std.specs.Str.{bytes_eq}
use Rattle.std.proofs.lemmas.Slice.Eq.{bytes_eq-Decides}
use Rattle.std.proofs.lemmas.Bool.{and_from}
use Rattle.clap.proofs.CutLemmas.{Lacks, list_any-Lacks, list_any-at, before_first-at, after_first-at}
use Rattle.command_line.specs.Given.{Word, Item, named, file, is_value, is_nonempty, dashed, joined, is_among, less, Reads, nothing, apart, together, placed, ended, value_of, names_of}
use Rattle.command_line.specs.Clean.{behind_dashes}
use Rattle.command_line.specs.Computed.{before, with_value, word_items, items_of, items_apart, is_all, if_all, given}
use Rattle.command_line.specs.Table.{Row, row_of, backend, schema, pipeline, seed, events, takes_names, are_enough, IsGiven}
use Rattle.command_line.specs.declared.command_name.CommandName.{CommandName}
use Rattle.command_line.specs.declared.command_name.CommandName.TheVariants as commands
use Rattle.command_line.proofs.Fresh.{and_left, and_right, still_among}
use Rattle.command_line.proofs.Views.{Cut, uncut, cut, cut_of, dashes_are}

-- the name of an option is a word without `=`
abbrev pub IsOptionName : Word → Type 0
IsOptionName x = (is_nonempty x ≡ true) × Lacks 61 x

abbrev pub AreNames : List Word → Type 0
AreNames options = (x : Word) → is_among x options ≡ true → IsOptionName x

names_less : (options : List Word) (x : Word) → AreNames options → AreNames (less x options)
names_less options x names y e = names y (still_among x y options e).0

-- ---- what is read is given

none_some : {A : Type 0} (x : A) → None ≡ Some x → ⊥
none_some x e = cc

some_is : {A : Type 0} (x y : A) → Some x ≡ Some y → x ≡ y
some_is x y e = cc

choose : {A : Type 0} (b : Bool) (x y z : A) → cond b x y ≡ z → ((b ≡ true) × (x ≡ z)) ⊎ ((b ≡ false) × (y ≡ z))
choose true x y z e = inl (refl, e)
choose false x y z e = inr (refl, e)

before_is : (item : Item) (o : Option (List Item)) (items : List Item) → before item o ≡ Some items → (rest : List Item) × (o ≡ Some rest) × (item ∷ rest ≡ items)
before_is item None items e = absurd (none_some items e)
before_is item (Some rest) items e = (rest, refl, some_is (item ∷ rest) items e)

-- an option with its value
valued : (options : List Word) (takes : Bool) (x v : Word) (ws : List Word) (items : List Item) (whole : List Word)
    → ((rest : List Item) → is_among x options ≡ true → is_value v ≡ true → Reads (less x options) takes ws rest → Reads options takes whole (named x v ∷ rest))
    → ((left : List Word) (rest : List Item) → items_of left takes ws ≡ Some rest → Reads left takes ws rest)
    → with_value options x v (λ left. items_of left takes ws) ≡ Some items → Reads options takes whole items
valued options takes x v ws items whole make rec e =
    elim (choose (is_among x options && is_value v) (before (named x v) (items_of (less x options) takes ws)) None (Some items) e) [
      | inl h ↦ of h.0 (before_is (named x v) (items_of (less x options) takes ws) items h.1)
      | inr h ↦ absurd (none_some items h.1)
    ] where
      of : (is_among x options && is_value v) ≡ true → ((rest : List Item) × (items_of (less x options) takes ws ≡ Some rest) × (named x v ∷ rest ≡ items)) → Reads options takes whole items
      of b r =
          subst (λ (is : List Item). Reads options takes whole is) r.2
          (make r.0 (and_left (is_among x options) (is_value v) b) (and_right (is_among x options) (is_value v) b) (rec (less x options) r.0 r.1))

-- a word, where it's known of the words behind it
module _ (options : List Word) (takes : Bool) (w : Word) (ws : List Word) (items : List Item)
    (rec : (left : List Word) (rest : List Item) → items_of left takes ws ≡ Some rest → Reads left takes ws rest)
    (rec_apart : (x : Word) → items_apart options takes x ws ≡ Some items → Reads options takes (dashed x ∷ ws) items) where
  abbrev Items : Option Word → Option (List Item)
  Items o = word_items options takes w o ws (λ left. items_of left takes ws) (λ x. items_apart options takes x ws)

  joined_items : (c : ℕ) (cs x v : Word) → c ∷ cs ≡ x ++ 61 ∷ v → Lacks 61 x → Items (Some (c ∷ cs)) ≡ with_value options x v (λ left. items_of left takes ws)
  joined_items c cs x v same lacks =
      let any : list_any (λ b. b == 61) (c ∷ cs) ≡ true = ap (list_any (λ b. b == 61)) same ∙ list_any-at 61 x v in
      let first : before_first (λ b. b == 61) (c ∷ cs) ≡ x = ap (before_first (λ b. b == 61)) same ∙ before_first-at 61 x v lacks in
      let after : after_first (λ b. b == 61) (c ∷ cs) ≡ v = ap (after_first (λ b. b == 61)) same ∙ after_first-at 61 x v lacks in
      ap (λ (b : Bool). cond b (with_value options (before_first (λ b. b == 61) (c ∷ cs)) (after_first (λ b. b == 61) (c ∷ cs)) (λ left. items_of left takes ws)) (items_apart options takes (c ∷ cs) ws)) any
      ∙ (ap (λ (y : Word). with_value options y (after_first (λ b. b == 61) (c ∷ cs)) (λ left. items_of left takes ws)) first
      ∙ ap (λ (y : Word). with_value options x y (λ left. items_of left takes ws)) after)

  option_given : (c : ℕ) (cs : Word) → behind_dashes w ≡ Some (c ∷ cs) → Cut (c ∷ cs) → Items (Some (c ∷ cs)) ≡ Some items → Reads options takes (w ∷ ws) items
  option_given c cs is (uncut lacks) e =
      let any : list_any (λ b. b == 61) (c ∷ cs) ≡ false = list_any-Lacks 61 (c ∷ cs) lacks in
      let alone : Items (Some (c ∷ cs)) ≡ items_apart options takes (c ∷ cs) ws =
      ap (λ (b : Bool). cond b (with_value options (before_first (λ b. b == 61) (c ∷ cs)) (after_first (λ b. b == 61) (c ∷ cs)) (λ left. items_of left takes ws)) (items_apart options takes (c ∷ cs) ws)) any in
      subst (λ (u : Word). Reads options takes (u ∷ ws) items) (sym (dashes_are w (c ∷ cs) is)) (rec_apart (c ∷ cs) (sym alone ∙ e))
  option_given c cs is (cut x v same lacks) e =
      subst (λ (u : Word). Reads options takes (u ∷ ws) items) (sym (dashes_are w (c ∷ cs) is ∙ ap (λ (u : Word). 45 ∷ 45 ∷ u) same))
      (valued options takes x v ws items (joined x v ∷ ws) (λ rest among value reads. together x v among value reads) rec (sym (joined_items c cs x v same lacks) ∙ e))

  pub word_given : (o : Option Word) → behind_dashes w ≡ o → Items o ≡ Some items → Reads options takes (w ∷ ws) items
  word_given None is e =
      elim (choose (takes && is_value w) (before (file w) (items_of options takes ws)) None (Some items) e) [
        | inl h ↦ of h.0 (before_is (file w) (items_of options takes ws) items h.1)
        | inr h ↦ absurd (none_some items h.1)
      ] where
        of : (takes && is_value w) ≡ true → ((rest : List Item) × (items_of options takes ws ≡ Some rest) × (file w ∷ rest ≡ items)) → Reads options takes (w ∷ ws) items
        of b r = subst (λ (i : List Item). Reads options takes (w ∷ ws) i) r.2 (placed w (and_left takes (is_value w) b) (and_right takes (is_value w) b) (rec options r.0 r.1))
  word_given (Some []) is e =
      elim (choose (list_all (λ u. takes && is_nonempty u) ws) (Some (map file ws)) None (Some items) e) [
        | inl h ↦ subst (λ (i : List Item). Reads options takes (w ∷ ws) i) (some_is (map file ws) items h.1)
            (subst (λ (u : Word). Reads options takes (u ∷ ws) (map file ws)) (sym (dashes_are w [] is)) (ended ws h.0))
        | inr h ↦ absurd (none_some items h.1)
      ]
  word_given (Some (c ∷ cs)) is e = option_given c cs is (cut_of (c ∷ cs)) e

mutual
  pub read_given : (options : List Word) (takes : Bool) (words : List Word) (items : List Item) → items_of options takes words ≡ Some items → Reads options takes words items
  read_given options takes [] items e = subst (λ (is : List Item). Reads options takes [] is) (some_is [] items e) nothing
  read_given options takes (w ∷ ws) items e =
      word_given options takes w ws items (λ left rest f. read_given left takes ws rest f) (λ x f. read_apart options takes x ws items f) (behind_dashes w) refl e

  read_apart : (options : List Word) (takes : Bool) (x : Word) (words : List Word) (items : List Item) → items_apart options takes x words ≡ Some items → Reads options takes (dashed x ∷ words) items
  read_apart options takes x [] items e = absurd (none_some items e)
  read_apart options takes x (v ∷ ws) items e =
      valued options takes x v ws items (dashed x ∷ v ∷ ws) (λ rest among value reads. apart x v among value reads) (λ left rest f. read_given left takes ws rest f) e

-- ---- what is given is read

value_dashes : (w : Word) → is_value w ≡ true → behind_dashes w ≡ None
value_dashes [] e = cc
value_dashes (c ∷ cs) e = by (c == 45) refl e where
  by : (b : Bool) → (c == 45) ≡ b → not b ≡ true → behind_dashes (c ∷ cs) ≡ None
  by true is e = cc
  by false is e = rw is refl

apart_read : (options : List Word) (takes : Bool) (x v : Word) (ws : List Word) (items : List Item) → IsOptionName x → is_among x options ≡ true → is_value v ≡ true
    → items_of (less x options) takes ws ≡ Some items → items_of options takes (dashed x ∷ v ∷ ws) ≡ Some (named x v ∷ items)
apart_read options takes [] v ws items n among value below = absurd cc
apart_read options takes (c ∷ cs) v ws items n among value below = rw (list_any-Lacks 61 (c ∷ cs) n.1) (rw (among, value, below) refl)

together_read : (options : List Word) (takes : Bool) (x v : Word) (ws : List Word) (items : List Item) → IsOptionName x → is_among x options ≡ true → is_value v ≡ true
    → items_of (less x options) takes ws ≡ Some items → items_of options takes (joined x v ∷ ws) ≡ Some (named x v ∷ items)
together_read options takes [] v ws items n among value below = absurd cc
together_read options takes (c ∷ cs) v ws items n among value below =
    rw (list_any-at 61 (c ∷ cs) v) (rw (before_first-at 61 (c ∷ cs) v n.1, after_first-at 61 (c ∷ cs) v n.1) (rw (among, value, below) refl))

placed_read : (options : List Word) (takes : Bool) (w : Word) (ws : List Word) (items : List Item) → takes ≡ true → is_value w ≡ true
    → items_of options takes ws ≡ Some items → items_of options takes (w ∷ ws) ≡ Some (file w ∷ items)
placed_read options takes w ws items may value below =
    let both : (takes && is_value w) ≡ true = rw (may, value) refl in
    ap (λ (o : Option Word). word_items options takes w o ws (λ left. items_of left takes ws) (λ x. items_apart options takes x ws)) (value_dashes w value)
    ∙ (ap (λ (b : Bool). cond b (before (file w) (items_of options takes ws)) None) both ∙ ap (before (file w)) below)

pub given_read : (options : List Word) (takes : Bool) (words : List Word) (items : List Item) → AreNames options → Reads options takes words items → items_of options takes words ≡ Some items
given_read options takes _ _ names nothing = refl
given_read options takes _ _ names (apart {words = ws} {items = items} x v among value reads) =
    apart_read options takes x v ws items (names x among) among value (given_read (less x options) takes ws items (names_less options x names) reads)
given_read options takes _ _ names (together {words = ws} {items = items} x v among value reads) =
    together_read options takes x v ws items (names x among) among value (given_read (less x options) takes ws items (names_less options x names) reads)
given_read options takes _ _ names (placed {words = ws} {items = items} w may value reads) =
    placed_read options takes w ws items may value (given_read options takes ws items names reads)
given_read options takes _ _ names (ended words all) = rw all refl

-- ---- with all that a command asks for

pub computed : (row : Row) (words : List Word) (items : List Item) → AreNames (row.required ++ row.optional)
    → IsGiven row words items ↔ (given row words ≡ Some items)
computed row words items names = (to, from) where
  to : IsGiven row words items → given row words ≡ Some items
  to g =
      ap (if_all row) (given_read (row.required ++ row.optional) (takes_names row.files) words items names g.reads)
      ∙ ap (λ (b : Bool). cond b (Some items) None) (and_from (list_all (λ x. is_some (value_of x items)) row.required) (are_enough row.files (names_of items)) g.required g.enough)

  all : (found : Option (List Item)) → items_of (row.required ++ row.optional) (takes_names row.files) words ≡ found → if_all row found ≡ Some items → IsGiven row words items
  all None is e = absurd (none_some items e)
  all (Some own) is e = elim (choose (is_all row own) (Some own) None (Some items) e) [
    | inl h ↦ subst (λ (i : List Item). IsGiven row words i) (some_is own items h.1) (record {
      reads = read_given (row.required ++ row.optional) (takes_names row.files) words own is;
      required = and_left (list_all (λ x. is_some (value_of x own)) row.required) (are_enough row.files (names_of own)) h.0;
      enough = and_right (list_all (λ x. is_some (value_of x own)) row.required) (are_enough row.files (names_of own)) h.0;
    })
    | inr h ↦ absurd (none_some items h.1)
  ]

  from : given row words ≡ Some items → IsGiven row words items
  from e = all (items_of (row.required ++ row.optional) (takes_names row.files) words) refl e

-- ---- the options of each command

lacks_of : (text : Word) → list_any (λ b. b == 61) text ≡ false → Lacks 61 text
lacks_of text none = by (cut_of text) where
  by : Cut text → Lacks 61 text
  by (uncut lacks) = lacks
  by (cut x v same lacks) =
      let has : list_any (λ b. b == 61) text ≡ true = ap (list_any (λ b. b == 61)) same ∙ list_any-at 61 x v in
      let bad : true ≡ false = sym has ∙ none in
      absurd cc

-- one of these options
each_name : (names : List Word) → AllByRecursion IsOptionName names → (x : Word) → is_among x names ≡ true → IsOptionName x
each_name [] all x e = absurd cc
each_name (y ∷ ys) all x e = by (bytes_eq y x) refl (each_name ys all.1 x) where
  by : (b : Bool) → bytes_eq y x ≡ b → (is_among x ys ≡ true → IsOptionName x) → IsOptionName x
  by true same below = subst IsOptionName ((bytes_eq-Decides y x).0 same) all.0
  by false same below = let h : is_among x ys ≡ true = rw same at e in below h

plain_backend : IsOptionName backend
plain_backend = (refl, lacks_of backend refl)

plain_schema : IsOptionName schema
plain_schema = (refl, lacks_of schema refl)

plain_pipeline : IsOptionName pipeline
plain_pipeline = (refl, lacks_of pipeline refl)

plain_seed : IsOptionName seed
plain_seed = (refl, lacks_of seed refl)

plain_events : IsOptionName events
plain_events = (refl, lacks_of events refl)

pub plain_names : (command : CommandName) → AreNames ((row_of command).required ++ (row_of command).optional)
plain_names commands.Check x e = absurd cc
plain_names commands.Convert x e = each_name (backend ∷ schema ∷ pipeline ∷ []) (plain_backend, (plain_schema, (plain_pipeline, tt))) x e
plain_names commands.Run x e = each_name (schema ∷ pipeline ∷ []) (plain_schema, (plain_pipeline, tt)) x e
plain_names commands.Query x e = each_name (backend ∷ schema ∷ []) (plain_backend, (plain_schema, tt)) x e
plain_names commands.Correlate x e = each_name (schema ∷ pipeline ∷ []) (plain_schema, (plain_pipeline, tt)) x e
plain_names commands.Generate x e = each_name (seed ∷ events ∷ []) (plain_seed, (plain_events, tt)) x e
