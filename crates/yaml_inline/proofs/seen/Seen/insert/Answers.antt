use Rattle.std.proofs.Common.{◌≡◌, ℕ, Bool, true, false, cond, ◌||◌, List, encode_utf8_all, string_bytes, refl, ap, ◌∙◌}
use Rattle.std.specs.Str.{bytes_eq}
use Rattle.std.proofs.lemmas.Map.Text.{btree_set_updates_text}
use Rattle.yaml_inline.specs.SeenKeys.{has_bytes}
use Rattle.yaml_inline.proofs.seen.Seen.insert.Goals as goal

or_cond : (a b : Bool) → cond a true b ≡ (a || b)
or_cond true b = refl
or_cond false b = refl

pub returns-clause-keys : goal.returns-clause-keys
returns-clause-keys c = λ bs.
    let key = c.in_ok-owned.owned in
    let own : string_bytes key ≡ encode_utf8_all c.args.key.now = c.in_ok-owned.ensures.ok ∙ c.as_str-text.ensures.bytes in
    btree_set_updates_text (string_bytes key) c.args.self.now.keys c.insert.new.self true c.in_ok-insert.ensures.updates bs
    ∙ (or_cond (bytes_eq (string_bytes key) bs) (has_bytes c.args.self.now bs)
    ∙ ap (λ (k : List ℕ). bytes_eq k bs || has_bytes c.args.self.now bs) own)
