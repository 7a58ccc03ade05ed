-- Nodes that begin with a quote.
use Rattle.std.proofs.Common.{◌≡◌, ℕ, true, List, Ok, Err, refl, sym, ap, ◌∙◌}
use Rattle.yaml_tree.specs.Tree.{text, scalar}
use Rattle.yaml_inline.specs.File.{Line, skip_blanks}
use Rattle.yaml_inline.specs.Line.{Stop, Read, ◌>>=◌, spot}
use Rattle.yaml_inline.specs.Flow.{is_quote, quoted}
use Rattle.yaml_inline.specs.Key.{keyed, unkeyed, colon_then, quoted_key, key_at}
use Rattle.yaml_inline.proofs.Opens.{quote_not_left_out, quote_no_percent, quote_no_dash}
use Rattle.yaml_blocks.specs.Blocks.{alone}
use Rattle.yaml_blocks.specs.Reading.{keyed_then, node_in, scalar_or_flow_in}
use Rattle.yaml_blocks.specs.Items.{mapping_in}
use Rattle.yaml_blocks.proofs.NodeTurns.{node_is}

-- what is read in quotes decides whether a map begins here
quoted_first : {A : Type 0} (r : Read (List ℕ × List ℕ)) (a : Read A) (f : List ℕ × List ℕ → Read A) → keyed_then (quoted_key r) a (r >>= f) ≡ r >>= (λ q. keyed_then (colon_then q.0 (skip_blanks q.1)) a (f q))
quoted_first (Ok q) a f = refl
quoted_first (Err s) a f = refl

scalar_or_flow_quoted : (d m : ℕ) (l : Line) (cs : List ℕ) (ls : List Line) → is_quote cs ≡ true → scalar_or_flow_in d m l cs ls ≡ quoted l cs >>= (λ q. alone l q.1 ls (scalar (spot l cs) (text q.0)))
unfolding scalar_or_flow_in
scalar_or_flow_quoted d m l cs ls e = rw (quote_not_left_out cs e, quote_no_percent cs e, e) refl

key_quoted : (l : Line) (cs : List ℕ) → is_quote cs ≡ true → key_at l cs ≡ quoted_key (quoted l cs)
unfolding key_at
key_quoted l cs e = rw (quote_not_left_out cs e, e) refl

-- the key that stands in quotes
pub key_in_quotes : (l : Line) (cs k after others : List ℕ) → is_quote cs ≡ true → quoted l cs ≡ Ok (k, after) → keyed k others ≡ colon_then k (skip_blanks after) → key_at l cs ≡ keyed k others
key_in_quotes l cs k after others e read key = key_quoted l cs e ∙ (ap quoted_key read ∙ sym key)

node_quoted : (d m : ℕ) (l : Line) (cs : List ℕ) (ls : List Line) → is_quote cs ≡ true
    → node_in d true m l cs ls ≡ quoted l cs >>= (λ q. keyed_then (colon_then q.0 (skip_blanks q.1)) (mapping_in d l cs ls) (alone l q.1 ls (scalar (spot l cs) (text q.0))))
node_quoted d m l cs ls e =
    node_is d true m l cs ls
    ∙ (rw (quote_no_dash cs e, key_quoted l cs e, scalar_or_flow_quoted d m l cs ls e) refl
    ∙ quoted_first (quoted l cs) (mapping_in d l cs ls) (λ q. alone l q.1 ls (scalar (spot l cs) (text q.0))))

pub quoted_stop : (d m : ℕ) (l : Line) (cs : List ℕ) (ls : List Line) (s : Stop) → is_quote cs ≡ true → quoted l cs ≡ Err s → node_in d true m l cs ls ≡ Err s
quoted_stop d m l cs ls s e stop = node_quoted d m l cs ls e ∙ rw stop refl

pub quoted_map : (d m : ℕ) (l : Line) (cs : List ℕ) (ls : List Line) (k after others : List ℕ) → is_quote cs ≡ true → quoted l cs ≡ Ok (k, after) → keyed k others ≡ colon_then k (skip_blanks after)
    → node_in d true m l cs ls ≡ mapping_in d l cs ls
quoted_map d m l cs ls k after others e read key = node_quoted d m l cs ls e ∙ rw (read, ← key) refl

pub quoted_text : (d m : ℕ) (l : Line) (cs : List ℕ) (ls : List Line) (k after : List ℕ) → is_quote cs ≡ true → quoted l cs ≡ Ok (k, after) → unkeyed ≡ colon_then k (skip_blanks after)
    → node_in d true m l cs ls ≡ alone l after ls (scalar (spot l cs) (text k))
quoted_text d m l cs ls k after e read key = node_quoted d m l cs ls e ∙ rw (read, ← key) refl
