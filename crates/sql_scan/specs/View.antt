-- Tokens and modes of the scanner as the definitions have them.
use Rattle.std.specs.Prelude.{Bool, true, false, List, [], ◌∷◌, map, Option, Some, None}
use Rattle.sig_base.specs.declared.refusal.Place.{Place}
use Rattle.query_tokens.specs.PlaceView.{place_view}
use Rattle.query_tokens.specs.Places.{At}
use Rattle.sql_lang.specs.declared.query.SqlOp.{SqlOp}
use Rattle.sql_lang.specs.View.{op_view}
use Rattle.sql_scan.specs.declared.token.Keyword.{Keyword}
use Rattle.sql_scan.specs.declared.token.Keyword.TheVariants as k
use Rattle.sql_scan.specs.declared.token.Sort.{Sort}
use Rattle.sql_scan.specs.declared.token.Sort.TheVariants as s
use Rattle.sql_scan.specs.declared.token.Token.{Token}
use Rattle.sql_scan.specs.declared.mode.Mode.{Mode}
use Rattle.sql_scan.specs.declared.mode.Mode.TheVariants as mo
use Rattle.sql_scan.specs.declared.mode.Turn.{Turn}
use Rattle.sql_lang.specs.Tokens as t

abbrev pub places_view : List Place → List At
places_view ps = map place_view ps

abbrev pub keyword_view : Keyword → t.Keyword
keyword_view k.Select = t.SELECT
keyword_view k.From = t.FROM
keyword_view k.Where = t.WHERE
keyword_view k.Or = t.OR
keyword_view k.And = t.AND
keyword_view k.Not = t.NOT
keyword_view k.Is = t.IS
keyword_view k.Null = t.NULL
keyword_view k.Like = t.LIKE
keyword_view k.Escape = t.ESCAPE
keyword_view k.Glob = t.GLOB
keyword_view k.Regexp = t.REGEXP
keyword_view k.In = t.IN
keyword_view k.Between = t.BETWEEN
keyword_view k.Collate = t.COLLATE
keyword_view k.NoCase = t.NOCASE
keyword_view k.Binary = t.BINARY

abbrev pub sort_view : Sort → t.Sort
sort_view (s.Word k) = t.Word (keyword_view k)
sort_view (s.Name v) = t.Name v
sort_view (s.Text v) = t.Text v
sort_view (s.Number v) = t.Number v.text
sort_view s.Opening = t.Opening
sort_view s.Closing = t.Closing
sort_view s.Comma = t.Comma
sort_view s.Star = t.Star
sort_view s.Semicolon = t.Semicolon
sort_view (s.Compare op) = t.Compares (op_view op)
sort_view s.Unclosed = t.Unclosed
sort_view s.Other = t.Other

abbrev pub keyword_option_view : Option Keyword → Option t.Keyword
keyword_option_view None = None
keyword_option_view (Some k) = Some (keyword_view k)

abbrev pub op_option_view : Option SqlOp → Option t.Op
op_option_view None = None
op_option_view (Some op) = Some (op_view op)

abbrev pub token_view : Token → t.Token
token_view x = t.token (sort_view x.sort) (place_view x.place)

abbrev pub ended_view : Option Token → List t.Token
ended_view None = []
ended_view (Some x) = token_view x ∷ []

abbrev pub tokens_view : List Token → List t.Token
tokens_view ts = map token_view ts

abbrev pub mode_view : Mode → t.Mode
mode_view mo.Outside = t.Outside
mode_view (mo.Whole s p) = t.Whole (sort_view s) (place_view p)
mode_view (mo.InRun w p) = t.InRun w.items (place_view p)
mode_view (mo.InQuotes q w p) = t.InQuotes q w.items (place_view p)
mode_view (mo.AfterQuotes q w p) = t.AfterQuotes q w.items (place_view p)
mode_view (mo.InSign c p) = t.InSign c (place_view p)

abbrev pub turn_view : Turn → t.Turn
turn_view x = record { ended = ended_view x.ended; mode = mode_view x.mode }

abbrev pub is_opening : t.Sort → Bool
is_opening t.Opening = true
is_opening s = false

abbrev pub is_closing : t.Sort → Bool
is_closing t.Closing = true
is_closing s = false

abbrev pub is_not : t.Sort → Bool
is_not (t.Word t.NOT) = true
is_not s = false
