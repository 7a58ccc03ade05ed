-- Tokens and modes of the scanner as the definitions have them.
use Rattle.std.specs.Prelude.{Bool, true, false, List, map, Option, Some, None}
use Rattle.query_tokens.specs.PlaceView.{place_view}
use Rattle.lucene_lang.specs.Tokens as tokens
use Rattle.lucene_scan.specs.declared.token.Sort.{Sort}
use Rattle.lucene_scan.specs.declared.token.Sort.TheVariants as sorts
use Rattle.lucene_scan.specs.declared.token.Token.{Token}
use Rattle.lucene_scan.specs.declared.mode.Mode.{Mode}
use Rattle.lucene_scan.specs.declared.mode.Mode.TheVariants as modes

abbrev pub sort_view : Sort → tokens.Sort
sort_view (sorts.Joins w) = tokens.Joins w
sort_view sorts.Not = tokens.Not
sort_view sorts.Star = tokens.Star
sort_view (sorts.Wild w) = tokens.Wild w
sort_view sorts.To = tokens.To
sort_view (sorts.Decimal w) = tokens.Decimal w
sort_view (sorts.Plain w) = tokens.Plain w
sort_view (sorts.Phrase w) = tokens.Phrase w
sort_view sorts.Opening = tokens.Opening
sort_view sorts.Closing = tokens.Closing
sort_view (sorts.Opens b) = tokens.Opens b
sort_view (sorts.Closes b) = tokens.Closes b
sort_view sorts.Colon = tokens.Colon
sort_view sorts.Unclosed = tokens.Unclosed

abbrev pub sign_view : Option Sort → Option tokens.Sort
sign_view None = None
sign_view (Some s) = Some (sort_view s)

abbrev pub token_view : Token → tokens.Token
token_view t = tokens.token (sort_view t.sort) (place_view t.place)

abbrev pub tokens_view : List Token → List tokens.Token
tokens_view ts = map token_view ts

abbrev pub mode_view : Mode → tokens.Mode
mode_view modes.Outside = tokens.Outside
mode_view (modes.InRun w p) = tokens.InRun w (place_view p)
mode_view (modes.BehindBackslash w p b) = tokens.BehindBackslash w (place_view p) (place_view b)
mode_view (modes.InPhrase w p) = tokens.InPhrase w (place_view p)
mode_view (modes.EscapedInPhrase w p) = tokens.EscapedInPhrase w (place_view p)

abbrev pub is_opening : tokens.Sort → Bool
is_opening tokens.Opening = true
is_opening s = false

abbrev pub is_closing : tokens.Sort → Bool
is_closing tokens.Closing = true
is_closing s = false
