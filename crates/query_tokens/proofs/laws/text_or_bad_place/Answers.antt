use Rattle.query_tokens.proofs.Bytes.{text_or_bad, one_text, one_bad, not_both}
use Rattle.query_tokens.proofs.laws.text_or_bad_place.Goals as goal

pub returns : goal.returns
returns c = record { either = text_or_bad; one_text = one_text; one_place = one_bad; not_both = not_both }
