-- The line of some items, in words or as an object of JSON.
use Rattle.std.specs.Prelude.{ℕ, List, [], ◌∷◌, ◌++◌, codes}
use Rattle.json.specs.Token.{Token}
use Rattle.av_json.specs.Line.{object_line}
use Rattle.av_json.specs.Member.{named_tokens, number_tokens, object_tokens, text_tokens}
use Rattle.av_log.specs.Words.{Item, Word, Number, Bytes, words_line}
use Rattle.av_log.specs.declared.line.Form.{Form}
use Rattle.av_log.specs.declared.line.Form.TheVariants as form

-- an item as a member of an object; bytes that are no UTF-8 are its digits under the other name
abbrev pub item_tokens : Item → List Token
item_tokens (Word name text) = text_tokens name text
item_tokens (Number name n) = number_tokens name n
item_tokens (Bytes name digits text) = named_tokens name digits text

abbrev pub items_tokens : List Item → List Token
items_tokens [] = []
items_tokens (i ∷ items) = item_tokens i ++ items_tokens items

-- the members of a line: the time, and the items
abbrev pub line_tokens : List ℕ → List Item → List Token
line_tokens stamp items = items_tokens (Bytes (codes "time") (codes "time_hex") stamp ∷ items)

abbrev pub object_of : List ℕ → List Item → List ℕ
object_of stamp items = object_line (object_tokens (line_tokens stamp items ∷ []))

abbrev pub line_of : Form → List ℕ → List Item → List ℕ
line_of form.Words stamp items = words_line stamp items
line_of form.Json stamp items = object_of stamp items
