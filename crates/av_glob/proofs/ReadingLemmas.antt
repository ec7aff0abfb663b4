-- Items that are read one by one.
use Rattle.std.proofs.Common.{◌≡◌, ◌++◌, List, [], ◌∷◌, Result, Ok, Err, ap, append_assoc, refl}
use Rattle.av_glob.specs.Reading.{with_item, with_items}
use Rattle.av_glob.specs.declared.item.Item.{Item}
use Rattle.av_glob.specs.declared.reading.GlobFault.{GlobFault}

-- an item that is put behind others is the first of those that follow
pub one_more : (items : List Item) (item : Item) (more : Result (List Item) GlobFault) → with_items (items ++ item ∷ []) more ≡ with_items items (with_item item more)
one_more items item (Ok more) = ap (λ all. Ok all) (append_assoc items (item ∷ []) more)
one_more items item (Err e) = refl
