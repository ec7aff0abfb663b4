-- What a row of marks says of the items that are left.
use Rattle.std.proofs.Common.{ℕ, ◌≡◌, ◌∙◌, ◌+◌, ◌||◌, ◌&&◌, ◌++◌, Bool, true, false, List, [], ◌∷◌, length, refl, sym, ap, arith}
use Rattle.av_glob.specs.Glob.{fits, is_empty, many, matches, one, repeats, taking}
use Rattle.av_glob.specs.Row.{begun, last_so, moved, unmarked}
use Rattle.av_glob.specs.declared.item.Item.{Item}

-- from a marked place on the rest of the text is accepted
abbrev pub accepts : (List ℕ → Bool) → List Bool → List ℕ → Bool
accepts after [] text = false
accepts after (mark ∷ marks) [] = mark && after []
accepts after (mark ∷ marks) (b ∷ text) = (mark && after (b ∷ text)) || accepts after marks text

or_false : (x : Bool) → x || false ≡ x
or_false true = refl
or_false false = refl

and_true : (x : Bool) → x && true ≡ x
and_true true = refl
and_true false = refl

and_false : (x : Bool) → x && false ≡ false
and_false true = refl
and_false false = refl

either_and : (x y z : Bool) → (x || y) && z ≡ (x && z) || (y && z)
either_and true true true = refl
either_and true true false = refl
either_and true false true = refl
either_and true false false = refl
either_and false y z = refl

none_accepts : (after : List ℕ → Bool) (text : List ℕ) → accepts after (false ∷ unmarked text) text ≡ false
none_accepts after [] = refl
none_accepts after (b ∷ text) = none_accepts after text

length_unmarked : (text : List ℕ) → length (unmarked text) ≡ length text
length_unmarked [] = refl
length_unmarked (b ∷ text) = let e = length_unmarked text in omega (arith, e)

length_begun : (text : List ℕ) → length (begun text) ≡ length text + 1
length_begun text = let e = length_unmarked text in omega (arith, e)

-- from the first place on all is
begun_accepts : (after : List ℕ → Bool) (text : List ℕ) → accepts after (begun text) text ≡ after text
begun_accepts after [] = refl
begun_accepts after (b ∷ text) = ap (λ z. after (b ∷ text) || z) (none_accepts after text) ∙ or_false (after (b ∷ text))

-- a place from which any number of bytes is taken: all of them end there, or one more is taken
here_many : (before mark ends takes goes later : Bool)
    → ((before || mark) && ends) || ((((before || mark) && takes) && goes) || later)
    ≡ (before && (ends || (takes && goes))) || ((mark && (ends || (takes && goes))) || later)
here_many true true true takes goes later = refl
here_many true false true takes goes later = refl
here_many false true true takes goes later = refl
here_many false false true takes goes later = refl
here_many true true false true true later = refl
here_many true true false true false later = refl
here_many true true false false goes later = refl
here_many true false false true true later = refl
here_many true false false true false later = refl
here_many true false false false goes later = refl
here_many false true false true goes later = refl
here_many false true false false goes later = refl
here_many false false false takes goes later = refl

moves_many : (takes : ℕ → Bool) (after : List ℕ → Bool) (before : Bool) (marks : List Bool) (text : List ℕ) → length marks ≡ length text + 1
    → accepts after (moved true takes before marks text) text ≡ (before && many takes after text) || accepts (many takes after) marks text
moves_many takes after before [] text e = absurd (omega (arith, e))
moves_many takes after before (mark ∷ marks) [] e = either_and before mark (after [])
moves_many takes after before (mark ∷ marks) (b ∷ text) e =
    let x = before || mark in
    ap (λ z. (x && after (b ∷ text)) || z) (moves_many takes after (x && takes b) marks text (omega (arith, e)))
    ∙ here_many before mark (after (b ∷ text)) (takes b) (many takes after text) (accepts (many takes after) marks text)

here_one : (before mark takes goes later : Bool) → before || (((mark && takes) && goes) || later) ≡ before || ((mark && (takes && goes)) || later)
here_one before true takes goes later = refl
here_one before false takes goes later = refl

at_end : (before ends mark : Bool) → before && ends ≡ (before && ends) || (mark && false)
at_end before ends mark = sym (ap (λ z. (before && ends) || z) (and_false mark) ∙ or_false (before && ends))

moves_one : (takes : ℕ → Bool) (after : List ℕ → Bool) (before : Bool) (marks : List Bool) (text : List ℕ) → length marks ≡ length text + 1
    → accepts after (moved false takes before marks text) text ≡ (before && after text) || accepts (one takes after) marks text
moves_one takes after before [] text e = absurd (omega (arith, e))
moves_one takes after before (mark ∷ marks) [] e = at_end before (after []) mark
moves_one takes after before (mark ∷ marks) (b ∷ text) e =
    ap (λ z. (before && after (b ∷ text)) || z) (moves_one takes after (mark && takes b) marks text (omega (arith, e)))
    ∙ here_one (before && after (b ∷ text)) mark (takes b) (after text) (accepts (one takes after) marks text)

moves_taking : (repeated : Bool) (takes : ℕ → Bool) (after : List ℕ → Bool) (marks : List Bool) (text : List ℕ) → length marks ≡ length text + 1
    → accepts after (moved repeated takes false marks text) text ≡ accepts (taking repeated takes after) marks text
moves_taking true takes after marks text e = moves_many takes after false marks text e
moves_taking false takes after marks text e = moves_one takes after false marks text e

-- behind one item more the items that are left decide
moved_accepts : (i : Item) (items : List Item) (marks : List Bool) (text : List ℕ) → length marks ≡ length text + 1
    → accepts (matches items) (moved (repeats i) (fits i) false marks text) text ≡ accepts (matches (i ∷ items)) marks text
moved_accepts i items marks text e = moves_taking (repeats i) (fits i) (matches items) marks text e

length_moved : (repeated : Bool) (takes : ℕ → Bool) (before : Bool) (marks : List Bool) (text : List ℕ) → length marks ≡ length text + 1
    → length (moved repeated takes before marks text) ≡ length text + 1
length_moved repeated takes before [] text e = absurd (omega (arith, e))
length_moved repeated takes before (mark ∷ marks) [] e = refl
length_moved true takes before (mark ∷ marks) (b ∷ text) e =
    let n = length_moved true takes ((before || mark) && takes b) marks text (omega (arith, e)) in omega (arith, n)
length_moved false takes before (mark ∷ marks) (b ∷ text) e =
    let n = length_moved false takes (mark && takes b) marks text (omega (arith, e)) in omega (arith, n)

last_accepts : (before : Bool) (marks : List Bool) (text : List ℕ) → length marks ≡ length text + 1 → accepts is_empty marks text ≡ last_so before marks
last_accepts before [] text e = absurd (omega (arith, e))
last_accepts before (mark ∷ []) [] e = and_true mark
last_accepts before (mark ∷ next ∷ marks) [] e = absurd (omega (arith, e))
last_accepts before (mark ∷ marks) (b ∷ text) e =
    ap (λ z. z || accepts is_empty marks text) (and_false mark) ∙ last_accepts mark marks text (omega (arith, e))

-- behind one item more the items that are left decide
pub one_moved : (items rest below : List Item) (i : Item) (marks next : List Bool) (text : List ℕ) → rest ≡ i ∷ below → length marks ≡ length text + 1
    → accepts (matches rest) marks text ≡ matches items text → next ≡ moved (repeats i) (fits i) false marks text
    → (length next ≡ length text + 1) × (accepts (matches below) next text ≡ matches items text)
one_moved items rest below i marks next text is_rest e decides is_next = (
  ap (λ ms. length ms) is_next ∙ length_moved (repeats i) (fits i) false marks text e,
  ap (λ ms. accepts (matches below) ms text) is_next ∙ moved_accepts i below marks text e ∙ ap (λ is. accepts (matches is) marks text) (sym is_rest) ∙ decides,
)

-- without an item the last mark decides
pub all_moved : (items rest : List Item) (marks : List Bool) (text : List ℕ) (is_matched : Bool) → rest ≡ [] → length marks ≡ length text + 1
    → accepts (matches rest) marks text ≡ matches items text → is_matched ≡ last_so false marks → is_matched ≡ matches items text
all_moved items rest marks text is_matched is_rest e decides is_last =
    is_last ∙ sym (last_accepts false marks text e) ∙ ap (λ is. accepts (matches is) marks text) (sym is_rest) ∙ decides

pub none_moved : (items : List Item) (marks : List Bool) (text : List ℕ) → marks ≡ begun text
    → (length marks ≡ length text + 1) × (accepts (matches items) marks text ≡ matches items text)
none_moved items marks text is_begun =
    (ap (λ ms. length ms) is_begun ∙ length_begun text, ap (λ ms. accepts (matches items) ms text) is_begun ∙ begun_accepts (matches items) text)
