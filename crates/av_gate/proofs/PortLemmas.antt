-- The messages of a port among those of events.
use Rattle.std.proofs.Common.{◌≡◌, ◌≢◌, ℕ, ◌+◌, ◌<◌, List, [], ◌∷◌, ◌++◌, length, drop, get_or, arith, refl, sym, ap, ◌∙◌}
use Rattle.std.specs.List.{count_by}
use Rattle.std.proofs.lemmas.List.{drop_more}
use Rattle.std.proofs.lemmas.List.Elements.{filter-append}
use Rattle.std.proofs.lemmas.List.Sums.{length-filter}
use Rattle.av_base.specs.declared.port.Port.{Port}
use Rattle.av_filter.specs.Audit.{FilterEntry}
use Rattle.av_frame.specs.Message.{Letter}
use Rattle.av_gate.specs.Book.{messages_of}
use Rattle.av_gate.specs.PortCounts.{is_at, letters_at}

-- where none is counted there is none
nothing : {A : Type 0} (xs : List A) → length xs ≡ 0 → xs ≡ []
nothing [] none = refl
nothing (x ∷ xs) none = absurd (omega (arith, none))

none_at : (port : Port) (ms : List Letter) → count_by (is_at port) ms ≡ 0 → letters_at port ms ≡ []
none_at port ms none = nothing (letters_at port ms) (length-filter (is_at port) ms ∙ none)

-- where some are counted there are some
some_at : (port : Port) (ms : List Letter) → 0 < count_by (is_at port) ms → letters_at port ms ≢ []
some_at port ms some = λ none. absurd (omega (arith, some, length-filter (is_at port) ms, ap length none))

-- those of events are those of the next one, and of the others
pub letters_from : (port : Port) (es : List FilterEntry) (i : ℕ) (x : FilterEntry) → i < length es → x ≡ get_or es i x
    → letters_at port (messages_of (drop i es)) ≡ letters_at port x.messages ++ letters_at port (messages_of (drop (i + 1) es))
letters_from port es i x within is =
    let here : drop i es ≡ x ∷ drop (i + 1) es = drop_more es i x within ∙ ap (λ e. e ∷ drop (i + 1) es) (sym is) in
    ap (λ l. letters_at port (messages_of l)) here ∙ filter-append (is_at port) x.messages (messages_of (drop (i + 1) es))

-- where the next event sent some, all sent some
pub some_from : (port : Port) (es : List FilterEntry) (i : ℕ) (x : FilterEntry) → i < length es → x ≡ get_or es i x → 0 < count_by (is_at port) x.messages
    → letters_at port (messages_of (drop i es)) ≢ []
some_from port es i x within is some = λ none.
    let front = some_at port x.messages some in
    front (front_none (letters_at port x.messages) _ (sym (letters_from port es i x within is) ∙ none))
  where
    front_none : {A : Type 0} (xs ys : List A) → xs ++ ys ≡ [] → xs ≡ []
    front_none [] ys both = refl
    front_none (x ∷ xs) ys both = absurd (cc (both))

-- where it sent none, they are those of the others
pub none_from : (port : Port) (es : List FilterEntry) (i : ℕ) (x : FilterEntry) → i < length es → x ≡ get_or es i x → count_by (is_at port) x.messages ≡ 0
    → letters_at port (messages_of (drop (i + 1) es)) ≡ letters_at port (messages_of (drop i es))
none_from port es i x within is none =
    sym (letters_from port es i x within is ∙ ap (λ l. l ++ letters_at port (messages_of (drop (i + 1) es))) (none_at port x.messages none))
