use Rattle.std.proofs.Common.{ℕ, ◌≡◌, ◌++◌, List, [], ◌∷◌, codes, decimal, map, refl, sym, ap, ◌∙◌, append_assoc, append-nil}
use Rattle.json.specs.Token.{Token, begin_object, end_object}
use Rattle.av_base.specs.Part.{spelt}
use Rattle.av_base.specs.declared.port.Port.{Port}
use Rattle.av_json.specs.Member.{joined, number_tokens, object_tokens}
use Rattle.av_output.proofs.ObjectLemmas.{five_put}
use Rattle.av_output.specs.declared.told.Field.{Field as HeldField}
use Rattle.av_output.specs.Objects.Lines.{is}
use Rattle.av_output.specs.Objects.Messages.{field_members, field_tokens, port_members, told_tokens}
use Rattle.av_output.specs.Text.Messages.{field_parts, field_text, told_text}
use Rattle.av_output.specs.Told.{Field, Id, Number, Bytes, Plain, Word, each, held_field, held_fields, of_kind}

-- texts of two lists stand one behind the other
spelt_both : (xs ys : List (List ℕ)) → spelt (xs ++ ys) ≡ spelt xs ++ spelt ys
spelt_both [] ys = refl
spelt_both (x ∷ xs) ys = ap (λ t. x ++ t) (spelt_both xs ys) ∙ sym (append_assoc x (spelt xs) (spelt ys))

-- fields of two lists stand one behind the other, and what follows them behind both, where the form says so of one field
pub each_both : {A : Type 0} (form : Field → List A → List A) → ((f : Field) (rest : List A) → form f rest ≡ form f [] ++ rest)
    → (fs gs : List Field) (rest : List A) → each form (fs ++ gs) rest ≡ each form fs [] ++ each form gs rest
each_both form one [] gs rest = refl
each_both form one (f ∷ fs) gs rest =
    ap (form f) (each_both form one fs gs rest) ∙ one f (each form fs [] ++ each form gs rest)
    ∙ sym (append_assoc (form f []) (each form fs []) (each form gs rest)) ∙ ap (λ t. t ++ each form gs rest) (sym (one f (each form fs [])))

parts_behind : (f : Field) (rest : List (List ℕ)) → field_parts f rest ≡ field_parts f [] ++ rest
parts_behind (Id id) rest = refl
parts_behind (Number name n) rest = refl
parts_behind (Bytes name bytes) rest = refl
parts_behind (Plain name n) rest = refl
parts_behind (Word name word) rest = refl

-- fields that the code holds, one behind the other, and what follows them
fields_told : (fs : List HeldField) (rest : List (List ℕ)) → spelt (each field_parts (held_fields fs) rest) ≡ spelt (map field_text fs) ++ spelt rest
fields_told [] rest = refl
fields_told (f ∷ fs) rest =
    ap spelt (each_both field_parts parts_behind (held_field f) (held_fields fs) rest)
    ∙ spelt_both (each field_parts (held_field f) []) (each field_parts (held_fields fs) rest)
    ∙ ap (λ t. field_text f ++ t) (fields_told fs rest) ∙ sym (append_assoc (field_text f) (spelt (map field_text fs)) (spelt rest))

-- a line in three pieces
pub line_told : (list kind end : List ℕ) (n : ℕ) (fs : List HeldField)
    → told_text list n (of_kind kind (held_fields fs)) end ≡ spelt (list ∷ decimal n ∷ codes " " ∷ kind ∷ []) ++ (spelt (map field_text fs) ++ end)
line_told list kind end n fs =
    spelt_both (list ∷ decimal n ∷ codes " " ∷ kind ∷ []) (each field_parts (held_fields fs) (end ∷ []))
    ∙ ap (λ t. spelt (list ∷ decimal n ∷ codes " " ∷ kind ∷ []) ++ t) (fields_told fs (end ∷ []) ∙ ap (λ t. spelt (map field_text fs) ++ t) (append-nil end))

-- members of two lists stand one behind the other
joined_both : (xs ys : List (List Token)) → joined (xs ++ ys) ≡ joined xs ++ joined ys
joined_both [] ys = refl
joined_both (x ∷ xs) ys = ap (λ ts. x ++ ts) (joined_both xs ys) ∙ sym (append_assoc x (joined xs) (joined ys))

members_behind : (f : Field) (rest : List (List Token)) → field_members f rest ≡ field_members f [] ++ rest
members_behind (Id id) rest = refl
members_behind (Number name n) rest = refl
members_behind (Bytes name bytes) rest = refl
members_behind (Plain name n) rest = refl
members_behind (Word name word) rest = refl

fields_put : (fs : List HeldField) (rest : List (List Token)) → joined (each field_members (held_fields fs) rest) ≡ joined (map field_tokens fs) ++ joined rest
fields_put [] rest = refl
fields_put (f ∷ fs) rest =
    ap joined (each_both field_members members_behind (held_field f) (held_fields fs) rest)
    ∙ joined_both (each field_members (held_field f) []) (each field_members (held_fields fs) rest)
    ∙ ap (λ t. field_tokens f ++ t) (fields_put fs rest) ∙ sym (append_assoc (field_tokens f) (joined (map field_tokens fs)) (joined rest))

-- an object that was put in five steps
pub object_put : (list kind : List ℕ) (n : ℕ) (fs : List HeldField) (port : Port) (old t1 t2 t3 t4 t5 : List Token)
    → t1 ≡ old ++ begin_object ∷ [] → t2 ≡ t1 ++ joined (is kind ∷ number_tokens list n ∷ []) → t3 ≡ t2 ++ joined (map field_tokens fs)
    → t4 ≡ t3 ++ joined (port_members port) → t5 ≡ t4 ++ end_object ∷ [] → t5 ≡ old ++ told_tokens list n (of_kind kind (held_fields fs)) port
unfolding object_tokens
object_put list kind n fs port old t1 t2 t3 t4 t5 e1 e2 e3 e4 e5 =
    let head : List (List Token) = is kind ∷ number_tokens list n ∷ [] in
    let first = joined head in
    let second = joined (map field_tokens fs) in
    let third = joined (port_members port) in
    five_put old (begin_object ∷ []) first second third (end_object ∷ []) t1 t2 t3 t4 t5 e1 (e2 ∙ ap (λ t. t1 ++ t) (sym (append-nil first))) e3 e4 e5
    ∙ ap (λ ts. old ++ begin_object ∷ ts)
    (sym
    (ap (λ ts. ts ++ end_object ∷ []) (joined_both head (each field_members (held_fields fs) (port_members port)) ∙ ap (λ ts. first ++ ts) (fields_put fs (port_members port)))
    ∙ append_assoc first (second ++ third) (end_object ∷ []) ∙ ap (λ ts. first ++ ts) (append_assoc second third (end_object ∷ []))))
