-- What a change of the store does to the present files, and that it keeps every earlier content.
use Rattle.std.proofs.Common.{◌<◌, ◌≡◌, ◌≢◌, ℕ, zero, suc, Bool, true, false, cond, List, [], ◌∷◌, ◌++◌, take, map, Option, Some, None, if◌then◌else◌, ◌==◌, refl, sym, ap, ◌∙◌, subst, arith, inl, inr, eq-eqb, eqb-true}
use Rattle.std.proofs.lemmas.List.{map-append}
use Rattle.std.proofs.lemmas.Bool.{cases_eq, ne_eqb}
use Rattle.av_store.specs.Files.{Change, File, Create, Write, Cut, Remove, numbered, changed, files_after, set_bytes, gone, written, file_of, if_here}
use Rattle.av_store.specs.History.{StreamHistory, IsOf, Remembers, histories_after, content_of, content_in, generation_in, generation_after, content, generation_of, now}

abbrev pub on_some : {A B : Type 0} → (A → B) → Option A → Option B
on_some f None = None
on_some f (Some x) = Some (f x)

pub numbered-map : {A B : Type 0} (f : A → B) (xs : List A) (n : ℕ) → numbered (map f xs) n ≡ on_some f (numbered xs n)
unfolding numbered
numbered-map f [] n = refl
numbered-map f (x ∷ xs) zero = refl
numbered-map f (x ∷ xs) (suc zero) = refl
numbered-map f (x ∷ xs) (suc (suc n)) = numbered-map f xs (suc n)

pub numbered-changed_same : {A : Type 0} (f : A → A) (n : ℕ) (xs : List A) → numbered (changed f n xs) n ≡ on_some f (numbered xs n)
unfolding numbered changed
numbered-changed_same f n [] = refl
numbered-changed_same f zero (x ∷ xs) = refl
numbered-changed_same f (suc zero) (x ∷ xs) = refl
numbered-changed_same f (suc (suc n)) (x ∷ xs) = numbered-changed_same f (suc n) xs

pub numbered-changed_other : {A : Type 0} (f : A → A) (n m : ℕ) (xs : List A) → n ≢ m → numbered (changed f n xs) m ≡ numbered xs m
unfolding numbered changed
numbered-changed_other f n m [] ne = refl
numbered-changed_other f zero m (x ∷ xs) ne = refl
numbered-changed_other f (suc zero) zero (x ∷ xs) ne = refl
numbered-changed_other f (suc zero) (suc zero) (x ∷ xs) ne = absurd (ne refl)
numbered-changed_other f (suc zero) (suc (suc m)) (x ∷ xs) ne = refl
numbered-changed_other f (suc (suc n)) zero (x ∷ xs) ne = refl
numbered-changed_other f (suc (suc n)) (suc zero) (x ∷ xs) ne = refl
numbered-changed_other f (suc (suc n)) (suc (suc m)) (x ∷ xs) ne = numbered-changed_other f (suc n) (suc m) xs (λ e. ne (ap suc e))

pub numbered-append : {A : Type 0} (xs ys : List A) (n : ℕ) (x : A) → numbered xs n ≡ Some x → numbered (xs ++ ys) n ≡ Some x
unfolding numbered
numbered-append [] ys n x h = absurd cc
numbered-append (y ∷ xs) ys zero x h = absurd cc
numbered-append (y ∷ xs) ys (suc zero) x h = h
numbered-append (y ∷ xs) ys (suc (suc n)) x h = numbered-append xs ys (suc n) x h

map-changed : {A B : Type 0} (g : A → B) (f : A → A) (f' : B → B) → ((x : A) → g (f x) ≡ f' (g x)) → (n : ℕ) (xs : List A) → map g (changed f n xs) ≡ changed f' n (map g xs)
unfolding changed
map-changed g f f' e n [] = refl
map-changed g f f' e zero (x ∷ xs) = refl
map-changed g f f' e (suc zero) (x ∷ xs) = let h = e x in cc
map-changed g f f' e (suc (suc n)) (x ∷ xs) = let h = map-changed g f f' e (suc n) xs in cc

-- the present files after a change are the present ones of the streams after it
pub now_after : (ss : List StreamHistory) (c : Change) → map now (histories_after ss c) ≡ files_after (map now ss) c
unfolding histories_after files_after generation_after
now_after ss (Create name) = map-append now ss _
now_after ss (Write s o b) = map-changed now _ (λ f. set_bytes (written o b f.bytes) f) (λ x. refl) s ss
now_after ss (Cut s n) = map-changed now _ (λ f. set_bytes (take n f.bytes) f) (λ x. refl) s ss
now_after ss (Remove s) = map-changed now _ gone (λ x. refl) s ss

content_within : (first : ℕ) (cs : List (List ℕ)) (g : ℕ) (c : List ℕ) → content_of first cs g ≡ Some c → g < generation_after first cs
unfolding content_of generation_after
content_within first [] g c h = absurd cc
content_within first (x ∷ xs) g c h =
    let go : (b : Bool) → (g == generation_after first xs) ≡ b → (if b then Some x else content_of first xs g) ≡ Some c → g < suc (generation_after first xs) = elim [
      | true ↦ λ e k. let same : g ≡ generation_after first xs = eqb-true _ _ e in omega arith
      | false ↦ λ e k. let le : g < generation_after first xs = content_within first xs g c k in omega arith
    ] in
    go (g == generation_after first xs) refl h

-- a content stays when a newer one is added
content_more : (first : ℕ) (x : List ℕ) (cs : List (List ℕ)) (g : ℕ) (c : List ℕ) → content_of first cs g ≡ Some c → content_of first (x ∷ cs) g ≡ Some c
unfolding content_of
content_more first x cs g c h =
    let lt : g < generation_after first cs = content_within first cs g c h in
    let miss : (g == generation_after first cs) ≡ false = ne_eqb g (generation_after first cs) (λ e. omega arith) in
    rw miss h

abbrev Grows : List StreamHistory → List StreamHistory → Type 0
Grows ss ts = (s g : ℕ) (c : List ℕ) → content ss s g ≡ Some c → content ts s g ≡ Some c

changed_grows : (f : StreamHistory → StreamHistory) (n : ℕ) (ss : List StreamHistory) → ((x : StreamHistory) (g : ℕ) (c : List ℕ) → content_of x.first (x.bytes ∷ x.earlier) g ≡ Some c → content_of (f x).first ((f x).bytes ∷ (f x).earlier) g ≡ Some c) → Grows ss (changed f n ss)
changed_grows f n ss grow s g c h =
    elim (cases_eq n s) [
      | inl e ↦
          let at : numbered (changed f n ss) s ≡ on_some f (numbered ss s) = subst (λ m. numbered (changed f n ss) m ≡ on_some f (numbered ss m)) e (numbered-changed_same f n ss) in
          rw at (go (numbered ss s) h)
      | inr ne ↦ rw (numbered-changed_other f n s ss ne) h
    ]
  where
    go : (o : Option StreamHistory) → content_in o g ≡ Some c → content_in (on_some f o) g ≡ Some c
    go None h = h
    go (Some x) h = grow x g c h

-- no change takes a content away
pub content_grows : (ss : List StreamHistory) (ch : Change) → Grows ss (histories_after ss ch)
unfolding histories_after content_of
content_grows ss (Create name) = λ s g c h. go (numbered ss s) s g c refl h
  where
    go : (o : Option StreamHistory) (s g : ℕ) (c : List ℕ) → numbered ss s ≡ o → content_in o g ≡ Some c → content (ss ++ record { name = name; here = true; first = 1; bytes = []; earlier = [] } ∷ []) s g ≡ Some c
    go None s g c e h = absurd cc
    go (Some x) s g c e h = rw (numbered-append ss (record { name = name; here = true; first = 1; bytes = []; earlier = [] } ∷ []) s x e) h
content_grows ss (Write s o b) = changed_grows _ s ss (λ x g c h. content_more x.first (written o b x.bytes) (x.bytes ∷ x.earlier) g c h)
content_grows ss (Cut s n) = changed_grows _ s ss (λ x g c h. content_more x.first (take n x.bytes) (x.bytes ∷ x.earlier) g c h)
content_grows ss (Remove s) = changed_grows _ s ss (λ x g c h. h)

-- the present content is the one of the present generation
pub present_content : (ss : List StreamHistory) (s : ℕ) (f : File) → file_of (map now ss) s ≡ Some f → (content ss s f.generation ≡ Some f.bytes) × (f.generation ≡ generation_of ss s)
unfolding content_of
present_content ss s f h = go (numbered ss s) (subst (λ o. if_here o ≡ Some f) (numbered-map now ss s) h)
  where
    go : (o : Option StreamHistory) → if_here (on_some now o) ≡ Some f → (content_in o f.generation ≡ Some f.bytes) × (f.generation ≡ generation_in o)
    go None k = absurd cc
    go (Some x) k =
        let at : (b : Bool) → cond b (Some (now x)) None ≡ Some f → now x ≡ f = elim [ true ↦ λ e. cc | false ↦ λ e. absurd cc ] in
        let same : now x ≡ f = at x.here k in
        subst (λ (y : File). (content_of x.first (x.bytes ∷ x.earlier) y.generation ≡ Some y.bytes) × (y.generation ≡ generation_after x.first x.earlier)) same
        (rw (eq-eqb (generation_after x.first x.earlier) (generation_after x.first x.earlier) refl) (refl, refl))

-- the other streams' files stay
pub file_away : (fs : List File) (c : Change) (s u : ℕ) → IsOf c s → u ≢ s → file_of (files_after fs c) u ≡ file_of fs u
unfolding files_after
file_away fs (Create name) s u of ne = absurd of
file_away fs (Write t o b) s u of ne = ap if_here (numbered-changed_other _ t u fs (λ e. ne (sym e ∙ of)))
file_away fs (Cut t n) s u of ne = ap if_here (numbered-changed_other _ t u fs (λ e. ne (sym e ∙ of)))
file_away fs (Remove t) s u of ne = ap if_here (numbered-changed_other _ t u fs (λ e. ne (sym e ∙ of)))

-- what a volume has held stays known
pub remembers : Remembers
remembers = record {
  present = now_after;
  stays = λ hs c s g bytes known. content_grows hs c s g bytes known;
  current = present_content;
  others = file_away;
}
