-- The place of the first definition of a label.
use Rattle.std.proofs.Common.{◌≡◌, ℕ, suc, ◌+◌, Bool, true, false, List, [], ◌∷◌, ◌++◌, length, Option, Some, None, refl, sym, ◌∙◌, ap, subst, arith, nat_eq}
use Rattle.std.specs.Prelude.{if◌then◌else◌, cond}
use Rattle.std.specs.List.{slice_get}
use Rattle.std.specs.Option.{option_or, is_some}
use Rattle.std.specs.Cmp.Lexicographic.{pointwise, same_text}
use Rattle.std.specs.HashMap.{HashMap, get, Updates}
use Rattle.std.specs.declared.hash.FoldHasher.{FoldHasher}
use Rattle.std.specs.declared.hash.BuildHasherDefault.{BuildHasherDefault}
use Rattle.asm_grammar.specs.Text.{◌>>=◌}
use Rattle.asm_grammar.specs.Encoding.{found}
use Rattle.vax_asm.specs.Places.{one_later, place_in, ArePlaces}
use Rattle.asm_grammar.specs.declared.syntax.Label.{Label}
use Rattle.asm_grammar.specs.declared.syntax.Definition.{Definition}

-- where nothing is defined
pub found_none : (label : Label) → found [] label ≡ None
unfolding found
found_none label = refl

later_is : (definition : Definition) (definitions : List Definition) (place : ℕ)
    → slice_get (definition ∷ definitions) (place + 1) ≡ slice_get definitions place
later_is definition definitions place = ap (slice_get (definition ∷ definitions)) (one_more place)
  where
    one_more : (n : ℕ) → n + 1 ≡ suc n
    one_more n = omega arith

found_later : (definition : Definition) (definitions : List Definition) (first : Option Definition) (place : Option ℕ) (t : Bool)
    → first ≡ (place >>= slice_get definitions)
    → (if t then Some definition else first) ≡ ((if t then Some 0 else one_later place) >>= slice_get (definition ∷ definitions))
found_later definition definitions first place true e = refl
found_later definition definitions first None false e = e
found_later definition definitions first (Some place) false e = e ∙ sym (later_is definition definitions place)

-- the first definition of a label stands at its place
found_at : (definitions : List Definition) (label : Label) → found definitions label ≡ (place_in definitions label.bytes >>= slice_get definitions)
unfolding found
found_at [] label = refl
found_at (definition ∷ definitions) label =
    found_later definition definitions (found definitions label) (place_in definitions label.bytes) (pointwise nat_eq definition.label.bytes label.bytes) (found_at definitions label)

later_or : (place : Option ℕ) (n : ℕ) (t : Bool)
    → one_later (option_or place (if t then Some n else None)) ≡ option_or (one_later place) (if t then Some (suc n) else None)
later_or (Some place) n t = refl
later_or None n true = ap (λ (k : ℕ). Some k) (one_more n)
  where
    one_more : (n : ℕ) → n + 1 ≡ suc n
    one_more n = omega arith
later_or None n false = refl

place_later : (more before : Option ℕ) (n : ℕ) (t u : Bool) → more ≡ option_or before (if u then Some n else None)
    → (if t then Some 0 else one_later more) ≡ option_or (if t then Some 0 else one_later before) (if u then Some (suc n) else None)
place_later more before n true u e = refl
place_later more before n false u e = ap one_later e ∙ later_or before n u

place_first : (t : Bool) → (if t then Some 0 else one_later None) ≡ (if t then Some 0 else None)
place_first true = refl
place_first false = refl

-- with one more definition
place_append : (definitions : List Definition) (definition : Definition) (bytes : List ℕ)
    → place_in (definitions ++ definition ∷ []) bytes
    ≡ option_or (place_in definitions bytes) (if pointwise nat_eq definition.label.bytes bytes then Some (length definitions) else None)
place_append [] definition bytes = place_first (pointwise nat_eq definition.label.bytes bytes)
place_append (d ∷ definitions) definition bytes =
    place_later (place_in (definitions ++ definition ∷ []) bytes) (place_in definitions bytes) (length definitions) (pointwise nat_eq d.label.bytes bytes)
    (pointwise nat_eq definition.label.bytes bytes) (place_append definitions definition bytes)

or_none : (place : Option ℕ) → option_or place None ≡ place
or_none None = refl
or_none (Some place) = refl

-- a label that has no place yet is put at the next one
pub places_put : (definitions : List Definition) (definition : Definition) (places places' : HashMap (List ℕ) ℕ (BuildHasherDefault FoldHasher)) (place : ℕ)
    → ArePlaces definitions places
    → get (pointwise nat_eq) places definition.label.bytes ≡ None → place ≡ length definitions
    → Updates (pointwise nat_eq) places places' definition.label.bytes (Some place) → ArePlaces (definitions ++ definition ∷ []) places'
places_put definitions definition places places' place are none last updates = λ bytes. updates.0 bytes ∙ ap
    (λ (n : ℕ). cond (pointwise nat_eq definition.label.bytes bytes) (Some n) (get (pointwise nat_eq) places bytes)) last ∙ by_test bytes (pointwise nat_eq definition.label.bytes bytes) refl ∙ sym
    (place_append definitions definition bytes)
  where
    by_test : (bytes : List ℕ) (t : Bool) → t ≡ pointwise nat_eq definition.label.bytes bytes → cond t (Some (length definitions)) (get (pointwise nat_eq) places bytes) ≡ option_or
        (place_in definitions bytes) (if t then Some (length definitions) else None)
    by_test bytes true e =
        let absent : place_in definitions bytes ≡ None = subst (λ (l : List ℕ). place_in definitions l ≡ None) (same_text definition.label.bytes bytes e) (sym (are definition.label.bytes) ∙ none) in
        ap (λ (o : Option ℕ). option_or o (Some (length definitions))) (sym absent)
    by_test bytes false e = are bytes ∙ sym (or_none (place_in definitions bytes))

-- a label that has a place keeps it
pub places_kept : (definitions : List Definition) (definition : Definition) (places : HashMap (List ℕ) ℕ (BuildHasherDefault FoldHasher))
    → ArePlaces definitions places
    → is_some (get (pointwise nat_eq) places definition.label.bytes) ≡ true → ArePlaces (definitions ++ definition ∷ []) places
places_kept definitions definition places are some = λ bytes. are bytes ∙ by_test bytes (pointwise nat_eq definition.label.bytes bytes) refl ∙ sym (place_append definitions definition bytes)
  where
    or_some : (place : Option ℕ) (n : ℕ) → is_some place ≡ true → place ≡ option_or place (Some n)
    or_some None n e = absurd (cc)
    or_some (Some place) n e = refl

    by_test : (bytes : List ℕ) (t : Bool) → t ≡ pointwise nat_eq definition.label.bytes bytes
        → place_in definitions bytes ≡ option_or (place_in definitions bytes) (if t then Some (length definitions) else None)
    by_test bytes true e =
        let there : is_some (place_in definitions bytes) ≡ true =
        subst (λ (l : List ℕ). is_some (place_in definitions l) ≡ true) (same_text definition.label.bytes bytes e) (ap is_some (sym (are definition.label.bytes)) ∙ some) in
        or_some (place_in definitions bytes) (length definitions) there
    by_test bytes false e = sym (or_none (place_in definitions bytes))

pub none_found : (definitions : List Definition) (label : Label) → place_in definitions label.bytes ≡ None → found definitions label ≡ None
none_found definitions label none = found_at definitions label ∙ ap (λ (o : Option ℕ). o >>= slice_get definitions) none

pub some_found : (definitions : List Definition) (label : Label) (place : ℕ) → place_in definitions label.bytes ≡ Some place
    → found definitions label ≡ slice_get definitions place
some_found definitions label place there = found_at definitions label ∙ ap (λ (o : Option ℕ). o >>= slice_get definitions) there

pub same_places : (definitions definitions' : List Definition) (places places' : HashMap (List ℕ) ℕ (BuildHasherDefault FoldHasher))
    → definitions ≡ definitions' → places ≡ places'
    → ArePlaces definitions places → ArePlaces definitions' places'
same_places definitions definitions' places places' e f h =
    subst (λ (m : HashMap (List ℕ) ℕ (BuildHasherDefault FoldHasher)). ArePlaces definitions' m) f (subst (λ (l : List Definition). ArePlaces l places) e h)

pub is_none : {A : Type 0} (o : Option A) → false ≡ is_some o → o ≡ None
is_none None e = refl
is_none (Some x) e = absurd (cc)
