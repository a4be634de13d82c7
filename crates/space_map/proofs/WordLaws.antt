-- The word of an entry names its place.
use Rattle.std.proofs.Common.{ℕ, zero, suc, get_or, ◌≡◌, ◌^◌, ◌<◌, ◌≤◌, Bool, true, false, refl, sym, ap, ◌∙◌, subst, arith, List, ◌∷◌, ◌++◌, length, map, take, replicate, Some, None, slice_get, if◌then◌else◌}
use Rattle.std.specs.Prelude.{option_map}
use Rattle.std.proofs.lemmas.List.{take_all, map-append}
use Rattle.std.proofs.lemmas.List.Elements.{All-get_or, All-same, All-append, All-take, All-replicate}
use Rattle.std.proofs.lemmas.Option.{slice_get-map, slice_get_within, get_or_from_slice_get, slice_get_read}
use Rattle.std.specs.List.{All}
use Rattle.vax_pte.specs.Words.{IsInRange, word_of, PacksTo, place_named}
use Rattle.vax_pte.specs.declared.Place.{Place}
use Rattle.vax_pte.specs.declared.Place.TheVariants.{Zero, Image, Swap, Frame}
use Rattle.space_map.specs.Tables.{IsWord}

pub named : (user_write : Bool) (place : Place) → IsInRange place → place_named (word_of (record { user_write = user_write; place = place })) ≡ place
unfolding place_named
named true Zero h = refl
named false Zero h = refl
named true (Image v) h = grind arith
named false (Image v) h = grind arith
named true Swap h = refl
named false Swap h = refl
named true (Frame f true true) h = grind arith
named true (Frame f true false) h = grind arith
named true (Frame f false true) h = grind arith
named true (Frame f false false) h = grind arith
named false (Frame f true true) h = grind arith
named false (Frame f true false) h = grind arith
named false (Frame f false true) h = grind arith
named false (Frame f false false) h = grind arith

pub is_word : (user_write : Bool) (place : Place) → IsInRange place → IsWord user_write (word_of (record { user_write = user_write; place = place }))
unfolding IsWord
is_word user_write place h =
    subst (λ p. PacksTo (record { user_write = user_write; place = p }) (word_of (record { user_write = user_write; place = place })))
    (sym (named user_write place h)) (h, refl)

-- what a table has at a page

pub read_at : (words lent : List ℕ) (v word : ℕ) → lent ≡ words → v < length lent → word ≡ get_or lent v word → slice_get words v ≡ Some word
read_at words lent v word same below read =
    subst (λ (ws : List ℕ). slice_get ws v ≡ Some word) same (slice_get_read lent (length lent) v word refl below read)

pub word_at : (user_write : Bool) (words : List ℕ) (v word : ℕ) → All (IsWord user_write) words → slice_get words v ≡ Some word → IsWord user_write word
word_at user_write words v word all got =
    subst (IsWord user_write) (get_or_from_slice_get words v word 0 got)
    (All-get_or (IsWord user_write) words v 0 (slice_get_within words v word got) all)

pub place_at : (words : List ℕ) (v word : ℕ) → slice_get words v ≡ Some word → slice_get (map place_named words) v ≡ Some (place_named word)
place_at words v word got = slice_get-map place_named words v ∙ ap (option_map place_named) got

pub no_place_at : (words : List ℕ) (v : ℕ) → slice_get words v ≡ None → slice_get (map place_named words) v ≡ None
no_place_at words v got = slice_get-map place_named words v ∙ ap (option_map place_named) got

-- a table that grows

pub map-replicate : (n : ℕ) (word : ℕ) (place : Place) → place_named word ≡ place → map place_named (replicate n word) ≡ replicate n place
map-replicate zero word place e = refl
map-replicate (suc n) word place e = ap (λ p. p ∷ map place_named (replicate n word)) e ∙ ap (λ ps. place ∷ ps) (map-replicate n word place e)

pub grown_words : (user_write : Bool) (words new : List ℕ) (ok : Bool) (pages more word : ℕ)
    → new ≡ (if ok then take pages words ++ replicate more word else words)
    → IsWord user_write word → All (IsWord user_write) words → All (IsWord user_write) new
grown_words user_write words new true pages more word e is all =
    All-same (IsWord user_write) new (take pages words ++ replicate more word) e
    (All-append (IsWord user_write) (take pages words) (replicate more word)
    (All-take (IsWord user_write) pages words all) (All-replicate (IsWord user_write) more word is))
grown_words user_write words new false pages more word e is all = All-same (IsWord user_write) new words e all

pub grown_places : (words : List ℕ) (pages more word : ℕ) (place : Place) → length words ≤ pages → place_named word ≡ place
    → map place_named (take pages words ++ replicate more word) ≡ map place_named words ++ replicate more place
grown_places words pages more word place le e =
    map-append place_named (take pages words) (replicate more word) ∙
    ap (λ ws. map place_named ws ++ map place_named (replicate more word)) (take_all pages words le) ∙
    ap (λ ps. map place_named words ++ ps) (map-replicate more word place e)

-- a new table

pub filled_in_range : (from_image : Bool) (v : ℕ) → v < 2 ^ 24 → IsInRange (if from_image then Image v else Zero)
filled_in_range true v h = h
filled_in_range false v h = tt
