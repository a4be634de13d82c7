-- What is known of the holdings once all pieces of a request have found their places.
use Rattle.std.proofs.Common.{◌≡◌, ℕ, false, List, [], ◌∷◌, ◌++◌, length, drop, map, Option, Some, None, Result, Ok, Err, refl, sym, ap, ap₂, ◌∙◌}
use Rattle.std.proofs.lemmas.Bool.{cond-true, cond-false}
use Rattle.std.proofs.lemmas.List.{append-nil, append_assoc, map-append}
use Rattle.std.proofs.lemmas.List.Elements.{filter-append}
use Rattle.swap_book.specs.declared.Owner.{Owner}
use Rattle.swap_book.specs.declared.Held.{Held}
use Rattle.swap_book.specs.Owners.{same_owner, pieces_of}
use Rattle.swap_book.specs.Holdings.{fit, of_owner, lengths}
use Rattle.swap_book.specs.Placing.{Wanted, wanted, more_pieces, placed_at, and_then, place_all}
use Rattle.swap_book.proofs.OwnerLaws.{same_owner_itself}

-- what a piece was wanted as
abbrev pub wanted_as : Held → Wanted
wanted_as h = record { owner = h.owner; length = h.length }

-- the pieces that were added after the holdings, in the order in which they were wanted
pub record Added (hs new : List Held) (ws : List Wanted) : Type 0 where
  pub pieces : List Held
  pub is : new ≡ hs ++ pieces
  pub wanted : map wanted_as pieces ≡ ws

no_error : (hs new : List Held) → ◌≡◌ {A = Result (List Held) ℕ} (Ok hs) (Ok new) → new ≡ hs
no_error hs new e = cc

-- requests one after another are one request
pub place_all-append : (size : ℕ) (hs : List Held) (vs ws : List Wanted)
    → place_all size hs (vs ++ ws) ≡ and_then (place_all size hs vs) (λ now. place_all size now ws)
unfolding place_all
place_all-append size hs [] ws = refl
place_all-append size hs (v ∷ vs) ws = go (placed_at hs v (fit size hs v.length)) (λ now. place_all-append size now vs ws)
  where
    go : (r : Result (List Held) ℕ) → ((now : List Held) → place_all size now (vs ++ ws) ≡ and_then (place_all size now vs) (λ then. place_all size then ws))
        → and_then r (λ now. place_all size now (vs ++ ws)) ≡ and_then (and_then r (λ now. place_all size now vs)) (λ now. place_all size now ws)
    go (Ok now) rest = rest now
    go (Err n) rest = refl

pub place_all_adds : (size : ℕ) (hs new : List Held) (ws : List Wanted) → place_all size hs ws ≡ Ok new → Added hs new ws
unfolding place_all
place_all_adds size hs new [] e = record { pieces = []; is = no_error hs new e ∙ sym (append-nil hs); wanted = refl }
place_all_adds size hs new (w ∷ ws) e = go (fit size hs w.length) e (λ now f. place_all_adds size now new ws f)
  where
    go : (o : Option ℕ) → and_then (placed_at hs w o) (λ now. place_all size now ws) ≡ Ok new
        → ((now : List Held) → place_all size now ws ≡ Ok new → Added now new ws) → Added hs new (w ∷ ws)
    go None e rest = cc
    go (Some start) e rest =
        let p : Held = record { owner = w.owner; start = start; length = w.length } in
        let a = rest (hs ++ p ∷ []) e in
        record {
          pieces = p ∷ a.pieces;
          is = a.is ∙ append_assoc hs (p ∷ []) a.pieces;
          wanted = ap (λ (vs : List Wanted). w ∷ vs) a.wanted;
        }

-- the lengths that an owner's pieces have in holdings that stand one behind the other
pub lengths-append : (owner : Owner) (hs gs : List Held) → lengths owner (hs ++ gs) ≡ lengths owner hs ++ lengths owner gs
lengths-append owner hs gs =
    ap (map (λ (h : Held). h.length)) (filter-append (λ (h : Held). same_owner h.owner owner) hs gs) ∙
    map-append (λ (h : Held). h.length) (of_owner owner hs) (of_owner owner gs)

-- the lengths that an owner's pieces have among those that were wanted
lengths_wanted : (owner : Owner) (gs : List Held) (ns : List ℕ) → map wanted_as gs ≡ wanted owner ns → lengths owner gs ≡ ns
lengths_wanted owner [] [] e = refl
lengths_wanted owner [] (n ∷ ns) e = cc
lengths_wanted owner (g ∷ gs) [] e = cc
lengths_wanted owner (g ∷ gs) (n ∷ ns) e =
    let head = firsts (wanted_as g) (record { owner = owner; length = n }) (map wanted_as gs) (wanted owner ns) e in
    let rest = lengths_wanted owner gs ns (rests (wanted_as g) (record { owner = owner; length = n }) (map wanted_as gs) (wanted owner ns) e) in
    let own = ap (λ (o : Owner). same_owner o owner) (ap (λ (w : Wanted). w.owner) head) ∙ same_owner_itself owner in
    ap (map (λ (h : Held). h.length)) (cond-true (same_owner g.owner owner) (g ∷ of_owner owner gs) (of_owner owner gs) own) ∙
    ap₂ (λ (m : ℕ) (ms : List ℕ). m ∷ ms) (ap (λ (w : Wanted). w.length) head) rest
  where
    firsts : (v w : Wanted) (vs ws : List Wanted) → v ∷ vs ≡ w ∷ ws → v ≡ w
    firsts v w vs ws e = cc

    rests : (v w : Wanted) (vs ws : List Wanted) → v ∷ vs ≡ w ∷ ws → vs ≡ ws
    rests v w vs ws e = cc

others_wanted : (owner other : Owner) (gs : List Held) (ns : List ℕ) → same_owner owner other ≡ false → map wanted_as gs ≡ wanted owner ns
    → of_owner other gs ≡ []
others_wanted owner other [] ns not_one e = refl
others_wanted owner other (g ∷ gs) [] not_one e = cc
others_wanted owner other (g ∷ gs) (n ∷ ns) not_one e =
    let head = firsts (wanted_as g) (record { owner = owner; length = n }) (map wanted_as gs) (wanted owner ns) e in
    let rest = others_wanted owner other gs ns not_one (rests (wanted_as g) (record { owner = owner; length = n }) (map wanted_as gs) (wanted owner ns) e) in
    let left = ap (λ (o : Owner). same_owner o other) (ap (λ (w : Wanted). w.owner) head) ∙ not_one in
    cond-false (same_owner g.owner other) (g ∷ of_owner other gs) (of_owner other gs) left ∙ rest
  where
    firsts : (v w : Wanted) (vs ws : List Wanted) → v ∷ vs ≡ w ∷ ws → v ≡ w
    firsts v w vs ws e = cc

    rests : (v w : Wanted) (vs ws : List Wanted) → v ∷ vs ≡ w ∷ ws → vs ≡ ws
    rests v w vs ws e = cc
