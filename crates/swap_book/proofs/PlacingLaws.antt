-- Finding the places of pieces, and giving them back: the map and the holdings go on agreeing.
use Rattle.std.proofs.Common.{◌≡◌, ℕ, zero, suc, ◌+◌, ◌%◌, ◌<◌, ◌≤◌, Bool, true, false, not, ◌||◌, List, [], ◌∷◌, ◌++◌, length, get_or, take, drop, map, Option, Some, None, Result, Ok, Err, refl, sym, ap, ◌∙◌, subst, arith, inl, inr, ◌⊎◌}
use Rattle.std.specs.Prelude.{remove, slice_get, IfNone}
use Rattle.std.proofs.lemmas.Bool.{cases_lt, cond-true}
use Rattle.std.proofs.lemmas.List.{length_push, length-map, length-take, take-append-le, take_more, drop_more, drop_all}
use Rattle.std.proofs.lemmas.Option.{slice_get_within, get_or_from_slice_get}
use Rattle.swap_dmap.specs.Chunks.{pieces, text_pieces}
use Rattle.swap_dmap.proofs.PieceLaws.{pieces_front}
use Rattle.std.proofs.lemmas.List.Edits.{length-remove}
use Rattle.resource_map.specs.Blocks.{Blocks, is_free_block, marked, taken, freed}
use Rattle.resource_map.specs.Room.{lowest_room}
use Rattle.resource_map.proofs.RoomLaws.{IsLowestRoom, lowest_room_gives, lowest_room_same}
use Rattle.resource_map.proofs.BlockLaws.{length-marked, is_free-marked_in, is_free-marked_out}
use Rattle.swap_book.specs.declared.Owner.{Owner}
use Rattle.swap_book.specs.declared.Owner.TheVariants.{Data, Stack, U, Text}
use Rattle.swap_book.specs.declared.Held.{Held}
use Rattle.swap_book.specs.Owners.{same_owner, u_pieces, pieces_of}
use Rattle.swap_book.specs.Holdings.{is_in, is_held, fit, of_owner, lengths, LastOf, IsItsOwnersLast}
use Rattle.swap_book.specs.Placing.{Wanted, wanted, placed_at, and_then, place_all}
use Rattle.swap_book.specs.Book.{IsBook, CanGrow}
use Rattle.swap_book.specs.Fields.{Agrees}
use Rattle.swap_book.proofs.HoldingLaws.{in_from, in_outside, held_from, is_held-push, is_held-remove_in, is_held-remove_out, filter_none}
use Rattle.swap_book.proofs.OwnerLaws.{same_owner_itself, front_of, WholePages}
use Rattle.swap_book.proofs.BookLaws.{placed_is_book, removed_is_book, lengths-push}

-- ---- the map beside the holdings

-- the lowest place among the free blocks is that among the blocks that nobody holds
pub fit_is : (map : Blocks) (hs : List Held) (n : ℕ) → Agrees map hs → 0 < n
    → fit (length map.free) hs n ≡ lowest_room (is_free_block map.free) (length map.free) n
unfolding fit
fit_is map hs n a some = lowest_room_same (λ b. not (is_held hs b)) (is_free_block map.free) (length map.free) n (λ b lt. sym (a.blocks b lt)) some

pub room_within : (map : Blocks) (n s : ℕ) → lowest_room (is_free_block map.free) (length map.free) n ≡ Some s → s + n ≤ length map.free
room_within map n s found =
    let r = (subst (IsLowestRoom (is_free_block map.free) (length map.free) n) found (lowest_room_gives (is_free_block map.free) (length map.free) n)).0 in
    r.within

pub agrees_added : (map : Blocks) (hs : List Held) (owner : Owner) (n s : ℕ) → Agrees map hs → 0 < n → n % 2 ≡ 0
    → lowest_room (is_free_block map.free) (length map.free) n ≡ Some s
    → (blocks : ℕ) × (lengths owner hs ++ n ∷ [] ≡ pieces_of owner blocks)
    → Agrees (taken map n (Some s)) (hs ++ record { owner = owner; start = s; length = n } ∷ [])
agrees_added map hs owner n s a some even found next =
    let within = room_within map n s found in
    let size = length-marked map.free s n false within in
    record {
      book = subst (λ (m : ℕ). IsBook m (hs ++ record { owner = owner; start = s; length = n } ∷ [])) (sym size)
          (placed_is_book (length map.free) hs owner n s a.book some even (fit_is map hs n a some ∙ found) next);
      blocks = λ b lt. at b (omega arith) within;
      spare = let l = length_push hs (record { owner = owner; start = s; length = n }) in let p = a.spare in omega arith;
      small = let m = a.small in omega arith;
    }
  where
    p : Held
    p = record { owner = owner; start = s; length = n }

    or_none : (x y : Bool) → y ≡ false → (x || y) ≡ x
    or_none true y e = refl
    or_none false y e = e

    or_some : (x y : Bool) → y ≡ true → (x || y) ≡ true
    or_some true y e = refl
    or_some false y e = e

    out : (b : ℕ) → b < length map.free → s + n ≤ length map.free → (b < s) ⊎ (s + n ≤ b) → is_free_block (marked map.free s n false) b ≡ not (is_held (hs ++ p ∷ []) b)
    out b lt within side =
        is_free-marked_out map.free s n false b within side ∙ a.blocks b lt ∙
        ap not (sym (is_held-push hs p b ∙ or_none (is_held hs b) (is_in p b) (in_outside p b side)))

    at : (b : ℕ) → b < length map.free → s + n ≤ length map.free → is_free_block (marked map.free s n false) b ≡ not (is_held (hs ++ p ∷ []) b)
    at b lt within = elim (cases_lt b s) [
      | inl below ↦ out b lt within (inl below)
      | inr from ↦ elim (cases_lt b (s + n)) [
        | inl inside ↦
            is_free-marked_in map.free s n false b within from inside ∙
            ap not (sym (is_held-push hs p b ∙ or_some (is_held hs b) (is_in p b) (in_from p b from inside)))
        | inr above ↦ out b lt within (inr above)
      ]
    ]

pub piece_not_free : (map : Blocks) (hs : List Held) (at b : ℕ) (d : Held) → Agrees map hs → at < length hs
    → (get_or hs at d).start ≤ b → b < (get_or hs at d).start + (get_or hs at d).length → is_free_block map.free b ≡ false
piece_not_free map hs at b d a lt low high =
    let w = (a.book.pieces at d lt).within in
    a.blocks b (omega arith) ∙ ap not (held_from hs at b d lt (in_from (get_or hs at d) b low high))

pub agrees_removed : (map : Blocks) (hs : List Held) (at : ℕ) (d : Held) → Agrees map hs → at < length hs → IsItsOwnersLast hs at
    → Agrees (freed map (get_or hs at d).start (get_or hs at d).length) (remove hs at)
agrees_removed map hs at d a lt last =
    let h = get_or hs at d in
    let within = (a.book.pieces at d lt).within in
    let size = length-marked map.free h.start h.length true within in
    record {
      book = subst (λ (m : ℕ). IsBook m (remove hs at)) (sym size) (removed_is_book (length map.free) hs at d a.book lt (λ k e above k_lt. last k e d above k_lt));
      blocks = λ b b_lt. here (get_or hs at d) refl b (omega arith) within;
      spare = let l = length-remove hs at lt in let p = a.spare in omega arith;
      small = let m = a.small in omega arith;
    }
  where
    out : (h : Held) → h ≡ get_or hs at d → (b : ℕ) → b < length map.free → h.start + h.length ≤ length map.free → (b < h.start) ⊎ (h.start + h.length ≤ b)
        → is_free_block (marked map.free h.start h.length true) b ≡ not (is_held (remove hs at) b)
    out h is b b_lt within side =
        is_free-marked_out map.free h.start h.length true b within side ∙ a.blocks b b_lt ∙
        ap not (sym (is_held-remove_out hs at b d lt (ap (λ (g : Held). is_in g b) (sym is) ∙ in_outside h b side)))

    here : (h : Held) → h ≡ get_or hs at d → (b : ℕ) → b < length map.free → h.start + h.length ≤ length map.free
        → is_free_block (marked map.free h.start h.length true) b ≡ not (is_held (remove hs at) b)
    here h is b b_lt within = elim (cases_lt b h.start) [
      | inl below ↦ out h is b b_lt within (inl below)
      | inr from ↦ elim (cases_lt b (h.start + h.length)) [
        | inl inside ↦
            is_free-marked_in map.free h.start h.length true b within from inside ∙
            ap not (sym (is_held-remove_in hs at b d a.book.apart lt (ap (λ (g : Held). is_in g b) (sym is) ∙ in_from h b from inside)))
        | inr above ↦ out h is b b_lt within (inr above)
      ]
    ]

-- ---- an owner's last piece

pub last_or_few : (hs : List Held) (owner : Owner) (keep : ℕ) (o : Option ℕ) → LastOf hs owner (length hs) o → keep < length (of_owner owner hs)
    → IfNone o (length (of_owner owner hs) ≤ keep)
last_or_few hs owner keep None none more =
    let l = ap (λ (gs : List Held). length gs) (filter_none (λ (g : Held). same_owner g.owner owner) hs none) in absurd (omega arith)
last_or_few hs owner keep (Some at) last more = tt

-- ---- pieces in turn

chunks_front : (hs : List Held) (owner : Owner) (blocks : ℕ) → (held : ℕ) × (lengths owner hs ≡ pieces held)
    → length (of_owner owner hs) ≤ length (pieces blocks) → lengths owner hs ≡ take (length (of_owner owner hs)) (pieces blocks)
chunks_front hs owner blocks own le =
    let l = length-map (of_owner owner hs) (λ (h : Held). h.length) in
    let m = ap (λ (ns : List ℕ). length ns) own.1 in
    own.1 ∙ pieces_front own.0 blocks (omega arith) ∙ ap (λ (k : ℕ). take k (pieces blocks)) (omega arith)

u_front : (hs : List Held) (owner : Owner) (held : ℕ) → lengths owner hs ≡ u_pieces held → lengths owner hs ≡ take (length (of_owner owner hs)) (u_pieces 2)
u_front hs owner zero own =
    let l = length-map (of_owner owner hs) (λ (h : Held). h.length) in
    let m = ap (λ (ns : List ℕ). length ns) own in
    let none : 0 ≡ length (of_owner owner hs) = omega arith in
    own ∙ ap (λ (k : ℕ). take k (u_pieces 2)) none
u_front hs owner (suc n) own =
    let l = length-map (of_owner owner hs) (λ (h : Held). h.length) in
    let m = ap (λ (ns : List ℕ). length ns) own in
    let one : 1 ≡ length (of_owner owner hs) = omega arith in
    own ∙ ap (λ (k : ℕ). take k (u_pieces 2)) one

-- what an owner holds already is the front of what it is to hold
pub held_front : (size : ℕ) (hs : List Held) (owner : Owner) (blocks : ℕ) → IsBook size hs → CanGrow hs owner blocks
    → length (of_owner owner hs) ≤ length (pieces_of owner blocks) → lengths owner hs ≡ take (length (of_owner owner hs)) (pieces_of owner blocks)
held_front size hs (Data sid) blocks book can le = chunks_front hs (Data sid) blocks (book.owners (Data sid)) le
held_front size hs (Stack sid) blocks book can le = chunks_front hs (Stack sid) blocks (book.owners (Stack sid)) le
held_front size hs (U pid) blocks book can le =
    let own = book.owners (U pid) in
    u_front hs (U pid) own.0 own.1 ∙ ap (λ (b : ℕ). take (length (of_owner (U pid) hs)) (u_pieces b)) (sym can)
held_front size hs (Text image) blocks book can le =
    ap (map (λ (h : Held). h.length)) can.1 ∙ ap (λ (gs : List Held). take (length gs) (text_pieces blocks)) (sym can.1)

pub whole_pages : (hs : List Held) (owner : Owner) (blocks : ℕ) → CanGrow hs owner blocks → WholePages owner blocks
whole_pages hs (Data sid) blocks can = tt
whole_pages hs (Stack sid) blocks can = tt
whole_pages hs (U pid) blocks can = tt
whole_pages hs (Text image) blocks can = can.0

-- the front of a list with the next element
pub take_next : (ns : List ℕ) (i n : ℕ) → slice_get ns i ≡ Some n → take (i + 1) ns ≡ take i ns ++ n ∷ []
take_next ns i n found =
    take_more ns i 0 (slice_get_within ns i n found) ∙ ap (λ (m : ℕ). take i ns ++ m ∷ []) (get_or_from_slice_get ns i n 0 found)

drop_next : (ns : List ℕ) (i n : ℕ) → slice_get ns i ≡ Some n → drop i ns ≡ n ∷ drop (i + 1) ns
drop_next ns i n found =
    drop_more ns i 0 (slice_get_within ns i n found) ∙ ap (λ (m : ℕ). m ∷ drop (i + 1) ns) (get_or_from_slice_get ns i n 0 found)

-- with the next piece added, the owner's pieces are those of more blocks
pub next_of : (hs : List Held) (owner : Owner) (blocks i n : ℕ) → lengths owner hs ≡ take i (pieces_of owner blocks)
    → slice_get (pieces_of owner blocks) i ≡ Some n
    → (more : ℕ) × (lengths owner hs ++ n ∷ [] ≡ pieces_of owner more)
next_of hs owner blocks i n held found =
    let lt = slice_get_within (pieces_of owner blocks) i n found in
    let front = front_of owner blocks (i + 1) (omega arith) in
    (front.0, ap (λ (ns : List ℕ). ns ++ n ∷ []) held ∙ sym (take_next (pieces_of owner blocks) i n found) ∙ front.1)

-- the pieces that are left once the next one is added, or none finds a place
pub place_next : (size : ℕ) (hs new : List Held) (owner : Owner) (ns : List ℕ) (i n : ℕ) → slice_get ns i ≡ Some n
    → placed_at hs (record { owner = owner; length = n }) (fit size hs n) ≡ Ok new
    → place_all size hs (wanted owner (drop i ns)) ≡ place_all size new (wanted owner (drop (i + 1) ns))
unfolding place_all
place_next size hs new owner ns i n found placed =
    ap (λ (ms : List ℕ). place_all size hs (wanted owner ms)) (drop_next ns i n found) ∙
    ap (λ (r : Result (List Held) ℕ). and_then r (λ now. place_all size now (wanted owner (drop (i + 1) ns)))) placed

pub place_refused : (size : ℕ) (hs : List Held) (owner : Owner) (ns : List ℕ) (i n : ℕ) → slice_get ns i ≡ Some n
    → placed_at hs (record { owner = owner; length = n }) (fit size hs n) ≡ Err n
    → place_all size hs (wanted owner (drop i ns)) ≡ Err n
unfolding place_all
place_refused size hs owner ns i n found refused =
    ap (λ (ms : List ℕ). place_all size hs (wanted owner ms)) (drop_next ns i n found) ∙
    ap (λ (r : Result (List Held) ℕ). and_then r (λ now. place_all size now (wanted owner (drop (i + 1) ns)))) refused

pub place_done : (size : ℕ) (hs : List Held) (owner : Owner) (ns : List ℕ) (i : ℕ) → slice_get ns i ≡ None
    → place_all size hs (wanted owner (drop i ns)) ≡ Ok hs
unfolding place_all
place_done size hs owner ns i none =
    ap (λ (ms : List ℕ). place_all size hs (wanted owner ms)) (drop_all i ns (past ns i none))
  where
    past : (ns : List ℕ) (i : ℕ) → slice_get ns i ≡ None → length ns ≤ i
    past [] i none = omega arith
    past (n ∷ ns) zero none = cc
    past (n ∷ ns) (suc i) none = let p = past ns i none in omega arith

-- what was added
pub placed_gives : (hs new : List Held) (w : Wanted) (o : Option ℕ) → placed_at hs w o ≡ Ok new
    → (start : ℕ) × (new ≡ hs ++ record { owner = w.owner; start = start; length = w.length } ∷ [])
placed_gives hs new w None e = cc
placed_gives hs new w (Some start) e = (start, same (hs ++ record { owner = w.owner; start = start; length = w.length } ∷ []) new e)
  where
    same : (xs ys : List Held) → ◌≡◌ {A = Result (List Held) ℕ} (Ok xs) (Ok ys) → ys ≡ xs
    same xs ys e = cc

pub front_kept : (front hs new : List Held) (h : Held) → take (length front) hs ≡ front → new ≡ hs ++ h ∷ [] → take (length front) new ≡ front
front_kept front hs new h is grown =
    let l = ap (λ (gs : List Held). length gs) is in
    let t = length-take (length front) hs in
    ap (take (length front)) grown ∙ take-append-le (length front) hs (h ∷ []) (omega arith) ∙ is

pub lengths_grown : (owner : Owner) (hs new : List Held) (n start : ℕ) → new ≡ hs ++ record { owner = owner; start = start; length = n } ∷ []
    → lengths owner new ≡ lengths owner hs ++ n ∷ []
lengths_grown owner hs new n start grown =
    ap (lengths owner) grown ∙
    lengths-push owner hs (record { owner = owner; start = start; length = n }) ∙
    ap (λ (ns : List ℕ). lengths owner hs ++ ns) (cond-true (same_owner owner owner) (n ∷ []) [] (same_owner_itself owner))
