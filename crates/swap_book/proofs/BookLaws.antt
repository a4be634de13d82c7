-- What is true of a book's holdings stays true as pieces are added at their places and given back.
use Rattle.std.proofs.Common.{◌≡◌, ℕ, ◌+◌, ◌-◌, ◌%◌, ◌<◌, max, Bool, true, false, cond, not, List, [], ◌∷◌, ◌++◌, length, get_or, take, map, Some, refl, sym, ap, ◌∙◌, subst, arith, inl, inr}
use Rattle.std.specs.Prelude.{remove, All}
use Rattle.std.proofs.lemmas.Bool.{cases_Bool, cases_lt, cases_eq, false≢true, not-true, not_from_false, cond-true, cond-false}
use Rattle.std.proofs.lemmas.List.{append-nil, map-append, length-append, take_at}
use Rattle.std.proofs.lemmas.List.Edits.{length-remove, get_or-remove_below, get_or-remove_above}
use Rattle.std.proofs.lemmas.List.Elements.{All-push, filter-append}
use Rattle.std.proofs.lemmas.List.Quantifiers.{all_pairs_push, all_pairs_remove}
use Rattle.resource_map.proofs.RoomLaws.{HasRoom, IsLowestRoom, lowest_room_gives}
use Rattle.swap_book.specs.declared.Owner.{Owner}
use Rattle.swap_book.specs.declared.Held.{Held}
use Rattle.swap_book.specs.Owners.{same_owner, pieces_of}
use Rattle.swap_book.specs.Holdings.{is_in, is_held, fit, of_owner, lengths}
use Rattle.swap_book.specs.Book.{IsPiece, IsApart, IsBook}
use Rattle.swap_book.proofs.OwnerLaws.{same_owner_gives, same_owner_itself, front_of, no_pieces}
use Rattle.swap_book.proofs.HoldingLaws.{in_from, in_low, in_high, no_piece, holder_of, held_from, filter-remove_other, filter-remove_last}

pub empty_is_book : (size : ℕ) → IsBook size []
empty_is_book size = record {
  pieces = λ k d lt. absurd (omega arith);
  apart = λ i j d order lt. absurd (omega arith);
  owners = λ owner. (0, sym (no_pieces owner));
}

-- ---- a piece more

-- the place for a piece of whole pages among such pieces is even: the block before it is held, or it is a unit's first
pub fit_even : (size : ℕ) (hs : List Held) (n s : ℕ) → All (IsPiece size) hs → 0 < n → n % 2 ≡ 0 → fit size hs n ≡ Some s → s % 2 ≡ 0
unfolding fit
fit_even size hs n s pieces some even found = elim (cases_eq (s % 2) 0) [
  | inl is_even ↦ is_even
  | inr is_odd ↦ absurd (earlier is_odd (subst (IsLowestRoom free size n) found (lowest_room_gives free size n)))
]
  where
    free : ℕ → Bool
    free b = not (is_held hs b)

    -- a piece that holds the block before an odd one holds that too
    spreads : (h : Held) → IsPiece size h → s % 2 ≡ 1 → is_in h (s - 1) ≡ true → is_in h s ≡ true
    spreads h p odd i =
        let low = in_low h (s - 1) i in
        let high = in_high h (s - 1) i in
        let e = p.even_start in
        let f = p.even_length in
        in_from h s (omega arith) (omega arith)

    before : s % 2 ≡ 1 → HasRoom free size n s → free (s - 1) ≡ true
    before odd room = elim (cases_Bool (is_held hs (s - 1))) [
      | inl held ↦
          let r = holder_of hs (s - 1) held in
          let h = get_or hs r.at no_piece in
          let too = held_from hs r.at s no_piece r.within (spreads h (pieces r.at no_piece r.within) odd (r.holds no_piece)) in
          absurd (false≢true (sym (not-true (is_held hs s) (room.free s (omega arith) (omega arith))) ∙ too))
      | inr is_free ↦ not_from_false (is_held hs (s - 1)) is_free
    ]

    earlier : (s % 2 ≡ 0 → ⊥) → HasRoom free size n s × ((t : ℕ) → t < s → HasRoom free size n t → ⊥) → ⊥
    earlier is_odd lowest =
        let odd : s % 2 ≡ 1 = omega arith in
        let room = lowest.0 in
        let w = room.within in
        let u = room.one_unit in
        lowest.1 (s - 1) (omega arith)
        (record {
          within = omega arith;
          one_unit = omega arith;
          free = λ b low high. elim (cases_eq b (s - 1)) [
            | inl first ↦ ap free first ∙ before odd room
            | inr later ↦ room.free b (omega arith) (omega arith)
          ];
        })

-- a place that is free is apart from each piece
pub fit_apart : (size : ℕ) (hs : List Held) (n s k : ℕ) (d : Held) (owner : Owner) → All (IsPiece size) hs → 0 < n → fit size hs n ≡ Some s → k < length hs
    → IsApart (get_or hs k d) (record { owner = owner; start = s; length = n })
unfolding fit
fit_apart size hs n s k d owner pieces some found lt = apart (get_or hs k d) (pieces k d lt) (λ b i. held_from hs k b d lt i)
  where
    free : ℕ → Bool
    free b = not (is_held hs b)

    room : HasRoom free size n s
    room = (subst (IsLowestRoom free size n) found (lowest_room_gives free size n)).0

    apart : (h : Held) → IsPiece size h → ((b : ℕ) → is_in h b ≡ true → is_held hs b ≡ true) → IsApart h (record { owner = owner; start = s; length = n })
    apart h p held = elim (cases_lt s (h.start + h.length)) [
      | inr before ↦ inl before
      | inl begins ↦ elim (cases_lt h.start (s + n)) [
        | inr after ↦ inr after
        | inl overlap ↦
            let b = max s h.start in
            let e = p.not_empty in
            absurd (false≢true (sym (not-true (is_held hs b) (room.free b (omega arith) (omega arith))) ∙ held b (in_from h b (omega arith) (omega arith))))
      ]
    ]

pub fit_within : (size : ℕ) (hs : List Held) (n s : ℕ) → fit size hs n ≡ Some s → HasRoom (λ b. not (is_held hs b)) size n s
unfolding fit
fit_within size hs n s found =
    (subst (IsLowestRoom (λ b. not (is_held hs b)) size n) found (lowest_room_gives (λ b. not (is_held hs b)) size n)).0

-- the lengths of an owner's pieces with one more at the end
pub lengths-push : (owner : Owner) (hs : List Held) (h : Held)
    → lengths owner (hs ++ h ∷ []) ≡ lengths owner hs ++ cond (same_owner h.owner owner) (h.length ∷ []) []
lengths-push owner hs h =
    ap (map (λ (g : Held). g.length)) (filter-append (λ (g : Held). same_owner g.owner owner) hs (h ∷ [])) ∙
    map-append (λ (g : Held). g.length) (of_owner owner hs) (of_owner owner (h ∷ [])) ∙
    ap (λ (ns : List ℕ). lengths owner hs ++ ns) (one (same_owner h.owner owner))
  where
    one : (b : Bool) → map (λ (g : Held). g.length) (cond b (h ∷ []) []) ≡ cond b (h.length ∷ []) []
    one true = refl
    one false = refl

pub placed_is_book : (size : ℕ) (hs : List Held) (owner : Owner) (n s : ℕ) → IsBook size hs → 0 < n → n % 2 ≡ 0 → fit size hs n ≡ Some s
    → (blocks : ℕ) × (lengths owner hs ++ n ∷ [] ≡ pieces_of owner blocks) → IsBook size (hs ++ record { owner = owner; start = s; length = n } ∷ [])
placed_is_book size hs owner n s book some even found next =
    let h = fit_within size hs n s found in
    record {
      pieces = All-push (IsPiece size) hs (record { owner = owner; start = s; length = n }) book.pieces
          (record {
            not_empty = some;
            even_start = fit_even size hs n s book.pieces some even found;
            even_length = even;
            within = h.within;
            one_unit = h.one_unit;
          });
      apart = all_pairs_push IsApart hs (record { owner = owner; start = s; length = n }) book.apart
          (λ k d lt. fit_apart size hs n s k d owner book.pieces some found lt);
      owners = λ o. elim (cases_Bool (same_owner owner o)) [
        | inl same ↦ (
          next.0,
          lengths-push o hs (record { owner = owner; start = s; length = n }) ∙
              ap (λ (ns : List ℕ). lengths o hs ++ ns) (cond-true (same_owner owner o) (n ∷ []) [] same) ∙
              ap (λ (p : Owner). lengths p hs ++ n ∷ []) (sym (same_owner_gives owner o same)) ∙
              next.1 ∙
              ap (λ (p : Owner). pieces_of p next.0) (same_owner_gives owner o same),
        )
        | inr other ↦
            let old = book.owners o in (
              old.0,
              lengths-push o hs (record { owner = owner; start = s; length = n }) ∙
                  ap (λ (ns : List ℕ). lengths o hs ++ ns) (cond-false (same_owner owner o) (n ∷ []) [] other) ∙
                  append-nil (lengths o hs) ∙ old.1,
            )
      ];
    }

-- ---- a piece less

pub All-remove : {X : Type 0} (P : X → Type 0) (xs : List X) (at : ℕ) → All P xs → at < length xs → All P (remove xs at)
All-remove {X} P xs at all lt = λ k d k_lt.
    let l = length-remove xs at lt in
    elim (cases_lt k at) [
      | inl before ↦ subst P (sym (get_or-remove_below xs at d k before lt)) (all k d (omega arith))
      | inr after ↦ subst P (sym (get_or-remove_above xs at d k after lt)) (all (k + 1) d (omega arith))
    ]

-- the lengths of the pieces of the owner of a last piece, without it
pub lengths-remove_last : (owner : Owner) (hs : List Held) (at : ℕ) (d : Held) → at < length hs → same_owner (get_or hs at d).owner owner ≡ true
    → ((k : ℕ) (e : Held) → at < k → k < length hs → same_owner (get_or hs k e).owner owner ≡ false)
    → lengths owner hs ≡ lengths owner (remove hs at) ++ (get_or hs at d).length ∷ []
lengths-remove_last owner hs at d lt here last =
    ap (map (λ (g : Held). g.length)) (filter-remove_last (λ (g : Held). same_owner g.owner owner) hs at d lt here last) ∙
    map-append (λ (g : Held). g.length) (of_owner owner (remove hs at)) (get_or hs at d ∷ [])

pub removed_is_book : (size : ℕ) (hs : List Held) (at : ℕ) (d : Held) → IsBook size hs → at < length hs
    → ((k : ℕ) (e : Held) → at < k → k < length hs → same_owner (get_or hs k e).owner (get_or hs at d).owner ≡ false)
    → IsBook size (remove hs at)
removed_is_book size hs at d book lt last = record {
  pieces = All-remove (IsPiece size) hs at book.pieces lt;
  apart = all_pairs_remove IsApart hs at lt book.apart;
  owners = λ o. elim (cases_Bool (same_owner (get_or hs at d).owner o)) [
    | inl same ↦ subst (λ (p : Owner). (blocks : ℕ) × (lengths p (remove hs at) ≡ pieces_of p blocks)) (same_owner_gives (get_or hs at d).owner o same) own
    | inr other ↦
        let old = book.owners o in (
          old.0,
          ap (map (λ (g : Held). g.length)) (filter-remove_other (λ (g : Held). same_owner g.owner o) hs at d lt other) ∙ old.1,
        )
  ];
}
  where
    own : (blocks : ℕ) × (lengths (get_or hs at d).owner (remove hs at) ≡ pieces_of (get_or hs at d).owner blocks)
    own =
        let owner = (get_or hs at d).owner in
        let old = book.owners owner in
        let shorter = lengths owner (remove hs at) in
        let cut = lengths-remove_last owner hs at d lt (same_owner_itself owner) last in
        let whole = sym cut ∙ old.1 in
        let l = length-append shorter ((get_or hs at d).length ∷ []) in
        let le = ap (λ (ns : List ℕ). length ns) whole in
        let front = front_of owner old.0 (length shorter) (omega arith) in (
          front.0,
          sym (take_at shorter ((get_or hs at d).length ∷ []) (length shorter) refl) ∙
              ap (take (length shorter)) whole ∙ front.1,
        )
