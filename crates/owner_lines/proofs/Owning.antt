-- What is said of a frame, by what the core map has for it.
use Rattle.std.proofs.Common.{◌≡◌, ℕ, zero, suc, ◌+◌, ◌<◌, Bool, true, false, eqb, ltb, cond, ◌||◌, ◌==◌, List, [], ◌∷◌, ◌++◌, map, Option, Some, None, refl, sym, ap, ◌∙◌, subst, inl, inr, arith}
use Rattle.std.specs.Prelude.{codes}
use Rattle.std.specs.List.{list_any}
use Rattle.std.proofs.lemmas.Bool.{cases_Bool, cases_eq, ne_eqb}
use Rattle.std.proofs.lemmas.Bool.Decides.{nat_tests}
use Rattle.std.proofs.lemmas.Option.{same_Some}
use Rattle.vm_facts.specs.declared.page.Page.{Page}
use Rattle.vm_facts.specs.declared.page.Page.TheVariants.{Data, Stack, Text}
use Rattle.vm_facts.specs.declared.page.PageState.{PageState}
use Rattle.vm_facts.specs.declared.page.PageState.TheVariants.{Unfilled, Valid, Invalid, Coming, Going, OnSwap}
use Rattle.vm_facts.specs.Lists.{times}
use Rattle.vm_facts.proofs.Tests.{eq_self}
use Rattle.vm_facts.proofs.Lists.{times-append, times_head, times_other}
use Rattle.core_map.specs.Order.{place_from}
use Rattle.core_map.specs.declared.slot.Slot.{Slot}
use Rattle.core_map.specs.declared.slot.Slot.TheVariants as slots
use Rattle.core_map.specs.declared.slot.Whose.{Whose}
use Rattle.core_map.specs.declared.slot.Whose.TheVariants as whose
use Rattle.core_map.specs.Slots.{slot_at, listings, slot_owner, is_slot_dirty}
use Rattle.core_map.specs.Frames.{Frames}
use Rattle.page_model.specs.Pages.{frame_of, is_valid, is_dirty_by}
use Rattle.page_model.specs.Placement.{is_dirty as is_dirty_in, Errand, Writes, Reads, Part, Transfer, Moving, Placement, IsFrame, state_of, mark_of, page_of, parts_of, flying, moving, moving_state}
use Rattle.page_model.specs.Ownership.{OwnsFrames, Each, IsMoving, is_marked_dirty, seats, seated, seated_of}
use Rattle.page_laws.proofs.Lists.Frames.{flying-append}
use Rattle.table_view.specs.Shown.{is_away}
use Rattle.page_laws.proofs.Moves.Steps.{frame_of_moving}
use Rattle.machine_state.specs.Showing.{ShowsCore}
use Rattle.owner_lines.specs.declared.frames.Carried.{Carried}
use Rattle.owner_lines.specs.Owners.{has_frame, carrier_from, carrier, is_unsaved, kept_text, used_by, used_text, free_text, free_place, owner_text}
use Rattle.owner_lines.specs.Carried.{page_in, is_write, carried_by, carried_from, carried_number, carried_text}

same_eqb : (x f : ℕ) → x ≡ f → eqb x f ≡ true
same_eqb x f e = ap (λ (y : ℕ). eqb y f) e ∙ eq_self f

-- The free list.

pub place_none : (n f : ℕ) (xs : List ℕ) → times f xs ≡ 0 → place_from n f xs ≡ 0
place_none n f [] h = refl
place_none n f (x ∷ xs) h = elim (cases_eq x f) [
  | inl e ↦
      let none : times f (f ∷ xs) ≡ 0 = subst (λ (y : ℕ). times f (y ∷ xs) ≡ 0) e h in
      absurd (omega (arith, none, times_head f xs))
  | inr ne ↦ ap (λ (b : Bool). cond b n (place_from (n + 1) f xs)) (ne_eqb x f ne) ∙ place_none (n + 1) f xs (sym (times_other f x xs ne) ∙ h)
]

pub place_some : (n f : ℕ) (xs : List ℕ) → 0 < n → 0 < times f xs → 0 < place_from n f xs
place_some n f [] pos h = absurd (omega arith)
place_some n f (x ∷ xs) pos h = elim (cases_eq x f) [
  | inl e ↦ subst (λ (k : ℕ). 0 < k) (sym (ap (λ (b : Bool). cond b n (place_from (n + 1) f xs)) (same_eqb x f e))) pos
  | inr ne ↦
      subst (λ (k : ℕ). 0 < k) (sym (ap (λ (b : Bool). cond b n (place_from (n + 1) f xs)) (ne_eqb x f ne)))
      (place_some (n + 1) f xs (omega arith) (subst (λ (k : ℕ). 0 < k) (times_other f x xs ne) h))
]

placed_text : (p : Placement) (f k : ℕ) → 0 < k → owner_text p f k ≡ free_text k (page_of p f)
placed_text p f zero h = absurd (omega arith)
placed_text p f (suc k) h = refl

-- The transfers.

-- a frame that no page of these is in, or the page of the one that is
found_none : (f : ℕ) (e : Errand) (xs : List Part) → page_in f xs ≡ None → times f (flying (map (moving e) xs)) ≡ 0
found_none f e [] h = refl
found_none f e (x ∷ xs) h = elim (cases_eq x.frame f) [
  | inl i ↦ absurd (let some : Some x.page ≡ None = sym (ap (λ (b : Bool). cond b (Some x.page) (page_in f xs)) (same_eqb x.frame f i)) ∙ h in cc)
  | inr ne ↦
      times_other f x.frame (flying (map (moving e) xs)) ne
      ∙ found_none f e xs (sym (ap (λ (b : Bool). cond b (Some x.page) (page_in f xs)) (ne_eqb x.frame f ne)) ∙ h)
]

has_none : (f : ℕ) (t : Transfer) → page_in f t.parts ≡ None → has_frame f t ≡ false
has_none f t h = go t.parts h
  where
    go : (xs : List Part) → page_in f xs ≡ None → list_any (λ (x : Part). x.frame == f) xs ≡ false
    go [] k = refl
    go (x ∷ xs) k = elim (cases_Bool (eqb x.frame f)) [
      | inl hit ↦ absurd (let some : Some x.page ≡ None = sym (ap (λ (b : Bool). cond b (Some x.page) (page_in f xs)) hit) ∙ k in cc)
      | inr miss ↦
          ap (λ (b : Bool). b || list_any (λ (x : Part). x.frame == f) xs) miss
          ∙ go xs (sym (ap (λ (b : Bool). cond b (Some x.page) (page_in f xs)) miss) ∙ k)
    ]

has_some : (f : ℕ) (t : Transfer) (q : Page) → page_in f t.parts ≡ Some q → has_frame f t ≡ true
has_some f t q h = go t.parts h
  where
    go : (xs : List Part) → page_in f xs ≡ Some q → list_any (λ (x : Part). x.frame == f) xs ≡ true
    go [] k = absurd cc
    go (x ∷ xs) k = elim (cases_Bool (eqb x.frame f)) [
      | inl hit ↦ ap (λ (b : Bool). b || list_any (λ (x : Part). x.frame == f) xs) hit
      | inr miss ↦
          ap (λ (b : Bool). b || list_any (λ (x : Part). x.frame == f) xs) miss
          ∙ go xs (sym (ap (λ (b : Bool). cond b (Some x.page) (page_in f xs)) miss) ∙ k)
    ]

-- the page that a transfer has in a frame is on its way
moving_in : (p : Placement) (f : ℕ) (e : Errand) (xs : List Part) (rest : List Moving) (q : Page) → Each (IsMoving p) (map (moving e) xs ++ rest)
    → page_in f xs ≡ Some q → state_of p q ≡ moving_state e f
moving_in p f e [] rest q m h = absurd cc
moving_in p f e (x ∷ xs) rest q m h = elim (cases_Bool (eqb x.frame f)) [
  | inl hit ↦
      let page : x.page ≡ q = same_Some x.page q (sym (ap (λ (b : Bool). cond b (Some x.page) (page_in f xs)) hit) ∙ h) in
      let frame : x.frame ≡ f = grind (arith, nat_tests) in
      ap (state_of p) (sym page) ∙ m.0 ∙ ap (moving_state e) frame
  | inr miss ↦ moving_in p f e xs rest q m.1 (sym (ap (λ (b : Bool). cond b (Some x.page) (page_in f xs)) miss) ∙ h)
]

pub each_behind : (p : Placement) (e : Errand) (xs : List Part) (rest : List Moving) → Each (IsMoving p) (map (moving e) xs ++ rest) → Each (IsMoving p) rest
each_behind p e [] rest m = m
each_behind p e (x ∷ xs) rest m = each_behind p e xs rest m.1

-- what is found of a frame that some transfer has
pub record IsCarried (p : Placement) (n f : ℕ) (ts : List Transfer) : Type 0 where
  pub errand : Errand
  pub page : Page
  pub found : carried_from n f ts ≡ Some (let c : Carried = record { number = carrier_from n f ts; is_write = is_write errand; page = page } in c)
  pub state : state_of p page ≡ moving_state errand f

pub is_carried : (p : Placement) (n f : ℕ) (ts : List Transfer) → Each (IsMoving p) (parts_of ts) → 0 < times f (flying (parts_of ts)) → IsCarried p n f ts
is_carried p n f [] m h = absurd (omega arith)
is_carried p n f (t ∷ ts) m h = go (page_in f t.parts) refl (λ k l. is_carried p (n + 1) f ts k l)
  where
    go : (o : Option Page) → page_in f t.parts ≡ o → (Each (IsMoving p) (parts_of ts) → 0 < times f (flying (parts_of ts)) → IsCarried p (n + 1) f ts) → IsCarried p n f (t ∷ ts)
    go None e more =
        let split = ap (times f) (flying-append (map (moving t.errand) t.parts) (parts_of ts)) ∙ times-append f (flying (map (moving t.errand) t.parts)) (flying (parts_of ts)) in
        let none = found_none f t.errand t.parts e in
        let rest : IsCarried p (n + 1) f ts = more (each_behind p t.errand t.parts (parts_of ts) m) (omega (arith, split, none, h)) in
        let number : carrier_from n f (t ∷ ts) ≡ carrier_from (n + 1) f ts = ap (λ (b : Bool). cond b n (carrier_from (n + 1) f ts)) (has_none f t e) in
        record {
          errand = rest.errand;
          page = rest.page;
          found =
              ap (λ (o : Option Page). carried_by n t.errand o (carried_from (n + 1) f ts)) e
              ∙ rest.found
              ∙ ap (λ (k : ℕ). Some (let c : Carried = record { number = k; is_write = is_write rest.errand; page = rest.page } in c)) (sym number);
          state = rest.state;
        }
    go (Some q) e more =
        let number : carrier_from n f (t ∷ ts) ≡ n = ap (λ (b : Bool). cond b n (carrier_from (n + 1) f ts)) (has_some f t q e) in
        record {
          errand = t.errand;
          page = q;
          found =
              ap (λ (o : Option Page). carried_by n t.errand o (carried_from (n + 1) f ts)) e
              ∙ ap (λ (k : ℕ). Some (let c : Carried = record { number = k; is_write = is_write t.errand; page = q } in c)) (sym number);
          state = moving_in p f t.errand t.parts (parts_of ts) q m e;
        }

-- the number of what is found is that of the transfer that has the frame
pub carrier_found : (n f : ℕ) (ts : List Transfer) → carrier_from n f ts ≡ carried_number (carried_from n f ts)
carrier_found n f [] = refl
carrier_found n f (t ∷ ts) = go (page_in f t.parts) refl (carrier_found (n + 1) f ts)
  where
    go : (o : Option Page) → page_in f t.parts ≡ o → carrier_from (n + 1) f ts ≡ carried_number (carried_from (n + 1) f ts)
        → carrier_from n f (t ∷ ts) ≡ carried_number (carried_by n t.errand (page_in f t.parts) (carried_from (n + 1) f ts))
    go None e rest =
        ap (λ (b : Bool). cond b n (carrier_from (n + 1) f ts)) (has_none f t e) ∙ rest
        ∙ sym (ap (λ (o : Option Page). carried_number (carried_by n t.errand o (carried_from (n + 1) f ts))) e)
    go (Some q) e rest =
        ap (λ (b : Bool). cond b n (carrier_from (n + 1) f ts)) (has_some f t q e)
        ∙ sym (ap (λ (o : Option Page). carried_number (carried_by n t.errand o (carried_from (n + 1) f ts))) e)

moved_state : (p : Placement) (f : ℕ) (q : Page) (e : Errand)
    → used_by p q (moving_state e f) ≡ carried_text (Some (let c : Carried = record { number = carrier p f; is_write = is_write e; page = q } in c))
moved_state p f q Writes = refl
moved_state p f q (Reads source demanded) = refl

marked : (q : Page) (mark : Bool) → is_marked_dirty q (is_dirty_by q mark) ≡ is_marked_dirty q mark
marked (Data sid v) mark = refl
marked (Stack sid v) mark = refl
marked (Text image v) mark = refl

abbrev page_owned : Whose → Option Page
page_owned (whose.Free page) = page
page_owned (whose.Resident page) = Some page
page_owned whose.Away = None

none_fly : (n : ℕ) → false ≡ ltb 0 n → n ≡ 0
none_fly n e = grind (arith, nat_tests)

some_fly : (n : ℕ) → true ≡ ltb 0 n → 0 < n
some_fly n e = grind (arith, nat_tests)

-- The three kinds of frames.

module _ (p : Placement) (core : Frames) (owns : OwnsFrames p) (shows : ShowsCore p core) (f : ℕ) where
  slot : Slot
  slot = slot_at core.slots f

  pub free_owner : (page : Option Page) → slot_owner (slot_at core.slots f) ≡ whose.Free page → owner_text p f (free_place p f) ≡ free_text (place_from 1 f core.free) page
  free_owner page e = go (slot_at core.slots f) refl
    where
      go : (s : Slot) → slot_at core.slots f ≡ s → owner_text p f (free_place p f) ≡ free_text (place_from 1 f core.free) page
      go (slots.Free token held) is =
          let same : held ≡ page = ap page_owned (sym (ap slot_owner is) ∙ e) in
          let there : 0 < times f core.free = let l = shows.listed f ∙ ap listings is in omega (arith, l) in
          let some : 0 < place_from 1 f core.free = place_some 1 f core.free (omega arith) there in
          ap (λ (xs : List ℕ). owner_text p f (place_from 1 f xs)) shows.free
          ∙ placed_text p f (place_from 1 f core.free) some
          ∙ ap (free_text (place_from 1 f core.free)) (shows.still f token held is ∙ same)
      go (slots.Resident token held mark) is = absurd (let x : whose.Resident held ≡ whose.Free page = sym (ap slot_owner is) ∙ e in cc)
      go slots.Away is = absurd (let x : whose.Away ≡ whose.Free page = sym (ap slot_owner is) ∙ e in cc)

  -- such a frame is on the placement's free list
  pub free_listed : (page : Option Page) → slot_owner (slot_at core.slots f) ≡ whose.Free page → 0 < times f p.free
  free_listed page e = go (slot_at core.slots f) refl
    where
      go : (s : Slot) → slot_at core.slots f ≡ s → 0 < times f p.free
      go (slots.Free token held) is = let l = shows.listed f ∙ ap listings is in let same = ap (times f) shows.free in omega (arith, l, same)
      go (slots.Resident token held mark) is = absurd (let x : whose.Resident held ≡ whose.Free page = sym (ap slot_owner is) ∙ e in cc)
      go slots.Away is = absurd (let x : whose.Away ≡ whose.Free page = sym (ap slot_owner is) ∙ e in cc)

  -- off the free list
  off_list : listings (slot_at core.slots f) ≡ 0 → owner_text p f (free_place p f) ≡ used_text p (page_of p f)
  off_list h = ap (λ (xs : List ℕ). owner_text p f (place_from 1 f xs)) shows.free ∙ ap (owner_text p f) (place_none 1 f core.free (shows.listed f ∙ h))

  pub used_owner : (q : Page) → slot_owner (slot_at core.slots f) ≡ whose.Resident q → owner_text p f (free_place p f) ≡ used_by p q (state_of p q)
  used_owner q e = go (slot_at core.slots f) refl
    where
      go : (s : Slot) → slot_at core.slots f ≡ s → owner_text p f (free_place p f) ≡ used_by p q (state_of p q)
      go (slots.Free token held) is = absurd (let x : whose.Free held ≡ whose.Resident q = sym (ap slot_owner is) ∙ e in cc)
      go (slots.Resident token held mark) is =
          let same : Some held ≡ Some q = ap page_owned (sym (ap slot_owner is) ∙ e) in
          off_list (ap listings is) ∙ ap (used_text p) ((shows.kept f token held mark is).0 ∙ same)
      go slots.Away is = absurd (let x : whose.Away ≡ whose.Resident q = sym (ap slot_owner is) ∙ e in cc)

  pub away_owner : IsFrame p f → slot_owner (slot_at core.slots f) ≡ whose.Away → owner_text p f (free_place p f) ≡ carried_text (carried_from 1 f p.transfers)
  away_owner w e = go (slot_at core.slots f) refl
    where
      go : (s : Slot) → slot_at core.slots f ≡ s → owner_text p f (free_place p f) ≡ carried_text (carried_from 1 f p.transfers)
      go (slots.Free token held) is = absurd (let x : whose.Free held ≡ whose.Away = sym (ap slot_owner is) ∙ e in cc)
      go (slots.Resident token held mark) is = absurd (let x : whose.Resident held ≡ whose.Away = sym (ap slot_owner is) ∙ e in cc)
      go slots.Away is =
          let some : 0 < times f (flying (parts_of p.transfers)) = some_fly (times f (flying (parts_of p.transfers))) (sym (ap is_away is) ∙ shows.away f w) in
          let c : IsCarried p 1 f p.transfers = is_carried p 1 f p.transfers owns.moves some in
          let page : page_of p f ≡ Some c.page = owns.names c.page f (ap frame_of c.state ∙ frame_of_moving c.errand f) in
          off_list (ap listings is)
          ∙ ap (used_text p) page
          ∙ ap (used_by p c.page) c.state
          ∙ moved_state p f c.page c.errand
          ∙ ap carried_text (sym c.found)

  -- a page in a frame that is neither free nor in a transfer is valid or invalid
  pub kept_owner : (q : Page) (valid : Bool) → IsFrame p f → slot_owner (slot_at core.slots f) ≡ whose.Resident q → is_valid (state_of p q) ≡ valid
      → used_by p q (state_of p q) ≡ kept_text (cond valid (codes " valid") (codes " invalid")) q (is_marked_dirty q (is_slot_dirty (slot_at core.slots f)))
  kept_owner q valid w e v = go (slot_at core.slots f) refl
    where
      Goal : Type 0
      Goal = used_by p q (state_of p q) ≡ kept_text (cond valid (codes " valid") (codes " invalid")) q (is_marked_dirty q (is_slot_dirty (slot_at core.slots f)))

      unseated : (n : ℕ) → times f core.free ≡ 0 → times f (flying (parts_of p.transfers)) ≡ 0 → page_of p f ≡ Some q → n ≡ 0 → seats (times f p.free) (state_of p q) ≡ n → ⊥
      unseated n free fly page none s =
          let once = owns.once f w in
          let seat : seated p f ≡ n = ap (seated_of p f) page ∙ s in
          let list : times f p.free ≡ 0 = ap (times f) shows.free ∙ free in
          omega (arith, once, seat, list, fly, none)

      by : (s : PageState) → state_of p q ≡ s → is_unsaved p q ≡ is_marked_dirty q (is_slot_dirty (slot_at core.slots f)) → times f core.free ≡ 0 → times f (flying (parts_of p.transfers)) ≡ 0
          → page_of p f ≡ Some q → Goal
      by Unfilled s d free fly page = absurd (unseated 0 free fly page refl (ap (seats (times f p.free)) s))
      by (Valid g) s d free fly page =
          ap (used_by p q) s ∙ ap (kept_text (codes " valid") q) d
          ∙ ap (λ (b : Bool). kept_text (cond b (codes " valid") (codes " invalid")) q (is_marked_dirty q (is_slot_dirty (slot_at core.slots f)))) (sym (ap is_valid s) ∙ v)
      by (Invalid g) s d free fly page =
          ap (used_by p q) s ∙ ap (kept_text (codes " invalid") q) d
          ∙ ap (λ (b : Bool). kept_text (cond b (codes " valid") (codes " invalid")) q (is_marked_dirty q (is_slot_dirty (slot_at core.slots f)))) (sym (ap is_valid s) ∙ v)
      by (Coming g) s d free fly page = absurd (unseated 0 free fly page refl (ap (seats (times f p.free)) s))
      by (Going g) s d free fly page = absurd (unseated 0 free fly page refl (ap (seats (times f p.free)) s))
      by OnSwap s d free fly page = absurd (unseated 0 free fly page refl (ap (seats (times f p.free)) s))

      go : (s : Slot) → slot_at core.slots f ≡ s → Goal
      go (slots.Free token held) is = absurd (let x : whose.Free held ≡ whose.Resident q = sym (ap slot_owner is) ∙ e in cc)
      go (slots.Resident token held mark) is =
          let kept = shows.kept f token held mark is in
          let same : held ≡ q = same_Some held q (ap page_owned (sym (ap slot_owner is) ∙ e)) in
          let page : page_of p f ≡ Some q = kept.0 ∙ ap (λ (r : Page). Some r) same in
          let dirty : is_unsaved p q ≡ is_marked_dirty q (is_slot_dirty (slot_at core.slots f)) =
          sym (marked q (mark_of p q)) ∙ ap (is_marked_dirty q) (sym (ap is_slot_dirty is ∙ kept.1 ∙ ap (is_dirty_in p) same)) in
          by (state_of p q) refl dirty (shows.listed f ∙ ap listings is) (none_fly (times f (flying (parts_of p.transfers))) (sym (ap is_away is) ∙ shows.away f w)) page
      go slots.Away is = absurd (let x : whose.Away ≡ whose.Resident q = sym (ap slot_owner is) ∙ e in cc)
