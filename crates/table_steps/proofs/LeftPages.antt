-- What becomes of a text's pages in the placement where nobody shares the text any more.
use Rattle.std.proofs.Common.{◌≡◌, ◌⊎◌, inl, inr, ℕ, zero, suc, ◌+◌, ◌<◌, ◌≤◌, Bool, false, List, [], ◌∷◌, ◌++◌, Option, Some, None, refl, sym, ap, ◌∙◌, subst, arith}
use Rattle.std.proofs.lemmas.Bool.{cases_eq}
use Rattle.std.proofs.lemmas.Option.{same_Some}
use Rattle.vm_facts.specs.declared.page.Page.{Page}
use Rattle.vm_facts.specs.declared.page.Page.TheVariants.{Text}
use Rattle.vm_facts.specs.declared.page.PageState.{PageState}
use Rattle.vm_facts.specs.declared.page.PageState.TheVariants.{Unfilled, Valid, Invalid, Coming, Going, OnSwap}
use Rattle.vm_facts.specs.Lists.{times}
use Rattle.frame_state.specs.Frame.{Frame}
use Rattle.core_map.specs.declared.slot.Slot.{Slot as Token}
use Rattle.core_map.specs.declared.slot.Slot.TheVariants as tokens
use Rattle.core_map.specs.Slots.{slot_at, slot_page as token_page, listings}
use Rattle.core_map.specs.Frames.{Frames}
use Rattle.flat_state.specs.PageNames.{beside, pages_from}
use Rattle.page_model.specs.Pages.{Slot, Filling, Zeros, frame_of}
use Rattle.page_model.specs.Placement.{Placement, slot_of, state_of, IsThere}
use Rattle.page_model.specs.Moves.{leave_by, leave_page, leave_all, listed_of}
use Rattle.page_model.specs.Conditions.{AtRest, IsShared}
use Rattle.page_laws.proofs.Lists.Local.{none_some}
use Rattle.page_laws.proofs.Lists.Pages.{put_same}
use Rattle.page_laws.proofs.Blocks.Changes.{leave_other, leave_all_length}
use Rattle.kernel_tables.specs.Found.{frame_holding}
use Rattle.kernel_tables.specs.View.{Lists, placement_of}
use Rattle.kernel_tables.specs.Known.{Known}
use Rattle.kernel_tables.specs.Gone.{left_page, left_pages}
use Rattle.kernel_tables.proofs.Knows.{held_named}
use Rattle.table_steps.proofs.Residing.{Resides, seat_resides}
use Rattle.table_steps.proofs.Reclaims.{InvalidEntry, invalid_entry}
use Rattle.kernel_tables.proofs.Finds.{holding_none}
use Rattle.table_steps.proofs.LeftFrames.{SameFrames, AreListed, AreApart, same_found, holding_here, left_none, left_some, pages_same, pages_listed, pages_behind}

-- Where a page of text is that is in no transfer: in a frame off the free list, in a free frame, or in none.
pub data Rests (t : Lists) (q : Page) : Type 0 where
  Off : (f : ℕ) (token : Frame) (dirty : Bool) → slot_at t.slots f ≡ tokens.Resident token q dirty
      → (state_of (placement_of t) q ≡ Valid f) ⊎ (state_of (placement_of t) q ≡ Invalid f) → Rests t q
  Listed : (f : ℕ) (token : Frame) → slot_at t.slots f ≡ tokens.Free token (Some q) → state_of (placement_of t) q ≡ Invalid f → Rests t q
  Nowhere : frame_holding t.slots q ≡ None → (state_of (placement_of t) q ≡ OnSwap) ⊎ (state_of (placement_of t) q ≡ Unfilled) → Rests t q

pub rests : (t : Lists) (q : Page) → Known t → IsShared (placement_of t) q → AtRest (state_of (placement_of t) q) → Rests t q
rests t q k sh r = go (state_of (placement_of t) q) refl r
  where
    none : frame_of (state_of (placement_of t) q) ≡ None → frame_holding t.slots q ≡ None
    none e = holding_none t.slots q (λ g h. none_some g (sym e ∙ held_named t g q k h))

    seated : (f : ℕ) → state_of (placement_of t) q ≡ Valid f → Rests t q
    seated f e = let s : Resides t q f = seat_resides t q f k (record { state = inl e }) in Off f s.token s.dirty s.slot (inl e)

    idle : (f : ℕ) → state_of (placement_of t) q ≡ Invalid f → (x : Token) → slot_at t.slots f ≡ x → token_page x ≡ Some q → Rests t q
    idle f e (tokens.Free token page) h m = Listed f token (h ∙ ap (tokens.Free token) m) e
    idle f e (tokens.Resident token page dirty) h m = Off f token dirty (h ∙ ap (λ (p : Page). tokens.Resident token p dirty) (same_Some page q m)) (inr e)
    idle f e tokens.Away h m = none_some q m

    go : (s : PageState) → state_of (placement_of t) q ≡ s → AtRest s → Rests t q
    go Unfilled e a = Nowhere (none (ap frame_of e)) (inr e)
    go (Valid f) e a = seated f e
    go (Invalid f) e a = let i : InvalidEntry t q f = invalid_entry t q f k sh e in idle f e (slot_at t.slots f) refl i.held
    go (Coming f) e a = absurd a
    go (Going f) e a = absurd a
    go OnSwap e a = Nowhere (none (ap frame_of e)) (inl e)

-- One page leaves.

abbrev pub rest_state : Option ℕ → PageState
rest_state None = Unfilled
rest_state (Some f) = Invalid f

abbrev pub rest_slot : Option ℕ → Slot
rest_slot o = record { state = rest_state o; mark = false; filling = Zeros }

leave_as : (p : Placement) (q : Page) (s : PageState) → state_of p q ≡ s → leave_page p q ≡ leave_by p q s (listed_of p (frame_of s))
leave_as p q s e = ap (λ (x : PageState). leave_by p q x (listed_of p (frame_of x))) e

-- the page's slot, and the free list
record Leaves (p l : Placement) (q : Page) (o : Option ℕ) (map : Frames) : Type 0 where
  slot : slot_of l q ≡ rest_slot o
  free : l.free ≡ map.free

leave_one : (t : Lists) (p : Placement) (q : Page) (map : Frames) → AreApart t.slots → SameFrames t.slots map.slots → AreListed map
    → ((f : ℕ) → token_page (slot_at t.slots f) ≡ Some q → slot_at map.slots f ≡ slot_at t.slots f)
    → IsThere p q → slot_of p q ≡ slot_of (placement_of t) q → (slot_of (placement_of t) q).filling ≡ Zeros → p.free ≡ map.free → Rests t q
    → Leaves p (leave_page p q) q (frame_holding t.slots q) (left_page map q)
leave_one t p q map u s listed here there is filling free r = go r
  where
    state : state_of p q ≡ state_of (placement_of t) q
    state = ap (λ (x : Slot). x.state) is

    found : (f : ℕ) (x : Token) → slot_at t.slots f ≡ x → token_page x ≡ Some q → frame_holding t.slots q ≡ Some f
    found f x h m = holding_here t.slots f q (ap token_page h ∙ m) (λ g k. u g f q k (ap token_page h ∙ m))

    off : (f : ℕ) (token : Frame) (dirty : Bool) (l : Placement) → slot_at t.slots f ≡ tokens.Resident token q dirty → leave_page p q ≡ l
        → slot_of l q ≡ rest_slot (Some f) → l.free ≡ p.free ++ f ∷ []
        → Leaves p (leave_page p q) q (frame_holding t.slots q) (left_page map q)
    off f token dirty l h e sl fr =
        let f1 : frame_holding t.slots q ≡ Some f = found f (tokens.Resident token q dirty) h refl in
        let now : slot_at map.slots f ≡ tokens.Resident token q dirty = here f (ap token_page h) ∙ h in
        record {
          slot = ap (λ (x : Placement). slot_of x q) e ∙ sl ∙ ap rest_slot (sym f1);
          free = ap (λ (x : Placement). x.free) e ∙ fr ∙ ap (λ (x : List ℕ). x ++ f ∷ []) free
              ∙ sym (ap (λ (m : Frames). m.free) (left_some map q f (tokens.Resident token q dirty) (same_found t.slots map.slots q s ∙ f1) now));
        }

    nowhere : (l : Placement) → frame_holding t.slots q ≡ None → leave_page p q ≡ l
        → slot_of l q ≡ record { state = Unfilled; mark = false; filling = (slot_of p q).filling } → l.free ≡ p.free
        → Leaves p (leave_page p q) q (frame_holding t.slots q) (left_page map q)
    nowhere l n e sl fr = record {
      slot = ap (λ (x : Placement). slot_of x q) e ∙ sl
          ∙ ap (λ (y : Filling). let z : Slot = record { state = Unfilled; mark = false; filling = y } in z) (ap (λ (x : Slot). x.filling) is ∙ filling) ∙ ap rest_slot (sym n);
      free = ap (λ (x : Placement). x.free) e ∙ fr ∙ free ∙ sym (ap (λ (m : Frames). m.free) (left_none map q (same_found t.slots map.slots q s ∙ n)));
    }

    go : Rests t q → Leaves p (leave_page p q) q (frame_holding t.slots q) (left_page map q)
    go (Off f token dirty h (inl e)) = off f token dirty (leave_by p q (Valid f) (times f p.free)) h (leave_as p q (Valid f) (state ∙ e)) (put_same p q (Invalid f) false there) refl
    go (Off f token dirty h (inr e)) =
        let zero_times : times f p.free ≡ 0 = ap (times f) free ∙ listed f ∙ ap listings (here f (ap token_page h) ∙ h) in
        off f token dirty (leave_by p q (Invalid f) 0) h (leave_as p q (Invalid f) (state ∙ e) ∙ ap (leave_by p q (Invalid f)) zero_times) (put_same p q (Invalid f) false there) refl
    go (Listed f token h e) =
        let f1 : frame_holding t.slots q ≡ Some f = found f (tokens.Free token (Some q)) h refl in
        let now : slot_at map.slots f ≡ tokens.Free token (Some q) = here f (ap token_page h) ∙ h in
        let one : times f p.free ≡ 1 = ap (times f) free ∙ listed f ∙ ap listings now in
        let left : leave_page p q ≡ leave_by p q (Invalid f) 1 = leave_as p q (Invalid f) (state ∙ e) ∙ ap (leave_by p q (Invalid f)) one in
        record {
          slot = ap (λ (x : Placement). slot_of x q) left ∙ put_same p q (Invalid f) false there ∙ ap rest_slot (sym f1);
          free = ap (λ (x : Placement). x.free) left ∙ free ∙ sym (ap (λ (m : Frames). m.free) (left_some map q f (tokens.Free token (Some q)) (same_found t.slots map.slots q s ∙ f1) now));
        }
    go (Nowhere n (inl e)) = nowhere (leave_by p q OnSwap 0) n (leave_as p q OnSwap (state ∙ e)) (put_same p q Unfilled false there) refl
    go (Nowhere n (inr e)) = nowhere (leave_by p q Unfilled 0) n (leave_as p q Unfilled (state ∙ e)) (put_same p q Unfilled false there) refl

-- All pages of the text, from its first on.

pub leave_more : (qs : List Page) (p : Placement) (r : Page) → leave_all p (qs ++ r ∷ []) ≡ leave_page (leave_all p qs) r
leave_more [] p r = refl
leave_more (q ∷ qs) p r = leave_more qs (leave_page p q) r

pub pages_more : (q : Page) (lo n : ℕ) → pages_from q lo (suc n) ≡ pages_from q lo n ++ beside q (lo + n) ∷ []
pages_more q lo zero = ap (λ (k : ℕ). beside q k ∷ []) (omega arith)
pages_more q lo (suc n) = ap (λ (rs : List Page). beside q lo ∷ rs) (pages_more q (lo + 1) n ∙ ap (λ (k : ℕ). pages_from q (lo + 1) n ++ beside q k ∷ []) (omega arith))

abbrev pub first_pages : ℕ → ℕ → List Page
first_pages i v = pages_from (Text i 0) 0 v

first_more : (i v : ℕ) → first_pages i (suc v) ≡ first_pages i v ++ Text i v ∷ []
first_more i v = pages_more (Text i 0) 0 v ∙ ap (λ (k : ℕ). first_pages i v ++ Text i k ∷ []) (omega arith)

leave_next : (p : Placement) (i v : ℕ) → leave_all p (first_pages i (suc v)) ≡ leave_page (leave_all p (first_pages i v)) (Text i v)
leave_next p i v = ap (leave_all p) (first_more i v) ∙ leave_more (first_pages i v) p (Text i v)

page_number : (i v w : ℕ) → Text i w ≡ Text i v → w ≡ v
page_number i v w e = cc

-- a placement of the same texts and free list, so many of whose pages have left
pub record LeftTo (t : Lists) (p l : Placement) (i v : ℕ) (map : Frames) : Type 0 where
  pub free : l.free ≡ map.free
  pub before : (w : ℕ) → w < v → slot_of l (Text i w) ≡ rest_slot (frame_holding t.slots (Text i w))
  pub behind : (w : ℕ) → v ≤ w → slot_of l (Text i w) ≡ slot_of p (Text i w)

pub leave_pages : (t : Lists) (p : Placement) (i v : ℕ) (map : Frames) → Known t → map.slots ≡ t.slots → p.free ≡ map.free → AreListed map
    → ((w : ℕ) → w < v → IsThere p (Text i w)) → ((w : ℕ) → slot_of p (Text i w) ≡ slot_of (placement_of t) (Text i w))
    → ((w : ℕ) → w < v → (slot_of (placement_of t) (Text i w)).filling ≡ Zeros)
    → ((w : ℕ) → w < v → Rests t (Text i w)) → LeftTo t p (leave_all p (first_pages i v)) i v (left_pages map i v)
leave_pages t p i zero map k is free listed there same filling r = record { free = free; before = λ w l. absurd (omega arith); behind = λ w l. refl }
leave_pages t p i (suc v) map k is free listed there same filling r =
    let l : Placement = leave_all p (first_pages i v) in
    let to : leave_all p (first_pages i (suc v)) ≡ leave_page l (Text i v) = leave_next p i v in
    let unique : AreApart t.slots = k.core.unique in
    let next : LeftTo t p l i v (left_pages map i v) → LeftTo t p (leave_all p (first_pages i (suc v))) i (suc v) (left_pages map i (suc v)) = λ h.
    let one : Leaves l (leave_page l (Text i v)) (Text i v) (frame_holding t.slots (Text i v)) (left_pages map i (suc v)) =
    leave_one t l (Text i v) (left_pages map i v) unique
    (subst (λ (ss : List Token). SameFrames ss (left_pages map i v).slots) is (pages_same map i v))
    (pages_listed map i v listed)
    (λ f e. pages_behind map i v f v (ap (λ (ss : List Token). token_page (slot_at ss f)) is ∙ e) (omega arith) ∙ ap (λ (ss : List Token). slot_at ss f) is)
    (let a = there v (omega arith) in let b = leave_all_length (first_pages i v) p (Text i v) in omega arith)
    (h.behind v (omega arith) ∙ same v) (filling v (omega arith)) h.free (r v (omega arith)) in
    record {
      free = ap (λ (x : Placement). x.free) to ∙ one.free;
      before = λ w m. elim (cases_eq w v) [
        | inl e ↦ subst (λ (n : ℕ). slot_of (leave_all p (first_pages i (suc v))) (Text i n) ≡ rest_slot (frame_holding t.slots (Text i n))) (sym e)
            (ap (λ (x : Placement). slot_of x (Text i v)) to ∙ one.slot)
        | inr d ↦ ap (λ (x : Placement). slot_of x (Text i w)) to ∙ leave_other l (Text i v) (Text i w) (λ e. d (page_number i v w e)) ∙ h.before w (omega arith)
      ];
      behind = λ w m. ap (λ (x : Placement). slot_of x (Text i w)) to ∙ leave_other l (Text i v) (Text i w) (λ e. let x = page_number i v w e in absurd (omega arith)) ∙ h.behind w (omega arith);
    } in
    let h : LeftTo t p (leave_all p (first_pages i v)) i v (left_pages map i v) =
    leave_pages t p i v map k is free listed (λ w l. there w (omega arith)) same (λ w l. filling w (omega arith)) (λ w l. r w (omega arith)) in
    next h
