-- A page of a child is copied: what its steps ask, and what is so after them.
use Rattle.std.proofs.Common.{◌≡◌, ◌≢◌, inl, inr, ℕ, ◌<◌, Bool, true, false, ◌||◌, cond, List, [], ◌∷◌, length, Option, Some, None, refl, sym, ap, ◌∙◌, subst}
use Rattle.std.proofs.lemmas.Bool.{cases_lt}
use Rattle.std.proofs.lemmas.List.{get_or_past}
use Rattle.vm_facts.specs.declared.page.Page.{Page}
use Rattle.vm_facts.specs.declared.page.Page.TheVariants.{Data, Stack, Text}
use Rattle.vm_facts.specs.declared.page.PageState.{PageState}
use Rattle.vm_facts.specs.declared.page.PageState.TheVariants.{Unfilled, Valid, Invalid, Coming, Going, OnSwap}
use Rattle.vm_facts.specs.declared.entry.Entry.{Entry}
use Rattle.vm_facts.specs.declared.entry.Entry.TheVariants as entries
use Rattle.flat_state.specs.PageNames.{number_of, is_among}
use Rattle.flat_state.specs.Journal.{append}
use Rattle.flat_state.proofs.PageNames.{same_page_self}
use Rattle.page_model.specs.Pages.{Filling, Slot, no_slot, is_valid}
use Rattle.page_model.specs.Placement.{Placement, Due, CopyOf, due_of_page, state_of, filling_of, slots_of, IsThere}
use Rattle.page_model.specs.Place.{due_after, filled}
use Rattle.page_model.specs.Serve.{Serves, serve_step, Forces, force}
use Rattle.page_model.specs.Conditions.{IsShared, Spares}
use Rattle.page_model.specs.Dues.{IsDue, DueStand, NotDue}
use Rattle.page_model.specs.PageBytes.{IsWritable}
use Rattle.page_model.specs.Ownership.{OwnsFrames}
use Rattle.page_model.specs.Rank.{HasRoom}
use Rattle.page_laws.proofs.Moves.Stays.{Stays, force_stays}
use Rattle.page_laws.proofs.Moves.Puts.{SameRest, rest_by_puts, fill_kept}
use Rattle.page_laws.proofs.Ownership.Serve.{force_owner, serve_owner}
use Rattle.page_laws.proofs.Ends.Hands.{force_frames, serve_frames, room_still}
use Rattle.page_laws.proofs.Due.Entries.{serve_dues}
use Rattle.machine_state.specs.Calls.{CanCopy}
use Rattle.machine_state.specs.PlaceOf.{is_blank}
use Rattle.fault_fill.specs.Serving.{CanServe}
use Rattle.fault_fill.proofs.Serving.{still_served}
use Rattle.fault_fill.proofs.LastMoves.{last_of}
use Rattle.fault_fill.specs.LastMoves.{last_moves}
use Rattle.proc_calls.specs.Copying.{IsCopyFirst}

-- What is due first.

first_at : (child parent : Page) (ds : List Due) → due_of_page (CopyOf child parent ∷ ds) child ≡ Some (CopyOf child parent)
first_at child parent ds = ap (λ (b : Bool). cond b (Some (CopyOf child parent)) (due_of_page ds child)) (same_page_self child)

pub first_gone : (child parent : Page) (ds : List Due) → due_after (CopyOf child parent ∷ ds) child ≡ ds
first_gone child parent ds = ap (λ (b : Bool). cond b ds (CopyOf child parent ∷ ds)) (same_page_self child)

pub first_due : (p : Placement) (child parent : Page) → DueStand p → IsCopyFirst p child parent → IsDue p child (CopyOf child parent)
first_due p child parent d f = d child (CopyOf child parent) (ap (λ (ds : List Due). due_of_page ds child) f.first ∙ first_at child parent f.others)

-- The parent's page may be served.

filled_there : (p : Placement) (q : Page) → state_of p q ≢ Unfilled → IsThere p q
filled_there p q n = elim (cases_lt (number_of q) (length (slots_of p q))) [
  | inl l ↦ l
  | inr l ↦ absurd (n (ap (λ (x : Slot). x.state) (get_or_past (slots_of p q) (number_of q) no_slot l)))
]

is_shared : (p : Placement) (q : Page) → IsWritable q → IsShared p q
is_shared p (Data sid v) w = tt
is_shared p (Stack sid v) w = tt
is_shared p (Text image v) w = absurd w

not_blank : (s : PageState) (x : Filling) → is_blank s x ≡ true → s ≡ Unfilled
not_blank Unfilled x e = refl
not_blank (Valid f) x e = absurd cc
not_blank (Invalid f) x e = absurd cc
not_blank (Coming f) x e = absurd cc
not_blank (Going f) x e = absurd cc
not_blank OnSwap x e = absurd cc

parent_fresh : (p : Placement) (q : Page) → DueStand p → state_of p q ≢ Unfilled → NotDue p.due q
parent_fresh p q d n = go (due_of_page p.due q) refl
  where
    go : (o : Option Due) → due_of_page p.due q ≡ o → o ≡ None
    go None e = refl
    go (Some x) e = absurd (n (d q x e).unfilled)

pub can_serve : (p : Placement) (child parent : Page) → DueStand p → IsCopyFirst p child parent → CanServe p parent
can_serve p child parent d f =
    let source : IsWritable parent × (state_of p parent ≢ Unfilled) = (first_due p child parent d f).source in
    record {
      there = filled_there p parent source.1;
      shared = is_shared p parent source.0;
      fresh = parent_fresh p parent d source.1;
      blank = λ b. absurd (source.1 (not_blank (state_of p parent) (filling_of p parent) b));
    }

-- What stays through serving and forcing.

pub record Stay (p r : Placement) : Type 0 where
  pub due : r.due ≡ p.due
  pub frames : length r.holds ≡ length p.holds
  pub owner : OwnsFrames r

stay_further : (p q r : Placement) → q.due ≡ p.due → length q.holds ≡ length p.holds → Stay q r → Stay p r
stay_further p q r d f s = record { due = s.due ∙ d; frames = s.frames ∙ f; owner = s.owner }

pub serves_stay : (us : List Entry) (p r : Placement) (locked : List Page) (q : Page) → OwnsFrames p → CanServe p q → Serves us p locked q true r → Stay p r
serves_stay [] p r locked q o c s = record { due = ap (λ (x : Placement). x.due) (sym s); frames = ap (λ (x : Placement). length x.holds) (sym s); owner = subst OwnsFrames s o }
serves_stay (e ∷ us) p r locked q o c s =
    stay_further p (serve_step p locked q) r (serve_dues p locked q o c.fresh) (serve_frames p locked q o)
    (serves_stay us (serve_step p locked q) r locked q (serve_owner p locked q o c.there) (still_served p locked q o c) s.1)

pub forces_stay : (us : List Entry) (p r : Placement) (locked : List Page) → OwnsFrames p → Forces us p locked r → Stay p r
forces_stay [] p r locked o s = record { due = ap (λ (x : Placement). x.due) (sym s); frames = ap (λ (x : Placement). length x.holds) (sym s); owner = subst OwnsFrames s o }
forces_stay (e ∷ us) p r locked o s =
    stay_further p (force p locked) r (let t : Stays p (force p locked) = force_stays p locked o in t.due) (force_frames p locked o)
    (forces_stay us (force p locked) r locked (force_owner p locked o) s.2)

pub stay_both : (p q r : Placement) → Stay p q → Stay q r → Stay p r
stay_both p q r a b = stay_further p q r a.due a.frames b

pub first_stays : (p r : Placement) (child parent : Page) → r.due ≡ p.due → IsCopyFirst p child parent → IsCopyFirst r child parent
first_stays p r child parent e f = record { others = f.others; first = e ∙ f.first }

-- The copy.

valid_in : (s : PageState) → is_valid s ≡ true → (f : ℕ) × (s ≡ Valid f)
valid_in (Valid f) e = (f, refl)
valid_in Unfilled e = absurd cc
valid_in (Invalid f) e = absurd cc
valid_in (Coming f) e = absurd cc
valid_in (Going f) e = absurd cc
valid_in OnSwap e = absurd cc

pub is_alone : (q : Page) → is_among q (q ∷ []) ≡ true
is_alone q = ap (λ (b : Bool). b || false) (same_page_self q)

pub can_copy : (p r : Placement) (child parent : Page) → DueStand r → IsCopyFirst r child parent → Spares p r (parent ∷ [])
    → is_valid (state_of p parent) ≡ true
    → 0 < length r.free → CanCopy r child parent
can_copy p r child parent d f spares valid free =
    let due : IsDue r child (CopyOf child parent) = first_due r child parent d f in
    let v = valid_in (state_of r parent) (spares parent (is_alone parent) valid) in
    record {
      writable = due.writable;
      there = due.there;
      unfilled = due.unfilled;
      others = f.others;
      first = f.first;
      frame = v.0;
      valid = v.1;
      free = free;
    }

pub filled_frames : (p : Placement) (q : Page) → length (filled p q).holds ≡ length p.holds
filled_frames p q = let s : SameRest p (Rattle.page_model.specs.Moves.fill p q) = fill_kept rest_by_puts p q in s.count

pub last_copy : (journal : List Entry) (q : Page) → last_moves (append journal (entries.Copy q)) ≡ 0
last_copy journal q = last_of journal (entries.Copy q)

-- as much room where another page is locked
pub room_for : (p r : Placement) (a b : Page) → length r.holds ≡ length p.holds → HasRoom p (a ∷ []) → HasRoom r (b ∷ [])
room_for p r a b e h = room_still p r (b ∷ []) e (record { quarter = h.quarter; rest = h.rest })
