-- A part of a move may come where no reason is given, and there alone.
use Rattle.std.proofs.Common.{◌≡◌, ◌⊎◌, inl, inr, ℕ, ◌<◌, ◌≤◌, ◌&&◌, nat_lt, nat_le, Bool, true, false, not, List, [], ◌∷◌, length, Option, None, refl, sym, ap, ◌∙◌, arith}
use Rattle.std.proofs.lemmas.Bool.Decides.{nat_tests}
use Rattle.std.proofs.lemmas.List.{get_or_past}
use Rattle.vm_facts.specs.declared.page.Page.{Page}
use Rattle.vm_facts.specs.declared.page.PageState.{PageState}
use Rattle.vm_facts.specs.declared.page.PageState.TheVariants.{Unfilled, Valid, Invalid, Coming, Going, OnSwap}
use Rattle.flat_state.specs.PageNames.{number_of, beside, pages_from}
use Rattle.page_model.specs.Pages.{Slot, no_slot}
use Rattle.page_model.specs.Placement.{Placement, slots_of, state_of, is_dirty, IsThere}
use Rattle.page_model.specs.Conditions.{EachPage}
use Rattle.page_model.specs.Runs.{is_idle, is_near, most_written}
use Rattle.page_model.specs.Serve.{is_full}
use Rattle.kernel_model.specs.declared.part.HandPart.{HandPart}
use Rattle.kernel_model.specs.declared.part.HandPart.TheVariants as parts
use Rattle.kernel_model.specs.HandParts.{IsIdle, ExpireComes, WriteComes, FreeComes, PartComes}
use Rattle.kernel_model.proofs.Idle.{idle_is, is_idle_so}
use Rattle.paged_model.specs.declared.reason.Reason.{Reason}
use Rattle.paged_model.specs.declared.reason.Reason.TheVariants as reasons
use Rattle.paged_model.specs.Reasons.{unless, or_reason}
use Rattle.paged_model.specs.Moves.{is_there, if_there, no_room, wrong_length, each_page, apart}
use Rattle.paged_model.specs.Leaving.{unseated_by}
use Rattle.paged_model.specs.Parts.{expire_by, expire_reason, busy_if, busy, write_along, write_reason, free_reason, part_reason}
use Rattle.paged_model.proofs.Reasoned.{or_none, none_or, unless_none, none_unless}
use Rattle.paged_model.proofs.There.{there_true, if_there_none}
use Rattle.paged_model.proofs.Brought.{each_run, room_left, both_true}

-- Words.

-- a page that isn't unfilled is there
filled_there : (p : Placement) (q : Page) → (state_of p q ≡ Unfilled → ⊥) → IsThere p q
filled_there p q n =
    let le_or : (a b : ℕ) → (a < b) ⊎ (b ≤ a) = λ a b. grind arith in
    elim (le_or (number_of q) (length (slots_of p q))) [
      | inl l ↦ l
      | inr m ↦ absurd (n (ap (λ (x : Slot). x.state) (get_or_past (slots_of p q) (number_of q) no_slot m)))
    ]

none_there : (b : Bool) (q : Page) (r : Option Reason) → b ≡ true → r ≡ None → if_there b q r ≡ None
none_there true q r e h = h
none_there false q r e h = absurd cc

-- no page of a run gives a reason against what is so of each
none_each : (reason : Page → Option Reason) (P : Page → Type 0) → ((w : Page) → P w → reason w ≡ None) → (qs : List Page) → EachPage P qs
    → each_page reason qs ≡ None
none_each reason P f [] e = refl
none_each reason P f (q ∷ qs) e = none_or (reason q) (each_page reason qs) (f q e.0) (none_each reason P f qs e.1)

-- Idle pages.

pub unseated_some : (q : Page) (s : PageState) → unseated_by q s ≡ None → ⊥
unseated_some q (Invalid f) e = absurd cc
unseated_some q Unfilled e = absurd cc
unseated_some q (Valid f) e = absurd cc
unseated_some q (Coming f) e = absurd cc
unseated_some q (Going f) e = absurd cc
unseated_some q OnSwap e = absurd cc

busy_none : (p : Placement) (q : Page) → busy p q ≡ None → IsIdle p q
busy_none p q e = go (is_idle p q) refl e
  where
    go : (b : Bool) → is_idle p q ≡ b → busy_if p q b ≡ None → IsIdle p q
    go true i h = idle_is p q i
    go false i h = absurd (unseated_some q (state_of p q) h)

none_busy : (p : Placement) (q : Page) → IsIdle p q → busy p q ≡ None
none_busy p q i = ap (busy_if p q) (is_idle_so p q i)

idle_there : (p : Placement) (q : Page) → IsIdle p q → is_there p q ≡ true
idle_there p q i = there_true p q (filled_there p q (λ e. let x : Unfilled ≡ Invalid i.frame = sym e ∙ i.invalid in absurd cc))

-- `E`.

expire_comes : (p : Placement) (q : Page) → expire_reason p q ≡ None → ExpireComes p q
expire_comes p q e = go (state_of p q) refl (if_there_none (is_there p q) q (expire_by q (state_of p q)) e).1
  where
    go : (s : PageState) → state_of p q ≡ s → expire_by q s ≡ None → ExpireComes p q
    go (Valid f) i h = record { frame = f; valid = i }
    go Unfilled i h = absurd cc
    go (Invalid f) i h = absurd cc
    go (Coming f) i h = absurd cc
    go (Going f) i h = absurd cc
    go OnSwap i h = absurd cc

expire_none : (p : Placement) (q : Page) → ExpireComes p q → expire_reason p q ≡ None
expire_none p q c =
    none_there (is_there p q) q (expire_by q (state_of p q))
    (there_true p q (filled_there p q (λ e. let x : Unfilled ≡ Valid c.frame = sym e ∙ c.valid in absurd cc)))
    (ap (expire_by q) c.valid)

-- `W`.

record WritesAlong (p : Placement) (q w : Page) : Type 0 where
  idle : IsIdle p w
  dirty : is_dirty p w ≡ true
  near : is_near q (number_of w) ≡ true

along_is : (p : Placement) (q w : Page) → write_along p q w ≡ None → WritesAlong p q w
along_is p q w e =
    let rest = or_reason (unless (is_dirty p w) (reasons.IsClean w)) (apart q w) in
    let a = if_there_none (is_there p w) w (or_reason (busy p w) rest) e in
    let b = or_none (busy p w) rest a.1 in
    let c = or_none (unless (is_dirty p w) (reasons.IsClean w)) (apart q w) b.1 in
    record {
      idle = busy_none p w b.0;
      dirty = unless_none (is_dirty p w) (reasons.IsClean w) c.0;
      near = unless_none (is_near q (number_of w)) (reasons.InOtherChunk w) c.1;
    }

none_along : (p : Placement) (q w : Page) → WritesAlong p q w → write_along p q w ≡ None
none_along p q w a =
    let clean = unless (is_dirty p w) (reasons.IsClean w) in
    none_there (is_there p w) w (or_reason (busy p w) (or_reason clean (apart q w))) (idle_there p w a.idle)
    (none_or (busy p w) (or_reason clean (apart q w)) (none_busy p w a.idle)
    (none_or clean (apart q w) (none_unless (is_dirty p w) (reasons.IsClean w) a.dirty)
    (none_unless (is_near q (number_of w)) (reasons.InOtherChunk w) a.near)))

all_idle : (p : Placement) (q : Page) (ws : List Page) → EachPage (WritesAlong p q) ws → EachPage (IsIdle p) ws
all_idle p q [] e = tt
all_idle p q (w ∷ ws) e = let a : WritesAlong p q w = e.0 in (a.idle, all_idle p q ws e.1)

all_dirty : (p : Placement) (q : Page) (ws : List Page) → EachPage (WritesAlong p q) ws → EachPage (λ w. is_dirty p w ≡ true) ws
all_dirty p q [] e = tt
all_dirty p q (w ∷ ws) e = let a : WritesAlong p q w = e.0 in (a.dirty, all_dirty p q ws e.1)

all_near : (p : Placement) (q : Page) (ws : List Page) → EachPage (WritesAlong p q) ws → EachPage (λ w. is_near q (number_of w) ≡ true) ws
all_near p q [] e = tt
all_near p q (w ∷ ws) e = let a : WritesAlong p q w = e.0 in (a.near, all_near p q ws e.1)

all_along : (p : Placement) (q : Page) (ws : List Page) → EachPage (IsIdle p) ws → EachPage (λ w. is_dirty p w ≡ true) ws
    → EachPage (λ w. is_near q (number_of w) ≡ true) ws → EachPage (WritesAlong p q) ws
all_along p q [] i d n = tt
all_along p q (w ∷ ws) i d n = (record { idle = i.0; dirty = d.0; near = n.0 }, all_along p q ws i.1 d.1 n.1)

write_comes : (p : Placement) (q : Page) (n : ℕ) → write_reason p q n ≡ None → WriteComes p q n
write_comes p q n e =
    let ws = pages_from q (number_of q) n in
    let a = or_none (wrong_length n) (or_reason (each_page (write_along p q) ws) (no_room p)) e in
    let b = or_none (each_page (write_along p q) ws) (no_room p) a.1 in
    let c = both_true (nat_lt 0 n) (nat_le n most_written) (unless_none (nat_lt 0 n && nat_le n most_written) reasons.WrongLength a.0) in
    let each : EachPage (WritesAlong p q) (pages_from q (number_of q) n) =
    each_run q (write_along p q) (WritesAlong p q) (λ i h. along_is p q (beside q i) h) (number_of q) n b.0 in
    record {
      some = (let x : nat_lt 0 n ≡ true = c.0 in grind (arith, nat_tests));
      most = (let x : nat_le n 16 ≡ true = c.1 in grind (arith, nat_tests));
      idle = all_idle p q (pages_from q (number_of q) n) each;
      dirty = all_dirty p q (pages_from q (number_of q) n) each;
      near = all_near p q (pages_from q (number_of q) n) each;
      room = room_left p b.1;
    }

pub right_length : (n : ℕ) → 0 < n → n ≤ 16 → wrong_length n ≡ None
right_length n l m =
    let a : nat_lt 0 n ≡ true = grind (arith, nat_tests) in
    let b : nat_le n 16 ≡ true = grind (arith, nat_tests) in
    none_unless (nat_lt 0 n && nat_le n most_written) reasons.WrongLength (ap (λ (x : Bool). x && nat_le n most_written) a ∙ b)

has_room : (p : Placement) → length p.transfers < 16 → no_room p ≡ None
has_room p l =
    let f : is_full p ≡ false = grind (arith, nat_tests) in none_unless (not (is_full p)) reasons.FullFlight (ap not f)

write_none : (p : Placement) (q : Page) (n : ℕ) → WriteComes p q n → write_reason p q n ≡ None
write_none p q n c =
    let ws = pages_from q (number_of q) n in
    none_or (wrong_length n) (or_reason (each_page (write_along p q) ws) (no_room p)) (right_length n c.some c.most)
    (none_or (each_page (write_along p q) ws) (no_room p)
    (none_each (write_along p q) (WritesAlong p q) (none_along p q) (pages_from q (number_of q) n) (all_along p q (pages_from q (number_of q) n) c.idle c.dirty c.near))
    (has_room p c.room))

-- `F`.

pub not_true : (b : Bool) → not b ≡ true → b ≡ false
not_true false e = refl
not_true true e = absurd cc

free_comes : (p : Placement) (q : Page) → free_reason p q ≡ None → FreeComes p q
free_comes p q e =
    let dirty = unless (not (is_dirty p q)) (reasons.IsDirty q) in
    let a = if_there_none (is_there p q) q (or_reason (busy p q) dirty) e in
    let b = or_none (busy p q) dirty a.1 in
    record { idle = busy_none p q b.0; clean = not_true (is_dirty p q) (unless_none (not (is_dirty p q)) (reasons.IsDirty q) b.1) }

free_none : (p : Placement) (q : Page) → FreeComes p q → free_reason p q ≡ None
free_none p q c =
    let dirty = unless (not (is_dirty p q)) (reasons.IsDirty q) in
    none_there (is_there p q) q (or_reason (busy p q) dirty) (idle_there p q c.idle)
    (none_or (busy p q) dirty (none_busy p q c.idle) (none_unless (not (is_dirty p q)) (reasons.IsDirty q) (ap not c.clean)))

-- Each of them.

pub part_comes : (p : Placement) (x : HandPart) → part_reason p x ≡ None → PartComes p x
part_comes p (parts.Expires q) e = expire_comes p q e
part_comes p (parts.Writes q n) e = write_comes p q n e
part_comes p (parts.Frees q) e = free_comes p q e

pub part_none : (p : Placement) (x : HandPart) → PartComes p x → part_reason p x ≡ None
part_none p (parts.Expires q) c = expire_none p q c
part_none p (parts.Writes q n) c = write_none p q n c
part_none p (parts.Frees q) c = free_none p q c
