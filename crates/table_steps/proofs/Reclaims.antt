-- A page that a frame still holds is usable again.
use Rattle.std.proofs.Common.{◌≡◌, ◌≢◌, inl, inr, ℕ, ◌-◌, ◌<◌, Bool, true, false, List, [], ◌∷◌, ◌++◌, length, map, set, Option, Some, IsSome, refl, sym, ap, ◌∙◌, subst}
use Rattle.std.specs.List.{range_with_len}
use Rattle.std.proofs.lemmas.Bool.{cases_eq}
use Rattle.std.proofs.lemmas.List.{length-set, get_or-set_same, get_or-set_other}
use Rattle.vm_facts.specs.declared.page.Page.{Page}
use Rattle.vm_facts.specs.declared.page.Page.TheVariants.{Data, Stack, Text}
use Rattle.vm_facts.specs.declared.page.PageState.TheVariants.{Valid, Invalid}
use Rattle.vm_facts.specs.declared.entry.Entry.{Entry}
use Rattle.vm_facts.specs.declared.entry.Entry.TheVariants as entries
use Rattle.vax_pte.specs.declared.Place.{Place}
use Rattle.vax_pte.specs.declared.Place.TheVariants as places
use Rattle.core_map.specs.declared.slot.Slot.{Slot as Token}
use Rattle.core_map.specs.declared.slot.Slot.TheVariants as tokens
use Rattle.core_map.specs.Slots.{slot_at, slot_page as token_page}
use Rattle.vm_facts.specs.Lists.{without}
use Rattle.space_map.specs.Space.{Places}
use Rattle.text_table.specs.Texts.{is_saved, text_numbered}
use Rattle.page_model.specs.Pages.{Slot, Zeros, frame_of}
use Rattle.page_model.specs.Placement.{Placement, slot_of, state_of, mark_of, page_of, IsThere, put}
use Rattle.page_model.specs.Moves.{reclaim, reclaim_to}
use Rattle.page_model.specs.Conditions.{IsShared}
use Rattle.kernel_model.specs.Kernel.{Kernel, reclaim_step}
use Rattle.kernel_model.specs.Sound.{Sound}
use Rattle.page_laws.proofs.Lists.Local.{none_some}
use Rattle.std.proofs.lemmas.Option.{same_Some}
use Rattle.page_laws.proofs.Moves.Steps.{page_in}
use Rattle.kernel_tables.proofs.Moves.{reclaim_coupled_step}
use Rattle.page_laws.proofs.Bytes.Others.{reclaim_same}
use Rattle.kernel_tables.specs.declared.tables.Tables.{Tables}
use Rattle.kernel_tables.specs.Shown.{changed_shown, slot_shown, text_shown, entry_in, changed_named}
use Rattle.kernel_tables.specs.TableViewShown.{is_away, idle_state, state_shown}
use Rattle.kernel_tables.specs.View.{Lists, Flown, text_place_by, flown_at, page_by, bytes_by, page_held, bytes_held, placement_of, frames_of}
use Rattle.kernel_tables.specs.Known.{Known}
use Rattle.kernel_tables.specs.Steps.{revived, reclaimed, dirty_shown}
use Rattle.kernel_tables.specs.Moves.{RevivedPage}
use Rattle.kernel_tables.specs.Machine.{lists_of, kernel_by}
use Rattle.kernel_tables.specs.Conditions.{KeepsFlat, SameEverywhere}
use Rattle.kernel_tables.proofs.Shows.{slot_or, data_shown, stack_shown, text_at, text_within, SameLists, segments_are}
use Rattle.kernel_tables.proofs.Finds.{holding_set}
use Rattle.kernel_tables.proofs.Held.{held_at, above_zero, below_length, placement_ext}
use Rattle.kernel_tables.proofs.Arrives.{page_shown, Arrives, arrives_moved, arrived}
use Rattle.kernel_tables.proofs.Evicts.{frames_same}
use Rattle.kernel_tables.proofs.Comes.{shared_entry}
use Rattle.kernel_tables.proofs.Kernels.{kernel_ext}
use Rattle.kernel_tables.proofs.Marks.{placed_mark}
use Rattle.text_table.specs.Texts.{Text as SharedText}
use Rattle.kernel_laws.proofs.Machine.Done.{some_of}

-- The entry of an invalid page.

pub record InvalidEntry (t : Lists) (q : Page) (f : ℕ) : Type 0 where
  pub changed : Bool
  pub entry : entry_in t.spaces q ≡ Some (places.Frame f false changed)
  pub held : token_page (slot_at t.slots f) ≡ Some q
  pub mark : page_shown t q (places.Frame f true (dirty_shown t.spaces t.texts q))
      ≡ record { state = Valid f; mark = mark_of (placement_of t) q; filling = Zeros }

idle_is : (slots : List Token) (x : Place) (f : ℕ) → state_shown slots x ≡ Invalid f
    → (c : Bool) × (x ≡ places.Frame f false c) × (is_away (slot_at slots f) ≡ false)
idle_is slots (places.Frame g false c) f e = go (is_away (slot_at slots g)) c refl e
  where
    go : (a d : Bool) → is_away (slot_at slots g) ≡ a → idle_state g a d ≡ Invalid f → (k : Bool) × (places.Frame g false c ≡ places.Frame f false k) × (is_away (slot_at slots f) ≡ false)
    go false d h i =
        let same : g ≡ f = cc in
        (c, ap (λ (n : ℕ). places.Frame n false c) same, subst (λ (n : ℕ). is_away (slot_at slots n) ≡ false) same h)
    go true true h i = absurd cc
    go true false h i = absurd cc
idle_is slots _ f e = absurd cc

present : (s : Token) (o : Option Flown) (q : Page) → is_away s ≡ false → page_by s o ≡ Some q → token_page s ≡ Some q
present tokens.Away o q a e = absurd (let k : true ≡ false = a in cc)
present _ o q a e = e

not_away : (s : Token) → is_away s ≡ false → s ≢ tokens.Away
not_away s e n = absurd (let k : true ≡ false = sym (ap is_away n) ∙ e in cc)

pub held_is : (t : Lists) (q : Page) (f : ℕ) → Known t → state_of (placement_of t) q ≡ Invalid f → is_away (slot_at t.slots f) ≡ false
    → token_page (slot_at t.slots f) ≡ Some q
held_is t q f k e a =
    let n = not_away (slot_at t.slots f) a in
    present (slot_at t.slots f) (flown_at t.flown f) q a (sym (held_at t f (above_zero t.free t.slots f k.core n) (below_length t.slots f n)) ∙ k.owns.names q f (ap frame_of e))

pub invalid_entry : (t : Lists) (q : Page) (f : ℕ) → Known t → IsShared (placement_of t) q → state_of (placement_of t) q ≡ Invalid f → InvalidEntry t q f
invalid_entry t q f k sh e = go q sh e (page_in (placement_of t) q f (ap frame_of e)) (some_of (entry_in t.spaces q) (shared_entry t q k.tied sh (page_in (placement_of t) q f (ap frame_of e)))).0
    (some_of (entry_in t.spaces q) (shared_entry t q k.tied sh (page_in (placement_of t) q f (ap frame_of e)))).1
  where
    go : (r : Page) → IsShared (placement_of t) r → state_of (placement_of t) r ≡ Invalid f → IsThere (placement_of t) r → (x : Place) → entry_in t.spaces r ≡ Some x → InvalidEntry t r f
    go (Data n v) s i th x h =
        let was : slot_of (placement_of t) (Data n v) ≡ slot_shown t.slots x = data_shown t.slots t.spaces n v k.differ ∙ ap (slot_or (slot_shown t.slots)) h in
        let d = idle_is t.slots x f (sym (ap (λ (y : Slot). y.state) was) ∙ i) in
        record {
          changed = d.0;
          entry = h ∙ ap (λ (y : Place). Some y) d.1;
          held = held_is t (Data n v) f k i d.2;
          mark = ap (λ (b : Bool). let z : Slot = record { state = Valid f; mark = b; filling = Zeros } in z)
              (ap changed_named (h ∙ ap (λ (y : Place). Some y) d.1) ∙ sym (ap (λ (y : Slot). y.mark) was ∙ ap changed_shown d.1));
        }
    go (Stack n v) s i th x h =
        let was : slot_of (placement_of t) (Stack n v) ≡ slot_shown t.slots x = stack_shown t.slots t.spaces n v k.differ ∙ ap (slot_or (slot_shown t.slots)) h in
        let d = idle_is t.slots x f (sym (ap (λ (y : Slot). y.state) was) ∙ i) in
        record {
          changed = d.0;
          entry = h ∙ ap (λ (y : Place). Some y) d.1;
          held = held_is t (Stack n v) f k i d.2;
          mark = ap (λ (b : Bool). let z : Slot = record { state = Valid f; mark = b; filling = Zeros } in z)
              (ap changed_named (h ∙ ap (λ (y : Place). Some y) d.1) ∙ sym (ap (λ (y : Slot). y.mark) was ∙ ap changed_shown d.1));
        }
    go (Text a v) s i th x h =
        let was : slot_of (placement_of t) (Text a v) ≡ text_shown t.slots (is_saved (text_numbered t.texts a) v) x =
        text_at t a v (text_within t a v th) ∙ ap (λ (o : Option Place). text_shown t.slots (is_saved (text_numbered t.texts a) v) (text_place_by o t.slots (Text a v) v)) h in
        let d = idle_is t.slots x f (sym (ap (λ (y : Slot). y.state) was) ∙ i) in
        record {
          changed = d.0;
          entry = h ∙ ap (λ (y : Place). Some y) d.1;
          held = held_is t (Text a v) f k i d.2;
          mark = ap (λ (b : Bool). let z : Slot = record { state = Valid f; mark = b; filling = Zeros } in z) (sym (ap (λ (y : Slot). y.mark) was));
        }

-- The step.

revived_page : (s : Token) (q : Page) (c : Bool) → token_page s ≡ Some q → token_page (revived s q c) ≡ Some q
revived_page (tokens.Free token page) q c e = refl
revived_page (tokens.Resident token page dirty) q c e = e
revived_page tokens.Away q c e = none_some q e

revived_held : (s : Token) (q : Page) (c : Bool) (o : Option Flown) → token_page s ≡ Some q → page_by (revived s q c) o ≡ page_by s o
revived_held (tokens.Free token page) q c o e = sym e
revived_held (tokens.Resident token page dirty) q c o e = refl
revived_held tokens.Away q c o e = none_some q e

revived_bytes : (s : Token) (q : Page) (c : Bool) (o : Option Flown) → bytes_by (revived s q c) o ≡ bytes_by s o
revived_bytes (tokens.Free token page) q c o = refl
revived_bytes _ q c o = refl

below : (t : Lists) (f : ℕ) (q : Page) → token_page (slot_at t.slots f) ≡ Some q → f < length t.slots
below t f q e = below_length t.slots f (λ n. none_some q (sym (ap token_page n) ∙ e))

pub reclaim_is : (t : Lists) (q : Page) (f : ℕ) (i : InvalidEntry t q f) → Known t → state_of (placement_of t) q ≡ Invalid f
    → placement_of (reclaimed t q f (revived (slot_at t.slots f) q (dirty_shown t.spaces t.texts q)) (dirty_shown t.spaces t.texts q))
    ≡ reclaim (placement_of t) q
reclaim_is t q f i k e =
    let s : Token = revived (slot_at t.slots f) q (dirty_shown t.spaces t.texts q) in
    let n : Lists = reclaimed t q f s (dirty_shown t.spaces t.texts q) in
    let p : Placement = placement_of t in
    let place : Place = places.Frame f true (dirty_shown t.spaces t.texts q) in
    let holds : page_of p f ≡ Some q = k.owns.names q f (ap frame_of e) in
    let a : Arrives t n q f place = record {
      differ = k.differ;
      apart = λ w d m. d (same_Some w q (sym (k.owns.names w f m) ∙ holds));
      slots = λ g d. get_or-set_other t.slots f g s tokens.Away d;
      cached = λ x v d. holding_set t.slots f s (Text x v) (λ m. d (same_Some (Text x v) q (sym m ∙ i.held)))
          (λ m. d (same_Some (Text x v) q (sym m ∙ revived_page (slot_at t.slots f) q (dirty_shown t.spaces t.texts q) i.held)));
      spaces = refl;
      saved = λ x v d l. refl;
      facts = refl;
      there = page_in p q f (ap frame_of e);
      entry = subst IsSome (sym i.entry) refl;
    } in
    let shown : page_shown n q place ≡ page_shown t q place = same_shown q place in
    let l : SameLists n (put p q (Valid f) (mark_of p q)) =
    segments_are t n q f (Valid f) (mark_of p q) (arrives_moved t n q f place a) (record { there = a.there; slot = arrived t n q f place a ∙ shown ∙ i.mark }) in
    placement_ext (placement_of n) (reclaim_to p q (Invalid f)) l.spaces l.texts
    (ap (λ (m : ℕ). map (page_held n) (range_with_len 1 (m - 1))) (length-set t.slots f s)
    ∙ frames_same (page_held t) (page_held n) (range_with_len 1 (length t.slots - 1)) (λ g. elim (cases_eq g f) [
      | inl h ↦ subst (λ (m : ℕ). page_held n m ≡ page_held t m) (sym h) (ap (λ (y : Token). page_by y (flown_at t.flown f)) (get_or-set_same t.slots f s tokens.Away (below t f q i.held))
          ∙ revived_held (slot_at t.slots f) q (dirty_shown t.spaces t.texts q) (flown_at t.flown f) i.held)
      | inr d ↦ ap (λ (y : Token). page_by y (flown_at t.flown g)) (get_or-set_other t.slots f g s tokens.Away d)
    ]))
    refl refl refl refl refl refl
    ∙ sym (ap (reclaim_to p q) e)
  where
    same_shown : (r : Page) (x : Place) → page_shown (reclaimed t q f (revived (slot_at t.slots f) q (dirty_shown t.spaces t.texts q)) (dirty_shown t.spaces t.texts q)) r
        (places.Frame f true (dirty_shown t.spaces t.texts q)) ≡ page_shown t r (places.Frame f true (dirty_shown t.spaces t.texts q))
    same_shown (Data a v) x = refl
    same_shown (Stack a v) x = refl
    same_shown (Text a v) x = refl

pub reclaim_frames : (t : Lists) (q : Page) (f : ℕ) (c : Bool) → token_page (slot_at t.slots f) ≡ Some q
    → frames_of (reclaimed t q f (revived (slot_at t.slots f) q c) c) ≡ frames_of t
reclaim_frames t q f c e =
    let s : Token = revived (slot_at t.slots f) q c in
    let n : Lists = reclaimed t q f s c in
    ap (λ (m : ℕ). map (bytes_held n) (range_with_len 1 (m - 1))) (length-set t.slots f s)
    ∙ frames_same (bytes_held t) (bytes_held n) (range_with_len 1 (length t.slots - 1)) (λ g. elim (cases_eq g f) [
      | inl h ↦ subst (λ (m : ℕ). bytes_held n m ≡ bytes_held t m) (sym h)
          (ap (λ (y : Token). bytes_by y (flown_at t.flown f)) (get_or-set_same t.slots f s tokens.Away (below t f q e)) ∙ revived_bytes (slot_at t.slots f) q c (flown_at t.flown f))
      | inr d ↦ ap (λ (y : Token). bytes_by y (flown_at t.flown g)) (get_or-set_other t.slots f g s tokens.Away d)
    ])

-- The call.

pub record Reclaiming (t u : Tables) (q : Page) (f : ℕ) : Type 0 where
  pub known : Known (lists_of t)
  pub invalid : state_of (placement_of (lists_of t)) q ≡ Invalid f
  pub entry : InvalidEntry (lists_of t) q f
  pub revived_it : RevivedPage t u q f (dirty_shown t.spaces t.texts q)

pub reclaiming_lists : (t u : Tables) (q : Page) (f : ℕ) (r : Reclaiming t u q f)
    → lists_of u ≡ reclaimed (lists_of t) q f (revived (slot_at t.core.slots f) q (dirty_shown t.spaces t.texts q)) (dirty_shown t.spaces t.texts q)
reclaiming_lists t u q f r =
    ap lists_of r.revived_it.rest
    ∙ ap (λ (ss : List Token). record (lists_of t) { slots = ss; free = u.core.free; spaces = u.spaces }) r.revived_it.slots
    ∙ ap (λ (fs : List ℕ). record (lists_of t) { slots = set t.core.slots f (revived (slot_at t.core.slots f) q (dirty_shown t.spaces t.texts q)); free = fs; spaces = u.spaces }) r.revived_it.free
    ∙ ap (λ (ss : List Places). record (lists_of t) {
      slots = set t.core.slots f (revived (slot_at t.core.slots f) q (dirty_shown t.spaces t.texts q));
      free = without f t.core.free;
      spaces = ss;
    }) r.revived_it.spaces

pub reclaim_kernel : (t u : Tables) (q : Page) (f : ℕ) (journal : List Entry) (stopped : Bool) → Reclaiming t u q f
    → kernel_by u (journal ++ entries.Reclaim q ∷ []) stopped ≡ reclaim_step (kernel_by t journal stopped) q
reclaim_kernel t u q f journal stopped r =
    let l = reclaiming_lists t u q f r in
    let rest = r.revived_it.rest in
    kernel_ext (kernel_by u (journal ++ entries.Reclaim q ∷ []) stopped) (reclaim_step (kernel_by t journal stopped) q)
    (ap placement_of l ∙ reclaim_is (lists_of t) q f r.entry r.known r.invalid)
    (ap (λ (x : Tables). x.book.holdings) rest)
    (ap (λ (x : Tables). Rattle.kernel_tables.specs.Machine.processes_of x.processes x.next_pid) rest)
    (ap (λ (x : Tables). x.next_pid) rest)
    (ap (λ (x : Tables). x.next_sid) rest)
    (ap (λ (x : Tables). Rattle.kernel_tables.specs.View.starts_of x.fills.items) rest)
    (ap frames_of l ∙ reclaim_frames (lists_of t) q f (dirty_shown t.spaces t.texts q) r.entry.held)
    refl
    refl

pub revived_mark : (ss : List Places) (ts : List SharedText) (f : ℕ) (q : Page)
    → dirty_shown ss ts q ≡ placed_mark ts (places.Frame f true (dirty_shown ss ts q)) q
revived_mark ss ts f (Data n v) = refl
revived_mark ss ts f _ = refl

pub reclaim_keeps : (size : ℕ) (k : Kernel) (q : Page) → Sound size k → KeepsFlat k (reclaim_step k q)
reclaim_keeps size k q so images image flat c = reclaim_coupled_step size k images image flat q so c

pub reclaim_alike : (k : Kernel) (q : Page) → SameEverywhere k (reclaim_step k q)
reclaim_alike k q images image flat w =
    let s = reclaim_same k.place q (Rattle.kernel_model.specs.Coupled.beside_kernel k images image flat) w in
    record { frames = s.frames; swap = s.swap; start = s.start }
