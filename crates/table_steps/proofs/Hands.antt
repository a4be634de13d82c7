-- A move of the hands, from what the calls of the tables leave.
use Rattle.std.proofs.Common.{◌≡◌, ◌≢◌, inl, inr, ℕ, zero, suc, ◌-◌, ◌/◌, ◌<◌, ◌≤◌, Bool, true, false, not, ◌&&◌, cond, List, length, map, Option, Some, None, refl, sym, ap, ◌∙◌, subst, arith}
use Rattle.vm_facts.specs.declared.page.Page.{Page}
use Rattle.vm_facts.specs.declared.page.Page.TheVariants.{Data, Stack, Text}
use Rattle.vm_facts.specs.declared.page.PageState.{PageState}
use Rattle.vm_facts.specs.declared.page.PageState.TheVariants.{Unfilled, Valid, Invalid, Coming, Going, OnSwap}
use Rattle.vax_pte.specs.declared.Place.{Place}
use Rattle.vax_pte.specs.declared.Place.TheVariants as places
use Rattle.frame_state.specs.Frame.{Frame}
use Rattle.core_map.specs.declared.slot.Slot.{Slot as Token}
use Rattle.core_map.specs.declared.slot.Slot.TheVariants as tokens
use Rattle.core_map.specs.Slots.{slot_at}
use Rattle.swap_book.specs.Holdings.{Holdings}
use Rattle.flat_state.specs.PageNames.{number_of, beside, is_among}
use Rattle.flat_state.specs.Numbers.{AllDistinct}
use Rattle.page_model.specs.Frames.{next_frame}
use Rattle.page_model.specs.Pages.{Slot, Zeros}
use Rattle.page_model.specs.Placement.{Placement, state_of, mark_of, is_dirty, page_of, IsThere}
use Rattle.page_model.specs.Moves.{turn}
use Rattle.page_model.specs.Runs.{Run, run_out, pages_of_run, goes_along, is_idle, is_near, most_written}
use Rattle.page_model.specs.Hands.{expire, expire_of, expire_if, expire_to, sweep, taken, sweep_taken, sweep_by, write_taken, write_by, back_run, hand_run, advance, hand_move}
use Rattle.page_model.specs.Rank.{HandsStand}
use Rattle.page_model.specs.Conditions.{EachPage, HasSeat, IsSeated}
use Rattle.page_model.specs.Ownership.{OwnsFrames, TextAside}
use Rattle.kernel_model.specs.Kernel.{Kernel, hand_step}
use Rattle.kernel_model.specs.Coupled.{beside_kernel}
use Rattle.kernel_model.specs.Sound.{Sound}
use Rattle.page_laws.proofs.Lists.Local.{none_some}
use Rattle.std.proofs.lemmas.Option.{same_Some}
use Rattle.page_laws.proofs.Lists.Runs.{run_each, run_both_in}
use Rattle.std.proofs.lemmas.Bool.{and_parts}
use Rattle.page_laws.proofs.Ownership.Pages.{expire_owner, expire_turns}
use Rattle.page_laws.proofs.Ownership.Runs.{clean_unmarked}
use Rattle.page_laws.proofs.Ownership.Hands.{run_out_seats}
use Rattle.page_laws.proofs.Blocks.Aside.{IsBusy, turn_aside}
use Rattle.page_laws.proofs.Blocks.Steps.{shared_as}
use Rattle.page_laws.proofs.Runs.Neighbours.{widest_out}
use Rattle.page_laws.proofs.Moves.Hands.{walk_in}
use Rattle.page_laws.proofs.Moves.HandRuns.{hand_begun, hand_rests, hand_some}
use Rattle.page_laws.proofs.Moves.Stays.{expire_transfers, move_stays}
use Rattle.page_laws.proofs.Moves.Transfers.{launch_run_count}
use Rattle.page_laws.proofs.Bytes.Others.{stays_same}
use Rattle.kernel_tables.proofs.Moves.{hand_coupled_step}
use Rattle.kernel_tables.specs.declared.tables.Tables.{Tables}
use Rattle.kernel_tables.specs.Shown.{entry_in, placed, changed_named}
use Rattle.kernel_tables.specs.TableViewShown.{is_away, idle_state}
use Rattle.kernel_tables.specs.View.{Lists, placement_of, frames_of}
use Rattle.kernel_tables.specs.Known.{Known}
use Rattle.kernel_tables.specs.Machine.{lists_of, image_at}
use Rattle.kernel_tables.specs.Calls.{IsRunOf}
use Rattle.kernel_tables.specs.Conditions.{KeepsFlat, SameEverywhere}
use Rattle.kernel_tables.specs.Launches.{MayPutOut, MayWriteRun, HasBlocks, MovedOn, put_out, valid_named, under, under_by, under_if, expired, expired_by}
use Rattle.kernel_tables.proofs.Entries.{head_of}
use Rattle.kernel_tables.proofs.Shows.{head_sids, lengths_same}
use Rattle.kernel_tables.proofs.Held.{holds_length}
use Rattle.kernel_tables.proofs.Arrives.{page_shown}
use Rattle.kernel_tables.proofs.Likes.{frame_fits}
use Rattle.kernel_tables.proofs.Kept.{sharers_heads}
use Rattle.table_steps.proofs.Residing.{Resides, resides, seat_resides, resides_state}
use Rattle.table_steps.proofs.Turning.{Turning, turn_is, turn_frames, turn_heads, turn_tied}
use Rattle.table_steps.proofs.Puttings.{put_some}
use Rattle.kernel_tables.proofs.Marks.{placed_mark, resident_page, resident_mark}
use Rattle.text_table.specs.Texts.{Text as SharedText}
use Rattle.space_map.specs.Space.{Places}
use Rattle.kernel_tables.specs.Steps.{dirty_shown}
use Rattle.page_laws.proofs.Moves.Taken.{IsTaken, is_taken, taken_is, taken_none, taken_state, taken_seat}

-- What the definitions say, by cases.

expire_kept : (p : Placement) (locked : List Page)
    → ((q : Page) (f : ℕ) → page_of p p.front ≡ Some q → is_among q locked ≡ false → state_of p q ≡ Valid f → ⊥) → expire p locked ≡ p
expire_kept p locked never = go (page_of p p.front) refl
  where
    to : (q : Page) (s : PageState) → page_of p p.front ≡ Some q → is_among q locked ≡ false → state_of p q ≡ s → expire_to p q s ≡ p
    to q (Valid f) h b e = absurd (never q f h b e)
    to q Unfilled h b e = refl
    to q (Invalid f) h b e = refl
    to q (Coming f) h b e = refl
    to q (Going f) h b e = refl
    to q OnSwap h b e = refl

    at : (q : Page) (b : Bool) → page_of p p.front ≡ Some q → is_among q locked ≡ b → expire_if p q b ≡ p
    at q true h e = refl
    at q false h e = to q (state_of p q) h e refl

    go : (o : Option Page) → page_of p p.front ≡ o → expire_of p locked o ≡ p
    go None h = refl
    go (Some q) h = at q (is_among q locked) h refl

expire_at : (p : Placement) (locked : List Page) (q : Page) (f : ℕ) → page_of p p.front ≡ Some q → is_among q locked ≡ false → state_of p q ≡ Valid f
    → expire p locked ≡ turn p q (Invalid f) (mark_of p q) p.free p.transfers
expire_at p locked q f h b e = ap (expire_of p locked) h ∙ ap (expire_if p q) b ∙ ap (expire_to p q) e

-- What stands at a frame.

-- no page is in the frame off the free list
abbrev Vacant : Lists → ℕ → Type 0
Vacant t f = (q : Page) (g : ℕ) → page_of (placement_of t) f ≡ Some q → IsSeated (placement_of t) q g → ⊥

vacant_by : (t : Lists) (f : ℕ) → Known t → ((token : Frame) (q : Page) (dirty : Bool) → slot_at t.slots f ≢ tokens.Resident token q dirty) → Vacant t f
vacant_by t f k never q g h s =
    let r : Resides t q g = seat_resides t q g k s in
    let same : g ≡ f = same_Some g f (sym r.named ∙ k.owns.named f q h) in
    never r.token q r.dirty (ap (slot_at t.slots) (sym same) ∙ r.slot)

resides_page : (t : Lists) (q : Page) (f : ℕ) → Known t → Resides t q f → page_of (placement_of t) f ≡ Some q
resides_page t q f k r = k.owns.names q f r.named

-- The front hand.

-- what a page that the front hand made invalid leaves
pub record Expired (t n : Lists) (locked : List Page) : Type 0 where
  pub place : placement_of n ≡ expire (placement_of t) locked
  pub frames : frames_of n ≡ frames_of t
  pub heads : map head_of n.spaces ≡ map head_of t.spaces
  pub known : Known n

expired_kept : (t n : Lists) (locked : List Page) → Known t → n ≡ t → expire (placement_of t) locked ≡ placement_of t → Expired t n locked
expired_kept t n locked k is e = record {
  place = ap placement_of is ∙ sym e;
  frames = ap frames_of is;
  heads = ap (λ (x : Lists). map head_of x.spaces) is;
  known = subst Known (sym is) k;
}

mark_shown : (t : Lists) (q : Page) (f : ℕ) (v c : Bool) (x : Token) (m : Bool) → slot_at t.slots f ≡ x → is_away x ≡ false
    → m ≡ (page_shown t q (places.Frame f v c)).mark
    → page_shown t q (places.Frame f false c) ≡ record { state = Invalid f; mark = m; filling = Zeros }
mark_shown t (Text i v) f b c x m e a h =
    ap (λ (s : Token). record (page_shown t (Text i v) (places.Frame f false c)) { state = idle_state f (is_away s) c }) e
    ∙ ap (λ (d : Bool). record (page_shown t (Text i v) (places.Frame f false c)) { state = idle_state f d c }) a
    ∙ ap (λ (d : Bool). let z : Slot = record { state = Invalid f; mark = d; filling = Zeros } in z) (sym h)
mark_shown t _ f b c x m e a h =
    ap (λ (s : Token). let z : Slot = record { state = idle_state f (is_away s) c; mark = c; filling = Zeros } in z) e
    ∙ ap (λ (d : Bool). let z : Slot = record { state = idle_state f d c; mark = c; filling = Zeros } in z) a
    ∙ ap (λ (d : Bool). let z : Slot = record { state = Invalid f; mark = d; filling = Zeros } in z) (sym h)

expired_mark : (ss : List Places) (ts : List SharedText) (f : ℕ) (b c : Bool) (q : Page) → entry_in ss q ≡ Some (places.Frame f b c)
    → dirty_shown ss ts q ≡ placed_mark ts (places.Frame f false c) q
expired_mark ss ts f b c (Text i v) e = refl
expired_mark ss ts f b c _ e = ap changed_named e

pub expiring : (t : Lists) (q : Page) (f : ℕ) → Known t → (r : Resides t q f)
    → Turning t (record t { spaces = map (placed q (places.Frame f false r.changed)) t.spaces }) q f (places.Frame f false r.changed) (Invalid f)
    (mark_of (placement_of t) q)
expiring t q f k r = record {
  known = k;
  shared = r.shared;
  named = r.named;
  others = λ g d. refl;
  count = refl;
  cached = λ i v d. refl;
  held = λ g. refl;
  bytes = λ g. refl;
  spaces = refl;
  texts = refl;
  facts = refl;
  fills = refl;
  residents = refl;
  front = refl;
  back = refl;
  shows = same_shown q (mark_shown t q f r.valid r.changed (tokens.Resident r.token q r.dirty) (mark_of (placement_of t) q) r.slot refl (ap (λ (s : Slot). s.mark) r.shown));
  filling = λ y. refl;
  marks = λ m a w mark h. let y : tokens.Resident r.token q r.dirty ≡ tokens.Resident a w mark = sym r.slot ∙ h in
      (resident_page r.token a q w r.dirty mark y, resident_mark r.token a q w r.dirty mark y ∙ m f r.token q r.dirty r.slot ∙ expired_mark t.spaces t.texts f r.valid r.changed q r.entry);
  fits = frame_fits q f false r.changed;
}
  where
    same_shown : (w : Page) → page_shown t w (places.Frame f false r.changed) ≡ record { state = Invalid f; mark = mark_of (placement_of t) w; filling = Zeros }
        → page_shown (record t { spaces = map (placed q (places.Frame f false r.changed)) t.spaces }) w (places.Frame f false r.changed)
        ≡ record { state = Invalid f; mark = mark_of (placement_of t) w; filling = Zeros }
    same_shown (Data n v) h = h
    same_shown (Stack n v) h = h
    same_shown (Text i v) h = h

expired_turn : (t n : Lists) (locked : List Page) (q : Page) (f : ℕ) → Known t → (r : Resides t q f) → t.front ≡ f → is_among q locked ≡ false
    → state_of (placement_of t) q ≡ Valid f
    → n ≡ record t { spaces = map (placed q (places.Frame f false r.changed)) t.spaces } → Expired t n locked
expired_turn t n locked q f k r at free valid is =
    let u : Lists = record t { spaces = map (placed q (places.Frame f false r.changed)) t.spaces } in
    let p : Placement = placement_of t in
    let place : Place = places.Frame f false r.changed in
    let m : Bool = mark_of p q in
    let d = expiring t q f k r in
    let turned : placement_of u ≡ turn p q (Invalid f) m p.free p.transfers = turn_is t u q f place (Invalid f) m d in
    let holds : page_of p p.front ≡ Some q = ap (page_of p) at ∙ resides_page t q f k r in
    let moved : expire p locked ≡ turn p q (Invalid f) m p.free p.transfers = expire_at p locked q f holds free valid in
    let heads : map head_of u.spaces ≡ map head_of t.spaces = turn_heads t u q f place (Invalid f) m d in
    record {
      place = ap placement_of is ∙ turned ∙ sym moved;
      frames = ap frames_of is ∙ turn_frames t u q f place (Invalid f) m d;
      heads = ap (λ (x : Lists). map head_of x.spaces) is ∙ heads;
      known = subst Known (sym is) (record {
        core = k.core;
        owns = subst OwnsFrames (sym (turned ∙ sym moved)) (expire_owner p locked k.owns);
        aside = subst TextAside (sym turned) (turn_aside p q f (Invalid f) m p.free p.transfers k.owns (expire_turns p q f k.owns valid) k.aside (subst (IsBusy p) (sym valid) tt));
        tied = turn_tied t u q f place (Invalid f) m d;
        differ = subst AllDistinct (sym (head_sids u.spaces t.spaces heads)) k.differ;
        numbers = k.numbers;
      });
    }

pub expired_is : (t : Lists) (locked : List Page) → Known t → Expired t (expired t locked) locked
expired_is t locked k = go (slot_at t.slots t.front) refl
  where
    p : Placement
    p = placement_of t

    from : (o : Option (Page × Bool)) → under t locked t.front ≡ o → expired t locked ≡ record t { spaces = expired_by o t.front t.spaces }
    from o e = ap (λ (x : Option (Page × Bool)). record t { spaces = expired_by x t.front t.spaces }) e

    none : (x : Token) → slot_at t.slots t.front ≡ x → ((token : Frame) (q : Page) (dirty : Bool) → x ≢ tokens.Resident token q dirty) → under_by t.spaces locked x ≡ None
        → Expired t (expired t locked) locked
    none x h never e = expired_kept t (expired t locked) locked k (from None (ap (under_by t.spaces locked) h ∙ e))
        (expire_kept p locked (λ q f held b v. vacant_by t t.front k (λ token w dirty i. never token w dirty (sym h ∙ i)) q f held (record { state = inl v })))

    held : (token : Frame) (q : Page) (dirty : Bool) (b : Bool) → slot_at t.slots t.front ≡ tokens.Resident token q dirty → is_among q locked ≡ b → Expired t (expired t locked) locked
    held token q dirty true h b =
        let r : Resides t q t.front = resides t q t.front token dirty k h in
        expired_kept t (expired t locked) locked k (from None (ap (under_by t.spaces locked) h ∙ ap (λ (x : Bool). under_if x q (valid_named (entry_in t.spaces q))) b))
        (expire_kept p locked (λ w f at a v. let same : w ≡ q = same_Some w q (sym at ∙ resides_page t q t.front k r) in
        absurd (let x : true ≡ false = sym b ∙ ap (λ (y : Page). is_among y locked) (sym same) ∙ a in cc)))
    held token q dirty false h b =
        let r : Resides t q t.front = resides t q t.front token dirty k h in
        let u : under t locked t.front ≡ Some (q, r.valid) =
        ap (under_by t.spaces locked) h ∙ ap (λ (x : Bool). under_if x q (valid_named (entry_in t.spaces q))) b ∙ ap (λ (o : Option Place). Some (q, valid_named o)) r.entry in
        by r r.valid refl u
      where
        by : (r : Resides t q t.front) (v : Bool) → r.valid ≡ v → under t locked t.front ≡ Some (q, r.valid) → Expired t (expired t locked) locked
        by r true e u = expired_turn t (expired t locked) locked q t.front k r refl b (resides_state t q t.front r ∙ ap (λ (x : Bool). cond x (Valid t.front) (Invalid t.front)) e)
            (from (Some (q, true)) (u ∙ ap (λ (x : Bool). Some (q, x)) e)
            ∙ ap (λ (o : Option Place). record t { spaces = map (placed q (places.Frame t.front false (changed_named o))) t.spaces }) r.entry)
        by r false e u = expired_kept t (expired t locked) locked k (from (Some (q, false)) (u ∙ ap (λ (x : Bool). Some (q, x)) e))
            (expire_kept p locked (λ w f at a v.
            let same : w ≡ q = same_Some w q (sym at ∙ resides_page t q t.front k r) in
            absurd (let x : Invalid t.front ≡ Valid f = sym (resides_state t q t.front r ∙ ap (λ (y : Bool). cond y (Valid t.front) (Invalid t.front)) e) ∙ ap (state_of p) (sym same) ∙ v in cc)))

    go : (x : Token) → slot_at t.slots t.front ≡ x → Expired t (expired t locked) locked
    go (tokens.Free token page) h = none (tokens.Free token page) h (λ a b c i. cc) refl
    go tokens.Away h = none tokens.Away h (λ a b c i. cc) refl
    go (tokens.Resident token q dirty) h = held token q dirty (is_among q locked) h refl

-- The back hand.

pub record IdleBack (t : Lists) (locked : List Page) (q : Page) : Type 0 where
  pub resides : Resides t q t.back
  pub invalid : resides.valid ≡ false
  pub free : is_among q locked ≡ false

pub idle_back : (t : Lists) (locked : List Page) (q : Page) → Known t → under t locked t.back ≡ Some (q, false) → IdleBack t locked q
idle_back t locked q k e = go (slot_at t.slots t.back) refl
  where
    at : (token : Frame) (w : Page) (dirty b : Bool) → slot_at t.slots t.back ≡ tokens.Resident token w dirty → is_among w locked ≡ b
        → under_if b w (valid_named (entry_in t.spaces w)) ≡ Some (q, false) → IdleBack t locked q
    at token w dirty true h b i = none_some (q, false) i
    at token w dirty false h b i =
        let both : (w, valid_named (entry_in t.spaces w)) ≡ (q, false) = same_Some (w, valid_named (entry_in t.spaces w)) (q, false) i in
        let same : w ≡ q = ap (λ (x : Page × Bool). x.0) both in
        let r : Resides t q t.back = resides t q t.back token dirty k (h ∙ ap (λ (x : Page). tokens.Resident token x dirty) same) in
        record {
          resides = r;
          invalid = sym (ap valid_named r.entry) ∙ ap (λ (x : Page). valid_named (entry_in t.spaces x)) (sym same) ∙ ap (λ (x : Page × Bool). x.1) both;
          free = ap (λ (x : Page). is_among x locked) (sym same) ∙ b;
        }

    go : (x : Token) → slot_at t.slots t.back ≡ x → IdleBack t locked q
    go (tokens.Free token page) h = none_some (q, false) (sym (ap (under_by t.spaces locked) h) ∙ e)
    go tokens.Away h = none_some (q, false) (sym (ap (under_by t.spaces locked) h) ∙ e)
    go (tokens.Resident token w dirty) h =
        at token w dirty (is_among w locked) h refl (sym (ap (under_by t.spaces locked) h) ∙ e)

-- the page of the run of a write that the back hand begins
pub record WritesBack (t : Lists) (locked : List Page) : Type 0 where
  pub page : Page
  pub idle : IdleBack t locked page

back_invalid : (t : Lists) (q : Page) (r : Resides t q t.back) (v : Bool) → r.valid ≡ v → state_of (placement_of t) q ≡ Invalid t.back → r.valid ≡ false
back_invalid t q r true e i = absurd (let x : Valid t.back ≡ Invalid t.back = sym (resides_state t q t.back r ∙ ap (λ (y : Bool). cond y (Valid t.back) (Invalid t.back)) e) ∙ i in cc)
back_invalid t q r false e i = e

pub writes_back : (t : Lists) (locked : List Page) (lo n : ℕ) → Known t → IsRunOf (back_run (placement_of t) locked) lo n → n ≢ 0 → WritesBack t locked
writes_back t locked lo n k run some = go (taken (placement_of t) locked) refl run
  where
    go : (o : Option Page) → taken (placement_of t) locked ≡ o → IsRunOf (write_taken (placement_of t) locked o) lo n → WritesBack t locked
    go None e none = absurd (some none)
    go (Some q) e has =
        let g : IsTaken (placement_of t) locked q = is_taken (placement_of t) locked q e in
        let i : state_of (placement_of t) q ≡ Invalid t.back = taken_state (placement_of t) locked q k.owns g in
        let r : Resides t q t.back = seat_resides t q t.back k (record { state = inr (i, g.off) }) in
        record { page = q; idle = record { resides = r; invalid = back_invalid t q r r.valid refl i; free = g.unlocked } }

pub sweep_rests : (t : Lists) (locked : List Page) → Known t → ((q : Page) → under t locked t.back ≡ Some (q, false) → ⊥)
    → sweep (placement_of t) locked ≡ placement_of t
sweep_rests t locked k never = ap (sweep_taken (placement_of t) locked) (taken_none (placement_of t) locked (λ q g.
    let i : state_of (placement_of t) q ≡ Invalid t.back = taken_state (placement_of t) locked q k.owns g in
    let r : Resides t q t.back = seat_resides t q t.back k (record { state = inr (i, g.off) }) in
    never q (ap (under_by t.spaces locked) r.slot ∙ ap (λ (x : Bool). under_if x q (valid_named (entry_in t.spaces q))) g.unlocked ∙ ap (λ (o : Option Place). Some (q, valid_named o)) r.entry
    ∙ ap (λ (b : Bool). Some (q, b)) (back_invalid t q r r.valid refl i))))

pub record Puts (p : Placement) (q : Page) (lo n : ℕ) (next : Placement) : Type 0 where
  pub may : MayPutOut p q lo n
  pub is : put_out p q lo n ≡ next

run_dirty : (p : Placement) (locked : List Page) (q : Page) → is_dirty p q ≡ true → EachPage (λ r. is_dirty p r ≡ true) (pages_of_run q (run_out p locked q))
run_dirty p locked q d = run_each (λ r. is_dirty p r ≡ true) (λ w. goes_along p locked (beside q w) && is_near q w) q (run_out p locked q)
    (run_both_in (λ w. goes_along p locked (beside q w) && is_near q w) (number_of q) most_written) d
    (λ w e. (and_parts (is_dirty p (beside q w)) (not (is_among (beside q w) locked))
    (and_parts (is_idle p (beside q w)) (is_dirty p (beside q w) && not (is_among (beside q w) locked)) (and_parts (goes_along p locked (beside q w)) (is_near q w) e).0).1).0)

pub may_some : (p : Placement) (q : Page) (lo n : ℕ) → 0 < n → MayWriteRun p q lo n → MayPutOut p q lo n
may_some p q lo zero l h = absurd (omega arith)
may_some p q lo (suc m) l h = h

puts_by : (p : Placement) (locked : List Page) (q : Page) (lo n : ℕ) (d : Bool) → is_dirty p q ≡ d → HasSeat p q
    → IsRunOf (write_by p locked q d) lo n → (0 < n → length p.transfers < 16) → Puts p q lo n (sweep_by p locked q d)
puts_by p locked q lo n true e seat run room =
    let r : Run = run_out p locked q in
    let w = widest_out p locked q in
    let a = w.has.0 in
    let b = w.has.1 in
    let some : 0 < r.n = omega arith in
    let some_n : 0 < n = subst (λ (k : ℕ). 0 < k) (sym run.1) some in
    let may : MayPutOut p q r.lo r.n = may_some p q r.lo r.n some (record { seats = run_out_seats p locked q seat; dirty = run_dirty p locked q e; most = w.may_be; room = room some_n }) in
    record {
      may = subst (λ (k : ℕ). MayPutOut p q k n) (sym run.0) (subst (λ (k : ℕ). MayPutOut p q r.lo k) (sym run.1) may);
      is = ap (λ (k : ℕ). put_out p q k n) run.0 ∙ ap (λ (k : ℕ). put_out p q r.lo k) run.1 ∙ put_some p q r.lo r.n some;
    }
puts_by p locked q lo n false e seat run room = record {
  may = subst (MayPutOut p q lo) (sym run) (record { seat = seat; clean = clean_unmarked q (mark_of p q) e });
  is = ap (put_out p q lo) run;
}

pub sweep_puts : (t : Lists) (locked : List Page) (q : Page) (lo n : ℕ) → Known t → IdleBack t locked q
    → IsRunOf (back_run (placement_of t) locked) lo n → (0 < n → length t.transfers < 16) → Puts (placement_of t) q lo n (sweep (placement_of t) locked)
sweep_puts t locked q lo n k i run room =
    let p : Placement = placement_of t in
    let r : Resides t q t.back = i.resides in
    let g : IsTaken p locked q = record {
      held = resides_page t q t.back k r;
      frame = t.back;
      state = resides_state t q t.back r ∙ ap (λ (y : Bool). cond y (Valid t.back) (Invalid t.back)) i.invalid;
      off = r.unlisted;
      unlocked = i.free;
    } in
    let e : taken p locked ≡ Some q = taken_is p locked q g in
    let x : Puts p q lo n (sweep_by p locked q (is_dirty p q)) = puts_by p locked q lo n (is_dirty p q) refl (taken_seat p locked q k.owns g)
    (subst (λ (o : Option Page). IsRunOf (write_taken p locked o) lo n) e run) room in
    record { may = x.may; is = x.is ∙ sym (ap (sweep_taken p locked) e) }

pub moved_none : (t : Tables) (p : Placement) → Known (lists_of t) → p ≡ placement_of (lists_of t) → MovedOn t t p
moved_none t p k e = record { place = sym e; frames = refl; tied = k.tied; images = λ sid. refl; ring = inl refl; rest = refl }

-- The whole move.

pub blocks_heads : (t n : Lists) (hs : Holdings) → map head_of n.spaces ≡ map head_of t.spaces → n.facts ≡ t.facts → HasBlocks (placement_of t) hs
    → HasBlocks (placement_of n) hs
blocks_heads t n hs h f b q there sh =
    let there_as : (q : Page) → length (Rattle.page_model.specs.Placement.slots_of (placement_of n) q) ≡ length (Rattle.page_model.specs.Placement.slots_of (placement_of t) q)
    → IsThere (placement_of n) q → IsThere (placement_of t) q = λ q e l.
    subst (λ (k : ℕ). number_of q < k) e l in
    b q (let e = lengths_same t n h f q in there_as q e there) (shared_as (placement_of n) (placement_of t) q (λ i. sym (sharers_heads n.slots t.slots n.spaces t.spaces i h)) sh)

expired_facts : (t u : Tables) (locked : List Page) → lists_of u ≡ expired (lists_of t) locked → (lists_of u).facts ≡ (lists_of t).facts
expired_facts t u locked e = ap (λ (l : Lists). l.facts) e

-- what the sweep asks behind the front hand
pub record Ready (t u : Tables) (locked : List Page) : Type 0 where
  pub place : placement_of (lists_of u) ≡ expire (placement_of (lists_of t)) locked
  pub known : Known (lists_of u)
  pub frames : frames_of (lists_of u) ≡ frames_of (lists_of t)
  pub heads : map head_of u.spaces ≡ map head_of t.spaces
  pub blocks : HasBlocks (placement_of (lists_of t)) t.book.holdings → HasBlocks (placement_of (lists_of u)) u.book.holdings

pub ready : (t u : Tables) (locked : List Page) → Known (lists_of t) → lists_of u ≡ expired (lists_of t) locked → u ≡ record t { spaces = u.spaces }
    → Ready t u locked
ready t u locked k is rest =
    let x : Expired (lists_of t) (expired (lists_of t) locked) locked = expired_is (lists_of t) locked k in
    let heads : map head_of u.spaces ≡ map head_of t.spaces = ap (λ (l : Lists). map head_of l.spaces) is ∙ x.heads in
    record {
      place = ap placement_of is ∙ x.place;
      known = subst Known (sym is) x.known;
      frames = ap frames_of is ∙ x.frames;
      heads = heads;
      blocks = λ b. subst (HasBlocks (placement_of (lists_of u))) (sym (ap (λ (z : Tables). z.book.holdings) rest))
          (blocks_heads (lists_of t) (lists_of u) t.book.holdings heads (expired_facts t u locked is) b);
    }

frame_count : (t u : Tables) → frames_of (lists_of u) ≡ frames_of (lists_of t) → length u.core.slots - 1 ≡ length t.core.slots - 1
frame_count t u e =
    sym (Rattle.std.proofs.lemmas.List.FromFn.length-map-range_with_len (Rattle.kernel_tables.specs.View.bytes_held (lists_of u)) 1 (length u.core.slots - 1)) ∙ ap length e
    ∙ Rattle.std.proofs.lemmas.List.FromFn.length-map-range_with_len (Rattle.kernel_tables.specs.View.bytes_held (lists_of t)) 1 (length t.core.slots - 1)

-- the hands stand among the frames of the swept tables too
pub hand_within : (t u : Tables) (f : ℕ) → frames_of (lists_of u) ≡ frames_of (lists_of t) → 1 ≤ f → f < length t.core.slots → f < length u.core.slots
hand_within t u f e l m = let a = frame_count t u e in omega arith

pub moved_hands : (t u v w : Tables) (locked : List Page) → Known (lists_of t) → lists_of u ≡ expired (lists_of t) locked
    → u ≡ record t { spaces = u.spaces } → MovedOn u v (sweep (placement_of (lists_of u)) locked)
    → w.front ≡ next_frame (length v.core.slots - 1) v.front → w.back ≡ next_frame (length v.core.slots - 1) v.back
    → w ≡ record v { front = w.front; back = w.back } → MovedOn t w (hand_move (placement_of (lists_of t)) locked)
moved_hands t u v w locked k is rest m ef eb rw =
    let rest_hands : (t u v w : Tables) → u ≡ record t { spaces = u.spaces } → v ≡ record u { core = v.core; spaces = v.spaces; ring = v.ring; front = v.front; back = v.back }
    → w ≡ record v { front = w.front; back = w.back }
    → w ≡ record t { core = w.core; spaces = w.spaces; ring = w.ring; front = w.front; back = w.back } = λ t u v w e f g.
    let x : w ≡ record t { core = v.core; spaces = v.spaces; ring = v.ring; front = w.front; back = w.back } =
    g ∙ ap (λ (z : Tables). record z { front = w.front; back = w.back }) f ∙ ap (λ (z : Tables). record z { core = v.core; spaces = v.spaces; ring = v.ring; front = w.front; back = w.back }) e in
    x ∙ ap (λ (z : Tables). record t { core = z.core; spaces = z.spaces; ring = z.ring; front = w.front; back = w.back }) (sym g) in
    let p : Placement = placement_of (lists_of v) in
    let r : Ready t u locked = ready t u locked k is rest in
    let n : length v.core.slots - 1 ≡ length p.holds = sym (holds_length (lists_of v)) in
    let stepped : placement_of (lists_of w) ≡ advance p =
    ap (λ (z : Tables). placement_of (lists_of z)) rw
    ∙ ap (λ (f : ℕ). record p { front = f; back = w.back }) (ef ∙ ap (λ (k : ℕ). next_frame k p.front) n)
    ∙ ap (λ (f : ℕ). record (advance p) { back = f }) (eb ∙ ap (λ (k : ℕ). next_frame k p.back) n) in
    record {
      place = stepped ∙ ap advance (m.place ∙ ap (λ (q : Placement). sweep q locked) r.place);
      frames = ap (λ (z : Tables). frames_of (lists_of z)) rw ∙ m.frames ∙ r.frames;
      tied = subst (λ (z : Tables). Rattle.kernel_tables.specs.Tied.Tied (lists_of z)) (sym rw) (record {
        few_frames = m.tied.few_frames;
        few_images = m.tied.few_images;
        few_pages = m.tied.few_pages;
        sound = m.tied.sound;
        small_texts = m.tied.small_texts;
        shared = m.tied.shared;
        alike = m.tied.alike;
        filled = m.tied.filled;
        counted = m.tied.counted;
        marked = m.tied.marked;
        whole = m.tied.whole;
        once = m.tied.once;
      });
      images = λ sid. ap (λ (z : Tables). image_at z sid) rw ∙ m.images sid ∙ Rattle.kernel_tables.proofs.Stills.images_heads t u r.heads sid;
      ring = subst (λ (hs : Holdings). Rattle.kernel_tables.specs.Launches.AddsWrite hs t.ring w.ring) (ap (λ (z : Tables). z.book.holdings) rest)
          (subst (λ (z : Tables). Rattle.kernel_tables.specs.Launches.AddsWrite u.book.holdings z.ring w.ring) rest
          (subst (λ (z : Tables). Rattle.kernel_tables.specs.Launches.AddsWrite u.book.holdings u.ring z.ring) (sym rw) m.ring));
      rest = rest_hands t u v w rest m.rest rw;
    }

-- where the hands stand
pub hands_low : (t : Lists) → HandsStand (placement_of t) → ((1 ≤ t.front) × (t.front < length t.slots)) × ((1 ≤ t.back) × (t.back < length t.slots))
hands_low t h =
    let quarter : (n : ℕ) → 0 < n → n / 4 < n = λ n l. omega arith in
    let n : ℕ = length (placement_of t).holds in
    let c : n ≡ length t.slots - 1 = holds_length t in
    let a = h.low in
    let b = h.high in
    let w = walk_in n (n / 4) t.back a b (quarter n (omega arith)) in
    let w0 = w.0 in
    let w1 = w.1 in
    let f : t.front ≡ Rattle.page_model.specs.Rank.walk n (n / 4) t.back = h.ahead in
    ((omega arith, omega arith), (omega arith, omega arith))

-- at most 16 transfers are in flight then
pub hand_few : (p : Placement) (locked : List Page) (lo n : ℕ) → IsRunOf (hand_run p locked) lo n → (0 < n → length p.transfers < 16)
    → length p.transfers ≤ 16 → length (hand_move p locked).transfers ≤ 16
hand_few p locked lo n run room l = go (hand_run p locked) refl run
  where
    go : (o : Option (Page × Run)) → hand_run p locked ≡ o → IsRunOf o lo n → length (hand_move p locked).transfers ≤ 16
    go None e r = let a = ap length (hand_rests p locked e) in omega arith
    go (Some w) e r =
        let a = ap (λ (x : Placement). length x.transfers) (hand_begun p locked w.0 w.1 e) ∙ launch_run_count (expire p locked) (pages_of_run w.0 w.1) in
        let b = ap length (expire_transfers p locked) in
        let some : 0 < n = subst (λ (k : ℕ). 0 < k) (sym r.1) (hand_some p locked w e) in
        let c = room some in
        omega arith

pub hand_keeps : (size : ℕ) (k : Kernel) (locked : List Page) → Sound size k → KeepsFlat k (hand_step k locked)
hand_keeps size k locked so images image flat c = hand_coupled_step size k images image flat locked so c

pub hand_alike : (k : Kernel) (locked : List Page) → SameEverywhere k (hand_step k locked)
hand_alike k locked images image flat w =
    let s = stays_same k.place (hand_move k.place locked) (beside_kernel k images image flat) w (move_stays k.place locked) in
    record { frames = s.frames; swap = s.swap; start = s.start }
