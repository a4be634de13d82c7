-- A write that begins, or a frame that goes to the tail of the free list: what they leave of the tables.
use Rattle.std.proofs.Common.{◌≡◌, inr, ℕ, zero, suc, ◌<◌, ◌≤◌, Bool, true, false, cond, List, [], ◌∷◌, ◌++◌, length, map, IsSome, refl, sym, ap, ◌∙◌, subst, arith, append-nil}
use Rattle.std.proofs.lemmas.List.{map-append}
use Rattle.vm_facts.specs.declared.page.Page.{Page}
use Rattle.transfer_ring.specs.declared.transfer.Outbound.{Outbound}
use Rattle.transfer_ring.specs.declared.transfer.Transfer.{Transfer as Flight}
use Rattle.flat_state.specs.PageNames.{number_of, pages_from}
use Rattle.page_model.specs.Place.{put_by, put_step}
use Rattle.page_laws.proofs.Moves.InSteps.{launch_steps}
use Rattle.page_laws.proofs.Lists.Pages.{beside_self}
use Rattle.page_laws.proofs.Ownership.Runs.{clean_unmarked}
use Rattle.page_laws.proofs.Moves.Transfers.{launch_run_count, retire_count}
use Rattle.page_laws.proofs.Blocks.Aside.{has_blocks}
use Rattle.kernel_model.specs.Kernel.{Kernel, push_step}
use Rattle.kernel_model.specs.Coupled.{beside_kernel}
use Rattle.kernel_tables.proofs.Moves.{push_coupled_step}
use Rattle.page_laws.proofs.Bytes.Others.{put_same}
use Rattle.kernel_tables.specs.Conditions.{KeepsFlat, SameEverywhere}
use Rattle.kernel_model.specs.Sound.{Sound, lives}
use Rattle.kernel_tables.specs.Calls.{CanPush, AreAlike}
use Rattle.page_model.specs.Placement.{Placement, Transfer, Writes, IsThere, is_dirty, mark_of}
use Rattle.page_model.specs.Moves.{launch_run, retire}
use Rattle.page_model.specs.Steps.{launch_all}
use Rattle.page_model.specs.Conditions.{EachPage, HasSeat}
use Rattle.page_model.specs.Ownership.{block_of}
use Rattle.page_laws.proofs.Lists.Runs.{each_page_imp}
use Rattle.swap_book.specs.Holdings.{Holdings}
use Rattle.kernel_tables.specs.declared.tables.Tables.{Tables}
use Rattle.kernel_tables.specs.Shown.{entry_in, frame_named}
use Rattle.kernel_tables.specs.View.{Lists, Flown, out_part, outbound_flown, transfer_shown, flown_in, flown, placement_of, frames_of}
use Rattle.kernel_tables.specs.Tied.{Tied}
use Rattle.kernel_tables.specs.Known.{Known}
use Rattle.kernel_tables.specs.Machine.{lists_of, image_at}
use Rattle.kernel_tables.specs.Launches.{launching, IsOwnWrite, MayRetire, MayWriteRun, MayPutOut, HasBlocks, MovedOn, put_out}
use Rattle.table_steps.proofs.Gets.{flown-append}
use Rattle.table_steps.proofs.Residing.{Resides, seat_resides}
use Rattle.table_steps.proofs.Launchings.{begun_place, begun_frames, named_resides}

-- The rest of the tables, by what a call may have changed.

pub rest_ring : (t u : Tables) (w : Tables) → u ≡ record t { core = u.core; spaces = u.spaces } → w ≡ record u { ring = w.ring }
    → w ≡ record t { core = w.core; spaces = w.spaces; ring = w.ring; front = w.front; back = w.back }
rest_ring t u w e r =
    let refl_ring : (u w : Tables) → record u { ring = w.ring } ≡ record u { ring = w.ring } = λ u w. refl in
    let x : w ≡ record t { core = u.core; spaces = u.spaces; ring = w.ring } = r ∙ ap (λ (z : Tables). record z { ring = w.ring }) e in
    x
    ∙ ap (λ (z : Tables). record t { core = z.core; spaces = z.spaces; ring = w.ring }) (sym (r ∙ refl_ring u w))
    ∙ ap (λ (n : ℕ). record t { core = w.core; spaces = w.spaces; ring = w.ring; front = n }) (sym (ap (λ (z : Tables). z.front) x))
    ∙ ap (λ (n : ℕ). record t { core = w.core; spaces = w.spaces; ring = w.ring; front = w.front; back = n }) (sym (ap (λ (z : Tables). z.back) x))

-- The write of a run.

module _ (t u w : Tables) (ps : List Outbound) (x : Flight) (q : Page) (lo n : ℕ) where
  pub record WroteRun : Type 0 where
    pub place : placement_of (launching u ps) ≡ launch_all (placement_of (launching t [])) (pages_from q lo n)
    pub frames : frames_of (launching u ps) ≡ frames_of (launching t [])
    pub known : Known (launching u ps)
    pub images : (sid : ℕ) → image_at u sid ≡ image_at t sid
    pub rest : u ≡ record t { core = u.core; spaces = u.spaces }
    pub ring_rest : w ≡ record u { ring = w.ring }
    pub ring : w.ring ≡ u.ring ++ x ∷ []
    pub shown : transfer_shown x ≡ record { errand = Writes; parts = map out_part ps }
    pub flying : flown_in x ≡ map outbound_flown ps
    pub own : IsOwnWrite t.book.holdings x

  write_lists : WroteRun → lists_of w ≡ launching u ps
  write_lists g =
      ap lists_of g.ring_rest
      ∙ ap (λ (ts : List Transfer). record (lists_of u) { transfers = ts; flown = flown w.ring })
      (ap (map transfer_shown) g.ring ∙ map-append transfer_shown u.ring (x ∷ []) ∙ ap (λ (y : Transfer). map transfer_shown u.ring ++ y ∷ []) g.shown)
      ∙ ap (λ (fs : List Flown). record (lists_of u) { transfers = map transfer_shown u.ring ++ record { errand = Writes; parts = map out_part ps } ∷ []; flown = fs })
      (ap flown g.ring ∙ flown-append u.ring (x ∷ []) ∙ ap (λ (fs : List Flown). flown u.ring ++ fs) (append-nil (flown_in x) ∙ g.flying))

  pub wrote_run : WroteRun → MovedOn t w (launch_run (placement_of (lists_of t)) (pages_from q lo n))
  wrote_run g =
      let is : lists_of w ≡ launching u ps = write_lists g in
      record {
        place = ap placement_of is ∙ g.place ∙ ap (λ (p : Placement). launch_all p (pages_from q lo n)) (begun_place t) ∙ launch_steps (placement_of (lists_of t)) (pages_from q lo n);
        frames = ap frames_of is ∙ g.frames ∙ begun_frames t;
        tied = subst Tied (sym is) g.known.tied;
        images = λ sid. ap (λ (z : Tables). image_at z sid) g.ring_rest ∙ g.images sid;
        ring = inr (x, g.ring ∙ ap (λ (z : Tables). z.ring ++ x ∷ []) g.rest, g.own);
        rest = rest_ring t u w g.rest g.ring_rest;
      }

-- Either of them.

pub put_none : (p : Placement) (q : Page) (lo n : ℕ) → n ≡ 0 → put_out p q lo n ≡ retire p q
put_none p q lo n e = ap (put_out p q lo) e

pub put_some : (p : Placement) (q : Page) (lo n : ℕ) → 0 < n → put_out p q lo n ≡ launch_run p (pages_from q lo n)
put_some p q lo zero l = absurd (omega arith)
put_some p q lo (suc m) l = refl

pub may_write : (p : Placement) (q : Page) (lo n : ℕ) → 0 < n → MayPutOut p q lo n → MayWriteRun p q lo n
may_write p q lo zero l h = absurd (omega arith)
may_write p q lo (suc m) l h = h

pub may_retire : (p : Placement) (q : Page) (lo n : ℕ) → n ≡ 0 → MayPutOut p q lo n → MayRetire p q
may_retire p q lo n e h = subst (MayPutOut p q lo) e h

pub moved_as : (t u : Tables) (p r : Placement) → p ≡ r → MovedOn t u p → MovedOn t u r
moved_as t u p r e m = subst (MovedOn t u) e m

-- pages that are seated have their blocks
pub seats_blocks : (t : Lists) (hs : Holdings) (qs : List Page) → Known t → HasBlocks (placement_of t) hs → EachPage (HasSeat (placement_of t)) qs
    → EachPage (λ q. IsSome (block_of hs q)) qs
seats_blocks t hs qs k b h = each_page_imp (HasSeat (placement_of t)) (λ q. IsSome (block_of hs q)) qs h
    (λ q s. let r : Resides t q s.frame = seat_resides t q s.frame k s.seat in b q r.there r.shared)

pub seat_named : (t : Lists) (q : Page) → Known t → HasSeat (placement_of t) q → Resides t q (frame_named (entry_in t.spaces q))
seat_named t q k s = named_resides t q s.frame (seat_resides t q s.frame k s.seat)

-- The step of `Put`.

pub push_is : (p : Placement) (q : Page) (n : ℕ) (d : Bool) → is_dirty p q ≡ d → 0 < n
    → put_out p q (number_of q) (cond d n 0) ≡ put_step p q (pages_from q (number_of q) n)
push_is p q n true e l = put_some p q (number_of q) n l ∙ sym (ap (put_by p q (pages_from q (number_of q) n)) e)
push_is p q n false e l = sym (ap (put_by p q (pages_from q (number_of q) n)) e)

put_may : (p : Placement) (q : Page) (lo n : ℕ) → 0 < n → MayWriteRun p q lo n → MayPutOut p q lo n
put_may p q lo zero l h = absurd (omega arith)
put_may p q lo (suc m) l h = h

pub push_seat : (p : Placement) (q : Page) (n : ℕ) → CanPush p q n → HasSeat p q
push_seat p q n can = go n can.some can.seats
  where
    go : (k : ℕ) → 0 < k → EachPage (HasSeat p) (pages_from q (number_of q) k) → HasSeat p q
    go zero l h = absurd (omega arith)
    go (suc m) l h = subst (HasSeat p) (beside_self q) h.0

pub push_may : (p : Placement) (q : Page) (n : ℕ) (d : Bool) → is_dirty p q ≡ d → CanPush p q n → MayPutOut p q (number_of q) (cond d n 0)
push_may p q n true e can =
    let a : AreAlike p q n true = subst (AreAlike p q n) e can.alike in
    put_may p q (number_of q) n can.some (record { seats = can.seats; dirty = a.0; most = can.most; room = a.1 })
push_may p q n false e can = record { seat = push_seat p q n can; clean = clean_unmarked q (mark_of p q) e }

pub push_few : (p : Placement) (q : Page) (n : ℕ) (d : Bool) → is_dirty p q ≡ d → CanPush p q n → length p.transfers ≤ 16
    → length (Placement.transfers (put_out p q (number_of q) (cond d n 0))) ≤ 16
push_few p q n true e can l =
    let a : AreAlike p q n true = subst (AreAlike p q n) e can.alike in
    let b = ap (λ (r : Placement). length r.transfers) (put_some p q (number_of q) n can.some) ∙ launch_run_count p (pages_from q (number_of q) n) in
    let c = a.1 in
    omega arith
push_few p q n false e can l = let b = retire_count p q in omega arith

pub all_blocks : (size : ℕ) (k : Kernel) → Sound size k → HasBlocks k.place k.holdings
all_blocks size k so q there sh = has_blocks size (lives k.processes) k.place k.holdings q so.owner.blocks there sh

pub push_there : (t : Lists) (q : Page) (n : ℕ) → Known t → CanPush (placement_of t) q n → IsThere (placement_of t) q
push_there t q n k can =
    let s : HasSeat (placement_of t) q = push_seat (placement_of t) q n can in
    let r : Resides t q s.frame = seat_resides t q s.frame k s.seat in
    r.there

pub push_keeps : (size : ℕ) (k : Kernel) (q : Page) (n : ℕ) → Sound size k → CanPush k.place q n → KeepsFlat k (push_step k q n)
push_keeps size k q n so can images image flat c = push_coupled_step size k images image flat q n so (push_seat k.place q n can) can.seats c

pub push_alike : (k : Kernel) (q : Page) (n : ℕ) → SameEverywhere k (push_step k q n)
push_alike k q n images image flat w =
    let s = put_same k.place q (pages_from q (number_of q) n) (beside_kernel k images image flat) w in
    record { frames = s.frames; swap = s.swap; start = s.start }
