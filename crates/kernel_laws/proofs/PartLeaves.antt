-- What a part of a move that may come leaves of a placement.
use Rattle.std.proofs.Common.{◌≡◌, inr, ℕ, zero, suc, ◌<◌, ◌≤◌, Bool, true, List, [], length, map, refl, sym, ap, subst, arith}
use Rattle.vm_facts.specs.declared.page.Page.{Page}
use Rattle.vm_facts.specs.declared.page.Page.TheVariants.{Data, Stack, Text}
use Rattle.vm_facts.specs.declared.page.PageState.{PageState}
use Rattle.vm_facts.specs.declared.page.PageState.TheVariants.{Valid, Invalid}
use Rattle.vm_facts.specs.declared.entry.Entry.TheVariants as entries
use Rattle.swap_book.specs.Holdings.{Holdings}
use Rattle.flat_state.specs.PageNames.{number_of, pages_from}
use Rattle.page_model.specs.Pages.{with_data, with_stack, frame_of}
use Rattle.page_model.specs.Placement.{Placement, space_number, state_of, mark_of, is_dirty, put}
use Rattle.page_model.specs.Moves.{turn, launch_run, retire}
use Rattle.page_model.specs.Hands.{expire_to}
use Rattle.page_model.specs.Place.{put_by, put_step}
use Rattle.page_model.specs.Conditions.{EachPage, HasSeat, CanPlace, HaveParts}
use Rattle.page_model.specs.Ownership.{OwnsFrames, OneOwner}
use Rattle.page_model.specs.PageBytes.{Bytes, CouplesPages}
use Rattle.page_laws.proofs.Lists.Pages.{beside_self}
use Rattle.page_laws.proofs.Lists.Runs.{each_page_imp, pages_from_apart}
use Rattle.page_laws.proofs.Moves.Steps.{page_in, turn_owner}
use Rattle.page_laws.proofs.Moves.Stays.{Steady, turn_steady}
use Rattle.page_laws.proofs.Moves.Transfers.{launch_run_count, retire_count}
use Rattle.page_laws.proofs.Moves.Parts.{entry_parts}
use Rattle.page_laws.proofs.Ownership.Pages.{expire_turns}
use Rattle.page_laws.proofs.Ownership.Entries.{place_entry_owner}
use Rattle.page_laws.proofs.Blocks.Aside.{IsBusy, turn_aside, blocks_still, one_owner}
use Rattle.page_laws.proofs.Blocks.Steps.{place_entry_one}
use Rattle.page_laws.proofs.Bytes.Pages.{beside_still, keeps_at, turn_coupled, marked}
use Rattle.page_laws.proofs.Bytes.Others.{put_steady}
use Rattle.page_laws.proofs.Bytes.Runs.{put_step_coupled}
use Rattle.kernel_laws.proofs.Machine.Shapes.{Shaped, put_shaped, put_step_shaped}
use Rattle.kernel_laws.proofs.Sound.NumbersApart.{entry_numbers, changed_numbers}
use Rattle.kernel_model.specs.declared.part.HandPart.{HandPart}
use Rattle.kernel_model.specs.declared.part.HandPart.TheVariants as parts
use Rattle.kernel_model.specs.HandParts.{IsIdle, WriteComes, FreeComes, PartComes, part_place}

-- What it leaves: the frame of each page, spaces and texts with their sizes, owners, transfers with pages, and the bytes of all pages.
pub record Parted (p q : Placement) : Type 0 where
  pub steady : Steady p q
  pub shaped : Shaped p q
  pub numbers : map space_number q.spaces ≡ map space_number p.spaces
  pub owns : OwnsFrames q
  pub one : (size : ℕ) (lives : ℕ → Bool) (hs : Holdings) → OneOwner size lives p hs → OneOwner size lives q hs
  pub few : length p.transfers ≤ 16 → length q.transfers ≤ 16
  pub filled : HaveParts p.transfers → HaveParts q.transfers
  pub couples : (b : Bytes) → CouplesPages p b → CouplesPages q b

-- `E`.

put_numbers : (p : Placement) (v : Page) (s : PageState) (m : Bool) → map space_number (put p v s m).spaces ≡ map space_number p.spaces
put_numbers p (Data t v) s m = changed_numbers t (with_data v s m) (λ x. refl) p.spaces
put_numbers p (Stack t v) s m = changed_numbers t (with_stack v s m) (λ x. refl) p.spaces
put_numbers p (Text i v) s m = refl

abbrev turned : Placement → Page → ℕ → Placement
turned p v f = turn p v (Invalid f) (mark_of p v) p.free p.transfers

turned_parts : (p : Placement) (v : Page) (f : ℕ) → OwnsFrames p → state_of p v ≡ Valid f → Parted p (turned p v f)
turned_parts p v f o e =
    let turns = expire_turns p v f o e in
    let steady : Steady p (turned p v f) = turn_steady p v f (Invalid f) (mark_of p v) p.free p.transfers (ap frame_of e) refl in
    let owns : OwnsFrames (turned p v f) = turn_owner p v f (Invalid f) (mark_of p v) p.free p.transfers o turns in
    let there = page_in p v f (ap frame_of e) in
    record {
      steady = steady;
      shaped = put_shaped p v (Invalid f) (mark_of p v);
      numbers = put_numbers p v (Invalid f) (mark_of p v);
      owns = owns;
      one = λ size lives hs a. one_owner size lives (turned p v f) hs owns (blocks_still size lives p (turned p v f) hs steady.sizes steady.sharing a.blocks)
          (turn_aside p v f (Invalid f) (mark_of p v) p.free p.transfers o turns a.aside (subst (IsBusy p) (sym e) tt));
      few = λ l. l;
      filled = λ h. h;
      couples = λ b k. turn_coupled p v f (Invalid f) (mark_of p v) p.free p.transfers b b o turns (beside_still p (turned p v f) v f b refl (λ g n. refl)) k
          (marked p v f (Invalid f) (mark_of p v) p.free p.transfers b there (keeps_at p b v (Valid f) k there e));
    }

-- `W` and `F`, which are puts of pages.

pub idle_seat : (p : Placement) (q : Page) → IsIdle p q → HasSeat p q
idle_seat p q i = record { frame = i.frame; seat = record { state = inr (i.invalid, i.off) } }

put_parts : (p : Placement) (q : Page) (n : ℕ) → OwnsFrames p → 0 < n → HasSeat p q → EachPage (HasSeat p) (pages_from q (number_of q) n)
    → (length p.transfers ≤ 16 → length (put_step p q (pages_from q (number_of q) n)).transfers ≤ 16)
    → Parted p (put_step p q (pages_from q (number_of q) n))
put_parts p q n o some seat seats few =
    let can : CanPlace p (entries.Put q n) = (seat, seats) in
    let qs : List Page = pages_from q (number_of q) n in
    record {
      steady = put_steady p q qs;
      shaped = put_step_shaped p q qs;
      numbers = entry_numbers [] 0 p (entries.Put q n);
      owns = place_entry_owner [] 0 p (entries.Put q n) o can;
      one = λ size lives hs a. place_entry_one size lives hs [] 0 p (entries.Put q n) a can tt;
      few = few;
      filled = entry_parts [] 0 p (entries.Put q n) o can some;
      couples = λ b k. put_step_coupled p q qs b o seat seats (pages_from_apart q (number_of q) n) k;
    }

-- the first of some pages
pub first_of : (P : Page → Type 0) (q : Page) (n : ℕ) → 0 < n → EachPage P (pages_from q (number_of q) n) → P q
first_of P q zero l e = absurd (omega arith)
first_of P q (suc n) l e = subst P (beside_self q) e.0

pub write_put : (p : Placement) (q : Page) (n : ℕ) → WriteComes p q n
    → launch_run p (pages_from q (number_of q) n) ≡ put_step p q (pages_from q (number_of q) n)
write_put p q n c = sym (ap (put_by p q (pages_from q (number_of q) n)) (first_of (λ w. is_dirty p w ≡ true) q n c.some c.dirty))

pub write_seats : (p : Placement) (q : Page) (n : ℕ) → WriteComes p q n → EachPage (HasSeat p) (pages_from q (number_of q) n)
write_seats p q n c = each_page_imp (IsIdle p) (HasSeat p) (pages_from q (number_of q) n) c.idle (idle_seat p)

write_parts : (p : Placement) (q : Page) (n : ℕ) → OwnsFrames p → WriteComes p q n → Parted p (launch_run p (pages_from q (number_of q) n))
write_parts p q n o c =
    let seats : EachPage (HasSeat p) (pages_from q (number_of q) n) = write_seats p q n c in
    let e = write_put p q n c in
    subst (Parted p) (sym e) (put_parts p q n o c.some (first_of (HasSeat p) q n c.some seats) seats
    (λ l. subst (λ (r : Placement). length r.transfers ≤ 16) e
    (let k = launch_run_count p (pages_from q (number_of q) n) in let r = c.room in omega (arith, k, r))))

one_page : (P : Page → Type 0) (q : Page) → P q → EachPage P (pages_from q (number_of q) 1)
one_page P q h = (subst P (sym (beside_self q)) h, tt)

pub free_put : (p : Placement) (q : Page) → FreeComes p q → retire p q ≡ put_step p q (pages_from q (number_of q) 1)
free_put p q c = sym (ap (put_by p q (pages_from q (number_of q) 1)) c.clean)

free_parts : (p : Placement) (q : Page) → OwnsFrames p → FreeComes p q → Parted p (retire p q)
free_parts p q o c =
    let seat : HasSeat p q = idle_seat p q c.idle in
    let e = free_put p q c in
    subst (Parted p) (sym e) (put_parts p q 1 o (omega arith) seat (one_page (HasSeat p) q seat)
    (λ l. subst (λ (r : Placement). length r.transfers ≤ 16) e (let k = retire_count p q in omega (arith, k, l))))

-- Each of them.

pub parted : (p : Placement) (x : HandPart) → OwnsFrames p → PartComes p x → Parted p (part_place p x)
parted p (parts.Expires q) o c = subst (Parted p) (sym (ap (expire_to p q) c.valid)) (turned_parts p q c.frame o c.valid)
parted p (parts.Writes q n) o c = write_parts p q n o c
parted p (parts.Frees q) o c = free_parts p q o c
