-- A line that is no process's may come where the placement allows its unit.
use Rattle.std.proofs.Common.{◌≡◌, ℕ, ◌<◌, ◌≤◌, ◌==◌, nat_lt, nat_le, ◌&&◌, Bool, true, false, not, List, [], ◌∷◌, length, Option, Some, None, refl, sym, ap, ◌∙◌, subst, arith}
use Rattle.std.proofs.lemmas.Bool.Decides.{nat_tests}
use Rattle.std.proofs.lemmas.Bool.{eqb-true}
use Rattle.std.specs.Option.{is_some}
use Rattle.vm_facts.specs.declared.page.Page.{Page}
use Rattle.vm_facts.specs.declared.page.Page.TheVariants.{Data, Stack, Text}
use Rattle.vm_facts.specs.declared.page.PageState.TheVariants.{Unfilled, OnSwap}
use Rattle.vm_facts.specs.declared.entry.Entry.{Entry}
use Rattle.vm_facts.specs.declared.entry.Entry.TheVariants as entries
use Rattle.flat_state.specs.Flat.{Holding, Holds, Lends, Zombie, Process, FlatState, process_of, holds_space}
use Rattle.flat_state.specs.PageNames.{number_of, beside, pages_from}
use Rattle.page_model.specs.Pages.{frame_of}
use Rattle.page_model.specs.Placement.{Placement, Source, FromSwap, FromFile, Transfer, Due, Start, CopyOf, due_of_page, state_of, is_dirty}
use Rattle.page_model.specs.Place.{due_after, place_entry, put_by}
use Rattle.page_model.specs.Runs.{Run, is_seated, most_written}
use Rattle.page_model.specs.Hands.{hand_run, wants_moves}
use Rattle.page_model.specs.Serve.{is_full}
use Rattle.page_model.specs.Reading.{source_for}
use Rattle.page_model.specs.Conditions.{EachPage, HasSeat}
use Rattle.page_model.specs.Dues.{DueStand, IsDue, NotDue}
use Rattle.page_model.specs.PageBytes.{ReadsFrom}
use Rattle.page_laws.proofs.Moves.Transfers.{entry_count, done_count, retire_count}
use Rattle.page_laws.proofs.Ownership.Runs.{seated_seat}
use Rattle.kernel_model.specs.Stands.{holds_some}
use Rattle.kernel_laws.proofs.Kept.Pages.{writable_shared}
use Rattle.run_model.specs.Next.{begins_write, move_by}
use Rattle.run_laws.specs.Standing.{IsAllowed, EachOnce}
use Rattle.run_laws.proofs.Allowed.{first_after, first_due, move_few}
use Rattle.run_laws.proofs.Paging.{LeaverHolds}
use Rattle.run_laws.proofs.Units.{not_due}
use Rattle.paged_model.specs.declared.reason.Reason.TheVariants as reasons
use Rattle.paged_model.specs.Reasons.{unless, or_reason}
use Rattle.paged_model.specs.Coming.{FirstStart, ZeroComes, CopyComes, GetComes, ReclaimComes}
use Rattle.paged_model.specs.Moves.{is_there, if_there, no_room, due_first, wrong_length, each_page, apart, zero_reason, copy_reason, get_reason, reclaim_reason, write_room, hand_reason, done_reason}
use Rattle.paged_model.specs.Leaving.{owner_stays, unseated_if, unseated, put_along, put_reason_by as put_by_reason, put_reason, out_by, out_if, out_reason}
use Rattle.paged_model.proofs.Reasoned.{or_none, unless_none}
use Rattle.paged_model.proofs.There.{if_there_none}
use Rattle.paged_model.proofs.Comes.{zero_comes, reclaim_comes}
use Rattle.paged_model.proofs.Brought.{each_run, room_left, get_comes}
use Rattle.paged_model.proofs.Copied.{copy_comes}
use Rattle.paged_model.proofs.PartReasons.{unseated_some}

-- an entry that the placement allows, with which at most 16 transfers are in flight, and who leaves holds a space
pub record Permitted (flat : FlatState) (locked : List Page) (at : ℕ) (p : Placement) (e : Entry) : Type 0 where
  pub allowed : IsAllowed p e
  pub few : length (place_entry locked at p e).transfers ≤ 16
  pub leaves : LeaverHolds flat e

-- What is due.

due_left : (ds : List Due) (q : Page) → EachOnce ds → FirstStart ds q → NotDue (due_after ds q) q
due_left [] q o f = refl
due_left (Start r ∷ ds) q o f =
    subst (λ (x : Page). NotDue (due_after (Start r ∷ ds) x) x) f (subst (λ (l : List Due). NotDue l r) (sym (first_after (Start r) ds)) o.0)
due_left (CopyOf r parent ∷ ds) q o f = absurd f

copy_left : (ds others : List Due) (q parent : Page) → EachOnce ds → ds ≡ CopyOf q parent ∷ others → NotDue (due_after ds q) q
copy_left ds others q parent o e =
    subst (λ (l : List Due). EachOnce l → NotDue (due_after l q) q) (sym e)
    (λ x. subst (λ (l : List Due). NotDue l q) (sym (first_after (CopyOf q parent) others)) x.0) o

-- `Z`, `C`, `G` and `R`.

pub zero_permitted : (flat : FlatState) (locked : List Page) (at : ℕ) (p : Placement) (q : Page) → EachOnce p.due → length p.transfers ≤ 16
    → zero_reason p q ≡ None → Permitted flat locked at p (entries.Zero q)
zero_permitted flat locked at p q once few e =
    let z : ZeroComes p q = zero_comes p q e in
    record {
      allowed = record {
        can = record { there = z.there; frameless = ap frame_of z.unfilled };
        shared = writable_shared p q z.writable;
        begins = tt;
        leaves = due_left p.due q once z.first;
        finds = (z.free, z.unfilled, z.zeros);
      };
      few = (let k = entry_count locked at p (entries.Zero q) in omega (arith, k, few));
      leaves = λ n l. absurd l;
    }

pub copy_permitted : (flat : FlatState) (locked : List Page) (at : ℕ) (p : Placement) (q : Page) → DueStand p → EachOnce p.due
    → length p.transfers ≤ 16 → copy_reason p q ≡ None → Permitted flat locked at p (entries.Copy q)
copy_permitted flat locked at p q due once few e =
    let parent : Page = (copy_comes p q e).0 in
    let z : CopyComes p q parent = (copy_comes p q e).1 in
    let was : IsDue p q (CopyOf q parent) =
    due q (CopyOf q parent) (ap (λ (ds : List Due). due_of_page ds q) z.first ∙ first_due (CopyOf q parent) z.others) in
    record {
      allowed = record {
        can = record { there = z.there; frameless = ap frame_of was.unfilled };
        shared = writable_shared p q was.writable;
        begins = tt;
        leaves = copy_left p.due z.others q parent once z.first;
        finds = (z.free, was.unfilled);
      };
      few = (let k = entry_count locked at p (entries.Copy q) in omega (arith, k, few));
      leaves = λ n l. absurd l;
    }

swap_not_unfilled : (p : Placement) (w : Page) → state_of p w ≡ OnSwap → state_of p w ≡ Unfilled → ⊥
swap_not_unfilled p w e f = let x : OnSwap ≡ Unfilled = sym e ∙ f in absurd cc

read_not_due : (p : Placement) (source : Source) (q w : Page) → DueStand p → ReadsFrom p source q w → NotDue p.due w
read_not_due p FromSwap q w due r = not_due p w due (swap_not_unfilled p w r)
read_not_due p FromFile q w due r = r.2

reads_not_due : (p : Placement) (source : Source) (q : Page) (ws : List Page) → DueStand p → EachPage (ReadsFrom p source q) ws → EachPage (NotDue p.due) ws
reads_not_due p source q [] due r = tt
reads_not_due p source q (w ∷ ws) due r = (read_not_due p source q w due r.0, reads_not_due p source q ws due r.1)

pub get_permitted : (flat : FlatState) (locked : List Page) (at : ℕ) (p : Placement) (q : Page) (lo n : ℕ) → DueStand p → get_reason p q lo n ≡ None
    → Permitted flat locked at p (entries.Get q lo n)
get_permitted flat locked at p q lo n due e =
    let z : GetComes p q lo n = get_comes p q lo n due e in
    let room = z.room in
    let some = z.some in
    let frames = z.frames in
    record {
      allowed = record {
        can = z.enter;
        shared = z.shared;
        begins = (some, omega (arith, some, frames));
        leaves = reads_not_due p (source_for (state_of p q)) q (pages_from q lo n) due z.reads;
        finds = tt;
      };
      few = (let k = entry_count locked at p (entries.Get q lo n) in omega (arith, k, room));
      leaves = λ m l. absurd l;
    }

pub reclaim_permitted : (flat : FlatState) (locked : List Page) (at : ℕ) (p : Placement) (q : Page) → length p.transfers ≤ 16
    → reclaim_reason p q ≡ None → Permitted flat locked at p (entries.Reclaim q)
reclaim_permitted flat locked at p q few e =
    let z : ReclaimComes p q = reclaim_comes p q e in
    record {
      allowed = record { can = tt; shared = z.shared; begins = tt; leaves = tt; finds = (z.frame, z.invalid) };
      few = (let k = entry_count locked at p (entries.Reclaim q) in omega (arith, k, few));
      leaves = λ n l. absurd l;
    }

-- `H`.

room_open : (p : Placement) → no_room p ≡ None → is_full p ≡ false
room_open p e = go (is_full p) (unless_none (not (is_full p)) reasons.FullFlight e)
  where
    go : (b : Bool) → not b ≡ true → b ≡ false
    go false x = refl
    go true x = absurd cc

and_false : (a : Bool) → (a && false) ≡ false
and_false true = refl
and_false false = refl

no_wait : (p : Placement) (locked : List Page) → write_room p (hand_run p locked) ≡ None → (begins_write p locked && is_full p) ≡ false
no_wait p locked e = go (hand_run p locked) e
  where
    go : (o : Option (Page × Run)) → write_room p o ≡ None → (is_some o && is_full p) ≡ false
    go None x = refl
    go (Some w) x = ap (λ (b : Bool). is_some (Some w) && b) (room_open p x)

pub hand_permitted : (flat : FlatState) (locked : List Page) (at : ℕ) (p : Placement) → length p.transfers ≤ 16 → hand_reason p locked ≡ None
    → Permitted flat locked at p (entries.Hands 1)
hand_permitted flat locked at p few e =
    let o = or_none (unless (wants_moves p) reasons.EnoughFree) (write_room p (hand_run p locked)) e in
    record {
      allowed = record { can = tt; shared = tt; begins = tt; leaves = tt; finds = tt };
      few = subst (λ (b : Bool). length (place_entry locked at p (move_by b)).transfers ≤ 16) (no_wait p locked o.1) (move_few locked at p few);
      leaves = λ n l. absurd l;
    }

-- `P`.

seat_of : (p : Placement) (w : Page) → unseated p w ≡ None → HasSeat p w
seat_of p w e = go (is_seated p w) refl e
  where
    go : (b : Bool) → is_seated p w ≡ b → unseated_if p w b ≡ None → HasSeat p w
    go true i x = seated_seat p w i
    go false i x = absurd (unseated_some w (state_of p w) x)

along_seat : (p : Placement) (q : Page) (i : ℕ) → put_along p q (beside q i) ≡ None → HasSeat p (beside q i)
along_seat p q i e =
    let a =
    if_there_none (is_there p (beside q i)) (beside q i)
    (or_reason (unseated p (beside q i)) (or_reason (unless (is_dirty p (beside q i)) (reasons.IsClean (beside q i))) (apart q (beside q i)))) e in
    let b = or_none (unseated p (beside q i)) (or_reason (unless (is_dirty p (beside q i)) (reasons.IsClean (beside q i))) (apart q (beside q i))) a.1 in
    seat_of p (beside q i) b.0

one_from : (p : Placement) (q : Page) → HasSeat p q → EachPage (HasSeat p) (pages_from q (number_of q) 1)
one_from p (Data sid v) h = (h, tt)
one_from p (Stack sid v) h = (h, tt)
one_from p (Text image v) h = (h, tt)

some_pages : (n : ℕ) → wrong_length n ≡ None → 0 < n
some_pages n e = go (nat_lt 0 n) (nat_le n most_written) refl (unless_none (nat_lt 0 n && nat_le n most_written) reasons.WrongLength e)
  where
    go : (a b : Bool) → nat_lt 0 n ≡ a → (a && b) ≡ true → 0 < n
    go true b i x = grind (arith, nat_tests)
    go false b i x = absurd cc

pub put_permitted : (flat : FlatState) (locked : List Page) (at : ℕ) (p : Placement) (q : Page) (n : ℕ) → length p.transfers ≤ 16
    → put_reason flat p q n ≡ None → Permitted flat locked at p (entries.Put q n)
put_permitted flat locked at p q n few e =
    let rest = or_reason (wrong_length n) (or_reason (unseated p q) (put_by_reason p q n (is_dirty p q))) in
    let a = or_none (due_first p.due) (or_reason (owner_stays flat p q) (if_there (is_there p q) q rest)) e in
    let b = or_none (owner_stays flat p q) (if_there (is_there p q) q rest) a.1 in
    let c = if_there_none (is_there p q) q rest b.1 in
    let d = or_none (wrong_length n) (or_reason (unseated p q) (put_by_reason p q n (is_dirty p q))) c.1 in
    let f = or_none (unseated p q) (put_by_reason p q n (is_dirty p q)) d.1 in
    go (some_pages n d.0) (seat_of p q f.0) (is_dirty p q) refl f.1
  where
    go : 0 < n → HasSeat p q → (b : Bool) → is_dirty p q ≡ b → put_by_reason p q n b ≡ None → Permitted flat locked at p (entries.Put q n)
    go some seat true i x =
        let o = or_none (each_page (put_along p q) (pages_from q (number_of q) n)) (no_room p) x in
        record {
          allowed = record { can = (seat, each_run q (put_along p q) (HasSeat p) (along_seat p q) (number_of q) n o.0); shared = tt; begins = some; leaves = tt; finds = tt };
          few = (let k = entry_count locked at p (entries.Put q n) in let r = room_left p o.1 in omega (arith, k, r));
          leaves = λ m l. absurd l;
        }
    go some seat false i x =
        let one : n ≡ 1 = eqb-true n 1 (unless_none (n == 1) (reasons.IsClean q) x) in
        subst (λ (m : ℕ). Permitted flat locked at p (entries.Put q m)) (sym one) (record {
          allowed = record { can = (seat, one_from p q seat); shared = tt; begins = omega arith; leaves = tt; finds = tt };
          few = subst (λ (b : Bool). length (put_by p q (pages_from q (number_of q) 1) b).transfers ≤ 16) (sym i)
              (let k = retire_count p q in omega (arith, k, few));
          leaves = λ m l. absurd l;
        })

-- `D`.

some_transfer : (ts : List Transfer) → done_reason ts ≡ None → 0 < length ts
some_transfer [] e = absurd cc
some_transfer (t ∷ ts) e = omega arith

pub done_permitted : (flat : FlatState) (locked : List Page) (at : ℕ) (p : Placement) → length p.transfers ≤ 16 → done_reason p.transfers ≡ None
    → Permitted flat locked at p entries.Done
done_permitted flat locked at p few e = record {
  allowed = record { can = tt; shared = tt; begins = tt; leaves = tt; finds = some_transfer p.transfers e };
  few = (let k = done_count p in omega (arith, k, few));
  leaves = λ n l. absurd l;
}

-- `O`.

pub holds_of : (flat : FlatState) (p : Placement) (pid : ℕ) → out_reason flat p pid ≡ None → holds_some (process_of flat pid) ≡ true
holds_of flat p pid e = let a = or_none (due_first p.due) (out_if flat p pid (process_of flat pid)) e in go (process_of flat pid) a.1
  where
    by : (q : Process) (h : Holding) → q.holding ≡ h → out_by flat p pid h ≡ None → holds_some (Some q) ≡ true
    by q (Holds s) i x = ap holds_space i
    by q (Lends sid child) i x = absurd cc
    by q (Zombie status) i x = absurd cc

    go : (o : Option Process) → out_if flat p pid o ≡ None → holds_some o ≡ true
    go None x = absurd cc
    go (Some q) x = by q q.holding refl x

pub out_permitted : (flat : FlatState) (locked : List Page) (at : ℕ) (p : Placement) (pid : ℕ) → length p.transfers ≤ 16 → out_reason flat p pid ≡ None
    → Permitted flat locked at p (entries.SwapOut pid)
out_permitted flat locked at p pid few e = record {
  allowed = record { can = tt; shared = tt; begins = tt; leaves = tt; finds = tt };
  few = few;
  leaves = λ n l. subst (λ (m : ℕ). holds_some (process_of flat m) ≡ true) l (holds_of flat p pid e);
}
