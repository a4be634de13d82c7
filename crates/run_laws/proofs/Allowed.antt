-- Each paging entry that the policy gives may be made, and leaves at most 16 transfers in flight.
use Rattle.std.proofs.Common.{◌≡◌, ℕ, ◌<◌, ◌≤◌, Bool, true, false, cond, ◌&&◌, List, [], ◌∷◌, length, Option, Some, None, refl, sym, ap, ◌∙◌, subst, arith}
use Rattle.vm_facts.specs.declared.page.Page.{Page}
use Rattle.vm_facts.specs.declared.page.PageState.TheVariants.{Unfilled}
use Rattle.vm_facts.specs.declared.entry.Entry.{Entry}
use Rattle.vm_facts.specs.declared.entry.Entry.TheVariants as entries
use Rattle.page_model.specs.Pages.{Zeros, frame_of, is_valid}
use Rattle.page_model.specs.Placement.{Placement, Transfer, Due, Start, CopyOf, due_page, due_of_page, state_of, filling_of, IsThere, is_dirty}
use Rattle.page_model.specs.Moves.{done}
use Rattle.page_model.specs.Place.{due_after, place_entry}
use Rattle.page_model.specs.Runs.{run_put, spare_frames}
use Rattle.page_model.specs.Hands.{expire, taken, sweep_taken, sweep_by, hand_move, write_by, write_taken}
use Rattle.std.specs.Option.{is_some}
use Rattle.page_model.specs.Reading.{read_entry}
use Rattle.page_model.specs.Serve.{force_entry, is_full, serve_entry, entry_of_serving}
use Rattle.page_model.specs.Swapper.{put_out_unit}
use Rattle.page_model.specs.Conditions.{CanEnter, IsShared}
use Rattle.page_model.specs.Dues.{DueStand, IsDue, NotDue}
use Rattle.page_model.specs.Ownership.{OwnsFrames}
use Rattle.flat_state.proofs.PageNames.{same_page_self}
use Rattle.page_laws.proofs.Moves.Stays.{expire_transfers}
use Rattle.page_laws.proofs.Ownership.Serve.{run_in_enters}
use Rattle.page_laws.proofs.Due.Entries.{run_in_due, not_again}
use Rattle.page_laws.proofs.Moves.Parts.{run_some}
use Rattle.page_laws.proofs.Swapper.PuttingOut.{unit_case, unit_can, run_some as put_some}
use Rattle.std.proofs.lemmas.Bool.{leb-false}
use Rattle.page_laws.proofs.Ends.Serving.{flying_in, full_some}
use Rattle.page_laws.proofs.Moves.Transfers.{entry_count, done_count, retire_count}
use Rattle.page_laws.proofs.Moves.Cases.{serving_cases, read_frameless, some_of}
use Rattle.run_model.specs.Next.{fill_by, fill_unit, begins_write, move_by, move_unit}
use Rattle.kernel_laws.proofs.Kept.Pages.{writable_shared}
use Rattle.run_laws.specs.Standing.{IsAllowed, EachOnce}

-- Lists of what is due.

pub first_after : (d : Due) (ds : List Due) → due_after (d ∷ ds) (due_page d) ≡ ds
first_after d ds = ap (λ (b : Bool). cond b ds (d ∷ ds)) (same_page_self (due_page d))

pub first_due : (d : Due) (ds : List Due) → due_of_page (d ∷ ds) (due_page d) ≡ Some d
first_due d ds = ap (λ (b : Bool). cond b (Some d) (due_of_page ds (due_page d))) (same_page_self (due_page d))

some_length : {A : Type 0} (xs : List A) (x : A) (rest : List A) → xs ≡ x ∷ rest → 0 < length xs
some_length xs x rest e = subst (λ l. 0 < length l) (sym e) (omega arith)

pub transfers_some : (p : Placement) → (p.transfers ≡ [] → ⊥) → 0 < length p.transfers
transfers_some p n = go p.transfers refl
  where
    go : (ts : List Transfer) → p.transfers ≡ ts → 0 < length ts
    go [] e = absurd (n e)
    go (t ∷ ts) e = omega arith

pub done_allowed : (p : Placement) → 0 < length p.transfers → IsAllowed p entries.Done
done_allowed p l = record { can = tt; shared = tt; begins = tt; leaves = tt; finds = l }

-- Forcing.

pub forced_allowed : (p : Placement) (ts : List Transfer) → p.transfers ≡ ts → IsAllowed p (force_entry ts)
forced_allowed p [] e = record { can = tt; shared = tt; begins = tt; leaves = tt; finds = tt }
forced_allowed p (t ∷ ts) e = done_allowed p (some_length p.transfers t ts e)

pub forced_few : (locked : List Page) (at : ℕ) (p : Placement) (ts : List Transfer) → p.transfers ≡ ts → length p.transfers ≤ 16
    → length (place_entry locked at p (force_entry ts)).transfers ≤ 16
forced_few locked at p [] e l = let n = entry_count locked at p (entries.Hands 1) in let k = ap length e in omega arith
forced_few locked at p (t ∷ ts) e l = let n = done_count p in omega arith

-- Serving a page.

pub served_allowed : (p : Placement) (q : Page) → OwnsFrames p → DueStand p → IsThere p q → IsShared p q → NotDue p.due q
    → is_valid (state_of p q) ≡ false → IsAllowed p (serve_entry p q)
served_allowed p q o d there shared n v = serving_cases (λ x. IsAllowed p (entry_of_serving x)) p q
    (λ f s. absurd (let k : true ≡ false = sym (ap is_valid s) ∙ v in cc))
    (λ f s. record { can = tt; shared = shared; begins = tt; leaves = tt; finds = (f, s) }) (λ f s. done_allowed p (transfers_some p (flying_in p q f o s)))
    (λ m e. forced_allowed p p.transfers refl)
    (λ f fs l s x. record {
      can = record { there = there; frameless = ap frame_of s };
      shared = shared;
      begins = tt;
      leaves = not_again p.due q n;
      finds = (some_of p f fs l, s, x);
    })
    (λ f fs l r b. done_allowed p (full_some p b))
    (λ f fs l r b. record {
      can = run_in_enters p q (record { there = there; frameless = read_frameless p q r });
      shared = shared;
      begins = (run_some p q (state_of p q) (spare_frames p), some_of p f fs l);
      leaves = run_in_due p q d n;
      finds = tt;
    })

pub served_few : (locked : List Page) (at : ℕ) (p : Placement) (q : Page) → length p.transfers ≤ 16
    → length (place_entry locked at p (serve_entry p q)).transfers ≤ 16
served_few locked at p q l = serving_cases (λ x. length (place_entry locked at p (entry_of_serving x)).transfers ≤ 16) p q (λ f s. ends)
    (λ f s. let n = entry_count locked at p (entries.Reclaim q) in omega arith) (λ f s. ends) (λ m e. forced_few locked at p p.transfers refl l)
    (λ f fs e s x. let n = entry_count locked at p (entries.Zero q) in omega arith) (λ f fs e r b. ends)
    (λ f fs e r b. let n = entry_count locked at p (read_entry p q) in let m = leb-false 16 (length p.transfers) b in omega arith)
  where
    ends : length (done p).transfers ≤ 16
    ends = let n = done_count p in omega arith

-- Fills that are due.

-- the fill of what is due first
pub fill_allowed : (p : Placement) (d : Due) (ds : List Due) (e : Entry) → p.due ≡ d ∷ ds → DueStand p → EachOnce p.due
    → ((u : Entry) → u ≡ e → 0 < length p.free → CanEnter p (due_page d) → IsShared p (due_page d) → NotDue (due_after p.due (due_page d)) (due_page d)
    → state_of p (due_page d) ≡ Unfilled → filling_of p (due_page d) ≡ Zeros → IsAllowed p u)
    → IsAllowed p (fill_unit p e)
fill_allowed p d ds e h s once make = go p.free refl
  where
    due : IsDue p (due_page d) d
    due = s (due_page d) d (ap (λ (l : List Due). due_of_page l (due_page d)) h ∙ first_due d ds)

    rest : due_after p.due (due_page d) ≡ ds
    rest = ap (λ (l : List Due). due_after l (due_page d)) h ∙ first_after d ds

    once_at : EachOnce (d ∷ ds)
    once_at = subst EachOnce h once

    go : (fr : List ℕ) → p.free ≡ fr → IsAllowed p (fill_by p e fr)
    go [] k = forced_allowed p p.transfers refl
    go (f ∷ fs) k = make e refl (some_length p.free f fs k) (record { there = due.there; frameless = ap frame_of due.unfilled }) (writable_shared p (due_page d) due.writable)
        (subst (λ (l : List Due). NotDue l (due_page d)) (sym rest) once_at.0) due.unfilled due.zeros

pub start_allowed : (p : Placement) (q : Page) (ds : List Due) → p.due ≡ Start q ∷ ds → DueStand p → EachOnce p.due → IsAllowed p (fill_unit p (entries.Zero q))
start_allowed p q ds h s once =
    fill_allowed p (Start q) ds (entries.Zero q) h s once (λ u i l c sh n st x. subst (IsAllowed p) (sym i) (record { can = c; shared = sh; begins = tt; leaves = n; finds = (l, st, x) }))

pub copy_allowed : (p : Placement) (q parent : Page) (ds : List Due) → p.due ≡ CopyOf q parent ∷ ds → DueStand p → EachOnce p.due
    → IsAllowed p (fill_unit p (entries.Copy q))
copy_allowed p q parent ds h s once =
    fill_allowed p (CopyOf q parent) ds (entries.Copy q) h s once (λ u i l c sh n st x. subst (IsAllowed p) (sym i) (record { can = c; shared = sh; begins = tt; leaves = n; finds = (l, st) }))

pub fill_few : (locked : List Page) (at : ℕ) (p : Placement) (e : Entry) → length p.transfers ≤ 16 → length (place_entry locked at p e).transfers ≤ 16
    → length (place_entry locked at p (fill_unit p e)).transfers ≤ 16
fill_few locked at p e l k = go p.free
  where
    go : (fr : List ℕ) → length (place_entry locked at p (fill_by p e fr)).transfers ≤ 16
    go [] = forced_few locked at p p.transfers refl l
    go (f ∷ fs) = k

-- Putting out.

pub put_out_allowed : (p : Placement) (pid sid : ℕ) → IsAllowed p (put_out_unit p pid sid)
put_out_allowed p pid sid = unit_case (IsAllowed p) p pid sid
    (λ t ts h. done_allowed p (some_length p.transfers t ts h))
    (λ v e h k. record { can = can v e h k; shared = tt; begins = put_some p v; leaves = tt; finds = tt })
    (λ e h. record { can = tt; shared = tt; begins = tt; leaves = tt; finds = tt })
  where
    can : (v : Page) → Rattle.page_model.specs.Swapper.is_settled p sid ≡ true → Rattle.page_model.specs.Swapper.first_seated p (Rattle.page_model.specs.Place.pages_of_space p sid) ≡ Some v
        → (is_dirty p v && is_full p) ≡ false
        → Rattle.page_model.specs.Conditions.CanPlace p (entries.Put v (run_put p v).n)
    can v e h k = subst (Rattle.page_model.specs.Conditions.CanPlace p) (
        ap (Rattle.page_model.specs.Swapper.put_out_if p pid sid) e ∙ ap (Rattle.page_model.specs.Swapper.put_out_by p pid) h ∙ ap (Rattle.page_model.specs.Swapper.put_unit_by p v) k)
        (unit_can p pid sid)

-- Moves of the hands.

-- a move that begins no write
no_write : (p : Placement) (locked : List Page) → begins_write p locked ≡ false → length (hand_move p locked).transfers ≤ length p.transfers
no_write p locked n = let k = ap length (expire_transfers p locked) in let h = of (taken x locked) n in omega arith
  where
    x : Placement
    x = expire p locked

    by : (q : Page) (d : Bool) → is_some (write_by x locked q d) ≡ false → length (sweep_by x locked q d).transfers ≤ length x.transfers
    by q true e = absurd cc
    by q false e = let k = retire_count x q in omega arith

    of : (h : Option Page) → is_some (write_taken x locked h) ≡ false → length (sweep_taken x locked h).transfers ≤ length x.transfers
    of None e = omega arith
    of (Some q) e = by q (is_dirty x q) e

pub move_allowed : (p : Placement) (locked : List Page) → IsAllowed p (move_unit p locked)
move_allowed p locked = go (begins_write p locked) (is_full p) refl
  where
    go : (a b : Bool) → is_full p ≡ b → IsAllowed p (move_by (a && b))
    go true true e = done_allowed p (full_some p e)
    go true false e = record { can = tt; shared = tt; begins = tt; leaves = tt; finds = tt }
    go false b e = record { can = tt; shared = tt; begins = tt; leaves = tt; finds = tt }

pub move_few : (locked : List Page) (at : ℕ) (p : Placement) → length p.transfers ≤ 16 → length (place_entry locked at p (move_unit p locked)).transfers ≤ 16
move_few locked at p l = go (begins_write p locked) (is_full p) refl refl
  where
    go : (a b : Bool) → begins_write p locked ≡ a → is_full p ≡ b → length (place_entry locked at p (move_by (a && b))).transfers ≤ 16
    go true true h e = let n = done_count p in omega arith
    go true false h e = let n = entry_count locked at p (entries.Hands 1) in let m = leb-false 16 (length p.transfers) e in omega arith
    go false b h e = let n = no_write p locked h in omega arith
