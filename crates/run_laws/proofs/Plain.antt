-- Units that are no flat entries.
use Rattle.std.proofs.Common.{◌≡◌, ℕ, ◌+◌, Bool, true, false, ◌&&◌, nat_lt, List, [], ◌∷◌, length, Option, Some, None, refl, ap, ◌∙◌}
use Rattle.vm_facts.specs.declared.page.Page.{Page}
use Rattle.vm_facts.specs.declared.entry.Entry.{Entry}
use Rattle.vm_facts.specs.declared.entry.Entry.TheVariants as entries
use Rattle.flat_state.specs.Flat.{Inputs}
use Rattle.page_model.specs.Placement.{Placement, Transfer}
use Rattle.page_model.specs.Serve.{force_entry, is_full, serve_entry}
use Rattle.page_model.specs.Swapper.{put_out_unit}
use Rattle.page_laws.proofs.Swapper.PuttingOut.{unit_case}
use Rattle.page_laws.proofs.Moves.Cases.{forcing_entry, serving_entries}
use Rattle.flat_model.specs.Run.{process_of_entry}
use Rattle.run_model.specs.State.{State}
use Rattle.run_laws.proofs.Paging.{Leaver}
use Rattle.run_model.specs.Next.{when, fill_by, fill_unit, begins_write, move_by, move_unit, turn_of, next_turned, last_turned, line_or_turn, next_mark}

-- an entry that is no flat one and no mark, and puts nobody out
abbrev pub IsPaging : Entry → Type 0
IsPaging (entries.Ran p n) = ⊥
IsPaging (entries.Out p bytes) = ⊥
IsPaging (entries.Grew p n) = ⊥
IsPaging (entries.Call p n c r0 r1) = ⊥
IsPaging (entries.Refused p) = ⊥
IsPaging (entries.Sleeps p) = ⊥
IsPaging (entries.Ended p n) = ⊥
IsPaging (entries.SwapOut p) = ⊥
IsPaging (entries.SwapIn p) = ⊥
IsPaging (entries.Event line) = ⊥
IsPaging (entries.Turn p) = ⊥
IsPaging e = Unit {0}

pub paging_plain : (u : Entry) → IsPaging u → process_of_entry u ≡ None
paging_plain (entries.Zero q) k = refl
paging_plain (entries.Get q lo n) k = refl
paging_plain (entries.Copy q) k = refl
paging_plain (entries.Reclaim q) k = refl
paging_plain (entries.Hands n) k = refl
paging_plain (entries.Put q n) k = refl
paging_plain entries.Done k = refl
paging_plain (entries.Owners a b c d) k = refl
paging_plain _ k = absurd k

pub paging_stays : (u : Entry) (n : ℕ) → IsPaging u → Leaver u n → ⊥
paging_stays (entries.SwapOut p) n k l = k
paging_stays _ n k l = l

force_paging : (ts : List Transfer) → IsPaging (force_entry ts)
force_paging = forcing_entry IsPaging tt tt

pub serve_paging : (p : Placement) (q : Page) → IsPaging (serve_entry p q)
serve_paging p q = serving_entries IsPaging p q tt tt tt tt tt

fill_paging : (p : Placement) (e : Entry) → IsPaging e → IsPaging (fill_unit p e)
fill_paging p e h = go p.free
  where
    go : (fr : List ℕ) → IsPaging (fill_by p e fr)
    go [] = force_paging p.transfers
    go (f ∷ fs) = h

pub zero_paging : (p : Placement) (q : Page) → IsPaging (fill_unit p (entries.Zero q))
zero_paging p q = fill_paging p (entries.Zero q) tt

pub copy_paging : (p : Placement) (q : Page) → IsPaging (fill_unit p (entries.Copy q))
copy_paging p q = fill_paging p (entries.Copy q) tt

pub move_paging : (p : Placement) (pages : List Page) → IsPaging (move_unit p pages)
move_paging p pages = go (begins_write p pages && is_full p)
  where
    go : (b : Bool) → IsPaging (move_by b)
    go true = tt
    go false = tt

pub serve_flat : (p : Placement) (q : Page) → process_of_entry (serve_entry p q) ≡ None
serve_flat p q = paging_plain (serve_entry p q) (serve_paging p q)

pub zero_flat : (p : Placement) (q : Page) → process_of_entry (fill_unit p (entries.Zero q)) ≡ None
zero_flat p q = paging_plain (fill_unit p (entries.Zero q)) (zero_paging p q)

pub copy_flat : (p : Placement) (q : Page) → process_of_entry (fill_unit p (entries.Copy q)) ≡ None
copy_flat p q = paging_plain (fill_unit p (entries.Copy q)) (copy_paging p q)

pub move_flat : (p : Placement) (pages : List Page) → process_of_entry (move_unit p pages) ≡ None
move_flat p pages = paging_plain (move_unit p pages) (move_paging p pages)

pub mark_flat : (A : Inputs) (s : State) (u : Entry) → next_mark A s ≡ Some u → process_of_entry u ≡ None
mark_flat A s u h = go (nat_lt s.count A.limit) (nat_lt s.lines (length A.lines)) h
  where
    some : (x : Entry) → process_of_entry x ≡ None → Some x ≡ Some u → process_of_entry u ≡ None
    some x k e = ap process_of_entry (let same : u ≡ x = cc in same) ∙ k

    turn : (o : Option ℕ) → turn_of o ≡ Some u → process_of_entry u ≡ None
    turn None e = absurd cc
    turn (Some pid) e = some (entries.Turn pid) refl e

    go : (a b : Bool) → when a (line_or_turn s b) ≡ Some u → process_of_entry u ≡ None
    go false b e = absurd cc
    go true true e = some (entries.Event (s.lines + 1)) refl e
    go true false e = turn (next_turned s.point.flat (last_turned s.mark)) e

pub put_flat : (p : Placement) (pid sid : ℕ) → process_of_entry (put_out_unit p pid sid) ≡ None
put_flat p pid sid = unit_case (λ (u : Entry). process_of_entry u ≡ None) p pid sid (λ t ts h. refl) (λ v e h k. refl) (λ e h. refl)
