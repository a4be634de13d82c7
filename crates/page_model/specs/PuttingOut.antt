-- How far a process is from being out: a number that falls with each unit of putting it out.
use Rattle.std.specs.Prelude.{◌≡◌, ◌≢◌, ℕ, ◌+◌, ◌*◌, ◌≤◌, Bool, true, false, cond, List, [], ◌∷◌, length, None}
use Rattle.vm_facts.specs.declared.page.Page.{Page}
use Rattle.vm_facts.specs.declared.page.PageState.{PageState}
use Rattle.vm_facts.specs.declared.page.PageState.TheVariants.{Coming}
use Rattle.vm_facts.specs.declared.entry.Entry.{Entry}
use Rattle.page_model.specs.Pages.{numbered}
use Rattle.page_model.specs.Placement.{Placement, Residence, state_of}
use Rattle.page_model.specs.Runs.{is_seated_by}
use Rattle.page_model.specs.Place.{pages_of_space, place_entry}
use Rattle.page_model.specs.Ownership.{OwnsFrames}
use Rattle.page_model.specs.Swapper.{is_out, first_seated, is_settled, put_out_unit}

-- the process is listed, as in or as out
abbrev pub IsResident : Placement → ℕ → Type 0
IsResident p pid = numbered (λ (r : Residence). r.pid) pid p.residents ≢ None

-- a page that is in a frame off the free list, or is being read and may come to be
abbrev pub is_active_by : Placement → PageState → Bool
is_active_by p (Coming f) = true
is_active_by p s = is_seated_by p s

-- the page is in a frame off the free list, or is being read
abbrev pub is_active : Placement → Page → Bool
is_active p q = is_active_by p (state_of p q)

-- how many of these pages are in a frame off the free list, or are being read
abbrev pub active_count : Placement → List Page → ℕ
active_count p [] = 0
active_count p (q ∷ qs) = cond (is_active p q) 1 0 + active_count p qs

-- one unit for the process, one for each transfer in flight, and two for each such page: its put, and the end of that
abbrev pub put_rank_by : Placement → ℕ → Bool → ℕ
put_rank_by p sid true = 0
put_rank_by p sid false = 1 + length p.transfers + 2 * active_count p (pages_of_space p sid)

-- how far a process is from being out; 0 where it is
abbrev pub put_rank : Placement → ℕ → ℕ → ℕ
put_rank p pid sid = put_rank_by p sid (is_out p pid)

-- each of these units is the one that puts the process out, and they lead from the first placement to the last; the
-- first is after so many entries of the journal
abbrev pub PutsOut : List Entry → ℕ → Placement → ℕ → ℕ → Placement → Type 0
PutsOut [] at p pid sid r = p ≡ r
PutsOut (e ∷ es) at p pid sid r = (is_out p pid ≡ false) × (e ≡ put_out_unit p pid sid) × PutsOut es (at + 1) (place_entry [] (at + 1) p e) pid sid r

-- putting out as a whole: its units, and the placement that they lead to, in which the process is out, its space is
-- settled, and no page of that is in a frame off the free list
pub record EndsPuttingOut (at : ℕ) (p : Placement) (pid sid : ℕ) : Type 0 where
  pub units : List Entry
  pub last : Placement
  pub leads : PutsOut units at p pid sid last
  pub out : is_out last pid ≡ true
  pub settled : is_settled last sid ≡ true
  pub empty : first_seated last (pages_of_space last sid) ≡ None
  pub few : length units ≤ put_rank p pid sid
  pub owner : OwnsFrames last
  pub few_transfers : length last.transfers ≤ 16
