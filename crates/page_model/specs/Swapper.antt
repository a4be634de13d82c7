-- The swapper: which process comes in or goes out, and the units of putting one out.
use Rattle.std.specs.Prelude.{ℕ, ◌+◌, ◌==◌, nat_lt, nat_le, Bool, true, false, cond, not, ◌&&◌, ◌||◌, List, [], ◌∷◌, length, take, filter, Option, Some, None}
use Rattle.vm_facts.specs.declared.page.Page.{Page}
use Rattle.vm_facts.specs.Pages.{is_of_space, is_of_text}
use Rattle.vm_facts.specs.declared.entry.Entry.{Entry}
use Rattle.vm_facts.specs.declared.entry.Entry.TheVariants as entries
use Rattle.page_model.specs.Placement.{Placement, Residence, Moving, is_dirty, parts_of, image_of, sharers}
use Rattle.page_model.specs.Runs.{desired_free, is_seated, run_put}
use Rattle.page_model.specs.Serve.{is_full}
use Rattle.page_model.specs.Place.{pages_of_space}

-- What the swapper asks of a process: the space that it holds, whether it borrowed it, and whether it sleeps.
pub record Runner : Type 0 where
  pub pid : ℕ
  pub sid : ℕ
  pub borrowed : Bool
  pub asleep : Bool

-- a turn of the swapper: this process comes in, or this one goes out, or nothing is done
pub data Choice : Type 0 where
  In : ℕ → Choice
  Out : ℕ → Choice
  Nothing : Choice

-- whether a process is out, and since when; one that isn't listed is in since the journal's start
abbrev pub residence_of : List Residence → ℕ → Residence
residence_of [] pid = record { pid = pid; out = false; since = 0 }
residence_of (r ∷ rs) pid = cond (r.pid == pid) r (residence_of rs pid)

-- the process is out
abbrev pub is_out : Placement → ℕ → Bool
is_out p pid = (residence_of p.residents pid).out

-- the place in the journal since which a process is in, or out
abbrev pub since : Placement → Runner → ℕ
since p r = (residence_of p.residents r.pid).since

-- how many of these pages are in frames off the free list
abbrev pub seated_count : Placement → List Page → ℕ
seated_count p [] = 0
seated_count p (q ∷ qs) = cond (is_seated p q) 1 0 + seated_count p qs

-- how many pages of a process's space are in frames off the free list
abbrev pub size_in_frames : Placement → Runner → ℕ
size_in_frames p r = seated_count p (pages_of_space p r.sid)

-- in or out longer; of two that are so equally long the one of the lower pid
abbrev pub is_longer : Placement → Runner → Runner → Bool
is_longer p x r = nat_lt (since p x) (since p r) || ((since p x == since p r) && nat_lt x.pid r.pid)

-- the one that is in or out longest
abbrev pub longest_of : Placement → Runner → List Runner → Runner
longest_of p r [] = r
longest_of p r (x ∷ xs) = longest_of p (cond (is_longer p x r) x r) xs

-- the one of these processes that is in or out longest; none where there are none
abbrev pub longest : Placement → List Runner → Option Runner
longest p [] = None
longest p (r ∷ rs) = Some (longest_of p r rs)

-- more pages in frames; of two of one size the one of the lower pid
abbrev pub is_larger : Placement → Runner → Runner → Bool
is_larger p x r = nat_lt (size_in_frames p r) (size_in_frames p x) || ((size_in_frames p x == size_in_frames p r) && nat_lt x.pid r.pid)

-- the largest first
abbrev pub ranked_in : Placement → Runner → List Runner → List Runner
ranked_in p r [] = r ∷ []
ranked_in p r (x ∷ xs) = cond (is_larger p x r) (x ∷ ranked_in p r xs) (r ∷ x ∷ xs)

-- these processes, the largest first
abbrev pub ranked : Placement → List Runner → List Runner
ranked p [] = []
ranked p (r ∷ rs) = ranked_in p r (ranked p rs)

-- a process that is out and isn't asleep
abbrev pub may_come_in : Placement → Runner → Bool
may_come_in p r = is_out p r.pid && not r.asleep

-- a process that is in, with a space that it didn't borrow
abbrev pub may_go_out : Placement → Runner → Bool
may_go_out p r = not (is_out p r.pid) && not r.borrowed

-- those of these processes that are asleep
abbrev pub sleepers : List Runner → List Runner
sleepers rs = filter (λ r. r.asleep) rs

-- this process comes in; without one nothing is done
abbrev pub brings : Option Runner → Choice
brings None = Nothing
brings (Some r) = In r.pid

-- this process goes out; without one nothing is done
abbrev pub puts_out : Option Runner → Choice
puts_out None = Nothing
puts_out (Some r) = Out r.pid

-- a sleeper before all others; of those that don't sleep one of the four largest
abbrev pub out_of : Placement → List Runner → Option Runner → Choice
out_of p rs (Some r) = Out r.pid
out_of p rs None = puts_out (longest p (take 4 (ranked p rs)))

-- which of these goes out: of the sleepers, or else of the four largest, the one that is in longest
abbrev pub choice_of_out : Placement → List Runner → Choice
choice_of_out p rs = out_of p rs (longest p (sleepers rs))

-- by whether as many frames are free as are desired
abbrev pub choice_by : Placement → List Runner → Bool → Choice
choice_by p rs true = brings (longest p (filter (may_come_in p) rs))
choice_by p rs false = choice_of_out p (filter (may_go_out p) rs)

-- One turn of the swapper, over the processes that hold a space: the one that is out longest comes in
-- where enough frames are free, and one goes out where they aren't.
abbrev pub swap_choice : Placement → List Runner → Choice
swap_choice p rs = choice_by p rs (nat_le (desired_free p) (length p.free))

-- Settling.

-- one of these pages in flight passes the test
abbrev pub names_page : (Page → Bool) → List Moving → Bool
names_page test [] = false
names_page test (m ∷ ms) = test m.page || names_page test ms

-- no transfer names a page of the space, nor of its text where the space is the text's only sharer
abbrev pub is_settled : Placement → ℕ → Bool
is_settled p sid =
    not (names_page (is_of_space sid) (parts_of p.transfers))
    && not ((sharers p (image_of p sid) == 1) && names_page (is_of_text (image_of p sid)) (parts_of p.transfers))

-- Putting out.

-- the first of these pages in a frame off the free list; none where no page is
abbrev pub first_seated : Placement → List Page → Option Page
first_seated p [] = None
first_seated p (q ∷ qs) = cond (is_seated p q) (Some q) (first_seated p qs)

-- `Done` where the write has to wait for room in flight, else a `Put` of the page with its run
abbrev pub put_unit_by : Placement → Page → Bool → Entry
put_unit_by p q true = entries.Done
put_unit_by p q false = entries.Put q (run_put p q).n

-- the unit that puts out this page, the first in a frame off the free list; without one the process goes out
abbrev pub put_out_by : Placement → ℕ → Option Page → Entry
put_out_by p pid None = entries.SwapOut pid
put_out_by p pid (Some q) = put_unit_by p q (is_dirty p q && is_full p)

-- `Done` while the space isn't settled, else what puts out its next page or the process
abbrev pub put_out_if : Placement → ℕ → ℕ → Bool → Entry
put_out_if p pid sid false = entries.Done
put_out_if p pid sid true = put_out_by p pid (first_seated p (pages_of_space p sid))

-- The next unit of putting out a process and its space: `Done` while the space isn't settled, then a `Put` of its
-- first page in a frame off the free list, data first, and last `SwapOut`.
abbrev pub put_out_unit : Placement → ℕ → ℕ → Entry
put_out_unit p pid sid = put_out_if p pid sid (is_settled p sid)
