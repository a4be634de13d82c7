-- What the tables are left with where a space comes, grows, is cut or goes, and where a process's record changes.
use Rattle.std.specs.Prelude.{◌≡◌, ℕ, ◌+◌, ◌*◌, ◌==◌, false, not, List, [], ◌∷◌, ◌++◌, length, map, filter, Option}
use Rattle.vm_facts.specs.declared.page.Page.{Page}
use Rattle.vm_facts.specs.declared.page.Page.TheVariants.{Stack}
use Rattle.aout_image.specs.declared.Image.{Image}
use Rattle.page_model.specs.Chunks.{pieces}
use Rattle.page_model.specs.Owner.TheVariants as owners
use Rattle.page_model.specs.Holdings.{kept}
use Rattle.page_model.specs.Book.{with_holdings}
use Rattle.page_model.specs.Placement.{Placement, Residence, Start, new_pages, sharers}
use Rattle.page_model.specs.Moves.{drop_all}
use Rattle.page_model.specs.Place.{resize, fork_space, give_up}
use Rattle.page_model.specs.Pages.{numbered}
use Rattle.kernel_model.specs.Kernel.{Life, New, HoldsSpace, Proc}
use Rattle.kernel_model.specs.ChangeStep.{with_proc, orphaned_procs, left_procs, passed_life, life_of_proc, space_of_life, space_given_back}
use Rattle.kernel_tables.specs.declared.tables.Tables.{Tables}
use Rattle.kernel_tables.specs.View.{starts_of, placement_of, frames_of}
use Rattle.kernel_tables.specs.Alike.{AreRecords}
use Rattle.kernel_tables.specs.Machine.{processes_of, residents_of, lists_of, image_at}
use Rattle.kernel_tables.specs.Known.{Known}

-- pages have moved so, with no byte of a frame; and what is known of the tables of a machine that runs is known yet
pub record Shows (t u : Tables) (p : Placement) : Type 0 where
  pub place : placement_of (lists_of u) ≡ p
  pub frames : frames_of (lists_of u) ≡ frames_of (lists_of t)
  pub known : Known (lists_of u)

-- these pages are forgotten, one after another
pub record Dropped (t u : Tables) (qs : List Page) : Type 0 where
  pub shows : Shows t u (drop_all (placement_of (lists_of t)) qs)
  pub images : (sid : ℕ) → image_at u sid ≡ image_at t sid
  pub rest : u ≡ record t { core = u.core; spaces = u.spaces }

-- a space has other sizes, and keeps the pieces that it needs
pub record Resized (t u : Tables) (sid data_pages stack_pages : ℕ) : Type 0 where
  pub shows : Shows t u (resize (placement_of (lists_of t)) sid data_pages stack_pages)
  pub images : (other : ℕ) → image_at u other ≡ image_at t other
  pub book : u.book ≡ with_holdings t.book
      (kept (owners.Stack sid) (length (pieces (2 * stack_pages))) (kept (owners.Data sid) (length (pieces (2 * data_pages))) t.book.holdings))
  pub rest : u ≡ record t { core = u.core; spaces = u.spaces; book = u.book }

-- a space is given up, with its pieces, and with the last space that shares it its image's text
pub record GaveUp (t u : Tables) (sid : ℕ) : Type 0 where
  pub shows : Shows t u (give_up (placement_of (lists_of t)) sid)
  pub book : u.book ≡ with_holdings t.book (space_given_back t.book.holdings sid (image_at t sid) (sharers (placement_of (lists_of u)) (image_at t sid)))
  pub rest : u ≡ record t { core = u.core; spaces = u.spaces; texts = u.texts; book = u.book }

-- a space of the next number is there, after the others, in which an image starts: its stack page 0 is due, last
abbrev pub started_place : Placement → ℕ → ℕ → Image → Placement
started_place p sid image facts = record p { spaces = p.spaces ++ new_pages sid image facts ∷ []; due = p.due ++ Start (Stack sid 0) ∷ [] }

-- a space of the next number is there, in which an image starts; these are the bytes of its stack page 0, which is due
pub record EnteredImage (t u : Tables) (image : ℕ) (facts : Image) (top : List ℕ) : Type 0 where
  pub shows : Shows t u (started_place (placement_of (lists_of t)) t.next_sid image facts)
  pub starts : starts_of u.fills.items ≡ starts_of t.fills.items ++ record { page = Stack t.next_sid 0; bytes = top } ∷ []
  pub number : u.next_sid ≡ t.next_sid + 1
  pub rest : u ≡ record t { spaces = u.spaces; texts = u.texts; fills = u.fills; next_sid = u.next_sid }

-- a space of the next number is there, after the others, with a copy of this one's pages: those that were filled are due
pub record Forked (t u : Tables) (parent : ℕ) : Type 0 where
  pub shows : Shows t u (fork_space (placement_of (lists_of t)) parent t.next_sid)
  pub starts : starts_of u.fills.items ≡ []
  pub number : u.next_sid ≡ t.next_sid + 1
  pub rest : u ≡ record t { spaces = u.spaces; texts = u.texts; fills = u.fills; next_sid = u.next_sid }

-- The records.

-- the processes are these now, and the residents those, and this is the number of the next
pub record HasProcesses (t u : Tables) (next : ℕ) (ps : List Proc) (rs : List Residence) : Type 0 where
  pub number : u.next_pid ≡ next
  pub processes : processes_of u.processes u.next_pid ≡ ps
  pub residents : residents_of u.processes u.next_pid ≡ rs
  pub records : AreRecords u.processes u.next_pid
  pub rest : u ≡ record t { processes = u.processes; next_pid = u.next_pid }

-- the processes, as their records have them
abbrev pub processes_in : Tables → List Proc
processes_in t = processes_of t.processes t.next_pid

-- who is in and who is out, as the records have it
abbrev pub residents_in : Tables → List Residence
residents_in t = residents_of t.processes t.next_pid

-- the process of this number, if there is one
abbrev pub process_in : Tables → ℕ → Option Proc
process_in t pid = numbered (λ (p : Proc). p.pid) pid (processes_in t)

-- what the process of this number has
abbrev pub life_at : Tables → ℕ → Life
life_at t pid = life_of_proc (process_in t pid)

-- a process that holds a space, or has none yet
abbrev pub HoldsOrNew : Life → Type 0
HoldsOrNew New = Unit {0}
HoldsOrNew (HoldsSpace sid) = Unit {0}
HoldsOrNew _ = ⊥

-- a process more, of the next number, which is in since that place in the journal
abbrev pub HasOneMore : Tables → Tables → Proc → ℕ → Type 0
HasOneMore t u p since =
    HasProcesses t u (t.next_pid + 1) (processes_in t ++ p ∷ []) (residents_in t ++ record { pid = t.next_pid; out = false; since = since } ∷ [])

-- a process is this now
abbrev pub HasChanged : Tables → Tables → Proc → Type 0
HasChanged t u p = HasProcesses t u t.next_pid (with_proc (processes_in t) p) (residents_in t)

-- a process has ended, and left its children
abbrev pub HasEnded : Tables → Tables → Proc → ℕ → Type 0
HasEnded t u p status =
    HasProcesses t u t.next_pid (left_procs (p.parent == 0) (orphaned_procs (processes_in t) p.pid) p status)
    (filter (λ (r : Residence). not (r.pid == p.pid)) (residents_in t))

-- the processes once a space has passed
abbrev pub passed_procs : List Proc → ℕ → ℕ → List Proc
passed_procs ps from to =
    let giver = life_of_proc (numbered (λ (p : Proc). p.pid) from ps) in
    let receiver = life_of_proc (numbered (λ (p : Proc). p.pid) to ps) in
    map (λ (q : Proc). record q { life = passed_life (space_of_life giver) from to receiver q }) ps
