-- What the changes, by which the steps of processes end, do to the flat machine's state.
use Rattle.std.specs.Prelude.{ℕ, ◌+◌, ◌-◌, ◌*◌, ◌==◌, Bool, true, false, not, ◌&&◌, ◌||◌, List, [], ◌∷◌, ◌++◌, length, map, filter, take, replicate, slice_set, Option, Some, None, if◌then◌else◌, ◌≡◌}
use Rattle.vm_facts.specs.Answers.{ByteWrite}
use Rattle.flat_state.specs.Space.{Space, puts}
use Rattle.flat_state.specs.Flat.{Holding, Holds, Lends, Zombie, Process, FlatState, NamedImage, image_numbered, process_of, space_with}
use Rattle.vm_facts.specs.declared.regs.Regs.{Regs}
use Rattle.flat_state.specs.declared.change.Change.{Change}
use Rattle.flat_state.specs.declared.change.Change.TheVariants.{Keep, Resize, Fork, Lend, Exec, Reap, Sleep, End}

-- the processes from q on, by whether q has the number of p: then p is in its place, or else in that of a later one
abbrev pub replaced_by : Bool → Process → Process → List Process → List Process → List Process
replaced_by true p q more changed = p ∷ more
replaced_by false p q more changed = q ∷ changed

-- the first process with this one's number gives way to it
unfoldable pub replaced : List Process → Process → List Process
replaced [] p = []
replaced (q ∷ more) p = replaced_by (q.pid == p.pid) p q more (replaced more p)

-- this process in place of the one with its number
abbrev pub with_process : FlatState → Process → FlatState
with_process F p = record F { processes = replaced F.processes p }

-- the flat state without the process of this number
abbrev pub without_process : FlatState → ℕ → FlatState
without_process F pid = record F { processes = filter (λ q. not (q.pid == pid)) F.processes }

-- The size of a space.

-- so many pages of these bytes, and zeros where there are no more
abbrev pub resized_bytes : ℕ → List ℕ → List ℕ
resized_bytes pages bytes = take (1024 * pages) bytes ++ replicate (1024 * pages - length bytes) 0

-- a space whose data and stack have so many pages, with zeros in those that are added
abbrev pub resized : Space → ℕ → ℕ → Space
resized s data_pages stack_pages = record s {
  data_bytes = resized_bytes data_pages s.data_bytes;
  stack_bytes = resized_bytes stack_pages s.stack_bytes;
}

-- Children.

-- the registers with these values in R0 and R1
abbrev pub with_results : Regs → ℕ → ℕ → Regs
with_results regs r0 r1 = record regs { r = slice_set (slice_set regs.r 0 r0) 1 r1 }

-- a child goes on from its parent's registers, with the parent's number in R0 and 1 in R1
abbrev pub child_of : Process → ℕ → Space → Process
child_of p child s = record {
  pid = child;
  parent = p.pid;
  regs = with_results p.regs p.pid 1;
  holding = Holds s;
  asleep = false;
}

-- with one more process, which is the last
abbrev pub with_child : FlatState → Process → FlatState
with_child F child = record F { processes = F.processes ++ child ∷ []; next_pid = F.next_pid + 1 }

-- a copy of the space for a child
abbrev pub forked : FlatState → Process → Space → ℕ → FlatState
forked F p s child =
    record (with_child (with_process F p) (child_of p child (record s { sid = F.next_sid }))) { next_sid = F.next_sid + 1 }

-- the space itself for a child
abbrev pub lent : FlatState → Process → Space → ℕ → FlatState
lent F p s child = with_child (with_process F record p { holding = Lends s.sid child }) (child_of p child s)

-- A borrowed space goes back.

-- it is what was lent to this process
abbrev pub lends_to : ℕ → Holding → Bool
lends_to pid (Holds s) = false
lends_to pid (Lends sid child) = child == pid
lends_to pid (Zombie status) = false

-- somebody lent the process its space
abbrev pub is_borrower : List Process → ℕ → Bool
is_borrower [] pid = false
is_borrower (q ∷ qs) pid = lends_to pid q.holding || is_borrower qs pid

-- the processes from q on, by whether q lent this space: then q has it again, or else a later one
abbrev pub returned_by : Bool → Space → Process → List Process → List Process → List Process
returned_by true s q more changed = record q { holding = Holds s } ∷ more
returned_by false s q more changed = q ∷ changed

-- who lent to this process has the space again, as it is
unfoldable pub returned : ℕ → Space → List Process → List Process
returned pid s [] = []
returned pid s (q ∷ more) = returned_by (lends_to pid q.holding) s q more (returned pid s more)

-- the space that this process had borrowed is its lender's again; the same where nobody lent it
abbrev pub given_back : FlatState → ℕ → Space → FlatState
given_back F pid s = record F { processes = returned pid s F.processes }

-- A new image.

-- the process has a new space of an image with this stack page 0, and a borrowed one goes back; the same without an image
abbrev pub entered : FlatState → Process → Space → ℕ → Option NamedImage → List ℕ → FlatState
entered F p s image None top = F
entered F p s image (Some named) top =
    record (given_back (with_process F record p { holding = Holds (space_with F.next_sid image named.image top) }) p.pid s) {
      next_sid = F.next_sid + 1;
    }

-- The end of a process.

-- what a process has is an exit status
abbrev pub is_zombie : Holding → Bool
is_zombie (Holds s) = false
is_zombie (Lends sid child) = false
is_zombie (Zombie status) = true

-- a zombie whose parent is the process of this number
abbrev pub is_zombie_child : ℕ → Process → Bool
is_zombie_child pid q = q.parent == pid && is_zombie q.holding

-- a process, with no parent where that was the process of this number
abbrev pub without_parent : ℕ → Process → Process
without_parent pid q = record q { parent = if q.parent == pid then 0 else q.parent }

-- zombie children vanish, and the others have no parent
abbrev pub orphaned : FlatState → ℕ → FlatState
orphaned F pid = record F { processes = map (without_parent pid) (filter (λ q. not (is_zombie_child pid q)) F.processes) }

-- a process, which doesn't sleep where it is the one of this number
abbrev pub awake : ℕ → Process → Process
awake pid q = record q { asleep = if q.pid == pid then false else q.asleep }

-- the process of this number sleeps no more
abbrev pub woken : FlatState → ℕ → FlatState
woken F pid = record F { processes = map (awake pid) F.processes }

-- a zombie with no parent is gone; the parent of another one sleeps no more
abbrev pub left : Bool → FlatState → ℕ → ℕ → FlatState
left true F pid parent = without_process F pid
left false F pid parent = woken F parent

-- the process is a zombie, its space goes back where it was borrowed, and its children have no parent
abbrev pub ended : FlatState → Process → Space → ℕ → FlatState
ended F p s status =
    left (p.parent == 0) (orphaned (given_back (with_process F record p { holding = Zombie status }) p.pid s) p.pid) p.pid p.parent

-- All changes.

-- what a change of a process that holds a space does
abbrev pub changed : List NamedImage → FlatState → Process → Space → Change → FlatState
changed images F p s Keep = with_process F p
changed images F p s (Resize data_pages stack_pages) = with_process F record p { holding = Holds (resized s data_pages stack_pages) }
changed images F p s (Fork child) = forked F p s child
changed images F p s (Lend child) = lent F p s child
changed images F p s (Exec image top) = entered F p s image (image_numbered images image) top
changed images F p s (Reap child) = with_process (without_process F child) p
changed images F p s Sleep = with_process F record p { asleep = true }
changed images F p s (End status) = ended F p s status

-- what a change does, by what its process has: nothing without a space
abbrev pub changed_by : List NamedImage → FlatState → Process → Change → Holding → FlatState
changed_by images F p change (Holds s) = changed images F p s change
changed_by images F p change (Lends sid child) = F
changed_by images F p change (Zombie status) = F

-- what a change of a process does, which is left with these registers, by whether it is there: nothing where it isn't
abbrev pub changed_if : List NamedImage → FlatState → Regs → Change → Option Process → FlatState
changed_if images F regs change None = F
changed_if images F regs change (Some p) = changed_by images F (record p { regs = regs }) change p.holding

-- the flat state after a change of a process, which is left with these registers
unfoldable pub apply_change : List NamedImage → FlatState → ℕ → Regs → Change → FlatState
apply_change images F pid regs change = changed_if images F regs change (process_of F pid)

-- Bytes written.

-- what writes do, by what their process has: nothing without a space
abbrev pub wrote_by : FlatState → Process → List ByteWrite → Holding → FlatState
wrote_by F p writes (Holds s) = with_process F record p { holding = Holds (puts s writes) }
wrote_by F p writes (Lends sid child) = F
wrote_by F p writes (Zombie status) = F

-- what writes do, by whether their process is there: nothing where it isn't
abbrev pub wrote_if : FlatState → List ByteWrite → Option Process → FlatState
wrote_if F writes None = F
wrote_if F writes (Some p) = wrote_by F p writes p.holding

-- the flat state after a process wrote these bytes into its space
unfoldable pub apply_writes : FlatState → ℕ → List ByteWrite → FlatState
apply_writes F pid writes = wrote_if F writes (process_of F pid)

-- what the changes of a flat state ask: a child has the next number, and wait takes a zombie
abbrev pub NamesChild : FlatState → Change → Type 0
NamesChild flat (Fork child) = child ≡ flat.next_pid
NamesChild flat (Lend child) = child ≡ flat.next_pid
NamesChild flat (Reap child) = (z : Process) × (status : ℕ) × (process_of flat child ≡ Some z) × (z.holding ≡ Zombie status)
NamesChild flat _ = Unit {0}
