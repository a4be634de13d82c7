-- The pieces of swap space that a process's next instruction asks for, and who holds which pieces, as the flat state
-- says: by the bytes of the spaces, and by whether another process has the image. A machine says the same by its
-- placement, in `change_asks` and `holdings_after` of kernel_model. The two views are joined by `asks_agree` of flat_laws,
-- for what is asked, and by `machines_stand` of run_laws, for what is held.
use Rattle.std.specs.Prelude.{ℕ, ◌+◌, ◌*◌, ◌==◌, Bool, true, false, ◌||◌, List, [], ◌∷◌, ◌++◌, length, drop, find, Option, Some, None, Result, Ok, Err}
use Rattle.flat_state.specs.Space.{Space}
use Rattle.flat_state.specs.Flat.{Holding, Holds, Lends, Zombie, Process, FlatState, NamedImage, Inputs, image_numbered, process_of, can_step}
use Rattle.vm_facts.specs.declared.entry.Entry.{Entry}
use Rattle.vm_facts.specs.declared.entry.Entry.TheVariants.{Grew, Call, Ended}
use Rattle.flat_state.specs.AoutImageImageSpecs.{Loaded, text_pages_of, image_data_pages}
use Rattle.swap_book.specs.declared.Owner.{Owner}
use Rattle.swap_book.specs.declared.Owner.TheVariants as owners
use Rattle.swap_book.specs.Owners.{pieces_of}
use Rattle.swap_book.specs.Holdings.{Holdings, kept}
use Rattle.swap_book.specs.Placing.{Wanted, wanted, place_all}
use Rattle.flat_state.specs.Change.{is_borrower}
use Rattle.flat_state.specs.Journal.{units_of}
use Rattle.flat_state.specs.declared.change.Change.{Change}
use Rattle.flat_state.specs.declared.change.Change.TheVariants.{Keep, Resize, Fork, Lend, Exec, Reap, Sleep, End}
use Rattle.flat_model.specs.Calls.{stack_pages_of}
use Rattle.flat_model.specs.Step.{Step, flat_step, data_pages_of as data_pages_in}
use Rattle.flat_model.specs.Run.{Point, step_at, flat_entry, start_point}

-- What is asked for.

-- the pieces of an owner that comes to have so many pages, a page having two blocks
abbrev pub pieces_for : Owner → ℕ → List Wanted
pieces_for owner pages = wanted owner (pieces_of owner (2 * pages))

-- the pieces that an owner of so many pages still wants for more
abbrev pub further_pieces : Owner → ℕ → ℕ → List Wanted
further_pieces owner old new = drop (length (pieces_for owner old)) (pieces_for owner new)

-- what a process has is a space of this image
abbrev pub has_image : ℕ → Holding → Bool
has_image image (Holds s) = s.image == image
has_image image (Lends sid child) = false
has_image image (Zombie status) = false

-- there is a process
abbrev pub is_there : Option Process → Bool
is_there None = false
is_there (Some p) = true

-- a space shares the text of this image
abbrev pub is_shared : FlatState → ℕ → Bool
is_shared F image = is_there (find (λ q. has_image image q.holding) F.processes)

-- an image's text, unless it is shared
abbrev pub text_wanted : Bool → ℕ → Loaded → List Wanted
text_wanted true image loaded = []
text_wanted false image loaded = pieces_for (owners.Text image) (text_pages_of loaded.facts)

-- the text, the data and one stack page of a space that an image starts in
abbrev pub image_wanted : Bool → ℕ → ℕ → Option NamedImage → List Wanted
image_wanted shared sid image None = []
image_wanted shared sid image (Some named) =
    text_wanted shared image named.image ++ pieces_for (owners.Data sid) (image_data_pages named.image.facts)
    ++ pieces_for (owners.Stack sid) 1

-- the data, the stack and the u page of a child with a copy of the space
abbrev pub copy_wanted : FlatState → Space → ℕ → List Wanted
copy_wanted F s child =
    pieces_for (owners.Data F.next_sid) (data_pages_in s) ++ pieces_for (owners.Stack F.next_sid) (stack_pages_of s)
    ++ pieces_for (owners.U child) 1

-- the pieces that a change of a process with this space takes
abbrev pub change_wanted : List NamedImage → FlatState → Space → Change → List Wanted
change_wanted images F s Keep = []
change_wanted images F s (Resize data_pages stack_pages) =
    further_pieces (owners.Data s.sid) (data_pages_in s) data_pages
    ++ further_pieces (owners.Stack s.sid) (stack_pages_of s) stack_pages
change_wanted images F s (Fork child) = copy_wanted F s child
change_wanted images F s (Lend child) = pieces_for (owners.U child) 1
change_wanted images F s (Exec image top) =
    image_wanted (is_shared F image) F.next_sid image (image_numbered images image)
change_wanted images F s (Reap child) = []
change_wanted images F s Sleep = []
change_wanted images F s (End status) = []

-- the pieces that a change takes, by what its process has: none without a space
abbrev pub wanted_in : List NamedImage → FlatState → Change → Holding → List Wanted
wanted_in images F change (Holds s) = change_wanted images F s change
wanted_in images F change (Lends sid child) = []
wanted_in images F change (Zombie status) = []

-- the pieces that a change takes, by whether its process is there: none where it isn't
abbrev pub wanted_if : List NamedImage → FlatState → Change → Option Process → List Wanted
wanted_if images F change None = []
wanted_if images F change (Some p) = wanted_in images F change p.holding

-- the pieces that a process's next instruction wants, by whether the process can step: none where it can't
abbrev pub asks_by : Bool → Inputs → FlatState → ℕ → List Wanted
asks_by true A F pid = wanted_if A.images F (flat_step A F pid false).change (process_of F pid)
asks_by false A F pid = []

-- the pieces that a process's next instruction wants, in order; none where an error or a signal comes before, and
-- none where the process can't step
unfoldable pub asks : Inputs → FlatState → ℕ → List Wanted
asks A F pid = asks_by (can_step F pid) A F pid

-- What is held.

-- the holdings without an owner's
abbrev pub without_owner : Owner → Holdings → Holdings
without_owner owner hs = kept owner 0 hs

-- the holdings with an owner's first pieces alone, which are those of so many pages
abbrev pub with_pages : Owner → ℕ → Holdings → Holdings
with_pages owner pages hs = kept owner (length (pieces_for owner pages)) hs

-- the holdings without an image's text; the same where another space still shares it
abbrev pub without_text : Bool → ℕ → Holdings → Holdings
without_text true image hs = hs
without_text false image hs = without_owner (owners.Text image) hs

-- a space is given up: its text is with the last space that shares it, by the state afterwards
abbrev pub without_space : FlatState → Space → Holdings → Holdings
without_space after s hs =
    without_text (is_shared after s.image) s.image (without_owner (owners.Stack s.sid) (without_owner (owners.Data s.sid) hs))

-- the holdings without the pieces of a process's space; the same where the process had borrowed it
abbrev pub without_own : Bool → FlatState → Space → Holdings → Holdings
without_own true after s hs = hs
without_own false after s hs = without_space after s hs

-- the holdings with new pieces; or those before, where a piece found no place
abbrev pub or_before : Holdings → Result Holdings ℕ → Holdings
or_before hs (Ok now) = now
or_before hs (Err n) = hs

-- the holdings once the pieces that are asked have found their places
abbrev pub with_pieces : Inputs → List Wanted → Holdings → Holdings
with_pieces A ws hs = or_before hs (place_all A.swap_blocks hs ws)

-- what a change gives back
abbrev pub given_up : FlatState → FlatState → ℕ → Space → Change → Holdings → Holdings
given_up F after pid s (Resize data_pages stack_pages) hs =
    with_pages (owners.Stack s.sid) stack_pages (with_pages (owners.Data s.sid) data_pages hs)
given_up F after pid s (Exec image top) hs = without_own (is_borrower F.processes pid) after s hs
given_up F after pid s (End status) hs = without_own (is_borrower F.processes pid) after s (without_owner (owners.U pid) hs)
given_up F after pid s Keep hs = hs
given_up F after pid s (Fork child) hs = hs
given_up F after pid s (Lend child) hs = hs
given_up F after pid s (Reap child) hs = hs
given_up F after pid s Sleep hs = hs

-- the holdings after a step, by what its process has: the same without a space
abbrev pub held_in : Inputs → FlatState → ℕ → Step → Holdings → Holding → Holdings
held_in A F pid step hs (Holds s) =
    given_up F step.after pid s step.change (with_pieces A (change_wanted A.images F s step.change) hs)
held_in A F pid step hs (Lends sid child) = hs
held_in A F pid step hs (Zombie status) = hs

-- the holdings after a step, by whether its process is there: the same where it isn't
abbrev pub held_if : Inputs → FlatState → ℕ → Step → Holdings → Option Process → Holdings
held_if A F pid step hs None = hs
held_if A F pid step hs (Some p) = held_in A F pid step hs p.holding

-- the holdings after a step of a process: it takes what was asked, and then gives back
unfoldable pub held_step : Inputs → FlatState → ℕ → Step → Holdings → Holdings
held_step A F pid step hs = held_if A F pid step hs (process_of F pid)

-- the holdings after a flat entry, at whose point they were these
abbrev pub held_entry : Inputs → Point → Entry → Holdings → Holdings
held_entry A point (Grew p pages) hs = held_step A point.flat p (step_at A point p) hs
held_entry A point (Call p n c r0 r1) hs = held_step A point.flat p (step_at A point p) hs
held_entry A point (Ended p status) hs = held_step A point.flat p (step_at A point p) hs
held_entry A point _ hs = hs

-- the holdings after units from a point on; after a unit that can't come at its point nothing changes
abbrev pub held_units : Inputs → Option Point → List Entry → Holdings → Holdings
held_units A None units hs = hs
held_units A (Some point) [] hs = hs
held_units A (Some point) (u ∷ us) hs = held_units A (flat_entry A point u) us (held_entry A point u hs)

-- the list has this number
abbrev pub contains : List ℕ → ℕ → Bool
contains [] n = false
contains (m ∷ more) n = m == n || contains more n

-- the next holdings, or the first process whose pieces found no place
abbrev pub first_then : ℕ → Result Holdings ℕ → (Holdings → Result Holdings ℕ) → Result Holdings ℕ
first_then pid (Ok hs) next = next hs
first_then pid (Err n) next = Err pid

-- the pieces of a first process, of an image that an earlier one has or not
abbrev pub first_wanted : List NamedImage → Bool → ℕ → ℕ → List Wanted
first_wanted images shared pid number =
    image_wanted shared pid number (image_numbered images number) ++ pieces_for (owners.U pid) 1

-- the holdings with the pieces of the first processes from a pid on, of these images, after those of earlier ones
unfoldable pub first_held : Inputs → List ℕ → ℕ → List ℕ → Holdings → Result Holdings ℕ
first_held A earlier pid [] hs = Ok hs
first_held A earlier pid (number ∷ more) hs =
    first_then pid (place_all A.swap_blocks hs (first_wanted A.images (contains earlier number) pid number))
    (first_held A (number ∷ earlier) (pid + 1) more)

-- the holdings at the start, or the pid of the first process whose pieces find no place
abbrev pub start_held : Inputs → Result Holdings ℕ
start_held A = first_held A [] 1 A.first []

-- the holdings after a journal, from those at the start; or the pid for whose pieces there was no place at the start
abbrev pub held_from : Inputs → List Entry → Result Holdings ℕ → Result Holdings ℕ
held_from A journal (Ok hs) = Ok (held_units A (Some (start_point A)) (units_of journal) hs)
held_from A journal (Err pid) = Err pid

-- the holdings after a journal
abbrev pub held : Inputs → List Entry → Result Holdings ℕ
held A journal = held_from A journal (start_held A)
