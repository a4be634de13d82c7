-- What an entry of a process with its change does to the whole machine.
use Rattle.std.specs.Prelude.{ℕ, zero, suc, ◌+◌, ◌*◌, ◌==◌, Bool, true, false, cond, not, ◌&&◌, List, [], ◌∷◌, ◌++◌, length, map, filter, Option, Some, None}
use Rattle.vm_facts.specs.declared.page.Page.TheVariants.{Stack}
use Rattle.vm_facts.specs.declared.regs.Regs.{Regs}
use Rattle.vm_facts.specs.declared.entry.Entry.{Entry}
use Rattle.page_model.specs.Chunks.{pieces}
use Rattle.page_model.specs.Owner.TheVariants as owners
use Rattle.page_model.specs.Holdings.{Holdings, kept}
use Rattle.page_model.specs.Change.{Change}
use Rattle.page_model.specs.Change.TheVariants.{Keep, Resize, Fork, Lend, Exec, Reap, Sleep, End}
use Rattle.page_model.specs.FlatStateChange.{with_results}
use Rattle.page_model.specs.Journal.{append}
use Rattle.page_model.specs.Pages.{numbered}
use Rattle.page_model.specs.Placement.{Placement, image_of, sharers}
use Rattle.page_model.specs.Place.{Changing, place_change}
use Rattle.kernel_model.specs.Kernel.{Life, New, HoldsSpace, LendsSpace, Ended, Proc, StartBytes, Kernel}
use Rattle.page_model.specs.Image.{Image}

-- Records.

-- the processes with this record in place of the one of its number
abbrev pub with_proc : List Proc → Proc → List Proc
with_proc ps p = map (λ (q : Proc). cond (q.pid == p.pid) p q) ps

-- the processes but the one of this number
abbrev pub without_proc : List Proc → ℕ → List Proc
without_proc ps pid = filter (λ (q : Proc). not (q.pid == pid)) ps

-- a child goes on from its parent's registers, with the parent's number in R0 and 1 in R1
abbrev pub child_proc : Proc → ℕ → Life → Proc
child_proc p child life = record { pid = child; parent = p.pid; regs = with_results p.regs p.pid 1; life = life; asleep = false }

-- what a process has is an exit status: it is a zombie
abbrev pub is_ended : Life → Bool
is_ended (Ended status) = true
is_ended _ = false

-- zombie children vanish, and the others have no parent
abbrev pub orphaned_procs : List Proc → ℕ → List Proc
orphaned_procs ps pid =
    map (λ (q : Proc). record q { parent = cond (q.parent == pid) 0 q.parent }) (filter (λ (q : Proc). not ((q.parent == pid) && is_ended q.life)) ps)

-- the process of this number sleeps no more
abbrev pub woken_procs : List Proc → ℕ → List Proc
woken_procs ps pid = map (λ (q : Proc). record q { asleep = cond (q.pid == pid) false q.asleep }) ps

-- with no parent the process is gone; else it is a zombie, and its parent sleeps no more
abbrev pub left_procs : Bool → List Proc → Proc → ℕ → List Proc
left_procs true ps p status = without_proc ps p.pid
left_procs false ps p status = woken_procs (with_proc ps record p { life = Ended status }) p.parent

-- the processes after a change of one: its record is changed, a child comes, a zombie is reaped, or it ends
abbrev pub procs_after : List Proc → Proc → ℕ → Change → List Proc
procs_after ps p next_sid Keep = with_proc ps p
procs_after ps p next_sid (Resize data_pages stack_pages) = with_proc ps p
procs_after ps p next_sid (Fork child) = with_proc ps p ++ child_proc p child (HoldsSpace next_sid) ∷ []
procs_after ps p next_sid (Lend child) = with_proc ps p ++ child_proc p child New ∷ []
procs_after ps p next_sid (Exec image top) = with_proc ps record p { life = HoldsSpace next_sid }
procs_after ps p next_sid (Reap child) = with_proc (without_proc ps child) p
procs_after ps p next_sid Sleep = with_proc ps record p { asleep = true }
procs_after ps p next_sid (End status) = left_procs (p.parent == 0) (orphaned_procs ps p.pid) p status

-- the next process's number after a change: fork and vfork use it up
abbrev pub pid_after : ℕ → Change → ℕ
pid_after next (Fork child) = next + 1
pid_after next (Lend child) = next + 1
pid_after next _ = next

-- the next space's number after a change: fork and execve use it up
abbrev pub sid_after : ℕ → Change → ℕ
sid_after next (Fork child) = next + 1
sid_after next (Exec image top) = next + 1
sid_after next _ = next

-- Holdings that go back, by how many spaces share a text in the placement. The flat state's view is `given_up` of
-- flat_model, and `machines_stand` of run_laws joins the two.

-- the pieces of an image's text go back where no sharer is left
abbrev pub text_given_back : ℕ → Holdings → ℕ → Holdings
text_given_back zero hs image = kept (owners.Text image) 0 hs
text_given_back (suc n) hs image = hs

-- the pieces of a space, and with the last sharer those of its text, by the sharers that are left
abbrev pub space_given_back : Holdings → ℕ → ℕ → ℕ → Holdings
space_given_back hs sid image left = text_given_back left (kept (owners.Stack sid) 0 (kept (owners.Data sid) 0 hs)) image

-- the pieces of a process's space go back, unless it borrowed the space
abbrev pub given_back_unless : Bool → Holdings → ℕ → ℕ → ℕ → Holdings
given_back_unless true hs sid image left = hs
given_back_unless false hs sid image left = space_given_back hs sid image left

-- the pieces of the space that a process leaves go back, by the placements before and after
abbrev pub left_space : Changing → Holdings → Placement → Placement → Holdings
left_space c hs p q = given_back_unless c.borrowed hs c.sid (image_of p c.sid) (sharers q (image_of p c.sid))

-- the holdings after a change of a process, by the placements before and after
abbrev pub holdings_after : Changing → Holdings → Placement → Placement → Change → Holdings
holdings_after c hs p q (Resize data_pages stack_pages) =
    kept (owners.Stack c.sid) (length (pieces (2 * stack_pages))) (kept (owners.Data c.sid) (length (pieces (2 * data_pages))) hs)
holdings_after c hs p q (Exec image top) = left_space c hs p q
holdings_after c hs p q (End status) = kept (owners.U c.pid) 0 (left_space c hs p q)
holdings_after c hs p q _ = hs

-- what is kept after a change: with execve, the bytes of the new space's stack page 0 too
abbrev pub starts_with : List StartBytes → ℕ → Change → List StartBytes
starts_with starts next_sid (Exec image top) = starts ++ record { page = Stack next_sid 0; bytes = top } ∷ []
starts_with starts next_sid _ = starts

-- Steps.

-- the number of the space that a process holds or lends; 0 where it has none
abbrev pub space_of_life : Life → ℕ
space_of_life New = 0
space_of_life (HoldsSpace sid) = sid
space_of_life (LendsSpace sid child) = sid
space_of_life (Ended status) = 0

-- a borrower gave its space back before its image or its end, and has none then
abbrev pub gave_back : Life → Bool
gave_back New = true
gave_back _ = false

-- what the change of this process goes by, with this entry
abbrev pub changing_of : List Image → Kernel → Proc → Entry → Changing
changing_of images k p e = record {
  images = images;
  pid = p.pid;
  sid = space_of_life p.life;
  borrowed = gave_back p.life;
  next_sid = k.next_sid;
  at = length (append k.journal e);
}

-- an entry of this process with its change: of placement, holdings, processes, next numbers and kept stack pages
abbrev pub change_by : List Image → Kernel → Proc → Entry → Change → Kernel
change_by images k p e change =
    let c = changing_of images k p e in
    let place = place_change c k.place change in
    record k {
      place = place;
      holdings = holdings_after c k.holdings k.place place change;
      processes = procs_after k.processes p k.next_sid change;
      next_pid = pid_after k.next_pid change;
      next_sid = sid_after k.next_sid change;
      starts = starts_with k.starts k.next_sid change;
      journal = append k.journal e;
    }

-- a process is left with these registers and makes its change; without a process nothing changes
abbrev pub change_if : List Image → Kernel → Regs → Entry → Change → Option Proc → Kernel
change_if images k regs e change None = k
change_if images k regs e change (Some p) = change_by images k (record p { regs = regs }) e change

-- an entry of a process, which is left with these registers, and its change; the pieces that it takes were found before
abbrev pub change_step : List Image → Kernel → ℕ → Regs → Entry → Change → Kernel
change_step images k pid regs e change = change_if images k regs e change (numbered (λ (p : Proc). p.pid) pid k.processes)

-- one instruction ran, and left these registers; its writes were made before
abbrev pub ran_by : Kernel → ℕ → Regs → Entry → Kernel
ran_by k pid regs e = record k { processes = map (λ (p : Proc). cond (p.pid == pid) (record p { regs = regs }) p) k.processes; journal = append k.journal e }

-- a space goes from one process to another, with no entry: the giver then lends it to a new child, or, where it goes
-- back to the lender, has none
abbrev pub pass_from : ℕ → ℕ → Life → Life
pass_from sid to New = LendsSpace sid to
pass_from sid to _ = New

-- what a process has once a space passed: the giver, the receiver, or another one, as before
abbrev pub passed_life : ℕ → ℕ → ℕ → Life → Proc → Life
passed_life sid from to receiver q = cond (q.pid == from) (pass_from sid to receiver) (cond (q.pid == to) (HoldsSpace sid) q.life)

-- what a process has; as of one that has nothing yet where there is none
abbrev pub life_of_proc : Option Proc → Life
life_of_proc None = New
life_of_proc (Some p) = p.life

-- the giver's space passes to the receiver: a child, or the lender that has it back; no entry says so
abbrev pub pass_step : Kernel → ℕ → ℕ → Kernel
pass_step k from to =
    let giver = life_of_proc (numbered (λ (p : Proc). p.pid) from k.processes) in
    let receiver = life_of_proc (numbered (λ (p : Proc). p.pid) to k.processes) in
    record k { processes = map (λ (q : Proc). record q { life = passed_life (space_of_life giver) from to receiver q }) k.processes }
