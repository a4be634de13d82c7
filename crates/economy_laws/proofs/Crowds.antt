-- There are never more than 64 processes.
use Rattle.std.proofs.Common.{◌≡◌, ℕ, ◌%◌, ◌*◌, ◌<◌, ◌≤◌, ◌==◌, ◌||◌, nat_lt, nat_le, not, Bool, true, false, List, [], ◌∷◌, length, filter, find, Option, Some, None, Result, Ok, Err, ℤ, refl, arith}
use Rattle.std.proofs.lemmas.Bool.Decides.{nat_tests}
use Rattle.std.proofs.lemmas.List.{length-append, length-map}
use Rattle.run_laws.proofs.Computations.{AllGives, gives_any, reply_gives, refused_gives}
use Rattle.run_laws.proofs.Sizing.{left_count}
use Rattle.flat_state.proofs.Processes.{length-replaced, length-returned}
use Rattle.vm_facts.specs.Answers.{ByteWrite}
use Rattle.flat_state.specs.Space.{Space, answers_of, puts}
use Rattle.flat_state.specs.Flat.{Holding, Holds, Lends, Zombie, Process, FlatState, NamedImage, Inputs, image_numbered, process_of}
use Rattle.vm_facts.specs.declared.regs.Regs.{Regs}
use Rattle.user_vax.specs.Effects.{Effect}
use Rattle.user_vax.specs.Program.{Gives, ◌>>=◌, run}
use Rattle.user_vax.specs.declared.refused.Refused.{Refused}
use Rattle.user_vax.specs.declared.refused.Refused.TheVariants.{Miss, Below, Signal}
use Rattle.flat_state.specs.declared.change.Change.{Change}
use Rattle.flat_state.specs.declared.change.Change.TheVariants.{Keep, Resize, Fork, Lend, Exec, Reap, Sleep, End}
use Rattle.flat_state.specs.Change.{replaced, replaced_by, with_process, without_process, returned, returned_by, given_back, entered, is_zombie_child, without_parent, orphaned, awake, woken, left, ended, changed, changed_by, changed_if, apply_change, wrote_by, wrote_if, apply_writes}
use Rattle.flat_model.specs.declared.calls.Reply.{Reply}
use Rattle.flat_model.specs.declared.calls.Reply.TheVariants.{Does, Writes, Exits}
use Rattle.flat_model.specs.declared.calls.SystemCall.{SystemCall}
use Rattle.flat_model.specs.declared.calls.SystemCall.TheVariants as calls
use Rattle.flat_model.specs.Calls.{call_of, argument, three_arguments, bytes_from, string_from, arguments_at, exit_reply, child_by, written_to, write_reply, break_by, break_reply, pages_up_to, stack_pages_of, data_limit, path_image, starts, execve_of, execve_reply, wait_by, wait_reply, reply_of, or_fault, string_limit, write_limit, process_limit}
use Rattle.flat_model.specs.Step.{written_process, replied_step, reply_behind, called_step, step_behind, step_of}

-- How many.

-- there is room for a child
abbrev pub RoomFor : FlatState → Change → Type 0
RoomFor F (Fork child) = length F.processes < 64
RoomFor F (Lend child) = length F.processes < 64
RoomFor F _ = Unit {0}

many_left : (b : Bool) (F : FlatState) (pid parent : ℕ) → length (left b F pid parent).processes ≤ length F.processes
many_left true F pid parent = left_count (λ q. not (q.pid == pid)) F.processes
many_left false F pid parent = let k = length-map F.processes (awake parent) in omega arith

many_changed : (images : List NamedImage) (F : FlatState) (p : Process) (s : Space) (change : Change) → RoomFor F change → length F.processes ≤ 64
    → length (changed images F p s change).processes ≤ 64
many_changed images F p s Keep r l = let k = length-replaced F.processes p in omega arith
many_changed images F p s (Resize d t) r l = let k = length-replaced F.processes (record p { holding = Holds (Rattle.flat_state.specs.Change.resized s d t) }) in omega arith
many_changed images F p s (Fork child) r l =
    let k = length-replaced F.processes p in let a = length-append (replaced F.processes p) (Rattle.flat_state.specs.Change.child_of p child (record s { sid = F.next_sid }) ∷ []) in omega arith
many_changed images F p s (Lend child) r l = let k = length-replaced F.processes (record p { holding = Lends s.sid child }) in
    let a = length-append (replaced F.processes (record p { holding = Lends s.sid child })) (Rattle.flat_state.specs.Change.child_of p child s ∷ []) in omega arith
many_changed images F p s (Exec image top) r l = go (image_numbered images image)
  where
    go : (o : Option NamedImage) → length (entered F p s image o top).processes ≤ 64
    go None = l
    go (Some named) =
        let q : Process = record p { holding = Holds (Rattle.flat_state.specs.Flat.space_with F.next_sid image named.image top) } in
        let k = length-replaced F.processes (record p { holding = Holds (Rattle.flat_state.specs.Flat.space_with F.next_sid image named.image top) }) in
        let a = length-returned p.pid s (replaced F.processes (record p { holding = Holds (Rattle.flat_state.specs.Flat.space_with F.next_sid image named.image top) })) in omega arith
many_changed images F p s (Reap child) r l = let a = left_count (λ q. not (q.pid == child)) F.processes in let k = length-replaced (without_process F child).processes p in omega arith
many_changed images F p s Sleep r l = let k = length-replaced F.processes (record p { asleep = true }) in omega arith
many_changed images F p s (End status) r l =
    let k = length-replaced F.processes (record p { holding = Zombie status }) in
    let a = length-returned p.pid s (replaced F.processes (record p { holding = Zombie status })) in
    let b = left_count (λ q. not (is_zombie_child p.pid q)) (returned p.pid s (replaced F.processes (record p { holding = Zombie status }))) in
    let c = length-map (filter (λ q. not (is_zombie_child p.pid q)) (returned p.pid s (replaced F.processes (record p { holding = Zombie status })))) (without_parent p.pid) in
    let d = many_left (p.parent == 0) (orphaned (given_back (with_process F (record p { holding = Zombie status })) p.pid s) p.pid) p.pid p.parent in
    omega arith

pub many_applied : (images : List NamedImage) (F : FlatState) (pid : ℕ) (regs : Regs) (change : Change) → RoomFor F change → length F.processes ≤ 64
    → length (apply_change images F pid regs change).processes ≤ 64
unfolding apply_change
many_applied images F pid regs change r l = go (process_of F pid)
  where
    held : (p : Process) (h : Holding) → length (changed_by images F p change h).processes ≤ 64
    held p (Holds s) = many_changed images F p s change r l
    held p (Lends sid child) = l
    held p (Zombie status) = l

    go : (o : Option Process) → length (changed_if images F regs change o).processes ≤ 64
    go None = l
    go (Some p) = held (record p { regs = regs }) p.holding

pub many_written : (F : FlatState) (pid : ℕ) (ws : List ByteWrite) → length (apply_writes F pid ws).processes ≡ length F.processes
unfolding apply_writes
many_written F pid ws = go (process_of F pid)
  where
    held : (p : Process) (h : Holding) → length (wrote_by F p ws h).processes ≡ length F.processes
    held p (Holds s) = length-replaced F.processes (record p { holding = Holds (puts s ws) })
    held p (Lends sid child) = refl
    held p (Zombie status) = refl

    go : (o : Option Process) → length (wrote_if F ws o).processes ≡ length F.processes
    go None = refl
    go (Some p) = held p p.holding

-- Replies.

abbrev pub ReplyRoom : FlatState → Reply → Type 0
ReplyRoom F (Does regs change) = RoomFor F change
ReplyRoom F _ = Unit {0}

child_room : (F : FlatState) (b : Bool) (regs : Regs) (child : ℕ) → nat_lt (length F.processes) process_limit ≡ b
    → ReplyRoom F (child_by b regs child (Fork F.next_pid)) × ReplyRoom F (child_by b regs child (Lend F.next_pid))
child_room F true regs child e =
    let less : (n : ℕ) → nat_lt n 64 ≡ true → n < 64 = λ n e. grind (arith, nat_tests) in
    let l : length F.processes < 64 = less (length F.processes) e in (l, l)
child_room F false regs child e = (tt, tt)

written_room : (F : FlatState) (b : Bool) (buffer count : ℕ) → AllGives (ReplyRoom F) (written_to b buffer count)
unfolding written_to
written_room F true buffer count = gives_any (ReplyRoom F) (bytes_from (Rattle.std.specs.Prelude.min count write_limit) buffer) (λ x. Gives (Writes x)) (λ x. tt)
written_room F false buffer count = tt

break_room : (F : FlatState) (b : Bool) (regs : Regs) (x y : ℕ) → ReplyRoom F (break_by b regs x y)
break_room F true regs x y = tt
break_room F false regs x y = tt

starts_room : (F : FlatState) (found : ℕ × NamedImage) (arguments : Option (List (List ℕ))) → ReplyRoom F (starts found arguments)
starts_room F found None = tt
starts_room F found (Some arguments) = tt

execve_room : (F : FlatState) (argv : ℕ) (found : Option (ℕ × NamedImage)) → AllGives (ReplyRoom F) (execve_of argv found)
execve_room F argv None = tt
execve_room F argv (Some found) = gives_any (ReplyRoom F) (arguments_at argv) (λ arguments. Gives (starts found arguments)) (λ arguments. starts_room F found arguments)

wait_room : (F : FlatState) (pid : ℕ) (regs : Regs) → ReplyRoom F (wait_reply F pid regs)
wait_room F pid regs = go (find (λ q. q.parent == pid) F.processes) (find (is_zombie_child pid) F.processes)
  where
    go : (child zombie : Option Process) → ReplyRoom F (wait_by child zombie regs)
    go None zombie = tt
    go (Some child) None = tt
    go (Some child) (Some z) = tt

all_room : (images : List NamedImage) (F : FlatState) (p : Process) (s : Space) (call : SystemCall) (regs : Regs)
    → AllGives (ReplyRoom F) (reply_of images F p s call regs)
unfolding reply_of exit_reply write_reply break_reply execve_reply
all_room images F p s calls.Exit regs = gives_any (ReplyRoom F) (argument regs 1) (λ code. Gives (Exits (code % 256 * 256))) (λ code. tt)
all_room images F p s calls.Fork regs = (child_room F (nat_lt (length F.processes) process_limit) regs F.next_pid refl).0
all_room images F p s calls.Write regs =
    gives_any (ReplyRoom F) (three_arguments regs) (λ asked. written_to (asked.0 == 1 || asked.0 == 2) asked.1 asked.2) (λ asked. written_room F (asked.0 == 1 || asked.0 == 2) asked.1 asked.2)
all_room images F p s calls.Break regs =
    gives_any (ReplyRoom F) (argument regs 1) (λ address. Gives (break_by (nat_le (pages_up_to s address) data_limit) regs (pages_up_to s address) (stack_pages_of s)))
    (λ address. break_room F (nat_le (pages_up_to s address) data_limit) regs (pages_up_to s address) (stack_pages_of s))
all_room images F p s calls.Getpid regs = tt
all_room images F p s calls.Execve regs =
    gives_any (ReplyRoom F) (three_arguments regs) (λ asked. string_from string_limit asked.0 >>= λ path. execve_of asked.1 (path_image images path))
    (λ asked. gives_any (ReplyRoom F) (string_from string_limit asked.0) (λ path. execve_of asked.1 (path_image images path)) (λ path. execve_room F asked.1 (path_image images path)))
all_room images F p s calls.Vfork regs = (child_room F (nat_lt (length F.processes) process_limit) regs F.next_pid refl).1
all_room images F p s calls.Wait regs = wait_room F p.pid regs

-- Steps.

replied_room : (images : List NamedImage) (F : FlatState) (p : Process) (call : SystemCall) (effect : Effect) (reply : Reply)
    → ReplyRoom (apply_writes F p.pid effect.writes) reply
    → RoomFor (apply_writes F p.pid (replied_step images F p call effect reply).writes) (replied_step images F p call effect reply).change
replied_room images F p call effect (Does regs change) h = h
replied_room images F p call effect (Writes []) h = tt
replied_room images F p call effect (Writes (byte ∷ more)) h = tt
replied_room images F p call effect _ h = tt

behind_room : (images : List NamedImage) (F : FlatState) (p : Process) (s : Space) (refused : Bool) (effect : Effect) (o : Option ℤ)
    → RoomFor (apply_writes F p.pid (step_behind images F p s refused effect o).writes) (step_behind images F p s refused effect o).change
behind_room images F p s refused effect None = tt
behind_room images F p s refused effect (Some number) = go (call_of number)
  where
    go : (o : Option SystemCall) → RoomFor (apply_writes F p.pid (called_step images F p s refused effect o).writes) (called_step images F p s refused effect o).change
    go None = tt
    go (Some call) = replied_room images F p call effect (reply_behind images F p s refused call effect)
        (refused_gives (ReplyRoom (apply_writes F p.pid effect.writes)) refused
        (or_fault (run (answers_of (puts s effect.writes)) (reply_of images (apply_writes F p.pid effect.writes) (written_process p s effect.writes) (puts s effect.writes) call effect.regs))) tt
        (reply_gives (ReplyRoom (apply_writes F p.pid effect.writes)) (answers_of (puts s effect.writes))
        (reply_of images (apply_writes F p.pid effect.writes) (written_process p s effect.writes) (puts s effect.writes) call effect.regs) tt
        (all_room images (apply_writes F p.pid effect.writes) (written_process p s effect.writes) (puts s effect.writes) call effect.regs)))

pub of_room : (images : List NamedImage) (F : FlatState) (p : Process) (s : Space) (refused : Bool) (r : Result Effect Refused)
    → RoomFor (apply_writes F p.pid (step_of images F p s refused r).writes) (step_of images F p s refused r).change
of_room images F p s refused (Ok effect) = behind_room images F p s refused effect effect.call
of_room images F p s refused (Err (Miss a w)) = tt
of_room images F p s true (Err (Below a)) = tt
of_room images F p s false (Err (Below a)) = tt
of_room images F p s refused (Err (Signal k)) = tt
