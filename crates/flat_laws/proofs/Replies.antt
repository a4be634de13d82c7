-- What the replies of calls do to processes that hold spaces.
use Rattle.std.proofs.Common.{◌&&◌, ◌≡◌, ℕ, ◌==◌, ◌||◌, nat_lt, nat_le, min, length, ◌%◌, ◌*◌, Bool, true, false, List, find, Option, Some, None, refl}
use Rattle.vm_facts.specs.Answers.{Answers}
use Rattle.flat_state.specs.Space.{Space}
use Rattle.flat_state.specs.Flat.{Holding, Zombie, Process, FlatState, NamedImage}
use Rattle.vm_facts.specs.declared.regs.Regs.{Regs}
use Rattle.user_vax.specs.Program.{Gives, ◌>>=◌, run}
use Rattle.flat_state.specs.Change.{is_zombie_child, is_zombie, NamesChild}
use Rattle.flat_state.specs.declared.change.Change.TheVariants.{Fork, Lend, Reap}
use Rattle.flat_model.specs.declared.calls.Reply.{Reply}
use Rattle.flat_model.specs.declared.calls.Reply.TheVariants.{Does, Writes, Exits}
use Rattle.flat_model.specs.declared.calls.SystemCall.{SystemCall}
use Rattle.flat_model.specs.declared.calls.SystemCall.TheVariants as calls
use Rattle.flat_model.specs.Calls.{argument, three_arguments, bytes_from, string_from, arguments_at, exit_reply, child_by, written_to, write_reply, break_by, break_reply, pages_up_to, stack_pages_of, data_limit, path_image, starts, execve_of, execve_reply, wait_by, wait_reply, reply_of, or_fault, refused_reply, string_limit, write_limit, process_limit}
use Rattle.flat_state.specs.Numbers.{AllDistinct}
use Rattle.flat_laws.proofs.Computations.{AllGives, gives_any, reply_gives, refused_gives}
use Rattle.flat_laws.proofs.Finding.{pids, found_by_number, zombie_passes}

-- a reply whose change may be made
abbrev pub ReplyFits : FlatState → Reply → Type 0
ReplyFits F (Does regs change) = NamesChild F change
ReplyFits F _ = Unit {0}

-- The calls.

child_fits : (F : FlatState) (b : Bool) (regs : Regs) (child : ℕ)
    → ReplyFits F (child_by b regs child (Fork F.next_pid)) × ReplyFits F (child_by b regs child (Lend F.next_pid))
child_fits F true regs child = (refl, refl)
child_fits F false regs child = (tt, tt)

written_fits : (F : FlatState) (b : Bool) (buffer count : ℕ) → AllGives (ReplyFits F) (written_to b buffer count)
unfolding written_to
written_fits F true buffer count = gives_any (ReplyFits F) (bytes_from (min count write_limit) buffer) (λ x. Gives (Writes x)) (λ x. tt)
written_fits F false buffer count = tt

break_fits : (F : FlatState) (b : Bool) (regs : Regs) (x y : ℕ) → ReplyFits F (break_by b regs x y)
break_fits F true regs x y = tt
break_fits F false regs x y = tt

starts_fits : (F : FlatState) (found : ℕ × NamedImage) (arguments : Option (List (List ℕ))) → ReplyFits F (starts found arguments)
starts_fits F found None = tt
starts_fits F found (Some arguments) = tt

execve_fits : (F : FlatState) (argv : ℕ) (found : Option (ℕ × NamedImage)) → AllGives (ReplyFits F) (execve_of argv found)
execve_fits F argv None = tt
execve_fits F argv (Some found) = gives_any (ReplyFits F) (arguments_at argv) (λ arguments. Gives (starts found arguments)) (λ arguments. starts_fits F found arguments)

zombie_is : (held : Holding) → is_zombie held ≡ true → (status : ℕ) × (held ≡ Zombie status)
zombie_is (Zombie status) h = (status, refl)
zombie_is _ h = absurd cc

second : (a b : Bool) → (a && b) ≡ true → b ≡ true
second true b h = h
second false b h = absurd cc

-- wait takes a zombie
zombie_fits : (F : FlatState) (pid : ℕ) (z : Process) → AllDistinct (pids F.processes) → find (is_zombie_child pid) F.processes ≡ Some z
    → NamesChild F (Reap z.pid)
zombie_fits F pid z own h =
    let ended = zombie_is z.holding (second (z.parent == pid) (is_zombie z.holding) (zombie_passes pid F.processes z h)) in
    (z, ended.0, found_by_number (is_zombie_child pid) F.processes z own h, ended.1)

wait_fits : (F : FlatState) (pid : ℕ) (regs : Regs) → AllDistinct (pids F.processes) → ReplyFits F (wait_reply F pid regs)
wait_fits F pid regs own = go (find (λ q. q.parent == pid) F.processes) (find (is_zombie_child pid) F.processes) refl
  where
    go : (child zombie : Option Process) → find (is_zombie_child pid) F.processes ≡ zombie → ReplyFits F (wait_by child zombie regs)
    go None zombie e = tt
    go (Some child) None e = tt
    go (Some child) (Some z) e = zombie_fits F pid z own e

all_fit : (images : List NamedImage) (F : FlatState) (p : Process) (s : Space) (call : SystemCall) (regs : Regs) → AllDistinct (pids F.processes)
    → AllGives (ReplyFits F) (reply_of images F p s call regs)
unfolding reply_of exit_reply write_reply break_reply execve_reply
all_fit images F p s calls.Exit regs own = gives_any (ReplyFits F) (argument regs 1) (λ code. Gives (Exits (code % 256 * 256))) (λ code. tt)
all_fit images F p s calls.Fork regs own = (child_fits F (nat_lt (length F.processes) process_limit) regs F.next_pid).0
all_fit images F p s calls.Write regs own =
    gives_any (ReplyFits F) (three_arguments regs) (λ asked. written_to (asked.0 == 1 || asked.0 == 2) asked.1 asked.2) (λ asked. written_fits F (asked.0 == 1 || asked.0 == 2) asked.1 asked.2)
all_fit images F p s calls.Break regs own =
    gives_any (ReplyFits F) (argument regs 1) (λ address. Gives (break_by (nat_le (pages_up_to s address) data_limit) regs (pages_up_to s address) (stack_pages_of s)))
    (λ address. break_fits F (nat_le (pages_up_to s address) data_limit) regs (pages_up_to s address) (stack_pages_of s))
all_fit images F p s calls.Getpid regs own = tt
all_fit images F p s calls.Execve regs own =
    gives_any (ReplyFits F) (three_arguments regs) (λ asked. string_from string_limit asked.0 >>= λ path. execve_of asked.1 (path_image images path))
    (λ asked. gives_any (ReplyFits F) (string_from string_limit asked.0) (λ path. execve_of asked.1 (path_image images path)) (λ path. execve_fits F asked.1 (path_image images path)))
all_fit images F p s calls.Vfork regs own = (child_fits F (nat_lt (length F.processes) process_limit) regs F.next_pid).1
all_fit images F p s calls.Wait regs own = wait_fits F p.pid regs own

-- the reply of a call takes nobody who holds a space, and its child has the next number
pub reply_fits : (images : List NamedImage) (F : FlatState) (memory : Answers) (p : Process) (s : Space) (call : SystemCall) (regs : Regs) (refused : Bool)
    → AllDistinct (pids F.processes)
    → ReplyFits F (refused_reply refused (or_fault (run memory (reply_of images F p s call regs))))
reply_fits images F memory p s call regs refused own =
    refused_gives (ReplyFits F) refused (or_fault (run memory (reply_of images F p s call regs))) tt
    (reply_gives (ReplyFits F) memory (reply_of images F p s call regs) tt (all_fit images F p s call regs own))
