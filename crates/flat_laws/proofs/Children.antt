-- A child comes by the reply of a fork or a vfork alone, whose carry is clear.
use Rattle.std.proofs.Common.{◌≡◌, ℕ, ◌%◌, ◌*◌, ◌==◌, ◌||◌, nat_lt, nat_le, min, length, Bool, true, false, List, find, Option, Some, None}
use Rattle.vm_facts.specs.Answers.{Answers}
use Rattle.flat_state.specs.Space.{Space}
use Rattle.flat_state.specs.Flat.{Process, FlatState, NamedImage}
use Rattle.vm_facts.specs.declared.regs.Regs.{Regs}
use Rattle.user_vax.specs.Program.{Gives, ◌>>=◌, run}
use Rattle.flat_state.specs.Change.{is_zombie_child}
use Rattle.flat_state.specs.declared.change.Change.TheVariants.{Fork, Lend}
use Rattle.flat_model.specs.declared.calls.Reply.{Reply}
use Rattle.flat_model.specs.declared.calls.Reply.TheVariants.{Does, Writes, Exits}
use Rattle.flat_model.specs.declared.calls.SystemCall.{SystemCall}
use Rattle.flat_model.specs.declared.calls.SystemCall.TheVariants as calls
use Rattle.flat_model.specs.Calls.{number_of, argument, three_arguments, bytes_from, string_from, arguments_at, exit_reply, child_by, written_to, write_reply, break_by, break_reply, pages_up_to, stack_pages_of, data_limit, path_image, starts, execve_of, execve_reply, wait_by, reply_of, or_fault, refused_reply, string_limit, write_limit, process_limit}
use Rattle.flat_laws.specs.Visible.{is_fork_reply}
use Rattle.flat_laws.proofs.Computations.{AllGives, gives_any, reply_gives, refused_gives}
use Rattle.flat_laws.proofs.Sole.{BringsNone}

-- no process comes by the reply of this call, unless its entry is a fork's
abbrev pub Spares : SystemCall → Reply → Type 0
Spares call (Does regs change) = is_fork_reply (number_of call) regs.c ≡ false → BringsNone change
Spares call _ = Unit {0}

-- The calls.

forks_spare : (F : FlatState) (b : Bool) (regs : Regs) (child : ℕ) → Spares calls.Fork (child_by b regs child (Fork F.next_pid))
    × Spares calls.Vfork (child_by b regs child (Lend F.next_pid))
forks_spare F true regs child = ((λ h. absurd cc), (λ h. absurd cc))
forks_spare F false regs child = (tt, tt)

written_spares : (b : Bool) (buffer count : ℕ) → AllGives (Spares calls.Write) (written_to b buffer count)
unfolding written_to
written_spares true buffer count = gives_any (Spares calls.Write) (bytes_from (min count write_limit) buffer) (λ bytes. Gives (Writes bytes)) (λ bytes. tt)
written_spares false buffer count = tt

break_spares : (b : Bool) (regs : Regs) (x y : ℕ) → Spares calls.Break (break_by b regs x y)
break_spares true regs x y = λ h. tt
break_spares false regs x y = tt

starts_spares : (found : ℕ × NamedImage) (arguments : Option (List (List ℕ))) → Spares calls.Execve (starts found arguments)
starts_spares found None = tt
starts_spares found (Some arguments) = λ h. tt

execve_spares : (argv : ℕ) (found : Option (ℕ × NamedImage)) → AllGives (Spares calls.Execve) (execve_of argv found)
execve_spares argv None = tt
execve_spares argv (Some found) = gives_any (Spares calls.Execve) (arguments_at argv) (λ arguments. Gives (starts found arguments)) (λ arguments. starts_spares found arguments)

wait_spares : (child zombie : Option Process) (regs : Regs) → Spares calls.Wait (wait_by child zombie regs)
wait_spares None zombie regs = tt
wait_spares (Some child) None regs = tt
wait_spares (Some child) (Some z) regs = λ h. tt

all_spare : (images : List NamedImage) (F : FlatState) (p : Process) (s : Space) (call : SystemCall) (regs : Regs)
    → AllGives (Spares call) (reply_of images F p s call regs)
unfolding reply_of exit_reply write_reply break_reply execve_reply
all_spare images F p s calls.Exit regs = gives_any (Spares calls.Exit) (argument regs 1) (λ code. Gives (Exits (code % 256 * 256))) (λ code. tt)
all_spare images F p s calls.Fork regs = (forks_spare F (nat_lt (length F.processes) process_limit) regs F.next_pid).0
all_spare images F p s calls.Write regs =
    gives_any (Spares calls.Write) (three_arguments regs) (λ asked. written_to (asked.0 == 1 || asked.0 == 2) asked.1 asked.2) (λ asked. written_spares (asked.0 == 1 || asked.0 == 2) asked.1 asked.2)
all_spare images F p s calls.Break regs =
    gives_any (Spares calls.Break) (argument regs 1) (λ address. Gives (break_by (nat_le (pages_up_to s address) data_limit) regs (pages_up_to s address) (stack_pages_of s)))
    (λ address. break_spares (nat_le (pages_up_to s address) data_limit) regs (pages_up_to s address) (stack_pages_of s))
all_spare images F p s calls.Getpid regs = λ h. tt
all_spare images F p s calls.Execve regs =
    gives_any (Spares calls.Execve) (three_arguments regs) (λ asked. string_from string_limit asked.0 >>= λ path. execve_of asked.1 (path_image images path))
    (λ asked. gives_any (Spares calls.Execve) (string_from string_limit asked.0) (λ path. execve_of asked.1 (path_image images path)) (λ path. execve_spares asked.1 (path_image images path)))
all_spare images F p s calls.Vfork regs = (forks_spare F (nat_lt (length F.processes) process_limit) regs F.next_pid).1
all_spare images F p s calls.Wait regs = wait_spares (find (λ q. q.parent == p.pid) F.processes) (find (is_zombie_child p.pid) F.processes) regs

pub reply_spares : (images : List NamedImage) (F : FlatState) (memory : Answers) (p : Process) (s : Space) (call : SystemCall) (regs : Regs) (refused : Bool)
    → Spares call (refused_reply refused (or_fault (run memory (reply_of images F p s call regs))))
reply_spares images F memory p s call regs refused =
    refused_gives (Spares call) refused (or_fault (run memory (reply_of images F p s call regs))) tt
    (reply_gives (Spares call) memory (reply_of images F p s call regs) tt (all_spare images F p s call regs))
