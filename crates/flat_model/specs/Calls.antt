-- The system calls, as computations over what the caller's memory answers.
use Rattle.std.specs.Prelude.{ℕ, zero, suc, ◌-◌, ◌*◌, ◌/◌, ◌%◌, ◌==◌, ◌||◌, nat_lt, nat_le, Bool, true, false, min, List, [], ◌∷◌, length, find, bytes_eq, ℤ, pos, negsuc, Option, Some, None, Result, Ok, Err, if◌then◌else◌}
use Rattle.flat_state.specs.Space.{Space}
use Rattle.flat_state.specs.Flat.{Holding, Holds, Lends, Zombie, Process, FlatState, NamedImage, start_regs, start_page}
use Rattle.vm_facts.specs.declared.regs.Regs.{Regs}
use Rattle.user_vax.specs.Program.{Program, Gives, Reads, ◌>>=◌}
use Rattle.user_vax.specs.Operands.{register, with_register, past, number_at}
use Rattle.user_vax.specs.declared.refused.Refused.{Refused}
use Rattle.flat_state.specs.AoutImageImageSpecs.{pages_for}
use Rattle.flat_state.specs.Change.{with_results, is_zombie_child}
use Rattle.flat_state.specs.declared.change.Change.{Change}
use Rattle.flat_state.specs.declared.change.Change.TheVariants.{Keep, Resize, Fork, Lend, Exec, Reap, Sleep, End}
use Rattle.flat_model.specs.declared.calls.Reply.{Reply}
use Rattle.flat_model.specs.declared.calls.Reply.TheVariants.{Fails, Does, Writes, Waits, Exits}
use Rattle.flat_model.specs.declared.calls.SystemCall.{SystemCall}
use Rattle.flat_model.specs.declared.calls.SystemCall.TheVariants as calls
use Rattle.flat_model.specs.declared.calls.TheConstants.{ENOENT, E2BIG, EBADF, ECHILD, EAGAIN, ENOMEM, EFAULT, WRITE_LIMIT, PROCESS_LIMIT, DATA_LIMIT, STRING_LIMIT, ARGUMENT_LIMIT}

-- The numbers of the errors: ENOENT, E2BIG, EBADF, ECHILD, EAGAIN, ENOMEM and EFAULT.

-- ENOENT: the path names no image
abbrev pub no_such_file : ℕ
no_such_file = ENOENT

-- E2BIG: more arguments than may be, or one that is too long
abbrev pub too_big : ℕ
too_big = E2BIG

-- EBADF: the file of a write isn't 1 or 2
abbrev pub bad_file : ℕ
bad_file = EBADF

-- ECHILD: a process that waits has no children
abbrev pub no_children : ℕ
no_children = ECHILD

-- EAGAIN: there are as many processes as may be
abbrev pub try_again : ℕ
try_again = EAGAIN

-- ENOMEM: a data segment of too many pages, or swap pieces that find no place
abbrev pub no_memory : ℕ
no_memory = ENOMEM

-- EFAULT: a byte that the call reads is refused
abbrev pub bad_address : ℕ
bad_address = EFAULT

-- The limits: the bytes of one write, the processes, the pages of a data segment, the bytes of a path or an argument
-- with its final 0, and the arguments.

-- the most bytes that one write writes
abbrev pub write_limit : ℕ
write_limit = WRITE_LIMIT

-- the most processes that there may be, zombies counted
abbrev pub process_limit : ℕ
process_limit = PROCESS_LIMIT

-- the most pages of a data segment
abbrev pub data_limit : ℕ
data_limit = DATA_LIMIT

-- the most bytes of a path or an argument, with its final 0
abbrev pub string_limit : ℕ
string_limit = STRING_LIMIT

-- the most arguments of an execve
abbrev pub argument_limit : ℕ
argument_limit = ARGUMENT_LIMIT

-- The calls by number.

-- the number by which CHMK asks for a system call
abbrev pub number_of : SystemCall → ℕ
number_of calls.Exit = 1
number_of calls.Fork = 2
number_of calls.Write = 4
number_of calls.Break = 17
number_of calls.Getpid = 20
number_of calls.Execve = 59
number_of calls.Vfork = 66
number_of calls.Wait = 84

-- the system call with this number; none where it isn't one of the eight
abbrev pub call_numbered : ℕ → Option SystemCall
call_numbered number =
    if number == 1 then Some calls.Exit
    else (if number == 2 then Some calls.Fork
    else (if number == 4 then Some calls.Write
    else (if number == 17 then Some calls.Break
    else (if number == 20 then Some calls.Getpid
    else (if number == 59 then Some calls.Execve
    else (if number == 66 then Some calls.Vfork
    else (if number == 84 then Some calls.Wait else None)))))))

-- the call of a number, where it names one
abbrev pub call_of : ℤ → Option SystemCall
call_of (pos number) = call_numbered number
call_of (negsuc number) = None

-- What a call reads.

-- how a computation was refused, if it was
abbrev pub refusal_of : {A : Type 0} → Result A Refused → Result (Unit {0}) Refused
refusal_of (Ok x) = Ok tt
refusal_of (Err refused) = Err refused

-- the call's argument of this number, counted from 1: a longword after the one that AP points to
unfoldable pub argument : Regs → ℕ → Program ℕ
argument regs k = number_at 4 (past (register regs 12) (4 * k))

-- the first three arguments
unfoldable pub three_arguments : Regs → Program (ℕ × ℕ × ℕ)
three_arguments regs = do
  a ← argument regs 1
  b ← argument regs 2
  c ← argument regs 3
  Gives (a, b, c)

-- so many bytes from an address on
unfoldable pub bytes_from : ℕ → ℕ → Program (List ℕ)
bytes_from zero address = Gives []
bytes_from (suc count) address = do
  byte ← Reads address (λ b. Gives b)
  more ← bytes_from count (past address 1)
  Gives (byte ∷ more)

-- with one more before them, where they are there
abbrev pub before : {A : Type 0} → A → Option (List A) → Option (List A)
before x None = None
before x (Some xs) = Some (x ∷ xs)

-- the string ends with a byte 0
abbrev pub string_after : ℕ → Program (Option (List ℕ)) → Program (Option (List ℕ))
string_after zero more = Gives (Some [])
string_after (suc n) more = more >>= λ string. Gives (before (suc n) string)

-- the bytes from an address on up to a 0; none where so many bytes have no 0
unfoldable pub string_from : ℕ → ℕ → Program (Option (List ℕ))
string_from zero address = Gives None
string_from (suc left) address = Reads address (λ byte. string_after byte (string_from left (past address 1)))

-- a string, and then further ones, where it is there
abbrev pub string_before : Program (Option (List (List ℕ))) → Option (List ℕ) → Program (Option (List (List ℕ)))
string_before more None = Gives None
string_before more (Some string) = more >>= λ strings. Gives (before string strings)

-- where the pointer is 0 the list of arguments ends; one argument more than may be ends it too, with none
abbrev pub last_pointer : ℕ → Program (Option (List (List ℕ)))
last_pointer zero = Gives (Some [])
last_pointer (suc n) = Gives None

-- the arguments from a pointer on: its string and then more; no more where the pointer is 0
abbrev pub pointer_after : ℕ → Program (Option (List (List ℕ))) → Program (Option (List (List ℕ)))
pointer_after zero more = Gives (Some [])
pointer_after (suc n) more = string_from string_limit (suc n) >>= string_before more

-- the arguments whose pointers stand from an address on up to a 0, of which there may be so many; each string is
-- read before the next pointer
unfoldable pub arguments_from : ℕ → ℕ → Program (Option (List (List ℕ)))
arguments_from zero address = number_at 4 address >>= last_pointer
arguments_from (suc left) address =
    number_at 4 address >>= λ pointer. pointer_after pointer (arguments_from left (past address 4))

-- the arguments of an execve; none at all where the address is 0
abbrev pub arguments_at : ℕ → Program (Option (List (List ℕ)))
arguments_at zero = Gives (Some [])
arguments_at (suc n) = arguments_from argument_limit (suc n)

-- The registers of a reply.

-- R0 and the carry
abbrev pub replied : Regs → Bool → ℕ → Regs
replied regs carry r0 = record (with_register regs 0 r0) { c = carry }

-- R0 and R1, with the carry clear
abbrev pub replied_both : Regs → ℕ → ℕ → Regs
replied_both regs r0 r1 = record (with_results regs r0 r1) { c = false }

-- The calls.

-- exit: the status has the code's low byte above a byte of zeros
unfoldable pub exit_reply : Regs → Program Reply
exit_reply regs = argument regs 1 >>= λ code. Gives (Exits (code % 256 * 256))

-- a further process, where there are fewer than may be
abbrev pub child_by : Bool → Regs → ℕ → Change → Reply
child_by true regs child change = Does (replied_both regs child 0) change
child_by false regs child change = Fails try_again

-- fork and vfork: the child is the next process
abbrev pub child_reply : FlatState → Regs → Change → Reply
child_reply F regs change = child_by (nat_lt (length F.processes) process_limit) regs F.next_pid change

-- the bytes of a write, where the file is an output
unfoldable pub written_to : Bool → ℕ → ℕ → Program Reply
written_to true buffer count = bytes_from (min count write_limit) buffer >>= λ bytes. Gives (Writes bytes)
written_to false buffer count = Gives (Fails bad_file)

-- write: the file, the buffer and the count; files 1 and 2 are outputs
unfoldable pub write_reply : Regs → Program Reply
write_reply regs =
    three_arguments regs >>= λ asked. written_to (asked.0 == 1 || asked.0 == 2) asked.1 asked.2

-- the pages of a data segment that ends at an address; none where the address is below it
abbrev pub pages_up_to : Space → ℕ → ℕ
pages_up_to s address = pages_for (address - length s.text_bytes)

-- the pages of a space's stack
abbrev pub stack_pages_of : Space → ℕ
stack_pages_of s = length s.stack_bytes / 1024

-- a data segment of so many pages, if it may have as many
abbrev pub break_by : Bool → Regs → ℕ → ℕ → Reply
break_by true regs data_pages stack_pages = Does (replied regs false 0) (Resize data_pages stack_pages)
break_by false regs data_pages stack_pages = Fails no_memory

-- break: the address
unfoldable pub break_reply : Space → Regs → Program Reply
break_reply s regs = do
  address ← argument regs 1
  Gives (break_by (nat_le (pages_up_to s address) data_limit) regs (pages_up_to s address) (stack_pages_of s))

-- an image with its number where it has the name, or else what is found among those after it
abbrev pub numbered_by : Bool → ℕ → NamedImage → Option (ℕ × NamedImage) → Option (ℕ × NamedImage)
numbered_by true number image more = Some (number, image)
numbered_by false number image more = more

-- the image of a name, with its number, which are counted on from this one
unfoldable pub image_named : ℕ → List NamedImage → List ℕ → Option (ℕ × NamedImage)
image_named number [] name = None
image_named number (image ∷ images) name =
    numbered_by (bytes_eq image.name name) number image (image_named (suc number) images name)

-- the image that a path names, with its number; none where the path is too long or names none
abbrev pub path_image : List NamedImage → Option (List ℕ) → Option (ℕ × NamedImage)
path_image images None = None
path_image images (Some name) = image_named 1 images name

-- an image that starts with these arguments, where they are as few and as short as they must be
abbrev pub starts : ℕ × NamedImage → Option (List (List ℕ)) → Reply
starts found None = Fails too_big
starts found (Some arguments) = Does (start_regs found.1.image.facts.entry arguments) (Exec found.0 (start_page arguments))

-- an image that is there, and then its arguments
abbrev pub execve_of : ℕ → Option (ℕ × NamedImage) → Program Reply
execve_of argv None = Gives (Fails no_such_file)
execve_of argv (Some found) = arguments_at argv >>= λ arguments. Gives (starts found arguments)

-- execve: the path, the arguments and the environment, which isn't read
unfoldable pub execve_reply : List NamedImage → Regs → Program Reply
execve_reply images regs = do
  asked ← three_arguments regs
  path ← string_from string_limit asked.0
  execve_of asked.1 (path_image images path)

-- the status of a zombie; 0 for a process that is none
abbrev pub status_of : Holding → ℕ
status_of (Holds s) = 0
status_of (Lends sid child) = 0
status_of (Zombie status) = status

-- wait, of the first child and the lowest zombie child
abbrev pub wait_by : Option Process → Option Process → Regs → Reply
wait_by None zombie regs = Fails no_children
wait_by (Some child) None regs = Waits
wait_by (Some child) (Some z) regs = Does (replied_both regs z.pid (status_of z.holding)) (Reap z.pid)

-- wait: ECHILD without a child, a sleep without a zombie child, or else the pid and the status of the lowest zombie child
abbrev pub wait_reply : FlatState → ℕ → Regs → Reply
wait_reply F pid regs = wait_by (find (λ q. q.parent == pid) F.processes) (find (is_zombie_child pid) F.processes) regs

-- what a call of a process, which has this space, comes to; a byte that is refused is a fault
unfoldable pub reply_of : List NamedImage → FlatState → Process → Space → SystemCall → Regs → Program Reply
reply_of images F p s calls.Exit regs = exit_reply regs
reply_of images F p s calls.Fork regs = Gives (child_reply F regs (Fork F.next_pid))
reply_of images F p s calls.Write regs = write_reply regs
reply_of images F p s calls.Break regs = break_reply s regs
reply_of images F p s calls.Getpid regs = Gives (Does (replied_both regs p.pid p.parent) Keep)
reply_of images F p s calls.Execve regs = execve_reply images regs
reply_of images F p s calls.Vfork regs = Gives (child_reply F regs (Lend F.next_pid))
reply_of images F p s calls.Wait regs = Gives (wait_reply F p.pid regs)

-- the reply of a call, or EFAULT where a byte that it reads is refused
abbrev pub or_fault : Result Reply Refused → Reply
or_fault (Ok reply) = reply
or_fault (Err refused) = Fails bad_address

-- Space on swap that is refused.

-- a break, a fork, a vfork and an execve want space
abbrev pub wants_space : Change → Bool
wants_space Keep = false
wants_space (Resize data_pages stack_pages) = true
wants_space (Fork child) = true
wants_space (Lend child) = true
wants_space (Exec image top) = true
wants_space (Reap child) = false
wants_space Sleep = false
wants_space (End status) = false

-- ENOMEM where a reply wants space that it can't have, or else the reply
abbrev pub unless_refused : Bool → Reply → Reply
unless_refused true reply = Fails no_memory
unless_refused false reply = reply

-- the reply where the pieces that it wants found no place, or where they did
abbrev pub refused_reply : Bool → Reply → Reply
refused_reply false reply = reply
refused_reply true (Does regs change) = unless_refused (wants_space change) (Does regs change)
refused_reply true (Fails error) = Fails error
refused_reply true (Writes bytes) = Writes bytes
refused_reply true Waits = Waits
refused_reply true (Exits status) = Exits status

-- the reply changes no process and no space, but by an end
abbrev pub ChangesNothing : Result Reply Refused → Type 0
ChangesNothing (Ok (Fails error)) = Unit {0}
ChangesNothing (Ok (Does regs change)) = ⊥
ChangesNothing (Ok (Writes bytes)) = Unit {0}
ChangesNothing (Ok Waits) = Unit {0}
ChangesNothing (Ok (Exits status)) = Unit {0}
ChangesNothing (Err refused) = Unit {0}
