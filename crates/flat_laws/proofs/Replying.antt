-- What replies, steps and runs leave in registers.
use Rattle.std.proofs.Common.{◌≡◌, ℕ, zero, suc, ◌<◌, ◌≤◌, ◌^◌, ◌==◌, ◌||◌, nat_lt, nat_le, min, length, ◌%◌, ◌*◌, Bool, true, false, cond, List, [], ◌∷◌, find, map, slice_index, bytes_eq, Option, Some, None, Result, Ok, Err, ℤ, refl, sym, ap, subst, arith}
use Rattle.vm_facts.specs.Answers.{Answers, ByteWrite}
use Rattle.flat_state.specs.Space.{Space, address_in, byte_at, answers_of, puts}
use Rattle.flat_state.specs.Flat.{Holding, Holds, Lends, Zombie, Process, FlatState, NamedImage, Inputs, process_of}
use Rattle.vm_facts.specs.declared.memory.ByteRead.{ByteRead}
use Rattle.vm_facts.specs.declared.memory.ByteRead.TheVariants as bytes
use Rattle.vm_facts.specs.declared.memory.MayWrite.{MayWrite}
use Rattle.vm_facts.specs.declared.memory.MayWrite.TheVariants as tests
use Rattle.vm_facts.specs.declared.regs.Regs.{Regs}
use Rattle.user_vax.specs.Effects.{Effect}
use Rattle.user_vax.specs.Operands.{register, past, number_at}
use Rattle.vax_code.specs.Grammar.{AreOctets}
use Rattle.user_vax.specs.declared.refused.Refused.{Refused as Refusal}
use Rattle.user_vax.specs.declared.refused.Refused.TheVariants.{Miss, Below, Signal}
use Rattle.user_vax.specs.Program.{Program, Gives, Refuses, Reads, Tests, ◌>>=◌, run, after_read, after_test}
use Rattle.flat_state.specs.declared.spot.Spot.{Spot}
use Rattle.flat_state.specs.declared.spot.Spot.TheVariants as spots
use Rattle.kernel_model.specs.UPage.{AreRegs}
use Rattle.flat_state.specs.Change.{apply_change, apply_writes, wrote_by, wrote_if, is_zombie_child}
use Rattle.flat_state.specs.declared.change.Change.{Change}
use Rattle.flat_state.specs.declared.change.Change.TheVariants.{Keep, Fork, Lend, Sleep, End}
use Rattle.flat_state.specs.Numbers.{AllBelow, AllLower, pids_of, IsNumbered}
use Rattle.flat_model.specs.declared.calls.Reply.{Reply}
use Rattle.flat_model.specs.declared.calls.Reply.TheVariants.{Fails, Does, Writes, Waits, Exits}
use Rattle.flat_model.specs.declared.calls.SystemCall.{SystemCall}
use Rattle.flat_model.specs.declared.calls.SystemCall.TheVariants as calls
use Rattle.flat_model.specs.Calls.{argument, three_arguments, before, string_after, string_before, last_pointer, pointer_after, arguments_from, argument_limit, status_of, bytes_from, string_from, arguments_at, exit_reply, child_by, written_to, write_reply, break_by, break_reply, pages_up_to, stack_pages_of, data_limit, path_image, image_named, numbered_by, starts, execve_of, execve_reply, wait_by, wait_reply, reply_of, or_fault, refused_reply, unless_refused, wants_space, string_limit, write_limit, process_limit, replied, call_of}
use Rattle.flat_model.specs.Instruction.{instruction_in}
use Rattle.flat_model.specs.Step.{step_of, step_behind, called_step, replied_step, step_holding, step_if, flat_step, written_process, reply_behind}
use Rattle.flat_laws.specs.Longwords.{HasOctets, HeldFits, ProcessesFit, ImageFits, AllImages, ChangeFits, AreWritten, EffectFits, LeavesLongwords}
use Rattle.flat_laws.proofs.Octets.{AreStrings, index_octets, puts_octets, start_page_octets}
use Rattle.flat_laws.proofs.Leaving.{AllLeave, leave_bind, number_small}
use Rattle.flat_laws.proofs.Decoding.{leaves_longwords}
use Rattle.flat_laws.proofs.Others.{pids_written}
use Rattle.flat_laws.proofs.Registers.{regs_set, results_are, start_are, found_regs, change_regs, writes_regs}

-- a reply that leaves longwords
abbrev pub ReplyKeeps : Reply → Type 0
ReplyKeeps (Does regs change) = AreRegs regs × ChangeFits change
ReplyKeeps (Fails error) = error < 2 ^ 32
ReplyKeeps (Writes bytes) = length bytes < 2 ^ 32
ReplyKeeps Waits = Unit {0}
ReplyKeeps (Exits status) = status < 2 ^ 32

run_keeps : (memory : Answers) (p : Program Reply) → ((address byte : ℕ) → memory.read address ≡ bytes.Is byte → byte < 256) → AllLeave ReplyKeeps p
    → ReplyKeeps (or_fault (run memory p))
run_keeps memory (Gives x) small h = h
run_keeps memory (Refuses signal) small h = omega arith
run_keeps memory (Reads a next) small h = go (λ byte low. run_keeps memory (next byte) small (h byte low)) (memory.read a) refl
  where
    go : ((byte : ℕ) → byte < 256 → ReplyKeeps (or_fault (run memory (next byte)))) → (answer : ByteRead) → memory.read a ≡ answer
        → ReplyKeeps (or_fault (after_read answer a (λ byte. run memory (next byte))))
    go later (bytes.Is byte) e = later byte (small a byte e)
    go later bytes.Miss e = omega arith
    go later bytes.Below e = omega arith
    go later bytes.Outside e = omega arith
run_keeps memory (Tests a next) small h = go (run_keeps memory next small h) (memory.may_write a)
  where
    go : ReplyKeeps (or_fault (run memory next)) → (answer : MayWrite) → ReplyKeeps (or_fault (after_test answer a (run memory next)))
    go later tests.May = later
    go later tests.Miss = omega arith
    go later tests.Below = omega arith
    go later tests.Text = omega arith
    go later tests.Outside = omega arith

-- What calls read.

argument_leaves : (regs : Regs) (k : ℕ) → AllLeave (λ (n : ℕ). n < 2 ^ 32) (argument regs k)
unfolding argument
argument_leaves regs k = number_small 4 (past (register regs 12) (4 * k))

three_leave : (regs : Regs) → AllLeave (λ (x : ℕ × ℕ × ℕ). Unit {0}) (three_arguments regs)
unfolding three_arguments
three_leave regs =
    leave_bind (λ (n : ℕ). n < 2 ^ 32) (λ (x : ℕ × ℕ × ℕ). Unit {0}) (argument regs 1) (λ a. argument regs 2 >>= λ b. argument regs 3 >>= λ c. Gives (a, b, c)) (argument_leaves regs 1)
    (λ a x. leave_bind (λ (n : ℕ). n < 2 ^ 32) (λ (x : ℕ × ℕ × ℕ). Unit {0}) (argument regs 2) (λ b. argument regs 3 >>= λ c. Gives (a, b, c)) (argument_leaves regs 2)
    (λ b y. leave_bind (λ (n : ℕ). n < 2 ^ 32) (λ (x : ℕ × ℕ × ℕ). Unit {0}) (argument regs 3) (λ c. Gives (a, b, c)) (argument_leaves regs 3) (λ c z. tt)))

abbrev IsString : Option (List ℕ) → Type 0
IsString None = Unit {0}
IsString (Some string) = AreOctets string

abbrev AreAll : Option (List (List ℕ)) → Type 0
AreAll None = Unit {0}
AreAll (Some strings) = AreStrings strings

after_string : (byte : ℕ) (more : Program (Option (List ℕ))) → byte < 256 → AllLeave IsString more → AllLeave IsString (string_after byte more)
after_string zero more small h = tt
after_string (suc n) more small h = leave_bind IsString IsString more (λ string. Gives (before (suc n) string)) h go
  where
    go : (string : Option (List ℕ)) → IsString string → IsString (before (suc n) string)
    go None k = tt
    go (Some string) k = (small, k)

string_leaves : (left address : ℕ) → AllLeave IsString (string_from left address)
unfolding string_from
string_leaves zero address = tt
string_leaves (suc left) address = λ byte small. after_string byte (string_from left (past address 1)) small (string_leaves left (past address 1))

before_strings : (more : Program (Option (List (List ℕ)))) → AllLeave AreAll more → (string : Option (List ℕ)) → IsString string
    → AllLeave AreAll (string_before more string)
before_strings more h None k = tt
before_strings more h (Some string) k = leave_bind AreAll AreAll more (λ strings. Gives (before string strings)) h go
  where
    go : (strings : Option (List (List ℕ))) → AreAll strings → AreAll (before string strings)
    go None m = tt
    go (Some strings) m = (k, m)

pointer_leaves : (pointer : ℕ) (more : Program (Option (List (List ℕ)))) → AllLeave AreAll more → AllLeave AreAll (pointer_after pointer more)
pointer_leaves zero more h = tt
pointer_leaves (suc n) more h = leave_bind IsString AreAll (string_from string_limit (suc n)) (string_before more) (string_leaves string_limit (suc n)) (before_strings more h)

last_leaves : (pointer : ℕ) → AllLeave AreAll (last_pointer pointer)
last_leaves zero = tt
last_leaves (suc n) = tt

arguments_leave : (left address : ℕ) → AllLeave AreAll (arguments_from left address)
unfolding arguments_from
arguments_leave zero address = leave_bind (λ (n : ℕ). n < 2 ^ 32) AreAll (number_at 4 address) last_pointer (number_small 4 address) (λ n k. last_leaves n)
arguments_leave (suc left) address =
    leave_bind (λ (n : ℕ). n < 2 ^ 32) AreAll (number_at 4 address) (λ pointer. pointer_after pointer (arguments_from left (past address 4))) (number_small 4 address)
    (λ n k. pointer_leaves n (arguments_from left (past address 4)) (arguments_leave left (past address 4)))

all_arguments : (argv : ℕ) → AllLeave AreAll (arguments_at argv)
all_arguments zero = tt
all_arguments (suc n) = arguments_leave argument_limit (suc n)

-- The calls.

child_keeps : (b : Bool) (regs : Regs) (child : ℕ) (change : Change) → child < 2 ^ 32 → ChangeFits change → AreRegs regs
    → ReplyKeeps (child_by b regs child change)
child_keeps true regs child change small fits h = (let r = results_are regs child 0 small (omega arith) h in record { count = r.count; each = r.each }, fits)
child_keeps false regs child change small fits h = omega arith

bytes_long : (count address : ℕ) → AllLeave (λ (bs : List ℕ). length bs ≡ count) (bytes_from count address)
unfolding bytes_from
bytes_long zero address = refl
bytes_long (suc count) address = λ byte small.
    leave_bind (λ (bs : List ℕ). length bs ≡ count) (λ (bs : List ℕ). length bs ≡ suc count) (bytes_from count (past address 1)) (λ more. Gives (byte ∷ more))
    (bytes_long count (past address 1)) (λ bs e. ap suc e)

written_keeps : (b : Bool) (buffer count : ℕ) → AllLeave ReplyKeeps (written_to b buffer count)
unfolding written_to
written_keeps true buffer count =
    leave_bind (λ (bs : List ℕ). length bs ≡ min count write_limit) ReplyKeeps (bytes_from (min count write_limit) buffer) (λ x. Gives (Writes x)) (bytes_long (min count write_limit) buffer)
    (λ bs e. let small : min count 1024 ≤ 1024 = omega arith in omega (arith, e, small))
written_keeps false buffer count = omega arith

break_keeps : (b : Bool) (regs : Regs) (x y : ℕ) → AreRegs regs → ReplyKeeps (break_by b regs x y)
break_keeps true regs x y h = (let r = regs_set regs 0 0 (omega arith) h in record { count = r.count; each = r.each }, tt)
break_keeps false regs x y h = omega arith

named_enters : (images : List NamedImage) (number : ℕ) (name : List ℕ) (found : ℕ × NamedImage) → image_named number images name ≡ Some found
    → AllImages images → ImageFits found.1
unfolding image_named
named_enters [] number name found e h = absurd cc
named_enters (image ∷ images) number name found e h = go (λ k. named_enters images (suc number) name found k h.1) (bytes_eq image.name name) e
  where
    go : (image_named (suc number) images name ≡ Some found → ImageFits found.1) → (b : Bool) → numbered_by b number image (image_named (suc number) images name) ≡ Some found → ImageFits found.1
    go later true k = let same : (number, image) ≡ found = cc in subst (λ (x : ℕ × NamedImage). ImageFits x.1) same h.0
    go later false k = later k

starts_keeps : (found : ℕ × NamedImage) (arguments : Option (List (List ℕ))) → ImageFits found.1 → AreAll arguments → ReplyKeeps (starts found arguments)
starts_keeps found None fits a = omega arith
starts_keeps found (Some arguments) fits a = (start_are found.1.image.facts.entry arguments fits.entry, start_page_octets arguments a)

execve_keeps : (argv : ℕ) (found : Option (ℕ × NamedImage)) → ((x : ℕ × NamedImage) → found ≡ Some x → ImageFits x.1)
    → AllLeave ReplyKeeps (execve_of argv found)
execve_keeps argv None h = omega arith
execve_keeps argv (Some found) h =
    leave_bind AreAll ReplyKeeps (arguments_at argv) (λ arguments. Gives (starts found arguments)) (all_arguments argv) (λ arguments k. starts_keeps found arguments (h found refl) k)

path_keeps : (images : List NamedImage) (argv : ℕ) (path : Option (List ℕ)) → AllImages images → AllLeave ReplyKeeps (execve_of argv (path_image images path))
path_keeps images argv None h = execve_keeps argv None (λ x e. absurd cc)
path_keeps images argv (Some name) h = execve_keeps argv (image_named 1 images name) (λ x e. named_enters images 1 name x e h)

-- a process that a test finds has a number below the next one
found_below : (test : Process → Bool) (ps : List Process) (n : ℕ) (p : Process) → find test ps ≡ Some p → AllBelow n (map (λ (q : Process). q.pid) ps)
    → p.pid < n
found_below test [] n p e h = absurd cc
found_below test (q ∷ ps) n p e h = go (λ k. found_below test ps n p k h.1) (test q) e
  where
    go : (find test ps ≡ Some p → p.pid < n) → (b : Bool) → cond b (Some q) (find test ps) ≡ Some p → p.pid < n
    go later true k = let same : q ≡ p = cc in subst (λ (r : Process). r.pid < n) same h.0
    go later false k = later k

found_lower : (test : Process → Bool) (ps : List Process) (p : Process) → find test ps ≡ Some p → AllLower ps → p.parent < p.pid
found_lower test [] p e h = absurd cc
found_lower test (q ∷ ps) p e h = go (λ k. found_lower test ps p k h.1) (test q) e
  where
    go : (find test ps ≡ Some p → p.parent < p.pid) → (b : Bool) → cond b (Some q) (find test ps) ≡ Some p → p.parent < p.pid
    go later true k = let same : q ≡ p = cc in subst (λ (r : Process). r.parent < r.pid) same h.0
    go later false k = later k

status_small : (held : Holding) → HeldFits held → status_of held < 2 ^ 32
status_small (Zombie status) k = k
status_small _ k = omega arith

wait_keeps : (F : FlatState) (pid : ℕ) (regs : Regs) → ProcessesFit F.processes → AllBelow (2 ^ 32) (pids_of F) → AreRegs regs
    → ReplyKeeps (wait_reply F pid regs)
wait_keeps F pid regs all low h = go (find (λ q. q.parent == pid) F.processes) (find (is_zombie_child pid) F.processes) refl
  where
    go : (child zombie : Option Process) → find (is_zombie_child pid) F.processes ≡ zombie → ReplyKeeps (wait_by child zombie regs)
    go None zombie e = omega arith
    go (Some child) None e = tt
    go (Some child) (Some z) e =
        let now = found_regs (is_zombie_child pid) F.processes z e all in (
          let r = results_are regs z.pid (status_of z.holding) (found_below (is_zombie_child pid) F.processes
              (2 ^ 32) z e low) (status_small z.holding now.1) h in record { count = r.count; each = r.each },
          tt,
        )

-- what the reply of a call may leave in registers is longwords
pub record RepliesFit (images : List NamedImage) (F : FlatState) (p : Process) : Type 0 where
  pub every : AllImages images
  pub regs : ProcessesFit F.processes
  pub numbers : AllBelow (2 ^ 32) (pids_of F)
  pub next : F.next_pid < 2 ^ 32
  pub own : p.pid < 2 ^ 32
  pub parent : p.parent < 2 ^ 32

all_keep : (images : List NamedImage) (F : FlatState) (p : Process) (s : Space) (call : SystemCall) (regs : Regs) → RepliesFit images F p
    → AreRegs regs → AllLeave ReplyKeeps (reply_of images F p s call regs)
unfolding reply_of exit_reply write_reply break_reply execve_reply
all_keep images F p s calls.Exit regs f h = leave_bind (λ (n : ℕ). n < 2 ^ 32) ReplyKeeps (argument regs 1) (λ code. Gives (Exits (code % 256 * 256))) (argument_leaves regs 1) (λ code k. omega arith)
all_keep images F p s calls.Fork regs f h = child_keeps (nat_lt (length F.processes) process_limit) regs F.next_pid (Fork F.next_pid) f.next tt h
all_keep images F p s calls.Write regs f h =
    leave_bind (λ (x : ℕ × ℕ × ℕ). Unit {0}) ReplyKeeps (three_arguments regs) (λ asked. written_to (asked.0 == 1 || asked.0 == 2) asked.1 asked.2) (three_leave regs)
    (λ asked k. written_keeps (asked.0 == 1 || asked.0 == 2) asked.1 asked.2)
all_keep images F p s calls.Break regs f h =
    leave_bind (λ (n : ℕ). n < 2 ^ 32) ReplyKeeps (argument regs 1) (λ address. Gives (break_by (nat_le (pages_up_to s address) data_limit) regs (pages_up_to s address) (stack_pages_of s)))
    (argument_leaves regs 1)
    (λ address k. break_keeps (nat_le (pages_up_to s address) data_limit) regs (pages_up_to s address) (stack_pages_of s) h)
all_keep images F p s calls.Getpid regs f h = (let r = results_are regs p.pid p.parent f.own f.parent h in record { count = r.count; each = r.each }, tt)
all_keep images F p s calls.Execve regs f h =
    leave_bind (λ (x : ℕ × ℕ × ℕ). Unit {0}) ReplyKeeps (three_arguments regs) (λ asked. string_from string_limit asked.0 >>= λ path. execve_of asked.1 (path_image images path)) (three_leave regs)
    (λ asked k. leave_bind IsString ReplyKeeps (string_from string_limit asked.0) (λ path. execve_of asked.1 (path_image images path)) (string_leaves string_limit asked.0)
    (λ path m. path_keeps images asked.1 path f.every))
all_keep images F p s calls.Vfork regs f h = child_keeps (nat_lt (length F.processes) process_limit) regs F.next_pid (Lend F.next_pid) f.next tt h
all_keep images F p s calls.Wait regs f h = wait_keeps F p.pid regs f.regs f.numbers h

refused_keeps : (refused : Bool) (reply : Reply) → ReplyKeeps reply → ReplyKeeps (refused_reply refused reply)
refused_keeps false reply h = h
refused_keeps true (Does regs change) h = go (wants_space change)
  where
    go : (b : Bool) → ReplyKeeps (unless_refused b (Does regs change))
    go true = omega arith
    go false = h
refused_keeps true (Fails error) h = h
refused_keeps true (Writes bytes) h = h
refused_keeps true Waits h = tt
refused_keeps true (Exits status) h = h

pub reply_keeps : (images : List NamedImage) (F : FlatState) (memory : Answers) (p : Process) (s : Space) (call : SystemCall) (regs : Regs) (refused : Bool)
    → ((address byte : ℕ) → memory.read address ≡ bytes.Is byte → byte < 256) → RepliesFit images F p → AreRegs regs
    → ReplyKeeps (refused_reply refused (or_fault (run memory (reply_of images F p s call regs))))
reply_keeps images F memory p s call regs refused small f h =
    refused_keeps refused (or_fault (run memory (reply_of images F p s call regs)))
    (run_keeps memory (reply_of images F p s call regs) small (all_keep images F p s call regs f h))

-- Steps.

-- bytes that are written make no process
pub next_written : (F : FlatState) (pid : ℕ) (writes : List ByteWrite) → (apply_writes F pid writes).next_pid ≡ F.next_pid
unfolding apply_writes
next_written F pid writes = go (process_of F pid)
  where
    by : (p : Process) (held : Holding) → (wrote_by F p writes held).next_pid ≡ F.next_pid
    by p (Holds s) = refl
    by p (Lends sid child) = refl
    by p (Zombie status) = refl

    go : (o : Option Process) → (wrote_if F writes o).next_pid ≡ F.next_pid
    go None = refl
    go (Some p) = by p p.holding

below_more : (n m : ℕ) (xs : List ℕ) → n ≤ m → AllBelow n xs → AllBelow m xs
below_more n m [] le h = tt
below_more n m (x ∷ xs) le h = ((let k = h.0 in omega (arith, le, k)), below_more n m xs le h.1)

fits_written : (images : List NamedImage) (F : FlatState) (p q : Process) (ws : List ByteWrite) → AreWritten ws → q.pid ≡ p.pid → q.parent ≡ p.parent
    → RepliesFit images F p → RepliesFit images (apply_writes F p.pid ws) q
fits_written images F p q ws w same above f = record {
  every = f.every;
  regs = writes_regs F p.pid ws w f.regs;
  numbers = subst (λ (ns : List ℕ). AllBelow (2 ^ 32) ns) (sym (pids_written F p.pid ws)) f.numbers;
  next = subst (λ (n : ℕ). n < 2 ^ 32) (sym (next_written F p.pid ws)) f.next;
  own = subst (λ (n : ℕ). n < 2 ^ 32) (sym same) f.own;
  parent = subst (λ (n : ℕ). n < 2 ^ 32) (sym above) f.parent;
}

after_regs : (images : List NamedImage) (F : FlatState) (p : Process) (ws : List ByteWrite) (regs : Regs) (change : Change) → AreWritten ws
    → RepliesFit images F p → AreRegs regs → ChangeFits change
    → ProcessesFit (apply_change images (apply_writes F p.pid ws) p.pid regs change).processes
after_regs images F p ws regs change w f h fits = change_regs images (apply_writes F p.pid ws) p.pid regs change f.every h f.own fits (writes_regs F p.pid ws w f.regs)

replied_are : (regs : Regs) (carry : Bool) (r0 : ℕ) → r0 < 2 ^ 32 → AreRegs regs → AreRegs (replied regs carry r0)
replied_are regs carry r0 small h = let r = regs_set regs 0 r0 small h in record { count = r.count; each = r.each }

replied_regs : (images : List NamedImage) (F : FlatState) (p : Process) (call : SystemCall) (effect : Effect) (reply : Reply) → RepliesFit images F p
    → AreRegs p.regs → EffectFits effect → ReplyKeeps reply
    → ProcessesFit (replied_step images F p call effect reply).after.processes
replied_regs images F p call effect (Fails error) f was h k = after_regs images F p effect.writes _ Keep h.1 f (replied_are effect.regs true error k h.0) tt
replied_regs images F p call effect (Does regs change) f was h k = after_regs images F p effect.writes regs change h.1 f k.0 k.1
replied_regs images F p call effect (Writes bytes) f was h k = after_regs images F p effect.writes _ Keep h.1 f (replied_are effect.regs false (length bytes) k h.0) tt
replied_regs images F p call effect Waits f was h k = after_regs images F p effect.writes p.regs Sleep h.1 f was tt
replied_regs images F p call effect (Exits status) f was h k = after_regs images F p effect.writes p.regs (End status) h.1 f was k

-- what a space answers are bytes
pub answers_small : (s : Space) → HasOctets s → (address byte : ℕ) → (answers_of s).read address ≡ bytes.Is byte → byte < 256
answers_small s o address byte e = go (address_in s address) e
  where
    same : (a b : ℕ) → bytes.Is a ≡ bytes.Is b → a ≡ b
    same a b k = cc

    go : (spot : Spot) → byte_at s spot ≡ bytes.Is byte → byte < 256
    go (spots.Text i) k = subst (λ (n : ℕ). n < 256) (same (slice_index s.text_bytes i) byte k) (index_octets s.text_bytes i o.text)
    go (spots.Data i) k = subst (λ (n : ℕ). n < 256) (same (slice_index s.data_bytes i) byte k) (index_octets s.data_bytes i o.data)
    go (spots.Stack i) k = subst (λ (n : ℕ). n < 256) (same (slice_index s.stack_bytes i) byte k) (index_octets s.stack_bytes i o.stack)
    go spots.Below k = absurd cc
    go spots.Outside k = absurd cc

module _ (images : List NamedImage) (F : FlatState) (p : Process) (t : Space) where
  called_regs : (refused : Bool) (effect : Effect) (call : Option SystemCall) → HasOctets t → RepliesFit images F p → AreRegs p.regs → EffectFits effect
      → ProcessesFit (called_step images F p t refused effect call).after.processes
  called_regs refused effect None o f was h = after_regs images F p effect.writes p.regs (End 12) h.1 f was (omega arith)
  called_regs refused effect (Some call) o f was h =
      replied_regs images F p call effect (reply_behind images F p t refused call effect) f was h
      (reply_keeps images (apply_writes F p.pid effect.writes) (answers_of (puts t effect.writes)) (written_process p t effect.writes) (puts t effect.writes) call effect.regs refused
      (answers_small (puts t effect.writes) (puts_octets effect.writes t h.1 o))
      (fits_written images F p (written_process p t effect.writes) effect.writes h.1 refl refl f) h.0)

  behind_regs : (refused : Bool) (effect : Effect) (number : Option ℤ) → HasOctets t → RepliesFit images F p → AreRegs p.regs → EffectFits effect
      → ProcessesFit (step_behind images F p t refused effect number).after.processes
  behind_regs refused effect None o f was h = after_regs images F p effect.writes effect.regs Keep h.1 f h.0 tt
  behind_regs refused effect (Some number) o f was h = called_regs refused effect (call_of number) o f was h

  of_regs : (refused : Bool) (result : Result Effect Refusal) → HasOctets t → RepliesFit images F p → AreRegs p.regs → LeavesLongwords result
      → ProcessesFit (step_of images F p t refused result).after.processes
  of_regs refused (Ok effect) o f was h = behind_regs refused effect effect.call o f was h
  of_regs refused (Err (Miss a w)) o f was h = f.regs
  of_regs true (Err (Below a)) o f was h = after_regs images F p [] p.regs (End 11) tt f was (omega arith)
  of_regs false (Err (Below a)) o f was h = after_regs images F p [] p.regs _ tt f was tt
  of_regs refused (Err (Signal n)) o f was h = after_regs images F p [] p.regs (End n) tt f was h

pub step_regs : (A : Inputs) (F : FlatState) (pid : ℕ) (refused : Bool) → AllImages A.images → IsNumbered F → F.next_pid < 2 ^ 32 → ProcessesFit F.processes
    → ProcessesFit (flat_step A F pid refused).after.processes
unfolding flat_step
step_regs A F pid refused images own small h = go (process_of F pid) refl
  where
    fit : (p : Process) → process_of F pid ≡ Some p → RepliesFit A.images F p
    fit p e =
        let low : p.pid < F.next_pid = found_below (λ q. q.pid == pid) F.processes F.next_pid p e own.pids_below in
        let under : p.parent < p.pid = found_lower (λ q. q.pid == pid) F.processes p e own.parents in
        record {
          every = images;
          regs = h;
          numbers = below_more F.next_pid (2 ^ 32) (pids_of F) (omega (arith, small)) own.pids_below;
          next = small;
          own = omega (arith, low, small);
          parent = omega (arith, low, under, small);
        }

    by : (p : Process) → process_of F pid ≡ Some p → (held : Holding) → p.holding ≡ held → ProcessesFit (step_holding A.images F p refused held).after.processes
    by p e (Holds t) holds =
        let now = found_regs (λ q. q.pid == pid) F.processes p e h in
        let o : HasOctets t = subst HeldFits holds now.1 in
        of_regs A.images F p t refused (instruction_in t p.regs) o (fit p e) now.0 (leaves_longwords (answers_of t) p.regs (answers_small t o) now.0)
    by p e (Lends sid child) holds = h
    by p e (Zombie status) holds = h

    go : (o : Option Process) → process_of F pid ≡ o → ProcessesFit (step_if A.images F refused o).after.processes
    go None e = h
    go (Some p) e = by p e p.holding refl
