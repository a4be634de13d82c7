-- The execve of a step finds an image, and its stack page is a page.
use Rattle.std.proofs.Common.{◌≡◌, ℕ, zero, suc, ◌+◌, ◌-◌, ◌*◌, ◌<◌, ◌≤◌, ◌==◌, ◌||◌, nat_lt, nat_le, min, ◌%◌, Bool, true, false, List, [], ◌∷◌, ◌++◌, length, find, bytes_eq, replicate, Option, Some, None, Result, Ok, Err, ℤ, refl, sym, ap, ◌∙◌, arith, length-append}
use Rattle.std.specs.Prelude.{slice_get}
use Rattle.std.proofs.lemmas.List.{length-replicate}
use Rattle.flat_state.specs.Space.{Space, answers_of, puts}
use Rattle.flat_state.specs.Flat.{Holding, Holds, Lends, Zombie, Process, FlatState, NamedImage, Inputs, image_numbered, process_of, strings_of, argument_area, start_page}
use Rattle.vm_facts.specs.declared.regs.Regs.{Regs}
use Rattle.user_vax.specs.Effects.{Effect}
use Rattle.user_vax.specs.Program.{Program, Gives, ◌>>=◌, run}
use Rattle.user_vax.specs.Operands.{number_at}
use Rattle.user_vax.specs.declared.refused.Refused.{Refused}
use Rattle.user_vax.specs.declared.refused.Refused.TheVariants.{Miss, Below, Signal}
use Rattle.flat_state.specs.Change.{apply_writes, is_zombie_child}
use Rattle.flat_state.specs.declared.change.Change.TheVariants.{Fork, Lend}
use Rattle.flat_model.proofs.Strings.{area_count}
use Rattle.flat_model.specs.Instruction.{instruction_in}
use Rattle.flat_model.specs.declared.calls.Reply.{Reply}
use Rattle.flat_model.specs.declared.calls.Reply.TheVariants.{Does, Writes, Exits}
use Rattle.flat_model.specs.declared.calls.SystemCall.{SystemCall}
use Rattle.flat_model.specs.declared.calls.SystemCall.TheVariants as calls
use Rattle.flat_model.specs.Calls.{call_of, argument, three_arguments, bytes_from, before, string_after, string_from, string_before, last_pointer, pointer_after, arguments_from, arguments_at, argument_limit, string_limit, write_limit, data_limit, process_limit, child_by, written_to, break_by, pages_up_to, stack_pages_of, numbered_by, image_named, path_image, starts, execve_of, wait_by, reply_of, exit_reply, write_reply, break_reply, execve_reply, or_fault}
use Rattle.flat_model.specs.Step.{replied_step, reply_behind, called_step, step_behind, step_of, step_holding, step_if, flat_step, written_process}
use Rattle.kernel_model.specs.Invariant.{EntersImage}
use Rattle.flat_laws.proofs.Computations.{AllGives, gives_bind, gives_any, reply_gives, refused_gives}
use Rattle.run_laws.proofs.Acts.{ExecsFit}

-- Strings.

abbrev StringFits : ℕ → Option (List ℕ) → Type 0
StringFits left None = Unit {0}
StringFits left (Some string) = length string < left

string_fits : (left address : ℕ) → AllGives (StringFits left) (string_from left address)
unfolding string_from
string_fits zero address = tt
string_fits (suc left) address = λ byte. go byte (string_fits left (Rattle.user_vax.specs.Operands.past address 1))
  where
    one : (n : ℕ) (string : Option (List ℕ)) → StringFits left string → StringFits (suc left) (before (suc n) string)
    one n None h = tt
    one n (Some string) h = omega (arith, h)

    go : (byte : ℕ) → AllGives (StringFits left) (string_from left (Rattle.user_vax.specs.Operands.past address 1))
        → AllGives (StringFits (suc left)) (string_after byte (string_from left (Rattle.user_vax.specs.Operands.past address 1)))
    go zero h = omega arith
    go (suc n) h =
        gives_bind (StringFits left) (StringFits (suc left)) (string_from left (Rattle.user_vax.specs.Operands.past address 1)) (λ string. Gives (before (suc n) string)) h (λ string k. one n string k)

-- so many strings, each of at most 63 bytes
pub record AreFew (left : ℕ) (strings : List (List ℕ)) : Type 0 where
  pub few : length strings ≤ left
  pub short : length (strings_of strings) ≤ 64 * length strings

abbrev pub ListFits : ℕ → Option (List (List ℕ)) → Type 0
ListFits left None = Unit {0}
ListFits left (Some strings) = AreFew left strings

pub one_more : (left : ℕ) (string : List ℕ) (strings : List (List ℕ)) → length string < 64 → AreFew left strings → AreFew (suc left) (string ∷ strings)
one_more left string strings l h = record {
  few = let k = h.few in omega arith;
  short = let a = length-append (string ++ 0 ∷ []) (strings_of strings) in let b = length-append string (0 ∷ []) in let c = h.short in omega (arith, l);
}

list_fits : (left address : ℕ) → AllGives (ListFits left) (arguments_from left address)
unfolding arguments_from
list_fits zero address = gives_any (ListFits 0) (number_at 4 address) last_pointer last
  where
    last : (n : ℕ) → AllGives (ListFits 0) (last_pointer n)
    last zero = record { few = omega arith; short = omega arith }
    last (suc n) = tt
list_fits (suc left) address =
    gives_any (ListFits (suc left)) (number_at 4 address) (λ pointer. pointer_after pointer more) (λ pointer. go pointer (list_fits left (Rattle.user_vax.specs.Operands.past address 4)))
  where
    more : Program (Option (List (List ℕ)))
    more = arguments_from left (Rattle.user_vax.specs.Operands.past address 4)

    behind : (string : List ℕ) → length string < 64 → (strings : Option (List (List ℕ))) → ListFits left strings → ListFits (suc left) (before string strings)
    behind string l None h = tt
    behind string l (Some strings) h = one_more left string strings l h

    after : AllGives (ListFits left) more → (string : Option (List ℕ)) → StringFits string_limit string → AllGives (ListFits (suc left)) (string_before more string)
    after h None k = tt
    after h (Some string) k =
        gives_bind (ListFits left) (ListFits (suc left)) more (λ strings. Gives (before string strings)) h (behind string (let l : length string < string_limit = k in omega (arith, l)))

    go : (pointer : ℕ) → AllGives (ListFits left) more → AllGives (ListFits (suc left)) (pointer_after pointer more)
    go zero h = record { few = omega arith; short = omega arith }
    go (suc n) h = gives_bind (StringFits string_limit) (ListFits (suc left)) (string_from string_limit (suc n)) (string_before more) (string_fits string_limit (suc n)) (after h)

pub at_fits : (address : ℕ) → AllGives (ListFits 8) (arguments_at address)
at_fits zero = record { few = omega arith; short = omega arith }
at_fits (suc n) = list_fits argument_limit (suc n)

pub page_whole : (arguments : List (List ℕ)) → AreFew 8 arguments → length (start_page arguments) ≡ 1024
page_whole arguments h =
    let a = area_count arguments in
    let f = h.few in
    let s = h.short in
    let l : length (argument_area arguments) ≤ 1024 = omega arith in
    let b = length-append (replicate {A = ℕ} (1024 - length (argument_area arguments)) 0) (argument_area arguments) in
    let c = length-replicate {A = ℕ} (1024 - length (argument_area arguments)) 0 in
    omega arith

-- Images.

pair_is : (a b : ℕ × NamedImage) → Some a ≡ Some b → a ≡ b
pair_is a b e = cc

image_found : (images : List NamedImage) (k : ℕ) (name : List ℕ) (found : ℕ × NamedImage) → image_named (suc k) images name ≡ Some found
    → (j : ℕ) × (found.0 ≡ suc (k + j)) × (slice_get images j ≡ Some found.1)
unfolding image_named
image_found [] k name found e = absurd cc
image_found (x ∷ images) k name found e = go (bytes_eq x.name name) (image_found images (suc k) name found) e
  where
    go : (b : Bool) → (image_named (suc (suc k)) images name ≡ Some found → (j : ℕ) × (found.0 ≡ suc (suc k + j)) × (slice_get images j ≡ Some found.1))
        → numbered_by b (suc k) x (image_named (suc (suc k)) images name) ≡ Some found → (j : ℕ) × (found.0 ≡ suc (k + j)) × (slice_get (x ∷ images) j ≡ Some found.1)
    go true ih e = (
      0,
      (let n : found.0 ≡ suc k = ap (λ (y : ℕ × NamedImage). y.0) (sym (pair_is (suc k, x) found e)) in
          let z : found.0 ≡ suc (k + 0) = omega (arith, n) in z),
      ap (λ (y : ℕ × NamedImage). Some y.1) (pair_is (suc k, x) found e),
    )
    go false ih e = let r = ih e in (suc r.0, (let n = r.1 in let z : found.0 ≡ suc (k + suc r.0) = omega (arith, n) in z), r.2)

pub found_image : (images : List NamedImage) (path : Option (List ℕ)) (found : ℕ × NamedImage) → path_image images path ≡ Some found
    → image_numbered images found.0 ≡ Some found.1
found_image images None found e = absurd cc
found_image images (Some name) found e =
    let r = image_found images 0 name found e in
    ap (image_numbered images) (let n = r.1 in let z : found.0 ≡ suc r.0 = omega (arith, n) in z) ∙ r.2

-- Replies.

abbrev ReplyExecs : List NamedImage → Reply → Type 0
ReplyExecs images (Does regs change) = EntersImage images change
ReplyExecs images _ = Unit {0}

starts_execs : (images : List NamedImage) (found : ℕ × NamedImage) (arguments : Option (List (List ℕ))) → image_numbered images found.0 ≡ Some found.1
    → ListFits 8 arguments → ReplyExecs images (starts found arguments)
starts_execs images found None e h = tt
starts_execs images found (Some arguments) e h = (found.1, e, page_whole arguments h)

execve_execs : (images : List NamedImage) (argv : ℕ) (found : Option (ℕ × NamedImage))
    → ((x : ℕ × NamedImage) → found ≡ Some x → image_numbered images x.0 ≡ Some x.1) → AllGives (ReplyExecs images) (execve_of argv found)
execve_execs images argv None h = tt
execve_execs images argv (Some found) h =
    gives_bind (ListFits 8) (ReplyExecs images) (arguments_at argv) (λ arguments. Gives (starts found arguments)) (at_fits argv) (λ arguments k. starts_execs images found arguments (h found refl) k)

child_execs : (images : List NamedImage) (b : Bool) (regs : Regs) (child : ℕ)
    → ReplyExecs images (child_by b regs child (Fork child)) × ReplyExecs images (child_by b regs child (Lend child))
child_execs images true regs child = (tt, tt)
child_execs images false regs child = (tt, tt)

written_execs : (images : List NamedImage) (b : Bool) (buffer count : ℕ) → AllGives (ReplyExecs images) (written_to b buffer count)
unfolding written_to
written_execs images true buffer count = gives_any (ReplyExecs images) (bytes_from (min count write_limit) buffer) (λ x. Gives (Writes x)) (λ x. tt)
written_execs images false buffer count = tt

break_execs : (images : List NamedImage) (b : Bool) (regs : Regs) (x y : ℕ) → ReplyExecs images (break_by b regs x y)
break_execs images true regs x y = tt
break_execs images false regs x y = tt

wait_execs : (images : List NamedImage) (child zombie : Option Process) (regs : Regs) → ReplyExecs images (wait_by child zombie regs)
wait_execs images None zombie regs = tt
wait_execs images (Some child) None regs = tt
wait_execs images (Some child) (Some z) regs = tt

all_execs : (images : List NamedImage) (F : FlatState) (p : Process) (s : Space) (call : SystemCall) (regs : Regs)
    → AllGives (ReplyExecs images) (reply_of images F p s call regs)
unfolding reply_of exit_reply write_reply break_reply execve_reply
all_execs images F p s calls.Exit regs = gives_any (ReplyExecs images) (argument regs 1) (λ code. Gives (Exits (code % 256 * 256))) (λ code. tt)
all_execs images F p s calls.Fork regs = (child_execs images (nat_lt (length F.processes) process_limit) regs F.next_pid).0
all_execs images F p s calls.Write regs = gives_any (ReplyExecs images) (three_arguments regs) (λ asked. written_to (asked.0 == 1 || asked.0 == 2) asked.1 asked.2)
    (λ asked. written_execs images (asked.0 == 1 || asked.0 == 2) asked.1 asked.2)
all_execs images F p s calls.Break regs =
    gives_any (ReplyExecs images) (argument regs 1) (λ address. Gives (break_by (nat_le (pages_up_to s address) data_limit) regs (pages_up_to s address) (stack_pages_of s)))
    (λ address. break_execs images (nat_le (pages_up_to s address) data_limit) regs (pages_up_to s address) (stack_pages_of s))
all_execs images F p s calls.Getpid regs = tt
all_execs images F p s calls.Execve regs = gives_any (ReplyExecs images) (three_arguments regs) (λ asked. string_from string_limit asked.0 >>= λ path. execve_of asked.1 (path_image images path))
    (λ asked. gives_any (ReplyExecs images) (string_from string_limit asked.0) (λ path. execve_of asked.1 (path_image images path))
    (λ path. execve_execs images asked.1 (path_image images path) (λ x e. found_image images path x e)))
all_execs images F p s calls.Vfork regs = (child_execs images (nat_lt (length F.processes) process_limit) regs F.next_pid).1
all_execs images F p s calls.Wait regs = wait_execs images (find (λ q. q.parent == p.pid) F.processes) (find (is_zombie_child p.pid) F.processes) regs

-- Steps.

module _ (images : List NamedImage) (F : FlatState) (p : Process) where
  replied_execs : (call : SystemCall) (effect : Effect) (reply : Reply)
      → ReplyExecs images reply → EntersImage images (replied_step images F p call effect reply).change
  replied_execs call effect (Does regs change) h = h
  replied_execs call effect _ h = tt

  called_execs : (s : Space) (refused : Bool) (effect : Effect) (o : Option SystemCall) → EntersImage images (called_step images F p s refused effect o).change
  called_execs s refused effect None = tt
  called_execs s refused effect (Some call) = replied_execs call effect (reply_behind images F p s refused call effect)
      (refused_gives (ReplyExecs images) refused
      (or_fault (run (answers_of (puts s effect.writes)) (reply_of images (apply_writes F p.pid effect.writes) (written_process p s effect.writes) (puts s effect.writes) call effect.regs))) tt
      (reply_gives (ReplyExecs images) (answers_of (puts s effect.writes))
      (reply_of images (apply_writes F p.pid effect.writes) (written_process p s effect.writes) (puts s effect.writes) call effect.regs) tt
      (all_execs images (apply_writes F p.pid effect.writes) (written_process p s effect.writes) (puts s effect.writes) call effect.regs)))

  behind_execs : (s : Space) (refused : Bool) (effect : Effect) (o : Option ℤ) → EntersImage images (step_behind images F p s refused effect o).change
  behind_execs s refused effect None = tt
  behind_execs s refused effect (Some number) = called_execs s refused effect (call_of number)

  of_execs : (s : Space) (refused : Bool) (r : Result Effect Refused) → EntersImage images (step_of images F p s refused r).change
  of_execs s refused (Ok effect) = behind_execs s refused effect effect.call
  of_execs s refused (Err (Miss address write)) = tt
  of_execs s true (Err (Below address)) = tt
  of_execs s false (Err (Below address)) = tt
  of_execs s refused (Err (Signal number)) = tt

pub execs_fit : (A : Inputs) → ExecsFit A
unfolding flat_step
execs_fit A F pid refused = go (process_of F pid)
  where
    by : (p : Process) (h : Holding) → EntersImage A.images (step_holding A.images F p refused h).change
    by p (Holds s) = of_execs A.images F p s refused (instruction_in s p.regs)
    by p (Lends sid child) = tt
    by p (Zombie status) = tt

    go : (o : Option Process) → EntersImage A.images (step_if A.images F refused o).change
    go None = tt
    go (Some p) = by p p.holding
