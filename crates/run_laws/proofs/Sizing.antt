-- Spaces are at most as large, and processes as few, as the flat machine's rules say.
use Rattle.std.proofs.Common.{◌≡◌, ◌⊎◌, inl, inr, ℕ, suc, ◌+◌, ◌-◌, ◌*◌, ◌/◌, ◌%◌, ◌<◌, ◌≤◌, ◌==◌, ◌&&◌, ◌||◌, nat_lt, nat_le, not, cond, Bool, true, false, List, [], ◌∷◌, ◌++◌, length, map, filter, replicate, find, Option, Some, None, Result, Ok, Err, ℤ, refl, sym, ap, ◌∙◌, subst, arith, length-append}
use Rattle.std.proofs.lemmas.List.{length-replicate}
use Rattle.std.proofs.lemmas.Bool.{ltb-true, leb-true}
use Rattle.flat_state.proofs.Processes.{length-replaced, length-returned}
use Rattle.vm_facts.specs.Answers.{Answers, ByteWrite}
use Rattle.flat_state.specs.Space.{Space, stack_top, stack_reach, spot_by, spot_at, address_in, byte_at, may_write_at, answers_of, puts}
use Rattle.flat_state.specs.Flat.{Holding, Holds, Lends, Zombie, Process, FlatState, NamedImage, Inputs, image_numbered, process_of, argument_area, start_page, space_with, start_if, start_processes, start_state, spaces_of, space_held}
use Rattle.vm_facts.specs.declared.memory.ByteRead.{ByteRead}
use Rattle.vm_facts.specs.declared.memory.ByteRead.TheVariants as bytes
use Rattle.vm_facts.specs.declared.memory.MayWrite.{MayWrite}
use Rattle.vm_facts.specs.declared.memory.MayWrite.TheVariants as tests
use Rattle.vm_facts.specs.declared.regs.Regs.{Regs}
use Rattle.vm_facts.specs.declared.entry.Entry.{Entry}
use Rattle.user_vax.specs.Effects.{Effect}
use Rattle.user_vax.specs.Program.{Program, Gives, Reads, Tests, ◌>>=◌, run, after_read, after_test}
use Rattle.user_vax.specs.declared.refused.Refused.{Refused}
use Rattle.user_vax.specs.declared.refused.Refused.TheVariants.{Miss, Below, Signal}
use Rattle.flat_state.specs.declared.spot.Spot.{Spot}
use Rattle.flat_state.specs.declared.spot.Spot.TheVariants as spots
use Rattle.flat_state.specs.declared.change.Change.{Change}
use Rattle.flat_state.specs.declared.change.Change.TheVariants.{Keep, Resize, Fork, Lend, Exec, Reap, Sleep, End}
use Rattle.flat_state.specs.Change.{replaced, with_process, resized, child_of, lends_to, returned, returned_by, given_back, entered, is_zombie_child, without_parent, orphaned, awake, left, changed, changed_by, changed_if, apply_change, wrote_by, wrote_if, apply_writes}
use Rattle.page_model.specs.Pages.{SpacePages, numbered, data_in, stack_in}
use Rattle.page_model.specs.Placement.{space_number}
use Rattle.kernel_model.specs.Coupled.{Fits, SameTables}
use Rattle.kernel_model.specs.Sound.{DataFits}
use Rattle.kernel_model.specs.Start.{ImageFits, ImagesFit}
use Rattle.flat_state.proofs.SpaceLaws.{length-resized_bytes}
use Rattle.kernel_laws.proofs.Flat.Lists.{sid_of, held}
use Rattle.page_laws.proofs.Lists.Local.{none_some}
use Rattle.std.proofs.lemmas.Option.{same_Some}
use Rattle.flat_model.specs.declared.calls.Reply.{Reply}
use Rattle.flat_model.specs.declared.calls.Reply.TheVariants.{Does, Writes, Waits, Exits}
use Rattle.flat_model.specs.declared.calls.SystemCall.{SystemCall}
use Rattle.flat_model.specs.declared.calls.SystemCall.TheVariants as calls
use Rattle.flat_model.specs.Calls.{call_of, argument, three_arguments, bytes_from, string_from, arguments_at, exit_reply, child_by, written_to, write_reply, break_by, break_reply, pages_up_to, stack_pages_of, data_limit, path_image, starts, execve_of, execve_reply, wait_by, reply_of, or_fault, string_limit, write_limit, process_limit}
use Rattle.flat_model.specs.Instruction.{instruction_in}
use Rattle.flat_model.specs.Step.{pages_down_to, data_pages_of as data_pages_in, replied_step, reply_behind, called_step, step_behind, step_of, step_holding, step_if, flat_step, written_process}
use Rattle.flat_model.specs.Run.{Point, flat_run}
use Rattle.flat_model.proofs.Coming.{run_keeps}
use Rattle.run_model.specs.State.{State}
use Rattle.run_laws.specs.Standing.{EachProcess, Placed, machine_of}
use Rattle.kernel_model.specs.Invariant.{EntersImage}
use Rattle.run_laws.specs.Running.{IsRun, CanRun}
use Rattle.run_model.specs.Lawful.{Reaches, IsLawful}
use Rattle.run_laws.proofs.Wholes.{reached_run, reached_lawful}
use Rattle.run_laws.specs.Sized.{SpaceSized, HoldingSized, FlatSized, InputsSized, ChangeSized, PlaceSized}
use Rattle.run_laws.proofs.Writing.{SameSpace, puts_same}
use Rattle.run_laws.proofs.Texts.{each_replaced, each_left, each_mapped, each_last}
use Rattle.run_laws.proofs.Touching.{found_process}
use Rattle.flat_laws.proofs.Computations.{AllGives, gives_any, reply_gives, refused_gives}
use Rattle.run_laws.proofs.Execs.{execs_fit}

abbrev Sized : Process → Type 0
Sized q = HoldingSized q.holding

-- How many.

pub left_count : (test : Process → Bool) (ps : List Process) → length (filter test ps) ≤ length ps
left_count test [] = omega arith
left_count test (q ∷ ps) = go (test q) (left_count test ps)
  where
    go : (b : Bool) → length (filter test ps) ≤ length ps → length (cond b (q ∷ filter test ps) (filter test ps)) ≤ suc (length ps)
    go true ih = omega (arith, ih)
    go false ih = omega (arith, ih)

map_count : (f : Process → Process) (ps : List Process) → length (map f ps) ≡ length ps
map_count f [] = refl
map_count f (q ∷ ps) = ap suc (map_count f ps)

-- Changes.

sized_returned : (pid : ℕ) (s : Space) (ps : List Process) → SpaceSized s → EachProcess Sized ps → EachProcess Sized (returned pid s ps)
unfolding returned
sized_returned pid s [] t h = tt
sized_returned pid s (q ∷ ps) t h = go (lends_to pid q.holding) (sized_returned pid s ps t h.1)
  where
    go : (b : Bool) → EachProcess Sized (returned pid s ps) → EachProcess Sized (returned_by b s q ps (returned pid s ps))
    go true ih = (t, h.1)
    go false ih = (h.0, ih)

with_sized : (F : FlatState) (p : Process) → FlatSized F → Sized p → FlatSized (with_process F p)
with_sized F p h s = record { spaces = each_replaced Sized F.processes p h.spaces s; count = let e = length-replaced F.processes p in let c = h.count in omega arith }

left_sized : (b : Bool) (F : FlatState) (pid parent : ℕ) → FlatSized F → FlatSized (left b F pid parent)
left_sized true F pid parent h =
    record { spaces = each_left Sized (λ q. not (q.pid == pid)) F.processes h.spaces; count = let l = left_count (λ q. not (q.pid == pid)) F.processes in let c = h.count in omega arith }
left_sized false F pid parent h =
    record { spaces = each_mapped Sized (awake parent) F.processes (λ q k. k) h.spaces; count = let e = map_count (awake parent) F.processes in let c = h.count in omega arith }

more_sized : (F : FlatState) (ps : List Process) (p : Process) (n m : ℕ) → EachProcess Sized ps → length ps ≡ length F.processes
    → length F.processes < 64 → Sized p
    → FlatSized (record F { processes = ps ++ p ∷ []; next_pid = n; next_sid = m })
more_sized F ps p n m h e l s = record { spaces = each_last Sized ps p h s; count = let a = length-append ps (p ∷ []) in omega arith }

images_sized : (A : Inputs) → InputsSized A → ImagesFit A.images → (number : ℕ) (named : NamedImage) → image_numbered A.images number ≡ Some named
    → length named.image.data ≤ 1024 * 4096
images_sized A sz fit number named e =
    let i : ImageFits named = fit number named e in
    let d : DataFits named.image = i.«data» in
    let l = d.size in let m = sz.images number named e in omega arith

changed_sized : (A : Inputs) (F : FlatState) (p : Process) (s : Space) (change : Change) → InputsSized A → ImagesFit A.images
    → EntersImage A.images change → ChangeSized F change → p.holding ≡ Holds s
    → SpaceSized s → FlatSized F → FlatSized (changed A.images F p s change)
changed_sized A F p s Keep sz fit x c h t e = with_sized F p e (subst HoldingSized (sym h) t)
changed_sized A F p s (Resize d r) sz fit x c h t e = with_sized F (record p { holding = Holds (resized s d r) }) e (record {
  data_size = let l = length-resized_bytes d s.data_bytes in let k = c.0 in omega arith;
  stack_size = let l = length-resized_bytes r s.stack_bytes in let k = c.1 in omega arith;
})
changed_sized A F p s (Fork child) sz fit x c h t e =
    more_sized F (replaced F.processes p) (child_of p child (record s { sid = F.next_sid })) (F.next_pid + 1) (F.next_sid + 1)
    (each_replaced Sized F.processes p e.spaces (subst HoldingSized (sym h) t)) (length-replaced F.processes p) c (record { data_size = t.data_size; stack_size = t.stack_size })
changed_sized A F p s (Lend child) sz fit x c h t e =
    more_sized F (replaced F.processes (record p { holding = Lends s.sid child })) (child_of p child s) (F.next_pid + 1) F.next_sid
    (each_replaced Sized F.processes (record p { holding = Lends s.sid child }) e.spaces tt) (length-replaced F.processes (record p { holding = Lends s.sid child })) c t
changed_sized A F p s (Exec number top) sz fit (named, im, whole) c h t e = subst (λ (o : Option NamedImage). FlatSized (entered F p s number o top)) (sym im)
    (let w : FlatSized (with_process F (record p { holding = Holds (space_with F.next_sid number named.image top) })) =
    with_sized F (record p { holding = Holds (space_with F.next_sid number named.image top) }) e (record { data_size = images_sized A sz fit number named im; stack_size = omega (arith, whole) }) in
    record {
      spaces = sized_returned p.pid s (replaced F.processes (record p { holding = Holds (space_with F.next_sid number named.image top) })) t w.spaces;
      count = let a = length-returned p.pid s (replaced F.processes (record p { holding = Holds (space_with F.next_sid number named.image top) })) in let b = w.count in omega arith;
    })
changed_sized A F p s (Reap child) sz fit x c h t e =
    with_sized (record F { processes = filter (λ q. not (q.pid == child)) F.processes }) p (record {
      spaces = each_left Sized (λ q. not (q.pid == child)) F.processes e.spaces;
      count = let l = left_count (λ q. not (q.pid == child)) F.processes in let k = e.count in omega arith;
    }) (subst HoldingSized (sym h) t)
changed_sized A F p s Sleep sz fit x c h t e = with_sized F (record p { asleep = true }) e (subst HoldingSized (sym h) t)
changed_sized A F p s (End status) sz fit x c h t e =
    let w : FlatSized (with_process F (record p { holding = Zombie status })) = with_sized F (record p { holding = Zombie status }) e tt in
    let ps : List Process = returned p.pid s (replaced F.processes (record p { holding = Zombie status })) in
    left_sized (p.parent == 0) (orphaned (given_back (with_process F record p { holding = Zombie status }) p.pid s) p.pid) p.pid p.parent
    (record {
      spaces = each_mapped Sized (without_parent p.pid) (filter (λ q. not (is_zombie_child p.pid q)) ps) (λ q k. k)
          (each_left Sized (λ q. not (is_zombie_child p.pid q)) ps (sized_returned p.pid s (replaced F.processes (record p { holding = Zombie status })) t w.spaces));
      count = let a = map_count (without_parent p.pid) (filter (λ q. not (is_zombie_child p.pid q)) ps) in
          let b = left_count (λ q. not (is_zombie_child p.pid q)) ps in let d = length-returned p.pid s (replaced F.processes (record p { holding = Zombie status })) in let g = w.count in omega arith;
    })

-- Who writes.

written_sized : (F : FlatState) (p : Process) (s : Space) (ws : List ByteWrite) → SpaceSized s → FlatSized F
    → FlatSized (with_process F (record p { holding = Holds (puts s ws) }))
written_sized F p s ws t h = let z : SameSpace s (puts s ws) = puts_same ws s in
    with_sized F (record p { holding = Holds (puts s ws) }) h
    (record { data_size = let a = z.data_size in let b = t.data_size in omega arith; stack_size = let a = z.stack_size in let b = t.stack_size in omega arith })

-- a change of a process, whichever it is
change_sized : (A : Inputs) (F : FlatState) (pid : ℕ) (regs : Regs) (change : Change) → InputsSized A → ImagesFit A.images
    → EntersImage A.images change → ChangeSized F change → FlatSized F
    → FlatSized (apply_change A.images F pid regs change)
unfolding apply_change
change_sized A F pid regs change sz fit x c h = go (process_of F pid) refl
  where
    by : (p : Process) → process_of F pid ≡ Some p → (held : Holding) → p.holding ≡ held → FlatSized (changed_by A.images F (record p { regs = regs }) change held)
    by p f (Holds s) i = changed_sized A F (record p { regs = regs }) s change sz fit x c i (subst HoldingSized i (found_process Sized F.processes pid p h.spaces f)) h
    by p f (Lends sid child) i = h
    by p f (Zombie status) i = h

    go : (o : Option Process) → process_of F pid ≡ o → FlatSized (changed_if A.images F regs change o)
    go None f = h
    go (Some p) f = by p f p.holding refl

writes_sized : (F : FlatState) (pid : ℕ) (ws : List ByteWrite) → FlatSized F → FlatSized (apply_writes F pid ws)
unfolding apply_writes
writes_sized F pid ws h = go (process_of F pid) refl
  where
    by : (p : Process) → process_of F pid ≡ Some p → (held : Holding) → p.holding ≡ held → FlatSized (wrote_by F p ws held)
    by p f (Holds s) i = written_sized F p s ws (subst HoldingSized i (found_process Sized F.processes pid p h.spaces f)) h
    by p f (Lends sid child) i = h
    by p f (Zombie status) i = h

    go : (o : Option Process) → process_of F pid ≡ o → FlatSized (wrote_if F ws o)
    go None f = h
    go (Some p) f = by p f p.holding refl

-- Replies.

abbrev ReplySized : FlatState → Reply → Type 0
ReplySized F (Does regs change) = ChangeSized F change
ReplySized F _ = Unit {0}

child_sized : (F : FlatState) (b : Bool) (regs : Regs) (child : ℕ) → nat_lt (length F.processes) process_limit ≡ b
    → ReplySized F (child_by b regs child (Fork child)) × ReplySized F (child_by b regs child (Lend child))
child_sized F true regs child e = (ltb-true (length F.processes) 64 e, ltb-true (length F.processes) 64 e)
child_sized F false regs child e = (tt, tt)

written_to_sized : (F : FlatState) (b : Bool) (buffer count : ℕ) → AllGives (ReplySized F) (written_to b buffer count)
unfolding written_to
written_to_sized F true buffer count = gives_any (ReplySized F) (bytes_from (Rattle.std.proofs.Common.min count write_limit) buffer) (λ x. Gives (Writes x)) (λ x. tt)
written_to_sized F false buffer count = tt

break_sized : (F : FlatState) (regs : Regs) (x y : ℕ) → y ≤ 512 → (b : Bool) → nat_le x data_limit ≡ b → ReplySized F (break_by b regs x y)
break_sized F regs x y l true e = (leb-true x 4096 e, l)
break_sized F regs x y l false e = tt

starts_sized : (F : FlatState) (found : ℕ × NamedImage) (arguments : Option (List (List ℕ))) → ReplySized F (starts found arguments)
starts_sized F found None = tt
starts_sized F found (Some arguments) = tt

execve_sized : (F : FlatState) (argv : ℕ) (found : Option (ℕ × NamedImage)) → AllGives (ReplySized F) (execve_of argv found)
execve_sized F argv None = tt
execve_sized F argv (Some found) = gives_any (ReplySized F) (arguments_at argv) (λ arguments. Gives (starts found arguments)) (λ arguments. starts_sized F found arguments)

wait_sized : (F : FlatState) (child zombie : Option Process) (regs : Regs) → ReplySized F (wait_by child zombie regs)
wait_sized F None zombie regs = tt
wait_sized F (Some child) None regs = tt
wait_sized F (Some child) (Some z) regs = tt

stack_few : (s : Space) → SpaceSized s → stack_pages_of s ≤ 512
stack_few s t = let l = t.stack_size in omega arith

data_few : (s : Space) → SpaceSized s → data_pages_in s ≤ 4096
data_few s t = let l = t.data_size in omega arith

all_sized : (images : List NamedImage) (F : FlatState) (p : Process) (s : Space) (call : SystemCall) (regs : Regs) → SpaceSized s
    → AllGives (ReplySized F) (reply_of images F p s call regs)
unfolding reply_of exit_reply write_reply break_reply execve_reply
all_sized images F p s calls.Exit regs t = gives_any (ReplySized F) (argument regs 1) (λ code. Gives (Exits (code % 256 * 256))) (λ code. tt)
all_sized images F p s calls.Fork regs t = (child_sized F (nat_lt (length F.processes) process_limit) regs F.next_pid refl).0
all_sized images F p s calls.Write regs t =
    gives_any (ReplySized F) (three_arguments regs) (λ asked. written_to (asked.0 == 1 || asked.0 == 2) asked.1 asked.2) (λ asked. written_to_sized F (asked.0 == 1 || asked.0 == 2) asked.1 asked.2)
all_sized images F p s calls.Break regs t =
    gives_any (ReplySized F) (argument regs 1) (λ address. Gives (break_by (nat_le (pages_up_to s address) data_limit) regs (pages_up_to s address) (stack_pages_of s)))
    (λ address. break_sized F regs (pages_up_to s address) (stack_pages_of s) (stack_few s t) (nat_le (pages_up_to s address) data_limit) refl)
all_sized images F p s calls.Getpid regs t = tt
all_sized images F p s calls.Execve regs t = gives_any (ReplySized F) (three_arguments regs) (λ asked. string_from string_limit asked.0 >>= λ path. execve_of asked.1 (path_image images path))
    (λ asked. gives_any (ReplySized F) (string_from string_limit asked.0) (λ path. execve_of asked.1 (path_image images path)) (λ path. execve_sized F asked.1 (path_image images path)))
all_sized images F p s calls.Vfork regs t = (child_sized F (nat_lt (length F.processes) process_limit) regs F.next_pid refl).1
all_sized images F p s calls.Wait regs t = wait_sized F (find (λ q. q.parent == p.pid) F.processes) (find (is_zombie_child p.pid) F.processes) regs

-- An access below the stack is within its reach.

below_or : {B : Type 0} (memory : Answers) (p : Program B) (a : ℕ) → run memory p ≡ Err (Below a)
    → (memory.read a ≡ bytes.Below) ⊎ (memory.may_write a ≡ tests.Below)
below_or memory (Reads b next) a e = go (λ byte k. below_or memory (next byte) a k) (memory.read b) refl e
  where
    go : ((byte : ℕ) → run memory (next byte) ≡ Err (Below a) → (memory.read a ≡ bytes.Below) ⊎ (memory.may_write a ≡ tests.Below)) → (x : ByteRead) → memory.read b ≡ x
        → after_read x b (λ byte. run memory (next byte)) ≡ Err (Below a) → (memory.read a ≡ bytes.Below) ⊎ (memory.may_write a ≡ tests.Below)
    go later (bytes.Is byte) i k = later byte k
    go later bytes.Miss i k = absurd cc
    go later bytes.Below i k = inl (let same : a ≡ b = cc in ap memory.read same ∙ i)
    go later bytes.Outside i k = absurd cc
below_or memory (Tests b next) a e = go (below_or memory next a) (memory.may_write b) refl e
  where
    go : (run memory next ≡ Err (Below a) → (memory.read a ≡ bytes.Below) ⊎ (memory.may_write a ≡ tests.Below)) → (x : MayWrite) → memory.may_write b ≡ x
        → after_test x b (run memory next) ≡ Err (Below a) → (memory.read a ≡ bytes.Below) ⊎ (memory.may_write a ≡ tests.Below)
    go later tests.May i k = later k
    go later tests.Miss i k = absurd cc
    go later tests.Below i k = inr (let same : a ≡ b = cc in ap memory.may_write same ∙ i)
    go later tests.Text i k = absurd cc
    go later tests.Outside i k = absurd cc
below_or memory _ a e = absurd cc

spot_below : (s : Space) (a : ℕ) → address_in s a ≡ spots.Below → (stack_top - stack_reach ≤ a) × (a < stack_top)
unfolding spot_at
spot_below s a e = both (nat_le (stack_top - stack_reach) a) (nat_lt a stack_top) refl refl (four (nat_lt a (length s.text_bytes)) (nat_lt a (length s.text_bytes + length s.data_bytes))
    (nat_le (stack_top - length s.stack_bytes) a && nat_lt a stack_top) (nat_le (stack_top - stack_reach) a && nat_lt a stack_top) e)
  where
    four : (t d k n : Bool) → spot_by t d k n (length s.text_bytes) a ≡ spots.Below → n ≡ true
    four true d k n e = absurd cc
    four false true k n e = absurd cc
    four false false true n e = absurd cc
    four false false false true e = refl
    four false false false false e = absurd cc

    both : (x y : Bool) → nat_le (stack_top - stack_reach) a ≡ x → nat_lt a stack_top ≡ y → (x && y) ≡ true → (stack_top - stack_reach ≤ a) × (a < stack_top)
    both true true i j k = (leb-true (stack_top - stack_reach) a i, ltb-true a stack_top j)
    both true false i j k = absurd cc
    both false y i j k = absurd cc

read_below : (s : Space) (x : Spot) → byte_at s x ≡ bytes.Below → x ≡ spots.Below
read_below s spots.Below e = refl
read_below s _ e = absurd cc

test_below : (x : Spot) → may_write_at x ≡ tests.Below → x ≡ spots.Below
test_below spots.Below e = refl
test_below _ e = absurd cc

reach_few : (a : ℕ) → 0x7fffec00 - 0x80000 ≤ a → a < 0x7fffec00 → (0x7fffec00 - 1 - a) / 1024 + 1 ≤ 512
reach_few a l m = omega arith

grown_few : (s : Space) (regs : Regs) (a : ℕ) → instruction_in s regs ≡ Err (Below a) → pages_down_to a ≤ 512
grown_few s regs a e =
    let is : address_in s a ≡ spots.Below = elim (below_or (answers_of s) (Rattle.user_vax.specs.Instruction.instruction regs) a e) [
      | inl r ↦ read_below s (address_in s a) r
      | inr t ↦ test_below (address_in s a) t
    ] in
    let x = spot_below s a is in reach_few a x.0 x.1

-- Steps.

with_step : (A : Inputs) (F : FlatState) (pid : ℕ) (ws : List ByteWrite) (regs : Regs) (change : Change) → InputsSized A → ImagesFit A.images
    → EntersImage A.images change
    → ChangeSized (apply_writes F pid ws) change → FlatSized F → FlatSized (apply_change A.images (apply_writes F pid ws) pid regs change)
with_step A F pid ws regs change sz fit x c h = change_sized A (apply_writes F pid ws) pid regs change sz fit x c (writes_sized F pid ws h)

replied_sized : (A : Inputs) (F : FlatState) (p : Process) (call : SystemCall) (effect : Effect) (reply : Reply) → InputsSized A → ImagesFit A.images
    → EntersImage A.images (replied_step A.images F p call effect reply).change → ReplySized (apply_writes F p.pid effect.writes) reply → FlatSized F
    → FlatSized (replied_step A.images F p call effect reply).after
replied_sized A F p call effect (Does regs change) sz fit x c h = with_step A F p.pid effect.writes regs change sz fit x c h
replied_sized A F p call effect Waits sz fit x c h = with_step A F p.pid effect.writes p.regs Sleep sz fit tt tt h
replied_sized A F p call effect (Exits status) sz fit x c h = with_step A F p.pid effect.writes p.regs (End status) sz fit tt tt h
replied_sized A F p call effect _ sz fit x c h = with_step A F p.pid effect.writes _ Keep sz fit tt tt h

called_sized : (A : Inputs) (F : FlatState) (p : Process) (s : Space) (refused : Bool) (effect : Effect) (o : Option SystemCall) → InputsSized A
    → ImagesFit A.images → SpaceSized s
    → EntersImage A.images (called_step A.images F p s refused effect o).change → FlatSized F → FlatSized (called_step A.images F p s refused effect o).after
called_sized A F p s refused effect None sz fit t x h = with_step A F p.pid effect.writes p.regs (End 12) sz fit tt tt h
called_sized A F p s refused effect (Some call) sz fit t x h =
    let z : SameSpace s (puts s effect.writes) = puts_same effect.writes s in
    let t1 : SpaceSized (puts s effect.writes) =
    record { data_size = let a = z.data_size in let b = t.data_size in omega arith; stack_size = let a = z.stack_size in let b = t.stack_size in omega arith } in
    replied_sized A F p call effect (reply_behind A.images F p s refused call effect) sz fit x
    (refused_gives (ReplySized (apply_writes F p.pid effect.writes)) refused
    (or_fault (run (answers_of (puts s effect.writes)) (reply_of A.images (apply_writes F p.pid effect.writes) (written_process p s effect.writes) (puts s effect.writes) call effect.regs))) tt
    (reply_gives (ReplySized (apply_writes F p.pid effect.writes)) (answers_of (puts s effect.writes))
    (reply_of A.images (apply_writes F p.pid effect.writes) (written_process p s effect.writes) (puts s effect.writes) call effect.regs) tt
    (all_sized A.images (apply_writes F p.pid effect.writes) (written_process p s effect.writes) (puts s effect.writes) call effect.regs t1))) h

behind_sized : (A : Inputs) (F : FlatState) (p : Process) (s : Space) (refused : Bool) (effect : Effect) (o : Option ℤ) → InputsSized A
    → ImagesFit A.images → SpaceSized s
    → EntersImage A.images (step_behind A.images F p s refused effect o).change → FlatSized F → FlatSized (step_behind A.images F p s refused effect o).after
behind_sized A F p s refused effect None sz fit t x h = with_step A F p.pid effect.writes effect.regs Keep sz fit tt tt h
behind_sized A F p s refused effect (Some number) sz fit t x h = called_sized A F p s refused effect (call_of number) sz fit t x h

of_sized : (A : Inputs) (F : FlatState) (p : Process) (s : Space) (refused : Bool) (r : Result Effect Refused) → instruction_in s p.regs ≡ r
    → InputsSized A → ImagesFit A.images → SpaceSized s
    → EntersImage A.images (step_of A.images F p s refused r).change → FlatSized F → FlatSized (step_of A.images F p s refused r).after
of_sized A F p s refused (Ok effect) e sz fit t x h = behind_sized A F p s refused effect effect.call sz fit t x h
of_sized A F p s refused (Err (Miss address write)) e sz fit t x h = h
of_sized A F p s true (Err (Below address)) e sz fit t x h = with_step A F p.pid [] p.regs (End 11) sz fit tt tt h
of_sized A F p s false (Err (Below address)) e sz fit t x h = with_step A F p.pid [] p.regs (Resize (data_pages_in s) (pages_down_to address)) sz fit tt (data_few s t, grown_few s p.regs address e) h
of_sized A F p s refused (Err (Signal number)) e sz fit t x h = with_step A F p.pid [] p.regs (End number) sz fit tt tt h

pub step_sized : (A : Inputs) (F : FlatState) (pid : ℕ) (refused : Bool) → InputsSized A → ImagesFit A.images → FlatSized F
    → FlatSized (flat_step A F pid refused).after
unfolding flat_step
step_sized A F pid refused sz fit h = go (process_of F pid) refl (execs_fit A F pid refused)
  where
    by : (p : Process) → process_of F pid ≡ Some p → (x : Holding) → p.holding ≡ x → EntersImage A.images (step_holding A.images F p refused x).change
        → FlatSized (step_holding A.images F p refused x).after
    by p f (Holds s) i x = of_sized A F p s refused (instruction_in s p.regs) refl sz fit (subst HoldingSized i (found_process Sized F.processes pid p h.spaces f)) x h
    by p f (Lends sid child) i x = h
    by p f (Zombie status) i x = h

    go : (o : Option Process) → process_of F pid ≡ o → EntersImage A.images (step_if A.images F refused o).change → FlatSized (step_if A.images F refused o).after
    go None f x = h
    go (Some p) f x = by p f p.holding refl x

-- The start.

started_sized : (A : Inputs) (pid : ℕ) (ns : List ℕ) → InputsSized A → ImagesFit A.images → EachProcess Sized (start_processes A.images pid ns)
started_sized A pid [] sz fit = tt
started_sized A pid (n ∷ ns) sz fit = go (image_numbered A.images n) refl (started_sized A (pid + 1) ns sz fit)
  where
    whole : (named : NamedImage) → length (argument_area (named.name ∷ [])) ≤ 1024 → length (start_page (named.name ∷ [])) ≡ 1024
    whole named l = length-append (replicate (1024 - length (argument_area (named.name ∷ []))) 0) (argument_area (named.name ∷ []))
        ∙ (let e = length-replicate {A = ℕ} (1024 - length (argument_area (named.name ∷ []))) 0 in omega arith)

    go : (o : Option NamedImage) → image_numbered A.images n ≡ o → EachProcess Sized (start_processes A.images (pid + 1) ns)
        → EachProcess Sized (start_if pid n o ++ start_processes A.images (pid + 1) ns)
    go None e ih = ih
    go (Some named) e ih = (record { data_size = images_sized A sz fit n named e; stack_size = (let i : ImageFits named = fit n named e in let l = whole named i.name in omega arith) }, ih)

pub started_few : (images : List NamedImage) (pid : ℕ) (ns : List ℕ) → length (start_processes images pid ns) ≤ length ns
started_few images pid [] = omega arith
started_few images pid (n ∷ ns) = go (image_numbered images n) (started_few images (pid + 1) ns)
  where
    go : (o : Option NamedImage) → length (start_processes images (pid + 1) ns) ≤ length ns → length (start_if pid n o ++ start_processes images (pid + 1) ns) ≤ suc (length ns)
    go None ih = omega (arith, ih)
    go (Some named) ih = omega (arith, ih)

pub start_sized : (A : Inputs) → InputsSized A → ImagesFit A.images → FlatSized (start_state A)
start_sized A sz fit = record { spaces = started_sized A 1 A.first sz fit; count = let l = started_few A.images 1 A.first in let m = sz.first in omega arith }

-- Runs.

pub run_is_sized : (A : Inputs) (journal : List Entry) (point : Point) → InputsSized A → ImagesFit A.images → flat_run A journal ≡ Some point
    → FlatSized point.flat
run_is_sized A journal point sz fit h =
    run_keeps FlatSized A journal point (λ F pid refused k. step_sized A F pid refused sz fit k) (start_sized A sz fit) h

-- Placements.

held_sized : (ps : List Process) (sid : ℕ) (s : Space) → EachProcess Sized ps → numbered sid_of sid (held ps) ≡ Some s → SpaceSized s
held_sized [] sid s h e = none_some s e
held_sized (q ∷ ps) sid s h e = go q.holding h.0 e (held_sized ps sid s h.1)
  where
    one : (x : Space) (b : Bool) → SpaceSized x → cond b (Some x) (numbered sid_of sid (held ps)) ≡ Some s → (numbered sid_of sid (held ps) ≡ Some s → SpaceSized s) → SpaceSized s
    one x true t e later = subst SpaceSized (same_Some x s e) t
    one x false t e later = later e

    go : (x : Holding) → HoldingSized x → numbered sid_of sid (space_held x ++ held ps) ≡ Some s → (numbered sid_of sid (held ps) ≡ Some s → SpaceSized s) → SpaceSized s
    go (Holds x) t e later = one x (x.sid == sid) t e later
    go (Lends m child) t e later = later e
    go (Zombie status) t e later = later e

pub place_sized : (A : Inputs) (s : State) → IsRun A s → FlatSized s.point.flat → PlaceSized s.place
place_sized A s r h sid =
    let st : Placed A s.point.flat s.place s.holdings = r.placed in
    let t : SameTables (machine_of s.point.flat s.place s.holdings) s.point.flat = st.tables in
    go (numbered sid_of sid (spaces_of s.point.flat)) (numbered space_number sid s.place.spaces) refl refl (t.spaces sid)
  where
    go : (o : Option Space) (x : Option SpacePages) → numbered sid_of sid (spaces_of s.point.flat) ≡ o → numbered space_number sid s.place.spaces ≡ x → Fits o x
        → (length (data_in (numbered space_number sid s.place.spaces)) ≤ 4096) × (length (stack_in (numbered space_number sid s.place.spaces)) ≤ 512)
    go None None e i f = subst (λ (y : Option SpacePages). (length (data_in y) ≤ 4096) × (length (stack_in y) ≤ 512)) (sym i) (omega arith, omega arith)
    go (Some z) (Some x) e i f =
        let w : SpaceSized z = held_sized s.point.flat.processes sid z h.spaces e in
        subst (λ (y : Option SpacePages). (length (data_in y) ≤ 4096) × (length (stack_in y) ≤ 512)) (sym i)
        ((let a = f.data_size in let b = w.data_size in omega arith), (let a = f.stack_size in let b = w.stack_size in omega arith))
    go None (Some x) e i f = absurd f
    go (Some z) None e i f = absurd f

pub reached_sized : (A : Inputs) (hs : Rattle.swap_book.specs.Holdings.Holdings) (journal : List Entry) (s : State) → CanRun A hs → InputsSized A
    → Reaches A journal s → FlatSized s.point.flat × PlaceSized s.place
reached_sized A hs journal s c sz r =
    let l : IsLawful A journal s = reached_lawful A hs journal s c r in
    let h : FlatSized s.point.flat = run_is_sized A journal s.point sz c.images l.flat in
    (h, place_sized A s (reached_run A hs journal s c r) h)
