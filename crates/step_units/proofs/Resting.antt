-- What is left of a step after the entry that began it, by what the instruction of its process comes to over the frames.
use Rattle.std.proofs.Common.{◌≡◌, ◌⊎◌, inl, inr, ℕ, ◌≤◌, ◌==◌, ◌*◌, ◌%◌, nat_lt, nat_le, Bool, true, false, List, [], ◌∷◌, find, length, Option, Some, None, Result, Ok, Err, ℤ, refl, sym, ap, ◌∙◌, subst}
use Rattle.std.specs.Prelude.{if◌then◌else◌}
use Rattle.vm_facts.specs.SwapImages.{SwapImage}
use Rattle.vm_facts.specs.Answers.{Answers}
use Rattle.vm_facts.specs.declared.entry.Entry.{Entry}
use Rattle.vm_facts.specs.declared.entry.Entry.TheVariants as entries
use Rattle.vm_facts.specs.declared.regs.Regs.{Regs}
use Rattle.user_vax.specs.Program.{Gives, run}
use Rattle.user_vax.specs.Effects.{Effect}
use Rattle.user_vax.specs.Instruction.{instruction}
use Rattle.user_vax.specs.declared.refused.Refused.{Refused}
use Rattle.user_vax.specs.declared.refused.Refused.TheVariants.{Miss, Below, Signal}
use Rattle.swap_book.specs.Placing.{place_all}
use Rattle.page_model.specs.Place.{facts_of}
use Rattle.flat_state.specs.Space.{Space}
use Rattle.flat_state.specs.Flat.{Holding, Holds, Lends, Zombie, Process, FlatState, NamedImage, Inputs, process_of, ready_if, holds_space}
use Rattle.flat_state.specs.Change.{is_zombie_child}
use Rattle.flat_state.specs.declared.change.Change.{Change}
use Rattle.flat_state.specs.declared.change.Change.TheVariants as changes
use Rattle.flat_model.specs.declared.calls.Reply.{Reply}
use Rattle.flat_model.specs.declared.calls.Reply.TheVariants.{Fails, Does, Writes, Waits, Exits}
use Rattle.flat_model.specs.declared.calls.SystemCall.{SystemCall}
use Rattle.flat_model.specs.declared.calls.SystemCall.TheVariants as system_calls
use Rattle.flat_model.specs.Calls.{argument, exit_reply, child_by, break_by, break_reply, pages_up_to, stack_pages_of, data_limit, process_limit, write_limit, wait_by, execve_reply, reply_of, call_of, or_fault, refused_reply, unless_refused, wants_space, no_memory, replied}
use Rattle.flat_model.specs.Step.{Step, flat_step, step_of, step_behind, called_step as step_called, replied_step, reply_asked, call_entry}
use Rattle.flat_model.specs.Run.{step_at, due}
use Rattle.flat_model.specs.Asked.{change_wanted, wanted_in, wanted_if, asks_by, asks}
use Rattle.kernel_model.specs.Asks.{asked}
use Rattle.kernel_model.specs.ChangeStep.{change_step}
use Rattle.kernel_model.specs.Kernel.{Kernel}
use Rattle.kernel_laws.proofs.Machine.Swaps.{found_at}
use Rattle.machine_state.specs.Machine.{Standing}
use Rattle.machine_state.specs.UserMemory.{kernel_answers}
use Rattle.machine_state.specs.Applying.{facts_named}
use Rattle.proc_calls.proofs.Writes.{may_write}
use Rattle.run_model.specs.State.{State}
use Rattle.run_model.specs.Wanted.{wanted}
use Rattle.run_model.specs.Kinds.{ProcessRuns}
use Rattle.run_model.specs.Act.{LastSays}
use Rattle.run_model.proofs.Wanting.{splits_wanted}
use Rattle.run_laws.specs.Flowing.{Awaits, WaitsBy}
use Rattle.run_laws.specs.Shown.{IsCallOf}
use Rattle.run_units.specs.Serving.{At}
use Rattle.run_units.specs.Stepping.{PassesNone}
use Rattle.run_units.specs.Touching.{RunsInSpace, WantsPage, MakesNone, IsWhole, IsReadyFor, IsAnswered, IsCalledFor}
use Rattle.run_laws.proofs.Computations.{AllGives, gives_any, run_gives}
use Rattle.run_laws.proofs.Flows.{on_steps}
use Rattle.run_units.proofs.Instructing.{hit_ready, miss_wanted, call_ready, call_wanted}
use Rattle.run_units.proofs.Stepping.{step_known, none_asked}
use Rattle.step_units.specs.Machines.{MakesCall}
use Rattle.step_units.specs.Rests.{ReplyRests, EndRests, SentRests, RefusedRests, RestIsMade, RestStops}
use Rattle.step_units.proofs.Begun.{is_refused_by, refused_due, out_due, out_unrefused, begins_refused, goes_on_behind, none_lost}
use Rattle.step_units.proofs.Behind.{StepWaits, KeepsDue, running_same, wanted_same}
use Rattle.step_units.proofs.Entering.{complete_leads, entered, stopped_before}
use Rattle.step_units.proofs.Executing.{IsStart, exec_replies}
use Rattle.step_units.proofs.Replying.{asked_here, called_on, called_step, refused_step}

-- What the instruction comes to, where the process waits for no page.

-- none of the eight calls, or one of them; and over the flat memory the same
data Known (A : Inputs) (s : State) (m : Standing) (p : Process) (x : Space) : Type 0 where
  Whole : (y : Result Effect Refused) → run (kernel_answers m.kernel x.sid) (instruction p.regs) ≡ y → IsWhole y → IsReadyFor A s p x y → Known A s m p x
  Called : (effect : Effect) (call : SystemCall) (r : Result Reply Refused) → MakesCall m p x effect call
      → run (kernel_answers m.kernel x.sid) (reply_asked A.images s.point.flat p x call effect) ≡ r → IsCalledFor A s p x call effect r → Known A s m p x

never_wanted : (A : Inputs) (s : State) (k : Kernel) (x : Space) (address : ℕ) (write : Bool) → s.place.due ≡ [] → wanted A s ≡ None
    → WantsPage A s k x address write → ⊥
never_wanted A s k x address write clear none w =
    let some : wanted A s ≡ Some w.page = splits_wanted A s w.before w.page clear (record { behind = w.rest; whole = w.touched; valid = w.valid; absent = w.absent }) in
    let no : None ≡ Some w.page = sym none ∙ some in cc

module _ (A : Inputs) (s : State) (m : Standing) (image : SwapImage) (pid : ℕ) (now : Bool) (p : Process) (x : Space) (at : At A s m.kernel image) (i : RunsInSpace A s pid now p x)
    (none : wanted A s ≡ None) where
  abbrev memory : Answers
  memory = kernel_answers m.kernel x.sid

  whole : (y : Result Effect Refused) → run memory (instruction p.regs) ≡ y → IsWhole y → Known A s m p x
  whole y e w = Whole y e w (subst (IsReadyFor A s p x) e (hit_ready A s m.kernel image pid now p x at i (subst IsWhole (sym e) w)))

  module _ (effect : Effect) (e : run memory (instruction p.regs) ≡ Ok effect) where
    module _ (call : SystemCall) (names : IsCallOf effect call) where
      abbrev read_by : Result Reply Refused
      read_by = run memory (reply_asked A.images s.point.flat p x call effect)

      answered : (r : Result Reply Refused) → read_by ≡ r → IsAnswered r → Known A s m p x
      answered r k a =
          Called effect call r (record { made = e; names = names }) k
          (subst (IsCalledFor A s p x call effect) k (call_ready A s m.kernel image pid now p x effect call at i e names (subst IsAnswered (sym k) a)))

      replies : (r : Result Reply Refused) → read_by ≡ r → Known A s m p x
      replies (Err (Miss address write)) k =
          absurd (never_wanted A s m.kernel x address write i.runs.clear none (call_wanted A s m.kernel image pid now p x effect call address write at i e names k))
      replies (Err (Below address)) k = answered (Err (Below address)) k tt
      replies (Err (Signal number)) k = answered (Err (Signal number)) k tt
      replies (Ok reply) k = answered (Ok reply) k tt

    named : (number : ℤ) → effect.call ≡ Some number → (o : Option SystemCall) → call_of number ≡ o → Known A s m p x
    named number c None n = whole (Ok effect) e (subst (λ (o : Option ℤ). MakesNone o) (sym c) n)
    named number c (Some call) n =
        let names : IsCallOf effect call = record { number = number; is_number = c; names = n } in
        replies call names (read_by call names) refl

    calls : (o : Option ℤ) → effect.call ≡ o → Known A s m p x
    calls None c = whole (Ok effect) e (subst (λ (o : Option ℤ). MakesNone o) (sym c) tt)
    calls (Some number) c = named number c (call_of number) refl

  comes : (y : Result Effect Refused) → run memory (instruction p.regs) ≡ y → Known A s m p x
  comes (Err (Miss address write)) e =
      absurd (never_wanted A s m.kernel x address write i.runs.clear none (miss_wanted A s m.kernel image pid now p x address write at i e))
  comes (Err (Below address)) e = whole (Err (Below address)) e tt
  comes (Err (Signal number)) e = whole (Err (Signal number)) e tt
  comes (Ok effect) e = calls effect e effect.call refl

  known : Known A s m p x
  known = comes (run memory (instruction p.regs)) refl

-- The process that runs.

runs_there : (A : Inputs) (s : State) (pid : ℕ) (now : Bool) → ProcessRuns A s pid now → (p : Process) × (x : Space) × RunsInSpace A s pid now p x
runs_there A s pid now r = go (process_of s.point.flat pid) refl (on_steps A s s.mark pid now r.on)
  where
    held : (p : Process) → process_of s.point.flat pid ≡ Some p → (a : Bool) (h : Holding) → p.holding ≡ h → (if a then false else holds_space h) ≡ true
        → (q : Process) × (x : Space) × RunsInSpace A s pid now q x
    held p e true h k c = absurd cc
    held p e false (Holds x) k c = (p, x, record { runs = r; here = e; holds = k })
    held p e false (Lends sid child) k c = absurd cc
    held p e false (Zombie status) k c = absurd cc

    go : (o : Option Process) → process_of s.point.flat pid ≡ o → ready_if o ≡ true → (q : Process) × (x : Space) × RunsInSpace A s pid now q x
    go None e c = absurd cc
    go (Some p) e c = held p e p.asleep p.holding refl c

-- Its step, as it was before it was begun.

module _ (A : Inputs) (s : State) (pid : ℕ) (now : Bool) (p : Process) (x : Space) (i : RunsInSpace A s pid now p x) where
  -- the same state between two steps
  abbrev afresh : State
  afresh = record s { point = record s.point { last = Some (entries.Sleeps pid) } }

  waits : StepWaits A s (entries.Sleeps pid) afresh
  waits = record { count = refl; lines = refl; mark = refl; place = refl; holdings = refl; flat = refl; last = refl }

  running_afresh : RunsInSpace A afresh pid now p x
  running_afresh = running_same A s afresh (entries.Sleeps pid) pid now p x waits i

  unwanted_afresh : wanted A s ≡ None → wanted A afresh ≡ None
  unwanted_afresh w = wanted_same A s afresh (entries.Sleeps pid) i.runs.clear waits ∙ w

  first_whole : (y : Result Effect Refused) → IsReadyFor A s p x y → flat_step A s.point.flat pid false ≡ step_of A.images s.point.flat p x false y
  first_whole y ready = step_known A afresh pid now p x y running_afresh (record { unwanted = unwanted_afresh ready.unwanted; same = ready.same })

  first_called : (effect : Effect) (call : SystemCall) (r : Result Reply Refused) → IsCallOf effect call → IsCalledFor A s p x call effect r
      → flat_step A s.point.flat pid false ≡ replied_step A.images s.point.flat p call effect (or_fault r)
  first_called effect call r names c =
      called_step A afresh pid now p x effect call r running_afresh tt names (called_on A s afresh p x effect call r refl (unwanted_afresh c.unwanted) c)

  -- what it asks for
  asked_first : asks A s.point.flat pid ≡ change_wanted A.images s.point.flat x (flat_step A s.point.flat pid false).change
  unfolding asks
  asked_first =
      let change : Change = (flat_step A s.point.flat pid false).change in
      ap (λ (b : Bool). asks_by b A s.point.flat pid) (on_steps A s s.mark pid now i.runs.on) ∙ ap (wanted_if A.images s.point.flat change) i.here
      ∙ ap (wanted_in A.images s.point.flat change) i.holds

  own_number : p.pid ≡ pid
  own_number = (found_at s.point.flat pid p i.here).0

-- After a refusal.

space_wanted : (images : List NamedImage) (F : FlatState) (x : Space) (change : Change) → (change_wanted images F x change ≡ [] → ⊥) → wants_space change ≡ true
space_wanted images F x changes.Keep w = absurd (w refl)
space_wanted images F x (changes.Resize data_pages stack_pages) w = refl
space_wanted images F x (changes.Fork child) w = refl
space_wanted images F x (changes.Lend child) w = refl
space_wanted images F x (changes.Exec number top) w = refl
space_wanted images F x (changes.Reap child) w = absurd (w refl)
space_wanted images F x changes.Sleep w = absurd (w refl)
space_wanted images F x (changes.End status) w = absurd (w refl)

-- a reply that asked for pieces fails
reply_fails : (images : List NamedImage) (F : FlatState) (p : Process) (x : Space) (call : SystemCall) (effect : Effect) (reply : Reply)
    → (change_wanted images F x (replied_step images F p call effect reply).change ≡ [] → ⊥) → refused_reply true reply ≡ Fails no_memory
reply_fails images F p x call effect (Fails error) w = absurd (w refl)
reply_fails images F p x call effect (Does regs change) w = ap (λ (b : Bool). unless_refused b (Does regs change)) (space_wanted images F x change w)
reply_fails images F p x call effect (Writes bytes) w = absurd (w refl)
reply_fails images F p x call effect Waits w = absurd (w refl)
reply_fails images F p x call effect (Exits status) w = absurd (w refl)

module _ (A : Inputs) (s : State) (m : Standing) (image : SwapImage) (pid : ℕ) (now : Bool) (p : Process) (x : Space) (at : At A s m.kernel image) (i : RunsInSpace A s pid now p x)
    (l : s.point.last ≡ Some (entries.Refused pid)) (says : asks A s.point.flat pid ≡ [] → ⊥) where
  abbrev flat : FlatState
  flat = s.point.flat

  asks_some : (step : Step) → flat_step A flat pid false ≡ step → change_wanted A.images flat x step.change ≡ [] → ⊥
  asks_some step e z = says (asked_first A s pid now p x i ∙ ap (λ (y : Step). change_wanted A.images flat x y.change) e ∙ z)

  -- only a fall below the stack asks for pieces
  falls : (y : Result Effect Refused) → run (kernel_answers m.kernel x.sid) (instruction p.regs) ≡ y → IsWhole y → IsReadyFor A s p x y → EndRests A s m pid
  falls y e w ready = go y e w ready (asks_some (step_of A.images flat p x false y) (first_whole A s pid now p x i y ready))
    where
      effects : (effect : Effect) (o : Option ℤ) → effect.call ≡ o → MakesNone o
          → (change_wanted A.images flat x (step_behind A.images flat p x false effect effect.call).change ≡ [] → ⊥) → ⊥
      effects effect None c n h = h (ap (λ (o : Option ℤ). change_wanted A.images flat x (step_behind A.images flat p x false effect o).change) c)
      effects effect (Some number) c n h =
          h (ap (λ (o : Option ℤ). change_wanted A.images flat x (step_behind A.images flat p x false effect o).change) c
          ∙ ap (λ (o : Option SystemCall). change_wanted A.images flat x (step_called A.images flat p x false effect o).change) n)

      go : (y : Result Effect Refused) → run (kernel_answers m.kernel x.sid) (instruction p.regs) ≡ y → IsWhole y → IsReadyFor A s p x y
          → (change_wanted A.images flat x (step_of A.images flat p x false y).change ≡ [] → ⊥) → EndRests A s m pid
      go (Err (Miss address write)) e w ready h = absurd w
      go (Err (Signal number)) e w ready h = absurd (h refl)
      go (Ok effect) e w ready h = absurd (effects effect effect.call refl w h)
      go (Err (Below address)) e w ready h = record {
        now = now;
        process = p;
        space = x;
        address = address;
        running = i;
        below = e;
        ends = record {
          unwanted = ready.unwanted;
          step = step_known A s pid now p x (Err (Below address)) i ready ∙ ap (λ (b : Bool). step_of A.images flat p x b (Err (Below address))) (is_refused_by s.point.last pid l);
          begins = inr l;
        };
      }

  -- a call that asked for pieces fails
  fails : (effect : Effect) (call : SystemCall) (r : Result Reply Refused) → MakesCall m p x effect call → IsCalledFor A s p x call effect r → ReplyRests A s m pid true no_memory
  fails effect call r makes c =
      let reply : Regs = replied effect.regs true no_memory in
      let v : Entry = call_entry pid call reply in
      let step : Step = replied_step A.images flat p call effect (Fails no_memory) in
      let is : step_at A s.point pid ≡ step =
      refused_step A s pid now p x effect call r i l makes.names c
      ∙ ap (replied_step A.images flat p call effect)
      (reply_fails A.images flat p x call effect (or_fault r) (asks_some (replied_step A.images flat p call effect (or_fault r)) (first_called A s pid now p x i effect call r makes.names c))) in
      let first : step.entries ≡ v ∷ [] = ap (λ (n : ℕ). call_entry n call reply ∷ []) (own_number A s pid now p x i) in
      record {
        now = now;
        process = p;
        space = x;
        effect = effect;
        call = call;
        running = i;
        makes = makes;
        unwanted = c.unwanted;
        next = begins_refused A s pid now p x step v [] i l is first (none_lost A s pid now p x step i is refl);
        left = ap (λ (z : Step). due s.point.last pid z.entries) is ∙ ap (due s.point.last pid) first ∙ refused_due s.point.last pid (v ∷ []) l;
        writes = ap (λ (z : Step). z.writes) is ∙ c.writes;
        regs = ap (λ (z : Step). z.regs) is;
        keeps = ap (λ (z : Step). z.change) is;
      }

  by_known : Known A s m p x → ReplyRests A s m pid true no_memory ⊎ EndRests A s m pid
  by_known (Whole y e w ready) = inr (falls y e w ready)
  by_known (Called effect call r makes k c) = inl (fails effect call r makes c)

pub refused_rests : RefusedRests
refused_rests A s m holds image pid h l =
    let awaits : Awaits A s pid = subst (WaitsBy A s) l h.at.run.flows.waits in
    let t = runs_there A s pid awaits.now awaits.runs in
    by_known A s m image pid awaits.now t.0 t.1 h.at t.2 l (subst (LastSays A s.point.flat) l h.at.run.flows.says)
    (known A s m image pid awaits.now t.0 t.1 h.at t.2 awaits.unwanted)

-- After bytes that went out.

-- no bytes are written
abbrev IsSilent : Reply → Type 0
IsSilent (Writes bytes) = ⊥
IsSilent _ = Unit {0}

silent_child : (b : Bool) (regs : Regs) (child : ℕ) (change : Change) → IsSilent (child_by b regs child change)
silent_child true regs child change = tt
silent_child false regs child change = tt

silent_exit : (regs : Regs) → AllGives IsSilent (exit_reply regs)
unfolding exit_reply
silent_exit regs = gives_any IsSilent (argument regs 1) (λ code. Gives (Exits (code % 256 * 256))) (λ code. tt)

silent_break : (x : Space) (regs : Regs) → AllGives IsSilent (break_reply x regs)
unfolding break_reply
silent_break x regs =
    gives_any IsSilent (argument regs 1) (λ address. Gives (break_by (nat_le (pages_up_to x address) data_limit) regs (pages_up_to x address) (stack_pages_of x)))
    (λ address. by (nat_le (pages_up_to x address) data_limit) (pages_up_to x address))
  where
    by : (b : Bool) (pages : ℕ) → IsSilent (break_by b regs pages (stack_pages_of x))
    by true pages = tt
    by false pages = tt

silent_wait : (child zombie : Option Process) (regs : Regs) → IsSilent (wait_by child zombie regs)
silent_wait None zombie regs = tt
silent_wait (Some child) None regs = tt
silent_wait (Some child) (Some z) regs = tt

-- what is written is no more than one write may have
sent_few : (images : List NamedImage) (F : FlatState) (p : Process) (x : Space) (call : SystemCall) (regs : Regs) (memory : Answers) (bytes : List ℕ)
    → run memory (reply_of images F p x call regs) ≡ Ok (Writes bytes) → length bytes ≤ write_limit
unfolding reply_of
sent_few images F p x system_calls.Exit regs memory bytes e = absurd (run_gives IsSilent memory (exit_reply regs) (Writes bytes) (silent_exit regs) e)
sent_few images F p x system_calls.Fork regs memory bytes e =
    absurd (run_gives IsSilent memory (Gives (child_by (nat_lt (length F.processes) process_limit) regs F.next_pid (changes.Fork F.next_pid))) (Writes bytes)
    (silent_child (nat_lt (length F.processes) process_limit) regs F.next_pid (changes.Fork F.next_pid)) e)
sent_few images F p x system_calls.Write regs memory bytes e = may_write memory regs (Ok (Writes bytes)) (sym e)
sent_few images F p x system_calls.Break regs memory bytes e = absurd (run_gives IsSilent memory (break_reply x regs) (Writes bytes) (silent_break x regs) e)
sent_few images F p x system_calls.Getpid regs memory bytes e = absurd cc
sent_few images F p x system_calls.Execve regs memory bytes e = absurd (run_gives IsStart memory (execve_reply images regs) (Writes bytes) (exec_replies images regs) e)
sent_few images F p x system_calls.Vfork regs memory bytes e =
    absurd (run_gives IsSilent memory (Gives (child_by (nat_lt (length F.processes) process_limit) regs F.next_pid (changes.Lend F.next_pid))) (Writes bytes)
    (silent_child (nat_lt (length F.processes) process_limit) regs F.next_pid (changes.Lend F.next_pid)) e)
sent_few images F p x system_calls.Wait regs memory bytes e =
    absurd (run_gives IsSilent memory (Gives (wait_by (find (λ q. q.parent == p.pid) F.processes) (find (is_zombie_child p.pid) F.processes) regs)) (Writes bytes)
    (silent_wait (find (λ q. q.parent == p.pid) F.processes) (find (is_zombie_child p.pid) F.processes) regs) e)

-- a reply of which bytes go out writes them
out_writes : (images : List NamedImage) (F : FlatState) (p : Process) (call : SystemCall) (effect : Effect) (reply : Reply) (pid : ℕ)
    (bytes : List ℕ) (behind : List Entry)
    → (replied_step images F p call effect reply).entries ≡ entries.Out pid bytes ∷ behind
    → (byte : ℕ) × (more : List ℕ) × (reply ≡ Writes (byte ∷ more)) × (byte ∷ more ≡ bytes)
out_writes images F p call effect (Fails error) pid bytes behind e = absurd cc
out_writes images F p call effect (Does regs change) pid bytes behind e = absurd cc
out_writes images F p call effect (Writes []) pid bytes behind e = absurd cc
out_writes images F p call effect (Writes (byte ∷ more)) pid bytes behind e = (byte, more, refl, cc)
out_writes images F p call effect Waits pid bytes behind e = absurd cc
out_writes images F p call effect (Exits status) pid bytes behind e = absurd cc

-- which an instruction that makes no call doesn't
none_out : (images : List NamedImage) (F : FlatState) (p : Process) (x : Space) (y : Result Effect Refused) (pid : ℕ) (bytes : List ℕ)
    (behind : List Entry) → IsWhole y
    → (step_of images F p x false y).entries ≡ entries.Out pid bytes ∷ behind → ⊥
none_out images F p x (Err (Miss address write)) pid bytes behind w e = w
none_out images F p x (Err (Below address)) pid bytes behind w e = absurd cc
none_out images F p x (Err (Signal number)) pid bytes behind w e = absurd cc
none_out images F p x (Ok effect) pid bytes behind w e = go effect.call refl w e
  where
    go : (o : Option ℤ) → effect.call ≡ o → MakesNone o → (step_behind images F p x false effect o).entries ≡ entries.Out pid bytes ∷ behind → ⊥
    go None c n k = absurd cc
    go (Some number) c n k =
        let z : (step_called images F p x false effect None).entries ≡ entries.Out pid bytes ∷ behind =
        ap (λ (o : Option SystemCall). (step_called images F p x false effect o).entries) (sym n) ∙ k in absurd cc

written_read : (r : Result Reply Refused) (bytes : List ℕ) → or_fault r ≡ Writes bytes → r ≡ Ok (Writes bytes)
written_read (Ok reply) bytes e = ap (λ (y : Reply). let z : Result Reply Refused = Ok y in z) e
written_read (Err refused) bytes e = absurd cc

module _ (A : Inputs) (s : State) (m : Standing) (image : SwapImage) (pid : ℕ) (now : Bool) (p : Process) (x : Space) (at : At A s m.kernel image) (i : RunsInSpace A s pid now p x)
    (bytes : List ℕ) (l : s.point.last ≡ Some (entries.Out pid bytes)) (behind : List Entry) (says : (flat_step A s.point.flat pid false).entries ≡ entries.Out pid bytes ∷ behind) where
  -- the reply says how many bytes went out
  replies_sent : (effect : Effect) (call : SystemCall) (r : Result Reply Refused) (byte : ℕ) (more : List ℕ) → MakesCall m p x effect call → IsCalledFor A s p x call effect r
      → or_fault r ≡ Writes (byte ∷ more) → byte ∷ more ≡ bytes → ReplyRests A s m pid false (length bytes)
  replies_sent effect call r byte more makes c e same =
      let F : FlatState = s.point.flat in
      let sent : List ℕ = byte ∷ more in
      let reply : Regs = replied effect.regs false (length sent) in
      let o : Entry = entries.Out pid sent in
      let v : Entry = call_entry pid call reply in
      let step : Step = replied_step A.images F p call effect (Writes sent) in
      let is : step_at A s.point pid ≡ step =
      ap (flat_step A F pid) (out_unrefused s.point.last pid bytes l) ∙ first_called A s pid now p x i effect call r makes.names c ∙ ap (replied_step A.images F p call effect) e in
      let first : step.entries ≡ o ∷ v ∷ [] = ap (λ (n : ℕ). entries.Out n sent ∷ call_entry n call reply ∷ []) (own_number A s pid now p x i) in
      subst (λ (bs : List ℕ). ReplyRests A s m pid false (length bs)) same (record {
        now = now;
        process = p;
        space = x;
        effect = effect;
        call = call;
        running = i;
        makes = makes;
        unwanted = c.unwanted;
        next = goes_on_behind A s m.kernel image pid now p x step bytes o v [] m.kernel.holdings at i l is first (none_asked A.swap_blocks m.kernel).0 (none_lost A s pid now p x step i is refl);
        left = ap (λ (z : Step). due s.point.last pid z.entries) is ∙ ap (due s.point.last pid) first ∙ out_due s.point.last pid bytes o (v ∷ []) l;
        writes = ap (λ (z : Step). z.writes) is ∙ c.writes;
        regs = ap (λ (z : Step). z.regs) is;
        keeps = ap (λ (z : Step). z.change) is;
      })

  few : (effect : Effect) (call : SystemCall) (r : Result Reply Refused) (byte : ℕ) (more : List ℕ)
      → run (kernel_answers m.kernel x.sid) (reply_asked A.images s.point.flat p x call effect) ≡ r → IsCalledFor A s p x call effect r
      → or_fault r ≡ Writes (byte ∷ more) → byte ∷ more ≡ bytes → length bytes ≤ write_limit
  few effect call r byte more k c e same =
      subst (λ (bs : List ℕ). length bs ≤ write_limit) same
      (sent_few A.images s.point.flat p x call effect.regs (kernel_answers m.kernel x.sid) (byte ∷ more)
      (ap (run (kernel_answers m.kernel x.sid)) (sym (asked_here A s pid p x call effect i.here i.holds c.writes)) ∙ k ∙ written_read r (byte ∷ more) e))

  by_sent : Known A s m p x → ReplyRests A s m pid false (length bytes) × (length bytes ≤ write_limit)
  by_sent (Whole y e w ready) =
      absurd (none_out A.images s.point.flat p x y pid bytes behind w (ap (λ (z : Step). z.entries) (sym (first_whole A s pid now p x i y ready)) ∙ says))
  by_sent (Called effect call r makes k c) =
      let o = out_writes A.images s.point.flat p call effect (or_fault r) pid bytes behind (ap (λ (z : Step). z.entries) (sym (first_called A s pid now p x i effect call r makes.names c)) ∙ says) in
      (replies_sent effect call r o.0 o.1 makes c o.2 o.3, few effect call r o.0 o.1 k c o.2 o.3)

pub sent_rests : SentRests
sent_rests A s m holds image pid bytes h l =
    let awaits : Awaits A s pid = subst (WaitsBy A s) l h.at.run.flows.waits in
    let t = runs_there A s pid awaits.now awaits.runs in
    let says : LastSays A s.point.flat (Some (entries.Out pid bytes)) = subst (LastSays A s.point.flat) l h.at.run.flows.says in
    by_sent A s m image pid awaits.now t.0 t.1 h.at t.2 bytes l says.0 says.1 (known A s m image pid awaits.now t.0 t.1 h.at t.2 awaits.unwanted)

-- The rest is made, or the run stops before it.

pub rest_made : RestIsMade
rest_made A s old new holds image pid carry r0 h rest answer =
    let step : Step = step_at A s.point pid in
    let reply : Regs = replied rest.effect.regs carry r0 in
    let change : changes.Keep ≡ step.change = sym rest.keeps in
    complete_leads A s old.kernel new.kernel image pid (call_entry pid rest.call reply)
    (entered A s old new.kernel holds image pid rest.now rest.process rest.space step (call_entry pid rest.call reply) old.kernel.holdings h rest.running rest.unwanted rest.next refl rest.left refl
    rest.writes (subst PassesNone change tt) (subst KeepsDue change tt)
    (subst (λ (c : Change). place_all A.swap_blocks old.kernel.holdings (asked (facts_of A.images) old.kernel pid c) ≡ Ok old.kernel.holdings) change (none_asked A.swap_blocks old.kernel).0)
    (answer.step ∙ ap (λ (g : Regs). change_step (facts_named old.images) old.kernel pid g (call_entry pid rest.call reply) changes.Keep) (sym rest.regs)
    ∙ ap (change_step (facts_named old.images) old.kernel pid step.regs (call_entry pid rest.call reply)) change))

pub rest_stops : RestStops
rest_stops A s old new image pid carry r0 stop rest h =
    stopped_before A s old new image pid rest.now (call_entry pid rest.call (replied rest.effect.regs carry r0)) stop rest.running.runs rest.unwanted rest.next tt h
