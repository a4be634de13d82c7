-- A step of one process leaves what the others hold.
use Rattle.std.proofs.Common.{◌≡◌, ◌≢◌, ℕ, ◌==◌, Bool, true, false, not, List, [], find, Option, Some, None, Result, Ok, Err, ℤ, refl, sym, ap, ◌∙◌, subst, arith}
use Rattle.std.proofs.lemmas.Bool.Decides.{nat_tests}
use Rattle.std.proofs.lemmas.Bool.{eqb-true}
use Rattle.vm_facts.specs.Answers.{ByteWrite}
use Rattle.flat_state.specs.Space.{Space, answers_of, puts}
use Rattle.flat_state.specs.Flat.{Holding, Holds, Lends, Zombie, Process, FlatState, NamedImage, Inputs, image_numbered, process_of, space_with}
use Rattle.vm_facts.specs.declared.regs.Regs.{Regs}
use Rattle.user_vax.specs.Effects.{Effect}
use Rattle.user_vax.specs.declared.refused.Refused.{Refused}
use Rattle.user_vax.specs.declared.refused.Refused.TheVariants.{Miss, Below, Signal}
use Rattle.flat_state.specs.Change.{changed, changed_by, changed_if, apply_change, apply_writes, wrote_by, wrote_if, with_process, without_process, given_back, orphaned, left, entered, child_of, resized, without_parent, awake, is_zombie_child, NamesChild}
use Rattle.flat_state.specs.declared.change.Change.{Change}
use Rattle.flat_state.specs.declared.change.Change.TheVariants.{Keep, Resize, Fork, Lend, Exec, Reap, Sleep, End}
use Rattle.flat_model.specs.declared.calls.Reply.{Reply}
use Rattle.flat_model.specs.declared.calls.Reply.TheVariants as replies
use Rattle.flat_model.specs.declared.calls.SystemCall.{SystemCall}
use Rattle.flat_model.specs.Calls.{call_of}
use Rattle.flat_model.specs.Instruction.{instruction_in}
use Rattle.flat_model.specs.Step.{step_of, step_behind, called_step, replied_step, step_holding, step_if, flat_step, written_process, reply_behind}
use Rattle.flat_state.specs.Numbers.{AllDistinct, pids_of}
use Rattle.flat_laws.specs.Others.{HoldsStill}
use Rattle.flat_laws.proofs.Finding.{FoundHolding, found_replaced, found_returned, found_filtered, found_mapped, found_front, pids_replaced, holder_is_none, found_passes}
use Rattle.flat_laws.proofs.Replies.{ReplyFits, reply_fits}

-- the number of a process that is found by it
pub number_of_found : (qs : List Process) (pid : ℕ) (p : Process) → find (λ q. q.pid == pid) qs ≡ Some p → p.pid ≡ pid
number_of_found qs pid p h = eqb-true p.pid pid (found_passes (λ q. q.pid == pid) qs p h)

-- all but the processes of another number
pub without_stays : (qs : List Process) (of pid : ℕ) (s : Space) → of ≢ pid → FoundHolding qs pid s
    → FoundHolding (Rattle.std.specs.Prelude.filter (λ q. not (q.pid == of)) qs) pid s
without_stays qs of pid s other h =
    found_filtered (λ q. not (q.pid == of)) qs pid s (λ q holds k. let apart : (q.pid == of) ≡ false = (let is : q.pid ≡ pid = eqb-true q.pid pid k in grind (arith, nat_tests)) in ap not apart) h

-- Changes.

-- a zombie isn't one that holds a space
zombie_apart : (F : FlatState) (child pid : ℕ) (s : Space) → NamesChild F (Reap child) → FoundHolding F.processes pid s → child ≢ pid
zombie_apart F child pid s may found = λ same.
    let one : Some may.0 ≡ Some found.process = sym may.2 ∙ ap (λ (n : ℕ). process_of F n) same ∙ found.here in
    let it : may.0 ≡ found.process = cc in
    let held : Zombie may.1 ≡ Holds s = sym may.3 ∙ ap (λ (r : Process). r.holding) it ∙ found.holds in
    absurd cc

left_stays : (b : Bool) (F : FlatState) (of parent pid : ℕ) (s : Space) → of ≢ pid → FoundHolding F.processes pid s
    → FoundHolding (left b F of parent).processes pid s
left_stays true F of parent pid s other h = without_stays F.processes of pid s other h
left_stays false F of parent pid s other h = found_mapped (awake parent) F.processes pid s (λ q. refl) (λ q. refl) h

orphaned_stays : (F : FlatState) (of pid : ℕ) (s : Space) → FoundHolding F.processes pid s → FoundHolding (orphaned F of).processes pid s
orphaned_stays F of pid s h =
    found_mapped (without_parent of) (Rattle.std.specs.Prelude.filter (λ q. not (is_zombie_child of q)) F.processes) pid s (λ q. refl) (λ q. refl)
    (found_filtered (λ q. not (is_zombie_child of q)) F.processes pid s (λ q holds k. ap not (holder_is_none of q s holds)) h)

entered_stays : (F : FlatState) (p : Process) (t : Space) (image : ℕ) (named : Option NamedImage) (top : List ℕ) (pid : ℕ) (s : Space) → p.pid ≢ pid
    → FoundHolding F.processes pid s
    → FoundHolding (entered F p t image named top).processes pid s
entered_stays F p t image None top pid s other h = h
entered_stays F p t image (Some named) top pid s other h =
    found_returned p.pid t (with_process F record p { holding = Holds (space_with F.next_sid image named.image top) }).processes pid s
    (found_replaced F.processes (record p { holding = Holds (space_with F.next_sid image named.image top) }) pid s other h)

changed_stays : (images : List NamedImage) (F : FlatState) (p : Process) (t : Space) (change : Change) (pid : ℕ) (s : Space) → NamesChild F change
    → p.pid ≢ pid → FoundHolding F.processes pid s
    → FoundHolding (changed images F p t change).processes pid s
changed_stays images F p t Keep pid s fits other h = found_replaced F.processes p pid s other h
changed_stays images F p t (Resize a b) pid s fits other h = found_replaced F.processes (record p { holding = Holds (resized t a b) }) pid s other h
changed_stays images F p t (Fork child) pid s fits other h =
    found_front (with_process F p).processes (child_of p child (record t { sid = F.next_sid })) pid s (found_replaced F.processes p pid s other h)
changed_stays images F p t (Lend child) pid s fits other h =
    found_front (with_process F record p { holding = Lends t.sid child }).processes (child_of p child t) pid s
    (found_replaced F.processes (record p { holding = Lends t.sid child }) pid s other h)
changed_stays images F p t (Exec image top) pid s fits other h = entered_stays F p t image (image_numbered images image) top pid s other h
changed_stays images F p t (Reap child) pid s fits other h =
    found_replaced (without_process F child).processes p pid s other (without_stays F.processes child pid s (zombie_apart F child pid s fits h) h)
changed_stays images F p t Sleep pid s fits other h = found_replaced F.processes (record p { asleep = true }) pid s other h
changed_stays images F p t (End status) pid s fits other h =
    let dead : Process = record p { holding = Zombie status } in
    left_stays (p.parent == 0) (orphaned (given_back (with_process F dead) p.pid t) p.pid) p.pid p.parent pid s other
    (orphaned_stays (given_back (with_process F dead) p.pid t) p.pid pid s
    (found_returned p.pid t (with_process F dead).processes pid s (found_replaced F.processes dead pid s other h)))

change_stays : (images : List NamedImage) (F : FlatState) (of : ℕ) (regs : Regs) (change : Change) (pid : ℕ) (s : Space) → NamesChild F change
    → of ≢ pid → FoundHolding F.processes pid s
    → FoundHolding (apply_change images F of regs change).processes pid s
unfolding apply_change
change_stays images F of regs change pid s fits other h = go (process_of F of) refl
  where
    by : (p : Process) (held : Holding) → p.pid ≢ pid → FoundHolding (changed_by images F p change held).processes pid s
    by p (Holds t) apart = changed_stays images F p t change pid s fits apart h
    by p (Lends sid child) apart = h
    by p (Zombie status) apart = h

    go : (o : Option Process) → process_of F of ≡ o → FoundHolding (changed_if images F regs change o).processes pid s
    go None e = h
    go (Some p) e = by (record p { regs = regs }) p.holding (λ k. other (sym (number_of_found F.processes of p e) ∙ k))

-- Writes.

writes_stay : (F : FlatState) (of : ℕ) (ws : List ByteWrite) (pid : ℕ) (s : Space) → of ≢ pid → FoundHolding F.processes pid s
    → FoundHolding (apply_writes F of ws).processes pid s
unfolding apply_writes
writes_stay F of ws pid s other h = go (process_of F of) refl
  where
    by : (p : Process) (held : Holding) → p.pid ≢ pid → FoundHolding (wrote_by F p ws held).processes pid s
    by p (Holds t) apart = found_replaced F.processes (record p { holding = Holds (puts t ws) }) pid s apart h
    by p (Lends sid child) apart = h
    by p (Zombie status) apart = h

    go : (o : Option Process) → process_of F of ≡ o → FoundHolding (wrote_if F ws o).processes pid s
    go None e = h
    go (Some p) e = by p p.holding (λ k. other (sym (number_of_found F.processes of p e) ∙ k))

pub pids_written : (F : FlatState) (of : ℕ) (ws : List ByteWrite) → pids_of (apply_writes F of ws) ≡ pids_of F
unfolding apply_writes
pids_written F of ws = go (process_of F of)
  where
    by : (p : Process) (held : Holding) → pids_of (wrote_by F p ws held) ≡ pids_of F
    by p (Holds t) = pids_replaced F.processes (record p { holding = Holds (puts t ws) })
    by p (Lends sid child) = refl
    by p (Zombie status) = refl

    go : (o : Option Process) → pids_of (wrote_if F ws o) ≡ pids_of F
    go None = refl
    go (Some p) = by p p.holding

-- Steps.

module _ (images : List NamedImage) (F : FlatState) (p : Process) where
  with_stays : (ws : List ByteWrite) (regs : Regs) (change : Change) (pid : ℕ) (s : Space) → NamesChild (apply_writes F p.pid ws) change → p.pid ≢ pid
      → FoundHolding F.processes pid s → FoundHolding (apply_change images (apply_writes F p.pid ws) p.pid regs change).processes pid s
  with_stays ws regs change pid s fits other h =
      change_stays images (apply_writes F p.pid ws) p.pid regs change pid s fits other (writes_stay F p.pid ws pid s other h)

  replied_stays : (call : SystemCall) (effect : Effect) (reply : Reply) (pid : ℕ) (s : Space) → ReplyFits (apply_writes F p.pid effect.writes) reply
      → p.pid ≢ pid → FoundHolding F.processes pid s → FoundHolding (replied_step images F p call effect reply).after.processes pid s
  replied_stays call effect (replies.Does regs change) pid s fits other h = with_stays effect.writes regs change pid s fits other h
  replied_stays call effect replies.Waits pid s fits other h = with_stays effect.writes p.regs Sleep pid s tt other h
  replied_stays call effect (replies.Exits status) pid s fits other h = with_stays effect.writes p.regs (End status) pid s tt other h
  replied_stays call effect _ pid s fits other h = with_stays effect.writes _ Keep pid s tt other h

  called_stays : (t : Space) (refused : Bool) (effect : Effect) (call : Option SystemCall) (pid : ℕ) (s : Space) → AllDistinct (pids_of F) → p.pid ≢ pid
      → FoundHolding F.processes pid s → FoundHolding (called_step images F p t refused effect call).after.processes pid s
  called_stays t refused effect None pid s own other h = with_stays effect.writes p.regs (End 12) pid s tt other h
  called_stays t refused effect (Some call) pid s own other h =
      replied_stays call effect (reply_behind images F p t refused call effect) pid s
      (reply_fits images (apply_writes F p.pid effect.writes) (answers_of (puts t effect.writes)) (written_process p t effect.writes) (puts t effect.writes) call effect.regs refused
      (subst (λ (ns : List ℕ). AllDistinct ns) (sym (pids_written F p.pid effect.writes)) own))
      other h

  behind_stays : (t : Space) (refused : Bool) (effect : Effect) (number : Option ℤ) (pid : ℕ) (s : Space) → AllDistinct (pids_of F) → p.pid ≢ pid
      → FoundHolding F.processes pid s → FoundHolding (step_behind images F p t refused effect number).after.processes pid s
  behind_stays t refused effect None pid s own other h = with_stays effect.writes effect.regs Keep pid s tt other h
  behind_stays t refused effect (Some number) pid s own other h = called_stays t refused effect (call_of number) pid s own other h

  of_stays : (t : Space) (refused : Bool) (result : Result Effect Refused) (pid : ℕ) (s : Space)
      → AllDistinct (pids_of F) → p.pid ≢ pid → FoundHolding F.processes pid s → FoundHolding (step_of images F p t refused result).after.processes pid s
  of_stays t refused (Ok effect) pid s own other h = behind_stays t refused effect effect.call pid s own other h
  of_stays t refused (Err (Miss a w)) pid s own other h = h
  of_stays t true (Err (Below a)) pid s own other h = with_stays [] p.regs (End 11) pid s tt other h
  of_stays t false (Err (Below a)) pid s own other h = with_stays [] p.regs _ pid s tt other h
  of_stays t refused (Err (Signal n)) pid s own other h = with_stays [] p.regs (End n) pid s tt other h

step_stays : (A : Inputs) (F : FlatState) (of : ℕ) (refused : Bool) (pid : ℕ) (s : Space) → AllDistinct (pids_of F) → of ≢ pid
    → FoundHolding F.processes pid s → FoundHolding (flat_step A F of refused).after.processes pid s
unfolding flat_step
step_stays A F of refused pid s own other h = go (process_of F of) refl
  where
    by : (p : Process) (held : Holding) → p.pid ≢ pid → FoundHolding (step_holding A.images F p refused held).after.processes pid s
    by p (Holds t) apart = of_stays A.images F p t refused (instruction_in t p.regs) pid s own apart h
    by p (Lends sid child) apart = h
    by p (Zombie status) apart = h

    go : (o : Option Process) → process_of F of ≡ o → FoundHolding (step_if A.images F refused o).after.processes pid s
    go None e = h
    go (Some p) e = by p p.holding (λ k. other (sym (number_of_found F.processes of p e) ∙ k))

pub others_hold : (A : Inputs) (F : FlatState) (pid other : ℕ) (refused : Bool) (s : Space) → AllDistinct (pids_of F) → other ≢ pid
    → HoldsStill F other s → HoldsStill (flat_step A F pid refused).after other s
others_hold A F pid other refused s own apart h =
    let found : FoundHolding (flat_step A F pid refused).after.processes other s =
    step_stays A F pid refused other s own (λ k. apart (sym k)) record { process = h.process; here = h.here; holds = h.holds } in
    record { process = found.process; here = found.here; holds = found.holds }
