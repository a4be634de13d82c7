-- Machines that go on after the calls of a process.
use Rattle.std.proofs.Common.{◌≡◌, inl, inr, ℕ, Bool, true, false, List, [], ◌∷◌, length, map, Option, Some, None, refl, sym, ap, subst}
use Rattle.std.specs.Prelude.{find, IsSome, Result, Ok, Err, nat_le}
use Rattle.vm_facts.specs.SwapImages.{SwapImage}
use Rattle.vm_facts.specs.Answers.{Answers}
use Rattle.vm_facts.specs.declared.regs.Regs.{Regs}
use Rattle.vm_facts.specs.declared.entry.Entry.TheVariants as entries
use Rattle.io_edge.specs.FileHolding.{NamedFile}
use Rattle.user_vax.specs.Program.{run}
use Rattle.user_vax.specs.declared.refused.Refused.{Refused}
use Rattle.user_vax.specs.declared.refused.Refused.TheVariants.{Miss, Below, Signal}
use Rattle.flat_state.specs.declared.change.Change.TheVariants.{Keep, Resize, Lend, Sleep, End}
use Rattle.flat_model.specs.declared.calls.Reply.{Reply}
use Rattle.flat_model.specs.declared.calls.Reply.TheVariants.{Fails, Does, Writes, Waits, Exits}
use Rattle.flat_model.specs.declared.calls.SystemCall.{SystemCall}
use Rattle.flat_model.specs.declared.calls.SystemCall.TheVariants as system_calls
use Rattle.flat_model.specs.Calls.{bad_address, data_limit, replied, replied_both, no_memory, try_again, break_by, write_reply}
use Rattle.flat_model.specs.Step.{call_entry}
use Rattle.page_model.specs.Pages.{numbered}
use Rattle.kernel_model.specs.Kernel.{Proc, Kernel}
use Rattle.kernel_model.specs.ChangeStep.{pass_step, life_of_proc, space_of_life, passed_life}
use Rattle.kernel_model.specs.Unit.{lender_among, has_lender, proc_of}
use Rattle.kernel_laws.proofs.Flat.Numbered.{numbered_map}
use Rattle.page_laws.proofs.Lists.Pages.{mapped}
use Rattle.machine_state.specs.Machine.{Standing}
use Rattle.machine_state.specs.Done.{sources}
use Rattle.proc_calls.specs.declared.replying.Called.{Called}
use Rattle.proc_calls.specs.Answered.{GoneOut, Written, Replied, Comes}
use Rattle.proc_calls.specs.Callers.{regs_of, IsCaller}
use Rattle.proc_calls.specs.Leaving.{HasSettled, HasLeftBy, HasLeft, HasEnded, ExitComes}
use Rattle.proc_calls.specs.Making.{is_below_limit, finds_pieces, without_pieces, IsRefused, MakesChildBy, HasLentSpace, Vforked}
use Rattle.proc_calls.specs.Sizing.{pages_to, process_stack_pages, GrownData, NoPieces, CutData, MovesEnd, BreakComes}
use Rattle.proc_calls.specs.Waiting.{is_child, is_ended_child, wait_by_records, wait_answer}
use Rattle.proc_calls.specs.Writing.{IsWriteReply}
use Rattle.proc_calls.proofs.Writes.{may_write}
use Rattle.proc_calls.proofs.Callers.{caller_there, still_calls}
use Rattle.proc_calls.specs.Growth.{space_of_pid, with_pieces}
use Rattle.step_units.specs.Calls.{called_count, RepliesNone, AnswersNone}
use Rattle.step_units.specs.Ready.{Continues}
use Rattle.step_units.proofs.Transfers.{settled_on}
use Rattle.step_units.proofs.Running.{continues_self, continues_both, continues_from}
use Rattle.step_units.proofs.Entries.{MayEnter, may_enter, entered_on, entry_continues, from_found, found_enters, found_continues, note_continues, pass_continues}

-- A call that answers.

out_on : (old between : Standing) (pid : ℕ) (bytes : List ℕ) → IsCaller old pid → GoneOut old between pid bytes → MayEnter between pid × Continues old between 0
out_on old between pid [] c h = (
  subst (λ (m : Standing). MayEnter m pid) (sym h) (may_enter old pid c),
  subst (λ (m : Standing). Continues old m 0) (sym h) (continues_self old c.clear),
)
out_on old between pid (byte ∷ bytes) c h =
    let e = entries.Out pid (byte ∷ bytes) in
    let on = entry_continues old between pid (regs_of old.kernel pid) e Keep c tt tt h in
    (record { clear = on.clear; there = caller_there between.kernel pid (still_calls old pid (regs_of old.kernel pid) e between h.step c.lends).lends }, on)

written_on : (old new : Standing) (pid : ℕ) (call : SystemCall) (bytes : List ℕ) (regs : Regs) → IsCaller old pid
    → Written old new pid call bytes regs → Continues old new 1
written_on old new pid call bytes regs c h =
    let o = out_on old h.between pid bytes c h.out in
    continues_both old h.between new 0 1 o.1 (entered_on h.between new pid regs (call_entry pid call regs) Keep o.0 tt tt h.answer)

module _ (old new : Standing) (pid : ℕ) (call : SystemCall) (regs : Regs) where
  fails_on : (error : ℕ) (called : Called) → MayEnter old pid → Replied old new pid call regs (Fails error) called → Continues old new (called_count called)
  fails_on error called s h =
      subst (λ (y : Called). Continues old new (called_count y)) (sym h.0)
      (entered_on old new pid (replied regs true error) (call_entry pid call (replied regs true error)) Keep s tt tt h.1)

  pub reply_continues : (reply : Reply) (called : Called) → IsCaller old pid → RepliesNone reply
      → Replied old new pid call regs reply called → Continues old new (called_count called)
  reply_continues (Fails error) called c n h = fails_on error called (may_enter old pid c) h
  reply_continues (Does after change) called c n h =
      subst (λ (y : Called). Continues old new (called_count y)) (sym h.0) (entry_continues old new pid after (call_entry pid call after) change c tt n h.1)
  reply_continues (Writes bytes) called c n h =
      subst (λ (y : Called). Continues old new (called_count y)) (sym h.0) (written_on old new pid call bytes (replied regs false (length bytes)) c h.1)
  reply_continues Waits called c n h =
      subst (λ (y : Called). Continues old new (called_count y)) (sym h.0) (entry_continues old new pid (regs_of old.kernel pid) (entries.Sleeps pid) Sleep c tt tt h.1)
  reply_continues (Exits status) called c n h = absurd h

  pub call_continues : (r : Result Reply Refused) (called : Called) → IsCaller old pid → AnswersNone r → Comes old new pid call regs r called
      → Continues old new (called_count called)
  call_continues (Ok reply) called c n h = reply_continues reply called c n h
  call_continues (Err (Miss address write)) called c n h =
      subst (λ (y : Called). Continues old new (called_count y)) (sym h.0)
      (subst (λ (m : Standing). Continues old m 0) (sym h.1) (continues_self old c.clear))
  call_continues (Err (Below address)) called c n h = reply_continues (Fails bad_address) called c tt h
  call_continues (Err (Signal number)) called c n h = reply_continues (Fails bad_address) called c tt h

-- A write and a wait.

written_none : (r : Result Reply Refused) → IsWriteReply r → AnswersNone r
written_none (Ok (Fails error)) w = tt
written_none (Ok (Does after change)) w = absurd w
written_none (Ok (Writes bytes)) w = tt
written_none (Ok Waits) w = tt
written_none (Ok (Exits status)) w = tt
written_none (Err refused) w = tt

pub write_continues : (old new : Standing) (pid : ℕ) (regs : Regs) (memory : Answers) (called : Called) → IsCaller old pid
    → Comes old new pid system_calls.Write regs (run memory (write_reply regs)) called → Continues old new (called_count called)
write_continues old new pid regs memory called c h =
    call_continues old new pid system_calls.Write regs (run memory (write_reply regs)) called c
    (written_none (run memory (write_reply regs)) (may_write memory regs (run memory (write_reply regs)) refl)) h

waits_none : (child ended : Option Proc) (regs : Regs) → RepliesNone (wait_by_records child ended regs)
waits_none None ended regs = tt
waits_none (Some child) None regs = tt
waits_none (Some child) (Some z) regs = tt

pub wait_continues : (old new : Standing) (pid : ℕ) (regs : Regs) (called : Called) → IsCaller old pid
    → Replied old new pid system_calls.Wait regs (wait_answer old.kernel pid regs) called → Continues old new (called_count called)
wait_continues old new pid regs called c h =
    reply_continues old new pid system_calls.Wait regs (wait_answer old.kernel pid regs) called c
    (waits_none (find (is_child pid) old.kernel.processes) (find (is_ended_child pid) old.kernel.processes) regs) h

-- A call whose pieces find no place.

pub behind_refusal : (old new : Standing) (pid n : ℕ) → MayEnter old pid
    → (MayEnter (without_pieces old pid) pid → Continues (without_pieces old pid) new n) → Continues old new n
behind_refusal old new pid n s h =
    continues_from old (without_pieces old pid) new n (note_continues old (without_pieces old pid) (entries.Refused pid) s.clear tt refl) (h (record { clear = s.clear; there = s.there }))

pub refusal_continues : (old new : Standing) (pid : ℕ) (call : SystemCall) (regs : Regs) → IsCaller old pid → IsRefused old new pid call regs
    → Continues old new 1
refusal_continues old new pid call regs c h =
    behind_refusal old new pid 1 (may_enter old pid c)
    (λ s. entered_on (without_pieces old pid) new pid (replied regs true no_memory) (call_entry pid call (replied regs true no_memory)) Keep s tt tt h.answer)

-- A child.

-- after a call that makes a process something is so, where it is so after a call that fails, and where there is the child
pub child_by : (fewer finds : Bool) (old new : Standing) (pid : ℕ) (call : SystemCall) (regs : Regs) (Then So : Type 0) → IsCaller old pid
    → MakesChildBy fewer finds old new pid call regs Then → (Continues old new 1 → So) → (Then → So) → So
child_by false finds old new pid call regs Then So c h fails more =
    fails (entry_continues old new pid (replied regs true try_again) (call_entry pid call (replied regs true try_again)) Keep c tt tt h)
child_by true false old new pid call regs Then So c h fails more = fails (refusal_continues old new pid call regs c h)
child_by true true old new pid call regs Then So c h fails more = more h

lent_continues : (old new : Standing) (pid : ℕ) (regs : Regs) (child : ℕ) → IsCaller old pid → HasLentSpace old new pid regs child → Continues old new 1
lent_continues old new pid regs child c h =
    let made : Continues old h.between 1 =
    found_continues old h.between h.made.found pid (replied_both regs child 0) (call_entry pid system_calls.Vfork (replied_both regs child 0)) (Lend child) c tt tt h.made.answer in
    continues_both old h.between new 1 0 made (pass_continues h.between new pid child made.clear h.passed)

pub vfork_continues : (old new : Standing) (pid : ℕ) (regs : Regs) → IsCaller old pid → Vforked old new pid regs → Continues old new 1
vfork_continues old new pid regs c h =
    child_by (is_below_limit old.kernel) (finds_pieces old pid (Lend old.kernel.next_pid)) old new pid system_calls.Vfork regs
    (HasLentSpace old new pid regs old.kernel.next_pid) (Continues old new 1) c h (λ s. s) (lent_continues old new pid regs old.kernel.next_pid c)

-- A space that a process leaves.

passed_there : (k : Kernel) (from to pid : ℕ) → IsSome (proc_of k pid) → IsSome (proc_of (pass_step k from to) pid)
passed_there k from to pid s =
    let sid = space_of_life (life_of_proc (proc_of k from)) in
    let receiver = life_of_proc (proc_of k to) in
    go (λ (q : Proc). record q { life = passed_life sid from to receiver q }) (λ q. refl)
  where
    some : (f : Proc → Proc) (o : Option Proc) → IsSome o → IsSome (mapped f o)
    some f None t = absurd cc
    some f (Some p) t = refl

    go : (f : Proc → Proc) → ((q : Proc) → (f q).pid ≡ q.pid) → IsSome (numbered (λ (p : Proc). p.pid) pid (map f k.processes))
    go f same = subst IsSome (sym (numbered_map (λ (p : Proc). p.pid) f same pid k.processes)) (some f (proc_of k pid) s)

-- it went on, and the process may make an entry
pub record Left (old new : Standing) (pid : ℕ) : Type 0 where
  pub on : Continues old new 0
  pub may : MayEnter new pid
  pub numbers : new.kernel.next_sid ≡ old.kernel.next_sid

pub left_settled : (old new : Standing) (pid : ℕ) (holds : Option (List NamedFile)) (i j : Option SwapImage) → IsCaller old pid
    → HasSettled old new (space_of_pid old.kernel pid) holds i j → Left old new pid
left_settled old new pid holds i j c h =
    let e = settled_on (sources old holds) (space_of_pid old.kernel pid) old new i j c.clear h.settled h.rest in
    record {
      on = e.on;
      may = record {
        clear = e.on.clear;
        there = subst (λ (ps : List Proc). IsSome (numbered (λ (p : Proc). p.pid) pid ps)) (sym e.processes) (caller_there old.kernel pid c.lends);
      };
      numbers = e.numbers;
    }

left_by : (lent : Bool) (old new : Standing) (pid : ℕ) (holds : Option (List NamedFile)) (i j : Option SwapImage) → IsCaller old pid
    → HasLeftBy lent old new pid holds i j → Left old new pid
left_by true old new pid holds i j c h =
    let lender = lender_among old.kernel.processes pid in
    let on = pass_continues old new pid lender c.clear h.step in
    record {
      on = on;
      may = record {
        clear = on.clear;
        there = subst (λ (m : Standing). IsSome (proc_of m.kernel pid)) (sym h.step) (passed_there old.kernel pid lender pid (caller_there old.kernel pid c.lends));
      };
      numbers = ap (λ (m : Standing). m.kernel.next_sid) h.step;
    }
left_by false old new pid holds i j c h = left_settled old new pid holds i j c h

pub left_on : (old new : Standing) (pid : ℕ) (holds : Option (List NamedFile)) (i j : Option SwapImage) → IsCaller old pid
    → HasLeft old new pid holds i j → Left old new pid
left_on old new pid holds i j c h = left_by (has_lender old.kernel.processes pid) old new pid holds i j c h

pub end_continues : (old new : Standing) (pid status : ℕ) (holds : Option (List NamedFile)) (i j : Option SwapImage) → IsCaller old pid
    → HasEnded old new pid status holds i j
    → Continues old new 1
end_continues old new pid status holds i j c h =
    let l = left_on old h.between pid holds i j c h.left in
    continues_both old h.between new 0 1 l.on
    (entered_on h.between new pid (regs_of old.kernel pid) (entries.Ended pid status) (End status) l.may tt tt h.ended)

pub exit_continues : (old new : Standing) (pid : ℕ) (regs : Regs) (r : Result Reply Refused) (holds : Option (List NamedFile))
    (i j : Option SwapImage) (called : Called)
    → IsCaller old pid → ExitComes old new pid regs r holds i j called → Continues old new (called_count called)
exit_continues old new pid regs (Ok (Exits status)) holds i j called c h =
    subst (λ (y : Called). Continues old new (called_count y)) (sym h.0) (end_continues old new pid status holds i j c h.1)
exit_continues old new pid regs (Ok (Fails error)) holds i j called c h = absurd h
exit_continues old new pid regs (Ok (Does after change)) holds i j called c h = absurd h
exit_continues old new pid regs (Ok (Writes bytes)) holds i j called c h = absurd h
exit_continues old new pid regs (Ok Waits) holds i j called c h = absurd h
exit_continues old new pid regs (Err refused) holds i j called c h = call_continues old new pid system_calls.Exit regs (Err refused) called c tt h.0

-- A break.

-- a reply of a break, of a process that is there
break_on : (fits : Bool) (old new : Standing) (pid : ℕ) (regs : Regs) (pages stack : ℕ) (called : Called) → MayEnter old pid
    → Replied old new pid system_calls.Break regs (break_by fits regs pages stack) called
    → Continues old new (called_count called)
break_on true old new pid regs pages stack called s h =
    subst (λ (y : Called). Continues old new (called_count y)) (sym h.0)
    (entered_on old new pid (replied regs false 0) (call_entry pid system_calls.Break (replied regs false 0)) (Resize pages stack) s tt tt h.1)
break_on false old new pid regs pages stack called s h = fails_on old new pid system_calls.Break regs no_memory called s h

module _ (old new : Standing) (pid : ℕ) (regs : Regs) (pages : ℕ) where
  grown_on : (called : Called) → IsCaller old pid → GrownData old new pid regs pages called → Continues old new (called_count called)
  grown_on called c s =
      from_found old new s.found (called_count called)
      (break_on (nat_le pages data_limit) (with_pieces old s.found) new pid regs pages (process_stack_pages old.kernel pid) called
      (found_enters old s.found pid (may_enter old pid c)) s.replied)

  none_on : (called : Called) → IsCaller old pid → NoPieces old new pid regs pages called → Continues old new (called_count called)
  none_on called c s =
      behind_refusal old new pid (called_count called) (may_enter old pid c) (λ may. fails_on (without_pieces old pid) new pid system_calls.Break regs no_memory called may s.replied)

  cut_on : (holds : Option (List NamedFile)) (i j : Option SwapImage) (called : Called) → IsCaller old pid → CutData old new pid regs pages holds i j called
      → Continues old new (called_count called)
  cut_on holds i j called c s =
      let l = left_settled old s.between pid holds i j c s.settled in
      continues_from old s.between new (called_count called) l.on
      (break_on (nat_le pages data_limit) s.between new pid regs pages (process_stack_pages old.kernel pid) called l.may s.replied)

  sized_on : (holds : Option (List NamedFile)) (i j : Option SwapImage) (called : Called) → IsCaller old pid → MovesEnd old new pid regs pages holds i j called
      → Continues old new (called_count called)
  sized_on holds i j called c (inl (inl s, e)) =
      break_on (nat_le pages data_limit) old new pid regs pages (process_stack_pages old.kernel pid) called (may_enter old pid c) s.replied
  sized_on holds i j called c (inl (inr (inl s), e)) = grown_on called c s
  sized_on holds i j called c (inl (inr (inr s), e)) = none_on called c s
  sized_on holds i j called c (inr s) = cut_on holds i j called c s

pub break_continues : (old new : Standing) (pid : ℕ) (regs : Regs) (r : Result ℕ Refused) (holds : Option (List NamedFile))
    (i j : Option SwapImage) (called : Called)
    → IsCaller old pid → BreakComes old new pid regs r holds i j called → Continues old new (called_count called)
break_continues old new pid regs (Ok address) holds i j called c h = sized_on old new pid regs (pages_to old.kernel pid address) holds i j called c h
break_continues old new pid regs (Err refused) holds i j called c h = call_continues old new pid system_calls.Break regs (Err refused) called c tt h.0
