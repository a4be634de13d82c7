-- The process that makes a call, and what its entries ask.
use Rattle.std.proofs.Common.{◌≡◌, ℕ, true, false, [], Option, Some, None, refl, sym, ap, ◌∙◌, subst}
use Rattle.std.specs.Prelude.{Result, Ok, Err, IsSome, IfOk, OnOk}
use Rattle.vm_facts.specs.declared.regs.Regs.{Regs}
use Rattle.vm_facts.specs.declared.entry.Entry.{Entry}
use Rattle.swap_book.specs.Holdings.{Holdings}
use Rattle.swap_book.specs.Placing.{place_all}
use Rattle.flat_state.specs.declared.change.Change.{Change}
use Rattle.flat_state.specs.declared.change.Change.TheVariants.{Keep, Reap, Sleep}
use Rattle.kernel_model.specs.Kernel.{Life, HoldsSpace, Kernel, Proc}
use Rattle.kernel_model.specs.Sound.{Sound, lives}
use Rattle.kernel_model.specs.ChangeStep.{life_of_proc, with_proc, change_if, change_step}
use Rattle.kernel_model.specs.Unit.{proc_of}
use Rattle.machine_state.proofs.KernelLawsMachineProcesses.{with_at}
use Rattle.page_model.specs.Pages.{numbered}
use Rattle.machine_state.proofs.ProcessLists.{found_number}
use Rattle.machine_state.proofs.Lives.{pid_of}
use Rattle.machine_state.specs.Going.{CanGoOn}
use Rattle.machine_state.specs.Machine.{Standing}
use Rattle.machine_state.specs.Calls.{life_in}
use Rattle.machine_state.specs.Applying.{CanApply, IsEntryOf, MayAct, facts_named}
use Rattle.machine_state.specs.UserMemory.{CanLend}
use Rattle.fault_fill.proofs.GrownStacks.{lives_by}
use Rattle.proc_calls.specs.Callers.{IsCaller}

pub not_there : (o : Option Proc) → IsSome o → o ≡ None → ⊥
not_there o s e = let t : IsSome o = s in cc

there_by : (o : Option Proc) (sid : ℕ) → life_of_proc o ≡ HoldsSpace sid → IsSome o
there_by None sid e = absurd cc
there_by (Some p) sid e = refl

-- it is there, and lives
pub caller_there : (k : Kernel) (pid : ℕ) → CanLend k pid → IsSome (proc_of k pid)
caller_there k pid c = there_by (proc_of k pid) c.sid c.holds

pub caller_lives : (k : Kernel) (pid : ℕ) → CanLend k pid → lives k.processes pid ≡ true
caller_lives k pid c = lives_by (proc_of k pid) c.sid c.holds

-- the machine is sound as it is
pub sound_now : (m : Standing) → CanGoOn m → Sound m.params.swap_blocks m.kernel
sound_now m on = subst (λ (hs : Holdings). Sound m.params.swap_blocks (record m.kernel { holdings = hs })) on.whole on.running.sound

none_placed : (m : Standing) → m.before ≡ m.kernel.holdings → place_all m.params.swap_blocks m.before [] ≡ Ok m.kernel.holdings
unfolding place_all
none_placed m e = ap (λ hs. Ok hs) e

acts : (k : Kernel) (pid : ℕ) (change : Change) → CanLend k pid → MayAct (life_in k pid) change
acts k pid change c = subst (λ (l : Life). MayAct l change) (sym c.holds) tt

-- An entry with a change that wants no pieces of swap.

pub can_keep : (m : Standing) (pid : ℕ) (e : Entry) → IsCaller m pid → IsEntryOf pid e Keep → CanApply m pid e Keep
can_keep m pid e c entry = record {
  clear = c.clear;
  ready = record { alive = caller_lives m.kernel pid c.lends; next = tt; reaps = tt; space = tt };
  acts = acts m.kernel pid Keep c.lends;
  resident = c.lends.resident;
  returned = λ t. absurd cc;
  entry = entry;
  whole = tt;
  few = λ t. absurd cc;
  found = none_placed m c.ready.whole;
}

pub can_sleep : (m : Standing) (pid : ℕ) (e : Entry) → IsCaller m pid → IsEntryOf pid e Sleep → CanApply m pid e Sleep
can_sleep m pid e c entry = record {
  clear = c.clear;
  ready = record { alive = caller_lives m.kernel pid c.lends; next = tt; reaps = tt; space = tt };
  acts = acts m.kernel pid Sleep c.lends;
  resident = c.lends.resident;
  returned = λ t. absurd cc;
  entry = entry;
  whole = tt;
  few = λ t. absurd cc;
  found = none_placed m c.ready.whole;
}

-- the child has ended
pub can_reap : (m : Standing) (pid child : ℕ) (e : Entry) → IsCaller m pid → IsEntryOf pid e (Reap child)
    → lives m.kernel.processes child ≡ false → CanApply m pid e (Reap child)
can_reap m pid child e c entry ended = record {
  clear = c.clear;
  ready = record { alive = caller_lives m.kernel pid c.lends; next = tt; reaps = ended; space = tt };
  acts = acts m.kernel pid (Reap child) c.lends;
  resident = c.lends.resident;
  returned = λ t. absurd cc;
  entry = entry;
  whole = tt;
  few = λ t. absurd cc;
  found = none_placed m c.ready.whole;
}

-- After an entry that changes nothing the process may go on.

other_regs : (k : Kernel) (pid : ℕ) (p : Proc) (regs : Regs) → proc_of k pid ≡ Some p
    → numbered pid_of pid (with_proc k.processes (record p { regs = regs })) ≡ Some (record p { regs = regs })
other_regs k pid p regs e =
    let is : p.pid ≡ pid = found_number k.processes pid p e in
    let there : numbered pid_of p.pid k.processes ≡ Some p = ap (λ (n : ℕ). numbered pid_of n k.processes) is ∙ e in
    ap (λ (n : ℕ). numbered pid_of n (with_proc k.processes (record p { regs = regs }))) (sym is) ∙ with_at k.processes (record p { regs = regs }) p there

-- nothing more is due, and it may be lent its space
pub record StillCalls (m n : Standing) (pid : ℕ) : Type 0 where
  pub due : n.kernel.place.due ≡ m.kernel.place.due
  pub lends : CanLend n.kernel pid

calls_on : (m : Standing) (pid : ℕ) (regs : Regs) (e : Entry) (n : Standing) (o : Option Proc) → proc_of m.kernel pid ≡ o
    → n.kernel ≡ change_if (facts_named m.images) m.kernel regs e Keep o → CanLend m.kernel pid → StillCalls m n pid
calls_on m pid regs e n None f step l = absurd (let t : IsSome (proc_of m.kernel pid) = caller_there m.kernel pid l in cc)
calls_on m pid regs e n (Some p) f step l = record {
  due = ap (λ (k : Kernel). k.place.due) step;
  lends = subst (λ (k : Kernel). CanLend k pid) (sym step) (record {
    sid = l.sid;
    holds =
        ap life_of_proc (other_regs m.kernel pid p regs f)
        ∙ (let h : p.life ≡ HoldsSpace l.sid = ap life_of_proc (sym f) ∙ l.holds in h);
    there = l.there;
    resident = l.resident;
  });
}

pub still_calls : (m : Standing) (pid : ℕ) (regs : Regs) (e : Entry) (n : Standing)
    → n.kernel ≡ change_step (facts_named m.images) m.kernel pid regs e Keep → CanLend m.kernel pid → StillCalls m n pid
still_calls m pid regs e n step l = calls_on m pid regs e n (proc_of m.kernel pid) refl step l

-- it is a caller again, where the entry was made
pub calls_behind : {A E : Type 0} (r : Result A E) (m : Standing) (pid : ℕ) (regs : Regs) (e : Entry) (n : Standing)
    → OnOk r (n.kernel ≡ change_step (facts_named m.images) m.kernel pid regs e Keep) → OnOk r (CanGoOn n) → IsCaller m pid
    → OnOk r (IsCaller n pid)
calls_behind (Ok x) m pid regs e n step ready c =
    let s = still_calls m pid regs e n step c.lends in record { ready = ready; clear = s.due ∙ c.clear; lends = s.lends }
calls_behind (Err x) m pid regs e n step ready c = tt

-- what is so of a value, and what is so where there is one
pub both_ok : {A E : Type 0} (r : Result A E) (P : A → Type 0) (Q : Type 0) → IfOk r P → OnOk r Q → IfOk r (λ x. P x × Q)
both_ok (Ok x) P Q p q = (p, q)
both_ok (Err x) P Q p q = tt
