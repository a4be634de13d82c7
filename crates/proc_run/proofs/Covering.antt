-- A memory of which some pages alone are shown misses, or answers as before.
use Rattle.std.proofs.Common.{◌≡◌, ◌≢◌, ◌⊎◌, ◌↔◌, inl, inr, ℕ, ℤ, Bool, true, false, List, [], Option, Some, None, Result, Ok, Err, refl, sym, ap, ◌∙◌}
use Rattle.vm_facts.specs.Answers.{Answers, ByteWrite}
use Rattle.vm_facts.specs.declared.memory.ByteRead.TheVariants as reads
use Rattle.vm_facts.specs.declared.memory.MayWrite.{MayWrite}
use Rattle.vm_facts.specs.declared.memory.MayWrite.TheVariants as tests
use Rattle.vm_facts.specs.declared.page.Page.{Page}
use Rattle.vm_facts.specs.declared.regs.Regs.{Regs}
use Rattle.user_vax.specs.Program.{run}
use Rattle.user_vax.specs.Effects.{Effect}
use Rattle.user_vax.specs.Laws.{Covers}
use Rattle.user_vax.specs.Instruction.{instruction, answer_of, answer_of_call, writes_of}
use Rattle.user_vax.specs.declared.refused.Refused.{Refused}
use Rattle.user_vax.specs.declared.stepped.Stepped.TheVariants as steps
use Rattle.user_vax.proofs.Order.{same_or_misses}
use Rattle.page_model.specs.Placement.{Placement}
use Rattle.std.specs.Borrow.{MutBor}
use Rattle.kernel_model.specs.Kernel.{Kernel, HoldsSpace}
use Rattle.kernel_model.specs.ChangeStep.{space_of_life}
use Rattle.machine_state.specs.declared.user_memory.Layout.{Layout}
use Rattle.machine_state.specs.Calls.{life_in}
use Rattle.machine_state.specs.Machine.{Standing}
use Rattle.machine_state.specs.UserMemory.{page_in, kernel_answers, writes_in}
use Rattle.user_step.specs.Slots.{may_where}
use Rattle.flat_model.specs.Shown.{is_shown, read_where}
use Rattle.step_units.specs.Growth.{space_of_pid}
use Rattle.step_units.proofs.Calling.{calls_write_none}
use Rattle.proc_run.specs.Shown.{only, shown_in, WroteShown}

-- it misses, or answers as another one that is answered so
pub only_covers : (p : Placement) (sid : ℕ) (pages : List Page) (memory flat : Answers) → Covers memory flat → Covers (only p sid pages memory) flat
only_covers p sid pages memory flat c = record {
  reads = λ a. read_by (is_shown pages (page_in p sid a)) a (c.reads a);
  tests = λ a. test_by (is_shown pages (page_in p sid a)) (memory.may_write a) a (c.tests a);
}
  where
    read_by : (b : Bool) (a : ℕ) → (memory.read a ≡ reads.Miss) ⊎ (memory.read a ≡ flat.read a) → (read_where b (memory.read a) ≡ reads.Miss) ⊎ (read_where b (memory.read a) ≡ flat.read a)
    read_by true a h = h
    read_by false a h = inl refl

    test_by : (b : Bool) (answer : MayWrite) (a : ℕ) → (answer ≡ tests.Miss) ⊎ (answer ≡ flat.may_write a) → (may_where b answer ≡ tests.Miss) ⊎ (may_where b answer ≡ flat.may_write a)
    test_by true answer a h = h
    test_by false tests.May a h = inl refl
    test_by false tests.Miss a h = h
    test_by false tests.Below a h = h
    test_by false tests.Text a h = h
    test_by false tests.Outside a h = h

covers_self : (memory : Answers) → Covers memory memory
covers_self memory = record { reads = λ a. inr refl; tests = λ a. inr refl }

-- an instruction that writes nothing writes nothing then either
pub still_quiet : (k : Kernel) (sid : ℕ) (pages : List Page) (regs : Regs) → writes_of (run (kernel_answers k sid) (instruction regs)) ≡ []
    → writes_of (run (shown_in k sid pages) (instruction regs)) ≡ []
still_quiet k sid pages regs h =
    elim (same_or_misses (shown_in k sid pages) (kernel_answers k sid) (instruction regs)
    (only_covers k.place sid pages (kernel_answers k sid) (kernel_answers k sid) (covers_self (kernel_answers k sid)))) [
      | inl e ↦ ap writes_of e.0 ∙ h
      | inr m ↦ ap writes_of m.2
    ]

-- so it is in the space that the process holds
pub quiet_step : (old n : Standing) (pid sid : ℕ) (pages : List Page) (regs : Regs) → n ≡ old → life_in old.kernel pid ≡ HoldsSpace sid
    → writes_of (run (shown_in old.kernel (space_of_pid old.kernel pid) pages) (instruction regs)) ≡ []
    → writes_of (run (shown_in n.kernel sid pages) (instruction regs)) ≡ []
quiet_step old n pid sid pages regs same holds quiet =
    ap (λ (s : Standing). writes_of (run (shown_in s.kernel sid pages) (instruction regs))) same
    ∙ ap (λ (i : ℕ). writes_of (run (shown_in old.kernel i pages) (instruction regs))) (sym (ap space_of_life holds)) ∙ quiet

-- an instruction that isn't carried out, or makes a call, writes nothing
pub writes_none : (memory : Answers) (before : Regs) (r : Result Effect Refused) → run memory (instruction before) ≡ r → answer_of r ≢ steps.Done
    → writes_of r ≡ []
writes_none memory before (Err refused) e d = refl
writes_none memory before (Ok effect) e d = go effect.call refl
  where
    go : (o : Option ℤ) → effect.call ≡ o → effect.writes ≡ []
    go None c = absurd (d (ap answer_of_call c))
    go (Some number) c = calls_write_none memory before effect number e c

pub any_quiet : (old n : Standing) (pid : ℕ) (pages : List Page) (regs : Regs) (done : Bool) → n ≡ old → done ≡ false
    → ((done ≡ true) ↔ (answer_of (run (shown_in old.kernel (space_of_pid old.kernel pid) pages) (instruction regs)) ≡ steps.Done))
    → writes_of (run (shown_in n.kernel (space_of_pid n.kernel pid) pages) (instruction regs)) ≡ []
any_quiet old n pid pages regs done same undone value =
    let memory : Answers = shown_in old.kernel (space_of_pid old.kernel pid) pages in
    ap (λ (s : Standing). writes_of (run (shown_in s.kernel (space_of_pid s.kernel pid) pages) (instruction regs))) same
    ∙ writes_none memory regs (run memory (instruction regs)) refl (λ d. absurd (let z : true ≡ false = sym (value.1 d) ∙ undone in cc))

-- where nothing is written the machine after the reference is as before
pub kept_through : (old : Standing) (m n : MutBor Standing) (l k : Layout) (ps qs : List Page) (ws : List ByteWrite) → WroteShown m l ps ws n k qs
    → ws ≡ [] → m.now ≡ old → n.now ≡ old
kept_through old m n l k ps qs ws h none same =
    h.through.2.machine ∙ ap (λ (xs : List ByteWrite). record m.now { kernel = writes_in m.now.kernel l.sid xs }) none ∙ same
