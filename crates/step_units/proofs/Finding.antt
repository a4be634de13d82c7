-- What a machine finds under a mark.
use Rattle.std.proofs.Common.{◌≡◌, ℕ, ◌<◌, true, false, List, [], ◌∷◌, length, Option, Some, None, refl, ap, ◌∙◌, subst, arith}
use Rattle.vm_facts.specs.SwapImages.{SwapImage}
use Rattle.flat_state.specs.Space.{Space}
use Rattle.flat_state.specs.Flat.{Holding, Holds, Lends, Zombie, Process, FlatState, Inputs, process_of, holds_space}
use Rattle.page_model.specs.Placement.{Placement, Transfer}
use Rattle.page_model.specs.Swapper.{is_out}
use Rattle.kernel_model.specs.Kernel.{Kernel, HoldsSpace, life_of}
use Rattle.kernel_model.specs.ChangeStep.{life_of_proc}
use Rattle.kernel_model.specs.Coupled.{Outline, SameTables}
use Rattle.kernel_model.specs.Stands.{holds_some}
use Rattle.machine_state.specs.Calls.{life_in, CanComeIn}
use Rattle.kernel_laws.proofs.Machine.Swaps.{found_at}
use Rattle.kernel_laws.proofs.Machine.Tables.{kept_at, outline_at}
use Rattle.swapper.specs.Putting.{HoldsThere}
use Rattle.swapper.proofs.HeldSpaces.{holders_have_spaces}
use Rattle.run_model.specs.declared.mark.Mark.TheVariants as marks
use Rattle.run_model.specs.State.{State}
use Rattle.run_model.specs.After.{interrupt_mark}
use Rattle.run_laws.specs.Standing.{MarkStands}
use Rattle.run_units.specs.Serving.{At}

-- A transfer.

is_pending : (ts : List Transfer) → 0 < length ts → marks.Interrupt ≡ interrupt_mark ts
is_pending [] l = absurd (omega (arith, l))
is_pending (t ∷ ts) l = refl

pub interrupt_waits : (A : Inputs) (s : State) (k : Kernel) (image : SwapImage) → At A s k image → s.mark ≡ marks.Interrupt
    → (s.mark ≡ interrupt_mark s.place.transfers) × (0 < length s.place.transfers)
interrupt_waits A s k image at m =
    let stands : MarkStands s marks.Interrupt = subst (MarkStands s) m at.run.mark in
    (m ∙ is_pending s.place.transfers stands.1, stands.1)

-- A process that is out.

pub may_come : (A : Inputs) (s : State) (k : Kernel) (image : SwapImage) (pid : ℕ) → At A s k image → s.mark ≡ marks.BringIn pid → CanComeIn k pid
may_come A s k image pid at m =
    let stands : MarkStands s (marks.BringIn pid) = subst (MarkStands s) m at.run.mark in
    record {
      clear = ap (λ (p : Placement). p.due) at.stands.place ∙ stands.0;
      out = ap (λ (p : Placement). is_out p pid) at.stands.place ∙ stands.2;
    }

-- One that is in.

record Keeper (o : Option Process) : Type 0 where
  process : Process
  space : Space
  is : o ≡ Some process
  holds : process.holding ≡ Holds space

keeper : (o : Option Process) → holds_some o ≡ true → Keeper o
keeper None e = absurd cc
keeper (Some q) e = go q.holding refl e
  where
    go : (h : Holding) → q.holding ≡ h → holds_space h ≡ true → Keeper (Some q)
    go (Holds x) is e = record { process = q; space = x; is = refl; holds = is }
    go (Lends sid child) is e = absurd cc
    go (Zombie status) is e = absurd cc

holds_there : (k : Kernel) (flat : FlatState) (pid : ℕ) → SameTables k flat → Keeper (process_of flat pid) → (sid : ℕ) × HoldsThere k pid sid
holds_there k flat pid tables w =
    let found = found_at flat pid w.process w.is in
    let kept = kept_at k.processes flat.processes tables.processes pid w.process found.1 in
    let outline = outline_at k.processes flat.processes tables.processes pid kept.0 w.process kept.1 found.1 in
    let life : life_in k pid ≡ HoldsSpace w.space.sid = ap life_of_proc kept.1 ∙ ap (λ (o : Outline). o.life) outline ∙ ap life_of w.holds in
    (w.space.sid, record { holds = life; there = holders_have_spaces k flat tables pid w.space.sid life })

pub put_out_in : (A : Inputs) (s : State) (k : Kernel) (image : SwapImage) (pid : ℕ) → At A s k image → s.mark ≡ marks.PutOut pid
    → ((sid : ℕ) × HoldsThere k pid sid) × (is_out k.place pid ≡ false)
put_out_in A s k image pid at m =
    let stands : MarkStands s (marks.PutOut pid) = subst (MarkStands s) m at.run.mark in (
      holds_there k s.point.flat pid at.stands.keeps.coupled.tables (keeper (process_of s.point.flat pid) stands.1),
      ap (λ (p : Placement). is_out p pid) at.stands.place ∙ stands.2,
    )
