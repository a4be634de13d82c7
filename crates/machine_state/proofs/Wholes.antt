-- An entry of a process with its change is a unit of the kernel, with the passes that belong to it.
use Rattle.std.proofs.Common.{◌≡◌, ℕ, List, refl, sym, ap, ◌∙◌, subst}
use Rattle.vm_facts.specs.declared.regs.Regs.{Regs}
use Rattle.vm_facts.specs.declared.entry.Entry.{Entry}
use Rattle.aout_image.specs.declared.Image.{Image}
use Rattle.swap_book.specs.Holdings.{Holdings}
use Rattle.flat_state.specs.Change.{apply_change}
use Rattle.flat_state.specs.declared.change.Change.{Change}
use Rattle.flat_state.specs.declared.change.Change.TheVariants.{Keep, Resize, Fork, Lend, Exec, Reap, Sleep, End}
use Rattle.page_model.specs.Place.{facts_of}
use Rattle.kernel_model.specs.Kernel.{Kernel}
use Rattle.kernel_model.specs.ChangeStep.{change_step}
use Rattle.kernel_model.specs.Unit.{KernelState, has_lender, passed_after, passing_change, with_found}
use Rattle.kernel_model.specs.Invariant.{Invariant}
use Rattle.table_steps.proofs.KernelLawsKeptChanges.{change_kept}
use Rattle.table_steps.specs.Machine.{Standing}
use Rattle.table_steps.specs.Applying.{facts_named, ChangesWhole}

after_holdings : (k : Kernel) (pid : ℕ) (change : Change) → (passed_after k pid change).holdings ≡ k.holdings
after_holdings k pid Keep = refl
after_holdings k pid (Resize d s) = refl
after_holdings k pid (Fork child) = refl
after_holdings k pid (Lend child) = refl
after_holdings k pid (Exec image top) = refl
after_holdings k pid (Reap child) = refl
after_holdings k pid Sleep = refl
after_holdings k pid (End status) = refl

-- a step that is the kernel's is the whole unit's
pub changes_whole : (old new : Standing) (pid : ℕ) (regs : Regs) (e : Entry) (change : Change)
    → new.kernel ≡ change_step (facts_named old.images) old.kernel pid regs e change → ChangesWhole old new pid regs change
changes_whole old new pid regs e change step images m fits facts i may before =
    subst (λ (hs : Holdings). Invariant size images (after (passed_after new.kernel pid change) hs)) (after_holdings new.kernel pid change)
    (subst (λ (k : Kernel). Invariant size images (after k k.holdings)) is (change_kept size images m pid regs e change fits i may))
  where
    size : ℕ
    size = old.params.swap_blocks

    after : Kernel → Holdings → KernelState
    after k hs = record { kernel = k; found = hs; image = m.image; flat = apply_change images m.flat pid regs change }

    is : passing_change (has_lender m.kernel.processes pid) (facts_of images) (with_found m) pid regs e change ≡ passed_after new.kernel pid change
    is =
        ap (λ (k : Kernel). passed_after (change_step (facts_of images) k pid regs e change) pid change) before
        ∙ ap (λ (fs : List Image). passed_after (change_step fs old.kernel pid regs e change) pid change) facts
        ∙ ap (λ (k : Kernel). passed_after k pid change) (sym step)
