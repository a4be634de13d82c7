-- That in the closing phase nobody goes out.
use Rattle.std.specs.Prelude.{◌≡◌, ℕ, false, List, Option}
use Rattle.vm_facts.specs.SwapImages.{SwapImage}
use Rattle.vm_facts.specs.declared.entry.Entry.{Entry}
use Rattle.flat_state.specs.Flat.{Inputs}
use Rattle.kernel_model.specs.Kernel.{Kernel}
use Rattle.page_model.specs.Swapper.{is_out}
use Rattle.run_model.specs.State.{State}
use Rattle.economy_laws.specs.Stretch.{IsClosing}
use Rattle.run_units.specs.Leads.{Leads}

-- in the closing phase units lead to no state at which a process is out that was in
abbrev pub ClosingStaysIn : Type 0
ClosingStaysIn =
    (A : Inputs) (s t : State) (k l : Kernel) (image : SwapImage) (j : Option SwapImage) (us : List Entry) (pid n : ℕ)
    → IsClosing A s pid → Leads A s k image us t l j → is_out s.place n ≡ false → is_out t.place n ≡ false
