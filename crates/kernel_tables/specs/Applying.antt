-- What an entry of a process with its change asks of a machine, what a space that passes asks, and what becomes of the
-- flat states.
use Rattle.std.specs.Prelude.{◌≡◌, ℕ, ◌<◌, ◌≤◌, Bool, true, false, List, [], length, map, Ok}
use Rattle.vm_facts.specs.declared.regs.Regs.{Regs}
use Rattle.vm_facts.specs.declared.entry.Entry.{Entry}
use Rattle.vm_facts.specs.declared.entry.Entry.TheVariants as entries
use Rattle.aout_image.specs.declared.Image.{Image}
use Rattle.page_model.specs.Placing.{place_all}
use Rattle.flat_state.specs.Flat.{NamedImage}
use Rattle.flat_state.specs.Change.{apply_change}
use Rattle.flat_state.specs.declared.change.Change.{Change}
use Rattle.flat_state.specs.declared.change.Change.TheVariants.{Keep, Resize, Fork, Lend, Exec, Sleep, End}
use Rattle.page_model.specs.Place.{facts_of}
use Rattle.page_model.specs.Swapper.{is_out}
use Rattle.kernel_model.specs.Kernel.{Life, New, HoldsSpace, LendsSpace}
use Rattle.kernel_model.specs.Numbers.{ReadyFor}
use Rattle.kernel_model.specs.Asks.{asked}
use Rattle.kernel_model.specs.Start.{ImagesFit}
use Rattle.kernel_model.specs.Unit.{KernelState, has_lender, passed_before, passed_after, with_found}
use Rattle.kernel_model.specs.Invariant.{Invariant, MayComplete}
use Rattle.kernel_tables.specs.Machine.{Standing}
use Rattle.kernel_tables.specs.Sourced.{ImageNamed}
use Rattle.kernel_tables.specs.Calls.{life_in}

-- what the headers of the images say
abbrev pub facts_named : List ImageNamed → List Image
facts_named images = map (λ (n : ImageNamed). n.facts) images

-- The entry.

-- a call makes any change but sleep and an end
abbrev pub IsReplied : Change → Type 0
IsReplied Sleep = ⊥
IsReplied (End status) = ⊥
IsReplied _ = Unit {0}

-- output changes nothing, growth the sizes, a call what it asks for; a sleep and an end have entries of their own
abbrev pub IsEntryOf : ℕ → Entry → Change → Type 0
IsEntryOf pid (entries.Out p bytes) Keep = p ≡ pid
IsEntryOf pid (entries.Grew p pages) (Resize data_pages stack_pages) = (p ≡ pid) × (stack_pages ≡ pages)
IsEntryOf pid (entries.Call p number carry r0 r1) change = (p ≡ pid) × IsReplied change
IsEntryOf pid (entries.Sleeps p) Sleep = p ≡ pid
IsEntryOf pid (entries.Ended p status) (End s) = (p ≡ pid) × (s ≡ status)
IsEntryOf pid _ _ = ⊥

-- The process.

-- who has a space makes any change; who has none, as it gave a borrowed space back, makes its image or its end
abbrev pub MayAct : Life → Change → Type 0
MayAct (HoldsSpace sid) change = Unit {0}
MayAct New (Exec image top) = Unit {0}
MayAct New (End status) = Unit {0}
MayAct _ change = ⊥

-- a change by which the process leaves its space
abbrev pub leaves_space : Change → Bool
leaves_space (Exec image top) = true
leaves_space (End status) = true
leaves_space _ = false

-- a change that makes a process
abbrev pub makes_process : Change → Bool
makes_process (Fork child) = true
makes_process (Lend child) = true
makes_process _ = false

-- sizes within bounds; an image of the run, with a whole stack page
abbrev pub IsWholeChange : List ImageNamed → Change → Type 0
IsWholeChange images (Resize data_pages stack_pages) = (data_pages ≤ 4096) × (stack_pages ≤ 512)
IsWholeChange images (Exec image top) = (0 < image) × (image ≤ length images) × (length top ≡ 1024)
IsWholeChange images _ = Unit {0}

-- No page is due. The process lives and is in, and has what the change needs: its space, settled where that goes or loses
-- pages, or none where it gave it back. The pieces that the change takes were found last.
pub record CanApply (m : Standing) (pid : ℕ) (e : Entry) (change : Change) : Type 0 where
  pub clear : m.kernel.place.due ≡ []
  pub ready : ReadyFor m.kernel pid change
  pub acts : MayAct (life_in m.kernel pid) change
  pub resident : is_out m.kernel.place pid ≡ false
  pub returned : leaves_space change ≡ true → has_lender m.kernel.processes pid ≡ false
  pub entry : IsEntryOf pid e change
  pub whole : IsWholeChange m.images change
  pub few : makes_process change ≡ true → length m.kernel.processes < 64
  pub found : place_all m.params.swap_blocks m.before (asked (facts_named m.images) m.kernel pid change) ≡ Ok m.kernel.holdings

-- one process gives its space to another that has none, or back to its lender
abbrev pub MayPass : Life → Life → ℕ → Type 0
MayPass (HoldsSpace sid) New from = Unit {0}
MayPass (HoldsSpace sid) (LendsSpace lent child) from = child ≡ from
MayPass _ _ from = ⊥

-- The flat states.

-- With the passes that belong to it the change is the unit of the kernel: whatever the kernel stood for before both, all
-- that is so between two units is so after them, and the kernel stands for what the change makes of that.
abbrev pub ChangesWhole : Standing → Standing → ℕ → Regs → Change → Type 0
ChangesWhole old new pid regs change = (images : List NamedImage) (m : KernelState) → ImagesFit images → facts_of images ≡ facts_named old.images
    → Invariant old.params.swap_blocks images m → MayComplete old.params.swap_blocks images m pid change
    → passed_before (has_lender m.kernel.processes pid) (with_found m) pid change ≡ old.kernel
    → Invariant old.params.swap_blocks images
    (record { kernel = passed_after new.kernel pid change; found = new.kernel.holdings; image = m.image; flat = apply_change images m.flat pid regs change })
