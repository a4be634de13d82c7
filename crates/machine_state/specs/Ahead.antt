-- Bytes of one page that lie together, as a memory may lend them at once.
use Rattle.std.specs.Prelude.{◌≡◌, ℕ, ◌+◌, ◌%◌, ◌^◌, ◌<◌, List, length, slice_index}
use Rattle.vm_facts.specs.Ahead.{AreAhead}
use Rattle.vm_facts.specs.declared.memory.ByteRead.TheVariants as reads
use Rattle.vm_facts.specs.declared.memory.MayWrite.TheVariants as tests
use Rattle.vm_facts.specs.declared.page.Page.{Page}
use Rattle.vm_facts.specs.declared.page.PageState.{PageState}
use Rattle.kernel_model.specs.Kernel.{Kernel}
use Rattle.table_steps.specs.UserMemory.{read_page, may_write_by, page_in, kernel_answers}

-- these bytes are read of a page from a place on, and end within it
abbrev pub LendsFrom : Kernel → Page → ℕ → List ℕ → Type 0
LendsFrom k q at bytes = (i : ℕ) → i < length bytes → (at + i < 1024) × (read_page k q (at + i) ≡ reads.Is (slice_index bytes i))

-- so many bytes of a page in this state may be written from a place on, and end within it
abbrev pub MayFrom : PageState → ℕ → ℕ → Type 0
MayFrom s at count = (i : ℕ) → i < count → (at + i < 1024) × (may_write_by s ≡ tests.May)

-- these bytes are read from an address of a space on, and are of the address's page
pub record LieAhead (k : Kernel) (sid address : ℕ) (bytes : List ℕ) : Type 0 where
  pub ahead : AreAhead (kernel_answers k sid) address bytes
  pub page : (i : ℕ) → i < length bytes → page_in k.place sid ((address + i) % 2 ^ 32) ≡ page_in k.place sid address
