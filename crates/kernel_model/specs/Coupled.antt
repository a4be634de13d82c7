-- The machine stands for a flat state: the same processes and spaces, and the bytes of each page where its state says.
use Rattle.std.specs.Prelude.{◌≡◌, ℕ, ◌*◌, Bool, true, false, List, [], ◌∷◌, length, map, Option, Some, None}
use Rattle.page_model.specs.Space.{Space}
use Rattle.page_model.specs.Flat.{Process, FlatState, NamedImage, image_numbered, spaces_of}
use Rattle.vm_facts.specs.declared.page.Page.{Page}
use Rattle.vm_facts.specs.declared.page.Page.TheVariants.{Data, Stack, Text}
use Rattle.vm_facts.specs.declared.regs.Regs.{Regs}
use Rattle.page_model.specs.AoutImageImage.{page_at}
use Rattle.page_model.specs.Owner.TheVariants as owners
use Rattle.page_model.specs.Holdings.{block_in}
use Rattle.page_model.specs.Pages.{SpacePages, numbered}
use Rattle.page_model.specs.Placement.{Placement, Transfer, Part, Errand, Writes, Reads, space_number, image_of, slots_of}
use Rattle.page_model.specs.PageBytes.{zeros, Bytes, CouplesPages, source_bytes}
use Rattle.page_model.specs.Place.{space_of_holding}
use Rattle.page_model.specs.Swapper.{is_out}
use Rattle.kernel_model.specs.Kernel.{Life, Proc, Kernel, start_bytes, life_of}
use Rattle.page_model.specs.Stored.{stored_at, stored}
use Rattle.kernel_model.specs.UPage.{u_page}

-- the text bytes of an image; none where there is no such image
abbrev pub image_text : Option NamedImage → List ℕ
image_text None = []
image_text (Some named) = named.image.text

-- the data bytes of an image; none where there is no such image
abbrev pub data_of : Option NamedImage → List ℕ
data_of None = []
data_of (Some named) = named.image.data

-- the data bytes of a space; none where there is no such space
abbrev pub data_bytes_in : Option Space → List ℕ
data_bytes_in None = []
data_bytes_in (Some s) = s.data_bytes

-- the stack bytes of a space; none where there is no such space
abbrev pub stack_bytes_in : Option Space → List ℕ
stack_bytes_in None = []
stack_bytes_in (Some s) = s.stack_bytes

-- a page of the flat memory; text is its image's
abbrev pub memory_of : List NamedImage → FlatState → Page → List ℕ
memory_of images flat (Data sid v) = page_at v (data_bytes_in (numbered (λ (s : Space). s.sid) sid (spaces_of flat)))
memory_of images flat (Stack sid v) = page_at v (stack_bytes_in (numbered (λ (s : Space). s.sid) sid (spaces_of flat)))
memory_of images flat (Text image v) = page_at v (image_text (image_numbered images image))

-- a page as its image's file has it
abbrev pub file_of : List NamedImage → Placement → Page → List ℕ
file_of images p (Data sid v) = page_at v (data_of (image_numbered images (image_of p sid)))
file_of images p (Stack sid v) = zeros
file_of images p (Text image v) = page_at v (image_text (image_numbered images image))

-- the bytes beside the machine's placement: of its frames, swap, files, kept stack pages, and the flat memory
abbrev pub beside_kernel : Kernel → List NamedImage → List ℕ → FlatState → Bytes
beside_kernel k images image flat = record {
  frames = k.frames;
  swap = stored k.holdings image;
  file = file_of images k.place;
  start = start_bytes k.starts;
  memory = memory_of images flat;
}

-- what a read brings, page by page: what each page has where it is read from
abbrev pub AreReadBy : Bytes → Errand → List Part → List (List ℕ) → Type 0
AreReadBy b Writes xs read = Unit {0}
AreReadBy b (Reads source demanded) xs read = read ≡ map (λ (x : Part). source_bytes b source x.page) xs

-- what the oldest transfer brings
abbrev pub AreRead : Bytes → List Transfer → List (List ℕ) → Type 0
AreRead b [] read = Unit {0}
AreRead b (t ∷ ts) read = AreReadBy b t.errand t.parts read

-- all of a process but its registers
pub record Outline : Type 0 where
  pub pid : ℕ
  pub parent : ℕ
  pub life : Life
  pub asleep : Bool

-- the outline of a process of the flat state
abbrev pub outline_of : Process → Outline
outline_of q = record { pid = q.pid; parent = q.parent; life = life_of q.holding; asleep = q.asleep }

-- the outline of a process of the machine
abbrev pub outline_kept : Proc → Outline
outline_kept p = record { pid = p.pid; parent = p.parent; life = p.life; asleep = p.asleep }

-- a space of the flat state has its pages in the placement
pub record IsSized (s : Space) (x : SpacePages) : Type 0 where
  pub image : x.image ≡ s.image
  pub data_size : length s.data_bytes ≡ 1024 * length x.data_pages
  pub stack_size : length s.stack_bytes ≡ 1024 * length x.stack_pages

-- a space is in both, or in neither
abbrev pub Fits : Option Space → Option SpacePages → Type 0
Fits None None = Unit {0}
Fits (Some s) (Some x) = IsSized s x
Fits _ _ = ⊥

-- the flat state and the placement have the same spaces, of the same images and sizes
abbrev pub AllFit : FlatState → Placement → Type 0
AllFit flat p = (sid : ℕ) → Fits (numbered (λ (s : Space). s.sid) sid (spaces_of flat)) (numbered space_number sid p.spaces)

-- the processes, spaces and next numbers of the machine are those of the flat state
pub record SameTables (k : Kernel) (flat : FlatState) : Type 0 where
  pub processes : map outline_kept k.processes ≡ map outline_of flat.processes
  pub next_pid : k.next_pid ≡ flat.next_pid
  pub next_sid : k.next_sid ≡ flat.next_sid
  pub spaces : AllFit flat k.place

-- a process that is out has its registers in its u page, another in its record
abbrev pub KeepsRegs : Kernel → List ℕ → Bool → Process → Regs → ℕ → Type 0
KeepsRegs k image false q kept sid = kept ≡ q.regs
KeepsRegs k image true q kept sid =
    stored_at image (block_in k.holdings (owners.U q.pid) 0) ≡ u_page q.regs (length (slots_of k.place (Data sid 0))) (length (slots_of k.place (Stack sid 0)))

-- each process that the machine has has its registers where it keeps them
abbrev pub RegistersStand : Kernel → List ℕ → FlatState → Type 0
RegistersStand k image flat =
    (q : Process) (p : Proc) → numbered (λ (x : Process). x.pid) q.pid flat.processes ≡ Some q → numbered (λ (x : Proc). x.pid) q.pid k.processes ≡ Some p
    → KeepsRegs k image (is_out k.place q.pid) q p.regs (space_of_holding q.holding)

-- The machine, the files' images and the swap image stand for the flat state.
pub record Coupled (k : Kernel) (images : List NamedImage) (image : List ℕ) (flat : FlatState) : Type 0 where
  pub tables : SameTables k flat
  pub pages : CouplesPages k.place (beside_kernel k images image flat)
  pub regs : RegistersStand k image flat
