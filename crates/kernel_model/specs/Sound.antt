-- What stays so of a machine that has not stopped, with no flat state in sight.
use Rattle.std.specs.Prelude.{◌≡◌, ℕ, ◌*◌, ◌≤◌, Bool, true, false, ◌||◌, List, [], ◌∷◌, length, Option, Some, None, ◌<◌}
use Rattle.vm_facts.specs.declared.page.Page.{Page}
use Rattle.vm_facts.specs.declared.page.Page.TheVariants.{Text}
use Rattle.page_model.specs.AoutImageImage.{Loaded, data_given, image_data_pages, page_at}
use Rattle.page_model.specs.Flat.{NamedImage, image_numbered}
use Rattle.page_model.specs.Pages.{numbered}
use Rattle.page_model.specs.PageNames.{same_page}
use Rattle.page_model.specs.Placement.{Placement, Due, Start, CopyOf, due_of_page, slots_of}
use Rattle.page_model.specs.Rank.{HandsStand}
use Rattle.page_model.specs.Ownership.{OneOwner}
use Rattle.page_model.specs.PageBytes.{zeros}
use Rattle.kernel_model.specs.Kernel.{Life, Ended, Proc, StartBytes, Kernel}
use Rattle.kernel_model.specs.Coupled.{image_text}

-- What is so of each machine that hasn't stopped.

-- what a process has is no exit status: it is no zombie
abbrev pub has_life : Life → Bool
has_life (Ended status) = false
has_life _ = true

-- there is such a process, and it is no zombie
abbrev pub lives_in : Option Proc → Bool
lives_in None = false
lives_in (Some p) = has_life p.life

-- the process is there, and no zombie
abbrev pub lives : List Proc → ℕ → Bool
lives ps pid = lives_in (numbered (λ (x : Proc). x.pid) pid ps)

-- each frame and block has one owner, each frame its bytes, the hands are in place, and at most 16 transfers in flight
pub record Sound (size : ℕ) (k : Kernel) : Type 0 where
  pub owner : OneOwner size (lives k.processes) k.place k.holdings
  pub tokens : length k.frames ≡ length k.place.holds
  pub hands : HandsStand k.place
  pub few_transfers : length k.place.transfers ≤ 16

-- the machine stopped, or all this is so of it
abbrev pub StoppedOrSound : ℕ → Kernel → Type 0
StoppedOrSound size k = k.stopped ≡ false → Sound size k

-- bytes are kept for the page
abbrev pub has_start : List StartBytes → Page → Bool
has_start [] q = false
has_start (s ∷ ss) q = same_page s.page q || has_start ss q

-- what is due is a new stack page 0, with bytes that are kept
abbrev pub is_start : Option Due → Bool
is_start None = false
is_start (Some (Start q)) = true
is_start (Some (CopyOf q parent)) = false

-- bytes are kept for no page but one that is due with them
abbrev pub KeepsStarts : Kernel → Type 0
KeepsStarts k = (q : Page) → is_start (due_of_page k.place.due q) ≡ false → has_start k.starts q ≡ false

-- the data of an image is as long as its pages, and zeros after what its file gives
pub record DataFits (image : Loaded) : Type 0 where
  pub size : length image.data ≡ 1024 * image_data_pages image.facts
  pub rest : (v : ℕ) → data_given image.facts ≤ 1024 * v → v < image_data_pages image.facts → page_at v image.data ≡ zeros

-- the text of each image is as long as its pages
abbrev pub TextFits : List NamedImage → Placement → Type 0
TextFits images p = (image : ℕ) → length (image_text (image_numbered images image)) ≡ 1024 * length (slots_of p (Text image 0))
