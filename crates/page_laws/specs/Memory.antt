-- Statements that each page's flat bytes stay where its state says, step by step.
use Rattle.std.specs.Prelude.{◌≡◌, ◌≢◌, ℕ, ◌<◌, ◌≤◌, List, [], ◌∷◌, length}
use Rattle.vm_facts.specs.declared.page.Page.{Page}
use Rattle.vm_facts.specs.declared.page.Page.TheVariants.{Data, Stack, Text}
use Rattle.vm_facts.specs.declared.page.PageState.TheVariants.{Valid}
use Rattle.aout_image.specs.declared.Image.{Image}
use Rattle.aout_image.specs.Image.{image_data_pages}
use Rattle.page_model.specs.PageNames.{number_of}
use Rattle.page_model.specs.Placement.{Placement, Source, Reads, slots_of, state_of, IsThere, data_filling}
use Rattle.page_model.specs.Moves.{touch, get_run, drop_all}
use Rattle.page_model.specs.Place.{filled, resize, fork_space, enter_space, remove_space, pages_of_space}
use Rattle.page_model.specs.Conditions.{EachPage, AllApart, CanEnter, IsNew}
use Rattle.page_model.specs.Ownership.{OwnsFrames}
use Rattle.page_model.specs.PageBytes.{zeros, Bytes, CouplesPages, SamePage, SameBytes, with_frame, IsWritable, WritesBoth, Copies, FillsBy}

-- a fill of a page with its flat bytes
abbrev pub FillKeepsBytes : Type 0
FillKeepsBytes = (p : Placement) (q : Page) (f : ℕ) (rest : List ℕ) (b : Bytes) (bytes : List ℕ)
    → OwnsFrames p → CanEnter p q → p.free ≡ f ∷ rest → length b.frames ≡ length p.holds → IsWritable q
    → bytes ≡ b.memory q → CouplesPages p b → CouplesPages (filled p q) (with_frame b f bytes)

-- a user write, into the frame of its page
abbrev pub UserWriteKeepsBytes : Type 0
UserWriteKeepsBytes = (p : Placement) (q : Page) (f : ℕ) (b c : Bytes) (bytes : List ℕ)
    → OwnsFrames p → state_of p q ≡ Valid f → IsWritable q → p.due ≡ [] → length b.frames ≡ length p.holds
    → WritesBoth b c q f bytes → CouplesPages p b → CouplesPages (touch p q) c

-- growth and break: the pages that stay keep their bytes, and the new ones are zeros
abbrev pub ResizeKeepsBytes : Type 0
ResizeKeepsBytes = (p : Placement) (sid d s : ℕ) (b c : Bytes)
    → CouplesPages p b → p.due ≡ [] → ((w : Page) → IsThere (resize p sid d s) w → IsThere p w → SameBytes b c w)
    → ((w : Page) → IsThere (resize p sid d s) w → length (slots_of p w) ≤ number_of w → zeros ≡ c.memory w)
    → ((image v : ℕ) → c.file (Text image v) ≡ c.memory (Text image v)) → CouplesPages (resize p sid d s) c

-- a fork: each page of the child has the bytes of the parent's
abbrev pub ForkKeepsBytes : Type 0
ForkKeepsBytes = (p : Placement) (parent child : ℕ) (b c : Bytes)
    → CouplesPages p b → IsNew p child → p.due ≡ [] → ((w : Page) → IsThere p w → SameBytes b c w)
    → ((v : ℕ) → Copies b c (Data child v) (Data parent v)) → ((v : ℕ) → Copies b c (Stack child v) (Stack parent v))
    → ((image v : ℕ) → c.file (Text image v) ≡ c.memory (Text image v)) → CouplesPages (fork_space p parent child) c

-- a new space, whose pages have the bytes that fill them
abbrev pub NewSpaceKeepsBytes : Type 0
NewSpaceKeepsBytes = (p : Placement) (sid image : ℕ) (facts : Image) (b c : Bytes)
    → CouplesPages p b → IsNew p sid → p.due ≡ [] → ((w : Page) → IsThere p w → SameBytes b c w)
    → ((v : ℕ) → v < image_data_pages facts → FillsBy c (Data sid v) (data_filling facts v))
    → c.start (Stack sid 0) ≡ c.memory (Stack sid 0) → ((i v : ℕ) → c.file (Text i v) ≡ c.memory (Text i v))
    → CouplesPages (enter_space p sid image facts) c

-- a space that goes with its pages
abbrev pub RemovedSpaceKeepsBytes : Type 0
RemovedSpaceKeepsBytes = (p : Placement) (sid : ℕ) (b c : Bytes)
    → CouplesPages p b → p.due ≡ []
    → ((w : Page) → IsThere (remove_space (drop_all p (pages_of_space p sid)) sid) w → IsThere p w → SameBytes b c w)
    → ((image v : ℕ) → c.file (Text image v) ≡ c.memory (Text image v))
    → CouplesPages (remove_space (drop_all p (pages_of_space p sid)) sid) c

-- a read leaves each page outside its run the same
abbrev pub ReadLeavesOthersSame : Type 0
ReadLeavesOthersSame = (p : Placement) (source : Source) (demanded : Page) (qs : List Page) (b : Bytes) (w : Page)
    → OwnsFrames p → EachPage (CanEnter p) qs → AllApart qs → EachPage (λ r. w ≢ r) qs
    → SamePage p (get_run p (Reads source demanded) qs) b b w
