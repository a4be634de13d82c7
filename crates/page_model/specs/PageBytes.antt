-- Where the bytes of each page of a flat memory are: in its frame, on swap, in the file of its image, or nowhere,
-- where they are zeros.
use Rattle.std.specs.Prelude.{◌≡◌, ◌≢◌, ℕ, Bool, false, List, [], ◌∷◌, replicate, Option, Some, None}
use Rattle.vm_facts.specs.declared.page.Page.{Page}
use Rattle.vm_facts.specs.declared.page.Page.TheVariants.{Data, Stack, Text}
use Rattle.vm_facts.specs.declared.page.PageState.{PageState}
use Rattle.vm_facts.specs.declared.page.PageState.TheVariants.{Unfilled, Valid, Invalid, Coming, Going, OnSwap}
use Rattle.page_model.specs.Pages.{Filling, Zeros, OfImage, saved_mark, unsaved_mark, frame_of}
use Rattle.page_model.specs.Frames.{at_frame, set_frame}
use Rattle.page_model.specs.Placement.{Placement, Transfer, Part, Source, Errand, Writes, Reads, FromSwap, FromFile, Due, Start, CopyOf, state_of, mark_of, is_dirty, filling_of, errand_at, due_of_page, parts_of, IsThere}

-- the 1,024 bytes of a page of zeros
unfoldable pub zeros : List ℕ
zeros = replicate 1024 0

-- What stands beside a placement: the bytes of each frame, and for each page those of its two blocks of swap, of its
-- place in the image's file, those that are kept for a new stack page 0, and those of the flat memory.
pub record Bytes : Type 0 where
  pub frames : List (List ℕ)
  pub swap : Page → List ℕ
  pub file : Page → List ℕ
  pub start : Page → List ℕ
  pub memory : Page → List ℕ

-- the bytes of a frame; none where there is no such frame
abbrev pub bytes_in : Bytes → ℕ → List ℕ
bytes_in b f = at_frame b.frames f []

-- the page's bytes are in its frame, and on swap too where it is clean
pub record IsInFrame (b : Bytes) (dirty : Bool) (f : ℕ) (q : Page) : Type 0 where
  pub here : bytes_in b f ≡ b.memory q
  pub there : dirty ≡ false → b.swap q ≡ b.memory q

-- of a page that was never filled, by what is due of it and its filling
abbrev pub KeepsUnfilled : Bytes → Page → Option Due → Filling → Type 0
KeepsUnfilled b q None Zeros = zeros ≡ b.memory q
KeepsUnfilled b q None OfImage = b.file q ≡ b.memory q
KeepsUnfilled b q (Some (Start r)) filling = b.start q ≡ b.memory q
KeepsUnfilled b q (Some (CopyOf r parent)) filling = b.memory parent ≡ b.memory q

-- text that must be read from its file isn't saved
abbrev pub IsUnsaved : Page → Bool → Type 0
IsUnsaved (Data sid v) dirty = Unit {0}
IsUnsaved (Stack sid v) dirty = Unit {0}
IsUnsaved (Text image v) mark = mark ≡ unsaved_mark

-- what a read from a file brings: text that isn't saved, or the one data page that is demanded
abbrev pub IsFromFile : Page → Bool → Page → Type 0
IsFromFile (Data sid v) dirty demanded = Data sid v ≡ demanded
IsFromFile (Stack sid v) dirty demanded = Stack sid v ≡ demanded
IsFromFile (Text image v) mark demanded = mark ≡ unsaved_mark

-- of a page that is being read, by its mark and what its transfer is for
abbrev pub KeepsComing : Bytes → Page → Bool → Option Errand → Type 0
KeepsComing b q mark None = ⊥
KeepsComing b q mark (Some Writes) = ⊥
KeepsComing b q mark (Some (Reads FromSwap demanded)) = b.swap q ≡ b.memory q
KeepsComing b q mark (Some (Reads FromFile demanded)) = (b.file q ≡ b.memory q) × IsFromFile q mark demanded

-- of a page that is being written: text that is saved is on swap
abbrev pub IfSaved : Bytes → Page → Bool → Type 0
IfSaved b (Data sid v) dirty = Unit {0}
IfSaved b (Stack sid v) dirty = Unit {0}
IfSaved b (Text image v) mark = mark ≡ saved_mark → b.swap (Text image v) ≡ b.memory (Text image v)

-- where a page's flat bytes are, by its state
abbrev pub KeepsBy : Placement → Bytes → Page → PageState → Type 0
KeepsBy p b q Unfilled = KeepsUnfilled b q (due_of_page p.due q) (filling_of p q) × IsUnsaved q (mark_of p q)
KeepsBy p b q (Valid f) = IsInFrame b (is_dirty p q) f q
KeepsBy p b q (Invalid f) = IsInFrame b (is_dirty p q) f q
KeepsBy p b q (Coming f) = KeepsComing b q (mark_of p q) (errand_at (parts_of p.transfers) f)
KeepsBy p b q (Going f) = (bytes_in b f ≡ b.memory q) × IfSaved b q (mark_of p q)
KeepsBy p b q OnSwap = b.swap q ≡ b.memory q

-- the page's flat bytes are where its state says
abbrev pub Keeps : Placement → Bytes → Page → Type 0
Keeps p b q = KeepsBy p b q (state_of p q)

-- the flat bytes of each page are where its state says, and those of text are its file's
pub record CouplesPages (p : Placement) (b : Bytes) : Type 0 where
  pub each : (q : Page) → IsThere p q → Keeps p b q
  -- text is never written, and never due
  pub text : (image v : ℕ) → b.file (Text image v) ≡ b.memory (Text image v)
  pub text_due : (image v : ℕ) → due_of_page p.due (Text image v) ≡ None

-- One page in two machines: where it has a frame in both, the frames have the same bytes, and so have its two blocks,
-- and what is kept for it.
pub record SamePage (p q : Placement) (b c : Bytes) (v : Page) : Type 0 where
  pub frames : (f g : ℕ) → frame_of (state_of p v) ≡ Some f → frame_of (state_of q v) ≡ Some g → bytes_in c g ≡ bytes_in b f
  pub swap : c.swap v ≡ b.swap v
  pub start : c.start v ≡ b.start v

-- other bytes in one frame
abbrev pub with_frame : Bytes → ℕ → List ℕ → Bytes
with_frame b f bytes = record b { frames = set_frame b.frames f bytes }

-- what a read brings
abbrev pub source_bytes : Bytes → Source → Page → List ℕ
source_bytes b FromSwap v = b.swap v
source_bytes b FromFile v = b.file v

-- what a write changes beside: the page's own blocks
pub record Stores (b c : Bytes) (v : Page) (bytes : List ℕ) : Type 0 where
  pub frames : c.frames ≡ b.frames
  pub own : c.swap v ≡ bytes
  pub others : (w : Page) → w ≢ v → c.swap w ≡ b.swap w
  pub file : (w : Page) → c.file w ≡ b.file w
  pub start : (w : Page) → c.start w ≡ b.start w
  pub memory : (w : Page) → c.memory w ≡ b.memory w

-- other bytes in a frame, and in the flat memory of its page
pub record WritesBoth (b c : Bytes) (v : Page) (f : ℕ) (bytes : List ℕ) : Type 0 where
  pub frames : c.frames ≡ set_frame b.frames f bytes
  pub own : c.memory v ≡ bytes
  pub others : (w : Page) → w ≢ v → c.memory w ≡ b.memory w
  pub swap : (w : Page) → c.swap w ≡ b.swap w
  pub file : (w : Page) → c.file w ≡ b.file w
  pub start : (w : Page) → c.start w ≡ b.start w

-- text takes no frame but by a read
abbrev pub IsWritable : Page → Type 0
IsWritable (Data sid n) = Unit {0}
IsWritable (Stack sid n) = Unit {0}
IsWritable (Text image n) = ⊥

-- what a page that is read from swap, or from its file, was
abbrev pub ReadsFrom : Placement → Source → Page → Page → Type 0
ReadsFrom p FromSwap demanded v = state_of p v ≡ OnSwap
ReadsFrom p FromFile demanded v = (state_of p v ≡ Unfilled) × (filling_of p v ≡ OfImage) × (due_of_page p.due v ≡ None) × (IsWritable v → v ≡ demanded)

-- after a read the frames have what was read
abbrev pub bytes_read : Bytes → Source → List Part → Bytes
bytes_read b source [] = b
bytes_read b source (x ∷ xs) = bytes_read (with_frame b x.frame (source_bytes b source x.page)) source xs

-- after a write the blocks have the bytes of the frames, one page after another
abbrev pub StoresAll : Bytes → List Part → Bytes → Type 0
StoresAll b [] c = b ≡ c
StoresAll b (x ∷ xs) c = (m : Bytes) × Stores b m x.page (bytes_in b x.frame) × StoresAll m xs c

-- what the end of a transfer makes of the bytes: of a write those on swap, of a read those of the frames
abbrev pub BytesBy : Bytes → Errand → List Part → Bytes → Type 0
BytesBy b Writes xs c = StoresAll b xs c
BytesBy b (Reads source demanded) xs c = bytes_read b source xs ≡ c

-- what the end of the oldest transfer makes of the bytes
abbrev pub BytesAfter : Bytes → List Transfer → Bytes → Type 0
BytesAfter b [] c = b ≡ c
BytesAfter b (t ∷ ts) c = BytesBy b t.errand t.parts c

-- what stands beside the page is the same
pub record SameBytes (b c : Bytes) (w : Page) : Type 0 where
  pub frames : c.frames ≡ b.frames
  pub swap : c.swap w ≡ b.swap w
  pub file : c.file w ≡ b.file w
  pub start : c.start w ≡ b.start w
  pub memory : c.memory w ≡ b.memory w

-- the child's page has the bytes that its parent's has, and the same file's
pub record Copies (b c : Bytes) (child parent : Page) : Type 0 where
  pub memory : c.memory child ≡ b.memory parent
  pub file : c.file child ≡ b.file parent

-- a new page has the bytes that fill it
abbrev pub FillsBy : Bytes → Page → Filling → Type 0
FillsBy c q Zeros = zeros ≡ c.memory q
FillsBy c q OfImage = c.file q ≡ c.memory q

-- the page isn't one of a transfer's pages
abbrev pub NotIn : Page → List Part → Type 0
NotIn w [] = Unit {0}
NotIn w (x ∷ xs) = (w ≢ x.page) × NotIn w xs
