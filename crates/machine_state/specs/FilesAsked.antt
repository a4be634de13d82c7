-- What the end of a transfer asks of the files: a read for each page that comes from one.
use Rattle.std.specs.Prelude.{◌≡◌, ◌⊎◌, ℕ, Bool, List, [], ◌∷◌, Result, Ok, Err}
use Rattle.vm_facts.specs.FileRequests.{FileRequest, FileNotes, after_requests}
use Rattle.vm_facts.specs.declared.stop.Stop.{Stop}
use Rattle.vm_facts.specs.declared.stop.Stop.TheVariants as stops
use Rattle.page_model.specs.Placement.{Placement, Transfer, Part, FromSwap, FromFile, Errand, Writes, Reads, image_of}
use Rattle.kernel_model.specs.Requests.{ImageFile, fill_asked, fills_asked}

-- by what a transfer of these pages is for: one of swap asks nothing of files
abbrev pub errand_asked : List ImageFile → (ℕ → ℕ) → Errand → List Part → List FileRequest
errand_asked files image_of Writes xs = []
errand_asked files image_of (Reads FromSwap demanded) xs = []
errand_asked files image_of (Reads FromFile demanded) xs = fills_asked files image_of xs

-- those of the oldest of transfers; none where none is in flight
abbrev pub oldest_asked : List ImageFile → (ℕ → ℕ) → List Transfer → List FileRequest
oldest_asked files image_of [] = []
oldest_asked files image_of (t ∷ ts) = errand_asked files image_of t.errand t.parts

-- some of these pages were asked for, in their order: the last of them is the one whose read failed
abbrev pub AskedUpTo : List ImageFile → (ℕ → ℕ) → List Part → FileNotes → FileNotes → Type 0
AskedUpTo files image_of [] old new = ⊥
AskedUpTo files image_of (x ∷ xs) old new =
    (new ≡ after_requests (fill_asked files image_of x.page) old)
    ⊎ AskedUpTo files image_of xs (after_requests (fill_asked files image_of x.page) old) new

-- the same of the pages of the oldest transfer
abbrev pub OldestAskedUpTo : List ImageFile → (ℕ → ℕ) → List Transfer → FileNotes → FileNotes → Type 0
OldestAskedUpTo files image_of [] old new = ⊥
OldestAskedUpTo files image_of (t ∷ ts) old new = AskedUpTo files image_of t.parts old new

-- What the files will have noted after the end of the oldest transfer of a placement, by the answer: each of its reads was made
-- once; where one failed, those up to that one; and none where another cause stopped it.
abbrev pub NotedAfter : Result Bool Stop → List ImageFile → Placement → FileNotes → FileNotes → Type 0
NotedAfter (Ok more) files p old new = new ≡ after_requests (oldest_asked files (image_of p) p.transfers) old
NotedAfter (Err stops.FileFault) files p old new = OldestAskedUpTo files (image_of p) p.transfers old new
NotedAfter (Err _) files p old new = new ≡ old
