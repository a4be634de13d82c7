-- The smallest moves of paging: one page gets, leaves or loses one frame. Every step is made of these.
use Rattle.std.specs.Prelude.{ℕ, zero, suc, Bool, true, false, List, [], ◌∷◌, ◌++◌, Option, Some, None}
use Rattle.vm_facts.specs.declared.page.Page.{Page}
use Rattle.vm_facts.specs.declared.page.Page.TheVariants.{Data, Stack, Text}
use Rattle.vm_facts.specs.declared.page.PageState.{PageState}
use Rattle.vm_facts.specs.declared.page.PageState.TheVariants.{Unfilled, Valid, Invalid, Coming, Going, OnSwap}
use Rattle.flat_state.specs.PageNames.{same_page}
use Rattle.page_model.specs.Pages.{dirty_mark, unsaved_mark, unmarked, written_mark, left_state, frame_of}
use Rattle.page_model.specs.Frames.{set_frame}
use Rattle.vm_facts.specs.Lists.{times, without}
use Rattle.page_model.specs.Placement.{Placement, Transfer, Part, Errand, Writes, Reads, Source, FromSwap, FromFile, state_of, mark_of, page_of, put}

-- Taking a frame.

-- the frame no longer holds its page, which is on swap, or, as text that isn't saved, in its file
abbrev pub evict_at : Placement → ℕ → Option Page → Placement
evict_at p f None = p
evict_at p f (Some q) = record (put p q (left_state q (mark_of p q)) (mark_of p q)) { holds = set_frame p.holds f None }

-- the frame loses its page, if it holds one
abbrev pub evict : Placement → ℕ → Placement
evict p f = evict_at p f (page_of p f)

-- a page takes a free frame that holds no page
abbrev pub enter : Placement → Page → ℕ → PageState → Bool → List Transfer → Placement
enter p q f s m transfers =
    record (put p q s m) { holds = set_frame p.holds f (Some q); free = without f p.free; transfers = transfers }

-- a page moves on with its frame
abbrev pub turn : Placement → Page → PageState → Bool → List ℕ → List Transfer → Placement
turn p q s m free transfers = record (put p q s m) { free = free; transfers = transfers }

-- a page takes the first of these free frames, valid and marked; with none free nothing changes
abbrev pub fill_at : Placement → Page → List ℕ → Placement
fill_at p q [] = p
fill_at p q (f ∷ rest) = enter (evict p f) q f (Valid f) dirty_mark p.transfers

-- a data or stack page takes the first free frame and is dirty
abbrev pub fill : Placement → Page → Placement
fill p q = fill_at p q p.free

-- Transfers.

-- a page takes the first of these free frames, and is coming; with none free nothing changes
abbrev pub take_frame_at : Placement → Page → List ℕ → Placement
take_frame_at p q [] = p
take_frame_at p q (f ∷ rest) = enter (evict p f) q f (Coming f) (mark_of p q) p.transfers

-- a page takes the first free frame, and is coming
abbrev pub take_frame : Placement → Page → Placement
take_frame p q = take_frame_at p q p.free

-- these pages take free frames in turn
abbrev pub take_frames : Placement → List Page → Placement
take_frames p [] = p
take_frames p (q ∷ qs) = take_frames (take_frame p q) qs

-- these pages with the free frames that they take in turn, as far as these frames go
abbrev pub taken_parts : List Page → List ℕ → List Part
taken_parts [] free = []
taken_parts (q ∷ qs) [] = []
taken_parts (q ∷ qs) (f ∷ free) = record { page = q; frame = f } ∷ taken_parts qs (without f free)

-- these pages take free frames in turn, and the read of them into these frames is in flight
abbrev pub get_run : Placement → Errand → List Page → Placement
get_run p e qs = record (take_frames p qs) { transfers = p.transfers ++ record { errand = e; parts = taken_parts qs p.free } ∷ [] }

-- a page in this state is going, from its frame: only a valid or invalid one changes
abbrev pub send_to : Placement → Page → PageState → Placement
send_to p q (Valid f) = turn p q (Going f) (mark_of p q) p.free p.transfers
send_to p q (Invalid f) = turn p q (Going f) (mark_of p q) p.free p.transfers
send_to p q _ = p

-- a valid or invalid page is going, from its frame
abbrev pub send : Placement → Page → Placement
send p q = send_to p q (state_of p q)

-- these pages are going in turn
abbrev pub send_all : Placement → List Page → Placement
send_all p [] = p
send_all p (q ∷ qs) = send_all (send p q) qs

-- a page in this state with the frame that it is written from: only a valid or invalid one
abbrev pub sent_part : Page → PageState → List Part
sent_part q (Valid f) = record { page = q; frame = f } ∷ []
sent_part q (Invalid f) = record { page = q; frame = f } ∷ []
sent_part q _ = []

-- these pages with the frames that they are written from, each once
abbrev pub sent_parts : Placement → List Page → List Part
sent_parts p [] = []
sent_parts p (q ∷ qs) = sent_part q (state_of p q) ++ sent_parts (send p q) qs

-- these pages are going, and the write of them from their frames is in flight
abbrev pub launch_run : Placement → List Page → Placement
launch_run p qs = record (send_all p qs) { transfers = p.transfers ++ record { errand = Writes; parts = sent_parts p qs } ∷ [] }

-- the mark of a demanded page that was read: a data page from the image was never on swap
abbrev pub arrived_mark : Source → Page → Bool → Bool
arrived_mark FromFile (Data sid v) m = dirty_mark
arrived_mark FromFile (Stack sid v) m = dirty_mark
arrived_mark FromFile (Text image v) m = m
arrived_mark FromSwap q m = m

-- a page that was read lands: the demanded one is valid, and another's frame goes to the tail of the free list
abbrev pub land_read : Placement → Source → Part → Bool → Placement
land_read p source x true = turn p x.page (Valid x.frame) (arrived_mark source x.page (mark_of p x.page)) p.free p.transfers
land_read p source x false = turn p x.page (Invalid x.frame) (mark_of p x.page) (p.free ++ x.frame ∷ []) p.transfers

-- a page lands, by what its transfer is for: the frame of a page that was written goes to the tail of the free list
abbrev pub land : Placement → Errand → Part → Placement
land p Writes x = turn p x.page (Invalid x.frame) (written_mark x.page) (p.free ++ x.frame ∷ []) p.transfers
land p (Reads source demanded) x = land_read p source x (same_page x.page demanded)

-- these pages of a transfer land in turn
abbrev pub land_all : Placement → Errand → List Part → Placement
land_all p e [] = p
land_all p e (x ∷ xs) = land_all (land p e x) e xs

-- the first of these transfers is gone, and its pages land in turn; without one nothing changes
abbrev pub done_of : Placement → List Transfer → Placement
done_of p [] = p
done_of p (t ∷ ts) = land_all (record p { transfers = ts }) t.errand t.parts

-- the oldest transfer is complete
abbrev pub done : Placement → Placement
done p = done_of p p.transfers

-- Without a transfer.

-- a page in this state is reclaimed: only an invalid one changes
abbrev pub reclaim_to : Placement → Page → PageState → Placement
reclaim_to p q (Invalid f) = turn p q (Valid f) (mark_of p q) (without f p.free) p.transfers
reclaim_to p q _ = p

-- an invalid page is valid, and its frame leaves the free list
abbrev pub reclaim : Placement → Page → Placement
reclaim p q = reclaim_to p q (state_of p q)

-- a page in this state is retired: only a valid or invalid one changes
abbrev pub retire_to : Placement → Page → PageState → Placement
retire_to p q (Valid f) = turn p q (Invalid f) (mark_of p q) (p.free ++ f ∷ []) p.transfers
retire_to p q (Invalid f) = turn p q (Invalid f) (mark_of p q) (p.free ++ f ∷ []) p.transfers
retire_to p q _ = p

-- a clean page's frame goes to the tail of the free list, and still holds the page
abbrev pub retire : Placement → Page → Placement
retire p q = retire_to p q (state_of p q)

-- a user write of a page in this state: only a valid data or stack page changes
abbrev pub touch_to : Placement → Page → PageState → Placement
touch_to p (Data sid v) (Valid f) = turn p (Data sid v) (Valid f) dirty_mark p.free p.transfers
touch_to p (Stack sid v) (Valid f) = turn p (Stack sid v) (Valid f) dirty_mark p.free p.transfers
touch_to p _ _ = p

-- a user write makes a valid data or stack page dirty
abbrev pub touch : Placement → Page → Placement
touch p q = touch_to p q (state_of p q)

-- a user write of each of these pages, in turn
abbrev pub touch_all : Placement → List Page → Placement
touch_all p [] = p
touch_all p (q ∷ qs) = touch_all (touch p q) qs

-- Giving up.

-- the page is forgotten; its frame goes to the head of the free list, with no page
abbrev pub drop_at : Placement → Page → Option ℕ → Placement
drop_at p q None = put p q Unfilled unmarked
drop_at p q (Some f) = record (put p q Unfilled unmarked) { holds = set_frame p.holds f None; free = f ∷ without f p.free }

-- the page is forgotten, and the frame that its state names, if any, is the first free one
abbrev pub drop_page : Placement → Page → Placement
drop_page p q = drop_at p q (frame_of (state_of p q))

-- these pages are forgotten in turn
abbrev pub drop_all : Placement → List Page → Placement
drop_all p [] = p
drop_all p (q ∷ qs) = drop_all (drop_page p q) qs

-- a text page that nobody shares is no longer saved: a frame off the free list, by its times there, goes to the tail,
-- and what was on swap alone must be read from the file again
abbrev pub leave_by : Placement → Page → PageState → ℕ → Placement
leave_by p q (Valid f) listed = turn p q (Invalid f) unsaved_mark (p.free ++ f ∷ []) p.transfers
leave_by p q (Invalid f) zero = turn p q (Invalid f) unsaved_mark (p.free ++ f ∷ []) p.transfers
leave_by p q (Invalid f) (suc n) = turn p q (Invalid f) unsaved_mark p.free p.transfers
leave_by p q OnSwap listed = put p q Unfilled unsaved_mark
leave_by p q Unfilled listed = put p q Unfilled unsaved_mark
leave_by p q (Coming f) listed = p
leave_by p q (Going f) listed = p

-- how often a frame stands on the free list; 0 for no frame
abbrev pub listed_of : Placement → Option ℕ → ℕ
listed_of p None = 0
listed_of p (Some f) = times f p.free

-- how often the frame of a page stands on the free list
abbrev pub listed : Placement → Page → ℕ
listed p q = listed_of p (frame_of (state_of p q))

-- a text page that nobody shares leaves, by its state; in flight it stays as it is
abbrev pub leave_page : Placement → Page → Placement
leave_page p q = leave_by p q (state_of p q) (listed p q)

-- these text pages leave in turn
abbrev pub leave_all : Placement → List Page → Placement
leave_all p [] = p
leave_all p (q ∷ qs) = leave_all (leave_page p q) qs
