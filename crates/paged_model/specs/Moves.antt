-- The lines that move pages: what each asks of the placement, by the first reason for which it can't come.
use Rattle.std.specs.Prelude.{ℕ, ◌+◌, nat_lt, nat_le, Bool, true, false, not, ◌&&◌, List, [], ◌∷◌, length, Option, Some, None}
use Rattle.vm_facts.specs.declared.page.Page.{Page}
use Rattle.vm_facts.specs.declared.page.Page.TheVariants.{Data, Stack, Text}
use Rattle.vm_facts.specs.declared.page.PageState.{PageState}
use Rattle.vm_facts.specs.declared.page.PageState.TheVariants.{Unfilled, Valid, Invalid, OnSwap}
use Rattle.flat_state.specs.PageNames.{number_of, same_page, pages_from}
use Rattle.page_model.specs.Pages.{Filling, Zeros, OfImage, is_unfilled, is_on_swap}
use Rattle.page_model.specs.Placement.{Placement, Transfer, Due, Start, CopyOf, slots_of, state_of, filling_of, sharers}
use Rattle.page_model.specs.Runs.{Run, is_near, most_written}
use Rattle.page_model.specs.Hands.{hand_run, wants_moves}
use Rattle.page_model.specs.Serve.{is_full}
use Rattle.paged_model.specs.declared.reason.Reason.{Reason}
use Rattle.paged_model.specs.declared.reason.Reason.TheVariants as reasons
use Rattle.paged_model.specs.Reasons.{unless, or_reason}

-- Words.

-- the page is of a live space, or of the text of an image
abbrev pub is_there : Placement → Page → Bool
is_there p q = nat_lt (number_of q) (length (slots_of p q))

-- of a page that is there this, and else that it isn't
abbrev pub if_there : Bool → Page → Option Reason → Option Reason
if_there true q reason = reason
if_there false q reason = Some (reasons.NoPage q)

-- an unfilled page is filled with zeros
abbrev pub has_zeros : Filling → Bool
has_zeros Zeros = true
has_zeros OfImage = false

-- a frame is free
abbrev pub no_frame : List ℕ → Option Reason
no_frame [] = Some reasons.NoFrame
no_frame (f ∷ fs) = None

-- so many frames are free
abbrev pub few_frames : List ℕ → ℕ → Option Reason
few_frames [] n = Some reasons.NoFrame
few_frames (f ∷ fs) n = unless (nat_le n (length (f ∷ fs))) (reasons.FewFrames (length (f ∷ fs)))

-- there is room for one transfer more
abbrev pub no_room : Placement → Option Reason
no_room p = unless (not (is_full p)) reasons.FullFlight

-- a data or stack page, or text that a space shares
abbrev pub is_shared : Placement → Page → Bool
is_shared p (Data sid v) = true
is_shared p (Stack sid v) = true
is_shared p (Text image v) = nat_lt 0 (sharers p image)

-- no space shares the text of the page
abbrev pub unshared : Placement → Page → Option Reason
unshared p q = unless (is_shared p q) (reasons.Unshared q)

-- a page is due
abbrev pub due_first : List Due → Option Reason
due_first [] = None
due_first (Start q ∷ ds) = Some (reasons.DueFirst q)
due_first (CopyOf q parent ∷ ds) = Some (reasons.DueFirst q)

-- a transfer has 1 to 16 pages
abbrev pub wrong_length : ℕ → Option Reason
wrong_length n = unless (nat_lt 0 n && nat_le n most_written) reasons.WrongLength

-- the first reason that one of these pages gives
abbrev pub each_page : (Page → Option Reason) → List Page → Option Reason
each_page reason [] = None
each_page reason (q ∷ qs) = or_reason (reason q) (each_page reason qs)

-- the page isn't near the other, with which it would be moved
abbrev pub apart : Page → Page → Option Reason
apart q w = unless (is_near q (number_of w)) (reasons.InOtherChunk w)

-- `Z`.

-- another page is due first than this one, or a copy is
abbrev pub zero_due : List Due → Page → Option Reason
zero_due [] q = None
zero_due (Start r ∷ ds) q = unless (same_page r q) (reasons.DueFirst r)
zero_due (CopyOf r parent ∷ ds) q = Some (reasons.DueFirst r)

-- by the state of the page: it was never filled
abbrev pub zero_by : Placement → Page → PageState → Option Reason
zero_by p q Unfilled = or_reason (unless (has_zeros (filling_of p q)) (reasons.FromFile q)) (or_reason (zero_due p.due q) (no_frame p.free))
zero_by p q s = Some (reasons.InState q s)

-- A page that has to be filled with zeros takes a frame: it was never filled, nothing is due before it, and a frame is free.
abbrev pub zero_reason : Placement → Page → Option Reason
zero_reason p q = if_there (is_there p q) q (zero_by p q (state_of p q))

-- `C`.

-- by the state of the parent's page: it is valid, and a frame is free
abbrev pub parent_by : Placement → Page → PageState → Option Reason
parent_by p parent (Valid f) = no_frame p.free
parent_by p parent s = Some (reasons.InState parent s)

-- by what is due: the first is a copy to this page, from one that is valid
abbrev pub copy_due : Placement → Page → List Due → Option Reason
copy_due p q [] = Some (reasons.NoCopyDue q)
copy_due p q (Start r ∷ ds) = Some (reasons.DueFirst r)
copy_due p q (CopyOf r parent ∷ ds) = or_reason (unless (same_page r q) (reasons.DueFirst r)) (parent_by p parent (state_of p parent))

-- A child's page is copied: that is due first, its parent's page is valid, and a frame is free.
abbrev pub copy_reason : Placement → Page → Option Reason
copy_reason p q = if_there (is_there p q) q (copy_due p q p.due)

-- `G`.

-- the page comes along from the file: it is unfilled text as the other is, or is that page itself
abbrev pub comes_along : Placement → Page → Page → Bool
comes_along p (Text image v) w = is_unfilled (state_of p w)
comes_along p q w = same_page q w

-- by the state of the page that is wanted: another is read with it from where that is read from; from swap, out of the same chunk
abbrev pub reads_with : Placement → Page → PageState → Page → Option Reason
reads_with p q OnSwap w = or_reason (unless (is_on_swap (state_of p w)) (reasons.ReadElsewhere w)) (apart q w)
reads_with p q s w = unless (comes_along p q w) (reasons.ReadElsewhere w)

-- one page of the run that is read with this one, which is in this state
abbrev pub read_reason : Placement → Page → PageState → Page → Option Reason
read_reason p q s w = if_there (is_there p w) w (reads_with p q s w)

-- the page is none of 1 to 16 pages from this one on
abbrev pub not_among : Page → ℕ → ℕ → Option Reason
not_among q lo n = or_reason (wrong_length n) (unless (nat_le lo (number_of q) && nat_lt (number_of q) (lo + n)) (reasons.NotAmong q))

-- the pages of a run are all read from where the wanted one is read from, each has a frame, and there is room for a transfer
abbrev pub run_reason : Placement → Page → PageState → ℕ → ℕ → Option Reason
run_reason p q s lo n = or_reason (each_page (read_reason p q s) (pages_from q lo n)) (or_reason (few_frames p.free n) (no_room p))

-- by the state of the page that is wanted: it is on swap, or has to be read from its file
abbrev pub get_by : Placement → Page → PageState → ℕ → ℕ → Option Reason
get_by p q OnSwap lo n = or_reason (not_among q lo n) (run_reason p q OnSwap lo n)
get_by p q Unfilled lo n =
    or_reason (unless (not (has_zeros (filling_of p q))) (reasons.OfZeros q)) (or_reason (not_among q lo n) (run_reason p q Unfilled lo n))
get_by p q s lo n = Some (reasons.InState q s)

-- A read begins: of 1 to 16 pages, the wanted one among them, that are all read from where that one is; text is shared; each has a frame; and
-- there is room for a transfer.
abbrev pub get_reason : Placement → Page → ℕ → ℕ → Option Reason
get_reason p q lo n = if_there (is_there p q) q (or_reason (unshared p q) (get_by p q (state_of p q) lo n))

-- `R`.

-- by the state of the page: a frame still holds it, and text is shared
abbrev pub reclaim_by : Placement → Page → PageState → Option Reason
reclaim_by p q (Invalid f) = unshared p q
reclaim_by p q s = Some (reasons.InState q s)

-- A page is taken back: a frame still holds it, and text is shared.
abbrev pub reclaim_reason : Placement → Page → Option Reason
reclaim_reason p q = if_there (is_there p q) q (reclaim_by p q (state_of p q))

-- `H`.

-- by the write that a move begins: there is room for it
abbrev pub write_room : Placement → Option (Page × Run) → Option Reason
write_room p None = None
write_room p (Some w) = no_room p

-- The hands move once, over these locked pages: fewer than a quarter of the frames are free, and there is room for the write that begins.
abbrev pub hand_reason : Placement → List Page → Option Reason
hand_reason p locked = or_reason (unless (wants_moves p) reasons.EnoughFree) (write_room p (hand_run p locked))

-- `D`.

-- The oldest transfer ends: there is one.
abbrev pub done_reason : List Transfer → Option Reason
done_reason [] = Some reasons.NoTransfer
done_reason (t ∷ ts) = None
