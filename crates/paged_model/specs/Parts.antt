-- The lines of the parts of a move of the hands: what each asks of the placement, by the first reason for which it can't come.
use Rattle.std.specs.Prelude.{ℕ, Bool, true, false, not, Option, Some, None}
use Rattle.vm_facts.specs.declared.page.Page.{Page}
use Rattle.vm_facts.specs.declared.page.PageState.{PageState}
use Rattle.vm_facts.specs.declared.page.PageState.TheVariants.{Valid}
use Rattle.flat_state.specs.PageNames.{number_of, pages_from}
use Rattle.page_model.specs.Placement.{Placement, state_of, is_dirty}
use Rattle.page_model.specs.Runs.{is_idle}
use Rattle.kernel_model.specs.declared.part.HandPart.{HandPart}
use Rattle.kernel_model.specs.declared.part.HandPart.TheVariants as parts
use Rattle.paged_model.specs.declared.reason.Reason.{Reason}
use Rattle.paged_model.specs.declared.reason.Reason.TheVariants as reasons
use Rattle.paged_model.specs.Reasons.{unless, or_reason}
use Rattle.paged_model.specs.Moves.{is_there, if_there, wrong_length, each_page, apart, no_room}
use Rattle.paged_model.specs.Leaving.{unseated_by}

-- `E`.

-- by the state of the page: it is valid
abbrev pub expire_by : Page → PageState → Option Reason
expire_by q (Valid f) = None
expire_by q s = Some (reasons.InState q s)

-- A page is made invalid: it is valid.
abbrev pub expire_reason : Placement → Page → Option Reason
expire_reason p q = if_there (is_there p q) q (expire_by q (state_of p q))

-- `W`.

-- by whether the page is invalid in a frame off the free list
abbrev pub busy_if : Placement → Page → Bool → Option Reason
busy_if p q true = None
busy_if p q false = unseated_by q (state_of p q)

-- the page isn't invalid in a frame off the free list
abbrev pub busy : Placement → Page → Option Reason
busy p q = busy_if p q (is_idle p q)

-- one page that is written with this one: there, invalid in a frame off the free list, dirty and near
abbrev pub write_along : Placement → Page → Page → Option Reason
write_along p q w = if_there (is_there p w) w (or_reason (busy p w) (or_reason (unless (is_dirty p w) (reasons.IsClean w)) (apart q w)))

-- The write of 1 to 16 pages begins: all are invalid in frames off the free list, dirty and near; and there is room for a transfer.
abbrev pub write_reason : Placement → Page → ℕ → Option Reason
write_reason p q n = or_reason (wrong_length n) (or_reason (each_page (write_along p q) (pages_from q (number_of q) n)) (no_room p))

-- `F`.

-- The frame of a page goes to the free list: the page is invalid, its frame is off that list, and it needn't be written.
abbrev pub free_reason : Placement → Page → Option Reason
free_reason p q = if_there (is_there p q) q (or_reason (busy p q) (unless (not (is_dirty p q)) (reasons.IsDirty q)))

-- Each of them.

-- why a part of a move can't come; none where it may
abbrev pub part_reason : Placement → HandPart → Option Reason
part_reason p (parts.Expires q) = expire_reason p q
part_reason p (parts.Writes q n) = write_reason p q n
part_reason p (parts.Frees q) = free_reason p q
