-- The words in which it is told why a line of a trace can't come.
use Rattle.std.specs.Prelude.{ℕ, ◌-◌, List, [], ◌++◌, length, take, codes, decimal, Option, Some, None}
use Rattle.vm_facts.specs.declared.page.Page.{Page}
use Rattle.vm_facts.specs.declared.page.Page.TheVariants.{Data, Stack, Text}
use Rattle.vm_facts.specs.declared.page.PageState.{PageState}
use Rattle.vm_facts.specs.declared.page.PageState.TheVariants.{Unfilled, Valid, Invalid, Coming, Going, OnSwap}
use Rattle.run_text.specs.Text.{line_of}
use Rattle.repage_command.specs.Grammar.{part_line}
use Rattle.paged_model.specs.declared.line.Line.{Line}
use Rattle.paged_model.specs.declared.line.Line.TheVariants as lines
use Rattle.paged_model.specs.declared.reason.Reason.{Reason}
use Rattle.paged_model.specs.declared.reason.Reason.TheVariants as reasons
use Rattle.replay_command.specs.Explaining.{around_number}

-- the line of a run of so many lines
abbrev pub paged_line : ℕ → List ℕ
paged_line n = codes "paged run: " ++ decimal n ++ codes " entries\n"

-- a page by its number, with the space or the image that has it
abbrev pub page_words : Page → List ℕ
page_words (Data sid v) = around_number (codes "data page ") v (codes " of space ") ++ decimal sid
page_words (Stack sid v) = around_number (codes "stack page ") v (codes " of space ") ++ decimal sid
page_words (Text image v) = around_number (codes "text page ") v (codes " of image ") ++ decimal image

-- a page between two texts
abbrev pub around_page : List ℕ → Page → List ℕ → List ℕ
around_page before q behind = before ++ page_words q ++ behind

-- how a page is in this state, where the transfer that has its frame has this number
abbrev pub state_words : ℕ → PageState → List ℕ
state_words transfer Unfilled = codes " isn't valid: it isn't filled yet\n"
state_words transfer (Valid frame) = around_number (codes " is valid in frame ") frame (codes "\n")
state_words transfer (Invalid frame) = around_number (codes " isn't valid: it is invalid in frame ") frame (codes "\n")
state_words transfer (Coming frame) = around_number (codes " isn't valid: it is in transfer ") transfer (codes "\n")
state_words transfer (Going frame) = around_number (codes " isn't valid: it is in transfer ") transfer (codes "\n")
state_words transfer OnSwap = codes " isn't valid: it is on swap\n"

-- a reason, to the end of its line
abbrev pub reason_words : ℕ → Reason → List ℕ
reason_words transfer (reasons.NoPage q) = around_page (codes "there is no ") q (codes "\n")
reason_words transfer (reasons.InState q s) = page_words q ++ state_words transfer s
reason_words transfer (reasons.FromFile q) = around_page [] q (codes " is filled from its image's file\n")
reason_words transfer (reasons.OfZeros q) = around_page [] q (codes " is filled with zeros\n")
reason_words transfer (reasons.DueFirst q) = around_page [] q (codes " is due first\n")
reason_words transfer (reasons.NoCopyDue q) = around_page (codes "no copy of ") q (codes " is due\n")
reason_words transfer reasons.NoFrame = codes "no frame is free\n"
reason_words transfer (reasons.FewFrames n) = around_number (codes "more frames are wanted than the ") n (codes " that are free\n")
reason_words transfer reasons.FullFlight = codes "16 transfers are in flight\n"
reason_words transfer reasons.NoTransfer = codes "no transfer is in flight\n"
reason_words transfer reasons.WrongLength = codes "a transfer has 1 to 16 pages\n"
reason_words transfer (reasons.NotAmong q) = around_page [] q (codes " isn't among the pages that are read\n")
reason_words transfer (reasons.ReadElsewhere q) = around_page [] q (codes " isn't read from where the wanted page is read from\n")
reason_words transfer (reasons.InOtherChunk q) = around_page [] q (codes " is in another chunk of swap than the first page\n")
reason_words transfer (reasons.Unshared q) = around_page (codes "no space has ") q (codes "\n")
reason_words transfer reasons.EnoughFree = codes "a quarter of the frames are free\n"
reason_words transfer (reasons.OfText q) = around_page [] q (codes " goes out with no process\n")
reason_words transfer (reasons.FrameIsFree q) = around_page (codes "the frame of ") q (codes " is free\n")
reason_words transfer (reasons.IsClean q) = around_page [] q (codes " is clean\n")
reason_words transfer (reasons.IsDirty q) = around_page [] q (codes " has to be written first\n")
reason_words transfer (reasons.NoHolder sid) = around_number (codes "no process holds space ") sid (codes "\n")
reason_words transfer (reasons.NoProcess pid) = around_number (codes "there is no process ") pid (codes "\n")
reason_words transfer (reasons.HoldsNone pid) = around_number (codes "process ") pid (codes " holds no space\n")
reason_words transfer (reasons.CannotStep pid) = around_number (codes "process ") pid (codes " cannot step\n")
reason_words transfer (reasons.Borrowed pid) = around_number (codes "process ") pid (codes " borrowed its space\n")
reason_words transfer (reasons.IsOut pid) = around_number (codes "process ") pid (codes " is out\n")
reason_words transfer (reasons.IsIn pid) = around_number (codes "process ") pid (codes " is in\n")
reason_words transfer reasons.Unsettled = codes "a transfer has a page of the process\n"
reason_words transfer (reasons.Begun pid) = around_number (codes "the step of process ") pid (codes " is begun\n")
reason_words transfer (reasons.Comes e) = codes "the paged machine gives " ++ line_of e
reason_words transfer reasons.TooMany = codes "more than 1000000 instructions\n"

-- a line of a trace, with its end
abbrev pub line_text : Line → List ℕ
line_text (lines.RunLine e) = line_of e
line_text (lines.Part x) = part_line x

-- a line, without its end; nothing without one
abbrev pub line_words : Option Line → List ℕ
line_words None = []
line_words (Some l) = take (length (line_text l) - 1) (line_text l)

-- the line that tells why the line of this number can't come
abbrev pub misstep_line : ℕ → Option Line → ℕ → Reason → List ℕ
misstep_line number there transfer reason =
    codes "vmrun: line " ++ decimal number ++ codes ": " ++ line_words there ++ codes ": " ++ reason_words transfer reason
