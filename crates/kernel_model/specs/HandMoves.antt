-- One move of the written hands, cut into its parts.
use Rattle.std.specs.Prelude.{Bool, true, false, List, [], ◌∷◌, ◌++◌, Option, Some, None}
use Rattle.vm_facts.specs.declared.page.Page.{Page}
use Rattle.vm_facts.specs.declared.page.PageState.{PageState}
use Rattle.vm_facts.specs.declared.page.PageState.TheVariants.{Valid}
use Rattle.page_model.specs.PageNames.{beside, is_among}
use Rattle.page_model.specs.Placement.{Placement, state_of, is_dirty, page_of}
use Rattle.page_model.specs.Runs.{Run, run_out}
use Rattle.page_model.specs.Hands.{expire, taken}
use Rattle.kernel_model.specs.declared.part.HandPart.{HandPart}
use Rattle.kernel_model.specs.declared.part.HandPart.TheVariants as parts

-- the front hand's part, by the state of its page: a valid one is made invalid
abbrev pub front_by : Page → PageState → List HandPart
front_by q (Valid f) = parts.Expires q ∷ []
front_by q _ = []

-- by whether the page is locked: of a locked one there is none
abbrev pub front_if : Page → PageState → Bool → List HandPart
front_if q s true = []
front_if q s false = front_by q s

-- by the page that the front hand's frame holds, if any
abbrev pub front_of : Placement → List Page → Option Page → List HandPart
front_of p locked None = []
front_of p locked (Some q) = front_if q (state_of p q) (is_among q locked)

-- the front hand's part of a move, or none
abbrev pub front_parts : Placement → List Page → List HandPart
front_parts p locked = front_of p locked (page_of p p.front)

-- the write of a run of this page's segment
abbrev pub run_part : Page → Run → HandPart
run_part q r = parts.Writes (beside q r.lo) r.n

-- the back hand's part, by whether the page that it takes is dirty: then its run is written, and else its frame is freed
abbrev pub back_by : Placement → List Page → Page → Bool → List HandPart
back_by p locked q true = run_part q (run_out p locked q) ∷ []
back_by p locked q false = parts.Frees q ∷ []

-- by the page that the back hand takes, if any
abbrev pub back_of : Placement → List Page → Option Page → List HandPart
back_of p locked None = []
back_of p locked (Some q) = back_by p locked q (is_dirty p q)

-- the back hand's part of a move, or none
abbrev pub back_parts : Placement → List Page → List HandPart
back_parts p locked = back_of p locked (taken p locked)

-- the parts of one move of the hands, which pass over the locked pages: the front hand's, and then the back hand's
abbrev pub move_parts : Placement → List Page → List HandPart
move_parts p locked = front_parts p locked ++ back_parts (expire p locked) locked
