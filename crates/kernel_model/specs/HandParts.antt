-- A part of a move of the hands, alone: when it may come, whatever the policy, and what it does.
use Rattle.std.specs.Prelude.{◌≡◌, ℕ, ◌<◌, ◌≤◌, true, false, List, [], ◌∷◌, length}
use Rattle.vm_facts.specs.Lists.{times}
use Rattle.vm_facts.specs.declared.page.Page.{Page}
use Rattle.vm_facts.specs.declared.page.PageState.TheVariants.{Valid, Invalid}
use Rattle.page_model.specs.PageNames.{number_of, pages_from}
use Rattle.page_model.specs.Placement.{Placement, state_of, is_dirty}
use Rattle.page_model.specs.Conditions.{EachPage}
use Rattle.page_model.specs.Runs.{is_near}
use Rattle.page_model.specs.Moves.{launch_run, retire}
use Rattle.page_model.specs.Hands.{expire_to}
use Rattle.kernel_model.specs.Kernel.{Kernel}
use Rattle.kernel_model.specs.declared.part.HandPart.{HandPart}
use Rattle.kernel_model.specs.declared.part.HandPart.TheVariants as parts

-- When a part may come.

-- the page is invalid, in a frame off the free list
pub record IsIdle (p : Placement) (q : Page) : Type 0 where
  pub frame : ℕ
  pub invalid : state_of p q ≡ Invalid frame
  pub off : times frame p.free ≡ 0

-- `E`: the page is valid.
pub record ExpireComes (p : Placement) (q : Page) : Type 0 where
  pub frame : ℕ
  pub valid : state_of p q ≡ Valid frame

-- `W`: 1 to 16 pages from this one on, all idle, dirty and of its chunk; and fewer than 16 transfers are in flight.
pub record WriteComes (p : Placement) (q : Page) (n : ℕ) : Type 0 where
  pub some : 0 < n
  pub most : n ≤ 16
  pub idle : EachPage (IsIdle p) (pages_from q (number_of q) n)
  pub dirty : EachPage (λ w. is_dirty p w ≡ true) (pages_from q (number_of q) n)
  pub near : EachPage (λ w. is_near q (number_of w) ≡ true) (pages_from q (number_of q) n)
  pub room : length p.transfers < 16

-- `F`: the page is idle, and needn't be written.
pub record FreeComes (p : Placement) (q : Page) : Type 0 where
  pub idle : IsIdle p q
  pub clean : is_dirty p q ≡ false

-- the part may come
abbrev pub PartComes : Placement → HandPart → Type 0
PartComes p (parts.Expires q) = ExpireComes p q
PartComes p (parts.Writes q n) = WriteComes p q n
PartComes p (parts.Frees q) = FreeComes p q

-- What a part does.

-- the page, where it is valid, is invalid in its frame
abbrev pub expire_page : Placement → Page → Placement
expire_page p q = expire_to p q (state_of p q)

-- the placement after the part
abbrev pub part_place : Placement → HandPart → Placement
part_place p (parts.Expires q) = expire_page p q
part_place p (parts.Writes q n) = launch_run p (pages_from q (number_of q) n)
part_place p (parts.Frees q) = retire p q

-- the placement after these parts, one after another
abbrev pub parts_place : Placement → List HandPart → Placement
parts_place p [] = p
parts_place p (x ∷ xs) = parts_place (part_place p x) xs

-- each of these parts may come, one after another
abbrev pub PartsCome : Placement → List HandPart → Type 0
PartsCome p [] = Unit {0}
PartsCome p (x ∷ xs) = PartComes p x × PartsCome (part_place p x) xs

-- the machine after the part: all bytes stay where they are, and no entry is made
abbrev pub part_step : Kernel → HandPart → Kernel
part_step k x = record k { place = part_place k.place x }
