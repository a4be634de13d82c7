-- How the tables keep what is due, and what the first of it brings.
use Rattle.std.specs.Prelude.{◌≡◌, ℕ, List, [], ◌∷◌, length, map}
use Rattle.vm_facts.specs.declared.page.Page.{Page}
use Rattle.page_model.specs.Placement.{Due, Start, CopyOf, due_page}
use Rattle.page_model.specs.Conditions.{AllApart}
use Rattle.page_model.specs.PageBytes.{zeros}
use Rattle.kernel_tables.specs.declared.fill.DueFill.{DueFill}
use Rattle.kernel_tables.specs.declared.fill.DueFill.TheVariants as fills
use Rattle.kernel_tables.specs.View.{due_shown}

-- the bytes that the first fill that is due brings, zeros where none is due
abbrev pub first_bytes : List DueFill → List ℕ
first_bytes [] = zeros
first_bytes (fills.Start page bytes ∷ ds) = bytes
first_bytes (fills.Copy child parent ∷ ds) = zeros

-- a page may be filled with zeros where nothing is due, or it is due first, as a new stack page 0
abbrev pub IsFirstStart : List Due → Page → Type 0
IsFirstStart [] q = Unit {0}
IsFirstStart (Start r ∷ ds) q = r ≡ q
IsFirstStart (CopyOf r parent ∷ ds) q = ⊥

-- what is kept for a new stack page is a page
abbrev pub IsWholeFill : DueFill → Type 0
IsWholeFill (fills.Start page bytes) = length bytes ≡ 1024
IsWholeFill (fills.Copy child parent) = Unit {0}

-- what is kept for each new stack page that is due is a page
abbrev pub AreWhole : List DueFill → Type 0
AreWhole [] = Unit {0}
AreWhole (d ∷ ds) = IsWholeFill d × AreWhole ds

-- no page is due twice
abbrev pub DueOnce : List DueFill → Type 0
DueOnce ds = AllApart (map due_page (map due_shown ds))
