-- How the code keeps a ring: the pages from the hand on, and by page the marks, which may end before a page that isn't there.
use Rattle.std.specs.Prelude.{◌≡◌, ◌≤◌, ℕ, Bool, false, List, [], ◌∷◌, slice_index_or, Option, None, is_some, unwrap_or}
use Rattle.page_opt.specs.Plans.{has}
use Rattle.page_opt.specs.Cache.{count_in}
use Rattle.policy_faults.specs.Ring.{MarkedPage}
use Rattle.policy_faults.specs.declared.page_ring.PageRing.TheInside.{Inside}

-- pages with their marks
unfoldable pub with_marks : (ℕ → Option Bool) → List ℕ → List MarkedPage
with_marks marks [] = []
with_marks marks (page ∷ pages) = record { page = page; marked = unwrap_or (marks page) false } ∷ with_marks marks pages

-- each page stands once, and just these have a mark, set or not
pub record HaveMarks (marks : ℕ → Option Bool) (pages : List ℕ) : Type 0 where
  pub once : (page : ℕ) → count_in page pages ≤ 1
  pub inside : (page : ℕ) → is_some (marks page) ≡ has page pages

-- the ring as its callers see it: each page with its mark
abbrev pub ring_of : Inside → List MarkedPage
ring_of a = with_marks (λ page. slice_index_or a.marks.items page None) a.pages.items

-- each page of the ring stands once, and just these have a mark
abbrev pub IsPageRing : Inside → Type 0
IsPageRing a = HaveMarks (λ page. slice_index_or a.marks.items page None) a.pages.items
