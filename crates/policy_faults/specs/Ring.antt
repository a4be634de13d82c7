-- Pages in memory as a ring that the hand of a clock goes round: the first page of the list is at the hand.
use Rattle.std.specs.Prelude.{ℕ, zero, suc, ◌==◌, Bool, true, false, if◌then◌else◌, List, [], ◌∷◌, ◌++◌}
use Rattle.page_opt.specs.Plans.{has}

-- a page in memory, and whether it is marked
pub record MarkedPage : Type 0 where
  pub page : ℕ
  pub marked : Bool

-- the pages, without their marks
unfoldable pub ring_pages : List MarkedPage → List ℕ
ring_pages [] = []
ring_pages (m ∷ ms) = m.page ∷ ring_pages ms

-- the page is in memory
abbrev pub is_in_memory : ℕ → List MarkedPage → Bool
is_in_memory page memory = has page (ring_pages memory)

-- the page is marked where it stands
unfoldable pub marked_page : ℕ → List MarkedPage → List MarkedPage
marked_page page [] = []
marked_page page (m ∷ ms) = (if page == m.page then record { page = m.page; marked = true } else m) ∷ marked_page page ms

-- the page at a place loses its mark
unfoldable pub unmarked_at : ℕ → List MarkedPage → List MarkedPage
unmarked_at place [] = []
unmarked_at zero (m ∷ ms) = record { page = m.page; marked = false } ∷ ms
unmarked_at (suc place) (m ∷ ms) = m ∷ unmarked_at place ms

-- the page at the hand is marked
unfoldable pub is_hand_marked : List MarkedPage → Bool
is_hand_marked [] = false
is_hand_marked (m ∷ ms) = m.marked

-- the hand goes on by one page
unfoldable pub hand_passed : List MarkedPage → List MarkedPage
hand_passed [] = []
hand_passed (m ∷ ms) = ms ++ m ∷ []

-- a page comes in, marked, after those that the hand comes to
abbrev pub paged_in : ℕ → List MarkedPage → List MarkedPage
paged_in page memory = memory ++ record { page = page; marked = true } ∷ []
