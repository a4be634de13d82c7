-- Page faults under first in, first out, and under clocks with one hand and with two. A memory has room for n pages, and is empty at first.
use Rattle.std.specs.Prelude.{ℕ, zero, suc, ◌+◌, Bool, if◌then◌else◌, nat_lt, List, [], ◌∷◌, ◌++◌, length, drop}
use Rattle.page_opt.specs.Plans.{has}
use Rattle.policy_faults.specs.Ring.{MarkedPage, is_in_memory, marked_page, unmarked_at, is_hand_marked, hand_passed, paged_in}

-- The faults of references to pages, by what tells whether a page is in a memory, and by what a memory is after a reference: a reference
-- to a page that isn't there is a fault.
unfoldable pub faults_over : {M : Type 0} → (ℕ → M → Bool) → (ℕ → M → M) → M → List ℕ → ℕ
faults_over resident after memory [] = 0
faults_over resident after memory (page ∷ refs) = (if resident page memory then 0 else 1) + faults_over resident after (after page memory) refs

-- First in, first out: pages in the order in which they came. Where there is no room, the one that came first leaves.
abbrev pub fifo_room : ℕ → List ℕ → List ℕ
fifo_room n pages = if nat_lt (length pages) n then pages else drop 1 pages

-- the pages after a reference: one that is there stays where it stands
unfoldable pub fifo_after : ℕ → ℕ → List ℕ → List ℕ
fifo_after n page pages = if has page pages then pages else fifo_room n pages ++ page ∷ []

-- the faults under first in, first out
abbrev pub fifo_faults : List ℕ → ℕ → ℕ
fifo_faults refs n = faults_over has (fifo_after n) [] refs

-- a ring after a reference, which marks its page, by what makes room: one that isn't there comes in
unfoldable pub ring_after : (List MarkedPage → List MarkedPage) → ℕ → List MarkedPage → List MarkedPage
ring_after make_room page memory = if is_in_memory page memory then marked_page page memory else paged_in page (make_room memory)

-- The clock with one hand: a mark says that the page was referenced. The hand goes on over marked pages, which lose their marks, by so many
-- moves at most.
unfoldable pub swept : ℕ → List MarkedPage → List MarkedPage
swept zero memory = memory
swept (suc moves) memory = if is_hand_marked memory then swept moves (hand_passed (unmarked_at 0 memory)) else memory

-- where there is no room, the page leaves at which the hand stops, at most once round
abbrev pub clock_room : ℕ → List MarkedPage → List MarkedPage
clock_room n memory = if nat_lt (length memory) n then memory else drop 1 (swept n memory)

-- the faults under the clock with one hand
abbrev pub clock_faults : List ℕ → ℕ → ℕ
clock_faults refs n = faults_over is_in_memory (ring_after (clock_room n)) [] refs

-- The clock with two hands, where nothing tells that a page was referenced: a mark says that the page is valid. A page that isn't valid stays
-- in memory until its frame is taken, and is valid again when it is referenced. The back hand is at the first page, and the front hand is
-- so many frames ahead of it. At each frame the front hand makes its page invalid, and then the back hand stops where its page is invalid; else both go on,
-- by so many moves at most.
unfoldable pub hands_moved : (ahead : ℕ) → ℕ → List MarkedPage → List MarkedPage
hands_moved ahead zero memory = memory
hands_moved ahead (suc moves) memory =
    if is_hand_marked (unmarked_at ahead memory) then hands_moved ahead moves (hand_passed (unmarked_at ahead memory)) else unmarked_at ahead memory

-- where there is no room, the page leaves at which the back hand stops, at most once round
abbrev pub hands_room : (n ahead : ℕ) → List MarkedPage → List MarkedPage
hands_room n ahead memory = if nat_lt (length memory) n then memory else drop 1 (hands_moved ahead n memory)

-- the faults under the clock with two hands, of which the front hand is so many frames ahead
abbrev pub hands_faults : List ℕ → (n ahead : ℕ) → ℕ
hands_faults refs n ahead = faults_over is_in_memory (ring_after (hands_room n ahead)) [] refs
