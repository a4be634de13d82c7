-- What beginning a first process asks of a machine, and what it leaves: its space, its pieces, a page due.
use Rattle.std.specs.Prelude.{◌≡◌, ℕ, ◌≤◌, Bool, false, [], ◌∷◌, length, Some, Result, Ok, is_ok}
use Rattle.aout_image.specs.declared.Image.{Image}
use Rattle.swap_book.specs.declared.Owner.TheVariants as owners
use Rattle.swap_book.specs.Holdings.{Holdings, lengths}
use Rattle.swap_book.specs.Placing.{place_all}
use Rattle.swap_book.specs.Book.{grown_book}
use Rattle.flat_state.specs.Flat.{start_page, start_regs}
use Rattle.flat_state.specs.Numbers.{AllBelow}
use Rattle.page_model.specs.Placement.{Placement, sharers}
use Rattle.page_model.specs.Place.{facts_numbered}
use Rattle.page_model.specs.Dues.{DueStand}
use Rattle.kernel_model.specs.Asks.{begin_asks}
use Rattle.kernel_model.specs.Kernel.{HoldsSpace}
use Rattle.kernel_model.specs.Start.{begin_step}
use Rattle.table_steps.specs.Tables.{Tables}
use Rattle.table_steps.specs.Machine.{Standing, lists_of, images_of}
use Rattle.table_steps.specs.Sourced.{ImageNamed, AreNames, named_at}
use Rattle.table_steps.specs.View.{placement_of}
use Rattle.table_steps.specs.Tied.{Tied}
use Rattle.table_steps.specs.Known.{Known}
use Rattle.table_steps.specs.Rising.{sids_of}
use Rattle.table_steps.specs.Alike.{AreRecords}
use Rattle.table_steps.specs.Changing.{EnteredImage, HasOneMore}

-- the journal is empty, the number is the next and at most 16, and the image is one of the run's
pub record MayStart (m : Standing) (pid image : ℕ) : Type 0 where
  pub empty : m.kernel.journal ≡ []
  pub next : pid ≡ m.kernel.next_pid
  pub few : pid ≤ 16
  pub above : 1 ≤ image
  pub within : image ≤ length m.images

-- its pieces found their places, and it began
pub record StartedFirst (old new : Standing) (image : ℕ) : Type 0 where
  pub named : ImageNamed
  pub is : named_at old.images image ≡ Some named
  pub found : Holdings
  pub pieces : place_all old.params.swap_blocks old.kernel.holdings (begin_asks old.kernel.place old.kernel.next_pid image named.facts) ≡ Ok found
  pub step : new ≡ record old { kernel = begin_step old.kernel found image named.name named.facts; before = found }

-- its pieces find no place
pub record FindsNoPlace (m : Standing) (image : ℕ) : Type 0 where
  pub named : ImageNamed
  pub is : named_at m.images image ≡ Some named
  pub pieces : is_ok (place_all m.params.swap_blocks m.kernel.holdings (begin_asks m.kernel.place m.kernel.next_pid image named.facts)) ≡ false

-- The parts of the step.

-- nobody holds swap for a process or a space of this number, nor for a text that no space shares
pub record HoldsNone (p : Placement) (hs : Holdings) (pid image : ℕ) : Type 0 where
  pub of_data : lengths (owners.Data pid) hs ≡ []
  pub of_stack : lengths (owners.Stack pid) hs ≡ []
  pub of_u : lengths (owners.U pid) hs ≡ []
  pub of_text : sharers p image ≡ 0 → lengths (owners.Text image) hs ≡ []

-- the pieces of a first process may be looked for
pub record MayLookFirst (t : Tables) (pid image : ℕ) : Type 0 where
  pub tied : Tied (lists_of t)
  pub number : pid ≡ t.next_sid
  pub above : 1 ≤ image
  pub within : image ≤ length t.images.items
  pub none : HoldsNone (placement_of (lists_of t)) t.book.holdings pid image

-- the holdings once they are found
abbrev pub found_first : Tables → ℕ → ℕ → Image → Result Holdings ℕ
found_first t pid image facts = place_all t.book.size t.book.holdings (begin_asks (placement_of (lists_of t)) pid image facts)

-- they are kept where all find their places, and else none is
pub record LookedFirst (t u : Tables) (pid image : ℕ) (fits : Bool) : Type 0 where
  pub facts : Image
  pub is : facts_numbered (lists_of t).facts image ≡ Some facts
  pub answer : fits ≡ is_ok (found_first t pid image facts)
  pub book : u ≡ record t { book = grown_book t.book (found_first t pid image facts) }

-- it may start once they are found
pub record MayEnterFirst (t : Tables) (image : ℕ) : Type 0 where
  pub known : Known (lists_of t)
  pub below : AllBelow t.next_sid (sids_of t.spaces)
  pub due : DueStand (placement_of (lists_of t))
  pub above : 1 ≤ image
  pub within : image ≤ length t.images.items
  pub named : AreNames (images_of t)
  pub records : AreRecords t.processes t.next_pid
  pub few : t.next_pid ≤ 16

-- it has started: its image in a space of the next number, and then it itself, which holds that
pub record BeganFirst (t u : Tables) (image : ℕ) : Type 0 where
  pub named : ImageNamed
  pub is : named_at (images_of t) image ≡ Some named
  pub entered_in : Tables
  pub entered : EnteredImage t entered_in image named.facts (start_page (named.name ∷ []))
  pub one_more : HasOneMore entered_in u
      (record { pid = t.next_pid; parent = 0; regs = start_regs named.facts.entry (named.name ∷ []); life = HoldsSpace t.next_sid; asleep = false }) 0
