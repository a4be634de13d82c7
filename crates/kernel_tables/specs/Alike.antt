-- What holds of the entries of all spaces at once: text is alike where it is shared, and filled as its image says.
use Rattle.std.specs.Prelude.{◌≡◌, ℕ, ◌+◌, ◌<◌, ◌≤◌, ◌==◌, Bool, true, false, cond, List, [], ◌∷◌, length, Option, Some, None}
use Rattle.std.specs.List.{list_any}
use Rattle.vm_facts.specs.declared.page.Page.{Page}
use Rattle.vm_facts.specs.declared.page.Page.TheVariants.{Data, Stack, Text}
use Rattle.vax_pte.specs.declared.Place.{Place}
use Rattle.vax_pte.specs.declared.Place.TheVariants as places
use Rattle.aout_image.specs.declared.Image.{Image}
use Rattle.aout_image.specs.Image.{image_data_pages}
use Rattle.space_map.specs.Space.{Places, place_in}
use Rattle.proc_table.specs.declared.process.Proc.{Proc as Record}
use Rattle.proc_table.specs.declared.process.Life.{Life as RecordLife}
use Rattle.proc_table.specs.declared.process.Life.TheVariants as lives
use Rattle.proc_table.specs.Records.{find, IsProcTable}
use Rattle.kernel_tables.specs.Shown.{entry_in}

-- something is so of each of these spaces
abbrev pub EachSpace : (Places → Type 0) → List Places → Type 0
EachSpace P [] = Unit {0}
EachSpace P (s ∷ ss) = P s × EachSpace P ss

-- a page of text has the same entry in each space that shares it
abbrev pub IsLikeFirst : List Places → Places → Type 0
IsLikeFirst ss s = (image v : ℕ) (x : Place) → place_in s (Text image v) ≡ Some x → entry_in ss (Text image v) ≡ Some x

-- a page of text has one entry in all spaces that share it
abbrev pub AreAlike : List Places → Type 0
AreAlike ss = EachSpace (IsLikeFirst ss) ss

-- what is to be filled from the image's file: text, or a data page that the image has, each with its own page
abbrev pub IsFilledAt : Places → Page → ℕ → Type 0
IsFilledAt s (Data sid v) w = (w ≡ v) × (v < image_data_pages s.facts)
IsFilledAt s (Stack sid v) w = ⊥
IsFilledAt s (Text image v) w = w ≡ v

-- what the header of an image says, by its number
abbrev pub facts_in : ℕ → ℕ → List Image → Option Image
facts_in n image [] = None
facts_in n image (x ∷ more) = cond (n == image) (Some x) (facts_in (n + 1) image more)

-- a space has what its image's header says, and its entries fill its pages from its image
pub record IsFilled (facts : List Image) (s : Places) : Type 0 where
  pub facts_are : facts_in 1 s.image facts ≡ Some s.facts
  pub entries : (q : Page) (w : ℕ) → place_in s q ≡ Some (places.Image w) → IsFilledAt s q w

-- a space has no more pages than its map has room for
abbrev pub HasFewPages : Places → Type 0
HasFewPages s = (length s.data ≤ 4096) × (length s.stack ≤ 512)

-- Who lends a space to a process.

-- what a record has is a space that it lends to this process
abbrev pub lends_to_by : ℕ → RecordLife → Bool
lends_to_by pid lives.New = false
lends_to_by pid (lives.Holds sid) = false
lends_to_by pid (lives.Lends sid child) = child == pid
lends_to_by pid (lives.Zombie status) = false

-- the process of this record lends its space to that one
abbrev pub lends_to : ℕ → Record → Bool
lends_to pid p = lends_to_by pid p.state

-- there is a record, and it is marked as a borrower's
abbrev pub is_borrower_in : Option Record → Bool
is_borrower_in None = false
is_borrower_in (Some p) = p.borrowed

-- what a borrower's record may have: it holds a space, or lends it in turn
abbrev pub HoldsBorrowed : RecordLife → Type 0
HoldsBorrowed (lives.Holds sid) = Unit {0}
HoldsBorrowed (lives.Lends sid child) = Unit {0}
HoldsBorrowed _ = ⊥

-- The records of the processes: each has a number below the next. A process is marked as a borrower exactly where one
-- lends it a space, and none is where there is no record; one lends it at most; and who borrowed a space holds it, or
-- lends it in turn.
pub record AreRecords (ps : List Record) (next : ℕ) : Type 0 where
  pub table : IsProcTable ps
  pub first : 1 ≤ next
  pub known : (pid : ℕ) (p : Record) → find pid ps ≡ Some p → (1 ≤ pid) × (pid < next)
  pub marked : (pid : ℕ) → is_borrower_in (find pid ps) ≡ list_any (lends_to pid) ps
  pub one : (pid a b : ℕ) (p q : Record) → find a ps ≡ Some p → find b ps ≡ Some q → lends_to pid p ≡ true → lends_to pid q ≡ true → a ≡ b
  pub holds : (pid : ℕ) (p : Record) → find pid ps ≡ Some p → p.borrowed ≡ true → HoldsBorrowed p.state
