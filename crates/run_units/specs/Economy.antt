-- How few units any part of a run takes: stretches, turns in a row, and writes.
use Rattle.std.specs.Prelude.{◌≡◌, ℕ, ◌+◌, ◌*◌, ◌≤◌, true, List, [], ◌∷◌, ◌++◌, length}
use Rattle.vm_facts.specs.declared.page.Page.{Page}
use Rattle.vm_facts.specs.declared.entry.Entry.{Entry}
use Rattle.flat_state.specs.Flat.{Inputs}
use Rattle.flat_state.specs.Journal.{appended}
use Rattle.flat_state.specs.PageNames.{is_among}
use Rattle.page_laws.specs.Spans.{takings}
use Rattle.run_model.specs.State.{State}
use Rattle.run_model.specs.After.{after, state_after}
use Rattle.economy_laws.specs.Stretch.{begins_stretch, NoneBegins, copies_of, IsClosing, turns_of, NoneCounts}
use Rattle.economy_laws.specs.Worth.{stored_pages, renews, Happens}

-- of units from a state on, some in a row, and the state before these
pub record IsPart (A : Inputs) (s : State) (us : List Entry) (at : State) (part : List Entry) : Type 0 where
  pub before : List Entry
  pub behind : List Entry
  pub whole : us ≡ before ++ part ++ behind
  pub state : at ≡ state_after A s before

-- A stretch of the closing phase: after a turn or a counted instruction up to the next of either, or fewer units.
pub record IsStretch (A : Inputs) (at : State) (u : Entry) (stretch : List Entry) : Type 0 where
  pub begins : begins_stretch u ≡ true
  pub pid : ℕ
  pub closing : IsClosing A (after A at u) pid
  pub none : NoneBegins stretch

-- With the unit that begins it, it adds at most 512 entries to a journal, and 16 for each copy; and it has at most 33 fills with
-- zeros and reads, and one read for each copy.
pub record IsShort (u : Entry) (stretch : List Entry) : Type 0 where
  pub adds : (journal : List Entry) → length (appended journal (u ∷ stretch)) ≤ length journal + 512 + 16 * copies_of stretch
  pub takes : takings stretch ≤ 33 + copies_of stretch

-- the unit ends a write of the page to swap
abbrev pub Stores : State → Entry → Page → Type 0
Stores at u q = is_among q (stored_pages at.place u) ≡ true

-- The stretches among these units are short; at most 64 turns in a row count no instruction; and between two writes of a page to
-- swap there is a unit that makes the second one worth it.
pub record Economy (A : Inputs) (s : State) (us : List Entry) : Type 0 where
  pub short : (at : State) (u : Entry) (stretch : List Entry) → IsPart A s us at (u ∷ stretch) → IsStretch A at u stretch
      → IsShort u stretch
  pub idle : (at : State) (part : List Entry) → IsPart A s us at part → NoneCounts part → turns_of part ≤ 64
  pub writes : (at : State) (u w : Entry) (between : List Entry) (q : Page) → IsPart A s us at (u ∷ between ++ w ∷ [])
      → Stores at u q → Stores (state_after A (after A at u) between) w q
      → Happens (λ B x e. renews B x e q) A (after A at u) between
