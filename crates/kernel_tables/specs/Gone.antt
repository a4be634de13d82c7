-- What a space that goes leaves of the spaces, and what its text's pages leave where nobody shares that any more.
use Rattle.std.specs.Prelude.{◌≡◌, ℕ, zero, suc, ◌==◌, not, List, [], ◌∷◌, ◌++◌, length, filter, slice_set, option_map, Option, Some, None}
use Rattle.vm_facts.specs.declared.page.Page.{Page}
use Rattle.vm_facts.specs.declared.page.Page.TheVariants.{Text}
use Rattle.aout_image.specs.Image.{text_pages_of}
use Rattle.core_map.specs.declared.slot.Slot.{Slot as Token}
use Rattle.core_map.specs.declared.slot.Slot.TheVariants as tokens
use Rattle.core_map.specs.Slots.{slot_at}
use Rattle.core_map.specs.Frames.{Frames}
use Rattle.space_map.specs.Space.{Places}
use Rattle.page_model.specs.Owner.TheVariants as owners
use Rattle.page_model.specs.Holdings.{Holdings, kept}
use Rattle.page_model.specs.Book.{with_holdings}
use Rattle.text_table.specs.Texts.{text_numbered, table_with_text, left}
use Rattle.page_model.specs.Pages.{numbered}
use Rattle.kernel_tables.specs.declared.tables.Tables.{Tables}
use Rattle.kernel_tables.specs.Found.{frame_holding}

-- the spaces but the one of this number
abbrev pub without_space : ℕ → List Places → List Places
without_space sid ss = filter (λ (s : Places). not (s.sid == sid)) ss

-- the first of these spaces that shares an image's text
abbrev pub sharing : List Places → ℕ → Option Places
sharing ss image = numbered (λ (s : Places). s.image) image ss

-- it has an entry for each page of that text
abbrev pub HasWholeText : List Places → ℕ → Type 0
HasWholeText ss image = option_map (λ (s : Places). length s.text) (sharing ss image) ≡ option_map (λ (s : Places). text_pages_of s.facts) (sharing ss image)

-- the frame of a page goes to the tail of the free list, if it is off that
abbrev pub left_at : Frames → ℕ → Token → Frames
left_at map f (tokens.Resident token page dirty) = record { free = map.free ++ f ∷ []; slots = slice_set map.slots f (tokens.Free token (Some page)) }
left_at map f (tokens.Free token page) = map
left_at map f tokens.Away = map

-- the frame, where there is one, goes to the tail of the free list, if it is off that
abbrev pub left_in : Frames → Option ℕ → Frames
left_in map None = map
left_in map (Some f) = left_at map f (slot_at map.slots f)

-- the frame that holds this page goes to the tail of the free list, if it is off that
abbrev pub left_page : Frames → Page → Frames
left_page map q = left_in map (frame_holding map.slots q)

-- so many pages of a text, from its first on
abbrev pub left_pages : Frames → ℕ → ℕ → Frames
left_pages map image zero = map
left_pages map image (suc v) = left_page (left_pages map image v) (Text image v)

-- by the first space that still shares the text
abbrev pub left_by : Option Places → Frames → ℕ → ℕ → Frames
left_by None map image n = left_pages map image n
left_by (Some s) map image n = map

-- the pieces of a text go back where no space shares it any more
abbrev pub text_left_by : Option Places → Holdings → ℕ → Holdings
text_left_by None hs image = kept (owners.Text image) 0 hs
text_left_by (Some s) hs image = hs

-- one space less shares a text of so many pages
pub record LeftText (t u : Tables) (image n : ℕ) : Type 0 where
  pub whole : HasWholeText t.spaces image
  pub core : u.core ≡ left_by (sharing t.spaces image) t.core image n
  pub texts : u.texts ≡ table_with_text t.texts image (left (text_numbered t.texts image))
  pub book : u.book ≡ with_holdings t.book (text_left_by (sharing t.spaces image) t.book.holdings image)
  pub rest : u ≡ record t { core = u.core; texts = u.texts; book = u.book }
