-- What is done in a space of which only some pages are present.
use Rattle.std.specs.Prelude.{◌≡◌, ℕ, Bool, true, false, List, [], ◌∷◌, ◌++◌, filter_map}
use Rattle.std.proofs.Common.{refl, sym, ap, ◌∙◌}
use Rattle.vm_facts.specs.Answers.{Answers, ByteWrite, written}
use Rattle.flat_state.specs.Space.{Space}
use Rattle.vm_facts.specs.declared.page.Page.{Page}
use Rattle.user_vax.specs.Program.{ByteAccess, ReadOf, TestOf}
use Rattle.user_vax.specs.ArrayMemory.{written-append}
use Rattle.flat_state.specs.PageNames.{is_among}
use Rattle.flat_state.specs.Writes.{Wrote}
use Rattle.flat_state.proofs.SpaceLaws.{wrote_more}
use Rattle.flat_model.specs.Touched.{page_of_access}
use Rattle.flat_model.specs.Shown.{shown}

-- bytes written into present pages, which are the same afterwards
pub record WrotePresent (pages : List Page) (s : Space) (writes : List ByteWrite) (after : List Page) (t : Space) : Type 0 where
  pub kept : after ≡ pages
  pub wrote : Wrote s writes t
  pub answers : shown t pages ≡ written (shown s pages) writes

-- These writes keep to what a memory promises of its writes.

-- with no writes the space is as it was
pub present_none : (pages : List Page) (s : Space) → WrotePresent pages s [] pages s
present_none pages s = record { kept = refl; wrote = refl; answers = refl }

-- writes and then further ones are the writes of both in a row
pub present_more : (some more most : List Page) (s t u : Space) (xs ys : List ByteWrite) → WrotePresent some s xs more t
    → WrotePresent more t ys most u → WrotePresent some s (xs ++ ys) most u
present_more some more most s t u xs ys h k = record {
  kept = k.kept ∙ h.kept;
  wrote = wrote_more s t u xs ys h.wrote k.wrote;
  answers =
      ap (λ (ps : List Page). shown u ps) (sym h.kept) ∙ k.answers ∙ ap (λ (ps : List Page). written (shown t ps) ys) h.kept
      ∙ ap (λ (m : Answers). written m ys) h.answers ∙ sym (written-append (shown s some) xs ys);
}

-- after writes it answers as a memory to which they were made
pub present_after : (some more : List Page) (s t : Space) (xs : List ByteWrite) → WrotePresent some s xs more t → shown t more ≡ written (shown s some) xs
present_after some more s t xs h = ap (λ (ps : List Page). shown t ps) h.kept ∙ h.answers

-- the access of a byte, which is to be written or read
abbrev pub access_of : ℕ → Bool → ByteAccess
access_of address true = TestOf address
access_of address false = ReadOf address

-- the pages of accesses, in order
abbrev pub pages_of : Space → List ByteAccess → List Page
pages_of s list = filter_map (page_of_access s) list

-- a page more, unless it is there
abbrev pub with_page : Bool → List Page → Page → List Page
with_page true pages page = pages
with_page false pages page = pages ++ page ∷ []

-- these pages, and after them each page of a list that isn't there yet
abbrev pub gathered : List Page → List Page → List Page
gathered pages [] = pages
gathered pages (p ∷ ps) = gathered (with_page (is_among p pages) pages p) ps
