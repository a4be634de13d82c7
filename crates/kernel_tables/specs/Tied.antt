-- What ties the tables together beside ownership: sizes, images, and alike entries.
use Rattle.std.specs.Prelude.{◌≡◌, ℕ, ◌<◌, ◌≤◌, length, IsSome}
use Rattle.vm_facts.specs.declared.page.Page.TheVariants.{Text}
use Rattle.page_model.specs.Placement.{sharers}
use Rattle.kernel_tables.specs.Shown.{entry_in}
use Rattle.kernel_tables.specs.View.{Lists, pages_in, placement_of}
use Rattle.text_table.specs.Texts.{text_numbered}
use Rattle.kernel_tables.specs.Alike.{EachSpace, IsFilled, HasFewPages, AreAlike}
use Rattle.kernel_tables.specs.New.{AreSound}
use Rattle.kernel_tables.specs.Marked.{AreMarked}
use Rattle.kernel_tables.specs.Due.{AreWhole, DueOnce}

-- few enough frames, images and pages; entries that are of the spaces' images; text shared as it is counted;
-- and fills that are due are whole, and due once
pub record Tied (t : Lists) : Type 0 where
  pub few_frames : length t.slots ≤ 4097
  pub few_images : length t.facts ≤ 16
  pub sound : AreSound t.facts
  pub small_texts : (image : ℕ) → pages_in 1 image t.facts ≤ 2048
  pub few_pages : EachSpace HasFewPages t.spaces
  -- a space has an entry for each page of its image's text
  pub shared : (image v : ℕ) → 0 < sharers (placement_of t) image → v < pages_in 1 image t.facts → IsSome (entry_in t.spaces (Text image v))
  -- and all spaces that share a text have the same entries for it
  pub alike : AreAlike t.spaces
  pub filled : EachSpace (IsFilled t.facts) t.spaces
  -- the text table counts the spaces that share a text
  pub counted : (image : ℕ) → 1 ≤ image → image ≤ 16 → (text_numbered t.texts image).sharers ≡ sharers (placement_of t) image
  -- the mark of a frame off the free list says whether its page is dirty
  pub marked : AreMarked t.slots t.spaces t.texts
  pub whole : AreWhole t.fills
  pub once : DueOnce t.fills
