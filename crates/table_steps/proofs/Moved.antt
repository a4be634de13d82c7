-- The tables stay tied when a record changes.
use Rattle.std.proofs.Common.{List}
use Rattle.page_model.specs.Placement.{Residence}
use Rattle.kernel_tables.specs.View.{Lists}
use Rattle.kernel_tables.specs.Tied.{Tied}

-- The invariant.

pub tied_moved : (t : Lists) (rs : List Residence) → Tied t → Tied (record t { residents = rs })
tied_moved t rs h = record {
  few_frames = h.few_frames;
  few_images = h.few_images;
  sound = h.sound;
  small_texts = h.small_texts;
  few_pages = h.few_pages;
  shared = h.shared;
  alike = h.alike;
  filled = h.filled;
  counted = h.counted;
  marked = h.marked;
  whole = h.whole;
  once = h.once;
}
