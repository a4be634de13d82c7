-- That each image's text has as many pages as its header tells.
use Rattle.std.specs.Prelude.{◌≡◌, ℕ, length, Some}
use Rattle.vm_facts.specs.declared.page.Page.TheVariants.{Text}
use Rattle.aout_image.specs.Image.{text_pages_of}
use Rattle.page_model.specs.Placement.{slots_of}
use Rattle.table_steps.specs.Machine.{Standing}
use Rattle.table_steps.specs.Sourced.{ImageNamed, named_at}

-- the text of each image has as many pages as its header tells
abbrev pub TextsStand : Standing → Type 0
TextsStand m = (image : ℕ) (n : ImageNamed) → named_at m.images image ≡ Some n → length (slots_of m.kernel.place (Text image 0)) ≡ text_pages_of n.facts
