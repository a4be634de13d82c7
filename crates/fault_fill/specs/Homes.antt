-- In which spaces a page has its entry: its own, or all that share its text.
use Rattle.std.specs.Prelude.{◌≡◌, ℕ}
use Rattle.vm_facts.specs.declared.page.Page.{Page}
use Rattle.vm_facts.specs.declared.page.Page.TheVariants.{Data, Stack, Text}
use Rattle.page_model.specs.Placement.{Placement, image_of}

-- the space of the page, or one of the image whose text it is
abbrev pub IsHome : Placement → Page → ℕ → Type 0
IsHome p (Data sid v) n = n ≡ sid
IsHome p (Stack sid v) n = n ≡ sid
IsHome p (Text image v) n = image_of p n ≡ image
