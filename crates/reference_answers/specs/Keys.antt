-- How the code finds a page among those before it: by a key of numbers.
use Rattle.std.specs.Prelude.{ℕ, List, [], ◌∷◌, ◌++◌, if◌then◌else◌}
use Rattle.vm_facts.specs.declared.page.Page.{Page}
use Rattle.vm_facts.specs.declared.page.Page.TheVariants.{Data, Stack, Text}
use Rattle.flat_state.specs.PageNames.{is_among}

-- the parts of a page's name: its segment, then the space or the image, and the page's number
abbrev pub key_of : Page → ℕ × ℕ × ℕ
key_of (Data sid v) = (0, sid, v)
key_of (Stack sid v) = (1, sid, v)
key_of (Text image v) = (2, image, v)

-- pages and one more after them, unless it is among them
unfoldable pub with_page : List Page → Page → List Page
with_page pages page = if is_among page pages then pages else pages ++ page ∷ []
