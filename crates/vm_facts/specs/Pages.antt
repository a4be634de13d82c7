-- Whose a page is: a space's, or an image's text.
use Rattle.std.specs.Prelude.{ℕ, ◌==◌, Bool, false}
use Rattle.vm_facts.specs.declared.page.Page.{Page}
use Rattle.vm_facts.specs.declared.page.Page.TheVariants.{Data, Stack, Text}

-- a page in the data or the stack of this space
abbrev pub is_of_space : ℕ → Page → Bool
is_of_space space (Data sid v) = sid == space
is_of_space space (Stack sid v) = sid == space
is_of_space space (Text image v) = false

-- a page in the text of this image
abbrev pub is_of_text : ℕ → Page → Bool
is_of_text wanted (Data sid v) = false
is_of_text wanted (Stack sid v) = false
is_of_text wanted (Text image v) = image == wanted
