-- Where each page is, by the tables: in a space's entry, or, for text that nobody shares, in a frame or its file.
use Rattle.std.specs.Prelude.{nat_lt, Bool, true, false, Option, Some, None}
use Rattle.vm_facts.specs.declared.page.Page.{Page}
use Rattle.vm_facts.specs.declared.page.Page.TheVariants.{Data, Stack, Text}
use Rattle.vm_facts.specs.declared.page.PageState.{PageState}
use Rattle.vm_facts.specs.declared.page.PageState.TheVariants.{Unfilled}
use Rattle.vax_pte.specs.declared.Place.{Place}
use Rattle.vax_pte.specs.declared.Place.TheVariants as places
use Rattle.page_model.specs.Pages.{Filling, Zeros}
use Rattle.kernel_tables.specs.Shown.{entry_in}
use Rattle.kernel_tables.specs.View.{Lists, pages_in, text_place}

-- a page of an image's text is there, whether or not a space shares it
abbrev pub text_if : Bool → Place → Option Place
text_if true place = Some place
text_if false place = None

-- where a page is; none where it isn't there
abbrev pub place_of : Lists → Page → Option Place
place_of t (Data sid v) = entry_in t.spaces (Data sid v)
place_of t (Stack sid v) = entry_in t.spaces (Stack sid v)
place_of t (Text image v) = text_if (nat_lt v (pages_in 1 image t.facts)) (text_place t.spaces t.slots (Text image v) v)

-- a page that has to be filled with zeros, by its state and its filling
abbrev pub is_blank : PageState → Filling → Bool
is_blank Unfilled Zeros = true
is_blank _ _ = false

-- the entry of a page that has to be filled with zeros
abbrev pub is_zero_place : Option Place → Bool
is_zero_place (Some places.Zero) = true
is_zero_place _ = false

-- the entry of a data or stack page says so
abbrev pub names_zeros : Page → Option Place → Bool
names_zeros (Data sid v) o = is_zero_place o
names_zeros (Stack sid v) o = is_zero_place o
names_zeros (Text image v) o = false
