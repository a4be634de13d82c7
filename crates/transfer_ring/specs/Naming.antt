-- Which pages a transfer names.
use Rattle.std.specs.Prelude.{ℕ, Bool, List}
use Rattle.std.specs.List.{list_any}
use Rattle.vm_facts.specs.declared.page.Page.{Page}
use Rattle.vm_facts.specs.Pages.{is_of_space, is_of_text}
use Rattle.transfer_ring.specs.declared.transfer.Owner.{Owner}
use Rattle.transfer_ring.specs.declared.transfer.Owner.TheVariants.{Space, Image}
use Rattle.transfer_ring.specs.declared.transfer.Inbound.{Inbound}
use Rattle.transfer_ring.specs.declared.transfer.Outbound.{Outbound}
use Rattle.transfer_ring.specs.declared.transfer.Transfer.{Transfer}
use Rattle.transfer_ring.specs.declared.transfer.Transfer.TheVariants.{Read, Write}

-- the page is this owner's: of a space's data or stack, or of an image's text
abbrev pub is_page_of : Owner → Page → Bool
is_page_of (Space sid) page = is_of_space sid page
is_page_of (Image image) page = is_of_text image page

-- some page that is read is this owner's
abbrev pub reads_of : Owner → List Inbound → Bool
reads_of owner parts = list_any (λ part. is_page_of owner part.page) parts

-- some page that is written is this owner's
abbrev pub writes_of : Owner → List Outbound → Bool
writes_of owner parts = list_any (λ part. is_page_of owner part.page) parts

-- some page of the transfer is this owner's
abbrev pub names_page_of : Owner → Transfer → Bool
names_page_of owner (Read demanded parts) = reads_of owner parts.items
names_page_of owner (Write parts) = writes_of owner parts.items

-- some page of the transfer is in the data or the stack of this space
abbrev pub names_space : ℕ → Transfer → Bool
names_space sid transfer = names_page_of (Space sid) transfer

-- some page of the transfer is in the text of this image
abbrev pub names_text : ℕ → Transfer → Bool
names_text image transfer = names_page_of (Image image) transfer
