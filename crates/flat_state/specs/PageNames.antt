-- Pages of spaces and of images, by their names.
use Rattle.std.specs.Prelude.{ℕ, zero, suc, ◌+◌, ◌==◌, Bool, false, ◌&&◌, ◌||◌, List, [], ◌∷◌}
use Rattle.vm_facts.specs.declared.page.Page.{Page}
use Rattle.vm_facts.specs.declared.page.Page.TheVariants.{Data, Stack, Text}

-- Names.

-- the number of a page in its segment
abbrev pub number_of : Page → ℕ
number_of (Data sid v) = v
number_of (Stack sid v) = v
number_of (Text image v) = v

-- another page of the same segment
abbrev pub beside : Page → ℕ → Page
beside (Data sid v) w = Data sid w
beside (Stack sid v) w = Stack sid w
beside (Text image v) w = Text image w

-- so many pages of a segment, from one on, rising
abbrev pub pages_from : Page → ℕ → ℕ → List Page
pages_from q lo zero = []
pages_from q lo (suc n) = beside q lo ∷ pages_from q (lo + 1) n

-- the two are one page
abbrev pub same_page : Page → Page → Bool
same_page (Data a v) (Data b w) = (a == b) && (v == w)
same_page (Stack a v) (Stack b w) = (a == b) && (v == w)
same_page (Text a v) (Text b w) = (a == b) && (v == w)
same_page a b = false

-- the page is one of these
abbrev pub is_among : Page → List Page → Bool
is_among q [] = false
is_among q (r ∷ rs) = same_page q r || is_among q rs
