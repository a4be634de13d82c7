-- What the swap image has of each page along a run.
use Rattle.std.specs.Prelude.{◌≡◌, ℕ, List, [], ◌∷◌}
use Rattle.flat_state.specs.Flat.{Inputs}
use Rattle.vm_facts.specs.declared.page.Page.{Page}
use Rattle.vm_facts.specs.declared.page.PageState.TheVariants.{OnSwap}
use Rattle.page_model.specs.Placement.{Transfer, Part, Errand, Writes, Reads, state_of}
use Rattle.kernel_model.specs.Kernel.{Kernel, frame_bytes}
use Rattle.kernel_model.specs.Coupled.{memory_of}
use Rattle.page_model.specs.Stored.{stored}
use Rattle.run_model.specs.State.{State}

-- each of these frames has the flat bytes of its page
abbrev pub AreFlat : Inputs → State → Kernel → List Part → Type 0
AreFlat A s k [] = Unit {0}
AreFlat A s k (x ∷ xs) = (frame_bytes k x.frame ≡ memory_of A.images s.point.flat x.page) × AreFlat A s k xs

-- the frames of a transfer that writes have the flat bytes of their pages
abbrev pub WritesFlat : Inputs → State → Kernel → Errand → List Part → Type 0
WritesFlat A s k Writes xs = AreFlat A s k xs
WritesFlat A s k (Reads source demanded) xs = Unit {0}

-- what is in flight to swap has its flat bytes
abbrev pub AllFlat : Inputs → State → Kernel → List Transfer → Type 0
AllFlat A s k [] = Unit {0}
AllFlat A s k (t ∷ ts) = WritesFlat A s k t.errand t.parts × AllFlat A s k ts

-- what a swap image has of each page that is there alone
abbrev pub HasSwapped : Inputs → State → List ℕ → Type 0
HasSwapped A s image = (q : Page) → state_of s.place q ≡ OnSwap → stored s.holdings image q ≡ memory_of A.images s.point.flat q
