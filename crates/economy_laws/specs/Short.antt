-- The bounds on a stretch of the closing phase, and that no page is written again for nothing.
use Rattle.std.specs.Prelude.{◌≡◌, ℕ, ◌+◌, ◌*◌, ◌≤◌, true, List, ◌∷◌, length, Some}
use Rattle.vm_facts.specs.declared.page.Page.{Page}
use Rattle.vm_facts.specs.declared.entry.Entry.{Entry}
use Rattle.flat_state.specs.Flat.{Inputs}
use Rattle.flat_state.specs.Journal.{appended}
use Rattle.flat_state.specs.PageNames.{is_among}
use Rattle.run_model.specs.State.{State}
use Rattle.run_model.specs.After.{after}
use Rattle.kernel_model.specs.Start.{ImagesFit}
use Rattle.run_model.specs.Next.{next_unit}
use Rattle.run_model.specs.Lawful.{Follows}
use Rattle.run_laws.specs.Running.{IsRun}
use Rattle.page_laws.specs.Spans.{takings}
use Rattle.economy_laws.specs.Worth.{stored_pages, renews, Happens}
use Rattle.economy_laws.specs.Stretch.{begins_stretch, NoneBegins, copies_of, IsClosing}

-- between two writes of a page something renews it
abbrev pub WritesAreWorthIt : Type 0
WritesAreWorthIt = (A : Inputs) (s t : State) (u w : Entry) (us : List Entry) (q : Page)
    → ImagesFit A.images → IsRun A s → Follows A s (u ∷ us) t → next_unit A t ≡ Some w
    → is_among q (stored_pages s.place u) ≡ true → is_among q (stored_pages t.place w) ≡ true
    → Happens (λ B x e. renews B x e q) A (after A s u) us

-- a stretch has at most 512 entries, and 16 for each copy
abbrev pub StretchAddsFew : Type 0
StretchAddsFew = (A : Inputs) (s t : State) (u : Entry) (us journal : List Entry) (pid : ℕ)
    → ImagesFit A.images → IsRun A s → Follows A s (u ∷ us) t → begins_stretch u ≡ true
    → IsClosing A (after A s u) pid → NoneBegins us
    → length (appended journal (u ∷ us)) ≤ length journal + 512 + 16 * copies_of us

-- it has at most 219 entries, and 8 for each copy
abbrev pub StretchAddsFewer : Type 0
StretchAddsFewer = (A : Inputs) (s t : State) (u : Entry) (us journal : List Entry) (pid : ℕ)
    → ImagesFit A.images → IsRun A s → Follows A s (u ∷ us) t → begins_stretch u ≡ true
    → IsClosing A (after A s u) pid → NoneBegins us
    → length (appended journal (u ∷ us)) ≤ length journal + 219 + 8 * copies_of us

-- it has at most 33 fills with zeros and reads, and one read for each copy
abbrev pub StretchTakesFew : Type 0
StretchTakesFew = (A : Inputs) (s t : State) (u : Entry) (us : List Entry) (pid : ℕ)
    → ImagesFit A.images → IsRun A s → Follows A s (u ∷ us) t → begins_stretch u ≡ true
    → IsClosing A (after A s u) pid → NoneBegins us → takings us ≤ 33 + copies_of us
