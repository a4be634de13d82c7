-- Which reasons a line of a schedule, a turn, or the numbers of frames and blocks have.
use Rattle.std.proofs.Common.{◌≡◌, ℕ, ◌+◌, ◌==◌, ◌&&◌, Bool, true, false, Option, refl, sym, ap, ◌∙◌}
use Rattle.vm_facts.specs.declared.entry.Entry.{Entry}
use Rattle.vm_facts.specs.declared.entry.Entry.TheVariants as entries
use Rattle.swap_book.specs.Holdings.{Holdings}
use Rattle.kernel_model.specs.Kernel.{Kernel}
use Rattle.machine_state.specs.Calls.{IsNote}
use Rattle.page_model.specs.Placement.{Placement}
use Rattle.run_model.specs.Next.{owners_of}
use Rattle.run_model.specs.State.{State}
use Rattle.paged_model.specs.declared.reason.Reason.{Reason}
use Rattle.paged_model.specs.declared.reason.Reason.TheVariants as reasons
use Rattle.paged_model.specs.Reasons.{unless}
use Rattle.paged_model.specs.Steps.{same_owners, event_reason, owners_reason}
use Rattle.repage_check.specs.Units.{AreOwnersOf, IsMarkNote}

pub noted : (u : Entry) → IsMarkNote u → IsNote u
noted (entries.Event line) k = tt
noted (entries.Turn pid) k = tt
noted (entries.Owners f v m h) k = tt
noted _ k = absurd k

pub event_told : (lines line : ℕ) (s : State) (r : Option Reason) → s.lines ≡ lines
    → r ≡ unless (line == lines + 1) (reasons.Comes (entries.Event (lines + 1))) → r ≡ event_reason s line
event_told lines line s r e h = h ∙ ap (λ (n : ℕ). unless (line == n + 1) (reasons.Comes (entries.Event (n + 1)))) (sym e)

pub all_same : (a b c d : Bool) → (((a && b) && c) && d) ≡ (a && (b && (c && d)))
all_same true b c d = last b
  where
    last : (x : Bool) → ((x && c) && d) ≡ (x && (c && d))
    last true = refl
    last false = refl
all_same false b c d = refl

pub owners_told : (k : Kernel) (s : State) (u stands : Entry) (b : Bool) (r : Option Reason) → AreOwnersOf k s → stands ≡ owners_of k.place k.holdings
    → b ≡ same_owners stands u → r ≡ unless b (reasons.Comes stands) → r ≡ owners_reason s u
owners_told k s u stands b r o e same is =
    is ∙ ap (λ (x : Bool). unless x (reasons.Comes stands)) same
    ∙ ap (λ (x : Entry). unless (same_owners x u) (reasons.Comes x))
    (e ∙ ap (λ (p : Placement). owners_of p k.holdings) o.place ∙ ap (λ (hs : Holdings). owners_of s.place hs) o.holdings)
