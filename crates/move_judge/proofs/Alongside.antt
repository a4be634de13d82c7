-- Pages from one on.
use Rattle.std.proofs.Common.{◌≡◌, ◌≢◌, ℕ, zero, suc, ◌+◌, ◌-◌, Option, refl, ap, arith}
use Rattle.vm_facts.specs.declared.page.Page.{Page}
use Rattle.flat_state.specs.PageNames.{beside, pages_from}
use Rattle.paged_model.specs.declared.reason.Reason.{Reason}
use Rattle.paged_model.specs.Reasons.{or_reason}
use Rattle.paged_model.specs.Moves.{each_page}

-- the first of some pages, and those after it
pub each_first : (q : Page) (reason : Page → Option Reason) (lo n : ℕ) → n ≢ 0
    → each_page reason (pages_from q lo n) ≡ or_reason (reason (beside q lo)) (each_page reason (pages_from q (lo + 1) (n - 1)))
each_first q reason lo zero some = absurd (some refl)
each_first q reason lo (suc n) some =
    let same : n ≡ suc n - 1 = omega arith in ap (λ (m : ℕ). or_reason (reason (beside q lo)) (each_page reason (pages_from q (lo + 1) m))) same
