-- What the code knows of references for every number of frames, and what it writes for one of them.
use Rattle.std.specs.Prelude.{◌≡◌, ℕ, ◌-◌, ◌<◌, ◌≤◌, List, ◌++◌, length, slice_index_or, unwrap_or}
use Rattle.reference_answers.specs.Grammar.{most_references}
use Rattle.page_opt.specs.Plans.{plan_faults}
use Rattle.page_opt.specs.Furthest.{furthest_victims}
use Rattle.page_opt.specs.Cache.{AreNextUses}
use Rattle.stack_dist.specs.Lru.{lru_faults, distinct_pages}
use Rattle.reference_answers.specs.Texts.{sweep_line}
use Rattle.reference_answers.specs.Answers.{IsLeast}
use Rattle.reference_answers.specs.declared.sweeping.Known.{Known}

-- the next uses are those of the references, and the curve is theirs, which past its last entry stays as it is
pub record IsKnown (known : Known) : Type 0 where
  pub few : length known.numbers.now ≤ most_references
  pub next : AreNextUses known.numbers.now known.next.now
  pub sizes : length known.curve.now ≡ distinct_pages known.numbers.now
  pub entries : (n : ℕ) → 0 < n → n ≤ distinct_pages known.numbers.now → slice_index_or known.curve.now (n - 1) 0 ≡ lru_faults known.numbers.now n
  pub past : (n : ℕ) → distinct_pages known.numbers.now ≤ n → lru_faults known.numbers.now n ≡ lru_faults known.numbers.now (distinct_pages known.numbers.now)

-- the faults of the plan by Belady's rule
abbrev pub belady_faults : List ℕ → ℕ → ℕ
belady_faults refs frames = unwrap_or (plan_faults refs frames (furthest_victims refs frames)) 0

-- the line of a number of frames was put, with the least faults
pub record HasNextLine (refs : List ℕ) (frames : ℕ) (before after : List ℕ) : Type 0 where
  pub fewest : IsLeast refs frames (belady_faults refs frames)
  pub line : after ≡ before ++ sweep_line refs frames (belady_faults refs frames)
