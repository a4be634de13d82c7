-- What the answers about the fewest faults, and about policies, are: a plan by Belady's rule has these faults.
use Rattle.std.specs.Prelude.{◌≡◌, ℕ, ◌≤◌, List, All, Some}
use Rattle.std.specs.List.{flat_map}
use Rattle.vm_facts.specs.declared.page.Page.{Page}
use Rattle.page_opt.specs.declared.Victim.{Victim}
use Rattle.page_opt.specs.Plans.{plan_faults}
use Rattle.page_opt.specs.Furthest.{furthest_victims}
use Rattle.reference_answers.specs.Numbers.{numbers_of}
use Rattle.reference_answers.specs.Texts.{optimum_text, policies_text, sweep_line}

-- the victims are the plan of Belady's rule, it has these faults, and no plan has fewer
pub record IsOptimum (refs : List ℕ) (frames faults : ℕ) (victims : List Victim) : Type 0 where
  pub plan : plan_faults refs frames victims ≡ Some faults
  pub least : (others : List Victim) (m : ℕ) → plan_faults refs frames others ≡ Some m → faults ≤ m
  pub furthest : victims ≡ furthest_victims refs frames

-- a text is that of such a plan
pub record IsOptimumText (refs : List Page) (frames : ℕ) (text : List ℕ) : Type 0 where
  pub faults : ℕ
  pub victims : List Victim
  pub optimum : IsOptimum (numbers_of refs) frames faults victims
  pub is : text ≡ optimum_text refs frames faults victims

-- a plan has so many faults, and none has fewer
pub record IsLeast (refs : List ℕ) (frames least : ℕ) : Type 0 where
  pub victims : List Victim
  pub optimum : IsOptimum refs frames least victims

-- a text is that of the policies, with the front hand so many frames ahead, beside the least faults of any plan
pub record IsPoliciesText (refs : List Page) (frames ahead : ℕ) (text : List ℕ) : Type 0 where
  pub least : ℕ
  pub fewest : IsLeast (numbers_of refs) frames least
  pub is : text ≡ policies_text (numbers_of refs) frames ahead least

-- a text has a line for each of these numbers of frames, in their order
pub record AreSweepLines (refs sizes text : List ℕ) : Type 0 where
  pub least : ℕ → ℕ
  pub fewest : All (λ frames. IsLeast refs frames (least frames)) sizes
  pub are : text ≡ flat_map (λ frames. sweep_line refs frames (least frames)) sizes

-- a text has these lines of the policies
abbrev pub IsSweepText : List Page → (sizes text : List ℕ) → Type 0
IsSweepText refs sizes text = AreSweepLines (numbers_of refs) sizes text
