-- Whom the swapper chooses, told over all whom it could choose: so the choice can be believed without its steps.
use Rattle.std.specs.Prelude.{◌≡◌, ◌⊎◌, ℕ, ◌+◌, ◌<◌, ◌≤◌, Bool, true, false, cond, ◌&&◌, List, [], ◌∷◌, length}
use Rattle.page_model.specs.Placement.{Placement}
use Rattle.page_model.specs.Runs.{desired_free}
use Rattle.page_model.specs.Swapper.{Runner, is_out, since, is_larger, may_go_out}

-- the process is one of these
abbrev pub OneOf : Runner → List Runner → Type 0
OneOf r [] = ⊥
OneOf r (x ∷ xs) = (r ≡ x) ⊎ OneOf r xs

-- in or out since an earlier place in the journal, or since the same place and of no higher pid
abbrev pub IsFirst : Placement → Runner → Runner → Type 0
IsFirst p r x = (since p r < since p x) ⊎ ((since p r ≡ since p x) × (r.pid ≤ x.pid))

-- A process that comes in is out and awake, nobody else who is so has been out longer, and enough frames are free.
pub record ComesIn (p : Placement) (rs : List Runner) (pid : ℕ) : Type 0 where
  pub runner : Runner
  pub one : OneOf runner rs
  pub number : runner.pid ≡ pid
  pub out : is_out p runner.pid ≡ true
  pub awake : runner.asleep ≡ false
  pub longest : (x : Runner) → OneOf x rs → is_out p x.pid ≡ true → x.asleep ≡ false → IsFirst p runner x
  pub enough : desired_free p ≤ length p.free

-- in, in a space of its own
pub record MayGo (p : Placement) (r : Runner) : Type 0 where
  pub resident : is_out p r.pid ≡ false
  pub own : r.borrowed ≡ false

-- how many of those that may go out are larger
abbrev pub larger_count : Placement → Runner → List Runner → ℕ
larger_count p x [] = 0
larger_count p x (r ∷ rs) = cond (may_go_out p r && is_larger p r x) 1 0 + larger_count p x rs

-- of those that may go out and sleep nobody has been in longer; or none sleeps, and of the four largest, to which the
-- process belongs, nobody has been in longer
abbrev pub IsPick : Placement → List Runner → Runner → Bool → Type 0
IsPick p rs r true = (x : Runner) → OneOf x rs → MayGo p x → x.asleep ≡ true → IsFirst p r x
IsPick p rs r false =
    ((x : Runner) → OneOf x rs → MayGo p x → x.asleep ≡ false) × (larger_count p r rs < 4)
    × ((x : Runner) → OneOf x rs → MayGo p x → larger_count p x rs < 4 → IsFirst p r x)

-- A process that goes out may go, it is the one to pick, and too few frames are free.
pub record GoesOut (p : Placement) (rs : List Runner) (pid : ℕ) : Type 0 where
  pub runner : Runner
  pub one : OneOf runner rs
  pub number : runner.pid ≡ pid
  pub may : MayGo p runner
  pub pick : IsPick p rs runner runner.asleep
  pub few : length p.free < desired_free p

-- Where nothing is done, nobody who is awake is out while enough frames are free, or nobody may go out while too few are.
abbrev pub NoneMoves : Placement → List Runner → Type 0
NoneMoves p rs =
    ((x : Runner) → OneOf x rs → is_out p x.pid ≡ true → desired_free p ≤ length p.free → x.asleep ≡ true)
    × ((x : Runner) → OneOf x rs → is_out p x.pid ≡ false → length p.free < desired_free p → x.borrowed ≡ true)
