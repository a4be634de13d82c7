-- What one process does follows from its image.
use Rattle.std.specs.Prelude.{◌≡◌, ◌⊎◌, true, false, List}
use Rattle.vm_facts.specs.declared.entry.Entry.{Entry}
use Rattle.flat_state.specs.Flat.{Inputs, can_step}
use Rattle.flat_model.specs.Run.{Point}
use Rattle.flat_laws.specs.Visible.{visible_of, has_end, acts_of, IsSingle, Begins}

-- Two runs of one process with the same images, of which the same one is started. All else may differ: the schedule, the frames, the
-- swap space, and how many instructions may run.
pub record IsPair (A B : Inputs) (journal other : List Entry) (p q : Point) : Type 0 where
  pub images : B.images ≡ A.images
  pub first : B.first ≡ A.first
  pub one : IsSingle A journal p
  pub two : IsSingle B other q

-- what the process did in one of them is the beginning of what it did in the other
abbrev pub OneGoesOn : Type 0
OneGoesOn = (A B : Inputs) (journal other : List Entry) (p q : Point) → IsPair A B journal other p q
    → Begins (acts_of journal) (acts_of other) ⊎ Begins (acts_of other) (acts_of journal)

-- and so is what is seen of them
abbrev pub VisibleAgrees : Type 0
VisibleAgrees = (A B : Inputs) (journal other : List Entry) (p q : Point) → IsPair A B journal other p q
    → Begins (visible_of journal) (visible_of other) ⊎ Begins (visible_of other) (visible_of journal)

-- no run goes further than one after which the process can't step: nothing more is seen of it
abbrev pub OverIsAll : Type 0
OverIsAll = (A B : Inputs) (journal other : List Entry) (p q : Point) → IsPair A B journal other p q
    → can_step p.flat 1 ≡ false → Begins (visible_of other) (visible_of journal)

-- where the process can't step after either, both are the same to their ends
pub record IsSame (journal other : List Entry) (p q : Point) : Type 0 where
  pub acts : acts_of journal ≡ acts_of other
  pub visible : visible_of journal ≡ visible_of other
  pub left : p ≡ q

-- where the process can't step after either run, what it did, what is seen and what is left are the same
abbrev pub BothOverAreSame : Type 0
BothOverAreSame = (A B : Inputs) (journal other : List Entry) (p q : Point) → IsPair A B journal other p q
    → can_step p.flat 1 ≡ false → can_step q.flat 1 ≡ false → IsSame journal other p q

-- after a run whose end is seen the process can't step
abbrev pub EndIsLast : Type 0
EndIsLast = (A : Inputs) (journal : List Entry) (p : Point) → IsSingle A journal p → has_end (visible_of journal) ≡ true → can_step p.flat 1 ≡ false
