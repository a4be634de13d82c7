-- The pages that are wanted and locked are the touched ones, cut at the first that isn't valid.
use Rattle.std.proofs.Common.{◌≡◌, ℕ, Bool, true, false, List, [], ◌∷◌, ◌++◌, Some, None, refl, sym, ap, ◌∙◌, subst}
use Rattle.std.proofs.lemmas.List.{append-nil}
use Rattle.flat_state.specs.Flat.{Inputs, can_step}
use Rattle.vm_facts.specs.declared.page.Page.{Page}
use Rattle.kernel_model.specs.Pages.{is_valid}
use Rattle.kernel_model.specs.Placement.{Placement, state_of}
use Rattle.run_model.specs.State.{State}
use Rattle.run_model.specs.Wanted.{running, touched_next, AllValid, absent_by, first_absent, wanted_by, wanted, locked_by, locked, Splits}
use Rattle.run_model.specs.Snapshot.{present_by, before_absent}
use Rattle.run_model.specs.Act.{act, act_if}
use Rattle.run_model.specs.Snapshot as here
use Rattle.flat_model.proofs.Idle.{idle_touches}

-- Lists of pages.

pub split_absent : (p : Placement) (pages : List Page) (q : Page) → first_absent p pages ≡ Some q → Splits p pages (before_absent p pages) q
split_absent p [] q h = absurd cc
split_absent p (r ∷ rs) q h = go (split_absent p rs q) (is_valid (state_of p r)) refl h
  where
    go : (first_absent p rs ≡ Some q → Splits p rs (before_absent p rs) q) → (b : Bool) → is_valid (state_of p r) ≡ b → absent_by b r (first_absent p rs) ≡ Some q
        → Splits p (r ∷ rs) (present_by b r (before_absent p rs)) q
    go later true e k =
        let more : Splits p rs (before_absent p rs) q = later k in
        record { behind = more.behind; whole = ap (λ (x : List Page). r ∷ x) more.whole; valid = (e, more.valid); absent = more.absent }
    go later false e k =
        let same : r ≡ q = cc in
        record { behind = rs; whole = ap (λ (x : Page). x ∷ rs) same; valid = tt; absent = subst (λ (x : Page). is_valid (state_of p x) ≡ false) same e }

pub none_absent : (p : Placement) (pages : List Page) → first_absent p pages ≡ None → AllValid p pages
none_absent p [] h = tt
none_absent p (r ∷ rs) h = go (none_absent p rs) (is_valid (state_of p r)) refl h
  where
    go : (first_absent p rs ≡ None → AllValid p rs) → (b : Bool) → is_valid (state_of p r) ≡ b → absent_by b r (first_absent p rs) ≡ None → AllValid p (r ∷ rs)
    go more true e k = (e, more k)
    go more false e k = absurd cc

pub before_valid : (p : Placement) (pages : List Page) → AllValid p (before_absent p pages)
before_valid p [] = tt
before_valid p (r ∷ rs) = go (before_valid p rs) (is_valid (state_of p r)) refl
  where
    go : AllValid p (before_absent p rs) → (b : Bool) → is_valid (state_of p r) ≡ b → AllValid p (present_by b r (before_absent p rs))
    go more true e = (e, more)
    go more false e = tt

-- valid pages before others
pub absent_past : (p : Placement) (before rest : List Page) → AllValid p before → first_absent p (before ++ rest) ≡ first_absent p rest
absent_past p [] rest h = refl
absent_past p (r ∷ rs) rest h = ap (λ (b : Bool). absent_by b r (first_absent p (rs ++ rest))) h.0 ∙ absent_past p rs rest h.1

pub before_past : (p : Placement) (before rest : List Page) → AllValid p before → before_absent p (before ++ rest) ≡ before ++ before_absent p rest
before_past p [] rest h = refl
before_past p (r ∷ rs) rest h =
    ap (λ (b : Bool). present_by b r (before_absent p (rs ++ rest))) h.0 ∙ ap (λ (x : List Page). r ∷ x) (before_past p rs rest h.1)

absent_here : (p : Placement) (q : Page) (rest : List Page) → is_valid (state_of p q) ≡ false → first_absent p (q ∷ rest) ≡ Some q
absent_here p q rest h = ap (λ (b : Bool). absent_by b q (first_absent p rest)) h

before_here : (p : Placement) (q : Page) (rest : List Page) → is_valid (state_of p q) ≡ false → before_absent p (q ∷ rest) ≡ []
before_here p q rest h = ap (λ (b : Bool). present_by b q (before_absent p rest)) h

-- pages that are so split have this one as the first that isn't valid, and those before it before it
pub split_first : (p : Placement) (pages before : List Page) (q : Page) → Splits p pages before q → first_absent p pages ≡ Some q
split_first p pages before q s =
    ap (first_absent p) s.whole ∙ absent_past p before (q ∷ s.behind) s.valid ∙ absent_here p q s.behind s.absent

pub split_before : (p : Placement) (pages before : List Page) (q : Page) → Splits p pages before q → before_absent p pages ≡ before
split_before p pages before q s =
    ap (before_absent p) s.whole ∙ before_past p before (q ∷ s.behind) s.valid ∙ ap (λ (x : List Page). before ++ x) (before_here p q s.behind s.absent)
    ∙ append-nil before

pub all_before : (p : Placement) (pages : List Page) → AllValid p pages → before_absent p pages ≡ pages
all_before p [] h = refl
all_before p (r ∷ rs) h = ap (λ (b : Bool). present_by b r (before_absent p rs)) h.0 ∙ ap (λ (x : List Page). r ∷ x) (all_before p rs h.1)

pub all_present : (p : Placement) (pages : List Page) → AllValid p pages → first_absent p pages ≡ None
all_present p [] h = refl
all_present p (r ∷ rs) h = ap (λ (b : Bool). absent_by b r (first_absent p rs)) h.0 ∙ all_present p rs h.1

-- States in which nothing is due.

module _ (A : Inputs) (s : State) where
  wanted_plain : s.place.due ≡ [] → wanted A s ≡ first_absent s.place (touched_next A s)
  wanted_plain h = ap (wanted_by A s) h

  locked_plain : s.place.due ≡ [] → locked A s ≡ before_absent s.place (touched_next A s)
  locked_plain h = ap (locked_by A s) h

  pub wanted_splits : (q : Page) → s.place.due ≡ [] → wanted A s ≡ Some q → Splits s.place (touched_next A s) (locked A s) q
  wanted_splits q d h =
      subst (λ (x : List Page). Splits s.place (touched_next A s) x q) (sym (locked_plain d)) (split_absent s.place (touched_next A s) q (sym (wanted_plain d) ∙ h))

  pub wanted_none : s.place.due ≡ [] → wanted A s ≡ None → AllValid s.place (touched_next A s)
  wanted_none d h = none_absent s.place (touched_next A s) (sym (wanted_plain d) ∙ h)

  pub locked_all : s.place.due ≡ [] → wanted A s ≡ None → locked A s ≡ touched_next A s
  locked_all d h = locked_plain d ∙ all_before s.place (touched_next A s) (wanted_none d h)

  pub locked_valid : s.place.due ≡ [] → AllValid s.place (locked A s)
  locked_valid d = subst (AllValid s.place) (sym (locked_plain d)) (before_valid s.place (touched_next A s))

  pub splits_wanted : (before : List Page) (q : Page) → s.place.due ≡ [] → Splits s.place (touched_next A s) before q → wanted A s ≡ Some q
  splits_wanted before q d h = wanted_plain d ∙ split_first s.place (touched_next A s) before q h

  pub splits_locked : (before : List Page) (q : Page) → s.place.due ≡ [] → Splits s.place (touched_next A s) before q → locked A s ≡ before
  splits_locked before q d h = locked_plain d ∙ split_before s.place (touched_next A s) before q h

  pub all_unwanted : s.place.due ≡ [] → AllValid s.place (touched_next A s) → wanted A s ≡ None
  all_unwanted d h = wanted_plain d ∙ all_present s.place (touched_next A s) h

  -- A process that can't step.

  pub idle_acts : (pid : ℕ) → can_step s.point.flat pid ≡ false → act A s pid ≡ None
  unfolding act
  idle_acts pid h = ap (λ (b : Bool). act_if b A s pid) h

  idle_next : (pid : ℕ) → running s.mark ≡ Some pid → can_step s.point.flat pid ≡ false → touched_next A s ≡ []
  idle_next pid r h = ap (here.touched_of A s.point.flat) r ∙ idle_touches A s.point.flat pid h

  pub idle_wants : (pid : ℕ) → s.place.due ≡ [] → running s.mark ≡ Some pid → can_step s.point.flat pid ≡ false → wanted A s ≡ None
  idle_wants pid d r h = wanted_plain d ∙ ap (first_absent s.place) (idle_next pid r h)
