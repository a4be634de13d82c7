-- The units of moving are those that the policy names under a line of the schedule that asks for moves.
use Rattle.std.proofs.Common.{◌≡◌, ℕ, ◌<◌, ◌&&◌, nat_lt, Bool, true, List, [], ◌∷◌, Option, Some, sym, ap, ◌∙◌, arith}
use Rattle.std.proofs.lemmas.Bool.Decides.{nat_tests}
use Rattle.vm_facts.specs.declared.page.Page.{Page}
use Rattle.vm_facts.specs.declared.entry.Entry.{Entry}
use Rattle.flat_state.specs.Flat.{Inputs}
use Rattle.page_model.specs.Placement.{Placement, Due}
use Rattle.page_model.specs.Hands.{wants_moves}
use Rattle.run_model.specs.declared.mark.Mark.{Mark}
use Rattle.run_model.specs.declared.mark.Mark.TheVariants as marks
use Rattle.run_model.specs.State.{State}
use Rattle.run_model.specs.Wanted.{running, locked_by, locked}
use Rattle.run_model.specs.Snapshot.{touched_of, before_absent}
use Rattle.run_model.specs.Next.{when, or_else, due_unit, move_unit, under, next_mark, next_unit}
use Rattle.clock_hands.specs.Moved.{Moves}

some_left : (n : ℕ) → 0 < n → nat_lt 0 n ≡ true
some_left n l = grind (arith, nat_tests)

-- no page is locked where nothing is due and no process runs
none_locked : (A : Inputs) (s : State) (n : ℕ) → s.mark ≡ marks.Hands n → s.place.due ≡ [] → locked A s ≡ []
none_locked A s n m d = ap (locked_by A s) d ∙ ap (λ (x : Mark). before_absent s.place (touched_of A s.point.flat (running x))) m

asked_under : (A : Inputs) (s : State) (n : ℕ) (e : Entry) (us : List Entry) (r : Placement) → s.mark ≡ marks.Hands n → s.place.due ≡ []
    → Moves (e ∷ us) n s.place r → under A s s.mark ≡ Some e
asked_under A s n e us r m d f =
    ap (under A s) m
    ∙ ap (λ (pages : List Page). when (nat_lt 0 n && wants_moves s.place) (Some (move_unit s.place pages))) (none_locked A s n m d)
    ∙ ap (λ (b : Bool). when (b && wants_moves s.place) (Some (move_unit s.place []))) (some_left n f.0)
    ∙ ap (λ (b : Bool). when b (Some (move_unit s.place []))) f.1
    ∙ ap (λ (u : Entry). Some u) (sym f.2)

pub moves_next : (A : Inputs) (s : State) (n : ℕ) (e : Entry) (us : List Entry) (r : Placement) → s.mark ≡ marks.Hands n → s.place.due ≡ []
    → Moves (e ∷ us) n s.place r → next_unit A s ≡ Some e
unfolding next_unit
moves_next A s n e us r m d f =
    ap (λ (due : List Due). or_else (due_unit s.place due) (or_else (under A s s.mark) (next_mark A s))) d
    ∙ ap (λ (o : Option Entry). or_else o (next_mark A s)) (asked_under A s n e us r m d f)
