-- Marks under which no process runs: an interrupt, moves of the hands, a process that comes in or is put out, and an audit.
use Rattle.std.proofs.Common.{◌≡◌, ◌⊎◌, inl, inr, ℕ, zero, suc, ◌+◌, ◌-◌, ◌<◌, ◌≤◌, ◌&&◌, nat_lt, Bool, true, false, List, [], length, Option, Some, None, refl, sym, ap, ◌∙◌, subst, arith}
use Rattle.vm_facts.specs.declared.entry.Entry.{Entry}
use Rattle.vm_facts.specs.declared.entry.Entry.TheVariants as entries
use Rattle.flat_state.specs.Flat.{Inputs, process_of}
use Rattle.page_model.specs.Placement.{Placement, Due}
use Rattle.page_model.specs.Moves.{done}
use Rattle.page_model.specs.Place.{space_of_process}
use Rattle.page_model.specs.PuttingOut.{put_rank}
use Rattle.page_model.specs.Hands.{wants_moves}
use Rattle.page_model.specs.Serve.{is_full}
use Rattle.page_model.specs.Swapper.{put_out_unit}
use Rattle.page_laws.proofs.Ends.Serving.{full_some}
use Rattle.run_model.specs.declared.mark.Mark.{Mark}
use Rattle.run_model.specs.declared.mark.Mark.TheVariants as marks
use Rattle.flat_model.specs.Run.{Point, process_of_entry}
use Rattle.run_model.specs.State.{State}
use Rattle.run_model.specs.Wanted.{locked}
use Rattle.run_model.specs.After.{completed, moved_on, brought_in, put_out, audited, after}
use Rattle.run_model.specs.Next.{when, or_else, due_unit, begins_write, move_by, move_unit, owners_entry, under, next_mark, next_unit}
use Rattle.std.proofs.lemmas.Bool.{and_parts, ltb-true}
use Rattle.run_laws.specs.Standing.{MarkStands}
use Rattle.run_laws.specs.Running.{IsRun}
use Rattle.run_laws.proofs.Flows.{plain_point}
use Rattle.run_laws.proofs.Plain.{put_flat}
use Rattle.run_laws.proofs.Residents.{put_unit, put_falls}
use Rattle.run_laws.proofs.Units.{plain_place}
use Rattle.economy_laws.specs.Finishes.{Finishes}
use Rattle.page_laws.proofs.Serving.{done_less}
use Rattle.economy_laws.proofs.Finishing.Stages.{is_boundary, Stage, finish_on, finish_known, mark_boundary}
use Rattle.economy_laws.proofs.Finishing.Dues.{due_ends}

-- with nothing due the next unit is the mark's, or the next mark
under_next : (A : Inputs) (s : State) (o : Option Entry) → s.place.due ≡ [] → under A s s.mark ≡ o → next_unit A s ≡ or_else o (next_mark A s)
unfolding next_unit
under_next A s o d e = ap (λ (x : List Due). or_else (due_unit s.place x) (or_else (under A s s.mark) (next_mark A s))) d ∙ ap (λ (x : Option Entry). or_else x (next_mark A s)) e

-- a mark under which nothing is to come
pub spent_ends : (A : Inputs) (P : State → Type 0) (s : State) → Stage A P → P s → s.place.due ≡ [] → under A s s.mark ≡ None → Finishes A s
spent_ends A P s g p d e = finish_on A P s g p (λ u h n p2. absurd (let z : true ≡ false = sym (mark_boundary A s u (sym (under_next A s None d e) ∙ h)) ∙ n in cc))

pub over_ends : (A : Inputs) (P : State → Type 0) (s : State) → Stage A P → P s → s.mark ≡ marks.Over → Finishes A s
over_ends A P s g p mk = due_ends (length s.place.due) A P marks.Over s g tt (λ t pt dt mt. spent_ends A P t g pt dt (ap (under A t) mt)) p (omega arith) mk

-- a mark that one unit ends
once_ends : (A : Inputs) (P : State → Type 0) (s : State) (u : Entry) → Stage A P → P s → s.place.due ≡ [] → under A s s.mark ≡ Some u
    → (after A s u).mark ≡ marks.Over → Finishes A s
once_ends A P s u g p d e o = finish_known A P s u g p (under_next A s (Some u) d e) (λ b p2. over_ends A P (after A s u) g p2 o)

pub done_mark : (A : Inputs) (s : State) → (after A s entries.Done).mark ≡ completed s.mark
unfolding after
done_mark A s = refl

pub moves_mark : (A : Inputs) (s : State) (n : ℕ) → (after A s (entries.Hands n)).mark ≡ moved_on n s.mark
unfolding after
moves_mark A s n = refl

pub in_mark : (A : Inputs) (s : State) (pid : ℕ) → (after A s (entries.SwapIn pid)).mark ≡ brought_in s.mark
unfolding after
in_mark A s pid = refl

pub notes_mark : (A : Inputs) (s : State) → (after A s (owners_entry s)).mark ≡ audited s.mark
unfolding after
notes_mark A s = refl

-- Moves of the hands: with each move one fewer is left, and with each transfer that ends one fewer is in flight.

move_ends : (n : ℕ) (A : Inputs) (P : State → Type 0) (count : ℕ) (s : State) → Stage A P
    → (0 < count → (t : State) → P t → t.mark ≡ marks.Hands (count - 1) → Finishes A t)
    → P s → s.mark ≡ marks.Hands count → length s.place.transfers < n → Finishes A s
move_ends zero A P count s g fewer p mk lt = absurd (omega arith)
move_ends (suc n) A P count s g fewer p mk lt = go (λ t. move_ends n A P count t g fewer) (nat_lt 0 count && wants_moves s.place) refl
  where
    r : IsRun A s
    r = g.run s p

    d : s.place.due ≡ []
    d = subst (MarkStands s) mk r.mark

    moves : ((t : State) → P t → t.mark ≡ marks.Hands count → length t.place.transfers < n → Finishes A t) → 0 < count
        → (b : Bool) → (begins_write s.place (locked A s) && is_full s.place) ≡ b → next_unit A s ≡ Some (move_by b) → Finishes A s
    moves more some true e h = finish_known A P s entries.Done g p h (λ b p2.
        let pl : (after A s entries.Done).place ≡ done s.place = plain_place A s entries.Done refl in
        let full = full_some s.place (and_parts (begins_write s.place (locked A s)) (is_full s.place) e).1 in
        let less = done_less s.place (λ z. absurd (let y = ap length z in omega arith)) in
        let t = ap (λ (x : Placement). length x.transfers) pl in
        more (after A s entries.Done) p2 (done_mark A s ∙ ap completed mk) (omega arith))
    moves more some false e h = finish_known A P s (entries.Hands 1) g p h (λ b p2. fewer some (after A s (entries.Hands 1)) p2 (moves_mark A s 1 ∙ ap (moved_on 1) mk))

    go : ((t : State) → P t → t.mark ≡ marks.Hands count → length t.place.transfers < n → Finishes A t) → (b : Bool) → (nat_lt 0 count && wants_moves s.place) ≡ b → Finishes A s
    go more false e = spent_ends A P s g p d (ap (under A s) mk ∙ ap (λ (b : Bool). when b (Some (move_unit s.place (locked A s)))) e)
    go more true e = moves more (ltb-true 0 count (and_parts (nat_lt 0 count) (wants_moves s.place) e).0) (begins_write s.place (locked A s) && is_full s.place) refl
        (under_next A s (Some (move_unit s.place (locked A s))) d (ap (under A s) mk ∙ ap (λ (b : Bool). when b (Some (move_unit s.place (locked A s)))) e))

hands_end : (n : ℕ) (A : Inputs) (P : State → Type 0) (count : ℕ) (s : State) → Stage A P → P s → s.mark ≡ marks.Hands count → count ≤ n → Finishes A s
hands_end zero A P count s g p mk l = move_ends (1 + length s.place.transfers) A P count s g (λ some. absurd (omega arith)) p mk (omega arith)
hands_end (suc n) A P count s g p mk l = move_ends (1 + length s.place.transfers) A P count s g (λ some t pt mt. hands_end n A P (count - 1) t g pt mt (omega arith)) p mk (omega arith)

-- Putting a process out.

out_mark : (A : Inputs) (s : State) (u : Entry) (pid : ℕ) → s.mark ≡ marks.PutOut pid → is_boundary u ≡ false
    → ((after A s u).mark ≡ marks.PutOut pid) ⊎ ((after A s u).mark ≡ marks.Over)
unfolding after
out_mark A s (entries.Event line) pid m n = absurd cc
out_mark A s (entries.Turn p) pid m n = absurd cc
out_mark A s (entries.Hands k) pid m n = inl (ap (moved_on k) m)
out_mark A s entries.Done pid m n = inl (ap completed m)
out_mark A s (entries.SwapOut p) pid m n = inr (ap put_out m)
out_mark A s (entries.SwapIn p) pid m n = inl (ap brought_in m)
out_mark A s (entries.Owners a b c d) pid m n = inl (ap audited m)
out_mark A s _ pid m n = inl m

put_ends : (n : ℕ) (A : Inputs) (P : State → Type 0) (pid sid : ℕ) (s : State) → Stage A P → P s → s.mark ≡ marks.PutOut pid
    → space_of_process (process_of s.point.flat pid) ≡ sid → put_rank s.place pid sid < n → Finishes A s
put_ends zero A P pid sid s g p mk i lt = absurd (omega arith)
put_ends (suc n) A P pid sid s g p mk i lt =
    let r : IsRun A s = g.run s p in
    let d : s.place.due ≡ [] =
    let m : (s.place.due ≡ []) × (Rattle.kernel_model.specs.Stands.holds_some (process_of s.point.flat pid) ≡ true) × (Rattle.page_model.specs.Swapper.is_out s.place pid ≡ false) =
    subst (MarkStands s) mk r.mark in m.0 in
    let same : (a b : Entry) → Some a ≡ Some b → a ≡ b = λ a b e. cc in
    let go : ((t : State) → P t → t.mark ≡ marks.PutOut pid → space_of_process (process_of t.point.flat pid) ≡ sid → put_rank t.place pid sid < n → Finishes A t)
    → (u : Entry) → next_unit A s ≡ Some u → is_boundary u ≡ false → P (after A s u) → Finishes A (after A s u) = λ more u h b p2.
    let is : u ≡ put_out_unit s.place pid (space_of_process (process_of s.point.flat pid)) =
    same u (put_out_unit s.place pid (space_of_process (process_of s.point.flat pid))) (sym h ∙ put_unit A s pid d mk) in
    let point = plain_point A s u (ap process_of_entry is ∙ put_flat s.place pid (space_of_process (process_of s.point.flat pid))) in
    let falls = put_falls A s u pid r mk h in
    elim (out_mark A s u pid mk b) [
      | inl m ↦ more (after A s u) p2 m (ap (λ (x : Point). space_of_process (process_of x.flat pid)) point ∙ i)
          (let a : put_rank (after A s u).place pid sid < put_rank s.place pid sid = subst (λ (x : ℕ). put_rank (after A s u).place pid x < put_rank s.place pid x) i falls in omega arith)
      | inr m ↦ over_ends A P (after A s u) g p2 m
    ] in
    finish_on A P s g p (go (λ t. put_ends n A P pid sid t g))

-- Each of these marks.
pub still_ends : (A : Inputs) (P : State → Type 0) (s : State) → Stage A P
    → ((pid : ℕ) → Rattle.run_model.specs.Wanted.running s.mark ≡ Some pid → Finishes A s) → P s → Finishes A s
still_ends A P s g runs p = go s.mark refl
  where
    r : IsRun A s
    r = g.run s p

    go : (m : Mark) → s.mark ≡ m → Finishes A s
    go marks.Over e = over_ends A P s g p e
    go (marks.Dispatch pid count since) e = runs pid (ap Rattle.run_model.specs.Wanted.running e)
    go (marks.Turn pid since) e = runs pid (ap Rattle.run_model.specs.Wanted.running e)
    go marks.Interrupt e =
        let m : (s.place.due ≡ []) × (0 < length s.place.transfers) = subst (MarkStands s) e r.mark in
        once_ends A P s entries.Done g p m.0 (ap (under A s) e) (done_mark A s ∙ ap completed e)
    go (marks.Hands count) e = hands_end count A P count s g p e (omega arith)
    go (marks.BringIn pid) e =
        let m : (s.place.due ≡ []) × (Rattle.kernel_model.specs.Stands.holds_some (process_of s.point.flat pid) ≡ true) × (Rattle.page_model.specs.Swapper.is_out s.place pid ≡ true) =
        subst (MarkStands s) e r.mark in
        once_ends A P s (entries.SwapIn pid) g p m.0 (ap (under A s) e) (in_mark A s pid ∙ ap brought_in e)
    go (marks.PutOut pid) e = put_ends (1 + put_rank s.place pid (space_of_process (process_of s.point.flat pid))) A P pid (space_of_process (process_of s.point.flat pid)) s g p e refl (omega arith)
    go marks.Audit e = once_ends A P s (owners_entry s) g p (subst (MarkStands s) e r.mark) (ap (under A s) e) (notes_mark A s ∙ ap audited e)
