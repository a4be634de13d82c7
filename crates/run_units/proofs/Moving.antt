-- Moves of the hands that a line asks for are what a run does next.
use Rattle.std.proofs.Common.{◌≡◌, ℕ, zero, suc, ◌+◌, ◌-◌, ◌<◌, ◌&&◌, nat_lt, Bool, true, false, List, [], ◌∷◌, Option, Some, None, refl, sym, ap, ◌∙◌, subst, arith}
use Rattle.vm_facts.specs.SwapImages.{SwapImage}
use Rattle.vm_facts.specs.declared.entry.Entry.{Entry}
use Rattle.vm_facts.specs.declared.entry.Entry.TheVariants as entries
use Rattle.vm_facts.specs.declared.page.Page.{Page}
use Rattle.flat_state.specs.Flat.{Inputs}
use Rattle.page_model.specs.Placement.{Placement, Due}
use Rattle.page_model.specs.Ownership.{OwnsFrames}
use Rattle.page_model.specs.Moves.{done}
use Rattle.page_model.specs.Hands.{hand_move, wants_moves}
use Rattle.page_model.specs.Place.{place_entry}
use Rattle.page_model.specs.Serve.{is_full}
use Rattle.page_laws.proofs.Moves.Stays.{move_stays, done_steady}
use Rattle.kernel_model.specs.Kernel.{Kernel}
use Rattle.page_laws.specs.Spans.{moves, moves_of}
use Rattle.run_model.specs.declared.mark.Mark.{Mark}
use Rattle.run_model.specs.declared.mark.Mark.TheVariants as marks
use Rattle.run_model.specs.State.{State}
use Rattle.run_model.specs.Wanted.{running, locked_by, locked}
use Rattle.run_model.specs.Snapshot.{touched_of, before_absent}
use Rattle.run_model.specs.After.{after, completed, moved_on}
use Rattle.run_model.specs.Next.{when, begins_write, move_by, move_unit, under, next_unit}
use Rattle.economy_laws.specs.Machine.{unit_swap}
use Rattle.fault_fill.specs.Made.{Ground, Made}
use Rattle.fault_fill.proofs.PagingUnitsUnits.{unit_place}
use Rattle.fault_fill.specs.Moved.{Moves}
use Rattle.fault_fill.proofs.Asked.{moves_next}
use Rattle.run_units.specs.Leads.{HasImages, KeepsLocked, MadeAs, Leads}
use Rattle.run_units.specs.Serving.{At}
use Rattle.run_units.specs.Moving.{AsksMoves, LeadsMoving}
use Rattle.run_units.proofs.Units.{one_made, none_leads, first_leads, leads_at}
use Rattle.run_units.proofs.Serving.{moving_locked}

none_locked : (A : Inputs) (s : State) (n : ℕ) → AsksMoves s n → locked A s ≡ []
none_locked A s n h = ap (locked_by A s) h.clear ∙ ap (λ (x : Mark). before_absent s.place (touched_of A s.point.flat (running x))) h.mark

pub move_next : (A : Inputs) (s : State) (n : ℕ) → AsksMoves s n → 0 < n → wants_moves s.place ≡ true → next_unit A s ≡ Some (move_unit s.place [])
move_next A s n h l w = moves_next A s n (move_unit s.place []) [] (place_entry [] 0 s.place (move_unit s.place [])) h.mark h.clear (l, w, refl, refl)

pub moves_end : (A : Inputs) (s : State) (n : ℕ) → AsksMoves s n → (0 < n → wants_moves s.place ≡ false) → under A s s.mark ≡ None
moves_end A s n h f = ap (under A s) h.mark ∙ go n f
  where
    go : (m : ℕ) → (0 < m → wants_moves s.place ≡ false) → under A s (marks.Hands m) ≡ None
    go zero k = refl
    go (suc m) k = ap (λ (b : Bool). when (nat_lt 0 (suc m) && b) (Some (move_unit s.place (locked A s)))) (k (omega arith)) ∙ none (nat_lt 0 (suc m))
      where
        none : (b : Bool) → when (b && false) (Some (move_unit s.place (locked A s))) ≡ None
        none true = refl
        none false = refl

none_fewer : (n : ℕ) → n ≡ n - 0
none_fewer n = omega arith

-- A state after a unit of moving.
record Moved (A : Inputs) (s : State) (n : ℕ) (e : Entry) : Type 0 where
  place : (after A s e).place ≡ place_entry [] 0 s.place e
  asks : AsksMoves (after A s e) (n - moves e)
  point : (after A s e).point ≡ s.point
  holdings : (after A s e).holdings ≡ s.holdings
  count : (after A s e).count ≡ s.count
  lines : (after A s e).lines ≡ s.lines

moved_by : (A : Inputs) (s : State) (n : ℕ) (b : Bool) → OwnsFrames s.place → AsksMoves s n → locked A s ≡ [] → Moved A s n (move_by b)
unfolding after
moved_by A s n true o h e = record {
  place = refl;
  asks = record { mark = ap completed h.mark ∙ ap (λ (m : ℕ). marks.Hands m) (none_fewer n); clear = (done_steady s.place o).due ∙ h.clear };
  point = refl;
  holdings = refl;
  count = refl;
  lines = refl;
}
moved_by A s n false o h e = record {
  place = ap (λ (qs : List Page). place_entry qs 0 s.place (entries.Hands 1)) e;
  asks = record { mark = ap (moved_on 1) h.mark; clear = (move_stays s.place (locked A s)).due ∙ h.clear };
  point = refl;
  holdings = refl;
  count = refl;
  lines = refl;
}

fewer : (n a b : ℕ) → (n - a) - b ≡ n - (a + b)
fewer n a b = omega arith

pub moving : (us : List Entry) (A : Inputs) (g : Ground) (s : State) (k l : Kernel) (image : SwapImage) (j : Option SwapImage) (n : ℕ) → At A s k image
    → HasImages g A → g.locked ≡ []
    → AsksMoves s n → Moves us n k.place l.place → Made g us k (Some image) l j → LeadsMoving A s k image n us l j
moving [] A g s k l image j n at f e h x m = record {
  state = s;
  leads = subst (λ (y : Kernel). Leads A s k image [] s y j) m.0 (subst (λ (o : Option SwapImage). Leads A s k image [] s k o) m.1 (none_leads A s k image));
  asks = subst (AsksMoves s) (none_fewer n) h;
  point = refl;
  holdings = refl;
  count = refl;
  lines = refl;
}
moving (u ∷ us) A g s k l image j n at f e h x m =
    let here : k.place ≡ s.place = at.stands.place in
    let asked : Moves (u ∷ us) n s.place l.place = subst (λ (y : Placement). Moves (u ∷ us) n y l.place) here x in
    let next : next_unit A s ≡ Some u = moves_next A s n u us l.place h.mark h.clear asked in
    let kept : locked A s ≡ [] = none_locked A s n h in
    let one : MadeAs A s k image u m.next m.image = one_made A g s k m.next image m.image u f (moving_locked g A s u (e ∙ sym kept)) m.made m.told in
    let own : OwnsFrames s.place = at.run.placed.sound.owner.frames in
    let t : State = after A s u in
    let moved : Moved A s n u = subst (Moved A s n) (sym asked.2) (moved_by A s n (begins_write s.place [] && is_full s.place) own h kept) in
    let image1 : SwapImage = unit_swap A k image u in
    let first : Leads A s k image (u ∷ []) t m.next (Some image1) = first_leads A s t k m.next m.next image m.image (Some image1) u [] next one (none_leads A t m.next image1) in
    let at1 : At A t m.next image1 = leads_at A s t k m.next image image1 (u ∷ []) at first in
    let rest : Moves us (n - moves u) m.next.place l.place =
    subst (λ (y : Placement). Moves us (n - moves u) y l.place) (sym (at1.stands.place ∙ moved.place)) asked.3 in
    let more : LeadsMoving A t m.next image1 (n - moves u) us l j =
    moving us A g t m.next l image1 j (n - moves u) at1 f e moved.asks rest (subst (λ (o : Option SwapImage). Made g us m.next o l j) one.told m.rest) in
    record {
      state = more.state;
      leads = first_leads A s more.state k m.next l image m.image j u us next one more.leads;
      asks = subst (AsksMoves more.state) (fewer n (moves u) (moves_of us)) more.asks;
      point = more.point ∙ moved.point;
      holdings = more.holdings ∙ moved.holdings;
      count = more.count ∙ moved.count;
      lines = more.lines ∙ moved.lines;
    }
