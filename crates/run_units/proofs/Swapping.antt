-- Processes that are put out or come in, and entries that move no page, are units of a run.
use Rattle.std.proofs.Common.{◌≡◌, ℕ, ◌+◌, ◌<◌, ◌&&◌, nat_lt, Bool, true, false, List, [], ◌∷◌, length, Option, Some, None, refl, sym, ap, ◌∙◌, subst, arith}
use Rattle.std.proofs.lemmas.Bool.Decides.{nat_tests}
use Rattle.vm_facts.specs.SwapImages.{SwapImage}
use Rattle.vm_facts.specs.declared.entry.Entry.{Entry}
use Rattle.vm_facts.specs.declared.entry.Entry.TheVariants as entries
use Rattle.vm_facts.specs.declared.page.Page.{Page}
use Rattle.flat_state.specs.Flat.{FlatState, Inputs, process_of}
use Rattle.flat_state.specs.PageNames.{pages_from, number_of}
use Rattle.page_model.specs.Placement.{Placement, Due}
use Rattle.page_model.specs.Ownership.{OwnsFrames}
use Rattle.page_model.specs.Place.{place_entry, put_step, space_of_process}
use Rattle.page_model.specs.PuttingOut.{PutsOut}
use Rattle.page_model.specs.Serve.{is_full}
use Rattle.page_model.specs.Swapper.{put_out_unit, put_out_if, put_out_by, put_unit_by, first_seated, is_settled}
use Rattle.page_laws.proofs.Moves.Stays.{done_steady}
use Rattle.page_laws.proofs.Bytes.Others.{put_steady}
use Rattle.kernel_model.specs.Kernel.{Kernel, Proc, out_step, in_step, note_step}
use Rattle.kernel_model.specs.UPage.{AreRegs}
use Rattle.kernel_model.specs.Unit.{proc_of}
use Rattle.fault_fill.specs.Swapping.{WritesU, AsksU, IsIn}
use Rattle.flat_model.specs.Run.{Point}
use Rattle.run_model.specs.declared.mark.Mark.{Mark}
use Rattle.run_model.specs.declared.mark.Mark.TheVariants as marks
use Rattle.run_model.specs.State.{State}
use Rattle.run_model.specs.Wanted.{locked}
use Rattle.run_model.specs.After.{after, completed, place_at}
use Rattle.run_model.specs.Next.{when, or_else, due_unit, line_or_turn, turn_of, under, next_mark, next_unit, owners_entry, next_turned, last_turned}
use Rattle.economy_laws.specs.Machine.{unit_swap, IsJournalEntry}
use Rattle.economy_laws.proofs.Turns.{below}
use Rattle.economy_laws.proofs.Turned.{under_turn}
use Rattle.fault_fill.specs.Made.{Ground, MadeBy, Made}
use Rattle.fault_fill.proofs.PagingUnitsUnits.{unit_place}
use Rattle.run_units.specs.Leads.{HasImages, KeepsLocked, MadeAs, Leads}
use Rattle.run_units.specs.Serving.{SameBut, At}
use Rattle.run_units.specs.Swapping.{PutsProcess, LeadsPutting}
use Rattle.run_units.proofs.Units.{one_made, none_leads, first_leads, leads_at}
use Rattle.run_units.proofs.Serving.{same_both}

-- What comes under a mark, where nothing is due.

over_next : (A : Inputs) (s : State) (u : Entry) → s.place.due ≡ [] → under A s s.mark ≡ None → next_mark A s ≡ Some u → next_unit A s ≡ Some u
unfolding next_unit
over_next A s u d h n =
    ap (λ (ds : List Due). or_else (due_unit s.place ds) (or_else (under A s s.mark) (next_mark A s))) d ∙ ap (λ (o : Option Entry). or_else o (next_mark A s)) h ∙ n

pub put_next : (A : Inputs) (s : State) (pid sid : ℕ) → PutsProcess s pid sid → next_unit A s ≡ Some (put_out_unit s.place pid sid)
put_next A s pid sid h = under_turn A s (put_out_unit s.place pid sid) h.clear (ap (under A s) h.mark ∙ ap (λ (n : ℕ). Some (put_out_unit s.place pid n)) h.own)

pub line_asks : (A : Inputs) (s : State) → s.place.due ≡ []
    → ((pid : ℕ) → s.mark ≡ marks.BringIn pid → next_unit A s ≡ Some (entries.SwapIn pid))
    × (s.mark ≡ marks.Interrupt → next_unit A s ≡ Some entries.Done)
    × (s.mark ≡ marks.Audit → next_unit A s ≡ Some (owners_entry s))
line_asks A s d = (
  λ pid m. under_turn A s (entries.SwapIn pid) d (ap (under A s) m),
  λ m. under_turn A s entries.Done d (ap (under A s) m),
  λ m. under_turn A s (owners_entry s) d (ap (under A s) m),
)

not_below : (a b : ℕ) → b ≡ a → nat_lt a b ≡ false
not_below a b e = grind (arith, nat_tests)

pub line_comes : (A : Inputs) (s : State) → s.place.due ≡ [] → under A s s.mark ≡ None → s.count < A.limit → s.lines < length A.lines
    → next_unit A s ≡ Some (entries.Event (s.lines + 1))
line_comes A s d o c l =
    over_next A s (entries.Event (s.lines + 1)) d o
    (ap (λ (b : Bool). when b (line_or_turn s (nat_lt s.lines (length A.lines)))) (below s.count A.limit c) ∙ ap (line_or_turn s) (below s.lines (length A.lines) l))

pub turn_comes : (A : Inputs) (s : State) (pid : ℕ) → s.place.due ≡ [] → under A s s.mark ≡ None → s.count < A.limit → length A.lines ≡ s.lines
    → next_turned s.point.flat (last_turned s.mark) ≡ Some pid → next_unit A s ≡ Some (entries.Turn pid)
turn_comes A s pid d o c l t =
    over_next A s (entries.Turn pid) d o
    (ap (λ (b : Bool). when b (line_or_turn s (nat_lt s.lines (length A.lines)))) (below s.count A.limit c) ∙ ap (line_or_turn s) (not_below s.lines (length A.lines) l) ∙ ap turn_of t)

-- One unit.

module _ (A : Inputs) (s : State) (k l : Kernel) (image : SwapImage) where
  pub out_made : (j : Option SwapImage) (pid : ℕ) → ((p : Proc) → proc_of k pid ≡ Some p → AreRegs p.regs) → l ≡ out_step k pid → WritesU k pid (Some image) j
      → MadeAs A s k image (entries.SwapOut pid) l j
  out_made j pid r m w = record { read = []; given = r; made = m; told = w }

  pub in_made : (j : Option SwapImage) (pid : ℕ) → IsIn k l pid (Some image) → AsksU k pid (Some image) j → MadeAs A s k image (entries.SwapIn pid) l j
  in_made j pid h a = record { read = []; given = tt; made = h.step ∙ ap (in_step k pid) h.stored; told = a }

  pub note_made : (u : Entry) → IsJournalEntry u → l ≡ note_step k u → MadeAs A s k image u l (Some image)
  note_made (entries.Event line) n m = record { read = []; given = tt; made = m; told = refl }
  note_made (entries.Turn pid) n m = record { read = []; given = tt; made = m; told = refl }
  note_made (entries.Out pid bytes) n m = record { read = []; given = tt; made = m; told = refl }
  note_made (entries.Refused pid) n m = record { read = []; given = tt; made = m; told = refl }
  note_made (entries.Owners free used moving held) n m = record { read = []; given = tt; made = m; told = refl }
  note_made _ n m = absurd n

-- Putting out.

-- a unit that ends a transfer, or takes pages from their frames
abbrev IsPut : Entry → Type 0
IsPut entries.Done = Unit {0}
IsPut (entries.Put q n) = Unit {0}
IsPut _ = ⊥

put_or_last : (p : Placement) (pid sid : ℕ) (g : Ground) (k l : Kernel) (i : Option SwapImage) → MadeBy g (put_out_unit p pid sid) k i l
    → IsPut (put_out_unit p pid sid)
put_or_last p pid sid g k l i h = go (is_settled p sid) h
  where
    unit : (q : Page) (b : Bool) → IsPut (put_unit_by p q b)
    unit q true = tt
    unit q false = tt

    page : (o : Option Page) → MadeBy g (put_out_by p pid o) k i l → IsPut (put_out_by p pid o)
    page None m = absurd m
    page (Some q) m = unit q (Rattle.page_model.specs.Placement.is_dirty p q && is_full p)

    go : (b : Bool) → MadeBy g (put_out_if p pid sid b) k i l → IsPut (put_out_if p pid sid b)
    go true m = page (first_seated p (Rattle.page_model.specs.Place.pages_of_space p sid)) m
    go false m = tt

put_locked : (g : Ground) (A : Inputs) (s : State) (u : Entry) → IsPut u → KeepsLocked g A s u
put_locked g A s entries.Done h = tt
put_locked g A s (entries.Put q n) h = tt
put_locked g A s _ h = absurd h

-- a state after such a unit
record Put (A : Inputs) (s : State) (u : Entry) (pid sid : ℕ) : Type 0 where
  same : SameBut s (after A s u)
  place : (at : ℕ) → (after A s u).place ≡ place_entry [] at s.place u
  puts : PutsProcess (after A s u) pid sid

put_by : (A : Inputs) (s : State) (u : Entry) (pid sid : ℕ) → OwnsFrames s.place → PutsProcess s pid sid → IsPut u → Put A s u pid sid
unfolding after
put_by A s entries.Done pid sid o h i = record {
  same = record { point = refl; holdings = refl; count = refl; lines = refl; mark = ap completed h.mark ∙ sym h.mark };
  place = λ at. refl;
  puts = record { mark = ap completed h.mark; clear = (done_steady s.place o).due ∙ h.clear; own = h.own };
}
put_by A s (entries.Put q n) pid sid o h i = record {
  same = record { point = refl; holdings = refl; count = refl; lines = refl; mark = refl };
  place = λ at. refl;
  puts = record { mark = h.mark; clear = (put_steady s.place q (pages_from q (number_of q) n)).due ∙ h.clear; own = h.own };
}
put_by A s _ pid sid o h i = absurd i

pub putting : (us : List Entry) (A : Inputs) (g : Ground) (s : State) (k l : Kernel) (image : SwapImage) (j : Option SwapImage) (pid sid at : ℕ)
    → At A s k image → HasImages g A
    → PutsProcess s pid sid → PutsOut us at k.place pid sid l.place → Made g us k (Some image) l j → LeadsPutting A s k image pid sid us l j
putting [] A g s k l image j pid sid at here f h x m = record {
  state = s;
  leads = subst (λ (y : Kernel). Leads A s k image [] s y j) m.0 (subst (λ (o : Option SwapImage). Leads A s k image [] s k o) m.1 (none_leads A s k image));
  same = record { point = refl; holdings = refl; count = refl; lines = refl; mark = refl };
  puts = h;
}
putting (u ∷ us) A g s k l image j pid sid at here f h x m =
    let place : k.place ≡ s.place = here.stands.place in
    let is : u ≡ put_out_unit s.place pid sid = x.1 ∙ ap (λ (y : Placement). put_out_unit y pid sid) place in
    let next : next_unit A s ≡ Some u = put_next A s pid sid h ∙ ap (λ (y : Entry). Some y) (sym is) in
    let i : IsPut u = subst IsPut (sym is) (put_or_last s.place pid sid g k m.next (Some image) (subst (λ (y : Entry). MadeBy g y k (Some image) m.next) is m.made)) in
    let one : MadeAs A s k image u m.next m.image = one_made A g s k m.next image m.image u f (put_locked g A s u i) m.made m.told in
    let t : State = after A s u in
    let p : Put A s u pid sid = put_by A s u pid sid here.run.placed.sound.owner.frames h i in
    let image1 : SwapImage = unit_swap A k image u in
    let first : Leads A s k image (u ∷ []) t m.next (Some image1) = first_leads A s t k m.next m.next image m.image (Some image1) u [] next one (none_leads A t m.next image1) in
    let at1 : At A t m.next image1 = leads_at A s t k m.next image image1 (u ∷ []) here first in
    let rest : PutsOut us (at + 1) m.next.place pid sid l.place =
    subst (λ (y : Placement). PutsOut us (at + 1) y pid sid l.place)
    (ap (λ (y : Placement). place_entry [] (at + 1) y u) place ∙ sym (p.place (at + 1)) ∙ sym at1.stands.place) x.2 in
    let more : LeadsPutting A t m.next image1 pid sid us l j =
    putting us A g t m.next l image1 j pid sid (at + 1) at1 f p.puts rest (subst (λ (o : Option SwapImage). Made g us m.next o l j) one.told m.rest) in
    record {
      state = more.state;
      leads = first_leads A s more.state k m.next l image m.image j u us next one more.leads;
      same = same_both s t more.state p.same more.same;
      puts = more.puts;
    }
