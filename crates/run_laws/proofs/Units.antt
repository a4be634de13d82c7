-- Each next unit but a process's own leaves what stands.
use Rattle.std.proofs.Common.{◌≡◌, ℕ, ◌<◌, ◌≤◌, Bool, true, false, List, [], ◌∷◌, length, Option, Some, None, refl, sym, ap, ◌∙◌, subst, arith}
use Rattle.vm_facts.specs.declared.page.Page.{Page}
use Rattle.vm_facts.specs.declared.page.PageState.TheVariants.{Unfilled}
use Rattle.vm_facts.specs.declared.entry.Entry.{Entry}
use Rattle.vm_facts.specs.declared.entry.Entry.TheVariants as entries
use Rattle.swap_book.specs.Holdings.{Holdings}
use Rattle.flat_state.specs.Flat.{Inputs, process_of}
use Rattle.page_model.specs.Placement.{Placement, Due, CopyOf, due_of_page, state_of}
use Rattle.page_model.specs.Place.{place_entry, space_of_process}
use Rattle.page_model.specs.Serve.{serve_entry, serve_unit}
use Rattle.page_model.specs.Swapper.{put_out_unit, is_out}
use Rattle.page_model.specs.Conditions.{IsShared}
use Rattle.page_model.specs.PageBytes.{IsWritable}
use Rattle.page_model.specs.Dues.{IsDue, HasSource, NotDue}
use Rattle.page_model.specs.Ownership.{OwnsFrames, OneOwner}
use Rattle.kernel_model.specs.Sound.{Sound, lives}
use Rattle.flat_state.specs.Numbers.{IsNumbered}
use Rattle.kernel_model.specs.Stands.{holds_some}
use Rattle.page_laws.proofs.Ownership.Serve.{state_there}
use Rattle.page_laws.proofs.Swapper.PuttingOut.{unit_case, unit_few}
use Rattle.page_laws.proofs.Moves.Transfers.{entry_count, done_count}
use Rattle.page_laws.proofs.Moves.Units.{unit_is}
use Rattle.flat_model.specs.Run.{process_of_entry}
use Rattle.run_model.specs.State.{State}
use Rattle.run_model.specs.Wanted.{running, touched_next, wanted, locked, Splits}
use Rattle.run_model.specs.Snapshot.{touched_of}
use Rattle.run_model.specs.After.{place_at, after}
use Rattle.run_model.specs.Act.{act}
use Rattle.run_model.proofs.Wanting.{wanted_splits}
use Rattle.run_model.specs.Next.{fill_unit, move_unit, owners_entry}
use Rattle.run_model.specs.Kinds.{Kind, Fills, Brings, Copies, ServesWanted, Acts, ProcessComes, Interrupts, HandsMove, ProcessGoes, Notes, Begins}
use Rattle.run_laws.specs.Standing.{IsAllowed, machine_of, Placed, MarkStands, TextsHeld}
use Rattle.run_laws.proofs.Allowed.{first_due, served_allowed, served_few, start_allowed, copy_allowed, fill_few, put_out_allowed, move_allowed, move_few, done_allowed}
use Rattle.run_laws.proofs.Paging.{LeaverHolds, entry_placed}
use Rattle.run_laws.proofs.Plain.{IsPaging, paging_plain, paging_stays, serve_paging, zero_paging, copy_paging, move_paging, put_flat}
use Rattle.run_laws.proofs.Flows.{plain_point, on_running, act_plain}
use Rattle.run_laws.proofs.Touching.{Present, touched_present, each_split}

-- What a unit that is no flat entry does to a state.

pub plain_place : (A : Inputs) (s : State) (u : Entry) → process_of_entry u ≡ None → (after A s u).place ≡ place_entry (locked A s) (place_at s u) s.place u
unfolding after
plain_place A s (entries.Ran p n) k = absurd cc
plain_place A s (entries.Out p bytes) k = absurd cc
plain_place A s (entries.Grew p pages) k = absurd cc
plain_place A s (entries.Call p number carry r0 r1) k = absurd cc
plain_place A s (entries.Refused p) k = absurd cc
plain_place A s (entries.Sleeps p) k = absurd cc
plain_place A s (entries.Ended p status) k = absurd cc
plain_place A s _ k = refl

pub plain_holdings : (A : Inputs) (s : State) (u : Entry) → process_of_entry u ≡ None → (after A s u).holdings ≡ s.holdings
unfolding after
plain_holdings A s (entries.Ran p n) k = absurd cc
plain_holdings A s (entries.Out p bytes) k = absurd cc
plain_holdings A s (entries.Grew p pages) k = absurd cc
plain_holdings A s (entries.Call p number carry r0 r1) k = absurd cc
plain_holdings A s (entries.Refused p) k = absurd cc
plain_holdings A s (entries.Sleeps p) k = absurd cc
plain_holdings A s (entries.Ended p status) k = absurd cc
plain_holdings A s _ k = refl

-- what stands, of a state
abbrev pub Stood : Inputs → State → Type 0
Stood A s = Placed A s.point.flat s.place s.holdings

-- a unit that is no flat entry, and that the placement allows
pub record Good (A : Inputs) (s : State) (u : Entry) : Type 0 where
  pub plain : process_of_entry u ≡ None
  pub allowed : IsAllowed s.place u
  pub few : length (place_entry (locked A s) (place_at s u) s.place u).transfers ≤ 16
  pub leaves : LeaverHolds s.point.flat u

pub good_stands : (A : Inputs) (s : State) (u : Entry) → Good A s u → Stood A s → Stood A (after A s u)
good_stands A s u g st =
    subst (λ (x : Rattle.flat_model.specs.Run.Point). Placed A x.flat (after A s u).place (after A s u).holdings) (sym (plain_point A s u g.plain))
    (subst (λ (x : Placement). Placed A s.point.flat x (after A s u).holdings) (sym (plain_place A s u g.plain))
    (subst (λ (x : Holdings). Placed A s.point.flat (place_entry (locked A s) (place_at s u) s.place u) x) (sym (plain_holdings A s u g.plain))
    (entry_placed A s.point.flat (locked A s) (place_at s u) s.place s.holdings u g.allowed g.few g.leaves st)))

pub sixteen : (A : Inputs) (s : State) → Stood A s → length s.place.transfers ≤ 16
sixteen A s st = let so : Sound A.swap_blocks (machine_of s.point.flat s.place s.holdings) = st.sound in so.few_transfers

pub owns : (A : Inputs) (s : State) → Stood A s → OwnsFrames s.place
owns A s st =
    let so : Sound A.swap_blocks (machine_of s.point.flat s.place s.holdings) = st.sound in
    let o : OneOwner A.swap_blocks (lives (machine_of s.point.flat s.place s.holdings).processes) s.place s.holdings = so.owner in
    o.frames

paged : (A : Inputs) (s : State) (u e : Entry) → u ≡ e → IsPaging e → IsAllowed s.place e
    → length (place_entry (locked A s) (place_at s e) s.place e).transfers ≤ 16 → Good A s u
paged A s u e i k a l = subst (Good A s) (sym i) (record { plain = paging_plain e k; allowed = a; few = l; leaves = λ n x. absurd (paging_stays e n k x) })

-- Serving a page that is there, and not due.

served : (A : Inputs) (s : State) (u : Entry) (q : Page) (now : Bool) → Stood A s → Present s.place q → NotDue s.place.due q
    → serve_unit s.place q now ≡ Some u → Good A s u
served A s u q now st here n h =
    let e = unit_is s.place q now u h in
    paged A s u (serve_entry s.place q) e.1 (serve_paging s.place q) (served_allowed s.place q (owns A s st) st.dues here.there here.shared n e.0)
    (served_few (locked A s) (place_at s (serve_entry s.place q)) s.place q (sixteen A s st))

-- the parent's page of a child's page that is due
parent_present : (p : Placement) (q parent : Page) (ds : List Due) → p.due ≡ CopyOf q parent ∷ ds → IsDue p q (CopyOf q parent) → Present p parent
parent_present p q parent ds e d = record { there = state_there p parent (d.source).1; shared = go parent (d.source).0 }
  where
    go : (r : Page) → IsWritable r → IsShared p r
    go (Rattle.vm_facts.specs.declared.page.Page.TheVariants.Data sid v) w = tt
    go (Rattle.vm_facts.specs.declared.page.Page.TheVariants.Stack sid v) w = tt
    go (Rattle.vm_facts.specs.declared.page.Page.TheVariants.Text image v) w = absurd w

pub not_due : (p : Placement) (r : Page) → Rattle.page_model.specs.Dues.DueStand p → (state_of p r ≡ Unfilled → ⊥) → NotDue p.due r
not_due p r s n = go (due_of_page p.due r) refl
  where
    go : (o : Option Due) → due_of_page p.due r ≡ o → o ≡ None
    go None e = refl
    go (Some d) e = absurd (let was : IsDue p r d = s r d e in n was.unfilled)

-- Each kind of unit but a process's own step.
pub kind_good : (A : Inputs) (s : State) (u : Entry) → Stood A s → IsNumbered s.point.flat → TextsHeld A.images s.point.flat → MarkStands s s.mark
    → Kind A s u → (process_of_entry u ≡ None) → Good A s u
kind_good A s u st nums texts m (Fills q due e i) n =
    paged A s u (fill_unit s.place (entries.Zero q)) i (zero_paging s.place q) (start_allowed s.place q due e st.dues st.once)
    (fill_few (locked A s) (place_at s (fill_unit s.place (entries.Zero q))) s.place (entries.Zero q) (sixteen A s st)
    (let l = sixteen A s st in let k = entry_count (locked A s) (place_at s (fill_unit s.place (entries.Zero q))) s.place (entries.Zero q) in omega arith))
kind_good A s u st nums texts m (Brings q parent due e i) n =
    let d : IsDue s.place q (CopyOf q parent) = st.dues q (CopyOf q parent) (ap (λ (l : List Due). due_of_page l q) e ∙ first_due (CopyOf q parent) due) in
    served A s u parent true st (parent_present s.place q parent due e d) (not_due s.place parent st.dues (d.source).1) i
kind_good A s u st nums texts m (Copies q parent due e k i) n =
    paged A s u (fill_unit s.place (entries.Copy q)) i (copy_paging s.place q) (copy_allowed s.place q parent due e st.dues st.once)
    (fill_few (locked A s) (place_at s (fill_unit s.place (entries.Copy q))) s.place (entries.Copy q) (sixteen A s st)
    (let l = sixteen A s st in let k = entry_count (locked A s) (place_at s (fill_unit s.place (entries.Copy q))) s.place (entries.Copy q) in omega arith))
kind_good A s u st nums texts m (ServesWanted pid now q r w i) n =
    let k : Splits s.place (touched_next A s) (locked A s) q = wanted_splits A s q r.clear w in
    let all = subst (Rattle.page_model.specs.Conditions.EachPage (Present s.place)) (ap (touched_of A s.point.flat) (sym (on_running A s s.mark pid now r.on)))
    (touched_present A s.point.flat s.place s.holdings pid nums texts st) in
    let here : Present s.place q = each_split (Present s.place) (locked A s) q k.behind (subst (Rattle.page_model.specs.Conditions.EachPage (Present s.place)) k.whole all) in
    served A s u q now st here (ap (λ (l : List Due). due_of_page l q) r.clear) i
kind_good A s u st nums texts m (Acts pid now r w a) n =
    let e : u ≡ entries.Done = act_plain A s pid u a n in
    paged A s u entries.Done e tt (settling_allowed a) (let l = sixteen A s st in let k = done_count s.place in omega arith)
  where
    settling_allowed : act A s pid ≡ Some u → IsAllowed s.place entries.Done
    settling_allowed a = done_allowed s.place (settling a)
      where
        settling : act A s pid ≡ Some u → 0 < length s.place.transfers
        settling a = Rattle.run_laws.proofs.Settling.settles A s pid (a ∙ ap (λ (x : Entry). Some x) (act_plain A s pid u a n))
kind_good A s u st nums texts m (ProcessComes pid e c i) n =
    subst (Good A s) (sym i) (record { plain = refl; allowed = record { can = tt; shared = tt; begins = tt; leaves = tt; finds = tt }; few = sixteen A s st; leaves = λ n x. absurd x })
kind_good A s u st nums texts m (Interrupts e k i) n =
    paged A s u entries.Done i tt (done_allowed s.place (let x : (s.place.due ≡ []) × (0 < length s.place.transfers) = subst (MarkStands s) k m in x.1))
    (let l = sixteen A s st in let k = done_count s.place in omega arith)
kind_good A s u st nums texts m (HandsMove count e k l w i) n =
    paged A s u (move_unit s.place (locked A s)) i (move_paging s.place (locked A s)) (move_allowed s.place (locked A s))
    (move_few (locked A s) (place_at s (move_unit s.place (locked A s))) s.place (sixteen A s st))
kind_good A s u st nums texts m (ProcessGoes pid e k i) n =
    let sid : ℕ = space_of_process (process_of s.point.flat pid) in
    subst (Good A s) (sym i) (record {
      plain = put_flat s.place pid sid;
      allowed = put_out_allowed s.place pid sid;
      few = unit_few (locked A s) (place_at s (put_out_unit s.place pid sid)) s.place pid sid (sixteen A s st);
      leaves = unit_case (LeaverHolds s.point.flat) s.place pid sid (λ t ts h x l. absurd l) (λ v h y z x l. absurd l) (λ h y x l. subst (λ (z : ℕ). holds_some (process_of s.point.flat z) ≡ true) l
          (let y : (s.place.due ≡ []) × (holds_some (process_of s.point.flat pid) ≡ true) × (Rattle.page_model.specs.Swapper.is_out s.place pid ≡ false) = subst (MarkStands s) k m in y.1));
    })
kind_good A s u st nums texts m (Notes e k i) n = paged A s u (owners_entry s) i tt (record { can = tt; shared = tt; begins = tt; leaves = tt; finds = tt }) (sixteen A s st)
kind_good A s u st nums texts m (Begins e k i) n = Rattle.run_laws.proofs.Settling.begins_is (Good A s) A s u i (marked (sixteen A s st))
  where
    marked : length s.place.transfers ≤ 16 → (x : Entry) → Rattle.run_laws.proofs.Settling.IsMark x → Good A s x
    marked l (entries.Event line) k = record { plain = refl; allowed = record { can = tt; shared = tt; begins = tt; leaves = tt; finds = tt }; few = l; leaves = λ n x. absurd x }
    marked l (entries.Turn p) k = record { plain = refl; allowed = record { can = tt; shared = tt; begins = tt; leaves = tt; finds = tt }; few = l; leaves = λ n x. absurd x }
    marked l _ k = absurd k
