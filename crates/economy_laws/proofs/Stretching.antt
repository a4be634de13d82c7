-- Each unit of a stretch leaves less to add.
use Rattle.std.proofs.Common.{◌≡◌, ◌≢◌, inl, inr, ℕ, ◌+◌, ◌-◌, ◌*◌, ◌≤◌, ◌==◌, Bool, true, false, cond, List, [], ◌∷◌, length, Option, Some, None, refl, sym, ap, ◌∙◌, subst, arith}
use Rattle.std.proofs.lemmas.List.{length-append}
use Rattle.std.proofs.lemmas.Option.{same_Some}
use Rattle.vm_facts.specs.declared.page.Page.{Page}
use Rattle.vm_facts.specs.declared.page.Page.TheVariants.{Data}
use Rattle.vm_facts.specs.declared.entry.Entry.{Entry}
use Rattle.vm_facts.specs.declared.entry.Entry.TheVariants as entries
use Rattle.flat_state.specs.Flat.{Inputs, can_step}
use Rattle.page_model.specs.Pages.{is_valid, numbered}
use Rattle.page_model.specs.Placement.{Placement, Residence, Due, Start, CopyOf, due_of_page, state_of, IsThere}
use Rattle.page_model.specs.Moves.{done}
use Rattle.page_model.specs.Place.{due_after, filled, moved, place_entry}
use Rattle.page_model.specs.Serve.{force, serve_step, serve_entry, serve_unit}
use Rattle.page_model.specs.Swapper.{residence_of, is_out}
use Rattle.page_model.specs.Dues.{IsDue}
use Rattle.kernel_model.specs.Start.{ImagesFit}
use Rattle.page_laws.proofs.Moves.Locks.{done_spares, force_spares, serve_spares}
use Rattle.page_laws.proofs.Ownership.Serve.{state_there}
use Rattle.page_laws.proofs.Swapper.Residences.{moved_own}
use Rattle.page_laws.proofs.Moves.Stays.{Steady, Stays, done_steady, force_stays}
use Rattle.page_laws.proofs.Moves.Transfers.{fill_count}
use Rattle.page_laws.proofs.Moves.Units.{unit_is, served_valid}
use Rattle.page_laws.proofs.Due.Entries.{serve_dues}
use Rattle.run_laws.proofs.Distinct.{among_first}
use Rattle.flat_model.specs.Run.{Point, process_of_entry, may_follow, is_outcome_of, is_call_of, ComesAt}
use Rattle.flat_model.proofs.Coming.{Came, came}
use Rattle.run_model.specs.State.{State}
use Rattle.flat_model.specs.Touched.{touched}
use Rattle.run_model.specs.Wanted.{AllValid, first_absent, wanted, locked_by, locked, Splits}
use Rattle.run_model.specs.Snapshot.{before_absent}
use Rattle.run_model.specs.After.{place_at, after}
use Rattle.run_model.specs.Act.{act}
use Rattle.run_model.proofs.Acting.{next_flat}
use Rattle.run_model.proofs.Wanting.{none_absent, before_past, split_first, split_before, all_present}
use Rattle.run_model.specs.Next.{fill_by, fill_unit, next_unit}
use Rattle.run_model.specs.Kinds.{ProcessRuns}
use Rattle.run_model.specs.Lawful.{Follows}
use Rattle.run_model.proofs.NextUnits.{kind_of}
use Rattle.run_laws.specs.Running.{IsRun}
use Rattle.run_laws.specs.Flowing.{Flows}
use Rattle.run_laws.proofs.Allowed.{first_after, first_due}
use Rattle.run_laws.proofs.Flows.{Acted, Settles, Refuses, Steps, acted, steps_own, on_steps, next_or, noted, refused_after, out_of, out_after, plain_point, spared}
use Rattle.run_laws.proofs.Paging.{Leaver}
use Rattle.run_laws.proofs.Plain.{paging_stays, serve_paging, serve_flat}
use Rattle.run_laws.proofs.Settling.{settles}
use Rattle.run_laws.proofs.Units.{plain_place, owns, not_due}
use Rattle.run_laws.proofs.Wholes.{unit_run}
use Rattle.page_laws.specs.Spans.{is_hands, adds, added, takes, takings}
use Rattle.economy_laws.specs.Stretch.{begins_stretch, NoneBegins, copies, copies_of, IsClosing, FewTouched, TouchesMore, AllGrown}
use Rattle.page_laws.proofs.Spanning.{adds_most}
use Rattle.page_laws.proofs.Serving.{done_less}
use Rattle.economy_laws.proofs.Closing.{Closes, Fill, Bring, CopyIt, Serve, Act, In, closes, stays_closing, no_event}
use Rattle.economy_laws.proofs.Left.{ServeLeft, ForceLeft, serve_new, force_new, serve_now, force_now, ServeNext, serve_next, ForceNext, force_next, force_takes, after_forced, after_served, stays_in, wanted_is, locked_is, split_there, split_longer, is_closed, AllCopies, StartLeft, BringLeft, CopyLeft, PageLeft, ActLeft, Left, Next, ready}

-- Lists of what is due.

rest_of : List Due → List Due
rest_of [] = []
rest_of (d ∷ ds) = ds

parent_of : List Due → Page
parent_of (CopyOf q parent ∷ ds) = parent
parent_of _ = Data 0 0

-- a state at which a child's page is due
pub copying_left : (A : Inputs) (s : State) (pid : ℕ) (b : Bool) (n m : ℕ) (q parent : Page) (ds : List Due) → s.place.due ≡ CopyOf q parent ∷ ds → AllCopies ds
    → (is_valid (state_of s.place parent) ≡ false → BringLeft b s.place parent n m)
    → (is_valid (state_of s.place parent) ≡ true → CopyLeft b s.place parent n m) → Left A s pid b n m
unfolding rest_of parent_of
copying_left A s pid b n m q parent ds d k br cp = record {
  start = λ q2 ds2 e. absurd (let z : Start q2 ∷ ds2 ≡ CopyOf q parent ∷ ds = sym e ∙ d in cc);
  copied = λ q2 parent2 ds2 e.
      let same : parent ≡ parent2 = ap parent_of (sym d ∙ e) in (
        subst AllCopies (ap rest_of (sym d ∙ e)) k,
        subst (λ (x : Page). is_valid (state_of s.place x) ≡ false
            → BringLeft b s.place x n m) same br,
        subst (λ (x : Page). is_valid (state_of s.place x) ≡ true → CopyLeft b s.place x n m) same cp,
      );
  comes = λ e o. absurd (let z : CopyOf q parent ∷ ds ≡ [] = sym d ∙ e in cc);
  page = λ x e o w h. absurd (let z : CopyOf q parent ∷ ds ≡ [] = sym d ∙ e in cc);
  acts = λ e o w h. absurd (let z : CopyOf q parent ∷ ds ≡ [] = sym d ∙ e in cc);
}

-- one at which a new stack page is due
pub starting_left : (A : Inputs) (s : State) (pid : ℕ) (b : Bool) (n m : ℕ) (q : Page) → s.place.due ≡ Start q ∷ [] → StartLeft b s.place n m
    → Left A s pid b n m
unfolding rest_of
starting_left A s pid b n m q d l = record {
  start = λ q2 ds2 e. (ap rest_of (sym e ∙ d), l);
  copied = λ q2 parent2 ds2 e. absurd (let z : CopyOf q2 parent2 ∷ ds2 ≡ Start q ∷ [] = sym e ∙ d in cc);
  comes = λ e o. absurd (let z : Start q ∷ [] ≡ [] = sym d ∙ e in cc);
  page = λ x e o w h. absurd (let z : Start q ∷ [] ≡ [] = sym d ∙ e in cc);
  acts = λ e o w h. absurd (let z : Start q ∷ [] ≡ [] = sym d ∙ e in cc);
}

-- one at which a process acts
acting_left : (A : Inputs) (s : State) (pid : ℕ) (b : Bool) (n m : ℕ) → s.place.due ≡ [] → (is_out s.place pid ≡ true → ⊥) → wanted A s ≡ None
    → ActLeft A s pid n m → Left A s pid b n m
acting_left A s pid b n m d o w l = record {
  start = λ q ds e. absurd (let z : Start q ∷ ds ≡ [] = sym e ∙ d in cc);
  copied = λ q parent ds e. absurd (let z : CopyOf q parent ∷ ds ≡ [] = sym e ∙ d in cc);
  comes = λ e k. absurd (o k);
  page = λ q e k j h. absurd (let z : Some q ≡ None = sym h ∙ w in cc);
  acts = λ e k j h. l;
}

-- A new stack page.

start_next : (A : Inputs) (s : State) (u : Entry) (pid : ℕ) (b : Bool) (n m : ℕ) (q : Page) (ds : List Due) → FewTouched A → IsRun A s
    → IsRun A (after A s u) → IsClosing A (after A s u) pid → Left A s pid b n m
    → s.place.due ≡ Start q ∷ ds → u ≡ fill_unit s.place (entries.Zero q) → Next A s pid b u n m
start_next A s u pid b n m q ds few r r2 c2 l d i = go s.place.free refl i (l.start q ds d)
  where
    go : (fr : List ℕ) → s.place.free ≡ fr → u ≡ fill_by s.place (entries.Zero q) fr → (ds ≡ []) × StartLeft b s.place n m → Next A s pid b u n m
    go [] f i sl =
        let k : StartLeft b s.place n m = sl.1 in
        let pl = after_forced A s u [] (ap (locked_by A s) d) i in
        let st : Stays s.place (force s.place []) = force_stays s.place [] (owns A s r.placed) in
        let nx : ForceNext b s.place [] u k.x = force_next b s.place [] u k.x k.left f i in
        let z = ap takes i ∙ force_takes s.place.transfers in
        record {
          x = n - adds b u;
          y = m;
          left = starting_left A (after A s u) pid (is_hands u) (n - adds b u) m q (ap (λ (p : Placement). p.due) pl ∙ st.due ∙ d ∙ ap (λ (x : List Due). Start q ∷ x) sl.0) (record {
            x = nx.x;
            left = subst (λ (p : Placement). ForceLeft (is_hands u) p [] nx.x) (sym pl) nx.left;
            some = omega (arith, nx.entries_left, k.some);
            takers = k.takers;
          });
          some = omega (arith, nx.entries_left, k.some);
          takers = omega (arith, z);
        }
    go (f ∷ fs) e i sl =
        let k : StartLeft b s.place n m = sl.1 in
        let pl : (after A s u).place ≡ filled s.place q = plain_place A s u (ap process_of_entry i) ∙ ap (place_entry (locked A s) (place_at s u) s.place) i in
        let t = ap (λ (p : Placement). length p.transfers) pl in
        let t2 = fill_count s.place q in
        let now = force_now b s.place [] k.x k.left in
        let z = ap takes i in
        let am = adds_most b u in
        record {
          x = n - 1;
          y = m - 1;
          left = ready A (after A s u) pid (is_hands u) (n - 1) (m - 1) few r2 c2 (ap (λ (p : Placement). p.due) pl ∙ ap (λ (x : List Due). due_after x q) d ∙ first_after (Start q) ds ∙ sl.0)
              (λ o. (omega (arith, k.some), omega (arith, k.takers))) (λ o. (omega (arith, k.some), omega (arith, k.takers)));
          some = omega (arith, k.some);
          takers = omega (arith, k.takers);
        }

-- A child's page, and its parent's.

pub source_of : (A : Inputs) (s : State) (q parent : Page) (ds : List Due) → IsRun A s → s.place.due ≡ CopyOf q parent ∷ ds → IsDue s.place q (CopyOf q parent)
source_of A s q parent ds r d = let st = r.placed in st.dues q (CopyOf q parent) (ap (λ (l : List Due). due_of_page l q) d ∙ first_due (CopyOf q parent) ds)

bring_next : (A : Inputs) (s : State) (u : Entry) (pid : ℕ) (b : Bool) (n m : ℕ) (q parent : Page) (ds : List Due) → IsRun A s → IsRun A (after A s u)
    → Left A s pid b n m
    → s.place.due ≡ CopyOf q parent ∷ ds → serve_unit s.place parent true ≡ Some u → Next A s pid b u n m
bring_next A s u pid b n m q parent ds r r2 l d i =
    let cp = l.copied q parent ds d in
    let k : BringLeft b s.place parent n m = cp.1 (unit_is s.place parent true u i).0 in
    let du : IsDue s.place q (CopyOf q parent) = source_of A s q parent ds r d in
    let st = r.placed in
    let pl = after_served A s u (parent ∷ []) parent (ap (locked_by A s) d) i in
    let nx : ServeNext b s.place (parent ∷ []) parent u k.x k.y = serve_next b s.place (parent ∷ []) parent u k.x k.y k.left i in
    let on : ServeLeft (is_hands u) (after A s u).place (parent ∷ []) parent nx.x nx.y = subst (λ (p : Placement). ServeLeft (is_hands u) p (parent ∷ []) parent nx.x nx.y) (sym pl) nx.left in
    let now = serve_now (is_hands u) (after A s u).place (parent ∷ []) parent nx.x nx.y on in
    record {
      x = n - adds b u;
      y = m - takes u;
      left = copying_left A (after A s u) pid (is_hands u) (n - adds b u) (m - takes u) q parent ds
          (ap (λ (p : Placement). p.due) pl ∙ serve_dues s.place (parent ∷ []) parent (owns A s r.placed) (not_due s.place parent st.dues (du.source).1) ∙ d) cp.0
          (λ v. record { x = nx.x; y = nx.y; left = on; some = omega (arith, nx.entries_left, k.some); takers = omega (arith, nx.takings_left, k.takers) })
          (λ v. record {
            x = length (after A s u).place.transfers + 2;
            left = force_new (is_hands u) (after A s u).place (parent ∷ []) (owns A (after A s u) r2.placed);
            some = omega (arith, nx.entries_left, k.some);
            takers = omega (arith, nx.takings_left, k.takers);
          });
      some = omega (arith, nx.entries_left, k.some);
      takers = omega (arith, nx.takings_left, k.takers);
    }

copy_next : (A : Inputs) (s : State) (u : Entry) (pid : ℕ) (b : Bool) (n m : ℕ) (q parent : Page) (ds : List Due) → FewTouched A → IsRun A s
    → IsRun A (after A s u) → IsClosing A (after A s u) pid → Left A s pid b n m
    → s.place.due ≡ CopyOf q parent ∷ ds → serve_unit s.place parent true ≡ None → u ≡ fill_unit s.place (entries.Copy q) → Next A s pid b u n m
copy_next A s u pid b n m q parent ds few r r2 c2 l d v i = go s.place.free refl i
  where
    cp : AllCopies ds × (is_valid (state_of s.place parent) ≡ false → BringLeft b s.place parent n m) × (is_valid (state_of s.place parent) ≡ true → CopyLeft b s.place parent n m)
    cp = l.copied q parent ds d

    valid : is_valid (state_of s.place parent) ≡ true
    valid = served_valid s.place parent v

    k : CopyLeft b s.place parent n m
    k = cp.2 valid

    behind : (xs : List Due) → (after A s u).place.due ≡ xs → AllCopies xs → length (after A s u).place.transfers + 195 ≤ n → 32 ≤ m → Left A (after A s u) pid (is_hands u) (n + 7) (m + 1)
    behind [] e a t o = ready A (after A s u) pid (is_hands u) (n + 7) (m + 1) few r2 c2 e (λ x. (omega arith, omega arith)) (λ x. (omega arith, omega arith))
    behind (Start x ∷ xs) e a t o = absurd a
    behind (CopyOf x y ∷ xs) e a t o =
        let du : IsDue (after A s u).place x (CopyOf x y) = source_of A (after A s u) x y xs r2 e in
        copying_left A (after A s u) pid (is_hands u) (n + 7) (m + 1) x y xs e a
        (λ z. record {
          x = length (after A s u).place.transfers + 5;
          y = 1;
          left = serve_new (is_hands u) (after A s u).place (y ∷ []) y (owns A (after A s u) r2.placed) (state_there (after A s u).place y (du.source).1);
          some = omega arith;
          takers = omega arith;
        })
        (λ z. record {
          x = length (after A s u).place.transfers + 2;
          left = force_new (is_hands u) (after A s u).place (y ∷ []) (owns A (after A s u) r2.placed);
          some = omega arith;
          takers = omega arith;
        })

    go : (fr : List ℕ) → s.place.free ≡ fr → u ≡ fill_by s.place (entries.Copy q) fr → Next A s pid b u n m
    go [] f i =
        let pl = after_forced A s u (parent ∷ []) (ap (locked_by A s) d) i in
        let st : Stays s.place (force s.place (parent ∷ [])) = force_stays s.place (parent ∷ []) (owns A s r.placed) in
        let nx : ForceNext b s.place (parent ∷ []) u k.x = force_next b s.place (parent ∷ []) u k.x k.left f i in
        let z = ap takes i ∙ force_takes s.place.transfers in
        let still : is_valid (state_of (after A s u).place parent) ≡ true =
        subst (λ (p : Placement). is_valid (state_of p parent) ≡ true) (sym pl) (force_spares s.place (parent ∷ []) (owns A s r.placed) parent (among_first parent []) valid) in
        record {
          x = n - adds b u;
          y = m;
          left = copying_left A (after A s u) pid (is_hands u) (n - adds b u) m q parent ds (ap (λ (p : Placement). p.due) pl ∙ st.due ∙ d) cp.0
              (λ w. absurd (let z : true ≡ false = sym still ∙ w in cc))
              (λ w. record {
                x = nx.x;
                left = subst (λ (p : Placement). ForceLeft (is_hands u) p (parent ∷ []) nx.x) (sym pl) nx.left;
                some = omega (arith, nx.entries_left, k.some);
                takers = k.takers;
              });
          some = omega (arith, nx.entries_left, k.some);
          takers = omega (arith, z);
        }
    go (f ∷ fs) e i =
        let pl : (after A s u).place ≡ filled s.place q = plain_place A s u (ap process_of_entry i) ∙ ap (place_entry (locked A s) (place_at s u) s.place) i in
        let t = ap (λ (p : Placement). length p.transfers) pl in
        let t2 = fill_count s.place q in
        let now = force_now b s.place (parent ∷ []) k.x k.left in
        let z = ap takes i in
        let c = ap copies i in
        let am = adds_most b u in
        record {
          x = n + 7;
          y = m + 1;
          left = behind ds (ap (λ (p : Placement). p.due) pl ∙ ap (λ (x : List Due). due_after x q) d ∙ first_after (CopyOf q parent) ds) cp.0 (omega (arith, k.some)) k.takers;
          some = omega arith;
          takers = omega arith;
        }

-- A process that comes in.

pub resident_out : (rs : List Residence) (pid : ℕ) → (residence_of rs pid).out ≡ true → numbered (λ (r : Residence). r.pid) pid rs ≢ None
resident_out [] pid e = λ z. absurd cc
resident_out (r ∷ rs) pid e = go (r.pid == pid) refl (resident_out rs pid)
  where
    go : (b : Bool) → (r.pid == pid) ≡ b → ((residence_of rs pid).out ≡ true → numbered (λ (r : Residence). r.pid) pid rs ≢ None) → numbered (λ (r : Residence). r.pid) pid (r ∷ rs) ≢ None
    go true h ih = λ z. absurd (let k : Some r ≡ None = sym (ap (λ (b : Bool). cond b (Some r) (numbered (λ (r : Residence). r.pid) pid rs)) h) ∙ z in cc)
    go false h ih = λ z. ih (sym (ap (λ (b : Bool). (cond b r (residence_of rs pid)).out) h) ∙ e) (sym (ap (λ (b : Bool). cond b (Some r) (numbered (λ (r : Residence). r.pid) pid rs)) h) ∙ z)

in_next : (A : Inputs) (s : State) (u : Entry) (pid : ℕ) (b : Bool) (n m : ℕ) → FewTouched A → IsRun A (after A s u) → IsClosing A (after A s u) pid
    → Left A s pid b n m
    → s.place.due ≡ [] → is_out s.place pid ≡ true → u ≡ entries.SwapIn pid → Next A s pid b u n m
in_next A s u pid b n m few r2 c2 l d o i =
    let k = l.comes d o in
    let pl : (after A s u).place ≡ moved s.place pid false (place_at s u) = plain_place A s u (ap process_of_entry i) ∙ ap (place_entry (locked A s) (place_at s u) s.place) i in
    let t = ap (λ (p : Placement). length p.transfers) pl in
    let z = ap takes i in
    let am = adds_most b u in
    let out : is_out (after A s u).place pid ≡ false =
    ap (λ (p : Placement). is_out p pid) pl ∙ ap (λ (x : Residence). x.out) (moved_own s.place pid false (place_at s u) (resident_out s.place.residents pid o)) in
    record {
      x = n - 1;
      y = m;
      left = ready A (after A s u) pid (is_hands u) (n - 1) m few r2 c2 (ap (λ (p : Placement). p.due) pl ∙ d) (λ x. absurd (let y : true ≡ false = sym x ∙ out in cc))
          (λ x. (omega (arith, k.0), omega (arith, k.1)));
      some = omega (arith, k.0);
      takers = omega (arith, z);
    }

-- A page that is wanted.

some_same : (a b : Page) → Some a ≡ Some b → a ≡ b
some_same a b e = cc

page_next : (A : Inputs) (s : State) (u : Entry) (pid : ℕ) (b : Bool) (n m : ℕ) (q : Page) → FewTouched A → IsRun A s → IsClosing A s pid
    → IsRun A (after A s u) → IsClosing A (after A s u) pid → Left A s pid b n m
    → ProcessRuns A s pid true → wanted A s ≡ Some q → serve_unit s.place q true ≡ Some u → Next A s pid b u n m
page_next A s u pid b n m q few r c r2 c2 l run w i =
    let pages : List Page = touched A s.point.flat pid in
    let sp : Placement = serve_step s.place k.before q in
    go (is_valid (state_of sp q)) refl
  where
    k : PageLeft A s pid b q n m
    k = l.page q run.clear run.resident (on_steps A s s.mark pid true run.on) w

    unit : u ≡ serve_entry s.place q
    unit = (unit_is s.place q true u i).1

    plain : process_of_entry u ≡ None
    plain = ap process_of_entry unit ∙ serve_flat s.place q

    pl : (after A s u).place ≡ serve_step s.place k.before q
    pl = after_served A s u k.before q (locked_is A s pid c run.clear ∙ split_before s.place (touched A s.point.flat pid) k.before q k.splits) i

    due : (after A s u).place.due ≡ []
    due = ap (λ (p : Placement). p.due) pl ∙ serve_dues s.place k.before q (owns A s r.placed) (ap (λ (x : List Due). due_of_page x q) run.clear) ∙ run.clear

    same : touched A (after A s u).point.flat pid ≡ touched A s.point.flat pid
    same = ap (λ (x : Point). touched A x.flat pid) (plain_point A s u plain)

    there : IsThere s.place q
    there = split_there A s pid k.before q r k.splits

    kept : AllValid (serve_step s.place k.before q) k.before
    kept = let x : Splits s.place (touched A s.point.flat pid) k.before q =
        k.splits in spared s.place (serve_step s.place k.before q) k.before x.valid (serve_spares s.place k.before q (owns A s r.placed) there) k.before (λ y e. e)

    inside : is_out (after A s u).place pid ≡ true → ⊥
    inside = stays_in A s u pid plain (λ x. paging_stays (serve_entry s.place q) pid (serve_paging s.place q) (subst (λ (y : Entry). Leaver y pid) unit x)) run.resident

    nx : ServeNext b s.place k.before q u k.x k.y
    nx = serve_next b s.place k.before q u k.x k.y k.left i

    on : ServeLeft (is_hands u) (after A s u).place k.before q nx.x nx.y
    on = subst (λ (p : Placement). ServeLeft (is_hands u) p k.before q nx.x nx.y) (sym pl) nx.left

    now : length (after A s u).place.transfers ≤ nx.x
    now = serve_now (is_hands u) (after A s u).place k.before q nx.x nx.y on

    go : (v : Bool) → is_valid (state_of (serve_step s.place k.before q) q) ≡ v → Next A s pid b u n m
    go true e =
        let x : Splits s.place (touched A s.point.flat pid) k.before q = k.splits in
        let longer = split_longer (serve_step s.place k.before q) (touched A s.point.flat pid) k.before x.behind q x.whole kept e in
        let len = ap (λ (p : Placement). length (before_absent p (touched A (after A s u).point.flat pid))) pl in
        let len2 = ap (λ (ps : List Page). length (before_absent (serve_step s.place k.before q) ps)) same in
        let len3 = ap length same in
        record {
          x = n - adds b u;
          y = m - takes u;
          left = ready A (after A s u) pid (is_hands u) (n - adds b u) (m - takes u) few r2 c2 due (λ o. absurd (inside o))
              (λ o. (omega (arith, nx.entries_left, k.some, now), omega (arith, nx.takings_left, k.takers)));
          some = omega (arith, nx.entries_left, k.some);
          takers = omega (arith, nx.takings_left, k.takers);
        }
    go false e =
        let x : Splits s.place (touched A s.point.flat pid) k.before q = k.splits in
        let splits : Splits (after A s u).place (touched A (after A s u).point.flat pid) k.before q = record {
          behind = x.behind;
          whole = same ∙ x.whole;
          valid = subst (λ (p : Placement). AllValid p k.before) (sym pl) kept;
          absent = subst (λ (p : Placement). is_valid (state_of p q) ≡ false) (sym pl) e;
        } in
        let wants : wanted A (after A s u) ≡ Some q = wanted_is A (after A s u) pid c2 due ∙ split_first (after A s u).place (touched A (after A s u).point.flat pid) k.before q splits in
        let len3 = ap length same in
        let still : PageLeft A (after A s u) pid (is_hands u) q (n - adds b u) (m - takes u) = record {
          before = k.before;
          splits = splits;
          x = nx.x;
          y = nx.y;
          left = on;
          some = omega (arith, nx.entries_left, k.some);
          takers = omega (arith, nx.takings_left, k.takers);
        } in
        record {
          x = n - adds b u;
          y = m - takes u;
          left = record {
            start = λ a ds z. absurd (let y : Start a ∷ ds ≡ [] = sym z ∙ due in cc);
            copied = λ a parent ds z. absurd (let y : CopyOf a parent ∷ ds ≡ [] = sym z ∙ due in cc);
            comes = λ z o. absurd (inside o);
            page = λ a z o j h. subst (λ (y : Page). PageLeft A (after A s u) pid (is_hands u) y (n - adds b u) (m - takes u)) (some_same q a (sym wants ∙ h)) still;
            acts = λ z o j h. absurd (let y : Some q ≡ None = sym wants ∙ h in cc);
          };
          some = omega (arith, nx.entries_left, k.some);
          takers = omega (arith, nx.takings_left, k.takers);
        }

-- What a process does.

-- after `Refused` and `Out` its next entry is counted
outcome_begins : (p : ℕ) (u : Entry) → is_outcome_of p u ≡ true → begins_stretch u ≡ true
outcome_begins p (entries.Call a k b r0 r1) h = refl
outcome_begins p (entries.Ended a k) h = refl
outcome_begins p _ h = absurd cc

call_begins : (p : ℕ) (u : Entry) → is_call_of p u ≡ true → begins_stretch u ≡ true
call_begins p (entries.Call a k b r0 r1) h = refl
call_begins p _ h = absurd cc

follow_begins : (o : Option Entry) (u : Entry) → is_closed o ≡ true → may_follow o u ≡ true → begins_stretch u ≡ true
follow_begins (Some (entries.Refused p)) u c h = outcome_begins p u h
follow_begins (Some (entries.Out p bytes)) u c h = call_begins p u h
follow_begins _ u c h = absurd cc

pub open_last : (A : Inputs) (s : State) (u : Entry) (pid : ℕ) → IsRun A s → next_unit A s ≡ Some u → process_of_entry u ≡ Some pid
    → begins_stretch u ≡ false → is_closed s.point.last ≡ false
open_last A s u pid r h e n = go (is_closed s.point.last) refl
  where
    f : Flows A s
    f = r.flows

    follows : may_follow s.point.last u ≡ true
    follows = elim (next_or A s u f.waits (kind_of A s u h)) [
      | inl k ↦ absurd (let z : None ≡ Some pid = sym k ∙ e in cc)
      | inr k ↦
          let c : Came A s.point (after A s u).point pid u = came A s.point (after A s u).point pid u e (next_flat A s u f.says k) in
          let d : ComesAt A s.point pid u = c.comes in
          d.follows
    ]

    go : (b : Bool) → is_closed s.point.last ≡ b → b ≡ false
    go true c = absurd (let z : true ≡ false = sym (follow_begins s.point.last u c follows) ∙ n in cc)
    go false c = refl

-- a state with the same pages, at which a process's next entry is counted
waiting_left : (A : Inputs) (s : State) (u : Entry) (pid : ℕ) (b : Bool) (n m : ℕ) → s.place.due ≡ [] → is_out s.place pid ≡ false → IsClosing A s pid
    → wanted A s ≡ None → is_closed (Some u) ≡ true
    → length s.place.transfers ≤ n → Left A (noted s u) pid b n m
waiting_left A s u pid b n m d o c w k l = acting_left A (noted s u) pid b n m d (λ x. absurd (let z : true ≡ false = sym x ∙ o in cc))
    (wanted_is A (noted s u) pid (record { since = c.since; mark = c.mark; lines = c.lines }) d ∙ sym (wanted_is A s pid c d) ∙ w)
    (record { flights = l; some = λ z. absurd (let y : true ≡ false = sym k ∙ z in cc); takers = λ z. absurd (let y : true ≡ false = sym k ∙ z in cc) })

-- after `Sleeps` its process can't step, and is in
pub record Slept (A : Inputs) (s t : State) (pid : ℕ) : Type 0 where
  pub idle : can_step t.point.flat pid ≡ false
  pub clear : t.place.due ≡ []
  pub resident : is_out s.place pid ≡ false → is_out t.place pid ≡ false

abbrev pub SleepStops : Inputs → Type 0
SleepStops A = (s : State) (pid : ℕ) → IsRun A s → next_unit A s ≡ Some (entries.Sleeps pid) → Slept A s (after A s (entries.Sleeps pid)) pid

act_next : (A : Inputs) (s : State) (u : Entry) (pid : ℕ) (b : Bool) (n m : ℕ) → FewTouched A → AllGrown A → SleepStops A → IsRun A s
    → IsClosing A s pid → IsRun A (after A s u)
    → IsClosing A (after A s u) pid → next_unit A s ≡ Some u → begins_stretch u ≡ false → Left A s pid b n m
    → ProcessRuns A s pid true → wanted A s ≡ None → act A s pid ≡ Some u → Next A s pid b u n m
act_next A s u pid b n m few grows stops r c r2 c2 h nb l run w a = by (acted A s pid u a)
  where
    k : ActLeft A s pid n m
    k = l.acts run.clear run.resident (on_steps A s s.mark pid true run.on) w

    valid : AllValid s.place (touched A s.point.flat pid)
    valid = none_absent s.place (touched A s.point.flat pid) (sym (wanted_is A s pid c run.clear) ∙ w)

    settled : u ≡ entries.Done → Next A s pid b u n m
    settled i =
        let plain = ap process_of_entry i in
        let pl : (after A s u).place ≡ done s.place = plain_place A s u plain ∙ ap (place_entry (locked A s) (place_at s u) s.place) i in
        let st : Steady s.place (done s.place) = done_steady s.place (owns A s r.placed) in
        let some = settles A s pid (a ∙ ap (λ (x : Entry). Some x) i) in
        let less = done_less s.place (λ z. absurd (let y = ap length z in omega (arith, some))) in
        let t = ap (λ (p : Placement). length p.transfers) pl in
        let due : (after A s u).place.due ≡ [] = ap (λ (p : Placement). p.due) pl ∙ st.due ∙ run.clear in
        let point = plain_point A s u plain in
        let same : touched A (after A s u).point.flat pid ≡ touched A s.point.flat pid = ap (λ (x : Point). touched A x.flat pid) point in
        let kept = spared s.place (done s.place) (touched A s.point.flat pid) valid (done_spares s.place (touched A s.point.flat pid) (owns A s r.placed)) (touched A s.point.flat pid) (λ y e. e) in
        let none : wanted A (after A s u) ≡ None = wanted_is A (after A s u) pid c2 due ∙ ap (first_absent (after A s u).place) same
        ∙ ap (λ (p : Placement). first_absent p (touched A s.point.flat pid)) pl ∙ all_present (done s.place) (touched A s.point.flat pid) kept in
        let z = ap takes i in
        let am = adds_most b u in
        let len = ap length same in
        record {
          x = n - 1;
          y = m;
          left = acting_left A (after A s u) pid (is_hands u) (n - 1) m due (stays_in A s u pid plain (λ x. subst (λ (y : Entry). Leaver y pid) i x) run.resident) none (record {
            flights = omega (arith, k.flights);
            some = λ e. let y = k.some (sym (ap (λ (x : Point). is_closed x.last) point) ∙ e) in omega arith;
            takers = λ e. let y = k.takers (sym (ap (λ (x : Point). is_closed x.last) point) ∙ e) in omega arith;
          });
          some = omega (arith, k.flights);
          takers = omega (arith, z);
        }

    waits : is_closed s.point.last ≡ false → is_closed (Some u) ≡ true → takes u ≡ 0 → after A s u ≡ noted s u → Next A s pid b u n m
    waits o cl z e =
        let y = k.some o in
        let am = adds_most b u in
        record {
          x = n - 1;
          y = m;
          left = subst (λ (t : State). Left A t pid (is_hands u) (n - 1) m) (sym e) (waiting_left A s u pid (is_hands u) (n - 1) m run.clear run.resident c w cl (omega arith));
          some = omega arith;
          takers = omega arith;
        }

    grown : (pages : ℕ) → u ≡ entries.Grew pid pages → is_closed s.point.last ≡ false → Next A s pid b u n m
    grown pages i o =
        let g : TouchesMore A s (after A s u) pid = subst (λ (x : Entry). TouchesMore A s (after A s x) pid) (sym i) (grows s pid pages r (h ∙ ap (λ (x : Entry). Some x) i)) in
        let y = k.some o in
        let x = k.takers o in
        let z = ap takes i in
        let am = adds_most b u in
        let kept = g.valid valid in
        let len = ap length g.touches in
        let len2 = length-append (touched A s.point.flat pid) (g.next ∷ g.more) in
        let len3 = ap (λ (ps : List Page). length (before_absent (after A s u).place ps)) g.touches in
        let len4 = ap length (before_past (after A s u).place (touched A s.point.flat pid) (g.next ∷ g.more) kept) in
        let len5 = length-append (touched A s.point.flat pid) (before_absent (after A s u).place (g.next ∷ g.more)) in
        let top = few (after A s u) pid r2 in
        record {
          x = n - 1;
          y = m;
          left = ready A (after A s u) pid (is_hands u) (n - 1) m few r2 c2 g.clear (λ e. absurd (let q : true ≡ false = sym e ∙ g.resident run.resident in cc))
              (λ e. (omega (arith, g.flights), omega arith));
          some = omega arith;
          takers = omega arith;
        }

    slept : u ≡ entries.Sleeps pid → is_closed s.point.last ≡ false → Next A s pid b u n m
    slept i o =
        let g : Slept A s (after A s u) pid = subst (λ (x : Entry). Slept A s (after A s x) pid) (sym i) (stops s pid r (h ∙ ap (λ (x : Entry). Some x) i)) in
        let y = k.some o in
        let z = ap takes i in
        let am = adds_most b u in
        record {
          x = n - 1;
          y = m;
          left = record {
            start = λ q ds e. absurd (let z : Start q ∷ ds ≡ [] = sym e ∙ g.clear in cc);
            copied = λ q parent ds e. absurd (let z : CopyOf q parent ∷ ds ≡ [] = sym e ∙ g.clear in cc);
            comes = λ e x. absurd (let q : true ≡ false = sym x ∙ g.resident run.resident in cc);
            page = λ q e x j w. absurd (let z : true ≡ false = sym j ∙ g.idle in cc);
            acts = λ e x j w. absurd (let z : true ≡ false = sym j ∙ g.idle in cc);
          };
          some = omega arith;
          takers = omega arith;
        }

    stepped : (x : Entry) → u ≡ x → Rattle.flat_model.specs.Run.entry_of_step A s.point pid ≡ Some u → process_of_entry x ≡ Some pid → begins_stretch x ≡ false
        → is_closed s.point.last ≡ false → Next A s pid b u n m
    stepped (entries.Out p bytes) i f e z o = waits o (ap (λ (y : Entry). is_closed (Some y)) i) (ap takes i)
        (subst (λ (y : Entry). after A s y ≡ noted s y) (sym i) (out_after A s pid p bytes (out_of A s.point pid p bytes (f ∙ ap (λ (y : Entry). Some y) i))))
    stepped (entries.Grew p pages) i f e z o = grown pages (i ∙ ap (λ (y : ℕ). entries.Grew y pages) (same_Some p pid e)) o
    stepped (entries.Sleeps p) i f e z o = slept (i ∙ ap (λ (y : ℕ). entries.Sleeps y) (same_Some p pid e)) o
    stepped (entries.Refused p) i f e z o = waits o (ap (λ (y : Entry). is_closed (Some y)) i) (ap takes i) (subst (λ (y : Entry). after A s y ≡ noted s y) (sym i) (refused_after A s p))
    stepped _ i f e z o = absurd cc

    by : Acted A s pid u → Next A s pid b u n m
    by (Settles i) = settled i
    by (Refuses i) =
        waits (open_last A s u pid r h (ap process_of_entry i) nb) (ap (λ (y : Entry). is_closed (Some y)) i) (ap takes i)
        (subst (λ (y : Entry). after A s y ≡ noted s y) (sym i) (refused_after A s pid))
    by (Steps f g i) = let e = steps_own A s.point pid u i in stepped u refl i e nb (open_last A s u pid r h e nb)

-- Each unit.

closes_next : (A : Inputs) (s : State) (u : Entry) (pid : ℕ) (b : Bool) (n m : ℕ) → FewTouched A → AllGrown A → SleepStops A → IsRun A s
    → IsClosing A s pid → IsRun A (after A s u)
    → IsClosing A (after A s u) pid → next_unit A s ≡ Some u → begins_stretch u ≡ false → Left A s pid b n m → Closes A s u pid → Next A s pid b u n m
closes_next A s u pid b n m few grows stops r c r2 c2 h nb l (Fill q ds d i) = start_next A s u pid b n m q ds few r r2 c2 l d i
closes_next A s u pid b n m few grows stops r c r2 c2 h nb l (Bring q parent ds d i) = bring_next A s u pid b n m q parent ds r r2 l d i
closes_next A s u pid b n m few grows stops r c r2 c2 h nb l (CopyIt q parent ds d v i) = copy_next A s u pid b n m q parent ds few r r2 c2 l d v i
closes_next A s u pid b n m few grows stops r c r2 c2 h nb l (Serve q run w i) = page_next A s u pid b n m q few r c r2 c2 l run w i
closes_next A s u pid b n m few grows stops r c r2 c2 h nb l (Act run w a) = act_next A s u pid b n m few grows stops r c r2 c2 h nb l run w a
closes_next A s u pid b n m few grows stops r c r2 c2 h nb l (In d o i) = in_next A s u pid b n m few r2 c2 l d o i

pub stretch : (A : Inputs) (us : List Entry) (s t : State) (pid : ℕ) (b : Bool) (n m : ℕ) → ImagesFit A.images → FewTouched A → AllGrown A
    → SleepStops A → IsRun A s → IsClosing A s pid
    → Follows A s us t → NoneBegins us → Left A s pid b n m
    → (added b us ≤ n + 8 * copies_of us) × (takings us ≤ m + copies_of us)
stretch A [] s t pid b n m images few grows stops r c f z l = (omega arith, omega arith)
stretch A (u ∷ us) s t pid b n m images few grows stops r c f z l =
    let k = closes A s u pid c f.0 z.0 in
    let r2 = unit_run A s u images r f.0 in
    let c2 = stays_closing A s u pid c z.0 (λ line e. no_event A s u pid k line e) in
    let x : Next A s pid b u n m = closes_next A s u pid b n m few grows stops r c r2 c2 f.0 z.0 l k in
    let y = stretch A us (after A s u) t pid (is_hands u) x.x x.y images few grows stops r2 c2 f.1 z.1 x.left in
    (omega (arith, x.some, y.0), omega (arith, x.takers, y.1))
