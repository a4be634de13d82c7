-- Putting a process out, unit by unit.
use Rattle.std.proofs.Common.{◌≡◌, ◌⊎◌, inl, inr, ℕ, ◌+◌, ◌<◌, ◌≤◌, ◌&&◌, Bool, true, false, cond, List, [], ◌∷◌, ◌++◌, length, Option, Some, None, Result, Ok, Err, OnOk, OnErr, IfErr, refl, sym, ap, ◌∙◌, subst, arith, ◌↔◌}
use Rattle.std.proofs.lemmas.Bool.{and_parts, leb-false}
use Rattle.std.proofs.lemmas.List.{length-append}
use Rattle.std.proofs.lemmas.Option.{same_Some}
use Rattle.vm_facts.specs.SwapImages.{SwapImage}
use Rattle.vm_facts.specs.declared.page.Page.{Page}
use Rattle.vm_facts.specs.declared.page.Page.TheVariants.{Data, Stack, Text}
use Rattle.vm_facts.specs.declared.entry.Entry.{Entry}
use Rattle.vm_facts.specs.declared.entry.Entry.TheVariants as entries
use Rattle.vm_facts.specs.declared.params.Params.{Params}
use Rattle.vm_facts.specs.declared.stop.Stop.{Stop}
use Rattle.vm_facts.specs.declared.stop.Stop.TheVariants as stops
use Rattle.io_edge.specs.FileHolding.{NamedFile}
use Rattle.io_edge.specs.FileRequests.{FileNotes}
use Rattle.io_edge.specs.WithFiles.{with_files}
use Rattle.io_edge.specs.declared.files.Files.{Ghosts as FilesGhosts}
use Rattle.io_edge.specs.declared.swap_dev.SwapDev.{Ghosts as SwapGhosts}
use Rattle.flat_state.specs.Journal.{append, IsPlain}
use Rattle.flat_state.specs.PageNames.{number_of, beside, pages_from}
use Rattle.flat_state.proofs.Joins.{append_plain}
use Rattle.page_model.specs.Pages.{numbered}
use Rattle.page_model.specs.Placement.{Placement, Residence, is_dirty}
use Rattle.page_model.specs.Runs.{is_seated, is_near, run_put, run_put_by, run_up, most_written}
use Rattle.page_model.specs.Serve.{is_full}
use Rattle.page_model.specs.Place.{moved, place_entry, data_from, stack_from, data_count, stack_count, pages_of_space}
use Rattle.page_model.specs.Swapper.{is_out, first_seated, put_unit_by, put_out_by, put_out_if, put_out_unit}
use Rattle.page_model.specs.PuttingOut.{IsResident, PutsOut, put_rank}
use Rattle.page_model.specs.Conditions.{EachPage}
use Rattle.page_model.specs.Ownership.{OwnsFrames}
use Rattle.page_model.specs.PageBytes.{IsWritable}
use Rattle.page_laws.proofs.Lists.Local.{none_some}
use Rattle.page_laws.proofs.Lists.Runs.{pages_from_each, run_each, run_up_in, each_page_append}
use Rattle.page_laws.proofs.Moves.Puts.{SameRest, rest_by_puts, done_kept, put_step_kept}
use Rattle.page_laws.proofs.Ownership.Runs.{seated_seat}
use Rattle.page_laws.proofs.Runs.Widest.{above_le}
use Rattle.page_laws.proofs.Swapper.PuttingOut.{seated_first, run_some, run_seats, same_out, unit_falls}
use Rattle.page_laws.proofs.Swapper.Residences.{moved_own}
use Rattle.kernel_model.specs.Kernel.{Kernel, HoldsSpace, Proc, out_step}
use Rattle.kernel_model.specs.ChangeStep.{life_of_proc}
use Rattle.kernel_model.specs.Numbers.{EachResides}
use Rattle.kernel_model.specs.Sound.{lives_in, has_life}
use Rattle.machine_state.proofs.Swaps.{out_record}
use Rattle.kernel_model.specs.Unit.{proc_of}
use Rattle.machine_state.specs.Machine.{Standing}
use Rattle.machine_state.specs.Going.{CanGoOn}
use Rattle.machine_state.specs.Done.{KeepsThrough}
use Rattle.machine_state.specs.Settled.{IsSameBeside}
use Rattle.machine_state.specs.Calls.{life_in, AreAlike, CanPush}
use Rattle.machine_state.specs.Conditions.{HasStopped}
use Rattle.machine_state.specs.Failing.{FailsFor}
use Rattle.machine_state.specs.Swapping.{IsIn, WritesU, AsksU, SwapBehind, KeepsIn}
use Rattle.machine_state.specs.Sourced.{files_named}
use Rattle.machine_state.proofs.Besides.{behind_beside, in_beside, asks_beside, in_kept_beside}
use Rattle.machine_state.specs.Outside.{Asks, stop_of, TransfersPages}
use Rattle.machine_state.proofs.Backing.{asks_on}
use Rattle.machine_state.proofs.Transfers.{transfers_none}
use Rattle.paging_units.specs.Made.{Made, MakesUnit, Ground, ground}
use Rattle.paging_units.specs.Stops.{StopsAt, SpoilsBy, StopsWhile}
use Rattle.paging_units.proofs.Units.{unit_place, unit_journal, unit_same, same_ground}
use Rattle.paging_units.proofs.Keeping.{unit_shaped, keeps_both}
use Rattle.paging_units.proofs.Stopping.{plain_longer, moved_left, stops_at_first, stops_after_unit, err_same}
use Rattle.swapper.specs.declared.Turned.TheVariants as turns
use Rattle.swapper.specs.declared.putting_out.Step.{Step}
use Rattle.swapper.specs.declared.putting_out.Step.TheVariants as steps
use Rattle.swapper.specs.Putting.{IsOfSegment, IsStep, IsNext, HoldsThere, PutOut, putting_out}
use Rattle.swapper.specs.Turns.{Turns, KeepsTurn, StopsTurning}

-- The first page in a frame off the free list.

first_each : (P : Page → Type 0) (p : Placement) (qs : List Page) (q : Page) → EachPage P qs → first_seated p qs ≡ Some q → P q
first_each P p [] q a e = none_some q e
first_each P p (r ∷ qs) q a e = go (is_seated p r) e (first_each P p qs q a.1)
  where
    go : (b : Bool) → cond b (Some r) (first_seated p qs) ≡ Some q → (first_seated p qs ≡ Some q → P q) → P q
    go true k ih = subst P (same_Some r q k) a.0
    go false k ih = ih k

pub first_own : (p : Placement) (sid : ℕ) (q : Page) → first_seated p (pages_of_space p sid) ≡ Some q → IsOfSegment sid q
first_own p sid q e = first_each (IsOfSegment sid) p (pages_of_space p sid) q
    (each_page_append (IsOfSegment sid) (data_from sid 0 (data_count p sid)) (stack_from sid 0 (stack_count p sid))
    (pages_from_each (IsOfSegment sid) (Data sid 0) 0 (data_count p sid) (λ w l m. refl)) (pages_from_each (IsOfSegment sid) (Stack sid 0) 0 (stack_count p sid) (λ w l m. refl)))
    e

pub first_is_seated : (p : Placement) (sid : ℕ) (q : Page) → first_seated p (pages_of_space p sid) ≡ Some q → is_seated p q ≡ true
first_is_seated p sid q e = seated_first p (pages_of_space p sid) q e

-- The page and those that go along may leave their frames.

own_writable : (sid : ℕ) (q : Page) → IsOfSegment sid q → IsWritable q
own_writable sid (Data s v) o = tt
own_writable sid (Stack s v) o = tt
own_writable sid (Text image v) o = o

few_pages : (p : Placement) (q : Page) → (run_put p q).n ≤ 16
few_pages p q = go (is_dirty p q)
  where
    passes : ℕ → Bool
    passes w = is_seated p (beside q w) && (is_dirty p (beside q w) && is_near q w)

    go : (b : Bool) → (run_put_by p q b).n ≤ 16
    go true = let l = above_le passes (number_of q) 15 in omega arith
    go false = omega arith

alike : (p : Placement) (q : Page) → (is_dirty p q && is_full p) ≡ false → AreAlike p q (run_put p q).n (is_dirty p q)
alike p q r = go (is_dirty p q) refl r
  where
    passes : ℕ → Bool
    passes w = is_seated p (beside q w) && (is_dirty p (beside q w) && is_near q w)

    go : (b : Bool) → is_dirty p q ≡ b → (b && is_full p) ≡ false → AreAlike p q (run_put_by p q b).n b
    go true e f = (
      run_each (λ w. is_dirty p w ≡ true) passes q (run_up passes (number_of q) most_written) (run_up_in passes (number_of q) most_written) e
          (λ w h. (and_parts (is_dirty p (beside q w)) (is_near q w) (and_parts (is_seated p (beside q w)) (is_dirty p (beside q w) && is_near q w) h).1).0),
      leb-false 16 (length p.transfers) f,
    )
    go false e f = refl

pub can_push : (p : Placement) (sid n : ℕ) (q : Page) → p.due ≡ [] → IsOfSegment sid q → is_seated p q ≡ true → (is_dirty p q && is_full p) ≡ false
    → n ≡ (run_put p q).n → CanPush p q n
can_push p sid n q d o s r e = subst (CanPush p q) (sym e) (record {
  clear = d;
  writable = own_writable sid q o;
  some = run_some p q;
  most = few_pages p q;
  seats = run_seats p q (seated_seat p q s);
  alike = alike p q r;
})

-- What each unit is.

pub step_case : (P : Entry → Type 0) (p : Placement) (pid sid : ℕ) (step : Step) → IsStep p sid step → P entries.Done
    → ((q : Page) → P (entries.Put q (run_put p q).n)) → P (put_out_unit p pid sid)
step_case P p pid sid steps.Wait s d u = subst P (sym (s.1 pid)) d
step_case P p pid sid (steps.Put q) s d u =
    subst P (sym (ap (put_out_if p pid sid) s.0 ∙ ap (put_out_by p pid) s.1 ∙ ap (put_unit_by p q) s.2)) (u q)

pub last_unit : (p : Placement) (pid sid : ℕ) → IsNext p sid None → put_out_unit p pid sid ≡ entries.SwapOut pid
last_unit p pid sid n = ap (put_out_if p pid sid) n.0 ∙ ap (put_out_by p pid) n.1

rest_kept : (p : Placement) (pid sid at : ℕ) (step : Step) → IsStep p sid step → SameRest p (place_entry [] at p (put_out_unit p pid sid))
rest_kept p pid sid at step s =
    step_case (λ (e : Entry). SameRest p (place_entry [] at p e)) p pid sid step s (done_kept rest_by_puts p)
    (λ q. put_step_kept rest_by_puts p q (pages_from q (number_of q) (run_put p q).n))

step_plain : (p : Placement) (pid sid : ℕ) (step : Step) → IsStep p sid step → IsPlain (put_out_unit p pid sid)
step_plain p pid sid step s = step_case IsPlain p pid sid step s tt (λ q. tt)

one_more : (journal : List Entry) (e : Entry) → IsPlain e → length (append journal e) ≡ length journal + 1
one_more journal e p = ap (λ (js : List Entry). length js) (append_plain journal e p) ∙ length-append journal (e ∷ [])

beside_both : (a b c : Standing) → IsSameBeside a b → IsSameBeside b c → IsSameBeside a c
beside_both a b c f g = record { params = g.params ∙ f.params; images = g.images ∙ f.images; before = g.before ∙ f.before }

-- What holds of the machine, for the next unit.

pub record Puts (s : Standing) (holds : Option (List NamedFile)) (blocks pid sid : ℕ) : Type 0 where
  pub asks : Asks s holds blocks
  pub clear : s.kernel.place.due ≡ []
  pub holds_there : HoldsThere s.kernel pid sid
  pub resident : is_out s.kernel.place pid ≡ false

module _ (old next : Standing) (pid sid : ℕ) (step : Step) (holds : Option (List NamedFile)) (i h : Option SwapImage) (s : IsStep old.kernel.place sid step)
    (m : MakesUnit (ground old holds []) (put_out_unit old.kernel.place pid sid) old next i h) where
  abbrev g : Ground
  g = ground old holds []

  abbrev e : Entry
  e = put_out_unit old.kernel.place pid sid

  longer : length (append old.kernel.journal e) ≡ length old.kernel.journal + 1
  longer = one_more old.kernel.journal e (step_plain old.kernel.place pid sid step s)

  place_is : next.kernel.place ≡ place_entry [] (length old.kernel.journal + 1) old.kernel.place e
  place_is = unit_place g e old.kernel next.kernel i m.made ∙ ap (λ (at : ℕ). place_entry [] at old.kernel.place e) longer

  journal_is : length next.kernel.journal ≡ length old.kernel.journal + 1
  journal_is = ap (λ (js : List Entry). length js) (unit_journal g e old.kernel next.kernel i m.made) ∙ longer

  rest : SameRest old.kernel.place next.kernel.place
  rest = subst (SameRest old.kernel.place) (sym place_is) (rest_kept old.kernel.place pid sid (length old.kernel.journal + 1) step s)

  pub puts_on : (later : Option (List NamedFile)) (blocks more : ℕ) → later ≡ holds → more ≡ blocks → CanGoOn next → Puts old holds blocks pid sid
      → Puts next later more pid sid
  puts_on later blocks more f b r a =
      let held : life_in next.kernel pid ≡ HoldsSpace sid =
      ap (λ (ps : List Proc). life_of_proc (numbered (λ (p : Proc). p.pid) pid ps)) (unit_same g e old.kernel next.kernel i m.made).processes ∙ a.holds_there.holds in
      record {
        asks = asks_on old next holds later blocks more m.beside f b r a.asks;
        clear = rest.due ∙ a.clear;
        holds_there = record { holds = held; there = r.running.holders.spaces pid sid held };
        resident = same_out old.kernel.place next.kernel.place pid rest.residents ∙ a.resident;
      }

  pub falls_on : OwnsFrames old.kernel.place → IsResident old.kernel.place pid → is_out old.kernel.place pid ≡ false → put_rank next.kernel.place pid sid < put_rank old.kernel.place pid sid
  falls_on o r n =
      subst (λ (p : Placement). put_rank p pid sid < put_rank old.kernel.place pid sid) (sym place_is) (unit_falls [] (length old.kernel.journal + 1) old.kernel.place pid sid o r n)

  puts_first : (us : List Entry) (q : Placement) → is_out old.kernel.place pid ≡ false → PutsOut us (length next.kernel.journal) next.kernel.place pid sid q
      → PutsOut (e ∷ us) (length old.kernel.journal) old.kernel.place pid sid q
  puts_first us q n p = (
    n,
    refl,
    subst (λ (x : Placement). PutsOut us (length old.kernel.journal + 1) x pid sid q) place_is (subst (λ (at : ℕ). PutsOut us at next.kernel.place pid sid q) journal_is p),
  )

  same_files : (later : Option (List NamedFile)) (us : List Entry) (k : Kernel) (j : Option SwapImage) → later ≡ holds → Made (ground next later []) us next.kernel h k j → Made g us next.kernel h k j
  same_files later us k j q made = subst (λ (x : Ground). Made x us next.kernel h k j) (same_ground old next holds later [] q m.beside) made

  pub put_first : (later : Option (List NamedFile)) (new : Standing) (j : Option SwapImage) → later ≡ holds → is_out old.kernel.place pid ≡ false
      → PutOut pid sid next new later h j → PutOut pid sid old new holds i j
  put_first later new j q n f = record {
    units = e ∷ f.units;
    at = f.at;
    image = f.image;
    made = record { next = next.kernel; image = h; made = m.made; told = m.told; rest = same_files later f.units f.at f.image q f.made };
    step = f.step;
    bare = f.bare;
    wrote = f.wrote;
    puts = puts_first (f.units ++ entries.SwapOut pid ∷ []) new.kernel.place n f.puts;
    out = f.out;
    beside = beside_both old next new m.beside f.beside;
  }

  pub stops_first : (later : Option (List NamedFile)) (stop : Stop) (new : Standing) (j : Option SwapImage) → later ≡ holds → is_out old.kernel.place pid ≡ false
      → StopsWhile (putting_out pid sid) next new later h j stop → StopsWhile (putting_out pid sid) old new holds i j stop
  stops_first later stop new j q n f =
      stops_after_unit (putting_out pid sid) (putting_out pid sid) e old next new holds later i h j stop q refl refl m (λ us l s. record { puts = puts_first us l.place n s.puts; still = s.still }) f

pub stops_here : (pid sid : ℕ) (old : Standing) (stop : Stop) (new : Standing) (holds : Option (List NamedFile)) (i j : Option SwapImage)
    → is_out old.kernel.place pid ≡ false → StopsAt (put_out_unit old.kernel.place pid sid) old new i j stop → StopsWhile (putting_out pid sid) old new holds i j stop
stops_here pid sid old stop new holds i j n s =
    stops_at_first (putting_out pid sid) (put_out_unit old.kernel.place pid sid) old new holds i j stop (record { puts = refl; still = n }) refl s

-- The last unit.

pub beside_of : (old new : Standing) → new ≡ record old { kernel = new.kernel; room = None } → IsSameBeside old new
beside_of old new e = record {
  params = ap (λ (s : Standing). s.params) e;
  images = ap (λ (s : Standing). s.images) e;
  before = ap (λ (s : Standing). s.before) e;
}

lives_holding : (o : Option Proc) (sid : ℕ) → life_of_proc o ≡ HoldsSpace sid → lives_in o ≡ true
lives_holding None sid e = absurd cc
lives_holding (Some p) sid e = ap has_life e

pub holder_resides : (k : Kernel) (pid sid : ℕ) → EachResides k → life_in k pid ≡ HoldsSpace sid → IsResident k.place pid
holder_resides k pid sid r e = r pid (lives_holding (numbered (λ (p : Proc). p.pid) pid k.processes) sid e)

pub put_last : (pid sid : ℕ) (old new : Standing) (holds : Option (List NamedFile)) (i j : Option SwapImage) → IsResident old.kernel.place pid
    → is_out old.kernel.place pid ≡ false → IsNext old.kernel.place sid None
    → new.kernel ≡ out_step old.kernel pid → IsSameBeside old new → WritesU old.kernel pid i j → PutOut pid sid old new holds i j
put_last pid sid old new holds i j r n l e b w =
    let p = old.kernel.place in
    let at = length old.kernel.journal + 1 in
    let place_is : new.kernel.place ≡ moved p pid true at =
    ap (λ (k : Kernel). k.place) e ∙ ap (λ (n : ℕ). moved p pid true n) (one_more old.kernel.journal (entries.SwapOut pid) tt) in
    record {
      units = [];
      at = old.kernel;
      image = i;
      made = (refl, refl);
      step = e;
      bare = λ q h. ap (λ (k : Kernel). proc_of k pid) e ∙ out_record old.kernel pid q h;
      wrote = w;
      puts = (n, sym (last_unit p pid sid l), sym place_is);
      out = ap (λ (q : Placement). is_out q pid) place_is ∙ ap (λ (x : Residence). x.out) (moved_own p pid true at r);
      beside = b;
    }

-- Where the last unit stops the run.

ok_is : {A : Type 0} (r : Result A Stop) (limit : ℕ) (journal : List Entry) (pid : ℕ) (s t : Stop) → r ≡ Err s → ((r ≡ Err t) ↔ (limit ≤ length journal))
    → (s ≡ t) ↔ ((limit ≤ length journal) × (length journal < length (append journal (entries.SwapOut pid))))
ok_is {A} r limit journal pid s t e f = (
  (λ h. (f.0 (e ∙ ap (λ (x : Stop). let z : Result A Stop = Err x in z) h), plain_longer journal (entries.SwapOut pid) tt)),
  (λ h. err_same {A = A} s t (sym e ∙ f.1 h.0)),
)

-- why a u page isn't written, or read
u_cause : (stop kind : Stop) → (let r : Result (Unit {0}) Stop = Err stop in (r ≡ Err stops.JournalFull) ⊎ ((r ≡ Err stops.NoMemory) ⊎ (r ≡ Err kind)))
    → (stop ≡ stops.JournalFull) ⊎ ((stop ≡ stops.NoMemory) ⊎ (stop ≡ kind))
u_cause stop kind c = elim c [
  | inl h ↦ inl (err_same {A = Unit {0}} stop stops.JournalFull h)
  | inr h ↦ inr (elim h [
    | inl h ↦ inl (err_same {A = Unit {0}} stop stops.NoMemory h)
    | inr h ↦ inr (err_same {A = Unit {0}} stop kind h)
  ])
]

-- no file is the cause
never_file : (stop kind : Stop) → (kind ≡ stops.FileFault → ⊥)
    → (let r : Result (Unit {0}) Stop = Err stop in (r ≡ Err stops.JournalFull) ⊎ ((r ≡ Err stops.NoMemory) ⊎ (r ≡ Err kind)))
    → stop ≡ stops.FileFault → ⊥
never_file stop kind other c e = elim (u_cause stop kind c) [
  | inl h ↦ (let z : stops.JournalFull ≡ stops.FileFault = sym h ∙ e in cc)
  | inr h ↦ elim h [
    | inl h ↦ (let z : stops.NoMemory ≡ stops.FileFault = sym h ∙ e in cc)
    | inr h ↦ other (sym h ∙ e)
  ]
]

pub out_stops : (pid sid : ℕ) (old new : Standing) (holds : Option (List NamedFile)) (i j : Option SwapImage) (r : Result (Unit {0}) Stop)
    → is_out old.kernel.place pid ≡ false → IsNext old.kernel.place sid None
    → OnErr r (HasStopped old new) → OnErr r ((r ≡ Err stops.JournalFull) ⊎ ((r ≡ Err stops.NoMemory) ⊎ (r ≡ Err stops.SwapWriteFault)))
    → ((r ≡ Err stops.JournalFull) ↔ (old.params.journal ≤ length old.kernel.journal)) → FailsFor r old new → OnErr r (SwapBehind r old.kernel pid i j)
    → old.before ≡ old.kernel.holdings → IfErr r (λ stop. StopsWhile (putting_out pid sid) old new holds i j stop)
out_stops pid sid old new holds i j (Ok x) n l s c f failed b w = tt
out_stops pid sid old new holds i j (Err stop) n l s c f failed b w =
    stops_here pid sid old stop new holds i j n (subst (λ (e : Entry). StopsAt e old new i j stop) (sym (last_unit old.kernel.place pid sid l)) (record {
      journal = s.journal;
      held = moved_left stop old new s w (λ h. f.0 (ap (λ (t : Stop). let z : Result (Unit {0}) Stop = Err t in z) h)) (never_file stop stops.SwapWriteFault (λ e. cc) c) failed;
      full = subst (λ (p : Params). (stop ≡ stops.JournalFull) ↔ ((p.journal ≤ length old.kernel.journal) × (length old.kernel.journal < length (append old.kernel.journal (entries.SwapOut pid)))))
          (sym s.params)
          (ok_is {A = Unit {0}} (Err stop) old.params.journal old.kernel.journal pid stop stops.JournalFull refl f);
      cause = u_cause stop stops.SwapWriteFault c;
      image = spoils stop b;
      params = s.params;
      images = s.images;
    }))
  where
    spoils : (stop : Stop) → (let z : Result (Unit {0}) Stop = Err stop in SwapBehind z old.kernel pid i j) → SpoilsBy (files_named new.images) (entries.SwapOut pid) stop old.kernel i j
    spoils stops.NoMemory b = b
    spoils stops.JournalFull b = b
    spoils stops.FileFault b = b
    spoils stops.SwapReadFault b = b
    spoils stops.SwapWriteFault b = b

-- Where its u page isn't read, a process stops the run as it comes in.

in_is : (limit : ℕ) (journal : List Entry) (pid : ℕ) (s : Stop)
    → ((let r : Result (Unit {0}) Stop = Err s in r ≡ Err stops.JournalFull) ↔ (limit ≤ length journal))
    → (s ≡ stops.JournalFull) ↔ ((limit ≤ length journal) × (length journal < length (append journal (entries.SwapIn pid))))
in_is limit journal pid s f = (
  (λ h. (f.0 (ap (λ (x : Stop). let z : Result (Unit {0}) Stop = Err x in z) h), plain_longer journal (entries.SwapIn pid) tt)),
  (λ h. err_same {A = Unit {0}} s stops.JournalFull (f.1 h.0)),
)

pub in_stops : (pid : ℕ) (old new : Standing) (i j : Option SwapImage) (r : Result (Unit {0}) Stop)
    → OnErr r (HasStopped old new) → OnErr r ((r ≡ Err stops.JournalFull) ⊎ ((r ≡ Err stops.NoMemory) ⊎ (r ≡ Err stops.SwapReadFault)))
    → ((r ≡ Err stops.JournalFull) ↔ (old.params.journal ≤ length old.kernel.journal)) → FailsFor r old new → OnErr r (SwapBehind r old.kernel pid i j)
    → old.before ≡ old.kernel.holdings → IfErr r (λ stop. StopsAt (entries.SwapIn pid) old new i j stop)
in_stops pid old new i j (Ok x) s c f failed b w = tt
in_stops pid old new i j (Err stop) s c f failed b w = record {
  journal = s.journal;
  held = moved_left stop old new s w (λ h. f.0 (ap (λ (t : Stop). let z : Result (Unit {0}) Stop = Err t in z) h)) (never_file stop stops.SwapReadFault (λ e. cc) c) failed;
  full = subst (λ (p : Params). (stop ≡ stops.JournalFull) ↔ ((p.journal ≤ length old.kernel.journal) × (length old.kernel.journal < length (append old.kernel.journal (entries.SwapIn pid)))))
      (sym s.params)
      (in_is old.params.journal old.kernel.journal pid stop f);
  cause = u_cause stop stops.SwapReadFault c;
  image = spoils stop b;
  params = s.params;
  images = s.images;
}
  where
    spoils : (stop : Stop) → (let z : Result (Unit {0}) Stop = Err stop in SwapBehind z old.kernel pid i j) → SpoilsBy (files_named new.images) (entries.SwapIn pid) stop old.kernel i j
    spoils stops.NoMemory b = b
    spoils stops.JournalFull b = b
    spoils stops.FileFault b = b
    spoils stops.SwapReadFault b = b
    spoils stops.SwapWriteFault b = b

-- What is so of it and of the device alone is so with the files beside that.
pub in_stops_beside : (pid : ℕ) (old : Standing) (i j : Option SwapImage) (stop : Stop) (new : Standing) (notes : FileNotes)
    → StopsAt (entries.SwapIn pid) old new i j stop → StopsAt (entries.SwapIn pid) old new (with_files notes i) (with_files notes j) stop
in_stops_beside pid old i j stop new notes s = record {
  journal = s.journal;
  held = s.held;
  full = s.full;
  cause = s.cause;
  image = behind_beside {A = Bool} (Err stop) old.kernel pid i j notes s.image;
  params = s.params;
  images = s.images;
}

-- What is known of an answer, weakened.

pub on_ok_with : {A E P Q R S : Type 0} (r : Result A E) → (P → Q → R → S) → OnOk r P → OnOk r Q → OnOk r R → OnOk r S
on_ok_with (Ok x) f p q r = f p q r
on_ok_with (Err e) f p q r = p

pub if_err : {A E : Type 0} {P Q : E → Type 0} (r : Result A E) → ((e : E) → P e → Q e) → IfErr r P → IfErr r Q
if_err (Ok x) f h = h
if_err (Err e) f h = f e h

-- What is put out so far and what is left make the whole.

pub record PutsSoFar (pid sid : ℕ) (old now : Standing) (holds later : Option (List NamedFile)) (i h : Option SwapImage) : Type 0 where
  pub more : (new : Standing) (j : Option SwapImage) → PutOut pid sid now new later h j → PutOut pid sid old new holds i j
  pub stops : (stop : Stop) (new : Standing) (j : Option SwapImage) → StopsWhile (putting_out pid sid) now new later h j stop → StopsWhile (putting_out pid sid) old new holds i j stop
  pub keeps : (new : Standing) (j : Option SwapImage) → KeepsThrough now new later h j → KeepsThrough old new holds i j

pub puts_none : (pid sid : ℕ) (old : Standing) (holds : Option (List NamedFile)) (i : Option SwapImage) → PutsSoFar pid sid old old holds holds i i
puts_none pid sid old holds i = record { more = λ new j p. p; stops = λ stop new j s. s; keeps = λ new j k. k }

pub puts_one : (pid sid : ℕ) (old now next : Standing) (step : Step) (holds later latest : Option (List NamedFile)) (i h k : Option SwapImage) → latest ≡ later
    → IsStep now.kernel.place sid step → is_out now.kernel.place pid ≡ false
    → MakesUnit (ground now later []) (put_out_unit now.kernel.place pid sid) now next h k
    → KeepsThrough now next later h k → PutsSoFar pid sid old now holds later i h → PutsSoFar pid sid old next holds latest i k
puts_one pid sid old now next step holds later latest i h k e s n m t so = record {
  more = λ new j p. so.more new j (put_first now next pid sid step later h k s m latest new j e n p);
  stops = λ stop new j p. so.stops stop new j (stops_first now next pid sid step later h k s m latest stop new j e n p);
  keeps = λ new j f. so.keeps new j
      (keeps_both now next new later latest h k j m.beside.images (unit_shaped (ground now later []) (put_out_unit now.kernel.place pid sid) now.kernel next.kernel h m.made) e t f);
}

-- A process that came in, with the files beside the device.

pub in_turns : (r : Result (Unit {0}) Stop) (pid : ℕ) (old new : Standing) (holds : Option (List NamedFile)) (i j : Option SwapImage) (notes : FileNotes)
    → OnOk r (IsIn old.kernel new.kernel pid i) → OnOk r (IsSameBeside old new) → OnOk r (AsksU old.kernel pid i j)
    → OnOk r (Turns (turns.In pid) old new holds (with_files notes i) (with_files notes j))
in_turns r pid old new holds i j notes a b c =
    on_ok_with r (λ x y z. (in_beside old.kernel new.kernel pid i notes x, y, asks_beside old.kernel pid i j notes z)) a b c

pub in_keeps_turn : (r : Result (Unit {0}) Stop) (pid : ℕ) (old new : Standing) (holds : Option (List NamedFile)) (i j : Option SwapImage) (notes : FileNotes)
    → OnOk r (KeepsIn old.kernel new.kernel pid i j) → OnOk r (KeepsTurn (turns.In pid) old new holds (with_files notes i) (with_files notes j))
in_keeps_turn (Ok x) pid old new holds i j notes h = in_kept_beside old.kernel new.kernel pid i j notes h
in_keeps_turn (Err stop) pid old new holds i j notes h = h

pub in_stops_turn : (r : Result (Unit {0}) Stop) (pid : ℕ) (old new : Standing) (holds : Option (List NamedFile)) (i j : Option SwapImage) (notes : FileNotes)
    → IfErr r (λ stop. StopsAt (entries.SwapIn pid) old new i j stop)
    → IfErr r (λ stop. StopsTurning (turns.In pid) old new holds (with_files notes i) (with_files notes j) stop)
in_stops_turn (Ok x) pid old new holds i j notes h = h
in_stops_turn (Err stop) pid old new holds i j notes h = in_stops_beside pid old i j stop new notes h

-- What a call leaves that asks no device.

pub none_asked : {F D : Type 0} {f : FilesGhosts F} {d : SwapGhosts D} (r : Result (Unit {0}) Stop) (x : F) (u : D) → ((x : F) → f.leads x x)
    → ((u : D) → d.leads u u) → OnErr r ((r ≡ Err stops.JournalFull) ⊎ (r ≡ Err stops.NoMemory)) → TransfersPages f d (stop_of r) x x u u
none_asked (Ok a) x u files swap c = transfers_none files swap x u
none_asked {f = f} {d = d} (Err stop) x u files swap c = elim c [
  | inl h ↦ subst (λ (s : Stop). TransfersPages f d (Some s) x x u u) (sym (err_same {A = Unit {0}} stop stops.JournalFull h)) (record {
    files = record { leads = files x; holds = refl; open_faults = refl; page_faults = refl };
    swap = record { leads = swap u; blocks = refl; read_faults = refl; write_faults = refl };
  })
  | inr h ↦ subst (λ (s : Stop). TransfersPages f d (Some s) x x u u) (sym (err_same {A = Unit {0}} stop stops.NoMemory h)) (record {
    files = record { leads = files x; holds = refl; open_faults = refl; page_faults = refl };
    swap = record { leads = swap u; blocks = refl; read_faults = refl; write_faults = refl };
  })
]
