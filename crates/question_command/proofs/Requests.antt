-- The requests of swap that the notes of a run count are those that the units of its journal make.
use Rattle.std.proofs.Common.{◌≡◌, ℕ, zero, suc, ◌+◌, Bool, true, false, List, [], ◌∷◌, ◌++◌, length, map, slice_get, Option, Some, None, IsSome, refl, sym, ap, ◌∙◌, append_assoc, subst}
use Rattle.std.specs.List.{sum_by}
use Rattle.std.proofs.lemmas.List.{append-nil, length-append}
use Rattle.std.proofs.lemmas.List.Sums.{sum_by-cons}
use Rattle.vm_facts.specs.SwapImages.{StoreRequest, SwapRead, SwapWrite, OfFiles}
use Rattle.vm_facts.specs.declared.entry.Entry.{Entry}
use Rattle.vm_facts.specs.declared.entry.Entry.TheVariants as entries
use Rattle.vm_facts.specs.declared.page.Page.{Page}
use Rattle.vm_facts.specs.declared.page.Page.TheVariants.{Data, Stack, Text}
use Rattle.vm_facts.specs.declared.page.PageState.{PageState}
use Rattle.io_edge.specs.WithFiles.{of_swap}
use Rattle.io_edge.proofs.Seen.{of_swap-append, swap_of_files}
use Rattle.flat_state.specs.Flat.{Inputs, process_of}
use Rattle.flat_state.specs.Journal.{appended, repeated, units_with, units_of}
use Rattle.flat_state.proofs.Joins.{appended_units}
use Rattle.page_model.specs.Owner.TheVariants as owners
use Rattle.page_model.specs.Holdings.{Holdings, block_in}
use Rattle.page_model.specs.Placement.{Placement, Transfer, Part, Source, FromSwap, FromFile, Errand, Writes, Reads, moving, moving_state, parts_of, state_of, mark_of, image_of}
use Rattle.page_model.specs.Ownership.{OneOwner, Each, IsMoving, block_of, needs_blocks, needs_blocks_by}
use Rattle.page_model.specs.Swapper.{is_out}
use Rattle.page_laws.proofs.Blocks.Aside.{places_found}
use Rattle.page_laws.proofs.Bytes.Others.{each_front}
use Rattle.kernel_model.specs.Kernel.{Kernel}
use Rattle.kernel_model.specs.Requests.{ImageFile, image_files, fills_asked, errand_asks, first_asks, unit_asks}
use Rattle.kernel_model.specs.Sound.{Sound, lives, lives_in}
use Rattle.kernel_model.specs.Stands.{holds_some}
use Rattle.kernel_model.specs.Start.{ImagesFit}
use Rattle.kernel_model.specs.SwapRequests.{asked_at, pages_asked}
use Rattle.kernel_laws.proofs.Machine.Swaps.{u_found}
use Rattle.flat_model.specs.Asked.{start_held, or_before}
use Rattle.run_model.specs.Lawful.{Follows}
use Rattle.run_model.specs.Next.{next_unit}
use Rattle.run_model.specs.State.{State, start}
use Rattle.run_model.specs.After.{after}
use Rattle.run_model.specs.Swapped.{requests_from, requests_of}
use Rattle.run_model.proofs.After.{units_journal}
use Rattle.run_model.proofs.Followed.{followed_on}
use Rattle.run_model.proofs.NextUnits.{kind_of}
use Rattle.run_laws.specs.Running.{IsRun, CanRun}
use Rattle.run_laws.specs.Standing.{Placed, machine_of}
use Rattle.run_laws.proofs.Flows.{steps_own}
use Rattle.run_laws.proofs.Lawful.{all_units, follows_state}
use Rattle.run_laws.proofs.MachineUnits.{Leaves, leaves}
use Rattle.run_laws.proofs.Sorts.{Sort, Pages, GoesIn, GoesOff, Says, Makes, sort_of}
use Rattle.run_laws.proofs.Wholes.{units_run, start_run}
use Rattle.film_core.proofs.Marking.{one_follows}
use Rattle.run_stats.specs.declared.heads.Head.TheVariants.{OfRun}
use Rattle.run_stats.specs.declared.heads.RunHead.TheVariants.{SwapRequests}
use Rattle.run_stats.specs.declared.noting.Note.{Note}
use Rattle.run_stats.specs.Amounts.{swap_requests, head_amount, sum_of}
use Rattle.run_stats.specs.Looks.{flight_by, flight_of, look_at}
use Rattle.run_stats.specs.Notes.{what_of, note_of}
use Rattle.run_stats.specs.Story.{IsNoted, AreNoted}

-- how many of these requests are of swap
abbrev swap_count : List StoreRequest → ℕ
swap_count rs = length (of_swap rs)

both_counted : (xs ys : List StoreRequest) → swap_count (xs ++ ys) ≡ swap_count xs + swap_count ys
both_counted xs ys = ap length (of_swap-append xs ys) ∙ length-append (of_swap xs) (of_swap ys)

-- Each page that a transfer moves has its blocks.

abbrev HaveBlocks : Holdings → List Part → Type 0
HaveBlocks hs [] = Unit {0}
HaveBlocks hs (x ∷ xs) = IsSome (block_of hs x.page) × HaveBlocks hs xs

moving_needs : (e : Errand) (q : Page) (f : ℕ) (m : Bool) → needs_blocks_by q (moving_state e f) m ≡ true
moving_needs Writes (Data sid v) f true = refl
moving_needs Writes (Data sid v) f false = refl
moving_needs Writes (Stack sid v) f true = refl
moving_needs Writes (Stack sid v) f false = refl
moving_needs Writes (Text image v) f true = refl
moving_needs Writes (Text image v) f false = refl
moving_needs (Reads source demanded) (Data sid v) f true = refl
moving_needs (Reads source demanded) (Data sid v) f false = refl
moving_needs (Reads source demanded) (Stack sid v) f true = refl
moving_needs (Reads source demanded) (Stack sid v) f false = refl
moving_needs (Reads source demanded) (Text image v) f true = refl
moving_needs (Reads source demanded) (Text image v) f false = refl

have_blocks : (size : ℕ) (alive : ℕ → Bool) (p : Placement) (hs : Holdings) (e : Errand) (xs : List Part) → OneOwner size alive p hs
    → Each (IsMoving p) (map (moving e) xs) → HaveBlocks hs xs
have_blocks size alive p hs e [] o m = tt
have_blocks size alive p hs e (x ∷ xs) o m =
    let needs : needs_blocks p x.page ≡ true =
    ap (λ (s : PageState). needs_blocks_by x.page s (mark_of p x.page)) m.0 ∙ moving_needs e x.page x.frame (mark_of p x.page) in
    (places_found size alive p hs x.page o needs, have_blocks size alive p hs e xs o m.1)

reads_counted : (hs : Holdings) (xs : List Part) → HaveBlocks hs xs → swap_count (pages_asked hs SwapRead xs) ≡ length xs
reads_counted hs [] h = refl
reads_counted hs (x ∷ xs) h = go (block_of hs x.page) h.0 (reads_counted hs xs h.1)
  where
    go : (o : Option ℕ) → IsSome o → swap_count (pages_asked hs SwapRead xs) ≡ length xs
        → swap_count (asked_at SwapRead o ++ pages_asked hs SwapRead xs) ≡ suc (length xs)
    go None some rest = absurd cc
    go (Some block) some rest = ap suc rest

writes_counted : (hs : Holdings) (xs : List Part) → HaveBlocks hs xs → swap_count (pages_asked hs SwapWrite xs) ≡ length xs
writes_counted hs [] h = refl
writes_counted hs (x ∷ xs) h = go (block_of hs x.page) h.0 (writes_counted hs xs h.1)
  where
    go : (o : Option ℕ) → IsSome o → swap_count (pages_asked hs SwapWrite xs) ≡ length xs
        → swap_count (asked_at SwapWrite o ++ pages_asked hs SwapWrite xs) ≡ suc (length xs)
    go None some rest = absurd cc
    go (Some block) some rest = ap suc rest

-- The end of a transfer.

errand_counted : (files : List ImageFile) (f : ℕ → ℕ) (hs : Holdings) (e : Errand) (xs : List Part) → HaveBlocks hs xs
    → swap_count (errand_asks files f hs e xs) ≡ swap_requests (what_of entries.Done) (flight_by e xs)
errand_counted files f hs Writes [] h = refl
errand_counted files f hs Writes (x ∷ xs) h = writes_counted hs (x ∷ xs) h
errand_counted files f hs (Reads FromSwap demanded) xs h = reads_counted hs xs h
errand_counted files f hs (Reads FromFile demanded) xs h = ap length (swap_of_files (fills_asked files f xs))

first_counted : (files : List ImageFile) (size : ℕ) (alive : ℕ → Bool) (p : Placement) (hs : Holdings) → OneOwner size alive p hs
    → swap_count (first_asks files (image_of p) hs p.transfers) ≡ swap_requests (what_of entries.Done) (flight_of (slice_get p.transfers 0))
first_counted files size alive p hs o = go p.transfers refl
  where
    go : (ts : List Transfer) → p.transfers ≡ ts
        → swap_count (first_asks files (image_of p) hs ts) ≡ swap_requests (what_of entries.Done) (flight_of (slice_get ts 0))
    go [] e = refl
    go (t ∷ ts) e =
        let all : Each (IsMoving p) (parts_of (t ∷ ts)) = subst (λ (us : List Transfer). Each (IsMoving p) (parts_of us)) e o.frames.moves in
        errand_counted files (image_of p) hs t.errand t.parts
        (have_blocks size alive p hs t.errand t.parts o (each_front (IsMoving p) (map (moving t.errand) t.parts) (parts_of ts) all))

-- A process that goes out or comes in.

one_asked : (o : Option ℕ) → IsSome o → swap_count (asked_at SwapRead o) ≡ 1
one_asked None some = absurd cc
one_asked (Some block) some = refl

one_put : (o : Option ℕ) → IsSome o → swap_count (asked_at SwapWrite o) ≡ 1
one_put None some = absurd cc
one_put (Some block) some = refl

module _ (A : Inputs) (s : State) (run : IsRun A s) where
  abbrev here : Kernel
  here = machine_of s.point.flat s.place s.holdings

  -- a process that holds a space has a u page in its blocks
  u_there : (pid : ℕ) → holds_some (process_of s.point.flat pid) ≡ true → IsSome (block_in s.holdings (owners.U pid) 0)
  u_there pid holds =
      let x : Leaves here s.point.flat pid = leaves here s.point.flat pid run.placed.tables holds in
      u_found A.swap_blocks here pid run.placed.sound (ap lives_in x.kept ∙ x.life)

  out_counted : (pid : ℕ) → Sort A s (entries.SwapOut pid) → swap_count (unit_asks (image_files A) s.place s.holdings (entries.SwapOut pid)) ≡ 1
  out_counted pid (Pages none stays) = absurd stays
  out_counted pid (GoesIn q is out) = absurd cc
  out_counted pid (GoesOff q is in_ holds) =
      one_put (block_in s.holdings (owners.U pid) 0)
      (u_there pid (ap (λ (n : ℕ). holds_some (process_of s.point.flat n)) (let same : entries.SwapOut pid ≡ entries.SwapOut q = is in cc) ∙ holds))
  out_counted pid (Says says saying) = absurd saying
  out_counted pid (Makes stepped none) = absurd (let own = steps_own A s.point stepped.pid (entries.SwapOut pid) stepped.next in cc)

  in_counted : (pid : ℕ) → Sort A s (entries.SwapIn pid) → swap_count (unit_asks (image_files A) s.place s.holdings (entries.SwapIn pid)) ≡ 1
  in_counted pid (Pages none stays) = absurd stays
  in_counted pid (GoesIn q is out) =
      one_asked (block_in s.holdings (owners.U pid) 0)
      (u_there pid (run.placed.stands.out pid (ap (is_out s.place) (let same : entries.SwapIn pid ≡ entries.SwapIn q = is in cc) ∙ out)))
  in_counted pid (GoesOff q is in_ holds) = absurd cc
  in_counted pid (Says says saying) = absurd saying
  in_counted pid (Makes stepped none) = absurd (let own = steps_own A s.point stepped.pid (entries.SwapIn pid) stepped.next in cc)

  -- one unit
  unit_counted : (u : Entry) → next_unit A s ≡ Some u
      → swap_count (unit_asks (image_files A) s.place s.holdings u) ≡ swap_requests (what_of u) (look_at s).oldest
  unit_counted entries.Done next = first_counted (image_files A) A.swap_blocks (lives here.processes) s.place s.holdings run.placed.sound.owner
  unit_counted (entries.SwapOut pid) next = out_counted pid (sort_of A s (entries.SwapOut pid) run.mark (kind_of A s (entries.SwapOut pid) next))
  unit_counted (entries.SwapIn pid) next = in_counted pid (sort_of A s (entries.SwapIn pid) run.mark (kind_of A s (entries.SwapIn pid) next))
  unit_counted (entries.Event line) next = refl
  unit_counted (entries.Turn pid) next = refl
  unit_counted (entries.Owners f v m h) next = refl
  unit_counted (entries.Zero q) next = refl
  unit_counted (entries.Get q lo n) next = refl
  unit_counted (entries.Copy q) next = refl
  unit_counted (entries.Reclaim q) next = refl
  unit_counted (entries.Put q n) next = refl
  unit_counted (entries.Hands n) next = refl
  unit_counted (entries.Ran p n) next = refl
  unit_counted (entries.Out p bytes) next = refl
  unit_counted (entries.Grew p n) next = refl
  unit_counted (entries.Call p n c r0 r1) next = refl
  unit_counted (entries.Refused p) next = refl
  unit_counted (entries.Sleeps p) next = refl
  unit_counted (entries.Ended p n) next = refl

-- The units of one entry.

quiet_runs : (A : Inputs) (s : State) (pid n : ℕ) → requests_from A s (repeated (entries.Ran pid 1) n []) ≡ []
unfolding requests_from
quiet_runs A s pid zero = refl
quiet_runs A s pid (suc n) = quiet_runs A (after A s (entries.Ran pid 1)) pid n

quiet_moves : (A : Inputs) (s : State) (n : ℕ) → requests_from A s (repeated (entries.Hands 1) n []) ≡ []
unfolding requests_from
quiet_moves A s zero = refl
quiet_moves A s (suc n) = quiet_moves A (after A s (entries.Hands 1)) n

single : (A : Inputs) (s t : State) (u : Entry) → IsRun A s → Follows A s (u ∷ []) t
    → swap_count (requests_from A s (u ∷ [])) ≡ swap_requests (what_of u) (look_at s).oldest
unfolding requests_from
single A s t u run f = ap swap_count (append-nil (unit_asks (image_files A) s.place s.holdings u)) ∙ unit_counted A s run u f.0

entry_counted : (A : Inputs) (s t : State) (e : Entry) → IsRun A s → Follows A s (units_with e []) t
    → swap_count (requests_from A s (units_with e [])) ≡ swap_requests (what_of e) (look_at s).oldest
entry_counted A s t (entries.Ran pid n) run f = ap swap_count (quiet_runs A s pid n)
entry_counted A s t (entries.Hands n) run f = ap swap_count (quiet_moves A s n)
entry_counted A s t (entries.Event line) run f = single A s t (entries.Event line) run f
entry_counted A s t (entries.Turn pid) run f = single A s t (entries.Turn pid) run f
entry_counted A s t (entries.Owners a b c d) run f = single A s t (entries.Owners a b c d) run f
entry_counted A s t (entries.SwapOut pid) run f = single A s t (entries.SwapOut pid) run f
entry_counted A s t (entries.SwapIn pid) run f = single A s t (entries.SwapIn pid) run f
entry_counted A s t (entries.Zero q) run f = single A s t (entries.Zero q) run f
entry_counted A s t (entries.Get q lo n) run f = single A s t (entries.Get q lo n) run f
entry_counted A s t (entries.Copy q) run f = single A s t (entries.Copy q) run f
entry_counted A s t (entries.Reclaim q) run f = single A s t (entries.Reclaim q) run f
entry_counted A s t (entries.Put q n) run f = single A s t (entries.Put q n) run f
entry_counted A s t entries.Done run f = single A s t entries.Done run f
entry_counted A s t (entries.Out p bytes) run f = single A s t (entries.Out p bytes) run f
entry_counted A s t (entries.Grew p n) run f = single A s t (entries.Grew p n) run f
entry_counted A s t (entries.Call p n c r0 r1) run f = single A s t (entries.Call p n c r0 r1) run f
entry_counted A s t (entries.Refused p) run f = single A s t (entries.Refused p) run f
entry_counted A s t (entries.Sleeps p) run f = single A s t (entries.Sleeps p) run f
entry_counted A s t (entries.Ended p n) run f = single A s t (entries.Ended p n) run f

-- All entries.

requests_append : (A : Inputs) (s t : State) (us vs : List Entry) → Follows A s us t
    → requests_from A s (us ++ vs) ≡ requests_from A s us ++ requests_from A t vs
unfolding requests_from
requests_append A s t [] vs f = ap (λ (x : State). requests_from A x vs) f
requests_append A s t (u ∷ us) vs f =
    let asks : List StoreRequest = unit_asks (image_files A) s.place s.holdings u in
    ap (λ (rs : List StoreRequest). asks ++ rs) (requests_append A (after A s u) t us vs f.1)
    ∙ sym (append_assoc asks (requests_from A (after A s u) us) (requests_from A t vs))

-- next units lead from one state to the other, and make as many requests of swap as the notes count
record Counts (A : Inputs) (s t : State) (notes : List Note) : Type 0 where
  pub units : List Entry
  pub follows : Follows A s units t
  pub count : sum_of (OfRun SwapRequests) notes ≡ swap_count (requests_from A s units)

none_asked : (A : Inputs) (s : State) → requests_from A s [] ≡ []
unfolding requests_from
none_asked A s = refl

counts : (A : Inputs) (s t : State) (notes : List Note) → ImagesFit A.images → IsRun A s → AreNoted A s notes t → Counts A s t notes
counts A s t [] images run same = record { units = []; follows = same; count = sym (ap swap_count (none_asked A s)) }
counts A s t (x ∷ xs) images run all =
    let mid : State = all.0 in
    let one : IsNoted A s x mid = all.1 in
    let own : List Entry = units_with one.entry [] in
    let f : Follows A s own mid = one_follows A s mid one.units one.entry one.follows one.more in
    let more : Counts A mid t xs = counts A mid t xs images (units_run A own s mid images run f) all.2 in
    let amount : head_amount (OfRun SwapRequests) x ≡ swap_count (requests_from A s own) =
    ap (head_amount (OfRun SwapRequests)) one.note ∙ sym (entry_counted A s mid one.entry run f) in
    record {
      units = own ++ more.units;
      follows = followed_on A s mid t own more.units f more.follows;
      count = sum_by-cons (head_amount (OfRun SwapRequests)) x xs
          ∙ ap (λ (n : ℕ). n + sum_of (OfRun SwapRequests) xs) amount
          ∙ ap (λ (n : ℕ). swap_count (requests_from A s own) + n) more.count
          ∙ sym (ap swap_count (requests_append A s mid own more.units f) ∙ both_counted (requests_from A s own) (requests_from A mid more.units));
    }

-- from the start they are those of the journal
pub requests_counted : (A : Inputs) (hs : Holdings) (t : State) (notes : List Note) (journal : List Entry) → CanRun A hs → AreNoted A (start A hs) notes t
    → t.journal ≡ journal → sum_of (OfRun SwapRequests) notes ≡ length (of_swap (requests_of A journal))
requests_counted A hs t notes journal can noted is =
    let c : Counts A (start A hs) t notes = counts A (start A hs) t notes can.images (start_run A hs can) noted in
    let behind : t.journal ≡ appended [] c.units =
    ap (λ (x : State). x.journal) (sym (follows_state A c.units (start A hs) t c.follows)) ∙ units_journal A (start A hs) c.units in
    let all : units_of journal ≡ c.units =
    ap units_of (sym is ∙ behind) ∙ appended_units [] c.units (all_units A c.units (start A hs) t c.follows) in
    c.count
    ∙ ap (λ (us : List Entry). swap_count (requests_from A (start A hs) us)) (sym all)
    ∙ ap (λ (ps : Holdings). swap_count (requests_from A (start A ps) (units_of journal))) (sym (ap (or_before []) can.pieces))
