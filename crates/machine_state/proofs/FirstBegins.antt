-- A first process begins: the machine is as the step says, and what holds of a machine that runs holds yet.
use Rattle.std.proofs.Common.{◌≡◌, ℕ, zero, suc, ◌*◌, Bool, true, false, List, [], ◌∷◌, length, map}
use Rattle.std.proofs.Common.{Option, Some, None, Result, Ok, Err, slice_get, refl, sym, ap, ◌∙◌, subst, arith}
use Rattle.std.specs.Prelude.{IfOk, is_ok}
use Rattle.std.proofs.lemmas.List.{length-map}
use Rattle.std.proofs.lemmas.Option.{same_Some}
use Rattle.vm_facts.specs.declared.stop.NoMemory.{NoMemory}
use Rattle.vm_facts.specs.declared.page.Page.TheVariants.{Text}
use Rattle.vm_facts.specs.declared.params.Params.{Params}
use Rattle.aout_image.specs.declared.Image.{Image}
use Rattle.core_map.specs.Frames.{IsSoundMap as IsCore}
use Rattle.swap_dmap.specs.Chunks.{pieces}
use Rattle.swap_book.specs.declared.Owner.TheVariants as owners
use Rattle.swap_book.specs.Owners.{u_pieces}
use Rattle.swap_book.specs.Holdings.{Holdings}
use Rattle.swap_book.specs.Placing.{place_all}
use Rattle.swap_book.specs.Book.{with_holdings, grown_book}
use Rattle.swap_book.proofs.OwnerLaws.{no_pieces}
use Rattle.page_model.specs.Pages.{SpacePages, data_in, stack_in}
use Rattle.page_model.specs.Placement.{Placement, slots_of}
use Rattle.page_model.specs.Place.{facts_numbered}
use Rattle.page_model.specs.Conditions.{IsNew}
use Rattle.page_model.specs.Ownership.{OwnsBlocks, text_pieces_while, u_blocks}
use Rattle.kernel_model.specs.Kernel.{Kernel, Proc}
use Rattle.kernel_model.specs.Sound.{lives, lives_in}
use Rattle.kernel_model.specs.Asks.{IsUnused, begin_asks}
use Rattle.table_steps.proofs.Numbered.{absent_none, below_absent}
use Rattle.table_steps.proofs.KernelLawsSoundAllowed.{new_number}
use Rattle.flat_state.specs.Numbers.{AllBelow}
use Rattle.table_steps.specs.Named.{Named}
use Rattle.table_steps.specs.Tables.{Tables}
use Rattle.machine_state.specs.declared.machine.Machine.TheInside.{Inside}
use Rattle.table_steps.specs.Sourced.{ImageNamed, named_at}
use Rattle.table_steps.specs.View.{placement_of}
use Rattle.table_steps.specs.Machine.{Standing, KernelRuns, lists_of, kernel_by, image_shown, before_of}
use Rattle.table_steps.specs.New.{fresh_kernel}
use Rattle.machine_state.specs.Fields.{standing_of, RunsNow, RunsInside}
use Rattle.machine_state.specs.Going.{CanGoOn}
use Rattle.machine_state.specs.Beginning.{MayStart, FindsNoPlace, HoldsNone, MayLookFirst, LookedFirst, found_first, MayEnterFirst}
use Rattle.table_steps.proofs.Shows.{sids_shown}
use Rattle.machine_state.proofs.Knowing.{known_of}
use Rattle.machine_state.proofs.Standings.{running, stands_now, whole_now}

-- What is known before.
pub record Before (m : Inside) (pid image : ℕ) : Type 0 where
  pub runs : KernelRuns (kernel_by m.tables m.journal.items m.stopped) (lists_of m.tables) m.tables.book.size
  pub now : RunsNow m
  pub whole : before_of m.tables ≡ m.tables.book.holdings
  pub may : MayStart (standing_of m) pid image

pub before_first : (m : Inside) (s : Standing) (pid image : ℕ) → RunsInside m → standing_of m ≡ s → CanGoOn s → MayStart s pid image → Before m pid image
before_first m s pid image h e g may = record {
  runs = running m s h e g;
  now = stands_now m s h e g.running.runs;
  whole = whole_now m s e g.whole;
  may = subst (λ (x : Standing). MayStart x pid image) (sym e) may;
}

-- the next space has the number of the process
pub same_number : (m : Inside) (pid image : ℕ) → Before m pid image → m.tables.next_sid ≡ m.tables.next_pid
same_number m pid image b = b.now.stands.numbers b.may.empty

pub new_first : (m : Inside) (pid image : ℕ) → Before m pid image → IsNew (placement_of (lists_of m.tables)) m.tables.next_pid
new_first m pid image b =
    subst (IsNew (placement_of (lists_of m.tables))) (same_number m pid image b) (new_number (kernel_by m.tables m.journal.items m.stopped) b.runs.numbered)

-- what is shown of each image has its header
pub shown_facts : (images : List Named) → map (λ (n : ImageNamed). n.facts) (map image_shown images) ≡ map (λ (n : Named). n.facts) images
shown_facts [] = refl
shown_facts (x ∷ xs) = ap (λ (ys : List Image). x.facts ∷ ys) (shown_facts xs)

-- Its pieces may be looked for.

dead_first : (k : Kernel) → AllBelow k.next_pid (map (λ (p : Proc). p.pid) k.processes) → lives k.processes k.next_pid ≡ false
dead_first k below =
    let unused : IsUnused k.processes k.next_pid = absent_none (λ (p : Proc). p.pid) k.next_pid k.processes (below_absent k.next_pid (map (λ (p : Proc). p.pid) k.processes) below) in
    ap lives_in unused

holds_none : (size : ℕ) (alive : ℕ → Bool) (p : Placement) (hs : Holdings) (pid image : ℕ) → OwnsBlocks size alive p hs → IsNew p pid
    → alive pid ≡ false → HoldsNone p hs pid image
holds_none size alive p hs pid image o new dead = record {
  of_data = o.data_held pid ∙ ap (λ (x : Option SpacePages). pieces (2 * length (data_in x))) new ∙ no_pieces (owners.Data pid);
  of_stack = o.stack_held pid ∙ ap (λ (x : Option SpacePages). pieces (2 * length (stack_in x))) new ∙ no_pieces (owners.Stack pid);
  of_u = o.u_held pid ∙ ap (λ (b : Bool). u_pieces (u_blocks b)) dead;
  of_text = λ z. o.text_held image ∙ ap (λ (n : ℕ). text_pieces_while n (2 * length (slots_of p (Text image 0)))) z;
}

pub may_look : (m : Inside) (pid image : ℕ) → Before m pid image → MayLookFirst m.tables pid image
may_look m pid image b =
    let t : Tables = m.tables in
    let k : Kernel = kernel_by t m.journal.items m.stopped in
    let p : Placement = placement_of (lists_of t) in
    record {
      tied = b.runs.tied;
      number = b.may.next ∙ sym (same_number m pid image b);
      above = b.may.above;
      within = (let l = b.may.within in let e = length-map t.images.items image_shown in omega arith);
      none = subst (λ (n : ℕ). HoldsNone p t.book.holdings n image) (sym b.may.next)
          (holds_none t.book.size (lives k.processes) p t.book.holdings t.next_pid image b.runs.sound.owner.blocks (new_first m pid image b) (dead_first k b.runs.numbered.pids_below));
    }

-- Images by name and by facts.

pub record HasFacts (images : List Named) (image : ℕ) (facts : Image) : Type 0 where
  pub named : ImageNamed
  pub is : named_at (map image_shown images) image ≡ Some named
  pub same : named.facts ≡ facts

facts_at : (images : List Named) (place : ℕ) (facts : Image) → slice_get (map (λ (x : Named). x.facts) images) place ≡ Some facts
    → (n : ImageNamed) × (slice_get (map image_shown images) place ≡ Some n) × (n.facts ≡ facts)
facts_at [] place facts e = absurd cc
facts_at (x ∷ images) zero facts e = (image_shown x, refl, same_Some x.facts facts e)
facts_at (x ∷ images) (suc place) facts e = facts_at images place facts e

pub has_facts : (images : List Named) (image : ℕ) (facts : Image) → facts_numbered (map (λ (x : Named). x.facts) images) image ≡ Some facts
    → HasFacts images image facts
has_facts images zero facts e = absurd cc
has_facts images (suc place) facts e = let f = facts_at images place facts e in record { named = f.0; is = f.1; same = f.2 }

-- what was looked for, by the answer
pub looked_by : (t u : Tables) (pid image : ℕ) (fits : Bool) (r : Result Bool NoMemory) (now : Bool) → r ≡ Ok now → now ≡ fits
    → IfOk r (λ b. LookedFirst t u pid image b) → LookedFirst t u pid image fits
looked_by t u pid image fits (Ok b) now e i h = let same : b ≡ now = cc in subst (LookedFirst t u pid image) (same ∙ i) h
looked_by t u pid image fits (Err x) now e i h = absurd cc

-- Where the pieces find no place.

pub looked_none : (t u : Tables) (pid image : ℕ) → LookedFirst t u pid image false → u ≡ t
looked_none t u pid image l = go (found_first t pid image l.facts) l.answer l.book
  where
    go : (x : Result Holdings ℕ) → false ≡ is_ok x → u ≡ record t { book = grown_book t.book x } → u ≡ t
    go (Ok hs) a e = absurd cc
    go (Err n) a e = e

pub runs_none : (m : Inside) (u : Tables) (pid image : ℕ) (stopped : Bool) → Before m pid image → LookedFirst m.tables u pid image false → stopped ≡ m.stopped
    → RunsNow (record m { tables = u; stopped = stopped })
runs_none m u pid image stopped b l same =
    subst (λ (x : Tables). RunsNow (record m { tables = x; stopped = stopped })) (sym (looked_none m.tables u pid image l))
    (subst (λ (x : Bool). RunsNow (record m { stopped = x })) (sym same) b.now)

pub still_none : (m : Inside) (s : Standing) (u : Tables) (pid image : ℕ) (stopped : Bool) → standing_of m ≡ s → LookedFirst m.tables u pid image false
    → stopped ≡ m.stopped → standing_of (record m { tables = u; stopped = stopped }) ≡ s
still_none m s u pid image stopped e l same =
    ap (λ (x : Tables). standing_of (record m { tables = x; stopped = stopped })) (looked_none m.tables u pid image l) ∙ ap (λ (x : Bool). standing_of (record m { stopped = x })) same ∙ e

pub no_place : (m : Inside) (s : Standing) (u : Tables) (pid image : ℕ) → standing_of m ≡ s → Before m pid image
    → LookedFirst m.tables u pid image false → FindsNoPlace s image
no_place m s u pid image e b l =
    let t : Tables = m.tables in
    let p : Placement = placement_of (lists_of t) in
    let f : HasFacts t.images.items image l.facts = has_facts t.images.items image l.facts l.is in
    let none : is_ok (place_all t.params.swap_blocks t.book.holdings (begin_asks p t.next_pid image f.named.facts)) ≡ false =
    ap (λ (x : Image). is_ok (place_all t.params.swap_blocks t.book.holdings (begin_asks p t.next_pid image x))) f.same
    ∙ ap (λ (n : ℕ). is_ok (place_all t.params.swap_blocks t.book.holdings (begin_asks p n image l.facts))) (sym b.may.next)
    ∙ ap (λ (n : ℕ). is_ok (place_all n t.book.holdings (begin_asks p pid image l.facts))) (sym b.now.stands.book)
    ∙ sym l.answer in
    subst (λ (x : Standing). FindsNoPlace x image) e (record { named = f.named; is = f.is; pieces = none })

-- Where they find their places.

pub record FoundFirst (t u : Tables) (pid image : ℕ) : Type 0 where
  pub facts : Image
  pub is : facts_numbered (lists_of t).facts image ≡ Some facts
  pub holdings : Holdings
  pub placed : found_first t pid image facts ≡ Ok holdings
  pub book : u ≡ record t { book = with_holdings t.book holdings }

pub looked_found : (t u : Tables) (pid image : ℕ) → LookedFirst t u pid image true → FoundFirst t u pid image
looked_found t u pid image l = go (found_first t pid image l.facts) refl l.answer l.book
  where
    go : (x : Result Holdings ℕ) → found_first t pid image l.facts ≡ x → true ≡ is_ok x → u ≡ record t { book = grown_book t.book x } → FoundFirst t u pid image
    go (Ok hs) k a e = record { facts = l.facts; is = l.is; holdings = hs; placed = k; book = e }
    go (Err n) k a e = absurd cc

pub may_enter : (m : Inside) (u : Tables) (pid image : ℕ) → Before m pid image → IsCore m.tables.core.free m.tables.core.slots
    → FoundFirst m.tables u pid image → MayEnterFirst u image
may_enter m u pid image b core f =
    let t : Tables = m.tables in
    let may : MayEnterFirst (record t { book = with_holdings t.book f.holdings }) image = record {
      known = known_of m core b.runs;
      below = subst (AllBelow t.next_sid) (sids_shown t.core.slots t.spaces) b.runs.numbered.spaces_below;
      due = b.runs.due;
      above = b.may.above;
      within = (let l = b.may.within in let e = length-map t.images.items image_shown in omega arith);
      named = b.now.stands.named;
      records = b.now.stands.records;
      few = (let l = b.may.few in let e = b.may.next in omega arith);
    } in
    subst (λ (x : Tables). MayEnterFirst x image) (sym f.book) may

pub same_named : (images : List Named) (image : ℕ) (n : ImageNamed) (facts : Image) → named_at (map image_shown images) image ≡ Some n
    → facts_numbered (map (λ (x : Named). x.facts) images) image ≡ Some facts → n.facts ≡ facts
same_named images image n facts e f =
    let h : HasFacts images image facts = has_facts images image facts f in
    ap (λ (x : ImageNamed). x.facts) (same_Some n h.named (sym e ∙ h.is)) ∙ h.same

-- In a machine of one image the first process may begin.
pub may_first : (m : Standing) (images : List Named) (frames : ℕ) (params : Params)
    → m ≡ record {
      kernel = fresh_kernel (map (λ (x : Named). x.facts) images) frames;
      params = params;
      images = map image_shown images;
      before = [];
      room = None;
    }
    → length images ≡ 1 → MayStart m 1 1
may_first m images frames params is one = record {
  empty = ap (λ (x : Standing). x.kernel.journal) is;
  next = sym (ap (λ (x : Standing). x.kernel.next_pid) is);
  few = omega arith;
  above = omega arith;
  within = (let l = ap (λ (x : Standing). length x.images) is in let s = length-map images image_shown in omega (arith, l, s, one));
}
