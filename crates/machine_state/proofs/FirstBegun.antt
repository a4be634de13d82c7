-- Once a first process has begun: the kernel is as the step says, and what holds of a machine that runs holds yet.
use Rattle.std.proofs.Common.{◌≡◌, ◌≢◌, ℕ, ◌+◌, ◌≤◌, Bool, false, List, [], ◌∷◌, ◌++◌, length, map, Some, Ok, refl, sym, ap, ◌∙◌, subst}
use Rattle.vm_facts.specs.declared.page.Page.TheVariants.{Stack}
use Rattle.vm_facts.specs.declared.entry.Entry.{Entry}
use Rattle.vm_facts.specs.declared.params.Params.{Params}
use Rattle.aout_image.specs.declared.Image.{Image}
use Rattle.swap_book.specs.Holdings.{Holdings}
use Rattle.swap_book.specs.Placing.{place_all}
use Rattle.swap_book.specs.Book.{Book, with_holdings}
use Rattle.transfer_ring.specs.declared.transfer.Transfer.{Transfer as Flight}
use Rattle.flat_state.specs.Flat.{start_page, start_regs}
use Rattle.page_model.specs.Placement.{Placement, Residence, image_in, image_of, new_pages}
use Rattle.page_model.specs.Place.{facts_numbered}
use Rattle.table_steps.proofs.PageLawsOwnershipChanges.{added_other}
use Rattle.kernel_model.specs.Kernel.{Kernel, Proc, HoldsSpace}
use Rattle.kernel_model.specs.Asks.{begin_asks}
use Rattle.kernel_model.specs.Start.{begin_place, begin_step}
use Rattle.table_steps.proofs.NumbersApart.{begin_numbered}
use Rattle.table_steps.proofs.KernelLawsSoundBegins.{begin_sound}
use Rattle.table_steps.proofs.KernelLawsKeptBegins.{begins_due}
use Rattle.table_steps.specs.Tables.{Tables}
use Rattle.machine_state.specs.declared.machine.Machine.TheInside.{Inside}
use Rattle.table_steps.specs.Tied.{Tied}
use Rattle.table_steps.specs.Sourced.{ImageNamed, AreNames, named_at, AreSourced}
use Rattle.table_steps.specs.View.{placement_of, frames_of, starts_of}
use Rattle.table_steps.specs.Machine.{Standing, KernelRuns, WereFound, lists_of, kernel_by, images_of, image_at, image_shown, before_of, processes_of, residents_of}
use Rattle.machine_state.specs.Fields.{standing_of, HasRoom, RunsNow}
use Rattle.table_steps.specs.Changing.{EnteredImage, started_place, processes_in, residents_in}
use Rattle.machine_state.specs.Beginning.{StartedFirst, found_first, BeganFirst}
use Rattle.table_steps.proofs.Kernels.{kernel_ext}
use Rattle.table_steps.proofs.Moved.{tied_moved}
use Rattle.machine_state.proofs.FirstBegins.{Before, same_number, new_first, same_named}
use Rattle.machine_state.proofs.HoldingSteps.{begin_keeps}
use Rattle.machine_state.proofs.Standings.{holders_by, all_before, found_none}
use Rattle.machine_state.proofs.AddedRing.{ring_added, beside_ring}

-- It began, with the pieces that were found.
pub record Began (m : Inside) (pid image : ℕ) (facts : Image) (hs : Holdings) (u : Tables) : Type 0 where
  pub before : Before m pid image
  pub is : facts_numbered (lists_of m.tables).facts image ≡ Some facts
  pub placed : found_first m.tables pid image facts ≡ Ok hs
  pub began : BeganFirst (record m.tables { book = with_holdings m.tables.book hs }) u image

-- What is left as it was.
record Left (t u : Tables) (hs : Holdings) : Type 0 where
  params : u.params ≡ t.params
  images : u.images.items ≡ t.images.items
  ring : u.ring ≡ t.ring
  book : u.book ≡ with_holdings t.book hs

left_by : (m : Inside) (pid image : ℕ) (facts : Image) (hs : Holdings) (u : Tables) → Began m pid image facts hs u → Left m.tables u hs
left_by m pid image facts hs u b =
    let e = b.began.entered.rest in
    let o = b.began.one_more.rest in
    record {
      params = ap (λ (x : Tables). x.params) o ∙ ap (λ (x : Tables). x.params) e;
      images = ap (λ (x : Tables). x.images.items) o ∙ ap (λ (x : Tables). x.images.items) e;
      ring = ap (λ (x : Tables). x.ring) o ∙ ap (λ (x : Tables). x.ring) e;
      book = ap (λ (x : Tables). x.book) o ∙ ap (λ (x : Tables). x.book) e;
    }

-- the space with the number of the process
abbrev placed_with : Placement → List Residence → ℕ → ℕ → Image → Placement
placed_with p rs sid image facts = record (started_place p sid image facts) { residents = rs }

began_place : (m : Inside) (pid image : ℕ) (facts : Image) (hs : Holdings) (u : Tables) (b : Began m pid image facts hs u)
    → placement_of (lists_of u) ≡ begin_place (placement_of (lists_of m.tables)) m.tables.next_pid image b.began.named.facts
began_place m pid image facts hs u b =
    let t : Tables = m.tables in
    let p : Placement = placement_of (lists_of t) in
    let n : Tables = b.began.entered_in in
    let e : EnteredImage (record t { book = with_holdings t.book hs }) n image b.began.named.facts (start_page (b.began.named.name ∷ [])) = b.began.entered in
    let rs : List Residence = residents_of u.processes u.next_pid in
    let last : List Residence → ℕ → List Residence = λ xs k. xs ++ record { pid = k; out = false; since = 0 } ∷ [] in
    let before : residents_in n ≡ residents_in t =
    ap (λ (x : Tables). residents_of x.processes x.next_pid) e.rest in
    let next : n.next_pid ≡ t.next_pid = ap (λ (x : Tables). x.next_pid) e.rest in
    let residents : rs ≡ last (residents_in t) t.next_pid =
    b.began.one_more.residents ∙ ap (λ (xs : List Residence). last xs n.next_pid) before ∙ ap (last (residents_in t)) next in
    ap placement_of (ap lists_of b.began.one_more.rest)
    ∙ ap (λ (x : Placement). record x { residents = rs }) e.shows.place
    ∙ ap (λ (xs : List Residence). placed_with p xs t.next_sid image b.began.named.facts) residents
    ∙ ap (λ (k : ℕ). placed_with p (last (residents_in t) t.next_pid) k image b.began.named.facts) (same_number m pid image b.before)

began_kernel : (m : Inside) (pid image : ℕ) (facts : Image) (hs : Holdings) (u : Tables) (b : Began m pid image facts hs u) (j : List Entry) (s : Bool)
    → kernel_by u j s ≡ begin_step (kernel_by m.tables j s) hs image b.began.named.name b.began.named.facts
began_kernel m pid image facts hs u b j s =
    let t : Tables = m.tables in
    let n : Tables = b.began.entered_in in
    let named : ImageNamed = b.began.named in
    let e : EnteredImage (record t { book = with_holdings t.book hs }) n image named.facts (start_page (named.name ∷ [])) = b.began.entered in
    let o = b.began.one_more in
    let number : t.next_sid ≡ t.next_pid = same_number m pid image b.before in
    let regs = start_regs named.facts.entry (named.name ∷ []) in
    let one : ℕ → Proc = λ sid. record { pid = t.next_pid; parent = 0; regs = regs; life = HoldsSpace sid; asleep = false } in
    let before : processes_in n ≡ processes_in t = ap (λ (x : Tables). processes_of x.processes x.next_pid) e.rest in
    kernel_ext (kernel_by u j s) (begin_step (kernel_by t j s) hs image named.name named.facts)
    (began_place m pid image facts hs u b)
    (ap (λ (x : Book). x.holdings) (left_by m pid image facts hs u b).book)
    (o.processes ∙ ap (λ (ps : List Proc). ps ++ one t.next_sid ∷ []) before ∙ ap (λ (sid : ℕ). processes_in t ++ one sid ∷ []) number)
    (o.number ∙ ap (λ (x : Tables). x.next_pid + 1) e.rest)
    (ap (λ (x : Tables). x.next_sid) o.rest ∙ e.number)
    (ap (λ (x : Tables). starts_of x.fills.items) o.rest ∙ e.starts
    ∙ ap (λ (sid : ℕ). starts_of t.fills.items ++ record { page = Stack sid 0; bytes = start_page (named.name ∷ []) } ∷ []) number)
    (ap frames_of (ap lists_of o.rest) ∙ e.shows.frames)
    refl
    refl

module _ (m : Inside) (pid image : ℕ) (facts : Image) (hs : Holdings) (u : Tables) where
  -- the pieces are those of the step
  began_pieces : (b : Began m pid image facts hs u)
      → place_all m.tables.book.size m.tables.book.holdings (begin_asks (placement_of (lists_of m.tables)) m.tables.next_pid image b.began.named.facts) ≡ Ok hs
  began_pieces b =
      let t : Tables = m.tables in
      let p : Placement = placement_of (lists_of t) in
      ap (λ (x : Image). place_all t.book.size t.book.holdings (begin_asks p t.next_pid image x)) (same_named t.images.items image b.began.named facts b.began.is b.is)
      ∙ ap (λ (n : ℕ). place_all t.book.size t.book.holdings (begin_asks p n image facts)) (sym b.before.may.next)
      ∙ b.placed

  -- The invariant.

  began_runs : (b : Began m pid image facts hs u) (s : Bool) → s ≡ m.stopped → KernelRuns (kernel_by u m.journal.items s) (lists_of u) m.tables.book.size
  began_runs b s same =
      let t : Tables = m.tables in
      let k : Kernel = kernel_by t m.journal.items m.stopped in
      let size : ℕ = t.book.size in
      let named : ImageNamed = b.began.named in
      let number : t.next_sid ≡ t.next_pid = same_number m pid image b.before in
      let r : KernelRuns k (lists_of t) size = b.before.runs in
      let tied : Tied (lists_of u) =
      subst Tied (sym (ap lists_of b.began.one_more.rest)) (tied_moved (lists_of b.began.entered_in) (residents_of u.processes u.next_pid) b.began.entered.shows.known.tied) in
      let runs : KernelRuns (begin_step k hs image named.name named.facts) (lists_of u) size = record {
        sound = begin_sound size k hs image named.name named.facts r.sound r.numbered number (began_pieces b);
        numbered = begin_numbered k hs image named.name named.facts number r.numbered;
        due = begins_due k hs image named.name named.facts r.numbered number r.due;
        tied = tied;
      } in
      subst (λ (x : Bool). KernelRuns (kernel_by u m.journal.items x) (lists_of u) size) (sym same)
      (subst (λ (x : Kernel). KernelRuns x (lists_of u) size) (sym (began_kernel m pid image facts hs u b m.journal.items m.stopped)) runs)

  -- spaces have the images that they had
  began_images : (b : Began m pid image facts hs u) (sid : ℕ) → sid ≢ m.tables.next_pid → image_at u sid ≡ image_at m.tables sid
  began_images b sid d =
      ap (λ (p : Placement). image_of p sid) (began_place m pid image facts hs u b)
      ∙ ap image_in (added_other sid (placement_of (lists_of m.tables)).spaces (new_pages m.tables.next_pid image b.began.named.facts) (λ e. d (sym e)))

  began_ring : (b : Began m pid image facts hs u) → AreSourced (images_of m.tables) (image_at u) hs m.tables.book.size m.tables.ring
  began_ring b =
      let t : Tables = m.tables in
      let p : Placement = placement_of (lists_of t) in
      ring_added (images_of t) (image_at t) (image_at u) t.book.size t.next_pid t.book.holdings hs
      (begin_asks p t.next_pid image b.began.named.facts) (began_pieces b) (began_images b) t.ring
      (beside_ring p t.next_pid (new_first m pid image b.before) t.ring b.before.runs.sound.owner.frames.moves)
      (subst (λ (xs : Holdings). AreSourced (images_of t) (image_at t) xs t.book.size t.ring) b.before.whole b.before.now.stands.ring)

-- the machine with these tables, where no piece waits for an entry
abbrev pub begun : Inside → Tables → Bool → Inside
begun m u stopped = record m { tables = record u { found = 0 }; stopped = stopped }

pub began_stands : (m : Inside) (pid image : ℕ) (facts : Image) (hs : Holdings) (u : Tables) (b : Began m pid image facts hs u) (s : Bool)
    → s ≡ m.stopped → RunsNow (begun m u s)
began_stands m pid image facts hs u b s same =
    let t : Tables = m.tables in
    let w : Tables = record u { found = 0 } in
    let l : Left t u hs = left_by m pid image facts hs u b in
    let holdings : u.book.holdings ≡ hs = ap (λ (x : Book). x.holdings) l.book in
    let size : u.book.size ≡ t.book.size = ap (λ (x : Book). x.size) l.book in
    let whole : before_of w ≡ u.book.holdings = all_before u.book.holdings in
    let images : images_of w ≡ images_of t = ap (map image_shown) l.images in
    let n : RunsNow m = b.before.now in
    let o = b.began.one_more in
    record {
      stands = record {
        runs =
            subst (λ (xs : Holdings). KernelRuns (record (kernel_by w m.journal.items s) { holdings = xs }) (lists_of w) w.book.size) (sym whole)
            (subst (λ (x : ℕ). KernelRuns (kernel_by u m.journal.items s) (lists_of u) x) (sym size) (began_runs m pid image facts hs u b s same));
        ring =
            subst (λ (ns : List ImageNamed). AreSourced ns (image_at w) (before_of w) w.book.size w.ring) (sym images)
            (subst (λ (xs : Holdings). AreSourced (images_of t) (image_at w) xs w.book.size w.ring) (sym (whole ∙ holdings))
            (subst (λ (x : ℕ). AreSourced (images_of t) (image_at u) hs x u.ring) (sym size)
            (subst (λ (ts : List Flight). AreSourced (images_of t) (image_at u) hs t.book.size ts) (sym l.ring) (began_ring m pid image facts hs u b))));
        within = subst (λ (x : Params). length m.journal.items ≤ x.journal) (sym l.params) n.stands.within;
        book = size ∙ n.stands.book ∙ sym (ap (λ (x : Params). x.swap_blocks) l.params);
        found = subst (λ (xs : Holdings). WereFound w.book.size xs w.book.holdings) (sym whole) (found_none w.book.size w.book.holdings);
        records = o.records;
        named = subst AreNames (sym images) n.stands.named;
        numbers = λ e.
            ap (λ (x : Tables). x.next_sid) o.rest ∙ b.began.entered.number ∙ ap (λ (k : ℕ). k + 1) (same_number m pid image b.before)
            ∙ sym (o.number ∙ ap (λ (x : Tables). x.next_pid + 1) b.began.entered.rest);
      };
      holders = holders_by t w m.journal.items m.journal.items m.stopped m.stopped _ (began_kernel m pid image facts hs u b m.journal.items m.stopped)
          (begin_keeps (kernel_by t m.journal.items m.stopped) hs image b.began.named.name b.began.named.facts (same_number m pid image b.before) b.before.runs.numbered) n.holders;
      none_lost = n.none_lost;
      room = subst (λ (x : Params). HasRoom m.room m.journal x.journal) (sym l.params) n.room;
    }

-- What it is.

pub began_first : (m : Inside) (v : Standing) (pid image : ℕ) (facts : Image) (hs : Holdings) (u : Tables) (b : Began m pid image facts hs u) (s : Bool)
    → s ≡ m.stopped → standing_of m ≡ v → StartedFirst v (standing_of (begun m u s)) image
began_first m v pid image facts hs u b s same e =
    let t : Tables = m.tables in
    let w : Tables = record u { found = 0 } in
    let l : Left t u hs = left_by m pid image facts hs u b in
    let named : ImageNamed = b.began.named in
    let p : Placement = placement_of (lists_of t) in
    let k : Kernel = begin_step (kernel_by t m.journal.items m.stopped) hs image named.name named.facts in
    let kernel : kernel_by w m.journal.items s ≡ k =
    ap (λ (x : Bool). kernel_by u m.journal.items x) same ∙ began_kernel m pid image facts hs u b m.journal.items m.stopped in
    let holdings : before_of w ≡ hs = all_before u.book.holdings ∙ ap (λ (x : Book). x.holdings) l.book in
    let step : standing_of (begun m u s) ≡ record (standing_of m) { kernel = k; before = hs } =
    ap (λ (x : Kernel). let z : Standing = record { kernel = x; params = w.params; images = images_of w; before = before_of w; room = m.room } in z) kernel
    ∙ ap (λ (x : Params). let z : Standing = record { kernel = k; params = x; images = images_of w; before = before_of w; room = m.room } in z) l.params
    ∙ ap (λ (x : List ImageNamed). let z : Standing = record { kernel = k; params = t.params; images = x; before = before_of w; room = m.room } in z) (ap (map image_shown) l.images)
    ∙ ap (λ (x : Holdings). let z : Standing = record { kernel = k; params = t.params; images = images_of t; before = x; room = m.room } in z) holdings in
    let pieces : place_all t.params.swap_blocks t.book.holdings (begin_asks p t.next_pid image named.facts) ≡ Ok hs =
    ap (λ (n : ℕ). place_all n t.book.holdings (begin_asks p t.next_pid image named.facts)) (sym b.before.now.stands.book) ∙ began_pieces m pid image facts hs u b in
    let is : named_at (images_of t) image ≡ Some named = b.began.is in
    subst (λ (x : Standing). StartedFirst x (standing_of (begun m u s)) image) e (record { named = named; is = is; found = hs; pieces = pieces; step = step })
