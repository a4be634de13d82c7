-- What a change leaves, from what the calls for its space and for its process leave.
use Rattle.std.proofs.Common.{◌≡◌, ◌≢◌, ℕ, ◌+◌, ◌==◌, true, false, not, List, [], ◌∷◌, ◌++◌, map, filter, Some}
use Rattle.std.proofs.Common.{refl, sym, ap, ◌∙◌, subst}
use Rattle.vm_facts.specs.declared.page.Page.TheVariants.{Stack}
use Rattle.aout_image.specs.declared.Image.{Image}
use Rattle.swap_book.specs.declared.Owner.TheVariants as owners
use Rattle.swap_book.specs.Holdings.{kept}
use Rattle.swap_book.specs.Book.{Book, with_holdings}
use Rattle.flat_state.specs.declared.change.Change.{Change}
use Rattle.flat_state.specs.declared.change.Change.TheVariants.{Keep, Resize, Fork, Lend, Exec, Reap, Sleep, End}
use Rattle.page_model.specs.Placement.{Placement, Residence, Due, Start, image_of, image_in, sharers, new_pages}
use Rattle.page_model.specs.Place.{place_change, facts_numbered, enter_image, resize, give_up}
use Rattle.page_laws.proofs.Ownership.Changes.{added_other}
use Rattle.kernel_model.specs.Kernel.{Proc, Life, New, HoldsSpace}
use Rattle.kernel_model.specs.ChangeStep.{space_of_life, with_proc, without_proc, child_proc, orphaned_procs, left_procs}
use Rattle.kernel_model.specs.ChangeStep.{procs_after, space_given_back, holdings_after}
use Rattle.kernel_tables.specs.declared.tables.Tables.{Tables}
use Rattle.kernel_tables.specs.Alike.{AreRecords}
use Rattle.kernel_tables.specs.View.{Lists, due_shown, starts_of, placement_of, frames_of}
use Rattle.kernel_tables.specs.Tied.{Tied}
use Rattle.kernel_tables.specs.Machine.{lists_of, image_at}
use Rattle.kernel_tables.specs.Changing.{Resized, GaveUp, started_place, EnteredImage, Forked, HasProcesses, HasOneMore, HasChanged}
use Rattle.kernel_tables.specs.Changing.{HasEnded, processes_in, residents_in}
use Rattle.table_steps.specs.Applied.{changing_tables, placement_in, Applied}
use Rattle.table_steps.proofs.ProcessLists.{OnlyOne, with_self, without_self}
use Rattle.table_steps.proofs.Moved.{tied_moved}

-- What other records leave.
module _ (v u : Tables) (next : ℕ) (ps : List Proc) (rs : List Residence) (h : HasProcesses v u next ps rs) where
  procs_lists : lists_of u ≡ record (lists_of v) { residents = rs }
  procs_lists =
      ap lists_of h.rest
      ∙ ap (λ (xs : List Residence). let x : Lists = record (lists_of v) { residents = xs } in x) h.residents

  procs_place : placement_in u ≡ record (placement_in v) { residents = rs }
  procs_place = ap placement_of procs_lists

  procs_frames : frames_of (lists_of u) ≡ frames_of (lists_of v)
  procs_frames = ap frames_of procs_lists

  procs_tied : Tied (lists_of v) → Tied (lists_of u)
  procs_tied t = subst Tied (sym procs_lists) (tied_moved (lists_of v) rs t)

-- No space comes or goes.

-- a change that leaves spaces and pieces alone
abbrev IsOfRecords : Change → Type 0
IsOfRecords Keep = Unit {0}
IsOfRecords Sleep = Unit {0}
IsOfRecords (Reap child) = Unit {0}
IsOfRecords _ = ⊥

records_applied : (t u : Tables) (p : Proc) (since : ℕ) (change : Change) → IsOfRecords change → Tied (lists_of t)
    → HasProcesses t u t.next_pid (procs_after (processes_in t) p t.next_sid change) (residents_in t) → Applied t u p since change
records_applied t u p since Keep k tied h = record {
  place = procs_place t u t.next_pid (with_proc (processes_in t) p) (residents_in t) h;
  frames = procs_frames t u t.next_pid (with_proc (processes_in t) p) (residents_in t) h;
  tied = procs_tied t u t.next_pid (with_proc (processes_in t) p) (residents_in t) h tied;
  book = ap (λ (x : Tables). x.book) h.rest;
  processes = h.processes;
  records = h.records;
  next_pid = h.number;
  next_sid = ap (λ (x : Tables). x.next_sid) h.rest;
  starts = ap (λ (x : Tables). starts_of x.fills.items) h.rest;
  params = ap (λ (x : Tables). x.params) h.rest;
  images = ap (λ (x : Tables). x.images) h.rest;
  ring = ap (λ (x : Tables). x.ring) h.rest;
}
records_applied t u p since Sleep k tied h = record {
  place = procs_place t u t.next_pid (with_proc (processes_in t) record p { asleep = true }) (residents_in t) h;
  frames = procs_frames t u t.next_pid (with_proc (processes_in t) record p { asleep = true }) (residents_in t) h;
  tied = procs_tied t u t.next_pid (with_proc (processes_in t) record p { asleep = true }) (residents_in t) h tied;
  book = ap (λ (x : Tables). x.book) h.rest;
  processes = h.processes;
  records = h.records;
  next_pid = h.number;
  next_sid = ap (λ (x : Tables). x.next_sid) h.rest;
  starts = ap (λ (x : Tables). starts_of x.fills.items) h.rest;
  params = ap (λ (x : Tables). x.params) h.rest;
  images = ap (λ (x : Tables). x.images) h.rest;
  ring = ap (λ (x : Tables). x.ring) h.rest;
}
records_applied t u p since (Reap child) k tied h = record {
  place = procs_place t u t.next_pid (with_proc (without_proc (processes_in t) child) p) (residents_in t) h;
  frames = procs_frames t u t.next_pid (with_proc (without_proc (processes_in t) child) p) (residents_in t) h;
  tied = procs_tied t u t.next_pid (with_proc (without_proc (processes_in t) child) p) (residents_in t) h tied;
  book = ap (λ (x : Tables). x.book) h.rest;
  processes = h.processes;
  records = h.records;
  next_pid = h.number;
  next_sid = ap (λ (x : Tables). x.next_sid) h.rest;
  starts = ap (λ (x : Tables). starts_of x.fills.items) h.rest;
  params = ap (λ (x : Tables). x.params) h.rest;
  images = ap (λ (x : Tables). x.images) h.rest;
  ring = ap (λ (x : Tables). x.ring) h.rest;
}
records_applied t u p since _ k tied h = absurd k

-- the tables as they are
itself : (t : Tables) (ps : List Proc) → ps ≡ processes_in t → AreRecords t.processes t.next_pid
    → HasProcesses t t t.next_pid ps (residents_in t)
itself t ps e r = record { number = refl; processes = sym e; residents = refl; records = r; rest = refl }

pub keep_applied : (t : Tables) (p : Proc) (since : ℕ) → OnlyOne p (processes_in t) → AreRecords t.processes t.next_pid → Tied (lists_of t)
    → Applied t t p since Keep
keep_applied t p since o r tied = records_applied t t p since Keep tt tied (itself t (with_proc (processes_in t) p) (with_self (processes_in t) p o) r)

pub sleep_applied : (t u : Tables) (p : Proc) (since : ℕ) → Tied (lists_of t) → HasChanged t u (record p { asleep = true })
    → Applied t u p since Sleep
sleep_applied t u p since tied h = records_applied t u p since Sleep tt tied h

pub reap_applied : (t u : Tables) (p : Proc) (since child : ℕ) → OnlyOne p (processes_in t) → Tied (lists_of t)
    → HasProcesses t u t.next_pid (without_proc (processes_in t) child) (residents_in t) → Applied t u p since (Reap child)
reap_applied t u p since child o tied h = records_applied t u p since (Reap child) tt tied
    (subst (λ (ps : List Proc). HasProcesses t u t.next_pid ps (residents_in t)) (sym (without_self (processes_in t) p child o)) h)

pub lend_applied : (t u : Tables) (p : Proc) (since child : ℕ) → child ≡ t.next_pid → OnlyOne p (processes_in t) → Tied (lists_of t)
    → HasOneMore t u (child_proc p t.next_pid New) since → Applied t u p since (Lend child)
lend_applied t u p since child e o tied h = subst (λ (c : ℕ). Applied t u p since (Lend c)) (sym e) (record {
  place = procs_place t u (t.next_pid + 1) (processes_in t ++ child_proc p t.next_pid New ∷ []) (residents_in t ++ record { pid = t.next_pid; out = false; since = since } ∷ []) h;
  frames = procs_frames t u (t.next_pid + 1) (processes_in t ++ child_proc p t.next_pid New ∷ []) (residents_in t ++ record { pid = t.next_pid; out = false; since = since } ∷ []) h;
  tied = procs_tied t u (t.next_pid + 1) (processes_in t ++ child_proc p t.next_pid New ∷ []) (residents_in t ++ record { pid = t.next_pid; out = false; since = since } ∷ []) h tied;
  book = ap (λ (x : Tables). x.book) h.rest;
  processes = h.processes ∙ ap (λ (ps : List Proc). ps ++ child_proc p t.next_pid New ∷ []) (sym (with_self (processes_in t) p o));
  records = h.records;
  next_pid = h.number;
  next_sid = ap (λ (x : Tables). x.next_sid) h.rest;
  starts = ap (λ (x : Tables). starts_of x.fills.items) h.rest;
  params = ap (λ (x : Tables). x.params) h.rest;
  images = ap (λ (x : Tables). x.images) h.rest;
  ring = ap (λ (x : Tables). x.ring) h.rest;
})

-- Other sizes.

pub resize_applied : (t u : Tables) (p : Proc) (since sid d s : ℕ) → p.life ≡ HoldsSpace sid → OnlyOne p (processes_in t)
    → AreRecords t.processes t.next_pid → Resized t u sid d s → Applied t u p since (Resize d s)
resize_applied t u p since sid d s life o r z = record {
  place = z.shows.place ∙ ap (λ (l : Life). resize (placement_in t) (space_of_life l) d s) (sym life);
  frames = z.shows.frames;
  tied = z.shows.known.tied;
  book = z.book ∙ ap (λ (l : Life). with_holdings t.book (holdings_after (changing_tables t (record p { life = l }) since) t.book.holdings (placement_in t) (placement_in u) (Resize d s))) (sym life);
  processes = ap processes_in z.rest ∙ sym (with_self (processes_in t) p o);
  records = subst (λ (x : Tables). AreRecords x.processes x.next_pid) (sym z.rest) r;
  next_pid = ap (λ (x : Tables). x.next_pid) z.rest;
  next_sid = ap (λ (x : Tables). x.next_sid) z.rest;
  starts = ap (λ (x : Tables). starts_of x.fills.items) z.rest;
  params = ap (λ (x : Tables). x.params) z.rest;
  images = ap (λ (x : Tables). x.images) z.rest;
  ring = ap (λ (x : Tables). x.ring) z.rest;
}

-- A child with a copy of the space.

pub fork_applied : (t v u : Tables) (p : Proc) (since parent : ℕ) → p.life ≡ HoldsSpace parent → OnlyOne p (processes_in t)
    → t.fills.items ≡ [] → Forked t v parent
    → HasOneMore v u (child_proc p v.next_pid (HoldsSpace t.next_sid)) since → Applied t u p since (Fork t.next_pid)
fork_applied t v u p since parent life o clear f h =
    let pid_same : v.next_pid ≡ t.next_pid = ap (λ (x : Tables). x.next_pid) f.rest in
    record {
      place =
          procs_place v u (v.next_pid + 1) (processes_in v ++ child_proc p v.next_pid (HoldsSpace t.next_sid) ∷ []) (residents_in v ++ record { pid = v.next_pid; out = false; since = since } ∷ []) h
          ∙ ap (λ (n : ℕ). record (placement_in v) { residents = (placement_in v).residents ++ record { pid = n; out = false; since = since } ∷ [] }) pid_same
          ∙ ap (λ (q : Placement). record q { residents = q.residents ++ record { pid = t.next_pid; out = false; since = since } ∷ [] }) f.shows.place
          ∙ ap (λ (l : Life). place_change (changing_tables t (record p { life = l }) since) (placement_in t) (Fork t.next_pid)) (sym life);
      frames = procs_frames v u (v.next_pid + 1) (processes_in v ++ child_proc p v.next_pid (HoldsSpace t.next_sid) ∷ [])
          (residents_in v ++ record { pid = v.next_pid; out = false; since = since } ∷ []) h ∙ f.shows.frames;
      tied = procs_tied v u (v.next_pid + 1) (processes_in v ++ child_proc p v.next_pid (HoldsSpace t.next_sid) ∷ [])
          (residents_in v ++ record { pid = v.next_pid; out = false; since = since } ∷ []) h f.shows.known.tied;
      book = ap (λ (x : Tables). x.book) h.rest ∙ ap (λ (x : Tables). x.book) f.rest;
      processes = h.processes ∙ ap (λ (ps : List Proc). ps ++ child_proc p v.next_pid (HoldsSpace t.next_sid) ∷ []) (ap processes_in f.rest ∙ sym (with_self (processes_in t) p o))
          ∙ ap (λ (n : ℕ). with_proc (processes_in t) p ++ child_proc p n (HoldsSpace t.next_sid) ∷ []) pid_same;
      records = h.records;
      next_pid = h.number ∙ ap (λ (n : ℕ). n + 1) pid_same;
      next_sid = ap (λ (x : Tables). x.next_sid) h.rest ∙ f.number;
      starts = ap (λ (x : Tables). starts_of x.fills.items) h.rest ∙ f.starts ∙ sym (ap starts_of clear);
      params = ap (λ (x : Tables). x.params) h.rest ∙ ap (λ (x : Tables). x.params) f.rest;
      images = ap (λ (x : Tables). x.images) h.rest ∙ ap (λ (x : Tables). x.images) f.rest;
      ring = ap (λ (x : Tables). x.ring) h.rest ∙ ap (λ (x : Tables). x.ring) f.rest;
    }

-- A new space, and the old one goes.

-- what enters is the placement's new space, where nothing was due
pub entered_place : (t : Tables) (image : ℕ) (facts : Image) → t.fills.items ≡ [] → facts_numbered (lists_of t).facts image ≡ Some facts
    → started_place (placement_in t) t.next_sid image facts ≡ enter_image (placement_in t) t.next_sid image (facts_numbered (lists_of t).facts image)
entered_place t image facts clear e =
    let with_due : List Due → Placement = λ ds. record (placement_in t) { spaces = (placement_in t).spaces ++ new_pages t.next_sid image facts ∷ []; due = ds } in
    ap (λ (ds : List Due). with_due (ds ++ Start (Stack t.next_sid 0) ∷ [])) (ap (map due_shown) clear)
    ∙ ap (enter_image (placement_in t) t.next_sid image) (sym e)

module _ (t v w u : Tables) (p : Proc) (since image : ℕ) (facts : Image) (top : List ℕ) (o : OnlyOne p (processes_in t)) (clear : t.fills.items ≡ [])
    (known : facts_numbered (lists_of t).facts image ≡ Some facts) (e : EnteredImage t v image facts top) where
  entered : placement_in v ≡ enter_image (placement_in t) t.next_sid image (facts_numbered (lists_of t).facts image)
  entered = e.shows.place ∙ entered_place t image facts clear known

  -- the process had none
  pub exec_new : p.life ≡ New → HasChanged v u (record p { life = HoldsSpace t.next_sid }) → Applied t u p since (Exec image top)
  exec_new life h = record {
    place =
        procs_place v u v.next_pid (with_proc (processes_in v) record p { life = HoldsSpace t.next_sid }) (residents_in v) h
        ∙ entered
        ∙ ap (λ (l : Life). place_change (changing_tables t (record p { life = l }) since) (placement_in t) (Exec image top)) (sym life);
    frames = procs_frames v u v.next_pid (with_proc (processes_in v) record p { life = HoldsSpace t.next_sid }) (residents_in v) h ∙ e.shows.frames;
    tied = procs_tied v u v.next_pid (with_proc (processes_in v) record p { life = HoldsSpace t.next_sid }) (residents_in v) h e.shows.known.tied;
    book = ap (λ (x : Tables). x.book) h.rest ∙ ap (λ (x : Tables). x.book) e.rest
        ∙ ap (λ (l : Life). with_holdings t.book (holdings_after (changing_tables t (record p { life = l }) since) t.book.holdings (placement_in t) (placement_in u) (Exec image top))) (sym life);
    processes = h.processes ∙ ap (λ (x : Tables). with_proc (processes_in x) record p { life = HoldsSpace t.next_sid }) e.rest;
    records = h.records;
    next_pid = h.number ∙ ap (λ (x : Tables). x.next_pid) e.rest;
    next_sid = ap (λ (x : Tables). x.next_sid) h.rest ∙ e.number;
    starts = ap (λ (x : Tables). starts_of x.fills.items) h.rest ∙ e.starts;
    params = ap (λ (x : Tables). x.params) h.rest ∙ ap (λ (x : Tables). x.params) e.rest;
    images = ap (λ (x : Tables). x.images) h.rest ∙ ap (λ (x : Tables). x.images) e.rest;
    ring = ap (λ (x : Tables). x.ring) h.rest ∙ ap (λ (x : Tables). x.ring) e.rest;
  }

  -- or it left it
  pub exec_held : (sid : ℕ) → p.life ≡ HoldsSpace sid → t.next_sid ≢ sid → GaveUp v w sid
      → HasChanged w u (record p { life = HoldsSpace t.next_sid }) → Applied t u p since (Exec image top)
  exec_held sid life d g h =
      let now : placement_in u ≡ placement_in w = procs_place w u w.next_pid (with_proc (processes_in w) record p { life = HoldsSpace t.next_sid }) (residents_in w) h in
      let image_same : image_at v sid ≡ image_at t sid =
      ap (λ (q : Placement). image_of q sid) e.shows.place ∙ ap image_in (added_other sid (placement_in t).spaces (new_pages t.next_sid image facts) d) in
      record {
        place =
            now
            ∙ g.shows.place
            ∙ ap (λ (q : Placement). give_up q sid) entered
            ∙ ap (λ (l : Life). place_change (changing_tables t (record p { life = l }) since) (placement_in t) (Exec image top)) (sym life);
        frames = procs_frames w u w.next_pid (with_proc (processes_in w) record p { life = HoldsSpace t.next_sid }) (residents_in w) h ∙ g.shows.frames ∙ e.shows.frames;
        tied = procs_tied w u w.next_pid (with_proc (processes_in w) record p { life = HoldsSpace t.next_sid }) (residents_in w) h g.shows.known.tied;
        book = ap (λ (x : Tables). x.book) h.rest ∙ g.book
            ∙ ap (λ (x : Tables). with_holdings x.book (space_given_back x.book.holdings sid (image_at v sid) (sharers (placement_in w) (image_at v sid)))) e.rest
            ∙ ap (λ (i : ℕ). with_holdings t.book (space_given_back t.book.holdings sid i (sharers (placement_in w) i))) image_same
            ∙ ap (λ (q : Placement). with_holdings t.book (space_given_back t.book.holdings sid (image_at t sid) (sharers q (image_at t sid)))) (sym now)
            ∙ ap (λ (l : Life). with_holdings t.book (holdings_after (changing_tables t (record p { life = l }) since) t.book.holdings (placement_in t) (placement_in u) (Exec image top))) (sym life);
        processes = h.processes ∙ ap (λ (x : Tables). with_proc (processes_in x) record p { life = HoldsSpace t.next_sid }) g.rest
            ∙ ap (λ (x : Tables). with_proc (processes_in x) record p { life = HoldsSpace t.next_sid }) e.rest;
        records = h.records;
        next_pid = h.number ∙ ap (λ (x : Tables). x.next_pid) g.rest ∙ ap (λ (x : Tables). x.next_pid) e.rest;
        next_sid = ap (λ (x : Tables). x.next_sid) h.rest ∙ ap (λ (x : Tables). x.next_sid) g.rest ∙ e.number;
        starts = ap (λ (x : Tables). starts_of x.fills.items) h.rest ∙ ap (λ (x : Tables). starts_of x.fills.items) g.rest ∙ e.starts;
        params = ap (λ (x : Tables). x.params) h.rest ∙ ap (λ (x : Tables). x.params) g.rest ∙ ap (λ (x : Tables). x.params) e.rest;
        images = ap (λ (x : Tables). x.images) h.rest ∙ ap (λ (x : Tables). x.images) g.rest ∙ ap (λ (x : Tables). x.images) e.rest;
        ring = ap (λ (x : Tables). x.ring) h.rest ∙ ap (λ (x : Tables). x.ring) g.rest ∙ ap (λ (x : Tables). x.ring) e.rest;
      }

-- The end. The u page goes after the space.

abbrev pub without_u : Tables → ℕ → Tables
without_u v pid = record v { book = with_holdings v.book (kept (owners.U pid) 0 v.book.holdings) }

module _ (t v w u : Tables) (p : Proc) (since status : ℕ) (same : w ≡ without_u v p.pid) (h : HasEnded w u p status) where
  abbrev gone : List Proc
  gone = left_procs (p.parent == 0) (orphaned_procs (processes_in w) p.pid) p status

  abbrev staying : List Residence
  staying = filter (λ (r : Residence). not (r.pid == p.pid)) (residents_in w)

  ended_place : placement_in u ≡ record (placement_in v) { residents = filter (λ (r : Residence). not (r.pid == p.pid)) (residents_in v) }
  ended_place =
      procs_place w u w.next_pid gone staying h
      ∙ ap (λ (x : Tables). record (placement_in x) { residents = filter (λ (r : Residence). not (r.pid == p.pid)) (residents_in x) }) same

  ended_frames : frames_of (lists_of u) ≡ frames_of (lists_of v)
  ended_frames = procs_frames w u w.next_pid gone staying h ∙ ap (λ (x : Tables). frames_of (lists_of x)) same

  ended_tied : Tied (lists_of v) → Tied (lists_of u)
  ended_tied k = procs_tied w u w.next_pid gone staying h (subst (λ (x : Tables). Tied (lists_of x)) (sym same) k)

  ended_processes : processes_in u ≡ left_procs (p.parent == 0) (orphaned_procs (processes_in v) p.pid) p status
  ended_processes = h.processes ∙ ap (λ (x : Tables). left_procs (p.parent == 0) (orphaned_procs (processes_in x) p.pid) p status) same

  ended_by : {A : Type 0} (f : Tables → A) → f u ≡ f w → f w ≡ f v → f v ≡ f t → f u ≡ f t
  ended_by f a b c = a ∙ b ∙ c

  -- the process had no space
  pub end_new : p.life ≡ New → v ≡ t → Tied (lists_of t) → Applied t u p since (End status)
  end_new life e k = record {
    place = ended_place ∙ ap (λ (x : Tables). record (placement_in x) { residents = filter (λ (r : Residence). not (r.pid == p.pid)) (residents_in x) }) e
        ∙ ap (λ (l : Life). place_change (changing_tables t (record p { life = l }) since) (placement_in t) (End status)) (sym life);
    frames = ended_frames ∙ ap (λ (x : Tables). frames_of (lists_of x)) e;
    tied = ended_tied (subst (λ (x : Tables). Tied (lists_of x)) (sym e) k);
    book = ap (λ (x : Tables). x.book) h.rest ∙ ap (λ (x : Tables). x.book) same
        ∙ ap (λ (x : Tables). with_holdings x.book (kept (owners.U p.pid) 0 x.book.holdings)) e
        ∙ ap (λ (l : Life). with_holdings t.book (holdings_after (changing_tables t (record p { life = l }) since) t.book.holdings (placement_in t) (placement_in u) (End status))) (sym life);
    processes = ended_processes ∙ ap (λ (x : Tables). left_procs (p.parent == 0) (orphaned_procs (processes_in x) p.pid) p status) e;
    records = h.records;
    next_pid = h.number ∙ ap (λ (x : Tables). x.next_pid) same ∙ ap (λ (x : Tables). x.next_pid) e;
    next_sid = ended_by (λ (x : Tables). x.next_sid) (ap (λ (x : Tables). x.next_sid) h.rest) (ap (λ (x : Tables). x.next_sid) same) (ap (λ (x : Tables). x.next_sid) e);
    starts = ended_by (λ (x : Tables). starts_of x.fills.items) (ap (λ (x : Tables). starts_of x.fills.items) h.rest) (ap (λ (x : Tables). starts_of x.fills.items) same)
        (ap (λ (x : Tables). starts_of x.fills.items) e);
    params = ended_by (λ (x : Tables). x.params) (ap (λ (x : Tables). x.params) h.rest) (ap (λ (x : Tables). x.params) same) (ap (λ (x : Tables). x.params) e);
    images = ap (λ (x : Tables). x.images) h.rest ∙ ap (λ (x : Tables). x.images) same ∙ ap (λ (x : Tables). x.images) e;
    ring = ap (λ (x : Tables). x.ring) h.rest ∙ ap (λ (x : Tables). x.ring) same ∙ ap (λ (x : Tables). x.ring) e;
  }

  -- or it left it
  pub end_held : (sid : ℕ) → p.life ≡ HoldsSpace sid → GaveUp t v sid → Applied t u p since (End status)
  end_held sid life g =
      let sharing : sharers (placement_in u) (image_at t sid) ≡ sharers (placement_in v) (image_at t sid) = ap (λ (q : Placement). sharers q (image_at t sid)) ended_place in
      record {
        place = ended_place ∙ ap (λ (q : Placement). record q { residents = filter (λ (r : Residence). not (r.pid == p.pid)) q.residents }) g.shows.place
            ∙ ap (λ (l : Life). place_change (changing_tables t (record p { life = l }) since) (placement_in t) (End status)) (sym life);
        frames = ended_frames ∙ g.shows.frames;
        tied = ended_tied g.shows.known.tied;
        book = ap (λ (x : Tables). x.book) h.rest ∙ ap (λ (x : Tables). x.book) same
            ∙ ap (λ (x : Book). with_holdings x (kept (owners.U p.pid) 0 x.holdings)) g.book
            ∙ ap (λ (n : ℕ). with_holdings t.book (kept (owners.U p.pid) 0 (space_given_back t.book.holdings sid (image_at t sid) n))) (sym sharing)
            ∙ ap (λ (l : Life). with_holdings t.book (holdings_after (changing_tables t (record p { life = l }) since) t.book.holdings (placement_in t) (placement_in u) (End status))) (sym life);
        processes = ended_processes ∙ ap (λ (x : Tables). left_procs (p.parent == 0) (orphaned_procs (processes_in x) p.pid) p status) g.rest;
        records = h.records;
        next_pid = h.number ∙ ap (λ (x : Tables). x.next_pid) same ∙ ap (λ (x : Tables). x.next_pid) g.rest;
        next_sid = ended_by (λ (x : Tables). x.next_sid) (ap (λ (x : Tables). x.next_sid) h.rest) (ap (λ (x : Tables). x.next_sid) same) (ap (λ (x : Tables). x.next_sid) g.rest);
        starts = ended_by (λ (x : Tables). starts_of x.fills.items) (ap (λ (x : Tables). starts_of x.fills.items) h.rest) (ap (λ (x : Tables). starts_of x.fills.items) same)
            (ap (λ (x : Tables). starts_of x.fills.items) g.rest);
        params = ended_by (λ (x : Tables). x.params) (ap (λ (x : Tables). x.params) h.rest) (ap (λ (x : Tables). x.params) same) (ap (λ (x : Tables). x.params) g.rest);
        images = ap (λ (x : Tables). x.images) h.rest ∙ ap (λ (x : Tables). x.images) same ∙ ap (λ (x : Tables). x.images) g.rest;
        ring = ap (λ (x : Tables). x.ring) h.rest ∙ ap (λ (x : Tables). x.ring) same ∙ ap (λ (x : Tables). x.ring) g.rest;
      }
