-- What a step leaves of a machine that can go on, from what it leaves of the tables and the kernel.
use Rattle.std.proofs.Common.{◌≡◌, ℕ, ◌-◌, ◌≤◌, false, List, length, map, take, Option, None, sym, ap, ◌∙◌, subst, arith}
use Rattle.std.proofs.lemmas.List.{length-map}
use Rattle.vm_facts.specs.declared.params.Params.{Params}
use Rattle.swap_book.specs.Holdings.{Holdings}
use Rattle.swap_book.specs.Book.{Book}
use Rattle.kernel_model.specs.Kernel.{Kernel}
use Rattle.kernel_model.specs.Numbers.{Numbered}
use Rattle.kernel_model.specs.Sound.{Sound}
use Rattle.table_steps.specs.Tables.{Tables}
use Rattle.machine_state.specs.declared.machine.Machine.TheInside.{Inside}
use Rattle.table_steps.specs.Named.{Named}
use Rattle.table_steps.specs.New.{AreSound}
use Rattle.table_steps.specs.Sourced.{ImageNamed, AreNames, AreSourced}
use Rattle.table_steps.specs.Machine.{Standing, KernelRuns, Stands, WereFound, lists_of, kernel_by, images_of, image_at, image_shown, before_of}
use Rattle.table_steps.specs.Alike.{AreRecords}
use Rattle.machine_state.specs.Fields.{standing_of, RunsNow, RunsInside}
use Rattle.machine_state.specs.Going.{IsRunning, CanGoOn}
use Rattle.machine_state.specs.Holders.{HoldersStand}
use Rattle.machine_state.proofs.TextLengths.{texts_stand}
use Rattle.table_steps.proofs.Held.{holds_length}
use Rattle.table_steps.proofs.Stills.{Grown, sourced_still}
use Rattle.machine_state.proofs.FirstBegins.{shown_facts}
use Rattle.machine_state.proofs.Standings.{stands_now, runs_by, whole_now, no_room, holders_by}

-- As its callers see it.

now_running : (m : Inside) → RunsNow m → m.stopped ≡ false → IsRunning (standing_of m)
now_running m now r =
    let t : Tables = m.tables in
    let k : Kernel = record (kernel_by t m.journal.items m.stopped) { holdings = before_of t } in
    let n : Numbered k = now.stands.runs.numbered in
    record {
      runs = r;
      sound = subst (λ (n : ℕ). Sound n k) now.stands.book now.stands.runs.sound;
      numbered = record { spaces_differ = n.spaces_differ; spaces_below = n.spaces_below; pids_differ = n.pids_differ; pids_below = n.pids_below; residents = n.residents };
      due = now.stands.runs.due;
      holders = record { spaces = now.holders.spaces; once = now.holders.once };
      within = now.stands.within;
      frames = (let few = now.stands.runs.tied.few_frames in let size = holds_length (lists_of t) in omega (arith, few, size));
      few_images =
          let few : length (map (λ (n : Named). n.facts) t.images.items) ≤ 16 = now.stands.runs.tied.few_images in
          let facts = length-map t.images.items (λ (n : Named). n.facts) in
          let size = length-map t.images.items image_shown in
          omega (arith, few, facts, size);
      images = subst AreSound (sym (shown_facts t.images.items)) now.stands.runs.tied.sound;
      texts = texts_stand t;
    }

pub is_running : (m : Inside) (s : Standing) → RunsInside m → standing_of m ≡ s → s.kernel.stopped ≡ false → IsRunning s
is_running m s h e r = subst IsRunning e (now_running m (stands_now m s h e r) (runs_by m s e r))

-- a machine of which no pieces wait
pub goes_on : (m : Inside) → RunsInside m → m.stopped ≡ false → before_of m.tables ≡ m.tables.book.holdings → CanGoOn (standing_of m)
goes_on m h r w = record { running = now_running m (h.running r) r; whole = w }

-- what no step but those that make and end processes changes
pub record Kept (t w : Tables) : Type 0 where
  pub params : w.params ≡ t.params
  pub images : w.images.items ≡ t.images.items
  pub book : w.book ≡ t.book
  pub found : w.found ≡ t.found
  pub next_pid : w.next_pid ≡ t.next_pid
  pub next_sid : w.next_sid ≡ t.next_sid
  pub records : AreRecords w.processes w.next_pid

-- Such a step: what it leaves of the machine, with this kernel.
pub record Steps (m n : Inside) (k : Kernel) : Type 0 where
  pub kept : Kept m.tables n.tables
  pub is : kernel_by n.tables n.journal.items n.stopped ≡ k
  pub runs : KernelRuns k (lists_of n.tables) m.tables.book.size
  pub ring : AreSourced (images_of m.tables) (image_at m.tables) (before_of m.tables) m.tables.book.size n.tables.ring
  pub images : (sid : ℕ) → image_at n.tables sid ≡ image_at m.tables sid
  pub holders : HoldersStand (kernel_by m.tables m.journal.items m.stopped) → HoldersStand k
  pub grown : Grown m.journal.items n.journal.items m.tables.params.journal
  pub stopped : n.stopped ≡ m.stopped
  pub lost : n.lost ≡ m.lost
  pub room : n.room ≡ None

-- where no transfer begins or ends
pub same_ring : (m : Inside) (w : Tables) → RunsNow m → w.ring ≡ m.tables.ring
    → AreSourced (images_of m.tables) (image_at m.tables) (before_of m.tables) m.tables.book.size w.ring
same_ring m w now e = subst (AreSourced (images_of m.tables) (image_at m.tables) (before_of m.tables) m.tables.book.size) (sym e) now.stands.ring

module _ (m n : Inside) (s : Standing) (k : Kernel) (h : RunsInside m) (e : standing_of m ≡ s) (g : CanGoOn s) (z : Steps m n k) where
  was : RunsNow m
  was = stands_now m s h e g.running.runs

  images : images_of n.tables ≡ images_of m.tables
  images = ap (map image_shown) z.kept.images

  before : before_of n.tables ≡ before_of m.tables
  before =
      ap (λ (b : Book). take (length b.holdings - n.tables.found) b.holdings) z.kept.book
      ∙ ap (λ (x : ℕ). take (length m.tables.book.holdings - x) m.tables.book.holdings) z.kept.found

  whole : before_of n.tables ≡ n.tables.book.holdings
  whole = before ∙ whole_now m s e g.whole ∙ sym (ap (λ (x : Book). x.holdings) z.kept.book)

  stands : Stands n.tables n.journal.items n.stopped
  stands =
      let t : Tables = m.tables in
      let w : Tables = n.tables in
      let now : Kernel = kernel_by w n.journal.items n.stopped in
      record {
        runs = subst (λ (hs : Holdings). KernelRuns (record now { holdings = hs }) (lists_of w) w.book.size) (sym whole)
            (subst (λ (x : Book). KernelRuns now (lists_of w) x.size) (sym z.kept.book) (subst (λ (x : Kernel). KernelRuns x (lists_of w) t.book.size) (sym z.is) z.runs));
        ring = subst (λ (ns : List ImageNamed). AreSourced ns (image_at w) (before_of w) w.book.size w.ring) (sym images)
            (subst (λ (hs : Holdings). AreSourced (images_of t) (image_at w) hs w.book.size w.ring) (sym before)
            (subst (λ (x : Book). AreSourced (images_of t) (image_at w) (before_of t) x.size w.ring) (sym z.kept.book)
            (sourced_still (images_of t) (image_at t) (image_at w) (before_of t) t.book.size w.ring z.images z.ring)));
        within = subst (λ (p : Params). length n.journal.items ≤ p.journal) (sym z.kept.params) z.grown.within;
        book = ap (λ (x : Book). x.size) z.kept.book ∙ was.stands.book ∙ sym (ap (λ (p : Params). p.swap_blocks) z.kept.params);
        found = subst (λ (hs : Holdings). WereFound w.book.size hs w.book.holdings) (sym before)
            (subst (λ (x : Book). WereFound x.size (before_of t) x.holdings) (sym z.kept.book) was.stands.found);
        records = z.kept.records;
        named = subst AreNames (sym images) was.stands.named;
        numbers = λ x. z.kept.next_sid ∙ was.stands.numbers (z.grown.some x) ∙ sym z.kept.next_pid;
      }

  inside : RunsInside n
  inside = record {
    within = stands.within;
    running = λ _. record {
      stands = stands;
      holders = holders_by m.tables n.tables m.journal.items n.journal.items m.stopped n.stopped k z.is z.holders was.holders;
      none_lost = z.lost ∙ was.none_lost;
      room = no_room n.room n.journal n.tables.params.journal z.room;
    };
  }

  rest : standing_of n ≡ record s { kernel = (standing_of n).kernel; room = None }
  rest =
      let w : Tables = n.tables in
      let now : Kernel = (standing_of n).kernel in
      ap (λ (x : Option ℕ). let y : Standing = record { kernel = now; params = w.params; images = images_of w; before = before_of w; room = x } in y) z.room
      ∙ ap (λ (x : Params). let y : Standing = record { kernel = now; params = x; images = images_of w; before = before_of w; room = None } in y) z.kept.params
      ∙ ap (λ (x : List ImageNamed). let y : Standing = record { kernel = now; params = m.tables.params; images = x; before = before_of w; room = None } in y) images
      ∙ ap (λ (x : Holdings). let y : Standing = record { kernel = now; params = m.tables.params; images = images_of m.tables; before = x; room = None } in y) before
      ∙ ap (λ (x : Standing). record x { kernel = now; room = None }) e

-- What is so of the machine then.
pub record Stepped (m n : Inside) (s : Standing) (k : Kernel) : Type 1 where
  pub inside : RunsInside n
  pub is : kernel_by n.tables n.journal.items n.stopped ≡ k
  pub rest : standing_of n ≡ record s { kernel = (standing_of n).kernel; room = None }
  -- what the step says of the kernel before and of the one after
  pub says : (P : Kernel → Kernel → Type 0) → P (kernel_by m.tables m.journal.items m.stopped) k → P s.kernel (standing_of n).kernel
  pub goes_on : CanGoOn (standing_of n)

pub stepped : (m n : Inside) (s : Standing) (k : Kernel) → RunsInside m → standing_of m ≡ s → CanGoOn s → Steps m n k → Stepped m n s k
stepped m n s k h e g z = record {
  inside = inside m n s k h e g z;
  is = z.is;
  rest = rest m n s k h e g z;
  says = λ P p. subst (P s.kernel) (sym z.is) (subst (λ (x : Standing). P x.kernel k) e p);
  goes_on = goes_on n (inside m n s k h e g z) (z.stopped ∙ runs_by m s e g.running.runs) (whole m n s k h e g z);
}
