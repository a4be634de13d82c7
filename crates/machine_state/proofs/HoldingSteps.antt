-- Who holds a space holds one that is there, and alone: the steps of the kernel keep that.
use Rattle.std.proofs.Common.{◌≡◌, ◌≢◌, ◌⊎◌, inl, inr, ℕ, zero, suc, ◌+◌, ◌<◌, ◌≤◌, ◌==◌, Bool, true, false, cond, List, [], ◌∷◌, ◌++◌, length, map, Option, Some, None, refl, sym, ap, ◌∙◌, subst, arith}
use Rattle.std.specs.Prelude.{slice_get}
use Rattle.std.proofs.lemmas.Bool.{cases_eq, eq-eqb, ne_eqb}
use Rattle.vm_facts.specs.declared.page.Page.{Page}
use Rattle.vm_facts.specs.declared.regs.Regs.{Regs}
use Rattle.vm_facts.specs.declared.entry.Entry.{Entry}
use Rattle.aout_image.specs.declared.Image.{Image}
use Rattle.swap_book.specs.Holdings.{Holdings}
use Rattle.flat_state.specs.Flat.{start_regs}
use Rattle.flat_state.specs.declared.change.Change.{Change}
use Rattle.flat_state.specs.declared.change.Change.TheVariants.{Keep, Resize, Fork, Lend, Exec, Reap, Sleep, End}
use Rattle.page_model.specs.Moves.{touch}
use Rattle.page_model.specs.Pages.{SpacePages, numbered}
use Rattle.page_model.specs.Placement.{Placement, space_number, new_pages}
use Rattle.page_model.specs.Place.{place_entry, enter_image, facts_numbered}
use Rattle.kernel_model.specs.Asks.{HasSpace}
use Rattle.kernel_model.specs.Kernel.{Life, New, HoldsSpace, LendsSpace, Ended, Proc, Kernel, with_regs, write_step}
use Rattle.kernel_model.specs.ChangeStep.{life_of_proc, space_of_life, gave_back, with_proc, without_proc, child_proc, pass_from, passed_life, pass_step, change_by, change_if, change_step}
use Rattle.kernel_model.specs.Numbers.{Numbered}
use Rattle.kernel_model.specs.Start.{begin_step}
use Rattle.kernel_laws.proofs.Flat.Numbered.{has_number, absent_none, below_absent}
use Rattle.kernel_laws.proofs.Machine.Shapes.{Shaped, touch_shaped}
use Rattle.kernel_laws.proofs.Machine.Swaps.{with_regs_pid}
use Rattle.table_steps.specs.Applying.{facts_named, MayAct, IsWholeChange, MayPass}
use Rattle.table_steps.specs.Calls.{life_in}
use Rattle.table_steps.specs.UserMemory.{write_run}
use Rattle.table_steps.specs.Sourced.{ImageNamed}
use Rattle.machine_state.specs.Holders.{HoldersStand}
use Rattle.machine_state.proofs.Holding.{life_at, mapped_has, same_has, with_has, pushed_has, without_has, end_has, entry_has, shaped_has, unless_has, resize_has, more_has, new_has}

-- each that holds a space held it before, or is the one that comes, with a new space
abbrev Comes : Kernel → Kernel → ℕ → Type 0
Comes k l m = (n sid : ℕ) → life_in l n ≡ HoldsSpace sid
    → ((life_in k n ≡ HoldsSpace sid) × (HasSpace k.place sid → HasSpace l.place sid))
    ⊎ ((n ≡ m) × (numbered space_number sid k.place.spaces ≡ None) × HasSpace l.place sid)

stand_more : (k l : Kernel) (m : ℕ) → Comes k l m → HoldersStand k → HoldersStand l
stand_more k l m comes s = record { spaces = spaces; once = once }
  where
    spaces : (n sid : ℕ) → life_in l n ≡ HoldsSpace sid → HasSpace l.place sid
    spaces n sid e = elim (comes n sid e) [
      | inl h ↦ h.1 (s.spaces n sid h.0)
      | inr h ↦ h.2
    ]

    once : (n q sid : ℕ) → life_in l n ≡ HoldsSpace sid → life_in l q ≡ HoldsSpace sid → n ≡ q
    once n q sid e f = elim (comes n sid e) [
      | inl h ↦ elim (comes q sid f) [
        | inl g ↦ s.once n q sid h.0 g.0
        | inr g ↦ absurd (s.spaces n sid h.0 g.1)
      ]
      | inr h ↦ elim (comes q sid f) [
        | inl g ↦ absurd (s.spaces q sid g.0 h.1)
        | inr g ↦ h.0 ∙ sym g.0
      ]
    ]

-- nobody comes, and no space goes
stand_kept : (k l : Kernel) → ((n sid : ℕ) → life_in l n ≡ HoldsSpace sid → life_in k n ≡ HoldsSpace sid)
    → ((sid : ℕ) → HasSpace k.place sid → HasSpace l.place sid) → HoldersStand k → HoldersStand l
stand_kept k l less has = stand_more k l 0 (λ n sid e. inl (less n sid e, has sid))

-- an entry that moves pages
pub page_keeps : (k l : Kernel) (locked : List Page) (at : ℕ) (e : Entry) → l.processes ≡ k.processes → l.place ≡ place_entry locked at k.place e
    → HoldersStand k → HoldersStand l
page_keeps k l locked at e same is = stand_kept k l (λ n sid h. sym (ap (λ (ps : List Proc). life_at ps n) same) ∙ h)
    (λ sid h. subst (λ (p : Placement). HasSpace p sid) (sym is) (entry_has locked at k.place e sid h))

-- pages that move, and leave each space its shape
pub shaped_keeps : (k l : Kernel) → l.processes ≡ k.processes → Shaped k.place l.place → HoldersStand k → HoldersStand l
shaped_keeps k l same shaped = stand_kept k l (λ n sid h. sym (ap (λ (ps : List Proc). life_at ps n) same) ∙ h)
    (λ sid h. shaped_has k.place l.place sid (shaped.spaces sid) h)

-- a write of a byte
pub write_keeps : (k : Kernel) (q : Page) (f at byte : ℕ) → HoldersStand k → HoldersStand (write_step k q f at byte)
write_keeps k q f at byte =
    stand_kept k (write_step k q f at byte) (λ n sid h. h) (λ sid h. shaped_has k.place (touch k.place q) sid ((touch_shaped k.place q).spaces sid) h)

-- writes of the bytes of a page
pub run_keeps : (k : Kernel) (q : Page) (f at : ℕ) (bytes : List ℕ) → HoldersStand k → HoldersStand (write_run k q f at bytes)
run_keeps k q f at [] h = h
run_keeps k q f at (byte ∷ bytes) h = run_keeps (write_step k q f at byte) q f (at + 1) bytes (write_keeps k q f at byte h)

-- a process with other registers
pub regs_keep : (k l : Kernel) (pid : ℕ) (regs : Regs) → l.processes ≡ map (with_regs pid regs) k.processes
    → ((sid : ℕ) → HasSpace k.place sid → HasSpace l.place sid) → HoldersStand k → HoldersStand l
regs_keep k l pid regs same = stand_kept k l (λ n sid h.
    same_has (with_regs pid regs) (with_regs_pid pid regs) (λ q. life q (q.pid == pid)) k.processes n sid (sym (ap (λ (ps : List Proc). life_at ps n) same) ∙ h))
  where
    life : (q : Proc) (b : Bool) → (cond b (record q { regs = regs }) q).life ≡ q.life
    life q true = refl
    life q false = refl

-- A space that passes.

gives : (l r : Life) (from : ℕ) → MayPass l r from → l ≡ HoldsSpace (space_of_life l)
gives New r from m = absurd m
gives (HoldsSpace sid) r from m = refl
gives (LendsSpace sid child) r from m = absurd m
gives (Ended status) r from m = absurd m

gave_all : {C : Type 0} (sid to : ℕ) (receiver : Life) (held : ℕ) → pass_from sid to receiver ≡ HoldsSpace held → C
gave_all sid to New held e = absurd cc
gave_all sid to (HoldsSpace other) held e = absurd cc
gave_all sid to (LendsSpace lent child) held e = absurd cc
gave_all sid to (Ended status) held e = absurd cc

pub pass_keeps : (k : Kernel) (from to : ℕ) → MayPass (life_in k from) (life_in k to) from → HoldersStand k → HoldersStand (pass_step k from to)
pass_keeps k from to may s = record { spaces = spaces; once = once }
  where
    held : ℕ
    held = space_of_life (life_in k from)

    gave : life_in k from ≡ HoldsSpace held
    gave = gives (life_in k from) (life_in k to) from may

    l : Kernel
    l = pass_step k from to

    cases : (n sid : ℕ) → life_in l n ≡ HoldsSpace sid → ((n ≡ to) × (sid ≡ held)) ⊎ ((n ≢ from) × (life_in k n ≡ HoldsSpace sid))
    cases n sid h =
        let a = mapped_has (λ (q : Proc). record q { life = passed_life held from to (life_in k to) q }) (λ q. refl) k.processes n sid h in
        let now : (b c : Bool) → (a.0.pid == from) ≡ b → (a.0.pid == to) ≡ c → cond b (pass_from held to (life_in k to)) (cond c (HoldsSpace held) a.0.life) ≡ HoldsSpace sid =
        λ b c e f. sym (ap (λ (x : Bool). cond x (pass_from held to (life_in k to)) (cond c (HoldsSpace held) a.0.life)) e)
        ∙ sym (ap (λ (x : Bool). cond (a.0.pid == from) (pass_from held to (life_in k to)) (cond x (HoldsSpace held) a.0.life)) f) ∙ a.3 in
        elim (cases_eq a.0.pid from) [
          | inl i ↦ gave_all held to (life_in k to) sid (now true (a.0.pid == to) (eq-eqb a.0.pid from i) refl)
          | inr d ↦ elim (cases_eq a.0.pid to) [
            | inl i ↦ inl (sym a.1 ∙ i, (let e : HoldsSpace held ≡ HoldsSpace sid = now false true (ne_eqb a.0.pid from d) (eq-eqb a.0.pid to i) in cc))
            | inr f ↦ inr ((λ i. d (a.1 ∙ i)), a.2 ∙ now false false (ne_eqb a.0.pid from d) (ne_eqb a.0.pid to f))
          ]
        ]

    -- nobody beside the giver held what passes
    apart : {C : Type 0} (n sid : ℕ) → n ≢ from → life_in k n ≡ HoldsSpace sid → sid ≡ held → C
    apart n sid d e i = absurd (d (s.once n from held (subst (λ (x : ℕ). life_in k n ≡ HoldsSpace x) i e) gave))

    spaces : (n sid : ℕ) → life_in l n ≡ HoldsSpace sid → HasSpace k.place sid
    spaces n sid e = elim (cases n sid e) [
      | inl h ↦ subst (HasSpace k.place) (sym h.1) (s.spaces from held gave)
      | inr h ↦ s.spaces n sid h.1
    ]

    once : (n q sid : ℕ) → life_in l n ≡ HoldsSpace sid → life_in l q ≡ HoldsSpace sid → n ≡ q
    once n q sid e f = elim (cases n sid e) [
      | inl h ↦ elim (cases q sid f) [
        | inl g ↦ h.0 ∙ sym g.0
        | inr g ↦ apart q sid g.0 g.1 h.1
      ]
      | inr h ↦ elim (cases q sid f) [
        | inl g ↦ apart n sid h.0 h.1 g.1
        | inr g ↦ s.once n q sid h.1 g.1
      ]
    ]

-- The spaces that come.

new_space : (k : Kernel) (next : ℕ) (x : SpacePages) → space_number x ≡ next → numbered space_number next k.place.spaces ≡ None
    → (sid : ℕ) → HoldsSpace next ≡ HoldsSpace sid
    → (numbered space_number sid k.place.spaces ≡ None) × (numbered space_number sid (k.place.spaces ++ x ∷ []) ≢ None)
new_space k next x i fresh sid e =
    let same : next ≡ sid = cc in
    subst (λ (n : ℕ). (numbered space_number n k.place.spaces ≡ None) × (numbered space_number n (k.place.spaces ++ x ∷ []) ≢ None)) (i ∙ same)
    (let f : numbered space_number (space_number x) k.place.spaces ≡ None = ap (λ (n : ℕ). numbered space_number n k.place.spaces) i ∙ fresh in (f, new_has k.place.spaces x f))

pub next_is_new : (k : Kernel) → Numbered k → numbered space_number k.next_sid k.place.spaces ≡ None
next_is_new k n = absent_none space_number k.next_sid k.place.spaces (below_absent k.next_sid (map space_number k.place.spaces) n.spaces_below)

-- a first process
pub begin_keeps : (k : Kernel) (found : Holdings) (image : ℕ) (name : List ℕ) (facts : Image) → k.next_sid ≡ k.next_pid → Numbered k → HoldersStand k
    → HoldersStand (begin_step k found image name facts)
begin_keeps k found image name facts same n = stand_more k (begin_step k found image name facts) k.next_pid (λ m sid e. elim (pushed_has k.processes c m sid e) [
  | inl g ↦ inl (g, more_has k.place.spaces x sid)
  | inr g ↦ (let c = new_space k k.next_pid x refl (ap (λ (i : ℕ). numbered space_number i k.place.spaces) (sym same) ∙ next_is_new k n) sid g.1 in inr (g.0, c.0, c.1))
])
  where
    x : SpacePages
    x = new_pages k.next_pid image facts

    c : Proc
    c = record { pid = k.next_pid; parent = 0; regs = start_regs facts.entry (name ∷ []); life = HoldsSpace k.next_pid; asleep = false }

-- A change of a process.

-- who makes a change holds its space, or gave it back before
own_space : (l : Life) (change : Change) → MayAct l change → gave_back l ≡ false → l ≡ HoldsSpace (space_of_life l)
own_space New change m e = absurd cc
own_space (HoldsSpace sid) change m e = refl
own_space (LendsSpace sid child) change m e = absurd m
own_space (Ended status) change m e = absurd m

pub facts_at : (ns : List ImageNamed) (i : ℕ) → i < length ns → (f : Image) × (slice_get (facts_named ns) i ≡ Some f)
facts_at [] i l = absurd (omega (arith, l))
facts_at (x ∷ ns) zero l = (x.facts, refl)
facts_at (x ∷ ns) (suc i) l = facts_at ns i (omega (arith, l))

pub facts_there : (ns : List ImageNamed) (image : ℕ) → 0 < image → image ≤ length ns → (f : Image) × (facts_numbered (facts_named ns) image ≡ Some f)
facts_there ns zero low high = absurd (omega (arith, low))
facts_there ns (suc i) low high = facts_at ns i (omega (arith, high))

-- who comes by a change, with a space of its own; else who makes it
abbrev comer : ℕ → Change → ℕ
comer pid (Fork child) = child
comer pid _ = pid

module _ (ns : List ImageNamed) (k : Kernel) (p : Proc) (regs : Regs) (e : Entry) (there : numbered (λ (q : Proc). q.pid) p.pid k.processes ≡ Some p)
    (numbers : Numbered k) (s : HoldersStand k) where
  abbrev x : Proc
  x = record p { regs = regs }

  abbrev after : Change → Kernel
  after change = change_by (facts_named ns) k x e change

  life : life_in k p.pid ≡ p.life
  life = ap life_of_proc there

  -- the process has what it had
  kept : (y : Proc) → y.pid ≡ p.pid → y.life ≡ p.life → (n sid : ℕ) → life_at (with_proc k.processes y) n ≡ HoldsSpace sid → life_in k n ≡ HoldsSpace sid
  kept y i l n sid h = elim (with_has k.processes y n sid h) [
    | inl g ↦ g.1
    | inr g ↦ ap (life_in k) (g.0 ∙ i) ∙ life ∙ sym l ∙ g.1
  ]

  -- a space of another stays where the process gives up its own
  spared : (change : Change) → MayAct p.life change → (n sid : ℕ) → n ≢ p.pid → life_in k n ≡ HoldsSpace sid → gave_back p.life ≡ false → sid ≢ space_of_life p.life
  spared change a n sid d h b i = d (s.once n p.pid sid h (life ∙ own_space p.life change a b ∙ ap HoldsSpace (sym i)))

  comes : (change : Change) → MayAct p.life change → IsWholeChange ns change → Comes k (after change) (comer p.pid change)
  comes Keep a w n sid h = inl (kept x refl refl n sid h, λ g. g)
  comes (Resize d t) a w n sid h = inl (kept x refl refl n sid h, resize_has k.place (space_of_life p.life) d t sid)
  comes (Fork child) a w n sid h = elim (pushed_has (with_proc k.processes x) (child_proc x child (HoldsSpace k.next_sid)) n sid h) [
    | inl g ↦ inl (kept x refl refl n sid g, more_has k.place.spaces _ sid)
    | inr g ↦ (let c = new_space k k.next_sid _ refl (next_is_new k numbers) sid g.1 in inr (g.0, c.0, c.1))
  ]
  comes (Lend child) a w n sid h = elim (pushed_has (with_proc k.processes x) (child_proc x child New) n sid h) [
    | inl g ↦ inl (kept x refl refl n sid g, λ f. f)
    | inr g ↦ absurd (let z : New ≡ HoldsSpace sid = g.1 in cc)
  ]
  comes (Exec image top) a w n sid h =
      let f = facts_there ns image w.0 w.1 in
      let pages : SpacePages = new_pages k.next_sid image f.0 in
      let entered : (m : ℕ) → numbered space_number m (k.place.spaces ++ pages ∷ []) ≢ None → HasSpace (enter_image k.place k.next_sid image (facts_numbered (facts_named ns) image)) m =
      λ m. subst (λ (o : Option Image). HasSpace (enter_image k.place k.next_sid image o) m) (sym f.1) in
      elim (with_has k.processes (record x { life = HoldsSpace k.next_sid }) n sid h) [
        | inl g ↦ inl (g.1, λ t. unless_has (gave_back p.life) _ (space_of_life p.life) sid (spared (Exec image top) a n sid g.0 g.1) (entered sid (more_has k.place.spaces pages sid t)))
        | inr g ↦ (let c = new_space k k.next_sid pages refl (next_is_new k numbers) sid g.1 in
            inr (
              g.0,
              c.0,
              unless_has (gave_back p.life) _ (space_of_life p.life) sid
                  (λ b i. s.spaces p.pid sid (life ∙ own_space p.life (Exec image top) a b ∙ ap HoldsSpace (sym i)) c.0) (entered sid c.1),
            ))
      ]
  comes (Reap child) a w n sid h = elim (with_has (without_proc k.processes child) x n sid h) [
    | inl g ↦ (let b = without_has k.processes child n sid g.1 in inl (b.1, λ f. f))
    | inr g ↦ inl (ap (life_in k) g.0 ∙ life ∙ g.1, λ f. f)
  ]
  comes Sleep a w n sid h = inl (kept (record x { asleep = true }) refl refl n sid h, λ g. g)
  comes (End status) a w n sid h =
      let b = end_has (x.parent == 0) k.processes x status n sid numbers.pids_differ h in
      inl (b.1, unless_has (gave_back p.life) k.place (space_of_life p.life) sid (spared (End status) a n sid b.0 b.1))

pub change_keeps : (ns : List ImageNamed) (k : Kernel) (pid : ℕ) (regs : Regs) (e : Entry) (change : Change) → Numbered k → MayAct (life_in k pid) change
    → IsWholeChange ns change → HoldersStand k → HoldersStand (change_step (facts_named ns) k pid regs e change)
change_keeps ns k pid regs e change n may whole s = go (numbered (λ (q : Proc). q.pid) pid k.processes) refl
  where
    go : (o : Option Proc) → numbered (λ (q : Proc). q.pid) pid k.processes ≡ o → HoldersStand (change_if (facts_named ns) k regs e change o)
    go None i = s
    go (Some p) i =
        let j : p.pid ≡ pid = has_number (λ (q : Proc). q.pid) pid k.processes p i in
        let there : numbered (λ (q : Proc). q.pid) p.pid k.processes ≡ Some p = ap (λ (m : ℕ). numbered (λ (q : Proc). q.pid) m k.processes) j ∙ i in
        stand_more k (change_by (facts_named ns) k (record p { regs = regs }) e change) (comer p.pid change)
        (comes ns k p regs e there n s change (subst (λ (l : Life). MayAct l change) (ap life_of_proc i) may) whole) s
