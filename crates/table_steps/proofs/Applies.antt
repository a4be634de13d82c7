-- What a change asks of the calls that make it, and that they make it.
use Rattle.std.proofs.Common.{◌≡◌, ◌≢◌, ℕ, zero, suc, ◌<◌, ◌≤◌, true, false, List, length, get_or, Option}
use Rattle.std.proofs.Common.{Some, None, refl, sym, ap, ◌∙◌, subst, arith}
use Rattle.std.proofs.lemmas.Option.{same_Some}
use Rattle.aout_image.specs.declared.Image.{Image}
use Rattle.kernel_tables.specs.Life.{Life as RecordLife}
use Rattle.kernel_tables.specs.Life.TheVariants as lives
use Rattle.kernel_tables.specs.Proc.{Proc as Record}
use Rattle.flat_state.specs.declared.change.Change.{Change}
use Rattle.flat_state.specs.declared.change.Change.TheVariants.{Keep, Resize, Fork, Lend, Exec, Reap, Sleep, End}
use Rattle.page_model.specs.Pages.{SpacePages, numbered, data_in, stack_in, no_slot}
use Rattle.page_model.specs.Placement.{Placement, space_number, new_pages}
use Rattle.page_model.specs.Place.{facts_numbered, enter_image}
use Rattle.page_model.specs.Conditions.{AtRest, IsNew, IsSettled, CanChange, CanForget, MayForget}
use Rattle.page_laws.proofs.Ownership.Changes.{added_other}
use Rattle.kernel_model.specs.Kernel.{Proc, Life, New, HoldsSpace, LendsSpace, Ended}
use Rattle.kernel_model.specs.Unit.{has_lender}
use Rattle.kernel_model.specs.Asks.{HasSpace}
use Rattle.kernel_model.specs.Numbers.{ReadySpace}
use Rattle.kernel_model.specs.ChangeStep.{space_of_life, gave_back, life_of_proc, child_proc, without_proc}
use Rattle.kernel_tables.specs.declared.tables.Tables.{Tables}
use Rattle.kernel_tables.specs.declared.named.Named.{Named}
use Rattle.kernel_tables.specs.Alike.{AreRecords}
use Rattle.kernel_tables.specs.Lives.{space_by, space_of_record}
use Rattle.kernel_tables.specs.Machine.{life_shown, processes_of, lists_of, images_of, image_shown}
use Rattle.kernel_tables.specs.Changing.{Resized, EnteredImage, Forked, HasProcesses, HasOneMore, HasChanged, HasEnded, HoldsOrNew}
use Rattle.kernel_tables.specs.Changing.{processes_in, residents_in, process_in, life_at}
use Rattle.kernel_tables.specs.Applying.{MayAct}
use Rattle.table_steps.specs.Applied.{placement_in, MayGiveUp, MayLeave, LeftSpace, space_at, MayApply, Applied, AppliesAs}
use Rattle.kernel_tables.proofs.Lives.{HasRecord, record_of}
use Rattle.table_steps.proofs.ProcessLists.{OnlyOne, only_one, found_number}
use Rattle.table_steps.proofs.Applied.{entered_place, keep_applied, sleep_applied, reap_applied, lend_applied, resize_applied}
use Rattle.table_steps.proofs.Applied.{fork_applied, exec_new, exec_held, without_u, end_new, end_held}
use Rattle.kernel_tables.proofs.Arrives.{get_within}
use Rattle.kernel_tables.proofs.Shows.{length_map}

-- The process and its space.

abbrev life_held : Life → Option ℕ
life_held (HoldsSpace sid) = Some sid
life_held _ = None

shown_held : (l : RecordLife) → space_by l ≡ life_held (life_shown l)
shown_held lives.New = refl
shown_held _ = refl

-- the space that the record has is the process's
space_is : (t : Tables) (pid : ℕ) (p : Proc) → process_in t pid ≡ Some p → space_at t pid ≡ life_held p.life
space_is t pid p e =
    let r : HasRecord t.processes pid p = record_of t.processes t.next_pid pid p e in
    ap space_of_record r.there ∙ shown_held r.found.state ∙ ap (λ (q : Proc). life_held q.life) r.shows

held_one : (l : Life) (sid : ℕ) → Some sid ≡ life_held l → l ≡ HoldsSpace sid
held_one (HoldsSpace n) sid e = ap HoldsSpace (sym (same_Some sid n e))
held_one _ sid e = absurd cc

-- who changes its sizes, or has a child with a copy, has a space
acts_resize : (l : Life) (d s : ℕ) → MayAct l (Resize d s) → None ≡ life_held l → ⊥
acts_resize (HoldsSpace sid) d s a e = cc
acts_resize _ d s a e = a

acts_fork : (l : Life) (child : ℕ) → MayAct l (Fork child) → None ≡ life_held l → ⊥
acts_fork (HoldsSpace sid) child a e = cc
acts_fork _ child a e = a

module _ (t : Tables) (pid : ℕ) (change : Change) (m : MayApply t pid change) where
  pub only : OnlyOne m.process (processes_in t)
  only = only_one (processes_in t) pid m.process m.there m.differ

  pub number_is : m.process.pid ≡ pid
  number_is = found_number (processes_in t) pid m.process m.there

  -- what holds of its process holds of whichever is found
  pub of_any : (P : Proc → Type 0) → P m.process → (p : Proc) → process_in t pid ≡ Some p → P p
  of_any P h p e = subst P (same_Some m.process p (sym m.there ∙ e)) h

  pub life_is : (sid : ℕ) → Some sid ≡ space_at t pid → m.process.life ≡ HoldsSpace sid
  life_is sid e = held_one m.process.life sid (e ∙ space_is t pid m.process m.there)

-- Other sizes.

pub resize_some : (t : Tables) (pid d s : ℕ) → MayApply t pid (Resize d s) → None ≡ space_at t pid → ⊥
resize_some t pid d s m e = acts_resize m.process.life d s m.acts (e ∙ space_is t pid m.process m.there)

pub resize_there : (t : Tables) (pid d s sid : ℕ) → MayApply t pid (Resize d s) → Some sid ≡ space_at t pid → HasSpace (placement_in t) sid
resize_there t pid d s sid m e =
    let r : ReadySpace (placement_in t) sid false (Resize d s) =
    subst (λ (l : Life). ReadySpace (placement_in t) (space_of_life l) (gave_back l) (Resize d s)) (life_is t pid (Resize d s) m sid e) m.space in
    r.0

pub resize_settled : (t : Tables) (pid d s sid : ℕ) → MayApply t pid (Resize d s) → Some sid ≡ space_at t pid
    → CanChange (placement_in t) sid false t.next_sid (Resize d s)
resize_settled t pid d s sid m e = subst (λ (l : Life). CanChange (placement_in t) (space_of_life l) (gave_back l) t.next_sid (Resize d s)) (life_is t pid (Resize d s) m sid e) m.can

pub resize_all : (t u : Tables) (pid d s sid : ℕ) → MayApply t pid (Resize d s) → Some sid ≡ space_at t pid → Resized t u sid d s
    → (since : ℕ) → AppliesAs t u pid since (Resize d s)
resize_all t u pid d s sid m e z since =
    of_any t pid (Resize d s) m (λ (p : Proc). Applied t u p since (Resize d s))
    (resize_applied t u m.process since sid d s (life_is t pid (Resize d s) m sid e) (only t pid (Resize d s) m) m.records z)

-- A child with a copy.

pub fork_some : (t : Tables) (pid child : ℕ) → MayApply t pid (Fork child) → None ≡ space_at t pid → ⊥
fork_some t pid child m e = acts_fork m.process.life child m.acts (e ∙ space_is t pid m.process m.there)

pub fork_there : (t : Tables) (pid child sid : ℕ) → MayApply t pid (Fork child) → Some sid ≡ space_at t pid → HasSpace (placement_in t) sid
fork_there t pid child sid m e = subst (λ (l : Life). ReadySpace (placement_in t) (space_of_life l) (gave_back l) (Fork child)) (life_is t pid (Fork child) m sid e) m.space

pub fork_all : (t v u : Tables) (pid since parent sid : ℕ) → MayApply t pid (Fork t.next_pid) → Some parent ≡ space_at t pid
    → Forked t v parent → sid ≡ t.next_sid
    → ((p : Proc) → process_in v pid ≡ Some p → HasOneMore v u (child_proc p v.next_pid (HoldsSpace sid)) since)
    → AppliesAs t u pid since (Fork t.next_pid)
fork_all t v u pid since parent sid m e f i h =
    of_any t pid (Fork t.next_pid) m (λ (p : Proc). Applied t u p since (Fork t.next_pid))
    (fork_applied t v u m.process since parent (life_is t pid (Fork t.next_pid) m parent e) (only t pid (Fork t.next_pid) m) m.clear f
    (subst (λ (n : ℕ). HasOneMore v u (child_proc m.process v.next_pid (HoldsSpace n)) since) i (h m.process (ap (λ (x : Tables). process_in x pid) f.rest ∙ m.there))))

pub lend_all : (t u : Tables) (pid since child : ℕ) → MayApply t pid (Lend child)
    → ((p : Proc) → process_in t pid ≡ Some p → HasOneMore t u (child_proc p t.next_pid New) since) → AppliesAs t u pid since (Lend child)
lend_all t u pid since child m h =
    of_any t pid (Lend child) m (λ (p : Proc). Applied t u p since (Lend child)) (lend_applied t u m.process since child m.next (only t pid (Lend child) m) m.known.tied (h m.process m.there))

-- Records alone.

pub keep_all : (t : Tables) (pid since : ℕ) → MayApply t pid Keep → AppliesAs t t pid since Keep
keep_all t pid since m = of_any t pid Keep m (λ (p : Proc). Applied t t p since Keep) (keep_applied t m.process since (only t pid Keep m) m.records m.known.tied)

pub sleep_all : (t u : Tables) (pid since : ℕ) → MayApply t pid Sleep
    → ((p : Proc) → process_in t pid ≡ Some p → HasChanged t u (record p { asleep = true })) → AppliesAs t u pid since Sleep
sleep_all t u pid since m h = of_any t pid Sleep m (λ (p : Proc). Applied t u p since Sleep) (sleep_applied t u m.process since m.known.tied (h m.process m.there))

pub reap_all : (t u : Tables) (pid since child : ℕ) → MayApply t pid (Reap child)
    → HasProcesses t u t.next_pid (without_proc (processes_in t) child) (residents_in t) → AppliesAs t u pid since (Reap child)
reap_all t u pid since child m h = of_any t pid (Reap child) m (λ (p : Proc). Applied t u p since (Reap child)) (reap_applied t u m.process since child (only t pid (Reap child) m) m.known.tied h)

-- What leaving a space keeps.

pub record SameRecords (t w : Tables) : Type 0 where
  pub processes : w.processes ≡ t.processes
  pub next_pid : w.next_pid ≡ t.next_pid

left_records : (t w : Tables) (o : Option ℕ) → LeftSpace t w o → SameRecords t w
left_records t w None l = record { processes = ap (λ (x : Tables). x.processes) l; next_pid = ap (λ (x : Tables). x.next_pid) l }
left_records t w (Some sid) l = record { processes = ap (λ (x : Tables). x.processes) l.rest; next_pid = ap (λ (x : Tables). x.next_pid) l.rest }

procs_same : (t w : Tables) → SameRecords t w → processes_in w ≡ processes_in t
procs_same t w s =
    ap (λ (ps : List Record). processes_of ps w.next_pid) s.processes
    ∙ ap (λ (n : ℕ). processes_of t.processes n) s.next_pid

records_same : (t w : Tables) → SameRecords t w → AreRecords t.processes t.next_pid → AreRecords w.processes w.next_pid
records_same t w s r = subst (λ (ps : List Record). AreRecords ps w.next_pid) (sym s.processes) (subst (λ (n : ℕ). AreRecords t.processes n) (sym s.next_pid) r)

there_same : (t w : Tables) (pid : ℕ) (p : Proc) → SameRecords t w → process_in t pid ≡ Some p → process_in w pid ≡ Some p
there_same t w pid p s e = ap (λ (ps : List Proc). numbered (λ (q : Proc). q.pid) pid ps) (procs_same t w s) ∙ e

-- who makes a new image or ends holds a space, or has none yet
holds_exec : (l : Life) (image : ℕ) (top : List ℕ) → MayAct l (Exec image top) → HoldsOrNew l
holds_exec (LendsSpace sid child) image top a = a
holds_exec (Ended status) image top a = a
holds_exec _ image top a = tt

-- A new image.

facts_there : (facts : List Image) (image : ℕ) → 0 < image → image ≤ length facts → (x : Image) × (facts_numbered facts image ≡ Some x)
facts_there facts zero l r = absurd (omega arith)
facts_there facts (suc place) l r = get_within facts place (omega arith)

pub image_facts : (t : Tables) (pid image : ℕ) (top : List ℕ) → MayApply t pid (Exec image top)
    → (x : Image) × (facts_numbered (lists_of t).facts image ≡ Some x)
image_facts t pid image top m =
    let a = length_map (λ (n : Named). n.facts) t.images.items in
    let b = length_map image_shown t.images.items in
    facts_there (lists_of t).facts image m.whole.0 (let l : image ≤ length (images_of t) = m.whole.1 in omega arith)

module _ (t v : Tables) (pid image : ℕ) (top : List ℕ) (m : MayApply t pid (Exec image top)) (facts : Image) (known : facts_numbered (lists_of t).facts image ≡ Some facts)
    (e : EnteredImage t v image facts top) where
  entered_is : placement_in v ≡ enter_image (placement_in t) t.next_sid image (facts_numbered (lists_of t).facts image)
  entered_is = e.shows.place ∙ entered_place t image facts m.clear known

  entered_records : SameRecords t v
  entered_records = record { processes = ap (λ (x : Tables). x.processes) e.rest; next_pid = ap (λ (x : Tables). x.next_pid) e.rest }

  exec_can : (sid : ℕ) → m.process.life ≡ HoldsSpace sid → CanChange (placement_in t) sid false t.next_sid (Exec image top)
  exec_can sid life = subst (λ (l : Life). CanChange (placement_in t) (space_of_life l) (gave_back l) t.next_sid (Exec image top)) life m.can

  exec_ready : (sid : ℕ) → m.process.life ≡ HoldsSpace sid → HasSpace (placement_in t) sid
  exec_ready sid life =
      let r : ReadySpace (placement_in t) sid false (Exec image top) = subst (λ (l : Life). ReadySpace (placement_in t) (space_of_life l) (gave_back l) (Exec image top)) life m.space in
      (r refl).0

  exec_apart : (sid : ℕ) → m.process.life ≡ HoldsSpace sid → t.next_sid ≢ sid
  exec_apart sid life i = exec_ready sid life (subst (IsNew (placement_in t)) i (exec_can sid life).0)

  exec_spaces : (sid : ℕ) → m.process.life ≡ HoldsSpace sid
      → numbered space_number sid (placement_in v).spaces ≡ numbered space_number sid (placement_in t).spaces
  exec_spaces sid life = ap (λ (q : Placement). numbered space_number sid q.spaces) e.shows.place ∙ added_other sid (placement_in t).spaces (new_pages t.next_sid image facts) (exec_apart sid life)

  exec_gives : (sid : ℕ) → m.process.life ≡ HoldsSpace sid → MayGiveUp v sid
  exec_gives sid life = record {
    there = λ i. exec_ready sid life (sym (exec_spaces sid life) ∙ i);
    settled =
        let s : IsSettled (placement_in t) sid = (exec_can sid life).1 refl in
        record {
          data_rests = λ n. subst (λ (o : Option SpacePages). AtRest (get_or (data_in o) n no_slot).state) (sym (exec_spaces sid life)) (s.data_rests n);
          stack_rests = λ n. subst (λ (o : Option SpacePages). AtRest (get_or (stack_in o) n no_slot).state) (sym (exec_spaces sid life)) (s.stack_rests n);
        };
    forgets =
        let f : MayForget (lists_of t).facts (placement_in t) sid false t.next_sid (Exec image top) =
        subst (λ (l : Life). MayForget (lists_of t).facts (placement_in t) (space_of_life l) (gave_back l) t.next_sid (Exec image top)) life m.forgets in
        subst (λ (q : Placement). CanForget q sid) (sym entered_is) (f refl);
  }

  exec_space : space_at v pid ≡ life_held m.process.life
  exec_space = space_is v pid m.process (there_same t v pid m.process entered_records m.there)

  pub exec_leaves : MayLeave v (space_at v pid)
  exec_leaves = subst (MayLeave v) (sym exec_space) (go m.process.life refl m.acts)
    where
      go : (l : Life) → m.process.life ≡ l → MayAct l (Exec image top) → MayLeave v (life_held l)
      go New i a = tt
      go (HoldsSpace sid) i a = exec_gives sid i
      go (LendsSpace sid child) i a = absurd a
      go (Ended status) i a = absurd a

  module _ (w : Tables) (l : LeftSpace v w (space_at v pid)) where
    exec_records : SameRecords t w
    exec_records =
        let s : SameRecords v w = left_records v w (space_at v pid) l in
        let r : SameRecords t v = entered_records in
        record { processes = s.processes ∙ r.processes; next_pid = s.next_pid ∙ r.next_pid }

    pub exec_known : AreRecords w.processes w.next_pid
    exec_known = records_same t w exec_records m.records

    pub exec_there : process_in w pid ≡ Some m.process
    exec_there = there_same t w pid m.process exec_records m.there

    pub exec_life : HoldsOrNew (life_at w pid)
    exec_life = subst (λ (o : Option Proc). HoldsOrNew (life_of_proc o)) (sym exec_there) (holds_exec m.process.life image top m.acts)

    pub exec_alone : has_lender (processes_in w) pid ≡ false
    exec_alone = ap (λ (ps : List Proc). has_lender ps pid) (procs_same t w exec_records) ∙ m.alone refl

    pub exec_all : (u : Tables) (sid : ℕ) → sid ≡ t.next_sid
        → ((p : Proc) → process_in w pid ≡ Some p → HasChanged w u (record p { life = HoldsSpace sid })) → (since : ℕ)
        → AppliesAs t u pid since (Exec image top)
    exec_all u sid i h since = of_any t pid (Exec image top) m (λ (p : Proc). Applied t u p since (Exec image top)) (go m.process.life refl m.acts (subst (LeftSpace v w) exec_space l))
      where
        now : HasChanged w u (record m.process { life = HoldsSpace t.next_sid })
        now = subst (λ (n : ℕ). HasChanged w u (record m.process { life = HoldsSpace n })) i (h m.process exec_there)

        go : (x : Life) → m.process.life ≡ x → MayAct x (Exec image top) → LeftSpace v w (life_held x)
            → Applied t u m.process since (Exec image top)
        go New j a k = exec_new t v w u m.process since image facts top (only t pid (Exec image top) m) m.clear known e j
            (subst (λ (x : Tables). HasChanged x u (record m.process { life = HoldsSpace t.next_sid })) k now)
        go (HoldsSpace n) j a k = exec_held t v w u m.process since image facts top (only t pid (Exec image top) m) m.clear known e n j (exec_apart n j) k now
        go (LendsSpace n child) j a k = absurd a
        go (Ended status) j a k = absurd a

-- An end.

module _ (t : Tables) (pid status : ℕ) (m : MayApply t pid (End status)) where
  end_space : space_at t pid ≡ life_held m.process.life
  end_space = space_is t pid m.process m.there

  pub end_leaves : MayLeave t (space_at t pid)
  end_leaves = subst (MayLeave t) (sym end_space) (go m.process.life refl m.acts)
    where
      go : (l : Life) → m.process.life ≡ l → MayAct l (End status) → MayLeave t (life_held l)
      go New i a = tt
      go (HoldsSpace sid) i a =
          let r : ReadySpace (placement_in t) sid false (End status) = subst (λ (l : Life). ReadySpace (placement_in t) (space_of_life l) (gave_back l) (End status)) i m.space in
          let k : CanChange (placement_in t) sid false t.next_sid (End status) = subst (λ (l : Life). CanChange (placement_in t) (space_of_life l) (gave_back l) t.next_sid (End status)) i m.can in
          let f : MayForget (lists_of t).facts (placement_in t) sid false t.next_sid (End status) =
          subst (λ (l : Life). MayForget (lists_of t).facts (placement_in t) (space_of_life l) (gave_back l) t.next_sid (End status)) i m.forgets in
          record { there = (r refl).0; settled = k refl; forgets = f refl }
      go (LendsSpace sid child) i a = absurd a
      go (Ended s) i a = absurd a

  module _ (v w : Tables) (l : LeftSpace t v (space_at t pid)) (same : w ≡ without_u v pid) where
    end_records : SameRecords t w
    end_records =
        let s : SameRecords t v = left_records t v (space_at t pid) l in
        record { processes = ap (λ (x : Tables). x.processes) same ∙ s.processes; next_pid = ap (λ (x : Tables). x.next_pid) same ∙ s.next_pid }

    pub end_there : process_in w pid ≡ Some m.process
    end_there = there_same t w pid m.process end_records m.there

    pub end_all : (u : Tables) → ((p : Proc) → process_in w pid ≡ Some p → HasEnded w u p status) → (since : ℕ)
        → AppliesAs t u pid since (End status)
    end_all u h since = of_any t pid (End status) m (λ (p : Proc). Applied t u p since (End status)) (go m.process.life refl m.acts (subst (LeftSpace t v) end_space l))
      where
        number : w ≡ without_u v m.process.pid
        number = same ∙ ap (without_u v) (sym (number_is t pid (End status) m))

        go : (x : Life) → m.process.life ≡ x → MayAct x (End status) → LeftSpace t v (life_held x)
            → Applied t u m.process since (End status)
        go New j a k = end_new t v w u m.process since status number (h m.process end_there) j k m.known.tied
        go (HoldsSpace n) j a k = end_held t v w u m.process since status number (h m.process end_there) n j k
        go (LendsSpace n child) j a k = absurd a
        go (Ended s) j a k = absurd a
