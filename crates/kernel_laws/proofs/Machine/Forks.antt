-- Fork keeps the whole machine coupled.
use Rattle.std.proofs.Common.{◌≡◌, ◌≢◌, inl, inr, ℕ, ◌+◌, ◌*◌, ◌<◌, ◌==◌, Bool, true, false, cond, List, [], ◌∷◌, ◌++◌, length, map, Option, Some, None, refl, sym, ap, ◌∙◌, subst, arith}
use Rattle.std.proofs.lemmas.Bool.{cases_eq}
use Rattle.flat_state.specs.Space.{Space}
use Rattle.flat_state.specs.Flat.{Holds, Process, FlatState, NamedImage, process_of, image_numbered, spaces_of}
use Rattle.vm_facts.specs.declared.page.Page.{Page}
use Rattle.vm_facts.specs.declared.page.Page.TheVariants.{Data, Stack, Text}
use Rattle.vm_facts.specs.declared.regs.Regs.{Regs}
use Rattle.vm_facts.specs.declared.entry.Entry.{Entry}
use Rattle.aout_image.specs.Image.{page_at}
use Rattle.flat_state.specs.declared.change.Change.TheVariants.{Fork}
use Rattle.flat_state.specs.Change.{replaced, with_results, child_of, forked, apply_change}
use Rattle.flat_state.specs.Journal.{append}
use Rattle.page_model.specs.Pages.{SpacePages, numbered, data_in, stack_in}
use Rattle.page_model.specs.Placement.{Placement, Residence, space_number, slots_of, image_in, image_of, IsThere}
use Rattle.page_model.specs.Place.{child_slot, fork_space, begin_residence, facts_of}
use Rattle.page_model.specs.Swapper.{is_out, residence_of}
use Rattle.page_model.specs.Conditions.{IsNew}
use Rattle.page_model.specs.PageBytes.{SameBytes, Copies}
use Rattle.flat_state.specs.Numbers.{IsNumbered}
use Rattle.kernel_model.specs.Stands.{OutHold, holds_some}
use Rattle.kernel_model.specs.Coupled.{IsSized, Fits, AllFit, Outline, Coupled, outline_kept, outline_of, data_of, data_bytes_in, stack_bytes_in, beside_kernel}
use Rattle.kernel_model.specs.Kernel.{Kernel, Proc, Life, HoldsSpace}
use Rattle.kernel_model.specs.ChangeStep.{with_proc, child_proc, change_step}
use Rattle.page_laws.proofs.Lists.Local.{none_some}
use Rattle.page_laws.proofs.Ownership.Changes.{added_other, added_same}
use Rattle.page_laws.proofs.Bytes.Spaces.{map_length, fork_coupled}
use Rattle.page_laws.proofs.Bytes.Runs.{still_coupled}
use Rattle.kernel_laws.proofs.Flat.Numbered.{absent_none, below_absent, pushed_new, pushed_old, pushed_found, map_pushed, image_by}
use Rattle.kernel_laws.proofs.Flat.Lists.{pid_of, sid_of, held, found_is, replaced_at, replaced_not, same_held, held-append, held_at, held_own}
use Rattle.kernel_laws.proofs.Machine.Done.{fit_data, fit_stack}
use Rattle.kernel_laws.proofs.Machine.Tables.{kept_pid, tables_of, outlines_at, RegsAt, coupled_of}
use Rattle.kernel_laws.proofs.Machine.Swaps.{applied}
use Rattle.kernel_laws.proofs.Machine.Still.{outline_is}
use Rattle.kernel_laws.proofs.Machine.Processes.{with_at, with_not, with_replaced, holds_there, Stepping, stepping, by_life, step_is, regs_carried, regs_in_record}

-- a number that is in neither table
pub fit_none : (o : Option SpacePages) → Fits None o → o ≡ None
fit_none None f = refl
fit_none (Some x) f = absurd f

pub fit_image : (s : Space) (o : Option SpacePages) → Fits (Some s) o → image_in o ≡ s.image
fit_image s None f = absurd f
fit_image s (Some x) f = f.image

-- the next space is in no table
pub next_new : (flat : FlatState) (p : Placement) → IsNumbered flat → AllFit flat p → IsNew p flat.next_sid
next_new flat p nums all = fit_none (numbered space_number flat.next_sid p.spaces)
    (subst (λ (o : Option Space). Fits o (numbered space_number flat.next_sid p.spaces))
    (absent_none sid_of flat.next_sid (spaces_of flat) (below_absent flat.next_sid (map sid_of (spaces_of flat)) nums.sids_below)) (all flat.next_sid))

pub next_sid_none : (flat : FlatState) → IsNumbered flat → numbered sid_of flat.next_sid (spaces_of flat) ≡ None
next_sid_none flat nums = absent_none sid_of flat.next_sid (spaces_of flat) (below_absent flat.next_sid (map sid_of (spaces_of flat)) nums.sids_below)

pub next_pid_none : (flat : FlatState) → IsNumbered flat → numbered pid_of flat.next_pid flat.processes ≡ None
next_pid_none flat nums = absent_none pid_of flat.next_pid flat.processes (below_absent flat.next_pid (map pid_of flat.processes) nums.pids_below)

-- and the next process is in
pub next_in : (flat : FlatState) (p : Placement) → IsNumbered flat → OutHold p flat → is_out p flat.next_pid ≡ false
next_in flat p nums o = go (is_out p flat.next_pid) refl
  where
    go : (b : Bool) → is_out p flat.next_pid ≡ b → is_out p flat.next_pid ≡ false
    go false e = e
    go true e = absurd (let h : false ≡ true = sym (ap holds_some (found_is flat.processes flat.next_pid ∙ next_pid_none flat nums)) ∙ o flat.next_pid e in cc)

pub kept_none : (k : Kernel) (flat : FlatState) (n : ℕ) → map outline_kept k.processes ≡ map outline_of flat.processes
    → numbered pid_of n flat.processes ≡ None → numbered kept_pid n k.processes ≡ None
kept_none k flat n e h = go (numbered kept_pid n k.processes) refl
  where
    go : (o : Option Proc) → numbered kept_pid n k.processes ≡ o → numbered kept_pid n k.processes ≡ None
    go None i = i
    go (Some p) i = absurd (let j : Some (outline_kept p) ≡ None = ap (image_by outline_kept) (sym i) ∙ outlines_at k.processes flat.processes e n ∙ ap (image_by outline_of) h in cc)

-- a new process is in, and each other is where it was
pub out_begun : (rs : List Residence) (pid at n : ℕ) → (residence_of (rs ++ record { pid = pid; out = false; since = at } ∷ []) n).out ≡ (residence_of rs n).out
out_begun [] pid at n = go (pid == n)
  where
    go : (b : Bool) → (cond b (let r : Residence = record { pid = pid; out = false; since = at } in r) (residence_of [] n)).out ≡ false
    go true = refl
    go false = refl
out_begun (r ∷ rs) pid at n = go (r.pid == n) (out_begun rs pid at n)
  where
    go : (b : Bool) → (residence_of (rs ++ record { pid = pid; out = false; since = at } ∷ []) n).out ≡ (residence_of rs n).out
        → (cond b r (residence_of (rs ++ record { pid = pid; out = false; since = at } ∷ []) n)).out ≡ (cond b r (residence_of rs n)).out
    go true ih = refl
    go false ih = ih

-- A fork, to a space of this number.
abbrev pub forked_kernel : Kernel → Proc → ℕ → ℕ → ℕ → Entry → Kernel
forked_kernel k p sid child next e = record k {
  place = begin_residence (fork_space k.place sid next) child (length (append k.journal e));
  processes = with_proc k.processes p ++ child_proc p child (HoldsSpace next) ∷ [];
  next_pid = k.next_pid + 1;
  next_sid = next + 1;
  journal = append k.journal e;
}

pub fork_coupled_step : (k : Kernel) (images : List NamedImage) (image : List ℕ) (flat : FlatState) (pid : ℕ) (regs : Regs) (e : Entry)
    (q : Process) (s : Space)
    → IsNumbered flat → OutHold k.place flat → k.place.due ≡ []
    → process_of flat pid ≡ Some q → q.holding ≡ Holds s → is_out k.place pid ≡ false → Coupled k images image flat
    → Coupled (change_step (facts_of images) k pid regs e (Fork flat.next_pid)) images image (apply_change images flat pid regs (Fork flat.next_pid))
fork_coupled_step k images image flat pid regs e q s nums outs due f h out c =
    let kc : Proc = child_proc kp flat.next_pid (HoldsSpace n) in
    let pids : kp.pid ≡ fp.pid = g.pid_is ∙ sym g.pid_was in
    let kept_found : numbered kept_pid kp.pid k.processes ≡ Some g.proc = ap (λ (m : ℕ). numbered kept_pid m k.processes) g.pid_is ∙ g.kept in
    let outline : outline_kept kp ≡ outline_of fp =
    outline_is g.proc.pid q.pid g.proc.parent q.parent g.proc.life (Rattle.kernel_model.specs.Kernel.life_of q.holding) g.proc.asleep q.asleep pids g.parent
    (g.life ∙ sym (ap Rattle.kernel_model.specs.Kernel.life_of h)) g.asleep in
    let child_outline : outline_kept kc ≡ outline_of ch = outline_is flat.next_pid flat.next_pid kp.pid fp.pid (HoldsSpace n) (HoldsSpace n) false false refl pids refl refl in
    let outlines : map outline_kept l.processes ≡ map outline_of after.processes =
    map_pushed outline_kept (with_proc k.processes kp) kc ∙ ap (λ (x : List Outline). x ++ outline_kept kc ∷ []) (with_replaced k.processes flat.processes kp fp c.tables.processes nums.pids outline)
    ∙ ap (λ (x : Outline). map outline_of (replaced flat.processes fp) ++ x ∷ []) child_outline ∙ sym (map_pushed outline_of (replaced flat.processes fp) ch) in
    let own : numbered sid_of n (spaces_of after) ≡ Some z = ap (numbered sid_of n) spaces ∙ pushed_new sid_of n (held flat.processes) z (next_sid_none flat nums) refl in
    let was : numbered sid_of s.sid (spaces_of flat) ≡ Some s = held_own flat.processes fp s (held_at flat.processes q fp s found h nums.sids) in
    let own_fits : Fits (Some s) (numbered space_number s.sid k.place.spaces) = subst (λ (x : Option Space). Fits x (numbered space_number s.sid k.place.spaces)) was (all s.sid) in
    let place_own : numbered space_number n l.place.spaces ≡ Some x = added_same n k.place.spaces x refl new in
    let sized : IsSized z x = record {
      image = fit_image s (numbered space_number s.sid k.place.spaces) own_fits;
      data_size = fit_data (Some s) (numbered space_number s.sid k.place.spaces) own_fits ∙ ap (λ (m : ℕ). 1024 * m) (sym (map_length (slots_of k.place (Data s.sid 0))));
      stack_size = fit_stack (Some s) (numbered space_number s.sid k.place.spaces) own_fits ∙ ap (λ (m : ℕ). 1024 * m) (sym (map_length (slots_of k.place (Stack s.sid 0))));
    } in
    let fits : AllFit after l.place = λ m. elim (cases_eq m n) [
      | inl i ↦ subst (λ (y : ℕ). Fits (numbered sid_of y (spaces_of after)) (numbered space_number y l.place.spaces)) (sym i)
          (subst (λ (y : Option Space). Fits y (numbered space_number n l.place.spaces)) (sym own) (subst (Fits (Some z)) (sym place_own) sized))
      | inr d ↦ subst (λ (y : Option Space). Fits y (numbered space_number m l.place.spaces)) (sym (other m d)) (subst (Fits (numbered sid_of m (spaces_of flat))) (sym (place_other m d)) (all m))
    ] in
    let datas : (v : ℕ) → Copies (beside_kernel k images image flat) (beside_kernel l images image after) (Data n v) (Data s.sid v) = λ v. record {
      memory = ap (λ (o : Option Space). page_at v (data_bytes_in o)) own ∙ sym (ap (λ (o : Option Space). page_at v (data_bytes_in o)) was);
      file = ap (λ (o : Option SpacePages). page_at v (data_of (image_numbered images (image_in o)))) place_own;
    } in
    let stacks : (v : ℕ) → Copies (beside_kernel k images image flat) (beside_kernel l images image after) (Stack n v) (Stack s.sid v) = λ v.
    record { memory = ap (λ (o : Option Space). page_at v (stack_bytes_in o)) own ∙ sym (ap (λ (o : Option Space). page_at v (stack_bytes_in o)) was); file = refl } in
    -- registers
    let out_same : (m : ℕ) → is_out l.place m ≡ is_out k.place m = λ m. out_begun k.place.residents flat.next_pid (length (append k.journal e)) m in
    let child_other : flat.next_pid ≢ q.pid = λ i. none_some q (sym (next_pid_none flat nums) ∙ ap (λ (m : ℕ). numbered pid_of m flat.processes) (i ∙ g.pid_was) ∙ g.found) in
    let child_flat : numbered pid_of flat.next_pid after.processes ≡ Some ch =
    pushed_new pid_of flat.next_pid (replaced flat.processes fp) ch (replaced_not flat.processes fp flat.next_pid child_other ∙ next_pid_none flat nums) refl in
    let child_kept : numbered kept_pid flat.next_pid l.processes ≡ Some kc = pushed_new kept_pid flat.next_pid (with_proc k.processes kp) kc
    (with_not k.processes kp flat.next_pid (λ i. child_other (i ∙ pids)) ∙ kept_none k flat flat.next_pid c.tables.processes (next_pid_none flat nums)) refl in
    let regs_now : (m : ℕ) → RegsAt l image after m = λ m. elim (cases_eq m q.pid) [
      | inl i ↦ subst (RegsAt l image after) (sym i) (regs_in_record l image after q.pid fp kp (out_same q.pid ∙ ap (is_out k.place) g.pid_was ∙ out)
          (pushed_found pid_of q.pid (replaced flat.processes fp) ch fp (replaced_at flat.processes q fp found))
          (pushed_found kept_pid q.pid (with_proc k.processes kp) kc kp (ap (λ (y : ℕ). numbered kept_pid y (with_proc k.processes kp)) (sym pids) ∙ with_at k.processes kp g.proc kept_found)) refl)
      | inr d ↦ elim (cases_eq m flat.next_pid) [
        | inl i ↦ subst (RegsAt l image after) (sym i)
            (regs_in_record l image after flat.next_pid ch kc (out_same flat.next_pid ∙ next_in flat k.place nums outs) child_flat child_kept (ap (λ (y : ℕ). with_results regs y 1) pids))
        | inr i ↦ regs_carried k l images image image flat after m c outs (record {
          flat_was = λ a ea. (a, sym (replaced_not flat.processes fp m d) ∙ sym (pushed_old pid_of m (replaced flat.processes fp) ch (λ y. i (sym y))) ∙ ea, refl, refl);
          kept_was = λ b eb. (b, sym (with_not k.processes kp m (λ y. d (y ∙ pids))) ∙ sym (pushed_old kept_pid m (with_proc k.processes kp) kc (λ y. i (sym y))) ∙ eb, refl);
          out = out_same m;
          held_by = λ a t ea ht.
              let d' : t.sid ≢ n = λ y. holds_there flat.processes m a t ea ht (ap (λ (u : ℕ). numbered sid_of u (held flat.processes)) y ∙ next_sid_none flat nums) in
              (refl, ap (λ (o : Option SpacePages). length (data_in o)) (place_other t.sid d'), ap (λ (o : Option SpacePages). length (stack_in o)) (place_other t.sid d'));
        })
      ]
    ] in
    subst (λ (x : Kernel). Coupled x images image (apply_change images flat pid regs (Fork flat.next_pid)))
    (sym (step_is (facts_of images) k pid regs e (Fork flat.next_pid) g.proc (HoldsSpace s.sid) g.kept g.life))
    (subst (Coupled (by_life (facts_of images) k kp (HoldsSpace s.sid) e (Fork flat.next_pid)) images image) (sym (applied images flat pid regs (Fork flat.next_pid) q s f h))
    (subst (λ (m : ℕ). Coupled (forked_kernel k kp s.sid flat.next_pid m e) images image after) (sym c.tables.next_sid)
    (coupled_of l images image after (tables_of l after outlines (ap (λ (m : ℕ). m + 1) c.tables.next_pid) refl fits)
    (still_coupled (fork_space k.place s.sid n) l.place (beside_kernel l images image after) (λ w. refl) refl refl
    (fork_coupled k.place s.sid n (beside_kernel k images image flat) (beside_kernel l images image after) c.pages new due same datas stacks (λ i v. refl))) regs_now)))
  where
    g : Stepping k flat pid q s
    g = stepping k flat pid q s c.tables f h

    n : ℕ
    n = flat.next_sid

    kp : Proc
    kp = record g.proc { regs = regs }

    fp : Process
    fp = record q { regs = regs }

    z : Space
    z = record s { sid = n }

    ch : Process
    ch = child_of fp flat.next_pid z

    after : FlatState
    after = forked flat fp s flat.next_pid

    l : Kernel
    l = forked_kernel k kp s.sid flat.next_pid n e

    found : numbered pid_of fp.pid flat.processes ≡ Some q
    found = ap (λ (m : ℕ). numbered pid_of m flat.processes) g.pid_was ∙ g.found

    -- spaces
    spaces : spaces_of after ≡ held flat.processes ++ z ∷ []
    spaces = held-append (replaced flat.processes fp) (ch ∷ []) ∙ ap (λ (xs : List Space). xs ++ z ∷ []) (same_held flat.processes q fp found refl)

    other : (m : ℕ) → m ≢ n → numbered sid_of m (spaces_of after) ≡ numbered sid_of m (spaces_of flat)
    other m d = ap (numbered sid_of m) spaces ∙ pushed_old sid_of m (held flat.processes) z (λ i. d (sym i))

    all : AllFit flat k.place
    all = c.tables.spaces

    new : IsNew k.place n
    new = next_new flat k.place nums all

    x : SpacePages
    x = record { sid = n; image = image_of k.place s.sid; data_pages = map child_slot (slots_of k.place (Data s.sid 0)); stack_pages = map child_slot (slots_of k.place (Stack s.sid 0)) }

    place_other : (m : ℕ) → m ≢ n → numbered space_number m l.place.spaces ≡ numbered space_number m k.place.spaces
    place_other m d = added_other m k.place.spaces x (λ i. d (sym i))

    -- bytes
    old_data : (m v : ℕ) → IsThere k.place (Data m v) → m ≢ n
    old_data m v there i =
        absurd (let w : v < length (slots_of k.place (Data n v)) = subst (λ (y : ℕ). IsThere k.place (Data y v)) i there in
        let z = ap (λ (o : Option SpacePages). length (data_in o)) new in omega arith)

    old_stack : (m v : ℕ) → IsThere k.place (Stack m v) → m ≢ n
    old_stack m v there i = absurd (let w : v < length (slots_of k.place (Stack n v)) = subst (λ (y : ℕ). IsThere k.place (Stack y v)) i there in
        let z = ap (λ (o : Option SpacePages). length (stack_in o)) new in omega arith)

    same : (w : Page) → IsThere k.place w → SameBytes (beside_kernel k images image flat) (beside_kernel l images image after) w
    same (Data m v) there = let d = old_data m v there in record {
      frames = refl;
      swap = refl;
      file = ap (λ (o : Option SpacePages). page_at v (data_of (image_numbered images (image_in o)))) (place_other m d);
      start = refl;
      memory = ap (λ (o : Option Space). page_at v (data_bytes_in o)) (other m d);
    }
    same (Stack m v) there =
        let d = old_stack m v there in record { frames = refl; swap = refl; file = refl; start = refl; memory = ap (λ (o : Option Space). page_at v (stack_bytes_in o)) (other m d) }
    same (Text m v) there = record { frames = refl; swap = refl; file = refl; start = refl; memory = refl }
