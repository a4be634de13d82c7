-- Who lives is in or out: each step of the whole machine, and each change of a process, keeps it.
use Rattle.std.proofs.Common.{◌≡◌, ◌≢◌, ◌⊎◌, inl, inr, ℕ, ◌+◌, ◌==◌, Bool, true, false, cond, not, List, [], ◌∷◌, ◌++◌, map, filter, Option, Some, None, refl, sym, ap, ◌∙◌}
use Rattle.std.proofs.lemmas.Bool.{cases_eq, eqb-true}
use Rattle.vm_facts.specs.declared.page.Page.{Page}
use Rattle.vm_facts.specs.declared.regs.Regs.{Regs}
use Rattle.vm_facts.specs.declared.entry.Entry.{Entry}
use Rattle.vm_facts.specs.declared.entry.Entry.TheVariants as entries
use Rattle.flat_state.specs.declared.change.Change.{Change}
use Rattle.flat_state.specs.declared.change.Change.TheVariants.{Resize, Fork, Lend, Exec, End}
use Rattle.flat_state.specs.Numbers.{AllDistinct}
use Rattle.flat_state.specs.PageNames.{pages_from, number_of}
use Rattle.page_model.specs.Pages.{numbered, changed}
use Rattle.page_model.specs.Placement.{Placement, Residence, Starting, residents_from}
use Rattle.page_model.specs.Moves.{drop_all}
use Rattle.page_model.specs.Place.{enter_image, give_up_unless, place_change, place_entry, facts_numbered, Changing}
use Rattle.page_model.specs.Reading.{read_errand}
use Rattle.page_model.specs.PuttingOut.{IsResident}
use Rattle.kernel_model.specs.Kernel.{Kernel, Proc, with_regs}
use Rattle.kernel_model.specs.Sound.{has_life, lives}
use Rattle.kernel_model.specs.ChangeStep.{changing_of, change_by, procs_after, orphaned_procs, left_procs}
use Rattle.kernel_model.specs.Asks.{OneEach, is_started}
use Rattle.kernel_model.specs.Numbers.{EachResides}
use Rattle.page_laws.proofs.Ownership.Changes.{dropped_pages}
use Rattle.kernel_laws.proofs.Flat.Numbered.{absent_none}
use Rattle.vm_facts.proofs.Tests.{eq_self}
use Rattle.kernel_laws.proofs.Sound.Changes.{left_dead, map_lives}
use Rattle.kernel_laws.proofs.Pieces.Wanted.{IsChild, after_back}
use Rattle.kernel_laws.proofs.Machine.Shapes.{Shaped, filled_shaped, get_run_shaped, reclaim_shaped, moves_shaped, put_step_shaped, done_shaped, drop_all_shaped}
use Rattle.kernel_laws.proofs.Machine.Gone.{Gone, gone_unless}
use Rattle.aout_image.specs.declared.Image.{Image}

abbrev here : Residence → ℕ
here r = r.pid

-- the same residents
pub resides : (rs us : List Residence) (n : ℕ) → us ≡ rs → (numbered here n rs ≢ None) → numbered here n us ≢ None
resides rs us n e h = λ z. h (ap (numbered here n) (sym e) ∙ z)

-- who lives after a step lived before it, and each resident is one still
pub each_resides : (k l : Kernel) → ((n : ℕ) → lives l.processes n ≡ true → lives k.processes n ≡ true)
    → ((n : ℕ) → IsResident k.place n → IsResident l.place n) → EachResides k → EachResides l
each_resides k l back still r = λ n a. still n (r n (back n a))

-- Entries.

moved_none : (pid n : ℕ) (out : Bool) (at : ℕ) (rs : List Residence)
    → numbered here n (changed here pid (λ (r : Residence). record r { out = out; since = at }) rs) ≡ None → numbered here n rs ≡ None
moved_none pid n out at [] e = refl
moved_none pid n out at (r ∷ rs) e = go (r.pid == pid) (r.pid == n) refl e (moved_none pid n out at rs)
  where
    go : (b c : Bool) → (r.pid == n) ≡ c
        → numbered here n (cond b ((let x : Residence = record r { out = out; since = at } in x) ∷ rs) (r ∷ changed here pid (λ (r : Residence). record r { out = out; since = at }) rs)) ≡ None
        → (numbered here n (changed here pid (λ (r : Residence). record r { out = out; since = at }) rs) ≡ None → numbered here n rs ≡ None) → cond c (Some r) (numbered here n rs) ≡ None
    go true true i z ih = absurd (let y : Some (let x : Residence = record r { out = out; since = at } in x) ≡ None =
        sym (ap (λ (c : Bool). cond c (Some (let x : Residence = record r { out = out; since = at } in x)) (numbered here n rs)) i) ∙ z in cc)
    go true false i z ih = sym (ap (λ (c : Bool). cond c (Some (let x : Residence = record r { out = out; since = at } in x)) (numbered here n rs)) i) ∙ z
    go false true i z ih =
        absurd (let y : Some r ≡ None = sym (ap (λ (c : Bool). cond c (Some r) (numbered here n (changed here pid (λ (r : Residence). record r { out = out; since = at }) rs))) i) ∙ z in cc)
    go false false i z ih = ih (sym (ap (λ (c : Bool). cond c (Some r) (numbered here n (changed here pid (λ (r : Residence). record r { out = out; since = at }) rs))) i) ∙ z)

pub entry_resides : (lk : List Page) (at : ℕ) (p : Placement) (e : Entry) (n : ℕ) → IsResident p n → IsResident (place_entry lk at p e) n
entry_resides lk at p (entries.Zero q) n h =
    let x : Shaped p (place_entry lk at p (entries.Zero q)) = filled_shaped p q in resides p.residents (place_entry lk at p (entries.Zero q)).residents n x.residents h
entry_resides lk at p (entries.Copy q) n h =
    let x : Shaped p (place_entry lk at p (entries.Copy q)) = filled_shaped p q in resides p.residents (place_entry lk at p (entries.Copy q)).residents n x.residents h
entry_resides lk at p (entries.Get q lo m) n h = let x : Shaped p (place_entry lk at p (entries.Get q lo m)) =
    get_run_shaped p (read_errand p q) (pages_from q lo m) in resides p.residents (place_entry lk at p (entries.Get q lo m)).residents n x.residents h
entry_resides lk at p (entries.Reclaim q) n h =
    let x : Shaped p (place_entry lk at p (entries.Reclaim q)) = reclaim_shaped p q in resides p.residents (place_entry lk at p (entries.Reclaim q)).residents n x.residents h
entry_resides lk at p (entries.Hands m) n h =
    let x : Shaped p (place_entry lk at p (entries.Hands m)) = moves_shaped m p lk in resides p.residents (place_entry lk at p (entries.Hands m)).residents n x.residents h
entry_resides lk at p (entries.Put q m) n h = let x : Shaped p (place_entry lk at p (entries.Put q m)) =
    put_step_shaped p q (pages_from q (number_of q) m) in resides p.residents (place_entry lk at p (entries.Put q m)).residents n x.residents h
entry_resides lk at p entries.Done n h = let x : Shaped p (place_entry lk at p entries.Done) = done_shaped p in resides p.residents (place_entry lk at p entries.Done).residents n x.residents h
entry_resides lk at p (entries.SwapOut pid) n h = λ z. h (moved_none pid n true at p.residents z)
entry_resides lk at p (entries.SwapIn pid) n h = λ z. h (moved_none pid n false at p.residents z)
entry_resides lk at p _ n h = h

-- other registers change nobody's life
pub regs_live : (pid : ℕ) (regs : Regs) (ps : List Proc) (n : ℕ) → lives (map (with_regs pid regs) ps) n ≡ lives ps n
regs_live pid regs ps n = map_lives (with_regs pid regs) ps n (λ q. number q (q.pid == pid)) (λ q. life q (q.pid == pid))
  where
    number : (q : Proc) (b : Bool) → (cond b (record q { regs = regs }) q).pid ≡ q.pid
    number q true = refl
    number q false = refl

    life : (q : Proc) (b : Bool) → has_life (cond b (record q { regs = regs }) q).life ≡ has_life q.life
    life q true = refl
    life q false = refl

-- Changes.

pushed_old : (rs : List Residence) (x : Residence) (n : ℕ) → numbered here n (rs ++ x ∷ []) ≡ None → (numbered here n rs ≡ None) × ((x.pid == n) ≡ false)
pushed_old [] x n e = (refl, go (x.pid == n) refl e)
  where
    go : (b : Bool) → (x.pid == n) ≡ b → cond b (Some x) None ≡ None → (x.pid == n) ≡ false
    go true i z = absurd cc
    go false i z = i
pushed_old (r ∷ rs) x n e = go (r.pid == n) e (pushed_old rs x n)
  where
    go : (b : Bool) → cond b (Some r) (numbered here n (rs ++ x ∷ [])) ≡ None → (numbered here n (rs ++ x ∷ []) ≡ None → (numbered here n rs ≡ None) × ((x.pid == n) ≡ false))
        → (cond b (Some r) (numbered here n rs) ≡ None) × ((x.pid == n) ≡ false)
    go true z ih = absurd cc
    go false z ih = ih z

pub begun : (rs : List Residence) (child at n : ℕ) → (n ≡ child) ⊎ (numbered here n rs ≢ None)
    → numbered here n (rs ++ record { pid = child; out = false; since = at } ∷ []) ≢ None
begun rs child at n (inl i) = λ z. (let y : false ≡ true = sym (pushed_old rs (record { pid = child; out = false; since = at }) n z).1 ∙ ap (λ (m : ℕ). child == m) i ∙ eq_self child in cc)
begun rs child at n (inr h) = λ z. h (pushed_old rs (record { pid = child; out = false; since = at }) n z).0

ended_none : (rs : List Residence) (pid n : ℕ) → n ≢ pid → numbered here n (filter (λ (r : Residence). not (r.pid == pid)) rs) ≡ None
    → numbered here n rs ≡ None
ended_none [] pid n d e = refl
ended_none (r ∷ rs) pid n d e = go (r.pid == pid) (r.pid == n) refl refl e (ended_none rs pid n d)
  where
    go : (b c : Bool) → (r.pid == pid) ≡ b → (r.pid == n) ≡ c
        → numbered here n (cond (not b) (r ∷ filter (λ (r : Residence). not (r.pid == pid)) rs) (filter (λ (r : Residence). not (r.pid == pid)) rs)) ≡ None
        → (numbered here n (filter (λ (r : Residence). not (r.pid == pid)) rs) ≡ None → numbered here n rs ≡ None) → cond c (Some r) (numbered here n rs) ≡ None
    go true true i k z ih = absurd (d (sym (eqb-true r.pid n k) ∙ eqb-true r.pid pid i))
    go true false i k z ih = ih z
    go false true i k z ih = absurd (let y : Some r ≡ None = sym (ap (λ (c : Bool). cond c (Some r) (numbered here n (filter (λ (r : Residence). not (r.pid == pid)) rs))) k) ∙ z in cc)
    go false false i k z ih = ih (sym (ap (λ (c : Bool). cond c (Some r) (numbered here n (filter (λ (r : Residence). not (r.pid == pid)) rs))) k) ∙ z)

-- who ends doesn't last
abbrev Lasting : Change → ℕ → ℕ → Type 0
Lasting (End status) pid n = n ≢ pid
Lasting change pid n = Unit {0}

-- a child is a resident, and each other that lasts stays one
change_resides : (who : Changing) (p : Placement) (change : Change) (n : ℕ)
    → IsChild change n ⊎ (IsResident p n × Lasting change who.pid n)
    → IsResident (place_change who p change) n
change_resides who p (Resize d s) n (inr h) = let sh : Shaped p (drop_all p (dropped_pages p who.sid d s)) =
    drop_all_shaped (dropped_pages p who.sid d s) p in resides p.residents (place_change who p (Resize d s)).residents n sh.residents h.0
change_resides who p (Fork child) n (inl c) = begun p.residents child who.at n (inl c)
change_resides who p (Fork child) n (inr h) = begun p.residents child who.at n (inr h.0)
change_resides who p (Lend child) n (inl c) = begun p.residents child who.at n (inl c)
change_resides who p (Lend child) n (inr h) = begun p.residents child who.at n (inr h.0)
change_resides who p (Exec image top) n (inr h) =
    let p1 : Placement = enter_image p who.next_sid image (facts_numbered who.images image) in
    let g : Gone p1 (give_up_unless who.borrowed p1 who.sid) who.borrowed who.sid = gone_unless who.borrowed p1 who.sid in
    resides p.residents (give_up_unless who.borrowed p1 who.sid).residents n (g.residents ∙ entered (facts_numbered who.images image)) h.0
  where
    entered : (o : Option Image) → (enter_image p who.next_sid image o).residents ≡ p.residents
    entered None = refl
    entered (Some facts) = refl
change_resides who p _ n (inl c) = absurd c
change_resides who p (End status) n (inr h) =
    let g : Gone p (give_up_unless who.borrowed p who.sid) who.borrowed who.sid = gone_unless who.borrowed p who.sid in
    λ z. h.0 (ap (numbered here n) (sym g.residents) ∙ ended_none (give_up_unless who.borrowed p who.sid).residents who.pid n h.1 z)
change_resides who p _ n (inr h) = h.0

pub one_each : (ps : List Proc) → AllDistinct (map (λ (p : Proc). p.pid) ps) → OneEach ps
one_each [] d = tt
one_each (p ∷ ps) d = (absent_none (λ (q : Proc). q.pid) p.pid ps d.0, one_each ps d.1)

child_or : (change : Change) (n : ℕ) → IsChild change n ⊎ (IsChild change n → ⊥)
child_or (Fork child) n = cases_eq n child
child_or (Lend child) n = cases_eq n child
child_or _ n = inr (λ z. z)

lasting : (ps : List Proc) (x : Proc) (next n : ℕ) (change : Change) → lives (procs_after ps x next change) n ≡ true → Lasting change x.pid n
lasting ps x next n (End status) e =
    λ h. absurd (let z : true ≡ false = sym e ∙ ap (lives (left_procs (x.parent == 0) (orphaned_procs ps x.pid) x status)) h ∙ left_dead (x.parent == 0) (orphaned_procs ps x.pid) x status in cc)
lasting ps x next n _ e = tt

-- who lives after a change is a child, or lived before and lasts
lived : (ps : List Proc) (x : Proc) (next n : ℕ) (change : Change) → lives ps x.pid ≡ true → OneEach ps
    → lives (procs_after ps x next change) n ≡ true → IsChild change n ⊎ ((lives ps n ≡ true) × Lasting change x.pid n)
lived ps x next n change a o e = elim (child_or change n) [
  | inl c ↦ inl c
  | inr c ↦ inr (after_back ps x next n change a (λ status i. o) c e, lasting ps x next n change e)
]

-- each process that lives resides after a change of one that lived before it
pub change_reside : (images : List Image) (k : Kernel) (x : Proc) (e : Entry) (change : Change) → lives k.processes x.pid ≡ true
    → AllDistinct (map (λ (p : Proc). p.pid) k.processes) → EachResides k
    → EachResides (change_by images k x e change)
change_reside images k x e change a d r = λ n l. change_resides (changing_of images k x e) k.place change n
    (elim (lived k.processes x k.next_sid n change a (one_each k.processes d) l) [
      | inl c ↦ inl c
      | inr h ↦ inr (r n h.0, h.1)
    ])

-- The start.

pub started_in : (k n : ℕ) (first : List Starting) → is_started k first n ≡ true → numbered here n (residents_from k first) ≢ None
started_in k n [] e = absurd cc
started_in k n (a ∷ more) e = go (k == n) e (started_in (k + 1) n more)
  where
    go : (b : Bool) → cond b true (is_started (k + 1) more n) ≡ true → (is_started (k + 1) more n ≡ true → numbered here n (residents_from (k + 1) more) ≢ None)
        → cond b (Some (let r : Residence = record { pid = k; out = false; since = 0 } in r)) (numbered here n (residents_from (k + 1) more)) ≢ None
    go true x ih = λ z. cc
    go false x ih = ih x
