-- What others do leaves what a process has.
use Rattle.std.proofs.Common.{◌≡◌, ◌≢◌, ℕ, ◌==◌, ◌&&◌, Bool, true, false, cond, not, if◌then◌else◌, List, [], ◌∷◌, ◌++◌, map, filter, find, Option, Some, None, refl, sym, ap, ◌∙◌, subst}
use Rattle.std.proofs.lemmas.Bool.{eqb-true}
use Rattle.std.proofs.lemmas.Option.{same_Some}
use Rattle.vm_facts.specs.Answers.{ByteWrite}
use Rattle.vm_facts.specs.declared.regs.Regs.{Regs}
use Rattle.flat_state.specs.Space.{Space, puts}
use Rattle.flat_state.specs.Flat.{Holding, Holds, Lends, Zombie, Process, FlatState, NamedImage, Inputs, image_numbered, process_of, space_with}
use Rattle.flat_state.specs.Numbers.{IsNumbered}
use Rattle.flat_state.specs.declared.change.Change.{Change}
use Rattle.flat_state.specs.declared.change.Change.TheVariants.{Keep, Resize, Fork, Lend, Exec, Reap, Sleep, End}
use Rattle.flat_state.specs.Change.{replaced_by, replaced, with_process, without_process, resized, child_of, lends_to, returned_by, returned, given_back, entered, is_zombie, is_zombie_child, without_parent, orphaned, awake, left, changed, changed_by, changed_if, apply_change, wrote_by, wrote_if, apply_writes, NamesChild}
use Rattle.flat_model.specs.Step.{Step, step_holding, step_if, flat_step}
use Rattle.flat_laws.proofs.Forms.{Form, Missed, Came, step_form}
use Rattle.flat_laws.proofs.Others.{number_of_found}
use Rattle.flat_laws.specs.Alone.{Belongings}

-- the process is among these, awake, and has this
pub record Kept (qs : List Process) (pid : ℕ) (o : Belongings) : Type 0 where
  pub process : Process
  pub here : find (λ q. q.pid == pid) qs ≡ Some process
  pub holds : process.holding ≡ Holds o.space
  pub regs : process.regs ≡ o.regs
  pub woke : process.asleep ≡ false

with_found : (qs rs : List Process) (pid : ℕ) (o : Belongings) (k : Kept qs pid o) → find (λ q. q.pid == pid) rs ≡ Some k.process → Kept rs pid o
with_found qs rs pid o k e = record { process = k.process; here = e; holds = k.holds; regs = k.regs; woke = k.woke }

-- ---- lists

find_replaced : (qs : List Process) (p q : Process) (pid : ℕ) → p.pid ≢ pid → find (λ x. x.pid == pid) qs ≡ Some q → find (λ x. x.pid == pid)
    (replaced qs p) ≡ Some q
unfolding replaced
find_replaced [] p q pid other e = absurd cc
find_replaced (x ∷ xs) p q pid other e = go (x.pid == p.pid) refl (λ k. find_replaced xs p q pid other k)
  where
    differs : (n : ℕ) → (n == pid) ≡ true → n ≡ p.pid → ⊥
    differs n a b = other (sym b ∙ eqb-true n pid a)

    tested : (b : Bool) → (p.pid == pid) ≡ b → b ≡ false
    tested true i = absurd (other (eqb-true p.pid pid i))
    tested false i = refl

    go : (b : Bool) → (x.pid == p.pid) ≡ b → (find (λ y. y.pid == pid) xs ≡ Some q → find (λ y. y.pid == pid) (replaced xs p) ≡ Some q) → find (λ y. y.pid == pid)
        (replaced_by b p x xs (replaced xs p)) ≡ Some q
    go true i more = at (x.pid == pid) refl e
      where
        at : (c : Bool) → (x.pid == pid) ≡ c → cond c (Some x) (find (λ y. y.pid == pid) xs) ≡ Some q → cond (p.pid == pid) (Some p) (find (λ y. y.pid == pid) xs) ≡ Some q
        at true j k = absurd (differs x.pid j (eqb-true x.pid p.pid i))
        at false j k = ap (λ (c : Bool). cond c (Some p) (find (λ y. y.pid == pid) xs)) (tested (p.pid == pid) refl) ∙ k
    go false i more = at (x.pid == pid) refl e
      where
        at : (c : Bool) → (x.pid == pid) ≡ c → cond c (Some x) (find (λ y. y.pid == pid) xs) ≡ Some q → cond (x.pid == pid) (Some x) (find (λ y. y.pid == pid) (replaced xs p)) ≡ Some q
        at true j k = ap (λ (c : Bool). cond c (Some x) (find (λ y. y.pid == pid) (replaced xs p))) j ∙ k
        at false j k = ap (λ (c : Bool). cond c (Some x) (find (λ y. y.pid == pid) (replaced xs p))) j ∙ more k

find_returned : (of : ℕ) (s t : Space) (qs : List Process) (q : Process) (pid : ℕ) → q.holding ≡ Holds t → find (λ x. x.pid == pid) qs ≡ Some q → find
    (λ x. x.pid == pid) (returned of s qs) ≡ Some q
unfolding returned
find_returned of s t [] q pid h e = absurd cc
find_returned of s t (x ∷ xs) q pid h e = go (lends_to of x.holding) refl (λ k. find_returned of s t xs q pid h k)
  where
    apart : x ≡ q → lends_to of x.holding ≡ true → ⊥
    apart same l = absurd (let z : true ≡ false = sym l ∙ ap (λ (y : Process). lends_to of y.holding) same ∙ ap (lends_to of) h in cc)

    go : (b : Bool) → lends_to of x.holding ≡ b → (find (λ y. y.pid == pid) xs ≡ Some q → find (λ y. y.pid == pid) (returned of s xs) ≡ Some q)
        → find (λ y. y.pid == pid) (returned_by b s x xs (returned of s xs)) ≡ Some q
    go true l more = at (x.pid == pid) e
      where
        at : (c : Bool) → cond c (Some x) (find (λ y. y.pid == pid) xs) ≡ Some q → cond c (Some (record x { holding = Holds s })) (find (λ y. y.pid == pid) xs) ≡ Some q
        at true k = absurd (apart (same_Some x q k) l)
        at false k = k
    go false l more = at (x.pid == pid) e
      where
        at : (c : Bool) → cond c (Some x) (find (λ y. y.pid == pid) xs) ≡ Some q → cond c (Some x) (find (λ y. y.pid == pid) (returned of s xs)) ≡ Some q
        at true k = k
        at false k = more k

find_filtered : (test : Process → Bool) (qs : List Process) (q : Process) (pid : ℕ) → test q ≡ true → find (λ x. x.pid == pid) qs ≡ Some q → find
    (λ x. x.pid == pid) (filter test qs) ≡ Some q
find_filtered test [] q pid t e = absurd cc
find_filtered test (x ∷ xs) q pid t e = go (x.pid == pid) (test x) refl refl e (λ k. find_filtered test xs q pid t k)
  where
    go : (a b : Bool) → (x.pid == pid) ≡ a → test x ≡ b → cond a (Some x) (find (λ y. y.pid == pid) xs) ≡ Some q
        → (find (λ y. y.pid == pid) xs ≡ Some q → find (λ y. y.pid == pid) (filter test xs) ≡ Some q) → find (λ y. y.pid == pid) (cond b (x ∷ filter test xs) (filter test xs)) ≡ Some q
    go true true i j k more = ap (λ (c : Bool). cond c (Some x) (find (λ y. y.pid == pid) (filter test xs))) i ∙ k
    go true false i j k more = absurd (let z : true ≡ false = sym t ∙ ap test (sym (same_Some x q k)) ∙ j in cc)
    go false true i j k more = ap (λ (c : Bool). cond c (Some x) (find (λ y. y.pid == pid) (filter test xs))) i ∙ more k
    go false false i j k more = more k

find_mapped : (f : Process → Process) (qs : List Process) (q : Process) (pid : ℕ) → ((x : Process) → (f x).pid ≡ x.pid) → find (λ x. x.pid == pid) qs ≡ Some q
    → find (λ x. x.pid == pid) (map f qs) ≡ Some (f q)
find_mapped f [] q pid n e = absurd cc
find_mapped f (x ∷ xs) q pid n e = ap (λ (m : ℕ). cond (m == pid) (Some (f x)) (find (λ y. y.pid == pid) (map f xs))) (n x) ∙ go (x.pid == pid) e (λ k. find_mapped f xs q pid n k)
  where
    go : (a : Bool) → cond a (Some x) (find (λ y. y.pid == pid) xs) ≡ Some q → (find (λ y. y.pid == pid) xs ≡ Some q → find (λ y. y.pid == pid) (map f xs) ≡ Some (f q))
        → cond a (Some (f x)) (find (λ y. y.pid == pid) (map f xs)) ≡ Some (f q)
    go true k more = ap (λ (y : Process). Some (f y)) (same_Some x q k)
    go false k more = more k

find_front : (qs : List Process) (p q : Process) (pid : ℕ) → find (λ x. x.pid == pid) qs ≡ Some q → find (λ x. x.pid == pid) (qs ++ p ∷ []) ≡ Some q
find_front [] p q pid e = absurd cc
find_front (x ∷ xs) p q pid e = go (x.pid == pid) e (λ k. find_front xs p q pid k)
  where
    go : (a : Bool) → cond a (Some x) (find (λ y. y.pid == pid) xs) ≡ Some q → (find (λ y. y.pid == pid) xs ≡ Some q → find (λ y. y.pid == pid) (xs ++ p ∷ []) ≡ Some q)
        → cond a (Some x) (find (λ y. y.pid == pid) (xs ++ p ∷ [])) ≡ Some q
    go true k more = k
    go false k more = more k

kept_replaced : (qs : List Process) (p : Process) (pid : ℕ) (o : Belongings) → p.pid ≢ pid → Kept qs pid o → Kept (replaced qs p) pid o
kept_replaced qs p pid o other k = with_found qs (replaced qs p) pid o k (find_replaced qs p k.process pid other k.here)

kept_returned : (of : ℕ) (s : Space) (qs : List Process) (pid : ℕ) (o : Belongings) → Kept qs pid o → Kept (returned of s qs) pid o
kept_returned of s qs pid o k = with_found qs (returned of s qs) pid o k (find_returned of s o.space qs k.process pid k.holds k.here)

kept_without : (of : ℕ) (qs : List Process) (pid : ℕ) (o : Belongings) → of ≢ pid → Kept qs pid o → Kept (filter (λ q. not (q.pid == of)) qs) pid o
kept_without of qs pid o other k =
    let q : Process = k.process in
    with_found qs (filter (λ x. not (x.pid == of)) qs) pid o k (find_filtered (λ x. not (x.pid == of)) qs k.process pid (go (q.pid == of) refl) k.here)
  where
    go : (b : Bool) → ((let q : Process = k.process in q.pid) == of) ≡ b → not b ≡ true
    go true e = absurd (other (sym (eqb-true (let q : Process = k.process in q.pid) of e) ∙ number_of_found qs pid k.process k.here))
    go false e = refl

kept_living : (of : ℕ) (qs : List Process) (pid : ℕ) (o : Belongings) → Kept qs pid o → Kept (filter (λ q. not (is_zombie_child of q)) qs) pid o
kept_living of qs pid o k =
    with_found qs (filter (λ x. not (is_zombie_child of x)) qs) pid o k
    (find_filtered (λ x. not (is_zombie_child of x)) qs k.process pid
    (ap (λ (h : Holding). not ((let q : Process = k.process in q.parent) == of && is_zombie h)) k.holds ∙ go ((let q : Process = k.process in q.parent) == of)) k.here)
  where
    go : (b : Bool) → not (b && false) ≡ true
    go true = refl
    go false = refl

kept_orphans : (of : ℕ) (qs : List Process) (pid : ℕ) (o : Belongings) → Kept qs pid o → Kept (map (without_parent of) qs) pid o
kept_orphans of qs pid o k = record {
  process = without_parent of k.process;
  here = find_mapped (without_parent of) qs k.process pid (λ x. refl) k.here;
  holds = k.holds;
  regs = k.regs;
  woke = k.woke;
}

kept_woken : (of : ℕ) (qs : List Process) (pid : ℕ) (o : Belongings) → Kept qs pid o → Kept (map (awake of) qs) pid o
kept_woken of qs pid o k = record {
  process = awake of k.process;
  here = find_mapped (awake of) qs k.process pid (λ x. refl) k.here;
  holds = k.holds;
  regs = k.regs;
  woke = go ((let q : Process = k.process in q.pid) == of);
}
  where
    go : (b : Bool) → (if b then false else (let q : Process = k.process in q.asleep)) ≡ false
    go true = refl
    go false = k.woke

kept_front : (qs : List Process) (p : Process) (pid : ℕ) (o : Belongings) → Kept qs pid o → Kept (qs ++ p ∷ []) pid o
kept_front qs p pid o k = with_found qs (qs ++ p ∷ []) pid o k (find_front qs p k.process pid k.here)

-- ---- changes

left_kept : (b : Bool) (F : FlatState) (of parent pid : ℕ) (o : Belongings) → of ≢ pid → Kept F.processes pid o → Kept (left b F of parent).processes pid o
left_kept true F of parent pid o other k = kept_without of F.processes pid o other k
left_kept false F of parent pid o other k = kept_woken parent F.processes pid o k

zombie_apart : (F : FlatState) (child pid : ℕ) (o : Belongings) → NamesChild F (Reap child) → Kept F.processes pid o → child ≢ pid
zombie_apart F child pid o may k = λ same.
    let one : Some may.0 ≡ Some k.process = sym may.2 ∙ ap (λ (n : ℕ). process_of F n) same ∙ k.here in
    let it : may.0 ≡ k.process = same_Some may.0 k.process one in
    let held : Zombie may.1 ≡ Holds o.space = sym may.3 ∙ ap (λ (r : Process). r.holding) it ∙ k.holds in
    absurd cc

entered_kept : (F : FlatState) (p : Process) (t : Space) (image : ℕ) (named : Option NamedImage) (top : List ℕ) (pid : ℕ) (o : Belongings) → p.pid ≢ pid
    → Kept F.processes pid o → Kept (entered F p t image named top).processes pid o
entered_kept F p t image None top pid o other k = k
entered_kept F p t image (Some named) top pid o other k =
    kept_returned p.pid t (with_process F record p { holding = Holds (space_with F.next_sid image named.image top) }).processes pid o
    (kept_replaced F.processes (record p { holding = Holds (space_with F.next_sid image named.image top) }) pid o other k)

changed_kept : (images : List NamedImage) (F : FlatState) (p : Process) (t : Space) (change : Change) (pid : ℕ) (o : Belongings) → NamesChild F change
    → p.pid ≢ pid
    → Kept F.processes pid o → Kept (changed images F p t change).processes pid o
changed_kept images F p t Keep pid o may other k = kept_replaced F.processes p pid o other k
changed_kept images F p t (Resize a b) pid o may other k = kept_replaced F.processes (record p { holding = Holds (resized t a b) }) pid o other k
changed_kept images F p t (Fork child) pid o may other k =
    kept_front (with_process F p).processes (child_of p child (record t { sid = F.next_sid })) pid o (kept_replaced F.processes p pid o other k)
changed_kept images F p t (Lend child) pid o may other k =
    kept_front (with_process F record p { holding = Lends t.sid child }).processes (child_of p child t) pid o
    (kept_replaced F.processes (record p { holding = Lends t.sid child }) pid o other k)
changed_kept images F p t (Exec image top) pid o may other k = entered_kept F p t image (image_numbered images image) top pid o other k
changed_kept images F p t (Reap child) pid o may other k =
    kept_replaced (without_process F child).processes p pid o other (kept_without child F.processes pid o (zombie_apart F child pid o may k) k)
changed_kept images F p t Sleep pid o may other k = kept_replaced F.processes (record p { asleep = true }) pid o other k
changed_kept images F p t (End status) pid o may other k =
    let dead : Process = record p { holding = Zombie status } in
    let gone = kept_returned p.pid t (with_process F (record p { holding = Zombie status })).processes pid o (kept_replaced F.processes (record p { holding = Zombie status }) pid o other k) in
    left_kept (p.parent == 0) (orphaned (given_back (with_process F (record p { holding = Zombie status })) p.pid t) p.pid) p.pid p.parent pid o other
    (kept_orphans p.pid (filter (λ q. not (is_zombie_child p.pid q)) (given_back (with_process F (record p { holding = Zombie status })) p.pid t).processes) pid o
    (kept_living p.pid (given_back (with_process F (record p { holding = Zombie status })) p.pid t).processes pid o gone))

change_kept : (images : List NamedImage) (F : FlatState) (of : ℕ) (regs : Regs) (change : Change) (pid : ℕ) (o : Belongings) → NamesChild F change → of ≢ pid
    → Kept F.processes pid o → Kept (apply_change images F of regs change).processes pid o
unfolding apply_change
change_kept images F of regs change pid o may other k = go (process_of F of) refl
  where
    by : (p : Process) (held : Holding) → p.pid ≢ pid → Kept (changed_by images F p change held).processes pid o
    by p (Holds t) apart = changed_kept images F p t change pid o may apart k
    by p (Lends sid child) apart = k
    by p (Zombie status) apart = k

    go : (x : Option Process) → process_of F of ≡ x → Kept (changed_if images F regs change x).processes pid o
    go None e = k
    go (Some p) e = by (record p { regs = regs }) p.holding (λ z. other (sym (number_of_found F.processes of p e) ∙ z))

writes_kept : (F : FlatState) (of : ℕ) (ws : List ByteWrite) (pid : ℕ) (o : Belongings) → of ≢ pid → Kept F.processes pid o → Kept
    (apply_writes F of ws).processes pid o
unfolding apply_writes
writes_kept F of ws pid o other k = go (process_of F of) refl
  where
    by : (p : Process) (held : Holding) → p.pid ≢ pid → Kept (wrote_by F p ws held).processes pid o
    by p (Holds t) apart = kept_replaced F.processes (record p { holding = Holds (puts t ws) }) pid o apart k
    by p (Lends sid child) apart = k
    by p (Zombie status) apart = k

    go : (x : Option Process) → process_of F of ≡ x → Kept (wrote_if F ws x).processes pid o
    go None e = k
    go (Some p) e = by p p.holding (λ z. other (sym (number_of_found F.processes of p e) ∙ z))

-- ---- a step of another process

pub step_kept : (A : Inputs) (F : FlatState) (of : ℕ) (refused : Bool) (pid : ℕ) (o : Belongings) → IsNumbered F → of ≢ pid →
    ((flat_step A F of refused).entries ≡ [] → ⊥)
    → Kept F.processes pid o → Kept (flat_step A F of refused).after.processes pid o
unfolding flat_step
step_kept A F of refused pid o nums other some k = go (process_of F of) refl some
  where
    formed : (p : Process) (t : Space) → process_of F of ≡ Some p → p.pid ≢ pid → (S : Step) → Form A.images F p t refused S → (S.entries ≡ [] → ⊥) → Kept S.after.processes pid o
    formed p t e apart S (Missed none) any = absurd (any none)
    formed p t e apart S (Came f) any =
        subst (λ (G : FlatState). Kept G.processes pid o) (sym f.after)
        (change_kept A.images (apply_writes F p.pid S.writes) p.pid S.regs S.change pid o f.may apart (writes_kept F p.pid S.writes pid o apart k))

    by : (p : Process) (held : Holding) → process_of F of ≡ Some p → p.holding ≡ held → p.pid ≢ pid → ((step_holding A.images F p refused held).entries ≡ [] → ⊥)
        → Kept (step_holding A.images F p refused held).after.processes pid o
    by p (Holds t) e h apart any = formed p t e apart (step_holding A.images F p refused (Holds t))
        (subst (λ (x : Holding). Form A.images F p t refused (step_holding A.images F p refused x)) h
        (subst (λ (x : Option Process). Form A.images F p t refused (step_if A.images F refused x)) e (step_form A F of refused p t nums e h)))
        any
    by p (Lends sid child) e h apart any = k
    by p (Zombie status) e h apart any = k

    go : (x : Option Process) → process_of F of ≡ x → ((step_if A.images F refused x).entries ≡ [] → ⊥) → Kept (step_if A.images F refused x).after.processes pid o
    go None e any = k
    go (Some p) e any = by p p.holding e refl (λ z. other (sym (number_of_found F.processes of p e) ∙ z)) any
