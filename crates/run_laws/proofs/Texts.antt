-- The text of each space is its image's, through each step.
use Rattle.std.proofs.Common.{◌≡◌, ℕ, ◌+◌, ◌==◌, Bool, true, false, cond, not, List, [], ◌∷◌, ◌++◌, map, filter, Option, Some, None, refl, sym, ap, ◌∙◌, subst}
use Rattle.vm_facts.specs.Answers.{ByteWrite}
use Rattle.flat_state.specs.Space.{Space, puts}
use Rattle.flat_state.specs.Flat.{Holding, Holds, Lends, Zombie, Process, FlatState, NamedImage, Inputs, process_of, image_numbered, start_if, start_processes, start_state}
use Rattle.vm_facts.specs.declared.regs.Regs.{Regs}
use Rattle.flat_state.specs.declared.change.Change.{Change}
use Rattle.flat_state.specs.declared.change.Change.TheVariants.{Keep, Resize, Fork, Lend, Exec, Reap, Sleep, End}
use Rattle.flat_state.specs.Change.{replaced, replaced_by, with_process, returned, returned_by, lends_to, changed, left, orphaned, ended, entered, is_zombie_child, without_parent, awake, wrote_by, wrote_if, apply_writes, apply_change}
use Rattle.kernel_laws.proofs.Machine.Swaps.{applied}
use Rattle.run_laws.specs.Standing.{EachProcess, IsText, HasText, TextsHeld}
use Rattle.kernel_model.specs.Invariant.{EntersImage}
use Rattle.run_laws.proofs.Touching.{found_process}
use Rattle.run_laws.proofs.Writing.{SameSpace, puts_same}

-- Lists of processes.

pub each_replaced : (P : Process → Type 0) (ps : List Process) (p : Process) → EachProcess P ps → P p → EachProcess P (replaced ps p)
unfolding replaced
each_replaced P [] p h k = tt
each_replaced P (q ∷ ps) p h k = go (q.pid == p.pid) (each_replaced P ps p h.1 k)
  where
    go : (b : Bool) → EachProcess P (replaced ps p) → EachProcess P (replaced_by b p q ps (replaced ps p))
    go true ih = (k, h.1)
    go false ih = (h.0, ih)

pub each_left : (P : Process → Type 0) (test : Process → Bool) (ps : List Process) → EachProcess P ps → EachProcess P (filter test ps)
each_left P test [] h = tt
each_left P test (q ∷ ps) h = go (test q) (each_left P test ps h.1)
  where
    go : (b : Bool) → EachProcess P (filter test ps) → EachProcess P (cond b (q ∷ filter test ps) (filter test ps))
    go true ih = (h.0, ih)
    go false ih = ih

pub each_mapped : (P : Process → Type 0) (f : Process → Process) (ps : List Process) → ((q : Process) → P q → P (f q)) → EachProcess P ps
    → EachProcess P (map f ps)
each_mapped P f [] k h = tt
each_mapped P f (q ∷ ps) k h = (k q h.0, each_mapped P f ps k h.1)

pub each_last : (P : Process → Type 0) (ps : List Process) (p : Process) → EachProcess P ps → P p → EachProcess P (ps ++ p ∷ [])
each_last P [] p h k = (k, tt)
each_last P (q ∷ ps) p h k = (h.0, each_last P ps p h.1 k)

-- Texts.

abbrev Text : List NamedImage → Process → Type 0
Text images q = HasText images q.holding

text_returned : (images : List NamedImage) (pid : ℕ) (s : Space) (ps : List Process) → IsText images s → EachProcess (Text images) ps
    → EachProcess (Text images) (returned pid s ps)
unfolding returned
text_returned images pid s [] t h = tt
text_returned images pid s (q ∷ ps) t h = go (lends_to pid q.holding) (text_returned images pid s ps t h.1)
  where
    go : (b : Bool) → EachProcess (Text images) (returned pid s ps) → EachProcess (Text images) (returned_by b s q ps (returned pid s ps))
    go true ih = (t, h.1)
    go false ih = (h.0, ih)

left_texts : (images : List NamedImage) (b : Bool) (F : FlatState) (pid parent : ℕ) → EachProcess (Text images) F.processes
    → EachProcess (Text images) (left b F pid parent).processes
left_texts images true F pid parent h = each_left (Text images) (λ q. not (q.pid == pid)) F.processes h
left_texts images false F pid parent h = each_mapped (Text images) (awake parent) F.processes (λ q k. k) h

changed_texts : (images : List NamedImage) (F : FlatState) (p : Process) (s : Space) (change : Change) → EntersImage images change
    → p.holding ≡ Holds s → IsText images s → TextsHeld images F → TextsHeld images (changed images F p s change)
changed_texts images F p s Keep x h t e = each_replaced (Text images) F.processes p e (subst (HasText images) (sym h) t)
changed_texts images F p s (Resize d r) x h t e =
    each_replaced (Text images) F.processes (record p { holding = Holds (Rattle.flat_state.specs.Change.resized s d r) }) e (record { named = t.named; image = t.image; same = t.same })
changed_texts images F p s (Fork child) x h t e =
    each_last (Text images) (replaced F.processes p) (Rattle.flat_state.specs.Change.child_of p child (record s { sid = F.next_sid }))
    (each_replaced (Text images) F.processes p e (subst (HasText images) (sym h) t)) (record { named = t.named; image = t.image; same = t.same })
changed_texts images F p s (Lend child) x h t e =
    each_last (Text images) (replaced F.processes (record p { holding = Lends s.sid child })) (Rattle.flat_state.specs.Change.child_of p child s)
    (each_replaced (Text images) F.processes (record p { holding = Lends s.sid child }) e tt) t
changed_texts images F p s (Exec number top) (named, im, whole) h t e = subst (λ (o : Option NamedImage). TextsHeld images (entered F p s number o top)) (sym im)
    (text_returned images p.pid s (replaced F.processes (record p { holding = Holds (Rattle.flat_state.specs.Flat.space_with F.next_sid number named.image top) })) t
    (each_replaced (Text images) F.processes (record p { holding = Holds (Rattle.flat_state.specs.Flat.space_with F.next_sid number named.image top) }) e
    (record { named = named; image = im; same = refl })))
changed_texts images F p s (Reap child) x h t e =
    each_replaced (Text images) (filter (λ q. not (q.pid == child)) F.processes) p (each_left (Text images) (λ q. not (q.pid == child)) F.processes e) (subst (HasText images) (sym h) t)
changed_texts images F p s Sleep x h t e = each_replaced (Text images) F.processes (record p { asleep = true }) e (subst (HasText images) (sym h) t)
changed_texts images F p s (End status) x h t e =
    left_texts images (p.parent == 0) (orphaned (Rattle.flat_state.specs.Change.given_back (with_process F record p { holding = Zombie status }) p.pid s) p.pid) p.pid p.parent
    (each_mapped (Text images) (without_parent p.pid) (filter (λ q. not (is_zombie_child p.pid q)) (returned p.pid s (replaced F.processes (record p { holding = Zombie status })))) (λ q k. k)
    (each_left (Text images) (λ q. not (is_zombie_child p.pid q)) (returned p.pid s (replaced F.processes (record p { holding = Zombie status })))
    (text_returned images p.pid s (replaced F.processes (record p { holding = Zombie status })) t (each_replaced (Text images) F.processes (record p { holding = Zombie status }) e tt))))

module _ (images : List NamedImage) (F : FlatState) (pid : ℕ) where
  own_text : (q : Process) (s : Space) → process_of F pid ≡ Some q → q.holding ≡ Holds s → TextsHeld images F → IsText images s
  own_text q s f h e = subst (HasText images) h (found_process (Text images) F.processes pid q e f)

  pub change_texts : (regs : Regs) (change : Change) (q : Process) (s : Space) → process_of F pid ≡ Some q → q.holding ≡ Holds s → EntersImage images change
      → TextsHeld images F → TextsHeld images (apply_change images F pid regs change)
  change_texts regs change q s f h x e =
      subst (TextsHeld images) (sym (applied images F pid regs change q s f h)) (changed_texts images F (record q { regs = regs }) s change x h (own_text q s f h e) e)

  pub write_texts : (ws : List ByteWrite) (q : Process) (s : Space) → process_of F pid ≡ Some q
      → q.holding ≡ Holds s → TextsHeld images F → TextsHeld images (apply_writes F pid ws)
  unfolding apply_writes
  write_texts ws q s f h e =
      subst (λ (o : Option Process). TextsHeld images (wrote_if F ws o)) (sym f)
      (subst (λ (x : Holding). TextsHeld images (wrote_by F q ws x)) (sym h)
      (let t : IsText images s = own_text q s f h e in
      let z : SameSpace s (puts s ws) = puts_same ws s in
      each_replaced (Text images) F.processes (record q { holding = Holds (puts s ws) }) e (record { named = t.named; image = ap (image_numbered images) z.image ∙ t.image; same = z.text ∙ t.same })))

-- at the start
pub start_texts : (images : List NamedImage) (pid : ℕ) (first : List ℕ) → EachProcess (Text images) (start_processes images pid first)
start_texts images pid [] = tt
start_texts images pid (number ∷ more) = go (image_numbered images number) refl (start_texts images (pid + 1) more)
  where
    go : (o : Option NamedImage) → image_numbered images number ≡ o → EachProcess (Text images) (start_processes images (pid + 1) more)
        → EachProcess (Text images) (start_if pid number o ++ start_processes images (pid + 1) more)
    go None e ih = ih
    go (Some named) e ih = (record { named = named; image = e; same = refl }, ih)
