-- The registers of processes are longwords: at the start, after changes, and after steps.
use Rattle.std.proofs.Common.{◌≡◌, ℕ, zero, suc, ◌+◌, ◌<◌, ◌^◌, ◌==◌, Bool, true, false, cond, not, List, [], ◌∷◌, ◌++◌, map, filter, find, slice_set, Option, Some, None, refl, sym, ◌∙◌, subst, arith}
use Rattle.std.proofs.lemmas.List.{length-set}
use Rattle.vm_facts.specs.Answers.{ByteWrite}
use Rattle.flat_state.specs.Space.{Space}
use Rattle.flat_state.specs.Flat.{Holding, Holds, Lends, Zombie, Process, FlatState, NamedImage, Inputs, image_numbered, process_of, start_regs, start_if, start_processes, start_state, space_with}
use Rattle.vm_facts.specs.declared.regs.Regs.{Regs}
use Rattle.vax_code.specs.Grammar.{AreOctets}
use Rattle.kernel_model.specs.UPage.{AllLongwords, AreRegs}
use Rattle.flat_state.specs.declared.change.Change.{Change}
use Rattle.flat_state.specs.declared.change.Change.TheVariants.{Keep, Resize, Fork, Lend, Exec, Reap, Sleep, End}
use Rattle.flat_state.specs.Change.{with_results, replaced, replaced_by, returned, returned_by, lends_to, with_process, is_zombie_child, without_parent, orphaned, awake, left, ended, entered, given_back, changed, changed_by, changed_if, apply_change, apply_writes, wrote_by, wrote_if}
use Rattle.flat_laws.proofs.Others.{number_of_found}
use Rattle.flat_laws.specs.Longwords.{HasOctets, HeldFits, ProcessFits, ProcessesFit, ImageFits, AllImages, ChangeFits, AreWritten}
use Rattle.flat_laws.proofs.Octets.{octets_resized, puts_octets, start_page_octets}

longwords_set : (ws : List ℕ) (i x : ℕ) → x < 2 ^ 32 → AllLongwords ws → AllLongwords (slice_set ws i x)
longwords_set [] i x small h = tt
longwords_set (w ∷ ws) zero x small h = (small, h.1)
longwords_set (w ∷ ws) (suc i) x small h = (h.0, longwords_set ws i x small h.1)

-- one register takes a longword
pub regs_set : (regs : Regs) (i x : ℕ) → x < 2 ^ 32 → AreRegs regs → AreRegs (record regs { r = slice_set regs.r i x })
regs_set regs i x small h = record { count = length-set regs.r i x ∙ h.count; each = longwords_set regs.r i x small h.each }

pub results_are : (regs : Regs) (a b : ℕ) → a < 2 ^ 32 → b < 2 ^ 32 → AreRegs regs → AreRegs (with_results regs a b)
results_are regs a b x y h = regs_set (record regs { r = slice_set regs.r 0 a }) 1 b y (regs_set regs 0 a x h)

pub start_are : (entry : ℕ) (arguments : List (List ℕ)) → entry + 2 < 2 ^ 32 → AreRegs (start_regs entry arguments)
unfolding start_regs
start_are entry arguments small = record {
  count = refl;
  each = let z : 0 < 2 ^ 32 = omega arith in (z, (z, (z, (z, (z, (z, (z, (z, (z, (z, (z, (z, (z, (z, (omega arith, (small, tt))))))))))))))));
}

-- Lists of processes.

pub replaced_regs : (ps : List Process) (p : Process) → ProcessFits p → ProcessesFit ps → ProcessesFit (replaced ps p)
unfolding replaced
replaced_regs [] p k h = tt
replaced_regs (q ∷ ps) p k h = go (q.pid == p.pid) (replaced_regs ps p k h.1)
  where
    go : (b : Bool) → ProcessesFit (replaced ps p) → ProcessesFit (replaced_by b p q ps (replaced ps p))
    go true later = (k, h.1)
    go false later = (h.0, later)

returned_regs : (pid : ℕ) (s : Space) (ps : List Process) → HasOctets s → ProcessesFit ps → ProcessesFit (returned pid s ps)
unfolding returned
returned_regs pid s [] o h = tt
returned_regs pid s (q ∷ ps) o h = go (lends_to pid q.holding) (returned_regs pid s ps o h.1)
  where
    go : (b : Bool) → ProcessesFit (returned pid s ps) → ProcessesFit (returned_by b s q ps (returned pid s ps))
    go true later = ((h.0.0, o), h.1)
    go false later = (h.0, later)

filtered_regs : (test : Process → Bool) (ps : List Process) → ProcessesFit ps → ProcessesFit (filter test ps)
filtered_regs test [] h = tt
filtered_regs test (q ∷ ps) h = go (test q) (filtered_regs test ps h.1)
  where
    go : (b : Bool) → ProcessesFit (filter test ps) → ProcessesFit (cond b (q ∷ filter test ps) (filter test ps))
    go true later = (h.0, later)
    go false later = later

pushed_regs : (ps : List Process) (p : Process) → ProcessFits p → ProcessesFit ps → ProcessesFit (ps ++ p ∷ [])
pushed_regs [] p k h = (k, tt)
pushed_regs (q ∷ ps) p k h = (h.0, pushed_regs ps p k h.1)

orphans_regs : (pid : ℕ) (ps : List Process) → ProcessesFit ps → ProcessesFit (map (without_parent pid) ps)
orphans_regs pid [] h = tt
orphans_regs pid (q ∷ ps) h = (h.0, orphans_regs pid ps h.1)

awake_regs : (pid : ℕ) (ps : List Process) → ProcessesFit ps → ProcessesFit (map (awake pid) ps)
awake_regs pid [] h = tt
awake_regs pid (q ∷ ps) h = (h.0, awake_regs pid ps h.1)

-- a process that a test finds
pub found_regs : (test : Process → Bool) (ps : List Process) (p : Process) → find test ps ≡ Some p → ProcessesFit ps → ProcessFits p
found_regs test [] p e h = absurd cc
found_regs test (q ∷ ps) p e h = go (λ k. found_regs test ps p k h.1) (test q) e
  where
    go : (find test ps ≡ Some p → ProcessFits p) → (b : Bool) → cond b (Some q) (find test ps) ≡ Some p → ProcessFits p
    go later true k = let same : q ≡ p = cc in subst (λ (r : Process). ProcessFits r) same h.0
    go later false k = later k

-- Images.

pub all_images : (images : List NamedImage) → ((number : ℕ) (named : NamedImage) → image_numbered images number ≡ Some named → ImageFits named)
    → AllImages images
all_images [] h = tt
all_images (first ∷ images) h = (h 1 first refl, all_images images behind)
  where
    behind : (number : ℕ) (named : NamedImage) → image_numbered images number ≡ Some named → ImageFits named
    behind zero named e = absurd cc
    behind (suc place) named e = h (suc (suc place)) named e

pub image_fits : (images : List NamedImage) (number : ℕ) (named : NamedImage) → image_numbered images number ≡ Some named → AllImages images → ImageFits named
image_fits images zero named e h = absurd cc
image_fits [] (suc place) named e h = absurd cc
image_fits (first ∷ images) (suc zero) named e h = let same : first ≡ named = cc in subst ImageFits same h.0
image_fits (first ∷ images) (suc (suc place)) named e h = image_fits images (suc place) named e h.1

-- Changes.

left_regs : (b : Bool) (F : FlatState) (pid parent : ℕ) → ProcessesFit F.processes → ProcessesFit (left b F pid parent).processes
left_regs true F pid parent h = filtered_regs (λ q. not (q.pid == pid)) F.processes h
left_regs false F pid parent h = awake_regs parent F.processes h

entered_regs : (images : List NamedImage) (F : FlatState) (p : Process) (s : Space) (image : ℕ) (top : List ℕ) → AllImages images → AreRegs p.regs
    → HasOctets s → AreOctets top → ProcessesFit F.processes
    → ProcessesFit (entered F p s image (image_numbered images image) top).processes
entered_regs images F p s image top all k o t h = go (image_numbered images image) refl
  where
    go : (found : Option NamedImage) → image_numbered images image ≡ found → ProcessesFit (entered F p s image found top).processes
    go None e = h
    go (Some named) e =
        let fits : ImageFits named = image_fits images image named e all in
        returned_regs p.pid s (replaced F.processes record p { holding = Holds (space_with F.next_sid image named.image top) }) o
        (replaced_regs F.processes (record p { holding = Holds (space_with F.next_sid image named.image top) }) (k, record { text = fits.text; «data» = fits.data; stack = t }) h)

ended_regs : (F : FlatState) (p : Process) (s : Space) (status : ℕ) → AreRegs p.regs → HasOctets s → status < 2 ^ 32 → ProcessesFit F.processes
    → ProcessesFit (ended F p s status).processes
ended_regs F p s status k o small h =
    let gone : Process = record p { holding = Zombie status } in
    let back = returned_regs p.pid s (replaced F.processes gone) o (replaced_regs F.processes gone (k, small) h) in
    left_regs (p.parent == 0) (orphaned (given_back (with_process F gone) p.pid s) p.pid) p.pid p.parent
    (orphans_regs p.pid (filter (λ q. not (is_zombie_child p.pid q)) (returned p.pid s (replaced F.processes gone)))
    (filtered_regs (λ q. not (is_zombie_child p.pid q)) (returned p.pid s (replaced F.processes gone)) back))

changed_regs : (images : List NamedImage) (F : FlatState) (p : Process) (s : Space) (change : Change) → AllImages images → AreRegs p.regs
    → p.holding ≡ Holds s → HasOctets s → p.pid < 2 ^ 32 → ChangeFits change
    → ProcessesFit F.processes → ProcessesFit (changed images F p s change).processes
changed_regs images F p s Keep all k e o small fits h = replaced_regs F.processes p (k, subst HeldFits (sym e) o) h
changed_regs images F p s (Resize data_pages stack_pages) all k e o small fits h =
    replaced_regs F.processes _ (k, record { text = o.text; «data» = octets_resized data_pages s.data_bytes o.data; stack = octets_resized stack_pages s.stack_bytes o.stack }) h
changed_regs images F p s (Fork child) all k e o small fits h =
    pushed_regs (replaced F.processes p) _ (results_are p.regs p.pid 1 small (omega arith) k, record { text = o.text; «data» = o.data; stack = o.stack })
    (replaced_regs F.processes p (k, subst HeldFits (sym e) o) h)
changed_regs images F p s (Lend child) all k e o small fits h =
    pushed_regs (replaced F.processes record p { holding = Lends s.sid child }) _ (results_are p.regs p.pid 1 small (omega arith) k, o)
    (replaced_regs F.processes (record p { holding = Lends s.sid child }) (k, tt) h)
changed_regs images F p s (Exec image top) all k e o small fits h = entered_regs images F p s image top all k o fits h
changed_regs images F p s (Reap child) all k e o small fits h =
    replaced_regs (filter (λ q. not (q.pid == child)) F.processes) p (k, subst HeldFits (sym e) o) (filtered_regs (λ q. not (q.pid == child)) F.processes h)
changed_regs images F p s Sleep all k e o small fits h = replaced_regs F.processes _ (k, subst HeldFits (sym e) o) h
changed_regs images F p s (End status) all k e o small fits h = ended_regs F p s status k o fits h

pub change_regs : (images : List NamedImage) (F : FlatState) (pid : ℕ) (regs : Regs) (change : Change) → AllImages images → AreRegs regs
    → pid < 2 ^ 32 → ChangeFits change → ProcessesFit F.processes
    → ProcessesFit (apply_change images F pid regs change).processes
unfolding apply_change
change_regs images F pid regs change all k small fits h = go (process_of F pid) refl
  where
    by : (p : Process) → ProcessFits p → p.pid < 2 ^ 32 → (held : Holding) → p.holding ≡ held → ProcessesFit (changed_by images F (record p { regs = regs }) change held).processes
    by p now low (Holds s) e = changed_regs images F (record p { regs = regs }) s change all k e (subst HeldFits e now.1) low fits h
    by p now low (Lends sid child) e = h
    by p now low (Zombie status) e = h

    go : (o : Option Process) → process_of F pid ≡ o → ProcessesFit (changed_if images F regs change o).processes
    go None e = h
    go (Some p) e = by p (found_regs (λ q. q.pid == pid) F.processes p e h) (subst (λ (n : ℕ). n < 2 ^ 32) (sym (number_of_found F.processes pid p e)) small) p.holding refl

pub writes_regs : (F : FlatState) (pid : ℕ) (writes : List ByteWrite) → AreWritten writes → ProcessesFit F.processes
    → ProcessesFit (apply_writes F pid writes).processes
unfolding apply_writes
writes_regs F pid writes w h = go (process_of F pid) refl
  where
    by : (p : Process) → ProcessFits p → (held : Holding) → p.holding ≡ held → ProcessesFit (wrote_by F p writes held).processes
    by p now (Holds s) e = replaced_regs F.processes _ (now.0, puts_octets writes s w (subst HeldFits e now.1)) h
    by p now (Lends sid child) e = h
    by p now (Zombie status) e = h

    go : (o : Option Process) → process_of F pid ≡ o → ProcessesFit (wrote_if F writes o).processes
    go None e = h
    go (Some p) e = by p (found_regs (λ q. q.pid == pid) F.processes p e h) p.holding refl

-- The start.

started_regs : (images : List NamedImage) (first : List ℕ) (n : ℕ) → AllImages images → ProcessesFit (start_processes images n first)
started_regs images [] n h = tt
started_regs images (number ∷ more) n h = go (image_numbered images number) refl (started_regs images more (n + 1) h)
  where
    go : (o : Option NamedImage) → image_numbered images number ≡ o → ProcessesFit (start_processes images (n + 1) more) → ProcessesFit (start_if n number o ++ start_processes images (n + 1) more)
    go None e k = k
    go (Some named) e k =
        let fits : ImageFits named = image_fits images number named e h in
        ((start_are named.image.facts.entry (named.name ∷ []) fits.entry, record { text = fits.text; «data» = fits.data; stack = start_page_octets (named.name ∷ []) (fits.name, tt) }), k)

pub start_regs_are : (A : Inputs) → AllImages A.images → ProcessesFit (start_state A).processes
start_regs_are A h = started_regs A.images A.first 1 h
