-- The processes of the flat machine after a step of one of them.
use Rattle.std.proofs.Common.{◌≡◌, ◌≢◌, ℕ, ◌==◌, Bool, true, false, cond, not, List, [], ◌∷◌, ◌++◌, map, filter, find, Option, Some, refl, sym, ap, ◌∙◌}
use Rattle.std.proofs.lemmas.Bool.{eqb-true}
use Rattle.flat_state.specs.Space.{Space, puts}
use Rattle.flat_state.specs.Flat.{Holding, Holds, Zombie, Process, FlatState, NamedImage, process_of, image_numbered, space_with}
use Rattle.flat_state.specs.declared.change.Change.{Change}
use Rattle.flat_state.specs.declared.change.Change.TheVariants.{Keep, Resize, Fork, Exec, Reap, Sleep, End}
use Rattle.flat_state.specs.Change.{replaced_by, replaced, with_process, child_of, resized, entered, returned, given_back, is_zombie_child, without_parent, orphaned, awake, left, changed, apply_writes, apply_change}
use Rattle.flat_state.proofs.Processes.{replaced_twice}
use Rattle.flat_model.specs.Step.{Step}
use Rattle.run_laws.proofs.Swaps.{applied}
use Rattle.run_laws.proofs.Stepping.{wrote, wrote_process}
use Rattle.load_maker.proofs.Going.{gone_on}
use Rattle.load_maker.proofs.Sleepers.{left_by}

-- ---- replacing

-- who takes his own place changes nothing
pub replaced_self : (ps : List Process) (p : Process) → find (λ r. r.pid == p.pid) ps ≡ Some p → replaced ps p ≡ ps
unfolding replaced
replaced_self [] p h = refl
replaced_self (x ∷ xs) p h = go (x.pid == p.pid) h (replaced_self xs p)
  where
    go : (b : Bool) → cond b (Some x) (find (λ r. r.pid == p.pid) xs) ≡ Some p → (find (λ r. r.pid == p.pid) xs ≡ Some p → replaced xs p ≡ xs)
        → replaced_by b p x xs (replaced xs p) ≡ x ∷ xs
    go true k later = let same : x ≡ p = cc in ap (λ (r : Process). r ∷ xs) (sym same)
    go false k later = ap (λ (qs : List Process). x ∷ qs) (later k)

-- one takes the place of another while those of a number go
pub replaced_sifted : (ps : List Process) (q : Process) (n : ℕ) → q.pid ≢ n
    → replaced (filter (λ r. not (r.pid == n)) ps) q ≡ filter (λ r. not (r.pid == n)) (replaced ps q)
unfolding replaced
replaced_sifted [] q n apart = refl
replaced_sifted (x ∷ xs) q n apart = go (x.pid == n) refl (x.pid == q.pid) refl (replaced_sifted xs q n apart)
  where
    stays : (q.pid == n) ≡ false
    stays = off (q.pid == n) refl
      where
        off : (b : Bool) → (q.pid == n) ≡ b → b ≡ false
        off true e = absurd (apart (eqb-true q.pid n e))
        off false e = refl

    go : (b : Bool) → (x.pid == n) ≡ b → (c : Bool) → (x.pid == q.pid) ≡ c
        → replaced (filter (λ r. not (r.pid == n)) xs) q ≡ filter (λ r. not (r.pid == n)) (replaced xs q)
        → replaced (cond (not b) (x ∷ filter (λ r. not (r.pid == n)) xs) (filter (λ r. not (r.pid == n)) xs)) q ≡ filter (λ r. not (r.pid == n)) (replaced_by c q x xs (replaced xs q))
    go true e true f later = absurd (apart (sym (eqb-true x.pid q.pid f) ∙ eqb-true x.pid n e))
    go true e false f later = later ∙ sym (ap (λ (y : Bool). cond (not y) (x ∷ filter (λ r. not (r.pid == n)) (replaced xs q)) (filter (λ r. not (r.pid == n)) (replaced xs q))) e)
    go false e true f later =
        ap (λ (c : Bool). replaced_by c q x (filter (λ r. not (r.pid == n)) xs) (replaced (filter (λ r. not (r.pid == n)) xs) q)) f
        ∙ sym (ap (λ (y : Bool). cond (not y) (q ∷ filter (λ r. not (r.pid == n)) xs) (filter (λ r. not (r.pid == n)) xs)) stays)
    go false e false f later =
        ap (λ (c : Bool). replaced_by c q x (filter (λ r. not (r.pid == n)) xs) (replaced (filter (λ r. not (r.pid == n)) xs) q)) f
        ∙ (ap (λ (qs : List Process). x ∷ qs) later
        ∙ sym (ap (λ (y : Bool). cond (not y) (x ∷ filter (λ r. not (r.pid == n)) (replaced xs q)) (filter (λ r. not (r.pid == n)) (replaced xs q))) e))

-- ---- steps

-- a step of a process that is found and holds this space
pub record Steps (images : List NamedImage) (F : FlatState) (pid : ℕ) (p : Process) (s : Space) (S : Step) : Type 0 where
  pub found : process_of F pid ≡ Some p
  pub holds : p.holding ≡ Holds s
  pub number : p.pid ≡ pid
  pub after : S.after ≡ apply_change images (apply_writes F pid S.writes) pid S.regs S.change

-- the process with the bytes that it wrote
abbrev pub writer : Process → Space → Step → Process
writer p s S = record p { holding = Holds (puts s S.writes) }

-- the flat machine once they are written
abbrev pub written : FlatState → Process → Space → Step → FlatState
written F p s S = with_process F (writer p s S)

pub written_is : (images : List NamedImage) (F : FlatState) (pid : ℕ) (p : Process) (s : Space) (S : Step) → Steps images F pid p s S
    → apply_writes F pid S.writes ≡ written F p s S
written_is images F pid p s S h = (wrote F pid S.writes p s h.found h.holds).is

pub after_is : (images : List NamedImage) (F : FlatState) (pid : ℕ) (p : Process) (s : Space) (S : Step) (change : Change) → Steps images F pid p s S
    → S.change ≡ change
    → S.after ≡ changed images (written F p s S) (gone_on p s S) (puts s S.writes) change
after_is images F pid p s S change h e =
    h.after ∙ (ap (λ (G : FlatState). apply_change images G pid S.regs S.change) (written_is images F pid p s S h)
    ∙ (applied images (written F p s S) pid S.regs S.change (writer p s S) (puts s S.writes) (wrote_process F pid p (puts s S.writes) h.found) refl
    ∙ ap (changed images (written F p s S) (gone_on p s S) (puts s S.writes)) e))

-- a process in place of the writer
with_is : (F : FlatState) (p : Process) (s : Space) (S : Step) (q : Process) → q.pid ≡ p.pid
    → replaced (replaced F.processes (writer p s S)) q ≡ replaced F.processes q
with_is F p s S q e = replaced_twice F.processes (writer p s S) q (sym e)

list_of : FlatState → List Process
list_of F = F.processes

module _ (images : List NamedImage) (F : FlatState) (pid : ℕ) (p : Process) (s : Space) (S : Step) where
  pub kept_list : Steps images F pid p s S → S.change ≡ Keep → (let G : FlatState = S.after in G.processes) ≡ replaced F.processes (gone_on p s S)
  unfolding list_of
  kept_list h e = ap list_of (after_is images F pid p s S Keep h e) ∙ with_is F p s S (gone_on p s S) refl

  pub slept_list : Steps images F pid p s S → S.change ≡ Sleep
      → (let G : FlatState = S.after in G.processes) ≡ replaced F.processes (record (gone_on p s S) { asleep = true })
  unfolding list_of
  slept_list h e = ap list_of (after_is images F pid p s S Sleep h e) ∙ with_is F p s S (record (gone_on p s S) { asleep = true }) refl

  pub resized_list : (d t : ℕ) → Steps images F pid p s S → S.change ≡ Resize d t
      → (let G : FlatState = S.after in G.processes) ≡ replaced F.processes (record (gone_on p s S) { holding = Holds (resized (puts s S.writes) d t) })
  unfolding list_of
  resized_list d t h e =
      ap list_of (after_is images F pid p s S (Resize d t) h e) ∙ with_is F p s S (record (gone_on p s S) { holding = Holds (resized (puts s S.writes) d t) }) refl

  pub forked_list : (child : ℕ) → Steps images F pid p s S
      → S.change ≡ Fork child
      → (let G : FlatState = S.after in G.processes) ≡ replaced F.processes (gone_on p s S) ++ child_of (gone_on p s S) child
      (record (puts s S.writes) { sid = F.next_sid }) ∷ []
  unfolding list_of
  forked_list child h e =
      ap list_of (after_is images F pid p s S (Fork child) h e)
      ∙ ap (λ (qs : List Process). qs ++ child_of (gone_on p s S) child (record (puts s S.writes) { sid = F.next_sid }) ∷ []) (with_is F p s S (gone_on p s S) refl)

  pub entered_list : (image : ℕ) (named : NamedImage)
      (top : List ℕ) → Steps images F pid p s S
      → S.change ≡ Exec image top → image_numbered images image ≡ Some named
      → (let G : FlatState = S.after in G.processes)
      ≡ returned p.pid (puts s S.writes) (replaced F.processes (record (gone_on p s S) { holding = Holds (space_with F.next_sid image named.image top) }))
  unfolding list_of
  entered_list image named top h e i =
      ap list_of (after_is images F pid p s S (Exec image top) h e ∙ ap (λ (o : Option NamedImage). entered (written F p s S) (gone_on p s S) (puts s S.writes) image o top) i)
      ∙ ap (returned p.pid (puts s S.writes)) (with_is F p s S (record (gone_on p s S) { holding = Holds (space_with F.next_sid image named.image top) }) refl)

  pub reaped_list : (child : ℕ) → Steps images F pid p s S → S.change ≡ Reap child → p.pid ≢ child
      → (let G : FlatState = S.after in G.processes) ≡ filter (λ r. not (r.pid == child)) (replaced F.processes (gone_on p s S))
  unfolding list_of
  reaped_list child h e apart =
      ap list_of (after_is images F pid p s S (Reap child) h e)
      ∙ (replaced_sifted (replaced F.processes (writer p s S)) (gone_on p s S) child apart
      ∙ ap (filter (λ r. not (r.pid == child))) (with_is F p s S (gone_on p s S) refl))

-- the process as a zombie
abbrev pub ghost_of : Process → Space → Step → ℕ → Process
ghost_of p s S status = record (gone_on p s S) { holding = Zombie status }

pub ended_list : (images : List NamedImage) (F : FlatState) (pid : ℕ) (p : Process) (s : Space) (S : Step) (status : ℕ) → Steps images F pid p s S
    → S.change ≡ End status
    → returned p.pid (puts s S.writes) (replaced F.processes (ghost_of p s S status)) ≡ replaced F.processes (ghost_of p s S status)
    → (b : Bool) → (p.parent == 0) ≡ b
    → (let G : FlatState = S.after in G.processes)
    ≡ cond b (filter (λ r. not (r.pid == p.pid)) (left_by p.pid F.processes (ghost_of p s S status)))
    (map (awake p.parent) (left_by p.pid F.processes (ghost_of p s S status)))
unfolding list_of
ended_list images F pid p s S status h e none b parent =
    ap list_of (after_is images F pid p s S (End status) h e) ∙ (ap list_of (ap (λ (c : Bool). left c (orphaned (given_back (with_process (written F p s S) (ghost_of p s S status)) p.pid
    (puts s S.writes)) p.pid) p.pid p.parent) parent)
    ∙ (by b ∙ ap (λ (qs : List Process). ends b qs) (ap (returned p.pid (puts s S.writes)) (with_is F p s S (ghost_of p s S status) refl) ∙ none)))
  where
    ends : Bool → List Process → List Process
    ends c qs = cond c (filter (λ r. not (r.pid == p.pid)) (map (without_parent p.pid) (filter (λ r. not (is_zombie_child p.pid r)) qs)))
        (map (awake p.parent) (map (without_parent p.pid) (filter (λ r. not (is_zombie_child p.pid r)) qs)))

    by : (c : Bool) → list_of (left c (orphaned (given_back (with_process (written F p s S) (ghost_of p s S status)) p.pid (puts s S.writes)) p.pid) p.pid
        p.parent)
        ≡ ends c (returned p.pid (puts s S.writes) (replaced (replaced F.processes (writer p s S)) (ghost_of p s S status)))
    by true = refl
    by false = refl

-- no bytes written change nothing
pub none_written : (F : FlatState) (p : Process) (s : Space) → process_of F p.pid ≡ Some p → p.holding ≡ Holds s → apply_writes F p.pid [] ≡ F
none_written F p s found holds =
    (wrote F p.pid [] p s found holds).is
    ∙ (ap (λ (h : Holding). with_process F (record p { holding = h })) (sym holds) ∙ ap (λ (ps : List Process). let G : FlatState = record F { processes = ps } in G)
    (replaced_self F.processes p found))
