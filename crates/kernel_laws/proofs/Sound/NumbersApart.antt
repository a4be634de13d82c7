-- The numbers of spaces and processes stay apart, and below those to come.
use Rattle.std.proofs.Common.{◌≡◌, ◌≢◌, ℕ, zero, suc, ◌+◌, ◌==◌, Bool, true, false, not, ◌&&◌, cond, List, [], ◌∷◌, ◌++◌, length, map, filter, Option, Some, None, refl, sym, ap, ◌∙◌, subst, arith, inl, inr}
use Rattle.std.proofs.lemmas.Bool.{cases_eq}
use Rattle.std.proofs.lemmas.List.{map-append}
use Rattle.kernel_laws.proofs.Machine.Processes.{distinct_filter}
use Rattle.kernel_laws.proofs.Flat.Numbers.{below_more}
use Rattle.vm_facts.specs.declared.page.Page.{Page}
use Rattle.vm_facts.specs.declared.page.Page.TheVariants.{Data, Stack, Text}
use Rattle.vm_facts.specs.declared.page.PageState.{PageState}
use Rattle.vm_facts.specs.declared.regs.Regs.{Regs}
use Rattle.vm_facts.specs.declared.entry.Entry.{Entry}
use Rattle.vm_facts.specs.declared.entry.Entry.TheVariants as entries
use Rattle.aout_image.specs.declared.Image.{Image}
use Rattle.swap_book.specs.Holdings.{Holdings}
use Rattle.flat_state.specs.declared.change.Change.{Change}
use Rattle.flat_state.specs.declared.change.Change.TheVariants.{Resize, Fork, Lend, Exec, Reap, Sleep, End}
use Rattle.flat_state.specs.Flat.{cleared, start_regs}
use Rattle.page_model.specs.Pages.{SpacePages, changed, with_data, with_stack}
use Rattle.page_model.specs.Placement.{Placement, Transfer, Part, Errand, Writes, Reads, Source, Due, space_number, state_of, mark_of, is_dirty, page_of, put, spaces_with, sharers, image_of, new_pages}
use Rattle.page_model.specs.Moves.{touch, drop_all}
use Rattle.page_model.specs.Place.{Changing, filled, put_by, put_step, place_entry, data_count, stack_count, data_from, stack_from, cut_space, resize, fork_space, enter_space, enter_image, remove_space, pages_of_space, pages_of_text, leave_text, leave_text_by, give_up, give_up_unless, place_change, facts_numbered}
use Rattle.flat_state.specs.Journal.{append}
use Rattle.kernel_model.specs.Kernel.{New, HoldsSpace, Ended, Kernel, Proc, with_regs, plain_step, zero_step, copy_step, done_step, write_step, note_step, out_step, in_step}
use Rattle.kernel_model.specs.ChangeStep.{changing_of, with_proc, without_proc, child_proc, is_ended, orphaned_procs, woken_procs, left_procs, procs_after, space_of_life, change_by, change_if, change_step, ran_by, pass_step, passed_life, life_of_proc}
use Rattle.flat_state.specs.Numbers.{IsAbsent, AllDistinct, AllBelow}
use Rattle.kernel_model.specs.Start.{begin_step}
use Rattle.kernel_model.specs.Sound.{lives}
use Rattle.kernel_model.specs.Numbers.{EachResides, Numbered, TakesNext}
use Rattle.page_model.specs.PuttingOut.{IsResident}
use Rattle.page_laws.proofs.Moves.Puts.{KeptByPuts, entry_kept, touch_kept, drop_all_kept, leave_all_kept}
use Rattle.page_laws.proofs.Ownership.Changes.{dropped_pages, cut}
use Rattle.kernel_laws.proofs.Machine.Shapes.{Shaped, touch_shaped}
use Rattle.kernel_laws.proofs.Sound.Steps.{pass_lives, proc_number}
use Rattle.kernel_laws.proofs.Sound.Changes.{find, with_number}
use Rattle.kernel_laws.proofs.Pieces.Wanted.{append_back}
use Rattle.kernel_laws.proofs.Sound.Residing.{begun, resides, each_resides, entry_resides, regs_live, change_reside}
use Rattle.kernel_laws.proofs.Machine.Swaps.{with_regs_pid}

-- The numbers of spaces stay as pages move.

abbrev pub SameSpaces : Placement → Placement → Type 0
SameSpaces p q = map space_number q.spaces ≡ map space_number p.spaces

pub changed_numbers : (n : ℕ) (change : SpacePages → SpacePages) → ((s : SpacePages) → space_number (change s) ≡ space_number s) → (ss : List SpacePages)
    → map space_number (changed space_number n change ss) ≡ map space_number ss
changed_numbers n change k [] = refl
changed_numbers n change k (s ∷ ss) = go (space_number s == n) (changed_numbers n change k ss)
  where
    go : (b : Bool) → map space_number (changed space_number n change ss) ≡ map space_number ss
        → map space_number (cond b (change s ∷ ss) (s ∷ changed space_number n change ss)) ≡ map space_number (s ∷ ss)
    go true ih = ap (λ (m : ℕ). m ∷ map space_number ss) (k s)
    go false ih = ap (λ (ms : List ℕ). space_number s ∷ ms) ih

put_numbers : (p : Placement) (v : Page) (s : PageState) (m : Bool) → SameSpaces p (put p v s m)
put_numbers p (Data t v) s m = changed_numbers t (with_data v s m) (λ x. refl) p.spaces
put_numbers p (Stack t v) s m = changed_numbers t (with_stack v s m) (λ x. refl) p.spaces
put_numbers p (Text i v) s m = refl

numbers_by_puts : KeptByPuts SameSpaces
numbers_by_puts = record { still = λ p q a b c. ap (map space_number) a; both = λ p q r a b. b ∙ a; puts = put_numbers }

pub entry_numbers : (locked : List Page) (at : ℕ) (p : Placement) (e : Entry) → SameSpaces p (place_entry locked at p e)
entry_numbers = entry_kept numbers_by_puts (λ p ds. refl) (λ p. refl) (λ p pid out at. refl)

-- Numbers that come and go.

absent_last : (m n : ℕ) (ms : List ℕ) → n ≢ m → IsAbsent m ms → IsAbsent m (ms ++ n ∷ [])
absent_last m n [] d a = (d, tt)
absent_last m n (x ∷ ms) d a = (a.0, absent_last m n ms d a.1)

distinct_last : (n : ℕ) (ms : List ℕ) → AllBelow n ms → AllDistinct ms → AllDistinct (ms ++ n ∷ [])
distinct_last n [] b d = (tt, tt)
distinct_last n (m ∷ ms) b d = (absent_last m n ms (λ e. absurd (let l = b.0 in omega arith)) d.0, distinct_last n ms b.1 d.1)

below_last : (n : ℕ) (ms : List ℕ) → AllBelow n ms → AllBelow (n + 1) (ms ++ n ∷ [])
below_last n [] b = (omega arith, tt)
below_last n (m ∷ ms) b = ((let l = b.0 in omega arith), below_last n ms b.1)

below_filter : {A : Type 0} (number : A → ℕ) (test : A → Bool) (n : ℕ) (xs : List A) → AllBelow n (map number xs) → AllBelow n (map number (filter test xs))
below_filter number test n [] b = b
below_filter {A} number test n (x ∷ xs) b = go (test x) (below_filter number test n xs b.1)
  where
    go : (c : Bool) → AllBelow n (map number (filter test xs)) → AllBelow n (map number (cond c (x ∷ filter test xs) (filter test xs)))
    go true r = (b.0, r)
    go false r = r

pub record Fine (n : ℕ) (ms : List ℕ) : Type 0 where
  pub differ : AllDistinct ms
  pub below : AllBelow n ms

fine_as : (n : ℕ) (ms ns : List ℕ) → ns ≡ ms → Fine n ms → Fine n ns
fine_as n ms ns e f = record { differ = subst AllDistinct (sym e) f.differ; below = subst (AllBelow n) (sym e) f.below }

fine_more : (n : ℕ) (ms : List ℕ) → Fine n ms → Fine (n + 1) ms
fine_more n ms f = record { differ = f.differ; below = below_more n ms f.below }

fine_last : (n : ℕ) (ms : List ℕ) → Fine n ms → Fine (n + 1) (ms ++ n ∷ [])
fine_last n ms f = record { differ = distinct_last n ms f.below f.differ; below = below_last n ms f.below }

fine_filter : {A : Type 0} (number : A → ℕ) (test : A → Bool) (n : ℕ) (xs : List A) → Fine n (map number xs) → Fine n (map number (filter test xs))
fine_filter number test n xs f = record { differ = distinct_filter number test xs f.differ; below = below_filter number test n xs f.below }

-- Spaces through changes.

abbrev pub FineSpaces : ℕ → Placement → Type 0
FineSpaces n p = Fine n (map space_number p.spaces)

same_fine : (n : ℕ) (p q : Placement) → SameSpaces p q → FineSpaces n p → FineSpaces n q
same_fine n p q s f = fine_as n (map space_number p.spaces) (map space_number q.spaces) s f

resize_numbers : (p : Placement) (sid d s : ℕ) → SameSpaces p (resize p sid d s)
resize_numbers p sid d s = changed_numbers sid (cut d s) (λ x. refl) (drop_all p (dropped_pages p sid d s)).spaces ∙ drop_all_kept numbers_by_puts (dropped_pages p sid d s) p

text_numbers : (p : Placement) (image : ℕ) → SameSpaces p (leave_text p image)
text_numbers p image = go (sharers p image)
  where
    go : (n : ℕ) → SameSpaces p (leave_text_by p image n)
    go zero = leave_all_kept numbers_by_puts (pages_of_text p image) p
    go (suc n) = refl

give_up_fine : (n : ℕ) (p : Placement) (sid : ℕ) → FineSpaces n p → FineSpaces n (give_up p sid)
give_up_fine n p sid f =
    let d : Placement = drop_all p (pages_of_space p sid) in
    same_fine n (remove_space d sid) (give_up p sid) (text_numbers (remove_space d sid) (image_of p sid))
    (fine_filter space_number (λ (s : SpacePages). not (s.sid == sid)) n d.spaces (same_fine n p d (drop_all_kept numbers_by_puts (pages_of_space p sid) p) f))

unless_fine : (borrowed : Bool) (n : ℕ) (p : Placement) (sid : ℕ) → FineSpaces n p → FineSpaces n (give_up_unless borrowed p sid)
unless_fine true n p sid f = f
unless_fine false n p sid f = give_up_fine n p sid f

add_fine : (n : ℕ) (p : Placement) (x : SpacePages) → space_number x ≡ n → FineSpaces n p → Fine (n + 1) (map space_number (p.spaces ++ x ∷ []))
add_fine n p x e f = fine_as (n + 1) (map space_number p.spaces ++ n ∷ []) (map space_number (p.spaces ++ x ∷ []))
    (map-append space_number p.spaces (x ∷ []) ∙ ap (λ (m : ℕ). map space_number p.spaces ++ m ∷ []) e) (fine_last n (map space_number p.spaces) f)

pub enter_fine : (n : ℕ) (p : Placement) (image : ℕ) (facts : Option Image) → FineSpaces n p → FineSpaces (n + 1) (enter_image p n image facts)
enter_fine n p image None f = fine_more n (map space_number p.spaces) f
enter_fine n p image (Some facts) f = add_fine n p (new_pages n image facts) refl f

pub change_fine : (c : Changing) (p : Placement) (change : Change) → FineSpaces c.next_sid p
    → FineSpaces (Rattle.kernel_model.specs.ChangeStep.sid_after c.next_sid change) (place_change c p change)
change_fine c p (Resize d s) f = same_fine c.next_sid p (resize p c.sid d s) (resize_numbers p c.sid d s) f
change_fine c p (Fork child) f = add_fine c.next_sid p (record {
  sid = c.next_sid;
  image = image_of p c.sid;
  data_pages = map Rattle.page_model.specs.Place.child_slot (Rattle.page_model.specs.Placement.slots_of p (Data c.sid 0));
  stack_pages = map Rattle.page_model.specs.Place.child_slot (Rattle.page_model.specs.Placement.slots_of p (Stack c.sid 0));
}) refl f
change_fine c p (Exec image top) f =
    unless_fine c.borrowed (c.next_sid + 1) (enter_image p c.next_sid image (facts_numbered c.images image)) c.sid (enter_fine c.next_sid p image (facts_numbered c.images image) f)
change_fine c p (End status) f = unless_fine c.borrowed c.next_sid p c.sid f
change_fine c p _ f = f

-- Processes.

abbrev pids : List Proc → List ℕ
pids ps = map (λ (p : Proc). p.pid) ps

map_pids : (f : Proc → Proc) (ps : List Proc) → ((q : Proc) → (f q).pid ≡ q.pid) → pids (map f ps) ≡ pids ps
map_pids f [] k = refl
map_pids f (q ∷ qs) k = ap (λ (n : ℕ). n ∷ pids (map f qs)) (k q) ∙ ap (λ (ns : List ℕ). q.pid ∷ ns) (map_pids f qs k)

map_fine : (n : ℕ) (f : Proc → Proc) (ps : List Proc) → ((q : Proc) → (f q).pid ≡ q.pid) → Fine n (pids ps) → Fine n (pids (map f ps))
map_fine n f ps k h = fine_as n (pids ps) (pids (map f ps)) (map_pids f ps k) h

with_fine : (n : ℕ) (ps : List Proc) (p : Proc) → Fine n (pids ps) → Fine n (pids (with_proc ps p))
with_fine n ps p f = map_fine n (λ (q : Proc). cond (q.pid == p.pid) p q) ps (with_number p) f

child_fine : (n : ℕ) (ps : List Proc) (c : Proc) → c.pid ≡ n → Fine n (pids ps) → Fine (n + 1) (pids (ps ++ c ∷ []))
child_fine n ps c e f = fine_as (n + 1) (pids ps ++ n ∷ []) (pids (ps ++ c ∷ [])) (map-append (λ (p : Proc). p.pid) ps (c ∷ []) ∙ ap (λ (m : ℕ). pids ps ++ m ∷ []) e) (fine_last n (pids ps) f)

without_fine : (n : ℕ) (ps : List Proc) (pid : ℕ) → Fine n (pids ps) → Fine n (pids (without_proc ps pid))
without_fine n ps pid f = fine_filter (λ (p : Proc). p.pid) (λ (q : Proc). not (q.pid == pid)) n ps f

orphan_fine : (n : ℕ) (ps : List Proc) (pid : ℕ) → Fine n (pids ps) → Fine n (pids (orphaned_procs ps pid))
orphan_fine n ps pid f = map_fine n (λ (q : Proc). record q { parent = cond (q.parent == pid) 0 q.parent }) (filter (λ (q : Proc). not ((q.parent == pid) && is_ended q.life)) ps) (λ q. refl)
    (fine_filter (λ (p : Proc). p.pid) (λ (q : Proc). not ((q.parent == pid) && is_ended q.life)) n ps f)

left_fine : (n : ℕ) (gone : Bool) (ps : List Proc) (p : Proc) (status : ℕ) → Fine n (pids ps) → Fine n (pids (left_procs gone ps p status))
left_fine n true ps p status f = without_fine n ps p.pid f
left_fine n false ps p status f = map_fine n (λ (q : Proc). record q { asleep = cond (q.pid == p.parent) false q.asleep }) (with_proc ps record p { life = Ended status }) (λ q. refl)
    (with_fine n ps record p { life = Ended status } f)

procs_fine : (n : ℕ) (ps : List Proc) (x : Proc) (next : ℕ) (k : Kernel) (change : Change) → k.next_pid ≡ n → TakesNext k change → Fine n (pids ps)
    → Fine (Rattle.kernel_model.specs.ChangeStep.pid_after n change) (pids (procs_after ps x next change))
procs_fine n ps x next k (Fork child) e t f = child_fine n (with_proc ps x) (child_proc x child (HoldsSpace next)) (t ∙ e) (with_fine n ps x f)
procs_fine n ps x next k (Lend child) e t f = child_fine n (with_proc ps x) (child_proc x child New) (t ∙ e) (with_fine n ps x f)
procs_fine n ps x next k (Exec image top) e t f = with_fine n ps record x { life = HoldsSpace next } f
procs_fine n ps x next k (Reap child) e t f = with_fine n (without_proc ps child) x (without_fine n ps child f)
procs_fine n ps x next k Sleep e t f = with_fine n ps record x { asleep = true } f
procs_fine n ps x next k (End status) e t f = left_fine n (x.parent == 0) (orphaned_procs ps x.pid) x status (orphan_fine n ps x.pid f)
procs_fine n ps x next k _ e t f = with_fine n ps x f

-- Steps of the whole machine.

numbered_from : (k : Kernel) → FineSpaces k.next_sid k.place → Fine k.next_pid (pids k.processes) → EachResides k → Numbered k
numbered_from k s p r = record { spaces_differ = s.differ; spaces_below = s.below; pids_differ = p.differ; pids_below = p.below; residents = r }

pub fine_spaces : (k : Kernel) → Numbered k → FineSpaces k.next_sid k.place
fine_spaces k n = record { differ = n.spaces_differ; below = n.spaces_below }

fine_pids : (k : Kernel) → Numbered k → Fine k.next_pid (pids k.processes)
fine_pids k n = record { differ = n.pids_differ; below = n.pids_below }

pub plain_numbered : (k : Kernel) (locked : List Page) (e : Entry) → Numbered k → Numbered (plain_step k locked e)
plain_numbered k locked e n =
    let at = length (append k.journal e) in
    numbered_from (plain_step k locked e) (same_fine k.next_sid k.place (place_entry locked at k.place e) (entry_numbers locked at k.place e) (fine_spaces k n)) (fine_pids k n)
    (each_resides k (plain_step k locked e) (λ m a. a) (entry_resides locked at k.place e) n.residents)

-- of steps that change no process, and leave the residents of an entry
paged_numbered : (k l : Kernel) (e : Entry) → l.next_sid ≡ k.next_sid → l.next_pid ≡ k.next_pid → l.processes ≡ k.processes
    → l.place ≡ place_entry [] 0 k.place e → Numbered k → Numbered l
paged_numbered k l e s p ps is n = numbered_from l
    (subst (λ (m : ℕ). FineSpaces m l.place) (sym s)
    (subst (FineSpaces k.next_sid) (sym is) (same_fine k.next_sid k.place (place_entry [] 0 k.place e) (entry_numbers [] 0 k.place e) (fine_spaces k n))))
    (subst (λ (m : ℕ). Fine m (pids l.processes)) (sym p) (subst (λ (xs : List Proc). Fine k.next_pid (pids xs)) (sym ps) (fine_pids k n)))
    (each_resides k l (λ m a. ap (λ (xs : List Proc). lives xs m) (sym ps) ∙ a) (λ m h. subst (λ (q : Placement). IsResident q m) (sym is) (entry_resides [] 0 k.place e m h)) n.residents)

pub zero_numbered : (k : Kernel) (q : Page) → Numbered k → Numbered (zero_step k q)
zero_numbered k q n = paged_numbered k (zero_step k q) (entries.Zero q) refl refl refl refl n

pub copy_numbered : (k : Kernel) (q : Page) → Numbered k → Numbered (copy_step k q)
copy_numbered k q n = paged_numbered k (copy_step k q) (entries.Copy q) refl refl refl refl n

pub done_numbered : (k : Kernel) (read : List (List ℕ)) → Numbered k → Numbered (done_step k read)
done_numbered k read n = paged_numbered k (done_step k read) entries.Done refl refl refl refl n

pub write_numbered : (k : Kernel) (q : Page) (f at byte : ℕ) → Numbered k → Numbered (write_step k q f at byte)
write_numbered k q f at byte n = numbered_from (write_step k q f at byte) (same_fine k.next_sid k.place (touch k.place q) (touch_kept numbers_by_puts k.place q) (fine_spaces k n)) (fine_pids k n)
    (each_resides k (write_step k q f at byte) (λ m a. a)
    (λ m h. let x : Shaped k.place (touch k.place q) = touch_shaped k.place q in resides k.place.residents (touch k.place q).residents m x.residents h) n.residents)

pub note_numbered : (k : Kernel) (e : Entry) → Numbered k → Numbered (note_step k e)
note_numbered k e n = numbered_from (note_step k e) (fine_spaces k n) (fine_pids k n) n.residents

-- other registers of a process
regs_numbered : (k : Kernel) (pid : ℕ) (regs : Regs) → Numbered k → Numbered (record k { processes = map (with_regs pid regs) k.processes })
regs_numbered k pid regs n = let l : Kernel = record k { processes = map (with_regs pid regs) k.processes } in
    numbered_from l (fine_spaces k n) (map_fine k.next_pid (with_regs pid regs) k.processes (with_regs_pid pid regs) (fine_pids k n))
    (each_resides k l (λ m a. sym (regs_live pid regs k.processes m) ∙ a) (λ m h. h) n.residents)

pub out_numbered : (k : Kernel) (pid : ℕ) → Numbered k → Numbered (out_step k pid)
out_numbered k pid n = regs_numbered (plain_step k [] (entries.SwapOut pid)) pid cleared (plain_numbered k [] (entries.SwapOut pid) n)

pub in_numbered : (k : Kernel) (pid : ℕ) (regs : Regs) → Numbered k → Numbered (in_step k pid regs)
in_numbered k pid regs n = regs_numbered (plain_step k [] (entries.SwapIn pid)) pid regs (plain_numbered k [] (entries.SwapIn pid) n)

pub ran_numbered : (k : Kernel) (pid : ℕ) (regs : Regs) (e : Entry) → Numbered k → Numbered (ran_by k pid regs e)
ran_numbered k pid regs e n = regs_numbered (note_step k e) pid regs (note_numbered k e n)

-- a first process begins
pub begin_numbered : (k : Kernel) (found : Holdings) (image : ℕ) (name : List ℕ) (facts : Image) → k.next_sid ≡ k.next_pid → Numbered k
    → Numbered (begin_step k found image name facts)
begin_numbered k found image name facts e n =
    let l : Kernel = begin_step k found image name facts in
    let c : Proc = record { pid = k.next_pid; parent = 0; regs = start_regs facts.entry (name ∷ []); life = HoldsSpace k.next_pid; asleep = false } in
    numbered_from l (add_fine k.next_sid k.place (new_pages k.next_pid image facts) (sym e) (fine_spaces k n)) (child_fine k.next_pid k.processes c refl (fine_pids k n))
    (λ m a. begun k.place.residents k.next_pid 0 m (elim (cases_eq m k.next_pid) [
      | inl i ↦ inl i
      | inr d ↦ inr (n.residents m (append_back k.processes c m d a))
    ]))

pub pass_numbered : (k : Kernel) (from to : ℕ) → lives k.processes from ≡ true → lives k.processes to ≡ true → Numbered k → Numbered (pass_step k from to)
pass_numbered k from to a b n =
    let sid = space_of_life (life_of_proc (find from k.processes)) in
    let receiver = life_of_proc (find to k.processes) in
    numbered_from (pass_step k from to) (fine_spaces k n) (map_fine k.next_pid (λ (q : Proc). record q { life = passed_life sid from to receiver q }) k.processes (λ q. refl) (fine_pids k n))
    (each_resides k (pass_step k from to) (λ m l. sym (pass_lives k from to a b m) ∙ l) (λ m h. h) n.residents)

pub flat_numbered : (images : List Image) (k : Kernel) (pid : ℕ) (regs : Regs) (e : Entry) (change : Change) → TakesNext k change
    → lives k.processes pid ≡ true → Numbered k → Numbered (change_step images k pid regs e change)
flat_numbered images k pid regs e change t a n = go (find pid k.processes) refl
  where
    go : (o : Option Proc) → find pid k.processes ≡ o → Numbered (change_if images k regs e change o)
    go None i = n
    go (Some p) i = numbered_from (change_by images k (record p { regs = regs }) e change)
        (change_fine (changing_of images k p e) k.place change (fine_spaces k n))
        (procs_fine k.next_pid k.processes (record p { regs = regs }) k.next_sid k change refl t (fine_pids k n))
        (change_reside images k (record p { regs = regs }) e change (ap (lives k.processes) (proc_number k.processes pid p i) ∙ a) n.pids_differ n.residents)
