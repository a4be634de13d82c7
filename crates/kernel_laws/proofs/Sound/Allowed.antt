-- What a change asks is so where numbers differ, and the space is there and settled.
use Rattle.std.proofs.Common.{◌≡◌, ◌≢◌, ℕ, suc, ◌+◌, ◌<◌, ◌≤◌, ◌==◌, Bool, true, false, not, ◌&&◌, cond, List, [], ◌∷◌, ◌++◌, length, map, Option, Some, None, Ok, refl, sym, ap, ◌∙◌, subst, arith}
use Rattle.std.proofs.lemmas.Bool.{eqb-true, eq-eqb, ne_eqb, and_parts}
use Rattle.vm_facts.specs.declared.page.Page.TheVariants.{Text}
use Rattle.vm_facts.specs.declared.regs.Regs.{Regs}
use Rattle.vm_facts.specs.declared.entry.Entry.{Entry}
use Rattle.aout_image.specs.declared.Image.{Image}
use Rattle.swap_book.specs.Holdings.{Holdings}
use Rattle.swap_book.specs.Placing.{place_all}
use Rattle.flat_state.specs.declared.change.Change.{Change}
use Rattle.flat_state.specs.declared.change.Change.TheVariants.{Resize, Fork, Lend, Exec, End}
use Rattle.page_model.specs.Pages.{SpacePages, numbered}
use Rattle.page_model.specs.Placement.{Placement, Starting, space_number, spaces_from, state_of, sharers, sharers_in, image_of, image_in, parts_of, new_pages, start_placement}
use Rattle.page_model.specs.Place.{enter_space, enter_image, facts_numbered}
use Rattle.page_model.specs.Conditions.{AtRest, IsNew, CanChange, HasImage, CanForget, MayForget}
use Rattle.page_model.specs.Ownership.{OwnsFrames, OneOwner}
use Rattle.page_model.specs.Swapper.{names_page, is_settled}
use Rattle.vm_facts.specs.Pages.{is_of_space, is_of_text}
use Rattle.kernel_model.specs.Kernel.{Kernel, Proc}
use Rattle.kernel_model.specs.Sound.{Sound, lives}
use Rattle.kernel_model.specs.ChangeStep.{space_of_life, life_of_proc, gave_back, change_step}
use Rattle.kernel_model.specs.Taken.{MayChange}
use Rattle.kernel_model.specs.Asks.{HasSpace, IsUnused, MayAsk, asked, WantsThese}
use Rattle.flat_state.specs.Numbers.{IsAbsent, AllDistinct, AllBelow}
use Rattle.kernel_laws.proofs.Flat.Numbered.{absent_none, below_absent}
use Rattle.kernel_model.specs.Numbers.{Numbered, TakesNext, ReadySpace, ReadyFor}
use Rattle.page_laws.proofs.Ownership.Changes.{added_other}
use Rattle.page_laws.proofs.Blocks.Changes.{rest_of}
use Rattle.page_laws.proofs.Bytes.Others.{unnamed_rests, settled_rests}
use Rattle.kernel_laws.proofs.Sound.Residing.{one_each}
use Rattle.kernel_laws.proofs.Sound.NumbersApart.{Fine, enter_fine, fine_spaces}
use Rattle.kernel_laws.proofs.Pieces.Found.{found_sound}
use Rattle.kernel_laws.proofs.Pieces.Wanted.{asked_for}

-- Numbers that nobody has.

-- The image of a space.

absent_image : (sid image : ℕ) (ss : List SpacePages) → IsAbsent sid (map space_number ss) → HasImage sid image ss
absent_image sid image [] e = tt
absent_image sid image (s ∷ ss) e = ((λ k. absurd (e.0 k)), absent_image sid image ss e.1)

has_image : (sid : ℕ) (ss : List SpacePages) → AllDistinct (map space_number ss) → HasImage sid (image_in (numbered space_number sid ss)) ss
has_image sid [] d = tt
has_image sid (s ∷ ss) d = go (s.sid == sid) refl (has_image sid ss d.1)
  where
    go : (b : Bool) → (s.sid == sid) ≡ b → HasImage sid (image_in (numbered space_number sid ss)) ss → HasImage sid (image_in (cond b (Some s) (numbered space_number sid ss))) (s ∷ ss)
    go true e ih = ((λ k. refl), absent_image sid s.image ss (subst (λ (n : ℕ). IsAbsent n (map space_number ss)) (eqb-true s.sid sid e) d.0))
    go false e ih = ((λ k. absurd (let z : true ≡ false = sym (eq-eqb s.sid sid k) ∙ e in cc)), ih)

-- The sharers that are left.

absent_rest : (sid j : ℕ) (ss : List SpacePages) → IsAbsent sid (map space_number ss) → sharers_in j (rest_of sid ss) ≡ sharers_in j ss
absent_rest sid j [] e = refl
absent_rest sid j (s ∷ ss) e =
    ap (λ (b : Bool). sharers_in j (cond (not b) (s ∷ rest_of sid ss) (rest_of sid ss))) (ne_eqb s.sid sid e.0) ∙ ap (λ (n : ℕ). cond (s.image == j) 1 0 + n) (absent_rest sid j ss e.1)

-- a space that is there is one sharer of its image
one_more : (sid : ℕ) (ss : List SpacePages) → AllDistinct (map space_number ss) → numbered space_number sid ss ≢ None
    → sharers_in (image_in (numbered space_number sid ss)) ss ≡ 1 + sharers_in (image_in (numbered space_number sid ss)) (rest_of sid ss)
one_more sid [] d n = absurd (n refl)
one_more sid (s ∷ ss) d n = go (s.sid == sid) refl n (one_more sid ss d.1)
  where
    first : (b : Bool) (n m : ℕ) → b ≡ true → m ≡ n → cond b 1 0 + n ≡ 1 + m
    first true n m e h = omega arith
    first false n m e h = absurd cc

    later : (b : Bool) (n m : ℕ) → n ≡ 1 + m → cond b 1 0 + n ≡ 1 + (cond b 1 0 + m)
    later true n m e = omega arith
    later false n m e = omega arith

    go : (b : Bool) → (s.sid == sid) ≡ b → (cond b (Some s) (numbered space_number sid ss) ≢ None)
        → ((numbered space_number sid ss ≢ None) → sharers_in (image_in (numbered space_number sid ss)) ss ≡ 1 + sharers_in (image_in (numbered space_number sid ss)) (rest_of sid ss))
        → sharers_in (image_in (cond b (Some s) (numbered space_number sid ss))) (s ∷ ss)
        ≡ 1 + sharers_in (image_in (cond b (Some s) (numbered space_number sid ss))) (cond (not b) (s ∷ rest_of sid ss) (rest_of sid ss))
    go true e k ih = first (s.image == s.image) (sharers_in s.image ss) (sharers_in s.image (rest_of sid ss)) (eq-eqb s.image s.image refl)
        (absent_rest sid s.image ss (subst (λ (n : ℕ). IsAbsent n (map space_number ss)) (eqb-true s.sid sid e) d.0))
    go false e k ih =
        later (s.image == image_in (numbered space_number sid ss)) (sharers_in (image_in (numbered space_number sid ss)) ss)
        (sharers_in (image_in (numbered space_number sid ss)) (rest_of sid ss)) (ih k)

-- a settled space has its text at rest where it is the last sharer
settled_text : (p : Placement) (sid : ℕ) → OwnsFrames p → AllDistinct (map space_number p.spaces) → HasSpace p sid → is_settled p sid ≡ true
    → sharers_in (image_of p sid) (rest_of sid p.spaces) ≡ 0
    → (v : ℕ) → AtRest (state_of p (Text (image_of p sid) v))
settled_text p sid o d h e z v =
    let last : sharers p (image_of p sid) ≡ 1 = one_more sid p.spaces d h ∙ (let k : 1 + sharers_in (image_of p sid) (rest_of sid p.spaces) ≡ 1 = omega arith in k) in
    let unnamed : names_page (is_of_text (image_of p sid)) (parts_of p.transfers) ≡ false =
    second (sharers p (image_of p sid) == 1) (names_page (is_of_text (image_of p sid)) (parts_of p.transfers)) (eq-eqb (sharers p (image_of p sid)) 1 last)
    (and_parts (not (names_page (is_of_space sid) (parts_of p.transfers))) (not ((sharers p (image_of p sid) == 1) && names_page (is_of_text (image_of p sid)) (parts_of p.transfers))) e).1 in
    unnamed_rests p (is_of_text (image_of p sid)) (Text (image_of p sid) v) o (eq-eqb (image_of p sid) (image_of p sid) refl) unnamed
  where
    second : (b c : Bool) → b ≡ true → not (b && c) ≡ true → c ≡ false
    second true true x y = absurd cc
    second true false x y = refl
    second false c x y = absurd cc

forgets : (p : Placement) (sid : ℕ) → OwnsFrames p → AllDistinct (map space_number p.spaces) → HasSpace p sid → is_settled p sid ≡ true → CanForget p sid
forgets p sid o d h e = record { image = has_image sid p.spaces d; text_rests = settled_text p sid o d h e }

rest_more : (sid j : ℕ) (ss rs : List SpacePages) → sharers_in j (rest_of sid ss) ≤ sharers_in j (rest_of sid (ss ++ rs))
rest_more sid j [] rs = omega arith
rest_more sid j (s ∷ ss) rs = go (s.sid == sid) (rest_more sid j ss rs)
  where
    go : (b : Bool) → sharers_in j (rest_of sid ss) ≤ sharers_in j (rest_of sid (ss ++ rs))
        → sharers_in j (cond (not b) (s ∷ rest_of sid ss) (rest_of sid ss)) ≤ sharers_in j (cond (not b) (s ∷ rest_of sid (ss ++ rs)) (rest_of sid (ss ++ rs)))
    go true l = l
    go false l = omega arith

-- and so once a new space is there
exec_forgets : (p : Placement) (next image sid : ℕ) (facts : Option Image) → OwnsFrames p → AllDistinct (map space_number p.spaces)
    → AllDistinct (map space_number (enter_image p next image facts).spaces) → HasSpace p sid → next ≢ sid → is_settled p sid ≡ true
    → CanForget (enter_image p next image facts) sid
exec_forgets p next image sid None o d f h n e = forgets p sid o d h e
exec_forgets p next image sid (Some facts) o d f h n e =
    let x : SpacePages = new_pages next image facts in
    let q : Placement = enter_space p next image facts in
    let same : image_of q sid ≡ image_of p sid = ap image_in (added_other sid p.spaces x n) in
    let none : sharers_in (image_of p sid) (rest_of sid q.spaces) ≡ 0 → sharers_in (image_of p sid) (rest_of sid p.spaces) ≡ 0 = λ z.
    let l = rest_more sid (image_of p sid) p.spaces (x ∷ []) in omega arith in
    record {
      image = has_image sid q.spaces f;
      text_rests = λ z v. subst (λ (i : ℕ). AtRest (state_of p (Text i v))) (sym same) (settled_text p sid o d h e (none (subst (λ (i : ℕ). sharers_in i (rest_of sid q.spaces) ≡ 0) same z)) v);
    }

-- What is asked.

pub new_number : (k : Kernel) → Numbered k → IsNew k.place k.next_sid
new_number k n = absent_none space_number k.next_sid k.place.spaces (below_absent k.next_sid (map space_number k.place.spaces) n.spaces_below)

next_apart : (k : Kernel) (sid : ℕ) → Numbered k → HasSpace k.place sid → k.next_sid ≢ sid
next_apart k sid n h e = h (subst (IsNew k.place) e (new_number k n))

can_by : (k : Kernel) (sid : ℕ) (borrowed : Bool) (change : Change) → OwnsFrames k.place → Numbered k → ReadySpace k.place sid borrowed change
    → CanChange k.place sid borrowed k.next_sid change
can_by k sid borrowed (Resize d s) o n r = λ l. settled_rests k.place sid o (r.1 l)
can_by k sid borrowed (Fork child) o n r = new_number k n
can_by k sid borrowed (Exec image top) o n r = (new_number k n, λ e. settled_rests k.place sid o (r e).1)
can_by k sid borrowed (End status) o n r = λ e. settled_rests k.place sid o (r e).1
can_by k sid borrowed _ o n r = tt

forget_by : (images : List Image) (k : Kernel) (sid : ℕ) (borrowed : Bool) (change : Change) → OwnsFrames k.place → Numbered k
    → ReadySpace k.place sid borrowed change → MayForget images k.place sid borrowed k.next_sid change
forget_by images k sid borrowed (Exec image top) o n r = λ e.
    let f : Fine (k.next_sid + 1) (map space_number (enter_image k.place k.next_sid image (facts_numbered images image)).spaces) =
    enter_fine k.next_sid k.place image (facts_numbered images image) (fine_spaces k n) in
    exec_forgets k.place k.next_sid image sid (facts_numbered images image) o n.spaces_differ f.differ (r e).0 (next_apart k sid n (r e).0) (r e).1
forget_by images k sid borrowed (End status) o n r = λ e. forgets k.place sid o n.spaces_differ (r e).0 (r e).1
forget_by images k sid borrowed _ o n r = tt

unused : (k : Kernel) (child : ℕ) → Numbered k → child ≡ k.next_pid → IsUnused k.processes child
unused k child n e = subst (IsUnused k.processes) (sym e) (absent_none (λ (p : Proc). p.pid) k.next_pid k.processes (below_absent k.next_pid (map (λ (p : Proc). p.pid) k.processes) n.pids_below))

ask_by : (k : Kernel) (sid : ℕ) (borrowed : Bool) (change : Change) → Numbered k → TakesNext k change → ReadySpace k.place sid borrowed change
    → MayAsk k.place k.processes sid borrowed k.next_sid change
ask_by k sid borrowed (Resize d s) n t r = r.0
ask_by k sid borrowed (Fork child) n t r = (r, unused k child n t)
ask_by k sid borrowed (Lend child) n t r = unused k child n t
ask_by k sid borrowed (Exec image top) n t r = λ e. next_apart k sid n (r e).0
ask_by k sid borrowed (End status) n t r = one_each k.processes n.pids_differ
ask_by k sid borrowed _ n t r = tt

pub may_change : (images : List Image) (k : Kernel) (pid : ℕ) (change : Change) → OwnsFrames k.place → Numbered k → ReadyFor k pid change
    → MayChange images k pid change
may_change images k pid change o n r =
    let life = life_of_proc (numbered (λ (p : Proc). p.pid) pid k.processes) in
    record { can = can_by k (space_of_life life) (gave_back life) change o n r.space; forgets = forget_by images k (space_of_life life) (gave_back life) change o n r.space; reaps = r.reaps }

pub wants_these : (k : Kernel) (pid : ℕ) (change : Change) → Numbered k → ReadyFor k pid change → WantsThese k pid change
wants_these k pid change n r =
    let life = life_of_proc (numbered (λ (p : Proc). p.pid) pid k.processes) in
    record { alive = r.alive; may = ask_by k (space_of_life life) (gave_back life) change n r.next r.space }

-- A sound machine, a process that is ready, and pieces that were found: the machine is sound after the change.
pub ready_sound : (size : ℕ) (images : List Image) (k : Kernel) (before : Holdings) (pid : ℕ) (regs : Regs) (e : Entry) (change : Change)
    → Sound size (record k { holdings = before }) → Numbered k → ReadyFor k pid change → place_all size before (asked images k pid change) ≡ Ok k.holdings
    → Sound size (change_step images k pid regs e change)
ready_sound size images k before pid regs e change s n r f =
    let o : OneOwner size (lives k.processes) k.place before = s.owner in
    let m = may_change images k pid change o.frames n r in
    found_sound size images k before (asked images k pid change) pid regs e change s f (asked_for images k pid regs e change m (wants_these k pid change n r)) m

-- The start.

absent_before : (m n : ℕ) (first : List Starting) → m < n → IsAbsent m (map space_number (spaces_from n first))
absent_before m n [] l = tt
absent_before m n (a ∷ more) l = ((λ e. absurd (omega arith)), absent_before m (n + 1) more (omega arith))

first_differ : (n : ℕ) (first : List Starting) → AllDistinct (map space_number (spaces_from n first))
first_differ n [] = tt
first_differ n (a ∷ more) = (absent_before n (n + 1) more (omega arith), first_differ (n + 1) more)

first_below : (n : ℕ) (first : List Starting) → AllBelow (n + length first) (map space_number (spaces_from n first))
first_below n [] = tt
first_below n (a ∷ more) = (
  omega arith,
  subst (λ (k : ℕ). AllBelow k (map space_number (spaces_from (n + 1) more))) (let e : (n + 1) + length more ≡ n + suc (length more) = omega arith in e) (first_below (n + 1) more),
)

pub start_numbers : (images : List Image) (first : List Starting) (frames : ℕ)
    → AllDistinct (map space_number (start_placement images first frames).spaces)
    × AllBelow (1 + length first) (map space_number (start_placement images first frames).spaces)
start_numbers images first frames = (first_differ 1 first, first_below 1 first)
