-- First processes begin one by one: each machine at the start is made from the one with a first process less.
use Rattle.std.proofs.Common.{◌≡◌, inl, inr, ℕ, suc, ◌+◌, ◌*◌, ◌<◌, ◌==◌, Bool, true, false, cond, List, [], ◌∷◌, ◌++◌, length, map, Option, Some, Result, Ok, refl, sym, ap, ◌∙◌, subst, append_assoc, length-append, arith}
use Rattle.std.proofs.lemmas.List.{append-nil, map-append}
use Rattle.vm_facts.specs.declared.page.Page.{Page}
use Rattle.vm_facts.specs.declared.page.Page.TheVariants.{Data, Stack, Text}
use Rattle.aout_image.specs.declared.Image.{Image}
use Rattle.aout_image.specs.Image.{image_data_pages}
use Rattle.swap_book.specs.Chunks.{pieces}
use Rattle.swap_book.specs.declared.Owner.TheVariants as owners
use Rattle.swap_book.specs.declared.Held.{Held}
use Rattle.swap_book.specs.Owners.{u_pieces}
use Rattle.swap_book.specs.Holdings.{Holdings}
use Rattle.swap_book.specs.Placing.{Wanted, wanted, and_then, place_all}
use Rattle.swap_book.proofs.GrowthLaws.{place_all-append}
use Rattle.flat_state.specs.Flat.{Process, FlatState, NamedImage, Inputs, image_numbered, start_if, start_process, start_processes, start_state, spaces_of}
use Rattle.page_model.specs.Pages.{SpacePages, TextPages, numbered, data_in, stack_in, text_in}
use Rattle.vm_facts.specs.Lists.{times}
use Rattle.page_model.specs.Placement.{Placement, Residence, Due, Start, CopyOf, Starting, IsThere, image_number, space_number, slots_of, slot_of, state_of, filling_of, sharers, sharers_in, new_pages, spaces_from, residents_from, due_from, start_placement}
use Rattle.page_model.specs.Place.{enter_space, facts_of}
use Rattle.page_model.specs.Conditions.{IsNew}
use Rattle.page_model.specs.Dues.{HasSource, IsDue, DueStand}
use Rattle.kernel_model.specs.Kernel.{Kernel, Proc, StartBytes}
use Rattle.kernel_model.specs.Asks.{text_asked, start_asks, begin_asks}
use Rattle.kernel_model.specs.Numbers.{Numbered}
use Rattle.kernel_model.specs.Start.{kept_of, start_of, start_kernel, AreStarting, starting_in, with_first, new_kernel, begin_place, begin_step}
use Rattle.page_laws.proofs.Ownership.Changes.{enter_alike}
use Rattle.page_laws.proofs.Due.Spaces.{enter_due, due_either}
use Rattle.kernel_laws.proofs.Flat.Lists.{held, held-append}
use Rattle.kernel_laws.proofs.Pieces.Sizes.{first_or_none}
use Rattle.kernel_laws.proofs.Sound.Allowed.{new_number}

-- The lists of the start, with one first process more.

one_on : (n m : ℕ) → (n + 1) + m ≡ n + suc m
one_on n m = omega arith

spaces_last : (n : ℕ) (first : List Starting) (a : Starting)
    → spaces_from n (first ++ a ∷ []) ≡ spaces_from n first ++ new_pages (n + length first) a.image a.facts ∷ []
spaces_last n [] a = ap (λ (m : ℕ). new_pages m a.image a.facts ∷ []) (omega arith)
spaces_last n (x ∷ first) a = ap (λ (l : List SpacePages). new_pages n x.image x.facts ∷ l)
    (spaces_last (n + 1) first a ∙ ap (λ (m : ℕ). spaces_from (n + 1) first ++ new_pages m a.image a.facts ∷ []) (one_on n (length first)))

residents_last : (n : ℕ) (first : List Starting) (a : Starting)
    → residents_from n (first ++ a ∷ []) ≡ residents_from n first ++ record { pid = n + length first; out = false; since = 0 } ∷ []
residents_last n [] a = ap (λ (m : ℕ). record { pid = m; out = false; since = 0 } ∷ []) (omega arith)
residents_last n (x ∷ first) a = ap (λ (l : List Residence). record { pid = n; out = false; since = 0 } ∷ l)
    (residents_last (n + 1) first a ∙ ap (λ (m : ℕ). residents_from (n + 1) first ++ record { pid = m; out = false; since = 0 } ∷ []) (one_on n (length first)))

due_last : (n : ℕ) (first : List Starting) (a : Starting) → due_from n (first ++ a ∷ []) ≡ due_from n first ++ Start (Stack (n + length first) 0) ∷ []
due_last n [] a = ap (λ (m : ℕ). Start (Stack m 0) ∷ []) (omega arith)
due_last n (x ∷ first) a = ap (λ (l : List Due). Start (Stack n 0) ∷ l) (due_last (n + 1) first a ∙ ap (λ (m : ℕ). due_from (n + 1) first ++ Start (Stack m 0) ∷ []) (one_on n (length first)))

processes_last : (images : List NamedImage) (n : ℕ) (numbers : List ℕ) (number : ℕ) (named : NamedImage) → image_numbered images number ≡ Some named
    → start_processes images n (numbers ++ number ∷ []) ≡ start_processes images n numbers ++ start_process (n + length numbers) number named ∷ []
processes_last images n [] number named e = ap (λ (o : Option NamedImage). start_if n number o ++ []) e ∙ ap (λ (m : ℕ). start_process m number named ∷ []) (omega arith)
processes_last images n (x ∷ numbers) number named e =
    ap (λ (l : List Process). start_if n x (image_numbered images x) ++ l)
    (processes_last images (n + 1) numbers number named e ∙ ap (λ (m : ℕ). start_processes images (n + 1) numbers ++ start_process m number named ∷ []) (one_on n (length numbers)))
    ∙ sym (append_assoc (start_if n x (image_numbered images x)) (start_processes images (n + 1) numbers) (start_process (n + length (x ∷ numbers)) number named ∷ []))

-- The machine with one first process more.

pub starting_count : (images : List NamedImage) (numbers : List ℕ) (first : List Starting) → AreStarting images numbers first → length first ≡ length numbers
starting_count images [] [] a = refl
starting_count images [] (x ∷ first) a = absurd a
starting_count images (n ∷ numbers) [] a = absurd a
starting_count images (n ∷ numbers) (x ∷ first) (named, e, i, f, more) = ap suc (starting_count images numbers first more)

-- a machine at the start, by its placement, processes, next numbers and kept bytes
abbrev at_start : Holdings → List (List ℕ) → Placement → List Proc → ℕ → List StartBytes → Kernel
at_start hs frames p ps next starts = record { place = p; holdings = hs; processes = ps; next_pid = next; next_sid = next; starts = starts; frames = frames; journal = []; stopped = false }

pub start_begins : (A : Inputs) (first : List Starting) (hs found : Holdings) (frames : List (List ℕ)) (number : ℕ) (named : NamedImage)
    → AreStarting A.images A.first first → image_numbered A.images number ≡ Some named
    → start_kernel (with_first A number) (first ++ starting_in number named ∷ []) found frames
    ≡ begin_step (start_kernel A first hs frames) found number named.name named.image.facts
start_begins A first hs found frames number named a e =
    let before : Kernel = start_kernel A first hs frames in
    let facts : List Image = facts_of A.images in
    let after : List Process = start_processes A.images 1 (A.first ++ number ∷ []) in
    let next : ℕ = length (A.first ++ number ∷ []) + 1 in
    let p : Process = start_process (length A.first + 1) number named in
    let count : next ≡ length A.first + 1 + 1 = ap (λ (n : ℕ). n + 1) (length-append A.first (number ∷ [])) in
    let same : 1 + length first ≡ length A.first + 1 =
    let c = starting_count A.images A.first first a in omega arith in
    let place : start_placement facts (first ++ starting_in number named ∷ []) A.frames ≡ begin_place before.place (length A.first + 1) number named.image.facts =
    ap (λ (ss : List SpacePages). let q : Placement = record (start_placement facts first A.frames) {
      spaces = ss;
      residents = residents_from 1 (first ++ starting_in number named ∷ []);
      due = due_from 1 (first ++ starting_in number named ∷ []);
    } in q) (spaces_last 1 first (starting_in number named))
    ∙ ap (λ (rs : List Residence). let q : Placement = record (start_placement facts first A.frames) {
      spaces = spaces_from 1 first ++ new_pages (1 + length first) number named.image.facts ∷ [];
      residents = rs;
      due = due_from 1 (first ++ starting_in number named ∷ []);
    } in q) (residents_last 1 first (starting_in number named))
    ∙ ap (λ (ds : List Due). let q : Placement = record (start_placement facts first A.frames) {
      spaces = spaces_from 1 first ++ new_pages (1 + length first) number named.image.facts ∷ [];
      residents = residents_from 1 first ++ record { pid = 1 + length first; out = false; since = 0 } ∷ [];
      due = ds;
    } in q) (due_last 1 first (starting_in number named))
    ∙ ap (λ (n : ℕ). begin_place before.place n number named.image.facts) same in
    let all : after ≡ start_processes A.images 1 A.first ++ p ∷ [] =
    processes_last A.images 1 A.first number named e
    ∙ ap (λ (n : ℕ). start_processes A.images 1 A.first ++ start_process n number named ∷ []) (let c : 1 + length A.first ≡ length A.first + 1 = omega arith in c) in
    let processes : map kept_of after ≡ before.processes ++ kept_of p ∷ [] = ap (map kept_of) all ∙ map-append kept_of (start_processes A.images 1 A.first) (p ∷ []) in
    let starts : map start_of (held after) ≡ before.starts ++ record { page = Stack (length A.first + 1) 0; bytes = Rattle.flat_state.specs.Flat.start_page (named.name ∷ []) } ∷ [] =
    ap (λ (ps : List Process). map start_of (held ps)) all ∙ ap (map start_of) (held-append (start_processes A.images 1 A.first) (p ∷ []))
    ∙ map-append start_of (held (start_processes A.images 1 A.first)) (held (p ∷ [])) in
    ap (λ (p : Placement). at_start found frames p (map kept_of after) next (map start_of (held after))) place
    ∙ ap (λ (ps : List Proc). at_start found frames (begin_place before.place (length A.first + 1) number named.image.facts) ps next (map start_of (held after))) processes
    ∙ ap (λ (n : ℕ). at_start found frames (begin_place before.place (length A.first + 1) number named.image.facts) (before.processes ++ kept_of p ∷ []) n (map start_of (held after))) count
    ∙ ap (λ (ss : List StartBytes). at_start found frames (begin_place before.place (length A.first + 1) number named.image.facts) (before.processes ++ kept_of p ∷ []) (length A.first + 1 + 1) ss)
    starts

pub start_none : (A : Inputs) (frames : List (List ℕ)) → A.first ≡ [] → start_kernel A [] [] frames ≡ new_kernel (facts_of A.images) A.frames frames
start_none A frames e = ap (λ (ns : List ℕ). at_start [] frames (start_placement (facts_of A.images) [] A.frames) (map kept_of (start_processes A.images 1 ns)) (length ns + 1)
    (map start_of (held (start_processes A.images 1 ns)))) e

pub starting_more : (A : Inputs) (first : List Starting) (number : ℕ) (named : NamedImage) → AreStarting A.images A.first first
    → image_numbered A.images number ≡ Some named
    → AreStarting A.images (A.first ++ number ∷ []) (first ++ starting_in number named ∷ [])
starting_more A first number named a e = go A.first first a
  where
    go : (numbers : List ℕ) (xs : List Starting) → AreStarting A.images numbers xs → AreStarting A.images (numbers ++ number ∷ []) (xs ++ starting_in number named ∷ [])
    go [] [] b = (named, e, refl, refl, tt)
    go [] (x ∷ xs) b = absurd b
    go (n ∷ numbers) [] b = absurd b
    go (n ∷ numbers) (x ∷ xs) (m, i, j, f, more) = (m, i, j, f, go numbers xs more)

-- The pieces of one first process more.

-- by how many share its text before
abbrev last_asks : Placement → ℕ → ℕ → Starting → List Wanted
last_asks p n pid a =
    text_asked n a.image (2 * length (slots_of p (Text a.image 0)))
    ++ (wanted (owners.Data pid) (pieces (2 * image_data_pages a.facts)) ++ (wanted (owners.Stack pid) (pieces 2) ++ wanted (owners.U pid) (u_pieces 2)))

in_order : (t d s u r z : List Wanted) → (t ++ (d ++ (s ++ (u ++ r)))) ++ z ≡ t ++ (d ++ (s ++ (u ++ (r ++ z))))
in_order t d s u r z = append_assoc t (d ++ (s ++ (u ++ r))) z
    ∙ ap (λ (l : List Wanted). t ++ l) (append_assoc d (s ++ (u ++ r)) z ∙ ap (λ (l : List Wanted). d ++ l) (append_assoc s (u ++ r) z ∙ ap (λ (l : List Wanted). s ++ l) (append_assoc u r z)))

asks_last : (p : Placement) (earlier : List ℕ) (pid : ℕ) (first : List Starting) (a : Starting) (n : ℕ)
    → n ≡ times a.image earlier + sharers_in a.image (spaces_from pid first)
    → start_asks p earlier pid (first ++ a ∷ []) ≡ start_asks p earlier pid first ++ last_asks p n (pid + length first) a
asks_last p earlier pid [] a n e =
    ap (λ (l : List Wanted). text_asked (times a.image earlier) a.image (2 * length (slots_of p (Text a.image 0)))
    ++ (wanted (owners.Data pid) (pieces (2 * image_data_pages a.facts)) ++ (wanted (owners.Stack pid) (pieces 2) ++ l))) (append-nil (wanted (owners.U pid) (u_pieces 2)))
    ∙ ap (λ (m : ℕ). last_asks p m pid a) (let z : times a.image earlier ≡ n = omega arith in z)
    ∙ ap (λ (m : ℕ). last_asks p n m a) (let z : pid ≡ pid + 0 = omega arith in z)
asks_last p earlier pid (x ∷ first) a n e =
    let t : List Wanted = text_asked (times x.image earlier) x.image (2 * length (slots_of p (Text x.image 0))) in
    let d : List Wanted = wanted (owners.Data pid) (pieces (2 * image_data_pages x.facts)) in
    let s : List Wanted = wanted (owners.Stack pid) (pieces 2) in
    let u : List Wanted = wanted (owners.U pid) (u_pieces 2) in
    let r : List Wanted = start_asks p (x.image ∷ earlier) (pid + 1) first in
    ap (λ (l : List Wanted). t ++ (d ++ (s ++ (u ++ l))))
    (asks_last p (x.image ∷ earlier) (pid + 1) first a n (count (x.image == a.image) (times a.image earlier) (sharers_in a.image (spaces_from (pid + 1) first)) e)
    ∙ ap (λ (m : ℕ). r ++ last_asks p n m a) (one_on pid (length first)))
    ∙ sym (in_order t d s u r (last_asks p n (pid + length (x ∷ first)) a))
  where
    count : (b : Bool) (i j : ℕ) → n ≡ i + (cond b 1 0 + j) → n ≡ (cond b 1 0 + i) + j
    count true i j h = omega arith
    count false i j h = omega arith

-- the pieces of text are by the texts
asks_same : (p q : Placement) → q.texts ≡ p.texts → (earlier : List ℕ) (pid : ℕ) (first : List Starting)
    → start_asks q earlier pid first ≡ start_asks p earlier pid first
asks_same p q e earlier pid [] = refl
asks_same p q e earlier pid (a ∷ more) =
    let d : List Wanted = wanted (owners.Data pid) (pieces (2 * image_data_pages a.facts)) in
    let s : List Wanted = wanted (owners.Stack pid) (pieces 2) in
    let u : List Wanted = wanted (owners.U pid) (u_pieces 2) in
    ap (λ (ts : List TextPages).
    text_asked (times a.image earlier) a.image (2 * length (text_in (numbered image_number a.image ts))) ++ (d ++ (s ++ (u ++ start_asks q (a.image ∷ earlier) (pid + 1) more)))) e
    ∙ ap (λ (l : List Wanted). text_asked (times a.image earlier) a.image (2 * length (slots_of p (Text a.image 0))) ++ (d ++ (s ++ (u ++ l)))) (asks_same p q e (a.image ∷ earlier) (pid + 1) more)

-- they are found after those of the first processes before it
pub start_finds : (size : ℕ) (images : List Image) (first : List Starting) (a : Starting) (frames : ℕ) (hs : Holdings)
    → place_all size [] (start_asks (start_placement images first frames) [] 1 first) ≡ Ok hs
    → place_all size [] (start_asks (start_placement images (first ++ a ∷ []) frames) [] 1 (first ++ a ∷ []))
    ≡ place_all size hs (begin_asks (start_placement images first frames) (1 + length first) a.image a.facts)
start_finds size images first a frames hs e =
    let p : Placement = start_placement images first frames in
    let q : Placement = start_placement images (first ++ a ∷ []) frames in
    let whole : (t d s u : List Wanted) → t ++ (d ++ (s ++ u)) ≡ (t ++ (d ++ s)) ++ u = λ t d s u. sym (append_assoc t (d ++ s) u ∙ ap (λ (l : List Wanted). t ++ l) (append_assoc d s u)) in
    ap (place_all size []) (asks_same p q refl [] 1 (first ++ a ∷ []) ∙ asks_last p [] 1 first a (sharers p a.image) (omega arith))
    ∙ place_all-append size [] (start_asks p [] 1 first) (last_asks p (sharers p a.image) (1 + length first) a)
    ∙ ap (λ (r : Result (List Held) ℕ). and_then r (λ now. place_all size now (last_asks p (sharers p a.image) (1 + length first) a))) e
    ∙ ap (place_all size hs)
    (whole (text_asked (sharers p a.image) a.image (2 * length (slots_of p (Text a.image 0)))) (wanted (owners.Data (1 + length first)) (pieces (2 * image_data_pages a.facts)))
    (wanted (owners.Stack (1 + length first)) (pieces 2)) (wanted (owners.U (1 + length first)) (u_pieces 2)))

-- What is due.

-- a page that is there has the slots that it had
there_same : (p : Placement) (x : SpacePages) (due : List Due) (w : Page) → IsThere p w
    → slots_of (record p { spaces = p.spaces ++ x ∷ []; due = due }) w ≡ slots_of p w
there_same p x due (Data sid v) t = elim (first_or_none sid p.spaces x) [
  | inl e ↦ ap data_in e
  | inr e ↦ absurd (let h = ap (λ (o : Option SpacePages). length (data_in o)) e in omega arith)
]
there_same p x due (Stack sid v) t = elim (first_or_none sid p.spaces x) [
  | inl e ↦ ap stack_in e
  | inr e ↦ absurd (let h = ap (λ (o : Option SpacePages). length (stack_in o)) e in omega arith)
]
there_same p x due (Text image v) t = refl

begin_due : (p : Placement) (pid image : ℕ) (facts : Image) → IsNew p pid → DueStand p → DueStand (begin_place p pid image facts)
begin_due p pid image facts new st w d e =
    let old : IsDue p w d → IsDue q w d = λ i.
    let same_filling : (v : Page) → slots_of q v ≡ slots_of p v → filling_of q v ≡ filling_of p v = λ v s.
    ap (λ (xs : List Rattle.page_model.specs.Pages.Slot). Rattle.page_model.specs.Placement.filling_by v
    (Rattle.std.specs.Prelude.get_or xs (Rattle.flat_state.specs.PageNames.number_of v) Rattle.page_model.specs.Pages.no_slot).filling) s in
    let slots : slots_of q w ≡ slots_of p w = there_same p (new_pages pid image facts) q.due w i.there in
    record {
      writable = i.writable;
      there = subst (λ (xs : List Rattle.page_model.specs.Pages.Slot). Rattle.flat_state.specs.PageNames.number_of w < length xs) (sym slots) i.there;
      unfilled = (enter_alike p pid image facts new w).0 ∙ i.unfilled;
      zeros = same_filling w slots ∙ i.zeros;
      source = kept d i.source;
    } in
    elim (due_either p.due (Start (Stack pid 0) ∷ []) w d e) [
      | inl k ↦ old (st w d k)
      | inr k ↦ (let i : IsDue (enter_space p pid image facts) w d = enter_due p pid image facts new w d k in
          record { writable = i.writable; there = i.there; unfilled = i.unfilled; zeros = i.zeros; source = source d i.source })
    ]
  where
    q : Placement
    q = begin_place p pid image facts

    source : (c : Due) → HasSource (enter_space p pid image facts) c → HasSource q c
    source (Start r) s = tt
    source (CopyOf r parent) s = s

    kept : (c : Due) → HasSource p c → HasSource q c
    kept (Start r) s = tt
    kept (CopyOf r parent) s = (s.0, λ z. s.1 (sym (enter_alike p pid image facts new parent).0 ∙ z))

pub begins_due : (k : Kernel) (found : Holdings) (image : ℕ) (name : List ℕ) (facts : Image) → Numbered k → k.next_sid ≡ k.next_pid → DueStand k.place
    → DueStand (begin_step k found image name facts).place
begins_due k found image name facts n e st = begin_due k.place k.next_pid image facts (subst (IsNew k.place) e (new_number k n)) st
