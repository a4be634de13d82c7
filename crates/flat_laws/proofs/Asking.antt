-- The pieces that a change wants by the placement are those that it wants by the flat state.
use Rattle.std.proofs.Common.{◌≡◌, ℕ, zero, suc, ◌+◌, ◌*◌, ◌/◌, ◌==◌, Bool, true, false, cond, List, [], ◌∷◌, ◌++◌, length, drop, map, find, append_assoc, Option, Some, None, refl, sym, ap, ap₂, ◌∙◌, subst, arith}
use Rattle.std.proofs.lemmas.List.{length-map, drop-map}
use Rattle.flat_state.specs.Space.{Space}
use Rattle.flat_state.specs.Flat.{Holding, Holds, Lends, Zombie, Process, FlatState, NamedImage, Inputs, image_numbered, process_of, can_step, is_ready, ready_if, space_held, spaces_of}
use Rattle.vm_facts.specs.declared.page.Page.TheVariants.{Text}
use Rattle.aout_image.specs.Image.{text_pages_of, image_data_pages}
use Rattle.swap_dmap.specs.Chunks.{pieces, text_pieces}
use Rattle.swap_book.specs.declared.Owner.{Owner}
use Rattle.swap_book.specs.declared.Owner.TheVariants as owners
use Rattle.swap_book.specs.Owners.{u_pieces}
use Rattle.swap_book.specs.Placing.{Wanted, one, wanted}
use Rattle.flat_state.specs.declared.change.Change.{Change}
use Rattle.flat_state.specs.declared.change.Change.TheVariants.{Resize, Fork, Exec}
use Rattle.kernel_model.specs.Pages.{SpacePages, numbered, data_in, stack_in}
use Rattle.kernel_model.specs.Placement.{space_number, slots_of, sharers, sharers_in}
use Rattle.kernel_model.specs.Place.{data_count, stack_count, facts_of}
use Rattle.kernel_model.specs.Kernel.{Life, HoldsSpace, Kernel, Proc}
use Rattle.kernel_model.specs.Coupled.{SameTables, Fits, image_text}
use Rattle.kernel_model.specs.Sound.{TextFits}
use Rattle.kernel_model.specs.ChangeStep.{space_of_life, life_of_proc}
use Rattle.flat_state.specs.Numbers.{IsAbsent, AllDistinct, IsNumbered}
use Rattle.kernel_model.specs.Numbers.{Numbered}
use Rattle.kernel_model.specs.Start.{ImagesFit}
use Rattle.kernel_model.specs.Asks.{text_asked, image_asked, change_asks, asked}
use Rattle.kernel_laws.proofs.Local.{none_some}
use Rattle.std.proofs.lemmas.Option.{same_Some}
use Rattle.kernel_laws.proofs.Flat.Numbered.{absent_none}
use Rattle.kernel_laws.proofs.PageLawsListsPages.{numbered_hit, numbered_miss}
use Rattle.vm_facts.proofs.Tests.{eq_self}
use Rattle.std.proofs.lemmas.Bool.{eqb-true}
use Rattle.kernel_laws.proofs.Flat.Lists.{sid_of, held, held_at, held_own}
use Rattle.kernel_laws.proofs.Machine.Swaps.{found_self}
use Rattle.kernel_laws.proofs.Machine.Tables.{all_fit}
use Rattle.kernel_laws.proofs.Machine.Processes.{Stepping, stepping}
use Rattle.flat_model.specs.Calls.{stack_pages_of}
use Rattle.flat_model.specs.Step.{flat_step, data_pages_of as data_pages_in}
use Rattle.flat_model.specs.Asked.{pieces_for, has_image, is_there, is_shared, text_wanted, image_wanted, change_wanted, wanted_in, wanted_if, asks_by, asks}
use Rattle.kernel_laws.proofs.Machine.Images.{facts_in, facts_same}

-- Sizes.

-- the space is found by its number
pub own_space : (flat : FlatState) (pid : ℕ) (p : Process) (s : Space) → IsNumbered flat → process_of flat pid ≡ Some p → p.holding ≡ Holds s
    → numbered sid_of s.sid (spaces_of flat) ≡ Some s
own_space flat pid p s n here holds = held_own flat.processes p s (held_at flat.processes p p s (found_self flat pid p here) holds n.sids)

whole_pages : (bytes pages : ℕ) → bytes ≡ 1024 * pages → pages ≡ bytes / 1024
whole_pages bytes pages e = omega (arith, e)

pub data_counted : (s : Space) (o : Option SpacePages) → Fits (Some s) o → length (data_in o) ≡ data_pages_in s
data_counted s None f = absurd f
data_counted s (Some x) f = whole_pages (length s.data_bytes) (length x.data_pages) f.data_size

pub stack_counted : (s : Space) (o : Option SpacePages) → Fits (Some s) o → length (stack_in o) ≡ stack_pages_of s
stack_counted s None f = absurd f
stack_counted s (Some x) f = whole_pages (length s.stack_bytes) (length x.stack_pages) f.stack_size

-- Sharers.

-- some item has this number
abbrev pub is_some_of : {A : Type 0} → (A → ℕ) → ℕ → List A → Bool
is_some_of number n [] = false
is_some_of number n (x ∷ xs) = cond (number x == n) true (is_some_of number n xs)

abbrev image_of_space : Space → ℕ
image_of_space s = s.image

abbrev pub image_of_pages : SpacePages → ℕ
image_of_pages x = x.image

-- where no two items have one number, each is found by its own
found_some : {A : Type 0} (number image : A → ℕ) (n : ℕ) (xs : List A) → AllDistinct (map number xs) → is_some_of image n xs ≡ true
    → (x : A) × (numbered number (number x) xs ≡ Some x) × (image x ≡ n)
found_some number image n [] d e = absurd cc
found_some {A} number image n (x ∷ xs) d e = go (image x == n) refl e (found_some number image n xs d.1)
  where
    go : (b : Bool) → (image x == n) ≡ b → cond b true (is_some_of image n xs) ≡ true → (is_some_of image n xs ≡ true → (y : A) × (numbered number (number y) xs ≡ Some y) × (image y ≡ n))
        → (y : A) × (numbered number (number y) (x ∷ xs) ≡ Some y) × (image y ≡ n)
    go true i e later = (x, numbered_hit number (number x) x xs refl, eqb-true (image x) n i)
    go false i e later =
        let r = later e in
        (r.0, numbered_miss number (number r.0) x xs (λ same. none_some r.0 (sym (absent_none number (number r.0) xs (subst (λ (m : ℕ). IsAbsent m (map number xs)) same d.0)) ∙ r.1)) ∙ r.1, r.2)

some_found : {A : Type 0} (number image : A → ℕ) (m n : ℕ) (xs : List A) (x : A) → numbered number m xs ≡ Some x → image x ≡ n → is_some_of image n xs ≡ true
some_found number image m n [] x e i = none_some x e
some_found number image m n (y ∷ ys) x e i = go (number y == m) e (λ k. some_found number image m n ys x k i)
  where
    or_true : (b : Bool) → cond b true true ≡ true
    or_true true = refl
    or_true false = refl

    go : (b : Bool) → cond b (Some y) (numbered number m ys) ≡ Some x → (numbered number m ys ≡ Some x → is_some_of image n ys ≡ true) → cond (image y == n) true (is_some_of image n ys) ≡ true
    go true k later = ap (λ (b : Bool). cond b true (is_some_of image n ys)) (ap (λ (j : ℕ). j == n) (ap image (same_Some y x k) ∙ i) ∙ eq_self n)
    go false k later = ap (λ (b : Bool). cond (image y == n) true b) (later k) ∙ or_true (image y == n)

-- a space of the flat state holds the image
shared_by_held : (image : ℕ) (ps : List Process) → is_there (find (λ q. has_image image q.holding) ps) ≡ is_some_of image_of_space image (held ps)
shared_by_held image [] = refl
shared_by_held image (p ∷ ps) = by p.holding (shared_by_held image ps)
  where
    go : (s : Space) (b : Bool) → is_there (find (λ q. has_image image q.holding) ps) ≡ is_some_of image_of_space image (held ps)
        → is_there (cond b (Some p) (find (λ q. has_image image q.holding) ps)) ≡ cond b true (is_some_of image_of_space image (held ps))
    go s true later = refl
    go s false later = later

    by : (h : Holding) → is_there (find (λ q. has_image image q.holding) ps) ≡ is_some_of image_of_space image (held ps)
        → is_there (cond (has_image image h) (Some p) (find (λ q. has_image image q.holding) ps)) ≡ is_some_of image_of_space image (space_held h ++ held ps)
    by (Holds s) later = go s (s.image == image) later
    by (Lends sid child) later = later
    by (Zombie status) later = later

-- the two have the same images
same_images : (ss : List Space) (xs : List SpacePages) (image : ℕ) → AllDistinct (map sid_of ss) → AllDistinct (map space_number xs)
    → ((sid : ℕ) → Fits (numbered sid_of sid ss) (numbered space_number sid xs))
    → is_some_of image_of_space image ss ≡ is_some_of image_of_pages image xs
same_images ss xs image d c f = go (is_some_of image_of_space image ss) (is_some_of image_of_pages image xs) refl refl
  where
    fit_pages : (s : Space) (o : Option SpacePages) → Fits (Some s) o → (x : SpacePages) × (o ≡ Some x) × (x.image ≡ s.image)
    fit_pages s None f = absurd f
    fit_pages s (Some x) f = (x, refl, f.image)

    fit_space : (o : Option Space) (x : SpacePages) → Fits o (Some x) → (s : Space) × (o ≡ Some s) × (x.image ≡ s.image)
    fit_space None x f = absurd f
    fit_space (Some s) x f = (s, refl, f.image)

    go : (a b : Bool) → is_some_of image_of_space image ss ≡ a → is_some_of image_of_pages image xs ≡ b → a ≡ b
    go true true h k = refl
    go false false h k = refl
    go true false h k =
        let r = found_some sid_of image_of_space image ss d h in
        let x = fit_pages r.0 (numbered space_number r.0.sid xs) (subst (λ (o : Option Space). Fits o (numbered space_number r.0.sid xs)) r.1 (f r.0.sid)) in
        sym (some_found space_number image_of_pages r.0.sid image xs x.0 x.1 (x.2 ∙ r.2)) ∙ k
    go false true h k =
        let r = found_some space_number image_of_pages image xs c k in
        let s = fit_space (numbered sid_of r.0.sid ss) r.0 (subst (λ (o : Option SpacePages). Fits (numbered sid_of r.0.sid ss) o) r.1 (f r.0.sid)) in
        sym h ∙ some_found sid_of image_of_space r.0.sid image ss s.0 s.1 (sym s.2 ∙ r.2)

-- the image has no sharer where no space has it
pub no_sharers : (image : ℕ) (xs : List SpacePages) → sharers_in image xs ≡ 0 → is_some_of image_of_pages image xs ≡ false
no_sharers image [] e = refl
no_sharers image (x ∷ xs) e = go (x.image == image) e (no_sharers image xs)
  where
    go : (b : Bool) → cond b 1 0 + sharers_in image xs ≡ 0 → (sharers_in image xs ≡ 0 → is_some_of image_of_pages image xs ≡ false) → cond b true (is_some_of image_of_pages image xs) ≡ false
    go true k later = absurd (omega (arith, k))
    go false k later = later (omega (arith, k))

pub some_sharers : (image n : ℕ) (xs : List SpacePages) → sharers_in image xs ≡ suc n → is_some_of image_of_pages image xs ≡ true
some_sharers image n [] e = absurd (omega (arith, e))
some_sharers image n (x ∷ xs) e = go (x.image == image) e (some_sharers image n xs)
  where
    go : (b : Bool) → cond b 1 0 + sharers_in image xs ≡ suc n → (sharers_in image xs ≡ suc n → is_some_of image_of_pages image xs ≡ true) → cond b true (is_some_of image_of_pages image xs) ≡ true
    go true k later = refl
    go false k later = later (omega (arith, k))

-- the flat state shares an image where a space of the placement has it
pub shared_same : (k : Kernel) (flat : FlatState) (image : ℕ) → Numbered k → IsNumbered flat → SameTables k flat
    → is_shared flat image ≡ is_some_of image_of_pages image k.place.spaces
shared_same k flat image c n t = shared_by_held image flat.processes ∙ same_images (held flat.processes) k.place.spaces image n.sids c.spaces_differ (all_fit k flat t)

-- Pieces.

further_same : (owner : Owner) (old new : List ℕ) → wanted owner (drop (length old) new) ≡ drop (length (wanted owner old)) (wanted owner new)
further_same owner old new = sym (ap (λ (n : ℕ). drop n (wanted owner new)) (length-map old (one owner)) ∙ drop-map (one owner) (length old) new)

pub text_same : (image n blocks : ℕ) (shared : Bool) (named : NamedImage) → (n ≡ 0 → shared ≡ false) → ((m : ℕ) → n ≡ suc m → shared ≡ true)
    → blocks ≡ 2 * text_pages_of named.image.facts
    → text_asked n image blocks ≡ text_wanted shared image named.image
text_same image zero blocks true named none many e = absurd (let h = none refl in cc)
text_same image zero blocks false named none many e = ap (λ (b : ℕ). wanted (owners.Text image) (text_pieces b)) e
text_same image (suc n) blocks true named none many e = refl
text_same image (suc n) blocks false named none many e = absurd (let h = many n refl in cc)

image_same : (images : List NamedImage) (k : Kernel) (flat : FlatState) (image : ℕ) (o : Option NamedImage) → ImagesFit images
    → TextFits images k.place → Numbered k → IsNumbered flat → SameTables k flat → image_numbered images image ≡ o
    → image_asked k.place k.next_sid image (facts_in o) ≡ image_wanted (is_shared flat image) flat.next_sid image o
image_same images k flat image None i x c n t e = refl
image_same images k flat image (Some named) i x c n t e =
    let shared : is_shared flat image ≡ is_some_of image_of_pages image k.place.spaces = shared_same k flat image c n t in
    let size : 2 * length (slots_of k.place (Text image 0)) ≡ 2 * text_pages_of named.image.facts =
    let l : length named.image.text ≡ 1024 * length (slots_of k.place (Text image 0)) = sym (ap (λ (o : Option NamedImage). length (image_text o)) e) ∙ x image in
    let r : length named.image.text ≡ 1024 * text_pages_of named.image.facts = (i image named e).text in
    omega (arith, l, r) in
    let text : text_asked (sharers k.place image) image (2 * length (slots_of k.place (Text image 0))) ≡ text_wanted (is_shared flat image) image named.image =
    text_same image (sharers k.place image) (2 * length (slots_of k.place (Text image 0))) (is_shared flat image) named
    (λ z. shared ∙ no_sharers image k.place.spaces z) (λ m z. shared ∙ some_sharers image m k.place.spaces z) size in
    ap (λ (sid : ℕ). image_asked k.place sid image (Some named.image.facts)) t.next_sid
    ∙ ap (λ (ws : List Wanted). ws ++ (wanted (owners.Data flat.next_sid) (pieces (2 * image_data_pages named.image.facts)) ++ wanted (owners.Stack flat.next_sid) (pieces 2))) text
    ∙ sym (append_assoc (text_wanted (is_shared flat image) image named.image) (wanted (owners.Data flat.next_sid) (pieces (2 * image_data_pages named.image.facts)))
    (wanted (owners.Stack flat.next_sid) (pieces 2)))

-- Changes.

-- what a change wants, where the space has these sizes
sizes_same : (images : List NamedImage) (k : Kernel) (flat : FlatState) (s : Space) (change : Change) → ImagesFit images → TextFits images k.place
    → Numbered k → IsNumbered flat → SameTables k flat
    → data_count k.place s.sid ≡ data_pages_in s → stack_count k.place s.sid ≡ stack_pages_of s
    → change_asks (facts_of images) k.place s.sid k.next_sid change ≡ change_wanted images flat s change
sizes_same images k flat s (Resize data_pages stack_pages) i x c n t d u =
    ap₂ (λ (v w : List Wanted). v ++ w)
    (further_same (owners.Data s.sid) (pieces (2 * data_count k.place s.sid)) (pieces (2 * data_pages))
    ∙ ap (λ (m : ℕ). drop (length (pieces_for (owners.Data s.sid) m)) (pieces_for (owners.Data s.sid) data_pages)) d)
    (further_same (owners.Stack s.sid) (pieces (2 * stack_count k.place s.sid)) (pieces (2 * stack_pages))
    ∙ ap (λ (m : ℕ). drop (length (pieces_for (owners.Stack s.sid) m)) (pieces_for (owners.Stack s.sid) stack_pages)) u)
sizes_same images k flat s (Fork child) i x c n t d u =
    ap (λ (sid : ℕ). wanted (owners.Data sid) (pieces (2 * data_count k.place s.sid)) ++ (wanted (owners.Stack sid) (pieces (2 * stack_count k.place s.sid)) ++ wanted (owners.U child) (u_pieces 2)))
    t.next_sid
    ∙ ap₂ (λ (a b : ℕ). wanted (owners.Data flat.next_sid) (pieces (2 * a)) ++ (wanted (owners.Stack flat.next_sid) (pieces (2 * b)) ++ wanted (owners.U child) (u_pieces 2))) d u
    ∙ sym (append_assoc (pieces_for (owners.Data flat.next_sid) (data_pages_in s)) (pieces_for (owners.Stack flat.next_sid) (stack_pages_of s)) (pieces_for (owners.U child) 1))
sizes_same images k flat s (Exec image top) i x c n t d u =
    ap (image_asked k.place k.next_sid image) (facts_same images image) ∙ image_same images k flat image (image_numbered images image) i x c n t refl
sizes_same images k flat s _ i x c n t d u = refl

pub change_same : (images : List NamedImage) (k : Kernel) (flat : FlatState) (pid : ℕ) (p : Process) (s : Space) (change : Change) → ImagesFit images
    → TextFits images k.place → Numbered k → IsNumbered flat → SameTables k flat
    → process_of flat pid ≡ Some p → p.holding ≡ Holds s → asked (facts_of images) k pid change ≡ change_wanted images flat s change
change_same images k flat pid p s change i x c n t here holds =
    let step : Stepping k flat pid p s = stepping k flat pid p s t here holds in
    let life : life_of_proc (numbered (λ (q : Proc). q.pid) pid k.processes) ≡ HoldsSpace s.sid = ap life_of_proc step.kept ∙ step.life in
    let fits : Fits (Some s) (numbered space_number s.sid k.place.spaces) =
    subst (λ (o : Option Space). Fits o (numbered space_number s.sid k.place.spaces)) (own_space flat pid p s n here holds) (all_fit k flat t s.sid) in
    ap (λ (l : Life). change_asks (facts_of images) k.place (space_of_life l) k.next_sid change) life
    ∙ sizes_same images k flat s change i x c n t (data_counted s (numbered space_number s.sid k.place.spaces) fits) (stack_counted s (numbered space_number s.sid k.place.spaces) fits)

-- The step.

pub step_same : (A : Inputs) (k : Kernel) (flat : FlatState) (pid : ℕ) → ImagesFit A.images → TextFits A.images k.place → Numbered k → IsNumbered flat
    → SameTables k flat → can_step flat pid ≡ true
    → asked (facts_of A.images) k pid (flat_step A flat pid false).change ≡ asks A flat pid
unfolding asks
step_same A k flat pid i x c n t can = go (process_of flat pid) refl can ∙ ap (λ (b : Bool). asks_by b A flat pid) (sym can)
  where
    change : Change
    change = (flat_step A flat pid false).change

    ready : (p : Process) (b : Bool) → process_of flat pid ≡ Some p → (h : Holding) → p.holding ≡ h → is_ready (record p { asleep = b; holding = h }) ≡ true
        → asked (facts_of A.images) k pid change ≡ wanted_in A.images flat change h
    ready p true here h holds e = absurd cc
    ready p false here (Holds s) holds e = change_same A.images k flat pid p s change i x c n t here holds
    ready p false here (Lends sid child) holds e = absurd cc
    ready p false here (Zombie status) holds e = absurd cc

    go : (o : Option Process) → process_of flat pid ≡ o → ready_if o ≡ true → asked (facts_of A.images) k pid change ≡ wanted_if A.images flat change (process_of flat pid)
    go None here e = absurd cc
    go (Some p) here e = ready p p.asleep here p.holding refl e ∙ ap (wanted_if A.images flat change) (sym here)
