-- What stands of a run stands at its start.
use Rattle.std.proofs.Common.{◌≡◌, ℕ, suc, ◌+◌, ◌*◌, ◌<◌, ◌==◌, ◌||◌, ◌&&◌, Bool, true, false, cond, List, [], ◌∷◌, ◌++◌, length, map, replicate, Option, Some, None, Result, Ok, Err, refl, sym, ap, ◌∙◌, subst, arith}
use Rattle.std.proofs.lemmas.List.{length-replicate}
use Rattle.flat_state.specs.Flat.{NamedImage, Inputs, image_numbered, start_process, start_if, start_processes, start_state}
use Rattle.vm_facts.specs.declared.page.Page.TheVariants as pages
use Rattle.aout_image.specs.declared.Image.{Image}
use Rattle.aout_image.specs.Image.{image_data_pages, text_pages_of}
use Rattle.swap_dmap.specs.Chunks.{pieces}
use Rattle.swap_book.specs.declared.Owner.TheVariants as owners
use Rattle.swap_book.specs.Owners.{u_pieces}
use Rattle.swap_book.specs.Holdings.{Holdings}
use Rattle.swap_book.specs.Placing.{Wanted, wanted, and_then, place_all}
use Rattle.swap_book.proofs.GrowthLaws.{place_all-append}
use Rattle.page_model.specs.Pages.{numbered}
use Rattle.vm_facts.specs.Lists.{times}
use Rattle.page_model.specs.Placement.{Placement, Starting, Due, Start, due_page, due_of_page, due_from, slots_of, start_placement}
use Rattle.page_model.specs.Rank.{HandsStand}
use Rattle.page_model.specs.Dues.{NotDue}
use Rattle.page_model.specs.Ownership.{OneOwner}
use Rattle.kernel_model.specs.Kernel.{Kernel, Proc}
use Rattle.kernel_model.specs.Sound.{lives, lives_in, Sound}
use Rattle.kernel_model.specs.Coupled.{SameTables, Coupled}
use Rattle.kernel_model.specs.Asks.{text_asked, start_asks, is_started}
use Rattle.kernel_model.specs.Numbers.{Numbered}
use Rattle.kernel_model.specs.Start.{kept_of, start_kernel, AreStarting, ImageFits, ImagesFit}
use Rattle.flat_state.specs.Numbers.{AllDistinct, AllBelow, IsNumbered}
use Rattle.kernel_model.specs.Stands.{Stands}
use Rattle.std.proofs.lemmas.Bool.{ne_eqb}
use Rattle.kernel_laws.proofs.Kept.Starts.{kept_pids}
use Rattle.kernel_laws.proofs.Sound.Steps.{alive_owner}
use Rattle.kernel_laws.proofs.Pieces.Starts.{start_found}
use Rattle.kernel_laws.proofs.Sound.Residing.{started_in}
use Rattle.kernel_laws.proofs.Sound.Allowed.{start_numbers}
use Rattle.page_laws.proofs.Due.Entries.{start_due}
use Rattle.kernel_laws.proofs.Machine.Starts.{start_coupled_all}
use Rattle.kernel_laws.proofs.Stands.Starts.{start_lent, start_beside, start_numbered}
use Rattle.flat_laws.proofs.Asking.{text_same}
use Rattle.flat_model.specs.Asked.{pieces_for, text_wanted, image_wanted, contains, first_then, first_wanted, first_held, start_held}
use Rattle.run_model.specs.State.{start}
use Rattle.run_model.specs.Snapshot.{starting_as, starting}
use Rattle.flat_laws.proofs.Sized.{start_sized}
use Rattle.flat_laws.proofs.FewInRuns.{images_whole}
use Rattle.run_laws.specs.Standing.{EachOnce}
use Rattle.run_laws.specs.Running.{IsRun, FirstThere}
use Rattle.run_laws.proofs.Bridge.{from_machine}
use Rattle.run_laws.proofs.Texts.{start_texts}

pub are_starting : (images : List NamedImage) (ns : List ℕ) → FirstThere images ns → AreStarting images ns (starting images ns)
are_starting images [] h = tt
are_starting images (n ∷ ns) h =
    subst (λ (o : Option NamedImage). AreStarting images (n ∷ ns) (starting_as n o ++ starting images ns)) (sym h.0.1) (h.0.0, h.0.1, refl, refl, are_starting images ns h.1)

-- The pieces of the first processes.

contains_times : (ns : List ℕ) (n : ℕ) → (times n ns ≡ 0 → contains ns n ≡ false) × ((m : ℕ) → times n ns ≡ suc m → contains ns n ≡ true)
contains_times [] n = ((λ e. refl), (λ m e. absurd cc))
contains_times (k ∷ ns) n = go (k == n) (contains_times ns n)
  where
    go : (b : Bool) → (times n ns ≡ 0 → contains ns n ≡ false) × ((m : ℕ) → times n ns ≡ suc m → contains ns n ≡ true)
        → (cond b 1 0 + times n ns ≡ 0 → (b || contains ns n) ≡ false) × ((m : ℕ) → cond b 1 0 + times n ns ≡ suc m → (b || contains ns n) ≡ true)
    go true ih = ((λ e. absurd (omega (arith, e))), (λ m e. refl))
    go false ih = ((λ e. ih.0 (omega (arith, e))), (λ m e. ih.1 m (omega (arith, e))))

assoc : (xs ys zs : List Wanted) → (xs ++ ys) ++ zs ≡ xs ++ (ys ++ zs)
assoc [] ys zs = refl
assoc (x ∷ xs) ys zs = ap (λ (l : List Wanted). x ∷ l) (assoc xs ys zs)

-- one process's pieces, as the flat state and as the placement has them
first_same : (images : List NamedImage) (p : Placement) (earlier : List ℕ) (pid n : ℕ) (named : NamedImage) (rest : List Wanted)
    → image_numbered images n ≡ Some named
    → 2 * length (slots_of p (pages.Text n 0)) ≡ 2 * text_pages_of named.image.facts
    → first_wanted images (contains earlier n) pid n ++ rest
    ≡ text_asked (times n earlier) n (2 * length (slots_of p (pages.Text n 0))) ++ (wanted (owners.Data pid) (pieces (2 * image_data_pages named.image.facts))
    ++ (wanted (owners.Stack pid) (pieces 2) ++ (wanted (owners.U pid) (u_pieces 2) ++ rest)))
first_same images p earlier pid n named rest e size =
    let t : List Wanted = text_wanted (contains earlier n) n named.image in
    let d : List Wanted = pieces_for (owners.Data pid) (image_data_pages named.image.facts) in
    let k : List Wanted = pieces_for (owners.Stack pid) 1 in
    let u : List Wanted = pieces_for (owners.U pid) 1 in
    ap (λ (o : Option NamedImage). (image_wanted (contains earlier n) pid n o ++ u) ++ rest) e
    ∙ assoc ((t ++ d) ++ k) u rest ∙ assoc (t ++ d) k (u ++ rest) ∙ assoc t d (k ++ (u ++ rest))
    ∙ ap (λ (x : List Wanted). x ++ (d ++ (k ++ (u ++ rest))))
    (sym (text_same n (times n earlier) (2 * length (slots_of p (pages.Text n 0))) (contains earlier n) named (contains_times earlier n).0 (contains_times earlier n).1 size))

first_joined : (A : Inputs) (p : Placement) (earlier : List ℕ) (pid : ℕ) (ns : List ℕ) (hs found : Holdings) → FirstThere A.images ns
    → ((n : ℕ) (named : NamedImage) → image_numbered A.images n ≡ Some named → 2 * length (slots_of p (pages.Text n 0)) ≡ 2 * text_pages_of named.image.facts)
    → first_held A earlier pid ns hs ≡ Ok found → place_all A.swap_blocks hs (start_asks p earlier pid (starting A.images ns)) ≡ Ok found
unfolding first_held place_all
first_joined A p earlier pid [] hs found there sizes h =
    let ok : (let x : Result Holdings ℕ = Ok hs in x) ≡ Ok found → (let y : Result Holdings ℕ = Ok hs in y) ≡ Ok found = λ e.
    let same : (let x : Result Holdings ℕ = Ok hs in x) ≡ Ok found → hs ≡ found = λ e. cc in
    ap (λ (z : Holdings). Ok z) (same e) in
    ok h
first_joined A p earlier pid (n ∷ ns) hs found there sizes h =
    ap (λ (o : Option NamedImage). place_all A.swap_blocks hs (start_asks p earlier pid (starting_as n o ++ starting A.images ns))) there.0.1
    ∙ ap (place_all A.swap_blocks hs) (sym (first_same A.images p earlier pid n there.0.0 (start_asks p (n ∷ earlier) (pid + 1) (starting A.images ns)) there.0.1 (sizes n there.0.0 there.0.1)))
    ∙ place_all-append A.swap_blocks hs (first_wanted A.images (contains earlier n) pid n) (start_asks p (n ∷ earlier) (pid + 1) (starting A.images ns))
    ∙ go (λ now k. first_joined A p (n ∷ earlier) (pid + 1) ns now found there.1 sizes k) (place_all A.swap_blocks hs (first_wanted A.images (contains earlier n) pid n)) h
  where
    go : ((now : Holdings) → first_held A (n ∷ earlier) (pid + 1) ns now ≡ Ok found → place_all A.swap_blocks now (start_asks p (n ∷ earlier) (pid + 1) (starting A.images ns)) ≡ Ok found)
        → (r : Result Holdings ℕ) → first_then pid r (first_held A (n ∷ earlier) (pid + 1) ns) ≡ Ok found
        → and_then r (λ now. place_all A.swap_blocks now (start_asks p (n ∷ earlier) (pid + 1) (starting A.images ns))) ≡ Ok found
    go ih (Ok now) k = ih now k
    go ih (Err m) k = absurd cc

-- Who lives.

pub started_lives : (images : List NamedImage) (ns : List ℕ) (pid n : ℕ) → FirstThere images ns
    → lives (map kept_of (start_processes images pid ns)) n ≡ is_started pid (starting images ns) n
started_lives images [] pid n h = refl
started_lives images (m ∷ ns) pid n h =
    ap (λ (o : Option NamedImage). lives (map kept_of (start_if pid m o ++ start_processes images (pid + 1) ns)) n) h.0.1
    ∙ go (pid == n) (started_lives images ns (pid + 1) n h.1)
    ∙ sym (ap (λ (o : Option NamedImage). is_started pid (starting_as m o ++ starting images ns) n) h.0.1)
  where
    go : (b : Bool) → lives (map kept_of (start_processes images (pid + 1) ns)) n ≡ is_started (pid + 1) (starting images ns) n
        → lives_in (cond b (Some (kept_of (start_process pid m h.0.0))) (numbered (λ (x : Proc). x.pid) n (map kept_of (start_processes images (pid + 1) ns))))
        ≡ cond b true (is_started (pid + 1) (starting images ns) n)
    go true ih = refl
    go false ih = ih

-- Numbers.

started_count : (images : List NamedImage) (ns : List ℕ) → FirstThere images ns → length (starting images ns) ≡ length ns
started_count images [] h = refl
started_count images (n ∷ ns) h = ap (λ (o : Option NamedImage). length (starting_as n o ++ starting images ns)) h.0.1 ∙ ap suc (started_count images ns h.1)

-- What is due.

later_not_due : (m n : ℕ) (first : List Starting) → m < n → NotDue (due_from n first) (pages.Stack m 0)
later_not_due m n [] l = refl
later_not_due m n (a ∷ more) l =
    ap (λ (b : Bool). cond (b && (0 == 0)) (Some (Start (pages.Stack n 0))) (due_of_page (due_from (n + 1) more) (pages.Stack m 0))) (ne_eqb n m (λ e. absurd (omega arith)))
    ∙ later_not_due m (n + 1) more (omega arith)

start_once : (n : ℕ) (first : List Starting) → EachOnce (due_from n first)
start_once n [] = tt
start_once n (a ∷ more) = (later_not_due n (n + 1) more (omega arith), start_once (n + 1) more)

-- All of it.

pub run_start : (A : Inputs) (hs : Holdings) → ImagesFit A.images → FirstThere A.images A.first → 0 < A.frames → start_held A ≡ Ok hs → IsRun A (start A hs)
run_start A hs images there some found =
    let first : List Starting = starting A.images A.first in
    let facts : List Image = map (λ (named : NamedImage). named.image.facts) A.images in
    let p : Placement = start_placement facts first A.frames in
    let frames : List (List ℕ) = replicate A.frames [] in
    let k : Kernel = start_kernel A first hs frames in
    let are : AreStarting A.images A.first first = are_starting A.images A.first there in
    let coupled : Coupled k A.images [] (start_state A) = start_coupled_all A first hs frames [] are images in
    let beside : Stands A.images k (start_state A) = start_beside A first hs frames are images in
    let sizes : (n : ℕ) (named : NamedImage) → image_numbered A.images n ≡ Some named → 2 * length (slots_of p (pages.Text n 0)) ≡ 2 * text_pages_of named.image.facts = λ n named e.
    let i : ImageFits named = images n named e in
    let t : length named.image.text ≡ 1024 * length (slots_of p (pages.Text n 0)) = sym (ap (λ (o : Option NamedImage). length (Rattle.kernel_model.specs.Coupled.image_text o)) e) ∙ beside.texts n in
    let r = i.text in omega (arith, t, r) in
    let owner : OneOwner A.swap_blocks (is_started 1 first) p hs = start_found A.swap_blocks facts first A.frames hs (first_joined A p [] 1 A.first [] hs there sizes found) in
    let sound : Sound A.swap_blocks k =
    let hands : HandsStand p = Rattle.page_laws.proofs.Starts.start_hands facts first A.frames some in
    record {
      owner = alive_owner A.swap_blocks (is_started 1 first) (lives k.processes) p hs (λ n. started_lives A.images A.first 1 n there) owner;
      tokens = length-replicate A.frames [] ∙ sym (length-replicate A.frames None);
      hands = hands;
      few_transfers = omega arith;
    } in
    let n : IsNumbered (start_state A) = start_numbered A in
    let numbers : Numbered k = record {
      spaces_differ = (start_numbers facts first A.frames).0;
      spaces_below = subst (λ (m : ℕ). AllBelow m (map Rattle.page_model.specs.Placement.space_number p.spaces))
          (let e = started_count A.images A.first there in let z : 1 + length first ≡ length A.first + 1 = omega arith in z) (start_numbers facts first A.frames).1;
      pids_differ = subst AllDistinct (sym (kept_pids (start_state A).processes)) n.pids;
      pids_below = subst (AllBelow (start_state A).next_pid) (sym (kept_pids (start_state A).processes)) n.pids_below;
      residents = λ m a. started_in 1 m first (sym (started_lives A.images A.first 1 m there) ∙ a);
    } in
    record {
      placed = from_machine A (start_state A) k sound numbers coupled.tables beside (start_due facts first A.frames) (start_once 1 first) tt (length-replicate A.frames None);
      numbers = start_numbered A;
      lenders = start_lent A;
      texts = start_texts A.images 1 A.first;
      sized = start_sized A (images_whole A.images images);
      flows = record { says = tt; waits = tt };
      mark = tt;
    }
