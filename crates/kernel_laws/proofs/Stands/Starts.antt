-- What the coupling asks beside it is so at the start of a run.
use Rattle.std.proofs.Common.{◌≡◌, inl, inr, ℕ, zero, suc, ◌+◌, ◌*◌, ◌<◌, ◌||◌, Bool, true, false, cond, List, [], ◌∷◌, ◌++◌, length, map, replicate, Option, Some, None, refl, sym, ap, ◌∙◌, subst, arith}
use Rattle.std.specs.Prelude.{slice_get}
use Rattle.std.proofs.lemmas.Bool.{cases_eq}
use Rattle.std.proofs.lemmas.List.{length-replicate}
use Rattle.flat_state.specs.Space.{Space}
use Rattle.flat_state.specs.Flat.{Holds, Lends, Process, NamedImage, Inputs, process_of, image_numbered, start_process, start_if, start_processes, start_state}
use Rattle.vm_facts.specs.declared.page.Page.{Page}
use Rattle.vm_facts.specs.declared.page.Page.TheVariants.{Stack, Text}
use Rattle.aout_image.specs.declared.Image.{Image}
use Rattle.aout_image.specs.Image.{text_pages_of}
use Rattle.swap_book.specs.Holdings.{Holdings}
use Rattle.page_model.specs.Pages.{TextPages, Zeros, Slot, text_in, numbered}
use Rattle.flat_state.specs.PageNames.{same_page}
use Rattle.page_model.specs.Placement.{Starting, Due, Start, due_of_page, image_number, slots_of, unfilled, texts_from, due_from}
use Rattle.flat_state.specs.Numbers.{IsAbsent, AllDistinct, AllBelow, AllLower, IsNumbered}
use Rattle.flat_state.specs.Lenders.{LendsStand}
use Rattle.kernel_model.specs.Stands.{Stands}
use Rattle.kernel_model.specs.Sound.{is_start, has_start}
use Rattle.kernel_model.specs.Coupled.{image_text}
use Rattle.kernel_model.specs.Start.{start_of, start_kernel, AreStarting, ImageFits, ImagesFit}
use Rattle.page_laws.proofs.Lists.Local.{none_some}
use Rattle.std.proofs.lemmas.Option.{same_Some}
use Rattle.page_laws.proofs.Lists.Pages.{numbered_hit, numbered_miss}
use Rattle.kernel_laws.proofs.Flat.Lists.{pid_of, sid_of, held, found_is}
use Rattle.kernel_laws.proofs.Machine.Starts.{all_in}

-- Numbers.

-- each first process has its own space of its number
sids_are : (images : List NamedImage) (numbers : List ℕ) (n : ℕ)
    → map sid_of (held (start_processes images n numbers)) ≡ map pid_of (start_processes images n numbers)
sids_are images [] n = refl
sids_are images (x ∷ numbers) n = go (image_numbered images x) (sids_are images numbers (n + 1))
  where
    go : (o : Option NamedImage) → map sid_of (held (start_processes images (n + 1) numbers)) ≡ map pid_of (start_processes images (n + 1) numbers)
        → map sid_of (held (start_if n x o ++ start_processes images (n + 1) numbers)) ≡ map pid_of (start_if n x o ++ start_processes images (n + 1) numbers)
    go None ih = ih
    go (Some named) ih = ap (λ (l : List ℕ). n ∷ l) ih

low_absent : (images : List NamedImage) (numbers : List ℕ) (n m : ℕ) → m < n → IsAbsent m (map pid_of (start_processes images n numbers))
low_absent images [] n m l = tt
low_absent images (x ∷ numbers) n m l = go (image_numbered images x) (low_absent images numbers (n + 1) m (omega arith))
  where
    go : (o : Option NamedImage) → IsAbsent m (map pid_of (start_processes images (n + 1) numbers)) → IsAbsent m (map pid_of (start_if n x o ++ start_processes images (n + 1) numbers))
    go None ih = ih
    go (Some named) ih = ((λ e. absurd (omega arith)), ih)

first_distinct : (images : List NamedImage) (numbers : List ℕ) (n : ℕ) → AllDistinct (map pid_of (start_processes images n numbers))
first_distinct images [] n = tt
first_distinct images (x ∷ numbers) n = go (image_numbered images x) (first_distinct images numbers (n + 1))
  where
    go : (o : Option NamedImage) → AllDistinct (map pid_of (start_processes images (n + 1) numbers)) → AllDistinct (map pid_of (start_if n x o ++ start_processes images (n + 1) numbers))
    go None ih = ih
    go (Some named) ih = (low_absent images numbers (n + 1) n (omega arith), ih)

first_below : (images : List NamedImage) (numbers : List ℕ) (n m : ℕ) → m ≡ length numbers + n → AllBelow m (map pid_of (start_processes images n numbers))
first_below images [] n m e = tt
first_below images (x ∷ numbers) n m e = go (image_numbered images x) (first_below images numbers (n + 1) m (omega arith))
  where
    go : (o : Option NamedImage) → AllBelow m (map pid_of (start_processes images (n + 1) numbers)) → AllBelow m (map pid_of (start_if n x o ++ start_processes images (n + 1) numbers))
    go None ih = ih
    go (Some named) ih = (omega arith, ih)

pub first_lower : (images : List NamedImage) (numbers : List ℕ) (n : ℕ) → 0 < n → AllLower (start_processes images n numbers)
first_lower images [] n l = tt
first_lower images (x ∷ numbers) n l = go (image_numbered images x) (first_lower images numbers (n + 1) (omega arith))
  where
    go : (o : Option NamedImage) → AllLower (start_processes images (n + 1) numbers) → AllLower (start_if n x o ++ start_processes images (n + 1) numbers)
    go None ih = ih
    go (Some named) ih = (l, ih)

pub start_numbered : (A : Inputs) → IsNumbered (start_state A)
start_numbered A = record {
  pids = first_distinct A.images A.first 1;
  sids = subst AllDistinct (sym (sids_are A.images A.first 1)) (first_distinct A.images A.first 1);
  pids_below = first_below A.images A.first 1 (length A.first + 1) refl;
  sids_below = subst (AllBelow (length A.first + 1)) (sym (sids_are A.images A.first 1)) (first_below A.images A.first 1 (length A.first + 1) refl);
  parents = first_lower A.images A.first 1 (omega arith);
}

-- Nobody lent a space.

first_hold : (images : List NamedImage) (numbers : List ℕ) (n m : ℕ) (q : Process) → numbered pid_of m (start_processes images n numbers) ≡ Some q
    → (s : Space) × (q.holding ≡ Holds s)
first_hold images [] n m q e = none_some q e
first_hold images (x ∷ numbers) n m q e = go (image_numbered images x) e (first_hold images numbers (n + 1) m q)
  where
    go : (o : Option NamedImage) → numbered pid_of m (start_if n x o ++ start_processes images (n + 1) numbers) ≡ Some q
        → (numbered pid_of m (start_processes images (n + 1) numbers) ≡ Some q → (s : Space) × (q.holding ≡ Holds s)) → (s : Space) × (q.holding ≡ Holds s)
    go None f ih = ih f
    go (Some named) f ih = elim (cases_eq n m) [
      | inl i ↦ (
        Rattle.flat_state.specs.Flat.new_space n x named.image (named.name ∷ []),
        ap (λ (y : Process).
            y.holding) (same_Some q (start_process n x named) (sym f ∙ numbered_hit pid_of m (start_process n x named) (start_processes images (n + 1) numbers) i)),
      )
      | inr d ↦ ih (sym (numbered_miss pid_of m (start_process n x named) (start_processes images (n + 1) numbers) d) ∙ f)
    ]

pub start_lent : (A : Inputs) → LendsStand (start_state A)
start_lent A = record {
  right = λ x sid child e h. holds x sid child e h;
  one = λ x y a b child e f h k. holds x a child e h;
}
  where
    holds : {C : Type 0} (x : Process) (sid child : ℕ) → process_of (start_state A) x.pid ≡ Some x → x.holding ≡ Lends sid child → C
    holds x sid child e h =
        let s : (s : Space) × (x.holding ≡ Holds s) = first_hold A.images A.first 1 x.pid x (sym (found_is (start_state A).processes x.pid) ∙ e) in
        absurd (let z : Holds s.0 ≡ Lends sid child = sym s.1 ∙ h in cc)

-- What is kept is due.

starts_due : (images : List NamedImage) (numbers : List ℕ) (first : List Starting) (n : ℕ) (w : Page) → AreStarting images numbers first
    → is_start (due_of_page (due_from n first) w) ≡ false
    → has_start (map start_of (held (start_processes images n numbers))) w ≡ false
starts_due images [] [] n w a e = refl
starts_due images [] (y ∷ first) n w a e = absurd a
starts_due images (x ∷ numbers) [] n w a e = absurd a
starts_due images (x ∷ numbers) (y ∷ first) n w a e =
    subst (λ (o : Option NamedImage). has_start (map start_of (held (start_if n x o ++ start_processes images (n + 1) numbers))) w ≡ false) (sym a.1)
    (go (same_page (Stack n 0) w) e (starts_due images numbers first (n + 1) w a.4))
  where
    go : (b : Bool) → is_start (cond b (Some (Start (Stack n 0))) (due_of_page (due_from (n + 1) first) w)) ≡ false
        → (is_start (due_of_page (due_from (n + 1) first) w) ≡ false → has_start (map start_of (held (start_processes images (n + 1) numbers))) w ≡ false)
        → (b || has_start (map start_of (held (start_processes images (n + 1) numbers))) w) ≡ false
    go true h ih = absurd cc
    go false h ih = ih h

-- Texts.

-- the text of the image at a place
text_at : (images : List NamedImage) (m j i : ℕ) → i ≡ m + j → ((named : NamedImage) → slice_get images j ≡ Some named → ImageFits named)
    → length (image_text (slice_get images j))
    ≡ 1024 * length (text_in (numbered image_number i (texts_from m (map (λ (named : NamedImage). named.image.facts) images))))
text_at [] m j i e fit = refl
text_at (named ∷ images) m zero i e fit =
    let f : ImageFits named = fit named refl in
    let pages : List Slot = replicate (text_pages_of named.image.facts) (unfilled Zeros) in
    f.text ∙ ap (λ (n : ℕ). 1024 * n) (sym (length-replicate {A = Slot} (text_pages_of named.image.facts) (unfilled Zeros)))
    ∙ sym (ap (λ (o : Option TextPages). 1024 * length (text_in o))
    (numbered_hit image_number i (Rattle.page_model.specs.Placement.new_text m named.image.facts) (texts_from (m + 1) (map (λ (named : NamedImage). named.image.facts) images)) (omega arith)))
text_at (named ∷ images) m (suc j) i e fit = text_at images (m + 1) j i (omega arith) fit
    ∙ sym (ap (λ (o : Option TextPages). 1024 * length (text_in o)) (numbered_miss image_number i (Rattle.page_model.specs.Placement.new_text m named.image.facts)
    (texts_from (m + 1) (map (λ (named : NamedImage). named.image.facts) images)) (λ h. absurd (let y : m ≡ i = h in omega arith))))

no_text : (images : List Image) (m : ℕ) → 0 < m → numbered image_number 0 (texts_from m images) ≡ None
no_text [] m l = refl
no_text (x ∷ images) m l =
    numbered_miss image_number 0 (Rattle.page_model.specs.Placement.new_text m x) (texts_from (m + 1) images) (λ h. absurd (let y : m ≡ 0 = h in omega arith)) ∙ no_text images (m + 1) (omega arith)

pub start_beside : (A : Inputs) (first : List Starting) (hs : Holdings) (frames : List (List ℕ)) → AreStarting A.images A.first first
    → ImagesFit A.images → Stands A.images (start_kernel A first hs frames) (start_state A)
start_beside A first hs frames a fit = record {
  starts = λ w e. starts_due A.images A.first first 1 w a e;
  texts = texts;
  out = λ pid e. absurd (let z : true ≡ false = sym e ∙ all_in first 1 pid in cc);
}
  where
    texts : (i : ℕ) → length (image_text (image_numbered A.images i)) ≡ 1024 * length (slots_of (start_kernel A first hs frames).place (Text i 0))
    texts zero = sym (ap (λ (o : Option TextPages). 1024 * length (text_in o)) (no_text (map (λ (named : NamedImage). named.image.facts) A.images) 1 (omega arith)))
    texts (suc j) = text_at A.images 1 j (suc j) (omega arith) (λ named e. fit (suc j) named e)
