-- The whole machine is coupled with the flat state at the start of a run.
use Rattle.std.proofs.Common.{◌≡◌, ◌≢◌, ◌⊎◌, inl, inr, ℕ, ◌+◌, ◌-◌, ◌*◌, ◌<◌, ◌≤◌, ◌==◌, Bool, true, false, cond, List, [], ◌∷◌, ◌++◌, length, get_or, map, Option, Some, None, refl, sym, ap, ◌∙◌, subst, arith, length-append}
use Rattle.std.specs.Prelude.{nat_lt, replicate}
use Rattle.std.proofs.lemmas.Bool.{cases_eq}
use Rattle.std.proofs.lemmas.Bool.Decides.{nat_tests}
use Rattle.std.proofs.lemmas.List.{length-replicate, take_all}
use Rattle.flat_state.specs.Space.{Space}
use Rattle.flat_state.specs.Flat.{Process, FlatState, NamedImage, Inputs, image_numbered, new_space, start_page, argument_area, start_if, start_processes, start_state, spaces_of}
use Rattle.vm_facts.specs.declared.page.Page.{Page}
use Rattle.vm_facts.specs.declared.page.Page.TheVariants.{Data, Stack, Text}
use Rattle.vm_facts.specs.declared.page.PageState.TheVariants.{Unfilled}
use Rattle.aout_image.specs.declared.Image.{Image}
use Rattle.aout_image.specs.Image.{page_at, data_given, image_data_pages}
use Rattle.swap_book.specs.Holdings.{Holdings}
use Rattle.page_model.specs.Pages.{Slot, Zeros, OfImage, SpacePages, no_slot, numbered, data_in, stack_in}
use Rattle.page_model.specs.Placement.{Residence, Starting, Due, Start, due_of_page, space_number, slot_of, state_of, mark_of, filling_of, image_in, IsThere, unfilled, data_filling, new_pages, spaces_from, residents_from, due_from}
use Rattle.page_model.specs.Swapper.{residence_of}
use Rattle.page_model.specs.PageBytes.{Bytes, KeepsUnfilled, KeepsBy, Keeps}
use Rattle.kernel_model.specs.Coupled.{IsSized, Fits, AllFit, Outline, Coupled, outline_kept, outline_of, memory_of, file_of, data_of, data_bytes_in, stack_bytes_in, beside_kernel}
use Rattle.kernel_model.specs.Kernel.{Kernel, Proc, start_bytes}
use Rattle.kernel_model.specs.Sound.{DataFits}
use Rattle.kernel_model.specs.Start.{kept_of, start_of, start_kernel, AreStarting, ImageFits, ImagesFit}
use Rattle.std.proofs.lemmas.Option.{same_Some}
use Rattle.flat_state.proofs.PageNames.{same_page_self}
use Rattle.page_laws.proofs.Bytes.Spaces.{apart_page, unfilled_at, unfilled_length}
use Rattle.page_laws.proofs.Starts.{start_blank}
use Rattle.kernel_laws.proofs.Flat.Numbered.{image_by, numbered_image}
use Rattle.page_laws.proofs.Lists.Pages.{numbered_hit, numbered_miss}
use Rattle.kernel_laws.proofs.Flat.Lists.{pid_of, sid_of, held}
use Rattle.kernel_laws.proofs.Machine.Tables.{kept_pid, tables_of, coupled_of}

-- A space at the start, in the flat state and in the placement.
record StartAt (images : List NamedImage) (ss : List Space) (xs : List SpacePages) (ds : List Due) (sid : ℕ) : Type 0 where
  pub number : ℕ
  pub named : NamedImage
  pub image : image_numbered images number ≡ Some named
  pub flat : numbered sid_of sid ss ≡ Some (new_space sid number named.image (named.name ∷ []))
  pub pages : numbered space_number sid xs ≡ Some (new_pages sid number named.image.facts)
  pub due : due_of_page ds (Stack sid 0) ≡ Some (Start (Stack sid 0))
  pub start : start_bytes (map start_of ss) (Stack sid 0) ≡ start_page (named.name ∷ [])

abbrev NoneAt : List Space → List SpacePages → ℕ → Type 0
NoneAt ss xs sid = (numbered sid_of sid ss ≡ None) × (numbered space_number sid xs ≡ None)

stack_sid : (a b v w : ℕ) → Stack a v ≡ Stack b w → a ≡ b
stack_sid a b v w e = cc

one_more : (images : List NamedImage) (n number : ℕ) (named : NamedImage) (ss : List Space) (xs : List SpacePages) (ds : List Due) (sid : ℕ)
    → image_numbered images number ≡ Some named → NoneAt ss xs sid ⊎ StartAt images ss xs ds sid
    → NoneAt (new_space n number named.image (named.name ∷ []) ∷ ss) (new_pages n number named.image.facts ∷ xs) sid
    ⊎ StartAt images (new_space n number named.image (named.name ∷ []) ∷ ss) (new_pages n number named.image.facts ∷ xs) (Start (Stack n 0) ∷ ds) sid
one_more images n number named ss xs ds sid im r = elim (cases_eq n sid) [
  | inl i ↦ inr (subst (StartAt images (new_space n number named.image (named.name ∷ []) ∷ ss) (new_pages n number named.image.facts ∷ xs) (Start (Stack n 0) ∷ ds)) i (record {
    number = number;
    named = named;
    image = im;
    flat = numbered_hit sid_of n (new_space n number named.image (named.name ∷ [])) ss refl;
    pages = numbered_hit space_number n (new_pages n number named.image.facts) xs refl;
    due = ap (λ (b : Bool). cond b (Some (Start (Stack n 0))) (due_of_page ds (Stack n 0))) (same_page_self (Stack n 0));
    start = ap (λ (b : Bool). cond b (start_page (named.name ∷ [])) (start_bytes (map start_of ss) (Stack n 0))) (same_page_self (Stack n 0));
  }))
  | inr d ↦ elim r [
    | inl z ↦ inl (numbered_miss sid_of sid (new_space n number named.image (named.name ∷ [])) ss d ∙ z.0, numbered_miss space_number sid (new_pages n number named.image.facts) xs d ∙ z.1)
    | inr a ↦ inr (record {
      number = a.number;
      named = a.named;
      image = a.image;
      flat = numbered_miss sid_of sid (new_space n number named.image (named.name ∷ [])) ss d ∙ a.flat;
      pages = numbered_miss space_number sid (new_pages n number named.image.facts) xs d ∙ a.pages;
      due = ap (λ (b : Bool). cond b (Some (Start (Stack n 0))) (due_of_page ds (Stack sid 0))) (apart_page (Stack n 0) (Stack sid 0) (λ e. d (stack_sid n sid 0 0 e))) ∙ a.due;
      start = ap (λ (b : Bool). cond b (start_page (named.name ∷ [])) (start_bytes (map start_of ss) (Stack sid 0))) (apart_page (Stack n 0) (Stack sid 0) (λ e. d (stack_sid n sid 0 0 e))) ∙ a.start;
    })
  ]
]

start_at : (images : List NamedImage) (numbers : List ℕ) (first : List Starting) (n sid : ℕ) → AreStarting images numbers first
    → NoneAt (held (start_processes images n numbers)) (spaces_from n first) sid
    ⊎ StartAt images (held (start_processes images n numbers)) (spaces_from n first) (due_from n first) sid
start_at images [] [] n sid a = inl (refl, refl)
start_at images [] (x ∷ first) n sid a = absurd a
start_at images (number ∷ numbers) [] n sid a = absurd a
start_at images (number ∷ numbers) (x ∷ first) n sid a =
    subst (λ (o : Option NamedImage). NoneAt (held (start_if n number o ++ start_processes images (n + 1) numbers)) (new_pages n x.image x.facts ∷ spaces_from (n + 1) first) sid
    ⊎ StartAt images (held (start_if n number o ++ start_processes images (n + 1) numbers)) (new_pages n x.image x.facts ∷ spaces_from (n + 1) first) (Start (Stack n 0) ∷ due_from (n + 1) first) sid)
    (sym a.1)
    (subst (λ (m : ℕ). NoneAt (new_space n number a.0.image (a.0.name ∷ []) ∷ held (start_processes images (n + 1) numbers)) (new_pages n m x.facts ∷ spaces_from (n + 1) first) sid
    ⊎ StartAt images (new_space n number a.0.image (a.0.name ∷ []) ∷ held (start_processes images (n + 1) numbers)) (new_pages n m x.facts ∷ spaces_from (n + 1) first)
    (Start (Stack n 0) ∷ due_from (n + 1) first) sid) (sym a.2)
    (subst (λ (f : Image). NoneAt (new_space n number a.0.image (a.0.name ∷ []) ∷ held (start_processes images (n + 1) numbers)) (new_pages n number f ∷ spaces_from (n + 1) first) sid
    ⊎ StartAt images (new_space n number a.0.image (a.0.name ∷ []) ∷ held (start_processes images (n + 1) numbers)) (new_pages n number f ∷ spaces_from (n + 1) first)
    (Start (Stack n 0) ∷ due_from (n + 1) first) sid) (sym a.3)
    (one_more images n number a.0 (held (start_processes images (n + 1) numbers)) (spaces_from (n + 1) first) (due_from (n + 1) first) sid a.1 (start_at images numbers first (n + 1) sid a.4))))

-- no other page is due
due_stacks : (first : List Starting) (n : ℕ) (w : Page) → ((sid : ℕ) → Stack sid 0 ≢ w) → due_of_page (due_from n first) w ≡ None
due_stacks [] n w d = refl
due_stacks (a ∷ first) n w d = ap (λ (b : Bool). cond b (Some (Start (Stack n 0))) (due_of_page (due_from (n + 1) first) w)) (apart_page (Stack n 0) w (d n)) ∙ due_stacks first (n + 1) w d

-- everybody is in
pub all_in : (first : List Starting) (n pid : ℕ) → (residence_of (residents_from n first) pid).out ≡ false
all_in [] n pid = refl
all_in (a ∷ first) n pid = go (n == pid) (all_in first (n + 1) pid)
  where
    go : (b : Bool) → (residence_of (residents_from (n + 1) first) pid).out ≡ false
        → (cond b (let r : Residence = record { pid = n; out = false; since = 0 } in r) (residence_of (residents_from (n + 1) first) pid)).out ≡ false
    go true h = refl
    go false h = h

pub start_outlines : (ps : List Process) → map outline_kept (map kept_of ps) ≡ map outline_of ps
start_outlines [] = refl
start_outlines (p ∷ ps) = ap (λ (l : List Outline). outline_of p ∷ l) (start_outlines ps)

page_whole : (name : List ℕ) → length (argument_area (name ∷ [])) ≤ 1024 → length (start_page (name ∷ [])) ≡ 1024
page_whole name l = length-append (replicate (1024 - length (argument_area (name ∷ []))) 0) (argument_area (name ∷ []))
    ∙ (let z = length-replicate {A = ℕ} (1024 - length (argument_area (name ∷ []))) 0 in omega arith)

-- The start of a run.
pub start_coupled_all : (A : Inputs) (first : List Starting) (hs : Holdings) (frames : List (List ℕ)) (image : List ℕ)
    → AreStarting A.images A.first first → ImagesFit A.images
    → Coupled (start_kernel A first hs frames) A.images image (start_state A)
start_coupled_all A first hs frames image a fit =
    let fits : AllFit flat k.place = λ sid. elim (at sid) [
      | inl z ↦ subst (λ (o : Option Space). Fits o (numbered space_number sid k.place.spaces)) (sym z.0) (subst (Fits None) (sym z.1) tt)
      | inr s ↦ (let f : ImageFits s.named = fit s.number s.named s.image in
          let d : DataFits s.named.image = f.data in
          let sized : IsSized (new_space sid s.number s.named.image (s.named.name ∷ [])) (new_pages sid s.number s.named.image.facts) = record {
            image = refl;
            data_size = d.size ∙ ap (λ (m : ℕ). 1024 * m) (sym (unfilled_length s.named.image.facts 0 (image_data_pages s.named.image.facts)));
            stack_size = page_whole s.named.name f.name;
          } in
          subst (λ (o : Option Space). Fits o (numbered space_number sid k.place.spaces)) (sym s.flat)
          (subst (Fits (Some (new_space sid s.number s.named.image (s.named.name ∷ [])))) (sym s.pages) sized))
    ] in
    coupled_of k A.images image flat (tables_of k flat (start_outlines flat.processes) refl refl fits)
    (record { each = each; text = λ i v. refl; text_due = λ i v. due_stacks first 1 (Text i v) (λ sid e. cc) })
    (λ n q p eq ep. subst (λ (o : Bool). Rattle.kernel_model.specs.Coupled.KeepsRegs k image o q p.regs (Rattle.page_model.specs.Place.space_of_holding q.holding)) (sym (all_in first 1 n))
    (let same : kept_of q ≡ p = same_Some (kept_of q) p (ap (image_by kept_of) (sym eq) ∙ sym (numbered_image kept_of pid_of kept_pid (λ x. refl) n flat.processes) ∙ ep) in
    ap (λ (x : Proc). x.regs) (sym same)))
  where
    k : Kernel
    k = start_kernel A first hs frames

    flat : FlatState
    flat = start_state A

    b : Bytes
    b = beside_kernel k A.images image flat

    at : (sid : ℕ) → NoneAt (spaces_of flat) k.place.spaces sid ⊎ StartAt A.images (spaces_of flat) k.place.spaces k.place.due sid
    at sid = start_at A.images A.first first 1 sid a

    not_lt : (m n : ℕ) → nat_lt m n ≡ false → n ≤ m
    not_lt m n e = grind (arith, nat_tests)

    -- a data page, which is filled from its file or with zeros
    data_page : (sid v : ℕ) → IsThere k.place (Data sid v) → KeepsUnfilled b (Data sid v) (due_of_page k.place.due (Data sid v)) (filling_of k.place (Data sid v))
    data_page sid v there = subst (λ (o : Option Due). KeepsUnfilled b (Data sid v) o (filling_of k.place (Data sid v))) (sym (due_stacks first 1 (Data sid v) (λ n e. cc))) (elim (at sid) [
      | inl z ↦ absurd (let w : v < length (data_in (numbered space_number sid k.place.spaces)) = there in let y = ap (λ (o : Option SpacePages). length (data_in o)) z.1 in omega arith)
      | inr s ↦ (let f : ImageFits s.named = fit s.number s.named s.image in
          let d : DataFits s.named.image = f.data in
          let w : v < image_data_pages s.named.image.facts =
          (let x : v < length (data_in (numbered space_number sid k.place.spaces)) = there in
          let y = ap (λ (o : Option SpacePages). length (data_in o)) s.pages in let z = unfilled_length s.named.image.facts 0 (image_data_pages s.named.image.facts) in omega arith) in
          let zero_plus : 0 + v ≡ v = omega arith in
          let slot : slot_of k.place (Data sid v) ≡ unfilled (data_filling s.named.image.facts v) = ap (λ (o : Option SpacePages). get_or (data_in o) v no_slot) s.pages
          ∙ unfilled_at s.named.image.facts 0 (image_data_pages s.named.image.facts) v w ∙ ap (λ (m : ℕ). unfilled (data_filling s.named.image.facts m)) zero_plus in
          let memory : b.memory (Data sid v) ≡ page_at v s.named.image.data = ap (λ (o : Option Space). page_at v (data_bytes_in o)) s.flat in
          let file : b.file (Data sid v) ≡ page_at v s.named.image.data =
          ap (λ (o : Option SpacePages). page_at v (data_of (image_numbered A.images (image_in o)))) s.pages ∙ ap (λ (o : Option NamedImage). page_at v (data_of o)) s.image in
          subst (KeepsUnfilled b (Data sid v) None) (sym (ap (λ (x : Slot). x.filling) slot)) (by_filling s.named d v w memory file (nat_lt (1024 * v) (data_given s.named.image.facts)) refl))
    ])
      where
        by_filling : (named : NamedImage) → DataFits named.image → (u : ℕ) → u < image_data_pages named.image.facts → b.memory (Data sid v) ≡ page_at u named.image.data
            → b.file (Data sid v) ≡ page_at u named.image.data
            → (t : Bool) → nat_lt (1024 * u) (data_given named.image.facts) ≡ t → KeepsUnfilled b (Data sid v) None (cond t OfImage Zeros)
        by_filling named d u w m f true e = f ∙ sym m
        by_filling named d u w m f false e = sym (m ∙ d.rest u (not_lt (1024 * u) (data_given named.image.facts) e) w)

    -- stack page 0, with what is kept for it
    stack_page : (sid v : ℕ) → IsThere k.place (Stack sid v) → KeepsUnfilled b (Stack sid v) (due_of_page k.place.due (Stack sid v)) (filling_of k.place (Stack sid v))
    stack_page sid v there = elim (at sid) [
      | inl z ↦ absurd (let w : v < length (stack_in (numbered space_number sid k.place.spaces)) = there in let y = ap (λ (o : Option SpacePages). length (stack_in o)) z.1 in omega arith)
      | inr s ↦ (let f : ImageFits s.named = fit s.number s.named s.image in
          let i : v ≡ 0 = (let w : v < length (stack_in (numbered space_number sid k.place.spaces)) = there in let y = ap (λ (o : Option SpacePages). length (stack_in o)) s.pages in omega arith) in
          let memory : b.memory (Stack sid 0) ≡ start_page (s.named.name ∷ []) =
          ap (λ (o : Option Space). page_at 0 (stack_bytes_in o)) s.flat ∙ take_all 1024 (start_page (s.named.name ∷ [])) (let l = page_whole s.named.name f.name in omega arith) in
          subst (λ (u : ℕ). KeepsUnfilled b (Stack sid u) (due_of_page k.place.due (Stack sid u)) (filling_of k.place (Stack sid u))) (sym i)
          (subst (λ (o : Option Due). KeepsUnfilled b (Stack sid 0) o (filling_of k.place (Stack sid 0))) (sym s.due) (s.start ∙ sym memory)))
    ]

    each : (w : Page) → IsThere k.place w → Keeps k.place b w
    each (Data sid v) there = subst (KeepsBy k.place b (Data sid v)) (sym (blank (Data sid v)).0) (data_page sid v there, tt)
      where
        blank : (w : Page) → (state_of k.place w ≡ Unfilled) × (mark_of k.place w ≡ false)
        blank w = start_blank (map (λ (named : NamedImage). named.image.facts) A.images) first A.frames w
    each (Stack sid v) there = subst (KeepsBy k.place b (Stack sid v)) (sym (blank (Stack sid v)).0) (stack_page sid v there, tt)
      where
        blank : (w : Page) → (state_of k.place w ≡ Unfilled) × (mark_of k.place w ≡ false)
        blank w = start_blank (map (λ (named : NamedImage). named.image.facts) A.images) first A.frames w
    each (Text i v) there = subst (KeepsBy k.place b (Text i v)) (sym (blank (Text i v)).0)
        (subst (λ (o : Option Due). KeepsUnfilled b (Text i v) o OfImage) (sym (due_stacks first 1 (Text i v) (λ sid e. cc))) refl, (blank (Text i v)).1)
      where
        blank : (w : Page) → (state_of k.place w ≡ Unfilled) × (mark_of k.place w ≡ false)
        blank w = start_blank (map (λ (named : NamedImage). named.image.facts) A.images) first A.frames w
