-- The pages that a process touches are there, and shared.
use Rattle.std.proofs.Common.{◌≡◌, ℕ, suc, ◌+◌, ◌*◌, ◌/◌, ◌<◌, ◌==◌, Bool, true, false, not, cond, List, [], ◌∷◌, ◌++◌, length, filter, filter_map, find, Option, Some, None, refl, sym, ap, ◌∙◌, subst, arith}
use Rattle.std.specs.List.{cons_option}
use Rattle.flat_state.specs.Space.{Space, address_in}
use Rattle.flat_state.specs.Flat.{Holding, Holds, Lends, Zombie, Process, FlatState, NamedImage, Inputs, process_of, is_ready, image_numbered}
use Rattle.vm_facts.specs.declared.page.Page.{Page}
use Rattle.vm_facts.specs.declared.page.Page.TheVariants as pages
use Rattle.user_vax.specs.Program.{ByteAccess, ReadOf, TestOf}
use Rattle.swap_book.specs.Holdings.{Holdings}
use Rattle.flat_state.specs.declared.spot.Spot.{Spot}
use Rattle.flat_state.specs.declared.spot.Spot.TheVariants.{Text, Data, Stack}
use Rattle.flat_state.specs.Writes.{IsWithin}
use Rattle.page_model.specs.Pages.{SpacePages, numbered}
use Rattle.flat_state.specs.PageNames.{same_page}
use Rattle.page_model.specs.Placement.{Placement, space_number, slots_of, IsThere, sharers_in}
use Rattle.page_model.specs.Conditions.{EachPage, IsShared}
use Rattle.kernel_model.specs.Coupled.{SameTables, Fits, IsSized, image_text}
use Rattle.flat_state.proofs.SpaceLaws.{IsPaged, spot_within}
use Rattle.flat_state.specs.Numbers.{IsNumbered}
use Rattle.kernel_model.specs.Stands.{Stands}
use Rattle.flat_laws.proofs.Asking.{own_space}
use Rattle.flat_model.specs.Touched.{page_read, page_tested, page_of_access, distinct, touched_in, touched_by, touched_if, touched}
use Rattle.run_laws.specs.Standing.{machine_of, Placed, EachProcess, IsText, HasText, TextsHeld}

-- Lists of pages.

each_filter : (P : Page → Type 0) (test : Page → Bool) (qs : List Page) → EachPage P qs → EachPage P (filter test qs)
each_filter P test [] h = tt
each_filter P test (q ∷ qs) h = go (test q) (each_filter P test qs h.1)
  where
    go : (b : Bool) → EachPage P (filter test qs) → EachPage P (cond b (q ∷ filter test qs) (filter test qs))
    go true k = (h.0, k)
    go false k = k

each_distinct : (P : Page → Type 0) (qs : List Page) → EachPage P qs → EachPage P (distinct qs)
unfolding distinct
each_distinct P [] h = tt
each_distinct P (q ∷ qs) h = (h.0, each_filter P (λ other. not (same_page q other)) (distinct qs) (each_distinct P qs h.1))

each_map : {A : Type 0} (P : Page → Type 0) (f : A → Option Page) (xs : List A) → ((x : A) (q : Page) → f x ≡ Some q → P q) → EachPage P (filter_map f xs)
each_map P f [] h = tt
each_map {A} P f (x ∷ xs) h = go (each_map P f xs h) (f x) refl
  where
    go : EachPage P (filter_map f xs) → (o : Option Page) → f x ≡ o → EachPage P (cons_option o (filter_map f xs))
    go ih None e = ih
    go ih (Some q) e = (h x q e, ih)

pub each_split : (P : Page → Type 0) (before : List Page) (q : Page) (behind : List Page) → EachPage P (before ++ q ∷ behind) → P q
each_split P [] q behind h = h.0
each_split P (r ∷ rs) q behind h = each_split P rs q behind h.1

-- One process.

pub found_process : (P : Process → Type 0) (qs : List Process) (pid : ℕ) (q : Process) → EachProcess P qs → find (λ x. x.pid == pid) qs ≡ Some q → P q
found_process P [] pid q h e = absurd cc
found_process P (x ∷ xs) pid q h e = go (found_process P xs pid q h.1) (x.pid == pid) e
  where
    go : (find (λ y. y.pid == pid) xs ≡ Some q → P q) → (b : Bool) → cond b (Some x) (find (λ y. y.pid == pid) xs) ≡ Some q → P q
    go ih true k = let same : x ≡ q = cc in subst P same h.0
    go ih false k = ih k

image_shared : (sid image : ℕ) (xs : List SpacePages) (x : SpacePages) → numbered space_number sid xs ≡ Some x → x.image ≡ image → 0 < sharers_in image xs
image_shared sid image [] x e i = absurd cc
image_shared sid image (y ∷ ys) x e i = go (λ k. image_shared sid image ys x k i) (y.sid == sid) e
  where
    one : (b : Bool) → (0 < sharers_in image ys) → 0 < cond b 1 0 + sharers_in image ys
    one true l = omega arith
    one false l = omega arith

    here : y ≡ x → 0 < cond (y.image == image) 1 0 + sharers_in image ys
    here s = subst (λ (b : Bool). 0 < cond b 1 0 + sharers_in image ys) (sym (Rattle.std.proofs.Common.eq-eqb y.image image (ap (λ (z : SpacePages). z.image) s ∙ i))) (omega arith)

    go : (numbered space_number sid ys ≡ Some x → 0 < sharers_in image ys) → (b : Bool) → cond b (Some y) (numbered space_number sid ys) ≡ Some x
        → 0 < cond (y.image == image) 1 0 + sharers_in image ys
    go ih true k = here (let s : y ≡ x = cc in s)
    go ih false k = one (y.image == image) (ih k)

-- it is there, and shared
pub record Present (p : Placement) (q : Page) : Type 0 where
  pub there : IsThere p q
  pub shared : IsShared p q

page_present : (images : List NamedImage) (p : Placement) (s : Space) (x : SpacePages) → numbered space_number s.sid p.spaces ≡ Some x → IsSized s x
    → IsText images s
    → ((i : ℕ) → length (image_text (image_numbered images i)) ≡ 1024 * length (slots_of p (pages.Text i 0))) → (spot : Spot) → IsWithin s spot → (q : Page)
    → page_read s spot ≡ Some q → Present p q
page_present images p s x e z t fits (Text i) w q h = subst (Present p) (let k : pages.Text s.image (i / 1024) ≡ q = cc in k) (record {
  there = let f = fits s.image in let l = ap (λ (o : Option NamedImage). length (image_text o)) t.image in let m = ap length t.same in omega (arith, w);
  shared = image_shared s.sid s.image p.spaces x e z.image;
})
page_present images p s x e z t fits (Data i) w q h = subst (Present p) (let k : pages.Data s.sid (i / 1024) ≡ q = cc in k) (record {
  there = let l = z.data_size in let k = ap (λ (o : Option SpacePages). length (Rattle.page_model.specs.Pages.data_in o)) e in omega (arith, w);
  shared = tt;
})
page_present images p s x e z t fits (Stack i) w q h = subst (Present p) (let k : pages.Stack s.sid (i / 1024) ≡ q = cc in k) (record {
  there = let l = z.stack_size in let k = ap (λ (o : Option SpacePages). length (Rattle.page_model.specs.Pages.stack_in o)) e in omega (arith, w);
  shared = tt;
})
page_present images p s x e z t fits _ w q h = absurd cc

pub tested_read : (s : Space) (spot : Spot) (q : Page) → page_tested s spot ≡ Some q → page_read s spot ≡ Some q
tested_read s (Data i) q h = h
tested_read s (Stack i) q h = h
tested_read s _ q h = absurd cc

-- all that a process touches
pub touched_present : (A : Inputs) (flat : FlatState) (p : Placement) (hs : Holdings) (pid : ℕ) → IsNumbered flat → TextsHeld A.images flat
    → Placed A flat p hs → EachPage (Present p) (touched A flat pid)
unfolding touched
touched_present A flat p hs pid nums texts s = go (process_of flat pid) refl
  where
    tables : SameTables (machine_of flat p hs) flat
    tables = s.tables

    stands : Stands A.images (machine_of flat p hs) flat
    stands = s.stands

    space : (q : Process) (t : Space) → process_of flat pid ≡ Some q → q.holding ≡ Holds t → (o : Option SpacePages) → numbered space_number t.sid p.spaces ≡ o → Fits (Some t) o → IsText A.images t
        → (xs : List ByteAccess) → EachPage (Present p) (distinct (filter_map (page_of_access t) xs))
    space q t e h None k f i xs = absurd f
    space q t e h (Some x) k f i xs = each_distinct (Present p) (filter_map (page_of_access t) xs) (each_map (Present p) (page_of_access t) xs one)
      where
        paged : IsPaged t
        paged = let k = f.stack_size in omega arith

        one : (a : ByteAccess) (r : Page) → page_of_access t a ≡ Some r → Present p r
        one (ReadOf address) r z = page_present A.images p t x k f i stands.texts (address_in t address) (spot_within t address (address_in t address) paged refl) r z
        one (TestOf address) r z =
            page_present A.images p t x k f i stands.texts (address_in t address) (spot_within t address (address_in t address) paged refl) r (tested_read t (address_in t address) r z)

    holding : (q : Process) → process_of flat pid ≡ Some q → (h : Holding) → q.holding ≡ h → EachPage (Present p) (touched_in A.images flat q h)
    holding q e (Lends sid child) k = tt
    holding q e (Zombie status) k = tt
    holding q e (Holds t) k = space q t e k (numbered space_number t.sid p.spaces) refl
        (subst (λ (o : Option Space). Fits o (numbered space_number t.sid p.spaces)) (own_space flat pid q t nums e k) (tables.spaces t.sid))
        (subst (HasText A.images) k (found_process (λ y. HasText A.images y.holding) flat.processes pid q texts e))
        (Rattle.flat_model.specs.Touched.step_accesses A.images flat q t)

    ready : (q : Process) → process_of flat pid ≡ Some q → (b : Bool) → EachPage (Present p) (touched_by b A.images flat q)
    ready q e true = holding q e q.holding refl
    ready q e false = tt

    go : (o : Option Process) → process_of flat pid ≡ o → EachPage (Present p) (touched_if A.images flat o)
    go None e = tt
    go (Some q) e = ready q e (is_ready q)
