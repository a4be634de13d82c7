-- A user write leaves the layout of each space.
use Rattle.std.proofs.Common.{◌≡◌, ℕ, ◌+◌, ◌*◌, ◌==◌, Bool, true, false, cond, List, [], ◌∷◌, map, refl, sym, ap, ◌∙◌}
use Rattle.std.specs.Prelude.{slice_get}
use Rattle.vm_facts.specs.declared.page.Page.{Page}
use Rattle.vm_facts.specs.declared.page.Page.TheVariants.{Data, Stack, Text}
use Rattle.vm_facts.specs.declared.page.PageState.{PageState}
use Rattle.vm_facts.specs.declared.page.PageState.TheVariants.{Unfilled, Valid, Invalid, Coming, Going, OnSwap}
use Rattle.page_model.specs.Pages.{SpacePages, changed, with_data, with_stack}
use Rattle.page_model.specs.Placement.{Placement, space_number, state_of, image_of, spaces_with}
use Rattle.page_model.specs.Moves.{touch, touch_to}
use Rattle.kernel_model.specs.Kernel.{Kernel, write_step}
use Rattle.table_steps.proofs.Shapes.{touch_shaped, image_kept, sizes_kept}
use Rattle.table_steps.specs.UserMemory.{bytes_of, write_run, IsLaidOut}

changed_kept : {A : Type 0} (number : A → ℕ) (n : ℕ) (change : A → A) (g : A → ℕ) → ((x : A) → g (change x) ≡ g x) → (xs : List A)
    → map g (changed number n change xs) ≡ map g xs
changed_kept number n change g e [] = refl
changed_kept number n change g e (x ∷ xs) = go (number x == n) (changed_kept number n change g e xs)
  where
    go : (b : Bool) → map g (changed number n change xs) ≡ map g xs → map g (cond b (change x ∷ xs) (x ∷ changed number n change xs)) ≡ g x ∷ map g xs
    go true h = ap (λ (m : ℕ). m ∷ map g xs) (e x)
    go false h = ap (λ (ms : List ℕ). g x ∷ ms) h

-- what is the same of a space whatever becomes of its pages
abbrev IsSteady : (SpacePages → ℕ) → Type 0
IsSteady g = (v : ℕ) (s : PageState) (m : Bool) (x : SpacePages) → (g (with_data v s m x) ≡ g x) × (g (with_stack v s m x) ≡ g x)

spaces_kept : (g : SpacePages → ℕ) → IsSteady g → (spaces : List SpacePages) (q : Page) (s : PageState) (m : Bool)
    → map g (spaces_with spaces q s m) ≡ map g spaces
spaces_kept g e spaces (Data n v) s m = changed_kept space_number n (with_data v s m) g (λ x. (e v s m x).0) spaces
spaces_kept g e spaces (Stack n v) s m = changed_kept space_number n (with_stack v s m) g (λ x. (e v s m x).1) spaces
spaces_kept g e spaces (Text i v) s m = refl

pub touch_kept : (g : SpacePages → ℕ) → IsSteady g → (p : Placement) (q : Page) → map g (touch p q).spaces ≡ map g p.spaces
touch_kept g e p q = go q (state_of p q)
  where
    go : (q : Page) (s : PageState) → map g (touch_to p q s).spaces ≡ map g p.spaces
    go (Data n v) (Valid f) = spaces_kept g e p.spaces (Data n v) (Valid f) true
    go (Data n v) Unfilled = refl
    go (Data n v) (Invalid f) = refl
    go (Data n v) (Coming f) = refl
    go (Data n v) (Going f) = refl
    go (Data n v) OnSwap = refl
    go (Stack n v) (Valid f) = spaces_kept g e p.spaces (Stack n v) (Valid f) true
    go (Stack n v) Unfilled = refl
    go (Stack n v) (Invalid f) = refl
    go (Stack n v) (Coming f) = refl
    go (Stack n v) (Going f) = refl
    go (Stack n v) OnSwap = refl
    go (Text i v) s = refl

pub layout_kept : (k : Kernel) (q : Page) (f at byte index sid image t d s : ℕ) → IsLaidOut k index sid image t d s
    → IsLaidOut (write_step k q f at byte) index sid image t d s
layout_kept k q f at byte index sid image t d s h =
    let size : (r : Page) → bytes_of k.place r ≡ bytes_of (touch k.place q) r = λ r. ap (λ (n : ℕ). 1024 * n) (sym (sizes_kept k.place (touch k.place q) (touch_shaped k.place q) r)) in
    let same : image_of k.place sid ≡ image_of (touch k.place q) sid = sym (image_kept k.place (touch k.place q) (touch_shaped k.place q) sid) in
    record {
      running = h.running;
      number = ap (λ (ns : List ℕ). slice_get ns index) (touch_kept space_number (λ v st m x. (refl, refl)) k.place q) ∙ h.number;
      shares = ap (λ (ns : List ℕ). slice_get ns index) (touch_kept (λ (x : SpacePages). x.image) (λ v st m x. (refl, refl)) k.place q) ∙ h.shares;
      image_is = h.image_is ∙ same;
      text_is = h.text_is ∙ size (Text (image_of k.place sid) 0) ∙ ap (λ (i : ℕ). bytes_of (touch k.place q) (Text i 0)) same;
      data_is = h.data_is ∙ size (Data sid 0);
      stack_is = h.stack_is ∙ size (Stack sid 0);
      low = h.low;
      high = h.high;
    }

-- so do writes of the bytes of a page
pub layout_after : (k : Kernel) (q : Page) (f at : ℕ) (bytes : List ℕ) (index sid image t d s : ℕ) → IsLaidOut k index sid image t d s
    → IsLaidOut (write_run k q f at bytes) index sid image t d s
layout_after k q f at [] index sid image t d s h = h
layout_after k q f at (byte ∷ bytes) index sid image t d s h =
    layout_after (write_step k q f at byte) q f (at + 1) bytes index sid image t d s (layout_kept k q f at byte index sid image t d s h)
