-- Steps that move pages leave each space its image and its sizes, each text its size, and who is in or out.
use Rattle.std.proofs.Common.{◌≡◌, inl, inr, ℕ, ◌*◌, Bool, List, length, Option, Some, None, refl, sym, ap, ◌∙◌, subst}
use Rattle.std.proofs.lemmas.Bool.{cases_eq}
use Rattle.vm_facts.specs.declared.page.Page.{Page}
use Rattle.vm_facts.specs.declared.page.Page.TheVariants.{Data, Stack, Text}
use Rattle.vm_facts.specs.declared.page.PageState.{PageState}
use Rattle.flat_state.specs.Space.{Space}
use Rattle.kernel_model.specs.Coupled.{Fits}
use Rattle.page_model.specs.Pages.{SpacePages, TextPages, numbered, data_in, stack_in, text_in, with_data, with_stack, with_text, frame_of, left_state, written_mark}
use Rattle.page_model.specs.Placement.{Placement, Residence, Errand, space_number, image_number, slots_of, image_in, image_of, put}
use Rattle.page_model.specs.Moves.{get_run, done, reclaim, touch, drop_all, leave_all}
use Rattle.page_model.specs.Hands.{hand_moves}
use Rattle.page_model.specs.Place.{filled, put_step}
use Rattle.page_laws.proofs.Moves.Puts.{KeptByPuts, filled_kept, get_run_kept, reclaim_kept, put_step_kept, moves_kept, done_kept, touch_kept, drop_all_kept, leave_all_kept}
use Rattle.page_laws.proofs.Lists.Pages.{mapped, changed_same, changed_other, length_change}

-- the image of a space, and how many pages it has
pub record Shape : Type 0 where
  pub image : ℕ
  pub data_count : ℕ
  pub stack_count : ℕ

abbrev pub shape_in : Option SpacePages → Option Shape
shape_in None = None
shape_in (Some s) = Some (record { image = s.image; data_count = length s.data_pages; stack_count = length s.stack_pages })

pub record SameShapes (ss ts : List SpacePages) (xs ys : List TextPages) (rs us : List Residence) : Type 0 where
  pub spaces : (sid : ℕ) → shape_in (numbered space_number sid ts) ≡ shape_in (numbered space_number sid ss)
  pub texts : (image : ℕ) → length (text_in (numbered image_number image ys)) ≡ length (text_in (numbered image_number image xs))
  pub residents : us ≡ rs

abbrev pub Shaped : Placement → Placement → Type 0
Shaped p q = SameShapes p.spaces q.spaces p.texts q.texts p.residents q.residents

pub shaped_self : (p : Placement) → Shaped p p
shaped_self p = record { spaces = λ sid. refl; texts = λ i. refl; residents = refl }

pub shaped_both : (p q r : Placement) → Shaped p q → Shaped q r → Shaped p r
shaped_both p q r s t = record { spaces = λ sid. t.spaces sid ∙ s.spaces sid; texts = λ i. t.texts i ∙ s.texts i; residents = t.residents ∙ s.residents }

-- What the same shapes say.

abbrev shape_image : Option Shape → ℕ
shape_image None = 0
shape_image (Some s) = s.image

abbrev shape_data : Option Shape → ℕ
shape_data None = 0
shape_data (Some s) = s.data_count

abbrev shape_stack : Option Shape → ℕ
shape_stack None = 0
shape_stack (Some s) = s.stack_count

image_shape : (o : Option SpacePages) → image_in o ≡ shape_image (shape_in o)
image_shape None = refl
image_shape (Some s) = refl

data_shape : (o : Option SpacePages) → length (data_in o) ≡ shape_data (shape_in o)
data_shape None = refl
data_shape (Some s) = refl

stack_shape : (o : Option SpacePages) → length (stack_in o) ≡ shape_stack (shape_in o)
stack_shape None = refl
stack_shape (Some s) = refl

pub image_kept : (p q : Placement) → Shaped p q → (sid : ℕ) → image_of q sid ≡ image_of p sid
image_kept p q s sid = image_shape (numbered space_number sid q.spaces) ∙ ap shape_image (s.spaces sid) ∙ sym (image_shape (numbered space_number sid p.spaces))

pub sizes_kept : (p q : Placement) → Shaped p q → (w : Page) → length (slots_of q w) ≡ length (slots_of p w)
sizes_kept p q s (Data sid v) = data_shape (numbered space_number sid q.spaces) ∙ ap shape_data (s.spaces sid) ∙ sym (data_shape (numbered space_number sid p.spaces))
sizes_kept p q s (Stack sid v) = stack_shape (numbered space_number sid q.spaces) ∙ ap shape_stack (s.spaces sid) ∙ sym (stack_shape (numbered space_number sid p.spaces))
sizes_kept p q s (Text image v) = s.texts image

pub image_by_shape : (o r : Option SpacePages) → shape_in r ≡ shape_in o → image_in r ≡ image_in o
image_by_shape o r e = image_shape r ∙ ap shape_image e ∙ sym (image_shape o)

pub sizes_by_shape : (o r : Option SpacePages) → shape_in r ≡ shape_in o
    → (length (data_in r) ≡ length (data_in o)) × (length (stack_in r) ≡ length (stack_in o))
sizes_by_shape o r e = (data_shape r ∙ ap shape_data e ∙ sym (data_shape o), stack_shape r ∙ ap shape_stack e ∙ sym (stack_shape o))

-- a space of a flat state fits pages of the same shape
pub fit_shapes : (o : Option Space) (a b : Option SpacePages) → shape_in b ≡ shape_in a → Fits o a → Fits o b
fit_shapes None None None e f = tt
fit_shapes None None (Some y) e f = absurd cc
fit_shapes None (Some x) b e f = absurd f
fit_shapes (Some s) None b e f = absurd f
fit_shapes (Some s) (Some x) None e f = absurd cc
fit_shapes (Some s) (Some x) (Some y) e f = record {
  image = ap shape_image e ∙ f.image;
  data_size = f.data_size ∙ ap (λ (o : Option Shape). 1024 * shape_data o) (sym e);
  stack_size = f.stack_size ∙ ap (λ (o : Option Shape). 1024 * shape_stack o) (sym e);
}

pub fit_shaped : (p q : Placement) (o : Option Space) (sid : ℕ) → Shaped p q → Fits o (numbered space_number sid p.spaces)
    → Fits o (numbered space_number sid q.spaces)
fit_shaped p q o sid s f = fit_shapes o (numbered space_number sid p.spaces) (numbered space_number sid q.spaces) (s.spaces sid) f

-- One page.

with_data_shape : (v : ℕ) (s : PageState) (m : Bool) (o : Option SpacePages) → shape_in (mapped (with_data v s m) o) ≡ shape_in o
with_data_shape v s m None = refl
with_data_shape v s m (Some x) = ap (λ (n : ℕ). Some (let y : Shape = record { image = x.image; data_count = n; stack_count = length x.stack_pages } in y)) (length_change x.data_pages v s m)

with_stack_shape : (v : ℕ) (s : PageState) (m : Bool) (o : Option SpacePages) → shape_in (mapped (with_stack v s m) o) ≡ shape_in o
with_stack_shape v s m None = refl
with_stack_shape v s m (Some x) = ap (λ (n : ℕ). Some (let y : Shape = record { image = x.image; data_count = length x.data_pages; stack_count = n } in y)) (length_change x.stack_pages v s m)

with_text_size : (v : ℕ) (s : PageState) (m : Bool) (o : Option TextPages) → length (text_in (mapped (with_text v s m) o)) ≡ length (text_in o)
with_text_size v s m None = refl
with_text_size v s m (Some x) = length_change x.text_pages v s m

pub changed_shape : (n sid : ℕ) (change : SpacePages → SpacePages) → ((x : SpacePages) → space_number (change x) ≡ space_number x)
    → ((o : Option SpacePages) → shape_in (mapped change o) ≡ shape_in o) → (ss : List SpacePages)
    → shape_in (numbered space_number sid (Rattle.page_model.specs.Pages.changed space_number n change ss)) ≡ shape_in (numbered space_number sid ss)
changed_shape n sid change k h ss = elim (cases_eq sid n) [
  | inl e ↦ subst (λ (x : ℕ). shape_in (numbered space_number x (Rattle.page_model.specs.Pages.changed space_number n change ss)) ≡ shape_in (numbered space_number x ss)) (sym e)
      (ap shape_in (changed_same space_number n change k ss) ∙ h (numbered space_number n ss))
  | inr d ↦ ap shape_in (changed_other space_number n sid change k d ss)
]

changed_text : (n image : ℕ) (v : ℕ) (s : PageState) (m : Bool) (xs : List TextPages)
    → length (text_in (numbered image_number image (Rattle.page_model.specs.Pages.changed image_number n (with_text v s m) xs)))
    ≡ length (text_in (numbered image_number image xs))
changed_text n image v s m xs = elim (cases_eq image n) [
  | inl e ↦ subst (λ (x : ℕ). length (text_in (numbered image_number x (Rattle.page_model.specs.Pages.changed image_number n (with_text v s m) xs))) ≡ length (text_in (numbered image_number x xs)))
      (sym e)
      (ap (λ (o : Option TextPages). length (text_in o)) (changed_same image_number n (with_text v s m) (λ x. refl) xs) ∙ with_text_size v s m (numbered image_number n xs))
  | inr d ↦ ap (λ (o : Option TextPages). length (text_in o)) (changed_other image_number n image (with_text v s m) (λ x. refl) d xs)
]

pub put_shaped : (p : Placement) (q : Page) (s : PageState) (m : Bool) → Shaped p (put p q s m)
put_shaped p (Data n v) s m = record { spaces = λ sid. changed_shape n sid (with_data v s m) (λ x. refl) (with_data_shape v s m) p.spaces; texts = λ i. refl; residents = refl }
put_shaped p (Stack n v) s m = record { spaces = λ sid. changed_shape n sid (with_stack v s m) (λ x. refl) (with_stack_shape v s m) p.spaces; texts = λ i. refl; residents = refl }
put_shaped p (Text n v) s m = record { spaces = λ sid. refl; texts = λ i. changed_text n i v s m p.texts; residents = refl }

pub shaped_by_puts : KeptByPuts Shaped
shaped_by_puts = record {
  still = λ p q a b c. record {
    spaces = λ sid. ap (λ (ss : List SpacePages). shape_in (numbered space_number sid ss)) a;
    texts = λ i. ap (λ (ts : List TextPages). length (text_in (numbered image_number i ts))) b;
    residents = c.residents;
  };
  both = shaped_both;
  puts = put_shaped;
}

-- Each move keeps the shapes.

pub filled_shaped : (p : Placement) (v : Page) → Shaped p (filled p v)
filled_shaped = filled_kept shaped_by_puts (λ p ds. shaped_self p)

pub get_run_shaped : (p : Placement) (e : Errand) (qs : List Page) → Shaped p (get_run p e qs)
get_run_shaped = get_run_kept shaped_by_puts

pub reclaim_shaped : (p : Placement) (v : Page) → Shaped p (reclaim p v)
reclaim_shaped = reclaim_kept shaped_by_puts

pub put_step_shaped : (p : Placement) (v : Page) (qs : List Page) → Shaped p (put_step p v qs)
put_step_shaped = put_step_kept shaped_by_puts

pub moves_shaped : (n : ℕ) (p : Placement) (locked : List Page) → Shaped p (hand_moves p locked n)
moves_shaped = moves_kept shaped_by_puts (λ p. shaped_self p)

pub done_shaped : (p : Placement) → Shaped p (done p)
done_shaped = done_kept shaped_by_puts

pub touch_shaped : (p : Placement) (v : Page) → Shaped p (touch p v)
touch_shaped = touch_kept shaped_by_puts

pub drop_all_shaped : (qs : List Page) (p : Placement) → Shaped p (drop_all p qs)
drop_all_shaped = drop_all_kept shaped_by_puts

pub leave_all_shaped : (qs : List Page) (p : Placement) → Shaped p (leave_all p qs)
leave_all_shaped = leave_all_kept shaped_by_puts
