-- What the tables show of each page, and that a step at one page and one frame is a put.
use Rattle.std.proofs.Common.{◌≡◌, ◌≢◌, ◌⊎◌, inl, inr, ℕ, zero, suc, ◌+◌, ◌==◌, cond, ◌<◌, ◌≤◌, Bool, true, false, List, [], ◌∷◌, length, map, set, get_or, Option, Some, None, slice_get, refl, sym, ap, ◌∙◌, subst, arith}
use Rattle.std.specs.List.{range_with_len}
use Rattle.std.proofs.lemmas.Bool.{cases_eq}
use Rattle.std.proofs.lemmas.Bool.Decides.{nat_tests}
use Rattle.std.proofs.lemmas.List.{length-set, get_or-set_same, get_or-set_other, get_or_past}
use Rattle.std.proofs.lemmas.List.FromFn.{get_or-map-range_with_len, length-map-range_with_len}
use Rattle.vm_facts.specs.declared.page.Page.{Page}
use Rattle.vm_facts.specs.declared.page.Page.TheVariants.{Data, Stack, Text}
use Rattle.vm_facts.specs.declared.page.PageState.{PageState}
use Rattle.vax_pte.specs.declared.Place.{Place}
use Rattle.vax_pte.specs.declared.Place.TheVariants as places
use Rattle.aout_image.specs.declared.Image.{Image}
use Rattle.aout_image.specs.Image.{text_pages_of}
use Rattle.core_map.specs.declared.slot.Slot.{Slot as Token}
use Rattle.core_map.specs.Slots.{slot_at}
use Rattle.space_map.specs.Space.{Places}
use Rattle.text_table.specs.Texts.{is_saved, text_numbered}
use Rattle.page_model.specs.Frames.{set_frame}
use Rattle.page_model.specs.Pages.{Slot, Zeros, no_slot, SpacePages, TextPages, numbered, changed, with_data, with_stack, with_text, data_in, stack_in, text_in, frame_of, filling_behind}
use Rattle.page_model.specs.Placement.{Placement, space_number, image_number, slots_of, slot_of, state_of, IsThere, put}
use Rattle.flat_state.specs.Numbers.{IsAbsent, AllDistinct}
use Rattle.kernel_laws.proofs.PageLawsListsPages.{page_cases, put_same, put_other, put_length}
use Rattle.kernel_tables.specs.Shown.{slot_shown, text_shown, space_shown, or_else, entry_in}
use Rattle.table_view.specs.Shown.{is_away, idle_state, state_shown}
use Rattle.kernel_tables.specs.Found.{cached_by, frame_holding}
use Rattle.kernel_tables.specs.Rising.{sids_of}
use Rattle.kernel_tables.specs.View.{Lists, pages_in, text_place_by, text_place, text_slot, text_slots, texts_of, placement_of}
use Rattle.kernel_tables.proofs.Entries.{Head, head_of, data_hit, data_miss, stack_hit, stack_miss}
use Rattle.kernel_tables.proofs.Same.{Named, name_of, slots_ext, spaces_ext, texts_ext, text_miss, text_hit}
use Rattle.kernel_tables.proofs.AddedPlace.{or_else_none}

-- Segments.

abbrev pub slot_or : (Place → Slot) → Option Place → Slot
slot_or g None = no_slot
slot_or g (Some x) = g x

get_map : (g : Place → Slot) (xs : List Place) (v : ℕ) → get_or (map g xs) v no_slot ≡ slot_or g (slice_get xs v)
get_map g [] v = refl
get_map g (x ∷ xs) zero = refl
get_map g (x ∷ xs) (suc v) = get_map g xs v

pub sids_shown : (slots : List Token) (ss : List Places) → map space_number (map (space_shown slots) ss) ≡ sids_of ss
sids_shown slots [] = refl
sids_shown slots (s ∷ ss) = ap (λ (ns : List ℕ). s.sid ∷ ns) (sids_shown slots ss)

pub hit : (n : ℕ) (x : SpacePages) (xs : List SpacePages) → x.sid ≡ n → numbered space_number n (x ∷ xs) ≡ Some x
hit n x xs e = grind (arith, nat_tests)

pub miss : (n : ℕ) (x : SpacePages) (xs : List SpacePages) → x.sid ≢ n → numbered space_number n (x ∷ xs) ≡ numbered space_number n xs
miss n x xs e = grind (arith, nat_tests)

data_absent : (ss : List Places) (sid v : ℕ) → IsAbsent sid (sids_of ss) → entry_in ss (Data sid v) ≡ None
data_absent [] sid v z = refl
data_absent (s ∷ ss) sid v z = ap (λ (o : Option Place). or_else o (entry_in ss (Data sid v))) (data_miss s sid v (λ e. z.0 (sym e))) ∙ data_absent ss sid v z.1

stack_absent : (ss : List Places) (sid v : ℕ) → IsAbsent sid (sids_of ss) → entry_in ss (Stack sid v) ≡ None
stack_absent [] sid v z = refl
stack_absent (s ∷ ss) sid v z = ap (λ (o : Option Place). or_else o (entry_in ss (Stack sid v))) (stack_miss s sid v (λ e. z.0 (sym e))) ∙ stack_absent ss sid v z.1

pub data_shown : (slots : List Token) (ss : List Places) (sid v : ℕ) → AllDistinct (sids_of ss)
    → get_or (data_in (numbered space_number sid (map (space_shown slots) ss))) v no_slot ≡ slot_or (slot_shown slots) (entry_in ss (Data sid v))
data_shown slots [] sid v d = refl
data_shown slots (s ∷ ss) sid v d = elim (cases_eq s.sid sid) [
  | inl e ↦
      let gone : entry_in ss (Data sid v) ≡ None = data_absent ss sid v (subst (λ (n : ℕ). IsAbsent n (sids_of ss)) e d.0) in
      ap (λ (o : Option SpacePages). get_or (data_in o) v no_slot) (hit sid (space_shown slots s) (map (space_shown slots) ss) e)
      ∙ get_map (slot_shown slots) s.data v
      ∙ ap (slot_or (slot_shown slots))
      (sym (ap (λ (o : Option Place). or_else o (entry_in ss (Data sid v))) (data_hit s sid v (sym e)) ∙ ap (or_else (slice_get s.data v)) gone ∙ or_else_none (slice_get s.data v)))
  | inr n ↦
      ap (λ (o : Option SpacePages). get_or (data_in o) v no_slot) (miss sid (space_shown slots s) (map (space_shown slots) ss) n)
      ∙ data_shown slots ss sid v d.1
      ∙ ap (slot_or (slot_shown slots)) (sym (ap (λ (o : Option Place). or_else o (entry_in ss (Data sid v))) (data_miss s sid v (λ e. n (sym e)))))
]

pub stack_shown : (slots : List Token) (ss : List Places) (sid v : ℕ) → AllDistinct (sids_of ss)
    → get_or (stack_in (numbered space_number sid (map (space_shown slots) ss))) v no_slot ≡ slot_or (slot_shown slots) (entry_in ss (Stack sid v))
stack_shown slots [] sid v d = refl
stack_shown slots (s ∷ ss) sid v d = elim (cases_eq s.sid sid) [
  | inl e ↦
      let gone : entry_in ss (Stack sid v) ≡ None = stack_absent ss sid v (subst (λ (n : ℕ). IsAbsent n (sids_of ss)) e d.0) in
      ap (λ (o : Option SpacePages). get_or (stack_in o) v no_slot) (hit sid (space_shown slots s) (map (space_shown slots) ss) e)
      ∙ get_map (slot_shown slots) s.stack v
      ∙ ap (slot_or (slot_shown slots))
      (sym (ap (λ (o : Option Place). or_else o (entry_in ss (Stack sid v))) (stack_hit s sid v (sym e)) ∙ ap (or_else (slice_get s.stack v)) gone ∙ or_else_none (slice_get s.stack v)))
  | inr n ↦
      ap (λ (o : Option SpacePages). get_or (stack_in o) v no_slot) (miss sid (space_shown slots s) (map (space_shown slots) ss) n)
      ∙ stack_shown slots ss sid v d.1
      ∙ ap (slot_or (slot_shown slots)) (sym (ap (λ (o : Option Place). or_else o (entry_in ss (Stack sid v))) (stack_miss s sid v (λ e. n (sym e)))))
]

-- Text.

pub pages_hit : (n image : ℕ) (facts : Image) (more : List Image) → n ≡ image → pages_in n image (facts ∷ more) ≡ text_pages_of facts
pages_hit n image facts more e = grind (arith, nat_tests)

pub pages_miss : (n image : ℕ) (facts : Image) (more : List Image) → n ≢ image → pages_in n image (facts ∷ more) ≡ pages_in (n + 1) image more
pages_miss n image facts more e = grind (arith, nat_tests)

pub texts_shown : (t : Lists) (n image : ℕ) (facts : List Image)
    → text_in (numbered image_number image (texts_of t n facts)) ≡ text_slots t image (pages_in n image facts)
texts_shown t n image [] = refl
texts_shown t n image (x ∷ more) = elim (cases_eq n image) [
  | inl e ↦ ap text_in (text_hit image (let y : TextPages = record { image = n; text_pages = text_slots t n (text_pages_of x) } in y) (texts_of t (n + 1) more) e)
      ∙ ap (λ (m : ℕ). text_slots t m (text_pages_of x)) e ∙ ap (text_slots t image) (sym (pages_hit n image x more e))
  | inr d ↦ ap text_in (text_miss image (let y : TextPages = record { image = n; text_pages = text_slots t n (text_pages_of x) } in y) (texts_of t (n + 1) more) d)
      ∙ texts_shown t (n + 1) image more ∙ ap (text_slots t image) (sym (pages_miss n image x more d))
]

pub text_numbers : (t u : Lists) (n : ℕ) (facts : List Image) → map image_number (texts_of u n facts) ≡ map image_number (texts_of t n facts)
text_numbers t u n [] = refl
text_numbers t u n (x ∷ more) = ap (λ (ns : List ℕ). n ∷ ns) (text_numbers t u (n + 1) more)

text_above : (t : Lists) (m n : ℕ) (facts : List Image) → m < n → IsAbsent m (map image_number (texts_of t n facts))
text_above t m n [] l = tt
text_above t m n (x ∷ more) l = ((λ e. absurd (omega arith)), text_above t m (n + 1) more (omega arith))

pub texts_differ : (t : Lists) (n : ℕ) (facts : List Image) → AllDistinct (map image_number (texts_of t n facts))
texts_differ t n [] = tt
texts_differ t n (x ∷ more) = (text_above t n (n + 1) more (omega arith), texts_differ t (n + 1) more)

-- A step at one page and one frame.

-- but for some pages and the frame f, of which no other page is, all is as it was
pub record Moved (t u : Lists) (E : Page → Type 0) (f : ℕ) : Type 0 where
  pub differ : AllDistinct (sids_of t.spaces)
  pub slots : (g : ℕ) → g ≢ f → slot_at u.slots g ≡ slot_at t.slots g
  pub heads : map head_of u.spaces ≡ map head_of t.spaces
  pub entries : (w : Page) → E w → entry_in u.spaces w ≡ entry_in t.spaces w
  pub apart : (w : Page) → E w → frame_of (state_of (placement_of t) w) ≢ Some f
  pub cached : (image v : ℕ) → E (Text image v) → frame_holding u.slots (Text image v) ≡ frame_holding t.slots (Text image v)
  pub saved : (image v : ℕ) → E (Text image v) → 1 ≤ image → is_saved (text_numbered u.texts image) v ≡ is_saved (text_numbered t.texts image) v
  pub facts : u.facts ≡ t.facts

pub head_sids : (ss rs : List Places) → map head_of ss ≡ map head_of rs → sids_of ss ≡ sids_of rs
head_sids [] [] e = refl
head_sids [] (r ∷ rs) e = absurd cc
head_sids (s ∷ ss) [] e = absurd cc
head_sids (s ∷ ss) (r ∷ rs) e =
    let a : head_of s ≡ head_of r = cc in
    let b : map head_of ss ≡ map head_of rs = cc in
    ap (λ (n : ℕ). n ∷ sids_of ss) (ap (λ (h : Head). h.sid) a) ∙ ap (λ (ns : List ℕ). r.sid ∷ ns) (head_sids ss rs b)

-- the heads of the spaces say how long their segments are
abbrev head_numbered : ℕ → List Head → Option Head
head_numbered n hs = numbered (λ (h : Head). h.sid) n hs

abbrev data_counted : Option Head → ℕ
data_counted None = 0
data_counted (Some h) = h.data_count

abbrev stack_counted : Option Head → ℕ
stack_counted None = 0
stack_counted (Some h) = h.stack_count

head_hit : (n : ℕ) (x : Head) (xs : List Head) → x.sid ≡ n → head_numbered n (x ∷ xs) ≡ Some x
head_hit n x xs e = grind (arith, nat_tests)

head_miss : (n : ℕ) (x : Head) (xs : List Head) → x.sid ≢ n → head_numbered n (x ∷ xs) ≡ head_numbered n xs
head_miss n x xs e = grind (arith, nat_tests)

pub length_map : {A B : Type 0} (g : A → B) (xs : List A) → length (map g xs) ≡ length xs
length_map g [] = refl
length_map g (x ∷ xs) = ap suc (length_map g xs)

data_length : (slots : List Token) (n : ℕ) (ss : List Places)
    → length (data_in (numbered space_number n (map (space_shown slots) ss))) ≡ data_counted (head_numbered n (map head_of ss))
data_length slots n [] = refl
data_length slots n (s ∷ ss) = elim (cases_eq s.sid n) [
  | inl e ↦ ap (λ (o : Option SpacePages). length (data_in o)) (hit n (space_shown slots s) (map (space_shown slots) ss) e) ∙ length_map (slot_shown slots) s.data
      ∙ sym (ap data_counted (head_hit n (head_of s) (map head_of ss) e))
  | inr d ↦ ap (λ (o : Option SpacePages). length (data_in o)) (miss n (space_shown slots s) (map (space_shown slots) ss) d) ∙ data_length slots n ss
      ∙ sym (ap data_counted (head_miss n (head_of s) (map head_of ss) d))
]

stack_length : (slots : List Token) (n : ℕ) (ss : List Places)
    → length (stack_in (numbered space_number n (map (space_shown slots) ss))) ≡ stack_counted (head_numbered n (map head_of ss))
stack_length slots n [] = refl
stack_length slots n (s ∷ ss) = elim (cases_eq s.sid n) [
  | inl e ↦ ap (λ (o : Option SpacePages). length (stack_in o)) (hit n (space_shown slots s) (map (space_shown slots) ss) e) ∙ length_map (slot_shown slots) s.stack
      ∙ sym (ap stack_counted (head_hit n (head_of s) (map head_of ss) e))
  | inr d ↦ ap (λ (o : Option SpacePages). length (stack_in o)) (miss n (space_shown slots s) (map (space_shown slots) ss) d) ∙ stack_length slots n ss
      ∙ sym (ap stack_counted (head_miss n (head_of s) (map head_of ss) d))
]

pub text_length : (t : Lists) (image n : ℕ) → length (text_slots t image n) ≡ n
text_length t image n = length-map-range_with_len (text_slot t image) 0 n

-- the pages stay as many
pub lengths_same : (t u : Lists) → map head_of u.spaces ≡ map head_of t.spaces → u.facts ≡ t.facts → (w : Page)
    → length (slots_of (placement_of u) w) ≡ length (slots_of (placement_of t) w)
lengths_same t u h fs (Data n v) = data_length u.slots n u.spaces ∙ ap (λ (hs : List Head). data_counted (head_numbered n hs)) h ∙ sym (data_length t.slots n t.spaces)
lengths_same t u h fs (Stack n v) = stack_length u.slots n u.spaces ∙ ap (λ (hs : List Head). stack_counted (head_numbered n hs)) h ∙ sym (stack_length t.slots n t.spaces)
lengths_same t u h fs (Text i v) =
    ap length (texts_shown u 1 i u.facts) ∙ text_length u i (pages_in 1 i u.facts) ∙ ap (pages_in 1 i) fs ∙ sym (text_length t i (pages_in 1 i t.facts)) ∙ sym (ap length (texts_shown t 1 i t.facts))

pub idle_frame : (g : ℕ) (away changed : Bool) → frame_of (idle_state g away changed) ≡ Some g
idle_frame g false changed = refl
idle_frame g true true = refl
idle_frame g true false = refl

same_shown : (a b : List Token) (f : ℕ) (x : Place) → ((g : ℕ) → g ≢ f → slot_at b g ≡ slot_at a g) → frame_of (state_shown a x) ≢ Some f
    → state_shown b x ≡ state_shown a x
same_shown a b f (places.Frame g false changed) s n = elim (cases_eq g f) [
  | inl e ↦ absurd (n (idle_frame g (is_away (slot_at a g)) changed ∙ ap (λ (x : ℕ). Some x) e))
  | inr d ↦ ap (λ (x : Token). idle_state g (is_away x) changed) (s g d)
]
same_shown a b f _ s n = refl

same_slot : (a b : List Token) (f : ℕ) (o : Option Place) → ((g : ℕ) → g ≢ f → slot_at b g ≡ slot_at a g)
    → frame_of (slot_or (slot_shown a) o).state ≢ Some f → slot_or (slot_shown b) o ≡ slot_or (slot_shown a) o
same_slot a b f None s n = refl
same_slot a b f (Some x) s n = ap (λ (y : PageState). record (slot_shown a x) { state = y }) (same_shown a b f x s n)

pub pages_low : (n image : ℕ) (facts : List Image) → 0 < pages_in n image facts → (n ≤ image) × (image < n + length facts)
pages_low n image [] l = absurd (omega arith)
pages_low n image (x ∷ more) l = elim (cases_eq n image) [
  | inl e ↦ (omega arith, omega arith)
  | inr d ↦
      let h : (n + 1 ≤ image) × (image < n + 1 + length more) = pages_low (n + 1) image more (subst (λ (m : ℕ). 0 < m) (pages_miss n image x more d) l) in
      let a = h.0 in
      let b = h.1 in
      (omega arith, omega arith)
]

within_or_past : (v n : ℕ) → (v < n) ⊎ (n ≤ v)
within_or_past v n = grind arith

pub text_at : (t : Lists) (i v : ℕ) → v < pages_in 1 i t.facts → slot_of (placement_of t) (Text i v) ≡ text_slot t i v
text_at t i v l = ap (λ (xs : List Slot). get_or xs v no_slot) (texts_shown t 1 i t.facts) ∙ get_or-map-range_with_len (text_slot t i) 0 (pages_in 1 i t.facts) v v no_slot l (omega arith)

pub text_within : (t : Lists) (i v : ℕ) → IsThere (placement_of t) (Text i v) → v < pages_in 1 i t.facts
text_within t i v there = let a = ap length (texts_shown t 1 i t.facts) ∙ text_length t i (pages_in 1 i t.facts) in omega arith

pub text_past : (t : Lists) (i v : ℕ) → pages_in 1 i t.facts ≤ v → slot_of (placement_of t) (Text i v) ≡ no_slot
text_past t i v l =
    ap (λ (xs : List Slot). get_or xs v no_slot) (texts_shown t 1 i t.facts) ∙ get_or_past (text_slots t i (pages_in 1 i t.facts)) v no_slot (omega (arith, text_length t i (pages_in 1 i t.facts)))

pub other_slots : (t u : Lists) (E : Page → Type 0) (f : ℕ) → Moved t u E f → (w : Page) → E w → slot_of (placement_of u) w ≡ slot_of (placement_of t) w
other_slots t u E f m (Data n v) d =
    let differ : AllDistinct (sids_of u.spaces) = subst AllDistinct (sym (head_sids u.spaces t.spaces m.heads)) m.differ in
    let was = data_shown t.slots t.spaces n v m.differ in
    data_shown u.slots u.spaces n v differ
    ∙ ap (slot_or (slot_shown u.slots)) (m.entries (Data n v) d)
    ∙ same_slot t.slots u.slots f (entry_in t.spaces (Data n v)) m.slots (λ e. m.apart (Data n v) d (ap (λ (x : Slot). frame_of x.state) was ∙ e))
    ∙ sym was
other_slots t u E f m (Stack n v) d =
    let differ : AllDistinct (sids_of u.spaces) = subst AllDistinct (sym (head_sids u.spaces t.spaces m.heads)) m.differ in
    let was = stack_shown t.slots t.spaces n v m.differ in
    stack_shown u.slots u.spaces n v differ
    ∙ ap (slot_or (slot_shown u.slots)) (m.entries (Stack n v) d)
    ∙ same_slot t.slots u.slots f (entry_in t.spaces (Stack n v)) m.slots (λ e. m.apart (Stack n v) d (ap (λ (x : Slot). frame_of x.state) was ∙ e))
    ∙ sym was
other_slots t u E f m (Text i v) d = elim (within_or_past v (pages_in 1 i t.facts)) [
  | inl l ↦
      let was : slot_of (placement_of t) (Text i v) ≡ text_slot t i v = text_at t i v l in
      let same : text_place u.spaces u.slots (Text i v) v ≡ text_place t.spaces t.slots (Text i v) v =
      ap (λ (o : Option Place). text_place_by o u.slots (Text i v) v) (m.entries (Text i v) d) ∙ place (entry_in t.spaces (Text i v)) in
      text_at u i v (subst (λ (fs : List Image). v < pages_in 1 i fs) (sym m.facts) l)
      ∙ ap (λ (x : Place). text_shown u.slots (is_saved (text_numbered u.texts i) v) x) same
      ∙ ap (λ (b : Bool). text_shown u.slots b (text_place t.spaces t.slots (Text i v) v)) (m.saved i v d (let h = pages_low 1 i t.facts (omega arith) in h.0))
      ∙ ap (λ (y : PageState). let z : Slot = record { state = y; mark = is_saved (text_numbered t.texts i) v; filling = Zeros } in z)
      (same_shown t.slots u.slots f (text_place t.spaces t.slots (Text i v) v) m.slots (λ e. m.apart (Text i v) d (ap (λ (x : Slot). frame_of x.state) was ∙ e)))
      ∙ sym was
  | inr l ↦ text_past u i v (subst (λ (fs : List Image). pages_in 1 i fs ≤ v) (sym m.facts) l) ∙ sym (text_past t i v l)
]
  where
    place : (o : Option Place) → text_place_by o u.slots (Text i v) v ≡ text_place_by o t.slots (Text i v) v
    place None = ap (λ (x : Option ℕ). cached_by x v) (m.cached i v d)
    place (Some x) = refl

-- Lists by frame.

list_ext : {A : Type 0} (d : A) (xs ys : List A) → length xs ≡ length ys → ((v : ℕ) → v < length xs → get_or xs v d ≡ get_or ys v d) → xs ≡ ys
list_ext d [] [] l h = refl
list_ext d [] (y ∷ ys) l h = absurd cc
list_ext d (x ∷ xs) [] l h = absurd cc
list_ext d (x ∷ xs) (y ∷ ys) l h = ap (λ z. z ∷ xs) (h 0 (omega arith)) ∙ ap (λ zs. y ∷ zs) (list_ext d xs ys (omega arith) (λ v k. h (suc v) (omega arith)))

pub frames_set : {A : Type 0} (d : A) (g h : ℕ → A) (n f : ℕ) → ((k : ℕ) → k ≢ f → h k ≡ g k)
    → map h (range_with_len 1 n) ≡ set_frame (map g (range_with_len 1 n)) f (h f)
frames_set d g h n zero s = list_ext d (map h (range_with_len 1 n)) (map g (range_with_len 1 n)) (length-map-range_with_len h 1 n ∙ sym (length-map-range_with_len g 1 n))
    (λ v l. let k : v < n = omega (arith, length-map-range_with_len h 1 n) in
    get_or-map-range_with_len h 1 n v (1 + v) d k refl ∙ s (1 + v) (λ e. absurd (omega arith)) ∙ sym (get_or-map-range_with_len g 1 n v (1 + v) d k refl))
frames_set d g h n (suc f) s = list_ext d (map h (range_with_len 1 n)) (set (map g (range_with_len 1 n)) f (h (suc f)))
    (length-map-range_with_len h 1 n ∙ sym (length-set (map g (range_with_len 1 n)) f (h (suc f)) ∙ length-map-range_with_len g 1 n))
    (λ v l. let k : v < n = omega (arith, length-map-range_with_len h 1 n) in
    get_or-map-range_with_len h 1 n v (1 + v) d k refl ∙ elim (cases_eq v f) [
      | inl e ↦ ap (λ (m : ℕ). h (1 + m)) e ∙ ap h (let a : 1 + f ≡ suc f = omega arith in a) ∙ sym (subst (λ (m : ℕ). get_or (set (map g (range_with_len 1 n)) f (h (suc f))) m d ≡ h (suc f)) (sym e)
          (get_or-set_same (map g (range_with_len 1 n)) f (h (suc f)) d (omega (arith, length-map-range_with_len g 1 n))))
      | inr m ↦ s (1 + v) (λ e. m (omega arith)) ∙ sym (get_or-set_other (map g (range_with_len 1 n)) f v (h (suc f)) d m ∙ get_or-map-range_with_len g 1 n v (1 + v) d k refl)
    ])

-- The whole.

names_shown : (slots : List Token) (ss rs : List Places) (slots2 : List Token) → map head_of ss ≡ map head_of rs
    → map name_of (map (space_shown slots) ss) ≡ map name_of (map (space_shown slots2) rs)
names_shown slots [] [] slots2 e = refl
names_shown slots [] (r ∷ rs) slots2 e = absurd cc
names_shown slots (s ∷ ss) [] slots2 e = absurd cc
names_shown slots (s ∷ ss) (r ∷ rs) slots2 e =
    let a : head_of s ≡ head_of r = cc in
    let b : map head_of ss ≡ map head_of rs = cc in
    ap (λ (n : Named). n ∷ map name_of (map (space_shown slots) ss)) (ap (λ (h : Head). let z : Named = record { sid = h.sid; image = h.image } in z) a)
    ∙ ap (λ (ns : List Named). name_of (space_shown slots2 r) ∷ ns) (names_shown slots ss rs slots2 b)

names_changed : (n : ℕ) (change : SpacePages → SpacePages) → ((x : SpacePages) → name_of (change x) ≡ name_of x) → (xs : List SpacePages)
    → map name_of (changed space_number n change xs) ≡ map name_of xs
names_changed n change k [] = refl
names_changed n change k (x ∷ xs) = go (x.sid == n) (names_changed n change k xs)
  where
    go : (b : Bool) → map name_of (changed space_number n change xs) ≡ map name_of xs → map name_of (cond b (change x ∷ xs) (x ∷ changed space_number n change xs)) ≡ map name_of (x ∷ xs)
    go true rest = ap (λ (m : Named). m ∷ map name_of xs) (k x)
    go false rest = ap (λ (ms : List Named). name_of x ∷ ms) rest

images_changed : (n : ℕ) (change : TextPages → TextPages) → ((x : TextPages) → (change x).image ≡ x.image) → (xs : List TextPages)
    → map image_number (changed image_number n change xs) ≡ map image_number xs
images_changed n change k [] = refl
images_changed n change k (x ∷ xs) = go (x.image == n) (images_changed n change k xs)
  where
    go : (b : Bool) → map image_number (changed image_number n change xs) ≡ map image_number xs
        → map image_number (cond b (change x ∷ xs) (x ∷ changed image_number n change xs)) ≡ map image_number (x ∷ xs)
    go true rest = ap (λ (m : ℕ). m ∷ map image_number xs) (k x)
    go false rest = ap (λ (ms : List ℕ). x.image ∷ ms) rest

pub put_names : (p : Placement) (q : Page) (s : PageState) (m : Bool) → map name_of (put p q s m).spaces ≡ map name_of p.spaces
put_names p (Data n v) s m = names_changed n (with_data v s m) (λ x. refl) p.spaces
put_names p (Stack n v) s m = names_changed n (with_stack v s m) (λ x. refl) p.spaces
put_names p (Text i v) s m = refl

pub put_images : (p : Placement) (q : Page) (s : PageState) (m : Bool) → map image_number (put p q s m).texts ≡ map image_number p.texts
put_images p (Text i v) s m = images_changed i (with_text v s m) (λ x. refl) p.texts
put_images p _ s m = refl

-- the same pages, one by one, are the same lists
pub record SameLists (u : Lists) (p : Placement) : Type 0 where
  pub spaces : (placement_of u).spaces ≡ p.spaces
  pub texts : (placement_of u).texts ≡ p.texts

pub record AlikeLists (t : Lists) (p : Placement) : Type 0 where
  pub names : map name_of p.spaces ≡ map name_of (placement_of t).spaces
  pub images : map image_number p.texts ≡ map image_number (placement_of t).texts
  pub lengths : (w : Page) → length (slots_of p w) ≡ length (slots_of (placement_of t) w)

pub put_alike : (t : Lists) (q : Page) (s : PageState) (m : Bool) → AlikeLists t (put (placement_of t) q s m)
put_alike t q s m = record { names = put_names (placement_of t) q s m; images = put_images (placement_of t) q s m; lengths = put_length (placement_of t) q s m }

pub self_alike : (t : Lists) → AlikeLists t (placement_of t)
self_alike t = record { names = refl; images = refl; lengths = λ w. refl }

pub lists_same : (t u : Lists) (E : Page → Type 0) (f : ℕ) (p : Placement) → Moved t u E f → AlikeLists t p
    → ((w : Page) → slot_of (placement_of u) w ≡ slot_of p w) → SameLists u p
lists_same t u E f p mv a each =
    let long : (w : Page) → length (slots_of (placement_of u) w) ≡ length (slots_of p w) = λ w. lengths_same t u mv.heads mv.facts w ∙ sym (a.lengths w) in
    record {
      spaces = spaces_ext (placement_of u).spaces p.spaces
          (names_shown u.slots u.spaces t.spaces t.slots mv.heads ∙ sym a.names)
          (subst AllDistinct (sym (sids_shown u.slots u.spaces)) (subst AllDistinct (sym (head_sids u.spaces t.spaces mv.heads)) mv.differ))
          (λ n. (
            slots_ext (slots_of (placement_of u) (Data n 0)) (slots_of p (Data n 0)) (long (Data n 0)) (λ v. each (Data n v)),
            slots_ext (slots_of (placement_of u) (Stack n 0)) (slots_of p (Stack n 0)) (long (Stack n 0)) (λ v. each (Stack n v)),
          ));
      texts = texts_ext (placement_of u).texts p.texts
          (subst (λ (fs : List Image). map image_number (texts_of u 1 fs) ≡ map image_number (placement_of t).texts) (sym mv.facts) (text_numbers t u 1 t.facts) ∙ sym a.images)
          (texts_differ u 1 u.facts)
          (λ i. slots_ext (slots_of (placement_of u) (Text i 0)) (slots_of p (Text i 0)) (long (Text i 0)) (λ v. each (Text i v)));
    }

-- what the page itself has to show
pub record Here (t u : Lists) (q : Page) (s : PageState) (m : Bool) : Type 0 where
  pub there : IsThere (placement_of t) q
  pub slot : slot_of (placement_of u) q ≡ record { state = s; mark = m; filling = filling_behind s (slot_of (placement_of t) q).filling }

pub segments_are : (t u : Lists) (q : Page) (f : ℕ) (s : PageState) (m : Bool) → Moved t u (λ w. w ≢ q) f → Here t u q s m
    → SameLists u (put (placement_of t) q s m)
segments_are t u q f s m mv here = lists_same t u (λ w. w ≢ q) f (put (placement_of t) q s m) mv (put_alike t q s m)
    (λ w. elim (page_cases w q) [
      | inl e ↦ subst (λ (x : Page). slot_of (placement_of u) x ≡ slot_of (put (placement_of t) q s m) x) (sym e) (here.slot ∙ sym (put_same (placement_of t) q s m here.there))
      | inr n ↦ other_slots t u (λ w. w ≢ q) f mv w n ∙ sym (put_other (placement_of t) q s m w n)
    ])

-- no page changes
pub segments_stay : (t u : Lists) (f : ℕ) → Moved t u (λ w. Unit {0}) f → SameLists u (placement_of t)
segments_stay t u f mv = lists_same t u (λ w. Unit {0}) f (placement_of t) mv (self_alike t) (λ w. other_slots t u (λ w. Unit {0}) f mv w tt)
