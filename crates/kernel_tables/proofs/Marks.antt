-- The mark of each frame off the free list says whether its page is dirty: what each move of the tables does to that.
use Rattle.std.proofs.Common.{◌≡◌, ◌≢◌, ◌⊎◌, inl, inr, ℕ, ◌<◌, ◌≤◌, Bool, true, not, List, length, map, set, Option, Some, None, IsSome, refl, sym, ap, ◌∙◌, arith}
use Rattle.std.proofs.lemmas.Bool.{cases_eq}
use Rattle.std.proofs.lemmas.List.{length-set, get_or-set_same, get_or-set_other, get_or_past}
use Rattle.std.proofs.lemmas.Option.{same_Some}
use Rattle.vm_facts.specs.declared.page.Page.{Page}
use Rattle.vm_facts.specs.declared.page.Page.TheVariants.{Text}
use Rattle.vax_pte.specs.declared.Place.{Place}
use Rattle.vax_pte.specs.declared.Place.TheVariants as places
use Rattle.frame_state.specs.Frame.{Frame}
use Rattle.core_map.specs.declared.slot.Slot.{Slot as Token}
use Rattle.core_map.specs.declared.slot.Slot.TheVariants as tokens
use Rattle.core_map.specs.Slots.{slot_at, slot_page as token_page}
use Rattle.space_map.specs.Space.{Places}
use Rattle.text_table.specs.Texts.{is_saved, text_numbered, Text as SharedText}
use Rattle.page_model.specs.Pages.{frame_of}
use Rattle.page_model.specs.Placement.{state_of}
use Rattle.page_model.specs.PageBytes.{IsWritable}
use Rattle.kernel_laws.proofs.Local.{none_some}
use Rattle.kernel_tables.specs.Shown.{entry_in, placed, changed_named}
use Rattle.kernel_tables.specs.Steps.{left_place, evicted, taken_frame, revived, dirty_shown, AreTextsHere}
use Rattle.kernel_tables.specs.Marked.{AreMarked}
use Rattle.kernel_tables.specs.View.{Lists, placement_of}
use Rattle.kernel_tables.specs.Known.{Known}
use Rattle.kernel_tables.proofs.Entries.{entry_same, entry_other}
use Rattle.kernel_tables.proofs.Knows.{held_named, texts_here}
use Rattle.kernel_laws.proofs.Machine.Done.{some_of}

same_dirty : (ss rs : List Places) (ts us : List SharedText) (w : Page) → entry_in rs w ≡ entry_in ss w
    → ((i v : ℕ) → w ≡ Text i v → is_saved (text_numbered us i) v ≡ is_saved (text_numbered ts i) v) → dirty_shown rs us w ≡ dirty_shown ss ts w
same_dirty ss rs ts us (Text i v) e h = ap not (h i v refl)
same_dirty ss rs ts us _ e h = ap changed_named e

pub marks_kept : (t u : Lists) (f : ℕ) → ((g : ℕ) → g ≢ f → slot_at u.slots g ≡ slot_at t.slots g)
    → ((g : ℕ) (w : Page) → g ≢ f → token_page (slot_at t.slots g) ≡ Some w → dirty_shown u.spaces u.texts w ≡ dirty_shown t.spaces t.texts w)
    → ((token : Frame) (r : Page) (mark : Bool) → slot_at u.slots f ≡ tokens.Resident token r mark → mark ≡ dirty_shown u.spaces u.texts r)
    → AreMarked t.slots t.spaces t.texts → AreMarked u.slots u.spaces u.texts
marks_kept t u f slots others here k g token q mark e = elim (cases_eq g f) [
  | inl i ↦ here token q mark (sym (ap (slot_at u.slots) i) ∙ e)
  | inr d ↦ let was : slot_at t.slots g ≡ tokens.Resident token q mark = sym (slots g d) ∙ e in k g token q mark was ∙ sym (others g q d (ap token_page was))
]

-- one page takes its place with one frame
pub marks_placed : (t u : Lists) (q : Page) (f : ℕ) (place : Place) → AreTextsHere t.slots → ((g : ℕ) → g ≢ f → slot_at u.slots g ≡ slot_at t.slots g)
    → u.spaces ≡ map (placed q place) t.spaces
    → ((i v : ℕ) → Text i v ≢ q → 1 ≤ i → is_saved (text_numbered u.texts i) v ≡ is_saved (text_numbered t.texts i) v)
    → ((g : ℕ) → token_page (slot_at t.slots g) ≡ Some q → g ≡ f)
    → ((token : Frame) (r : Page) (mark : Bool) → slot_at u.slots f ≡ tokens.Resident token r mark → mark ≡ dirty_shown u.spaces u.texts r)
    → AreMarked t.slots t.spaces t.texts → AreMarked u.slots u.spaces u.texts
marks_placed t u q f place low slots spaces saved alone here =
    let others : (g : ℕ) (w : Page) → g ≢ f → token_page (slot_at t.slots g) ≡ Some w → dirty_shown u.spaces u.texts w ≡ dirty_shown t.spaces t.texts w = λ g w d h.
    let n : w ≢ q = λ e. d (alone g (h ∙ ap (λ (x : Page). Some x) e)) in
    same_dirty t.spaces u.spaces t.texts u.texts w (ap (λ (ss : List Places). entry_in ss w) spaces ∙ entry_other t.spaces q w place n)
    (λ i v e. saved i v (λ m. n (e ∙ m)) (low g i v (h ∙ ap (λ (x : Page). Some x) e)).0) in
    marks_kept t u f slots others here

-- what the place of a page says of its mark, and the text table
abbrev pub placed_mark : List SharedText → Place → Page → Bool
placed_mark ts place (Text i v) = not (is_saved (text_numbered ts i) v)
placed_mark ts place _ = changed_named (Some place)

pub placed_dirty : (ss : List Places) (ts : List SharedText) (place : Place) (q : Page) → IsSome (entry_in ss q)
    → dirty_shown (map (placed q place) ss) ts q ≡ placed_mark ts place q
placed_dirty ss ts place (Text i v) h = refl
placed_dirty ss ts place y h = let x = some_of (entry_in ss y) h in ap changed_named (entry_same ss y place x.0 x.1)

-- a page of data or stack that was changed
pub dirty_place : (ts : List SharedText) (f : ℕ) (q : Page) → IsWritable q → placed_mark ts (places.Frame f true true) q ≡ true
dirty_place ts f (Text i v) w = absurd w
dirty_place ts f _ w = refl

pub entry_is : (o : Option Place) (x : Place) → o ≡ Some x → IsSome o
entry_is None x e = absurd cc
entry_is (Some y) x e = refl

-- the mark of the page itself
pub marks_here : (ss : List Places) (ts : List SharedText) (place : Place) (q r : Page) (mark : Bool) → IsSome (entry_in ss q) → r ≡ q
    → mark ≡ placed_mark ts place q → mark ≡ dirty_shown (map (placed q place) ss) ts r
marks_here ss ts place q r mark h e m = m ∙ sym (placed_dirty ss ts place q h) ∙ sym (ap (dirty_shown (map (placed q place) ss) ts) e)

pub within : (a b : ℕ) → (a < b) ⊎ (b ≤ a)
within a b = grind arith

pub set_resident : (slots : List Token) (f : ℕ) (x : Token) (token : Frame) (r : Page) (mark : Bool)
    → slot_at (set slots f x) f ≡ tokens.Resident token r mark → x ≡ tokens.Resident token r mark
set_resident slots f x token r mark e = elim (within f (length slots)) [
  | inl l ↦ sym (get_or-set_same slots f x tokens.Away l) ∙ e
  | inr l ↦ absurd (let a : tokens.Away ≡ tokens.Resident token r mark = sym (get_or_past (set slots f x) f tokens.Away (omega (arith, length-set slots f x))) ∙ e in cc)
]

pub resident_page : (a b : Frame) (q r : Page) (m n : Bool) → tokens.Resident a q m ≡ tokens.Resident b r n → r ≡ q
resident_page a b q r m n e = cc

pub resident_mark : (a b : Frame) (q r : Page) (m n : Bool) → tokens.Resident a q m ≡ tokens.Resident b r n → n ≡ m
resident_mark a b q r m n e = cc

-- a page that a frame holds is held by no other
pub alone_in : (t : Lists) (q : Page) (f : ℕ) → Known t → frame_of (state_of (placement_of t) q) ≡ Some f → (g : ℕ)
    → token_page (slot_at t.slots g) ≡ Some q → g ≡ f
alone_in t q f k e g h = same_Some g f (sym (held_named t g q k h) ∙ e)

-- The first free frame is taken.

pub marks_taken : (t : Lists) (f : ℕ) (page : Option Page) (rest : List ℕ) → Known t → token_page (slot_at t.slots f) ≡ page
    → AreMarked t.slots t.spaces t.texts
    → AreMarked (set t.slots f tokens.Away) (evicted t.texts page t.spaces) t.texts
marks_taken t f page rest k e = marks_kept t (taken_frame t f page rest) f (λ g n. get_or-set_other t.slots f g tokens.Away tokens.Away n) (others page e)
    (λ token r mark h. absurd (let a = set_resident t.slots f tokens.Away token r mark h in cc))
  where
    others : (o : Option Page) → token_page (slot_at t.slots f) ≡ o → (g : ℕ) (w : Page) → g ≢ f → token_page (slot_at t.slots g) ≡ Some w
        → dirty_shown (evicted t.texts o t.spaces) t.texts w ≡ dirty_shown t.spaces t.texts w
    others None e g w d h = refl
    others (Some q) e g w d h =
        same_dirty t.spaces (map (placed q (left_place t.texts q)) t.spaces) t.texts t.texts w
        (entry_other t.spaces q w (left_place t.texts q) (λ i. d (k.core.unique g f w h (e ∙ ap (λ (x : Page). Some x) (sym i))))) (λ i v m. refl)

stayed : (t : Lists) (f g : ℕ) (q : Page) → token_page (slot_at (set t.slots f tokens.Away) g) ≡ Some q → token_page (slot_at t.slots g) ≡ Some q
stayed t f g q e = elim (cases_eq g f) [
  | inl i ↦ elim (within f (length t.slots)) [
    | inl l ↦ none_some q (sym (ap token_page (ap (slot_at (set t.slots f tokens.Away)) i ∙ get_or-set_same t.slots f tokens.Away tokens.Away l)) ∙ e)
    | inr l ↦ none_some q
        (sym (ap token_page (ap (slot_at (set t.slots f tokens.Away)) i ∙ get_or_past (set t.slots f tokens.Away) f tokens.Away (omega (arith, length-set t.slots f tokens.Away)))) ∙ e)
  ]
  | inr d ↦ sym (ap token_page (get_or-set_other t.slots f g tokens.Away tokens.Away d)) ∙ e
]

texts_left : (t : Lists) (f : ℕ) → Known t → AreTextsHere (set t.slots f tokens.Away)
texts_left t f k g i v e = texts_here t k g i v (stayed t f g (Text i v) e)

-- and then a page takes its place in it, which had no frame
pub marks_entered : (t : Lists) (f g : ℕ) (page : Option Page) (rest : List ℕ) (q : Page) (place : Place) (u : Lists) → Known t
    → token_page (slot_at t.slots f) ≡ page → frame_of (state_of (placement_of t) q) ≡ None
    → ((h : ℕ) → h ≢ g → slot_at u.slots h ≡ slot_at (set t.slots f tokens.Away) h)
    → u.spaces ≡ map (placed q place) (evicted t.texts page t.spaces) → u.texts ≡ t.texts
    → ((token : Frame) (r : Page) (mark : Bool) → slot_at u.slots g ≡ tokens.Resident token r mark → mark ≡ dirty_shown u.spaces u.texts r)
    → AreMarked t.slots t.spaces t.texts → AreMarked u.slots u.spaces u.texts
marks_entered t f g page rest q place u k e n slots spaces texts here m =
    marks_placed (taken_frame t f page rest) u q g place (texts_left t f k) slots spaces (λ i v d l. ap (λ (ts : List SharedText). is_saved (text_numbered ts i) v) texts)
    (λ h x. none_some h (sym n ∙ held_named t h q k (stayed t f h q x))) here (marks_taken t f page rest k e m)

-- A frame that holds a page is off the free list.
pub marks_revived : (t : Lists) (f : ℕ) (q : Page) (s : Token) → AreMarked t.slots t.spaces t.texts → slot_at t.slots f ≡ s → token_page s ≡ Some q
    → (token : Frame) (r : Page) (mark : Bool) → revived s q (dirty_shown t.spaces t.texts q) ≡ tokens.Resident token r mark
    → (r ≡ q) × (mark ≡ dirty_shown t.spaces t.texts q)
marks_revived t f q (tokens.Free a page) m at h token r mark e = (resident_page a token q r (dirty_shown t.spaces t.texts q) mark e, resident_mark a token q r (dirty_shown t.spaces t.texts q) mark e)
marks_revived t f q (tokens.Resident a page d) m at h token r mark e =
    let same : page ≡ q = same_Some page q h in
    (resident_page a token page r d mark e ∙ same, resident_mark a token page r d mark e ∙ m f a page d at ∙ ap (dirty_shown t.spaces t.texts) same)
marks_revived t f q tokens.Away m at h token r mark e = none_some q h
