-- What holds of a machine that runs is kept by its steps.
use Rattle.std.proofs.Common.{◌≡◌, inl, inr, ℕ, ◌+◌, ◌<◌, ◌≤◌, ◌==◌, Bool, true, false, cond, List, [], ◌∷◌, length, map, drop, Option, Some, None, IsSome, refl, sym, ap, ◌∙◌, subst, arith}
use Rattle.vm_facts.specs.declared.page.Page.{Page}
use Rattle.vm_facts.specs.declared.page.Page.TheVariants.{Text}
use Rattle.vax_pte.specs.declared.Place.{Place}
use Rattle.aout_image.specs.declared.Image.{Image}
use Rattle.core_map.specs.declared.slot.Slot.{Slot as Token}
use Rattle.space_map.specs.Space.{Places}
use Rattle.text_table.specs.Texts.{text_numbered, Text as SharedText}
use Rattle.flat_state.specs.PageNames.{same_page}
use Rattle.page_model.specs.Placement.{Due, Start, due_page, due_of_page, sharers_in}
use Rattle.page_model.specs.Place.{due_after}
use Rattle.page_model.specs.Dues.{NotDue}
use Rattle.page_model.specs.Conditions.{EachPage}
use Rattle.kernel_laws.proofs.PageLawsListsPages.{page_cases}
use Rattle.flat_state.proofs.PageNames.{same_page_is, same_page_self}
use Rattle.kernel_tables.specs.declared.fill.DueFill.{DueFill}
use Rattle.kernel_tables.specs.declared.fill.DueFill.TheVariants as fills
use Rattle.kernel_tables.specs.Shown.{space_shown, entry_in, placed}
use Rattle.kernel_tables.specs.View.{Lists, pages_in, due_shown}
use Rattle.kernel_tables.specs.Due.{IsFirstStart, AreWhole, DueOnce}
use Rattle.kernel_tables.specs.New.{AreSound}
use Rattle.kernel_tables.specs.Tied.{Tied}
use Rattle.kernel_tables.specs.Marked.{AreMarked}
use Rattle.kernel_tables.specs.Alike.{EachSpace, IsFilled, HasFewPages, AreAlike}
use Rattle.kernel_tables.specs.Steps.{left_place, evicted}
use Rattle.kernel_tables.proofs.Entries.{Head, head_of, entry_same, entry_other, placed_heads}

-- Sharers go by the images of the spaces.

pub sharers_heads : (a b : List Token) (ss rs : List Places) (image : ℕ) → map head_of ss ≡ map head_of rs
    → sharers_in image (map (space_shown a) ss) ≡ sharers_in image (map (space_shown b) rs)
sharers_heads a b [] [] image e = refl
sharers_heads a b [] (r ∷ rs) image e = absurd cc
sharers_heads a b (s ∷ ss) [] image e = absurd cc
sharers_heads a b (s ∷ ss) (r ∷ rs) image e =
    let x : head_of s ≡ head_of r = cc in
    let y : map head_of ss ≡ map head_of rs = cc in
    ap (λ (h : Head). cond (h.image == image) 1 0 + sharers_in image (map (space_shown a) ss)) x
    ∙ ap (λ (n : ℕ). cond (r.image == image) 1 0 + n) (sharers_heads a b ss rs image y)

-- An entry that is there stays there.

pub still_there : (ss : List Places) (q r : Page) (place : Place) → IsSome (entry_in ss r) → IsSome (entry_in (map (placed q place) ss) r)
still_there ss q r place h = elim (page_cases r q) [
  | inl e ↦ go (entry_in ss r) refl h e
  | inr n ↦ subst IsSome (sym (entry_other ss q r place n)) h
]
  where
    go : (o : Option Place) → entry_in ss r ≡ o → IsSome o → r ≡ q → IsSome (entry_in (map (placed q place) ss) r)
    go None k s e = absurd cc
    go (Some was) k s e =
        subst (λ (x : Page). IsSome (entry_in (map (placed q place) ss) x)) (sym e) (subst IsSome (sym (entry_same ss q place was (subst (λ (x : Page). entry_in ss x ≡ Some was) e k))) refl)

pub evicted_there : (texts : List SharedText) (page : Option Page) (ss : List Places) (r : Page) → IsSome (entry_in ss r)
    → IsSome (entry_in (evicted texts page ss) r)
evicted_there texts None ss r h = h
evicted_there texts (Some q) ss r h = still_there ss q r (left_place texts q) h

pub evicted_heads : (texts : List SharedText) (page : Option Page) (ss : List Places) → map head_of (evicted texts page ss) ≡ map head_of ss
evicted_heads texts None ss = refl
evicted_heads texts (Some q) ss = placed_heads ss q (left_place texts q)

-- What is asked of two states of the tables, so that the second is tied as the first is.
pub record Ties (t u : Lists) : Type 0 where
  pub slots : length u.slots ≡ length t.slots
  pub facts : u.facts ≡ t.facts
  pub heads : map head_of u.spaces ≡ map head_of t.spaces
  pub entries : (r : Page) → IsSome (entry_in t.spaces r) → IsSome (entry_in u.spaces r)
  pub alike : AreAlike t.spaces → AreAlike u.spaces
  pub filled : EachSpace (IsFilled t.facts) t.spaces → EachSpace (IsFilled t.facts) u.spaces
  pub counts : (image : ℕ) → (text_numbered u.texts image).sharers ≡ (text_numbered t.texts image).sharers
  pub marked : AreMarked t.slots t.spaces t.texts → AreMarked u.slots u.spaces u.texts
  pub whole : AreWhole t.fills → AreWhole u.fills
  pub once : DueOnce t.fills → DueOnce u.fills

-- a place gives a space no more pages
few_heads : (ss rs : List Places) → map head_of rs ≡ map head_of ss → EachSpace HasFewPages ss → EachSpace HasFewPages rs
few_heads [] [] e h = tt
few_heads [] (r ∷ rs) e h = absurd cc
few_heads (s ∷ ss) [] e h = absurd cc
few_heads (s ∷ ss) (r ∷ rs) e h =
    let x : head_of r ≡ head_of s = cc in
    let y : map head_of rs ≡ map head_of ss = cc in
    let d : length r.data ≡ length s.data = ap (λ (z : Head). z.data_count) x in
    let k : length r.stack ≡ length s.stack = ap (λ (z : Head). z.stack_count) x in
    let a = h.0.0 in
    let b = h.0.1 in
    ((omega arith, omega arith), few_heads ss rs y h.1)

pub tied_still : (t u : Lists) → Ties t u → Tied t → Tied u
tied_still t u s k = record {
  few_frames = let l = k.few_frames in let e = s.slots in omega arith;
  few_images = subst (λ (fs : List Image). length fs ≤ 16) (sym s.facts) k.few_images;
  few_pages = few_heads t.spaces u.spaces s.heads k.few_pages;
  sound = subst AreSound (sym s.facts) k.sound;
  small_texts = λ i. subst (λ (fs : List Image). pages_in 1 i fs ≤ 2048) (sym s.facts) (k.small_texts i);
  shared = λ i v l m.
      s.entries (Text i v) (k.shared i v (subst (λ (n : ℕ). 0 < n) (sharers_heads u.slots t.slots u.spaces t.spaces i s.heads) l) (subst (λ (fs : List Image). v < pages_in 1 i fs) s.facts m));
  alike = s.alike k.alike;
  filled = subst (λ (fs : List Image). EachSpace (IsFilled fs) u.spaces) (sym s.facts) (s.filled k.filled);
  counted = λ i l m. s.counts i ∙ k.counted i l m ∙ sym (sharers_heads u.slots t.slots u.spaces t.spaces i s.heads);
  marked = s.marked k.marked;
  whole = s.whole k.whole;
  once = s.once k.once;
}

pub whole_rest : (ds : List DueFill) → AreWhole ds → AreWhole (drop 1 ds)
whole_rest [] h = tt
whole_rest (d ∷ ds) h = h.1

pub once_rest : (ds : List DueFill) → DueOnce ds → DueOnce (drop 1 ds)
once_rest [] h = tt
once_rest (d ∷ ds) h = h.1

-- The first page that was due isn't due any more.

pub none_due : (ds : List Due) (q : Page) → EachPage (λ (r : Page). r ≡ q → ⊥) (map due_page ds) → NotDue ds q
none_due [] q h = refl
none_due (d ∷ ds) q h = go (same_page (due_page d) q) refl (none_due ds q h.1)
  where
    go : (b : Bool) → same_page (due_page d) q ≡ b → NotDue ds q → cond b (Some d) (due_of_page ds q) ≡ None
    go true e rest = absurd (h.0 (same_page_is (due_page d) q e))
    go false e rest = rest

pub left_due : (ds : List DueFill) (q : Page) → DueOnce ds → IsFirstStart (map due_shown ds) q → NotDue (due_after (map due_shown ds) q) q
left_due [] q o h = refl
left_due (fills.Copy child parent ∷ ds) q o h = absurd h
left_due (fills.Start r bytes ∷ ds) q o h =
    subst (λ (b : Bool). NotDue (cond b (map due_shown ds) (Start r ∷ map due_shown ds)) q) (sym (ap (λ (x : Page). same_page r x) (sym h) ∙ same_page_self r))
    (none_due (map due_shown ds) q (subst (λ (x : Page). EachPage (λ (y : Page). y ≡ x → ⊥) (map due_page (map due_shown ds))) h o.0))
